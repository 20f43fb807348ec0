-- By the lemmas of each.
use Rattle.kmip_protocol.proofs.OutsideLemmas.{sound_justified, strange_outside}
use Rattle.kmip_protocol.proofs.EffectLemmas.{served_joins}
use Rattle.kmip_protocol.proofs.ExchangeLemmas.{asked_sound, exchanged_sound, given_true, opening_sound}
use Rattle.kmip_protocol.proofs.JoiningLemmas.{calm_honest, delivered_grows, delivered_joins, delivered_nothing}
use Rattle.kmip_protocol.proofs.JoiningLemmas.{fewer_delivered, taken_delivers}
use Rattle.kmip_protocol.proofs.KeepingLemmas.{delivered_keeps}
use Rattle.kmip_protocol.proofs.MirrorLemmas.{mirrored_asked, mirrored_delivered, mirrored_exchange}
use Rattle.kmip_protocol.proofs.ProlongedLemmas.{names_among, none_further, prolonged_sound}
use Rattle.kmip_protocol.proofs.SafeLemmas.{sound_safe}
use Rattle.kmip_protocol.proofs.TurnLemmas.{opening_mirrored}
use Rattle.kmip_protocol.proofs.laws.the_laws_of_exchanges_hold.Goals as goal

pub returns : goal.returns
returns c =
    let laws = c.the_laws_below_hold.ensures in
    record {
      onward = λ keys old new sound delivered. (delivered_keeps laws keys old new sound delivered).1;
      deliveries = λ keys old new sound delivered. (delivered_keeps laws keys old new sound delivered).0;
      asking = λ keys p requests sound just. asked_sound keys p requests sound just;
      exchanges = λ keys old new sent answer sound just done.
          exchanged_sound laws keys old new sent answer sound just done;
      answers = λ keys p given sound are. given_true keys p given sound are;
      begins = λ keys p opening. opening_sound keys p opening;
      safe = λ keys p reported sound reached. sound_safe laws keys p reported sound reached;
      opening = λ keys p opening. opening_mirrored keys p opening;
      image_asked = λ keys p sent image just. mirrored_asked keys p sent image just;
      image_delivered = λ keys old new sound image delivered.
          mirrored_delivered laws keys old new sound image delivered;
      image_exchanged = λ keys old new sent answer sound image just done.
          mirrored_exchange laws keys old new sent answer sound image just done;
      join = λ names first second third early late. delivered_joins names first second third early late;
      nothing = λ names p. delivered_nothing names p;
      requests_stay = λ names old new delivered. delivered_grows names old new delivered;
      fewer_names = λ names fewer old new fall delivered. fewer_delivered names fewer old new fall delivered;
      names_of_prolonged = λ new old lawful on. names_among laws new old lawful on;
      sound_of_prolonged = λ new old p was lawful on none sound. prolonged_sound laws new old p lawful on none sound;
      sound_between = λ last next keys p first second third on onto sound whole.
          prolonged_sound laws next keys p second on (none_further laws last next keys p third onto sound whole) sound;
      outside = λ keys request lawful none strange. strange_outside keys request lawful none strange;
      justified = λ keys p sound own. sound_justified keys p sound own;
      calm_is_honest = λ names old new sent answer calm. calm_honest names old new sent answer calm;
      taken = λ names stops parts replies old new taken.
          (taken_delivers names stops parts replies old new taken).delivered;
      joins = λ room old new ask outcome names uids step.
          served_joins laws laws.objects.by_name room old new ask outcome names uids step;
    }
