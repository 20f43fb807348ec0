-- Where the objects of the planned names are the plan's own, and nobody else has their names and identifiers.
use Rattle.std.proofs.Common.{◌≡◌, List, option_to_list, Some, None, sym, ap, ◌∙◌}
use Rattle.kmip_objects.specs.Objects.{Object}
use Rattle.kmip_plan.specs.declared.key.Key.{Key}
use Rattle.kmip_protocol.specs.Past.{Past}
use Rattle.kmip_protocol.specs.Sound.{Sound}
use Rattle.kmip_protocol.specs.SettlingLaws.{NoneIsMade}
use Rattle.kmip_protocol.specs.PrivateSettlingLawbook.{Lawbook}
use Rattle.kmip_protocol.specs.Ready.{AreHere}

pub sound_here : (l : Lawbook) (keys : List Key) (p : Past) → Sound keys p → AreHere keys p.objects
sound_here l keys p sound = λ key o planned is. record {
  one_named = l.objects.all_named key.attrs.name p.objects sound.names ∙ ap option_to_list is;
  one_identified = l.objects.all_identified o.uid p.objects sound.uids
      ∙ ap option_to_list (l.objects.by_identifier key.attrs.name p.objects o sound.uids is);
  own = sound.objects key o planned is;
}

pub nothing_here : (keys : List Key) (objects : List Object) → NoneIsMade keys objects → AreHere keys objects
nothing_here keys objects none = λ key o planned is. let t : None ≡ Some o = sym (none key planned) ∙ is in absurd cc
