-- By the lemmas of each.
use Rattle.kmip_protocol.proofs.AmidLemmas.{delivered_amid, exchanged_amid, exchanged_keeps, exchanged_mirrors}
use Rattle.kmip_protocol.proofs.AmidLemmas.{exchanged_passes, passed_blind, passed_both, passed_keeps, passed_mirrors}
use Rattle.kmip_protocol.proofs.AmidLemmas.{passed_nothing}
use Rattle.kmip_protocol.proofs.amid_laws.the_laws_amid_others_hold.Goals as goal

pub returns : goal.returns
returns c =
    let laws = c.the_laws_below_hold.ensures in
    record {
      passing = λ keys old new sound passed. passed_keeps laws keys old new sound passed;
      exchanges = λ keys old new sent answer sound just done.
          exchanged_keeps laws keys old new sent answer sound just done;
      image_passing = λ keys old new sound image passed. passed_mirrors laws keys old new sound image passed;
      image_exchanged = λ keys old new sent answer sound image just done.
          exchanged_mirrors laws keys old new sent answer sound image just done;
      nothing = passed_nothing;
      joins = passed_both;
      blind = passed_blind;
      exchanges_pass = exchanged_passes;
      deliveries_amid = λ keys old new delivered. delivered_amid keys old new delivered;
      exchanges_amid = λ keys old new sent answer done. exchanged_amid keys old new sent answer done;
    }
