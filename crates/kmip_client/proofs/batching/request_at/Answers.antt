-- What stands at the place is what was asked for.
use Rattle.std.proofs.Common.{◌≡◌, ◌∙◌, length, Some, refl, sym, ap}
use Rattle.std.proofs.lemmas.Option.{slice_get_read}
use Rattle.kmip_batch_items.specs.declared.request.Request.{Request}
use Rattle.kmip_client.specs.Asking.{at_place, part_about}
use Rattle.kmip_client.specs.Questions.{request_about}
use Rattle.kmip_client.specs.Private.{IsShaped}
use Rattle.kmip_client.proofs.AskingLemmas.{at_said, if_ok, part_of, within_some}
use Rattle.kmip_client.proofs.ClientLemmas.{at_both}
use Rattle.kmip_client.proofs.batching.request_at.Goals as goal

pub request_about-requires : goal.request_about-requires
request_about-requires c =
    let w = c.requires.works in
    let here = within_some c.args.keys.now c.args.place w.key w.key_is in
    let there = within_some c.args.knowns.now c.args.place w.known w.known_is in
    at_both IsShaped c.args.keys.now c.args.knowns.now c.args.place c.index-keys-place.result c.index-knowns-place.result c.requires.shaped
    (slice_get_read c.args.keys.now (length c.args.keys.now) c.args.place c.index-keys-place.result refl here c.index-keys-place.is)
    (slice_get_read c.args.knowns.now (length c.args.knowns.now) c.args.place c.index-knowns-place.result refl there c.index-knowns-place.is)

pub returns-clause-request : goal.returns-clause-request
returns-clause-request c =
    let w = c.requires.works in
    let keys = c.args.keys.now in
    let knowns = c.args.knowns.now in
    let key = c.index-keys-place.result in
    let known = c.index-knowns-place.result in
    let here = within_some keys c.args.place w.key w.key_is in
    let there = within_some knowns c.args.place w.known w.known_is in
    if_ok (λ r. r ≡ request_about key known) (λ r. at_place (λ place key known. request_about key known) keys knowns c.args.place ≡ Some r) c.request_about.result
    (λ r is. at_said (λ place key known. request_about key known) keys knowns c.args.place key known
    (slice_get_read keys (length keys) c.args.place key refl here c.index-keys-place.is)
    (slice_get_read knowns (length knowns) c.args.place known refl there c.index-knowns-place.is) ∙ ap Some (sym is))
    c.request_about.ensures

pub returns-clause-part : goal.returns-clause-part
returns-clause-part c =
    let w = c.requires.works in
    let keys = c.args.keys.now in
    let knowns = c.args.knowns.now in
    let key = c.index-keys-place.result in
    let known = c.index-knowns-place.result in
    let here = within_some keys c.args.place w.key w.key_is in
    let there = within_some knowns c.args.place w.known w.known_is in
    if_ok (λ r. r ≡ request_about key known) (λ r. at_place part_about keys knowns c.args.place ≡ Some (part_of c.args.place r)) c.request_about.result
    (λ r is. at_said part_about keys knowns c.args.place key known
    (slice_get_read keys (length keys) c.args.place key refl here c.index-keys-place.is)
    (slice_get_read knowns (length knowns) c.args.place known refl there c.index-knowns-place.is)
    ∙ ap (λ (x : Request). Some (part_of c.args.place x)) (sym is))
    c.request_about.ensures
