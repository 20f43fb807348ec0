-- The copies are the known keys, and what the look said of them is judged.
use Rattle.std.proofs.Common.{◌≡◌, Ok, ap, length, subst, sym, true, ◌∙◌}
use Rattle.std.specs.List.{All}
use Rattle.kmip_plan.specs.Plans.{key_fits}
use Rattle.kmip_plan.specs.declared.key.Key.{Key}
use Rattle.kmip_look.specs.Looks.{Looks}
use Rattle.kmip_refresh.specs.KnownKeys.{keys_of, known_keys}
use Rattle.kmip_refresh.specs.Refreshing.{lookeds_of}
use Rattle.kmip_refresh.proofs.KnownLemmas.{as_many_keys, lookeds_stay}
use Rattle.kmip_refresh.proofs.LookLemmas.{judged, known_fit}
use Rattle.kmip_refresh.proofs.looking.look_at_known.Goals as goal

pub look_at_keys-requires-clause-fit : goal.look_at_keys-requires-clause-fit
look_at_keys-requires-clause-fit g c =
    subst (All (λ (key : Key). key_fits key ≡ true)) (sym (c.as_slice.ensures.value ∙ c.in_ok-copies.ensures))
    (known_fit 0 c.args.keys.now c.args.known.now c.requires.fit)

pub returns-clause-looks : goal.returns-clause-looks
returns-clause-looks g c =
    let known = known_keys c.args.keys.now c.args.known.now in
    let lookeds = c.in_ok-lookeds.lookeds in
    let old = g.L.Link.seen c.args.link.now in
    let new = g.L.Link.seen c.look_at_keys.new.link in
    let keys_are : c.as_slice.result.now ≡ keys_of known = c.as_slice.ensures.value ∙ c.in_ok-copies.ensures in
    let looks = subst (λ ks. Looks (λ v. v.items) ks c.args.mark.now old (Ok lookeds) new) keys_are
    c.in_ok-lookeds.ensures.looks in
    let many : length lookeds.items ≡ length known =
    c.in_ok-lookeds.ensures.looks.as_many ∙ ap length keys_are ∙ as_many_keys known in
    judged (λ v. v.items) (λ v. v.items) known c.args.mark.now old new c.in_ok-looks.looks lookeds
    (ap lookeds_of c.in_ok-looks.ensures ∙ lookeds_stay known lookeds.items many) c.in_ok-looks.ensures looks
