-- Key by key.
use Rattle.std.proofs.Common.{◌≡◌, ◌<◌, ◌∙◌, ◌+◌, ◌++◌, [], List, ℕ, ap, arith, drop, length, refl, rules, Some, sym}
use Rattle.std.specs.List.{slice_get}
use Rattle.std.proofs.lemmas.Option.{slice_get_read}
use Rattle.kmip_belief.specs.Origins.{key_line, key_lines}
use Rattle.kmip_belief.proofs.OriginLemmas.{empty_of, get_more, left_some, lines_then, none_left, rest_then, whole_lines}
use Rattle.kmip_belief.proofs.origins.keys_in.Goals as goal

pub returns-then-is_empty-clause-all : goal.returns-then-is_empty-clause-all
returns-then-is_empty-clause-all c = λ all.
    let long : length c.loop-place.rest.now ≡ 0 = search rules in
    let none = empty_of c.loop-place.rest.now long in
    absurd (left_some c.args.keys.now c.loop-place.place c.loop-place.rest.now
    (omega (arith, c.loop-place-test.true, c.loop-place.auto.place-end)) (c.loop-place.invariant.1 all) none)

pub returns-in_default-clause-all : goal.returns-in_default-clause-all
returns-in_default-clause-all c = λ all.
    let keys = c.args.keys.now in
    let place = c.loop-place.place in
    let key = c.index-keys-place.result in
    let within : place < length keys = omega (arith, c.loop-place-test.true, c.loop-place.auto.place-end) in
    let here = slice_get_read keys (length keys) place key refl within c.index-keys-place.is in
    let front : c.as_slice.result.now ≡ key_line key = search rules in
    let rest = key_lines (drop (place + 1) keys) in
    absurd (c.in_default.ensures.none refl rest
    (whole_lines keys place key c.loop-place.rest.now here (c.loop-place.invariant.1 all) ∙ ap (λ l. l ++ rest) (sym front)))

pub loop-place-preserved : goal.loop-place-preserved
loop-place-preserved c =
    let keys = c.args.keys.now in
    let place = c.loop-place.place in
    let key = c.index-keys-place.result in
    let within : place < length keys = omega (arith, c.loop-place-test.true, c.loop-place.auto.place-end) in
    let here = slice_get_read keys (length keys) place key refl within c.index-keys-place.is in
    let parts = get_more keys place key here in
    let more = c.in-Some.more.now in
    let front : c.as_slice.result.now ≡ key_line key = search rules in
    let behind : c.loop-place.rest.now ≡ key_line key ++ more = c.in-Some.ensures.found ∙ ap (λ l. l ++ more) front in (
      lines_then keys place key c.args.lines.now c.loop-place.rest.now more parts.0 c.loop-place.invariant.0 behind,
      λ all. rest_then keys place key c.loop-place.rest.now more parts.1 (c.loop-place.invariant.1 all) behind,
    )
