-- The head, the time, and then the lines.
use Rattle.std.proofs.Common.{◌≡◌, ◌∙◌, ◌++◌, ◌∷◌, append_assoc, refl, rules}
use Rattle.std.proofs.lemmas.Option.{same_Some}
use Rattle.kmip_belief.specs.Origins.{key_lines, origin_head}
use Rattle.kmip_belief.proofs.OriginLemmas.{behind_head, never_some, rest_is}
use Rattle.kmip_belief.proofs.origins.keys_saved.Goals as goal

pub returns-in_default-clause-all : goal.returns-in_default-clause-all
returns-in_default-clause-all c = λ kept free is.
    let head : c.as_slice.result.now ≡ origin_head c.args.server.now = search rules in
    let rest = kept ++ 10 ∷ key_lines c.args.keys.now in
    absurd (c.in_default.ensures.none refl rest (behind_head c.args.server.now kept c.args.keys.now c.args.text.now c.as_slice.result.now head is
    ∙ append_assoc c.as_slice.result.now kept (10 ∷ key_lines c.args.keys.now)))

pub returns-in_default-behind_line-clause-all : goal.returns-in_default-behind_line-clause-all
returns-in_default-behind_line-clause-all c = λ kept free is.
    let head : c.as_slice.result.now ≡ origin_head c.args.server.now = search rules in
    let rest = rest_is c.args.server.now kept c.args.keys.now c.args.text.now c.as_slice.result.now c.in-Some.rest.now head is c.in-Some.ensures.found in
    absurd (never_some (key_lines c.args.keys.now)
    (c.in_default-behind_line.ensures.all kept (key_lines c.args.keys.now) free rest))

pub returns-clause-all : goal.returns-clause-all
returns-clause-all c = λ kept free is.
    let head : c.as_slice.result.now ≡ origin_head c.args.server.now = search rules in
    let rest = rest_is c.args.server.now kept c.args.keys.now c.args.text.now c.as_slice.result.now c.in-Some.rest.now head is c.in-Some.ensures.found in
    c.keys_in.ensures.all
    (same_Some c.in-Some-behind_line.lines.now (key_lines c.args.keys.now)
    (c.in-Some-behind_line.ensures.all kept (key_lines c.args.keys.now) free rest))
