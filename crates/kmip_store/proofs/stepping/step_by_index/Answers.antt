-- The place that the map leads to is that of the identifier.
use Rattle.std.proofs.Common.{nat_eq, ◌∙◌}
use Rattle.std.specs.Cmp.Lexicographic.{pointwise}
use Rattle.kmip_store.proofs.PlaceLemmas.{position_map}
use Rattle.kmip_store.proofs.stepping.step_by_index.Goals as goal

pub returns-clause-step : goal.returns-clause-step
returns-clause-step c = λ room stream.
    let uid = c.args.uid.now in
    let here = c.requires.uids uid ∙ position_map (λ r. r.uid) (pointwise nat_eq uid) c.args.rows.now.items in
    c.step_at.ensures.step uid room stream (c.place_of-place.ensures ∙ here)
