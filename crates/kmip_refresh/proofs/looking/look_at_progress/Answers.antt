-- The progress of a client suits its plan, and what the look says was so.
use Rattle.std.proofs.Common.{ap, length, sym, ◌∙◌}
use Rattle.std.proofs.lemmas.Slice.Zip.{AllZip-long}
use Rattle.kmip_refresh.proofs.LookLemmas.{finished_any, looks_as, since_any}
use Rattle.kmip_refresh.proofs.looking.look_at_progress.Goals as goal

pub look_at_known-requires-clause-as_many : goal.look_at_known-requires-clause-as_many
look_at_known-requires-clause-as_many g c =
    ap length c.known-known.ensures ∙ AllZip-long _ _ _ c.in_ok-saved.ensures.suits
    ∙ ap length (sym (c.keys-keys.ensures.value ∙ c.plan-plan.ensures.value))

pub returns-clause-since : goal.returns-clause-since
returns-clause-since g c = λ honest fresh.
    let looks = looks_as (λ v. v.items) _ _ _ _ c.args.mark.now _ _ _
    (c.keys-keys.ensures.value ∙ c.plan-plan.ensures.value) (c.known-known.ensures ∙ c.in_ok-saved.ensures.progress)
    c.look_at_known.ensures.looks in
    since_any (λ v. v.items) _ _ c.args.mark.now _ _ _ looks honest fresh

pub returns-clause-finished : goal.returns-clause-finished
returns-clause-finished g c = λ honest fresh.
    let looks = looks_as (λ v. v.items) _ _ _ _ c.args.mark.now _ _ _
    (c.keys-keys.ensures.value ∙ c.plan-plan.ensures.value) (c.known-known.ensures ∙ c.in_ok-saved.ensures.progress)
    c.look_at_known.ensures.looks in
    finished_any c.the_laws_of_plans_hold.ensures.places_within (λ v. v.items) _ _ c.args.mark.now _ _ _ looks honest
    fresh
