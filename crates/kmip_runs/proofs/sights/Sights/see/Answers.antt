-- Key by key.
use Rattle.std.proofs.Common.{◌≡◌, ◌∙◌, ◌+◌, ◌≤◌, Some, length, slice_get, refl, sym, ap, arith, rules}
use Rattle.std.proofs.lemmas.Option.{slice_get_read, slice_get_within}
use Rattle.kmip_client.specs.Clients.{is_told_at, one_if}
use Rattle.kmip_runs.specs.PrivateSights.{told_before}
use Rattle.kmip_runs.specs.declared.sight.Sight.{Sight}
use Rattle.kmip_runs.proofs.SightLemmas.{nowhere_more, rest_more, told_more, counts_one, one_or_none}
use Rattle.kmip_runs.proofs.sights.Sights.see.Goals as goal
use Rattle.kmip_runs.proofs.sights.Sights.see.Goals.{then-take, else-take}

pub loop-place-preserved : goal.loop-place-preserved
loop-place-preserved c =
    let first = c.args.self.now.items.items in
    let items = c.loop-place.self.items.items in
    let place = c.loop-place.place in
    let seen = c.index_mut.result.now in
    let here : slice_get items place ≡ Some seen = slice_get_read items (length items) place seen refl (search rules) c.index_mut.ensures.value in
    let keys = c.args.client.now.keys in
    let knowns = c.args.client.now.knowns in
    let one : c.from-told.result ≡ one_if (is_told_at knowns place) =
    c.from-told.ensures ∙ counts_one c.at-now.result.is_told ∙ ap (λ (s : Sight). one_if s.is_told) c.at-now.ensures in
    let counted : c.loop-place.told + c.from-told.result ≡ told_before (place + 1) knowns =
    rw (one, c.loop-place.invariant.counted) (sym (told_more place knowns)) in
    let within : c.loop-place.told + c.from-told.result ≤ place + 1 =
    omega (arith, one, one_or_none (is_told_at knowns place), c.loop-place.invariant.within) in
    let was : slice_get first place ≡ Some seen = sym (c.loop-place.invariant.rest place (omega arith)) ∙ here in
    elim c.if-take.branch [
      | then-take w ↦ record {
        as_many = search rules;
        rest = rest_more first items place c.take.new.self c.loop-place.invariant.rest;
        on = λ is. record { place = place; sight = seen; sight_is = was; more = search rules };
        nowhere = λ not. absurd cc;
        counted = counted;
        within = within;
      }
      | else-take w ↦ record {
        as_many = search rules;
        rest = rest_more first items place c.take.new.self c.loop-place.invariant.rest;
        on = search rules;
        nowhere = λ not. nowhere_more c.args.client.now.keys c.args.client.now.knowns first place seen was (search rules) (c.loop-place.invariant.nowhere (search rules));
        counted = counted;
        within = within;
      }
    ]

pub returns-clause-nowhere : goal.returns-clause-nowhere
returns-clause-nowhere c = λ not place sight is.
    let within = slice_get_within c.args.self.now.items.items place sight is in
    c.loop-place.invariant.nowhere not place sight (search rules) is
