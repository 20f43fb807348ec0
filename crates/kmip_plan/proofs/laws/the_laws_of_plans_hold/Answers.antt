-- By the lemma of each, or chain by chain.
use Rattle.std.proofs.Common.{[], map, refl, rules}
use Rattle.std.proofs.lemmas.List.Sums.{sum_by-cons}
use Rattle.kmip_plan.specs.Chains.{chain, key_bound}
use Rattle.kmip_plan.proofs.NameLemmas.{distinct_at, fits_at, found_at, found_stands, no_compromise}
use Rattle.kmip_plan.proofs.PlaceLemmas.{next_step, stands_at, stands_within, state_stands, state_within}
use Rattle.kmip_plan.proofs.ProlongingLemmas.{goes_on_at, goes_on_named, no_shorter, prolongs_again, prolongs_itself}
use Rattle.kmip_plan.proofs.laws.the_laws_of_plans_hold.Goals as goal

pub returns : goal.returns
returns c = record {
  found = λ keys place key lawful is. found_at [] keys place key lawful.distinct is;
  stand = found_stands;
  distinct = λ keys i j key other lawful here there same.
      distinct_at [] keys i j key other lawful.distinct here there same;
  fit = λ keys lawful place key is. fits_at keys place key lawful.fit is;
  reasons = no_compromise;
  bounds = (refl, λ key keys. sum_by-cons (λ n. n) (key_bound key) (map key_bound keys));
  way_itself = search rules;
  way_again = search rules;
  key_itself = search rules;
  key_again = search rules;
  plan_itself = prolongs_itself (search rules);
  plan_again = prolongs_again (search rules);
  old_stand = goes_on_at;
  old_found = goes_on_named;
  no_shorter = no_shorter;
  places = search rules;
  steps_stand = λ target place. (stands_at (chain target) place, stands_within (chain target) place);
  steps_within = search rules;
  next_step = next_step;
  create = search rules;
  revoke = search rules;
  states_as_many = search rules;
  states_stand = λ target steps. (state_stands target steps, state_within target steps);
  places_within = search rules;
  reached = search rules;
  first = search rules;
  advance = search rules;
  row = search rules;
  join = search rules;
  ways_no_shorter = search rules;
  steps_onward = search rules;
  step_places = search rules;
  states_onward = search rules;
  state_places = search rules;
  no_less = search rules;
  revokes_stay = search rules;
}
