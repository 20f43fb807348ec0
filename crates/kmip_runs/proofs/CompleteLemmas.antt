-- A client that began with nothing and is finished knows that each object stands at the end of its chain.
use Rattle.std.proofs.Common.{◌≡◌, ◌≤◌, ℕ, zero, suc, nat_le, List, [], ◌∷◌, map, Option, Some, None, is_some, sym, ap}
use Rattle.std.proofs.Common.{subst, refl, ◌∙◌, inl, inr, arith}
use Rattle.std.proofs.lemmas.Bool.{cases_Bool, leb-true, le-leb}
use Rattle.std.proofs.lemmas.Option.{slice_get_within}
use Rattle.std.specs.Option.{option_map_or}
use Rattle.kmip_objects.specs.Objects.{Object, object_named}
use Rattle.kmip_plan.specs.Chains.{place_reached}
use Rattle.kmip_plan.specs.ChainLaws.{ReachedIsWithin}
use Rattle.kmip_plan.specs.Plans.{IsLawful}
use Rattle.kmip_plan.specs.declared.key.Key.{Key}
use Rattle.kmip_client.specs.Clients.{ClientState}
use Rattle.kmip_client.specs.Held.{Held}
use Rattle.kmip_client.specs.Knowledge.{chain_length, clash_verdict, verdict_of}
use Rattle.kmip_client.specs.Verdicts.{counts_of, verdicts_of}
use Rattle.kmip_client.specs.declared.clash.Clash.{Clash}
use Rattle.kmip_client.specs.declared.knowledge.Knowledge.{Knowledge}
use Rattle.kmip_client.specs.declared.verdict.Verdict.TheVariants.{Finished}
use Rattle.kmip_protocol.specs.Seen.{Seen}
use Rattle.kmip_protocol.specs.Needs.{chains_and_looks, need_all}
use Rattle.kmip_protocol.specs.Ready.{IsReady}
use Rattle.kmip_runs.specs.Driving.{AreFinished, AsksOne, IsComplete, IsSettling, IsUntouched, need}
use Rattle.kmip_runs.specs.PrivateLawbook.{Lawbook}

clash_unfinished : {X : Type 0} (clash : Option Clash) → clash_verdict clash ≡ Finished → X
clash_unfinished None is = absurd cc
clash_unfinished (Some clash) is = absurd cc

pub finished_done : (key : Key) (known : Knowledge) → verdict_of key known ≡ Finished → chain_length key ≤ known.done
finished_done key known is =
    elim (cases_Bool (nat_le (chain_length key) known.done)) [
      | inl full ↦ leb-true (chain_length key) known.done full
      | inr unfinished ↦ clash_unfinished known.clash (rw unfinished at is)
    ]

-- and where all are done it is finished
pub done_finished : (key : Key) (known : Knowledge) → chain_length key ≤ known.done → verdict_of key known ≡ Finished
done_finished key known full = rw (le-leb (chain_length key) known.done full) refl

found_within : ReachedIsWithin → (key : Key) (o : Option Object)
    → option_map_or (λ (x : Object). place_reached key.target x.state) o 0 ≤ chain_length key
found_within within key None = omega arith
found_within within key (Some o) = within key.target o.state

rest_finished : (key : Key) (keys : List Key) (known : Knowledge) (knowns : List Knowledge)
    → AreFinished (key ∷ keys) (known ∷ knowns) → AreFinished keys knowns
rest_finished key keys known knowns finished = λ place within. finished (suc place) (omega (arith, within))

first_finished : (key : Key) (keys : List Key) (known : Knowledge) (knowns : List Knowledge)
    → AreFinished (key ∷ keys) (known ∷ knowns) → verdict_of key known ≡ Finished
first_finished key keys known knowns finished = finished zero (omega arith)

full_counts : ReachedIsWithin → (objects : List Object) (keys : List Key) (knowns : List Knowledge)
    → Held objects keys knowns → AreFinished keys knowns
    → counts_of knowns ≡ map chain_length keys
full_counts within objects [] [] held finished = refl
full_counts within objects [] (known ∷ knowns) held finished = absurd held
full_counts within objects (key ∷ keys) [] held finished = absurd held
full_counts within objects (key ∷ keys) (known ∷ knowns) held finished =
    let least = finished_done key known (first_finished key keys known knowns finished) in
    let most = found_within within key (object_named key.attrs.name objects) in
    let full : known.done ≡ chain_length key = omega (arith, least, most, held.0.holds.done_true) in
    ap (λ n. n ∷ counts_of knowns) full ∙ ap (λ ns. chain_length key ∷ ns)
    (full_counts within objects keys knowns held.1 (rest_finished key keys known knowns finished))

full_verdicts : (objects : List Object) (keys : List Key) (knowns : List Knowledge) → Held objects keys knowns
    → AreFinished keys knowns
    → verdicts_of keys knowns ≡ map (λ key. Finished) keys
full_verdicts objects [] [] held finished = refl
full_verdicts objects [] (known ∷ knowns) held finished = absurd held
full_verdicts objects (key ∷ keys) [] held finished = absurd held
full_verdicts objects (key ∷ keys) (known ∷ knowns) held finished =
    ap (λ v. v ∷ verdicts_of keys knowns) (first_finished key keys known knowns finished)
    ∙ ap (λ vs. Finished ∷ vs) (full_verdicts objects keys knowns held.1 (rest_finished key keys known knowns finished))

pub complete : Lawbook → (keys : List Key) (objects : List Object) (knowns : List Knowledge) → IsLawful keys
    → Held objects keys knowns → AreFinished keys knowns
    → IsComplete keys objects knowns
complete l keys objects knowns lawful held finished = record {
  at_end = λ key planned.
      let stands = l.plan.stand keys key.attrs.name key planned in
      let place = stands.1.0 in
      let verdict = finished place (slice_get_within keys place key stands.1.1) in
      let there = l.settling.there keys objects knowns lawful held place key stands.1.1 verdict in (
        ap is_some there.1,
        l.settling.at_end keys objects knowns lawful held place key stands.1.1 verdict,
      );
  counts = full_counts l.plan.reached objects keys knowns held finished;
  verdicts = full_verdicts objects keys knowns held finished;
}

-- where nothing was made and nothing is known, a client is ready, and needs all chains and a look a key
pub untouched_settles : Lawbook → (c : ClientState) (x : Seen) → IsLawful c.keys → IsUntouched c x
    → IsSettling c x × (need c x.past ≡ chains_and_looks c.keys)
untouched_settles l c x lawful start = (
  record {
    calm_for = start.calm_for;
    ready = subst (λ (s : ClientState). IsReady x.past.room c.keys x.past.objects s.knowns) (sym start.fresh_is)
        (l.settling.untouched c.keys x.past.room x.past.objects lawful start.none_made start.roomy);
  },
  ap (λ (s : ClientState). need_all c.keys s.knowns x.past.objects) start.fresh_is
      ∙ l.settling.chains c.keys x.past.objects lawful start.none_made,
)

pub completed : Lawbook → (c next : ClientState) (x y : Seen) (made : ℕ) → IsLawful c.keys → IsUntouched c x
    → IsSettling next y
    → next.keys ≡ c.keys → made ≤ need c x.past → (AsksOne c → made ≡ need c x.past) → AreFinished next.keys next.knowns
    → (made ≤ chains_and_looks c.keys) × (AsksOne c → made ≡ chains_and_looks c.keys)
    × IsComplete c.keys y.past.objects next.knowns
completed l c next x y made lawful start settling keys few exactly finished =
    let chains = (untouched_settles l c x lawful start).1 in (
      omega (arith, few, chains),
      λ one. exactly one ∙ chains,
      complete l c.keys y.past.objects next.knowns lawful
          (subst (λ ks. Held y.past.objects ks next.knowns) keys settling.ready.held)
          (subst (λ ks. AreFinished ks next.knowns) keys finished),
    )
