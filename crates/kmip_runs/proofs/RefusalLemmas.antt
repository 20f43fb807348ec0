-- What a keeper could not write.
use Rattle.std.proofs.Common.{◌≡◌, ℕ, ◌≤◌, nat_le, Result, Ok, Err, OnOk, OnErr, inl, inr, sym, ◌∙◌, arith}
use Rattle.std.proofs.lemmas.Bool.{cases_Bool, leb-false, leb-true}
use Rattle.kmip_runs.specs.declared.stop.Stop.{Stop}
use Rattle.kmip_runs.specs.declared.stop.Stop.TheVariants as stops
use Rattle.kmip_runs.specs.Refusals.{HasRisen}
use Rattle.kmip_runs.specs.declared.save_fault.SaveFault.{SaveFault}
use Rattle.kmip_runs.specs.declared.save_fault.SaveFault.TheVariants as faults

-- what rose from a later count rose from an earlier one
pub rises_from : (a b c : ℕ) → a ≤ b → HasRisen b c → HasRisen a c
rises_from a b c at_most (inl less) = inl (omega (arith, at_most, less))
rises_from a b c at_most (inr last) = inr last

-- what rose has risen still
pub risen_still : (a b c : ℕ) → a ≤ b → b ≤ c → HasRisen a b → HasRisen a c
risen_still a b c before after (inl less) = inl (omega (arith, after, less))
risen_still a b c before after (inr last) =
    elim (cases_Bool (nat_le c a)) [
      | inl no_more ↦ inr (omega (arith, last, before, after, leb-true c a no_more))
      | inr more ↦ inl (leb-false c a more)
    ]

-- a count that did not fall before has risen where a later one rose
pub risen_at_fault : {V E : Type 0} (result : Result V E) (a b c : ℕ) → a ≤ b → OnErr result (HasRisen b c) → OnErr result (HasRisen a c)
risen_at_fault (Ok v) a b c at_most risen = tt
risen_at_fault (Err e) a b c at_most risen = rises_from a b c at_most risen

-- the end of the run writes nothing
pub output_before : {V E : Type 0} (closed : Result V E) (result last : Result Stop SaveFault) → OnOk closed (last ≡ result) → OnErr closed (OnOk result (last ≡ Ok stops.NoMemory))
    → OnErr closed (OnErr result (last ≡ Err faults.NoMemory)) → last ≡ Err faults.Output → result ≡ Err faults.Output
output_before (Ok v) result last same stop fault is = sym same ∙ is
output_before (Err e) (Ok s) last same stop fault is = let both : Ok stops.NoMemory ≡ Err faults.Output = sym stop ∙ is in absurd cc
output_before (Err e) (Err f) last same stop fault is = let both : Err faults.NoMemory ≡ Err faults.Output = sym fault ∙ is in absurd cc
