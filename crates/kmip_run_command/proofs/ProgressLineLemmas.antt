-- The line that says how far a run is has at most 60 columns, and what it counts is small.
use Rattle.std.proofs.Common.{◌≤◌, ◌-◌, ◌*◌, ◌==◌, ℕ, nat_le, Bool, true, false, ◌&&◌, List, [], ◌∷◌, length, codes, inl, inr, lit≤, arith, if◌then◌else◌}
use Rattle.std.proofs.lemmas.Bool.{cases_Bool, leb-true}
use Rattle.std.proofs.lemmas.List.{length-append}
use Rattle.kmip_plan.specs.Chains.{chain}
use Rattle.kmip_plan.specs.declared.key.Key.{Key}
use Rattle.kmip_plan.specs.declared.target.Target.{Target}
use Rattle.kmip_plan.specs.declared.target.Target.TheVariants as targets
use Rattle.kmip_client.specs.Knowledge.{chain_length}
use Rattle.kmip_client.specs.Verdicts.{AreWithin}
use Rattle.kmip_run_command.specs.ProgressLineText.{
  count_part,
  exchanges_word,
  most_columns,
  standing_text,
  steps_of,
  steps_part,
  sum_of,
  trouble_text,
  with_most,
  with_part,
  with_trouble,
}
use Rattle.kmip_tally.specs.declared.spent.Spent.{Spent}

-- what is a narrow line
abbrev IsNarrow : List ℕ → Type 0
IsNarrow line = length line ≤ most_columns

with_part_narrow : (line part : List ℕ) → IsNarrow line → IsNarrow (with_part line part)
unfolding with_part
with_part_narrow line part narrow =
    elim (cases_Bool (nat_le (length part) (most_columns - length line))) [
      | inl fits ↦ rw fits (rw (length-append line part) (omega (arith, narrow, leb-true (length part) (most_columns - length line) fits)))
      | inr full ↦ rw full narrow
    ]

choice_narrow : (b : Bool) (line other : List ℕ) → IsNarrow line → IsNarrow other → IsNarrow (if b then line else other)
choice_narrow true line other narrow narrow' = narrow
choice_narrow false line other narrow narrow' = narrow'

with_trouble_narrow : (line after : List ℕ) (count : ℕ) → IsNarrow line → IsNarrow (with_trouble line count after)
with_trouble_narrow line after count narrow =
    choice_narrow (count == 0) line _ narrow (with_part_narrow line (count_part (codes ", ") count after) narrow)

trouble_narrow : (done steps : ℕ) (spent : Spent) → IsNarrow (trouble_text done steps spent)
trouble_narrow done steps spent =
    with_trouble_narrow _ (codes " refused") spent.refused
    (with_trouble_narrow _ (codes " lost") spent.lost (with_part_narrow [] (steps_part done steps) (lit≤ tt)))

with_most_narrow : (line : List ℕ) (spent : Spent) (most : ℕ) → IsNarrow line → IsNarrow (with_most line spent most)
with_most_narrow line spent most narrow =
    choice_narrow ((spent.lost == 0) && (spent.refused == 0)) _ line
    (with_part_narrow line (count_part (codes ", at most ") most (codes " more")) narrow) narrow

pub standing_narrow : (done steps : ℕ) (spent : Spent) (most : ℕ) → length (standing_text done steps spent most) ≤ most_columns
standing_narrow done steps spent most =
    with_part_narrow _ (count_part (codes ", ") spent.seconds (codes " s"))
    (with_most_narrow _ spent most
    (with_part_narrow _ (count_part (codes ", ") spent.exchanges (exchanges_word spent.exchanges)) (trouble_narrow done steps spent)))

chain_few : (target : Target) → length (chain target) ≤ 4
chain_few targets.Created = lit≤ tt
chain_few targets.Active = lit≤ tt
chain_few targets.Revoked = lit≤ tt
chain_few targets.Destroyed = lit≤ tt
chain_few targets.Discarded = lit≤ tt

-- no more steps are counted than four for each key
pub sum_few : (keys : List Key) (counts : List ℕ) → AreWithin keys counts → sum_of counts ≤ 4 * length keys
sum_few [] [] within = lit≤ tt
sum_few [] (count ∷ counts) within = elim within [ ]
sum_few (key ∷ keys) [] within = elim within [ ]
sum_few (key ∷ keys) (count ∷ counts) (within, rest) =
    omega (arith, within, chain_few key.target, sum_few keys counts rest)
