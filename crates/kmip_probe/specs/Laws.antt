-- What the answers of a server of this profile say: each premise is kept. And where the questions stand.
-- Source: own (law).
use Rattle.std.specs.Prelude.{◌≡◌, ℕ, List, [], ◌∷◌, map}
use Rattle.std.specs.List.{range_with_len}
use Rattle.kmip_batch_items.specs.declared.standard.TheConstants.{REASON_NON_UNIQUE_NAME, REASON_WRONG_STATE}
use Rattle.kmip_probe.specs.Judging.{
  active_is_kept,
  attributes_are_told,
  destroyed_are_found,
  ids_are_echoed,
  names_are_unique,
  names_stay_used,
  objects_are_found,
  reasons_in,
  steps_count_once,
}
use Rattle.kmip_probe.specs.Serving.{outcomes_of}
use Rattle.kmip_probe.specs.declared.answer.Answer.{Answer}
use Rattle.kmip_probe.specs.declared.answer.Answer.TheVariants.{Told}
use Rattle.kmip_probe.specs.declared.finding.Finding.TheVariants.{Kept}
use Rattle.kmip_probe.specs.declared.inquiry.TheConstants.{INQUIRIES, QUESTIONS}

-- every premise is kept by these answers, and the reasons of refusals are these two
pub record AreAllKept (prefix : List ℕ) (answers : List Answer) : Type 0 where
  pub unique : names_are_unique answers ≡ Kept
  pub used : names_stay_used answers ≡ Kept
  pub once : steps_count_once answers ≡ Kept
  pub active : active_is_kept answers ≡ Kept
  pub found : objects_are_found answers ≡ Kept
  pub destroyed : destroyed_are_found answers ≡ Kept
  pub told : attributes_are_told prefix answers ≡ Kept
  pub echoed : ids_are_echoed answers ≡ Kept
  pub reasons : reasons_in answers ≡ REASON_NON_UNIQUE_NAME ∷ REASON_WRONG_STATE ∷ []

-- every premise is kept where each question was answered as the profile says
abbrev pub ProfileKeepsAll : Type 0
ProfileKeepsAll = (prefix first second : List ℕ) → AreAllKept prefix (map Told (outcomes_of prefix first second))

-- each question stands at the place that it names
abbrev pub QuestionsStandAtTheirPlaces : Type 0
QuestionsStandAtTheirPlaces = map (λ inquiry. inquiry.2) INQUIRIES ≡ range_with_len 0 QUESTIONS
