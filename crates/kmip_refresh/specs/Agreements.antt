-- Whether the server agrees with what a progress file says about the keys of a plan.
-- Source: own (choice), over KMIP 2.1, Operations, Locate and Get Attributes.
use Rattle.std.specs.Prelude.{ℕ, Bool, true, false, ◌&&◌, not, nat_eq, nat_le, nat_lt, List, Option, Some, None, if◌then◌else◌}
use Rattle.std.specs.Cmp.Lexicographic.{pointwise}
use Rattle.std.specs.List.{list_any}
use Rattle.std.specs.Option.{is_some, option_map_or}
use Rattle.kmip_objects.specs.declared.step.Step.TheVariants.{Destroy}
use Rattle.kmip_plan.specs.Chains.{step_place}
use Rattle.kmip_plan.specs.declared.key.Key.{Key}
use Rattle.kmip_progress.specs.declared.known.Known.{Known}
use Rattle.kmip_client.specs.declared.knowledge.Knowledge.{Knowledge}
use Rattle.kmip_client.specs.declared.phase.Phase.{Phase}
use Rattle.kmip_client.specs.declared.phase.Phase.TheVariants as phases
use Rattle.kmip_look.specs.Standings.{is_told}
use Rattle.kmip_look.specs.declared.looked.Looked.{Looked}
use Rattle.kmip_refresh.specs.declared.agreement.Agreement.{Agreement}
use Rattle.kmip_refresh.specs.declared.agreement.Agreement.TheVariants.{Agrees, Unanswered, Gone, Contradicts}
use Rattle.kmip_refresh.specs.declared.judgement.Judgement.{Judgement}
use Rattle.kmip_refresh.specs.declared.judgement.Judgement.TheVariants as judgements
use Rattle.kmip_refresh.specs.declared.key_look.KeyLook.{KeyLook}

-- Both identifiers are known, and they are the same.
abbrev pub is_same_object : Option (List ℕ) → Option (List ℕ) → Bool
is_same_object None seen = false
is_same_object (Some own) seen = option_map_or (λ uid. pointwise nat_eq own uid) seen false

-- The server has no object with the key's name.
abbrev pub is_make : Phase → Bool
is_make phases.Make = true
is_make phase = false

-- The file counts the Destroy step of the key.
abbrev pub counts_destroy : Key → Known → Bool
counts_destroy key known = nat_lt 0 (step_place key.target Destroy) && nat_le (step_place key.target Destroy) known.done

-- Whether what the server said of the key's object agrees with the file. It agrees if the identifier is that of the
-- file, and the object has come at least as far as the file counts. A clash contradicts: there are two objects, or
-- the attributes or the state are not those of the plan.
abbrev pub agreement_told : Key → Known → Knowledge → Agreement
agreement_told key known seen =
    if is_some seen.clash then Contradicts
    else if is_same_object known.identifier seen.identifier && nat_le known.done seen.done then Agrees
    else if is_make seen.phase && counts_destroy key known then Gone
    else Contradicts

-- Whether what the server said of the key agrees with the file.
abbrev pub agreement : Key → Known → Looked → Agreement
agreement key known looked = if is_told looked.known then agreement_told key known looked.known else Unanswered

-- The two are the same.
abbrev pub is_agreement : Agreement → Agreement → Bool
is_agreement Agrees Agrees = true
is_agreement Unanswered Unanswered = true
is_agreement Gone Gone = true
is_agreement Contradicts Contradicts = true
is_agreement agreement other = false

-- The agreement of some key is this one.
abbrev pub has : Agreement → List KeyLook → Bool
has agreement looks = list_any (λ look. is_agreement agreement look.agreement) looks

-- The judgement on all keys. One key that contradicts is enough, and so is one without an answer. A key that is
-- gone needs another that agrees: otherwise it may be another server.
abbrev pub judgement_of : List KeyLook → Judgement
judgement_of looks =
    if has Contradicts looks then judgements.Contradicted
    else if has Unanswered looks then judgements.Unanswered
    else if has Gone looks && not (has Agrees looks) then judgements.Contradicted
    else judgements.Agreed
