-- What `probe` prints of each premise, and of all of them.
-- Source: own (text): what the program prints.
use Rattle.std.specs.Prelude.{ℕ, Bool, true, false, List, [], ◌∷◌, ◌++◌, codes, flat_map, if◌then◌else◌}
use Rattle.std.specs.Fmt.{decimal}
use Rattle.std.specs.List.{list_all, list_any}
use Rattle.kmip_objects.specs.Lifecycle.{step_word}
use Rattle.kmip_ttlv.specs.Showing.{plain_text}
use Rattle.kmip_probe.specs.declared.finding.Finding.{Finding}
use Rattle.kmip_probe.specs.declared.finding.Finding.TheVariants.{Kept, Broken}
use Rattle.kmip_probe.specs.declared.findings.Findings.{Findings}
use Rattle.kmip_probe.specs.declared.flaw.Flaw.{Flaw}
use Rattle.kmip_probe.specs.declared.flaw.Flaw.TheVariants.{SecondObject, StepTwice, ActiveDestroyed, NotFound, Missing, Different, Refused, NoId}
use Rattle.kmip_probe.specs.Telling.{attribute_text}
use Rattle.kmip_probe_command.specs.declared.premise.Premise.{Premise}
use Rattle.kmip_probe_command.specs.declared.premise.Premise.TheVariants as premise
use Rattle.kmip_probe_command.specs.declared.premise.TheConstants.{PREMISES}

-- How a premise is broken.
abbrev pub flaw_text : Flaw → List ℕ
flaw_text (SecondObject uid) = codes "a second object " ++ plain_text uid ++ codes " was made"
flaw_text (StepTwice step) = step_word step ++ codes " succeeded twice"
flaw_text ActiveDestroyed = codes "its Destroy succeeded"
flaw_text NotFound = codes "mask 5 does not find it"
flaw_text (Missing attribute) = attribute_text attribute ++ codes " is missing"
flaw_text (Different attribute) = attribute_text attribute ++ codes " is another"
flaw_text Refused = codes "it is refused"
flaw_text NoId = codes "a reply has none, or another"

-- A premise in words.
abbrev pub premise_text : Premise → List ℕ
premise_text premise.NamesAreUnique = codes "names are unique"
premise_text premise.NamesStayUsed = codes "names stay used after Destroy"
premise_text premise.StepsCountOnce = codes "a step made twice changes nothing"
premise_text premise.ActiveIsKept = codes "an active object is not destroyed"
premise_text premise.ObjectsAreFound = codes "Locate finds objects by their names"
premise_text premise.DestroyedAreFound = codes "Locate finds destroyed objects"
premise_text premise.AttributesAreTold = codes "Get Attributes tells all six attributes"
premise_text premise.IdsAreEchoed = codes "the batch id is echoed"

-- What may go wrong where a premise is broken.
abbrev pub risk_text : Premise → List ℕ
risk_text premise.NamesAreUnique = codes "a key may be made twice where the reply to its Create is lost"
risk_text premise.NamesStayUsed = codes "a destroyed key may be made again by a Create that arrives late"
risk_text premise.StepsCountOnce = codes "a request that arrives twice may change a key twice"
risk_text premise.ActiveIsKept = codes "an active key may be destroyed by a Destroy that comes too early"
risk_text premise.ObjectsAreFound = codes "a key that is there may be taken for none, and made again"
risk_text premise.DestroyedAreFound = codes "a destroyed key may be taken for none, and made again"
risk_text premise.AttributesAreTold = codes "a key that was there before is not told from the plan's, and is left alone"
risk_text premise.IdsAreEchoed = codes "no reply can be believed, and no key is finished"

-- What is found of a premise, among all that is found.
abbrev pub finding_of : Findings → Premise → Finding
finding_of findings premise.NamesAreUnique = findings.names_are_unique
finding_of findings premise.NamesStayUsed = findings.names_stay_used
finding_of findings premise.StepsCountOnce = findings.steps_count_once
finding_of findings premise.ActiveIsKept = findings.active_is_kept
finding_of findings premise.ObjectsAreFound = findings.objects_are_found
finding_of findings premise.DestroyedAreFound = findings.destroyed_are_found
finding_of findings premise.AttributesAreTold = findings.attributes_are_told
finding_of findings premise.IdsAreEchoed = findings.ids_are_echoed

-- Whether a premise is seen to be broken. One that could not be told is not.
abbrev pub is_broken : Finding → Bool
is_broken (Broken flaw) = true
is_broken finding = false

-- The line of what may go wrong, or nothing where the premise is not seen to be broken.
abbrev pub risk_line : Findings → Premise → List ℕ
risk_line findings p = if is_broken (finding_of findings p) then risk_text p ++ codes "\n" else []

-- The lines of what may go wrong.
abbrev pub risk_lines : Findings → List ℕ
risk_lines findings = flat_map (risk_line findings) PREMISES

-- The numbers of the reasons, as they are listed.
abbrev pub listed : List ℕ → List ℕ
listed [] = codes "none"
listed (reason ∷ reasons) = decimal reason ++ flat_map (λ n. codes ", " ++ decimal n) reasons

-- The line of the Result Reasons that were seen.
abbrev pub reasons_line : Findings → List ℕ
reasons_line findings = codes "reasons seen: " ++ listed findings.reasons.items ++ codes "\n"

-- Whether a premise is seen to be kept.
abbrev pub is_kept : Finding → Bool
is_kept Kept = true
is_kept finding = false

-- Whether every premise is seen to be kept.
abbrev pub are_all_kept : Findings → Bool
are_all_kept findings = list_all (λ p. is_kept (finding_of findings p)) PREMISES

-- Whether no key is made twice or destroyed too early where the premise is broken: only what is not told
-- is lost.
abbrev pub is_for_progress : Premise → Bool
is_for_progress premise.AttributesAreTold = true
is_for_progress premise.IdsAreEchoed = true
is_for_progress p = false

-- Whether a premise is seen to be broken without which a key may be made twice or destroyed too early.
abbrev pub is_unsafe : Findings → Premise → Bool
is_unsafe findings p = if is_for_progress p then false else is_broken (finding_of findings p)

-- The sum: that the promise holds, that it does not hold, that keys may stay unfinished but none is made
-- twice or destroyed too early, or that not all could be told.
abbrev pub sum_text : Findings → List ℕ
sum_text findings =
    if are_all_kept findings then codes "the promise holds here: each key is made once, and its steps are made once and in order"
    else (if list_any (is_unsafe findings) PREMISES then codes "the promise does not hold here"
    else (if list_any (λ p. is_broken (finding_of findings p)) PREMISES
    then codes "no key is made twice or destroyed too early here, but keys may stay unfinished"
    else codes "not all could be told: see the reasons, or probe again with another prefix"))
