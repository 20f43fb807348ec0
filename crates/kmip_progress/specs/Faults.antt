-- The number and the name of each fault of a progress text.
-- Source: own (text, fault).
use Rattle.std.specs.Prelude.{ℕ, List, codes}
use Rattle.kmip_progress.specs.declared.progress_fault.ProgressFault.{ProgressFault}
use Rattle.kmip_progress.specs.declared.progress_fault.ProgressFault.TheVariants.{BadText, Cut, OtherPlan, NoMemory}

-- The number of a fault.
abbrev pub progress_fault_number : ProgressFault → ℕ
progress_fault_number BadText = 1
progress_fault_number Cut = 2
progress_fault_number OtherPlan = 3
progress_fault_number NoMemory = 4

-- The name of a fault, as it is printed.
abbrev pub progress_fault_name : ProgressFault → List ℕ
progress_fault_name BadText = codes "BadText"
progress_fault_name Cut = codes "Cut"
progress_fault_name OtherPlan = codes "OtherPlan"
progress_fault_name NoMemory = codes "NoMemory"
