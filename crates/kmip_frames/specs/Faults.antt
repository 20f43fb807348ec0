-- The number and the name of each fault.
-- Source: own (fault): the standard does not number or name the faults of a reader.
use Rattle.std.specs.Prelude.{ℕ, List, codes}
use Rattle.kmip_frames.specs.declared.frame_fault.FrameFault.{FrameFault}
use Rattle.kmip_frames.specs.declared.frame_fault.FrameFault.TheVariants.{BadHead, BadLength, TooLong, Failed, NoMemory}

-- the number of a fault, 1 to 5 in the order of their declaration
abbrev pub frame_fault_number : FrameFault → ℕ
frame_fault_number BadHead = 1
frame_fault_number BadLength = 2
frame_fault_number TooLong = 3
frame_fault_number Failed = 4
frame_fault_number NoMemory = 5

-- the name of a fault, as it is declared and as it is printed
abbrev pub frame_fault_name : FrameFault → List ℕ
frame_fault_name BadHead = codes "BadHead"
frame_fault_name BadLength = codes "BadLength"
frame_fault_name TooLong = codes "TooLong"
frame_fault_name Failed = codes "Failed"
frame_fault_name NoMemory = codes "NoMemory"
