-- The words of what a look found out.
-- Source: own (text): what the program prints. The names of states are KMIP 2.1, Object Attributes, State.
use Rattle.std.specs.Prelude.{ℕ, ℤ, ◌==◌, List, [], ◌∷◌, ◌++◌, take, drop, codes, Option, Some, None, option_map, bit_and, if◌then◌else◌}
use Rattle.std.specs.Fmt.{decimal}
use Rattle.std.specs.List.{flat_map}
use Rattle.kmip_plan.specs.Words.{algorithm_word}
use Rattle.kmip_look.specs.declared.why.Why.{Why}
use Rattle.kmip_look.specs.declared.why.Why.TheVariants.{NotAsked, NoReply, Refused, Unreadable}
use Rattle.kmip_trace.specs.Names.{state_of, state_word}
use Rattle.kmip_trace.specs.Reasons.{reason_name}
use Rattle.kmip_trace.specs.UsageWords.{usage_text}

-- ---- attributes

-- The word, or the number in decimal if there is none.
abbrev pub word_or_decimal : Option (List ℕ) → ℕ → List ℕ
word_or_decimal (Some word) n = word
word_or_decimal None n = decimal n

-- The word for the state of a number, or the number if the standard has no such state.
abbrev pub state_name : ℕ → List ℕ
state_name n = word_or_decimal (option_map state_word (state_of n)) n

-- The word of a plan for the algorithm of a number, or the number if plans have no word for it.
abbrev pub algorithm_name : ℕ → List ℕ
algorithm_name n = word_or_decimal (algorithm_word n) n

-- The usage mask that was told, in words, and a dash if none was.
abbrev pub told_usage : Option ℤ → List ℕ
told_usage None = codes " -"
told_usage (Some mask) = usage_text mask

-- ---- why nothing was told

-- The name of a Result Reason in brackets, if it has one.
abbrev pub bracketed : Option (List ℕ) → List ℕ
bracketed None = []
bracketed (Some name) = codes " (" ++ name ++ codes ")"

-- The server refused, with the number and the name of the Result Reason, if one was told.
abbrev pub refused_text : Option ℕ → List ℕ
refused_text None = codes "refused"
refused_text (Some reason) = codes "refused, reason " ++ decimal reason ++ bracketed (reason_name reason)

-- Why nothing was told.
abbrev pub why_text : Why → List ℕ
why_text NotAsked = codes "not asked"
why_text NoReply = codes "no reply"
why_text (Refused reason) = refused_text reason
why_text Unreadable = codes "unreadable reply"
