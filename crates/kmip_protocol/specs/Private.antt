-- Private: definitions that only clauses of private functions and instances of traits cite.
-- Source: own (view): parts of the public definitions of this crate.
use Rattle.std.specs.Prelude.{ℕ, List, []}
use Rattle.kmip_protocol.specs.Clean.{Disturbances}
use Rattle.kmip_protocol.specs.Past.{Past}
use Rattle.kmip_protocol.specs.Seen.{Seen}

-- Where nothing is known of what has happened
abbrev pub unknown_past : Past
unknown_past = record {
  room = 0;
  objects = [];
  requests = [];
  replies = [];
  effects = [];
  sent = [];
  handed = [];
}

-- Where no exchange is counted as disturbed
abbrev pub none_counted : Disturbances
none_counted = record { disturbed = 0; requests = 0; strange = 0 }

-- Where no end of a run is noted
abbrev pub none_ended : List ℕ
none_ended = []

-- A link of which nothing is claimed, but how often its network has failed: it is neither honest nor calm, nor honest
-- among others.
abbrev pub unclaimed : ℕ → Seen
unclaimed failures = record {
  past = unknown_past;
  honest = λ names. ⊥;
  amid = λ keys. ⊥;
  calm = λ names. ⊥;
  failures = failures;
  disturbances = none_counted;
  ended = none_ended;
  calm_is_honest = λ names calm. calm;
  honest_is_amid = λ keys honest. honest;
  may_fail = λ names calm. absurd calm;
  fewer = λ names few among. (λ honest. honest, λ calm. calm);
}
