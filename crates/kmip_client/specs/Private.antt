-- Private: definitions that only clauses of private functions cite.
-- Source: own (view): parts of the public definitions of this crate.
use Rattle.std.specs.Prelude.{◌≡◌, ℕ, Bool, true, false, List, map, None, Result, Ok, Err, slice_get, if◌then◌else◌, ◌≢◌, ◌≤◌, ◌<◌, length, IfErr, IfOk, IfSome, IsTrue, OnErr}
use Rattle.std.specs.List.{AllZip}
use Rattle.std.specs.Option.{option_map_or}
use Rattle.kmip_batch_items.specs.Faults.{is_no_memory}
use Rattle.kmip_batch_items.specs.declared.message_fault.MessageFault.{MessageFault}
use Rattle.kmip_plan.specs.TargetWords.{is_text}
use Rattle.kmip_plan.specs.declared.key.Key.{Key}
use Rattle.kmip_client.specs.declared.hear_fault.HearFault.{HearFault}
use Rattle.kmip_client.specs.declared.hear_fault.HearFault.TheVariants as faults
use Rattle.kmip_client.specs.declared.heard.Heard.{Heard}
use Rattle.kmip_client.specs.declared.knowledge.Knowledge.{Knowledge}
use Rattle.kmip_client.specs.Knowledge.{chain_length}
use Rattle.kmip_objects.specs.Ranges.{is_identifier}
use Rattle.kmip_messages.specs.Members.{may_have}
use Rattle.kmip_plan.specs.Plans.{IsLawful}
use Rattle.kmip_client.specs.Clients.{working_count}
use Rattle.kmip_progress.specs.Saved.{SavedState, saved_of}
use Rattle.kmip_progress.specs.Suiting.{Suits, are_texts}
use Rattle.kmip_client.specs.Saving.{known_of}
use Rattle.kmip_client.specs.Shapes.{IsKept, PhaseSuits}

-- The key at the place has the name
abbrev pub is_named_at : List ℕ → List Key → ℕ → Bool
is_named_at name keys place = option_map_or (λ key. is_text name key.attrs.name) (slice_get keys place) false

-- Bytes that are no reply, in a call that may run out of memory
abbrev pub unheard : MessageFault → HearFault
unheard fault = if is_no_memory fault then faults.NoMemory else faults.Unreadable fault

-- The knowledge of one key: no more steps than the chain has, none without an identifier, a phase that suits, and a clash
-- only where the key is not finished
pub record IsShaped (key : Key) (known : Knowledge) : Type 0 where
  pub few : known.done ≤ chain_length key
  pub suits : PhaseSuits known.phase known.identifier known.done
  pub has_identifier : 1 ≤ known.done → known.identifier ≢ None
  pub in_range : IfSome known.identifier (λ uid. IsTrue (is_identifier uid))
  pub unsettled : known.clash ≢ None → known.done < chain_length key

-- The keys of a plan, what is known of each, the place at which the next key is looked for, and how many keys are
-- worked on
pub record AreShaped (keys : List Key) (knowns : List Knowledge) (next working : ℕ) : Type 0 where
  pub lawful : IsLawful keys
  pub each : AllZip IsShaped keys knowns
  pub turn : next ≤ length keys
  pub counted : working ≡ working_count keys knowns

-- The same, and how many keys a message asks about at most
abbrev pub IsClient : List Key → List Knowledge → ℕ → ℕ → ℕ → Type 0
IsClient keys knowns next working batch = AreShaped keys knowns next working × IsTrue (may_have batch)

-- A reply was heard as `told` says, or it was refused and taught nothing. How many keys are worked on is counted
-- either way.
pub record HearsOne (keys : List Key) (result : Result Heard HearFault) (told : Result (Heard × List Knowledge) HearFault) (old new : List Knowledge) (working : ℕ) : Type 0 where
  pub ok : IfOk result (λ heard. told ≡ Ok (heard, new))
  pub err : IfErr result (λ e. told ≡ Err e)
  pub same : OnErr result (new ≡ old)
  pub counted : working ≡ working_count keys new

-- It is the text of what was known of these keys earlier. No identifier was taken back since.
pub record WasTextBefore (keys : List Key) (knowns : List Knowledge) (saved : SavedState) : Type 0 where
  pub before : List Knowledge
  pub is : saved ≡ saved_of keys (map known_of before)
  pub suits : Suits keys (map known_of before)
  pub texts : are_texts (map known_of before) ≡ true
  pub kept : AllZip IsKept before knowns
