-- What an exchange over a link and the end of a run promise.
-- Source: own (view).
use Rattle.std.specs.Prelude.{Err, IfErr, List, None, Ok, Option, Result, length, ℕ, ◌<◌, ◌≡◌, ◌≤◌}
use Rattle.kmip_plan.specs.declared.key.Key.{Key}
use Rattle.kmip_protocol.specs.Amid.{ExchangedAmid, PassedAmid}
use Rattle.kmip_protocol.specs.Calm.{CalmlyEnded, CalmlyExchanged}
use Rattle.kmip_protocol.specs.Clean.{Counted, IsRoomy}
use Rattle.kmip_protocol.specs.Ending.{Ended}
use Rattle.kmip_protocol.specs.Exchanges.{Exchanged, answer_in}
use Rattle.kmip_protocol.specs.Faults.{most_failures}
use Rattle.kmip_protocol.specs.Losses.{IsInMemory}
use Rattle.kmip_protocol.specs.Moves.{Delivered}
use Rattle.kmip_protocol.specs.Past.{Names}
use Rattle.kmip_protocol.specs.Seen.{Seen}
use Rattle.kmip_protocol.specs.Sound.{HarmlessMessage, Sound}
use Rattle.kmip_protocol.specs.declared.link_fault.LinkFault.{LinkFault}
use Rattle.kmip_protocol.specs.declared.link_fault.LinkFault.TheVariants as faults

-- What an exchange promises over a link that is honest for some names.
pub record ExchangesHonestly (names : Names) {A : Type 0} (bytes : A → List ℕ) (old : Seen) (request : List ℕ) (answered : Result (Option A) LinkFault) (new : Seen) : Type 0 where
  -- Over a link that is honest for some names, the requests of the message join those asked, and what
  -- may happen beside these names happens. Then nothing is handed over, or a message whose replies were
  -- all given some time. Where the network failed, or what came is no message, nothing is handed over.
  -- Where memory ran out, the requests joined or not, what may happen happened, and the exchange is not
  -- among those made. The link is honest for these names after it.
  pub honest : new.honest names
      × Exchanged names old.past request (answer_in bytes answered) new.past
  -- Over a link that is honest for some names the exchange is clean (`IsClean`) and not counted, or it
  -- is counted as disturbed. It is then counted with the requests that it sent, and with at least as
  -- many strange replies as it hands over about keys of these names that it did not ask about. Where
  -- memory ran out, no count falls.
  pub disturbed : Counted names old.past request (answer_in bytes answered) new.past
      old.disturbances new.disturbances
  -- Over a link that is honest for some names it ends no run.
  pub ended : new.ended ≡ old.ended

-- What an exchange promises over a link that is calm for some names.
pub record ExchangesCalmly (names : Names) {A : Type 0} (bytes : A → List ℕ) (old : Seen) (request : List ℕ) (answered : Result (Option A) LinkFault) (new : Seen) : Type 0 where
  -- Over a link that is calm for some names, the message is served once, question by question, nothing
  -- else happens, and its reply is handed over. There is no fault but want of memory, which leaves what
  -- it may leave over an honest link. The link is calm for these names after it.
  pub calm : new.calm names
      × CalmlyExchanged names old.past request (answer_in bytes answered) new.past
  -- Over a link that is calm for some names no count changes where a message is handed over and none of
  -- its replies says that the server has no room.
  pub undisturbed : IsRoomy (answer_in bytes answered) → new.disturbances ≡ old.disturbances

-- An exchange over a link: what it makes of the link, and what it hands over, which `bytes` reads. `follows` is
-- that the link after it is what calls made of the link before.
pub record MakesExchange {A : Type 0} (bytes : A → List ℕ) (old : Seen) (request : List ℕ) (answered : Result (Option A) LinkFault) (new : Seen) (follows : Type 0) : Type 0 where
  -- Over a link that is honest for some names, all of this holds.
  pub honestly : (names : Names) → old.honest names
      → ExchangesHonestly names bytes old request answered new
  -- Over a link that is honest among others of a plan, the requests of the message join those asked, and what may
  -- happen and be asked by others happens. Then nothing is handed over, or a message whose replies were all given
  -- some time. Where memory ran out, it is a beginning of this. The link is honest among others after it. The
  -- others rely on whoever sends: all of this is so if the past is sound, and the message does no harm.
  pub amid : (keys : List Key) → old.amid keys → Sound keys old.past → HarmlessMessage keys old.past.objects request
      → new.amid keys × ExchangedAmid keys old.past request (answer_in bytes answered) new.past
  -- Over a link that is calm for some names, both of this hold.
  pub calmly : (names : Names) → old.calm names
      → ExchangesCalmly names bytes old request answered new
  -- However the call ends, how often the network has failed does not fall.
  pub counted : old.failures ≤ new.failures
  -- With `Io` the network has failed once more at least.
  pub io : IfErr answered (λ fault. fault ≡ faults.Io → old.failures < new.failures)
  -- Once the network has failed 2^64 - 1 times, nothing is handed over, and there is no fault.
  pub spent : old.failures ≡ most_failures → answer_in bytes answered ≡ Ok None
  -- Unless memory ran out, the link after it is what calls made of the link before (`follows`).
  pub followed : IsInMemory (answer_in bytes answered) → follows

-- What the end of a run promises over a link that is honest for some names.
pub record EndsHonestly (names : Names) (old : Seen) (ended_so : Result (Unit {0}) LinkFault) (new : Seen) : Type 0 where
  -- Over a link that is honest for some names, what may happen beside these names happens, and the link
  -- is honest for them after it.
  pub honest : new.honest names × Delivered names old.past new.past
  -- Over a link that is honest for some names, no exchange is counted as disturbed by it.
  pub undisturbed : new.disturbances ≡ old.disturbances
  -- Over a link that is honest for some names, the end is noted after those before it, by how many
  -- messages had been sent. Where memory ran out, it is not noted.
  pub ended : Ended ended_so (length old.past.sent) old.ended new.ended

-- A run ends over a link: what that makes of the link. `follows` is that the link after it is what calls made of
-- the link before.
pub record EndsRun (old : Seen) (ended_so : Result (Unit {0}) LinkFault) (new : Seen) (follows : Type 0) : Type 0 where
  -- Over a link that is honest for some names, all of this holds.
  pub honestly : (names : Names) → old.honest names → EndsHonestly names old ended_so new
  -- Over a link that is honest among others of a plan, what may happen and be asked by others happens, and the link
  -- is honest among others after it. That is so where the past is sound.
  pub amid : (keys : List Key) → old.amid keys → Sound keys old.past → new.amid keys × PassedAmid keys old.past new.past
  -- Over a link that is calm for some names nothing happens, and there is no fault but want of memory,
  -- where what may happen beside these names happened. The link is calm for them after it.
  pub calm : (names : Names) → old.calm names → new.calm names
      × CalmlyEnded names ended_so old.past new.past
  -- How often the network has failed does not fall.
  pub counted : old.failures ≤ new.failures
  -- With `Io` the network has failed once more at least.
  pub io : IfErr ended_so (λ fault. fault ≡ faults.Io → old.failures < new.failures)
  -- Once the network has failed 2^64 - 1 times, there is no fault.
  pub spent : old.failures ≡ most_failures → ended_so ≡ Ok tt
  -- Unless memory ran out, the link after it is what calls made of the link before (`follows`).
  pub followed : IsInMemory ended_so → follows
  -- Where memory ran out, no failure of the network is counted.
  pub wanting : ended_so ≡ Err faults.NoMemory → new.failures ≡ old.failures
