-- What holds of all that may happen over a link among other clients of the plan.
-- Source: own (law).
use Rattle.std.specs.Prelude.{List, Option, Result, ℕ}
use Rattle.kmip_client.specs.Places.{Onward}
use Rattle.kmip_plan.specs.declared.key.Key.{Key}
use Rattle.kmip_protocol.specs.declared.link_fault.LinkFault.{LinkFault}
use Rattle.kmip_protocol.specs.Amid.{ExchangedAmid, PassedAmid, seen_by_others, with_talk}
use Rattle.kmip_protocol.specs.Exchanges.{Exchanged}
use Rattle.kmip_protocol.specs.Machine.{IsMirrored}
use Rattle.kmip_protocol.specs.Moves.{Delivered}
use Rattle.kmip_protocol.specs.Past.{Past, is_planned}
use Rattle.kmip_protocol.specs.Sound.{HarmlessMessage, Sound}

-- from a sound past, whatever happens and others ask, the past after it is sound, and the objects go onward
abbrev pub PassingAmidKeepsSound : Type 0
PassingAmidKeepsSound =
    (keys : List Key) (old new : Past) → Sound keys old → PassedAmid keys old new → Sound keys new × Onward keys old.objects new.objects

-- from a sound past that is an image, whatever happens and others ask, the past after it is an image
abbrev pub PassingAmidKeepsTheImage : Type 0
PassingAmidKeepsTheImage =
    (keys : List Key) (old new : Past) → Sound keys old → IsMirrored keys old → PassedAmid keys old new → IsMirrored keys new

-- an exchange among others keeps a past sound where its requests may be asked, whether it has an answer or not,
-- and the objects go onward in it
abbrev pub ExchangesAmidKeepSound : Type 0
ExchangesAmidKeepSound =
    (keys : List Key) (old new : Past) (sent : List ℕ) (answer : Result (Option (List ℕ)) LinkFault) → Sound keys old
    → HarmlessMessage keys old.objects sent → ExchangedAmid keys old sent answer new
    → Sound keys new × Onward keys old.objects new.objects

-- an exchange among others keeps a sound past an image, where its requests may be asked
abbrev pub ExchangesAmidKeepTheImage : Type 0
ExchangesAmidKeepTheImage =
    (keys : List Key) (old new : Past) (sent : List ℕ) (answer : Result (Option (List ℕ)) LinkFault) → Sound keys old
    → IsMirrored keys old → HarmlessMessage keys old.objects sent → ExchangedAmid keys old sent answer new
    → IsMirrored keys new

-- nothing may pass among others
abbrev pub NothingPasses : Type 0
NothingPasses = (keys : List Key) (p : Past) → PassedAmid keys p p

-- what may pass in turn may pass in one
abbrev pub PassingJoins : Type 0
PassingJoins =
    (keys : List Key) (first second third : Past) → PassedAmid keys first second → PassedAmid keys second third
    → PassedAmid keys first third

-- what may pass may pass whatever was sent and handed over
abbrev pub PassingIsBlind : Type 0
PassingIsBlind =
    (keys : List Key) (sent : List (List ℕ)) (handed : List (Option (List ℕ))) (old new : Past) → PassedAmid keys old new
    → PassedAmid keys (with_talk sent handed old) (with_talk sent handed new)

-- an exchange among others whose requests may be asked may itself pass over the links of others
abbrev pub ExchangesPass : Type 0
ExchangesPass =
    (keys : List Key) (old new : Past) (sent : List ℕ) (answer : Result (Option (List ℕ)) LinkFault)
    → HarmlessMessage keys old.objects sent → ExchangedAmid keys old sent answer new
    → PassedAmid keys (seen_by_others old) (seen_by_others new)

-- what may happen where nobody else asks, may happen among others
abbrev pub DeliveriesAreAmid : Type 0
DeliveriesAreAmid = (keys : List Key) (old new : Past) → Delivered (is_planned keys) old new → PassedAmid keys old new

-- so may an exchange over a link that is honest for the names of the plan
abbrev pub ExchangesAreAmid : Type 0
ExchangesAreAmid =
    (keys : List Key) (old new : Past) (sent : List ℕ) (answer : Result (Option (List ℕ)) LinkFault)
    → Exchanged (is_planned keys) old sent answer new → ExchangedAmid keys old sent answer new

-- What holds of a client of a plan among others of the plan.
pub record AmidLaws : Type 0 where
  pub passing : PassingAmidKeepsSound
  pub exchanges : ExchangesAmidKeepSound
  pub image_passing : PassingAmidKeepsTheImage
  pub image_exchanged : ExchangesAmidKeepTheImage
  pub nothing : NothingPasses
  pub joins : PassingJoins
  pub blind : PassingIsBlind
  pub exchanges_pass : ExchangesPass
  pub deliveries_amid : DeliveriesAreAmid
  pub exchanges_amid : ExchangesAreAmid
