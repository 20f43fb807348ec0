-- What a run of exchanges does: what it keeps, what it asks, what the client learns of it, and why it ends.
-- Source: own (view); what is own (law) says so.
use Rattle.std.specs.Prelude.{◌≡◌, ◌⊎◌, ◌≤◌, ◌<◌, ◌+◌, ℕ, IsSome, map, List, [], ◌∷◌, ◌++◌, length, flat_map, Option, Some, ⊤}
use Rattle.std.specs.List.{All, AllZip}
use Rattle.kmip_messages.specs.Items.{requests_in}
use Rattle.kmip_objects.specs.Objects.{Object, object_named}
use Rattle.kmip_messages.specs.Written.{requests_item}
use Rattle.kmip_batch_items.specs.declared.request.Request.{Request}
use Rattle.kmip_plan.specs.Plans.{IsLawful, IsPlanned}
use Rattle.kmip_plan.specs.Prolonging.{Prolongs}
use Rattle.kmip_plan.specs.declared.key.Key.{Key}
use Rattle.kmip_ttlv.specs.Spelling.{canon}
use Rattle.kmip_client.specs.Asking.{AreApart, requests_at}
use Rattle.kmip_client.specs.Clients.{ClientState, fresh, NoneWorks, SomeWorks, WorksAt, verdict_at}
use Rattle.kmip_client.specs.Held.{Held}
use Rattle.kmip_client.specs.Places.{Onward, position}
use Rattle.kmip_client.specs.Knowledge.{chain_length}
use Rattle.kmip_client.specs.Shapes.{IsKept}
use Rattle.kmip_client.specs.Verdicts.{counts_of, verdicts_of}
use Rattle.kmip_client.specs.declared.clash.Clash.{Clash}
use Rattle.kmip_client.specs.declared.knowledge.Knowledge.{Knowledge}
use Rattle.kmip_client.specs.declared.verdict.Verdict.TheVariants.{Finished, Conflict}
use Rattle.kmip_protocol.specs.Amid.{PassedAmid, seen_by_others}
use Rattle.kmip_protocol.specs.Machine.{IsMirrored}
use Rattle.kmip_protocol.specs.Past.{Past, is_planned}
use Rattle.kmip_protocol.specs.Seen.{Seen}
use Rattle.kmip_protocol.specs.Sound.{IsOfPlan, Sound}
use Rattle.kmip_client.specs.Known.{facts, known_after}
use Rattle.kmip_protocol.specs.SettlingLaws.{NoneIsMade}
use Rattle.kmip_protocol.specs.Needs.{need_all}
use Rattle.kmip_protocol.specs.Ready.{IsReady}
use Rattle.kmip_runs.specs.Campaign.{CalmLink}
use Rattle.kmip_runs.specs.Headline.{GoodLink}
use Rattle.kmip_runs.specs.declared.stop.Stop.{Stop}
use Rattle.kmip_runs.specs.declared.stop.Stop.TheVariants as stops

-- The link is honest among others of the plan, all that has happened over it is sound, and what the client knows
-- is true. A link that is honest for the plan's names is so too (`honest_is_amid`).
pub record IsGood (c : ClientState) (link : Seen) : Type 0 where
  pub amid_for : link.amid c.keys
  pub sound : Sound c.keys link.past
  pub held : Held link.past.objects c.keys c.knowns

-- The link is calm for the plan's names, and the client is ready to settle.
pub record IsSettling (c : ClientState) (link : Seen) : Type 0 where
  pub calm_for : link.calm (is_planned c.keys)
  pub ready : IsReady link.past.room c.keys link.past.objects c.knowns

-- The link is calm for the plan's names, none of them has an object, there is room for all, and the client
-- knows nothing yet, however many keys its messages ask about.
pub record IsUntouched (c : ClientState) (link : Seen) : Type 0 where
  pub calm_for : link.calm (is_planned c.keys)
  pub fresh_is : c ≡ record (fresh c.keys) { batch = c.batch }
  pub none_made : NoneIsMade c.keys link.past.objects
  pub roomy : length link.past.objects + length c.keys ≤ link.past.room

-- Each key of the plan has an object at the end of its chain, and the counts and verdicts say so.
pub record IsComplete (keys : List Key) (objects : List Object) (knowns : List Knowledge) : Type 0 where
  pub at_end : (key : Key) → IsPlanned keys key → IsSome (object_named key.attrs.name objects) × (position key objects ≡ chain_length key)
  pub counts : counts_of knowns ≡ map chain_length keys
  pub verdicts : verdicts_of keys knowns ≡ map (λ key. Finished) keys

-- each message that the client sends asks about one key: it asks about no more at once, or the plan has one
-- key
abbrev pub AsksOne : ClientState → Type 0
AsksOne c = (c.batch ≡ 1) ⊎ (length c.keys ≡ 1)

-- how many questions all keys still need
abbrev pub need : ClientState → Past → ℕ
need c p = need_all c.keys c.knowns p.objects

-- The link is calm and the client ready still. This many exchanges were made, and all keys need at least as
-- many fewer questions; where each message asks one, exactly as many fewer. Own (law).
pub record Nearer (c next : ClientState) (x y : Seen) (made : ℕ) : Type 0 where
  pub settling : IsSettling next y
  pub nearer : made + need next y.past ≤ need c x.past
  pub exactly : AsksOne c → made + need next y.past ≡ need c x.past

-- The objects have gone onward for each key, and a past that was an image of the plan machine still is. All of it
-- may pass over the links of others of the plan, which see nothing of what was sent and handed over here. Own (law).
pub record WentOn (keys : List Key) (old new : Past) : Type 0 where
  pub onward : Onward keys old.objects new.objects
  pub mirrored : IsMirrored keys old → IsMirrored keys new
  pub passed : PassedAmid keys (seen_by_others old) (seen_by_others new)

-- What is kept for a plan that prolongs this one, while this one is carried out. Over a link that is honest
-- among others of it, what was sound for it stays so, its objects go onward, and an image of its machine stays
-- one. Over a calm one there is room still for the objects that it misses, where memory did not run out. Own
-- (law).
pub record KeepsFurther (keys : List Key) (whole : Type 0) (old new : Seen) : Type 0 where
  pub good : (further : List Key) → IsLawful further → Prolongs further keys → GoodLink further old
      → GoodLink further new × WentOn further old.past new.past
  pub calmly : whole → (further : List Key) → IsLawful further → Prolongs further keys → CalmLink further old
      → CalmLink further new

-- The bytes ask about one key of the plan or more, at most `most` and each once. They ask what a phase of
-- each key asks, in its one written form.
pub record IsQuestion (keys : List Key) (most : ℕ) (bytes : List ℕ) : Type 0 where
  pub knowns : List Knowledge
  pub places : List ℕ
  pub some : 1 ≤ length places
  pub few : length places ≤ most
  pub works : All (WorksAt keys knowns) places
  pub apart : AreApart places
  pub written : bytes ≡ canon (requests_item (requests_at keys knowns places))

-- This many exchanges were made, each with a message about at most `most` keys of the plan, and nothing else
-- was asked. The facts known now are those known before and what the exchanges handed over.
pub record Learnt (keys : List Key) (most : ℕ) (old new : Past) (knowns nexts : List Knowledge) (exchanges : ℕ) : Type 0 where
  pub questions : List (List ℕ)
  pub answers : List (Option (List ℕ))
  pub sent_are : new.sent ≡ old.sent ++ questions
  pub handed_are : new.handed ≡ old.handed ++ answers
  pub requests_are : new.requests ≡ old.requests ++ flat_map requests_in questions
  pub as_many_questions : length questions ≡ exchanges
  pub as_many_answers : length answers ≡ exchanges
  pub each : All (IsQuestion keys most) questions
  pub known_is : facts nexts ≡ facts (known_after keys knowns answers)

-- Nothing that was asked, sent or handed over is taken back. Each request that joins those asked is of the plan
-- (`IsOfPlan`). Own (law).
pub record TakesNothingBack (keys : List Key) (old new : Past) : Type 0 where
  pub requests : (more : List Request) × (new.requests ≡ old.requests ++ more) × All (IsOfPlan keys) more
  pub sent : (more : List (List ℕ)) × (new.sent ≡ old.sent ++ more)
  pub handed : (more : List (Option (List ℕ))) × (new.handed ≡ old.handed ++ more)

-- The questions of one more message about keys of the plan joined those asked.
pub record AsksMore (keys : List Key) (most : ℕ) (old new : Past) : Type 0 where
  pub question : List ℕ
  pub is_question : IsQuestion keys most question
  pub requests_are : new.requests ≡ old.requests ++ requests_in question

-- The exchange in which memory ran out was not made: nothing was sent or handed over. At most the questions
-- of one message joined those asked.
pub record IsUnmade (keys : List Key) (most : ℕ) (old new : Past) : Type 0 where
  pub asked : (new.requests ≡ old.requests) ⊎ AsksMore keys most old new
  pub sent_stays : new.sent ≡ old.sent
  pub handed_stays : new.handed ≡ old.handed

-- One more exchange was made, and a reply came, from which there was no memory to learn.
pub record IsUnheard (keys : List Key) (most : ℕ) (old new : Past) : Type 0 where
  pub question : List ℕ
  pub reply : List ℕ
  pub is_question : IsQuestion keys most question
  pub requests_are : new.requests ≡ old.requests ++ requests_in question
  pub sent_are : new.sent ≡ old.sent ++ question ∷ []
  pub handed_are : new.handed ≡ old.handed ++ Some reply ∷ []

-- This many exchanges were made until memory ran out. What they handed over was learnt, but for the last
-- reply, where there was no memory to learn from it.
pub record LearntUntil (keys : List Key) (most : ℕ) (old new : Past) (knowns nexts : List Knowledge) (exchanges : ℕ) : Type 0 where
  pub between : Past
  pub heard : ℕ
  pub learnt : Learnt keys most old between knowns nexts heard
  pub broken : ((exchanges ≡ heard) × IsUnmade keys most between new) ⊎ ((exchanges ≡ heard + 1) × IsUnheard keys most between new)

-- The plan stays, and how many keys are asked about at once, and no identifier or count is taken back. Own
-- (law).
pub record Keeps (old new : ClientState) : Type 0 where
  pub keys_stay : new.keys ≡ old.keys
  pub batch_stays : new.batch ≡ old.batch
  pub kept : AllZip IsKept old.knowns new.knowns

-- some key of the plan is in conflict
abbrev pub SomeClash : List Key → List Knowledge → Type 0
SomeClash keys knowns = (place : ℕ) × (clash : Clash) × (place < length keys) × (verdict_at keys knowns place ≡ Conflict clash)

-- each key of the plan is finished
abbrev pub AreFinished : List Key → List Knowledge → Type 0
AreFinished keys knowns = (place : ℕ) → place < length keys → verdict_at keys knowns place ≡ Finished

-- how the keys stand where a run stops for this reason: with `AllFinished` each is finished, with `Limit` one
-- is worked on, and with `Conflict` none is worked on and one is in conflict
abbrev pub IsBorneOut : Stop → List Key → List Knowledge → Type 0
IsBorneOut stops.AllFinished keys knowns = AreFinished keys knowns
IsBorneOut stops.Limit keys knowns = SomeWorks keys knowns
IsBorneOut stops.Conflict keys knowns = NoneWorks keys knowns × SomeClash keys knowns
IsBorneOut stops.NoMemory keys knowns = ⊤
