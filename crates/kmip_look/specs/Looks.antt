-- What a look promises. Open this file first.
-- Source: own (law), over KMIP 2.1, Operations, Locate and Get Attributes; Message Structure, Unique Batch Item
-- ID. What the id is, and how often a message is put, is own (choice, limit).
use Rattle.std.specs.Prelude.{◌≡◌, ◌≢◌, ◌≤◌, ◌⊎◌, ◌+◌, ◌*◌, ℕ, nat_eq, Bool, true, false, List, ◌∷◌, ◌++◌, length, count_by, Option, Some, None, Result, IfOk, OnOk}
use Rattle.std.specs.Cmp.Lexicographic.{pointwise}
use Rattle.std.specs.List.{All, AllZip, Contains, list_any}
use Rattle.std.specs.Option.{option_map_or}
use Rattle.kmip_ttlv.specs.declared.no_memory.NoMemory.{NoMemory}
use Rattle.kmip_objects.specs.Attributes.{by_name}
use Rattle.kmip_objects.specs.Objects.{Object, DistinctUids}
use Rattle.kmip_objects.specs.Ranges.{is_name}
use Rattle.kmip_objects.specs.Searching.{every_state}
use Rattle.kmip_batch_items.specs.Operations.{operation_of}
use Rattle.kmip_batch_items.specs.declared.ask.Ask.{Ask}
use Rattle.kmip_batch_items.specs.declared.ask.Ask.TheVariants.{GetAttributes, Locate}
use Rattle.kmip_batch_items.specs.declared.reply.Reply.{Reply}
use Rattle.kmip_batch_items.specs.declared.request.Request.{Request}
use Rattle.kmip_messages.specs.Items.{requests_in}
use Rattle.kmip_plan.specs.Plans.{IsLawful}
use Rattle.kmip_plan.specs.declared.key.Key.{Key}
use Rattle.kmip_client.specs.Places.{Onward}
use Rattle.kmip_protocol.specs.Past.{Names, Past}
use Rattle.kmip_protocol.specs.Seen.{Seen}
use Rattle.kmip_protocol.specs.Sound.{Sound}
use Rattle.kmip_look.specs.Moments.{WasSo}
use Rattle.kmip_look.specs.Standings.{StandsSo, is_told}
use Rattle.kmip_look.specs.declared.looked.Looked.{Looked}
use Rattle.kmip_look.specs.declared.why.Why.TheVariants.{Refused}

-- A look at the name: a Locate of it in every state, or a Get Attributes.
abbrev pub IsLookAt : List ℕ → Ask → Type 0
IsLookAt name ask = (ask ≡ Locate (Some every_state) (by_name name)) ⊎ ((uid : List ℕ) × (ask ≡ GetAttributes uid))

-- The request is a look at a key of the plan. Its id is the operation in one byte, the mark, and the name.
pub record IsLook (keys : List Key) (mark : List ℕ) (request : Request) : Type 0 where
  pub key : Key
  pub planned : Contains keys key
  pub looks : IsLookAt key.attrs.name request.ask
  pub id_is : request.id ≡ Some (operation_of request.ask ∷ (mark ++ key.attrs.name))

-- Each request in the message is a look at a key of the plan.
abbrev pub AsksLooks : List Key → List ℕ → List ℕ → Type 0
AsksLooks keys mark message = All (IsLook keys mark) (requests_in message)

-- Messages were sent that ask such looks alone, and no more of them than this.
pub record Sends (keys : List Key) (mark : List ℕ) (most : ℕ) (old new : Past) : Type 0 where
  pub messages : List (List ℕ)
  pub sent : new.sent ≡ old.sent ++ messages
  pub look : All (AsksLooks keys mark) messages
  pub few : length messages ≤ most

-- The id does not have the mark behind its first byte.
abbrev pub IsUnmarked : List ℕ → Option (List ℕ) → Type 0
IsUnmarked mark id = (operation : ℕ) (rest : List ℕ) → id ≢ Some (operation ∷ (mark ++ rest))

-- The mark is new: no request that was ever asked, and no reply that was ever given, has an id with it.
pub record IsFresh (mark : List ℕ) (p : Past) : Type 0 where
  pub requests : All (λ (request : Request). IsUnmarked mark request.id) p.requests
  pub replies : All (λ (reply : Reply). IsUnmarked mark reply.id) p.replies

-- It is told how the key stands, and so it was at some moment since the look began. Or it is not told, and no
-- numbers are shown.
abbrev pub IsSaid : Names → Past → Past → Key → Looked → Type 0
IsSaid names old new key looked =
    ((is_told looked.known ≡ true) × WasSo names old new key looked) ⊎ ((is_told looked.known ≡ false) × (looked.shown ≡ None))

-- A question in the message has this id.
abbrev pub asks_id : List ℕ → List ℕ → Bool
asks_id id message = list_any (λ (request : Request). option_map_or (λ own. pointwise nat_eq id own) request.id false) (requests_in message)

-- At least this many of the messages that were sent ask a question with this id.
pub record IsAskedFor (id : List ℕ) (count : ℕ) (old new : Past) : Type 0 where
  pub messages : List (List ℕ)
  pub sent : new.sent ≡ old.sent ++ messages
  pub many : count ≤ count_by (asks_id id) messages

-- It is told how the key stands. Or the server has refused a question about it, or one was asked in at least
-- four messages.
abbrev pub IsTried : List ℕ → Past → Past → Key → Looked → Type 0
IsTried mark old new key looked =
    (is_told looked.known ≡ true)
    ⊎ (((reason : Option ℕ) × (looked.why ≡ Refused reason))
    ⊎ ((operation : ℕ) × IsAskedFor (operation ∷ (mark ++ key.attrs.name)) 4 old new))

-- It is told how the key stands over these objects.
abbrev pub IsToldOf : List Object → Key → Looked → Type 0
IsToldOf objects key looked = (is_told looked.known ≡ true) × StandsSo objects key looked

-- No name of a key begins with the mark. So an id with the mark is that of no key.
abbrev pub BeginsNoName : List ℕ → Type 0
BeginsNoName mark = (rest : List ℕ) → is_name (mark ++ rest) ≡ false

-- The past is still sound for a plan.
pub record StaysSound (plan : List Key) (old new : Seen) : Type 0 where
  -- The link is honest among others of the plan after it.
  pub still : new.amid plan
  -- The past is sound after it.
  pub sound : Sound plan new.past
  -- The objects of the plan's names go onward.
  pub onward : Onward plan old.past.objects new.past.objects

-- A past that is sound for a plan stays sound, over a link that is honest among others of the plan.
abbrev pub SoundStays : Seen → Seen → Type 0
SoundStays old new = (plan : List Key) → IsLawful plan → old.amid plan → Sound plan old.past → StaysSound plan old new

-- So it is if no name of a key begins with the mark.
abbrev pub KeepsSound : List ℕ → Seen → Seen → Type 0
KeepsSound mark old new = BeginsNoName mark → SoundStays old new

-- What a look promises over a link that is honest for some names.
pub record LooksHonestly {A : Type 0} (items : A → List Looked) (names : Names) (keys : List Key) (mark : List ℕ) (old : Seen) (result : Result A NoMemory) (new : Seen) : Type 0 where
  -- The link is honest for these names after it.
  pub still : new.honest names
  -- However it ends, it sends messages that ask looks at keys of the plan, and nothing else: at most eight
  -- for each key.
  pub asks_looks : Sends keys mark (8 * length keys) old.past new.past
  -- Let the mark be new. Then what it says of each key was so at some moment since it began, or it says that
  -- it is not told. Nothing is asked of the names: where there is none of them, anybody may change any
  -- object meanwhile.
  pub since : IsFresh mark old.past → IfOk result (λ v. AllZip (IsSaid names old.past new.past) keys (items v))

-- What a look says over a link that is calm for some names, where identifiers are distinct.
pub record TellsAll (keys : List Key) (lookeds : List Looked) (old new : Past) : Type 0 where
  -- It is told of each key how it stands over the objects.
  pub stand : AllZip (IsToldOf old.objects) keys lookeds
  -- At most two messages for each key are sent.
  pub few : length new.sent ≤ length old.sent + 2 * length keys

-- What a look promises over a link that is calm for some names.
pub record LooksCalmly {A : Type 0} (items : A → List Looked) (names : Names) (keys : List Key) (old : Seen) (result : Result A NoMemory) (new : Seen) : Type 0 where
  -- The link is calm for these names after it.
  pub still : new.calm names
  -- Unless memory ran out, the objects are as they were.
  pub objects : OnOk result (new.past.objects ≡ old.past.objects)
  -- Unless memory ran out, nothing took effect.
  pub effects : OnOk result (new.past.effects ≡ old.past.effects)
  -- Where no two objects have one identifier, it is told of each key how it stands over these objects, in at
  -- most two messages for each.
  pub stand : DistinctUids old.past.objects → IfOk result (λ v. TellsAll keys (items v) old.past new.past)

-- A look at the keys of a plan over a link: what it says, which `items` reads, and what it makes of the link.
-- Where memory ran out nothing is said of the keys.
pub record Looks {A : Type 0} (items : A → List Looked) (keys : List Key) (mark : List ℕ) (old : Seen) (result : Result A NoMemory) (new : Seen) : Type 0 where
  -- Something is said of each key, in the order of the plan.
  pub as_many : IfOk result (λ v. length (items v) ≡ length keys)
  -- Over a link that is honest for some names, all of this holds.
  pub honestly : (names : Names) → old.honest names → LooksHonestly items names keys mark old result new
  -- Over a link that is calm for some names, all of this holds.
  pub calmly : (names : Names) → old.calm names → LooksCalmly items names keys old result new
