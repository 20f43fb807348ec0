-- Private: what holds of the keys of a group, and of the past, as a look goes on.
-- Source: own (law).
use Rattle.std.specs.Prelude.{◌≡◌, ◌≤◌, ◌⊎◌, ◌+◌, ℕ, Bool, true, false, ⊤, List, [], ◌∷◌, ◌++◌, length, map, Some, None}
use Rattle.std.specs.List.{All, AllZip, Contains}
use Rattle.kmip_objects.specs.ObjectLaws.{ObjectLaws}
use Rattle.kmip_protocol.specs.Laws.{ExchangeLaws}
use Rattle.kmip_server.specs.Laws.{ServerLaws}
use Rattle.kmip_objects.specs.Attributes.{attributes_of}
use Rattle.kmip_objects.specs.Objects.{Object, object_with, DistinctUids}
use Rattle.kmip_objects.specs.Ranges.{is_identifier}
use Rattle.kmip_batch_items.specs.declared.outcome.Outcome.{Outcome}
use Rattle.kmip_batch_items.specs.declared.outcome.Outcome.TheVariants.{Attributes, Located}
use Rattle.kmip_batch_items.specs.declared.reply.Reply.{Reply}
use Rattle.kmip_batch_items.specs.declared.request.Request.{Request}
use Rattle.kmip_plan.specs.Plans.{key_fits}
use Rattle.kmip_plan.specs.declared.key.Key.{Key}
use Rattle.kmip_client.specs.Knowledge.{fresh_knowledge}
use Rattle.kmip_client.specs.Learning.{one_learnt}
use Rattle.kmip_protocol.specs.Headline.{all_named}
use Rattle.kmip_protocol.specs.Moves.{HasFailed}
use Rattle.kmip_protocol.specs.Past.{Names, Past}
use Rattle.kmip_look.specs.Looks.{IsLookAt, Sends}
use Rattle.kmip_look.specs.Moments.{IsLater, WasSo}
use Rattle.kmip_look.specs.PrivateAsking.{is_refused}
use Rattle.kmip_look.specs.Standings.{StandsSo, is_told}
use Rattle.kmip_look.specs.declared.looked.Looked.{Looked}
use Rattle.kmip_look.specs.declared.part.Part.{Part}
use Rattle.kmip_look.specs.declared.part.Part.TheVariants.{Find, Tell}
use Rattle.kmip_look.specs.declared.why.Why.TheVariants.{NotAsked}

-- The laws of the crates below hold.
pub record LookLaws : Type 0 where
  pub objects : ObjectLaws
  pub server : ServerLaws
  pub exchanges : ExchangeLaws

-- ---- one key

-- What is said of a key that was not asked about
abbrev pub unasked : Looked
unasked = record { known = fresh_knowledge; shown = None; why = NotAsked }

-- How far a look has come with a key: nothing was heard, where that may be; one object was found, of which this
-- holds; or it is told how it stands, of which this holds
pub data IsAt (Unheard : Type 0) (Found : List ℕ → Type 0) (Told : Looked → Type 0) (looked : Looked) : Type 0 where
  unheard : Unheard → looked.known ≡ fresh_knowledge → looked.shown ≡ None → IsAt Unheard Found Told looked
  found : {uid : List ℕ} → is_identifier uid ≡ true → Found uid → looked.known ≡ one_learnt uid fresh_knowledge → looked.shown ≡ None
      → IsAt Unheard Found Told looked
  told : is_told looked.known ≡ true → Told looked → IsAt Unheard Found Told looked

-- ---- the keys of a group

-- The values of each key are in their ranges
abbrev pub AreFit : List Key → Type 0
AreFit keys = All (λ (key : Key). key_fits key ≡ true) keys

-- How far a look has come with each key, whatever is true
abbrev pub AreShaped : List Key → List Looked → Type 0
AreShaped keys lookeds = AllZip (λ (key : Key). IsAt ⊤ (λ uid. ⊤) (λ looked. ⊤)) keys lookeds

-- What is told of each key was so
abbrev pub WereSo : Names → Past → Past → List Key → List Looked → Type 0
WereSo names start now keys lookeds = AllZip (λ key. IsAt ⊤ (λ uid. ⊤) (WasSo names start now key)) keys lookeds

-- Messages of looks at keys of the group were sent, whose keys are those of any plan that has these
abbrev pub SendsLooks : List Key → List ℕ → ℕ → Past → Past → Type 0
SendsLooks keys mark most old new = (plan : List Key) → All (Contains plan) keys → Sends plan mark most old new

-- ---- over an honest link

-- What an outcome says of the objects with a name: which there are, or the attributes of some object
abbrev pub SaysOf : List ℕ → List Object → Outcome → Type 0
SaysOf name objects outcome =
    (outcome ≡ Located (map (λ o. o.uid) (all_named name objects)))
    ⊎ ((uid : List ℕ) × (o : Object) × (object_with uid objects ≡ Some o) × (outcome ≡ Attributes uid (attributes_of o)))

-- A request whose id has the mark is a look at the name behind it
abbrev pub IsMarkedLook : List ℕ → Request → Type 0
IsMarkedLook mark request =
    (operation : ℕ) (name : List ℕ) → request.id ≡ Some (operation ∷ (mark ++ name)) → IsLookAt name request.ask

-- What the outcome says of the name was so at some moment
abbrev pub WasSaid : Names → Past → Past → List ℕ → Outcome → Type 0
WasSaid names start now name outcome =
    (then : Past) × IsLater names start then × IsLater names then now × SaysOf name then.objects outcome

-- A reply whose id has the mark has failed, or what it says of the name behind it was so
abbrev pub IsMarkedTrue : Names → List ℕ → Past → Past → Reply → Type 0
IsMarkedTrue names mark start now reply =
    (operation : ℕ) (name : List ℕ) → reply.id ≡ Some (operation ∷ (mark ++ name))
    → HasFailed reply.outcome ⊎ WasSaid names start now name reply.outcome

-- All that was asked and given with the mark came of this look, since its start
pub record Kept (names : Names) (mark : List ℕ) (start now : Past) : Type 0 where
  pub later : IsLater names start now
  pub asked : All (IsMarkedLook mark) now.requests
  pub given : All (IsMarkedTrue names mark start now) now.replies

-- A part of a look goes on over an honest link: what was so is so, and what is told now was so
pub record Goes (names : Names) (mark : List ℕ) (keys : List Key) (olds news : List Looked) (old new : Past) : Type 0 where
  pub later : IsLater names old new
  pub so : (start : Past) → Kept names mark start old → WereSo names start old keys olds
      → Kept names mark start new × WereSo names start new keys news

-- A look at a group over an honest link
pub record LooksAt (names : Names) (mark : List ℕ) (keys : List Key) (lookeds : List Looked) (old new : Past) : Type 0 where
  pub later : IsLater names old new
  pub so : (start : Past) → Kept names mark start old → Kept names mark start new × WereSo names start new keys lookeds

-- ---- over a calm link

-- One object alone has the key's name, and this identifier
abbrev pub IsOnly : List Object → Key → List ℕ → Type 0
IsOnly objects key uid = (o : Object) × (all_named key.attrs.name objects ≡ o ∷ []) × (uid ≡ o.uid)

-- How a key stands before a part, over a calm link
abbrev pub IsBefore : Part → List Object → Key → Looked → Type 0
IsBefore Find objects key looked = IsAt ⊤ (λ uid. ⊥) (StandsSo objects key) looked × (is_refused looked.why ≡ false)
IsBefore Tell objects key looked = IsAt ⊥ (IsOnly objects key) (StandsSo objects key) looked × (is_refused looked.why ≡ false)

-- How it stands after it
abbrev pub IsAfter : Part → List Object → Key → Looked → Type 0
IsAfter Find objects key looked = IsBefore Tell objects key looked
IsAfter Tell objects key looked = IsAt ⊥ (λ uid. ⊥) (StandsSo objects key) looked × (is_refused looked.why ≡ false)

-- Nothing was changed
pub record IsSame (old new : Past) : Type 0 where
  pub objects : new.objects ≡ old.objects
  pub effects : new.effects ≡ old.effects

-- A message of a part over a calm link
pub record GoesCalmly (part : Part) (keys : List Key) (olds news : List Looked) (old new : Past) : Type 0 where
  pub same : IsSame old new
  pub stand : DistinctUids old.objects → AllZip (IsBefore part old.objects) keys olds → AllZip (IsAfter part old.objects) keys news

-- What the parts from one to the other come to, over a calm link
pub record ComesThrough (last : Part) (most : ℕ) (keys : List Key) (news : List Looked) (goes_on : Bool) (old new : Past) : Type 0 where
  pub stand : AllZip (IsAfter last old.objects) keys news
  pub goes : goes_on ≡ true
  pub few : length new.sent ≤ length old.sent + most

-- Parts of a look, from one to the other, and how many messages they take over a calm link at most
pub record Parts : Type 0 where
  pub first : Part
  pub last : Part
  pub most : ℕ

-- One part alone, in one message
abbrev pub one_part : Part → Parts
one_part part = record { first = part; last = part; most = 1 }

-- Both parts, in two messages
abbrev pub both_parts : Parts
both_parts = record { first = Find; last = Tell; most = 2 }

-- These parts over a calm link
pub record GoesThrough (parts : Parts) (keys : List Key) (olds news : List Looked) (goes_on : Bool) (old new : Past) : Type 0 where
  pub same : IsSame old new
  pub comes : DistinctUids old.objects → AllZip (IsBefore parts.first old.objects) keys olds
      → ComesThrough parts.last parts.most keys news goes_on old new

-- A look at a group over a calm link, where more might be asked before it and after it
pub record GroupsCalmly (keys : List Key) (lookeds : List Looked) (might may : Bool) (old new : Past) : Type 0 where
  pub same : IsSame old new
  pub comes : might ≡ true → DistinctUids old.objects → ComesThrough Tell 2 keys lookeds may old new
