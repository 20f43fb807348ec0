-- How a key stands over some objects, as a look says it: in the words of what a client would know that knew
-- nothing before.
-- Source: KMIP 2.1, Operations, Locate and Get Attributes; own (view).
use Rattle.std.specs.Prelude.{◌≡◌, ◌≤◌, ◌||◌, ℕ, Bool, List, [], length, Some, None, Ok}
use Rattle.std.specs.Option.{is_some}
use Rattle.kmip_objects.specs.Attributes.{attributes_of}
use Rattle.kmip_objects.specs.Objects.{Object, object_with}
use Rattle.kmip_objects.specs.declared.attrs.Attrs.{Attrs}
use Rattle.kmip_plan.specs.declared.key.Key.{Key}
use Rattle.kmip_client.specs.Clients.{tells}
use Rattle.kmip_client.specs.Knowledge.{fresh_knowledge}
use Rattle.kmip_client.specs.Learning.{attributes_learnt, none_learnt, one_learnt, with_clash}
use Rattle.kmip_client.specs.declared.clash.Clash.TheVariants.{TwoObjects}
use Rattle.kmip_client.specs.declared.knowledge.Knowledge.{Knowledge}
use Rattle.kmip_protocol.specs.Headline.{all_named}
use Rattle.kmip_look.specs.declared.looked.Looked.{Looked}
use Rattle.kmip_look.specs.declared.shown.Shown.{Shown}

-- The numbers in what Get Attributes told.
abbrev pub shown_of : Attrs → Shown
shown_of told = record { object_type = told.object_type; algorithm = told.algorithm; length = told.length; usage = told.usage; state = told.state }

-- It is told how a key stands: it is to be made, the step that is next is known, or a clash was found.
abbrev pub is_told : Knowledge → Bool
is_told known = tells known.phase || is_some known.clash

-- One of the objects has the key's name. Its numbers are shown, and what is known of the key is what its
-- attributes teach of it.
pub record IsThere (objects : List Object) (key : Key) (looked : Looked) : Type 0 where
  pub uid : List ℕ
  pub object : Object
  pub stands : object_with uid objects ≡ Some object
  pub name_is : object.attrs.name ≡ key.attrs.name
  pub shown_is : looked.shown ≡ Some (shown_of (attributes_of object))
  pub learnt : attributes_learnt key (attributes_of object) (one_learnt uid fresh_knowledge) ≡ Ok looked.known

-- The key stands over these objects as the look says.
pub data StandsSo (objects : List Object) (key : Key) (looked : Looked) : Type 0 where
  -- no object has its name
  absent : all_named key.attrs.name objects ≡ [] → looked.known ≡ none_learnt fresh_knowledge → looked.shown ≡ None
      → StandsSo objects key looked
  -- two objects or more have its name
  several : 2 ≤ length (all_named key.attrs.name objects) → looked.known ≡ with_clash TwoObjects fresh_knowledge → looked.shown ≡ None
      → StandsSo objects key looked
  -- an object has its name, and it is this one
  there : IsThere objects key looked → StandsSo objects key looked
