-- What goes through each attribute of the profile: a search by the name alone, the objects that have what is
-- given, and what is told of an object.
-- Source: KMIP 2.1, Operations, Locate and Get Attributes. Own (choice): masks of usage are compared by
-- equality, where the standard asks that the object's mask has all the bits that are given.
use Rattle.std.specs.Prelude.{ℕ, ◌==◌, nat_eq, Bool, true, ◌&&◌, List, Some, None}
use Rattle.std.specs.Cmp.Lexicographic.{pointwise}
use Rattle.std.specs.Option.{option_map_or}
use Rattle.std.specs.Ordering.{int_eq}
use Rattle.kmip_objects.specs.Objects.{Object}
use Rattle.kmip_objects.specs.States.{state_number}
use Rattle.kmip_objects.specs.declared.attrs.Attrs.{Attrs}
use Rattle.kmip_objects.specs.declared.key_attrs.KeyAttrs.{KeyAttrs}
use Rattle.kmip_objects.specs.declared.standard.TheConstants.{OBJECT_TYPE_SYMMETRIC_KEY}
use Rattle.kmip_objects.specs.declared.key_state.KeyState.{KeyState}

-- the attributes that give this name and nothing else: what a search by a name alone gives
abbrev pub by_name : List ℕ → Attrs
by_name name = record { object_type = None; name = Some name; algorithm = None; length = None; usage = None; state = None }

-- Whether the object that was made with these attributes, in this state, has every attribute that is given.
abbrev pub has_given : Attrs → KeyAttrs → KeyState → Bool
has_given given attrs state =
    option_map_or (λ name. pointwise nat_eq name attrs.name) given.name true
    && option_map_or (λ n. n == OBJECT_TYPE_SYMMETRIC_KEY) given.object_type true
    && option_map_or (λ n. n == attrs.algorithm) given.algorithm true
    && option_map_or (λ n. int_eq n attrs.length) given.length true
    && option_map_or (λ n. int_eq n attrs.usage) given.usage true
    && option_map_or (λ n. n == state_number state) given.state true

-- the attributes that Get Attributes tells of an object: every one of the profile
abbrev pub attributes_of : Object → Attrs
attributes_of o = record {
  object_type = Some OBJECT_TYPE_SYMMETRIC_KEY;
  name = Some o.attrs.name;
  algorithm = Some o.attrs.algorithm;
  length = Some o.attrs.length;
  usage = Some o.attrs.usage;
  state = Some (state_number o.state);
}
