-- How long and how deep items are, and those of two parts together.
use Rattle.std.proofs.Common.{◌+◌, ℕ, List, [], ◌∷◌, ◌++◌, map, Option, Some, None, refl, arith}
use Rattle.std.specs.Option.{option_map_or}
use Rattle.kmip_ttlv.specs.Node.{Node, node, Content, nodes_of}
use Rattle.kmip_ttlv.specs.Sizes.{sizes, content_size}
use Rattle.kmip_batch_items.specs.Formats.{Extent, Kind, inside, if_given, given, flat, around, beside, extent_if_any, all_sizes}
use Rattle.kmip_batch_items.specs.PrivateFormatLaws.{IsFlat, IsFlatKind, Spans}

pub spans_one : (tag : ℕ) (c : Content) → IsFlat c → Spans (flat c) (node tag c ∷ [])
spans_one tag c is = record { long = omega arith; deep = omega (arith, is.0); groups = (is.1, tt) }

pub spans_around : (tag : ℕ) (e : Extent) (ns : List Node) → Spans e ns → Spans (around e) (node tag (inside ns) ∷ [])
spans_around tag e ns h = record { long = omega (arith, h.long); deep = omega (arith, h.deep); groups = (h.groups, tt) }

pub spans_if_any : {A : Type 0} (extent : A → Extent) (write : A → List Node) → ((a : A) → Spans (extent a) (write a)) → (o : Option A)
    → Spans (extent_if_any extent o) (if_given write o)
spans_if_any extent write each None = record { long = refl; deep = omega arith; groups = tt }
spans_if_any extent write each (Some a) = each a

pub spans_if_flat : {A : Type 0} (k : Kind A) (tag : ℕ) → IsFlatKind k → (o : Option A)
    → Spans (record { size = option_map_or (λ a. 8 + content_size (k.make a)) o 0; depth = 1 }) (given (λ a. node tag (k.make a)) o)
spans_if_flat k tag is None = record { long = refl; deep = omega arith; groups = tt }
spans_if_flat k tag is (Some a) = spans_one tag (k.make a) (is.flat a)

pub spans_each : {A : Type 0} (k : Kind A) (tag : ℕ) → IsFlatKind k → (all : List A)
    → Spans (record { size = all_sizes (λ a. 8 + content_size (k.make a)) all; depth = 1 }) (map (λ a. node tag (k.make a)) all)
spans_each k tag is [] = record { long = refl; deep = omega arith; groups = tt }
spans_each k tag is (a ∷ all) =
    let rest = spans_each k tag is all in
    record { long = omega (arith, rest.long); deep = omega (arith, (is.flat a).0, rest.deep); groups = ((is.flat a).1, rest.groups) }

pub spans_both : (e d : Extent) (ms ns : List Node) → Spans e ms → Spans d ns → Spans (beside e d) (ms ++ ns)
spans_both e d [] ns h k = record { long = omega (arith, h.long, k.long); deep = omega (arith, k.deep); groups = k.groups }
spans_both e d (m ∷ ms) ns h k =
    let rest = spans_both (record { size = sizes (nodes_of ms); depth = e.depth }) d ms ns
    (record { long = refl; deep = omega (arith, h.deep); groups = h.groups.1 }) k in
    record { long = omega (arith, h.long, rest.long); deep = omega (arith, h.deep, rest.deep); groups = (h.groups.0, rest.groups) }
