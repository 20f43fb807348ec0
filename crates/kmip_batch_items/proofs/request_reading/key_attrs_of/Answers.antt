-- The four attributes are read one after the other, and each is in its range.
use Rattle.std.proofs.Common.{rules, ◌≡◌, ℕ, ℤ, List, Ok, refl, sym, ap, ◌∙◌}
use Rattle.std.specs.Int.{w32}
use Rattle.std.proofs.Math.Facts.{to_z-of_z}
use Rattle.kmip_ttlv.specs.View.{views}
use Rattle.kmip_ttlv.specs.Node.{Node, as_enumeration, as_integer}
use Rattle.kmip_batch_items.specs.Siblings.{only, the, within}
use Rattle.kmip_objects.specs.Ranges.{is_algorithm, is_length, is_usage}
use Rattle.kmip_batch_items.specs.RequestFormats.{key_attrs_format, name_format}
use Rattle.kmip_batch_items.specs.declared.standard.TheConstants.{KEY_TAGS, TAG_CRYPTOGRAPHIC_ALGORITHM, TAG_CRYPTOGRAPHIC_LENGTH, TAG_CRYPTOGRAPHIC_USAGE_MASK}
use Rattle.kmip_batch_items.proofs.request_reading.key_attrs_of.Goals as goal

read_key : (ns : List Node) (name : List ℕ) (algorithm : ℕ) (length usage : ℤ)
    → only KEY_TAGS ns ≡ Ok tt
    → name_format.read ns ≡ Ok name
    → the as_enumeration TAG_CRYPTOGRAPHIC_ALGORITHM ns ≡ Ok algorithm → within TAG_CRYPTOGRAPHIC_ALGORITHM (is_algorithm algorithm) ≡ Ok tt
    → the as_integer TAG_CRYPTOGRAPHIC_LENGTH ns ≡ Ok length → within TAG_CRYPTOGRAPHIC_LENGTH (is_length algorithm length) ≡ Ok tt
    → the as_integer TAG_CRYPTOGRAPHIC_USAGE_MASK ns ≡ Ok usage → within TAG_CRYPTOGRAPHIC_USAGE_MASK (is_usage usage) ≡ Ok tt
    → key_attrs_format.read ns ≡ Ok (record { name = name; algorithm = algorithm; length = length; usage = usage })
unfolding key_attrs_format
read_key ns name algorithm length usage closed called kind kind_in bits bits_in mask mask_in = rw (closed, called, kind, kind_in, bits, bits_in, mask, mask_in) refl

pub returns-clause-exact : goal.returns-clause-exact
returns-clause-exact c =
    read_key (views c.args.attributes.now) _ _ _ _ (sym c.in_ok-only.ensures) c.in_ok-name.ensures.exact
    c.in_ok-algorithm.ensures (ap (within TAG_CRYPTOGRAPHIC_ALGORITHM) (sym c.is_algorithm.ensures) ∙ sym c.in_ok-within.ensures)
    (c.in_ok-length.ensures ∙ ap Ok (sym (to_z-of_z {w = w32} (search rules)))) (ap (within TAG_CRYPTOGRAPHIC_LENGTH) (sym c.is_length.ensures) ∙ sym c.in_ok-within-2.ensures)
    (c.in_ok-usage.ensures ∙ ap Ok (sym (to_z-of_z {w = w32} (search rules)))) (ap (within TAG_CRYPTOGRAPHIC_USAGE_MASK) (sym c.is_usage.ensures) ∙ sym c.in_ok-within-3.ensures)
