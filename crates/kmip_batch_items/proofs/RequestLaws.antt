-- The formats of requests are good: what is read is what is said, and what is written says it again.
use Rattle.std.proofs.Common.{◌≡◌, ℕ, ℤ, Bool, true, false, List, ◌∷◌, [], Option, Some, None, ◌==◌, ◌&&◌, if◌then◌else◌, refl, sym, ap, subst, ◌∙◌}
use Rattle.std.proofs.lemmas.Bool.{eqb-true, and_parts}
use Rattle.std.specs.List.{find}
use Rattle.std.specs.Option.{option_map_or}
use Rattle.kmip_ttlv.specs.Node.{Node}
use Rattle.kmip_batch_items.specs.Formats.{integers, enumerations, texts, structure_of, SaysTold}
use Rattle.kmip_batch_items.specs.PrivateFormatLaws.{IsGood, IsPart}
use Rattle.kmip_batch_items.proofs.ItemReads.{same_some, integer_kind, enumeration_kind, text_kind}
use Rattle.kmip_batch_items.proofs.FormatParts.{required-part, optional-part, structure-part, ranged-part, fixed-part, present-part, as_record-good, as_record-part, as_case-good, both-part, reversed-part, left-part, right-part, followed-part, told-part, closed-good}
use Rattle.kmip_objects.specs.declared.key_attrs.KeyAttrs.{KeyAttrs}
use Rattle.kmip_objects.specs.declared.attrs.Attrs.{Attrs}
use Rattle.kmip_objects.specs.Ranges.{is_name, is_algorithm, is_length, is_usage, attrs_fit}
use Rattle.kmip_batch_items.specs.declared.operation.Operation.{Operation}
use Rattle.kmip_batch_items.specs.declared.operation.Operation.TheVariants as operations
use Rattle.kmip_batch_items.specs.declared.ask.Ask.{Ask}
use Rattle.kmip_batch_items.specs.declared.ask.Ask.TheVariants.{Create, Locate, GetAttributes, Activate, Revoke, Destroy}
use Rattle.kmip_batch_items.specs.declared.request.Request.{Request}
use Rattle.kmip_batch_items.specs.declared.standard.TheConstants.{TAG_REQUEST_PAYLOAD}
use Rattle.kmip_batch_items.specs.Operations.{operation_number, all_operations, operation_with, ask_operation, operation_of}
use Rattle.kmip_batch_items.specs.Parts.{id_format, identifier_format}
use Rattle.kmip_batch_items.specs.Ranges.{is_batch_id}
use Rattle.kmip_batch_items.specs.RequestFits.{ask_fits, request_fits}
use Rattle.kmip_batch_items.specs.RequestFormats.{name_parts_format, name_format, key_attrs_format, filter_format, in_create, in_locate, in_get_attributes, in_activate, in_revoke, in_destroy, create_format, locate_format, reason_format, revoke_format, payload_format, version_parts_format, known_format, asked_format, item_format}
use Rattle.kmip_batch_items.proofs.AttributeLaws.{attrs_with-part}
use Rattle.kmip_batch_items.proofs.Readers.{id_part, identifier_part, plain_part}

-- ---- attributes

name_parts-part : IsPart name_parts_format
unfolding name_parts_format
name_parts-part = left-part _ _ refl (ranged-part _ _ _ (required-part texts _ text_kind)) plain_part

name-part : IsPart name_format
name-part = structure-part _ _ name_parts-part.good

key_attrs-good : IsGood key_attrs_format
unfolding key_attrs_format
key_attrs-good = closed-good _ (as_record-part _ _ _ (λ p. refl) (λ k. refl)
    (both-part _ _ refl name-part (both-part _ _ refl
    (ranged-part _ _ _ (both-part _ _ refl (ranged-part _ _ _ (required-part enumerations _ enumeration_kind)) (required-part integers _ integer_kind)))
    (ranged-part _ _ _ (required-part integers _ integer_kind))))).good

filter-good : IsGood filter_format
unfolding filter_format
filter-good = closed-good _ (attrs_with-part _ refl (present-part _ name-part)).good

-- ---- payloads

create-good : IsGood create_format
unfolding create_format
create-good = (right-part _ _ refl (fixed-part _ _ _ _ refl refl (required-part enumerations _ enumeration_kind)) (structure-part _ _ key_attrs-good)).good

created : (a : Ask) (x : KeyAttrs) → in_create a ≡ Some x → Create x ≡ a
created (Create k) x e = cc
created a x e = absurd cc

located : (a : Ask) (x : Option ℤ × Attrs) → in_locate a ≡ Some x → Locate x.0 x.1 ≡ a
located (Locate storage filter) x e = cc
located a x e = absurd cc

attributes_asked : (a : Ask) (x : List ℕ) → in_get_attributes a ≡ Some x → GetAttributes x ≡ a
attributes_asked (GetAttributes uid) x e = cc
attributes_asked a x e = absurd cc

activated : (a : Ask) (x : List ℕ) → in_activate a ≡ Some x → Activate x ≡ a
activated (Activate uid) x e = cc
activated a x e = absurd cc

revoked : (a : Ask) (x : List ℕ × ℕ) → in_revoke a ≡ Some x → Revoke x.0 x.1 ≡ a
revoked (Revoke uid code) x e = cc
revoked a x e = absurd cc

destroyed : (a : Ask) (x : List ℕ) → in_destroy a ≡ Some x → Destroy x ≡ a
destroyed (Destroy uid) x e = cc
destroyed a x e = absurd cc

locate-good : IsGood locate_format
unfolding locate_format
locate-good = as_case-good _ _ _ located (both-part _ _ refl (optional-part integers _ integer_kind) (structure-part _ _ filter-good)).good

reason-part : IsPart reason_format
unfolding reason_format
reason-part = ranged-part _ _ _ (required-part enumerations _ enumeration_kind)

revoke-good : IsGood revoke_format
unfolding revoke_format identifier_format
revoke-good = as_case-good _ _ _ revoked (both-part _ _ refl identifier_part (structure-part _ _ reason-part.good)).good

payload-good : (operation : Operation) → IsGood (payload_format operation)
unfolding payload_format
payload-good operations.Create = as_case-good _ _ _ created create-good
payload-good operations.Locate = locate-good
payload-good operations.GetAttributes = as_case-good _ _ _ attributes_asked identifier_part.good
payload-good operations.Activate = as_case-good _ _ _ activated identifier_part.good
payload-good operations.Revoke = revoke-good
payload-good operations.Destroy = as_case-good _ _ _ destroyed identifier_part.good

-- ---- operations and their numbers

-- the number of an operation is that of no other
pub number_with : (operation : Operation) → operation_with (operation_number operation) ≡ Some operation
number_with operations.Create = refl
number_with operation = refl

-- the value that is found passes the test
found_passes : {A : Type 0} (test : A → Bool) (first : A) (b : Bool) (rest : Option A) (x : A) → test first ≡ b → (rest ≡ Some x → test x ≡ true)
    → (if b then Some first else rest) ≡ Some x → test x ≡ true
found_passes test first true rest x passes later is = subst (λ y. test y ≡ true) (same_some first x is) passes
found_passes test first false rest x passes later is = later is

find_passes : {A : Type 0} (test : A → Bool) (all : List A) (x : A) → find test all ≡ Some x → test x ≡ true
find_passes test [] x is = absurd cc
find_passes test (first ∷ rest) x is = found_passes test first (test first) (find test rest) x refl (λ e. find_passes test rest x e) is

-- the operation of a number has that number
pub with_number : (number : ℕ) (operation : Operation) → operation_with number ≡ Some operation → operation_number operation ≡ number
with_number number operation is = sym (eqb-true number (operation_number operation) (find_passes (λ o. number == operation_number o) all_operations operation is))

-- what a payload says is of its operation
payload_is_own : (operation : Operation) (payload : List Node) (a : Ask) → (payload_format operation).Says payload a → ask_operation a ≡ operation
unfolding payload_format locate_format revoke_format
payload_is_own operations.Create payload a says = ap ask_operation (sym says.2)
payload_is_own operation payload a says = ap ask_operation (sym says.2)

-- ---- the version, and the Batch Item

pub version_parts-part : IsPart version_parts_format
unfolding version_parts_format
version_parts-part = fixed-part _ _ _ _ refl refl (both-part _ _ refl (required-part integers _ integer_kind) (required-part integers _ integer_kind))

pub known-part : IsPart known_format
unfolding known_format id_format
known-part = reversed-part _ _ refl (required-part enumerations _ enumeration_kind) id_part

pub asked-part : (number : ℕ) → IsPart (asked_format number)
unfolding asked_format
asked-part number = told-part _ _ _ _ (λ operation. refl) (λ operation. structure-part _ _ (payload-good operation))

asked_tags : (number : ℕ) → (asked_format number).tags ≡ TAG_REQUEST_PAYLOAD ∷ []
unfolding asked_format
asked_tags number = refl

-- what is said goes by the operation of the number, where there is one
told_own : (number : ℕ) (known : Option Operation) (batch : List Node) (a : Ask) → operation_with number ≡ known
    → SaysTold (λ operation. structure_of TAG_REQUEST_PAYLOAD (payload_format operation)) known batch a → operation_of a ≡ number
told_own number None batch a is says = absurd cc
told_own number (Some operation) batch a is (payload, _, says) =
    ap operation_number (payload_is_own operation payload a says) ∙ with_number number operation is

pub asked_is_own : (number : ℕ) (batch : List Node) (a : Ask) → (asked_format number).Says batch a → operation_of a ≡ number
unfolding asked_format
asked_is_own number batch a says = told_own number (operation_with number) batch a refl says

pub item-good : IsGood item_format
unfolding item_format known_format id_format
item-good = as_record-good _ _ _ (λ ns p says. ap (λ o. ((o, p.0.1), p.1)) (asked_is_own p.0.0 ns p.1 says.1)) (λ r. refl)
    (followed-part _ _ _ refl (λ known. asked_tags known.0) known-part (λ known. asked-part known.0)).good

-- ---- a request in its ranges is one that the formats can say

both : (a b : Bool) → a ≡ true → b ≡ true → (a && b) ≡ true
both a b p q = rw (p, q) refl

key_fits : (k : KeyAttrs) → attrs_fit k ≡ true → create_format.fits k ≡ true
unfolding create_format key_attrs_format name_parts_format
key_fits k fits =
    let last = and_parts _ (is_usage k.usage) fits in
    let middle = and_parts _ (is_length k.algorithm k.length) last.0 in
    let first = and_parts (is_name k.name) (is_algorithm k.algorithm) middle.0 in
    rw (first.0, first.1, middle.1, last.1) refl

filter_fits : (o : Option (List ℕ)) → option_map_or is_name o false ≡ true → option_map_or name_format.fits o false ≡ true
unfolding name_parts_format
filter_fits None fits = fits
filter_fits (Some text) fits = both (is_name text) true fits refl

payload_fits : (a : Ask) → ask_fits a ≡ true → (payload_format (ask_operation a)).fits a ≡ true
unfolding payload_format locate_format filter_format revoke_format reason_format identifier_format
payload_fits (Create k) fits = key_fits k fits
payload_fits (Locate storage filter) fits = both (option_map_or name_format.fits filter.name false) true (filter_fits filter.name fits) refl
payload_fits a fits = fits

asked_fits : (a : Ask) → ask_fits a ≡ true → (asked_format (operation_of a)).fits a ≡ true
unfolding asked_format
asked_fits a fits = rw (number_with (ask_operation a)) (payload_fits a fits)

pub item_fits : (r : Request) → request_fits r ≡ true → item_format.fits r ≡ true
unfolding item_format known_format id_format
item_fits r fits =
    let parts = and_parts (option_map_or is_batch_id r.id true) (ask_fits r.ask) fits in
    both (option_map_or is_batch_id r.id true) ((asked_format (operation_of r.ask)).fits r.ask) parts.0 (asked_fits r.ask parts.1)
