-- The formats of replies are good: what is read is what is said, and what is written says it again.
use Rattle.std.proofs.Common.{◌≡◌, ℕ, Bool, true, false, List, [], ◌∷◌, Option, Some, None, ◌==◌, ◌&&◌, ◌||◌, IsTrue, refl, sym, ap, ◌∙◌}
use Rattle.std.proofs.lemmas.Bool.{and_parts, eqb-true}
use Rattle.std.specs.Option.{option_map_or}
use Rattle.kmip_ttlv.specs.Node.{Node}
use Rattle.kmip_batch_items.specs.Formats.{integers, enumerations, texts, SaysTold, choose, Chosen}
use Rattle.kmip_batch_items.specs.PrivateFormatLaws.{IsGood, IsPart}
use Rattle.kmip_batch_items.proofs.ItemReads.{integer_kind, enumeration_kind, text_kind}
use Rattle.kmip_batch_items.proofs.FormatParts.{required-part, optional-part, unread-part, repeated-part, structure-part, optional_structure-part, ranged-part, as_record-good, said_record-part, as_case-part, both-part, reversed-part, left-part, right-part, fixed-part, followed-part, told-part, told_by-part, choose-part}
use Rattle.kmip_objects.specs.declared.attrs.Attrs.{Attrs}
use Rattle.kmip_objects.specs.Ranges.{is_identifier}
use Rattle.kmip_batch_items.specs.declared.operation.Operation.{Operation}
use Rattle.kmip_batch_items.specs.declared.operation.Operation.TheVariants as operations
use Rattle.kmip_batch_items.specs.declared.outcome.Outcome.{Outcome}
use Rattle.kmip_batch_items.specs.declared.outcome.Outcome.TheVariants.{Created, Located, Attributes, Activated, Revoked, Destroyed, Failed}
use Rattle.kmip_batch_items.specs.declared.reply.Reply.{Reply}
use Rattle.kmip_batch_items.specs.declared.standard.TheConstants.{TAG_RESPONSE_PAYLOAD, TAG_RESULT_STATUS, TAG_RESULT_REASON, STATUS_SUCCESS, STATUS_OPERATION_FAILED, OPERATION_GET_ATTRIBUTES}
use Rattle.kmip_batch_items.specs.BatchItems.{answer_fits}
use Rattle.kmip_batch_items.specs.Fits.{is_own, outcome_fits}
use Rattle.kmip_batch_items.specs.Operations.{operation_number, operation_with}
use Rattle.kmip_batch_items.specs.Parts.{id_format, identifier_format}
use Rattle.kmip_batch_items.specs.Ranges.{is_batch_id}
use Rattle.kmip_batch_items.specs.ReplyFormats.{any_name_parts_format, attrs_format, in_created, in_located, in_attributes, in_activated, in_revoked, in_destroyed, in_failed, created_format, identifiers_format, object_format, named_format, located_format, answer_format, succeeded, success_of_format, success_format, failed_format, is_status, status_of, outcome_format, any_version_parts_format, answered_format}
use Rattle.kmip_batch_items.proofs.AttributeLaws.{attrs_with-part}
use Rattle.kmip_batch_items.proofs.Readers.{id_part, identifier_part, plain_part}
use Rattle.kmip_batch_items.proofs.RequestLaws.{with_number}

-- ---- attributes

any_name_parts-part : IsPart any_name_parts_format
unfolding any_name_parts_format
any_name_parts-part = left-part _ _ refl (required-part texts _ text_kind) plain_part

attrs-part : IsPart attrs_format
unfolding attrs_format
attrs-part = attrs_with-part _ refl (optional_structure-part _ _ any_name_parts-part.good)

-- ---- payloads

created : (o : Outcome) (x : List ℕ) → in_created o ≡ Some x → Created x ≡ o
created (Created uid) x e = cc
created o x e = absurd cc

located : (o : Outcome) (x : Option (List (List ℕ))) → in_located o ≡ Some x → Located (option_map_or (λ uids. uids) x []) ≡ o
located (Located uids) None e = absurd cc
located (Located uids) (Some x) e = cc
located o x e = absurd cc

attributes_told : (o : Outcome) (x : List ℕ × Attrs) → in_attributes o ≡ Some x → Attributes x.0 x.1 ≡ o
attributes_told (Attributes uid attrs) x e = cc
attributes_told o x e = absurd cc

activated : (o : Outcome) (x : List ℕ) → in_activated o ≡ Some x → Activated x ≡ o
activated (Activated uid) x e = cc
activated o x e = absurd cc

revoked : (o : Outcome) (x : List ℕ) → in_revoked o ≡ Some x → Revoked x ≡ o
revoked (Revoked uid) x e = cc
revoked o x e = absurd cc

destroyed : (o : Outcome) (x : List ℕ) → in_destroyed o ≡ Some x → Destroyed x ≡ o
destroyed (Destroyed uid) x e = cc
destroyed o x e = absurd cc

failed : (o : Outcome) (x : Option ℕ) → in_failed o ≡ Some x → Failed x ≡ o
failed (Failed reason) x e = cc
failed o x e = absurd cc

created-part : IsPart created_format
unfolding created_format identifier_format
created-part = right-part _ _ refl (unread-part _ _ (refl, tt)) identifier_part

identifiers-part : IsPart identifiers_format
unfolding identifiers_format
identifiers-part = repeated-part texts _ is_identifier text_kind

object-part : IsPart object_format
unfolding object_format identifier_format
object-part = both-part _ _ refl identifier_part (structure-part _ _ attrs-part.good)

named-part : IsPart named_format
unfolding named_format
named-part = structure-part _ _ identifier_part.good

located-part : IsPart located_format
unfolding located_format
located-part = as_case-part _ _ _ located (optional_structure-part _ _ identifiers-part.good)

answer-part : (operation : Operation) → IsPart (answer_format operation)
unfolding answer_format
answer-part operations.Create = as_case-part _ _ _ created (structure-part _ _ created-part.good)
answer-part operations.Locate = located-part
answer-part operations.GetAttributes = as_case-part _ _ _ attributes_told (structure-part _ _ object-part.good)
answer-part operations.Activate = as_case-part _ _ _ activated named-part
answer-part operations.Revoke = as_case-part _ _ _ revoked named-part
answer-part operations.Destroy = as_case-part _ _ _ destroyed named-part

answer_tags : (operation : Operation) → (answer_format operation).tags ≡ TAG_RESPONSE_PAYLOAD ∷ []
unfolding answer_format named_format located_format
answer_tags operations.Create = refl
answer_tags operation = refl

-- ---- outcomes

success_of-part : (number : ℕ) → IsPart (success_of_format number)
unfolding success_of_format
success_of-part number = told-part _ _ _ _ answer_tags answer-part

success_of_tags : (number : ℕ) → (success_of_format number).tags ≡ TAG_RESPONSE_PAYLOAD ∷ []
unfolding success_of_format
success_of_tags number = refl

-- what a payload says is of its operation
answer_is_own : (operation : Operation) (batch : List Node) (a : Outcome) → (answer_format operation).Says batch a → succeeded a ≡ operation_number operation
unfolding answer_format located_format
answer_is_own operations.Create batch a says = ap succeeded (sym says.2)
answer_is_own operation batch a says = ap succeeded (sym says.2)

-- what is said goes by the operation of the number, where there is one
told_own : (number : ℕ) (known : Option Operation) (batch : List Node) (a : Outcome) → operation_with number ≡ known
    → SaysTold answer_format known batch a → succeeded a ≡ number
told_own number None batch a is says = absurd cc
told_own number (Some operation) batch a is says = answer_is_own operation batch a says ∙ with_number number operation is

success_is_own : (number : ℕ) (batch : List Node) (a : Outcome) → (success_of_format number).Says batch a → succeeded a ≡ number
unfolding success_of_format
success_is_own number batch a says = told_own number (operation_with number) batch a refl says

success-part : (asked : Option ℕ) → IsPart (success_format asked)
unfolding success_format
success-part asked = told_by-part _ _ _ _ _ success_of_tags success_is_own success_of-part

failed-part : IsPart failed_format
unfolding failed_format
failed-part = as_case-part _ _ _ failed (optional-part enumerations _ enumeration_kind)

-- a success is no failure, as 0 is no operation
success_status : (asked : Option ℕ) (batch : List Node) (o : Outcome) → (success_format asked).Says batch o → status_of o ≡ STATUS_SUCCESS
unfolding success_format success_of_format
success_status asked batch (Failed reason) says = let none : IsTrue false = says.1 in absurd cc
success_status asked batch o says = refl

failed_status : (batch : List Node) (o : Outcome) → failed_format.Says batch o → status_of o ≡ STATUS_OPERATION_FAILED
unfolding failed_format
failed_status batch o (reason, _, same) = ap status_of (sym same)

chosen : {P Q X : Type 0} (b : Bool) → Chosen b P Q → (b ≡ true → P → X) → (b ≡ false → Q → X) → X
chosen true says first second = first refl says
chosen false says first second = second refl says

second : (x y : Bool) → (x || y) ≡ true → x ≡ false → y ≡ true
second true y e d = absurd cc
second false y e d = e

-- the status of what is said is the one that was read
own_status : (asked : Option ℕ) (status : ℕ) (batch : List Node) (o : Outcome) → is_status status ≡ true
    → Chosen (status == STATUS_SUCCESS) ((success_format asked).Says batch o) (failed_format.Says batch o) → status_of o ≡ status
own_status asked status batch o known says =
    chosen (status == STATUS_SUCCESS) says
    (λ is success. success_status asked batch o success ∙ sym (eqb-true status STATUS_SUCCESS is))
    (λ other failure. failed_status batch o failure ∙ sym (eqb-true status STATUS_OPERATION_FAILED (second _ _ known other)))

outcome_tags : (asked : Option ℕ) → (outcome_format asked).tags ≡ TAG_RESULT_STATUS ∷ TAG_RESPONSE_PAYLOAD ∷ TAG_RESULT_REASON ∷ []
unfolding outcome_format
outcome_tags asked = refl

status_tags : (asked : Option ℕ) (b : Bool) → (choose b (success_format asked) failed_format).tags ≡ TAG_RESPONSE_PAYLOAD ∷ TAG_RESULT_REASON ∷ []
unfolding success_format failed_format
status_tags asked b = refl

outcome-part : (asked : Option ℕ) → IsPart (outcome_format asked)
unfolding outcome_format
outcome-part asked = said_record-part _ _ _ (λ ns p says. ap (λ s. (s, p.1)) (own_status asked p.0 ns p.1 says.0.1 says.1)) (λ o. refl)
    (followed-part _ _ _ refl (λ status. status_tags asked (status == STATUS_SUCCESS)) (ranged-part _ _ _ (required-part enumerations _ enumeration_kind))
    (λ status. choose-part _ _ _ (success-part asked) failed-part))

-- ---- the version, and the Batch Item

pub any_version_parts-part : IsPart any_version_parts_format
unfolding any_version_parts_format
any_version_parts-part = fixed-part _ _ _ _ refl refl (both-part _ _ refl (required-part integers _ integer_kind) (required-part integers _ integer_kind))

pub answered-good : IsGood answered_format
unfolding answered_format id_format
answered-good = as_record-good _ _ _ (λ ns p says. refl) (λ r. refl)
    (followed-part _ _ _ refl (λ known. outcome_tags known.0) (reversed-part _ _ refl (optional-part enumerations _ enumeration_kind) id_part)
    (λ known. outcome-part known.0)).good

-- ---- a reply in its ranges is one that the formats can say

both : (a b : Bool) → a ≡ true → b ≡ true → (a && b) ≡ true
both a b p q = rw (p, q) refl

name_fits_any : (o : Option (List ℕ)) → option_map_or any_name_parts_format.fits o true ≡ true
unfolding any_name_parts_format
name_fits_any None = refl
name_fits_any (Some text) = refl

attrs_fit_any : (a : Attrs) → attrs_format.fits a ≡ true
unfolding attrs_format
attrs_fit_any a = both (option_map_or any_name_parts_format.fits a.name true) true (name_fits_any a.name) refl

payload_fits : (o : Outcome) (asked : Option ℕ) → outcome_fits asked o ≡ true → (outcome_format asked).fits o ≡ true
unfolding outcome_format success_format success_of_format answer_format named_format located_format identifiers_format created_format object_format identifier_format failed_format
payload_fits (Attributes uid attrs) asked fits =
    let each = and_parts (is_own OPERATION_GET_ATTRIBUTES asked) (is_identifier uid) fits in
    both (is_own OPERATION_GET_ATTRIBUTES asked) (is_identifier uid && attrs_format.fits attrs) each.0 (both (is_identifier uid) (attrs_format.fits attrs) each.1 (attrs_fit_any attrs))
payload_fits (Failed reason) asked fits = refl
payload_fits o asked fits = fits

pub answer_in_format : (r : Reply) → answer_fits r ≡ true → answered_format.fits r ≡ true
unfolding answered_format id_format
answer_in_format r fits =
    let parts = and_parts (option_map_or is_batch_id r.id true) (outcome_fits r.operation r.outcome) fits in
    both _ ((outcome_format r.operation).fits r.outcome) parts.0 (payload_fits r.outcome r.operation parts.1)
