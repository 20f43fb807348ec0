-- A reader reads what a relation says: a value is read just where the relation holds of it.
use Rattle.std.proofs.Common.{◌≡◌, ℕ, true, List, Option, Some, None, Ok, Err, ◌==◌, refl, sym, ap, subst, ◌∙◌}
use Rattle.std.proofs.lemmas.Bool.{eqb-true, eq-eqb}
use Rattle.kmip_ttlv.specs.Node.{Node, node, Content, enumeration, tag_of, content_of, as_structure}
use Rattle.kmip_ttlv.proofs.ReadSteps.{Reads, not_ok, reads-ok, reads-as}
use Rattle.kmip_batch_items.specs.declared.message_fault.MessageFault.TheVariants.{NotMessage}
use Rattle.kmip_batch_items.specs.Formats.{inside, enumerations, texts, bytes}
use Rattle.kmip_batch_items.specs.PrivateFormatLaws.{IsPart}
use Rattle.kmip_batch_items.proofs.ItemReads.{reads-if, same_some, not_some, structure_kind, enumeration_kind, text_kind, bytes_kind}
use Rattle.kmip_batch_items.proofs.FormatParts.{required-part, optional-part, ranged-part, fixed-part}
use Rattle.kmip_batch_items.specs.declared.standard.TheConstants.{TAG_UNIQUE_BATCH_ITEM_ID, TAG_UNIQUE_IDENTIFIER, TAG_NAME_TYPE, NAME_TYPE_UNINTERPRETED_TEXT_STRING}
use Rattle.kmip_batch_items.specs.Occurrences.{Once}
use Rattle.kmip_batch_items.specs.Marks.{IsMarked, IsIdentifier}
use Rattle.kmip_batch_items.specs.Parts.{message_in, message_at, id_format, identifier_format, plain_format}

-- ---- parts of both kinds of message

-- the items of a message of this tag
message_as : (tag own : ℕ) (content : Content) (o : Option (List Node)) → as_structure content ≡ o
    → Reads (message_in tag own o) (λ items. node own content ≡ node tag (inside items))
message_as tag own content None is = record {
  sound = λ a e. not_ok NotMessage a e;
  complete = λ a e. not_some a (sym is ∙ ap (λ n. as_structure (content_of n)) e ∙ structure_kind.made a);
}
message_as tag own content (Some ns) is = reads-if (own == tag) (Ok ns) (Err NotMessage) _
    (λ same. reads-as (Ok ns) _ _
    (λ a p. ap (λ t. node t content) (eqb-true own tag same) ∙ ap (node tag) (sym (structure_kind.told content ns is) ∙ ap inside p))
    (λ a e. same_some ns a (sym is ∙ ap (λ n. as_structure (content_of n)) e ∙ structure_kind.made a))
    (reads-ok ns))
    (λ other. record {
      sound = λ a e. not_ok NotMessage a e;
      complete = λ a e. let same : (own == tag) ≡ true = eq-eqb own tag (ap tag_of e) in absurd cc;
    })

pub reads-message : (tag : ℕ) (n : Node) → Reads (message_at tag n) (λ items. n ≡ node tag (inside items))
unfolding message_at
reads-message tag (node own content) = message_as tag own content (as_structure content) refl

pub id_part : IsPart id_format
unfolding id_format
id_part = ranged-part _ _ _ (optional-part bytes TAG_UNIQUE_BATCH_ITEM_ID bytes_kind)

pub identifier_part : IsPart identifier_format
unfolding identifier_format
identifier_part = ranged-part _ _ _ (required-part texts TAG_UNIQUE_IDENTIFIER text_kind)

pub id_is : (batch : List Node) (id : Option (List ℕ)) → id_format.Says batch id → IsMarked batch id
unfolding id_format
id_is batch id says = record { stands = says.0; in_range = says.1 }

pub is_id : (batch : List Node) (id : Option (List ℕ)) → IsMarked batch id → id_format.Says batch id
unfolding id_format
is_id batch id is = (is.stands, is.in_range)

pub identifier_is : (payload : List Node) (uid : List ℕ) → identifier_format.Says payload uid → IsIdentifier payload uid
unfolding identifier_format
identifier_is payload uid says = record { stands = says.0; in_range = says.1 }

pub is_identifier_said : (payload : List Node) (uid : List ℕ) → IsIdentifier payload uid → identifier_format.Says payload uid
unfolding identifier_format
is_identifier_said payload uid is = (is.stands, is.in_range)

pub plain_part : IsPart plain_format
plain_part = fixed-part _ _ _ _ refl refl (required-part enumerations TAG_NAME_TYPE enumeration_kind)

-- what it says
pub plain_is : (name : List Node) → plain_format.Says name tt → Once TAG_NAME_TYPE (enumeration NAME_TYPE_UNINTERPRETED_TEXT_STRING) name
plain_is name (kind, stands, plain) =
    subst (λ t. Once TAG_NAME_TYPE (enumeration t) name) (eqb-true kind NAME_TYPE_UNINTERPRETED_TEXT_STRING plain) stands
