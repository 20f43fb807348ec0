-- What the formats of replies say is what specs/Replies says by hand, in both directions.
use Rattle.std.proofs.Common.{◌≡◌, ℕ, List, [], Option, Some, None, refl, sym, ap, subst}
use Rattle.std.specs.Option.{option_map, option_map_or}
use Rattle.kmip_ttlv.specs.Node.{Node}
use Rattle.kmip_batch_items.specs.Formats.{inside, SaysIfAny}
use Rattle.kmip_batch_items.specs.Occurrences.{AtMostOnce}
use Rattle.kmip_objects.specs.declared.attrs.Attrs.{Attrs}
use Rattle.kmip_batch_items.specs.declared.outcome.Outcome.{Outcome}
use Rattle.kmip_batch_items.specs.declared.outcome.Outcome.TheVariants.{Created, Located, Attributes, Activated, Revoked, Destroyed, Failed}
use Rattle.kmip_batch_items.specs.declared.standard.TheConstants.{TAG_RESPONSE_PAYLOAD}
use Rattle.kmip_batch_items.specs.Replies.{IsObject, AreFound, IsOutcome}
use Rattle.kmip_batch_items.specs.ReplyFormats.{created_format, identifiers_format, object_format, named_format, answer_format, located_format, success_of_format, success_format, failed_format, outcome_format}
use Rattle.kmip_batch_items.proofs.Readers.{identifier_is, is_identifier_said}
use Rattle.kmip_batch_items.proofs.AttributeLaws.{attrs_are, are_attrs}

-- ---- payloads

found_are : (batch : List Node) (o : Option (List (List ℕ))) → SaysIfAny TAG_RESPONSE_PAYLOAD identifiers_format.Says batch o
    → (payload : Option (List Node)) × AtMostOnce TAG_RESPONSE_PAYLOAD (option_map inside payload) batch × AreFound payload (option_map_or (λ uids. uids) o [])
unfolding identifiers_format
found_are batch None says = (None, says, refl)
found_are batch (Some uids) (payload, stands, (contain, in_range)) = (Some payload, stands, record { stand = contain; in_range = in_range })

are_found : (batch : List Node) (payload : Option (List Node)) (uids : List (List ℕ)) → AtMostOnce TAG_RESPONSE_PAYLOAD (option_map inside payload) batch
    → AreFound payload uids → (o : Option (List (List ℕ))) × SaysIfAny TAG_RESPONSE_PAYLOAD identifiers_format.Says batch o
    × (Located (option_map_or (λ all. all) o []) ≡ Located uids)
unfolding identifiers_format
are_found batch None uids stands are = (None, stands, ap Located (sym are))
are_found batch (Some payload) uids stands are = (Some uids, (payload, stands, (are.stand, are.in_range)), refl)

object_is : (payload : List Node) (uid : List ℕ) (attrs : Attrs) → object_format.Says payload (uid, attrs) → IsObject payload uid attrs
unfolding object_format
object_is payload uid attrs (identifier, (attributes, stands, are)) = record {
  attributes = attributes;
  is_identifier = identifier_is payload uid identifier;
  has_attributes = stands;
  are = attrs_are attributes attrs are;
}

is_object : (payload : List Node) (uid : List ℕ) (attrs : Attrs) → IsObject payload uid attrs → object_format.Says payload (uid, attrs)
unfolding object_format
is_object payload uid attrs p = (is_identifier_said payload uid p.is_identifier, (p.attributes, p.has_attributes, are_attrs p.attributes attrs p.are))

-- ---- outcomes

pub outcome_is : (batch : List Node) (asked : Option ℕ) (o : Outcome) → (outcome_format asked).Says batch o → IsOutcome batch asked o
unfolding outcome_format success_format success_of_format located_format answer_format named_format created_format failed_format
outcome_is batch asked (Created uid) ((status, _), (own, (x, (payload, stands, (_, says)), same))) = subst (IsOutcome batch asked) same (record {
  is_own = own;
  has_status = status;
  payload = payload;
  has_payload = stands;
  says = identifier_is payload x says;
})
outcome_is batch asked (Located uids) ((status, _), (own, (x, says, same))) =
    let are = found_are batch x says in
    subst (IsOutcome batch asked) same (record { is_own = own; has_status = status; payload = are.0; has_payload = are.1; says = are.2 })
outcome_is batch asked (Attributes uid attrs) ((status, _), (own, (x, (payload, stands, says), same))) = subst (IsOutcome batch asked) same (record {
  is_own = own;
  has_status = status;
  payload = payload;
  has_payload = stands;
  says = object_is payload x.0 x.1 says;
})
outcome_is batch asked (Activated uid) ((status, _), (own, (x, (payload, stands, says), same))) = subst (IsOutcome batch asked) same (record {
  is_own = own;
  has_status = status;
  payload = payload;
  has_payload = stands;
  says = identifier_is payload x says;
})
outcome_is batch asked (Revoked uid) ((status, _), (own, (x, (payload, stands, says), same))) = subst (IsOutcome batch asked) same (record {
  is_own = own;
  has_status = status;
  payload = payload;
  has_payload = stands;
  says = identifier_is payload x says;
})
outcome_is batch asked (Destroyed uid) ((status, _), (own, (x, (payload, stands, says), same))) = subst (IsOutcome batch asked) same (record {
  is_own = own;
  has_status = status;
  payload = payload;
  has_payload = stands;
  says = identifier_is payload x says;
})
outcome_is batch asked (Failed reason) ((status, _), (x, says, same)) = subst (IsOutcome batch asked) same (record { has_status = status; has_reason = says })

pub is_outcome : (batch : List Node) (asked : Option ℕ) (o : Outcome) → IsOutcome batch asked o → (outcome_format asked).Says batch o
unfolding outcome_format success_format success_of_format located_format answer_format named_format created_format failed_format
is_outcome batch asked (Created uid) p =
    ((p.has_status, refl), (p.is_own, (uid, (p.payload, p.has_payload, (tt, is_identifier_said p.payload uid p.says)), refl)))
is_outcome batch asked (Located uids) p = ((p.has_status, refl), (p.is_own, are_found batch p.payload uids p.has_payload p.says))
is_outcome batch asked (Attributes uid attrs) p =
    ((p.has_status, refl), (p.is_own, ((uid, attrs), (p.payload, p.has_payload, is_object p.payload uid attrs p.says), refl)))
is_outcome batch asked (Activated uid) p =
    ((p.has_status, refl), (p.is_own, (uid, (p.payload, p.has_payload, is_identifier_said p.payload uid p.says), refl)))
is_outcome batch asked (Revoked uid) p =
    ((p.has_status, refl), (p.is_own, (uid, (p.payload, p.has_payload, is_identifier_said p.payload uid p.says), refl)))
is_outcome batch asked (Destroyed uid) p =
    ((p.has_status, refl), (p.is_own, (uid, (p.payload, p.has_payload, is_identifier_said p.payload uid p.says), refl)))
is_outcome batch asked (Failed reason) p = ((p.has_status, refl), (reason, p.has_reason, refl))
