-- The outcomes that are promised are in their ranges, and brief; and what took effect is what was asked.
use Rattle.std.proofs.Common.{◌≡◌, ◌&&◌, ℕ, Bool, true, false, List, [], ◌∷◌, nat_eq, Option, Some, None, option_map, IfSome, IsSome, IsTrue, refl, sym, ap, subst, ◌∙◌, inl, inr, arith}
use Rattle.std.specs.Cmp.Lexicographic.{pointwise}
use Rattle.std.specs.Option.{option_to_list}
use Rattle.std.proofs.lemmas.Bool.{and_parts, cases_Bool}
use Rattle.kmip_objects.specs.Attributes.{attributes_of}
use Rattle.kmip_objects.specs.Objects.{Object, object_with}
use Rattle.kmip_objects.specs.Ranges.{attrs_fit, is_identifier}
use Rattle.kmip_objects.specs.declared.attrs.Attrs.{Attrs}
use Rattle.kmip_objects.specs.declared.step.Step.{Step}
use Rattle.kmip_batch_items.specs.Faults.{is_no_memory}
use Rattle.kmip_batch_items.specs.declared.message_fault.MessageFault.{MessageFault}
use Rattle.kmip_batch_items.specs.declared.message_fault.MessageFault.TheVariants as faults
use Rattle.kmip_batch_items.specs.Fits.{outcome_fits}
use Rattle.kmip_batch_items.specs.Private.{IsBrief}
use Rattle.kmip_batch_items.specs.declared.outcome.Outcome.TheVariants.{Located, Attributes}
use Rattle.kmip_batch_items.specs.declared.standard.TheConstants.{OPERATION_LOCATE, OPERATION_GET_ATTRIBUTES}
use Rattle.kmip_store.specs.declared.row.Row.{Row}
use Rattle.kmip_store.specs.Stepping.{row_with}
use Rattle.kmip_store.specs.Stock.{object_of, objects_of}
use Rattle.kmip_server.specs.Effects.{effect_on}
use Rattle.kmip_server.specs.Reasons.{message_reason}
use Rattle.kmip_server.specs.Serving.{attributes_outcome}
use Rattle.kmip_server.specs.declared.effect.Effect.{Effect}

both : {a b : Bool} → a ≡ true → b ≡ true → (a && b) ≡ true
both h k = rw (h, k) refl

-- ---- the outcomes are in their ranges, and brief

located_one : (found : Option (List ℕ)) → IfSome found (λ uid. IsTrue (is_identifier uid))
    → IsTrue (outcome_fits (Some OPERATION_LOCATE) (Located (option_to_list found))) × IsBrief (Located (option_to_list found))
located_one None identified = (refl, omega arith)
located_one (Some uid) identified = (both refl (both identified refl), omega arith)

-- a Locate's success, of one object at most
pub located_fits : (uids : List (List ℕ)) (found : Option (List ℕ)) → uids ≡ option_to_list found → IfSome found (λ uid. IsTrue (is_identifier uid))
    → IsTrue (outcome_fits (Some OPERATION_LOCATE) (Located uids)) × IsBrief (Located uids)
located_fits uids found is identified =
    subst (λ all. IsTrue (outcome_fits (Some OPERATION_LOCATE) (Located all)) × IsBrief (Located all)) (sym is) (located_one found identified)

-- what Get Attributes tells of an object
pub attributes_fit : (uid : List ℕ) (a : Attrs) (asked : List ℕ) (o : Object) → uid ≡ asked → a ≡ attributes_of o
    → IsTrue (is_identifier asked) → IsTrue (attrs_fit o.attrs)
    → IsTrue (outcome_fits (Some OPERATION_GET_ATTRIBUTES) (Attributes uid a)) × IsBrief (Attributes uid a)
attributes_fit uid a asked o is are identified fits =
    let name = (and_parts _ _ (and_parts _ _ (and_parts _ _ fits).0).0).0 in
    let named : is_identifier uid ≡ true = rw is identified in
    (both refl named, rw are name)

-- what Get Attributes answers where there is the row
pub told_outcome : (uid asked : List ℕ) (a : Attrs) (row : Row) (rows : List Row) → uid ≡ asked → a ≡ attributes_of (object_of row)
    → Some row ≡ row_with asked rows → Attributes uid a ≡ attributes_outcome asked (row_with asked rows)
told_outcome uid asked a row rows same are is =
    ap (λ u. Attributes u a) same ∙ ap (λ b. Attributes asked b) are ∙ ap (attributes_outcome asked) is

-- ---- what took effect

-- the object with an identifier is that of the row with it
object_of_row : (uid : List ℕ) (rows : List Row) → object_with uid (objects_of rows) ≡ option_map object_of (row_with uid rows)
object_of_row uid [] = refl
object_of_row uid (row ∷ rows) = elim (cases_Bool (pointwise nat_eq uid row.uid)) [
  | inl same ↦ rw same refl
  | inr apart ↦ rw apart (object_of_row uid rows)
]

effect_found : (step : Step) (uid : List ℕ) (rows : List Row) (found : Option Row) → found ≡ row_with uid rows
    → effect_on (objects_of rows) (Some (step, uid)) ≡ option_map (λ (o : Object). record { name = o.attrs.name; step = step }) (option_map object_of found)
effect_found step uid rows found is =
    ap (option_map (λ (o : Object). record { name = o.attrs.name; step = step })) (object_of_row uid rows ∙ ap (option_map object_of) (sym is))

pub no_effect : (step : Step) (uid : List ℕ) (rows : List Row) → None ≡ row_with uid rows → None ≡ effect_on (objects_of rows) (Some (step, uid))
no_effect step uid rows is = sym (effect_found step uid rows None is)

pub an_effect : (step : Step) (uid : List ℕ) (rows : List Row) (row : Row) (effect : Effect) → Some row ≡ row_with uid rows
    → effect ≡ record { name = row.attrs.name; step = step } → Some effect ≡ effect_on (objects_of rows) (Some (step, uid))
an_effect step uid rows row effect is same = ap (λ e. Some e) same ∙ sym (effect_found step uid rows (Some row) is)

-- ---- faults of a message

-- a fault with a reason is not want of memory
pub has_reason : (fault : MessageFault) → IsSome (message_reason fault) → is_no_memory fault ≡ false
has_reason (faults.Ttlv f) some = refl
has_reason faults.NotMessage some = refl
has_reason faults.Version some = refl
has_reason faults.BatchCount some = refl
has_reason (faults.Missing t) some = refl
has_reason (faults.Twice t) some = refl
has_reason (faults.WrongType t) some = refl
has_reason (faults.OutOfRange t) some = refl
has_reason faults.UnknownOperation some = refl
has_reason faults.NoMemory some = cc
has_reason faults.Undo some = refl
