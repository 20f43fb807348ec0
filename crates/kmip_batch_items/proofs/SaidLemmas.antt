-- What is answered is in its ranges.
use Rattle.std.proofs.Common.{◌≡◌, ℕ, Bool, true, ◌&&◌, List, Option, Some, None, IsTrue, refl, sym, subst}
use Rattle.std.specs.List.{list_all}
use Rattle.std.proofs.lemmas.Bool.{eq-eqb}
use Rattle.kmip_ttlv.specs.Node.{Node}
use Rattle.kmip_batch_items.specs.declared.outcome.Outcome.{Outcome}
use Rattle.kmip_batch_items.specs.declared.outcome.Outcome.TheVariants.{Created, Located, Attributes, Activated, Revoked, Destroyed, Failed}
use Rattle.kmip_batch_items.specs.Fits.{is_own, outcome_fits}
use Rattle.kmip_objects.specs.Ranges.{is_identifier}
use Rattle.kmip_batch_items.specs.Replies.{AreFound, IsOutcome}

both : (a b : Bool) → a ≡ true → b ≡ true → IsTrue (a && b)
both a b p q = rw (p, q) refl

own_operation : (operation : ℕ) (asked : Option ℕ) → asked ≡ Some operation → is_own operation asked ≡ true
own_operation operation asked is = subst (λ o. is_own operation o ≡ true) (sym is) (eq-eqb operation operation refl)

found_fit : (payload : Option (List Node)) (uids : List (List ℕ)) → AreFound payload uids → list_all is_identifier uids ≡ true
found_fit None uids are = subst (λ us. list_all is_identifier us ≡ true) (sym are) refl
found_fit (Some payload) uids are = are.in_range

-- what an item says of an outcome is in its ranges
pub outcome_in_range : (batch : List Node) (asked : Option ℕ) (o : Outcome) → IsOutcome batch asked o → IsTrue (outcome_fits asked o)
outcome_in_range batch asked (Located uids) is = both _ _ (own_operation _ asked is.is_own) (found_fit is.payload uids is.says)
outcome_in_range batch asked (Attributes uid attrs) is = both _ _ (own_operation _ asked is.is_own) is.says.is_identifier.in_range
outcome_in_range batch asked (Failed reason) is = refl
outcome_in_range batch asked o is = both _ _ (own_operation _ asked is.is_own) is.says.in_range
