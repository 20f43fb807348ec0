-- Which outcomes stand under the operation that was asked, with their values in range.
-- Source: own (choice): the ranges of the fields.
use Rattle.std.specs.Prelude.{ℕ, Bool, true, false, ◌&&◌, ◌==◌, Option}
use Rattle.std.specs.List.{list_all}
use Rattle.std.specs.Option.{option_map_or}
use Rattle.kmip_batch_items.specs.declared.outcome.Outcome.{Outcome}
use Rattle.kmip_batch_items.specs.declared.outcome.Outcome.TheVariants.{Created, Located, Attributes, Activated, Revoked, Destroyed, Failed}
use Rattle.kmip_batch_items.specs.declared.standard.TheConstants.{
  OPERATION_CREATE,
  OPERATION_LOCATE,
  OPERATION_GET_ATTRIBUTES,
  OPERATION_ACTIVATE,
  OPERATION_REVOKE,
  OPERATION_DESTROY,
}
use Rattle.kmip_objects.specs.Ranges.{is_identifier}

-- whether the operation that was asked is this one
abbrev pub is_own : ℕ → Option ℕ → Bool
is_own operation asked = option_map_or (λ o. o == operation) asked false

-- Whether an outcome stands under the operation that was asked, with its identifiers in range. A failure may
-- stand under any operation.
abbrev pub outcome_fits : Option ℕ → Outcome → Bool
outcome_fits asked (Created uid) = is_own OPERATION_CREATE asked && is_identifier uid
outcome_fits asked (Located uids) = is_own OPERATION_LOCATE asked && list_all is_identifier uids
outcome_fits asked (Attributes uid attrs) = is_own OPERATION_GET_ATTRIBUTES asked && is_identifier uid
outcome_fits asked (Activated uid) = is_own OPERATION_ACTIVATE asked && is_identifier uid
outcome_fits asked (Revoked uid) = is_own OPERATION_REVOKE asked && is_identifier uid
outcome_fits asked (Destroyed uid) = is_own OPERATION_DESTROY asked && is_identifier uid
outcome_fits asked (Failed reason) = true
