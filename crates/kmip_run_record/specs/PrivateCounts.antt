-- Private: how often something happened to an operation.
-- Source: own (view).
use Rattle.std.specs.Prelude.{ℕ}
use Rattle.kmip_batch_items.specs.declared.operation.Operation.{Operation}
use Rattle.kmip_batch_items.specs.declared.operation.Operation.TheVariants.{Create, Locate, GetAttributes, Activate, Revoke, Destroy}
use Rattle.kmip_run_record.specs.OperationCounts.{one_more}
use Rattle.kmip_run_record.specs.declared.counts.Counts.{Counts}

-- How often it happened to an operation.
abbrev pub count_of : Counts → Operation → ℕ
count_of counts Create = counts.create
count_of counts Locate = counts.locate
count_of counts GetAttributes = counts.get_attributes
count_of counts Activate = counts.activate
count_of counts Revoke = counts.revoke
count_of counts Destroy = counts.destroy

-- It happened to an operation once more.
abbrev pub counting : Operation → Counts → Counts
counting Create counts = record counts { create = one_more counts.create }
counting Locate counts = record counts { locate = one_more counts.locate }
counting GetAttributes counts = record counts { get_attributes = one_more counts.get_attributes }
counting Activate counts = record counts { activate = one_more counts.activate }
counting Revoke counts = record counts { revoke = one_more counts.revoke }
counting Destroy counts = record counts { destroy = one_more counts.destroy }
