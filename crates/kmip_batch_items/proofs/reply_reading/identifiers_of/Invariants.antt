-- What was read, and then what is left, is all of it.
use Rattle.std.proofs.Common.{◌≡◌, drop}
use Rattle.kmip_ttlv.specs.View.{views}
use Rattle.kmip_batch_items.specs.Siblings.{contents}
use Rattle.kmip_batch_items.specs.Formats.{texts, values_in}
use Rattle.kmip_objects.specs.Ranges.{is_identifier}
use Rattle.kmip_batch_items.specs.declared.standard.TheConstants.{TAG_UNIQUE_IDENTIFIER}
use Rattle.kmip_batch_items.proofs.IdentifierLemmas.{with_front}
use Rattle.kmip_batch_items.proofs.reply_reading.identifiers_of.Given as goal

abbrev pub invariant-loop-item : goal.invariant-loop-item
invariant-loop-item l =
    with_front l.uids.items (values_in texts TAG_UNIQUE_IDENTIFIER is_identifier (contents TAG_UNIQUE_IDENTIFIER (views (drop l.item-index l.payload))))
    ≡ values_in texts TAG_UNIQUE_IDENTIFIER is_identifier (contents TAG_UNIQUE_IDENTIFIER (views l.payload))
