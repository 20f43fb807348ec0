-- Which requests have their values in range: these have a written form.
-- Source: own (choice): the ranges of the fields.
use Rattle.std.specs.Prelude.{Bool, true, false, ◌&&◌}
use Rattle.std.specs.Option.{option_map_or}
use Rattle.kmip_batch_items.specs.Ranges.{is_batch_id}
use Rattle.kmip_batch_items.specs.declared.ask.Ask.{Ask}
use Rattle.kmip_batch_items.specs.declared.ask.Ask.TheVariants.{Create, Locate, GetAttributes, Activate, Revoke, Destroy}
use Rattle.kmip_batch_items.specs.declared.request.Request.{Request}
use Rattle.kmip_objects.specs.Ranges.{is_name, is_identifier, is_revocation_code, attrs_fit}

-- whether the values of what is asked are in their ranges
abbrev pub ask_fits : Ask → Bool
ask_fits (Create k) = attrs_fit k
ask_fits (Locate mask filter) = option_map_or is_name filter.name false
ask_fits (GetAttributes uid) = is_identifier uid
ask_fits (Activate uid) = is_identifier uid
ask_fits (Revoke uid code) = is_identifier uid && is_revocation_code code
ask_fits (Destroy uid) = is_identifier uid

-- whether the values of a request are in their ranges, which is all that a written form needs
abbrev pub request_fits : Request → Bool
request_fits r = option_map_or is_batch_id r.id true && ask_fits r.ask
