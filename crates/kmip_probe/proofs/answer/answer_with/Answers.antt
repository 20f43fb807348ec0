-- What an answer tells is in its ranges where the reply's values are.
use Rattle.std.specs.Prelude.{true}
use Rattle.std.specs.Option.{option_map_or}
use Rattle.std.proofs.lemmas.Bool.{and_parts}
use Rattle.kmip_batch_items.specs.Fits.{outcome_fits}
use Rattle.kmip_batch_items.specs.Ranges.{is_batch_id}
use Rattle.kmip_probe.proofs.answer.answer_with.Goals as goal

pub returns-clause-lawful : goal.returns-clause-lawful
returns-clause-lawful c = λ fits.
    let reply = c.args.reply in
    c.answer_marked.ensures.lawful reply.operation (and_parts (option_map_or is_batch_id reply.id true) (outcome_fits reply.operation reply.outcome) fits).1
