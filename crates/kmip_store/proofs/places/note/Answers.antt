-- The text is new, so its entry is the last.
use Rattle.std.proofs.Common.{string_bytes, Some, ◌∙◌}
use Rattle.std.proofs.lemmas.Map.Text.{hash_map_updates_text}
use Rattle.indexmap.proofs.CallerLemmas.{insert_entry-new}
use Rattle.kmip_store.proofs.places.note.Goals as goal

pub returns-clause-leads : goal.returns-clause-leads
returns-clause-leads c = λ other.
    hash_map_updates_text (string_bytes c.args.text) c.args.places.now c.insert.new.self (Some c.args.place) c.in_ok-insert.ensures.updates other

pub returns-clause-last : goal.returns-clause-last
returns-clause-last c = c.in_ok-insert.ensures.entries ∙ insert_entry-new _ c.args.places.now c.args.text c.args.place c.requires
