-- The text of what is known is what the keeper is given.
use Rattle.std.proofs.Common.{◌≡◌, ◌∙◌, ap, subst, true}
use Rattle.kmip_client.specs.Saving.{progress}
use Rattle.kmip_progress.specs.Saved.{SavedState}
use Rattle.kmip_progress.specs.Suiting.{Suits, are_texts}
use Rattle.kmip_progress.specs.Texts.{progress_text}
use Rattle.kmip_runs.specs.Keeping.{SavesText}
use Rattle.kmip_runs.proofs.LastingLemmas.{saves_progress}
use Rattle.kmip_runs.proofs.carrying.save_progress.Goals as goal

pub returns-clause-whole : goal.returns-clause-whole
returns-clause-whole g c = λ lawful.
    let client = c.args.client.now in
    let old = (g.K.Keeper.kept c.args.keeper.now).disk in
    let new = (g.K.Keeper.kept c.save.new.self).disk in
    let text : c.as_bytes.result.now ≡ progress_text client.keys (progress client) =
    c.as_bytes.ensures ∙ ap (λ (s : SavedState). s.text) c.in_ok-bring_up.ensures.is in
    let suits : Suits client.keys (progress client) = c.in_ok-bring_up.ensures.suits in
    let utf8 : are_texts (progress client) ≡ true = c.in_ok-bring_up.ensures.texts in
    saves_progress old new client c.save.result
    (record {
      read_back = c.texts_are_read_back.ensures client.keys (progress client) c.a_client_has_a_lawful_plan.ensures suits utf8;
      saves = subst (λ t. SavesText old t c.save.result new) text (c.save.ensures.whole lawful);
    })
