-- The pieces are these.
use Rattle.std.proofs.Common.{ℕ, List, Bor, codes, map, option_map, ap, ap₂, ◌∙◌}
use Rattle.serde_json.specs.Data.{Data, string}
use Rattle.kmip_report.specs.Documents.{count_or_null}
use Rattle.kmip_report.specs.Pieces.{noted, number_or, said, shown_or, signed_or, told_if, word, word_or, words}
use Rattle.kmip_report.proofs.ForCallers.{last_piece, said_as, then_pieces}
use Rattle.kmip_client.specs.Verdicts.{verdict_word}
use Rattle.kmip_look.specs.declared.shown.Shown.{Shown}
use Rattle.kmip_look_command.specs.LookReport.{bits_of, has_attributes, has_state, is_other_type, line_by, standing_words}
use Rattle.kmip_look_command.proofs.line.pieces_of_key.Goals as goal

pub returns : goal.returns
unfolding line_by
returns c =
    let stands = c.of-standing.ensures in
    let told = c.numbers_told-told.ensures in
    let is_shown = c.has_attributes-is_shown.ensures ∙ ap (has_attributes c.args.looked.now.shown) stands in
    then_pieces (c.word.ensures ∙ ap (word (codes "") (codes "key")) c.as_str.ensures)
    (then_pieces (c.word-3.ensures ∙ ap (word (codes " ") (codes "target")) c.word-2.ensures)
    (then_pieces (c.shown_or.ensures ∙ ap (shown_or (codes " ") (codes "identifier") (codes " -")) c.identifier_of.ensures)
    (then_pieces
    (c.told_if.ensures
    ∙ ap₂ told_if (c.has_state-has_state.ensures ∙ ap has_state stands) (c.word_or.ensures ∙ ap (word_or (codes " ") (codes "state") (codes " no state")) (c.text_in.ensures ∙ c.requires.state)))
    (then_pieces (ap (λ (pair : List ℕ × Data). noted pair.0 pair.1) (said_as c.text.ensures (ap string (c.word-4.ensures ∙ ap verdict_word c.verdict.ensures))))
    (then_pieces (ap said (c.words.ensures ∙ ap standing_words stands))
    (then_pieces (c.words-2.ensures ∙ ap (words (codes "") (codes "to_do")) (ap (map (λ (word : Bor (List ℕ)). word.now)) c.as_slice.ensures.value ∙ c.requires.to_do))
    (then_pieces
    (c.told_if-3.ensures
    ∙ ap₂ told_if is_shown
    (c.told_if-2.ensures
    ∙ ap₂ told_if (c.is_other_type.ensures ∙ ap (λ (t : Shown). is_other_type t.object_type) told)
    (c.number_or.ensures
    ∙ ap (number_or (codes " type ") (codes "type") (codes " type -")) (c.number_in.ensures ∙ ap (λ (t : Shown). t.object_type) told))))
    (then_pieces
    (c.told_if-4.ensures
    ∙ ap₂ told_if is_shown (c.word_or-2.ensures ∙ ap (word_or (codes " ") (codes "algorithm") (codes " -")) (c.text_in-2.ensures ∙ c.requires.algorithm)))
    (then_pieces
    (c.told_if-5.ensures
    ∙ ap₂ told_if is_shown (c.signed_or.ensures ∙ ap (λ (t : Shown). signed_or (codes " ") (codes "length") (codes " -") t.length) told))
    (then_pieces (c.told_if-6.ensures ∙ ap₂ told_if is_shown (ap said (c.as_str-2.ensures.value ∙ c.requires.usage)))
    (then_pieces
    (ap (λ (pair : List ℕ × Data). noted pair.0 pair.1)
    (said_as c.count_or_null.ensures (ap count_or_null (c.bits_told.ensures ∙ ap (λ (t : Shown). option_map bits_of t.usage) told))))
    (last_piece (c.word_or-3.ensures ∙ ap (word_or (codes "") (codes "not_told") (codes "")) (c.text_in-3.ensures ∙ c.requires.why))))))))))))))
