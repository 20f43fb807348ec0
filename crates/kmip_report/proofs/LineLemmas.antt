-- The line of pieces is made of its parts.
use Rattle.std.proofs.Common.{◌≡◌, ℕ, ◌+◌, ◌<◌, List, ◌∷◌, ◌++◌, true, length, get_or, drop, codes, Result, Ok, Err, OnOk, sym, ap, ◌∙◌, append_assoc}
use Rattle.std.proofs.lemmas.List.{drop_more}
use Rattle.serde_json.specs.Data.{Data}
use Rattle.serde_json.specs.Written.{members_text}
use Rattle.kmip_report.specs.declared.member.Member.{Member}
use Rattle.kmip_report.specs.declared.piece.Piece as code
use Rattle.kmip_report.specs.Documents.{members}
use Rattle.kmip_report.specs.Members.{pair_of}
use Rattle.kmip_report.specs.PieceViews.{piece_of, pieces_of}
use Rattle.kmip_report.specs.Pieces.{Piece, json_line, piece_members, piece_texts, text_line}
use Rattle.kmip_report.specs.Private.{member_text}
use Rattle.kmip_report.proofs.DocumentLemmas.{member_next}
use Rattle.kmip_report.proofs.ForCallers.{opened_line}

-- the texts of the pieces and a line feed are the line
pub texts_whole : {T E : Type 0} (result : Result T E) (old joined ended : List ℕ) (ps : List Piece) → joined ≡ old ++ piece_texts ps
    → OnOk result (ended ≡ joined ++ codes "\n") → OnOk result (ended ≡ old ++ text_line ps)
unfolding text_line
texts_whole (Err fault) old joined ended ps first last = tt
texts_whole (Ok value) old joined ended ps first last = last ∙ ap (λ t. t ++ codes "\n") first ∙ append_assoc old (piece_texts ps) (codes "\n")

-- the opening, the members of the pieces with the brace that closes them, and a line feed are the document
pub document_whole : {T E : Type 0} (result : Result T E) (old opened joined ended : List ℕ) (ps : List Piece) → opened ≡ old ++ codes "{\"version\":1"
    → joined ≡ opened ++ members_text true (members (piece_members ps)) → OnOk result (ended ≡ joined ++ codes "\n")
    → OnOk result (ended ≡ old ++ json_line ps)
document_whole (Err fault) old opened joined ended ps first then last = tt
document_whole (Ok value) old opened joined ended ps first then last =
    let inner = members_text true (members (piece_members ps)) in
    last
    ∙ ap (λ t. t ++ codes "\n") (then ∙ ap (λ t. t ++ inner) first ∙ append_assoc old (codes "{\"version\":1") inner)
    ∙ append_assoc old (codes "{\"version\":1" ++ inner) (codes "\n")
    ∙ ap (λ t. old ++ t) (sym (opened_line ps))

-- a comma, a member and the members after it
pub member_after : {T E : Type 0} (result : Result T E) (old comma next : List ℕ) (m : Member) → comma ≡ old ++ codes ","
    → OnOk result (next ≡ comma ++ member_text m)
    → OnOk result ((rest : List (List ℕ × Data)) → next ++ members_text true (members rest) ≡ old ++ members_text true (members (pair_of m ∷ rest)))
member_after (Err fault) old comma next m first then = tt
member_after (Ok value) old comma next m first then = λ rest. member_next old comma next true m rest first then

-- one piece more
pub piece_more : (text next : List ℕ) (ps : List code.Piece) (i : ℕ) (d : code.Piece) → i < length ps
    → ((rest : List (List ℕ × Data)) → next ++ members_text true (members rest) ≡ text ++ members_text true (members ((piece_of (get_or ps i d)).members ++ rest)))
    → next ++ members_text true (members (piece_members (pieces_of (drop (i + 1) ps)))) ≡ text ++ members_text true (members (piece_members (pieces_of (drop i ps))))
piece_more text next ps i d below pushed =
    pushed (piece_members (pieces_of (drop (i + 1) ps)))
    ∙ ap (λ (qs : List code.Piece). text ++ members_text true (members (piece_members (pieces_of qs)))) (sym (drop_more ps i d below))
