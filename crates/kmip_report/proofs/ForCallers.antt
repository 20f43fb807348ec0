-- Pieces one by one are a line, and lines one by one are a report.
use Rattle.std.proofs.Common.{◌≡◌, ℕ, List, [], ◌∷◌, ◌++◌, true, map, codes, Result, Ok, Err, OnOk, sym, ap, ap₂, subst, ◌∙◌, append_assoc, append-nil, arith}
use Rattle.std.proofs.lemmas.Fmt.{decimal_digit}
use Rattle.std.proofs.lemmas.List.{map-append}
use Rattle.serde_json.specs.Data.{Data}
use Rattle.serde_json.specs.Written.{members_text}
use Rattle.serde_json.proofs.OnLiterals.{serde_json_on_literals}
use Rattle.kmip_report.specs.declared.form.Form.{Form}
use Rattle.kmip_report.specs.declared.member.Member.{Member}
use Rattle.kmip_report.specs.declared.piece.Piece as code
use Rattle.kmip_report.specs.Documents.{document, members}
use Rattle.kmip_report.specs.Members.{pair_of}
use Rattle.kmip_report.specs.PieceViews.{piece_of}
use Rattle.kmip_report.specs.Pieces.{Piece, json_line, line_in, noted, piece_members, report_in}

-- a pair whose value is another one
pub said_as : {p : List ℕ × Data} {name : List ℕ} {d e : Data} → p ≡ (name, d) → d ≡ e → p ≡ (name, e)
said_as {p} {name} {d} {e} says is = says ∙ ap (λ (v : Data). (name, v)) is

-- a piece before others
pub then_pieces : {p q : Piece} {ps qs : List Piece} → p ≡ q → ps ≡ qs → p ∷ ps ≡ q ∷ qs
then_pieces one others = ap₂ (λ (p : Piece) (ps : List Piece). p ∷ ps) one others

-- the last piece of a line
pub last_piece : {p q : Piece} → p ≡ q → p ∷ [] ≡ q ∷ []
last_piece one = ap (λ (p : Piece). p ∷ []) one

-- a piece in JSON alone, of a member that is this pair
pub noted_piece : {p q : List ℕ × Data} → p ≡ q → noted p.0 p.1 ≡ noted q.0 q.1
noted_piece is = ap (λ (pair : List ℕ × Data). noted pair.0 pair.1) is

-- one piece more at the end
pub pushed_piece : (ps more : List code.Piece) (p : code.Piece) (line : List Piece) (piece : Piece) → map piece_of ps ≡ line → piece_of p ≡ piece
    → more ≡ ps ++ p ∷ [] → map piece_of more ≡ line ++ piece ∷ []
pushed_piece ps more p line piece is last longer =
    ap (map piece_of) longer ∙ map-append piece_of ps (p ∷ []) ∙ ap₂ (λ (xs : List Piece) (x : Piece). xs ++ x ∷ []) is last

-- the document of pieces: how each document begins, their members, and a line feed
pub opened_line : (ps : List Piece) → json_line ps ≡ codes "{\"version\":1" ++ (members_text true (members (piece_members ps)) ++ codes "\n")
unfolding serde_json_on_literals document
opened_line ps =
    ap (λ (one : List ℕ). codes "{\"version\":" ++ ((one ++ members_text true (members (piece_members ps))) ++ codes "\n")) (decimal_digit 1 (omega arith))

-- the line of pieces that are these
pub line_of : {T E : Type 0} (result : Result T E) (form : Form) (old new : List ℕ) {ps qs : List Piece} → ps ≡ qs
    → OnOk result (new ≡ old ++ line_in form ps) → OnOk result (new ≡ old ++ line_in form qs)
line_of result form old new same written = subst (λ (ps : List Piece). OnOk result (new ≡ old ++ line_in form ps)) same written

-- a report of one line
pub report_of_one : {T E : Type 0} (result : Result T E) (form : Form) (old new : List ℕ) (line : List Piece)
    → OnOk result (new ≡ old ++ line_in form line) → OnOk result (new ≡ old ++ report_in form (line ∷ []))
report_of_one result form old new line written =
    subst (λ (t : List ℕ). OnOk result (new ≡ old ++ t)) (sym (append-nil (line_in form line))) written

-- a report of some lines and a last one
joined : (form : Form) (lines : List (List Piece)) (line : List Piece)
    → report_in form lines ++ line_in form line ≡ report_in form (lines ++ line ∷ [])
joined form [] line = sym (append-nil (line_in form line))
joined form (first ∷ lines) line =
    append_assoc (line_in form first) (report_in form lines) (line_in form line) ∙ ap (λ t. line_in form first ++ t) (joined form lines line)

-- one line more at the end
pub last_line : {T E : Type 0} (result : Result T E) (form : Form) (old before new : List ℕ) (lines : List (List Piece)) (line : List Piece)
    → before ≡ old ++ report_in form lines → OnOk result (new ≡ before ++ line_in form line) → OnOk result (new ≡ old ++ report_in form (lines ++ line ∷ []))
last_line (Err fault) form old before new lines line first last = tt
last_line (Ok value) form old before new lines line first last =
    last
    ∙ ap (λ t. t ++ line_in form line) first
    ∙ append_assoc old (report_in form lines) (line_in form line)
    ∙ ap (λ t. old ++ t) (joined form lines line)
