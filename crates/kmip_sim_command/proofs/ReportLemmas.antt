-- Lines of things, one after the other.
use Rattle.std.proofs.Common.{◌≡◌, ◌+◌, ℕ, zero, suc, List, [], ◌∷◌, ◌++◌, drop, Some, None, Result, Ok, Err, OnOk, refl, sym, ap, ◌∙◌, arith, append_assoc, append-nil}
use Rattle.std.specs.List.{slice_get}
use Rattle.kmip_report.specs.Pieces.{Piece, line_in, report_in}
use Rattle.kmip_report.specs.declared.form.Form.{Form}
use Rattle.kmip_runs.specs.declared.campaign_end.CampaignEnd.{CampaignEnd}
use Rattle.kmip_scripted.specs.Scenes.{Scene}
use Rattle.kmip_server.specs.Shown.{objects_in}
use Rattle.kmip_store.specs.declared.row.Row.{Row}
use Rattle.kmip_store.specs.Stock.{object_of, objects_of}
use Rattle.kmip_sim_command.specs.SimReport.{ask_lines, campaign_lines, link_lines, numbered_lines, record_line, record_lines, run_lines}

-- the report of some lines and of others
pub report_of_both : (form : Form) (xs ys : List (List Piece)) → report_in form (xs ++ ys) ≡ report_in form xs ++ report_in form ys
report_of_both form [] ys = refl
report_of_both form (line ∷ xs) ys =
    ap (λ t. line_in form line ++ t) (report_of_both form xs ys) ∙ sym (append_assoc (line_in form line) (report_in form xs) (report_in form ys))

-- what is written so far, and then the lines of the things from a place on, is what was there before and the lines of all
pub record IsWritten {X : Type 0} (form : Form) (lines_of : ℕ → X → List (List Piece)) (xs : List X) (place : ℕ) (old now : List ℕ) : Type 0 where
  pub whole : now ++ report_in form (numbered_lines lines_of (place + 1) (drop place xs)) ≡ old ++ report_in form (numbered_lines lines_of 1 xs)

pub none_written : {X : Type 0} (form : Form) (lines_of : ℕ → X → List (List Piece)) (xs : List X) (old : List ℕ) → IsWritten form lines_of xs 0 old old
none_written form lines_of xs old = record { whole = refl }

-- the next thing is the first of those that are left, or nothing is left
left_next : {X : Type 0} (xs : List X) (place : ℕ) (x : X) → slice_get xs place ≡ Some x → drop place xs ≡ x ∷ drop (suc place) xs
left_next [] place x is = absurd cc
left_next (y ∷ xs) zero x is = let same : y ≡ x = cc in ap (λ z. z ∷ xs) same
left_next (y ∷ xs) (suc place) x is = left_next xs place x is

left_none : {X : Type 0} (xs : List X) (place : ℕ) → slice_get xs place ≡ None → drop place xs ≡ []
left_none [] zero is = refl
left_none [] (suc place) is = refl
left_none (y ∷ xs) zero is = absurd cc
left_none (y ∷ xs) (suc place) is = left_none xs place is

pub next_written : {X : Type 0} (form : Form) (lines_of : ℕ → X → List (List Piece)) (xs : List X) (place : ℕ) (x : X) (old now new : List ℕ) → slice_get xs place ≡ Some x
    → IsWritten form lines_of xs place old now → new ≡ now ++ report_in form (lines_of (place + 1) x) → IsWritten form lines_of xs (place + 1) old new
next_written form lines_of xs place x old now new here so_far is =
    let at : suc place ≡ place + 1 = omega arith in
    let left : drop place xs ≡ x ∷ drop (place + 1) xs = left_next xs place x here ∙ ap (λ p. x ∷ drop p xs) at in
    let behind : List (List Piece) = numbered_lines lines_of (place + 1 + 1) (drop (place + 1) xs) in
    record {
      whole =
          ap (λ ys. ys ++ report_in form behind) is
          ∙ append_assoc now (report_in form (lines_of (place + 1) x)) (report_in form behind)
          ∙ ap (λ ys. now ++ ys) (sym (report_of_both form (lines_of (place + 1) x) behind))
          ∙ ap (λ ys. now ++ report_in form (numbered_lines lines_of (place + 1) ys)) (sym left)
          ∙ so_far.whole;
    }

pub all_written : {X : Type 0} (form : Form) (lines_of : ℕ → X → List (List Piece)) (xs : List X) (place : ℕ) (old now : List ℕ) → slice_get xs place ≡ None
    → IsWritten form lines_of xs place old now → now ≡ old ++ report_in form (numbered_lines lines_of 1 xs)
all_written form lines_of xs place old now none so_far =
    sym (append-nil now) ∙ ap (λ ys. now ++ report_in form (numbered_lines lines_of (place + 1) ys)) (sym (left_none xs place none)) ∙ so_far.whole

-- the same of objects, which have no numbers
abbrev pub AreListed : Form → List Row → ℕ → List ℕ → List ℕ → Type 0
AreListed form rows place old now =
    now ++ report_in form (record_lines (objects_of (drop place rows))) ≡ old ++ report_in form (record_lines (objects_of rows))

pub next_listed : (form : Form) (rows : List Row) (place : ℕ) (row : Row) (old now new : List ℕ) → slice_get rows place ≡ Some row
    → AreListed form rows place old now → new ≡ now ++ line_in form (record_line (object_of row)) → AreListed form rows (place + 1) old new
next_listed form rows place row old now new here so_far is =
    let at : suc place ≡ place + 1 = omega arith in
    let left : drop place rows ≡ row ∷ drop (place + 1) rows = left_next rows place row here ∙ ap (λ p. row ∷ drop p rows) at in
    let behind = report_in form (record_lines (objects_of (drop (place + 1) rows))) in
    ap (λ ys. ys ++ behind) is
    ∙ append_assoc now (line_in form (record_line (object_of row))) behind
    ∙ ap (λ ys. now ++ report_in form (record_lines (objects_of ys))) (sym left)
    ∙ so_far

-- the runs, the messages and the objects are the report of a campaign in which memory did not run out
pub whole_campaign : {T E : Type 0} (result : Result T E) (form : Form) (old runs asks new : List ℕ) (end : CampaignEnd) (link : Scene) → end.fault ≡ None
    → runs ≡ old ++ report_in form (run_lines end.runs.items) → asks ≡ runs ++ report_in form (ask_lines link.asked)
    → OnOk result (new ≡ asks ++ report_in form (record_lines (objects_in link.stock))) → OnOk result (new ≡ old ++ report_in form (campaign_lines end link))
whole_campaign (Err fault) form old runs asks new end link none first then last = tt
whole_campaign (Ok value) form old runs asks new end link none first then last =
    let told = run_lines end.runs.items in
    let sent = ask_lines link.asked in
    let objects = record_lines (objects_in link.stock) in
    last
    ∙ ap (λ t. t ++ report_in form objects) (then ∙ ap (λ t. t ++ report_in form sent) first)
    ∙ append_assoc (old ++ report_in form told) (report_in form sent) (report_in form objects)
    ∙ append_assoc old (report_in form told) (report_in form sent ++ report_in form objects)
    ∙ ap (λ t. old ++ (report_in form told ++ t)) (sym (report_of_both form sent objects))
    ∙ ap (λ t. old ++ t) (sym (report_of_both form told (sent ++ objects)))
    ∙ ap (λ fault. old ++ report_in form (told ++ link_lines fault link)) (sym none)
