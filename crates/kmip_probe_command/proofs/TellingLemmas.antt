-- What a probe tells of its answers, from the looks to the sum.
use Rattle.std.proofs.Common.{◌≡◌, ◌≤◌, ◌⊎◌, ℕ, List, [], ◌∷◌, ◌++◌, length, map, take, flat_map, not, true, false, Option, Some, None, Result, Ok, Err, IfOk, Bool, if◌then◌else◌, refl, sym, ap, subst, ◌∙◌, inl, inr, arith, append-nil, IsTrue}
use Rattle.std.specs.List.{concat}
use Rattle.std.specs.Io.KnownBytes.{Appends}
use Rattle.std.proofs.KnownBytes.{Appends-trans}
use Rattle.std.proofs.lemmas.List.{append_assoc}
use Rattle.kmip_probe.specs.Asking.{is_free_at, next_inquiry}
use Rattle.kmip_probe.specs.Inquiries.{name_of}
use Rattle.kmip_probe.specs.Judging.{AreFindings, answer_at}
use Rattle.kmip_probe.specs.Laws.{ProfileKeepsAll}
use Rattle.kmip_probe.specs.Putting.{AreAsked, AreSentOnce, AsksOn, SendsOnce}
use Rattle.kmip_probe.specs.Serving.{outcomes_of}
use Rattle.kmip_probe.specs.TwoObjects.{AreServed}
use Rattle.kmip_probe.specs.declared.answer.Answer.TheVariants.{Told}
use Rattle.kmip_probe.specs.declared.which.Which.TheVariants.{First, Second}
use Rattle.kmip_protocol.specs.Past.{Names, Past}
use Rattle.kmip_protocol.specs.Seen.{Seen}
use Rattle.kmip_probe.specs.declared.answer.Answer.{Answer}
use Rattle.kmip_probe.proofs.ProbingLemmas.{so_many}
use Rattle.kmip_probe.proofs.ServedLemmas.{all_served, goes_on}
use Rattle.kmip_report.specs.declared.form.Form.{Form}
use Rattle.kmip_probe_command.specs.KeptLines.{kept_lines}
use Rattle.kmip_probe_command.specs.Midway.{line_by}
use Rattle.kmip_probe_command.specs.Private.{TellsEnd, rest_text}
use Rattle.kmip_probe_command.specs.ProbeText.{TellsFrom, WritesProbe, looked_text, making_text, report_text, unbegun_text}
use Rattle.kmip_report.specs.declared.command_fault.CommandFault.{CommandFault}
use Rattle.kmip_probe_command.specs.declared.premise.Premise.TheVariants as premise
use Rattle.kmip_probe_command.specs.declared.premise.TheConstants.{EARLY, LATE}
use Rattle.kmip_probe_command.proofs.StageLemmas.{early_stays, report_is}
use Rattle.kmip_probe_command.proofs.ToldLemmas.{all_are_kept, all_told}

-- ---- how many answers there are

free_stays : (answers more : List Answer) → length answers ≡ 2
    → (is_free_at (answers ++ more) 0 ≡ is_free_at answers 0) × (is_free_at (answers ++ more) 1 ≡ is_free_at answers 1)
free_stays [] more two = absurd (omega (arith, two))
free_stays (a ∷ []) more two = absurd (omega (arith, two))
free_stays (a ∷ b ∷ answers) more two = (refl, refl)

pub still_free : (answers all more : List Answer) → all ≡ answers ++ more → length answers ≡ 2 → (place : ℕ) → (place ≡ 0) ⊎ (place ≡ 1)
    → is_free_at all place ≡ is_free_at answers place
still_free answers all more is two place (inl first) = rw (first, is) (free_stays answers more two).0
still_free answers all more is two place (inr second) = rw (second, is) (free_stays answers more two).1

-- behind two free names, as many as are wanted
pub all_there : (answers all more : List Answer) (most : ℕ) → all ≡ answers ++ more → length answers ≡ 2
    → IsTrue (is_free_at answers 0) → IsTrue (is_free_at answers 1)
    → length all ≤ most → most ≤ 25 → (next_inquiry all ≡ None) ⊎ (length all ≡ most) → length all ≡ most
all_there answers all more most is two first second fewer few whole =
    so_many all most (still_free answers all more is two 0 (inl refl) ∙ first) (still_free answers all more is two 1 (inr refl) ∙ second) fewer few whole

-- ---- what was written

-- the line of the keys
pub one_line : (form : Form) (prefix : List ℕ) (old new : Option (List ℕ)) → Appends old new (making_text form prefix) → Appends old new (concat (making_text form prefix ∷ []))
one_line form prefix old new named = subst (Appends old new) (sym (append-nil (making_text form prefix))) named

-- and the first line
pub two_lines : (form : Form) (prefix : List ℕ) (early : List Answer) (old making new : Option (List ℕ)) → Appends old making (making_text form prefix)
    → Appends making new (flat_map (line_by form prefix early) EARLY) → Appends old new (concat (making_text form prefix ∷ map (line_by form prefix early) EARLY))
two_lines form prefix early old making new named told = Appends-trans old making new (making_text form prefix) (flat_map (line_by form prefix early) EARLY) named told

joined : (making line others : List ℕ) → making ++ (line ++ []) ++ others ≡ making ++ (line ++ others)
joined making line others = append_assoc making (line ++ []) others ∙ ap (λ first. making ++ (first ++ others)) (append-nil line)

-- and the next six
pub eight_lines : (form : Form) (prefix : List ℕ) (early late more : List Answer) (old making first new : Option (List ℕ)) → late ≡ early ++ more → 8 ≤ length early
    → Appends old making (making_text form prefix) → Appends making first (flat_map (line_by form prefix early) EARLY)
    → Appends first new (flat_map (line_by form prefix late) LATE)
    → Appends old new (concat (making_text form prefix ∷ map (line_by form prefix late) (EARLY ++ LATE)))
eight_lines form prefix early late more old making first new is eight named told later =
    let same = subst (Appends making first) (sym (early_stays form prefix early late more is eight)) told in
    let lines = Appends-trans old making first (making_text form prefix) (flat_map (line_by form prefix late) EARLY) named same in
    let all = Appends-trans old first new (making_text form prefix ++ flat_map (line_by form prefix late) EARLY) (flat_map (line_by form prefix late) LATE) lines later in
    subst (Appends old new) (joined (making_text form prefix) (line_by form prefix late premise.NamesAreUnique) (flat_map (line_by form prefix late) LATE)) all

-- and all others
pub told_report : (form : Form) (prefix : List ℕ) (early late all more rest : List Answer) (refused : Bool) (old making first second new : Option (List ℕ))
    → late ≡ early ++ more → all ≡ late ++ rest → 8 ≤ length early → 23 ≤ length late
    → Appends old making (making_text form prefix) → Appends making first (flat_map (line_by form prefix early) EARLY)
    → Appends first second (flat_map (line_by form prefix late) LATE) → TellsEnd (rest_text form) prefix all refused second new
    → TellsEnd (λ findings. making_text form prefix ++ report_text form findings) prefix all refused old new
told_report form prefix early late all more rest refused old making first second new is_late is_all eight most named told later (findings, are, refused_is, ended) =
    let lines = flat_map (line_by form prefix early) EARLY in
    let others = flat_map (line_by form prefix late) LATE in
    let behind = Appends-trans first second new others (rest_text form findings) later ended in
    let report = Appends-trans making first new lines (others ++ rest_text form findings) told behind in
    let whole = Appends-trans old making new (making_text form prefix) (lines ++ (others ++ rest_text form findings)) named report in (
      findings,
      are,
      refused_is,
      subst (λ text. Appends old new (making_text form prefix ++ text)) (report_is form prefix early late all more rest findings is_late is_all eight most are) whole,
    )

-- ---- where the report was told

pub told_if : {A : Type 0} (result : Result A CommandFault) (P Q : A → Type 0) → ((a : A) → P a → Q a) → IfOk result P → IfOk result Q
told_if (Ok a) P Q further holds = further a holds
told_if (Err fault) P Q further holds = tt

pub always : {A : Type 0} (result : Result A CommandFault) (P : Type 0) → P → IfOk result (λ a. P)
always (Ok a) P holds = holds
always (Err fault) P holds = tt

-- ---- answers behind answers

pub farther : (first second third : List Answer) → (more : List Answer) × (second ≡ first ++ more) → (more : List Answer) × (third ≡ second ++ more)
    → (more : List Answer) × (third ≡ first ++ more)
farther first second third (more, is) (others, is_then) =
    (more ++ others, is_then ∙ ap (λ xs. xs ++ others) is ∙ append_assoc first more others)

pub counted : (answers all : List Answer) (most : ℕ) → (more : List Answer) × (all ≡ answers ++ more) → length answers ≡ 2
    → IsTrue (is_free_at answers 0) → IsTrue (is_free_at answers 1)
    → length all ≤ most → most ≤ 25 → (next_inquiry all ≡ None) ⊎ (length all ≡ most) → length all ≡ most
counted answers all most (more, is) two first second fewer few whole = all_there answers all more most is two first second fewer few whole

-- ---- the two parts of a probe

looked_at : (first second : Bool) (why other : List ℕ) → (if first then (if second then None else Some why) else Some other) ≡ None
    → (first ≡ true) × (second ≡ true)
looked_at true true why other none = (refl, refl)
looked_at true false why other none = absurd cc
looked_at false second why other none = absurd cc

-- where no reason was told, both names are free
pub looked_free : (form : Form) (prefix : List ℕ) (answers : List Answer) → unbegun_text form prefix answers ≡ None
    → (is_free_at answers 0 ≡ true) × (is_free_at answers 1 ≡ true)
looked_free form prefix answers none =
    looked_at (is_free_at answers 0) (is_free_at answers 1) (looked_text form (name_of Second prefix) (answer_at answers 1))
    (looked_text form (name_of First prefix) (answer_at answers 0)) none

pub still_begun : (form : Form) (prefix : List ℕ) (answers all : List Answer) → (more : List Answer) × (all ≡ answers ++ more) → length answers ≡ 2
    → unbegun_text form prefix answers ≡ None → unbegun_text form prefix all ≡ None
still_begun form prefix answers all (more, is) two none =
    let (first, second) = looked_free form prefix answers none in
    let still_first = still_free answers all more is two 0 (inl refl) ∙ first in
    let still_second = still_free answers all more is two 1 (inr refl) ∙ second in rw (still_first, still_second) refl

-- why nothing was made was told
pub told_unbegun : (form : Form) (prefix : List ℕ) (answers : List Answer) (before after : Seen) (refused : Bool)
    (text : List ℕ) (old new : Option (List ℕ)) → ((names : Names) → before.honest names → AreAsked prefix answers before.past after.past)
    → ((names : Names) → before.calm names → AreSentOnce prefix answers before.past after.past)
    → Some text ≡ unbegun_text form prefix answers → (refused ≡ true) × Appends old new text → WritesProbe form prefix before after refused old new
told_unbegun form prefix answers before after refused text old new asked once is (refused_is, written) = record {
  answers = answers;
  text = text;
  asked = asked;
  once = once;
  tells = subst (λ unbegun. TellsFrom form prefix answers unbegun refused text) is (refused_is, refl);
  written = written;
}

told_begun : (form : Form) (prefix : List ℕ) (answers : List Answer) (before after : Seen) (refused : Bool)
    (old new : Option (List ℕ)) → ((names : Names) → before.honest names → AreAsked prefix answers before.past after.past)
    → ((names : Names) → before.calm names → AreSentOnce prefix answers before.past after.past)
    → unbegun_text form prefix answers ≡ None → TellsEnd (λ findings. making_text form prefix ++ report_text form findings) prefix answers refused old new
    → WritesProbe form prefix before after refused old new
told_begun form prefix answers before after refused old new asked once none (findings, are, refused_is, written) = record {
  answers = answers;
  text = making_text form prefix ++ report_text form findings;
  asked = asked;
  once = once;
  tells =
      subst (λ unbegun. TellsFrom form prefix answers unbegun refused (making_text form prefix ++ report_text form findings)) (sym none)
      (findings, are, refused_is, refl);
  written = written;
}

-- what was found was told, of all questions that were asked
pub told_on : (form : Form) (prefix : List ℕ) (begun answers : List Answer) (before between after : Seen)
    (result : Result Bool CommandFault) (old new : Option (List ℕ))
    → ((names : Names) → before.honest names → between.honest names × AreAsked prefix begun before.past between.past)
    → ((names : Names) → between.honest names → IfOk result (λ r. AsksOn prefix begun answers between.past after.past))
    → ((names : Names) → before.calm names → between.calm names × AreSentOnce prefix begun before.past between.past)
    → ((names : Names) → between.calm names → IfOk result (λ r. SendsOnce prefix begun answers between.past after.past))
    → unbegun_text form prefix answers ≡ None
    → IfOk result (λ r. TellsEnd (λ findings. making_text form prefix ++ report_text form findings) prefix answers r old new)
    → IfOk result (λ r. WritesProbe form prefix before after r old new)
told_on form prefix begun answers before between after (Ok r) old new asked further once more none tells =
    told_begun form prefix answers before after r old new
    (λ names honest_before. let (still, first) = asked names honest_before in further names still before.past first)
    (λ names calm_before. let (still, first) = once names calm_before in more names still before.past first) none tells
told_on form prefix begun answers before between after (Err fault) old new asked further once more none tells = tt

-- ---- over a calm link to a server of the profile

-- both names are seen to be free
pub kept_looks : (form : Form) (prefix : List ℕ) (answers : List Answer) (p : Past) → length answers ≤ 2 → (next_inquiry answers ≡ None) ⊎ (length answers ≡ 2)
    → AreServed prefix answers p → unbegun_text form prefix answers ≡ None
kept_looks form prefix answers p fewer (inl none) served = absurd (goes_on prefix answers p (omega (arith, fewer)) served none)
kept_looks form prefix answers p fewer (inr two) served =
    let is = served.answers_are ∙ ap (λ n. map Told (take n (outcomes_of prefix served.first served.second))) two in rw is refl

-- and every premise is told as kept
pub kept_on : ProfileKeepsAll → (form : Form) (prefix : List ℕ) (answers : List Answer) (p : Past) (result : Result Bool CommandFault) (old new : Option (List ℕ))
    → IfOk result (λ r. AreServed prefix answers p) → IfOk result (λ r. length answers ≡ 25)
    → IfOk result (λ r. TellsEnd (λ findings. making_text form prefix ++ report_text form findings) prefix answers r old new)
    → IfOk result (λ r. (r ≡ false) × Appends old new (making_text form prefix ++ kept_lines form))
kept_on l form prefix answers p (Err fault) old new served all tells = tt
kept_on l form prefix answers p (Ok r) old new served all (findings, are, refused_is, written) =
    let (first, second, is) = all_served prefix answers p all served in
    let same = subst (λ xs. AreFindings prefix xs findings) is are in
    let all_kept = all_are_kept prefix (map Told (outcomes_of prefix first second)) findings (l prefix first second) same in
    let report = all_told form prefix (map Told (outcomes_of prefix first second)) findings (l prefix first second) same in
    (refused_is ∙ ap not all_kept, subst (λ text. Appends old new (making_text form prefix ++ text)) report written)
