-- How a run of writes goes on.
use Rattle.std.proofs.Common.{[], List, OnErr, Result, arith, drop, get_or, inl, inr, length, map, ap, subst, sym, ℕ, zero, suc, ⊎_elim, ◌+◌, ◌++◌, ◌<◌, ◌≤◌, ◌∙◌, ◌∷◌, ◌≡◌, ◌⊎◌}
use Rattle.std.specs.Prelude.{Err, Ok, Some, Vec}
use Rattle.std.proofs.lemmas.List.{drop_more, drop_all}
use Rattle.std.specs.declared.alloc.Global.{Global}
use Rattle.kmip_disk.specs.Views.{Content, DiskView}
use Rattle.kmip_disk.specs.Calls.{HasRisenBy}
use Rattle.kmip_disk.specs.Whole.{Closes, IsBeforeOrText, IsOneOf, LeavesOneOf, LeavesOnly, Saves, WritesWhole, last_of}
use Rattle.kmip_disk.proofs.Moments.{now_too, on_ok}

pub still_one : (texts more : List (List ℕ)) (c : Content) → IsOneOf texts c → IsOneOf (texts ++ more) c
still_one [] more c one = absurd one
still_one (text ∷ texts) more c (inl here) = inl here
still_one (text ∷ texts) more c (inr there) = inr (still_one texts more c there)

pub later_one : (texts more : List (List ℕ)) (c : Content) → IsOneOf more c → IsOneOf (texts ++ more) c
later_one [] more c one = one
later_one (text ∷ texts) more c one = inr (later_one texts more c one)

-- one text is a list of one
pub one_text : (first last : DiskView) (text : List ℕ) → LeavesOnly first last (IsBeforeOrText first text) → LeavesOneOf first (text ∷ []) last
one_text first last text wrote =
    let widens : (c : Content) → IsBeforeOrText first text c → first.may_leave c ⊎ IsOneOf (text ∷ []) c = λ c. ⊎_elim (λ had. inl had) (λ is. inr (inl is)) in
    record {
      later = wrote.later;
      each = λ c left. widens c (wrote.each c left);
      before = λ t c le left. ⊎_elim (λ had. inl had) (λ new. inr (widens c new)) (wrote.before t c le left);
    }

-- a call goes on from what held since the first moment to what holds then
pub history_on : (first next last : DiskView) (P Q R : Content → Type 0) → next.lawful → LeavesOnly first next P → LeavesOnly next last (λ c. next.may_leave c ⊎ R c) → ((c : Content) → P c → Q c) → ((c : Content) → R c → Q c) → LeavesOnly first last Q
history_on first next last P Q R lawful so_far wrote keeps adds =
    let new : (c : Content) → next.may_leave c ⊎ R c → Q c = λ c. ⊎_elim (λ now. keeps c (now_too first next P so_far lawful c now)) (adds c) in
    record {
      later = omega (arith, so_far.later, wrote.later);
      each = λ c left. ⊎_elim (λ was. keeps c (so_far.each c was)) (new c) (wrote.before first.moment c so_far.later left);
      before = λ t c le left. ⊎_elim (λ was. ⊎_elim (λ had. inl had) (λ had. inr (keeps c had)) (so_far.before t c le was)) (λ had. inr (new c had)) (wrote.before t c (omega (arith, le, so_far.later)) left);
    }

-- a call that leaves no more than it might have left
pub closed_on : (first next last : DiskView) (P : Content → Type 0) → next.lawful → LeavesOnly first next P → LeavesOnly next last next.may_leave → LeavesOnly first last P
closed_on first next last P lawful so_far closed = history_on first next last P P (λ c. ⊥) lawful so_far
    (record {
      later = closed.later;
      each = λ c left. inl (closed.each c left);
      before = λ t c le left. ⊎_elim (λ had. inl had) (λ now. inr (inl now)) (closed.before t c le left);
    })
    (λ c had. had)
    (λ c none. absurd none)

-- more texts
pub add_up : (first next last : DiskView) (texts more : List (List ℕ)) → next.lawful → LeavesOneOf first texts next → LeavesOneOf next more last → LeavesOneOf first (texts ++ more) last
add_up first next last texts more lawful so_far wrote = history_on first next last _ _ (IsOneOf more) lawful so_far wrote
    (λ c. ⊎_elim (λ had. inl had) (λ one. inr (still_one texts more c one)))
    (λ c one. inr (later_one texts more c one))

-- one of the texts
pub one_of_them : (first next last : DiskView) (texts : List (List ℕ)) (text : List ℕ) → next.lawful → IsOneOf texts (Some text) → LeavesOneOf first texts next → LeavesOnly next last (IsBeforeOrText next text) → LeavesOneOf first texts last
one_of_them first next last texts text lawful is_one so_far wrote = history_on first next last _ _ (λ (c : Content). c ≡ Some text) lawful so_far wrote
    (λ c had. had)
    (λ c is. inr (subst (λ (d : Content). IsOneOf texts d) (sym is) is_one))

pub one_at : (xs : List (Vec ℕ Global)) (i : ℕ) (x : Vec ℕ Global) → i < length xs → x ≡ get_or xs i x → IsOneOf (map (λ (v : Vec ℕ Global). v.items) xs) (Some x.items)
one_at [] i x below is = absurd (omega arith)
one_at (y ∷ xs) zero x below is = inl (ap (λ (v : Vec ℕ Global). Some v.items) is)
one_at (y ∷ xs) (suc i) x below is = inr (one_at xs i x (omega arith) is)

-- the texts of these vectors
abbrev pub texts_of : List (Vec ℕ Global) → List (List ℕ)
texts_of xs = map (λ (v : Vec ℕ Global). v.items) xs

-- what the next of them makes of the rest
pub last_step : (xs : List (Vec ℕ Global)) (i j : ℕ) (x : Vec ℕ Global) (c : Content) → j ≡ i + 1 → i < length xs → x ≡ get_or xs i x → last_of c (texts_of (drop i xs)) ≡ last_of (Some x.items) (texts_of (drop j xs))
last_step xs i j x c next below is =
    ap (λ (l : List (Vec ℕ Global)). last_of c (texts_of l)) (drop_more xs i x below)
    ∙ ap (λ (y : Vec ℕ Global). last_of (Some y.items) (texts_of (drop (i + 1) xs))) (sym is)
    ∙ ap (λ (k : ℕ). last_of (Some x.items) (texts_of (drop k xs))) (sym next)

-- at the end there is no rest
pub last_end : (xs : List (Vec ℕ Global)) (i : ℕ) (c : Content) → length xs ≤ i → last_of c (texts_of (drop i xs)) ≡ c
last_end xs i c le = ap (λ (l : List (Vec ℕ Global)). last_of c (texts_of l)) (drop_all i xs le)

-- the text is written, and its name brought to the disk
pub saved_by : {E : Type 0} (a b c : DiskView) (text : List ℕ) (u : Unit {0}) (result : Result (Unit {0}) E) → WritesWhole {E = E} a text (Ok u) b → Closes b result c → Saves a text result c
saved_by {E} a b c text u result wrote closed = record {
  lawful = closed.lawful;
  written = on_ok result (λ same. record { file = closed.same ∙ wrote.written.file; durable = closed.still wrote.written.durable; tidy = same ∙ wrote.written.tidy }) closed.beside;
  lasts = on_ok result (λ only. λ x left. only x left ∙ wrote.written.file) (closed.durable wrote.written.durable);
  whole = inr (closed.same ∙ wrote.written.file);
  any_moment = closed_on a b c (IsBeforeOrText a text) wrote.lawful wrote.any_moment closed.any_moment;
  still = λ was. closed.still (wrote.still was);
  failed = failed result closed.failed;
  limit = closed.limit ∙ wrote.limit;
}
  where
    failed : (r : Result (Unit {0}) E) → OnErr r (HasRisenBy 1 b.failures c.failures) → OnErr r (HasRisenBy 1 a.failures c.failures)
    failed (Ok _) risen = tt
    failed (Err _) risen = omega (arith, risen, wrote.later)

-- the text was not written
pub saved_not : {E : Type 0} (a b : DiskView) (text : List ℕ) (fault : E) → WritesWhole {E = E} a text (Err fault) b → Saves {E = E} a text (Err fault) b
saved_not a b text fault wrote = record {
  lawful = wrote.lawful;
  written = tt;
  lasts = tt;
  whole = wrote.whole;
  any_moment = wrote.any_moment;
  still = wrote.still;
  failed = wrote.failed;
  limit = wrote.limit;
}
