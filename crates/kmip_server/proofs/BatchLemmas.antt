-- Questions answered in turn: what was answered before, and what is left.
use Rattle.std.proofs.Common.{◌≡◌, ◌+◌, ◌<◌, ℕ, Bool, true, false, nat_le, if◌then◌else◌, append-nil, option_to_list, Some, None, List, [], ◌∷◌, ◌++◌, length, drop, get_or, Result, Ok, Err, OnErr, OnOk, IsTrue, refl, sym, ap, subst, ◌∙◌, inl, inr, arith}
use Rattle.std.specs.List.{All}
use Rattle.std.proofs.lemmas.Bool.{and_parts, leb-true, cases_Bool}
use Rattle.std.proofs.lemmas.List.{append_assoc, drop_all, drop_more, length-append}
use Rattle.std.proofs.lemmas.List.Elements.{All-append, All-cons, All-nil}
use Rattle.kmip_batch_items.specs.BatchItems.{Question}
use Rattle.kmip_batch_items.specs.declared.outcome.Outcome.{Outcome}
use Rattle.kmip_batch_items.specs.declared.outcome.Outcome.TheVariants as outcomes
use Rattle.kmip_batch_items.specs.declared.reply.Reply.{Reply}
use Rattle.kmip_batch_items.specs.declared.ask.Ask.{Ask}
use Rattle.kmip_batch_items.specs.declared.ask.Ask.TheVariants as asks
use Rattle.kmip_messages.specs.Members.{may_have}
use Rattle.kmip_messages.specs.Private.{IsShort}
use Rattle.kmip_objects.specs.Ranges.{is_compromise}
use Rattle.kmip_store.specs.declared.store_fault.StoreFault.{StoreFault}
use Rattle.kmip_objects.specs.declared.step.Step.TheVariants as steps
use Rattle.kmip_batch_items.specs.declared.standard.TheConstants.{REASON_FEATURE_NOT_SUPPORTED}
use Rattle.kmip_store.specs.Stepping.{take_step}
use Rattle.kmip_store.specs.Stock.{Stock, create, identifier_at}
use Rattle.kmip_server.specs.Again.{has_failed}
use Rattle.kmip_server.specs.Batching.{effect_by, effects_of, is_last, replies_to, stock_after_all, GrownBy}
use Rattle.kmip_server.specs.Private.{IsCutShort, LeavesAll, NotesOne}
use Rattle.kmip_server.specs.Serving.{answer, outcome_of_change, reply_to, stock_after_read}
use Rattle.kmip_server.specs.Shown.{objects_in}
use Rattle.kmip_server.specs.declared.effect.Effect.{Effect}

-- ---- what failed changed nothing

change_leaves : (success : Outcome) (s : Stock) (r : Result Stock StoreFault) → has_failed success ≡ false
    → has_failed (outcome_of_change success s r).0 ≡ true → (outcome_of_change success s r).1 ≡ s
change_leaves success s (Ok new) fine failed = absurd cc
change_leaves success s (Err fault) fine failed = refl

abbrev Leaves : Stock → Outcome × Stock → Type 0
Leaves s r = has_failed r.0 ≡ true → r.1 ≡ s

chosen_leaves : (s : Stock) (b : Bool) (x y : Outcome × Stock) → Leaves s x → Leaves s y → Leaves s (if b then x else y)
chosen_leaves s true x y h k = h
chosen_leaves s false x y h k = k

ask_leaves : (s : Stock) (ask : Ask) → Leaves s (answer s ask)
ask_leaves s (asks.Create attrs) = change_leaves (outcomes.Created (identifier_at (length s.rows))) s (create attrs s) refl
ask_leaves s (asks.Locate mask given) = λ failed. refl
ask_leaves s (asks.GetAttributes uid) = λ failed. refl
ask_leaves s (asks.Activate uid) = change_leaves (outcomes.Activated uid) s (take_step steps.Activate uid s) refl
ask_leaves s (asks.Revoke uid code) =
    chosen_leaves s (is_compromise code) (outcomes.Failed (Some REASON_FEATURE_NOT_SUPPORTED), s)
    (outcome_of_change (outcomes.Revoked uid) s (take_step steps.Revoke uid s)) (λ failed. refl)
    (change_leaves (outcomes.Revoked uid) s (take_step steps.Revoke uid s) refl)
ask_leaves s (asks.Destroy uid) = change_leaves (outcomes.Destroyed uid) s (take_step steps.Destroy uid s) refl

failed_leaves : (s : Stock) (q : Question) → has_failed (reply_to s q).outcome ≡ true → stock_after_read s q ≡ s
failed_leaves s (Ok request) failed = ask_leaves s request.ask failed
failed_leaves s (Err refusal) failed = refl

pub last_leaves : (stops : Bool) (s : Stock) (q : Question) → is_last stops (reply_to s q) ≡ true → stock_after_read s q ≡ s
last_leaves stops s q over = failed_leaves s q (and_parts stops (has_failed (reply_to s q).outcome) over).1

-- and did nothing
last_does_nothing : (stops : Bool) (s : Stock) (q : Question) → is_last stops (reply_to s q) ≡ true → effect_by (objects_in s) q (reply_to s q) ≡ None
last_does_nothing stops s (Ok request) over =
    let failed : has_failed (answer s request.ask).0 ≡ true = (and_parts stops (has_failed (answer s request.ask).0) over).1 in
    rw failed refl
last_does_nothing stops s (Err refusal) over = refl

-- ---- one question and those behind it

-- what it did, as a list
abbrev own : Stock → Question → List Effect
own s q = option_to_list (effect_by (objects_in s) q (reply_to s q))

-- the replies, the records and what was done, where these are those of a question and then of others
record Answers (stops : Bool) (qs : List Question) (s : Stock) (replies : List Reply) (new : Stock) (effects : List Effect) : Type 0 where
  pub told : replies_to stops qs s ≡ replies
  pub rest : stock_after_all stops qs s ≡ new
  pub done : effects_of stops qs s ≡ effects

ended : (stops : Bool) (q : Question) (qs : List Question) (s : Stock) → is_last stops (reply_to s q) ≡ true
    → Answers stops (q ∷ qs) s (reply_to s q ∷ []) (stock_after_read s q) (own s q)
ended stops q qs s over = record { told = rw over refl; rest = rw over refl; done = rw over (append-nil (own s q)) }

goes_on : (stops : Bool) (q : Question) (qs : List Question) (s : Stock) → is_last stops (reply_to s q) ≡ false
    → Answers stops (q ∷ qs) s (reply_to s q ∷ replies_to stops qs (stock_after_read s q)) (stock_after_all stops qs (stock_after_read s q))
    (own s q ++ effects_of stops qs (stock_after_read s q))
goes_on stops q qs s on = record { told = rw on refl; rest = rw on refl; done = rw on refl }

alone : (stops : Bool) (q : Question) (s : Stock) → Answers stops (q ∷ []) s (reply_to s q ∷ []) (stock_after_read s q) (own s q)
alone stops q s = elim (cases_Bool (is_last stops (reply_to s q))) [
  | inl over ↦ ended stops q [] s over
  | inr on ↦
      let step = goes_on stops q [] s on in
      record { told = step.told; rest = step.rest; done = step.done ∙ append-nil (own s q) }
]

-- ---- those that were answered

-- What was answered and what is left make up the whole, and where nothing more happens some of the first questions were served.
pub record AreAnswered (stops : Bool) (qs : List Question) (old : Stock) (place : ℕ) (replies : List Reply) (effects : List Effect) (s : Stock) : Type 0 where
  pub told : replies ++ replies_to stops (drop place qs) s ≡ replies_to stops qs old
  pub rest : stock_after_all stops (drop place qs) s ≡ stock_after_all stops qs old
  pub done : effects ++ effects_of stops (drop place qs) s ≡ effects_of stops qs old
  pub begun : (more : List Effect) (new : Stock) → IsCutShort stops (drop place qs) more s new → IsCutShort stops qs (effects ++ more) old new
  pub short : All IsShort replies
  pub count : length replies ≡ place
  pub more : place < length qs

pub none_answered : (stops : Bool) (qs : List Question) (s : Stock) → IsTrue (may_have (length qs)) → AreAnswered stops qs s 0 [] [] s
none_answered stops qs s some = record {
  told = refl;
  rest = refl;
  done = refl;
  begun = λ more new h. h;
  short = All-nil IsShort;
  count = refl;
  more = omega (arith, leb-true 1 (length qs) (and_parts (nat_le 1 (length qs)) (nat_le (length qs) 8) some).0);
}

opened : (qs : List Question) (place : ℕ) (q : Question) → place < length qs → q ≡ get_or qs place q → drop place qs ≡ q ∷ drop (place + 1) qs
opened qs place q below is = drop_more qs place q below ∙ ap (λ x. x ∷ drop (place + 1) qs) (sym is)

-- one more is answered, and another is left
pub one_more : (stops : Bool) (qs : List Question) (old : Stock) (place : ℕ) (replies : List Reply) (effects : List Effect) (s : Stock) (q : Question)
    → AreAnswered stops qs old place replies effects s → q ≡ get_or qs place q → place + 1 < length qs → IsShort (reply_to s q)
    → is_last stops (reply_to s q) ≡ false
    → AreAnswered stops qs old (place + 1) (replies ++ reply_to s q ∷ []) (effects ++ own s q) (stock_after_read s q)
one_more stops qs old place replies effects s q h is below short on =
    let open_ = opened qs place q h.more is in
    let step = goes_on stops q (drop (place + 1) qs) s on in
    record {
      told =
          append_assoc replies (reply_to s q ∷ []) (replies_to stops (drop (place + 1) qs) (stock_after_read s q))
          ∙ ap (λ rs. replies ++ rs) (sym step.told ∙ ap (λ xs. replies_to stops xs s) (sym open_))
          ∙ h.told;
      rest = sym step.rest ∙ ap (λ xs. stock_after_all stops xs s) (sym open_) ∙ h.rest;
      done =
          append_assoc effects (own s q) (effects_of stops (drop (place + 1) qs) (stock_after_read s q))
          ∙ ap (λ es. effects ++ es) (sym step.done ∙ ap (λ xs. effects_of stops xs s) (sym open_))
          ∙ h.done;
      begun = λ more new cut.
          subst (λ es. IsCutShort stops qs es old new) (sym (append_assoc effects (own s q) more))
          (h.begun (own s q ++ more) new (subst (λ xs. IsCutShort stops xs (own s q ++ more) s new) (sym open_) (inr (more, refl, on, cut))));
      short = All-append IsShort replies (reply_to s q ∷ []) h.short (All-cons IsShort (reply_to s q) [] short (All-nil IsShort));
      count = omega (arith, length-append replies (reply_to s q ∷ []), h.count);
      more = below;
    }

-- nothing more happens
pub stopped_here : (stops : Bool) (qs : List Question) (old : Stock) (place : ℕ) (replies : List Reply) (effects : List Effect) (s : Stock) (q : Question)
    → AreAnswered stops qs old place replies effects s → q ≡ get_or qs place q → IsCutShort stops qs effects old s
stopped_here stops qs old place replies effects s q h is =
    subst (λ es. IsCutShort stops qs es old s) (append-nil effects)
    (h.begun [] s (subst (λ xs. IsCutShort stops xs [] s s) (sym (opened qs place q h.more is)) (inl (refl, refl))))

-- nothing more happens behind one more question, which is the last or is not
pub stopped_over : (stops : Bool) (qs : List Question) (old : Stock) (place : ℕ) (replies : List Reply) (effects : List Effect) (s : Stock) (q : Question)
    → AreAnswered stops qs old place replies effects s → q ≡ get_or qs place q → is_last stops (reply_to s q) ≡ true
    → IsCutShort stops qs (effects ++ own s q) old (stock_after_read s q)
stopped_over stops qs old place replies effects s q h is over =
    let none : effects ++ own s q ≡ effects = ap (λ e. effects ++ option_to_list e) (last_does_nothing stops s q over) ∙ append-nil effects in
    subst (λ es. IsCutShort stops qs es old (stock_after_read s q)) (sym none)
    (subst (λ new. IsCutShort stops qs effects old new) (sym (last_leaves stops s q over))
    (stopped_here stops qs old place replies effects s q h is))

pub stopped_behind : (stops : Bool) (qs : List Question) (old : Stock) (place : ℕ) (replies : List Reply) (effects : List Effect) (s : Stock) (q : Question)
    → AreAnswered stops qs old place replies effects s → q ≡ get_or qs place q → place + 1 < length qs
    → IsCutShort stops qs (effects ++ own s q) old (stock_after_read s q)
stopped_behind stops qs old place replies effects s q h is below = elim (cases_Bool (is_last stops (reply_to s q))) [
  | inl over ↦ stopped_over stops qs old place replies effects s q h is over
  | inr on ↦
      let new = stock_after_read s q in
      let behind = drop_more qs (place + 1) q below in
      let rest : IsCutShort stops (drop (place + 1) qs) [] new new = subst (λ xs. IsCutShort stops xs [] new new) (sym behind) (inl (refl, refl)) in
      h.begun (own s q) new
      (subst (λ xs. IsCutShort stops xs (own s q) s new) (sym (opened qs place q h.more is)) (inr ([], sym (append-nil (own s q)), on, rest)))
]

-- what was answered, what the records are and what was done in the end
pub record IsWhole (stops : Bool) (qs : List Question) (old : Stock) (replies : List Reply) (effects : List Effect) (new : Stock) : Type 0 where
  pub told : replies ≡ replies_to stops qs old
  pub after : new ≡ stock_after_all stops qs old
  pub done : effects ≡ effects_of stops qs old

whole : (stops : Bool) (qs : List Question) (old : Stock) (place : ℕ) (replies : List Reply) (effects : List Effect) (s : Stock) (q : Question)
    → AreAnswered stops qs old place replies effects s → Answers stops (drop place qs) s (reply_to s q ∷ []) (stock_after_read s q) (own s q)
    → IsWhole stops qs old (replies ++ reply_to s q ∷ []) (effects ++ own s q) (stock_after_read s q)
whole stops qs old place replies effects s q h step = record {
  told = ap (λ rs. replies ++ rs) (sym step.told) ∙ h.told;
  after = sym step.rest ∙ h.rest;
  done = ap (λ es. effects ++ es) (sym step.done) ∙ h.done;
}

-- where the others are left
pub told_over : (stops : Bool) (qs : List Question) (old : Stock) (place : ℕ) (replies : List Reply) (effects : List Effect) (s : Stock) (q : Question)
    → AreAnswered stops qs old place replies effects s → q ≡ get_or qs place q → is_last stops (reply_to s q) ≡ true
    → IsWhole stops qs old (replies ++ reply_to s q ∷ []) (effects ++ own s q) (stock_after_read s q)
told_over stops qs old place replies effects s q h is over =
    whole stops qs old place replies effects s q h
    (subst (λ xs. Answers stops xs s (reply_to s q ∷ []) (stock_after_read s q) (own s q)) (sym (opened qs place q h.more is))
    (ended stops q (drop (place + 1) qs) s over))

-- and behind the last question
pub told_last : (stops : Bool) (qs : List Question) (old : Stock) (place : ℕ) (replies : List Reply) (effects : List Effect) (s : Stock) (q : Question)
    → AreAnswered stops qs old place replies effects s → q ≡ get_or qs place q → place + 1 ≡ length qs
    → IsWhole stops qs old (replies ++ reply_to s q ∷ []) (effects ++ own s q) (stock_after_read s q)
told_last stops qs old place replies effects s q h is last =
    let one : drop place qs ≡ q ∷ [] = opened qs place q h.more is ∙ ap (λ xs. q ∷ xs) (drop_all (place + 1) qs (omega (arith, last))) in
    whole stops qs old place replies effects s q h
    (subst (λ xs. Answers stops xs s (reply_to s q ∷ []) (stock_after_read s q) (own s q)) (sym one) (alone stops q s))

-- ---- replies that may stand together

pub short_more : (replies all : List Reply) (reply : Reply) → all ≡ replies ++ reply ∷ [] → All IsShort replies → IsShort reply → All IsShort all
short_more replies all reply is short one =
    subst (All IsShort) (sym is) (All-append IsShort replies (reply ∷ []) short (All-cons IsShort reply [] one (All-nil IsShort)))

-- ---- what a call left

-- where memory ran out and nothing more happened
pub begun_here : {A E : Type 0} (r : Result A E) (stops : Bool) (qs : List Question) (old s new : Stock) (before so_far after joined : List Effect)
    → so_far ≡ before ++ joined → IsCutShort stops qs joined old s → OnErr r (LeavesAll s new so_far after)
    → OnErr r (GrownBy (λ more. IsCutShort stops qs more old new) before after)
begun_here (Ok v) stops qs old s new before so_far after joined is cut same = tt
begun_here (Err e) stops qs old s new before so_far after joined is cut same =
    (joined, same.1 ∙ is, subst (IsCutShort stops qs joined old) (sym same.0) cut)

-- the same where it is known already what was left
pub begun_so : {A E : Type 0} (r : Result A E) (stops : Bool) (qs : List Question) (old s new : Stock) (before after joined : List Effect)
    → after ≡ before ++ joined → new ≡ s → IsCutShort stops qs joined old s → OnErr r (GrownBy (λ more. IsCutShort stops qs more old new) before after)
begun_so (Ok v) stops qs old s new before after joined is same cut = tt
begun_so (Err e) stops qs old s new before after joined is same cut = (joined, is, subst (IsCutShort stops qs joined old) (sym same) cut)

-- nothing happened
pub nothing_begun : (stops : Bool) (qs : List Question) (s : Stock) → IsTrue (may_have (length qs)) → IsCutShort stops qs [] s s
nothing_begun stops [] s some = absurd cc
nothing_begun stops (q ∷ qs) s some = inl (refl, refl)

pub ok_so : {A E : Type 0} (r : Result A E) (P : Type 0) → P → OnOk r P
ok_so (Ok v) P p = p
ok_so (Err e) P p = tt

-- the records after the last question, which are those after all
pub all_left : {A E : Type 0} (r : Result A E) (q : Question) (old new all : Stock) (before after : List Effect) → OnOk r (NotesOne q old new before after)
    → stock_after_read old q ≡ all → OnOk r (new ≡ all)
all_left (Ok v) q old new all before after served is = served.records ∙ is
all_left (Err e) q old new all before after served is = tt

-- what the last question did, which is the last of what all did
pub all_noted : {A E : Type 0} (r : Result A E) (q : Question) (old new : Stock) (before after all : List Effect) → OnOk r (NotesOne q old new before after)
    → before ++ own old q ≡ all → OnOk r (after ≡ all)
all_noted (Ok v) q old new before after all served is = served.noted ∙ is
all_noted (Err e) q old new before after all served is = tt

-- one more is answered, as a call left it
pub goes_further : (stops : Bool) (qs : List Question) (old : Stock) (place : ℕ) (replies all : List Reply) (effects : List Effect) (s new : Stock) (q : Question) (reply : Reply)
    → AreAnswered stops qs old place replies effects s → q ≡ get_or qs place q → place + 1 < length qs → all ≡ replies ++ reply ∷ []
    → reply ≡ reply_to s q → IsShort reply → new ≡ stock_after_read s q → is_last stops (reply_to s q) ≡ false
    → AreAnswered stops qs old (place + 1) all (effects ++ own s q) new
goes_further stops qs old place replies all effects s new q reply h is below all_is reply_is short new_is on =
    subst (λ t. AreAnswered stops qs old (place + 1) all (effects ++ own s q) t) (sym new_is)
    (subst (λ rs. AreAnswered stops qs old (place + 1) rs (effects ++ own s q) (stock_after_read s q))
    (sym (all_is ∙ ap (λ r. replies ++ r ∷ []) reply_is))
    (one_more stops qs old place replies effects s q h is below (subst IsShort reply_is short) on))

-- what joined the effects in the end
pub joined_all : (before so_far joined own all : List Effect) → so_far ≡ before ++ joined → joined ++ own ≡ all → so_far ++ own ≡ before ++ all
joined_all before so_far joined own all is whole =
    ap (λ es. es ++ own) is ∙ append_assoc before joined own ∙ ap (λ es. before ++ es) whole
