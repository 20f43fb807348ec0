-- What was known at the ends of some runs, and one run more.
use Rattle.std.proofs.Common.{◌≡◌, ◌≤◌, ◌+◌, arith, ℕ, List, [], ◌∷◌, ◌++◌, length, slice_get, flat_map, map, Some}
use Rattle.std.proofs.Common.{Result, Ok, Err, IsErr, IsOk, OnOk, sym, ap, subst, refl, ◌∙◌, inl, inr, append_assoc}
use Rattle.std.proofs.Common.{append-nil}
use Rattle.std.specs.List.{All, AllZip}
use Rattle.std.proofs.lemmas.Bool.{cases_Bool}
use Rattle.std.proofs.lemmas.List.Concat.{flat_map-append}
use Rattle.std.proofs.lemmas.Slice.Zip.{AllZip-long}
use Rattle.kmip_messages.specs.Items.{requests_in}
use Rattle.kmip_plan.specs.declared.key.Key.{Key}
use Rattle.kmip_progress.specs.declared.known.Known.{Known}
use Rattle.kmip_client.specs.Clients.{ClientState, fresh}
use Rattle.kmip_client.specs.Known.{facts, known_after}
use Rattle.kmip_client.specs.Saving.{known_of}
use Rattle.kmip_client.specs.Shapes.{IsKept}
use Rattle.kmip_client.specs.declared.knowledge.Knowledge.{Knowledge}
use Rattle.kmip_protocol.specs.Moves.{Delivered}
use Rattle.kmip_protocol.specs.Past.{Names, Past, is_planned}
use Rattle.kmip_protocol.specs.Seen.{Seen}
use Rattle.kmip_runs.specs.PrivateCampaignParts.{AreSame, HasEnded, HasRun, IsBroken, begins_with}
use Rattle.kmip_runs.specs.Driving.{IsQuestion, Keeps, Learnt, TakesNothingBack}
use Rattle.kmip_runs.specs.Remembering.{AreAsked, AreHeard, AreKnownFrom, AreTaught, IsTalkOf, Shows, Talk, limit_at}
use Rattle.kmip_runs.specs.Remembering.{notes_of, saved_after, saved_from, start_knowns, starts, starts_from}
use Rattle.kmip_runs.specs.declared.campaign_end.CampaignEnd.{CampaignEnd}
use Rattle.kmip_runs.specs.declared.run.Run.{Run}
use Rattle.kmip_runs.specs.declared.run_end.RunEnd.{RunEnd}
use Rattle.kmip_runs.specs.declared.stop.Stop.{Stop}
use Rattle.kmip_runs.proofs.KnownLemmas.{delivered_grown, delivered_stays, grown_itself, grown_then, joined}
use Rattle.kmip_runs.proofs.KnownLemmas.{learnt_still}
use Rattle.kmip_runs.proofs.OrderLemmas.{zip_push}

-- what is known at the end of the last of them
abbrev pub last_of : List (List Knowledge) → List Knowledge → List Knowledge
last_of [] last = last
last_of (knowns ∷ ends) last = last_of ends knowns

last_more : (ends : List (List Knowledge)) (knowns last : List Knowledge) → last_of (ends ++ knowns ∷ []) last ≡ knowns
last_more [] knowns last = refl
last_more (first ∷ ends) knowns last = last_more ends knowns first

starts_none : (keys : List Key) (last : List Knowledge) (saved : List (List Known)) (runs : List Run)
    → starts_from keys last saved runs [] ≡ []
starts_none keys last saved [] = refl
starts_none keys last saved (run ∷ runs) = refl

saved_none : (saved : List (List Known)) (runs : List Run) → saved_from saved runs [] ≡ saved
saved_none saved [] = refl
saved_none saved (run ∷ runs) = refl

starts_more : (keys : List Key) (last : List Knowledge) (saved : List (List Known)) (runs : List Run)
    (ends : List (List Knowledge)) (run : Run) (knowns : List Knowledge)
    → slice_get runs (length ends) ≡ Some run
    → starts_from keys last saved runs (ends ++ knowns ∷ [])
    ≡ starts_from keys last saved runs ends ++ start_knowns keys run.start (last_of ends last)
    (saved_from saved runs ends) ∷ []
starts_more keys last saved [] ends run knowns is = absurd cc
starts_more keys last saved (first ∷ runs) [] run knowns is =
    let same : first ≡ run = cc in
    ap (λ r. start_knowns keys r.start last saved ∷ starts_from keys knowns (saved_after first knowns saved) runs [])
    same
    ∙ ap (λ rest. start_knowns keys run.start last saved ∷ rest)
    (starts_none keys knowns (saved_after first knowns saved) runs)
starts_more keys last saved (first ∷ runs) (known ∷ ends) run knowns is =
    ap (λ rest. start_knowns keys first.start last saved ∷ rest)
    (starts_more keys known (saved_after first known saved) runs ends run knowns is)

saves_more : (saved : List (List Known)) (runs : List Run) (ends : List (List Knowledge)) (run : Run)
    (knowns : List Knowledge) → slice_get runs (length ends) ≡ Some run
    → saved_from saved runs (ends ++ knowns ∷ []) ≡ saved_after run knowns (saved_from saved runs ends)
saves_more saved [] ends run knowns is = absurd cc
saves_more saved (first ∷ runs) [] run knowns is =
    let same : first ≡ run = cc in saved_none (saved_after first knowns saved) runs
    ∙ ap (λ r. saved_after r knowns saved) same
saves_more saved (first ∷ runs) (known ∷ ends) run knowns is =
    saves_more (saved_after first known saved) runs ends run knowns is

taught_push : (keys : List Key) (begun : List (List Knowledge)) (talks : List Talk) (ends : List (List Knowledge))
    (start : List Knowledge) (talk : Talk) (knowns : List Knowledge)
    → AreTaught keys begun talks ends → facts knowns ≡ facts (known_after keys start talk.answers)
    → AreTaught keys (begun ++ start ∷ []) (talks ++ talk ∷ []) (ends ++ knowns ∷ [])
taught_push keys [] [] [] start talk knowns taught is = (is, tt)
taught_push keys [] [] (k ∷ ends) start talk knowns taught is = absurd taught
taught_push keys [] (t ∷ talks) [] start talk knowns taught is = absurd taught
taught_push keys [] (t ∷ talks) (k ∷ ends) start talk knowns taught is = absurd taught
taught_push keys (s ∷ begun) [] [] start talk knowns taught is = absurd taught
taught_push keys (s ∷ begun) [] (k ∷ ends) start talk knowns taught is = absurd taught
taught_push keys (s ∷ begun) (t ∷ talks) [] start talk knowns taught is = absurd taught
taught_push keys (s ∷ begun) (t ∷ talks) (k ∷ ends) start talk knowns taught is =
    (taught.0, taught_push keys begun talks ends start talk knowns taught.1 is)

pub flat_push : {A B : Type 0} (f : A → List B) (xs : List A) (x : A) → flat_map f xs ++ f x ≡ flat_map f (xs ++ x ∷ [])
flat_push f xs x = ap (λ ys. flat_map f xs ++ ys) (sym (append-nil (f x))) ∙ sym (flat_map-append f xs (x ∷ []))

asked_push : (keys : List Key) (runs : List Run) (talks : List Talk) (run : Run) (talk : Talk)
    → slice_get runs (length talks) ≡ Some run → AreAsked keys runs talks
    → All (IsQuestion keys run.batch) talk.questions → AreAsked keys runs (talks ++ talk ∷ [])
asked_push keys [] [] run talk at asked each = absurd cc
asked_push keys (first ∷ runs) [] run talk at asked each =
    let same : run ≡ first = cc in
    (subst (λ (r : Run). All (IsQuestion keys r.batch) talk.questions) same each, tt)
asked_push keys [] (other ∷ talks) run talk at asked each = absurd asked
asked_push keys (first ∷ runs) (other ∷ talks) run talk at asked each =
    (asked.0, asked_push keys runs talks run talk at asked.1 each)

heard_more : (keys : List Key) (runs : List Run) (run : Run) (begun known : List (List Knowledge)) (ends : List RunEnd)
    (old between new : Past) (start knowns : List Knowledge)
    (exchanges : ℕ) (end : RunEnd) → slice_get runs (length ends) ≡ Some run → end.exchanges ≡ exchanges
    → AreHeard keys runs begun known ends old between
    → Learnt keys run.batch between new start knowns exchanges
    → AreHeard keys runs (begun ++ start ∷ []) (known ++ knowns ∷ []) (ends ++ end ∷ []) old new
heard_more keys runs run begun known ends old between new start knowns exchanges end at is heard learnt =
    let talk : Talk = record { questions = learnt.questions; answers = learnt.answers } in
    let asked = flat_push (λ (t : Talk). t.questions) heard.talks talk in
    record {
      talks = heard.talks ++ talk ∷ [];
      taught = taught_push keys begun heard.talks known start talk knowns heard.taught learnt.known_is;
      talks_are = zip_push IsTalkOf heard.talks ends talk end heard.talks_are
          (record {
            as_many_questions = learnt.as_many_questions ∙ sym is;
            as_many_answers = learnt.as_many_answers
                ∙ sym is;
          });
      asked = asked_push keys runs heard.talks run talk
          (subst (λ n. slice_get runs n ≡ Some run) (AllZip-long IsTalkOf heard.talks ends heard.talks_are) at)
          heard.asked
          learnt.each;
      sent_are =
          joined old.sent between.sent new.sent (flat_map (λ (t : Talk). t.questions) heard.talks) learnt.questions
          heard.sent_are learnt.sent_are
          ∙ ap (λ sent. old.sent ++ sent) asked;
      handed_are =
          joined old.handed between.handed new.handed (flat_map (λ (t : Talk). t.answers) heard.talks) learnt.answers
          heard.handed_are learnt.handed_are
          ∙ ap (λ handed. old.handed ++ handed) (flat_push (λ (t : Talk). t.answers) heard.talks talk);
      requests_are =
          joined old.requests between.requests new.requests
          (flat_map requests_in (flat_map (λ (t : Talk). t.questions) heard.talks))
          (flat_map requests_in learnt.questions) heard.requests_are learnt.requests_are
          ∙ ap (λ requests. old.requests ++ requests)
          (sym (flat_map-append requests_in (flat_map (λ (t : Talk). t.questions) heard.talks) learnt.questions)
          ∙ ap (λ sent. flat_map requests_in sent) asked);
    }

-- what holds always holds of each answer
pub always_ok : {A E P : Type 0} (r : Result A E) → P → OnOk r P
always_ok (Ok a) holds = holds
always_ok (Err e) holds = tt

pub no_ok : {A E X : Type 0} (r : Result A E) (a : A) → IsErr r → r ≡ Ok a → X
no_ok (Ok b) a failed is = absurd cc
no_ok (Err e) a failed is = absurd cc

pub no_both : {A E X : Type 0} (r : Result A E) → IsErr r → IsOk r → X
no_both (Ok a) failed is = absurd cc
no_both (Err e) failed is = absurd cc

-- ---- several runs

-- what is saved joins what was carried over
pub saved_behind : (run : Run) (knowns : List Knowledge) (carried saved : List (List Known))
    → carried ++ saved_after run knowns saved ≡ saved_after run knowns (carried ++ saved)
saved_behind run knowns carried saved = elim (cases_Bool run.save) [
  | inl save ↦ rw save (sym (append_assoc carried saved (map known_of knowns ∷ [])))
  | inr none ↦ rw none refl
]

module _ (keys : List Key) (carried : List (List Known)) (runs : List Run) where
  -- so much was known at the ends, and the client knows what was known at the last
  pub record Recalled (c : ClientState) (x y : Seen) (ends : List RunEnd) (saved : List (List Known)) : Type 0 where
    pub known : List (List Knowledge)
    pub shown : AllZip (Shows keys) known ends
    pub forgets_nothing : AllZip (AllZip IsKept) (starts keys carried runs known) known
    pub saved_are : carried ++ saved ≡ saved_from carried runs known
    pub last_is : c.knowns ≡ last_of known (fresh keys).knowns
    pub heard : x.honest (is_planned keys)
        → y.honest (is_planned keys) × AreHeard keys runs (starts keys carried runs known) known ends x.past y.past
    pub grown : x.honest (is_planned keys) → TakesNothingBack keys x.past y.past

  pub recalled_none : (c : ClientState) (x : Seen) (ends : List RunEnd) (saved : List (List Known))
      → c.knowns ≡ (fresh keys).knowns → ends ≡ [] → saved ≡ []
      → Recalled c x x ends saved
  recalled_none c x ends saved is no_end none_saved =
      let none = starts_none keys (fresh keys).knowns carried runs in
      rw (no_end, none_saved)
      (record {
        known = [];
        shown = tt;
        forgets_nothing = subst (λ begun. AllZip (AllZip IsKept) begun []) (sym none) tt;
        saved_are = append-nil carried ∙ sym (saved_none carried runs);
        last_is = is;
        heard = λ holds. (
          holds,
          subst (λ begun. AreHeard keys runs begun [] [] x.past x.past) (sym none)
              (record {
                talks = [];
                taught = tt;
                talks_are = tt;
                asked = tt;
                sent_are = sym (append-nil x.past.sent);
                handed_are = sym (append-nil x.past.handed);
                requests_are = sym (append-nil x.past.requests);
              }),
        );
        grown = λ holds. grown_itself x.past;
      })

  pub recalled_more : (a b : ClientState) (x y z : Seen) (run : Run) (old new : CampaignEnd) (place : ℕ)
      → slice_get runs place ≡ Some run
      → length old.runs.items ≡ place → Recalled a x y old.runs.items old.saved.items
      → HasRun keys carried run (record { client = a; link = y; end = old })
      (record { client = b; link = z; end = new }) → Recalled b x z new.runs.items new.saved.items
  recalled_more a b x y z run old new place is long before ran =
      let noted = ran.ended.noted in
      let many = AllZip-long (Shows keys) before.known old.runs.items before.shown in
      let at = subst (λ n. slice_get runs n ≡ Some run) (sym long ∙ many) is in
      let start = begins_with keys carried run a old in
      let begun : start ≡ start_knowns keys run.start (last_of before.known (fresh keys).knowns)
      (saved_from carried runs before.known) =
      ap (λ last. start_knowns keys run.start last (carried ++ old.saved.items)) before.last_is
      ∙ ap (λ saved. start_knowns keys run.start (last_of before.known (fresh keys).knowns) saved) before.saved_are in
      let further : starts keys carried runs (before.known ++ b.knowns ∷ []) ≡ starts keys carried runs before.known
      ++ start ∷ [] =
      starts_more keys (fresh keys).knowns carried runs before.known run b.knowns at
      ∙ ap (λ s. starts keys carried runs before.known ++ s ∷ []) (sym begun) in
      subst (λ ends. Recalled b x z ends new.saved.items) (sym noted.joined)
      (record {
        known = before.known ++ b.knowns ∷ [];
        shown = zip_push (Shows keys) before.known old.runs.items b.knowns noted.end before.shown noted.shows;
        forgets_nothing = subst (λ s. AllZip (AllZip IsKept) s (before.known ++ b.knowns ∷ [])) (sym further)
            (zip_push (AllZip IsKept) (starts keys carried runs before.known) before.known start b.knowns
            before.forgets_nothing ran.forgets_nothing);
        saved_are =
            ap (λ saved. carried ++ saved) ran.ended.saved_are ∙ saved_behind run b.knowns carried old.saved.items
            ∙ ap (λ saved. saved_after run b.knowns saved) before.saved_are
            ∙ sym (saves_more carried runs before.known run b.knowns at);
        last_is = sym (last_more before.known b.knowns (fresh keys).knowns);
        heard = λ holds.
            let first = before.heard holds in
            let second = ran.learnt first.0 in (
              second.0,
              subst (λ s. AreHeard keys runs s (before.known ++ b.knowns ∷ []) (old.runs.items ++ noted.end ∷ [])
                  x.past z.past) (sym further)
                  (heard_more keys runs run (starts keys carried runs before.known) before.known old.runs.items x.past
                  y.past z.past start b.knowns ran.driven.1
                  noted.end (subst (λ n. slice_get runs n ≡ Some run) (sym long) is) noted.exchanges_is first.1
                  second.1),
            );
        grown = λ holds. grown_then x.past y.past z.past (before.grown holds)
            (ran.takes_nothing_back (before.heard holds).0);
      })

  pub recalled_known : (c : ClientState) (x y : Seen) (ends : List RunEnd) (saved : List (List Known)) (whole : Type 0)
      → Recalled c x y ends saved
      → AreKnownFrom keys carried runs (record { ends = ends; saved = saved }) (x.honest (is_planned keys)) whole
      x.past y.past
  recalled_known c x y ends saved whole recalled = record {
    known = recalled.known;
    shown = recalled.shown;
    forgets_nothing = recalled.forgets_nothing;
    saved_are = recalled.saved_are;
    until = y.past;
    heard = λ holds. (recalled.heard holds).1;
    takes_nothing_back = recalled.grown;
    later = λ holds. grown_itself y.past;
    few_more = λ holds. omega arith;
    no_more = λ is. refl;
  }

  -- the next run was broken off
  pub broken_known : (c : ClientState) (x y z : Seen) (run : Run) (old new : CampaignEnd) (place : ℕ) (whole : Type 0)
      → slice_get runs place ≡ Some run
      → length old.runs.items ≡ place → (whole → y.past ≡ z.past) → Recalled c x y old.runs.items old.saved.items
      → IsBroken keys run y z old new
      → AreKnownFrom keys carried runs (notes_of new) (x.honest (is_planned keys)) whole x.past z.past
  broken_known c x y z run old new place whole is long no_more recalled broken =
      let many = AllZip-long (Shows keys) recalled.known old.runs.items recalled.shown in
      let at = subst (λ n. slice_get runs n ≡ Some run) (sym long ∙ many) is in
      let limit : limit_at runs (length recalled.known) ≡ run.limit = rw at refl in
      rw (broken.same.same_runs, broken.same.same_saved)
      (record {
        known = recalled.known;
        shown = recalled.shown;
        forgets_nothing = recalled.forgets_nothing;
        saved_are = recalled.saved_are;
        until = y.past;
        heard = λ holds. (recalled.heard holds).1;
        takes_nothing_back = λ holds.
            grown_then x.past y.past z.past (recalled.grown holds) (broken.takes_nothing_back (recalled.heard holds).0);
        later = λ holds. broken.takes_nothing_back (recalled.heard holds).0;
        few_more = λ holds. rw limit (broken.few (recalled.heard holds).0);
        no_more = no_more;
      })

module _ (keys : List Key) (carried : List (List Known)) where
  -- a run is begun, driven, noted and closed
  pub ran_closed : (run : Run) (a b c : ClientState) (x y z : Seen) (driven : Stop × ℕ) (old new : CampaignEnd)
      → b.keys ≡ keys → b.batch ≡ run.batch
      → b.knowns ≡ begins_with keys carried run a old → Keeps b c
      → (x.honest (is_planned b.keys)
      → y.honest (is_planned b.keys) × Learnt b.keys b.batch x.past y.past b.knowns c.knowns driven.1)
      → (x.honest (is_planned b.keys) → TakesNothingBack b.keys x.past y.past)
      → HasEnded c.keys run c.knowns driven old new
      → ((names : Names) → y.honest names → z.honest names × Delivered names y.past z.past)
      → HasRun keys carried run (record { client = a; link = x; end = old })
      (record { client = c; link = z; end = new })
  ran_closed run a b c x y z driven old new b_keys b_batch begun keeps learnt grown ended closes = record {
    driven = driven;
    ended = subst (λ ks. HasEnded ks run c.knowns driven old new) (keeps.keys_stay ∙ b_keys) ended;
    forgets_nothing = subst (λ start. AllZip IsKept start c.knowns) begun keeps.kept;
    learnt = λ holds.
        let taught = learnt (subst (λ ks. x.honest (is_planned ks)) (sym b_keys) holds) in
        let close = closes (is_planned keys) (subst (λ ks. y.honest (is_planned ks)) b_keys taught.0) in (
          close.0,
          learnt_still keys run.batch x.past y.past z.past (begins_with keys carried run a old) c.knowns c.knowns
              driven.1
              (subst (λ start. Learnt keys run.batch x.past y.past start c.knowns driven.1) begun
              (subst (λ most. Learnt keys most x.past y.past b.knowns c.knowns driven.1) b_batch
              (subst (λ ks. Learnt ks b.batch x.past y.past b.knowns c.knowns driven.1) b_keys taught.1)))
              (delivered_stays (is_planned keys) y.past z.past close.1) refl,
        );
    takes_nothing_back = λ holds.
        let first = subst (λ ks. x.honest (is_planned ks)) (sym b_keys) holds in
        let close = closes (is_planned keys) (subst (λ ks. y.honest (is_planned ks)) b_keys (learnt first).0) in
        grown_then x.past y.past z.past (subst (λ ks. TakesNothingBack ks x.past y.past) b_keys (grown first))
        (delivered_grown (is_planned keys) y.past z.past close.1);
  }

  -- or begun, driven and broken off
  pub broken_off : (b : ClientState) (x y : Seen) (run : Run) (old new : CampaignEnd) → b.keys ≡ keys
      → (x.honest (is_planned b.keys) → TakesNothingBack b.keys x.past y.past)
      → (x.honest (is_planned b.keys) → length y.past.sent ≤ length x.past.sent + run.limit) → AreSame old new
      → IsBroken keys run x y old new
  broken_off b x y run old new b_keys grown few same = record {
    same = same;
    takes_nothing_back = λ holds. subst (λ ks. TakesNothingBack ks x.past y.past) b_keys
        (grown (subst (λ ks. x.honest (is_planned ks)) (sym b_keys) holds));
    few = λ holds. few (subst (λ ks. x.honest (is_planned ks)) (sym b_keys) holds);
  }

  -- or begun and driven, and broken off where it was to be ended over the link
  pub broken_closed : (b : ClientState) (x y z : Seen) (run : Run) (old new : CampaignEnd) → b.keys ≡ keys
      → (x.honest (is_planned b.keys) → TakesNothingBack b.keys x.past y.past)
      → (x.honest (is_planned b.keys) → length y.past.sent ≤ length x.past.sent + run.limit)
      → ((names : Names) → x.honest names → y.honest names)
      → ((names : Names) → y.honest names → z.honest names × Delivered names y.past z.past) → AreSame old new
      → IsBroken keys run x z old new
  broken_closed b x y z run old new b_keys grown few still closes same =
      let off = broken_off b x y run old new b_keys grown few same in
      record {
        same = same;
        takes_nothing_back = λ holds.
            let close = closes (is_planned keys) (still (is_planned keys) holds) in
            grown_then x.past y.past z.past (off.takes_nothing_back holds)
            (delivered_grown (is_planned keys) y.past z.past close.1);
        few = λ holds.
            let close = closes (is_planned keys) (still (is_planned keys) holds) in
            subst (λ sent. length sent ≤ length x.past.sent + run.limit)
            (sym (delivered_stays (is_planned keys) y.past z.past close.1).sent_stays) (off.few holds);
      }
