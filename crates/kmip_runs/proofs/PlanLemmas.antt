-- What holds between the runs on two plans.
use Rattle.std.proofs.Common.{◌≡◌, ◌≢◌, ◌≤◌, ◌<◌, ◌⊎◌, ℕ, zero, suc, List, [], ◌∷◌, ◌++◌, ◌+◌, drop, flat_map, length}
use Rattle.std.proofs.Common.{map, take, slice_get, get_or, is_some, true, Some, None, Ok, Err, Option, option_map}
use Rattle.std.proofs.Common.{IfOk, IfSome, IsTrue, Result, refl, sym, ap, subst, ◌∙◌, inl, inr, append-nil, arith}
use Rattle.std.specs.Prelude.{⊤}
use Rattle.std.specs.List.{All, AllZip}
use Rattle.std.proofs.Math.Dec.{ltb}
use Rattle.std.proofs.lemmas.Bool.{cases_Bool, ltb-false, ltb-true}
use Rattle.std.proofs.lemmas.Option.{slice_get_past, slice_get_read}
use Rattle.std.proofs.lemmas.List.{length-append, map-append}
use Rattle.std.proofs.lemmas.List.Elements.{All-append, All-map, All-nil, All-weaker}
use Rattle.std.proofs.lemmas.Slice.Zip.{AllZip-long}
use Rattle.kmip_plan.specs.Plans.{IsLawful}
use Rattle.kmip_plan.specs.Prolonging.{Prolongs}
use Rattle.kmip_plan.specs.declared.key.Key.{Key}
use Rattle.kmip_progress.specs.Laws.{TextsAreProlonged}
use Rattle.kmip_progress.specs.Reading.{read_text}
use Rattle.kmip_progress.specs.Suiting.{Suits, are_texts, known_fits, nothing_known}
use Rattle.kmip_progress.specs.Texts.{progress_text}
use Rattle.kmip_progress.specs.declared.progress_fault.ProgressFault.{ProgressFault}
use Rattle.kmip_progress.specs.declared.known.Known.{Known}
use Rattle.kmip_client.specs.Held.{TrueProgress}
use Rattle.kmip_client.specs.Saving.{known_of}
use Rattle.kmip_client.specs.declared.knowledge.Knowledge.{Knowledge}
use Rattle.kmip_protocol.specs.Past.{Names, Past, is_planned}
use Rattle.kmip_protocol.specs.Seen.{Seen}
use Rattle.kmip_protocol.specs.Sound.{Sound}
use Rattle.kmip_runs.specs.PrivateLawbook.{Lawbook}
use Rattle.kmip_runs.specs.Campaign.{CalmLink}
use Rattle.kmip_runs.specs.Headline.{GoodLink}
use Rattle.kmip_runs.specs.PrivateCampaignParts.{AreSame, HasRunAll}
use Rattle.kmip_runs.specs.Campaigns.{AreInTurn, AreParts, AreProlonged, CalmStart, GoodStart, IsPart, IsTrueFor}
use Rattle.kmip_runs.specs.Campaigns.{LastIsShort, Premises, carried_over, first_plan, last_plan, premises_of}
use Rattle.kmip_runs.specs.PrivateCampaignsParts.{HasRunBroken, HasRunPart, HasRunPlans, HasRunWhole, IsGoodFor}
use Rattle.kmip_runs.specs.PrivateCampaignsParts.{IsReadFor}
use Rattle.kmip_runs.specs.Remembering.{AreKnownFrom, Notes, Shows, noted_ends, noted_saves, notes_of, saved_after}
use Rattle.kmip_runs.specs.Remembering.{saved_from}
use Rattle.kmip_runs.specs.declared.campaign_end.CampaignEnd.{CampaignEnd}
use Rattle.kmip_runs.specs.declared.run.Run.{Run}
use Rattle.kmip_runs.specs.TurnedRuns.{AreTurnedFrom}
use Rattle.kmip_runs.specs.declared.run_end.RunEnd.{RunEnd}
use Rattle.kmip_runs.proofs.CampaignLemmas.{true_onward}
use Rattle.kmip_runs.proofs.LastLemmas.{noted_for_both, noted_for_none, noted_for_onward, noted_over, true_over}
use Rattle.kmip_runs.proofs.RememberLemmas.{flat_push}
use Rattle.kmip_runs.proofs.RunLemmas.{known_if}
use Rattle.kmip_runs.proofs.PartLemmas.{first_is, last_prolongs, last_short, next_prolongs, parts_all, parts_broken}
use Rattle.kmip_runs.proofs.PartLemmas.{parts_if, parts_long, parts_more, take_none}
use Rattle.kmip_runs.proofs.OnLemmas.{on_nowhere, on_then}

-- ---- what was saved, read for the next plan

same_read : (a b : List Known) → ◌≡◌ {A = Result (List Known) ProgressFault} (Ok a) (Ok b) → a ≡ b
same_read a b is = cc

pub read_is : TextsAreProlonged → (new old : List Key) (saved read : List Known) (text given : List ℕ) → IsLawful old
    → Prolongs new old → Suits old saved
    → IsTrue (are_texts saved) → text ≡ progress_text old saved → given ≡ text → read_text new given ≡ Ok read
    → read ≡ carried_over new saved
read_is prolonged new old saved read text given lawful prolongs suits texts is same reads =
    same_read read (saved ++ map (λ key. nothing_known) (drop (length old) new))
    (sym reads ∙ ap (λ t. read_text new t) (same ∙ is) ∙ prolonged new old saved lawful prolongs suits texts)
    ∙ ap (λ n. saved ++ map (λ key. nothing_known) (drop n new))
    (sym (AllZip-long (λ key known. known_fits key known ≡ true) old saved suits))

-- ---- no more is noted than there was room made for

take_few : {A : Type 0} (n : ℕ) (xs : List A) → length (take n xs) ≤ length xs
take_few zero [] = omega arith
take_few zero (x ∷ xs) = omega arith
take_few (suc n) [] = omega arith
take_few (suc n) (x ∷ xs) = omega (arith, take_few n xs)

pub few_ends : {A B : Type 0} (R : A → B → Type 0) (xs : List A) (ys : List B) → AllZip R (take (length ys) xs) ys
    → length ys ≤ length xs
few_ends R xs ys zipped = omega (arith, AllZip-long R (take (length ys) xs) ys zipped, take_few (length ys) xs)

one_saved : (run : Run) (knowns : List Knowledge) (saved : List (List Known))
    → length (saved_after run knowns saved) ≤ length saved + 1
one_saved run knowns saved = elim (cases_Bool run.save) [
  | inl save ↦ rw save (omega (arith, length-append saved (map known_of knowns ∷ [])))
  | inr none ↦ rw none (omega arith)
]

saves_few : (saved : List (List Known)) (runs : List Run) (known : List (List Knowledge))
    → length (saved_from saved runs known) ≤ length saved + length known
saves_few saved [] known = omega arith
saves_few saved (run ∷ runs) [] = omega arith
saves_few saved (run ∷ runs) (knowns ∷ known) =
    omega (arith, saves_few (saved_after run knowns saved) runs known, one_saved run knowns saved)

pub few_saved : (keys : List Key) (carried : List (List Known)) (runs : List Run) (notes : Notes)
    (honest whole : Type 0) (old new : Past)
    → AreKnownFrom keys carried runs notes honest whole old new → length notes.ends ≤ length runs
    → length notes.saved ≤ length runs
few_saved keys carried runs notes honest whole old new is few =
    let as_many = AllZip-long (Shows keys) is.known notes.ends is.shown in
    let most = saves_few carried runs is.known in
    omega (arith, as_many, most, few, ap length is.saved_are, length-append carried notes.saved)

-- ---- the runs of one plan

pub known_for : (keys : List Key) (carried : List (List Known)) (runs : List Run) (notes : Notes)
    (honest other whole : Type 0) (old new : Past)
    → (other → honest) → AreKnownFrom keys carried runs notes honest whole old new
    → AreKnownFrom keys carried runs notes other whole old new
known_for keys carried runs notes honest other whole old new to is = record {
  known = is.known;
  shown = is.shown;
  forgets_nothing = is.forgets_nothing;
  saved_are = is.saved_are;
  until = is.until;
  heard = λ holds. is.heard (to holds);
  takes_nothing_back = λ holds. is.takes_nothing_back (to holds);
  later = λ holds. is.later (to holds);
  few_more = λ holds. is.few_more (to holds);
  no_more = is.no_more;
}

-- the turns of runs, under other premises that give the first
pub turned_for : (keys : List Key) (carried : List (List Known)) (runs : List Run) (ends : List RunEnd)
    (honest other whole less : Type 0) (old new : Past)
    → (other → honest) → (less → whole) → AreTurnedFrom keys carried runs ends honest whole old new
    → AreTurnedFrom keys carried runs ends other less old new
turned_for keys carried runs ends honest other whole less old new to of is = record {
  talks = is.talks;
  clients = is.clients;
  turned = is.turned;
  until = is.until;
  sent_are = λ holds. is.sent_are (to holds);
  handed_are = λ holds. is.handed_are (to holds);
  no_more = λ holds. is.no_more (of holds);
}

pub if_ok_more : {A E : Type 0} (P Q : A → Type 0) (r : Result A E) → ((a : A) → P a → Q a) → IfOk r P → IfOk r Q
if_ok_more P Q (Ok a) to holds = to a holds
if_ok_more P Q (Err e) to holds = tt

pub read_for : (next : Option (List Key)) (carried saved given read : List (List Known)) → given ≡ saved
    → IsReadFor next (carried ++ given) read
    → IsReadFor next (carried ++ saved) read
read_for next carried saved given read same is = subst (λ s. IsReadFor next (carried ++ s) read) same is

-- ---- what was carried over twice

drop_none : {A : Type 0} (xs : List A) → drop 0 xs ≡ xs
drop_none [] = refl
drop_none (x ∷ xs) = refl

over_nothing : (keys next : List Key) → length keys ≤ length next
    → carried_over next (map (λ key. nothing_known) keys) ≡ map (λ key. nothing_known) next
over_nothing [] next few = ap (λ ks. map (λ key. nothing_known) ks) (drop_none next)
over_nothing (key ∷ keys) [] few = absurd (omega (arith, few))
over_nothing (key ∷ keys) (n ∷ next) few =
    ap (λ rest. nothing_known ∷ rest) (over_nothing keys next (omega (arith, few)))

over_twice : (keys next : List Key) (saved : List Known) → length keys ≤ length next
    → carried_over next (carried_over keys saved) ≡ carried_over next saved
over_twice keys next [] few =
    ap (λ ks. carried_over next (map (λ key. nothing_known) ks)) (drop_none keys) ∙ over_nothing keys next few
    ∙ sym (ap (λ ks. map (λ key. nothing_known) ks) (drop_none next))
over_twice [] next (known ∷ saved) few = ap (λ s. carried_over next s) (append-nil (known ∷ saved))
over_twice (key ∷ keys) [] (known ∷ saved) few = absurd (omega (arith, few))
over_twice (key ∷ keys) (n ∷ next) (known ∷ saved) few =
    ap (λ rest. known ∷ rest) (over_twice keys next saved (omega (arith, few)))

over_all : (keys next : List Key) (saved : List (List Known)) → length keys ≤ length next
    → map (carried_over next) (map (carried_over keys) saved) ≡ map (carried_over next) saved
over_all keys next [] few = refl
over_all keys next (one ∷ saved) few =
    ap (λ o. o ∷ map (carried_over next) (map (carried_over keys) saved)) (over_twice keys next one few)
    ∙ ap (λ rest. carried_over next one ∷ rest) (over_all keys next saved few)

-- what was carried over to a plan, and what was saved under it, carried over to the next
over_both : (keys next : List Key) (old more new carried : List (List Known)) → length keys ≤ length next
    → carried ≡ map (carried_over keys) old → new ≡ old ++ more
    → map (carried_over next) (carried ++ more) ≡ map (carried_over next) new
over_both keys next old more new carried few is joined =
    map-append (carried_over next) carried more
    ∙ ap (λ front. front ++ map (carried_over next) more)
    (ap (map (carried_over next)) is ∙ over_all keys next old few)
    ∙ sym (map-append (carried_over next) old more) ∙ ap (map (carried_over next)) (sym joined)

if_some : {A : Type 0} (P : A → Type 0) (o : Option A) (a : A) → o ≡ Some a → IfSome o P → P a
if_some P o a is holds = subst (λ option. IfSome option P) is holds

-- ---- places that there are

some_none : {A X : Type 0} (a : A) → Some a ≡ None → X
some_none a is = absurd cc

there_is : {A : Type 0} (xs : List A) (place : ℕ) → slice_get xs place ≢ None → place < length xs
there_is [] place some = absurd (some refl)
there_is (x ∷ xs) zero some = omega arith
there_is (x ∷ xs) (suc place) some = let below = there_is xs place some in omega (arith, below)

take_long : {A : Type 0} (xs : List A) (place : ℕ) (x : A) → slice_get xs place ≡ Some x
    → length (take place xs) ≡ place
take_long [] place x is = absurd cc
take_long (y ∷ xs) zero x is = refl
take_long (y ∷ xs) (suc place) x is = ap (λ n. suc n) (take_long xs place x is)

-- all that stands before the runs on the plan at a place
module _ (plans : List (List Key)) (runs : List (List Run)) where
  pub record Reached (start link : Seen) (place : ℕ) (ends : List RunEnd) (saved carried : List (List Known)) : Type 0
    where
      pub good : IsGoodFor (last_plan plans) start link ends saved
      pub sound : (keys : List Key) → slice_get plans place ≡ Some keys → IsLawful keys → Sound keys link.past
      pub carried_true : (keys : List Key) → slice_get plans place ≡ Some keys
          → All (TrueProgress link.past.objects keys) carried

  pub record Turning (start link : Seen) (place : ℕ) (end : CampaignEnd) (carried : List (List Known)) : Type 0 where
    pub parts : List Notes
    pub ends_are : end.runs.items ≡ flat_map noted_ends parts
    pub saved_are : end.saved.items ≡ flat_map noted_saves parts
    pub each : AreParts (take place plans) (take place runs) [] parts (premises_of plans start) ⊤ start.past link.past
    pub carried_are : (keys : List Key) → slice_get plans place ≡ Some keys
        → (carried ≡ map (carried_over keys) end.saved.items) × All (Suits keys) carried
    pub honest_still : (names : Names) → start.honest names → link.honest names
    pub stands : GoodStart plans start → Reached start link place end.runs.items end.saved.items carried
    pub calmly : CalmStart plans start → CalmLink (last_plan plans) link

  -- before the first plan
  pub turning_none : Lawbook → Lawbook → (x : Seen) (end : CampaignEnd) (last : List Key)
      (carried : List (List Known)) → end.runs.items ≡ [] → end.saved.items ≡ [] → carried ≡ []
      → AreProlonged plans → IsLawful (last_plan plans) → IsLawful (first_plan plans)
      → slice_get plans 0 ≡ Some (first_plan plans) → Turning x x 0 end carried
  turning_none r l x end last carried no_end none_saved none prolonged lawful first_lawful is =
      let prolongs = last_prolongs l plans 0 (first_plan plans) prolonged is in
      record {
        parts = [];
        ends_are = no_end;
        saved_are = none_saved;
        each = (λ holds. take_none plans, refl);
        carried_are = λ keys at. rw (none, none_saved) (refl, All-nil (Suits keys));
        honest_still = λ names holds. holds;
        stands = λ start. record {
          good = record {
            good = record {
              amid_for = x.honest_is_amid (last_plan plans) start.honest_for;
              sound = l.exchanges.sound_of_prolonged (last_plan plans) (first_plan plans) x.past first_lawful lawful
                  prolongs start.none_further start.sound;
            };
            honest = start.honest_for;
            went = on_nowhere r.client.itself r.amid.nothing (last_plan plans) x.past;
            noted = noted_for_none (last_plan plans) x.past end.runs.items end.saved.items no_end none_saved;
          };
          sound = λ keys at lawful_keys. subst (λ ks. Sound ks x.past) (first_is plans keys at) start.sound;
          carried_true = λ keys at. rw none (All-nil (TrueProgress x.past.objects keys));
        };
        calmly = λ start. record {
          calm_for = start.calm_for;
          sound = l.exchanges.sound_of_prolonged (last_plan plans) (first_plan plans) x.past first_lawful lawful
              prolongs start.none_further start.sound;
          roomy = start.roomy;
        };
      }

  -- what the runs on the plan at a place leave, whole or broken off
  pub record Turned (start link : Seen) (place : ℕ) (end : CampaignEnd) (whole : Type 0) : Type 0 where
    pub parts : List Notes
    pub ends_are : end.runs.items ≡ flat_map noted_ends parts
    pub saved_are : end.saved.items ≡ flat_map noted_saves parts
    pub each : AreParts (take (suc place) plans) (take (suc place) runs) [] parts (premises_of plans start) whole
        start.past link.past
    pub good : GoodStart plans start → IsGoodFor (last_plan plans) start link end.runs.items end.saved.items

  -- what is honest and calm for the names of the last plan is so for those of each
  module _ (r : Lawbook) (l : Lawbook) (prolonged : AreProlonged plans) (lawful : IsLawful (last_plan plans)) where
    good_of : (start x : Seen) (place : ℕ) (end : CampaignEnd) (keys : List Key) (carried : List (List Known))
        → slice_get plans place ≡ Some keys → IsLawful keys
        → Turning start x place end carried → GoodStart plans start → GoodLink keys x
    good_of start x place end keys carried is lawful_keys before begun =
        let names = l.exchanges.names_of_prolonged (last_plan plans) keys lawful
        (last_prolongs l plans place keys prolonged is) in
        record {
          amid_for = x.honest_is_amid keys
              ((x.fewer (is_planned (last_plan plans)) (is_planned keys) names).0
              (before.honest_still (is_planned (last_plan plans)) begun.honest_for));
          sound = (before.stands begun).sound keys is lawful_keys;
        }

    begun_of : (start : Seen) → CalmStart plans start → GoodStart plans start
    begun_of start begun =
        record {
          honest_for = start.calm_is_honest (is_planned (last_plan plans)) begun.calm_for;
          sound = begun.sound;
          none_further = begun.none_further;
        }

    calm_of : (start x : Seen) (place : ℕ) (end : CampaignEnd) (keys : List Key) (carried : List (List Known))
        → slice_get plans place ≡ Some keys → IsLawful keys
        → Turning start x place end carried → CalmStart plans start → CalmLink keys x
    calm_of start x place end keys carried is lawful_keys before begun =
        let prolongs = last_prolongs l plans place keys prolonged is in
        let names = l.exchanges.names_of_prolonged (last_plan plans) keys lawful prolongs in
        let far = before.calmly begun in
        record {
          calm_for = (x.fewer (is_planned (last_plan plans)) (is_planned keys) names).1 far.calm_for;
          sound = (before.stands (begun_of start begun)).sound keys is lawful_keys;
          roomy = let less = l.settling.less (last_plan plans) keys x.past.objects prolongs in omega
              (arith, far.roomy, less);
        }

    part_of : (start x y : Seen) (place : ℕ) (keys : List Key) (list : List Run) (old : CampaignEnd)
        (carried : List (List Known)) (whole : Type 0) → IsLawful keys
        → slice_get plans place ≡ Some keys → (before : Turning start x place old carried) (part : CampaignEnd)
        → HasRunAll keys carried list (notes_of part) (part.fault ≡ None) x y
        → AreTurnedFrom keys carried list part.runs.items (x.honest (is_planned keys)) (part.fault ≡ None) x.past y.past
        → (whole → part.fault ≡ None)
        → IsPart keys (map (carried_over keys) ([] ++ flat_map noted_saves before.parts)) list
        (record { ends = part.runs.items; saved = part.saved.items })
        (premises_of plans start) whole x.past y.past
    part_of start x y place keys list old carried whole lawful_keys is before part all turns to =
        let names = l.exchanges.names_of_prolonged (last_plan plans) keys lawful
        (last_prolongs l plans place keys prolonged is) in
        let carried_is : carried ≡ map (carried_over keys)
        (flat_map noted_saves before.parts) = (before.carried_are keys is).0
        ∙ ap (map (carried_over keys)) before.saved_are in
        record {
          order = all.order;
          complete = λ holds. all.complete (to holds);
          known = subst (λ cs. AreKnownFrom keys cs list (notes_of part) (start.honest (is_planned (last_plan plans)))
              whole x.past y.past) carried_is
              (known_for keys carried list (notes_of part) (x.honest (is_planned keys))
              (start.honest (is_planned (last_plan plans))) whole x.past y.past
              (λ holds. (x.fewer (is_planned (last_plan plans)) (is_planned keys) names).0
              (before.honest_still (is_planned (last_plan plans)) holds))
              (known_if keys carried list (notes_of part) (x.honest (is_planned keys)) (part.fault ≡ None) whole
              x.past y.past to all.known));
          turned = subst (λ cs. AreTurnedFrom keys cs list part.runs.items
              (start.honest (is_planned (last_plan plans))) whole x.past y.past) carried_is
              (turned_for keys carried list part.runs.items (x.honest (is_planned keys))
              (start.honest (is_planned (last_plan plans))) (part.fault ≡ None) whole x.past y.past
              (λ holds. (x.fewer (is_planned (last_plan plans)) (is_planned keys) names).0
              (before.honest_still (is_planned (last_plan plans)) holds)) to turns);
          settles = λ begun holds.
              (all.settles (calm_of start x place old keys carried is lawful_keys before begun)
              ((before.stands (begun_of start begun)).carried_true keys is) (to holds)).0;
        }

    -- the runs on the plan at a place were made
    turned : (start x y : Seen) (place : ℕ) (keys : List Key) (list : List Run) (old new : CampaignEnd)
        (carried : List (List Known)) (whole : Type 0) → IsLawful keys
        → slice_get plans place ≡ Some keys → slice_get runs place ≡ Some list → Turning start x place old carried
        → (ran : HasRunPart keys carried list x y old new) → (whole → ran.part.fault ≡ None)
        → Turned start y place new whole
    turned start x y place keys list old new carried whole lawful_keys is so before ran to =
        let part : Notes = record { ends = ran.part.runs.items; saved = ran.part.saved.items } in
        let prolongs = last_prolongs l plans place keys prolonged is in
        record {
          parts = before.parts ++ part ∷ [];
          ends_are = ran.runs_are ∙ ap (λ ends. ends ++ ran.part.runs.items) before.ends_are
              ∙ flat_push noted_ends before.parts part;
          saved_are = ran.saved_are ∙ ap (λ saved. saved ++ ran.part.saved.items) before.saved_are
              ∙ flat_push noted_saves before.parts part;
          each = parts_more (premises_of plans start) plans runs [] before.parts place keys list part whole start.past
              x.past y.past is so before.each (part_of start x y place keys list old carried whole lawful_keys is
              before ran.part ran.all ran.turned to);
          good = λ begun.
              let reached = before.stands begun in
              let ended = ran.all.well (good_of start x place old keys carried is lawful_keys before begun)
              (reached.carried_true keys is) in
              let (last, went) = ended.further.good (last_plan plans) lawful prolongs reached.good.good in
              record {
                good = last;
                honest = ran.all.stays_honest (is_planned (last_plan plans)) reached.good.honest;
                went = on_then r.client.twice r.amid.joins (last_plan plans) start.past x.past y.past
                    reached.good.went went;
                noted = rw (ran.runs_are, ran.saved_are)
                    (noted_for_both (last_plan plans) y.past old.runs.items ran.part.runs.items old.saved.items
                    ran.part.saved.items
                    (noted_for_onward r (last_plan plans) x.past y.past old.runs.items old.saved.items lawful
                    went.onward reached.good.noted)
                    (noted_over r l (last_plan plans) keys y.past ran.part.runs.items ran.part.saved.items lawful
                    prolongs ended.campaigned.noted));
              };
        }

    -- and are whole
    pub turning_more : (start x y : Seen) (place : ℕ) (keys : List Key) (after : Option (List Key)) (list : List Run)
        (old new : CampaignEnd) (carried read : List (List Known))
        → IsLawful keys → slice_get plans place ≡ Some keys → slice_get runs place ≡ Some list
        → after ≡ slice_get plans (suc place)
        → ((a b : List Key) → Prolongs a b → length b ≤ length a)
        → Turning start x place old carried → HasRunWhole keys after carried list (record { link = x; end = old })
        (record { link = y; end = new }) read
        → Turning start y (suc place) new read
    turning_more start x y place keys after list old new carried read lawful_keys is so next_is longer before ran =
        let end = turned start x y place keys list old new carried ⊤ lawful_keys is so before ran.ran
        (λ holds. ran.whole) in
        let all = ran.ran.all in
        let reads = λ (next : List Key) (at : slice_get plans (suc place) ≡ Some next).
        if_some (λ ks. (read ≡ map (carried_over ks) (carried ++ ran.ran.part.saved.items)) × All (Suits ks) read)
        after next (next_is ∙ at) ran.read_is in
        record {
          parts = end.parts;
          ends_are = end.ends_are;
          saved_are = end.saved_are;
          each = end.each;
          carried_are = λ next at. (
            (reads next at).0
                ∙ over_both keys next old.saved.items ran.ran.part.saved.items new.saved.items carried
                (longer next keys (next_prolongs plans place keys next prolonged is at))
                (before.carried_are keys is).0 ran.ran.saved_are,
            (reads next at).1,
          );
          honest_still = λ names holds. all.stays_honest names (before.honest_still names holds);
          stands = λ begun.
              let reached = before.stands begun in
              let ended = all.well (good_of start x place old keys carried is lawful_keys before begun)
              (reached.carried_true keys is) in
              let camp = ended.campaigned in
              let (last, went) = ended.further.good (last_plan plans) lawful
              (last_prolongs l plans place keys prolonged is) reached.good.good in
              record {
                good = end.good begun;
                sound = λ next at lawful_next.
                    l.exchanges.sound_between (last_plan plans) next keys y.past lawful_keys lawful_next lawful
                    (next_prolongs plans place keys next prolonged is at)
                    (last_prolongs l plans (suc place) next prolonged at) camp.good.sound last.sound;
                carried_true = λ next at.
                    let prolongs = next_prolongs plans place keys next prolonged is at in
                    let objects = y.past.objects in
                    let over = λ (saved : List (List Known)) (holds : All (TrueProgress objects keys) saved).
                    All-weaker (TrueProgress objects keys) (IsTrueFor objects next)
                    (λ one holds. true_over l objects next keys one prolongs holds) saved holds in
                    subst (λ rs. All (TrueProgress objects next) rs) (sym (reads next at).0)
                    (All-map (TrueProgress objects next) (carried_over next) (carried ++ ran.ran.part.saved.items)
                    (All-append (IsTrueFor objects next) carried ran.ran.part.saved.items
                    (over carried (true_onward r keys x.past.objects objects carried lawful_keys camp.on.onward
                    (reached.carried_true keys is)))
                    (over ran.ran.part.saved.items camp.noted.true_saved)));
              };
          calmly = λ begun.
              let reached = before.stands (begun_of start begun) in
              let ended = all.well (good_of start x place old keys carried is lawful_keys before
              (begun_of start begun)) (reached.carried_true keys is) in
              ended.further.calmly ran.whole (last_plan plans) lawful (last_prolongs l plans place keys prolonged is)
              (before.calmly begun);
        }

    -- or one of them has no end, or nothing was carried over to the next plan
    broken_of : (start x y : Seen) (place : ℕ) (keys : List Key) (next : Option (List Key)) (list : List Run)
        (old new : CampaignEnd) (carried : List (List Known))
        → slice_get plans place ≡ Some keys → slice_get runs place ≡ Some list → next ≡ slice_get plans (suc place)
        → (before : Turning start x place old carried)
        → (broken : HasRunBroken keys next carried list x y old new)
        → (length (before.parts ++ record {
          ends = broken.ran.part.runs.items;
          saved = broken.ran.part.saved.items;
        } ∷ []) < length plans)
        ⊎ LastIsShort runs (before.parts ++ record
        { ends = broken.ran.part.runs.items; saved = broken.ran.part.saved.items } ∷ [])
    broken_of start x y place keys next list old new carried is so next_is before broken =
        let part : Notes = record { ends = broken.ran.part.runs.items; saved = broken.ran.part.saved.items } in
        let long : length before.parts ≡ place =
        parts_long (premises_of plans start) (take place plans) (take place runs) [] before.parts start.past x.past
        before.each
        ∙ take_long plans place keys is in
        elim broken.why [
          | inl short ↦ inr (last_short runs before.parts part place list long so short)
          | inr some ↦
              let below = there_is plans (suc place) (λ none. some (next_is ∙ none)) in
              inl (omega (arith, below, long, length-append before.parts (part ∷ [])))
        ]

    -- or the runs on it were broken off, or none was made
    plans_broken : (start y : Seen) (place : ℕ) (end : CampaignEnd) (whole : Type 0) → (whole → ⊥)
        → (turned : Turned start y place end whole)
        → (length turned.parts < length plans) ⊎ LastIsShort runs turned.parts
        → HasRunPlans plans runs whole start y end
    plans_broken start y place end whole none turned broken = record {
      good = turned.good;
      in_turn = record {
        parts = turned.parts;
        ends_are = turned.ends_are;
        saved_are = turned.saved_are;
        each = parts_broken (premises_of plans start) plans runs [] turned.parts (suc place) whole start.past y.past
            none turned.each;
        broken = λ but. broken;
      };
    }

    pub run_broken : (start x y : Seen) (place : ℕ) (keys : List Key) (next : Option (List Key)) (list : List Run)
        (old new : CampaignEnd) (carried : List (List Known)) (whole : Type 0)
        → (whole → ⊥) → IsLawful keys → slice_get plans place ≡ Some keys → slice_get runs place ≡ Some list
        → next ≡ slice_get plans (suc place)
        → Turning start x place old carried → HasRunBroken keys next carried list x y old new
        → HasRunPlans plans runs whole start y new
    unfolding turned
    run_broken start x y place keys next list old new carried whole none lawful_keys is so next_is before broken =
        plans_broken start y place new whole none
        (turned start x y place keys list old new carried whole lawful_keys is so before broken.ran
        (λ holds. absurd (none holds)))
        (broken_of start x y place keys next list old new carried is so next_is before broken)

    pub plans_left : (start x : Seen) (place : ℕ) (keys : List Key) (old new : CampaignEnd)
        (carried : List (List Known)) (whole : Type 0) → (whole → ⊥)
        → slice_get plans place ≡ Some keys → Turning start x place old carried → AreSame old new
        → HasRunPlans plans runs whole start x new
    plans_left start x place keys old new carried whole none is before same = record {
      good = λ begun.
          subst (λ ends. IsGoodFor (last_plan plans) start x ends new.saved.items) (sym same.same_runs)
          (subst (λ saved. IsGoodFor (last_plan plans) start x old.runs.items saved) (sym same.same_saved)
          (before.stands begun).good);
      in_turn = record {
        parts = before.parts;
        ends_are = same.same_runs ∙ before.ends_are;
        saved_are = same.same_saved ∙ before.saved_are;
        each = parts_broken (premises_of plans start) plans runs [] before.parts place whole start.past x.past none
            (parts_if (premises_of plans start) (take place plans) (take place runs) [] before.parts ⊤ whole start.past
            x.past (λ holds. tt) before.each);
        broken = λ but.
            let below = there_is plans place (λ no. some_none keys (sym is ∙ no)) in
            let long =
            parts_long (premises_of plans start) (take place plans) (take place runs) [] before.parts start.past
            x.past before.each
            ∙ take_long plans place keys is in
            inl (omega (arith, below, long));
      };
    }

    -- the runs on all plans were made
    pub plans_all : (start x : Seen) (place : ℕ) (end : CampaignEnd) (carried : List (List Known)) (whole : Type 0)
        → whole → place ≡ length plans → length runs ≡ length plans
        → Turning start x place end carried → HasRunPlans plans runs whole start x end
    plans_all start x place end carried whole is all as_many before = record {
      good = λ begun. (before.stands begun).good;
      in_turn = record {
        parts = before.parts;
        ends_are = before.ends_are;
        saved_are = before.saved_are;
        each = parts_all (premises_of plans start) plans runs [] before.parts place whole start.past x.past all as_many
            before.each;
        broken = λ but. absurd (but is);
      };
    }

pub in_turn_if : (plans : List (List Key)) (runs : List (List Run)) (notes : Notes) (premises : Premises)
    (whole other : Type 0) (old new : Past)
    → (other → whole) → (whole → other) → AreInTurn plans runs notes premises whole old new
    → AreInTurn plans runs notes premises other old new
in_turn_if plans runs notes premises whole other old new to back are = record {
  parts = are.parts;
  ends_are = are.ends_are;
  saved_are = are.saved_are;
  each = parts_if premises plans runs [] are.parts whole other old new to are.each;
  broken = λ but. are.broken (λ is. but (back is));
}

-- ---- what stands at a place

pub list_at : {V A : Type 0} (items : V → List A) (lists : List V) (place : ℕ) (v : V) (list : List A)
    → slice_get lists place ≡ Some v → list ≡ items v
    → slice_get (map items lists) place ≡ Some list
list_at items [] place v list is same = absurd cc
list_at items (first ∷ lists) zero v list is same =
    let one : first ≡ v = cc in ap (λ w. Some (items w)) one ∙ ap Some (sym same)
list_at items (first ∷ lists) (suc place) v list is same = list_at items lists place v list is same

pub some_not : {A : Type 0} (o : Option A) → is_some o ≡ true → o ≢ None
some_not None is = λ none. absurd cc
some_not (Some a) is = λ none. absurd cc

pub if_next : {R : Type 0} (view : R → List Key) (plans : List (List Key)) (place : ℕ) (keys : List Key)
    (after : Option R) → AreProlonged plans
    → slice_get plans place ≡ Some keys → option_map view after ≡ slice_get plans (suc place)
    → IfSome after (λ next. Prolongs (view next) keys)
if_next view plans place keys None prolonged is then = tt
if_next view plans place keys (Some next) prolonged is then =
    next_prolongs plans place keys (view next) prolonged is (sym then)

pub lookup_is : {R : Type 0} (view : R → List Key) (plans : List (List Key)) (place : ℕ) (found : Option R)
    → is_some found ≡ ltb place (length plans)
    → IfSome found (λ x. view x ≡ get_or plans place (view x)) → option_map view found ≡ slice_get plans place
lookup_is view plans place None there value =
    sym (slice_get_past plans place (ltb-false place (length plans) (sym there)))
lookup_is view plans place (Some x) there value =
    sym (slice_get_read plans (length plans) place (view x) refl (ltb-true place (length plans) (sym there)) value)
