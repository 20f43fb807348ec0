-- Which lines speak of a key, and what they tell of the keys of a plan.
use Rattle.std.proofs.Common.{◌≡◌, ◌==◌, ◌≤◌, ℕ, nat_le, Bool, true, false, ◌&&◌, ◌↔◌, IsTrue, List, [], ◌∷◌, ◌++◌, length, map, drop, Option, Some, None, IfSome, subst, refl, sym, ap, ◌∙◌, inl, inr, arith}
use Rattle.std.specs.List.{list_all}
use Rattle.std.specs.Option.{option_map_or}
use Rattle.std.proofs.lemmas.Bool.{cases_Bool, and_parts, and_from, leb-true, le-leb, eqb-true, eq-eqb}
use Rattle.std.proofs.lemmas.List.{length-take}
use Rattle.kmip_plan.specs.Chains.{chain, is_revoked}
use Rattle.kmip_plan.specs.Chains.{LeadsOn}
use Rattle.kmip_plan.specs.Prolonging.{GoesOn, Prolongs}
use Rattle.kmip_plan.specs.TargetWords.{is_text}
use Rattle.kmip_plan.specs.declared.key.Key.{Key}
use Rattle.kmip_plan.specs.declared.target.Target.{Target}
use Rattle.kmip_plan.specs.declared.target.Target.TheVariants.{Created, Active, Revoked, Destroyed, Discarded}
use Rattle.kmip_progress.specs.declared.entry.Entry.{Entry}
use Rattle.kmip_progress.specs.declared.format.Format.{Format}
use Rattle.kmip_progress.specs.declared.format.Format.TheVariants.{One, Two}
use Rattle.kmip_progress.specs.declared.known.Known.{Known}
use Rattle.kmip_progress.specs.Reading.{leads_on, speaks_of, keys_behind, all_known}
use Rattle.kmip_progress.specs.Suiting.{is_known, known_fits, nothing_known, Suits}
use Rattle.kmip_progress.specs.Texts.{entry_fits, entries_for, reason_for, SpeaksOf, Tells}
use Rattle.kmip_progress.proofs.EntryLemmas.{fits_so}
use Rattle.kmip_progress.proofs.WordLemmas.{same_some, not_some, same_text, text_same}

-- the table of the ways that lead on
leads_found : (target further : Target) → leads_on target further ≡ true → LeadsOn target further
leads_found Created Created h = refl
leads_found Created Active h = refl
leads_found Created Revoked h = refl
leads_found Created Destroyed h = refl
leads_found Created Discarded h = refl
leads_found Active Created h = absurd cc
leads_found Active Active h = refl
leads_found Active Revoked h = refl
leads_found Active Destroyed h = refl
leads_found Active Discarded h = absurd cc
leads_found Revoked Created h = absurd cc
leads_found Revoked Active h = absurd cc
leads_found Revoked Revoked h = refl
leads_found Revoked Destroyed h = refl
leads_found Revoked Discarded h = absurd cc
leads_found Destroyed Created h = absurd cc
leads_found Destroyed Active h = absurd cc
leads_found Destroyed Revoked h = absurd cc
leads_found Destroyed Destroyed h = refl
leads_found Destroyed Discarded h = absurd cc
leads_found Discarded Created h = absurd cc
leads_found Discarded Active h = absurd cc
leads_found Discarded Revoked h = absurd cc
leads_found Discarded Destroyed h = absurd cc
leads_found Discarded Discarded h = refl

leads_read : (target further : Target) → LeadsOn target further → leads_on target further ≡ true
leads_read Created Created h = refl
leads_read Created Active h = refl
leads_read Created Revoked h = refl
leads_read Created Destroyed h = refl
leads_read Created Discarded h = refl
leads_read Active Created h = absurd cc
leads_read Active Active h = refl
leads_read Active Revoked h = refl
leads_read Active Destroyed h = refl
leads_read Active Discarded h = absurd cc
leads_read Revoked Created h = absurd cc
leads_read Revoked Active h = absurd cc
leads_read Revoked Revoked h = refl
leads_read Revoked Destroyed h = refl
leads_read Revoked Discarded h = absurd cc
leads_read Destroyed Created h = absurd cc
leads_read Destroyed Active h = absurd cc
leads_read Destroyed Revoked h = absurd cc
leads_read Destroyed Destroyed h = refl
leads_read Destroyed Discarded h = absurd cc
leads_read Discarded Created h = absurd cc
leads_read Discarded Active h = absurd cc
leads_read Discarded Revoked h = absurd cc
leads_read Discarded Destroyed h = absurd cc
leads_read Discarded Discarded h = refl

pub leads_is : (target further : Target) (b : Bool) → (IsTrue b ↔ LeadsOn target further) → b ≡ leads_on target further
leads_is target further true h = sym (leads_read target further (h.0 refl))
leads_is target further false h =
    elim (cases_Bool (leads_on target further)) [
      | inl found ↦ absurd (let so : false ≡ true = h.1 (leads_found target further found) in cc)
      | inr none ↦ sym none
    ]

-- a further way is no shorter
longer : (target further : Target) → LeadsOn target further → length (chain target) ≤ length (chain further)
longer target further h =
    let same = sym (length-take (length (chain target)) (chain further)) ∙ ap (λ l. length l) h in
    omega (arith, same)

-- the reason is the key's, where there is one
reason_found : (o : Option ℕ) (own : ℕ) → option_map_or (λ reason. reason == own) o true ≡ true → IfSome o (λ reason. reason ≡ own)
reason_found None own h = tt
reason_found (Some r) own h = eqb-true r own h

reason_read : (o : Option ℕ) (own : ℕ) → IfSome o (λ reason. reason ≡ own) → option_map_or (λ reason. reason == own) o true ≡ true
reason_read None own h = refl
reason_read (Some r) own h = eq-eqb r own h

speaks_found : (e : Entry) (key : Key) → speaks_of e key ≡ true → SpeaksOf e key
speaks_found e key h =
    let a = and_parts (is_text e.name key.attrs.name && leads_on e.target key.target && option_map_or (λ reason. reason == key.reason) e.reason true)
    (nat_le e.known.done (length (chain e.target))) h in
    let b = and_parts (is_text e.name key.attrs.name && leads_on e.target key.target) (option_map_or (λ reason. reason == key.reason) e.reason true) a.0 in
    let c = and_parts (is_text e.name key.attrs.name) (leads_on e.target key.target) b.0 in
    record {
      name_same = same_text e.name key.attrs.name c.0;
      leads_on = leads_found e.target key.target c.1;
      reason_same = reason_found e.reason key.reason b.1;
      within = leb-true e.known.done (length (chain e.target)) a.1;
    }

speaks_read : (e : Entry) (key : Key) → SpeaksOf e key → speaks_of e key ≡ true
speaks_read e key h =
    and_from (is_text e.name key.attrs.name && leads_on e.target key.target && option_map_or (λ reason. reason == key.reason) e.reason true)
    (nat_le e.known.done (length (chain e.target)))
    (and_from (is_text e.name key.attrs.name && leads_on e.target key.target) (option_map_or (λ reason. reason == key.reason) e.reason true)
    (and_from (is_text e.name key.attrs.name) (leads_on e.target key.target)
    (ap (λ name. is_text name key.attrs.name) h.name_same ∙ text_same key.attrs.name) (leads_read e.target key.target h.leads_on))
    (reason_read e.reason key.reason h.reason_same))
    (le-leb e.known.done (length (chain e.target)) h.within)

-- ---- what the lines tell

pub told : (keys : List Key) (entries : List Entry) (behind : List Key) → keys_behind keys entries ≡ Some behind → Tells keys entries (all_known entries behind)
told keys [] behind is = ap (λ ks. map (λ key. nothing_known) ks) (sym (same_some keys behind is))
told [] (e ∷ entries) behind is = not_some behind is
told (key ∷ keys) (e ∷ entries) behind is =
    elim (cases_Bool (speaks_of e key)) [
      | inl speaks ↦ (speaks_found e key speaks, refl, told keys entries behind (rw speaks at is))
      | inr silent ↦ not_some behind (rw silent at is)
    ]

-- the keys behind, and what is known of all
pub record AreBehind (keys : List Key) (entries : List Entry) (progress : List Known) : Type 0 where
  pub behind : List Key
  pub found : keys_behind keys entries ≡ Some behind
  pub known : all_known entries behind ≡ progress

pub tells : (keys : List Key) (entries : List Entry) (progress : List Known) → Tells keys entries progress → AreBehind keys entries progress
tells keys [] progress h = record { behind = keys; found = refl; known = sym h }
tells [] (e ∷ entries) progress h = absurd h
tells (key ∷ keys) (e ∷ entries) [] h = absurd h
tells (key ∷ keys) (e ∷ entries) (known ∷ progress) h =
    let rest = tells keys entries progress h.2 in
    record {
      behind = rest.behind;
      found = rw (speaks_read e key h.0) rest.found;
      known = λ i. (sym h.1 i ∷ rest.known i);
    }

-- no more lines than keys
pub as_few : (keys : List Key) (entries : List Entry) (progress : List Known) → Tells keys entries progress → length entries ≤ length keys
as_few keys [] progress h = omega arith
as_few [] (e ∷ entries) progress h = absurd h
as_few (key ∷ keys) (e ∷ entries) [] h = absurd h
as_few (key ∷ keys) (e ∷ entries) (known ∷ progress) h = omega (arith, as_few keys entries progress h.2)

-- ---- what is told suits

nothing_suits : (keys : List Key) → Suits keys (map (λ key. nothing_known) keys)
nothing_suits [] = tt
nothing_suits (key ∷ keys) = (and_from (nat_le 0 (length (chain key.target))) true (le-leb 0 (length (chain key.target)) (omega arith)) refl, nothing_suits keys)

pub told_suits : (format : Format) (keys : List Key) (entries : List Entry) (progress : List Known) → list_all (entry_fits format) entries ≡ true
    → Tells keys entries progress → Suits keys progress
told_suits format keys [] progress fit h = subst (Suits keys) (sym h) (nothing_suits keys)
told_suits format [] (e ∷ entries) progress fit h = absurd h
told_suits format (key ∷ keys) (e ∷ entries) [] fit h = absurd h
told_suits format (key ∷ keys) (e ∷ entries) (known ∷ progress) fit h =
    let p = and_parts (entry_fits format e) (list_all (entry_fits format) entries) fit in
    let f = fits_so format e p.0 in
    let far = longer e.target key.target h.0.leads_on in
    let within = h.0.within in
    let here : known_fits key e.known ≡ true =
    and_from (nat_le e.known.done (length (chain key.target))) (is_known e.known) (le-leb e.known.done (length (chain key.target)) (omega (arith, far, within))) f.known in
    (ap (known_fits key) h.1 ∙ here, told_suits format keys entries progress p.1 h.2)

-- ---- a plan that prolongs another

own_reason : (format : Format) (new old : Key) → GoesOn new old → IfSome (reason_for format old) (λ reason. reason ≡ new.reason)
own_reason One new old h = tt
own_reason Two new old h = elim (cases_Bool (is_revoked old.target)) [
  | inl revoked ↦ rw revoked (sym (h.reason_same revoked))
  | inr not ↦ rw not tt
]

pub prolonged : (format : Format) (new old : List Key) (progress : List Known) → Prolongs new old → Suits old progress
    → Tells new (entries_for format old progress) (progress ++ map (λ key. nothing_known) (drop (length old) new))
prolonged format new [] [] h suits = refl
prolonged format new [] (known ∷ progress) h suits = absurd suits
prolonged format [] (key ∷ old) progress h suits = absurd h
prolonged format (key ∷ new) (one ∷ old) [] h suits = absurd suits
prolonged format (key ∷ new) (one ∷ old) (known ∷ progress) h suits =
    let p = and_parts (nat_le known.done (length (chain one.target))) (is_known known) suits.0 in (
      record {
        name_same = sym (ap (λ attrs. attrs.name) h.0.attrs_same);
        leads_on = h.0.leads_on;
        reason_same = own_reason format key one h.0;
        within = leb-true known.done (length (chain one.target)) p.0;
      },
      refl,
      prolonged format new old progress h.1 suits.1,
    )

way_itself : (target : Target) → LeadsOn target target
way_itself Created = refl
way_itself Active = refl
way_itself Revoked = refl
way_itself Destroyed = refl
way_itself Discarded = refl

pub itself : (keys : List Key) → Prolongs keys keys
itself [] = tt
itself (key ∷ keys) = (record { attrs_same = refl; leads_on = way_itself key.target; reason_same = λ revoked. refl }, itself keys)
