-- What a look at the known keys comes to.
use Rattle.std.proofs.Common.{◌≡◌, ◌+◌, ◌*◌, ℕ, true, List, [], ◌∷◌, length, Result, Ok, Err, IfOk, if◌then◌else◌}
use Rattle.std.proofs.Common.{sym, ap, subst, ◌∙◌, inl, inr, append-nil, arith}
use Rattle.std.specs.List.{All, AllZip, list_all}
use Rattle.std.proofs.lemmas.List.Elements.{All-cons, All-nil}
use Rattle.std.proofs.lemmas.Bool.{and_parts, cases_Bool}
use Rattle.std.specs.Option.{is_some}
use Rattle.kmip_ttlv.specs.declared.no_memory.NoMemory.{NoMemory}
use Rattle.kmip_plan.specs.ChainLaws.{PlacesAreWithin}
use Rattle.kmip_plan.specs.Plans.{key_fits}
use Rattle.kmip_plan.specs.declared.key.Key.{Key}
use Rattle.kmip_progress.specs.declared.known.Known.{Known}
use Rattle.kmip_protocol.specs.Past.{Names, Past}
use Rattle.kmip_protocol.specs.Seen.{Seen}
use Rattle.kmip_look.specs.Looks.{AsksLooks, IsFresh, Looks, Sends}
use Rattle.kmip_look.specs.declared.looked.Looked.{Looked}
use Rattle.kmip_refresh.specs.Agreements.{judgement_of}
use Rattle.kmip_refresh.specs.KnownKeys.{KnownKey, keys_of, known_from, known_keys, looks_judged}
use Rattle.kmip_refresh.specs.Moments.{FinishedSince, StoodSince}
use Rattle.kmip_refresh.specs.Refreshing.{LooksAlone, LooksFirst, lookeds_of}
use Rattle.kmip_refresh.specs.declared.judgement.Judgement.TheVariants as judgements
use Rattle.kmip_refresh.specs.declared.key_look.KeyLook.{KeyLook}
use Rattle.kmip_refresh.proofs.AgreementLemmas.{agreed_settled}
use Rattle.kmip_refresh.proofs.MomentLemmas.{all_finished, all_stood}

-- ---- looks

-- nothing was sent
sends_none : (keys : List Key) (mark : List ℕ) (most : ℕ) (p : Past) → Sends keys mark most p p
sends_none keys mark most p = record {
  messages = [];
  sent = sym (append-nil p.sent);
  look = All-nil (AsksLooks keys mark);
  few = omega arith;
}

-- memory ran out before the look
pub unlooked : {A : Type 0} (items : A → List KeyLook) (known : List KnownKey) (mark : List ℕ) (old : Seen)
    (fault : NoMemory)
    → LooksFirst items known mark old (Err fault) old
unlooked items known mark old fault = record {
  looks = record {
    as_many = tt;
    honestly = λ names honest. record {
      still = honest;
      asks_looks = sends_none (keys_of known) mark (8 * length (keys_of known)) old.past;
      since = λ fresh. tt;
    };
    calmly = λ names calm. record { still = calm; objects = tt; effects = tt; stand = λ distinct. tt };
  };
  judged = tt;
}

-- memory ran out after a look, or in it
pub broken : {A B : Type 0} (items : A → List KeyLook) (others : B → List Looked) (known : List KnownKey)
    (mark : List ℕ) (old new : Seen) (result : Result B NoMemory) (fault : NoMemory)
    → Looks others (keys_of known) mark old result new
    → LooksFirst items known mark old (Err fault) new
broken items others known mark old new result fault looks = record {
  looks = record {
    as_many = tt;
    honestly = λ names honest.
        let all = looks.honestly names honest in
        record { still = all.still; asks_looks = all.asks_looks; since = λ fresh. tt };
    calmly = λ names calm.
        let still = (looks.calmly names calm).still in
        record { still = still; objects = tt; effects = tt; stand = λ distinct. tt };
  };
  judged = tt;
}

-- what a look said is judged
pub judged : {A B : Type 0} (items : A → List KeyLook) (others : B → List Looked) (known : List KnownKey)
    (mark : List ℕ) (old new : Seen)
    (value : A) (other : B) → lookeds_of (items value) ≡ others other → items value ≡ looks_judged known (others other)
    → Looks others (keys_of known) mark old (Ok other) new → LooksFirst items known mark old (Ok value) new
judged items others known mark old new value other same are looks = record {
  looks = record {
    as_many = ap length same ∙ looks.as_many;
    honestly = λ names honest.
        let all = looks.honestly names honest in
        record {
          still = all.still;
          asks_looks = all.asks_looks;
          since = λ fresh. subst (AllZip _ (keys_of known)) (sym same) (all.since fresh);
        };
    calmly = λ names calm.
        let all = looks.calmly names calm in
        record {
          still = all.still;
          objects = all.objects;
          effects = all.effects;
          stand = λ distinct.
              let told = all.stand distinct in
              record { stand = subst (AllZip _ (keys_of known)) (sym same) told.stand; few = told.few };
        };
  };
  judged = are ∙ ap (looks_judged known) (sym same);
}

-- ---- the keys

-- the values of the known keys are in their ranges
pub known_fit : (place : ℕ) (keys : List Key) (known : List Known) → list_all key_fits keys ≡ true
    → All (λ (key : Key). key_fits key ≡ true) (keys_of (known_from place keys known))
known_fit place [] known fits = All-nil _
known_fit place (key ∷ keys) [] fits = All-nil _
known_fit place (key ∷ keys) (first ∷ known) fits =
    let (here, left) = and_parts (key_fits key) (list_all key_fits keys) fits in
    let more = known_from (place + 1) keys known in
    let Fits : Key → Type 0 = λ key. key_fits key ≡ true in
    let one : KnownKey = record { place = place; key = key; known = first } in
    let rest : All Fits (keys_of more) = known_fit (place + 1) keys known left in
    elim (cases_Bool (is_some first.identifier)) [
      | inl some ↦
          subst (λ b. All Fits (keys_of (if b then one ∷ more else more))) (sym some)
          (All-cons Fits key (keys_of more) here rest)
      | inr none ↦ subst (λ b. All Fits (keys_of (if b then one ∷ more else more))) (sym none) rest
    ]

-- a look at the known keys of lists is one of lists that are the same
pub looks_as : {A : Type 0} (items : A → List KeyLook) (keys others : List Key) (known saved : List Known)
    (mark : List ℕ) (old new : Seen) (result : Result A NoMemory) → keys ≡ others → known ≡ saved
    → LooksFirst items (known_keys keys known) mark old result new
    → LooksFirst items (known_keys others saved) mark old result new
looks_as items keys others known saved mark old new result is at first =
    subst (λ ks. LooksFirst items (known_keys ks saved) mark old result new) is
    (subst (λ ls. LooksFirst items (known_keys keys ls) mark old result new) at first)

-- ---- over an honest link

-- looks at the known keys were sent, and nothing else
pub looks_alone : {A : Type 0} (items : A → List KeyLook) (names : Names) (known : List KnownKey) (mark : List ℕ)
    (old new : Seen) (result : Result A NoMemory)
    → LooksFirst items known mark old result new → old.honest names → LooksAlone names (keys_of known) mark old new
looks_alone items names known mark old new result first honest =
    let all = first.looks.honestly names honest in record { still = all.still; sends = all.asks_looks }

-- each key about which the server agrees stood so
pub since_any : {A : Type 0} (items : A → List KeyLook) (names : Names) (known : List KnownKey) (mark : List ℕ)
    (old new : Seen) (result : Result A NoMemory)
    → LooksFirst items known mark old result new → old.honest names → IsFresh mark old.past
    → IfOk result (λ v. AllZip (StoodSince names old.past new.past) known (items v))
since_any items names known mark old new (Ok value) first honest fresh =
    all_stood names old.past new.past known (items value) first.judged
    ((first.looks.honestly names honest).since fresh)
since_any items names known mark old new (Err fault) first honest fresh = tt

-- if the server agrees about all, each key that the file counts as finished had reached its target, or it is gone
pub finished_any : {A : Type 0} → PlacesAreWithin → (items : A → List KeyLook) (names : Names) (known : List KnownKey)
    (mark : List ℕ) (old new : Seen) (result : Result A NoMemory)
    → LooksFirst items known mark old result new → old.honest names → IsFresh mark old.past
    → IfOk result (λ v. judgement_of (items v) ≡ judgements.Agreed
    → AllZip (FinishedSince names old.past new.past) known (items v))
finished_any within items names known mark old new (Ok value) first honest fresh = λ agreed.
    all_finished within names old.past new.past known (items value) (agreed_settled (items value) agreed)
    (since_any items names known mark old new (Ok value) first honest fresh)
finished_any within items names known mark old new (Err fault) first honest fresh = tt
