-- Each question has a written form.
use Rattle.std.proofs.Common.{◌≡◌, ◌≢◌, ℕ, ◌+◌, ◌≤◌, ◌<◌, Bool, true, false, ◌&&◌, ◌||◌, ◌==◌, nat_le, List, [], ◌∷◌, length, Option, Some, None, IfSome, IsTrue, refl, ap, ◌∙◌, inl, inr, arith, if◌then◌else◌}
use Rattle.std.proofs.lemmas.Bool.{and_parts, or_cases, eqb-true, leb-true, le-leb}
use Rattle.std.specs.Option.{unwrap_or}
use Rattle.std.specs.List.{list_all}
use Rattle.kmip_batch_items.specs.Operations.{operation_of}
use Rattle.kmip_objects.specs.Ranges.{is_name, is_name_byte, is_identifier, is_algorithm, is_length, is_usage, is_revocation_code, attrs_fit}
use Rattle.kmip_batch_items.specs.Ranges.{is_batch_id}
use Rattle.kmip_batch_items.specs.RequestFits.{ask_fits, request_fits}
use Rattle.kmip_batch_items.specs.declared.ask.Ask.{Ask}
use Rattle.kmip_batch_items.specs.declared.ask.Ask.TheVariants as asks
use Rattle.kmip_objects.specs.declared.step.Step.{Step}
use Rattle.kmip_objects.specs.declared.step.Step.TheVariants as steps
use Rattle.kmip_plan.specs.Chains.{step_at, is_revoked}
use Rattle.kmip_plan.specs.ChainLaws.{RevokesAreOfTheRevoked}
use Rattle.kmip_plan.specs.Plans.{key_fits, reason_fits}
use Rattle.kmip_plan.specs.declared.key.Key.{Key}
use Rattle.kmip_client.specs.declared.knowledge.Knowledge.{Knowledge}
use Rattle.kmip_client.specs.declared.phase.Phase.{Phase}
use Rattle.kmip_client.specs.declared.phase.Phase.TheVariants as phases
use Rattle.kmip_client.specs.Questions.{id_of, step_ask, next_ask, phase_ask, ask_about, request_about}
use Rattle.kmip_client.specs.Shapes.{PhaseSuits}
use Rattle.kmip_client.specs.Private.{IsShaped}

pub operation_small : (ask : Ask) → operation_of ask < 256
operation_small (asks.Create attrs) = omega arith
operation_small ask = omega arith

-- ---- ranges

as_code : (code r : ℕ) → (r == code) ≡ true → is_revocation_code code ≡ true → is_revocation_code r ≡ true
as_code code r is fine = ap is_revocation_code (eqb-true r code is) ∙ fine

one_of_five : (r : ℕ) → (r == 1 || r == 4 || r == 5 || r == 6 || r == 7) ≡ true → is_revocation_code r ≡ true
one_of_five r fits =
    elim (or_cases (r == 1 || r == 4 || r == 5 || r == 6) (r == 7) fits) [
      | inr seven ↦ as_code 7 r seven refl
      | inl others ↦ elim (or_cases (r == 1 || r == 4 || r == 5) (r == 6) others) [
        | inr six ↦ as_code 6 r six refl
        | inl fewer ↦ elim (or_cases (r == 1 || r == 4) (r == 5) fewer) [
          | inr five ↦ as_code 5 r five refl
          | inl two ↦ elim (or_cases (r == 1) (r == 4) two) [
            | inr four ↦ as_code 4 r four refl
            | inl one ↦ as_code 1 r one refl
          ]
        ]
      ]
    ]

reason_in : (revoked : Bool) (r : ℕ) → revoked ≡ true → (if revoked then r == 1 || r == 4 || r == 5 || r == 6 || r == 7 else r == 0) ≡ true
    → is_revocation_code r ≡ true
reason_in true r is fits = one_of_five r fits
reason_in false r is fits = absurd cc

attrs_of : (key : Key) → key_fits key ≡ true → attrs_fit key.attrs ≡ true
attrs_of key fits = (and_parts (attrs_fit key.attrs) (reason_fits key.target key.reason) fits).0

reason_of : (key : Key) → key_fits key ≡ true → is_revoked key.target ≡ true → is_revocation_code key.reason ≡ true
reason_of key fits revoked = reason_in (is_revoked key.target) key.reason revoked (and_parts (attrs_fit key.attrs) (reason_fits key.target key.reason) fits).1

name_of : (key : Key) → key_fits key ≡ true → is_name key.attrs.name ≡ true
name_of key fits = (and_parts (is_name key.attrs.name) (is_algorithm key.attrs.algorithm)
    (and_parts (is_name key.attrs.name && is_algorithm key.attrs.algorithm) (is_length key.attrs.algorithm key.attrs.length)
    (and_parts (is_name key.attrs.name && is_algorithm key.attrs.algorithm && is_length key.attrs.algorithm key.attrs.length) (is_usage key.attrs.usage) (attrs_of key fits)).0).0).0

name_length : (name : List ℕ) → is_name name ≡ true → length name ≤ 64
name_length name fits = leb-true (length name) 64
    (and_parts (nat_le 1 (length name)) (nat_le (length name) 64)
    (and_parts (nat_le 1 (length name) && nat_le (length name) 64) (list_all is_name_byte name) fits).0).1

both : (a b : Bool) → a ≡ true → b ≡ true → (a && b) ≡ true
both a b p q = rw (p, q) refl

-- ---- each phase

uid_fits : (identifier : Option (List ℕ)) → identifier ≢ None → IfSome identifier (λ uid. IsTrue (is_identifier uid))
    → is_identifier (unwrap_or identifier []) ≡ true
uid_fits None some fits = absurd (some refl)
uid_fits (Some uid) some fits = fits

step_fits : (key : Key) (uid : List ℕ) (step : Step) → key_fits key ≡ true → is_identifier uid ≡ true → (step ≡ steps.Revoke → is_revoked key.target ≡ true)
    → ask_fits (step_ask key uid step) ≡ true
step_fits key uid steps.Create fits in_range revoked = attrs_of key fits
step_fits key uid steps.Activate fits in_range revoked = in_range
step_fits key uid steps.Revoke fits in_range revoked = both (is_identifier uid) (is_revocation_code key.reason) in_range (reason_of key fits (revoked refl))
step_fits key uid steps.Destroy fits in_range revoked = in_range

next_fits : (key : Key) (uid : List ℕ) (place : ℕ) (step : Option Step) → RevokesAreOfTheRevoked → key_fits key ≡ true → is_identifier uid ≡ true
    → step_at key.target place ≡ step → ask_fits (next_ask key uid step) ≡ true
next_fits key uid place None law fits in_range is = in_range
next_fits key uid place (Some step) law fits in_range is =
    step_fits key uid step fits in_range (λ revoke. law key.target place (is ∙ ap Some revoke))

phase_fits : (key : Key) (phase : Phase) (identifier : Option (List ℕ)) (done : ℕ) → RevokesAreOfTheRevoked → key_fits key ≡ true
    → PhaseSuits phase identifier done → IfSome identifier (λ uid. IsTrue (is_identifier uid))
    → ask_fits (phase_ask key phase (unwrap_or identifier []) done) ≡ true
phase_fits key phases.Look identifier done law fits suits in_range = name_of key fits
phase_fits key phases.Make identifier done law fits suits in_range = attrs_of key fits
phase_fits key phases.Check identifier done law fits suits in_range = uid_fits identifier suits in_range
phase_fits key phases.Go identifier done law fits suits in_range =
    next_fits key (unwrap_or identifier []) (done + 1) (step_at key.target (done + 1)) law fits (uid_fits identifier suits.0 in_range) refl

id_fits : (operation : ℕ) (key : Key) → key_fits key ≡ true → is_batch_id (id_of operation key) ≡ true
id_fits operation key fits =
    let short : length key.attrs.name ≤ 64 = name_length key.attrs.name (name_of key fits) in
    le-leb (length (operation ∷ key.attrs.name)) 128 (omega (arith, short))

pub question_fits : (key : Key) (known : Knowledge) → RevokesAreOfTheRevoked → key_fits key ≡ true → IsShaped key known
    → request_fits (request_about key known) ≡ true
question_fits key known law fits shaped =
    both (is_batch_id (id_of (operation_of (ask_about key known)) key)) (ask_fits (ask_about key known))
    (id_fits (operation_of (ask_about key known)) key fits)
    (phase_fits key known.phase known.identifier known.done law fits shaped.suits shaped.in_range)
