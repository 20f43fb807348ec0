-- The questions of a probe have their values in range.
use Rattle.std.proofs.Common.{◌≡◌, ◌≤◌, ℕ, true, ◌&&◌, nat_le, List, [], ◌∷◌, ◌++◌, length, take, drop, flat_map, slice_get, Option, Some, None, IsTrue, refl, subst, arith, option_map}
use Rattle.std.specs.List.{All, list_all}
use Rattle.std.proofs.lemmas.Bool.{and_parts, leb-true, le-leb}
use Rattle.std.proofs.lemmas.List.{length-append}
use Rattle.std.proofs.lemmas.List.Elements.{All-append, All-drop, All-head, All-nil, All-tail, All-take}
use Rattle.std.proofs.lemmas.List.Folds.{list_all-append}
use Rattle.std.proofs.lemmas.Option.{same_Some}
use Rattle.kmip_batch_items.specs.RequestFits.{ask_fits, request_fits}
use Rattle.kmip_batch_items.specs.declared.ask.Ask.{Ask}
use Rattle.kmip_batch_items.specs.declared.request.Request.{Request}
use Rattle.kmip_objects.specs.Ranges.{is_identifier, is_name, is_name_byte}
use Rattle.kmip_probe.specs.Answers.{IsLawful, marker_of, uids_told}
use Rattle.kmip_probe.specs.Asking.{request_for, uid_of, uids_of}
use Rattle.kmip_probe.specs.Inquiries.{ask_of, is_prefix, name_of}
use Rattle.kmip_probe.specs.declared.answer.Answer.{Answer}
use Rattle.kmip_probe.specs.declared.inquiry.Inquiry.{Inquiry}
use Rattle.kmip_probe.specs.declared.kind.Kind.{Kind}
use Rattle.kmip_probe.specs.declared.kind.Kind.TheVariants.{Locate, Create, GetAttributes, Activate, Revoke, Destroy}
use Rattle.kmip_probe.specs.declared.which.Which.{Which}
use Rattle.kmip_probe.specs.declared.which.Which.TheVariants.{First, Second}

-- ---- names

record IsShort (prefix : List ℕ) : Type 0 where
  some : 1 ≤ length prefix
  few : length prefix ≤ 62
  bytes : list_all is_name_byte prefix ≡ true

short_of : (prefix : List ℕ) → IsTrue (is_prefix prefix) → IsShort prefix
short_of prefix is =
    let both = and_parts (is_name prefix) (nat_le (length prefix) 62) is in
    let named = and_parts (nat_le 1 (length prefix) && nat_le (length prefix) 64) (list_all is_name_byte prefix) both.0 in
    let sizes = and_parts (nat_le 1 (length prefix)) (nat_le (length prefix) 64) named.0 in
    record { some = leb-true 1 (length prefix) sizes.0; few = leb-true (length prefix) 62 both.1; bytes = named.1 }

with_two : (prefix : List ℕ) (mark digit : ℕ) → is_name_byte mark ≡ true → is_name_byte digit ≡ true → IsShort prefix
    → is_name (prefix ++ mark ∷ digit ∷ []) ≡ true
with_two prefix mark digit marks digits short =
    let long = length-append prefix (mark ∷ digit ∷ []) in
    rw (
      le-leb 1 (length (prefix ++ mark ∷ digit ∷ [])) (omega (arith, long, short.some)),
      le-leb (length (prefix ++ mark ∷ digit ∷ [])) 64 (omega (arith, long, short.few)),
      list_all-append is_name_byte prefix (mark ∷ digit ∷ []),
      short.bytes,
      marks,
      digits,
    ) refl

pub is_name_of : (which : Which) (prefix : List ℕ) → IsTrue (is_prefix prefix) → is_name (name_of which prefix) ≡ true
is_name_of First prefix is = with_two prefix 45 49 refl refl (short_of prefix is)
is_name_of Second prefix is = with_two prefix 45 50 refl refl (short_of prefix is)

-- ---- identifiers

abbrev IsUid : List ℕ → Type 0
IsUid uid = IsTrue (is_identifier uid)

flat_lawful : (answers : List Answer) → All IsLawful answers → All IsUid (flat_map uids_told answers)
flat_lawful [] lawful = All-nil IsUid
flat_lawful (answer ∷ answers) lawful =
    All-append IsUid (uids_told answer) (flat_map uids_told answers) (All-head IsLawful answer answers lawful) (flat_lawful answers (All-tail IsLawful answer answers lawful))

uids_lawful : (which : Which) (answers : List Answer) → All IsLawful answers → All IsUid (uids_of which answers)
uids_lawful First answers lawful = flat_lawful (take 6 (drop 2 answers)) (All-take IsLawful 6 (drop 2 answers) (All-drop IsLawful 2 answers lawful))
uids_lawful Second answers lawful = flat_lawful (take 1 (drop 13 answers)) (All-take IsLawful 1 (drop 13 answers) (All-drop IsLawful 13 answers lawful))

first_lawful : (uids : List (List ℕ)) (uid : List ℕ) → All IsUid uids → slice_get uids 0 ≡ Some uid → IsUid uid
first_lawful [] uid lawful is = absurd cc
first_lawful (own ∷ uids) uid lawful is = subst IsUid (same_Some own uid is) (All-head IsUid own uids lawful)

-- ---- requests

ask_fit : (kind : Kind) (name : List ℕ) (uid : Option (List ℕ)) (ask : Ask) → is_name name ≡ true → ((u : List ℕ) → uid ≡ Some u → IsUid u)
    → ask_of kind name uid ≡ Some ask → ask_fits ask ≡ true
ask_fit (Locate mask) name uid ask named lawful is = subst (λ a. ask_fits a ≡ true) (same_Some _ ask is) named
ask_fit Create name uid ask named lawful is = subst (λ a. ask_fits a ≡ true) (same_Some _ ask is) (rw named refl)
ask_fit GetAttributes name None ask named lawful is = absurd cc
ask_fit GetAttributes name (Some uid) ask named lawful is = subst (λ a. ask_fits a ≡ true) (same_Some _ ask is) (lawful uid refl)
ask_fit Activate name None ask named lawful is = absurd cc
ask_fit Activate name (Some uid) ask named lawful is = subst (λ a. ask_fits a ≡ true) (same_Some _ ask is) (lawful uid refl)
ask_fit Revoke name None ask named lawful is = absurd cc
ask_fit Revoke name (Some uid) ask named lawful is = subst (λ a. ask_fits a ≡ true) (same_Some _ ask is) (rw (lawful uid refl) refl)
ask_fit Destroy name None ask named lawful is = absurd cc
ask_fit Destroy name (Some uid) ask named lawful is = subst (λ a. ask_fits a ≡ true) (same_Some _ ask is) (lawful uid refl)

with_id : (prefix : List ℕ) (number : ℕ) (asked : Option Ask) (request : Request) → IsShort prefix → ((ask : Ask) → asked ≡ Some ask → ask_fits ask ≡ true)
    → option_map (λ ask. record { id = Some (marker_of number prefix); ask = ask }) asked ≡ Some request → request_fits request ≡ true
with_id prefix number None request short fits is = absurd cc
with_id prefix number (Some ask) request short fits is =
    subst (λ r. request_fits r ≡ true) (same_Some (record { id = Some (marker_of number prefix); ask = ask }) request is)
    (rw (le-leb (length (marker_of number prefix)) 128 (omega (arith, short.few)), fits ask refl) refl)

pub request_fit : (prefix : List ℕ) (answers : List Answer) (inquiry : Inquiry) (request : Request) → IsTrue (is_prefix prefix) → All IsLawful answers
    → request_for prefix answers inquiry ≡ Some request → IsTrue (request_fits request)
request_fit prefix answers inquiry request is lawful asked =
    with_id prefix (length answers) (ask_of inquiry.1 (name_of inquiry.0 prefix) (uid_of inquiry.0 answers)) request (short_of prefix is)
    (λ ask this. ask_fit inquiry.1 (name_of inquiry.0 prefix) (uid_of inquiry.0 answers) ask (is_name_of inquiry.0 prefix is)
    (λ uid here. first_lawful (uids_of inquiry.0 answers) uid (uids_lawful inquiry.0 answers lawful) here) this)
    asked
