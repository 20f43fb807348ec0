-- The words of a plan, and the numbers that they stand for.
-- Source: KMIP 2.1, Cryptographic Algorithm, Cryptographic Usage Mask and Revocation Reason Code; the words
-- are own (text).
use Rattle.std.specs.Prelude.{ℕ, ◌==◌, Bool, List, [], ◌∷◌, codes, Option, Some, None, if◌then◌else◌}
use Rattle.std.specs.List.{list_any}
use Rattle.kmip_objects.specs.declared.standard.TheConstants.{
  ALGORITHM_AES,
  ALGORITHM_HMAC_SHA256,
  REVOCATION_UNSPECIFIED,
  REVOCATION_AFFILIATION_CHANGED,
  REVOCATION_SUPERSEDED,
  REVOCATION_CESSATION_OF_OPERATION,
  REVOCATION_PRIVILEGE_WITHDRAWN,
}
use Rattle.kmip_plan.specs.TargetWords.{is_text}

-- The word for a Cryptographic Algorithm of the profile; none for any other.
abbrev pub algorithm_word : ℕ → Option (List ℕ)
algorithm_word a =
    if a == ALGORITHM_AES then Some (codes "AES")
    else if a == ALGORITHM_HMAC_SHA256 then Some (codes "HMAC-SHA256")
    else None

-- The Cryptographic Algorithm that a word names; none for any other word.
abbrev pub algorithm_of_word : List ℕ → Option ℕ
algorithm_of_word word =
    if is_text word (codes "AES") then Some ALGORITHM_AES
    else if is_text word (codes "HMAC-SHA256") then Some ALGORITHM_HMAC_SHA256
    else None

-- The Revocation Reason Code that a word names; none for any other word. A compromise has no word.
abbrev pub reason_of_word : List ℕ → Option ℕ
reason_of_word word =
    if is_text word (codes "unspecified") then Some REVOCATION_UNSPECIFIED
    else if is_text word (codes "affiliation-changed") then Some REVOCATION_AFFILIATION_CHANGED
    else if is_text word (codes "superseded") then Some REVOCATION_SUPERSEDED
    else if is_text word (codes "cessation-of-operation") then Some REVOCATION_CESSATION_OF_OPERATION
    else if is_text word (codes "privilege-withdrawn") then Some REVOCATION_PRIVILEGE_WITHDRAWN
    else None

-- The words for the usages, each with its bit of the Cryptographic Usage Mask.
abbrev pub usages : List (List ℕ × ℕ)
usages =
    (codes "sign", 1)
    ∷ (codes "verify", 2)
    ∷ (codes "encrypt", 4)
    ∷ (codes "decrypt", 8)
    ∷ (codes "wrap-key", 16)
    ∷ (codes "unwrap-key", 32)
    ∷ (codes "mac-generate", 128)
    ∷ (codes "mac-verify", 256)
    ∷ []

-- It is one of the words for a usage.
abbrev pub is_usage_word : List ℕ → Bool
is_usage_word word = list_any (λ usage. is_text word usage.0) usages
