-- The words of the targets, as a plan has them.
-- Source: own (text): a person writes these words in a plan.
use Rattle.std.specs.Prelude.{ℕ, nat_eq, Bool, List, codes, Option, Some, None, if◌then◌else◌}
use Rattle.std.specs.Cmp.Lexicographic.{pointwise}
use Rattle.kmip_plan.specs.declared.target.Target.{Target}
use Rattle.kmip_plan.specs.declared.target.Target.TheVariants.{Created, Active, Revoked, Destroyed, Discarded}

-- The two texts have the same bytes.
abbrev pub is_text : List ℕ → List ℕ → Bool
is_text s t = pointwise nat_eq s t

-- The word of a target.
abbrev pub target_word : Target → List ℕ
target_word Created = codes "created"
target_word Active = codes "active"
target_word Revoked = codes "revoked"
target_word Destroyed = codes "destroyed"
target_word Discarded = codes "discarded"

-- The target that a word names; none for any other word.
abbrev pub target_of_word : List ℕ → Option Target
target_of_word word =
    if is_text word (codes "created") then Some Created
    else if is_text word (codes "active") then Some Active
    else if is_text word (codes "revoked") then Some Revoked
    else if is_text word (codes "destroyed") then Some Destroyed
    else if is_text word (codes "discarded") then Some Discarded
    else None
