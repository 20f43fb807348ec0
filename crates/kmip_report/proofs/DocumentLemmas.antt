-- The text of a document is made of its parts.
use Rattle.std.proofs.Common.{◌≡◌, ℕ, List, ◌∷◌, ◌++◌, Bool, true, codes, Result, Ok, Err, OnOk, ap, ◌∙◌, append_assoc}
use Rattle.serde_json.specs.Data.{Data, string}
use Rattle.serde_json.specs.Written.{comma_if, compact_text, members_text}
use Rattle.kmip_report.specs.declared.member.Member.{Member}
use Rattle.kmip_report.specs.Documents.{members}
use Rattle.kmip_report.specs.Members.{data_of, pair_of}
use Rattle.kmip_report.specs.Private.{member_text}

-- a name, a colon and a value are a member
pub member_is : {T E : Type 0} (result : Result T E) (old named marked ended : List ℕ) (m : Member) → named ≡ old ++ compact_text (string m.name.now)
    → marked ≡ named ++ codes ":" → OnOk result (ended ≡ marked ++ compact_text (data_of m.value)) → OnOk result (ended ≡ old ++ member_text m)
unfolding member_text
member_is (Err fault) old named marked ended m first then last = tt
member_is (Ok value) old named marked ended m first then last =
    let name = compact_text (string m.name.now) in
    let value = compact_text (data_of m.value) in
    last
    ∙ ap (λ t. t ++ value) (then ∙ ap (λ t. t ++ codes ":") first)
    ∙ ap (λ t. t ++ value) (append_assoc old name (codes ":"))
    ∙ append_assoc old (name ++ codes ":") value

regroup : (name value rest : List ℕ) → ((name ++ codes ":") ++ value) ++ rest ≡ name ++ (codes ":" ++ (value ++ rest))
regroup name value rest = append_assoc (name ++ codes ":") value rest ∙ append_assoc name (codes ":") (value ++ rest)

-- a comma, a member and the members after it
pub member_next : (old comma next : List ℕ) (later : Bool) (m : Member) (rest : List (List ℕ × Data)) → comma ≡ old ++ comma_if later
    → next ≡ comma ++ member_text m → next ++ members_text true (members rest) ≡ old ++ members_text later (members (pair_of m ∷ rest))
unfolding member_text
member_next old comma next later m rest first then =
    let behind = members_text true (members rest) in
    let name = compact_text (string m.name.now) in
    let value = compact_text (data_of m.value) in
    ap (λ t. t ++ behind) (then ∙ ap (λ t. t ++ member_text m) first)
    ∙ append_assoc (old ++ comma_if later) (member_text m) behind
    ∙ append_assoc old (comma_if later) (member_text m ++ behind)
    ∙ ap (λ t. old ++ (comma_if later ++ t)) (regroup name value behind)
