-- For kmip_batch_items, as the laws of formats are: the items of one list after those of another, by their tags; inductions over lists.
use Rattle.std.proofs.Common.{◌≡◌, ℕ, Bool, true, false, not, ◌||◌, ◌==◌, if◌then◌else◌, List, [], ◌∷◌, ◌++◌, Option, Some, None, refl, sym, ap, subst, ◌∙◌}
use Rattle.std.proofs.lemmas.Bool.{and_parts, eqb-true, eq-eqb}
use Rattle.std.proofs.lemmas.List.{append-nil}
use Rattle.std.specs.List.{list_any}
use Rattle.std.specs.Option.{option_map}
use Rattle.kmip_ttlv.specs.Node.{Node, node, Content, tag_of, content_of}
use Rattle.kmip_batch_items.specs.Formats.{given}
use Rattle.kmip_batch_items.specs.PrivateFormatLaws.{Agree, avoid}
use Rattle.kmip_batch_items.specs.Siblings.{contents}
use Rattle.kmip_batch_items.specs.Occurrences.{if_any, HaveTags}

-- of two lists the one after the other
kept : (b : Bool) (c : Content) (cs ds : List Content) → (if b then c ∷ (cs ++ ds) else (cs ++ ds)) ≡ (if b then c ∷ cs else cs) ++ ds
kept true c cs ds = refl
kept false c cs ds = refl

pub contents-append : (tag : ℕ) (ms ns : List Node) → contents tag (ms ++ ns) ≡ contents tag ms ++ contents tag ns
contents-append tag [] ns = refl
contents-append tag (m ∷ ms) ns = rw (contents-append tag ms ns) (kept (tag_of m == tag) (content_of m) (contents tag ms) (contents tag ns))

-- an item of its own tag before others, and alone
pub contents_first : (tag : ℕ) (c : Content) (ns : List Node) → contents tag (node tag c ∷ ns) ≡ c ∷ contents tag ns
contents_first tag c ns = ap (λ b. if b then c ∷ contents tag ns else contents tag ns) (eq-eqb tag tag refl)

pub alone : (tag : ℕ) (c : Content) → contents tag (node tag c ∷ []) ≡ c ∷ []
alone tag c = contents_first tag c []

pub alone_if_any : {A : Type 0} (tag : ℕ) (make : A → Content) (o : Option A)
    → contents tag (given (λ a. node tag (make a)) o) ≡ if_any (option_map make o)
alone_if_any tag make None = refl
alone_if_any tag make (Some a) = alone tag (make a)

pub own_tag : (tag : ℕ) → list_any (λ t. t == tag) (tag ∷ []) ≡ true
own_tag tag = ap (λ b. b || false) (eq-eqb tag tag refl)

pub given_has : {A : Type 0} (tag : ℕ) (make : A → Content) (o : Option A) → HaveTags (tag ∷ []) (given (λ a. node tag (make a)) o)
given_has tag make None = tt
given_has tag make (Some a) = (own_tag tag, tt)

-- ---- tags of both lists

or_on : (b c d : Bool) → (c ≡ true → d ≡ true) → (b || c) ≡ true → (b || d) ≡ true
or_on true c d k h = refl
or_on false c d k h = k h

or_right : (b c : Bool) → c ≡ true → (b || c) ≡ true
or_right true c h = refl
or_right false c h = h

any_first : (t : ℕ) (tags others : List ℕ) → list_any (λ s. s == t) tags ≡ true → list_any (λ s. s == t) (tags ++ others) ≡ true
any_first t [] others h = absurd cc
any_first t (tag ∷ tags) others h = or_on (tag == t) (list_any (λ s. s == t) tags) (list_any (λ s. s == t) (tags ++ others)) (any_first t tags others) h

any_second : (t : ℕ) (tags others : List ℕ) → list_any (λ s. s == t) others ≡ true → list_any (λ s. s == t) (tags ++ others) ≡ true
any_second t [] others h = h
any_second t (tag ∷ tags) others h = or_right (tag == t) (list_any (λ s. s == t) (tags ++ others)) (any_second t tags others h)

pub first_has : (tags others : List ℕ) (ns : List Node) → HaveTags tags ns → HaveTags (tags ++ others) ns
first_has tags others [] h = tt
first_has tags others (n ∷ ns) h = (any_first (tag_of n) tags others h.0, first_has tags others ns h.1)

pub second_has : (tags others : List ℕ) (ns : List Node) → HaveTags others ns → HaveTags (tags ++ others) ns
second_has tags others [] h = tt
second_has tags others (n ∷ ns) h = (any_second (tag_of n) tags others h.0, second_has tags others ns h.1)

all_have : (tags : List ℕ) (ms ns : List Node) → HaveTags tags ms → HaveTags tags ns → HaveTags tags (ms ++ ns)
all_have tags [] ns h k = k
all_have tags (m ∷ ms) ns h k = (h.0, all_have tags ms ns h.1 k)

-- items of the one part and then of the other
pub both_have : (tags others : List ℕ) (ms ns : List Node) → HaveTags tags ms → HaveTags others ns → HaveTags (tags ++ others) (ms ++ ns)
both_have tags others ms ns h k = all_have (tags ++ others) ms ns (first_has tags others ms h) (second_has tags others ns k)

-- ---- what two lists agree on

pub agree_first : (tags others : List ℕ) (ns ms : List Node) → Agree (tags ++ others) ns ms → Agree tags ns ms
agree_first [] others ns ms h = tt
agree_first (tag ∷ tags) others ns ms h = (h.0, agree_first tags others ns ms h.1)

pub agree_second : (tags others : List ℕ) (ns ms : List Node) → Agree (tags ++ others) ns ms → Agree others ns ms
agree_second [] others ns ms h = h
agree_second (tag ∷ tags) others ns ms h = agree_second tags others ns ms h.1

-- none of the items has a tag that is not among theirs
other_tag : (tag own : ℕ) (tags : List ℕ) (b : Bool) → (own == tag) ≡ b → list_any (λ t. t == own) tags ≡ true → list_any (λ t. t == tag) tags ≡ false
    → b ≡ false
other_tag tag own tags true is has not_among =
    let same : list_any (λ t. t == tag) tags ≡ true = subst (λ x. list_any (λ t. t == x) tags ≡ true) (eqb-true own tag is) has in
    absurd cc
other_tag tag own tags false is has not_among = refl

none_stand : (tag : ℕ) (tags : List ℕ) (ns : List Node) → HaveTags tags ns → list_any (λ t. t == tag) tags ≡ false → contents tag ns ≡ []
none_stand tag tags [] h apart = refl
none_stand tag tags (n ∷ ns) h apart =
    ap (λ b. if b then content_of n ∷ contents tag ns else contents tag ns) (other_tag tag (tag_of n) tags (tag_of n == tag) refl h.0 apart)
    ∙ none_stand tag tags ns h.1 apart

not_true : (b : Bool) → not b ≡ true → b ≡ false
not_true true h = absurd cc
not_true false h = refl

-- items of other tags behind a list, or before it, change nothing for its own
pub agree_behind : (tags others : List ℕ) (ms ns : List Node) → avoid tags others ≡ true → HaveTags others ns → Agree tags ms (ms ++ ns)
agree_behind [] others ms ns h k = tt
agree_behind (tag ∷ tags) others ms ns h k =
    let parts = and_parts (not (list_any (λ t. t == tag) others)) (avoid tags others) h in (
      sym (contents-append tag ms ns ∙ ap (λ cs. contents tag ms ++ cs) (none_stand tag others ns k (not_true _ parts.0)) ∙ append-nil (contents tag ms)),
      agree_behind tags others ms ns parts.1 k,
    )

pub agree_before : (tags others : List ℕ) (ms ns : List Node) → avoid others tags ≡ true → HaveTags tags ms → Agree others ns (ms ++ ns)
agree_before tags [] ms ns h k = tt
agree_before tags (tag ∷ others) ms ns h k =
    let parts = and_parts (not (list_any (λ t. t == tag) tags)) (avoid others tags) h in (
      sym (contents-append tag ms ns ∙ ap (λ cs. cs ++ contents tag ns) (none_stand tag tags ms k (not_true _ parts.0))),
      agree_before tags others ms ns parts.1 k,
    )
