-- The Batch Items of a message: what is read of them is what they say, and what is written of some values says them.
use Rattle.std.proofs.Common.{◌≡◌, ℕ, ◌+◌, ◌<◌, ◌==◌, suc, Bool, true, false, if◌then◌else◌, List, [], ◌∷◌, ◌++◌, map, length, drop, get_or, Result, Ok, Err, refl, sym, ap, subst, ◌∙◌}
use Rattle.std.proofs.lemmas.List.{append_assoc, drop_more}
use Rattle.kmip_ttlv.specs.Binding.{◌>>=◌}
use Rattle.kmip_ttlv.specs.Node.{Node, node, Content, as_structure}
use Rattle.kmip_ttlv.specs.View.{content, views}
use Rattle.kmip_ttlv.specs.declared.item.Item.{Item}
use Rattle.kmip_ttlv.proofs.ReadSteps.{Reads, reads-ok, reads-bind, reads-as}
use Rattle.kmip_batch_items.specs.declared.message_fault.MessageFault.{MessageFault}
use Rattle.kmip_batch_items.specs.Formats.{Format, inside}
use Rattle.kmip_batch_items.specs.Private.{structures}
use Rattle.kmip_batch_items.specs.PrivateFormatLaws.{IsPart, avoid}
use Rattle.kmip_batch_items.specs.Siblings.{contents, typed}
use Rattle.kmip_batch_items.proofs.ItemReads.{structure_kind, reads-typed}
use Rattle.kmip_batch_items.specs.Occurrences.{HaveTags}
use Rattle.kmip_batch_items.proofs.TagLemmas.{contents_first, own_tag, agree_behind, agree_before}
use Rattle.kmip_batch_items.specs.declared.standard.TheConstants.{TAG_BATCH_ITEM}
use Rattle.kmip_messages.specs.Members.{all_structures, member_in, members_in, members_at, SayEach}

-- what was read before, and then what reading gives
abbrev pub with_front : {A : Type 0} → List A → Result (List A) MessageFault → Result (List A) MessageFault
with_front front read = read >>= λ rest. Ok (front ++ rest)

-- What is read of the Batch Items from a place on, behind a front: b says whether the item there is one, and m what is read of it.
pub read_here : {A : Type 0} (read : List Node → Result A MessageFault) (items : List Item) (i : ℕ) (x : Item) (front : List A) (b : Bool) (m : Result A MessageFault)
    → i < length items → x ≡ get_or items i x → (x.tag == TAG_BATCH_ITEM) ≡ b → member_in read (content x.value) ≡ m
    → with_front front (members_in read (contents TAG_BATCH_ITEM (views (drop i items))))
    ≡ (if b then (m >>= λ a. with_front (front ++ a ∷ []) (members_in read (contents TAG_BATCH_ITEM (views (drop (i + 1) items)))))
    else with_front front (members_in read (contents TAG_BATCH_ITEM (views (drop (i + 1) items)))))
read_here read items i x front b m lt is tag gives =
    let c = content x.value in
    let cs = contents TAG_BATCH_ITEM (views (drop (i + 1) items)) in
    ap (λ xs. with_front front (members_in read (contents TAG_BATCH_ITEM (views xs)))) (drop_more items i x lt ∙ ap (λ y. y ∷ drop (i + 1) items) (sym is))
    ∙ ap (λ b. with_front front (members_in read (if b then c ∷ cs else cs))) tag
    ∙ elim b as (λ b. with_front front (members_in read (if b then c ∷ cs else cs))
    ≡ (if b then (m >>= λ a. with_front (front ++ a ∷ []) (members_in read cs)) else with_front front (members_in read cs))) [
      | true ↦ ap (λ m. with_front front (m >>= λ a. members_in read cs >>= λ rest. Ok (a ∷ rest))) gives
          ∙ elim m as (λ m. with_front front (m >>= λ a. members_in read cs >>= λ rest. Ok (a ∷ rest)) ≡ (m >>= λ a. with_front (front ++ a ∷ []) (members_in read cs))) [
            | Ok a ↦ elim (members_in read cs) as (λ r. with_front front (r >>= λ rest. Ok (a ∷ rest)) ≡ with_front (front ++ a ∷ []) r) [
              | Ok rest ↦ ap (λ all. Ok all) (sym (append_assoc front (a ∷ []) rest))
              | Err fault ↦ refl
            ]
            | Err fault ↦ refl
          ]
      | false ↦ refl
    ]

-- ---- each is a Structure

AreStructures : List Content → Type 0
AreStructures [] = Unit {0}
AreStructures (c ∷ cs) = ((parts : List Node) × (c ≡ inside parts)) × AreStructures cs

-- a Batch Item that is a Structure
reads-structure : (c : Content) → Reads (typed TAG_BATCH_ITEM (as_structure c)) (λ parts. c ≡ inside parts)
reads-structure c = reads-typed structures structure_kind TAG_BATCH_ITEM c

reads-structures : (cs : List Content) → Reads (all_structures cs) (λ u. AreStructures cs)
unfolding AreStructures
reads-structures [] = record { sound = λ u e. tt; complete = λ u p. refl }
reads-structures (c ∷ cs) = reads-as (all_structures (c ∷ cs)) _ (λ u. AreStructures (c ∷ cs))
    (λ u (parts, is, rest). ((parts, is), rest))
    (λ u ((parts, is), rest). (parts, is, rest))
    (reads-bind _ _ _ _ (reads-structure c) (λ parts. reads-structures cs))

-- ---- what they say

-- values that some Structures say
say_structures : {A : Type 0} (Says : List Node → A → Type 0) (cs : List Content) (all : List A) → SayEach Says cs all → AreStructures cs
unfolding AreStructures
say_structures Says [] all says = tt
say_structures Says (c ∷ cs) [] says = absurd says
say_structures Says (c ∷ cs) (a ∷ rest) says = ((says.0.0, says.0.1), say_structures Says cs rest says.1)

none_said : {A : Type 0} (Says : List Node → A → Type 0) (all : List A) → [] ≡ all → SayEach Says [] all
none_said Says all e = subst (SayEach Says []) e tt

said_none : {A : Type 0} (Says : List Node → A → Type 0) (all : List A) → SayEach Says [] all → [] ≡ all
said_none Says [] says = refl
said_none Says (a ∷ rest) says = absurd says

reads-member : {A : Type 0} (read : List Node → Result A MessageFault) (Says : List Node → A → Type 0) (c : Content)
    → ((parts : List Node) → Reads (read parts) (Says parts)) → Reads (member_in read c) (λ a. (parts : List Node) × (c ≡ inside parts) × Says parts a)
unfolding member_in
reads-member read Says c law = reads-bind _ _ _ _ (reads-structure c) law

first_said : {A : Type 0} (Says : List Node → A → Type 0) (c : Content) (cs : List Content) (all : List A) → SayEach Says (c ∷ cs) all
    → (a : A) × ((parts : List Node) × (c ≡ inside parts) × Says parts a) × ((rest : List A) × SayEach Says cs rest × (a ∷ rest ≡ all))
first_said Says c cs [] says = absurd says
first_said Says c cs (a ∷ rest) says = (a, says.0, (rest, says.1, refl))

reads-members : {A : Type 0} (read : List Node → Result A MessageFault) (Says : List Node → A → Type 0) (cs : List Content)
    → ((parts : List Node) → Reads (read parts) (Says parts)) → Reads (members_in read cs) (SayEach Says cs)
reads-members read Says [] law = reads-as (members_in read []) _ (SayEach Says []) (λ all e. none_said Says all e) (λ all says. said_none Says all says) (reads-ok [])
reads-members read Says (c ∷ cs) law = reads-as (members_in read (c ∷ cs)) _ (SayEach Says (c ∷ cs))
    (λ all (a, says, (rest, others, same)). subst (SayEach Says (c ∷ cs)) same (says, others))
    (λ all says. first_said Says c cs all says)
    (reads-bind _ _ _ _ (reads-member read Says c law) (λ a. reads-bind _ _ _ _ (reads-members read Says cs law) (λ rest. reads-ok (a ∷ rest))))

-- What is read of the Batch Items of a message is what they say, each in its turn.
pub reads-members_at : {A : Type 0} (read : List Node → Result A MessageFault) (Says : List Node → A → Type 0) (message : List Node)
    → ((parts : List Node) → Reads (read parts) (Says parts)) → Reads (members_at read message) (SayEach Says (contents TAG_BATCH_ITEM message))
unfolding members_at
reads-members_at read Says message law = reads-as _ _ (SayEach Says (contents TAG_BATCH_ITEM message))
    (λ all (u, are, says). says)
    (λ all says. (tt, say_structures Says (contents TAG_BATCH_ITEM message) all says, says))
    (reads-bind _ _ _ _ (reads-structures (contents TAG_BATCH_ITEM message)) (λ u. reads-members read Says (contents TAG_BATCH_ITEM message) law))

-- ---- written

-- the Batch Item of a value
abbrev pub item_of : {A : Type 0} → (A → List Node) → A → Node
item_of write a = node TAG_BATCH_ITEM (inside (write a))

pub contents_written : {A : Type 0} (write : A → List Node) (all : List A)
    → contents TAG_BATCH_ITEM (map (item_of write) all) ≡ map (λ a. inside (write a)) all
contents_written write [] = refl
contents_written write (a ∷ rest) =
    contents_first TAG_BATCH_ITEM (inside (write a)) (map (item_of write) rest) ∙ ap (λ cs. inside (write a) ∷ cs) (contents_written write rest)

-- as many values as there are Batch Items
pub say_length : {A : Type 0} (Says : List Node → A → Type 0) (cs : List Content) (all : List A) → SayEach Says cs all → length cs ≡ length all
say_length Says [] [] says = refl
say_length Says [] (a ∷ rest) says = absurd says
say_length Says (c ∷ cs) [] says = absurd says
say_length Says (c ∷ cs) (a ∷ rest) says = ap suc (say_length Says cs rest says.1)

-- Batch Items behind a part of other tags: the part stands as it was, and so do they
pub written_have : {A : Type 0} (write : A → List Node) (all : List A) → HaveTags (TAG_BATCH_ITEM ∷ []) (map (item_of write) all)
written_have write [] = tt
written_have write (a ∷ rest) = (own_tag TAG_BATCH_ITEM, written_have write rest)

pub part_stands : {A B : Type 0} (f : Format A) (write : B → List Node) (a : A) (all : List B) → IsPart f → avoid f.tags (TAG_BATCH_ITEM ∷ []) ≡ true → f.fits a ≡ true
    → f.Says (f.write a ++ map (item_of write) all) a
part_stands f write a all part apart fits =
    part.looks (f.write a) (f.write a ++ map (item_of write) all) a
    (agree_behind f.tags (TAG_BATCH_ITEM ∷ []) (f.write a) (map (item_of write) all) apart (written_have write all))
    (part.good.written a fits)

pub items_stand : {A B : Type 0} (f : Format A) (write : B → List Node) (a : A) (all : List B) → IsPart f → avoid (TAG_BATCH_ITEM ∷ []) f.tags ≡ true
    → contents TAG_BATCH_ITEM (f.write a ++ map (item_of write) all) ≡ map (λ b. inside (write b)) all
items_stand f write a all part apart =
    sym (agree_before f.tags (TAG_BATCH_ITEM ∷ []) (f.write a) (map (item_of write) all) apart (part.good.has a)).0 ∙ contents_written write all
