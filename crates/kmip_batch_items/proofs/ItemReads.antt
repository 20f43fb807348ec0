-- For kmip_batch_items, whose laws are composed of these: a reader of one item reads a value just where a relation holds of it. No call
-- stands near, as the laws speak of definitions alone.
use Rattle.std.proofs.Common.{◌≡◌, ℕ, ℤ, Bool, true, false, List, [], ◌∷◌, map, Option, Some, None, Result, Ok, Err, ◌==◌, ◌&&◌, IsTrue, if◌then◌else◌, refl, sym, ap, subst, ◌∙◌}
use Rattle.std.proofs.lemmas.Bool.{and_parts}
use Rattle.std.specs.List.{list_all, list_any}
use Rattle.std.specs.Option.{option_map}
use Rattle.kmip_ttlv.specs.Node.{Node, Content, structure, integer, enumeration, text_string, byte_string, tag_of, list_of, as_structure, as_integer, as_enumeration, as_text_string, as_byte_string}
use Rattle.kmip_ttlv.proofs.ForCallers.{nodes_of-list_of, list_of-nodes_of}
use Rattle.kmip_ttlv.proofs.ReadSteps.{Reads, same_ok, not_ok, reads-ok, reads-bind, reads-as}
use Rattle.kmip_batch_items.specs.declared.message_fault.MessageFault.{MessageFault}
use Rattle.kmip_batch_items.specs.declared.message_fault.MessageFault.TheVariants.{Missing, Twice, WrongType, OutOfRange}
use Rattle.kmip_batch_items.specs.Formats.{Kind, inside, integers, enumerations, texts, bytes, value_in, values_in}
use Rattle.kmip_batch_items.specs.Private.{structures}
use Rattle.kmip_batch_items.specs.PrivateFormatLaws.{IsKind, IsFlatKind}
use Rattle.kmip_batch_items.specs.Siblings.{contents, at_most_one_of, one_of, typed, typed_if_any, guard, within, the, maybe, only}
use Rattle.kmip_batch_items.specs.Occurrences.{Once, if_any, AtMostOnce, HaveTags}

-- a choice
pub reads-if : {E A : Type 0} (c : Bool) (r s : Result A E) (P : A → Type 0) → (c ≡ true → Reads r P) → (c ≡ false → Reads s P)
    → Reads (if c then r else s) P
reads-if true r s P h k = h refl
reads-if false r s P h k = k refl

-- a test
pub reads-guard : (fault : MessageFault) (b : Bool) → Reads (guard fault b) (λ u. b ≡ true)
reads-guard fault true = record { sound = λ u e. refl; complete = λ u e. refl }
reads-guard fault false = record { sound = λ u e. not_ok fault u e; complete = λ u e. absurd cc }

pub reads-within : (tag : ℕ) (b : Bool) → Reads (within tag b) (λ u. b ≡ true)
reads-within tag b = reads-guard (OutOfRange tag) b

-- ---- the types of items

pub same_some : {A : Type 0} (x y : A) → Some x ≡ Some y → x ≡ y
same_some x y e = cc

pub not_some : {A X : Type 0} (a : A) → None ≡ Some a → X
not_some a is = absurd cc

told_structure : (c : Content) (ns : List Node) → as_structure c ≡ Some ns → inside ns ≡ c
told_structure (structure items) ns e = ap (λ ms. inside ms) (sym (same_some (list_of items) ns e)) ∙ ap structure (nodes_of-list_of items)
told_structure c ns e = not_some ns e

pub structure_kind : IsKind structures
structure_kind = record { made = λ ns. ap Some (list_of-nodes_of ns); told = told_structure }

told_integer : (c : Content) (z : ℤ) → as_integer c ≡ Some z → integer z ≡ c
told_integer (integer y) z e = ap integer (sym (same_some y z e))
told_integer c z e = not_some z e

pub integer_kind : IsFlatKind integers
integer_kind = record { kind = record { made = λ z. refl; told = told_integer }; flat = λ a. (refl, tt) }

told_enumeration : (c : Content) (n : ℕ) → as_enumeration c ≡ Some n → enumeration n ≡ c
told_enumeration (enumeration m) n e = ap enumeration (sym (same_some m n e))
told_enumeration c n e = not_some n e

pub enumeration_kind : IsFlatKind enumerations
enumeration_kind = record { kind = record { made = λ n. refl; told = told_enumeration }; flat = λ a. (refl, tt) }

told_text : (c : Content) (s : List ℕ) → as_text_string c ≡ Some s → text_string s ≡ c
told_text (text_string r) s e = ap text_string (sym (same_some r s e))
told_text c s e = not_some s e

pub text_kind : IsFlatKind texts
text_kind = record { kind = record { made = λ s. refl; told = told_text }; flat = λ a. (refl, tt) }

told_bytes : (c : Content) (s : List ℕ) → as_byte_string c ≡ Some s → byte_string s ≡ c
told_bytes (byte_string r) s e = ap byte_string (sym (same_some r s e))
told_bytes c s e = not_some s e

pub bytes_kind : IsFlatKind bytes
bytes_kind = record { kind = record { made = λ s. refl; told = told_bytes }; flat = λ a. (refl, tt) }

-- ---- items by their tags

-- the value of the right type
typed_as : {A : Type 0} (k : Kind A) → IsKind k → (tag : ℕ) (c : Content) (o : Option A) → k.of c ≡ o
    → Reads (typed tag o) (λ a. c ≡ k.make a)
typed_as k is tag c (Some x) e = record {
  sound = λ a same. sym (is.told c a (e ∙ ap Some (same_ok x a same)));
  complete = λ a made. ap Ok (same_some x a (sym e ∙ ap k.of made ∙ is.made a));
}
typed_as k is tag c None e = record {
  sound = λ a same. not_ok (WrongType tag) a same;
  complete = λ a made. not_some a (sym e ∙ ap k.of made ∙ is.made a);
}

pub reads-typed : {A : Type 0} (k : Kind A) → IsKind k → (tag : ℕ) (c : Content)
    → Reads (typed tag (k.of c)) (λ a. c ≡ k.make a)
reads-typed k is tag c = typed_as k is tag c (k.of c) refl

-- just one
pub reads-one_of : (tag : ℕ) (cs : List Content) → Reads (one_of tag cs) (λ c. cs ≡ c ∷ [])
reads-one_of tag [] = record { sound = λ c e. not_ok (Missing tag) c e; complete = λ c e. absurd cc }
reads-one_of tag (d ∷ []) = record { sound = λ c e. ap (λ x. x ∷ []) (same_ok d c e); complete = λ c e. ap Ok (cc) }
reads-one_of tag (d ∷ e ∷ cs) = record { sound = λ c is. not_ok (Twice tag) c is; complete = λ c is. absurd cc }

pub reads-the : {A : Type 0} (k : Kind A) → IsKind k → (tag : ℕ) (ns : List Node)
    → Reads (the k.of tag ns) (λ a. Once tag (k.make a) ns)
unfolding the
reads-the k is tag ns = reads-as (the k.of tag ns) _ (λ a. Once tag (k.make a) ns)
    (λ a p. p.1 ∙ ap (λ x. x ∷ []) p.2)
    (λ a once. (k.make a, once, refl))
    (reads-bind _ _ _ _ (reads-one_of tag (contents tag ns)) (λ c. reads-typed k is tag c))

-- none, or just one
none_any : (o : Option Content) → [] ≡ if_any o → None ≡ o
none_any None e = refl
none_any (Some c) e = absurd cc

one_any : (d : Content) (o : Option Content) → (d ∷ []) ≡ if_any o → Some d ≡ o
one_any d None e = absurd cc
one_any d (Some c) e = cc

two_any : {X : Type 0} (d e : Content) (cs : List Content) (o : Option Content) → (d ∷ e ∷ cs) ≡ if_any o → X
two_any d e cs None is = absurd cc
two_any d e cs (Some c) is = absurd cc

pub reads-at_most_one_of : (tag : ℕ) (cs : List Content) → Reads (at_most_one_of tag cs) (λ o. cs ≡ if_any o)
reads-at_most_one_of tag [] = record { sound = λ o e. ap if_any (same_ok None o e); complete = λ o e. ap Ok (none_any o e) }
reads-at_most_one_of tag (d ∷ []) = record { sound = λ o e. ap if_any (same_ok (Some d) o e); complete = λ o e. ap Ok (one_any d o e) }
reads-at_most_one_of tag (d ∷ e ∷ cs) = record { sound = λ o is. not_ok (Twice tag) o is; complete = λ o is. two_any d e cs o is }

none_map : {A : Type 0} (make : A → Content) (o : Option A) → None ≡ option_map make o → None ≡ o
none_map make None e = refl
none_map make (Some a) e = absurd cc

some_map : {A : Type 0} (make : A → Content) (c : Content) (o : Option A) → Some c ≡ option_map make o → (a : A) × (c ≡ make a) × (Some a ≡ o)
some_map make c None e = absurd cc
some_map make c (Some a) e = (a, same_some c (make a) e, refl)

pub reads-typed_if_any : {A : Type 0} (k : Kind A) → IsKind k → (tag : ℕ) (o : Option Content)
    → Reads (typed_if_any k.of tag o) (λ a. o ≡ option_map k.make a)
reads-typed_if_any k is tag None = record {
  sound = λ a e. ap (option_map k.make) (same_ok None a e);
  complete = λ a e. ap Ok (none_map k.make a e);
}
reads-typed_if_any k is tag (Some c) = reads-as _ _ (λ a. Some c ≡ option_map k.make a)
    (λ a p. ap Some p.1 ∙ ap (option_map k.make) p.2)
    (λ a p. some_map k.make c a p)
    (reads-bind _ _ _ _ (reads-typed k is tag c) (λ x. reads-ok (Some x)))

pub reads-maybe : {A : Type 0} (k : Kind A) → IsKind k → (tag : ℕ) (ns : List Node)
    → Reads (maybe k.of tag ns) (λ o. AtMostOnce tag (option_map k.make o) ns)
unfolding maybe
reads-maybe k is tag ns = reads-as (maybe k.of tag ns) _ (λ o. AtMostOnce tag (option_map k.make o) ns)
    (λ o p. p.1 ∙ ap if_any p.2)
    (λ o p. (option_map k.make o, p, refl))
    (reads-bind _ _ _ _ (reads-at_most_one_of tag (contents tag ns)) (λ c. reads-typed_if_any k is tag c))

-- ---- any number of items, each in its range

pub reads-value : {A : Type 0} (k : Kind A) → IsKind k → (tag : ℕ) (test : A → Bool) (c : Content)
    → Reads (value_in k tag test c) (λ a. (c ≡ k.make a) × IsTrue (test a))
unfolding value_in
reads-value k is tag test c = reads-as (value_in k tag test c) _ (λ a. (c ≡ k.make a) × IsTrue (test a))
    (λ a p. subst (λ x. (c ≡ k.make x) × IsTrue (test x)) p.2.2 (p.1, p.2.1))
    (λ a q. (a, q.0, (tt, q.1, refl)))
    (reads-bind _ _ _ _ (reads-typed k is tag c) (λ a. reads-bind _ _ _ _ (reads-within tag (test a)) (λ u. reads-ok a)))

-- these contents are these values
Are : {A : Type 0} → Kind A → (A → Bool) → List Content → List A → Type 0
Are k test cs all = (cs ≡ map k.make all) × IsTrue (list_all test all)

are_none : {A : Type 0} (k : Kind A) (test : A → Bool) (all : List A) → Are k test [] all → [] ≡ all
unfolding Are
are_none k test [] p = refl
are_none k test (a ∷ all) p = absurd (not_none (k.make a) (map k.make all) p.0)
  where
    not_none : (c : Content) (cs : List Content) → [] ≡ c ∷ cs → ⊥
    not_none c cs e = cc

both : (x y : Bool) → x ≡ true → y ≡ true → (x && y) ≡ true
both x y e d = rw (e, d) refl

are_first : {A : Type 0} (k : Kind A) (test : A → Bool) (c : Content) (cs : List Content) (a : A) (all : List A)
    → (c ≡ k.make a) × IsTrue (test a) → Are k test cs all → Are k test (c ∷ cs) (a ∷ all)
unfolding Are
are_first k test c cs a all p q = (ap (λ d. d ∷ cs) p.0 ∙ ap (λ ds. k.make a ∷ ds) q.0, both (test a) (list_all test all) p.1 q.1)

same_first : (c d : Content) (cs ds : List Content) → (c ∷ cs) ≡ d ∷ ds → c ≡ d
same_first c d cs ds e = cc

same_rest : (c d : Content) (cs ds : List Content) → (c ∷ cs) ≡ d ∷ ds → cs ≡ ds
same_rest c d cs ds e = cc

are_split : {A : Type 0} (k : Kind A) (test : A → Bool) (c : Content) (cs : List Content) (all : List A) → Are k test (c ∷ cs) all
    → (a : A) × ((c ≡ k.make a) × IsTrue (test a)) × ((rest : List A) × Are k test cs rest × ((a ∷ rest) ≡ all))
unfolding Are
are_split k test c cs [] p = absurd (not_some_first c cs p.0)
  where
    not_some_first : (c : Content) (cs : List Content) → (c ∷ cs) ≡ [] → ⊥
    not_some_first c cs e = cc
are_split k test c cs (a ∷ all) p =
    let fits = and_parts (test a) (list_all test all) p.1 in
    (a, (same_first c (k.make a) cs (map k.make all) p.0, fits.0), (all, (same_rest c (k.make a) cs (map k.make all) p.0, fits.1), refl))

pub reads-values : {A : Type 0} (k : Kind A) → IsKind k → (tag : ℕ) (test : A → Bool) (cs : List Content)
    → Reads (values_in k tag test cs) (λ all. (cs ≡ map k.make all) × IsTrue (list_all test all))
unfolding Are
reads-values k is tag test [] = reads-as _ _ (Are k test []) (λ a p. subst (Are k test []) p (refl, refl)) (λ a q. are_none k test a q) (reads-ok [])
reads-values k is tag test (c ∷ cs) = reads-as _ _ (Are k test (c ∷ cs))
    (λ a p. subst (Are k test (c ∷ cs)) p.2.2 (are_first k test c cs p.0 p.2.0 p.1 p.2.1))
    (λ a q. are_split k test c cs a q)
    (reads-bind _ _ _ _ (reads-value k is tag test c) (λ a. reads-bind _ _ _ _ (reads-values k is tag test cs) (λ rest. reads-ok (a ∷ rest))))

-- no other tags
only_as : (tags : List ℕ) (n : Node) (ns : List Node) (b : Bool) → list_any (λ t. t == tag_of n) tags ≡ b → Reads (only tags ns) (λ u. HaveTags tags ns)
    → Reads (if b then only tags ns else Err (OutOfRange (tag_of n))) (λ u. (b ≡ true) × HaveTags tags ns)
only_as tags n ns true is h = record { sound = λ u e. (refl, h.sound u e); complete = λ u p. h.complete u p.1 }
only_as tags n ns false is h = record { sound = λ u e. not_ok (OutOfRange (tag_of n)) u e; complete = λ u p. absurd cc }

pub reads-only : (tags : List ℕ) (ns : List Node) → Reads (only tags ns) (λ u. HaveTags tags ns)
reads-only tags [] = record { sound = λ u e. tt; complete = λ u e. refl }
reads-only tags (n ∷ ns) = only_as tags n ns (list_any (λ t. t == tag_of n) tags) refl (reads-only tags ns)
