-- For kmip_batch_items, whose formats are made of these: a law for each combinator, that of good parts it makes a good part. It is of
-- any type of values, over which no clause can range.
use Rattle.std.proofs.Common.{◌≡◌, ◌==◌, ℕ, Bool, true, false, List, [], ◌∷◌, ◌++◌, map, Option, Some, None, Ok, IsTrue, refl, sym, ap, subst, ◌∙◌}
use Rattle.std.proofs.lemmas.Bool.{and_parts, eqb-true}
use Rattle.std.specs.Option.{option_map, option_map_or}
use Rattle.kmip_ttlv.specs.Node.{Node, node, Content}
use Rattle.kmip_ttlv.proofs.ReadSteps.{Reads, not_ok, reads-ok, reads-bind, reads-as}
use Rattle.kmip_batch_items.specs.declared.message_fault.MessageFault.{MessageFault}
use Rattle.kmip_batch_items.specs.Formats.{Format, Kind, inside, if_given, given, required, optional, unread, repeated, structure_of, read_if_any, SaysIfAny, optional_structure, tested, ranged, fixed, present, as_record, as_case, ◌⊗◌, ◌⊗ʳ◌, ◌◁◌, ◌▷◌, followed, read_told, told, told_by, closed, choose}
use Rattle.kmip_batch_items.specs.Private.{structures}
use Rattle.kmip_batch_items.specs.PrivateFormatLaws.{IsFlat, IsFlatKind, Spans, IsGood, Agree, avoid, apart, IsPart}
use Rattle.kmip_batch_items.specs.Siblings.{contents}
use Rattle.kmip_batch_items.specs.Occurrences.{AtMostOnce, HaveTags}
use Rattle.kmip_batch_items.proofs.ExtentLemmas.{spans_one, spans_around, spans_if_any, spans_if_flat, spans_each, spans_both}
use Rattle.kmip_batch_items.proofs.ItemReads.{same_some, not_some, reads-guard, reads-the, reads-maybe, reads-values, reads-only, structure_kind}
use Rattle.kmip_batch_items.proofs.TagLemmas.{contents_first, alone, alone_if_any, own_tag, given_has, first_has, second_has, both_have, agree_first, agree_second, agree_behind, agree_before}

-- what a good format reads
pub reads : {A : Type 0} (f : Format A) → IsGood f → (ns : List Node) → Reads (f.read ns) (f.Says ns)
reads f good ns = record { sound = good.sound ns; complete = good.complete ns }

-- a format that reads so is good
pub good_by : {A : Type 0} (f : Format A) → ((ns : List Node) → Reads (f.read ns) (f.Says ns)) → ((a : A) → f.fits a ≡ true → f.Says (f.write a) a)
    → ((a : A) → HaveTags f.tags (f.write a)) → ((a : A) → Spans (f.extent a) (f.write a)) → IsGood f
good_by f reading written has spans = record {
  sound = λ ns a e. (reading ns).sound a e;
  complete = λ ns a says. (reading ns).complete a says;
  written = written;
  has = has;
  spans = spans;
}

-- ---- one item

pub required-part : {A : Type 0} (k : Kind A) (tag : ℕ) → IsFlatKind k → IsPart (required k tag)
required-part k tag is = record {
  good = good_by (required k tag) (λ ns. reads-the k is.kind tag ns) (λ a fits. alone tag (k.make a)) (λ a. (own_tag tag, tt))
      (λ a. spans_one tag (k.make a) (is.flat a));
  looks = λ ns ms a agree once. sym agree.0 ∙ once;
}

pub optional-part : {A : Type 0} (k : Kind A) (tag : ℕ) → IsFlatKind k → IsPart (optional k tag)
optional-part k tag is = record {
  good = good_by (optional k tag) (λ ns. reads-maybe k is.kind tag ns) (λ o fits. alone_if_any tag k.make o) (λ o. given_has tag k.make o)
      (λ o. spans_if_flat k tag is o);
  looks = λ ns ms o agree once. sym agree.0 ∙ once;
}

pub unread-part : (tag : ℕ) (content : Content) → IsFlat content → IsPart (unread tag content)
unread-part tag content is = record {
  good = good_by (unread tag content)
      (λ ns. record { sound = λ u e. tt; complete = λ u says. refl })
      (λ u fits. tt)
      (λ u. (own_tag tag, tt)) (λ u. spans_one tag content is);
  looks = λ ns ms u agree says. tt;
}

-- any number of items
written_values : {A : Type 0} (k : Kind A) (tag : ℕ) (all : List A) → contents tag (map (λ a. node tag (k.make a)) all) ≡ map k.make all
written_values k tag [] = refl
written_values k tag (a ∷ all) = contents_first tag (k.make a) (map (λ b. node tag (k.make b)) all) ∙ ap (λ cs. k.make a ∷ cs) (written_values k tag all)

values_have : {A : Type 0} (k : Kind A) (tag : ℕ) (all : List A) → HaveTags (tag ∷ []) (map (λ a. node tag (k.make a)) all)
values_have k tag [] = tt
values_have k tag (a ∷ all) = (own_tag tag, values_have k tag all)

pub repeated-part : {A : Type 0} (k : Kind A) (tag : ℕ) (test : A → Bool) → IsFlatKind k → IsPart (repeated k tag test)
repeated-part k tag test is = record {
  good = good_by (repeated k tag test)
      (λ ns. reads-values k is.kind tag test (contents tag ns))
      (λ all fits. (written_values k tag all, fits))
      (λ all. values_have k tag all) (λ all. spans_each k tag is all);
  looks = λ ns ms all agree says. (sym agree.0 ∙ says.0, says.1);
}

pub structure-part : {A : Type 0} (tag : ℕ) (f : Format A) → IsGood f → IsPart (structure_of tag f)
structure-part tag f good = record {
  good = good_by (structure_of tag f)
      (λ ns. reads-bind _ _ _ _ (reads-the structures structure_kind tag ns) (λ parts. reads f good parts))
      (λ a fits. (f.write a, alone tag (inside (f.write a)), good.written a fits))
      (λ a. (own_tag tag, tt)) (λ a. spans_around tag (f.extent a) (f.write a) (good.spans a));
  looks = λ ns ms a agree says. (says.0, sym agree.0 ∙ says.1, says.2);
}

-- a Structure that may be left out, by its items
InAny : {A : Type 0} → Format A → Option (List Node) → Option A → Type 0
InAny f None o = None ≡ o
InAny f (Some parts) o = (a : _) × f.Says parts a × (Some a ≡ o)

reads-if_any : {A : Type 0} (f : Format A) → IsGood f → (parts : Option (List Node)) → Reads (read_if_any f.read parts) (InAny f parts)
unfolding InAny
reads-if_any f good None = reads-ok None
reads-if_any f good (Some parts) = reads-bind _ _ _ _ (reads f good parts) (λ a. reads-ok (Some a))

any_said : {A : Type 0} (tag : ℕ) (f : Format A) (ns : List Node) (parts : Option (List Node)) (o : Option A)
    → AtMostOnce tag (option_map inside parts) ns → InAny f parts o → SaysIfAny tag f.Says ns o
unfolding InAny
any_said tag f ns None o once is = subst (SaysIfAny tag f.Says ns) is once
any_said tag f ns (Some parts) o once is = subst (SaysIfAny tag f.Says ns) is.2 (parts, once, is.1)

said_any : {A : Type 0} (tag : ℕ) (f : Format A) (ns : List Node) (o : Option A) → SaysIfAny tag f.Says ns o
    → (parts : Option (List Node)) × AtMostOnce tag (option_map inside parts) ns × InAny f parts o
unfolding InAny
said_any tag f ns None says = (None, says, refl)
said_any tag f ns (Some a) says = (Some says.0, says.1, (a, says.2, refl))

any_written : {A : Type 0} (tag : ℕ) (f : Format A) → IsGood f → (o : Option A) → option_map_or f.fits o true ≡ true
    → SaysIfAny tag f.Says (given (λ a. node tag (inside (f.write a))) o) o
any_written tag f good None fits = refl
any_written tag f good (Some a) fits = (f.write a, alone tag (inside (f.write a)), good.written a fits)

any_looks : {A : Type 0} (tag : ℕ) (f : Format A) (ns ms : List Node) (o : Option A) → Agree (tag ∷ []) ns ms → SaysIfAny tag f.Says ns o
    → SaysIfAny tag f.Says ms o
any_looks tag f ns ms None agree says = sym agree.0 ∙ says
any_looks tag f ns ms (Some a) agree says = (says.0, sym agree.0 ∙ says.1, says.2)

pub optional_structure-part : {A : Type 0} (tag : ℕ) (f : Format A) → IsGood f → IsPart (optional_structure tag f)
optional_structure-part tag f good = record {
  good = good_by (optional_structure tag f)
      (λ ns. reads-as _ _ ((optional_structure tag f).Says ns)
      (λ o p. any_said tag f ns p.0 o p.1 p.2)
      (λ o says. said_any tag f ns o says)
      (reads-bind _ _ _ _ (reads-maybe structures structure_kind tag ns) (λ parts. reads-if_any f good parts)))
      (λ o fits. any_written tag f good o fits)
      (λ o. given_has tag (λ a. inside (f.write a)) o)
      (λ o. spans_if_any _ (λ a. node tag (inside (f.write a)) ∷ []) (λ a. spans_around tag (f.extent a) (f.write a) (good.spans a)) o);
  looks = λ ns ms o agree says. any_looks tag f ns ms o agree says;
}

-- ---- the values

pub tested-part : {A : Type 0} (fault : MessageFault) (test : A → Bool) (f : Format A) → IsPart f → IsPart (tested fault test f)
tested-part fault test f part = record {
  good = good_by (tested fault test f)
      (λ ns. reads-as _ _ ((tested fault test f).Says ns)
      (λ a p. subst (λ x. f.Says ns x × IsTrue (test x)) p.2.2 (p.1, p.2.1))
      (λ a p. (a, p.0, (tt, p.1, refl)))
      (reads-bind _ _ _ _ (reads f part.good ns) (λ a. reads-bind _ _ _ _ (reads-guard fault (test a)) (λ u. reads-ok a))))
      (λ a fits. let both = and_parts (f.fits a) (test a) fits in (part.good.written a both.0, both.1))
      part.good.has part.good.spans;
  looks = λ ns ms a agree says. (part.looks ns ms a agree says.0, says.1);
}

pub ranged-part : {A : Type 0} (tag : ℕ) (test : A → Bool) (f : Format A) → IsPart f → IsPart (ranged tag test f)
ranged-part tag test f part = tested-part _ test f part

pub fixed-part : {A : Type 0} (fault : MessageFault) (test : A → Bool) (value : A) (f : Format A) → f.fits value ≡ true → test value ≡ true
    → IsPart f → IsPart (fixed fault test value f)
fixed-part fault test value f fits holds part = record {
  good = good_by (fixed fault test value f)
      (λ ns. reads-bind _ _ _ _ (reads f part.good ns) (λ a. reads-guard fault (test a)))
      (λ u _. (value, part.good.written value fits, holds))
      (λ u. part.good.has value) (λ u. part.good.spans value);
  looks = λ ns ms u agree says. (says.0, part.looks ns ms says.0 agree says.1, says.2);
}

some_given : {A : Type 0} (f : Format A) → IsGood f → (o : Option A) → option_map_or f.fits o false ≡ true
    → (a : A) × f.Says (if_given f.write o) a × (Some a ≡ o)
some_given f good None fits = absurd cc
some_given f good (Some a) fits = (a, good.written a fits, refl)

if_given_has : {A : Type 0} (f : Format A) → IsGood f → (o : Option A) → HaveTags f.tags (if_given f.write o)
if_given_has f good None = tt
if_given_has f good (Some a) = good.has a

pub present-part : {A : Type 0} (f : Format A) → IsPart f → IsPart (present f)
present-part f part = record {
  good = good_by (present f)
      (λ ns. reads-bind _ _ _ _ (reads f part.good ns) (λ a. reads-ok (Some a)))
      (λ o fits. some_given f part.good o fits)
      (λ o. if_given_has f part.good o) (λ o. spans_if_any f.extent f.write part.good.spans o);
  looks = λ ns ms o agree says. (says.0, part.looks ns ms says.0 agree says.1, says.2);
}

-- the words can be changed back: of each value that is said, and of each value
pub as_record-good : {A B : Type 0} (there : A → B) (back : B → A) (f : Format A) → ((ns : List Node) (a : A) → f.Says ns a → back (there a) ≡ a)
    → ((b : B) → there (back b) ≡ b) → IsGood f → IsGood (as_record there back f)
as_record-good there back f again same good = good_by (as_record there back f)
    (λ ns. reads-as _ _ ((as_record there back f).Says ns)
    (λ b p. subst (λ x. f.Says ns (back x)) p.2 (subst (f.Says ns) (sym (again ns p.0 p.1)) p.1))
    (λ b says. (back b, says, same b))
    (reads-bind _ _ _ _ (reads f good ns) (λ a. reads-ok (there a))))
    (λ b fits. good.written (back b) fits)
    (λ b. good.has (back b)) (λ b. good.spans (back b))

pub said_record-part : {A B : Type 0} (there : A → B) (back : B → A) (f : Format A) → ((ns : List Node) (a : A) → f.Says ns a → back (there a) ≡ a)
    → ((b : B) → there (back b) ≡ b) → IsPart f → IsPart (as_record there back f)
said_record-part there back f again same part = record {
  good = as_record-good there back f again same part.good;
  looks = λ ns ms b agree says. part.looks ns ms (back b) agree says;
}

pub as_record-part : {A B : Type 0} (there : A → B) (back : B → A) (f : Format A) → ((a : A) → back (there a) ≡ a) → ((b : B) → there (back b) ≡ b)
    → IsPart f → IsPart (as_record there back f)
as_record-part there back f again same part = said_record-part there back f (λ ns a says. again a) same part

case_given : {A B : Type 0} (there : A → B) (f : Format A) → IsGood f → (b : B) (o : Option A) → ((a : A) → o ≡ Some a → there a ≡ b)
    → option_map_or f.fits o false ≡ true → (a : A) × f.Says (if_given f.write o) a × (there a ≡ b)
case_given there f good b None again fits = absurd cc
case_given there f good b (Some a) again fits = (a, good.written a fits, again a refl)

pub as_case-good : {A B : Type 0} (there : A → B) (back : B → Option A) (f : Format A) → ((b : B) (a : A) → back b ≡ Some a → there a ≡ b)
    → IsGood f → IsGood (as_case there back f)
as_case-good there back f again good = good_by (as_case there back f)
    (λ ns. reads-bind _ _ _ _ (reads f good ns) (λ a. reads-ok (there a)))
    (λ b fits. case_given there f good b (back b) (again b) fits)
    (λ b. if_given_has f good (back b)) (λ b. spans_if_any f.extent f.write good.spans (back b))

pub as_case-part : {A B : Type 0} (there : A → B) (back : B → Option A) (f : Format A) → ((b : B) (a : A) → back b ≡ Some a → there a ≡ b)
    → IsPart f → IsPart (as_case there back f)
as_case-part there back f again part = record {
  good = as_case-good there back f again part.good;
  looks = λ ns ms b agree says. (says.0, part.looks ns ms says.0 agree says.1, says.2);
}

-- ---- two parts

-- both parts are said by their items one after the other
both_written : {A B : Type 0} (f : Format A) (g : Format B) → apart f.tags g.tags ≡ true → IsPart f → IsPart g → (a : A) (b : B)
    → f.fits a ≡ true → g.fits b ≡ true → f.Says (f.write a ++ g.write b) a × g.Says (f.write a ++ g.write b) b
both_written f g others part other a b fits fit =
    let ways = and_parts (avoid f.tags g.tags) (avoid g.tags f.tags) others in (
      part.looks (f.write a) (f.write a ++ g.write b) a (agree_behind f.tags g.tags (f.write a) (g.write b) ways.0 (other.good.has b)) (part.good.written a fits),
      other.looks (g.write b) (f.write a ++ g.write b) b (agree_before f.tags g.tags (f.write a) (g.write b) ways.1 (part.good.has a)) (other.good.written b fit),
    )

both_look : {A B : Type 0} (f : Format A) (g : Format B) → IsPart f → IsPart g → (ns ms : List Node) (a : A) (b : B) → Agree (f.tags ++ g.tags) ns ms
    → f.Says ns a × g.Says ns b → f.Says ms a × g.Says ms b
both_look f g part other ns ms a b agree says = (
  part.looks ns ms a (agree_first f.tags g.tags ns ms agree) says.0,
  other.looks ns ms b (agree_second f.tags g.tags ns ms agree) says.1,
)

pub both-part : {A B : Type 0} (f : Format A) (g : Format B) → apart f.tags g.tags ≡ true → IsPart f → IsPart g → IsPart (f ⊗ g)
both-part f g others part other = record {
  good = good_by (f ⊗ g)
      (λ ns. reads-as _ _ ((f ⊗ g).Says ns)
      (λ p q. subst (λ x. f.Says ns x.0 × g.Says ns x.1) q.2.2 (q.1, q.2.1))
      (λ p says. (p.0, says.0, (p.1, says.1, refl)))
      (reads-bind _ _ _ _ (reads f part.good ns) (λ a. reads-bind _ _ _ _ (reads g other.good ns) (λ b. reads-ok (a, b)))))
      (λ p fits. let each = and_parts (f.fits p.0) (g.fits p.1) fits in both_written f g others part other p.0 p.1 each.0 each.1)
      (λ p. both_have f.tags g.tags (f.write p.0) (g.write p.1) (part.good.has p.0) (other.good.has p.1))
      (λ p. spans_both (f.extent p.0) (g.extent p.1) (f.write p.0) (g.write p.1) (part.good.spans p.0) (other.good.spans p.1));
  looks = λ ns ms p agree says. both_look f g part other ns ms p.0 p.1 agree says;
}

pub reversed-part : {A B : Type 0} (f : Format A) (g : Format B) → apart f.tags g.tags ≡ true → IsPart f → IsPart g → IsPart (f ⊗ʳ g)
reversed-part f g others part other = record {
  good = good_by (f ⊗ʳ g)
      (λ ns. reads-as _ _ ((f ⊗ʳ g).Says ns)
      (λ p q. subst (λ x. f.Says ns x.0 × g.Says ns x.1) q.2.2 (q.2.1, q.1))
      (λ p says. (p.1, says.1, (p.0, says.0, refl)))
      (reads-bind _ _ _ _ (reads g other.good ns) (λ b. reads-bind _ _ _ _ (reads f part.good ns) (λ a. reads-ok (a, b)))))
      (λ p fits. let each = and_parts (f.fits p.0) (g.fits p.1) fits in both_written f g others part other p.0 p.1 each.0 each.1)
      (λ p. both_have f.tags g.tags (f.write p.0) (g.write p.1) (part.good.has p.0) (other.good.has p.1))
      (λ p. spans_both (f.extent p.0) (g.extent p.1) (f.write p.0) (g.write p.1) (part.good.spans p.0) (other.good.spans p.1));
  looks = λ ns ms p agree says. both_look f g part other ns ms p.0 p.1 agree says;
}

pub left-part : {A : Type 0} (f : Format A) (g : Format (Unit {0})) → apart f.tags g.tags ≡ true → IsPart f → IsPart g → IsPart (f ◁ g)
left-part f g others part other = record {
  good = good_by (f ◁ g)
      (λ ns. reads-as _ _ ((f ◁ g).Says ns)
      (λ a q. (subst (f.Says ns) q.2.2 q.1, q.2.1))
      (λ a says. (a, says.0, (tt, says.1, refl)))
      (reads-bind _ _ _ _ (reads f part.good ns) (λ a. reads-bind _ _ _ _ (reads g other.good ns) (λ u. reads-ok a))))
      (λ a fits. let each = and_parts (f.fits a) (g.fits tt) fits in both_written f g others part other a tt each.0 each.1)
      (λ a. both_have f.tags g.tags (f.write a) (g.write tt) (part.good.has a) (other.good.has tt))
      (λ a. spans_both (f.extent a) (g.extent tt) (f.write a) (g.write tt) (part.good.spans a) (other.good.spans tt));
  looks = λ ns ms a agree says. both_look f g part other ns ms a tt agree says;
}

pub right-part : {A : Type 0} (f : Format (Unit {0})) (g : Format A) → apart f.tags g.tags ≡ true → IsPart f → IsPart g → IsPart (f ▷ g)
right-part f g others part other = record {
  good = good_by (f ▷ g)
      (λ ns. reads-as _ _ ((f ▷ g).Says ns)
      (λ a q. (q.1, q.2))
      (λ a says. (tt, says.0, says.1))
      (reads-bind _ _ _ _ (reads f part.good ns) (λ u. reads g other.good ns)))
      (λ a fits. let each = and_parts (f.fits tt) (g.fits a) fits in both_written f g others part other tt a each.0 each.1)
      (λ a. both_have f.tags g.tags (f.write tt) (g.write a) (part.good.has tt) (other.good.has a))
      (λ a. spans_both (f.extent tt) (g.extent a) (f.write tt) (g.write a) (part.good.spans tt) (other.good.spans a));
  looks = λ ns ms a agree says. both_look f g part other ns ms tt a agree says;
}

pub followed-part : {K A : Type 0} (tags : List ℕ) (f : Format K) (g : K → Format A) → apart f.tags tags ≡ true → ((k : K) → (g k).tags ≡ tags)
    → IsPart f → ((k : K) → IsPart (g k)) → IsPart (followed tags f g)
followed-part tags f g others same part other = record {
  good = good_by (followed tags f g)
      (λ ns. reads-as _ _ ((followed tags f g).Says ns)
      (λ p q. subst (λ x. f.Says ns x.0 × (g x.0).Says ns x.1) q.2.2 (q.1, q.2.1))
      (λ p says. (p.0, says.0, (p.1, says.1, refl)))
      (reads-bind _ _ _ _ (reads f part.good ns) (λ k. reads-bind _ _ _ _ (reads (g k) (other k).good ns) (λ a. reads-ok (k, a)))))
      (λ p fits.
      let each = and_parts (f.fits p.0) ((g p.0).fits p.1) fits in
      both_written f (g p.0) (subst (λ ts. apart f.tags ts ≡ true) (sym (same p.0)) others) part (other p.0) p.0 p.1 each.0 each.1)
      (λ p. subst (λ ts. HaveTags (f.tags ++ ts) (f.write p.0 ++ (g p.0).write p.1)) (same p.0)
      (both_have f.tags (g p.0).tags (f.write p.0) ((g p.0).write p.1) (part.good.has p.0) ((other p.0).good.has p.1)))
      (λ p. spans_both (f.extent p.0) ((g p.0).extent p.1) (f.write p.0) ((g p.0).write p.1) (part.good.spans p.0) ((other p.0).good.spans p.1));
  looks = λ ns ms p agree says.
      both_look f (g p.0) part (other p.0) ns ms p.0 p.1 (subst (λ ts. Agree (f.tags ++ ts) ns ms) (sym (same p.0)) agree) says;
}

-- a part that a key tells, with a key or without one
pub told-part : {K A : Type 0} (fault : MessageFault) (known : Option K) (tags : List ℕ) (g : K → Format A) → ((k : K) → (g k).tags ≡ tags)
    → ((k : K) → IsPart (g k)) → IsPart (told fault known tags g)
told-part fault None tags g same part = record {
  good = good_by (told fault None tags g)
      (λ ns. record { sound = λ a e. not_ok fault a e; complete = λ a says. absurd cc })
      (λ a fits. absurd cc)
      (λ a. tt)
      (λ a. spans_if_any (λ k. (g k).extent a) (λ k. (g k).write a) (λ k. (part k).good.spans a) None);
  looks = λ ns ms a agree says. says;
}
told-part fault (Some k) tags g same part = record {
  good = good_by (told fault (Some k) tags g)
      (λ ns. reads (g k) (part k).good ns)
      (part k).good.written
      (λ a. subst (λ ts. HaveTags ts ((g k).write a)) (same k) ((part k).good.has a))
      (part k).good.spans;
  looks = λ ns ms a agree says. (part k).looks ns ms a (subst (λ ts. Agree ts ns ms) (sym (same k)) agree) says;
}

-- what is read goes by the key that is known, which is that of what is said
told_read : {A : Type 0} (fault : MessageFault) (key : A → ℕ) (known : Option ℕ) (tags : List ℕ) (g : ℕ → Format A)
    → ((k : ℕ) (ns : List Node) (a : A) → (g k).Says ns a → key a ≡ k) → ((k : ℕ) → IsPart (g k)) → (ns : List Node)
    → Reads (read_told fault g known ns) ((told_by fault key known tags g).Says ns)
told_read fault key None tags g own part ns = record {
  sound = λ a e. not_ok fault a e;
  complete = λ a says. not_some (key a) says.0;
}
told_read fault key (Some k) tags g own part ns = record {
  sound = λ a e.
      let says = (part k).good.sound ns a e in
      (ap Some (sym (own k ns a says)), subst (λ n. (g n).Says ns a) (sym (own k ns a says)) says);
  complete = λ a says. subst (λ n. (g n).read ns ≡ Ok a) (sym (same_some k (key a) says.0)) ((part (key a)).good.complete ns a says.1);
}

told_own : (own : ℕ) (known : Option ℕ) → option_map_or (λ k. k == own) known false ≡ true → known ≡ Some own
told_own own None is = absurd cc
told_own own (Some k) is = ap Some (eqb-true k own is)

pub told_by-part : {A : Type 0} (fault : MessageFault) (key : A → ℕ) (known : Option ℕ) (tags : List ℕ) (g : ℕ → Format A) → ((k : ℕ) → (g k).tags ≡ tags)
    → ((k : ℕ) (ns : List Node) (a : A) → (g k).Says ns a → key a ≡ k) → ((k : ℕ) → IsPart (g k)) → IsPart (told_by fault key known tags g)
told_by-part fault key known tags g same own part = record {
  good = good_by (told_by fault key known tags g)
      (λ ns. told_read fault key known tags g own part ns)
      (λ a fits.
      let each = and_parts (option_map_or (λ k. k == key a) known false) ((g (key a)).fits a) fits in
      (told_own (key a) known each.0, (part (key a)).good.written a each.1))
      (λ a. subst (λ ts. HaveTags ts ((g (key a)).write a)) (same (key a)) ((part (key a)).good.has a))
      (λ a. (part (key a)).good.spans a);
  looks = λ ns ms a agree says.
      (says.0, (part (key a)).looks ns ms a (subst (λ ts. Agree ts ns ms) (sym (same (key a))) agree) says.1);
}

-- ---- the whole

pub closed-good : {A : Type 0} (f : Format A) → IsGood f → IsGood (closed f)
closed-good f good = good_by (closed f)
    (λ ns. reads-as _ _ ((closed f).Says ns)
    (λ a q. (q.1, q.2))
    (λ a says. (tt, says.0, says.1))
    (reads-bind _ _ _ _ (reads-only f.tags ns) (λ u. reads f good ns)))
    (λ a fits. (good.has a, good.written a fits))
    good.has good.spans

pub choose-good : {A : Type 0} (b : Bool) (f g : Format A) → IsGood f → IsGood g → IsGood (choose b f g)
choose-good true f g good other = record {
  sound = good.sound;
  complete = good.complete;
  written = good.written;
  has = λ a. first_has f.tags g.tags (f.write a) (good.has a);
  spans = good.spans;
}
choose-good false f g good other = record {
  sound = other.sound;
  complete = other.complete;
  written = other.written;
  has = λ a. second_has f.tags g.tags (g.write a) (other.has a);
  spans = other.spans;
}

pub choose-part : {A : Type 0} (b : Bool) (f g : Format A) → IsPart f → IsPart g → IsPart (choose b f g)
choose-part true f g part other = record {
  good = choose-good true f g part.good other.good;
  looks = λ ns ms a agree says. part.looks ns ms a (agree_first f.tags g.tags ns ms agree) says;
}
choose-part false f g part other = record {
  good = choose-good false f g part.good other.good;
  looks = λ ns ms a agree says. other.looks ns ms a (agree_second f.tags g.tags ns ms agree) says;
}
