-- The parts of a message are about keys of the plan, and those that have no answer are looked at again, one after the other.
use Rattle.std.proofs.Common.{◌≡◌, ◌<◌, ◌+◌, ℕ, Bool, true, false, List, [], ◌∷◌, length, drop, filter, get_or, sym, ap, subst, refl, ◌∙◌}
use Rattle.std.proofs.lemmas.List.{drop_more}
use Rattle.std.proofs.lemmas.List.Elements.{All-cons, All-head, All-nil, All-tail}
use Rattle.std.proofs.lemmas.Option.{slice_get_within}
use Rattle.std.specs.List.{All, AllZip}
use Rattle.kmip_plan.specs.declared.key.Key.{Key}
use Rattle.kmip_client.specs.Asking.{at_places, part_about}
use Rattle.kmip_client.specs.Clients.{ClientState, WorksAt, changed_at, lost_at, lost_working}
use Rattle.kmip_client.specs.Held.{Held}
use Rattle.kmip_client.specs.Shapes.{IsKept}
use Rattle.kmip_client.specs.declared.part.Part.{Part}
use Rattle.kmip_client.specs.declared.question.Question.{Question}
use Rattle.kmip_client.specs.declared.knowledge.Knowledge.{Knowledge}
use Rattle.kmip_objects.specs.Objects.{Object}
use Rattle.kmip_protocol.specs.Turns.{lost_each}
use Rattle.kmip_runs.specs.Private.{AreParts, IsToBePut}
use Rattle.kmip_runs.specs.Driving.{Keeps}
use Rattle.kmip_runs.proofs.GoodLemmas.{keeps_itself, keeps_then}

parts_at : (keys : List Key) (knowns : List Knowledge) (places : List ℕ) → All (WorksAt keys knowns) places → AreParts keys (at_places part_about keys knowns places)
parts_at keys knowns [] works = All-nil (λ (part : Part). part.key < length keys)
parts_at keys knowns (place ∷ places) works =
    let first = All-head (WorksAt keys knowns) place places works in
    rw (first.key_is, first.known_is)
    (All-cons (λ (part : Part). part.key < length keys) (part_about place first.key first.known) (at_places part_about keys knowns places)
    (slice_get_within keys place first.key first.key_is) (parts_at keys knowns places (All-tail (WorksAt keys knowns) place places works)))

pub are_parts : (c : ClientState) (question : Question) → IsToBePut c question → AreParts c.keys question.parts
are_parts c question put = subst (AreParts c.keys) (sym put.about.parts_are) (parts_at c.keys c.knowns put.places put.about.works)

-- ---- the keys of some parts are looked at again

-- those of some first parts were: once those that are left are too, all are
pub record AreLost (first now : ClientState) (left all : List Part) : Type 0 where
  pub is : now ≡ record first { knowns = now.knowns }
  pub lost : lost_each first.keys left now.knowns ≡ lost_each first.keys all first.knowns
  pub keeps : Keeps first now
  pub held : (objects : List Object) → Held objects first.keys first.knowns → Held objects now.keys now.knowns

pub lost_none : (c : ClientState) (parts : List Part) → AreLost c c parts parts
lost_none c parts = record { is = refl; lost = refl; keeps = keeps_itself c; held = λ objects held. held }

-- and one more
pub lost_more : (first now next : ClientState) (part : Part) (left all : List Part) → AreLost first now (part ∷ left) all → next ≡ lost_at now part.key
    → AllZip IsKept now.knowns next.knowns → ((objects : List Object) → Held objects now.keys now.knowns → Held objects next.keys next.knowns) → AreLost first next left all
lost_more first now next part left all before is kept held =
    let keys : now.keys ≡ first.keys = ap (λ (s : ClientState). s.keys) before.is in
    let known = ap (λ (s : ClientState). s.knowns) is in
    let own : changed_at lost_working now.keys now.knowns part.key ≡ next.knowns = sym known in
    record {
      is =
          is ∙ ap (λ (s : ClientState). record s { knowns = changed_at lost_working now.keys now.knowns part.key }) before.is
          ∙ ap (λ ks. record first { knowns = ks }) own;
      lost =
          ap (λ ks. lost_each first.keys left ks) (known ∙ ap (λ ks. changed_at lost_working ks now.knowns part.key) keys)
          ∙ before.lost;
      keeps = keeps_then first now next before.keeps
          (record { keys_stay = ap (λ (s : ClientState). s.keys) is; batch_stays = ap (λ (s : ClientState). s.batch) is; kept = kept });
      held = λ objects holds. held objects (before.held objects holds);
    }

-- of a list from a place on the first member is the one at that place
pub opened : (parts : List Part) (at : ℕ) (d : Part) → at < length parts → drop at parts ≡ get_or parts at d ∷ drop (at + 1) parts
opened parts at d below = drop_more parts at d below

-- of those that fit, the first is that member, or it does not fit
pub fits_first : (fits : Part → Bool) (part : Part) (left : List Part) → fits part ≡ true → filter fits (part ∷ left) ≡ part ∷ filter fits left
fits_first fits part left is = rw is refl

pub fits_not : (fits : Part → Bool) (part : Part) (left : List Part) → fits part ≡ false → filter fits (part ∷ left) ≡ filter fits left
fits_not fits part left is = rw is refl
