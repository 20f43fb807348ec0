-- What is kept over several exchanges.
use Rattle.std.proofs.Common.{◌≡◌, ◌≢◌, ◌≤◌, ℕ, ◌+◌, List, length, ap, subst, sym, refl, inl, inr, ◌⊎◌, ◌∙◌, arith}
use Rattle.std.specs.Prelude.{⊤}
use Rattle.kmip_plan.specs.declared.key.Key.{Key}
use Rattle.kmip_client.specs.Clients.{AreSettled, ClientState}
use Rattle.kmip_client.specs.Known.{facts}
use Rattle.kmip_client.specs.declared.knowledge.Knowledge.{Knowledge}
use Rattle.kmip_protocol.specs.Past.{Names, Past, is_planned}
use Rattle.kmip_protocol.specs.Seen.{Seen}
use Rattle.kmip_runs.specs.Driving.{AsksOne, IsBorneOut, IsGood, IsSettling, IsUnheard, IsUnmade, Keeps, KeepsFurther}
use Rattle.kmip_runs.specs.Driving.{Learnt, LearntUntil, Nearer, SomeClash, TakesNothingBack, WentOn}
use Rattle.kmip_runs.specs.Private.{IsBrokenOff}
use Rattle.kmip_runs.specs.PrivateLawbook.{Lawbook}
use Rattle.kmip_runs.specs.Private.{exchanges_made}
use Rattle.kmip_runs.specs.declared.stop.Stop.{Stop}
use Rattle.kmip_runs.specs.declared.stop.Stop.TheVariants as stops
use Rattle.kmip_runs.specs.declared.turn_fault.TurnFault.{TurnFault}
use Rattle.kmip_runs.specs.declared.turn_fault.TurnFault.TheVariants.{Unmade, Unheard}
use Rattle.kmip_runs.proofs.FurtherLemmas.{further_nowhere, further_then}
use Rattle.kmip_runs.proofs.GoodLemmas.{keeps_itself, keeps_then, went_nowhere, went_then}
use Rattle.kmip_runs.proofs.SettleLemmas.{nearer_none, nearer_then}
use Rattle.kmip_runs.proofs.KnownLemmas.{grown_itself, grown_then, learnt_long, learnt_nothing, learnt_still}
use Rattle.kmip_runs.proofs.KnownLemmas.{learnt_then, stays_itself}

-- of the plan and the number of keys that stay
learnt_of : (keys own : List Key) (most many : ℕ) (old new : Past) (knowns nexts : List Knowledge) (n : ℕ)
    → own ≡ keys → many ≡ most
    → Learnt own many old new knowns nexts n → Learnt keys most old new knowns nexts n
learnt_of keys own most many old new knowns nexts n same batch learnt =
    subst (λ ks. Learnt ks most old new knowns nexts n) same
    (subst (λ b. Learnt own b old new knowns nexts n) batch learnt)

-- so does who asks one key at once
pub asks_one : (a b : ClientState) → Keeps a b → AsksOne a → AsksOne b
asks_one a b keeps (inl one) = inl (keeps.batch_stays ∙ one)
asks_one a b keeps (inr alone) = inr (ap length keeps.keys_stay ∙ alone)

breaks_off : (keys : List Key) (most : ℕ) (old new : Past) (heard : ℕ) (fault : TurnFault)
    → IsBrokenOff keys most old new fault
    → ((heard + exchanges_made fault ≡ heard) × IsUnmade keys most old new) ⊎
    ((heard + exchanges_made fault ≡ heard + 1) × IsUnheard keys most old new)
breaks_off keys most old new heard Unmade off = inl (omega arith, off)
breaks_off keys most old new heard Unheard off = inr (refl, off)

-- after so many exchanges
pub record Driven (first now : ClientState) (start link : Seen) (made : ℕ) : Type 0 where
  pub good : IsGood first start → IsGood now link
  pub onward : IsGood first start → WentOn first.keys start.past link.past
  pub learns : start.honest (is_planned first.keys)
      → link.honest (is_planned first.keys) × Learnt first.keys first.batch start.past link.past first.knowns
      now.knowns made
  pub takes_nothing_back : start.honest (is_planned first.keys) → TakesNothingBack first.keys start.past link.past
  pub keeps : Keeps first now
  pub near : IsSettling first start → Nearer first now start link made
  pub honest_still : (names : Names) → start.honest names → link.honest names
  pub further : IsGood first start → KeepsFurther first.keys ⊤ start link

pub driven_none : Lawbook → (c : ClientState) (link : Seen) → Driven c c link link 0
driven_none l c link = record {
  good = λ good. good;
  onward = λ good. went_nowhere l c.keys link.past;
  learns = λ holds. (holds, learnt_nothing c.keys c.batch link.past c.knowns);
  takes_nothing_back = λ holds. grown_itself link.past;
  keeps = keeps_itself c;
  near = nearer_none c link;
  honest_still = λ names holds. holds;
  further = λ good. further_nowhere l.client.itself l.amid.nothing c.keys link ⊤;
}

-- what is kept for a plan that prolongs the client's, by one more turn
pub further_last : Lawbook → (a b c : ClientState) (x y z : Seen) (m : ℕ) (whole : Type 0) → Driven a b x y m
    → (IsGood b y → KeepsFurther b.keys whole y z) → IsGood a x → KeepsFurther a.keys whole x z
further_last l a b c x y z m whole first last good =
    further_then l.client.twice l.amid.joins a.keys x y z ⊤ whole (λ is. tt) (first.further good)
    (subst (λ ks. KeepsFurther ks whole y z) first.keeps.keys_stay (last (first.good good)))

-- where the turns were broken off, nothing is said of a calm link
pub further_if : (keys : List Key) (x y : Seen) (whole other : Type 0) → (other → whole) → KeepsFurther keys whole x y
    → KeepsFurther keys other x y
further_if keys x y whole other to kept = record { good = kept.good; calmly = λ is. kept.calmly (to is) }

-- and one more turn, that asked or did not
pub driven_then : Lawbook → (a b c : ClientState) (x y z : Seen) (m n : ℕ) → Driven a b x y m → Driven b c y z n
    → Driven a c x z (m + n)
driven_then l a b c x y z m n first second = record {
  good = λ good. second.good (first.good good);
  onward = λ good. went_then l a.keys x.past y.past z.past (first.onward good)
      (subst (λ ks. WentOn ks y.past z.past) first.keeps.keys_stay (second.onward (first.good good)));
  learns = λ holds.
      let before = first.learns holds in
      let after = second.learns (subst (λ ks. y.honest (is_planned ks)) (sym first.keeps.keys_stay) before.0) in (
        subst (λ ks. z.honest (is_planned ks)) first.keeps.keys_stay after.0,
        learnt_then l.client.blind a.keys a.batch x.past y.past z.past a.knowns b.knowns c.knowns m n before.1
            (learnt_of a.keys b.keys a.batch b.batch y.past z.past b.knowns c.knowns n first.keeps.keys_stay
            first.keeps.batch_stays after.1),
      );
  takes_nothing_back = λ holds.
      grown_then x.past y.past z.past (first.takes_nothing_back holds)
      (subst (λ ks. TakesNothingBack ks y.past z.past) first.keeps.keys_stay
      (second.takes_nothing_back (subst (λ ks. y.honest (is_planned ks)) (sym first.keeps.keys_stay)
      (first.learns holds).0)));
  keeps = keeps_then a b c first.keeps second.keeps;
  near = λ settling.
      let before = first.near settling in
      nearer_then a b c x y z m n (asks_one a b first.keeps) before (second.near before.settling);
  honest_still = λ names holds. second.honest_still names (first.honest_still names holds);
  further = further_last l a b c x y z m ⊤ first second.further;
}

-- and a last turn that asked nothing
pub known_end : Lawbook → (a b c : ClientState) (x y z : Seen) (m : ℕ) → Driven a b x y m
    → (y.honest (is_planned b.keys) → z.honest (is_planned b.keys)
    × Learnt b.keys b.batch y.past z.past b.knowns c.knowns 0)
    → x.honest (is_planned a.keys) → z.honest (is_planned a.keys)
    × Learnt a.keys a.batch x.past z.past a.knowns c.knowns m
known_end l a b c x y z m first last holds =
    let before = first.learns holds in
    let after = last (subst (λ ks. y.honest (is_planned ks)) (sym first.keeps.keys_stay) before.0) in
    let none : m + 0 ≡ m = omega arith in (
      subst (λ ks. z.honest (is_planned ks)) first.keeps.keys_stay after.0,
      subst (λ n. Learnt a.keys a.batch x.past z.past a.knowns c.knowns n) none
          (learnt_then l.client.blind a.keys a.batch x.past y.past z.past a.knowns b.knowns c.knowns m 0 before.1
          (learnt_of a.keys b.keys a.batch b.batch y.past z.past b.knowns c.knowns 0 first.keeps.keys_stay
          first.keeps.batch_stays after.1)),
    )

-- and a last exchange in which memory ran out
pub broken_end : (a b c : ClientState) (x y z : Seen) (m : ℕ) (fault : TurnFault) → Driven a b x y m
    → (y.honest (is_planned b.keys) → (facts c.knowns ≡ facts b.knowns)
    × IsBrokenOff b.keys b.batch y.past z.past fault) → x.honest (is_planned a.keys)
    → LearntUntil a.keys a.batch x.past z.past a.knowns c.knowns (m + exchanges_made fault)
broken_end a b c x y z m fault first last holds =
    let before = first.learns holds in
    let off = last (subst (λ ks. y.honest (is_planned ks)) (sym first.keeps.keys_stay) before.0) in
    record {
      between = y.past;
      heard = m;
      learnt = learnt_still a.keys a.batch x.past y.past y.past a.knowns b.knowns c.knowns m before.1
          (stays_itself y.past) off.0;
      broken = breaks_off a.keys a.batch y.past z.past m fault
          (subst (λ ks. IsBrokenOff ks a.batch y.past z.past fault) first.keeps.keys_stay
          (subst (λ most. IsBrokenOff b.keys most y.past z.past fault) first.keeps.batch_stays off.1));
    }

-- so few exchanges were made
pub few_made : (a b : ClientState) (x y : Seen) (m limit : ℕ) → Driven a b x y m → m ≤ limit
    → x.honest (is_planned a.keys) → length y.past.sent ≤ length x.past.sent + limit
few_made a b x y m limit driven within holds =
    let long = learnt_long a.keys a.batch x.past y.past a.knowns b.knowns m (driven.learns holds).1 in
    omega (arith, long, within)

-- what is good is in no conflict
pub good_no_conflict : Lawbook → (c : ClientState) (link : Seen) (stop : Stop) → IsGood c link
    → IsBorneOut stop c.keys c.knowns → stop ≢ stops.Conflict
good_no_conflict l c link stop good stands = λ is. in_conflict (subst (λ s. IsBorneOut s c.keys c.knowns) is stands).1
  where
    in_conflict : {X : Type 0} → SomeClash c.keys c.knowns → X
    in_conflict clash = absurd (l.client.no_conflict link.past.objects c.keys c.knowns good.held clash.0 clash.1
        clash.3)

-- where each key is settled a run does not stop at its limit
pub settled_no_limit : Lawbook → (c : ClientState) (stop : Stop) → AreSettled c.keys c.knowns
    → IsBorneOut stop c.keys c.knowns → stop ≢ stops.Limit
settled_no_limit l c stop settled stands = λ is.
    let works = subst (λ s. IsBorneOut s c.keys c.knowns) is stands in
    l.client.settled c.keys c.knowns settled works.0 works.1 works.2
