-- Over a link that goes on losing each exchange of a plan is paid for, and enough of them finish every key.
use Rattle.std.proofs.Common.{◌≡◌, ◌≢◌, ℕ, Result, Ok, Err, IfOk, sym, ap, subst, refl, ◌∙◌, arith}
use Rattle.kmip_plan.specs.Plans.{IsLawful}
use Rattle.kmip_client.specs.Clients.{ClientState, SomeWorks}
use Rattle.kmip_client.specs.declared.verdict.Verdict.TheVariants.{Working, Finished}
use Rattle.kmip_protocol.specs.Clean.{Disturbances}
use Rattle.kmip_protocol.specs.Moves.{Delivered}
use Rattle.kmip_protocol.specs.Past.{Names, is_planned}
use Rattle.kmip_protocol.specs.Seen.{Seen}
use Rattle.kmip_protocol.specs.Needs.{need_all}
use Rattle.kmip_runs.specs.PrivateLawbook.{Lawbook}
use Rattle.kmip_runs.specs.Driving.{IsBorneOut, IsGood}
use Rattle.kmip_runs.specs.Losing.{ArePaid, IsEnough, cost, left_for}
use Rattle.kmip_runs.specs.declared.stop.Stop.{Stop}
use Rattle.kmip_runs.specs.declared.stop.Stop.TheVariants as stops
use Rattle.kmip_runs.specs.Saved.{IsInMemory, IsWhole}
use Rattle.kmip_runs.specs.declared.save_fault.SaveFault.{SaveFault}
use Rattle.kmip_runs.proofs.CarryEndingLemmas.{in_memory}
use Rattle.kmip_runs.proofs.WentLemmas.{stop_is}

-- memory did not run out where as many exchanges were made as may be
pub limit_in_memory : (result : Result Stop SaveFault) → result ≡ Ok stops.Limit → IsInMemory result
limit_in_memory result limit = λ is. let both = stop_is stops.Limit stops.NoMemory (sym limit ∙ is) in absurd cc

pub paid_none : (left : ℕ) (d : Disturbances) → ArePaid 0 left left d d
paid_none left d = omega arith

-- what arrives at the end of a run costs nothing
pub paid_closed : Lawbook → (b : ClientState) (y z : Seen) (made before : ℕ) (d : Disturbances) → IsLawful b.keys
    → IsGood b y → y.honest (is_planned b.keys)
    → ((names : Names) → y.honest names → z.honest names × Delivered names y.past z.past)
    → ((names : Names) → y.honest names → z.disturbances ≡ y.disturbances)
    → ArePaid made before (left_for b y.past) d y.disturbances
    → ArePaid made before (left_for b z.past) d z.disturbances
paid_closed l b y z made before d lawful good honest delivers same paid =
    let names = is_planned b.keys in
    let fewer = l.losing.late b.keys y.past z.past b.knowns lawful good.sound good.held (delivers names honest).1 in
    let even = ap cost (same names honest) in
    omega (arith, paid, fewer, even)

-- where as many exchanges were made as a plan may take, and as the disturbed ones cost, no key is worked on
spent : Lawbook → (a b : ClientState) (x y : Seen) (limit : ℕ) → {P : Type 0} → IsLawful a.keys → IsGood a x
    → IsGood b y
    → ArePaid limit (left_for a x.past) (left_for b y.past) x.disturbances y.disturbances
    → IsEnough a.keys limit x.disturbances y.disturbances
    → SomeWorks b.keys b.knowns → P
spent l a b x y limit lawful good still paid enough works =
    let most = l.losing.left_bounded a.keys x.past a.knowns lawful good.sound good.held in
    let needs = l.losing.needs_left b.keys y.past b.knowns in
    let nothing : need_all b.keys b.knowns y.past.objects ≡ 0 = omega (arith, paid, enough, most, needs) in
    let both : Working ≡ Finished = sym works.2
    ∙ l.settling.needless b.keys y.past.objects b.knowns still.held nothing works.0 works.1 in
    absurd cc

outlasted_stop : Lawbook → (a b : ClientState) (x y : Seen) (stop : Stop) (made limit : ℕ) → IsLawful a.keys
    → IsGood a x
    → IsGood b y → ArePaid made (left_for a x.past) (left_for b y.past) x.disturbances y.disturbances
    → stop ≢ stops.NoMemory
    → IsBorneOut stop b.keys b.knowns → (stop ≡ stops.Limit → made ≡ limit)
    → IsEnough a.keys limit x.disturbances y.disturbances → stop ≡ stops.AllFinished
outlasted_stop l a b x y stops.AllFinished made limit lawful good still paid memory stands at enough = refl
outlasted_stop l a b x y stops.Limit made limit lawful good still paid memory stands at enough =
    spent l a b x y limit lawful good still
    (subst (λ n. ArePaid n (left_for a x.past) (left_for b y.past) x.disturbances y.disturbances) (at refl) paid)
    enough stands
outlasted_stop l a b x y stops.Conflict made limit lawful good still paid memory stands at enough =
    let clash = stands.1 in
    absurd (l.client.no_conflict y.past.objects b.keys b.knowns still.held clash.0 clash.1 clash.3)
outlasted_stop l a b x y stops.NoMemory made limit lawful good still paid memory stands at enough = absurd (memory refl)

-- a run that may make enough exchanges finishes every key
pub outlasted : Lawbook → (a b : ClientState) (x y : Seen) (result : Result Stop SaveFault) (made limit : ℕ)
    → IsLawful a.keys → IsGood a x
    → IsGood b y → (IsInMemory result → ArePaid made (left_for a x.past) (left_for b y.past) x.disturbances
    y.disturbances)
    → IfOk result (λ stop. IsBorneOut stop b.keys b.knowns) → (result ≡ Ok stops.Limit → made ≡ limit) → IsWhole result
    → IsEnough a.keys limit x.disturbances y.disturbances → result ≡ Ok stops.AllFinished
outlasted l a b x y (Err fault) made limit lawful good still paid stands at whole enough = absurd whole
outlasted l a b x y (Ok stop) made limit lawful good still paid stands at whole enough =
    ap Ok
    (outlasted_stop l a b x y stop made limit lawful good still (paid (in_memory (Ok stop) whole)) whole stands
    (λ is. at (ap Ok is)) enough)
