-- Over a link that goes on losing each exchange is paid for: by one that is left no more, or by what a disturbed one
-- costs.
use Rattle.std.proofs.Common.{◌≡◌, ◌≤◌, ℕ, suc, ◌+◌, List, [], ◌∷◌, length, Option, Some, None, Result, Ok, Err, inl}
use Rattle.std.proofs.Common.{inr, sym, ap, subst, refl, ◌∙◌, arith}
use Rattle.std.proofs.lemmas.List.Elements.{All-head, All-tail}
use Rattle.std.specs.List.{All}
use Rattle.kmip_plan.specs.Chains.{bound}
use Rattle.kmip_plan.specs.Plans.{IsLawful}
use Rattle.kmip_client.specs.Asking.{requests_at}
use Rattle.kmip_client.specs.Clients.{AreSettled, ClientState, WorksAt}
use Rattle.kmip_plan.specs.declared.key.Key.{Key}
use Rattle.kmip_client.specs.declared.knowledge.Knowledge.{Knowledge}
use Rattle.kmip_client.specs.declared.question.Question.{Question}
use Rattle.kmip_protocol.specs.Clean.{AreNoFewer, Counted, Disturbances, IsCounted}
use Rattle.kmip_protocol.specs.Exchanges.{Exchanged, HandsOver}
use Rattle.kmip_protocol.specs.Past.{Names, Past, is_planned}
use Rattle.kmip_protocol.specs.Seen.{Seen}
use Rattle.kmip_protocol.specs.declared.link_fault.LinkFault.{LinkFault}
use Rattle.kmip_protocol.specs.declared.link_fault.LinkFault.TheVariants.{Io, Frame, NoMemory}
use Rattle.kmip_protocol.specs.Losing.{left_all}
use Rattle.kmip_protocol.specs.Needs.{need_all}
use Rattle.kmip_protocol.specs.Turns.{known_then, taught}
use Rattle.kmip_runs.specs.Driving.{AreFinished, IsGood}
use Rattle.kmip_runs.specs.Private.{IsToBePut}
use Rattle.kmip_runs.specs.PrivateLawbook.{Lawbook}
use Rattle.kmip_runs.specs.Losing.{ArePaid, cost, left_for}
use Rattle.kmip_protocol.specs.Losses.{or_loss}
use Rattle.kmip_runs.proofs.KnownLemmas.{handed_over}

answer_is : (x y : Option (List ℕ)) → Some x ≡ Some y → x ≡ y
answer_is x y is = cc

-- what was counted, where memory did not run out
counted : (names : Names) (old new : Past) (sent : List ℕ) (answered : Result (Option (List ℕ)) LinkFault)
    (answer : Option (List ℕ)) (d e : Disturbances)
    → or_loss answered ≡ Some answer → Counted names old sent answered new d e → IsCounted names old sent answer new d e
counted names old new sent (Ok own) answer d e is done =
    subst (λ a. IsCounted names old sent a new d e) (answer_is own answer is) done
counted names old new sent (Err Io) answer d e is done =
    subst (λ a. IsCounted names old sent a new d e) (answer_is None answer is) done
counted names old new sent (Err Frame) answer d e is done =
    subst (λ a. IsCounted names old sent a new d e) (answer_is None answer is) done
counted names old new sent (Err NoMemory) answer d e is done = absurd cc

-- a message has a request for each key that it asks about
as_many_asked : (keys : List Key) (knowns : List Knowledge) (places : List ℕ) → All (WorksAt keys knowns) places
    → length (requests_at keys knowns places) ≡ length places
as_many_asked keys knowns [] works = refl
as_many_asked keys knowns (place ∷ places) works =
    let first = All-head (WorksAt keys knowns) place places works in
    rw (first.key_is, first.known_is) (ap suc
    (as_many_asked keys knowns places (All-tail (WorksAt keys knowns) place places works)))

pub paid_none : (left : ℕ) (d : Disturbances) → ArePaid 0 left left d d
paid_none left d = omega arith

pub paid_then : (m n a b c : ℕ) (d e f : Disturbances) → ArePaid m a b d e → ArePaid n b c e f → ArePaid (m + n) a c d f
paid_then m n a b c d e f first second = omega (arith, first, second)

pub paid_one : Lawbook → (c next : ClientState) (x y : Seen) (sent : List ℕ)
    (answered : Result (Option (List ℕ)) LinkFault) (question : Question)
    (answer : Option (List ℕ)) → IsLawful c.keys → IsToBePut c question → sent ≡ question.bytes
    → ((names : Names) → x.honest names → y.honest names × Exchanged names x.past sent answered y.past)
    → ((names : Names) → x.honest names → Counted names x.past sent answered y.past x.disturbances y.disturbances)
    → or_loss answered ≡ Some answer
    → IsGood c x → x.honest (is_planned c.keys) → next.keys ≡ c.keys → next ≡ taught question answer c
    → ArePaid 1 (left_for c x.past) (left_for next y.past) x.disturbances y.disturbances
paid_one l c next x y sent answered question answer lawful put bytes goes counting is good honest keys learnt =
    subst (λ ks. ArePaid 1 (left_for c x.past) (left_all ks next.knowns y.past) x.disturbances y.disturbances)
    (sym keys)
    (subst (λ (s : ClientState). ArePaid 1 (left_for c x.past) (left_all c.keys s.knowns y.past) x.disturbances
    y.disturbances) (sym learnt)
    (paid (subst (λ b. IsCounted names x.past b answer y.past x.disturbances y.disturbances) bytes
    (counted names x.past y.past sent answered answer x.disturbances y.disturbances is (counting names honest)))))
  where
    names : Names
    names = is_planned c.keys

    hands : HandsOver names x.past question.bytes answer y.past
    hands = subst (λ b. HandsOver names x.past b answer y.past) bytes
        (handed_over names x.past y.past sent answered answer is (goes names honest).1)

    paid : IsCounted names x.past question.bytes answer y.past x.disturbances y.disturbances
        → ArePaid 1 (left_for c x.past) (left_all c.keys (known_then c.keys question answer c.knowns) y.past)
        x.disturbances y.disturbances
    paid (inl (clean, same)) =
        let nearer = l.losing.clean c.keys x.past y.past c.knowns put.places question answer lawful good.sound
        good.held put.about clean in
        let even = ap cost same in
        omega (arith, nearer, even, put.about.some)
    paid (inr (strange, enough, more)) =
        let costs = l.losing.disturbed c.keys x.past y.past c.knowns put.places question answer lawful good.sound
        good.held put.about hands in
        let many = ap length put.about.asks ∙ as_many_asked c.keys c.knowns put.places put.about.works in
        let all = ap cost more in
        omega (arith, costs, enough, many, all)

-- where no more may be left all keys are finished
pub paid_off : Lawbook → (c : ClientState) (x : Seen) → IsGood c x → left_for c x.past ≡ 0 → AreFinished c.keys c.knowns
paid_off l c x good none =
    let needs = l.losing.needs_left c.keys x.past c.knowns in
    let nothing : need_all c.keys c.knowns x.past.objects ≡ 0 = omega (arith, needs, none) in
    l.settling.needless c.keys x.past.objects c.knowns good.held nothing

-- so it is after as many exchanges as a plan may take, and what the disturbed ones cost
pub paid_limit : Lawbook → (c now : ClientState) (x y : Seen) (limit : ℕ) → IsLawful c.keys → IsGood c x → IsGood now y
    → ArePaid limit (left_for c x.past) (left_for now y.past) x.disturbances y.disturbances
    → bound c.keys + length c.keys + cost y.disturbances ≤ limit + cost x.disturbances → AreFinished now.keys now.knowns
paid_limit l c now x y limit lawful good still paid enough =
    let most = l.losing.left_bounded c.keys x.past c.knowns lawful good.sound good.held in
    let none : left_for now y.past ≡ 0 = omega (arith, paid, enough, most) in
    paid_off l now y still none

-- and where no key is worked on
pub paid_end : Lawbook → (c : ClientState) (x : Seen) → IsGood c x → AreSettled c.keys c.knowns
    → AreFinished c.keys c.knowns
paid_end l c x good settled =
    l.settling.needless c.keys x.past.objects c.knowns good.held
    (l.settling.needed c.keys x.past.objects c.knowns good.held settled)

-- ---- counts

counted_no_fewer : (names : Names) (old new : Past) (sent : List ℕ) (answer : Option (List ℕ)) (d e : Disturbances)
    → IsCounted names old sent answer new d e → AreNoFewer d e
counted_no_fewer names old new sent answer d e (inl clean) = (
  omega (arith, ap (λ (x : Disturbances). x.disturbed) clean.1),
  omega
      (arith, ap (λ (x : Disturbances). x.requests) clean.1),
  omega
      (arith, ap (λ (x : Disturbances). x.strange) clean.1),
)
counted_no_fewer names old new sent answer d e (inr more) = (
  omega (arith, ap (λ (x : Disturbances). x.disturbed) more.2),
  omega
      (arith, ap (λ (x : Disturbances). x.requests) more.2),
  omega
      (arith, ap (λ (x : Disturbances). x.strange) more.2),
)

-- no count falls in an exchange
pub no_fewer : (names : Names) (old new : Past) (sent : List ℕ) (answered : Result (Option (List ℕ)) LinkFault)
    (d e : Disturbances) → Counted names old sent answered new d e → AreNoFewer d e
no_fewer names old new sent (Ok answer) d e counted = counted_no_fewer names old new sent answer d e counted
no_fewer names old new sent (Err Io) d e counted = counted_no_fewer names old new sent None d e counted
no_fewer names old new sent (Err Frame) d e counted = counted_no_fewer names old new sent None d e counted
no_fewer names old new sent (Err NoMemory) d e counted = counted

-- nor in several
pub no_fewer_then : (d e f : Disturbances) → AreNoFewer d e → AreNoFewer e f → AreNoFewer d f
no_fewer_then d e f first second =
    (omega (arith, first.0, second.0), omega (arith, first.1, second.1), omega (arith, first.2, second.2))
