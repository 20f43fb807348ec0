-- Over a calm link each turn brings a client that is ready one exchange nearer to the end.
use Rattle.std.proofs.Common.{◌≡◌, ◌≢◌, ◌≤◌, ℕ, ◌+◌, List, [], ◌∷◌, length, Option, Some, Result, Ok, Err, sym, ap}
use Rattle.std.proofs.Common.{subst, refl, inl, inr, ◌∙◌, arith}
use Rattle.std.proofs.lemmas.List.Elements.{All-head, All-tail}
use Rattle.std.proofs.lemmas.Option.{slice_get_within}
use Rattle.std.specs.List.{All}
use Rattle.kmip_plan.specs.Chains.{bound}
use Rattle.kmip_plan.specs.Plans.{IsLawful}
use Rattle.kmip_plan.specs.declared.key.Key.{Key}
use Rattle.kmip_client.specs.Asking.{AreApart, after_ask}
use Rattle.kmip_client.specs.Clients.{AreSettled, ClientState, WorksAt}
use Rattle.kmip_client.specs.declared.knowledge.Knowledge.{Knowledge}
use Rattle.kmip_client.specs.declared.verdict.Verdict.TheVariants.{Working, Finished, Conflict}
use Rattle.kmip_client.specs.declared.question.Question.{Question}
use Rattle.kmip_protocol.specs.Calm.{CalmlyExchanged}
use Rattle.kmip_protocol.specs.Past.{Names, Past, is_planned}
use Rattle.kmip_protocol.specs.Seen.{Seen}
use Rattle.kmip_protocol.specs.declared.link_fault.LinkFault.{LinkFault}
use Rattle.kmip_protocol.specs.declared.link_fault.LinkFault.TheVariants.{Io, Frame, NoMemory}
use Rattle.kmip_protocol.specs.Needs.{need_all}
use Rattle.kmip_protocol.specs.Ready.{IsReady}
use Rattle.kmip_protocol.specs.Turns.{known_then, taught}
use Rattle.kmip_runs.specs.Driving.{AreFinished, AsksOne, IsBorneOut, IsSettling, Nearer, need}
use Rattle.kmip_runs.specs.Private.{IsToBePut}
use Rattle.kmip_runs.specs.PrivateLawbook.{Lawbook}
use Rattle.kmip_protocol.specs.Losses.{or_loss}
use Rattle.kmip_runs.specs.declared.stop.Stop.{Stop}
use Rattle.kmip_runs.specs.declared.stop.Stop.TheVariants as stops

answer_is : (x y : Option (List ℕ)) → Some x ≡ Some y → x ≡ y
answer_is x y is = cc

pub calmly : (names : Names) (old new : Past) (sent : List ℕ) (answered : Result (Option (List ℕ)) LinkFault)
    (answer : Option (List ℕ))
    → or_loss answered ≡ Some answer → CalmlyExchanged names old sent answered new
    → CalmlyExchanged names old sent (Ok answer) new
calmly names old new sent (Ok own) answer is done =
    subst (λ a. CalmlyExchanged names old sent (Ok a) new) (answer_is own answer is) done
calmly names old new sent (Err Io) answer is done = absurd done
calmly names old new sent (Err Frame) answer is done = absurd done
calmly names old new sent (Err NoMemory) answer is done = absurd cc

-- a message about a plan of one key has one question
one_alone : (places : List ℕ) (keys : List Key) (knowns : List Knowledge) → length keys ≡ 1
    → All (WorksAt keys knowns) places → AreApart places → length places ≤ 1
one_alone [] keys knowns alone works apart = omega arith
one_alone (place ∷ []) keys knowns alone works apart = omega arith
one_alone (place ∷ other ∷ places) keys knowns alone works apart =
    let first = All-head (WorksAt keys knowns) place (other ∷ places) works in
    let second = All-head (WorksAt keys knowns) other places
    (All-tail (WorksAt keys knowns) place (other ∷ places) works) in
    let here = slice_get_within keys place first.key first.key_is in
    let there = slice_get_within keys other second.key second.key_is in
    let same : other ≡ place = omega (arith, here, there, alone) in
    absurd (All-head (λ p. p ≢ place) other places apart.0 same)

asks_one : (c : ClientState) (question : Question) (put : IsToBePut c question) → AsksOne c → length put.places ≡ 1
asks_one c question put (inl one) = omega (arith, one, put.few, put.about.some)
asks_one c question put (inr alone) =
    let few = one_alone put.places c.keys c.knowns alone put.about.works put.about.apart in
    omega (arith, few, put.about.some)

pub nearer_none : (c : ClientState) (x : Seen) → IsSettling c x → Nearer c c x x 0
nearer_none c x settling = record { settling = settling; nearer = omega arith; exactly = λ one. omega arith }

pub nearer_then : (a b c : ClientState) (x y z : Seen) (m n : ℕ) → (AsksOne a → AsksOne b) → Nearer a b x y m
    → Nearer b c y z n
    → Nearer a c x z (m + n)
nearer_then a b c x y z m n still first second = record {
  settling = second.settling;
  nearer = omega (arith, first.nearer, second.nearer);
  exactly = λ one. omega (arith, first.exactly one, second.exactly (still one));
}

pub nearer_asked : (c next : ClientState) (x : Seen) → next ≡ after_ask c → IsSettling c x → Nearer c next x x 0
nearer_asked c next x is settling =
    subst (λ s. Nearer c s x x 0) (sym is)
    (record {
      settling = record { calm_for = settling.calm_for; ready = settling.ready };
      nearer = omega arith;
      exactly = λ one. omega arith;
    })

at_next : (c next : ClientState) (x y : Seen) (knowns : List Knowledge) (many : ℕ) → next.keys ≡ c.keys
    → next.knowns ≡ knowns → y.calm (is_planned c.keys)
    → IsReady y.past.room c.keys y.past.objects knowns → need_all c.keys knowns y.past.objects + many ≡ need c x.past
    → 1 ≤ many → (AsksOne c → many ≡ 1)
    → Nearer c next x y 1
at_next c next x y knowns many keys learnt calm_for ready sum some one =
    let left : need next y.past ≡ need_all c.keys knowns y.past.objects =
    ap (λ ks. need_all ks next.knowns y.past.objects) keys
    ∙ ap (λ known. need_all c.keys known y.past.objects) learnt in
    record {
      settling = record {
        calm_for = subst (λ ks. y.calm (is_planned ks)) (sym keys) calm_for;
        ready =
            subst (λ ks. IsReady y.past.room ks y.past.objects next.knowns) (sym keys)
            (subst (λ known. IsReady y.past.room c.keys y.past.objects known) (sym learnt) ready);
      };
      nearer = omega (arith, left, sum, some);
      exactly = λ is. omega (arith, left, sum, one is);
    }

pub nearer_one : Lawbook → (c next : ClientState) (x y : Seen) (sent : List ℕ)
    (answered : Result (Option (List ℕ)) LinkFault) (question : Question)
    (answer : Option (List ℕ)) → IsLawful c.keys → IsToBePut c question → sent ≡ question.bytes
    → ((names : Names) → x.calm names → y.calm names × CalmlyExchanged names x.past sent answered y.past)
    → or_loss answered ≡ Some answer
    → IsSettling c x → next.keys ≡ c.keys → next ≡ taught question answer c → Nearer c next x y 1
nearer_one l c next x y sent answered question answer lawful put bytes goes is settling keys learnt =
    let names = is_planned c.keys in
    let step = goes names settling.calm_for in
    let done =
    subst (λ b. CalmlyExchanged names x.past b (Ok answer) y.past) bytes
    (calmly names x.past y.past sent answered answer is step.1) in
    let near = l.settling.nearer c.keys names x.past y.past c.knowns put.places question answer lawful settling.ready
    put.about done in
    at_next c next x y (known_then c.keys question answer c.knowns) (length put.places) keys
    (ap (λ (s : ClientState). s.knowns) learnt) step.0 near.0 near.1
    put.about.some (asks_one c question put)

-- where no key is worked on nothing is needed
pub nearer_end : Lawbook → (c now next : ClientState) (x y z : Seen) (made : ℕ) → (AsksOne c → AsksOne now)
    → Nearer c now x y made → Nearer now next y z 0
    → AreSettled next.keys next.knowns
    → IsSettling next z × (made ≤ need c x.past) × (AsksOne c → made ≡ need c x.past)
    × AreFinished next.keys next.knowns
nearer_end l c now next x y z made still first second settled =
    let nothing = l.settling.needed next.keys z.past.objects next.knowns second.settling.ready.held settled in (
      second.settling,
      omega (arith, first.nearer),
      λ one. omega (arith, first.exactly one, second.exactly (still one), nothing),
      l.settling.needless next.keys z.past.objects next.knowns second.settling.ready.held nothing,
    )

-- nor after as many exchanges as all keys need
pub nearer_limit : Lawbook → (c now : ClientState) (x y : Seen) (limit : ℕ) → IsLawful c.keys → IsSettling c x
    → bound c.keys ≤ limit
    → Nearer c now x y limit → (limit ≡ need c x.past) × AreFinished now.keys now.knowns
nearer_limit l c now x y limit lawful settling enough near =
    let few = l.settling.bounded x.past.room c.keys x.past.objects c.knowns lawful settling.ready in
    let nothing : need now y.past ≡ 0 = omega (arith, near.nearer, few, enough) in (
      omega (arith, near.nearer, few, enough),
      l.settling.needless now.keys y.past.objects now.knowns
          near.settling.ready.held nothing,
    )

pub finished_stop : (keys : List Key) (knowns : List Knowledge) (stop : Stop) → AreFinished keys knowns
    → stop ≢ stops.NoMemory → IsBorneOut stop keys knowns → stop ≡ stops.AllFinished
finished_stop keys knowns stops.AllFinished finished memory stands = refl
finished_stop keys knowns stops.Limit finished memory stands =
    let both : Working ≡ Finished = sym stands.2 ∙ finished stands.0 stands.1 in
    absurd cc
finished_stop keys knowns stops.Conflict finished memory stands =
    let clash = stands.1 in
    let both : Conflict clash.1 ≡ Finished = sym clash.3 ∙ finished clash.0 clash.2 in
    absurd cc
finished_stop keys knowns stops.NoMemory finished memory stands = absurd (memory refl)
