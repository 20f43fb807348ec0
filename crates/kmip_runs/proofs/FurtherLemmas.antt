-- What is kept for a plan that prolongs the one that is carried out.
use Rattle.std.proofs.Common.{◌≡◌, ◌≤◌, ℕ, ◌+◌, List, [], length, Option, Some, Result, Ok, OnOk, sym, subst, arith}
use Rattle.std.proofs.lemmas.List.Elements.{All-weaker}
use Rattle.kmip_messages.specs.Items.{requests_in}
use Rattle.kmip_plan.specs.Plans.{IsLawful}
use Rattle.kmip_plan.specs.Prolonging.{Prolongs}
use Rattle.kmip_plan.specs.declared.key.Key.{Key}
use Rattle.kmip_client.specs.Asking.{IsAbout}
use Rattle.kmip_client.specs.Clients.{ClientState}
use Rattle.kmip_client.specs.Justified.{Justified, JustifiedMessage}
use Rattle.kmip_client.specs.Laws.{OnwardToItself, OnwardTwice}
use Rattle.kmip_client.specs.declared.question.Question.{Question}
use Rattle.kmip_protocol.specs.Calm.{CalmlyExchanged}
use Rattle.kmip_protocol.specs.Amid.{ExchangedAmid, PassedAmid}
use Rattle.kmip_protocol.specs.Past.{Names, Past, is_planned}
use Rattle.kmip_protocol.specs.Seen.{Seen}
use Rattle.kmip_protocol.specs.Sound.{HarmlessMessage, Sound}
use Rattle.kmip_protocol.specs.declared.link_fault.LinkFault.{LinkFault}
use Rattle.kmip_protocol.specs.Needs.{missing}
use Rattle.kmip_runs.specs.PrivateLawbook.{Lawbook}
use Rattle.kmip_runs.specs.Campaign.{CalmLink}
use Rattle.kmip_runs.specs.Headline.{GoodLink}
use Rattle.kmip_runs.specs.Driving.{IsGood, KeepsFurther, WentOn}
use Rattle.kmip_protocol.specs.Losses.{or_loss}
use Rattle.kmip_protocol.specs.AmidLaws.{NothingPasses, PassingJoins}
use Rattle.kmip_runs.proofs.GoodLemmas.{harmless_message}
use Rattle.kmip_runs.proofs.OnLemmas.{on_nowhere, on_then}
use Rattle.kmip_runs.proofs.SettleLemmas.{calmly}

-- where nothing is done
pub further_nowhere : OnwardToItself → NothingPasses → (keys : List Key) (link : Seen) (whole : Type 0)
    → KeepsFurther keys whole link link
further_nowhere itself nothing keys link whole = record {
  good = λ further lawful prolongs good. (good, on_nowhere itself nothing further link.past);
  calmly = λ is further lawful prolongs calmly. calmly;
}

-- one after the other
pub further_then : OnwardTwice → PassingJoins → (keys : List Key) (x y z : Seen) (first second : Type 0)
    → (second → first) → KeepsFurther keys first x y
    → KeepsFurther keys second y z → KeepsFurther keys second x z
further_then twice joins keys x y z first second also a b = record {
  good = λ further lawful prolongs good.
      let before = a.good further lawful prolongs good in
      let after = b.good further lawful prolongs before.0 in
      (after.0, on_then twice joins further x.past y.past z.past before.1 after.1);
  calmly = λ is further lawful prolongs calmly.
      b.calmly is further lawful prolongs (a.calmly (also is) further lawful prolongs calmly);
}

-- a link that is calm for the plan's names is honest among others of it
pub calm_good : (keys : List Key) (x : Seen) → CalmLink keys x → GoodLink keys x
calm_good keys x calmly = record {
  amid_for = x.honest_is_amid keys (x.calm_is_honest (is_planned keys) calmly.calm_for);
  sound = calmly.sound;
}

-- a question is asked
asked_further : Lawbook → (keys further : List Key) (x y : Seen) (sent : List ℕ)
    (answered : Result (Option (List ℕ)) LinkFault) → IsLawful further
    → Prolongs further keys → JustifiedMessage keys x.past.objects sent
    → ((keys : List Key) → x.amid keys → Sound keys x.past → HarmlessMessage keys x.past.objects sent
    → y.amid keys × ExchangedAmid keys x.past sent answered y.past)
    → GoodLink further x → GoodLink further y × WentOn further x.past y.past
asked_further l keys further x y sent answered lawful prolongs just goes good =
    let asked =
    harmless_message further x.past.objects sent
    (All-weaker (Justified keys x.past.objects) (Justified further x.past.objects)
    (λ request may. l.client.asked_of_prolonged x.past.objects further keys request lawful prolongs may)
    (requests_in sent) just) in
    let step = goes further good.amid_for good.sound asked in
    let kept = l.amid.exchanges further x.past y.past sent answered good.sound asked step.1 in (
      record { amid_for = step.0; sound = kept.0 },
      record {
        onward = kept.1;
        mirrored = λ image. l.amid.image_exchanged further x.past y.past sent answered good.sound image asked step.1;
        passed = l.amid.exchanges_pass further x.past y.past sent answered asked step.1;
      },
    )

-- and answered
pub further_asked : Lawbook → (c : ClientState) (x y : Seen) (sent : List ℕ)
    (answered : Result (Option (List ℕ)) LinkFault) (places : List ℕ) (question : Question)
    (whole : Type 0) → IsLawful c.keys → IsAbout c.keys c.knowns places question → sent ≡ question.bytes
    → ((keys : List Key) → x.amid keys → Sound keys x.past → HarmlessMessage keys x.past.objects sent
    → y.amid keys × ExchangedAmid keys x.past sent answered y.past)
    → ((names : Names) → x.calm names → y.calm names × CalmlyExchanged names x.past sent answered y.past)
    → (whole → (answer : Option (List ℕ)) × (or_loss answered ≡ Some answer))
    → JustifiedMessage c.keys x.past.objects sent → IsGood c x → KeepsFurther c.keys whole x y
further_asked l c x y sent answered places question whole lawful_keys about bytes goes goes_calmly answers just good =
    record {
      good = λ further lawful prolongs far. asked_further l c.keys further x y sent answered lawful prolongs just goes
          far;
      calmly = λ is further lawful prolongs far.
          let far_good : GoodLink further x = calm_good further x far in
          let after = (asked_further l c.keys further x y sent answered lawful prolongs just goes far_good).0 in
          let step = goes_calmly (is_planned further) far.calm_for in
          let own = goes_calmly (is_planned c.keys)
          ((x.fewer (is_planned further) (is_planned c.keys)
          (l.exchanges.names_of_prolonged further c.keys lawful prolongs)).1 far.calm_for) in
          let answer = answers is in
          let done =
          subst (λ b. CalmlyExchanged (is_planned c.keys) x.past b (Ok answer.0) y.past) bytes
          (calmly (is_planned c.keys) x.past y.past sent answered answer.0 answer.1 own.1) in
          let roomy = far.roomy in
          let less = l.settling.less further c.keys x.past.objects prolongs in
          let ready = l.settling.ready c.keys x.past c.knowns good.sound good.held (omega (arith, roomy, less)) in
          record {
            calm_for = step.0;
            sound = after.sound;
            roomy = l.settling.room further c.keys (is_planned c.keys) x.past y.past c.knowns places question answer.0
                lawful_keys lawful prolongs far.sound ready about done roomy;
          };
    }

-- a run is closed: something is delivered, and nothing over a calm link
pub further_closed : {E : Type 0} → Lawbook → (keys : List Key) (y z : Seen) (closed : Result (Unit {0}) E)
    → ((keys : List Key) → y.amid keys → Sound keys y.past → z.amid keys × PassedAmid keys y.past z.past)
    → ((names : Names) → y.calm names → z.calm names × OnOk closed (z.past ≡ y.past))
    → KeepsFurther keys (closed ≡ Ok tt) y z
further_closed l keys y z closed ended ended_calmly = record {
  good = λ further lawful prolongs good.
      let step = ended further good.amid_for good.sound in
      let kept = l.amid.passing further y.past z.past good.sound step.1 in (
        record { amid_for = step.0; sound = kept.0 },
        record {
          onward = kept.1;
          mirrored = λ image. l.amid.image_passing further y.past z.past good.sound image step.1;
          passed = l.amid.blind further [] [] y.past z.past step.1;
        },
      );
  calmly = λ is further lawful prolongs far.
      let step = ended_calmly (is_planned further) far.calm_for in
      let same : z.past ≡ y.past = subst (λ r. OnOk r (z.past ≡ y.past)) is step.1 in
      record {
        calm_for = step.0;
        sound = subst (λ p. Sound further p) (sym same) far.sound;
        roomy = subst (λ (p : Past). length p.objects + missing further p.objects ≤ p.room) (sym same) far.roomy;
      };
}
