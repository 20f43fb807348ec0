-- Asked for good, handed over, and learnt.
use Rattle.std.proofs.Common.{◌≡◌, ◌∙◌, ◌++◌, None, append-nil, rules, option_map, subst, sym}
use Rattle.kmip_client.specs.Justified.{JustifiedMessage}
use Rattle.kmip_protocol.specs.Exchanges.{Exchanged, HandsOver, answer_in}
use Rattle.kmip_protocol.specs.Past.{is_planned}
use Rattle.kmip_protocol.specs.Losses.{or_loss}
use Rattle.kmip_protocol.specs.Turns.{lost_each}
use Rattle.kmip_runs.specs.Private.{AreParts, IsBrokenOff, messages_made}
use Rattle.kmip_runs.proofs.FurtherLemmas.{further_asked}
use Rattle.kmip_runs.proofs.GoodLemmas.{good_left, harmless_message, if_handed, left, told}
use Rattle.kmip_runs.proofs.KnownLemmas.{broken_asked, broken_handed, exchanged_grown, handed_asks, handed_over}
use Rattle.kmip_runs.proofs.KnownLemmas.{learnt_one, lost_facts, on_ok, question_of_plan}
use Rattle.kmip_runs.proofs.LosingLemmas.{no_fewer, paid_one}
use Rattle.kmip_runs.proofs.PutLemmas.{are_parts}
use Rattle.kmip_runs.proofs.SettleLemmas.{nearer_one}
use Rattle.kmip_runs.proofs.TurnLemmas.{answered_by, both_err, if_fault, some_mapped}
use Rattle.kmip_runs.proofs.driving.put.Goals as goal

pub lose_each-requires : goal.lose_each-requires
lose_each-requires g c =
    subst (AreParts c.args.client.now.keys) (sym c.as_slice-in_default.ensures)
    (are_parts c.args.client.now c.args.question.now c.requires)

pub learn-requires : goal.learn-requires
learn-requires g c = are_parts c.args.client.now c.args.question.now c.requires

-- the exchange was not made
pub returns-in_default : goal.returns-in_default
returns-in_default g c =
    let client = c.args.client.now in
    let next = c.lose_each.new.client in
    let old = g.L.Link.seen c.args.link.now in
    let new = g.L.Link.seen c.exchange-answered.new.self in
    let l = c.the_laws_below_hold.ensures in
    let lawful = c.a_client_has_a_lawful_plan.ensures in
    let names = is_planned client.keys in
    let answered = answer_in (λ v. v.items) c.exchange-answered.result in
    let none : or_loss answered ≡ None = search rules in
    let lost =
    subst (λ parts. next ≡ record client { knowns = lost_each client.keys parts client.knowns })
    c.as_slice-in_default.ensures c.lose_each.ensures.lost in
    let unmade = λ (honest : old.honest names).
    broken_asked names client old.past new.past c.args.question.now answered c.requires none
    (subst (λ bytes. Exchanged names old.past bytes answered new.past) c.as_slice-2.ensures
    (c.exchange-answered.ensures.honestly names honest).honest.1) in
    record {
      tries = record {
        keeps = c.lose_each.ensures.kept;
        nearer = search rules;
        paid = search rules;
        honest = λ names honest. (c.exchange-answered.ensures.honestly names honest).honest.0;
        counts = λ names honest. no_fewer names old.past new.past c.as_slice-2.result.now _ old.disturbances
            new.disturbances (c.exchange-answered.ensures.honestly names honest).disturbed;
        ended = search rules;
        followed = search rules;
      };
      well = λ good just.
          let may = subst (λ bytes. JustifiedMessage client.keys old.past.objects bytes) (sym c.as_slice-2.ensures)
          just in
          let stays =
          left l client old new c.as_slice-2.result.now _ lawful good may c.exchange-answered.ensures.amid in
          let left =
          good_left client next old new stays c.lose_each.ensures.kept.keys_stay
          (c.lose_each.ensures.held new.past.objects stays.held) in
          record {
            good = left.0;
            onward = left.1;
            further =
                further_asked l client old new c.as_slice-2.result.now _ c.requires.places c.args.question.now _
                lawful c.requires.about c.as_slice-2.ensures
                c.exchange-answered.ensures.amid (λ names calm. (c.exchange-answered.ensures.calmly names calm).calm)
                (λ is. absurd cc) may good;
          };
      honestly = λ honest. record {
        tries = record {
          stays_honest = (c.exchange-answered.ensures.honestly names honest).honest.0;
          learnt = tt;
          broken = (lost_facts l.client.losses_teach_nothing client next c.args.question.now lost, unmade honest);
          takes_nothing_back = exchanged_grown names old.past new.past c.as_slice-2.result.now _
              (question_of_plan l.plan.found client.keys client.knowns c.requires.places c.args.question.now
              c.as_slice-2.result.now lawful c.requires.about c.as_slice-2.ensures)
              (c.exchange-answered.ensures.honestly names honest).honest.1;
        };
        sent = (unmade honest).sent_stays ∙ sym (append-nil old.past.sent);
      };
      lost = lost;
      answered = tt;
    }

-- it was made, and learnt from or not
pub returns : goal.returns
returns g c =
    let client = c.args.client.now in
    let next = c.learn.new.client in
    let old = g.L.Link.seen c.args.link.now in
    let new = g.L.Link.seen c.exchange-answered.new.self in
    let l = c.the_laws_below_hold.ensures in
    let lawful = c.a_client_has_a_lawful_plan.ensures in
    let names = is_planned client.keys in
    let question = c.args.question.now in
    let hands = λ (honest : old.honest names).
    subst (λ bytes. HandsOver names old.past bytes (option_map (λ v. v.items) c.in-Ok.answer) new.past)
    c.as_slice-2.ensures
    (handed_over names old.past new.past c.as_slice-2.result.now _ _ (sym c.in-Ok.ensures)
    (c.exchange-answered.ensures.honestly names honest).honest.1) in
    record {
      tries = record {
        keeps = c.learn.ensures.kept;
        nearer = λ settling.
            on_ok c.learn.result
            (nearer_one l client next old new c.as_slice-2.result.now _ question _ lawful c.requires
            c.as_slice-2.ensures
            (λ names calm. (c.exchange-answered.ensures.calmly names calm).calm) (sym c.in-Ok.ensures) settling
            c.learn.ensures.kept.keys_stay)
            c.learn.ensures.taught;
        paid = λ good honest.
            on_ok c.learn.result
            (paid_one l client next old new c.as_slice-2.result.now _ question _ lawful c.requires c.as_slice-2.ensures
            (λ names honest. (c.exchange-answered.ensures.honestly names honest).honest)
            (λ names honest. (c.exchange-answered.ensures.honestly names honest).disturbed)
            (sym c.in-Ok.ensures) good honest c.learn.ensures.kept.keys_stay)
            c.learn.ensures.taught;
        honest = λ names honest. (c.exchange-answered.ensures.honestly names honest).honest.0;
        counts = λ names honest. no_fewer names old.past new.past c.as_slice-2.result.now _ old.disturbances
            new.disturbances (c.exchange-answered.ensures.honestly names honest).disturbed;
        ended = search rules;
        followed = search rules;
      };
      well = λ good just.
          let may = subst (λ bytes. JustifiedMessage client.keys old.past.objects bytes) (sym c.as_slice-2.ensures)
          just in
          let stays =
          left l client old new c.as_slice-2.result.now _ lawful good may c.exchange-answered.ensures.amid in
          let so =
          told l client.keys old.past new.past c.as_slice-2.result.now _ _ stays.sound (sym c.in-Ok.ensures)
          (c.exchange-answered.ensures.amid client.keys good.amid_for good.sound
          (harmless_message client.keys old.past.objects _ may)).1 in
          let left =
          good_left client next old new stays c.learn.ensures.kept.keys_stay
          (c.learn.ensures.held new.past.objects stays.held (if_handed _ c.in-Ok.answer (λ v. v.items) so)) in
          record {
            good = left.0;
            onward = left.1;
            further =
                further_asked l client old new c.as_slice-2.result.now _ c.requires.places question _ lawful
                c.requires.about c.as_slice-2.ensures
                c.exchange-answered.ensures.amid (λ names calm. (c.exchange-answered.ensures.calmly names calm).calm)
                (λ is. (_, sym c.in-Ok.ensures)) may good;
          };
      honestly = λ honest. record {
        tries = record {
          stays_honest = (c.exchange-answered.ensures.honestly names honest).honest.0;
          learnt =
              on_ok c.learn.result (learnt_one l.client.losses_teach_nothing names client next old.past new.past
              question _ c.requires (hands honest)) c.learn.ensures.taught;
          broken =
              both_err _ _ c.learn.result c.learn.ensures.lost c.learn.ensures.unheard
              (λ fault lost unheard. (
                lost_facts l.client.losses_teach_nothing client next question lost,
                subst (λ f. IsBrokenOff client.keys client.batch old.past new.past f) (sym unheard.0)
                    (broken_handed names client old.past new.past question _ c.requires
                    (some_mapped c.in-Ok.answer (λ v. v.items) unheard.1) (hands honest)),
              ));
          takes_nothing_back = exchanged_grown names old.past new.past c.as_slice-2.result.now _
              (question_of_plan l.plan.found client.keys client.knowns c.requires.places c.args.question.now
              c.as_slice-2.result.now lawful c.requires.about c.as_slice-2.ensures)
              (c.exchange-answered.ensures.honestly names honest).honest.1;
        };
        sent =
            if_fault _ _ c.learn.result
            (λ fault unheard.
            subst (λ f. new.past.sent ≡ old.past.sent ++ messages_made f question.bytes) (sym unheard.0)
            (handed_asks names old.past new.past question.bytes _ (hands honest)).0)
            c.learn.ensures.unheard;
      };
      lost = c.learn.ensures.lost;
      answered = on_ok c.learn.result (answered_by (old.honest names) client next old.past new.past question _ hands)
          c.learn.ensures.taught;
    }
