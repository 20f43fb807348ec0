-- Asking changes whose turn it is, and nothing else.
use Rattle.std.proofs.Common.{arith, ◌≡◌, ◌∙◌, List, Option, Some, option_map, length, Result, Ok, Err, IfOk, IsErr, ap}
use Rattle.std.proofs.Common.{inl, refl, rules, subst, sym}
use Rattle.std.proofs.lemmas.Result.{err_from_is_err_and}
use Rattle.std.specs.Prelude.{⊤, IfSome, IsOk}
use Rattle.kmip_client.specs.Asking.{IsAbout, next_places}
use Rattle.kmip_client.specs.Clients.{AreSettled, ClientState}
use Rattle.kmip_client.specs.Known.{facts}
use Rattle.kmip_client.specs.declared.part.Part.{Part}
use Rattle.kmip_client.specs.declared.question.Question.{Question}
use Rattle.kmip_protocol.specs.Past.{is_planned}
use Rattle.kmip_runs.specs.Private.{IsAnswered, IsBrokenOff, IsToBePut}
use Rattle.kmip_runs.specs.Driving.{IsGood, Keeps, KeepsFurther, Learnt, TakesNothingBack, WentOn}
use Rattle.kmip_runs.specs.Losing.{ArePaid, left_for}
use Rattle.kmip_runs.proofs.DriveLemmas.{asks_one, further_if}
use Rattle.kmip_runs.proofs.FurtherLemmas.{further_nowhere}
use Rattle.kmip_runs.proofs.GoodLemmas.{good_asked, keeps_asked, keeps_itself, keeps_then, went_nowhere}
use Rattle.kmip_runs.proofs.KnownLemmas.{broken_nowhere, grown_itself, learnt_nothing}
use Rattle.kmip_runs.proofs.LosingLemmas.{paid_none}
use Rattle.kmip_runs.proofs.RememberLemmas.{no_both}
use Rattle.kmip_runs.proofs.SettleLemmas.{nearer_asked, nearer_then}
use Rattle.kmip_runs.proofs.TurnLemmas.{asked_nothing, given_up}
use Rattle.kmip_runs.proofs.driving.turn.Goals as goal

-- of a fault nothing is said that holds of a value
if_err : {V E : Type 0} (P : V → Type 0) (r : Result V E) → IsErr r → IfOk r P
if_err P (Ok v) is = absurd cc
if_err P (Err fault) is = tt

-- the question that there is is about the keys that have the turn
asked_about : (c : ClientState) (found : Option Question) (question : Question) → found ≡ Some question
    → IfSome found (λ q. IsAbout c.keys c.knowns (next_places c) q) → IsAbout c.keys c.knowns (next_places c) question
asked_about c found question is about = subst (λ o. IfSome o (λ q. IsAbout c.keys c.knowns (next_places c) q)) is about

pub put-requires : goal.put-requires
put-requires g c =
    subst (λ s. IsToBePut s c.in-Some.question) (sym c.in_ok-question.ensures.turn) (record {
      places = next_places c.args.client.now;
      about = asked_about c.args.client.now _ c.in-Some.question c.in-Some.is c.in_ok-question.ensures.about;
      few = c.ask.ensures.few;
    })

-- there was no memory to ask
pub returns-in_err-question : goal.returns-in_err-question
returns-in_err-question g c =
    let client = c.args.client.now in
    let link = g.L.Link.seen c.args.link.now in
    let same = c.in_err-question.ensures.same in
    let result = c.from_residual.result in
    let failed = c.from_residual.ensures.0 in
    let fault = err_from_is_err_and result c.from_residual.ensures.1 in
    record {
      tries = record {
        keeps = subst (λ s. Keeps client s) (sym same) (keeps_itself client);
        nearer = λ settling. if_err _ result failed;
        paid = λ good honest. if_err _ result failed;
        honest = λ names honest. honest;
        counts = λ names honest. (omega arith, omega arith, omega arith);
        ended = λ names honest. refl;
        followed = search rules;
      };
      well = λ good. record {
        good = subst (λ s. IsGood s link) (sym same) good;
        onward = went_nowhere c.the_laws_below_hold.ensures client.keys link.past;
        further = further_nowhere c.the_laws_below_hold.ensures.client.itself
            c.the_laws_below_hold.ensures.amid.nothing client.keys link _;
      };
      honestly = λ honest. record {
        stays_honest = honest;
        learnt = if_err _ result failed;
        broken = rw (fault.1, fault.2) (
          ap (λ (s : ClientState). facts s.knowns) same,
          broken_nowhere client.keys
              client.batch link.past,
        );
        takes_nothing_back = grown_itself link.past;
      };
      gives_up = rw (fault.1, fault.2) (inl same, λ honest. refl);
      asked = if_err _ result failed;
      turned = if_err _ result failed;
      settled = if_err _ result failed;
    }

-- there was nothing to ask
pub returns-in_default : goal.returns-in_default
returns-in_default g c =
    let client = c.args.client.now in
    let link = g.L.Link.seen c.args.link.now in
    let turn = c.in_ok-question.ensures.turn in
    let left = left_for client link.past in
    let lost = link.disturbances in
    record {
      tries = record {
        keeps = keeps_asked client c.ask.new.self turn;
        nearer = nearer_asked client c.ask.new.self link turn;
        paid = λ good honest. subst (λ s. ArePaid 0 left (left_for s link.past) lost lost) (sym turn)
            (paid_none left lost);
        honest = λ names honest. honest;
        counts = λ names honest. (omega arith, omega arith, omega arith);
        ended = λ names honest. refl;
        followed = g.met.L.Link.itself c.args.link.now;
      };
      well = λ good. record {
        good = subst (λ s. IsGood s link) (sym turn)
            (record { amid_for = good.amid_for; sound = good.sound; held = good.held });
        onward = went_nowhere c.the_laws_below_hold.ensures client.keys link.past;
        further = further_nowhere c.the_laws_below_hold.ensures.client.itself
            c.the_laws_below_hold.ensures.amid.nothing client.keys link _;
      };
      honestly = λ honest. record {
        stays_honest = honest;
        learnt =
            subst (λ (s : ClientState). Learnt client.keys client.batch link.past link.past client.knowns s.knowns 0)
            (sym turn)
            (learnt_nothing client.keys client.batch link.past client.knowns);
        broken = tt;
        takes_nothing_back = grown_itself link.past;
      };
      gives_up = tt;
      asked = ap (option_map (λ (question : Question). length question.parts))
          (sym c.in_default.is ∙ c.in_ok-question.ensures.question);
      turned = record {
        next_is = asked_nothing client c.ask.new.self turn (sym c.in_ok-question.ensures.question ∙ c.in_default.is);
        past_stays = λ honest. refl;
      };
      settled = λ is. subst (λ (s : ClientState). AreSettled s.keys s.knowns) (sym turn)
          (c.in_ok-question.ensures.none c.in_default.is);
    }

-- memory ran out in the exchange
pub returns-in_err-put : goal.returns-in_err-put
returns-in_err-put g c =
    let client = c.args.client.now in
    let asked = c.ask.new.self in
    let next = c.put.new.client in
    let link = g.L.Link.seen c.args.link.now in
    let new = g.L.Link.seen c.put.new.link in
    let turn = c.in_ok-question.ensures.turn in
    let result = c.from_residual-in_err-put.result in
    let failed = c.from_residual-in_err-put.ensures.0 in
    let fault = err_from_is_err_and result c.from_residual-in_err-put.ensures.1 in
    let still = λ (honest : link.honest (is_planned client.keys)).
    subst (λ (s : ClientState). link.honest (is_planned s.keys)) (sym turn) honest in
    record {
      tries = record {
        keeps = keeps_then client asked next (keeps_asked client asked turn) c.put.ensures.tries.keeps;
        nearer = λ settling. if_err _ result failed;
        paid = λ good honest. if_err _ result failed;
        honest = c.put.ensures.tries.honest;
        counts = c.put.ensures.tries.counts;
        ended = c.put.ensures.tries.ended;
        followed = search rules;
      };
      well = λ good.
          let may = good_asked client asked link _ c.in-Some.question turn c.in-Some.is
          c.in_ok-question.ensures.justified good in
          let well = c.put.ensures.well may.0 may.1 in
          record {
            good = well.good;
            onward = subst (λ (s : ClientState). WentOn s.keys link.past new.past) turn well.onward;
            further =
                subst (λ (s : ClientState). KeepsFurther s.keys (IsOk result) link new) turn
                (further_if asked.keys link new _ _ (λ is. no_both result failed is) well.further);
          };
      honestly = λ honest.
          let put = (c.in_err-put.ensures.honestly (still honest)).tries in
          record {
            stays_honest = c.put.ensures.tries.honest _ honest;
            learnt = if_err _ result failed;
            broken =
                rw (fault.1, fault.2)
                (subst
                (λ (s : ClientState). (facts next.knowns ≡ facts s.knowns)
                × IsBrokenOff s.keys s.batch link.past new.past c.in_err-put.field-0.0)
                turn put.broken);
            takes_nothing_back = subst (λ (s : ClientState). TakesNothingBack s.keys link.past new.past) turn
                put.takes_nothing_back;
          };
      gives_up =
          rw (fault.1, fault.2)
          (given_up _ _ client asked next link.past new.past c.in-Some.question c.in_err-put.field-0.0 still turn
          (sym c.in_ok-question.ensures.question ∙ c.in-Some.is)
          (asked_about client _ c.in-Some.question c.in-Some.is c.in_ok-question.ensures.about)
          c.in_err-put.ensures.lost (λ honest. (c.in_err-put.ensures.honestly honest).sent));
      asked = if_err _ result failed;
      turned = if_err _ result failed;
      settled = if_err _ result failed;
    }

-- the question may be asked, and so much is kept by its exchange
pub returns : goal.returns
returns g c =
    let client = c.args.client.now in
    let asked = c.ask.new.self in
    let next = c.put.new.client in
    let link = g.L.Link.seen c.args.link.now in
    let new = g.L.Link.seen c.put.new.link in
    let turn = c.in_ok-question.ensures.turn in
    let put = c.in_ok-put.ensures in
    let may = good_asked client asked link _ c.in-Some.question turn c.in-Some.is c.in_ok-question.ensures.justified in
    record {
      tries = record {
        keeps = keeps_then client asked next (keeps_asked client asked turn) put.tries.keeps;
        nearer = λ settling.
            let first = nearer_asked client asked link turn settling in
            nearer_then client asked next link link new 0 1 (asks_one client asked (keeps_asked client asked turn))
            first (put.tries.nearer first.settling);
        paid = λ good honest.
            subst (λ s. ArePaid 1 (left_for s link.past) (left_for next new.past) link.disturbances new.disturbances)
            turn
            (put.tries.paid (may good).0 (subst (λ (s : ClientState). link.honest (is_planned s.keys)) (sym turn)
            honest));
        honest = put.tries.honest;
        counts = put.tries.counts;
        ended = put.tries.ended;
        followed = put.tries.followed;
      };
      well = λ good.
          let well = put.well (may good).0 (may good).1 in
          record {
            good = well.good;
            onward = subst (λ (s : ClientState). WentOn s.keys link.past new.past) turn well.onward;
            further =
                further_if client.keys link new _ _ (λ is. tt)
                (subst (λ (s : ClientState). KeepsFurther s.keys ⊤ link new) turn
                (further_if asked.keys link new _ ⊤ (λ is. search rules) well.further));
          };
      honestly = λ honest.
          let learns = (put.honestly (subst (λ (s : ClientState). link.honest (is_planned s.keys)) (sym turn)
          honest)).tries in
          record {
            stays_honest = put.tries.honest _ honest;
            learnt = subst (λ (s : ClientState). Learnt s.keys s.batch link.past new.past s.knowns next.knowns 1) turn
                learns.learnt;
            broken = tt;
            takes_nothing_back = subst (λ (s : ClientState). TakesNothingBack s.keys link.past new.past) turn
                learns.takes_nothing_back;
          };
      gives_up = tt;
      asked =
          ap (λ (parts : List Part). Some (length parts)) c.as_slice.ensures
          ∙ ap (option_map (λ (question : Question). length question.parts))
          (sym c.in-Some.is ∙ c.in_ok-question.ensures.question);
      turned = record {
        question = c.in-Some.question;
        question_is = sym c.in_ok-question.ensures.question ∙ c.in-Some.is;
        about = asked_about client _ c.in-Some.question c.in-Some.is c.in_ok-question.ensures.about;
        answered =
            subst (λ (s : ClientState). IsAnswered (link.honest (is_planned s.keys)) c.in-Some.question s next
            link.past new.past) turn put.answered;
      };
      settled = λ is. absurd cc;
    }
