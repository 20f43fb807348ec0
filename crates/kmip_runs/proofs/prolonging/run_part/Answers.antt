-- There was room for what was noted; and it is noted behind what was there.
use Rattle.std.proofs.Common.{◌≡◌, ◌++◌, ◌∙◌, None, ap, inl, inr, refl, rules, arith}
use Rattle.kmip_runs.specs.Campaign.{IsEnd}
use Rattle.kmip_runs.specs.Remembering.{notes_of}
use Rattle.kmip_runs.proofs.EndingLemmas.{join_none, join_part}
use Rattle.kmip_runs.proofs.KnownLemmas.{on_err}
use Rattle.kmip_runs.proofs.PlanLemmas.{few_ends, few_saved, if_ok_more, read_for, some_not}
use Rattle.kmip_runs.proofs.RememberLemmas.{always_ok}
use Rattle.kmip_runs.proofs.prolonging.run_part.Goals as goal

pub returns-in_err-reserve : goal.returns-in_err-reserve
returns-in_err-reserve g c = record {
  ran = search rules;
  broken = search rules;
  ended = λ honest. join_none c.args.end.now.runs.items _ _ _ _ _ _ (search rules) refl (λ is. refl);
  followed = search rules;
}

pub returns-in_err-reserve-2 : goal.returns-in_err-reserve-2
returns-in_err-reserve-2 g c = record {
  ran = search rules;
  broken = search rules;
  ended = λ honest. join_none c.args.end.now.runs.items _ _ _ _ _ _ (search rules) refl (λ is. refl);
  followed = search rules;
}

pub returns-in_err-append : goal.returns-in_err-append
returns-in_err-append g c =
    let part = c.run_all-part.result in
    let few = few_ends (IsEnd c.args.plan.now) c.args.runs.now part.runs.items c.run_all-part.ensures.all.order in
    absurd (omega (arith, few, part.runs.ok.0, c.in_err-append.ensures.full, c.in_ok-reserve.ensures.ok))

pub returns-in_err-append-2 : goal.returns-in_err-append-2
returns-in_err-append-2 g c =
    let part = c.run_all-part.result in
    let all = c.run_all-part.ensures.all in
    let few = few_ends (IsEnd c.args.plan.now) c.args.runs.now part.runs.items all.order in
    let saves = few_saved c.args.plan.now c.args.carried.now c.args.runs.now (notes_of part) _ _ _ _ all.known few in
    absurd (omega (arith, saves, part.saved.ok.0, c.in_err-append-2.ensures.full, c.in_ok-reserve-2.ensures.ok))

-- memory ran out in a run
pub returns-then-is_some : goal.returns-then-is_some
returns-then-is_some g c =
    let end = c.args.end.now in
    let part = c.run_all-part.result in
    let made = c.run_all-part.ensures in
    let runs_are = c.in_ok-append.ensures.items ∙ ap (λ ends. ends ++ part.runs.items) c.in_ok-reserve.ensures.items in
    let saved_are = c.in_ok-append-2.ensures.items ∙ ap (λ saved. saved ++ part.saved.items) c.in_ok-reserve-2.ensures.items in
    record {
      ran = search rules;
      broken =
          inr (record {
            ran = record { part = part; all = made.all; runs_are = runs_are; saved_are = saved_are; turned = made.turned };
            why = inl (made.all.fewer (some_not part.fault (search rules)));
          });
      ended = λ honest. join_part end.runs.items part.runs.items _ _ _ _ _ _ _ runs_are (λ is. absurd cc) (made.ended honest);
      followed = search rules;
    }

pub returns : goal.returns
returns g c =
    let end = c.args.end.now in
    let part = c.run_all-part.result in
    let made = c.run_all-part.ensures in
    let whole : part.fault ≡ None = search rules in
    let runs_are = c.in_ok-append.ensures.items ∙ ap (λ ends. ends ++ part.runs.items) c.in_ok-reserve.ensures.items in
    let saved_are = c.in_ok-append-2.ensures.items ∙ ap (λ saved. saved ++ part.saved.items) c.in_ok-reserve-2.ensures.items in
    record {
      ran =
          if_ok_more _ _ c.carry_over-read.result
          (λ read is. record {
            ran = record { part = part; all = made.all; runs_are = runs_are; saved_are = saved_are; turned = made.turned };
            whole = whole;
            read_is = read_for _ c.args.carried.now part.saved.items c.as_slice.result.now read.items c.as_slice.ensures.value is;
          })
          c.carry_over-read.ensures.read;
      broken =
          on_err c.carry_over-read.result
          (λ needed. inr (record {
            ran = record { part = part; all = made.all; runs_are = runs_are; saved_are = saved_are; turned = made.turned };
            why = inr needed;
          }))
          c.carry_over-read.ensures.needed;
      ended = λ honest. join_part end.runs.items part.runs.items _ _ _ _ _ _ _ runs_are (λ is. whole) (made.ended honest);
      followed = always_ok c.carry_over-read.result (made.followed whole);
    }
