-- The request was asked, things happened, the word was done, and its answer was handed over.
use Rattle.std.proofs.Common.{sym, ap, subst, ◌∙◌, inr, length, option_map}
use Rattle.std.proofs.lemmas.Result.{IfOk-from_err}
use Rattle.kmip_messages.specs.Items.{requests_in}
use Rattle.kmip_protocol.specs.Clean.{strange_handed}
use Rattle.kmip_protocol.specs.Moves.{Delivered}
use Rattle.kmip_protocol.specs.Past.{Names}
use Rattle.kmip_protocol.specs.Exchanges.{with_asked}
use Rattle.kmip_scripted.specs.Counting.{counted, every_name}
use Rattle.kmip_scripted.specs.Disturbing.{is_disturbed}
use Rattle.kmip_scripted.specs.Scenes.{disturbances_in, past_in}
use Rattle.kmip_scripted.proofs.CleanLemmas.{is_counted}
use Rattle.kmip_scripted.proofs.FollowLemmas.{handed, hands_over}
use Rattle.kmip_scripted.proofs.WordLemmas.{on_err}
use Rattle.kmip_scripted.proofs.scripted.Scripted.follow.Goals as goal

pub returns-in_err-answer-clause-want : goal.returns-in_err-answer-clause-want
returns-in_err-answer-clause-want g c = on_err c.from_residual-in_err-answer.result (λ (names : Names).
    inr (c.the_laws_of_exchanges_hold.ensures.join names (with_asked c.args.request.now (past_in c.args.self.now))
    (past_in c.prepare.new.self) (past_in c.take_and_play.new.self)
    (c.in_ok-prepare.ensures.joined names) (c.take_and_play.ensures.delivered names c.in_ok-prepare.ensures.asked)))

pub returns-in_err-hand_over-clause-want : goal.returns-in_err-hand_over-clause-want
returns-in_err-hand_over-clause-want g c = on_err c.from_residual-in_err-hand_over.result (λ (names : Names).
    inr (subst (λ s. Delivered names (with_asked c.args.request.now (past_in c.args.self.now)) (past_in s))
    (sym c.in_err-hand_over.ensures.err)
    (c.the_laws_of_exchanges_hold.ensures.join names (with_asked c.args.request.now (past_in c.args.self.now))
    (past_in c.prepare.new.self) (past_in c.take_and_play.new.self)
    (c.in_ok-prepare.ensures.joined names) (c.take_and_play.ensures.delivered names c.in_ok-prepare.ensures.asked))))

pub returns-in_err-counts-clause-want : goal.returns-in_err-counts-clause-want
returns-in_err-counts-clause-want g c = on_err c.from_residual-in_err-counts.result (λ (names : Names).
    inr (c.the_laws_of_exchanges_hold.ensures.join names (with_asked c.args.request.now (past_in c.args.self.now))
    (past_in c.prepare.new.self) (past_in c.take_and_play.new.self)
    (c.in_ok-prepare.ensures.joined names) (c.take_and_play.ensures.delivered names c.in_ok-prepare.ensures.asked)))

pub returns-clause-hands : goal.returns-clause-hands
returns-clause-hands g c = λ names.
    hands_over names c.args.request.now c.args.self.now c.prepare.new.self c.take_and_play.new.self
    c.hand_over.new.self c.count.new.self c.next_word-word.result
    (option_map (λ v. v.items) c.in_ok-answer.answer) c.in_ok-counts.counts
    (c.the_laws_of_exchanges_hold.ensures.join names (with_asked c.args.request.now (past_in c.args.self.now))
    (past_in c.prepare.new.self) (past_in c.take_and_play.new.self)
    (c.in_ok-prepare.ensures.joined names) (c.take_and_play.ensures.delivered names c.in_ok-prepare.ensures.asked))
    c.in_ok-answer.ensures.ok c.in_ok-answer.ensures.answer
    (c.in_ok-hand_over.ensures.ok ∙ ap (λ answer.
    handed c.args.request.now c.next_word-word.result answer c.take_and_play.new.self) c.bytes_of-handed.ensures)
    c.count.ensures

pub returns-clause-counted : goal.returns-clause-counted
returns-clause-counted g c = λ names.
    is_counted c.the_laws_of_exchanges_hold.ensures.nothing names c.args.request.now (record {
      before = c.args.self.now;
      prepared = c.prepare.new.self;
      played = c.take_and_play.new.self;
      handed = c.hand_over.new.self;
      after = c.count.new.self;
      word = c.next_word-word.result;
      repeated = c.is_repeated-repeated.result;
      answer = option_map (λ v. v.items) c.in_ok-answer.answer;
      counts = c.in_ok-counts.counts;
    }) (record {
      repeated_is = c.is_repeated-repeated.ensures;
      prepared_is = c.in_ok-prepare.ensures.ok;
      early = c.in_ok-prepare.ensures.early names;
      joins = c.in_ok-prepare.ensures.joins;
      word_is = c.next_word-word.ensures;
      taken = λ pass. c.in_ok-answer.ensures.taken pass c.in_ok-prepare.ensures.asked;
      played_is = c.in_ok-answer.ensures.ok;
      answer_is = c.in_ok-answer.ensures.answer;
      counts_are = c.in_ok-counts.ensures
          ∙ ap (counted (is_disturbed c.next_word-word.result c.is_repeated-repeated.result
          (option_map (λ m. m.now) c.bytes_of-handed.result)) (length (requests_in c.args.request.now))
          (strange_handed every_name c.args.request.now (option_map (λ m. m.now) c.bytes_of-handed.result)))
          c.disturbances-before.ensures
          ∙ ap (λ a. counted (is_disturbed c.next_word-word.result c.is_repeated-repeated.result a)
          (length (requests_in c.args.request.now)) (strange_handed every_name c.args.request.now a)
          (disturbances_in c.take_and_play.new.self)) c.bytes_of-handed.ensures;
      handed_is = c.in_ok-hand_over.ensures.ok
          ∙ ap (λ a. handed c.args.request.now c.next_word-word.result a c.take_and_play.new.self)
          c.bytes_of-handed.ensures;
      after_is = c.count.ensures;
    })

pub returns-in_err-prepare-clause-answer : goal.returns-in_err-prepare-clause-answer
returns-in_err-prepare-clause-answer g c = IfOk-from_err c.from_residual.result _ c.from_residual.ensures.0

pub returns-in_err-prepare-clause-exact : goal.returns-in_err-prepare-clause-exact
returns-in_err-prepare-clause-exact g c = IfOk-from_err c.from_residual.result _ c.from_residual.ensures.0

pub returns-in_err-prepare-clause-hands : goal.returns-in_err-prepare-clause-hands
returns-in_err-prepare-clause-hands g c = IfOk-from_err c.from_residual.result _ c.from_residual.ensures.0

pub returns-in_err-prepare-clause-calmly : goal.returns-in_err-prepare-clause-calmly
returns-in_err-prepare-clause-calmly g c = IfOk-from_err c.from_residual.result _ c.from_residual.ensures.0

pub returns-in_err-prepare-clause-counted : goal.returns-in_err-prepare-clause-counted
returns-in_err-prepare-clause-counted g c = IfOk-from_err c.from_residual.result _ c.from_residual.ensures.0

pub returns-in_err-answer-clause-answer : goal.returns-in_err-answer-clause-answer
returns-in_err-answer-clause-answer g c =
    IfOk-from_err c.from_residual-in_err-answer.result _ c.from_residual-in_err-answer.ensures.0

pub returns-in_err-answer-clause-exact : goal.returns-in_err-answer-clause-exact
returns-in_err-answer-clause-exact g c =
    IfOk-from_err c.from_residual-in_err-answer.result _ c.from_residual-in_err-answer.ensures.0

pub returns-in_err-answer-clause-hands : goal.returns-in_err-answer-clause-hands
returns-in_err-answer-clause-hands g c =
    IfOk-from_err c.from_residual-in_err-answer.result _ c.from_residual-in_err-answer.ensures.0

pub returns-in_err-answer-clause-calmly : goal.returns-in_err-answer-clause-calmly
returns-in_err-answer-clause-calmly g c =
    IfOk-from_err c.from_residual-in_err-answer.result _ c.from_residual-in_err-answer.ensures.0

pub returns-in_err-answer-clause-counted : goal.returns-in_err-answer-clause-counted
returns-in_err-answer-clause-counted g c =
    IfOk-from_err c.from_residual-in_err-answer.result _ c.from_residual-in_err-answer.ensures.0

pub returns-in_err-counts-clause-answer : goal.returns-in_err-counts-clause-answer
returns-in_err-counts-clause-answer g c =
    IfOk-from_err c.from_residual-in_err-counts.result _ c.from_residual-in_err-counts.ensures.0

pub returns-in_err-counts-clause-exact : goal.returns-in_err-counts-clause-exact
returns-in_err-counts-clause-exact g c =
    IfOk-from_err c.from_residual-in_err-counts.result _ c.from_residual-in_err-counts.ensures.0

pub returns-in_err-counts-clause-hands : goal.returns-in_err-counts-clause-hands
returns-in_err-counts-clause-hands g c =
    IfOk-from_err c.from_residual-in_err-counts.result _ c.from_residual-in_err-counts.ensures.0

pub returns-in_err-counts-clause-calmly : goal.returns-in_err-counts-clause-calmly
returns-in_err-counts-clause-calmly g c =
    IfOk-from_err c.from_residual-in_err-counts.result _ c.from_residual-in_err-counts.ensures.0

pub returns-in_err-counts-clause-counted : goal.returns-in_err-counts-clause-counted
returns-in_err-counts-clause-counted g c =
    IfOk-from_err c.from_residual-in_err-counts.result _ c.from_residual-in_err-counts.ensures.0

pub returns-in_err-hand_over-clause-answer : goal.returns-in_err-hand_over-clause-answer
returns-in_err-hand_over-clause-answer g c =
    IfOk-from_err c.from_residual-in_err-hand_over.result _ c.from_residual-in_err-hand_over.ensures.0

pub returns-in_err-hand_over-clause-exact : goal.returns-in_err-hand_over-clause-exact
returns-in_err-hand_over-clause-exact g c =
    IfOk-from_err c.from_residual-in_err-hand_over.result _ c.from_residual-in_err-hand_over.ensures.0

pub returns-in_err-hand_over-clause-hands : goal.returns-in_err-hand_over-clause-hands
returns-in_err-hand_over-clause-hands g c =
    IfOk-from_err c.from_residual-in_err-hand_over.result _ c.from_residual-in_err-hand_over.ensures.0

pub returns-in_err-hand_over-clause-calmly : goal.returns-in_err-hand_over-clause-calmly
returns-in_err-hand_over-clause-calmly g c =
    IfOk-from_err c.from_residual-in_err-hand_over.result _ c.from_residual-in_err-hand_over.ensures.0

pub returns-in_err-hand_over-clause-counted : goal.returns-in_err-hand_over-clause-counted
returns-in_err-hand_over-clause-counted g c =
    IfOk-from_err c.from_residual-in_err-hand_over.result _ c.from_residual-in_err-hand_over.ensures.0
