-- The request was asked, and then things happened.
use Rattle.std.proofs.Common.{true, refl, inr}
use Rattle.kmip_protocol.specs.Past.{Names}
use Rattle.kmip_scripted.specs.Scenes.{past_in}
use Rattle.kmip_scripted.proofs.CleanLemmas.{prepared_early, request_joins}
use Rattle.kmip_scripted.proofs.FollowLemmas.{joined_past, still_asked}
use Rattle.kmip_scripted.proofs.WordLemmas.{on_err}
use Rattle.kmip_scripted.proofs.scripted.Scripted.prepare.Goals as goal

pub returns-in_err-do_words-clause-want : goal.returns-in_err-do_words-clause-want
returns-in_err-do_words-clause-want g c = on_err c.from_residual-in_err-do_words.result (λ (names : Names).
    inr (joined_past names c.args.request.now c.args.self.now c.ask.new.self c.do_words.new.self
    c.in_ok-ask.ensures.ok (c.do_words.ensures.words.delivered names)))

pub returns-clause-asked : goal.returns-clause-asked
returns-clause-asked g c =
    still_asked c.args.request.now c.args.self.now c.ask.new.self c.do_words.new.self c.in_ok-ask.ensures.ok
    (c.the_laws_of_exchanges_hold.ensures.requests_stay (λ name. true) (past_in c.ask.new.self)
    (past_in c.do_words.new.self) (c.do_words.ensures.words.delivered (λ name. true))).requests

pub returns-clause-joined : goal.returns-clause-joined
returns-clause-joined g c = λ names.
    joined_past names c.args.request.now c.args.self.now c.ask.new.self c.do_words.new.self c.in_ok-ask.ensures.ok
    (c.do_words.ensures.words.delivered names)

pub returns-clause-early : goal.returns-clause-early
returns-clause-early g c =
    λ names unrepeated. prepared_early names c.args.request.now c.args.self.now c.ask.new.self c.do_words.new.self
    c.in_ok-ask.ensures.ok
    (c.in_ok-do_words.ensures.words.early names c.args.self.now.asked refl) unrepeated

pub returns-clause-joins : goal.returns-clause-joins
returns-clause-joins g c =
    request_joins c.args.request.now c.args.self.now c.ask.new.self c.do_words.new.self c.in_ok-ask.ensures.ok
    (c.the_laws_of_exchanges_hold.ensures.requests_stay (λ name. true) (past_in c.ask.new.self)
    (past_in c.do_words.new.self) (c.do_words.ensures.words.delivered (λ name. true))).requests
