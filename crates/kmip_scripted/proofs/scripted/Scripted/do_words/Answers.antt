-- Word by word.
use Rattle.std.proofs.Common.{◌∙◌, rules}
use Rattle.kmip_scripted.specs.Scenes.{past_in}
use Rattle.kmip_scripted.proofs.CleanLemmas.{early_twice}
use Rattle.kmip_scripted.proofs.WordLemmas.{on_err}
use Rattle.kmip_scripted.proofs.scripted.Scripted.do_words.Goals as goal

pub returns-in_err-step-clause-words : goal.returns-in_err-step-clause-words
returns-in_err-step-clause-words g c = record {
  begun = on_err c.from_residual.result (c.words.invariant.begun c.step.new.self c.in_err-step.ensures.words.begun);
  delivered = λ names. c.the_laws_of_exchanges_hold.ensures.join names (past_in c.args.self.now)
      (past_in c.words.self) (past_in c.step.new.self)
      (c.words.invariant.delivered names) (c.step.ensures.words.delivered names);
  early = search rules;
}

pub words-preserved : goal.words-preserved
words-preserved g c =
    let steps = c.in_ok-step.ensures.went (search (rules, c.if-not-branch.false)) in
    record {
      all = steps.all ∙ c.words.invariant.all;
      begun = λ last begun. c.words.invariant.begun last (steps.begun last begun);
      delivered = λ names. c.the_laws_of_exchanges_hold.ensures.join names (past_in c.args.self.now)
          (past_in c.words.self) (past_in c.step.new.self)
          (c.words.invariant.delivered names) (c.step.ensures.words.delivered names);
      early = λ names asked before are. early_twice c.the_laws_of_exchanges_hold.ensures.join names asked
          c.args.self.now c.words.self c.step.new.self
          (c.words.invariant.early names asked before are) (c.in_ok-step.ensures.words.early names asked before);
    }

pub returns-then-not-branch-clause-words : goal.returns-then-not-branch-clause-words
returns-then-not-branch-clause-words g c = record {
  begun = tt;
  delivered = λ names. c.the_laws_of_exchanges_hold.ensures.join names (past_in c.args.self.now)
      (past_in c.words.self) (past_in c.step.new.self)
      (c.words.invariant.delivered names) (c.step.ensures.words.delivered names);
  early = λ names asked before are. early_twice c.the_laws_of_exchanges_hold.ensures.join names asked c.args.self.now
      c.words.self c.step.new.self
      (c.words.invariant.early names asked before are) (c.in_ok-step.ensures.words.early names asked before);
}
