-- One piece more, the end of the stream, or a reader that fails.
use Rattle.std.proofs.Common.{◌≡◌, List, ℕ, Option, Result, Ok, length, refl, sym, ap, subst, ◌∙◌, arith, rules}
use Rattle.kmip_protocol.specs.declared.link_fault.LinkFault.{LinkFault}
use Rattle.kmip_transport.specs.Receiving.{Answers, IsUnfinished, Receives}
use Rattle.kmip_transport.specs.Private.{Takes}
use Rattle.kmip_transport.proofs.PieceLemmas.{Takes-refl, takes_on, received_no_more}
use Rattle.kmip_transport.proofs.receiving.receive.Goals as goal

-- all that was held or read is answered
received : {M : Type 0} (bytes : M → List ℕ) (result : Result (Option M) LinkFault) (old all held : List ℕ)
    (unread left : Option (List ℕ))
    → Takes old all unread left → Answers bytes result all held left → Receives bytes result old held unread left
received bytes result old all held unread left taken answered = record {
  read = taken.read;
  consumed = taken.consumed;
  answered = subst (λ a. Answers bytes result a held left) taken.joined answered;
}

pub loop-turn-init : goal.loop-turn-init
loop-turn-init g c = (Takes-refl c.args.framer.now (g.R.Source.remaining c.args.reader.now), λ sure. omega arith)

pub loop-turn-preserved : goal.loop-turn-preserved
loop-turn-preserved g c =
    let begun = rw c.in-Ok-None.field-0-is at c.in-Ok-None.ensures in (
      takes_on _ _ _ _ _ _ _ c.loop-turn.invariant.0 begun.1 c.take_piece.ensures.taken,
      λ sure. omega (
        arith,
        c.take_piece.ensures.grown sure (search rules),
        c.loop-turn.invariant.1 sure,
        ap length
            begun.1,
      ),
    )

pub returns-in-Ok-false-clause-received : goal.returns-in-Ok-false-clause-received
returns-in-Ok-false-clause-received g c =
    let begun = rw c.in-Ok-None.field-0-is at c.in-Ok-None.ensures in
    let whole = takes_on _ _ _ _ _ _ _ c.loop-turn.invariant.0 begun.1 c.take_piece.ensures.taken in
    let end = c.take_piece.ensures.end (subst (λ goes_on. c.take_piece.result ≡ Ok goes_on) c.in-Ok-false.field-0-test
    c.in-Ok-false.is) in
    received (λ message. message.items) _ _ _ c.take_piece.new.framer _ _ whole
    (subst IsUnfinished (sym (end.0 ∙ begun.1)) begun.0, refl, end.1)

pub returns-in-Err-clause-received : goal.returns-in-Err-clause-received
returns-in-Err-clause-received g c =
    let begun = rw c.in-Ok-None.field-0-is at c.in-Ok-None.ensures in
    received_no_more _ _ _ _ _ _ _ _ _ c.loop-turn.invariant.0 begun c.take_piece.ensures.taken c.in-Err.ensures.refused

pub returns-in-Ok-None-hand_over-clause-received : goal.returns-in-Ok-None-hand_over-clause-received
returns-in-Ok-None-hand_over-clause-received g c =
    let begun = rw c.in-Ok-None-hand_over.field-0-is at c.in-Ok-None-hand_over.ensures in
    received (λ message. message.items) _ _ _ c.hand_over-2.new.framer _ _ c.loop-turn.invariant.0 begun

pub returns-in-Ok-None-hand_over-clause-sure : goal.returns-in-Ok-None-hand_over-clause-sure
returns-in-Ok-None-hand_over-clause-sure g c = λ sure io.
    omega (
      arith,
      c.loop-turn.invariant.1 sure,
      c.a_framer_holds_one_message.ensures.at_most,
      c.loop-turn-test.false,
      c.loop-turn.auto._turn-end,
    )
