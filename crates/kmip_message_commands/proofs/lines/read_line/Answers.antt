-- What is written waits; a line has ended where a line feed or the end of the input was found.
use Rattle.std.proofs.Common.{subst, arith}
use Rattle.std.proofs.lemmas.Bool.Decides.{nat_tests}
use Rattle.std.proofs.lemmas.Result.{IfOk-from_err}
use Rattle.std.proofs.KnownBytes.{Keeps-refl, Keeps-trans}
use Rattle.kmip_message_commands.specs.Private.{TakesPiece}
use Rattle.kmip_message_commands.proofs.LineLemmas.{HasRead-none, HasRead-more, HasRead-last, HasRead-end, HasRead-nothing}
use Rattle.kmip_message_commands.proofs.lines.read_line.Goals as goal

pub loop-init : goal.loop-init
loop-init g c = record {
  read = HasRead-none (g.R.Read.remaining c.args.reader.now) c.clear.new.self.items c.clear.ensures.items;
  unwritten = Keeps-refl (g.W.Write.contents c.args.writer.now);
}

pub returns-in-Last-clause-line : goal.returns-in-Last-clause-line
returns-in-Last-clause-line g c =
    HasRead-last _ _ _ _ _ c.loop.invariant.read (subst (TakesPiece _ _ _ _) c.in-Last.is c.in_ok-take_piece.ensures)

pub returns-in-Last-clause-unwritten : goal.returns-in-Last-clause-unwritten
returns-in-Last-clause-unwritten g c = c.loop.invariant.unwritten

pub returns-in-Nothing-clause-line : goal.returns-in-Nothing-clause-line
returns-in-Nothing-clause-line g c =
    let piece = subst (TakesPiece _ _ _ _) c.in-Nothing.is c.in_ok-take_piece.ensures in
    HasRead-nothing _ _ _ _ _ c.loop.invariant.read piece.0 piece.1 piece.2 (grind (arith, nat_tests))

pub returns-in-Nothing-clause-unwritten : goal.returns-in-Nothing-clause-unwritten
returns-in-Nothing-clause-unwritten g c = c.loop.invariant.unwritten

pub returns-in-Nothing-2-clause-line : goal.returns-in-Nothing-2-clause-line
returns-in-Nothing-2-clause-line g c =
    let piece = subst (TakesPiece _ _ _ _) c.in-Nothing-2.is c.in_ok-take_piece.ensures in
    HasRead-end _ _ _ _ _ c.loop.invariant.read piece.0 piece.1 piece.2 (grind (arith, nat_tests))

pub returns-in-Nothing-2-clause-unwritten : goal.returns-in-Nothing-2-clause-unwritten
returns-in-Nothing-2-clause-unwritten g c = c.loop.invariant.unwritten

pub returns-in_err-take_piece-clause-line : goal.returns-in_err-take_piece-clause-line
returns-in_err-take_piece-clause-line g c = IfOk-from_err _ _ c.from_residual.ensures.0

pub returns-in_err-take_piece-clause-unwritten : goal.returns-in_err-take_piece-clause-unwritten
returns-in_err-take_piece-clause-unwritten g c = c.loop.invariant.unwritten

pub returns-in_err-flush-in-Middle-clause-line : goal.returns-in_err-flush-in-Middle-clause-line
returns-in_err-flush-in-Middle-clause-line g c = IfOk-from_err _ _ c.from_residual-in_err-flush-in-Middle.ensures.0

pub returns-in_err-flush-in-Middle-clause-unwritten : goal.returns-in_err-flush-in-Middle-clause-unwritten
returns-in_err-flush-in-Middle-clause-unwritten g c = Keeps-trans _ _ _ c.loop.invariant.unwritten c.flush.ensures.unwritten

pub loop-preserved : goal.loop-preserved
loop-preserved g c =
    record {
      read = HasRead-more _ _ _ _ _ c.loop.invariant.read (subst (TakesPiece _ _ _ _) c.in-Middle.is c.in_ok-take_piece.ensures);
      unwritten = Keeps-trans _ _ _ c.loop.invariant.unwritten c.flush.ensures.unwritten;
    }

pub returns-clause-unwritten : goal.returns-clause-unwritten
returns-clause-unwritten g c = c.loop.invariant.unwritten
