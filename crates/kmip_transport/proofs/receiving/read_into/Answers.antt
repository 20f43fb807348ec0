-- A read gave some bytes, or failed.
use Rattle.std.proofs.Common.{◌≤◌, length, refl, rules, take, arith}
use Rattle.kmip_frames.specs.Framing.{wants}
use Rattle.kmip_transport.proofs.PieceLemmas.{grows, takes_piece, Takes-kept}
use Rattle.kmip_transport.proofs.receiving.read_into.Goals as goal

pub returns-in-Ok : goal.returns-in-Ok
returns-in-Ok g c =
    let laws = c.the_laws_of_sizes_hold.ensures in
    let bound = c.in-Ok.ensures.bound in
    let piece = take c.in-Ok.count c.read_once.new.room in
    let fits : length piece ≤ wants c.args.framer.now = omega
    (arith, c.read_once.auto.room, c.requires.fits, bound.0, bound.1) in
    record {
      taken = takes_piece laws.short laws.bounds laws.more _ _ piece _ _ fits c.feed-fault.ensures.held
          c.in-Ok.ensures.bytes.0;
      end = search rules;
      refused = tt;
      sure = search rules;
      grown = λ sure on. grows laws.short laws.bounds laws.more _ _ piece fits c.feed-fault.ensures.held
          (omega (arith, bound.1, c.in-Ok.count-test.1));
    }

pub returns-in-Err : goal.returns-in-Err
returns-in-Err g c = record {
  taken = Takes-kept _ _ _ _ refl c.in-Err.ensures.bytes;
  end = search rules;
  refused = search rules;
  sure = search rules;
  grown = search rules;
}
