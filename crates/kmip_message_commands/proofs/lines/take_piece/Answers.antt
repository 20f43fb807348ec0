use Rattle.std.proofs.Common.{◌≢◌, ◌+◌, [], length, take, refl, sym, subst, ◌∙◌, rules, arith, append-nil, take_all, le_refl}
use Rattle.std.proofs.lemmas.List.Elements.{All-nil}
use Rattle.std.specs.Io.KnownBytes.{Consumes}
use Rattle.std.specs.Io.BufRead.{FillKeeps}
use Rattle.std.proofs.KnownBytes.{Consumes-nil, Consumes-kept}
use Rattle.std.proofs.BufReadLemmas.{Consumes_shown}
use Rattle.kmip_message_commands.proofs.LineLemmas.{to_feed, without_feed, kept_nothing, at_end}
use Rattle.kmip_message_commands.proofs.lines.take_piece.Goals as goal

pub returns-then-eq : goal.returns-then-eq
returns-then-eq g c =
    record {
      part = [];
      within = All-nil (λ x. x ≢ 10);
      consumed = Consumes-kept _ _ _ [] (Consumes-nil _) c.fill_buf.follows.holds-at-none.0;
      kept = kept_nothing c.args.line.now.items;
    }

pub returns-in_ok-keep-in-Some : goal.returns-in_ok-keep-in-Some
returns-in_ok-keep-in-Some g c =
    let shown = c.in-Ok.shown.now in
    let place = c.in-Some.place in
    let feed = to_feed shown place (search rules) in
    let rested = c.fill_buf.follows.lender-at-none in
    let filled = subst (FillKeeps _ (g.R.Read.remaining rested) (g.R.BufRead.consumable_len rested)) c.in-Ok.is c.fill_buf.follows.holds-at-none in
    let moved = Consumes_shown _ _ _ _ shown (place + 1) (omega (arith, feed.0)) c.in-Ok.ensures.front c.in-Ok.ensures.end filled.0 filled.1 c.consume.ensures.bytes in
    record {
      part = take place shown;
      within = feed.1;
      consumed = subst (Consumes _ _) feed.2 moved.0;
      kept = search rules;
    }

pub returns-in-None : goal.returns-in-None
returns-in-None g c = (
  Consumes-kept _ _ _ [] (Consumes-nil _) c.fill_buf.follows.holds-at-none.0,
  at_end _ c.in-Ok.shown.now c.in-Ok.ensures.end c.if-size-eq0.true,
  refl,
)

pub returns-in_ok-keep-in-None-2 : goal.returns-in_ok-keep-in-None-2
returns-in_ok-keep-in-None-2 g c =
    let shown = c.in-Ok.shown.now in
    let rested = c.fill_buf.follows.lender-at-none in
    let filled = subst (FillKeeps _ (g.R.Read.remaining rested) (g.R.BufRead.consumable_len rested)) c.in-Ok.is c.fill_buf.follows.holds-at-none in
    let moved = Consumes_shown _ _ _ _ shown (length shown) (le_refl _) c.in-Ok.ensures.front c.in-Ok.ensures.end filled.0 filled.1 c.consume-in-None-2.ensures.bytes in
    record {
      part = shown;
      within = without_feed shown (search rules);
      consumed = subst (Consumes _ _) (take_all (length shown) shown (le_refl _) ∙ sym (append-nil shown)) moved.0;
      kept = search rules;
    }
