-- What the other client does may pass over this link.
use Rattle.std.proofs.Common.{OnOk, rules, subst}
use Rattle.kmip_company.specs.Sharing.{AreTogether, Sharing, TakesTurn, past_of}
use Rattle.kmip_protocol.specs.Amid.{PassedAmid, seen_by_others}
use Rattle.kmip_protocol.specs.Sound.{Sound}
use Rattle.kmip_scripted.specs.Scenes.{past_in, seen_in}
use Rattle.kmip_company.proofs.SharedLemmas.{on_ok, other_good, still_together, turn_taken}
use Rattle.kmip_company.proofs.shared.Shared.let_the_other_ask.Goals as goal

pub returns-clause-together : goal.returns-clause-together
returns-clause-together g c = λ keys.
    let other = c.self.inside.other in
    let sent = c.self.inside.sent.items in
    let handed = c.self.inside.handed.items in
    let next = c.drive-driven.new.client in
    let after : Sharing = record { scene = c.drive-driven.new.link; other = next; sent = sent; handed = handed } in
    subst (λ (s : Sharing). AreTogether keys s → Sound keys (past_of s) → AreTogether keys after) c.self.view_is
    (λ together sound.
    let good = other_good keys other c.self.inside.link sent handed together sound in
    still_together keys (past_in c.self.inside.link).objects other next (seen_in c.drive-driven.new.link) together
    (c.drive-driven.ensures.well good).good
    c.drive-driven.ensures.forgets_nothing.keys_stay)

pub returns-clause-passed : goal.returns-clause-passed
returns-clause-passed g c = λ keys.
    let other = c.self.inside.other in
    let sent = c.self.inside.sent.items in
    let handed = c.self.inside.handed.items in
    let before : Sharing = record { scene = c.self.inside.link; other = other; sent = sent; handed = handed } in
    let after : Sharing = record {
      scene = c.drive-driven.new.link;
      other = c.drive-driven.new.client;
      sent = sent;
      handed = handed;
    } in
    subst (λ (s : Sharing). AreTogether keys s → Sound keys (past_of s) → PassedAmid keys (past_of s) (past_of after))
    c.self.view_is
    (λ together sound.
    let good = other_good keys other c.self.inside.link sent handed together sound in
    subst (λ ks. PassedAmid ks (past_of before) (past_of after)) together.keys_are
    (c.the_laws_amid_others_hold.ensures.blind other.keys sent handed (seen_by_others (past_in c.self.inside.link))
    (seen_by_others (past_in c.drive-driven.new.link))
    (c.drive-driven.ensures.well good).onward.passed))

pub returns-clause-turn : goal.returns-clause-turn
returns-clause-turn g c =
    let driven = c.drive-driven.result in
    let other = c.self.inside.other in
    let next = c.drive-driven.new.client in
    let before = past_in c.self.inside.link in
    let after = past_in c.drive-driven.new.link in
    subst (λ (s : Sharing). OnOk c.unless_no_memory.result (TakesTurn s.other next (past_in s.scene) after))
    c.self.view_is
    (on_ok c.unless_no_memory.result
    (turn_taken driven.0 driven.1 other next before after c.drive-driven.ensures.turned
    c.drive-driven.ensures.stops_for_its_reason (search rules) (search rules))
    c.unless_no_memory.ensures)
