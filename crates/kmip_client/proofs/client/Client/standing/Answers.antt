-- What is known of the key is read once.
use Rattle.std.proofs.Common.{◌≡◌, get_or, length, refl, ap, ◌∙◌, arith}
use Rattle.std.proofs.lemmas.Option.{slice_get_read}
use Rattle.kmip_client.specs.Clients.{ClientState, standing_at}
use Rattle.kmip_client.specs.Private.{IsShaped}
use Rattle.kmip_client.proofs.ClientLemmas.{standing_of}
use Rattle.kmip_client.proofs.KeepingUpLemmas.{as_long}
use Rattle.kmip_client.proofs.client.Client.standing.Goals as goal

pub index-known-requires : goal.index-known-requires
index-known-requires c =
    let long = as_long IsShaped c.self.inside.plan.now c.self.inside.knowns.items c.self.invariant.0.each in
    let same = ap (λ (s : ClientState). length s.keys) c.self.view_is in
    omega (arith, long, same, c.requires)

pub returns : goal.returns
returns c =
    let keys = c.self.inside.plan.now in
    let knowns = c.self.inside.knowns.items in
    let place = c.args.key in
    let long = as_long IsShaped keys knowns c.self.invariant.0.each in
    let same = ap (λ (s : ClientState). length s.keys) c.self.view_is in
    let key = c.index-keys-key.result in
    let known = c.index-known.result.now in
    let known_at = slice_get_read knowns (length knowns) place known refl (omega (arith, long, same, c.requires)) c.index-known.ensures in
    let key_at = slice_get_read keys (length keys) place key refl (omega (arith, same, c.requires)) (c.index-keys-key.is ∙ ap (λ ks. get_or ks place key) c.keys.ensures.value) in
    rw (c.is_some.ensures, c.verdict.ensures, c.tells.ensures)
    (standing_of keys knowns place key known key_at known_at ∙ ap (λ (s : ClientState). standing_at s.keys s.knowns place) c.self.view_is)
