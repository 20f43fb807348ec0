-- Each turn copies the key, if an identifier of it is known.
use Rattle.std.proofs.Common.{◌∙◌, sym, ap}
use Rattle.kmip_refresh.proofs.KnownLemmas.{copied_none, copied_one, none_known, one_known}
use Rattle.kmip_refresh.proofs.known_keys.known_keys.Goals as goal
use Rattle.kmip_refresh.proofs.known_keys.known_keys.Goals.{then-is_known+in_ok-key_copied+in_ok-push, else-is_known}

pub loop-place-preserved : goal.loop-place-preserved
loop-place-preserved c = elim c.if-is_known.branch [
  | then-is_known+in_ok-key_copied+in_ok-push w ↦
      copied_one _ _ _ c.loop-place.copies.items c.if-is_known.copies.items _ _
      (one_known c.args.keys.now c.args.known.now c.loop-place.place c.index-keys-place.result c.index-known-place.result c.loop-place-test.true c.requires
      c.index-keys-place.is c.index-known-place.is (sym c.is_known.ensures ∙ w.if-is_known.true))
      w.in_ok-key_copied.ensures (ap (λ r. r.items) w.copies-is ∙ w.in_ok-push.ensures.items) c.loop-place.invariant
  | else-is_known w ↦
      copied_none _ _ c.loop-place.copies.items c.if-is_known.copies.items _
      (none_known c.args.keys.now c.args.known.now c.loop-place.place c.index-keys-place.result c.index-known-place.result c.loop-place-test.true c.requires
      c.index-keys-place.is c.index-known-place.is (sym c.is_known.ensures ∙ w.if-is_known.false))
      (ap (λ r. r.items) w.copies-is) c.loop-place.invariant
]
