-- Line by line.
use Rattle.std.proofs.Common.{◌≡◌, length, Some, slice_get, true, refl, sym, subst, ◌+◌, ◌∙◌, arith, rules}
use Rattle.std.specs.Prelude.{IsTrue, slice_set}
use Rattle.std.proofs.lemmas.Option.{slice_get_read}
use Rattle.kmip_progress.specs.Saved.{saved_of}
use Rattle.kmip_progress.specs.Suiting.{has_text, is_known}
use Rattle.kmip_client.proofs.KeepingUpLemmas.{IsBroughtTo, brought_anew, brought_still, brought_up, fits, may_be_known, within}
use Rattle.kmip_client.proofs.saving.bring_up.Goals as goal
use Rattle.kmip_client.proofs.saving.bring_up.Goals.{then-not-says+in_ok-line+in_ok-set+in-Some-1}
use Rattle.kmip_client.proofs.saving.bring_up.Goals.{then-not-says+in_ok-line+in_ok-set+in-None-1, else-not-says}

pub set-requires-clause-saved : goal.set-requires-clause-saved
set-requires-clause-saved c =
    let knowns = c.args.knowns.now in
    let at = slice_get_read knowns (length knowns) c.loop-place.place c.index-knowns-place.result refl
    c.loop-place-test.true c.index-knowns-place.is in
    fits c.args.plan.now knowns c.requires.shaped c.loop-place.place c.index-knowns-place.result at c.loop-place.saved
    c.loop-place.invariant

pub set-requires-clause-place : goal.set-requires-clause-place
set-requires-clause-place c =
    let knowns = c.args.knowns.now in
    let at = slice_get_read knowns (length knowns) c.loop-place.place c.index-knowns-place.result refl
    c.loop-place-test.true c.index-knowns-place.is in
    within c.args.plan.now knowns c.requires.shaped c.loop-place.place c.index-knowns-place.result at c.loop-place.saved
    c.loop-place.invariant

pub set-requires-clause-known : goal.set-requires-clause-known
set-requires-clause-known c =
    let knowns = c.args.knowns.now in
    let at = slice_get_read knowns (length knowns) c.loop-place.place c.index-knowns-place.result refl
    c.loop-place-test.true c.index-knowns-place.is in
    subst (λ one. IsTrue (is_known one)) (sym c.in_ok-line.ensures)
    (may_be_known c.args.plan.now knowns c.requires.shaped c.loop-place.place c.index-knowns-place.result at
    c.loop-place.saved c.loop-place.invariant)

pub loop-place-preserved : goal.loop-place-preserved
loop-place-preserved c =
    let keys = c.args.plan.now in
    let knowns = c.args.knowns.now in
    let place = c.loop-place.place in
    let known = c.index-knowns-place.result in
    let old = c.loop-place.saved in
    let so = c.loop-place.invariant in
    let at = slice_get_read knowns (length knowns) place known refl c.loop-place-test.true c.index-knowns-place.is in
    elim c.if-not-says.branch [
      | then-not-says+in_ok-line+in_ok-set+in-Some-1 w ↦
          subst (IsBroughtTo keys knowns (place + 1)) (sym w.saved-is)
          (brought_anew keys knowns c.requires.shaped place known at old so w.set.new.self
          (λ progress suits is. subst (λ one. w.set.new.self ≡ saved_of keys (slice_set progress place one))
          w.in_ok-line.ensures (w.in_ok-set.ensures.set progress suits is))
          (subst (λ one. has_text one ≡ true) w.in_ok-line.ensures w.in_ok-set.ensures.utf8))
      | then-not-says+in_ok-line+in_ok-set+in-None-1 w ↦
          subst (IsBroughtTo keys knowns (place + 1)) (sym w.saved-is)
          (brought_anew keys knowns c.requires.shaped place known at old so w.set.new.self
          (λ progress suits is. subst (λ one. w.set.new.self ≡ saved_of keys (slice_set progress place one))
          w.in_ok-line.ensures (w.in_ok-set.ensures.set progress suits is))
          (subst (λ one. has_text one ≡ true) w.in_ok-line.ensures w.in_ok-set.ensures.utf8))
      | else-not-says w ↦
          subst (IsBroughtTo keys knowns (place + 1)) (sym w.saved-is)
          (brought_still keys knowns c.requires.shaped place known at old so c.saved_lines_are_true.ensures
          (search rules))
    ]

pub returns-clause-is : goal.returns-clause-is
returns-clause-is c =
    let all : c.loop-place.place ≡ length c.args.knowns.now = omega (arith, c.loop-place-test.false, c.loop-place.auto.place-end) in
    brought_up c.args.plan.now c.args.knowns.now c.loop-place.place c.loop-place.saved all c.loop-place.invariant
