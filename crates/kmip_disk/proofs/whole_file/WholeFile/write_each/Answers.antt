use Rattle.std.proofs.Common.{ap, drop, inl, refl, subst, sym, ◌+◌, ◌∙◌, List, ℕ}
use Rattle.std.proofs.lemmas.Result.{err_from_is_err_and}
use Rattle.std.specs.Prelude.{Some}
use Rattle.kmip_disk.specs.Views.{Content}
use Rattle.kmip_disk.specs.Whole.{IsOneOf, last_of}
use Rattle.kmip_disk.proofs.HistoryLemmas.{last_end, last_step, one_at, one_of_them, texts_of}
use Rattle.kmip_disk.proofs.Moments.{started}
use Rattle.kmip_disk.proofs.whole_file.WholeFile.write_each.Goals as goal

pub loop-text-init : goal.loop-text-init
loop-text-init g c = record {
  lawful = λ lawful. lawful;
  rest = λ lawful. refl;
  so_far = λ lawful. started (g.D.Disk.view c.args.self.now.disk) _ lawful (λ c left. inl left);
  still = λ lawful was. was;
}

pub loop-text-preserved : goal.loop-text-preserved
loop-text-preserved g c =
    let view = g.D.Disk.view in
    let first = view c.args.self.now.disk in
    let next = view c.loop-text.self.disk in
    let last = view c.write.new.self.disk in
    let text = c.as_slice.result.now in
    let same = c.as_slice.ensures.value in
    let invariant = c.loop-text.invariant in
    let is_one = subst (λ (t : List ℕ). IsOneOf (texts_of c.args.texts.now) (Some t)) (sym same) (one_at c.args.texts.now c.loop-text.text-index c.text-item.result c.loop-text-test.true c.text-item.is) in
    record {
      lawful = λ lawful. (c.in_ok-write.ensures (invariant.lawful lawful)).lawful;
      rest = λ lawful.
          ap (λ (f : Content). last_of f (texts_of (drop (c.loop-text.text-index + 1) c.args.texts.now))) ((c.in_ok-write.ensures (invariant.lawful lawful)).written.file ∙ ap (λ (t : List ℕ). Some t) same)
          ∙ sym (last_step c.args.texts.now c.loop-text.text-index (c.loop-text.text-index + 1) c.text-item.result next.file refl c.loop-text-test.true c.text-item.is)
          ∙ invariant.rest lawful;
      so_far = λ lawful. one_of_them first next last (texts_of c.args.texts.now) text (invariant.lawful lawful) is_one (invariant.so_far lawful) (c.in_ok-write.ensures (invariant.lawful lawful)).any_moment;
      still = λ lawful was. (c.in_ok-write.ensures (invariant.lawful lawful)).still (invariant.still lawful was);
    }

pub returns-in_err-write : goal.returns-in_err-write
returns-in_err-write g c = λ lawful.
    let view = g.D.Disk.view in
    let first = view c.args.self.now.disk in
    let next = view c.loop-text.self.disk in
    let last = view c.write.new.self.disk in
    let text = c.as_slice.result.now in
    let invariant = c.loop-text.invariant in
    let is_one = subst (λ (t : List ℕ). IsOneOf (texts_of c.args.texts.now) (Some t)) (sym c.as_slice.ensures.value) (one_at c.args.texts.now c.loop-text.text-index c.text-item.result c.loop-text-test.true c.text-item.is) in
    let wrote = c.write.ensures (invariant.lawful lawful) in
    let fault = err_from_is_err_and c.from_residual.result c.from_residual.ensures.1 in
    record {
      lawful = wrote.lawful;
      written = rw fault.1 tt;
      any_moment = one_of_them first next last (texts_of c.args.texts.now) text (invariant.lawful lawful) is_one (invariant.so_far lawful) wrote.any_moment;
      still = λ was. wrote.still (invariant.still lawful was);
    }

pub returns : goal.returns
returns g c = λ lawful.
    let now = g.D.Disk.view c.loop-text.self.disk in
    let invariant = c.loop-text.invariant in
    record {
      lawful = invariant.lawful lawful;
      written = sym (last_end c.args.texts.now c.loop-text.text-index now.file c.loop-text-test.false) ∙ invariant.rest lawful;
      any_moment = invariant.so_far lawful;
      still = λ was. invariant.still lawful was;
    }
