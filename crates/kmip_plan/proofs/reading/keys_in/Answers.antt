-- Each element is one key more.
use Rattle.std.proofs.Common.{◌≡◌, ◌∙◌, ◌<◌, ◌≤◌, ◌+◌, ◌++◌, ◌∷◌, [], length, get_or, drop, Ok, ap, sym, subst}
use Rattle.std.proofs.lemmas.List.{drop_all, drop_more}
use Rattle.std.proofs.lemmas.Result.{err_from_is_err_and}
use Rattle.toml.specs.View.{items_view}
use Rattle.kmip_ttlv.specs.Binding.{◌>>=◌}
use Rattle.kmip_plan.specs.Reading.{keys_in}
use Rattle.kmip_plan.proofs.reading.keys_in.Goals as goal

pub loop-value-preserved : goal.loop-value-preserved
loop-value-preserved c =
    let i = c.loop-value.value-index in
    let value = c.value-item.result in
    let before = c.loop-value.keys in
    let left = drop (i + 1) c.args.array.now.items in
    let inside = subst (λ values. i < length values) c.deref-value-items.ensures.value c.loop-value-test.true in
    let is = subst (λ values. value ≡ get_or values i value) c.deref-value-items.ensures.value c.value-item.is in
    let here = drop_more c.args.array.now.items i value inside ∙ ap (λ v. v ∷ left) (sym is) in
    ap (λ keys. keys_in keys (items_view left)) c.in_ok-keys.ensures ∙ sym (ap (λ read. read >>= λ k. keys_in (before ++ k ∷ []) (items_view left)) c.in_ok-key.ensures)
    ∙ sym (ap (λ values. keys_in before (items_view values)) here) ∙ c.loop-value.invariant

pub returns : goal.returns
returns c =
    let keys = c.loop-value.keys in
    let none = drop_all c.loop-value.value-index c.args.array.now.items (subst (λ values. length values ≤ c.loop-value.value-index) c.deref-value-items.ensures.value c.loop-value-test.false) in
    sym c.loop-value.invariant ∙ ap (λ values. keys_in keys (items_view values)) none ∙ ap Ok (sym c.into_keys.ensures)

pub returns-in_err-keys : goal.returns-in_err-keys
returns-in_err-keys c =
    let fault = err_from_is_err_and c.from_residual-in_err-keys.result c.from_residual-in_err-keys.ensures.1 in
    rw (fault.1, fault.2) tt
