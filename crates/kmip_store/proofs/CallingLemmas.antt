-- One call more.
use Rattle.std.proofs.Common.{◌≡◌, ℕ, ◌+◌, ◌<◌, List, [], ◌∷◌, ◌++◌, length, take, get_or, refl, sym, ap, ◌∙◌}
use Rattle.std.proofs.lemmas.List.{take_more}
use Rattle.kmip_store.specs.declared.call.Call.{Call}
use Rattle.kmip_store.specs.Stock.{Stock}
use Rattle.kmip_store.specs.Calling.{stock_after_call, stock_after_calls}

stock_more : (calls : List Call) (call : Call) (s : Stock) → stock_after_calls (calls ++ call ∷ []) s ≡ stock_after_call call (stock_after_calls calls s)
stock_more [] call s = refl
stock_more (c ∷ calls) call s = stock_more calls call (stock_after_call c s)

pub one_call_more : (calls : List Call) (i : ℕ) (call : Call) (first old new : Stock) → i < length calls → call ≡ get_or calls i call
    → old ≡ stock_after_calls (take i calls) first → new ≡ stock_after_call call old → new ≡ stock_after_calls (take (i + 1) calls) first
one_call_more calls i call first old new within is before after =
    after
    ∙ ap (stock_after_call call) before
    ∙ sym (stock_more (take i calls) call first)
    ∙ ap (λ c. stock_after_calls (take i calls ++ c ∷ []) first) is
    ∙ ap (λ cs. stock_after_calls cs first) (sym (take_more calls i call within))
