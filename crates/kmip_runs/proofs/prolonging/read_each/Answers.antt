-- One more is read.
use Rattle.std.proofs.Common.{◌≡◌, ◌<◌, ◌+◌, ℕ, suc, List, [], ◌∷◌, ◌++◌, length, map, drop, get_or, sym, ap, ◌∙◌, append_assoc, add-one, drop-cons}
use Rattle.std.proofs.lemmas.List.Elements.{All-push}
use Rattle.kmip_progress.specs.Suiting.{Suits}
use Rattle.kmip_runs.specs.Campaigns.{carried_over}
use Rattle.kmip_runs.proofs.prolonging.read_each.Goals as goal

read_more : {A B : Type 0} (f : A → B) (read next : List B) (xs : List A) (i : ℕ) (x : A) (y : B) → i < length xs → x ≡ get_or xs i x → y ≡ f x → next ≡ read ++ y ∷ []
    → next ++ map f (drop (i + 1) xs) ≡ read ++ map f (drop i xs)
read_more f read next xs i x y below is made pushed =
    let here : drop i xs ≡ x ∷ drop (i + 1) xs = rw add-one (drop-cons xs i x below ∙ ap (λ z. z ∷ drop (suc i) xs) (sym is)) in
    rw (here, pushed, made) (append_assoc read (f x ∷ []) (map f (drop (i + 1) xs)))

pub loop-progress-preserved : goal.loop-progress-preserved
loop-progress-preserved c =
    let before = c.loop-progress.invariant in (
      read_more (carried_over c.args.next.now) c.loop-progress.read.items c.push.new.self.items c.args.saved.now c.loop-progress.progress-index c.progress-item.result
          c.in_ok-read_over.field-0 c.loop-progress-test.true c.progress-item.is c.in_ok-read_over.ensures.read c.in_ok-push.ensures.items
          ∙ before.0,
      rw c.in_ok-push.ensures.items
          (All-push (Suits c.args.next.now) c.loop-progress.read.items c.in_ok-read_over.field-0 before.1 c.in_ok-read_over.ensures.suits),
    )
