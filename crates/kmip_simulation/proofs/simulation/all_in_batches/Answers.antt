-- Each turn puts one list of runs behind those so far.
use Rattle.std.proofs.Common.{◌≡◌, ℕ, ◌+◌, ◌<◌, List, [], ◌∷◌, ◌++◌, length, map, get_or, drop, Vec, Global, ap, subst, sym, ◌∙◌, append_assoc}
use Rattle.std.proofs.lemmas.List.{drop_more, length-append, map-append}
use Rattle.std.proofs.lemmas.List.Elements.{All-push}
use Rattle.std.specs.List.{All}
use Rattle.kmip_runs.specs.Campaign.{MayBatch}
use Rattle.kmip_runs.specs.declared.run.Run.{Run}
use Rattle.kmip_simulation.specs.Simulating.{in_batches}
use Rattle.kmip_simulation.proofs.simulation.all_in_batches.Goals as goal

-- the runs of a list
abbrev runs_in : Vec Run Global → List Run
runs_in list = list.items

-- a list more is done, and a list fewer is left
one_more : {A B : Type 0} (f : A → B) (g : B → B) (xs done : List A) (new d : A) (i : ℕ) (all : List B) → i < length xs → f new ≡ g (f (get_or xs i d))
    → map f done ++ map g (map f (drop i xs)) ≡ all → map f (done ++ new ∷ []) ++ map g (map f (drop (i + 1) xs)) ≡ all
one_more f g xs done new d i all inside same is =
    let left = map g (map f (drop (i + 1) xs)) in
    ap (λ ys. ys ++ left) (map-append f done (new ∷ [])) ∙ append_assoc (map f done) (f new ∷ []) left ∙ ap (λ y. map f done ++ y ∷ left) same
    ∙ ap (λ ys. map f done ++ map g (map f ys)) (sym (drop_more xs i d inside)) ∙ is

pub loop-runs-preserved : goal.loop-runs-preserved
loop-runs-preserved c =
    let pushed = c.in_ok-push.ensures.items in
    let done = c.loop-runs.batched.items in
    let new = c.in_ok-in_batches.field-0 in
    let lists = c.args.lists.now in
    let batch = c.args.batch in
    let (so_far, may, many) = c.loop-runs.invariant in
    let same = c.in_ok-in_batches.ensures.runs ∙ ap (in_batches batch) (c.as_slice.ensures.value ∙ ap runs_in c.runs-item.is) in (
      subst (λ (vs : List (Vec Run Global)). map runs_in vs
          ++ map (in_batches batch) (map runs_in (drop (c.loop-runs.runs-index + 1) lists))
          ≡ map (in_batches batch) (map runs_in lists)) (sym {A = List (Vec Run Global)} pushed)
          (one_more runs_in (in_batches batch) lists done new c.runs-item.result c.loop-runs.runs-index
          (map (in_batches batch) (map runs_in lists)) c.loop-runs-test.true same so_far),
      subst (All (λ (list : Vec Run Global). MayBatch list.items)) (sym {A = List (Vec Run Global)} pushed)
          (All-push (λ (list : Vec Run Global). MayBatch list.items) done new may c.in_ok-in_batches.ensures.may),
      ap length pushed ∙ length-append done (new ∷ []) ∙ ap (λ n. n + 1) many,
    )
