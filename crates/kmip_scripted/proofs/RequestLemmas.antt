-- The requests of a message are as many as its questions that are no refusals.
use Rattle.std.proofs.Common.{◌≡◌, List, [], ◌∷◌, suc, length, filter, is_ok, Result, Ok, Err, refl, ap}
use Rattle.std.specs.List.{filter_map}
use Rattle.std.specs.Result.{result_ok}

pub as_many : {T E : Type 0} (results : List (Result T E)) → length (filter is_ok results) ≡ length (filter_map result_ok results)
as_many [] = refl
as_many (Ok value ∷ results) = ap suc (as_many results)
as_many (Err fault ∷ results) = as_many results
