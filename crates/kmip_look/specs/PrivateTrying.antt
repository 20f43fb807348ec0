-- Private: how often was asked about the keys of a group.
-- Source: own (law).
use Rattle.std.specs.Prelude.{◌≡◌, ◌⊎◌, ℕ, true, ⊤, List}
use Rattle.kmip_plan.specs.declared.key.Key.{Key}
use Rattle.kmip_protocol.specs.Past.{Past}
use Rattle.kmip_look.specs.Looks.{IsAskedFor}
use Rattle.kmip_look.specs.PrivateAsking.{id_of, is_refused}
use Rattle.kmip_look.specs.PrivateKeeping.{IsAt}
use Rattle.kmip_look.specs.declared.looked.Looked.{Looked}
use Rattle.kmip_look.specs.declared.looking.TheConstants.{MOST_TRIES}
use Rattle.kmip_look.specs.declared.part.Part.{Part}
use Rattle.kmip_look.specs.declared.part.Part.TheVariants.{Find, Tell}

-- How many messages of the first part there were after this many of a part
abbrev pub finds_in : Part → ℕ → ℕ
finds_in Find count = count
finds_in Tell count = MOST_TRIES

-- How many messages of the second part there were after this many of a part
abbrev pub tells_in : Part → ℕ → ℕ
tells_in Find count = 0
tells_in Tell count = count

-- How far a look has come with a key after this many messages of a part: what is not told of it was refused,
-- or asked in so many messages
abbrev pub IsTriedAt : Part → ℕ → List ℕ → Past → Past → Key → Looked → Type 0
IsTriedAt part count mark start now key looked = IsAt
    ((is_refused looked.why ≡ true) ⊎ IsAskedFor (id_of Find mark key) (finds_in part count) start now)
    (λ uid. (is_refused looked.why ≡ true) ⊎ IsAskedFor (id_of Tell mark key) (tells_in part count) start now)
    (λ told. ⊤) looked
