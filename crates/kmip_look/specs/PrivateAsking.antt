-- Private: what is asked about a key.
-- Source: own (choice), over KMIP 2.1, Operations; Message Structure, Unique Batch Item ID.
use Rattle.std.specs.Prelude.{ℕ, Bool, true, false, ◌&&◌, not, List, [], ◌∷◌, ◌++◌, Some, if◌then◌else◌}
use Rattle.std.specs.Option.{is_some, unwrap_or}
use Rattle.kmip_objects.specs.Attributes.{by_name}
use Rattle.kmip_objects.specs.Searching.{every_state}
use Rattle.kmip_batch_items.specs.declared.ask.Ask.{Ask}
use Rattle.kmip_batch_items.specs.declared.ask.Ask.TheVariants.{GetAttributes, Locate}
use Rattle.kmip_batch_items.specs.declared.request.Request.{Request}
use Rattle.kmip_batch_items.specs.declared.standard.TheConstants.{OPERATION_GET_ATTRIBUTES, OPERATION_LOCATE}
use Rattle.kmip_plan.specs.declared.key.Key.{Key}
use Rattle.kmip_client.specs.declared.knowledge.Knowledge.{Knowledge}
use Rattle.kmip_client.specs.declared.phase.Phase.{Phase}
use Rattle.kmip_client.specs.declared.phase.Phase.TheVariants as phases
use Rattle.kmip_look.specs.declared.looked.Looked.{Looked}
use Rattle.kmip_look.specs.declared.part.Part.{Part}
use Rattle.kmip_look.specs.declared.part.Part.TheVariants.{Find, Tell}
use Rattle.kmip_look.specs.declared.why.Why.{Why}
use Rattle.kmip_look.specs.declared.why.Why.TheVariants.{Refused}

-- The number of the operation that a part asks
abbrev pub part_number : Part → ℕ
part_number Find = OPERATION_LOCATE
part_number Tell = OPERATION_GET_ATTRIBUTES

-- What is to be found out in the phase is what the part asks
abbrev pub is_in : Part → Phase → Bool
is_in Find phases.Look = true
is_in Find phases.Make = false
is_in Find phases.Check = false
is_in Find phases.Go = false
is_in Tell phases.Look = false
is_in Tell phases.Make = false
is_in Tell phases.Check = true
is_in Tell phases.Go = false

-- The server has not done it
abbrev pub is_refused : Why → Bool
is_refused (Refused reason) = true
is_refused why = false

-- The messages of the part ask about the key: it is not told, and nothing was refused
abbrev pub is_asked : Part → Looked → Bool
is_asked part looked = is_in part looked.known.phase && not (is_some looked.known.clash) && not (is_refused looked.why)

-- What the part asks about a key
abbrev pub ask_of : Part → Key → Knowledge → Ask
ask_of Find key known = Locate (Some every_state) (by_name key.attrs.name)
ask_of Tell key known = GetAttributes (unwrap_or known.identifier [])

-- The id of a question: its operation in one byte, the mark, and the name of the key
abbrev pub id_of : Part → List ℕ → Key → List ℕ
id_of part mark key = part_number part ∷ (mark ++ key.attrs.name)

-- The request of a part about a key
abbrev pub request_of : Part → List ℕ → Key → Looked → Request
request_of part mark key looked = record { id = Some (id_of part mark key); ask = ask_of part key looked.known }

-- The requests of a part, about each key that it asks about
abbrev pub requests_of : Part → List ℕ → List Key → List Looked → List Request
requests_of part mark [] lookeds = []
requests_of part mark (key ∷ keys) [] = []
requests_of part mark (key ∷ keys) (looked ∷ lookeds) =
    if is_asked part looked then request_of part mark key looked ∷ requests_of part mark keys lookeds else requests_of part mark keys lookeds
