-- What holds of looks, whoever asks them.
-- Source: own (law), over KMIP 2.1, Operations, Locate and Get Attributes.
use Rattle.std.specs.Prelude.{◌≡◌, ℕ, true, List}
use Rattle.std.specs.List.{All}
use Rattle.kmip_objects.specs.Objects.{Object, object_named}
use Rattle.kmip_batch_items.specs.Operations.{ask_operation}
use Rattle.kmip_batch_items.specs.declared.ask.Ask.{Ask}
use Rattle.kmip_batch_items.specs.declared.outcome.Outcome.{Outcome}
use Rattle.kmip_batch_items.specs.declared.request.Request.{Request}
use Rattle.kmip_client.specs.Hearing.{is_look}
use Rattle.kmip_server.specs.ServerStep.{ServerStep}
use Rattle.kmip_protocol.specs.Moves.{Delivered}
use Rattle.kmip_protocol.specs.Past.{Names, Past}

-- what is asked is a Locate or a Get Attributes
abbrev pub AsksALook : Ask → Type 0
AsksALook ask = is_look (ask_operation ask) ≡ true

-- A Locate or a Get Attributes changes no object, whatever it is answered.
abbrev pub LooksChangeNothing : Type 0
LooksChangeNothing =
    (room : ℕ) (objects new : List Object) (ask : Ask) (outcome : Outcome) → AsksALook ask → ServerStep room objects ask outcome new
    → new ≡ objects

-- Let each request that was ever asked be such a look. Then whatever happens beside some names, the effects are
-- as they were, and so is the object of each of these names.
abbrev pub LooksAloneDoNothing : Type 0
LooksAloneDoNothing =
    (names : Names) (old new : Past) → All (λ (request : Request). AsksALook request.ask) old.requests → Delivered names old new
    → (new.effects ≡ old.effects)
    × ((name : List ℕ) → names name ≡ true → object_named name new.objects ≡ object_named name old.objects)
