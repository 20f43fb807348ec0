-- What of a client's knowledge is kept from one run to the next.
-- Source: own (choice).
use Rattle.std.specs.Prelude.{List, map, None}
use Rattle.kmip_plan.specs.declared.key.Key.{Key}
use Rattle.kmip_progress.specs.declared.known.Known.{Known}
use Rattle.kmip_client.specs.declared.knowledge.Knowledge.{Knowledge}
use Rattle.kmip_client.specs.Clients.{ClientState}
use Rattle.kmip_client.specs.Knowledge.{lost_phase}

-- Of a key the identifier and the count are kept; neither a conflict nor what is asked next is.
abbrev pub known_of : Knowledge → Known
known_of knowledge = record { identifier = knowledge.identifier; done = knowledge.done }

-- What is known of a key by whoever goes on from what was kept: the object is looked at again. That is by its
-- identifier where that is known, else by its name.
abbrev pub knowledge_from : Known → Knowledge
knowledge_from known = record { identifier = known.identifier; done = known.done; phase = lost_phase known.identifier; clash = None }

-- What is kept of a client: of each key the identifier and the count.
abbrev pub progress : ClientState → List Known
progress c = map known_of c.knowns

-- The client that goes on from what was kept: the first key has the turn, and a message asks about one key.
abbrev pub resume : List Key → List Known → ClientState
resume keys saved = record { keys = keys; knowns = map knowledge_from saved; next = 0; batch = 1 }
