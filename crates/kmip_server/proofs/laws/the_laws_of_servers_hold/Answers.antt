-- By the lemma of each.
use Rattle.kmip_server.proofs.SearchLaws.{all_named_located, name_located}
use Rattle.kmip_server.proofs.laws.the_laws_of_servers_hold.Goals as goal

pub returns : goal.returns
returns c = record { located = name_located; all_located = all_named_located }
