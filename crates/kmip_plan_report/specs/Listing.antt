-- What `list` reports of a progress of a plan, and `run` of what its client knows.
-- Source: own (text): what the program prints.
use Rattle.std.specs.Prelude.{Bool, true, List, [], ◌∷◌, ◌++◌, length, map, codes}
use Rattle.kmip_report.specs.Pieces.{Piece, number, shown_or, told_if, word}
use Rattle.kmip_plan.specs.TargetWords.{target_word}
use Rattle.kmip_plan.specs.declared.key.Key.{Key}
use Rattle.kmip_progress.specs.declared.known.Known.{Known}
use Rattle.kmip_client.specs.Clients.{ClientState}
use Rattle.kmip_client.specs.Knowledge.{chain_length}
use Rattle.kmip_client.specs.Saving.{progress, resume}
use Rattle.kmip_client.specs.Verdicts.{finished_count, verdict_word, verdicts_of}
use Rattle.kmip_client.specs.declared.verdict.Verdict.{Verdict}
use Rattle.kmip_plan_report.specs.Standings.{Standing, standings}

-- The line of a key: its name, its target, the number of its steps that are done, the verdict and the identifier. The
-- identifier is told in text only if the Bool is true.
unfoldable pub key_line_with : Bool → Standing → List Piece
key_line_with is_told standing =
    word (codes "") (codes "key") standing.key.attrs.name
    ∷ word (codes " ") (codes "target") (target_word standing.key.target)
    ∷ number (codes " ") (codes "done") standing.known.done
    ∷ number (codes "/") (codes "of") (chain_length standing.key)
    ∷ word (codes " ") (codes "verdict") (verdict_word standing.verdict)
    ∷ told_if is_told (shown_or (codes " ") (codes "identifier") (codes " -") standing.known.identifier)
    ∷ []

-- The line of a key in a listing.
abbrev pub key_line : Standing → List Piece
key_line standing = key_line_with true standing

-- The last line: how many keys are finished, and how many there are.
unfoldable pub finished_line : List Key → List Verdict → List Piece
finished_line keys verdicts =
    number (codes "finished ") (codes "finished") (finished_count verdicts)
    ∷ number (codes " of ") (codes "of") (length keys)
    ∷ []

-- The lines of the keys by these verdicts, and the last line.
abbrev pub list_lines_by : List Verdict → List Key → List Known → List (List Piece)
list_lines_by verdicts keys saved = map key_line (standings keys saved verdicts) ++ finished_line keys verdicts ∷ []

-- The listing of what a client knows: the counts and identifiers that are saved of it, by its verdicts.
abbrev pub client_listing : ClientState → List (List Piece)
client_listing client = list_lines_by (verdicts_of client.keys client.knowns) client.keys (progress client)

-- The listing of a progress: that of a client that begins with it.
abbrev pub saved_listing : List Key → List Known → List (List Piece)
saved_listing keys saved = client_listing (resume keys saved)
