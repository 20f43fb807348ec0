-- The report of a simulation: how its runs ended, what was requested, and the objects at the end; or why it was refused.
-- Source: own (text): what the program prints.
use Rattle.std.specs.Prelude.{ℕ, ◌+◌, Bool, true, not, List, [], ◌∷◌, ◌++◌, codes, map, string_bytes, Option, Some, None, Result, Ok, Err}
use Rattle.std.specs.Str.Lines.{lines}
use Rattle.std.specs.Str.Lossy.{utf8_lossy}
use Rattle.serde_json.specs.Data.{null, string}
use Rattle.kmip_ttlv.specs.declared.no_memory.NoMemory.{NoMemory}
use Rattle.kmip_objects.specs.Objects.{Object}
use Rattle.kmip_batch_items.specs.declared.request.Request.{Request}
use Rattle.kmip_messages.specs.Items.{requests_in}
use Rattle.kmip_server.specs.Shown.{objects_in}
use Rattle.kmip_runs.specs.Stops.{stop_name}
use Rattle.kmip_runs.specs.declared.campaign_end.CampaignEnd.{CampaignEnd}
use Rattle.kmip_runs.specs.declared.run_end.RunEnd.{RunEnd}
use Rattle.kmip_scripted.specs.Scenes.{Scene}
use Rattle.kmip_report.specs.Documents.{words_of}
use Rattle.kmip_report.specs.Pieces.{Piece, listed, noted, number, report_in, said, word}
use Rattle.kmip_report.specs.declared.form.Form.{Form}
use Rattle.kmip_report.specs.declared.form.Form.TheVariants.{Text, Json}
use Rattle.kmip_trace.specs.Names.{state_word}
use Rattle.kmip_trace.specs.Questions.{request_text, requests_text}
use Rattle.kmip_choices.specs.declared.detail.Detail.{Detail}
use Rattle.kmip_choices.specs.declared.detail.Detail.TheVariants.{Runs, Exchanges, Diagram}
use Rattle.kmip_simulation.specs.Diagram.{diagram_text}
use Rattle.kmip_simulation.specs.Simulating.{is_last_finished}
use Rattle.kmip_simulation.specs.Tracing.{trace_text}
use Rattle.kmip_simulation.specs.declared.simulation.Simulation.{Simulation}
use Rattle.kmip_sim_command.specs.declared.sim_end.SimEnd.{SimEnd}
use Rattle.kmip_sim_command.specs.declared.sim_end.SimEnd.TheVariants.{ProlongsNot, ScriptRefused, CrashRefused, Ran}

-- The lines of things one after the other, each with its number, from this one on.
abbrev pub numbered_lines : {X : Type 0} → (ℕ → X → List (List Piece)) → ℕ → List X → List (List Piece)
numbered_lines lines_of n [] = []
numbered_lines lines_of n (x ∷ xs) = lines_of n x ++ numbered_lines lines_of (n + 1) xs

-- ---- the runs

-- The line of a run of this number: why it stopped, after how many exchanges, and the lines of its report.
unfoldable pub run_line : ℕ → RunEnd → List Piece
run_line n end =
    number (codes "run ") (codes "run") n
    ∷ word (codes " ") (codes "end") (stop_name end.stop)
    ∷ number (codes " ") (codes "exchanges") end.exchanges
    ∷ listed (codes "") (codes "report") (lines (string_bytes end.report))
    ∷ []

-- The same as a list of lines.
abbrev pub lines_of_run : ℕ → RunEnd → List (List Piece)
lines_of_run n end = run_line n end ∷ []

-- The runs that have ended, from 1.
abbrev pub run_lines : List RunEnd → List (List Piece)
run_lines ends = numbered_lines lines_of_run 1 ends

-- ---- what was requested

-- What a request asks, and of which key. U+FFFD stands for bytes of the name that are not UTF-8.
abbrev pub request_word : Request → List ℕ
request_word request = utf8_lossy (request_text request)

-- The line of the requests of the message of this number.
unfoldable pub ask_line : ℕ → List Request → List Piece
ask_line n requests =
    number (codes "ask ") (codes "ask") n
    ∷ said (codes " ")
    ∷ said (requests_text requests)
    ∷ noted (codes "requests") (words_of (map request_word requests))
    ∷ []

-- That line, if there are requests.
abbrev pub lines_of_requests : ℕ → List Request → List (List Piece)
lines_of_requests n [] = []
lines_of_requests n (request ∷ others) = ask_line n (request ∷ others) ∷ []

-- The same of a message as it was sent.
abbrev pub lines_of_message : ℕ → List ℕ → List (List Piece)
lines_of_message n message = lines_of_requests n (requests_in message)

-- The messages that were sent, from 1.
abbrev pub ask_lines : List (List ℕ) → List (List Piece)
ask_lines messages = numbered_lines lines_of_message 1 messages

-- ---- the objects

-- The line of an object: its identifier, its name and its state.
unfoldable pub record_line : Object → List Piece
record_line o =
    word (codes "record ") (codes "record") o.uid
    ∷ word (codes " ") (codes "name") o.attrs.name
    ∷ word (codes " ") (codes "state") (state_word o.state)
    ∷ []

-- The objects of the server, in the order in which they were created.
abbrev pub record_lines : List Object → List (List Piece)
record_lines objects = map record_line objects

-- ---- a simulation

-- What is reported after the runs: nothing if memory ran out in one.
abbrev pub link_lines : Option NoMemory → Scene → List (List Piece)
link_lines None link = ask_lines link.asked ++ record_lines (objects_in link.stock)
link_lines (Some want) link = []

-- The report of a campaign that ended so over a link.
abbrev pub campaign_lines : CampaignEnd → Scene → List (List Piece)
campaign_lines end link = run_lines end.runs.items ++ link_lines end.fault link

-- The report of a simulation.
abbrev pub simulation_lines : Simulation → List (List Piece)
simulation_lines s = campaign_lines s.end s.link

-- ---- what is refused

-- The line of a further plan that does not prolong the plan.
unfoldable pub prolongs_not_line : List Piece
prolongs_not_line =
    word (codes "") (codes "fault") (codes "plan refused")
    ∷ said (codes ": prolongs not")
    ∷ noted (codes "at") null
    ∷ noted (codes "why") (string (codes "it does not prolong the plan before"))
    ∷ noted (codes "cause") null
    ∷ []

-- The line of a script that is refused for this line.
unfoldable pub script_line : ℕ → List Piece
script_line n =
    word (codes "") (codes "fault") (codes "script refused")
    ∷ number (codes ": line ") (codes "line") n
    ∷ noted (codes "at") null
    ∷ noted (codes "why") null
    ∷ noted (codes "cause") null
    ∷ []

-- The line of the run of this number, whose disk does not allow its crash.
unfoldable pub crash_line : ℕ → List Piece
crash_line n =
    word (codes "") (codes "fault") (codes "crash refused")
    ∷ number (codes ": run ") (codes "run") n
    ∷ said (codes ": its disk makes fewer calls, or leaves no such file")
    ∷ noted (codes "at") null
    ∷ noted (codes "why") null
    ∷ noted (codes "cause") null
    ∷ []

-- The report of the end of a simulation: why the further plan, the script or a crash is refused, or the simulation.
abbrev pub sim_report : SimEnd → List (List Piece)
sim_report ProlongsNot = prolongs_not_line ∷ []
sim_report (ScriptRefused n) = script_line n ∷ []
sim_report (CrashRefused n) = crash_line n ∷ []
sim_report (Ran s) = simulation_lines s

-- ---- in more detail

-- A simulation in text, in a detail. If memory ran out in a run, it is the report of the runs before it, in each detail.
abbrev pub detailed_text : Detail → Option NoMemory → Simulation → List ℕ
detailed_text Runs fault s = report_in Text (simulation_lines s)
detailed_text Exchanges None s = trace_text s.words s.link ++ report_in Text (simulation_lines s)
detailed_text Exchanges (Some want) s = report_in Text (simulation_lines s)
detailed_text Diagram None s = diagram_text s.words s.link
detailed_text Diagram (Some want) s = report_in Text (simulation_lines s)

-- A simulation in a form and a detail. JSON has one detail.
abbrev pub simulation_text : Form → Detail → Simulation → List ℕ
simulation_text Text detail s = detailed_text detail s.end.fault s
simulation_text Json detail s = report_in Json (simulation_lines s)

-- What is printed of the end of a simulation, in a form and a detail.
abbrev pub sim_text : Form → Detail → SimEnd → List ℕ
sim_text form detail ProlongsNot = report_in form (sim_report ProlongsNot)
sim_text form detail (ScriptRefused n) = report_in form (sim_report (ScriptRefused n))
sim_text form detail (CrashRefused n) = report_in form (sim_report (CrashRefused n))
sim_text form detail (Ran s) = simulation_text form detail s

-- ---- the outcome

-- How a campaign ended: memory ran out, or its last run left a key unfinished or did not.
abbrev pub ended_by : Option NoMemory → Bool → Result Bool NoMemory
ended_by None finished = Ok (not finished)
ended_by (Some want) finished = Err want

-- How the campaign of this end ended.
abbrev pub campaign_outcome : CampaignEnd → Result Bool NoMemory
campaign_outcome end = ended_by end.fault (is_last_finished end.runs.items)

-- True if something is refused or left unfinished; or memory ran out in a run.
abbrev pub sim_outcome : SimEnd → Result Bool NoMemory
sim_outcome ProlongsNot = Ok true
sim_outcome (ScriptRefused n) = Ok true
sim_outcome (CrashRefused n) = Ok true
sim_outcome (Ran s) = campaign_outcome s.end
