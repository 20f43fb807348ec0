-- The words so far, and then those of the requests that are left, are all of them.
use Rattle.std.proofs.Common.{◌≡◌, ◌++◌, drop, map, string_bytes}
use Rattle.kmip_sim_command.specs.SimReport.{request_word}
use Rattle.kmip_sim_command.proofs.words.request_words.Given as goal

abbrev pub invariant-loop-request : goal.invariant-loop-request
invariant-loop-request l =
    map string_bytes l.words.items ++ map request_word (drop l.request-index l.requests) ≡ map request_word l.requests
