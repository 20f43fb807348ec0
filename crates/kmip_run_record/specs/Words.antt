-- The words for why an exchange brought no reply.
-- Source: own (text): what the program prints.
use Rattle.std.specs.Prelude.{ℕ, List, ◌++◌, codes, Option, Some, None, option_map}
use Rattle.std.specs.Fmt.{decimal}
use Rattle.kmip_run_record.specs.declared.failure.Failure.{Failure}
use Rattle.kmip_run_record.specs.declared.failure.Failure.TheVariants.{Refused, Late, Closed}
use Rattle.kmip_run_record.specs.declared.peer_talk.PeerTalk.{PeerTalk}
use Rattle.kmip_run_record.specs.declared.peer_talk.PeerTalk.TheVariants.{Tls, Http}
use Rattle.kmip_run_record.specs.declared.silence.Silence.{Silence}
use Rattle.kmip_run_record.specs.declared.silence.Silence.TheVariants.{Failed, Cut, NoKmip, TooLong, NoMemory}

-- What is said of what a peer speaks, after that it is not KMIP.
abbrev pub talk_text : PeerTalk → List ℕ
talk_text Tls = codes ": it answers in TLS"
talk_text Http = codes ": it answers in HTTP"
talk_text talk = codes ""

-- The words for a failure of a stream; none for an error of the system, whose words are the system's.
abbrev pub failure_text : Failure → ℕ → Option (List ℕ)
failure_text Refused timeout = Some (codes "the connection was refused")
failure_text Late timeout = Some (codes "timed out after " ++ decimal timeout ++ codes " s")
failure_text Closed timeout = Some (codes "the connection was closed before a reply (if there is a tunnel, see its log)")
failure_text failure timeout = None

-- The words for a reply of so many bytes, of which there may be so many.
abbrev pub too_long_text : ℕ → ℕ → List ℕ
too_long_text size limit = codes "the reply is too long: " ++ (decimal size ++ (codes " bytes, limit " ++ decimal limit))

-- Why no reply came, in a sentence; none if the words are the system's, or those of a fault.
abbrev pub silence_text : Silence → ℕ → Option (List ℕ)
silence_text (Failed failure) timeout = failure_text failure timeout
silence_text Cut timeout = Some (codes "the connection was closed within a reply")
silence_text (NoKmip talk) timeout = Some (codes "the server did not reply in KMIP" ++ talk_text talk)
silence_text (TooLong size) timeout = Some (too_long_text size 8192)
silence_text NoMemory timeout = Some (codes "out of memory")
silence_text silence timeout = None

-- The same in a word or two; none if the words are the system's.
abbrev pub brief_text : Silence → Option (List ℕ)
brief_text (Failed Refused) = Some (codes "connection refused")
brief_text (Failed Late) = Some (codes "timed out")
brief_text (Failed Closed) = Some (codes "connection closed")
brief_text (Failed failure) = None
brief_text Cut = Some (codes "connection closed within a reply")
brief_text (NoKmip talk) = Some (codes "not KMIP")
brief_text (TooLong size) = Some (codes "reply too long")
brief_text NoMemory = Some (codes "out of memory")
brief_text silence = Some (codes "unreadable reply")

-- What an exchange brought in place of a reply.
abbrev pub told_text : Silence → ℕ → Option (List ℕ)
told_text silence timeout = option_map (λ words. codes "no reply, " ++ words) (silence_text silence timeout)
