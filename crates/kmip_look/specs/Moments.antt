-- A moment between two pasts, and that something was so at one.
-- Source: own (view), over KMIP 2.1, Operations.
use Rattle.std.specs.Prelude.{ℕ, List, Option, IfSome}
use Rattle.kmip_plan.specs.declared.key.Key.{Key}
use Rattle.kmip_protocol.specs.Exchanges.{AreGiven, with_asked, with_exchange}
use Rattle.kmip_protocol.specs.Moves.{Delivered}
use Rattle.kmip_protocol.specs.Past.{Names, Past}
use Rattle.kmip_look.specs.Standings.{StandsSo}
use Rattle.kmip_look.specs.declared.looked.Looked.{Looked}

-- The one past may come of the other over a link that is honest for some names.
pub data IsLater (names : Names) : Past → Past → Type 0 where
  -- things happen, or none
  delivered : {old new : Past} → Delivered names old new → IsLater names old new
  -- the requests of a message are asked
  asked : {p : Past} (sent : List ℕ) → IsLater names p (with_asked sent p)
  -- an answer is handed over: none, or a message whose replies were all given
  exchanged : {p : Past} (sent : List ℕ) (answer : Option (List ℕ)) → IfSome answer (AreGiven p) → IsLater names p (with_exchange sent answer p)
  -- one after the other
  onward : {first second third : Past} → IsLater names first second → IsLater names second third → IsLater names first third

-- At some moment from the one past to the other, the key stood as the look says.
abbrev pub WasSo : Names → Past → Past → Key → Looked → Type 0
WasSo names old new key looked =
    (then : Past) × IsLater names old then × IsLater names then new × StandsSo then.objects key looked
