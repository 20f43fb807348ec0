-- What happens over a link among other clients of the plan: between two moments they may ask what is justified,
-- or look.
-- Source: own (view), over KMIP 2.1, Operations. What others may do is own (choice).
use Rattle.std.specs.Prelude.{[], ◌∷◌, ◌≡◌, ◌⊎◌, Err, IfSome, List, None, Ok, Option, Result, ⊤, ℕ}
use Rattle.std.specs.List.{All}
use Rattle.kmip_batch_items.specs.declared.request.Request.{Request}
use Rattle.kmip_plan.specs.declared.key.Key.{Key}
use Rattle.kmip_protocol.specs.declared.link_fault.LinkFault.{LinkFault}
use Rattle.kmip_protocol.specs.declared.link_fault.LinkFault.TheVariants.{Frame, Io, NoMemory}
use Rattle.kmip_protocol.specs.Exchanges.{AreGiven, with_asked, with_exchange, with_requests}
use Rattle.kmip_protocol.specs.Moves.{MayHappen, Move, after_move}
use Rattle.kmip_protocol.specs.Past.{Past, is_planned}
use Rattle.kmip_protocol.specs.Sound.{IsHarmless}

-- What may happen meanwhile.
pub data Meanwhile : Type 0 where
  -- others ask these requests
  OthersAsk : List Request → Meanwhile
  -- the network or the server does something
  Occurs : Move → Meanwhile

-- The past after it.
abbrev pub after_meanwhile : Meanwhile → Past → Past
after_meanwhile (OthersAsk requests) p = with_requests requests p
after_meanwhile (Occurs move) p = after_move move p

-- When it may happen. Others ask what may be asked, as a client that knows the truth does, or they look.
abbrev pub MayBe : List Key → Meanwhile → Past → Type 0
MayBe keys (OthersAsk requests) p = All (IsHarmless keys p.objects) requests
MayBe keys (Occurs move) p = MayHappen (is_planned keys) move p

-- All of it may happen, one after the other.
abbrev pub AllMayBe : List Key → List Meanwhile → Past → Type 0
AllMayBe keys [] p = ⊤
AllMayBe keys (one ∷ more) p = MayBe keys one p × AllMayBe keys more (after_meanwhile one p)

-- The past after all of it.
abbrev pub after_all : List Meanwhile → Past → Past
after_all [] p = p
after_all (one ∷ more) p = after_all more (after_meanwhile one p)

-- Any number of these have happened, in any order.
pub record PassedAmid (keys : List Key) (old new : Past) : Type 0 where
  pub meanwhile : List Meanwhile
  pub may : AllMayBe keys meanwhile old
  pub is : new ≡ after_all meanwhile old

-- The past with other lists of what was sent and handed over.
abbrev pub with_talk : List (List ℕ) → List (Option (List ℕ)) → Past → Past
with_talk sent handed p = record p { sent = sent; handed = handed }

-- What others see of the past: nothing of what was sent and handed over here.
abbrev pub seen_by_others : Past → Past
seen_by_others p = with_talk [] [] p

-- The requests of a message join those asked, things happen and others ask, and an answer is handed over: none, or
-- a message whose replies were all given some time.
pub record HandsOverAmid (keys : List Key) (old : Past) (sent : List ℕ) (answer : Option (List ℕ)) (new : Past) : Type 0 where
  pub between : Past
  pub passed : PassedAmid keys (with_asked sent old) between
  pub given : IfSome answer (AreGiven between)
  pub is : new ≡ with_exchange sent answer between

-- What an exchange among others does, by what the call returned; where memory ran out, a beginning of it.
abbrev pub ExchangedAmid : List Key → Past → List ℕ → Result (Option (List ℕ)) LinkFault → Past → Type 0
ExchangedAmid keys old sent (Ok answer) new = HandsOverAmid keys old sent answer new
ExchangedAmid keys old sent (Err Io) new = HandsOverAmid keys old sent None new
ExchangedAmid keys old sent (Err Frame) new = HandsOverAmid keys old sent None new
ExchangedAmid keys old sent (Err NoMemory) new = PassedAmid keys old new ⊎ PassedAmid keys (with_asked sent old) new
