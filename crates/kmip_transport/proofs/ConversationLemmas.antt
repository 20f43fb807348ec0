-- What one step makes of what is held and of what is to be written.
use Rattle.std.proofs.Common.{◌≡◌, ◌+◌, ◌≤◌, length, ℕ, ℤ, List, [], ◌∷◌, ◌++◌, drop, take, Option, Result, Err, refl, sym, ap, subst, ◌∙◌}
use Rattle.std.specs.Io.KnownBytes.{Appends, Keeps}
use Rattle.std.proofs.KnownBytes.{Consumes-nil, Appends-nil, Appends-kept}
use Rattle.std.proofs.lemmas.List.{append-nil, drop-drop, drop_all, take-append-drop}
use Rattle.kmip_frames.specs.Streams.{IsMessage}
use Rattle.kmip_server.specs.Batching.{batch_reply, stock_after_batch}
use Rattle.kmip_protocol.specs.declared.link_fault.LinkFault.{LinkFault}
use Rattle.kmip_protocol.specs.declared.link_fault.LinkFault.TheVariants.{Io, Frame, NoMemory}
use Rattle.kmip_store.specs.Stock.{Stock}
use Rattle.kmip_transport.specs.Conversations.{Talk, Converses}
use Rattle.kmip_transport.specs.Receiving.{IsUnfinished}
use Rattle.kmip_transport.specs.Private.{Takes, IsHandedOver}
use Rattle.kmip_transport.specs.PrivateConversations.{Puts}

-- it wrote, and nothing else
pub wrote : (now : ℤ) (s : Stock) (a b : Talk) (x w v : Option (List ℕ)) → b.held ≡ a.held → Puts a.unsent b.unsent w v → Converses now s s a b x x w v
wrote now s a b x w v held put = record {
  messages = [];
  read = [];
  sent = put.sent;
  consumed = Consumes-nil x;
  cut = append-nil a.held ∙ sym held;
  each = tt;
  records = refl;
  put = put.put;
  replied = append-nil a.unsent ∙ put.is;
}

-- it read, and nothing else
pub took : (now : ℤ) (s : Stock) (a b : Talk) (x y w : Option (List ℕ)) (held same : List ℕ) → a.held ≡ held → IsUnfinished held × (same ≡ held)
    → b.unsent ≡ a.unsent → Takes same b.held x y → Converses now s s a b x y w w
took now s a b x y w held same is unfinished unsent takes = record {
  messages = [];
  read = takes.read;
  sent = [];
  consumed = takes.consumed;
  cut = ap (λ h. h ++ takes.read) (is ∙ sym unfinished.1) ∙ sym takes.joined;
  each = tt;
  records = refl;
  put = Appends-nil w;
  replied = append-nil a.unsent ∙ sym unsent;
}

-- it did nothing
pub stayed : (now : ℤ) (s : Stock) (a b : Talk) (x w : Option (List ℕ)) → b.held ≡ a.held → b.unsent ≡ a.unsent → Converses now s s a b x x w w
stayed now s a b x w held unsent = record {
  messages = [];
  read = [];
  sent = [];
  consumed = Consumes-nil x;
  cut = append-nil a.held ∙ sym held;
  each = tt;
  records = refl;
  put = Appends-nil w;
  replied = append-nil a.unsent ∙ sym unsent;
}

-- it answered the message that was held
pub answered : (now : ℤ) (s t : Stock) (a b : Talk) (x w : Option (List ℕ)) (held none message shown : List ℕ) → a.held ≡ held
    → IsMessage held × (message ≡ held) × (none ≡ []) → b.held ≡ none → a.unsent ≡ [] → shown ≡ message
    → t ≡ stock_after_batch s shown → b.unsent ≡ batch_reply s shown now → Converses now s t a b x x w w
answered now s t a b x w held none message shown is handed after empty same records reply =
    let all : shown ≡ a.held = same ∙ handed.1 ∙ sym is in
    let nothing : b.held ≡ [] = after ∙ handed.2 in
    record {
      messages = a.held ∷ [];
      read = [];
      sent = [];
      consumed = Consumes-nil x;
      cut = sym (append-nil (a.held ++ [])) ∙ ap (λ h. (a.held ++ []) ++ h) (sym nothing);
      each = (subst IsMessage (sym is) handed.0, tt);
      records = records ∙ ap (λ m. stock_after_batch s m) all;
      put = Appends-nil w;
      replied = ap (λ u. u ++ (batch_reply s a.held now ++ [])) empty ∙ append-nil (batch_reply s a.held now)
          ∙ ap (λ m. batch_reply s m now) (sym all) ∙ sym reply;
    }

-- some bytes of the reply, from where it was written
pub put_some : (written count : ℕ) (items before buffer : List ℕ) (w m v : Option (List ℕ)) → before ≡ drop written items → buffer ≡ drop written items
    → Appends w m (take count buffer) → Keeps m v → Puts before (drop (written + count) items) w v
put_some written count items before buffer w m v is same put kept = record {
  sent = take count (drop written items);
  put = Appends-kept w m v (take count (drop written items)) (subst (λ b. Appends w m (take count b)) same put) kept;
  is = is ∙ sym (take-append-drop count (drop written items))
      ∙ ap (λ rest. take count (drop written items) ++ rest) (drop-drop count written items);
}

-- where nothing is handed over for a fault, all is still held
pub still_held : {M : Type 0} (bytes : M → List ℕ) (result : Result (Option M) LinkFault) (fault : LinkFault) (old new : List ℕ) → result ≡ Err fault
    → IsHandedOver bytes result old new → new ≡ old
still_held bytes result fault old new is handed = in_case bytes fault old new (subst (λ r. IsHandedOver bytes r old new) is handed)
  where
    in_case : {M : Type 0} (bytes : M → List ℕ) (fault : LinkFault) (old new : List ℕ) → IsHandedOver bytes (Err fault) old new → new ≡ old
    in_case bytes Io old new handed = absurd handed
    in_case bytes Frame old new handed = handed.1
    in_case bytes NoMemory old new handed = handed.1

-- a reply of which all is written
pub all_written : (written : ℕ) (items unsent : List ℕ) → unsent ≡ drop written items → length items ≤ written → unsent ≡ []
all_written written items unsent is all = is ∙ drop_all written items all

-- where no message is at the front of what is held, what is held is not a message
pub no_message_waits : (a held same : List ℕ) → a ≡ held → IsUnfinished held × (same ≡ held) → IsMessage a → ⊥
no_message_waits a held same is unfinished message =
    unfinished.0.1 held [] (sym (append-nil held)) (subst IsMessage is message)
