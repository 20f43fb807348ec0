-- What one read adds to what is held.
use Rattle.std.proofs.Common.{◌≡◌, ◌≢◌, ℕ, ◌+◌, ◌≤◌, ◌<◌, List, [], ◌++◌, length, take, Option, Result, Ok, Err, inl, inr, refl, sym, ap, subst, ◌∙◌, arith}
use Rattle.std.specs.Io.KnownBytes.{Consumes, Keeps}
use Rattle.std.proofs.KnownBytes.{Consumes-nil, Consumes-trans, Consumes-kept}
use Rattle.std.proofs.lemmas.Bool.{cases_lt}
use Rattle.std.proofs.lemmas.List.{length-append, length-take, append-nil, take_all}
use Rattle.std.proofs.Common.{append_assoc, min}
use Rattle.kmip_ttlv.specs.Limits.{head_size}
use Rattle.kmip_frames.specs.Framing.{size_needed, wants, held_after, count_taken}
use Rattle.kmip_frames.specs.Laws.{ShortBytesLackAHead, SizesAreBounded, MoreChangesNothing}
use Rattle.kmip_protocol.specs.declared.link_fault.LinkFault.{LinkFault}
use Rattle.kmip_protocol.specs.declared.link_fault.LinkFault.TheVariants.{Io, Frame, NoMemory}
use Rattle.kmip_transport.specs.Private.{Takes, IsHandedOver}
use Rattle.kmip_transport.specs.Receiving.{IsUnfinished, Receives}

-- a piece that is no longer than what is lacking is taken whole
pub whole_piece : ShortBytesLackAHead → SizesAreBounded → MoreChangesNothing
    → (held piece : List ℕ) → length piece ≤ wants held → count_taken held piece ≡ length piece
whole_piece short bounds more held piece fits =
    let size : length (held ++ piece) ≡ length held + length piece = length-append held piece in
    let least : head_size ≤ size_needed (held ++ piece) = (bounds (held ++ piece)).0 in
    elim (cases_lt (length held) head_size) [
      | inl few ↦ (let needed : size_needed held ≡ head_size = (short held few).1 in omega arith)
      | inr many ↦ (let needed : size_needed (held ++ piece) ≡ size_needed held = (more held piece many).1 in omega arith)
    ]

-- so all of it joins what was held
pub piece_held : ShortBytesLackAHead → SizesAreBounded → MoreChangesNothing
    → (held piece : List ℕ) → length piece ≤ wants held → held_after held piece ≡ held ++ piece
piece_held short bounds more held piece fits =
    ap (λ n. held ++ take n piece) (whole_piece short bounds more held piece fits) ∙ ap (λ p. held ++ p) (take_all (length piece) piece (omega arith))

-- a read that gave these bytes, which were all taken
pub takes_piece : ShortBytesLackAHead → SizesAreBounded → MoreChangesNothing
    → (held new piece : List ℕ) (unread left : Option (List ℕ)) → length piece ≤ wants held → new ≡ held_after held piece
    → Consumes unread left piece → Takes held new unread left
takes_piece short bounds more held new piece unread left fits is consumed = record {
  read = piece;
  consumed = consumed;
  joined = is ∙ piece_held short bounds more held piece fits;
}

-- one more piece
pub Takes-trans : (a b c : List ℕ) (x y z : Option (List ℕ)) → Takes a b x y → Takes b c y z → Takes a c x z
Takes-trans a b c x y z one two = record {
  read = one.read ++ two.read;
  consumed = Consumes-trans x y z one.read two.read one.consumed two.consumed;
  joined = two.joined ∙ ap (λ p. p ++ two.read) one.joined ∙ append_assoc a one.read two.read;
}

-- nothing yet
pub Takes-refl : (a : List ℕ) (x : Option (List ℕ)) → Takes a a x x
Takes-refl a x = record { read = []; consumed = Consumes-nil x; joined = sym (append-nil a) }

-- a read that failed
pub Takes-kept : (a b : List ℕ) (x y : Option (List ℕ)) → b ≡ a → Keeps x y → Takes a b x y
Takes-kept a b x y same kept = record {
  read = [];
  consumed = Consumes-kept x x y [] (Consumes-nil x) kept;
  joined = same ∙ sym (append-nil a);
}

-- one more piece, where what was held still is
pub takes_on : (a b c d : List ℕ) (x y z : Option (List ℕ)) → Takes a b x y → c ≡ b → Takes c d y z → Takes a d x z
takes_on a b c d x y z one same two = Takes-trans a b d x y z one (subst (λ held. Takes held d y z) same two)

-- reading broke off
pub received_no_more : {M : Type 0} (bytes : M → List ℕ) (fault : LinkFault) (a b c d : List ℕ) (x y z : Option (List ℕ)) → Takes a b x y
    → IsUnfinished b × (c ≡ b) → Takes c d y z → (fault ≡ Io) × (d ≡ c) → Receives bytes (Err fault) a d x z
received_no_more bytes fault a b c d x y z one unfinished two (io, kept) =
    let same : d ≡ b = kept ∙ unfinished.1 in
    let whole = takes_on a b c d x y z one unfinished.1 two in
    rw io (record {
      read = whole.read;
      consumed = whole.consumed;
      answered = rw (← whole.joined) (rw (← same) at unfinished.0, refl);
    })

-- room for no more than is wanted
pub fits : (size own most said : ℕ) (room : List ℕ) → size ≡ min own most → own ≡ said → length (take size room) ≤ said
fits size own most said room is same = omega (arith, length-take size room)

-- a piece of some bytes makes what is held longer
pub grows : ShortBytesLackAHead → SizesAreBounded → MoreChangesNothing
    → (held new piece : List ℕ) → length piece ≤ wants held → new ≡ held_after held piece → 0 < length piece → length held < length new
grows short bounds more held new piece fits is some =
    let size : length new ≡ length held + length piece = ap length (is ∙ piece_held short bounds more held piece fits) ∙ length-append held piece in
    omega arith

-- what is handed over, or why nothing is, is no failure
pub handed_is_no_io : {M : Type 0} (bytes : M → List ℕ) (result : Result (Option M) LinkFault) (old new : List ℕ) → IsHandedOver bytes result old new
    → result ≢ Err Io
handed_is_no_io bytes (Ok answer) old new handed is = absurd cc
handed_is_no_io bytes (Err Io) old new handed is = absurd handed
handed_is_no_io bytes (Err Frame) old new handed is = absurd cc
handed_is_no_io bytes (Err NoMemory) old new handed is = absurd cc
