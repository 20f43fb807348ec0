-- Looks before a run, one after the other.
use Rattle.std.proofs.Common.{◌≡◌, ℕ, List, [], ◌++◌, append-nil, append_assoc, ap, sym, ◌∙◌, arith}
use Rattle.std.specs.List.{All}
use Rattle.std.proofs.lemmas.List.Elements.{All-append, All-nil}
use Rattle.kmip_client.specs.Clients.{ClientState}
use Rattle.kmip_look.specs.Looks.{AsksLooks, BeginsNoName, KeepsSound, SoundStays}
use Rattle.kmip_plan.specs.declared.key.Key.{Key}
use Rattle.kmip_protocol.specs.Past.{Names}
use Rattle.kmip_protocol.specs.Seen.{Seen}
use Rattle.kmip_refresh.specs.KnownKeys.{keys_of}
use Rattle.kmip_refresh.specs.Refreshing.{LooksAlone}
use Rattle.kmip_refresh.specs.declared.key_look.KeyLook.{KeyLook}
use Rattle.kmip_desk.specs.DeskRuns.{HasLooked, IsLookMessage, LastLook, OnlyLooks, known_of}

-- ---- what is sound

sound_still : (seen : Seen) → SoundStays seen seen
sound_still seen = λ plan lawful amid sound. record {
  still = amid;
  sound = sound;
  onward = λ key planned. record { uid_stays = λ uid is. is; never_falls = omega arith };
}

sound_then : (old between new : Seen) → SoundStays old between → SoundStays between new → SoundStays old new
sound_then old between new first second = λ plan lawful amid sound.
    let one = first plan lawful amid sound in
    let two = second plan lawful one.still one.sound in
    record {
      still = two.still;
      sound = two.sound;
      onward = λ key planned.
          let early = one.onward key planned in
          let late = two.onward key planned in
          record {
            uid_stays = λ uid is. late.uid_stays uid (early.uid_stays uid is);
            never_falls = omega (arith, early.never_falls, late.never_falls);
          };
    }

-- ---- what was sent

-- nothing
pub none_looked : (keys : List Key) (seen : Seen) → OnlyLooks keys seen seen
none_looked keys seen = record {
  looked = λ names honest. record {
    still = honest;
    messages = [];
    sent = sym (append-nil seen.past.sent);
    look = All-nil (IsLookMessage keys);
  };
  sound = sound_still seen;
}

-- one look
pub one_looked : (keys : List Key) (mark : List ℕ) (old new : Seen) → BeginsNoName mark → KeepsSound mark old new
    → ((names : Names) → old.honest names → LooksAlone names keys mark old new)
    → OnlyLooks keys old new
one_looked keys mark old new begins keeps alone = record {
  looked = λ names honest.
      let all = alone names honest in
      record {
        still = all.still;
        messages = all.sends.messages;
        sent = all.sends.sent;
        look = λ k d lt. (mark, all.sends.look k d lt);
      };
  sound = keeps begins;
}

-- looks, and then more
pub then_looked : (keys : List Key) (old between new : Seen) → OnlyLooks keys old between → OnlyLooks keys between new
    → OnlyLooks keys old new
then_looked keys old between new first second = record {
  looked = λ names honest.
      let one = first.looked names honest in
      let two = second.looked names one.still in
      record {
        still = two.still;
        messages = one.messages ++ two.messages;
        sent = two.sent ∙ ap (λ sent. sent ++ two.messages) one.sent
            ∙ append_assoc old.past.sent one.messages two.messages;
        look = All-append (IsLookMessage keys) one.messages two.messages one.look two.look;
      };
  sound = sound_then old between new first.sound second.sound;
}

-- the last look after others
pub last_after : {L : Type 0} (seen : L → Seen) (client : ClientState) (old between : L) (looks : List KeyLook) (new : L)
    → OnlyLooks (keys_of (known_of client)) (seen old) (seen between) → LastLook seen client between looks new
    → LastLook seen client old looks new
last_after seen client old between looks new before last = record {
  alone = then_looked (keys_of (known_of client)) (seen old) (seen between) (seen new) before last.alone;
  from = last.from;
  mark = last.mark;
  judged = last.judged;
  stood = last.stood;
  finished = last.finished;
}
