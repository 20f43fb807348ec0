-- Asking, handing over and whole exchanges keep what is sound; and where nothing was done, all is sound.
use Rattle.std.proofs.Common.{◌≡◌, ℕ, List, [], ◌++◌, take, Option, Some, None, Result, Ok, Err, sym, ap, subst, ◌∙◌, inl, inr}
use Rattle.std.specs.List.{All, Contains}
use Rattle.std.proofs.lemmas.List.Elements.{All-append, All-contains, All-nil, All-weaker, Contains-append_left}
use Rattle.kmip_messages.specs.Items.{requests_in, replies_in}
use Rattle.kmip_objects.specs.Objects.{Object}
use Rattle.kmip_batch_items.specs.declared.reply.Reply.{Reply}
use Rattle.kmip_batch_items.specs.declared.request.Request.{Request}
use Rattle.kmip_plan.specs.Chains.{chain}
use Rattle.kmip_plan.specs.declared.key.Key.{Key}
use Rattle.kmip_client.specs.Places.{Onward}
use Rattle.kmip_client.specs.Truth.{TrueMessage, TrueReply}
use Rattle.kmip_server.specs.declared.effect.Effect.{Effect}
use Rattle.kmip_protocol.specs.declared.link_fault.LinkFault.{LinkFault}
use Rattle.kmip_protocol.specs.declared.link_fault.LinkFault.TheVariants.{Io, Frame, NoMemory}
use Rattle.kmip_protocol.specs.Exchanges.{AreGiven, Exchanged, HandsOver, with_asked, with_exchange, with_requests}
use Rattle.kmip_protocol.specs.PrivateLawbook.{Lawbook}
use Rattle.kmip_protocol.specs.Past.{Past, is_planned, steps_on}
use Rattle.kmip_protocol.specs.Sound.{HarmlessMessage, IsHarmless, Opening, Sound, TrueAnswer}
use Rattle.kmip_protocol.proofs.ChangeLemmas.{place_in}
use Rattle.kmip_protocol.proofs.KeepingLemmas.{delivered_keeps}

answer_more : (keys : List Key) (objects : List Object) (requests more : List Request) (reply : Reply) → TrueAnswer keys objects requests reply
    → TrueAnswer keys objects (requests ++ more) reply
answer_more keys objects requests more reply answer = record {
  holds = answer.holds;
  echoes = elim (answer.echoes) [
    | inl failed ↦ inl failed
    | inr echo ↦ inr (record {
      request = echo.request;
      asked = Contains-append_left requests more echo.request echo.asked;
      operation_is = echo.operation_is;
      id_is = echo.id_is;
    })
  ];
}

pub asked_sound : (keys : List Key) (p : Past) (requests : List Request) → Sound keys p → All (IsHarmless keys p.objects) requests
    → Sound keys (with_requests requests p)
asked_sound keys p requests sound may = record {
  names = sound.names;
  uids = sound.uids;
  objects = sound.objects;
  effects = record { planned = sound.effects.planned; no_others = sound.effects.no_others };
  requests = All-append (IsHarmless keys p.objects) p.requests requests sound.requests may;
  replies = All-weaker (TrueAnswer keys p.objects p.requests) (TrueAnswer keys p.objects (p.requests ++ requests))
      (λ reply answer. answer_more keys p.objects p.requests requests reply answer) p.replies sound.replies;
}

pub handed_sound : (keys : List Key) (p : Past) (sent : List ℕ) (answer : Option (List ℕ)) → Sound keys p → Sound keys (with_exchange sent answer p)
handed_sound keys p sent answer sound = record {
  names = sound.names;
  uids = sound.uids;
  objects = sound.objects;
  effects = record { planned = sound.effects.planned; no_others = sound.effects.no_others };
  requests = sound.requests;
  replies = sound.replies;
}

hands_over_sound : (l : Lawbook) (keys : List Key) (old new : Past) (sent : List ℕ) (answer : Option (List ℕ)) → Sound keys old
    → HarmlessMessage keys old.objects sent → HandsOver (is_planned keys) old sent answer new → Sound keys new × Onward keys old.objects new.objects
hands_over_sound l keys old new sent answer sound may hands =
    let (kept, on) = delivered_keeps l keys (with_asked sent old) hands.between (asked_sound keys old (requests_in sent) sound may) hands.delivered in
    subst (λ p. Sound keys p × Onward keys old.objects p.objects) (sym hands.is) (handed_sound keys hands.between sent answer kept, on)

pub exchanged_sound : (l : Lawbook) (keys : List Key) (old new : Past) (sent : List ℕ) (answer : Result (Option (List ℕ)) LinkFault) → Sound keys old
    → HarmlessMessage keys old.objects sent → Exchanged (is_planned keys) old sent answer new → Sound keys new × Onward keys old.objects new.objects
exchanged_sound l keys old new sent (Ok answer) sound may done = hands_over_sound l keys old new sent answer sound may done
exchanged_sound l keys old new sent (Err Io) sound may done = hands_over_sound l keys old new sent None sound may done
exchanged_sound l keys old new sent (Err Frame) sound may done = hands_over_sound l keys old new sent None sound may done
exchanged_sound l keys old new sent (Err NoMemory) sound may done = elim done [
  | inl before ↦ delivered_keeps l keys old new sound before
  | inr later ↦ delivered_keeps l keys (with_asked sent old) new (asked_sound keys old (requests_in sent) sound may) later
]

pub given_true : (keys : List Key) (p : Past) (given : List ℕ) → Sound keys p → AreGiven p given → TrueMessage keys p.objects given
given_true keys p given sound are =
    All-weaker (Contains p.replies) (TrueReply keys p.objects)
    (λ reply has. (All-contains (TrueAnswer keys p.objects p.requests) p.replies reply sound.replies has).holds) (replies_in given) are

none_done : (name : List ℕ) (effects : List Effect) → effects ≡ [] → steps_on name effects ≡ []
none_done name effects none = ap (steps_on name) none

pub opening_sound : (keys : List Key) (p : Past) → Opening keys p → Sound keys p
opening_sound keys p opening = record {
  names = opening.names;
  uids = opening.uids;
  objects = λ key o planned is. let some : None ≡ Some o = sym (opening.no_object key planned) ∙ is in absurd cc;
  effects = record {
    planned = λ key planned. none_done key.attrs.name p.effects opening.no_effect
        ∙ ap (λ found. take (place_in key found) (chain key.target)) (sym (opening.no_object key planned));
    no_others = λ name none. none_done name p.effects opening.no_effect;
  };
  requests = subst (All (IsHarmless keys p.objects)) (sym opening.no_request) (All-nil (IsHarmless keys p.objects));
  replies = subst (All (TrueAnswer keys p.objects p.requests)) (sym opening.no_reply) (All-nil (TrueAnswer keys p.objects p.requests));
}
