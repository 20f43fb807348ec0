-- What arrives late leaves no more for any key.
use Rattle.std.proofs.Common.{◌≡◌, ◌≤◌, ℕ, List, sym, ap, ◌∙◌, true, false, arith}
use Rattle.kmip_plan.specs.declared.key.Key.{Key}
use Rattle.kmip_plan.specs.Plans.{IsLawful, IsPlanned}
use Rattle.kmip_client.specs.Knowledge.{chain_length}
use Rattle.kmip_client.specs.declared.knowledge.Knowledge.{Knowledge}
use Rattle.kmip_client.specs.Held.{Held, IsHeld}
use Rattle.kmip_client.specs.Places.{position}
use Rattle.kmip_protocol.specs.Moves.{Delivered}
use Rattle.kmip_protocol.specs.Past.{Past, is_planned}
use Rattle.kmip_protocol.specs.Sound.{Sound}
use Rattle.kmip_protocol.specs.PrivateSettlingLawbook.{Lawbook}
use Rattle.kmip_protocol.specs.Losing.{is_under_way, left_of, left_all}
use Rattle.kmip_protocol.proofs.ArrivalLemmas.{Arrives, as_it_was, took_effect, delivered_arrives}
use Rattle.kmip_protocol.proofs.LeftLemmas.{is_there, late_left, left_by, left_is, same_there}
use Rattle.kmip_protocol.proofs.LeftSumLemmas.{all_left, numbers}
use Rattle.kmip_protocol.proofs.SumLemmas.{held_at}

pub key_late : (l : Lawbook) (keys : List Key) (old new : Past) (key : Key) (known : Knowledge) → Sound keys old
    → Sound keys new → IsPlanned keys key
    → IsHeld old.objects key known → IsHeld new.objects key known → Arrives key old new
    → left_of key known new ≤ left_of key known old
key_late l keys old new key known sound after planned held still (as_it_was here way) =
    let n : ℕ = chain_length key in
    let before = numbers l keys old key known sound planned held in
    let now = numbers l keys new key known after planned still in
    let there = same_there (position key new.objects) (position key old.objects) (is_there key new) (is_there key old)
    here now.from now.none before.from before.none in
    let same : left_of key known new ≡ left_of key known old =
    left_is key known new
    ∙ ap (λ t. left_by known.phase n known.done t (position key new.objects) (is_under_way key new)) there
    ∙ ap (λ p. left_by known.phase n known.done (is_there key old) p (is_under_way key new)) here
    ∙ ap (λ w. left_by known.phase n known.done (is_there key old) (position key old.objects) w) way
    ∙ sym (left_is key known old) in
    omega (arith, same)
key_late l keys old new key known sound after planned held still (took_effect further way none) =
    let n : ℕ = chain_length key in
    let before = numbers l keys old key known sound planned held in
    let now = numbers l keys new key known after planned still in
    let one : left_of key known new ≡ left_by known.phase n known.done (is_there key new) (position key new.objects)
    false =
    left_is key known new ∙ ap (left_by known.phase n known.done (is_there key new) (position key new.objects)) none in
    let two : left_of key known old ≡ left_by known.phase n known.done (is_there key old) (position key old.objects)
    true =
    left_is key known old ∙ ap (left_by known.phase n known.done (is_there key old) (position key old.objects)) way in
    let late = late_left known.phase n known.done (position key old.objects) (position key new.objects)
    (is_there key old) (is_there key new) known.identifier before now further in
    omega (arith, one, two, late)

-- what is known is true still
pub held_late : (l : Lawbook) (keys : List Key) (old new : Past) (knowns : List Knowledge) → IsLawful keys
    → Sound keys old → Held old.objects keys knowns
    → Delivered (is_planned keys) old new → Held new.objects keys knowns
held_late l keys old new knowns lawful sound held delivered =
    l.client.known_for_good keys knowns old.objects new.objects lawful
    (l.exchanges.onward keys old new sound delivered) held

pub all_late : (l : Lawbook) (keys : List Key) (old new : Past) (knowns : List Knowledge) → IsLawful keys
    → Sound keys old → Held old.objects keys knowns
    → Delivered (is_planned keys) old new → left_all keys knowns new ≤ left_all keys knowns old
all_late l keys old new knowns lawful sound held delivered =
    let after = l.exchanges.deliveries keys old new sound delivered in
    let still = held_late l keys old new knowns lawful sound held delivered in
    all_left keys knowns old new (λ j key known here there.
    let planned = l.plan.found keys j key lawful here in
    key_late l keys old new key known sound after planned (held_at keys knowns j key known old.objects held here there)
    (held_at keys knowns j key known new.objects still here there)
    (delivered_arrives l keys old new key sound planned delivered))
