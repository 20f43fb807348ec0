-- The one key's knowledge is what was taught, and the count changes with it.
use Rattle.std.proofs.Common.{◌≡◌, ◌≤◌, ◌<◌, length, Some, refl, sym, subst, rules}
use Rattle.std.proofs.lemmas.Bool.{ltb-true}
use Rattle.std.proofs.lemmas.Option.{slice_get_read}
use Rattle.std.specs.List.{slice_get}
use Rattle.kmip_client.specs.Clients.{one_if}
use Rattle.kmip_client.specs.Knowledge.{is_working}
use Rattle.kmip_client.proofs.CountLemmas.{counted_one}
use Rattle.kmip_client.proofs.HeardLemmas.{count_after, put_again}
use Rattle.kmip_client.proofs.hearing.hear_at.Goals as goal

pub teach-requires : goal.teach-requires
teach-requires c =
    let within : c.args.subject.key < length c.args.keys.now = ltb-true c.args.subject.key (length c.args.keys.now) (sym c.in-Some.ensures.lookup.0) in
    let here : slice_get c.args.keys.now c.args.subject.key ≡ Some c.in-Some.key.now =
    slice_get_read c.args.keys.now (length c.args.keys.now) c.args.subject.key c.in-Some.key.now refl within c.in-Some.ensures.lookup.1 in
    let inside : c.args.subject.key < length c.args.knowns.now.items = search (rules, c.if-subject-len.false, c.len.ensures) in
    let there : slice_get c.args.knowns.now.items c.args.subject.key ≡ Some c.index_mut.result.now =
    slice_get_read c.args.knowns.now.items (length c.args.knowns.now.items) c.args.subject.key c.index_mut.result.now refl inside c.index_mut.ensures.value in
    subst (λ n. one_if (is_working c.in-Some.key.now c.index_mut.result.now) ≤ n) (sym c.requires)
    (counted_one c.args.keys.now c.args.knowns.now.items c.args.subject.key c.in-Some.key.now c.index_mut.result.now here there)

pub returns-in-Ok : goal.returns-in-Ok
returns-in-Ok c =
    let within : c.args.subject.key < length c.args.keys.now = ltb-true c.args.subject.key (length c.args.keys.now) (sym c.in-Some.ensures.lookup.0) in
    let here : slice_get c.args.keys.now c.args.subject.key ≡ Some c.in-Some.key.now =
    slice_get_read c.args.keys.now (length c.args.keys.now) c.args.subject.key c.in-Some.key.now refl within c.in-Some.ensures.lookup.1 in
    let inside : c.args.subject.key < length c.args.knowns.now.items = search (rules, c.if-subject-len.false, c.len.ensures) in
    let there : slice_get c.args.knowns.now.items c.args.subject.key ≡ Some c.index_mut.result.now =
    slice_get_read c.args.knowns.now.items (length c.args.knowns.now.items) c.args.subject.key c.index_mut.result.now refl inside c.index_mut.ensures.value in
    record {
      ok = rw (here, there, c.in-Ok.ensures.ok) refl;
      err = tt;
      same = tt;
      counted = count_after c.args.keys.now c.args.knowns.now.items c.args.subject.key c.args.working.now c.teach.new.working c.in-Some.key.now
          c.index_mut.result.now c.teach.new.known here there c.requires c.teach.ensures.counted;
    }

pub returns-in-Err : goal.returns-in-Err
returns-in-Err c =
    let within : c.args.subject.key < length c.args.keys.now = ltb-true c.args.subject.key (length c.args.keys.now) (sym c.in-Some.ensures.lookup.0) in
    let here : slice_get c.args.keys.now c.args.subject.key ≡ Some c.in-Some.key.now =
    slice_get_read c.args.keys.now (length c.args.keys.now) c.args.subject.key c.in-Some.key.now refl within c.in-Some.ensures.lookup.1 in
    let inside : c.args.subject.key < length c.args.knowns.now.items = search (rules, c.if-subject-len.false, c.len.ensures) in
    let there : slice_get c.args.knowns.now.items c.args.subject.key ≡ Some c.index_mut.result.now =
    slice_get_read c.args.knowns.now.items (length c.args.knowns.now.items) c.args.subject.key c.index_mut.result.now refl inside c.index_mut.ensures.value in
    record {
      ok = tt;
      err = rw (here, there, c.in-Err.ensures.err) refl;
      same = put_again c.args.knowns.now.items c.args.subject.key c.index_mut.result.now c.teach.new.known there c.in-Err.ensures.same;
      counted = count_after c.args.keys.now c.args.knowns.now.items c.args.subject.key c.args.working.now c.teach.new.working c.in-Some.key.now
          c.index_mut.result.now c.teach.new.known here there c.requires c.teach.ensures.counted;
    }
