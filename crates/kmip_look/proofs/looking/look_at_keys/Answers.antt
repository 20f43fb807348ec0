-- One group after the other.
use Rattle.std.proofs.Common.{◌≡◌, ◌≤◌, ◌*◌, ◌++◌, true, false, [], length, append_assoc, refl, sym, subst, ap, ◌∙◌, inl, inr, arith}
use Rattle.std.proofs.lemmas.List.{length-append}
use Rattle.std.proofs.lemmas.Bool.{cases_Bool}
use Rattle.std.proofs.lemmas.List.Elements.{All-contains_itself, All-drop, All-take}
use Rattle.std.specs.List.{AllZip}
use Rattle.std.proofs.lemmas.Result.{err_from_is_err_and}
use Rattle.kmip_plan.specs.Plans.{key_fits}
use Rattle.kmip_plan.specs.declared.key.Key.{Key}
use Rattle.kmip_look.specs.PrivateKeeping.{AreFit}
use Rattle.kmip_look.specs.PrivateTrying.{IsTriedAt}
use Rattle.kmip_look.specs.declared.looking.TheConstants.{MOST_TRIES}
use Rattle.kmip_look.specs.declared.part.Part.TheVariants.{Tell}
use Rattle.kmip_look.proofs.TriedLemmas.{all_tried, tried_before, tried_onward}
use Rattle.kmip_look.proofs.GroupLemmas.{CalmSoFar, SoFar, calm_first, calm_next, calm_told, far_broken, far_first, far_next, far_said, far_sent, front_is, group_size, joined, none_there, one_left, zip_more}
use Rattle.kmip_look.proofs.PastLemmas.{sends_none}
use Rattle.kmip_look.proofs.SoundLemmas.{keeps_still, keeps_twice}
use Rattle.kmip_look.proofs.looking.look_at_keys.Goals as goal

pub loop-rest-init : goal.loop-rest-init
loop-rest-init g c =
    let none : c.in_ok-lookeds.lookeds.items ≡ [] = c.in_ok-lookeds.ensures.items in
    let p = (g.L.Link.seen c.args.link.now).past in
    record {
      fit = c.requires.fit;
      many = let zero = ap length none in omega (arith, zero);
      honest = λ names honest. (
        honest,
        subst (λ ls. SoFar names c.args.mark.now c.args.keys.now c.args.keys.now ls p p) (sym none) (far_first names c.args.mark.now c.args.keys.now p),
      );
      calm = λ names calm. (calm, subst (λ ls. CalmSoFar c.args.keys.now c.args.keys.now ls true p p) (sym none) (calm_first c.args.keys.now p));
      tried = λ names honest goes. ([], refl, subst (AllZip (IsTriedAt Tell MOST_TRIES c.args.mark.now p p) []) (sym none) tt);
      sound = keeps_still c.args.mark.now (g.L.Link.seen c.args.link.now);
      stops = λ no. absurd cc;
    }

pub look_group-requires-clause-many : goal.look_group-requires-clause-many
look_group-requires-clause-many g c =
    (group_size c.args.batch (length c.loop-rest.rest.now) c.min.result (length c.split_at.result.0.now) c.requires.batch c.loop-rest-test.ensures c.min.ensures
    c.split_at.ensures.front_len).0

pub look_group-requires-clause-fit : goal.look_group-requires-clause-fit
look_group-requires-clause-fit g c =
    subst AreFit (sym c.split_at.ensures.front) (All-take (λ (key : Key). key_fits key ≡ true) c.min.result c.loop-rest.rest.now c.loop-rest.invariant.fit)

pub loop-rest-smaller : goal.loop-rest-smaller
loop-rest-smaller g c =
    let some =
    (group_size c.args.batch (length c.loop-rest.rest.now) c.min.result (length c.split_at.result.0.now) c.requires.batch c.loop-rest-test.ensures c.min.ensures
    c.split_at.ensures.front_len).1 in
    omega (arith, some, c.split_at.ensures.front_len, c.split_at.ensures.back_len)

pub loop-rest-preserved : goal.loop-rest-preserved
loop-rest-preserved g c =
    let keys = c.args.keys.now in
    let mark = c.args.mark.now in
    let rest = c.loop-rest.rest.now in
    let group = c.split_at.result.0.now in
    let later = c.split_at.result.1.now in
    let lookeds = c.loop-rest.lookeds.items in
    let looked = c.in_ok-looked.looked.items in
    let start = (g.L.Link.seen c.args.link.now).past in
    let now = (g.L.Link.seen c.loop-rest.link).past in
    let new = (g.L.Link.seen c.look_group.new.link).past in
    let parts : group ++ later ≡ rest = joined c.min.result rest group later c.split_at.ensures.front c.split_at.ensures.back in
    let some : 1 ≤ length group =
    (group_size c.args.batch (length rest) c.min.result (length group) c.requires.batch c.loop-rest-test.ensures c.min.ensures c.split_at.ensures.front_len).1 in
    let items : c.append.new.self.items ≡ lookeds ++ looked = c.in_ok-append.ensures.items in
    record {
      fit = subst AreFit (sym c.split_at.ensures.back) (All-drop (λ (key : Key). key_fits key ≡ true) c.min.result rest c.loop-rest.invariant.fit);
      many =
          let longer = ap length items in
          let both = length-append lookeds looked in
          omega (arith, longer, both, c.in_ok-looked.ensures.as_many, c.split_at.ensures.front_len, c.split_at.ensures.back_len, c.loop-rest.invariant.many);
      honest = λ names honest.
          let (before, far) = c.loop-rest.invariant.honest names honest in
          let (still, sends, looks) = c.in_ok-looked.ensures.honestly names before in (
            still,
            subst (λ ls. SoFar names mark keys later ls start new) (sym items)
                (far_next names mark keys rest group later lookeds looked start now new parts far some sends looks),
          );
      calm = λ names calm.
          let (before, far) = c.loop-rest.invariant.calm names calm in
          let (still, goes) = c.in_ok-looked.ensures.calmly names before in (
            still,
            subst (λ ls. CalmSoFar keys later ls c.look_group.new.goes_on start new) (sym items)
                (calm_next keys rest group later lookeds looked c.loop-rest.goes_on c.look_group.new.goes_on start now new parts some far goes),
          );
      tried = λ names honest goes.
          let (before, far) = c.loop-rest.invariant.honest names honest in
          let (front, is, at) = c.loop-rest.invariant.tried names honest (c.in_ok-looked.ensures.onward goes) in
          let sends = (c.in_ok-looked.ensures.honestly names before).1 group (All-contains_itself group) in (
            front ++ group,
            append_assoc front group later ∙ ap (λ ks. front ++ ks) parts ∙ is,
            subst (AllZip (IsTriedAt Tell MOST_TRIES mark start new) (front ++ group)) (sym items)
                (zip_more (IsTriedAt Tell MOST_TRIES mark start new) front group lookeds looked
                (tried_onward mark front lookeds start now new sends.messages sends.sent at)
                (tried_before mark group looked start now new far.sends.messages far.sends.sent (c.in_ok-looked.ensures.tried names before goes))),
          );
      sound = keeps_twice c.args.mark.now (g.L.Link.seen c.args.link.now) (g.L.Link.seen c.loop-rest.link)
          (g.L.Link.seen c.look_group.new.link) c.loop-rest.invariant.sound c.in_ok-looked.ensures.sound;
      stops = c.in_ok-looked.ensures.stops c.loop-rest.invariant.stops;
    }

pub returns-in_err-lookeds-clause-looks : goal.returns-in_err-lookeds-clause-looks
returns-in_err-lookeds-clause-looks g c =
    let fault = err_from_is_err_and c.from_residual.result c.from_residual.ensures.1 in
    rw fault.1 (record {
      as_many = tt;
      honestly = λ names honest. record {
        still = honest;
        asks_looks = sends_none c.args.keys.now c.args.mark.now (8 * length c.args.keys.now) (g.L.Link.seen c.args.link.now).past;
        since = λ fresh. tt;
      };
      calmly = λ names calm. record { still = calm; objects = tt; effects = tt; stand = λ distinct. tt };
    })

pub returns-in_err-looked-clause-looks : goal.returns-in_err-looked-clause-looks
returns-in_err-looked-clause-looks g c =
    let rest = c.loop-rest.rest.now in
    let group = c.split_at.result.0.now in
    let later = c.split_at.result.1.now in
    let fault = err_from_is_err_and c.from_residual-in_err-looked.result c.from_residual-in_err-looked.ensures.1 in
    rw fault.1 (record {
      as_many = tt;
      honestly = λ names honest.
          let (before, far) = c.loop-rest.invariant.honest names honest in
          let all = c.look_group.ensures.honestly names before in
          record {
            still = all.0;
            asks_looks = far_broken names c.args.mark.now c.args.keys.now rest group later c.loop-rest.lookeds.items (g.L.Link.seen c.args.link.now).past
                (g.L.Link.seen c.loop-rest.link).past (g.L.Link.seen c.look_group.new.link).past
                (joined c.min.result rest group later c.split_at.ensures.front c.split_at.ensures.back) far (one_left (length rest) c.loop-rest-test.ensures) all.1;
            since = λ fresh. tt;
          };
      calmly = λ names calm.
          let (before, far) = c.loop-rest.invariant.calm names calm in
          record { still = (c.look_group.ensures.calmly names before).0; objects = tt; effects = tt; stand = λ distinct. tt };
    })

pub returns-in_err-append-clause-looks : goal.returns-in_err-append-clause-looks
returns-in_err-append-clause-looks g c =
    let rest = c.loop-rest.rest.now in
    let group = c.split_at.result.0.now in
    let later = c.split_at.result.1.now in
    let fault = err_from_is_err_and c.from_residual-in_err-append.result c.from_residual-in_err-append.ensures.1 in
    rw fault.1 (record {
      as_many = tt;
      honestly = λ names honest.
          let (before, far) = c.loop-rest.invariant.honest names honest in
          let all = c.look_group.ensures.honestly names before in
          record {
            still = all.0;
            asks_looks = far_broken names c.args.mark.now c.args.keys.now rest group later c.loop-rest.lookeds.items (g.L.Link.seen c.args.link.now).past
                (g.L.Link.seen c.loop-rest.link).past (g.L.Link.seen c.look_group.new.link).past
                (joined c.min.result rest group later c.split_at.ensures.front c.split_at.ensures.back) far (one_left (length rest) c.loop-rest-test.ensures) all.1;
            since = λ fresh. tt;
          };
      calmly = λ names calm.
          let (before, far) = c.loop-rest.invariant.calm names calm in
          record { still = (c.look_group.ensures.calmly names before).0; objects = tt; effects = tt; stand = λ distinct. tt };
    })

pub returns-clause-looks : goal.returns-clause-looks
returns-clause-looks g c =
    let keys = c.args.keys.now in
    let mark = c.args.mark.now in
    let rest = c.loop-rest.rest.now in
    let lookeds = c.loop-rest.lookeds.items in
    let start = (g.L.Link.seen c.args.link.now).past in
    let now = (g.L.Link.seen c.loop-rest.link).past in
    let none : rest ≡ [] = none_there rest c.loop-rest-test.ensures in
    record {
      as_many = let empty = ap length none in omega (arith, empty, c.loop-rest.invariant.many);
      honestly = λ names honest.
          let (before, far) = c.loop-rest.invariant.honest names honest in
          record {
            still = before;
            asks_looks = far_sent names mark keys rest lookeds start now far;
            since = λ fresh. far_said names mark keys rest lookeds start now none far fresh;
          };
      calmly = λ names calm.
          let (before, far) = c.loop-rest.invariant.calm names calm in
          record {
            still = before;
            objects = far.same.objects;
            effects = far.same.effects;
            stand = λ distinct. calm_told keys rest lookeds c.loop-rest.goes_on start now none far distinct;
          };
    }

pub returns-clause-tried : goal.returns-clause-tried
returns-clause-tried g c = λ names honest patient.
    let keys = c.args.keys.now in
    let mark = c.args.mark.now in
    let rest = c.loop-rest.rest.now in
    let lookeds = c.loop-rest.lookeds.items in
    let start = (g.L.Link.seen c.args.link.now).past in
    let now = (g.L.Link.seen c.loop-rest.link).past in
    let none : rest ≡ [] = none_there rest c.loop-rest-test.ensures in
    elim (cases_Bool c.loop-rest.goes_on) [
      | inl goes ↦
          let (front, is, at) = c.loop-rest.invariant.tried names honest goes in
          all_tried mark keys lookeds start now (subst (λ ks. AllZip (IsTriedAt Tell MOST_TRIES mark start now) ks lookeds) (front_is front rest keys is none) at)
      | inr stopped ↦ (let both : false ≡ true = sym patient ∙ c.loop-rest.invariant.stops stopped in absurd cc)
    ]

pub returns-in_err-lookeds-clause-sound : goal.returns-in_err-lookeds-clause-sound
returns-in_err-lookeds-clause-sound g c = keeps_still c.args.mark.now (g.L.Link.seen c.args.link.now)

pub returns-in_err-looked-clause-sound : goal.returns-in_err-looked-clause-sound
returns-in_err-looked-clause-sound g c =
    keeps_twice c.args.mark.now (g.L.Link.seen c.args.link.now) (g.L.Link.seen c.loop-rest.link)
    (g.L.Link.seen c.look_group.new.link) c.loop-rest.invariant.sound c.look_group.ensures.sound

pub returns-in_err-append-clause-sound : goal.returns-in_err-append-clause-sound
returns-in_err-append-clause-sound g c =
    keeps_twice c.args.mark.now (g.L.Link.seen c.args.link.now) (g.L.Link.seen c.loop-rest.link)
    (g.L.Link.seen c.look_group.new.link) c.loop-rest.invariant.sound c.in_ok-looked.ensures.sound

pub returns-clause-sound : goal.returns-clause-sound
returns-clause-sound g c = c.loop-rest.invariant.sound
