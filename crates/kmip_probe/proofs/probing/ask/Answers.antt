-- A message is put over the link, and its answer is what was handed over says.
use Rattle.std.proofs.Common.{◌≡◌, [], ◌∷◌, map, option_map, Ok, ap, subst, sym, ◌∙◌}
use Rattle.kmip_ttlv.specs.Spelling.{canon}
use Rattle.kmip_messages.specs.Items.{parts_in}
use Rattle.kmip_messages.specs.Written.{requests_item}
use Rattle.kmip_probe.specs.Private.{HasPut}
use Rattle.kmip_probe.proofs.PuttingLemmas.{replied_by, weaken}
use Rattle.kmip_probe.proofs.probing.ask.Goals as goal

pub returns-clause-asked : goal.returns-clause-asked
returns-clause-asked g c = λ names honest.
    let (still, put) = c.in_ok-handed.ensures.put names honest in
    let is = c.as_slice.ensures.value ∙ c.in_ok-bytes.ensures.bytes
    ∙ ap (λ rs. canon (requests_item rs)) c.from_ref.ensures.value in (
      still,
      weaken c.answer_to.result
          (λ answer told. record {
            given = option_map (λ v. v.items) c.in_ok-handed.handed;
            put = subst (λ m. HasPut c.args.most m (option_map (λ v. v.items) c.in_ok-handed.handed)
                (g.L.Link.seen c.args.link.now).past (g.L.Link.seen c.send_up_to.new.link).past) is put;
            answer_is = told;
          })
          c.answer_to.ensures.answer,
    )

pub returns-clause-served : goal.returns-clause-served
returns-clause-served g c = λ names calm.
    let (still, calmly) = c.in_ok-handed.ensures.calmly names calm in
    let is = c.as_slice.ensures.value ∙ c.in_ok-bytes.ensures.bytes
    ∙ ap (λ rs. canon (requests_item rs)) c.from_ref.ensures.value in
    let asks = subst (λ m. parts_in m ≡ Ok c.args.request.now ∷ []) (sym c.as_slice.ensures.value)
    (c.in_ok-bytes.ensures.parts ∙ ap (map Ok) c.from_ref.ensures.value) in (
      still,
      weaken c.answer_to.result
          (λ answer told. replied_by c.the_laws_of_messages_hold.ensures.read (g.L.Link.seen c.args.link.now).past
          (g.L.Link.seen c.send_up_to.new.link).past c.as_slice.result.now c.args.request.now c.args.number
          c.args.prefix.now answer _ is asks calmly told)
          c.answer_to.ensures.answer,
    )

pub returns-clause-few : goal.returns-clause-few
returns-clause-few g c = c.send_up_to.ensures.few
