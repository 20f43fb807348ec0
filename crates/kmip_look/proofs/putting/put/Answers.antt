-- What an exchange does, by what came of it.
use Rattle.std.proofs.Common.{ap, sym, ◌∙◌}
use Rattle.kmip_messages.specs.Items.{parts_in, requests_in, stops_in}
use Rattle.kmip_look.proofs.PastLemmas.{if_ok, put_by, puts_by, served_by}
use Rattle.kmip_look.proofs.SoundLemmas.{exchanged_sound}
use Rattle.kmip_look.proofs.putting.put.Goals as goal

pub returns-in_default-clause-honestly : goal.returns-in_default-clause-honestly
returns-in_default-clause-honestly g c = λ names honest.
    let (still, exchanged) = (c.exchange-answered.ensures.honestly names honest).honest in
    let asks = ap requests_in c.as_slice.ensures.value ∙ c.in_ok-bytes.ensures.asks in (
      still,
      puts_by c.the_laws_of_exchanges_hold.ensures.requests_stay names (g.L.Link.seen c.args.link.now).past
          (g.L.Link.seen c.exchange-answered.new.self).past c.as_slice.result.now
          c.args.requests.now _ asks exchanged,
      tt,
    )

pub returns-clause-honestly : goal.returns-clause-honestly
returns-clause-honestly g c = λ names honest.
    let (still, exchanged) = (c.exchange-answered.ensures.honestly names honest).honest in
    let asks = ap requests_in c.as_slice.ensures.value ∙ c.in_ok-bytes.ensures.asks in (
      still,
      puts_by c.the_laws_of_exchanges_hold.ensures.requests_stay names (g.L.Link.seen c.args.link.now).past
          (g.L.Link.seen c.exchange-answered.new.self).past c.as_slice.result.now
          c.args.requests.now _ asks exchanged,
      if_ok c.heard_in.result
          (λ heard says. put_by names (g.L.Link.seen c.args.link.now).past
          (g.L.Link.seen c.exchange-answered.new.self).past c.as_slice.result.now c.args.requests.now
          heard.replies.items _ _ asks exchanged (sym c.in-Ok.ensures) says)
          c.heard_in.ensures.said,
    )

pub returns-clause-calmly : goal.returns-clause-calmly
returns-clause-calmly g c = λ names calm.
    let (still, exchanged) = (c.exchange-answered.ensures.calmly names calm).calm in
    let asks = ap requests_in c.as_slice.ensures.value ∙ c.in_ok-bytes.ensures.asks in
    let parts = ap parts_in c.as_slice.ensures.value ∙ c.in_ok-bytes.ensures.parts in
    let stops = ap stops_in c.as_slice.ensures.value ∙ c.in_ok-bytes.ensures.stops in (
      still,
      if_ok c.heard_in.result
          (λ heard says. served_by names (g.L.Link.seen c.args.link.now).past
          (g.L.Link.seen c.exchange-answered.new.self).past c.as_slice.result.now c.args.requests.now
          heard.replies.items _ _ parts stops asks exchanged (sym c.in-Ok.ensures) says)
          c.heard_in.ensures.said,
    )

pub returns-in_default-clause-sound : goal.returns-in_default-clause-sound
returns-in_default-clause-sound g c = λ plan beside amid sound.
    exchanged_sound c.the_laws_amid_others_hold.ensures.exchanges plan (g.L.Link.seen c.args.link.now)
    (g.L.Link.seen c.exchange-answered.new.self) c.as_slice.result.now c.args.requests.now _
    (ap requests_in c.as_slice.ensures.value ∙ c.in_ok-bytes.ensures.asks) beside
    (λ may. c.exchange-answered.ensures.amid plan amid sound may) sound

pub returns-clause-sound : goal.returns-clause-sound
returns-clause-sound g c = λ plan beside amid sound.
    exchanged_sound c.the_laws_amid_others_hold.ensures.exchanges plan (g.L.Link.seen c.args.link.now)
    (g.L.Link.seen c.exchange-answered.new.self) c.as_slice.result.now c.args.requests.now _
    (ap requests_in c.as_slice.ensures.value ∙ c.in_ok-bytes.ensures.asks) beside
    (λ may. c.exchange-answered.ensures.amid plan amid sound may) sound
