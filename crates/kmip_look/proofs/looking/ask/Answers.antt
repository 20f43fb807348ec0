-- The message is put, and its replies are heard.
use Rattle.std.proofs.lemmas.Result.{err_from_is_err_and}
use Rattle.kmip_look.proofs.PastLemmas.{calmly_by, goes_by, on_ok, sends_looks, shaped_by, shaped_many, when_ok}
use Rattle.kmip_look.proofs.SoundLemmas.{sound_by}
use Rattle.kmip_look.proofs.TriedLemmas.{tried_by}
use Rattle.kmip_look.proofs.looking.ask.Goals as goal

pub hear_each-requires : goal.hear_each-requires
hear_each-requires g c = shaped_many c.args.keys.now c.args.lookeds.now.items c.requires.shaped

pub returns-in_err-heard : goal.returns-in_err-heard
returns-in_err-heard g c =
    let fault = err_from_is_err_and c.from_residual.result c.from_residual.ensures.1 in
    rw fault.1 (record {
      shaped = tt;
      honestly = λ names honest.
          let all = c.put.ensures.honestly names honest in
          record {
            still = all.0;
            few = sends_looks c.args.keys.now c.args.lookeds.now.items c.args.part c.args.mark.now c.args.requests.now
                (g.L.Link.seen c.args.link.now).past
                (g.L.Link.seen c.put.new.link).past c.requires.asks all.1;
            goes = tt;
          };
      calmly = λ names calm. record { still = (c.put.ensures.calmly names calm).0; comes = tt };
      sound = sound_by c.the_laws_below_hold.ensures.exchanges.outside c.args.mark.now c.args.part c.args.keys.now
          c.args.lookeds.now.items c.args.requests.now (g.L.Link.seen c.args.link.now) (g.L.Link.seen c.put.new.link)
          c.requires.asks c.put.ensures.sound;
      tried = λ names honest. tt;
    })

pub returns : goal.returns
returns g c =
    let part = c.args.part in
    let mark = c.args.mark.now in
    let why = c.in_ok-heard.heard.why in
    let requests = c.args.requests.now in
    let replies = c.in_ok-heard.heard.replies.items in
    let keys = c.args.keys.now in
    let olds = c.args.lookeds.now.items in
    let news = c.hear_each.new.lookeds.items in
    let old = (g.L.Link.seen c.args.link.now).past in
    let new = (g.L.Link.seen c.put.new.link).past in
    let fits = c.in_ok-heard.ensures.fits in
    record {
      shaped = on_ok c.hear_each.result (λ is.
          shaped_by part mark why replies keys olds news fits is c.requires.shaped) c.hear_each.ensures;
      honestly = λ names honest.
          let (still, puts, has) = c.in_ok-heard.ensures.honestly names honest in
          record {
            still = still;
            few = sends_looks keys olds part mark requests old new c.requires.asks puts;
            goes = on_ok c.hear_each.result
                (λ is. goes_by c.the_laws_below_hold.ensures names part mark why requests replies keys olds news old
                new c.requires.asks fits is has) c.hear_each.ensures;
          };
      calmly = λ names calm.
          let (still, served) = c.in_ok-heard.ensures.calmly names calm in
          record {
            still = still;
            comes = when_ok c.hear_each.result
                (λ done is. calmly_by c.the_laws_below_hold.ensures part mark why requests replies keys olds news old
                new c.requires.asks fits is served) c.hear_each.ensures;
          };
      sound = sound_by c.the_laws_below_hold.ensures.exchanges.outside mark part keys olds requests
          (g.L.Link.seen c.args.link.now) (g.L.Link.seen c.put.new.link) c.requires.asks c.in_ok-heard.ensures.sound;
      tried = λ names honest.
          let (still, puts, has) = c.in_ok-heard.ensures.honestly names honest in
          on_ok c.hear_each.result
          (λ is. tried_by c.the_laws_below_hold.ensures names part mark why requests replies keys olds news old new
          c.requires.asks fits is has) c.hear_each.ensures;
    }
