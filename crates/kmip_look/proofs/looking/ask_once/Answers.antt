-- The requests of a part are put, where there are any.
use Rattle.std.proofs.Common.{◌≡◌, ◌≤◌, ◌+◌, [], length, sym, ap, ◌∙◌, arith}
use Rattle.std.proofs.lemmas.Result.{err_from_is_err_and}
use Rattle.kmip_look.specs.PrivateAsking.{requests_of}
use Rattle.kmip_look.proofs.AskedLemmas.{written}
use Rattle.kmip_look.proofs.PastLemmas.{goes_nowhere, idle_goes, none_left, nothing_asked, sends_none, shaped_many, some_left}
use Rattle.kmip_look.proofs.SoundLemmas.{keeps_still}
use Rattle.kmip_look.proofs.TriedLemmas.{idle_tried}
use Rattle.kmip_look.proofs.looking.ask_once.Goals as goal

pub requests_of-requires : goal.requests_of-requires
requests_of-requires g c = ap length c.as_slice.ensures.value ∙ shaped_many c.args.keys.now c.args.lookeds.now.items c.requires.shaped

pub ask-requires-clause-asks : goal.ask-requires-clause-asks
ask-requires-clause-asks g c =
    c.as_slice-2.ensures.value ∙ c.in_ok-requests.ensures ∙ ap (requests_of c.args.part c.args.mark.now c.args.keys.now) c.as_slice.ensures.value

pub ask-requires-clause-fit : goal.ask-requires-clause-fit
ask-requires-clause-fit g c =
    let is : c.as_slice-2.result.now ≡ requests_of c.args.part c.args.mark.now c.args.keys.now c.args.lookeds.now.items =
    c.as_slice-2.ensures.value ∙ c.in_ok-requests.ensures ∙ ap (requests_of c.args.part c.args.mark.now c.args.keys.now) c.as_slice.ensures.value in
    let some : 1 ≤ length c.in_ok-requests.requests.items =
    some_left _ c.in_ok-requests.requests.items (sym c.is_empty.ensures ∙ c.if-is_empty.false) c.in_ok-requests.requests.ok.0 in
    let same = ap length c.as_slice-2.ensures.value in
    written c.args.part c.args.mark.now c.args.keys.now c.args.lookeds.now.items c.as_slice-2.result.now is c.requires.many (omega (arith, some, same))
    c.requires.short c.requires.fit c.requires.shaped

pub ask-requires-clause-shaped : goal.ask-requires-clause-shaped
ask-requires-clause-shaped g c = c.requires.shaped

pub returns-in_err-requests : goal.returns-in_err-requests
returns-in_err-requests g c =
    let fault = err_from_is_err_and c.from_residual.result c.from_residual.ensures.1 in
    rw fault.1 (record {
      shaped = tt;
      honestly = λ names honest. record {
        still = honest;
        few = λ plan planned. sends_none plan c.args.mark.now 1 (g.L.Link.seen c.args.link.now).past;
        goes = tt;
      };
      calmly = λ names calm. record { still = calm; comes = tt };
      sound = keeps_still c.args.mark.now (g.L.Link.seen c.args.link.now);
      tried = λ names honest. tt;
    })

pub returns-then-is_empty : goal.returns-then-is_empty
returns-then-is_empty g c =
    let part = c.args.part in
    let mark = c.args.mark.now in
    let keys = c.args.keys.now in
    let lookeds = c.args.lookeds.now.items in
    let past = (g.L.Link.seen c.args.link.now).past in
    let none : c.in_ok-requests.requests.items ≡ [] =
    none_left _ c.in_ok-requests.requests.items (sym c.is_empty.ensures ∙ c.if-is_empty.true) c.in_ok-requests.requests.ok.0 in
    let left : requests_of part mark keys lookeds ≡ [] =
    ap (requests_of part mark keys) (sym c.as_slice.ensures.value) ∙ sym c.in_ok-requests.ensures ∙ none in
    record {
      shaped = c.requires.shaped;
      honestly = λ names honest. record {
        still = honest;
        few = λ plan planned. sends_none plan mark 1 past;
        goes = goes_nowhere names mark keys lookeds past;
      };
      calmly = λ names calm. record {
        still = calm;
        comes = idle_goes part keys lookeds past (nothing_asked part mark keys lookeds (shaped_many keys lookeds c.requires.shaped) left);
      };
      sound = keeps_still mark (g.L.Link.seen c.args.link.now);
      tried = λ names honest start count.
          idle_tried part count (count + 1) mark keys lookeds start past (nothing_asked part mark keys lookeds (shaped_many keys lookeds c.requires.shaped) left);
    }

pub returns : goal.returns
returns g c = c.ask.ensures
