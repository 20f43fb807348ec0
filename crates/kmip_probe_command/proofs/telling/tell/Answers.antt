-- A probe looks first, and tells on where both names are free.
use Rattle.std.proofs.Common.{Some, option_map, ap, sym, ◌∙◌, arith}
use Rattle.kmip_probe.proofs.ProbingLemmas.{nothing_asked, nothing_sent, so_many}
use Rattle.kmip_probe.proofs.ServedLemmas.{none_served}
use Rattle.kmip_probe_command.specs.ProbeText.{unbegun_text}
use Rattle.kmip_probe_command.proofs.TellingLemmas.{kept_looks, kept_on, looked_free, still_begun, told_if, told_on, told_unbegun}
use Rattle.kmip_probe_command.proofs.telling.tell.Goals as goal

pub returns-in-Some-clause-text : goal.returns-in-Some-clause-text
returns-in-Some-clause-text g c =
    let is = ap (option_map (λ bytes. bytes.items)) (sym c.in-Some.is) ∙ c.in_ok-text.ensures ∙ ap (unbegun_text c.args.form c.args.prefix.now) c.as_slice.ensures.value in
    told_if c.print_refusal.result _ _
    (λ r told. told_unbegun c.args.form c.args.prefix.now c.ask_on.new.answers.items (g.L.Link.seen c.args.link.now) (g.L.Link.seen c.ask_on.new.link) r c.as_slice-in-Some.result.now (g.P.Printer.contents c.args.printer.now) (g.P.Printer.contents c.print_refusal.new.printer)
    (λ names honest. (c.in_ok-ask_on.ensures.asked names honest).1 (g.L.Link.seen c.args.link.now).past (nothing_asked c.args.prefix.now c.new-answers.result.items (g.L.Link.seen c.args.link.now).past c.new-answers.ensures.items))
    (λ names calm. (c.in_ok-ask_on.ensures.once names calm).1 (g.L.Link.seen c.args.link.now).past (nothing_sent c.args.prefix.now c.new-answers.result.items (g.L.Link.seen c.args.link.now).past c.new-answers.ensures.items)) (ap Some c.as_slice-in-Some.ensures.value ∙ is) told) c.print_refusal.ensures.text

pub returns-in-Some-clause-kept : goal.returns-in-Some-clause-kept
returns-in-Some-clause-kept g c =
    λ names calm free.
    let is = ap (option_map (λ bytes. bytes.items)) (sym c.in-Some.is) ∙ c.in_ok-text.ensures ∙ ap (unbegun_text c.args.form c.args.prefix.now) c.as_slice.ensures.value in
    let (still, served) = c.in_ok-ask_on.ensures.served names calm (none_served c.args.prefix.now c.new-answers.result.items (g.L.Link.seen c.args.link.now).past c.new-answers.ensures.items free) in
    let none = kept_looks c.args.form c.args.prefix.now c.ask_on.new.answers.items (g.L.Link.seen c.ask_on.new.link).past c.in_ok-ask_on.ensures.most c.in_ok-ask_on.ensures.whole served in
    let both = is ∙ none in absurd cc

pub returns-clause-text : goal.returns-clause-text
returns-clause-text g c =
    let none = sym (ap (option_map (λ bytes. bytes.items)) (sym c.in-None.is) ∙ c.in_ok-text.ensures ∙ ap (unbegun_text c.args.form c.args.prefix.now) c.as_slice.ensures.value) in
    told_on c.args.form c.args.prefix.now c.ask_on.new.answers.items c.tell_on.new.answers.items (g.L.Link.seen c.args.link.now) (g.L.Link.seen c.ask_on.new.link) (g.L.Link.seen c.tell_on.new.link) c.tell_on.result (g.P.Printer.contents c.args.printer.now) (g.P.Printer.contents c.tell_on.new.printer)
    (λ names honest. let (still, asked) = c.in_ok-ask_on.ensures.asked names honest in (still, asked (g.L.Link.seen c.args.link.now).past (nothing_asked c.args.prefix.now c.new-answers.result.items (g.L.Link.seen c.args.link.now).past c.new-answers.ensures.items)))
    c.tell_on.ensures.asked
    (λ names calm. let (still, once) = c.in_ok-ask_on.ensures.once names calm in (still, once (g.L.Link.seen c.args.link.now).past (nothing_sent c.args.prefix.now c.new-answers.result.items (g.L.Link.seen c.args.link.now).past c.new-answers.ensures.items)))
    c.tell_on.ensures.once
    (still_begun c.args.form c.args.prefix.now c.ask_on.new.answers.items c.tell_on.new.answers.items c.tell_on.ensures.onward (let (first, second) = looked_free c.args.form c.args.prefix.now c.ask_on.new.answers.items none in so_many c.ask_on.new.answers.items 2 first second c.in_ok-ask_on.ensures.most (omega arith) c.in_ok-ask_on.ensures.whole) none)
    c.tell_on.ensures.text

pub returns-clause-kept : goal.returns-clause-kept
returns-clause-kept g c =
    λ names calm free.
    let (still, served) = c.in_ok-ask_on.ensures.served names calm (none_served c.args.prefix.now c.new-answers.result.items (g.L.Link.seen c.args.link.now).past c.new-answers.ensures.items free) in
    kept_on c.the_profile_keeps_all.ensures c.args.form c.args.prefix.now c.tell_on.new.answers.items (g.L.Link.seen c.tell_on.new.link).past c.tell_on.result (g.P.Printer.contents c.args.printer.now) (g.P.Printer.contents c.tell_on.new.printer)
    (c.tell_on.ensures.served names still served) c.tell_on.ensures.all c.tell_on.ensures.text
