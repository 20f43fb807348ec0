-- Each stage tells what its answers decide, and what was told before stays true.
use Rattle.std.proofs.Common.{◌∷◌, [], ◌++◌, flat_map, map, refl, sym, subst, arith}
use Rattle.std.specs.Io.KnownBytes.{Appends}
use Rattle.std.proofs.lemmas.Result.{err_from_is_err_and}
use Rattle.kmip_report.specs.Private.{Fails}
use Rattle.kmip_probe_command.specs.Midway.{line_by}
use Rattle.kmip_probe_command.specs.Private.{TellsEnd, rest_text}
use Rattle.kmip_probe_command.specs.ProbeText.{making_text}
use Rattle.kmip_probe_command.specs.declared.premise.Premise.TheVariants as premise
use Rattle.kmip_probe_command.specs.declared.premise.TheConstants.{EARLY, LATE}
use Rattle.kmip_probe_command.proofs.MidwayLemmas.{broke, broken_at, lacked}
use Rattle.kmip_probe_command.proofs.TellingLemmas.{always, counted, eight_lines, farther, one_line, told_if, told_report, two_lines}
use Rattle.kmip_probe_command.proofs.telling.tell_on.Goals as goal

pub returns-in_err-ask_on-clause-broken : goal.returns-in_err-ask_on-clause-broken
returns-in_err-ask_on-clause-broken g c =
    let fault = err_from_is_err_and c.from_residual-in_err-ask_on.result c.from_residual-in_err-ask_on.ensures.1 in
    rw fault.1 (lacked fault.0 c.args.form c.args.prefix.now c.args.answers.now.items (making_text c.args.form c.args.prefix.now ∷ []) (map (line_by c.args.form c.args.prefix.now c.args.answers.now.items) (EARLY ++ LATE ++ premise.IdsAreEchoed ∷ [])) g.P.Printer.own_fault g.P.Printer.IsWhole (g.P.Printer.contents c.args.printer.now) (g.P.Printer.contents c.print_making.new.printer) refl (omega (arith, c.requires.two))
    (one_line c.args.form c.args.prefix.now (g.P.Printer.contents c.args.printer.now) (g.P.Printer.contents c.print_making.new.printer) c.in_ok-print_making.ensures.text) fault.2)

pub returns-in_err-print_lines-clause-broken : goal.returns-in_err-print_lines-clause-broken
returns-in_err-print_lines-clause-broken g c =
    let eight = counted c.args.answers.now.items c.ask_on.new.answers.items 8 c.in_ok-ask_on.ensures.onward c.requires.two c.requires.first c.requires.second c.in_ok-ask_on.ensures.most (omega arith) c.in_ok-ask_on.ensures.whole in
    let fault = err_from_is_err_and c.from_residual-in_err-print_lines.result c.from_residual-in_err-print_lines.ensures.1 in
    rw fault.1 (broken_at c.args.form c.args.prefix.now c.ask_on.new.answers.items (making_text c.args.form c.args.prefix.now ∷ []) (map (line_by c.args.form c.args.prefix.now c.ask_on.new.answers.items) (EARLY ++ LATE ++ premise.IdsAreEchoed ∷ [])) fault.0 g.P.Printer.own_fault g.P.Printer.IsWhole (g.P.Printer.contents c.args.printer.now) (g.P.Printer.contents c.print_making.new.printer) (g.P.Printer.contents c.print_lines.new.printer) refl (omega (arith, eight))
    (one_line c.args.form c.args.prefix.now (g.P.Printer.contents c.args.printer.now) (g.P.Printer.contents c.print_making.new.printer) c.in_ok-print_making.ensures.text) (subst (λ e. Fails e g.P.Printer.own_fault g.P.Printer.IsWhole (g.P.Printer.contents c.print_making.new.printer) (g.P.Printer.contents c.print_lines.new.printer)) (sym fault.2) c.in_err-print_lines.ensures.broken))

pub returns-in_err-ask_on-2-clause-broken : goal.returns-in_err-ask_on-2-clause-broken
returns-in_err-ask_on-2-clause-broken g c =
    let eight = counted c.args.answers.now.items c.ask_on.new.answers.items 8 c.in_ok-ask_on.ensures.onward c.requires.two c.requires.first c.requires.second c.in_ok-ask_on.ensures.most (omega arith) c.in_ok-ask_on.ensures.whole in
    let told = subst (λ xs. Appends (g.P.Printer.contents c.print_making.new.printer) (g.P.Printer.contents c.print_lines.new.printer) (flat_map (line_by c.args.form c.args.prefix.now xs) EARLY)) c.as_slice.ensures.value c.in_ok-print_lines.ensures.text in
    let fault = err_from_is_err_and c.from_residual-in_err-ask_on-2.result c.from_residual-in_err-ask_on-2.ensures.1 in
    rw fault.1 (lacked fault.0 c.args.form c.args.prefix.now c.ask_on.new.answers.items (making_text c.args.form c.args.prefix.now ∷ map (line_by c.args.form c.args.prefix.now c.ask_on.new.answers.items) EARLY) (map (line_by c.args.form c.args.prefix.now c.ask_on.new.answers.items) (LATE ++ premise.IdsAreEchoed ∷ [])) g.P.Printer.own_fault g.P.Printer.IsWhole (g.P.Printer.contents c.args.printer.now) (g.P.Printer.contents c.print_lines.new.printer) refl (omega (arith, eight))
    (two_lines c.args.form c.args.prefix.now c.ask_on.new.answers.items (g.P.Printer.contents c.args.printer.now) (g.P.Printer.contents c.print_making.new.printer) (g.P.Printer.contents c.print_lines.new.printer) c.in_ok-print_making.ensures.text told) fault.2)

pub returns-in_err-print_lines-2-clause-broken : goal.returns-in_err-print_lines-2-clause-broken
returns-in_err-print_lines-2-clause-broken g c =
    let eight = counted c.args.answers.now.items c.ask_on.new.answers.items 8 c.in_ok-ask_on.ensures.onward c.requires.two c.requires.first c.requires.second c.in_ok-ask_on.ensures.most (omega arith) c.in_ok-ask_on.ensures.whole in
    let told = subst (λ xs. Appends (g.P.Printer.contents c.print_making.new.printer) (g.P.Printer.contents c.print_lines.new.printer) (flat_map (line_by c.args.form c.args.prefix.now xs) EARLY)) c.as_slice.ensures.value c.in_ok-print_lines.ensures.text in
    let fault = err_from_is_err_and c.from_residual-in_err-print_lines-2.result c.from_residual-in_err-print_lines-2.ensures.1 in
    rw fault.1 (broken_at c.args.form c.args.prefix.now c.ask_on.new.answers.items (making_text c.args.form c.args.prefix.now ∷ map (line_by c.args.form c.args.prefix.now c.ask_on.new.answers.items) EARLY) (map (line_by c.args.form c.args.prefix.now c.ask_on.new.answers.items) (LATE ++ premise.IdsAreEchoed ∷ [])) fault.0 g.P.Printer.own_fault g.P.Printer.IsWhole (g.P.Printer.contents c.args.printer.now) (g.P.Printer.contents c.print_lines.new.printer) (g.P.Printer.contents c.print_lines-2.new.printer) refl (omega (arith, eight))
    (two_lines c.args.form c.args.prefix.now c.ask_on.new.answers.items (g.P.Printer.contents c.args.printer.now) (g.P.Printer.contents c.print_making.new.printer) (g.P.Printer.contents c.print_lines.new.printer) c.in_ok-print_making.ensures.text told) (subst (λ e. Fails e g.P.Printer.own_fault g.P.Printer.IsWhole (g.P.Printer.contents c.print_lines.new.printer) (g.P.Printer.contents c.print_lines-2.new.printer)) (sym fault.2) c.in_err-print_lines-2.ensures.broken))

pub returns-in_err-ask_on-3-clause-broken : goal.returns-in_err-ask_on-3-clause-broken
returns-in_err-ask_on-3-clause-broken g c =
    let eight = counted c.args.answers.now.items c.ask_on.new.answers.items 8 c.in_ok-ask_on.ensures.onward c.requires.two c.requires.first c.requires.second c.in_ok-ask_on.ensures.most (omega arith) c.in_ok-ask_on.ensures.whole in
    let told = subst (λ xs. Appends (g.P.Printer.contents c.print_making.new.printer) (g.P.Printer.contents c.print_lines.new.printer) (flat_map (line_by c.args.form c.args.prefix.now xs) EARLY)) c.as_slice.ensures.value c.in_ok-print_lines.ensures.text in
    let most = counted c.args.answers.now.items c.ask_on-2.new.answers.items 23 (farther c.args.answers.now.items c.ask_on.new.answers.items c.ask_on-2.new.answers.items c.in_ok-ask_on.ensures.onward c.in_ok-ask_on-2.ensures.onward) c.requires.two c.requires.first c.requires.second c.in_ok-ask_on-2.ensures.most (omega arith) c.in_ok-ask_on-2.ensures.whole in
    let later = subst (λ xs. Appends (g.P.Printer.contents c.print_lines.new.printer) (g.P.Printer.contents c.print_lines-2.new.printer) (flat_map (line_by c.args.form c.args.prefix.now xs) LATE)) c.as_slice-2.ensures.value c.in_ok-print_lines-2.ensures.text in
    let (more, is) = c.in_ok-ask_on-2.ensures.onward in
    let fault = err_from_is_err_and c.from_residual-in_err-ask_on-3.result c.from_residual-in_err-ask_on-3.ensures.1 in
    rw fault.1 (lacked fault.0 c.args.form c.args.prefix.now c.ask_on-2.new.answers.items (making_text c.args.form c.args.prefix.now ∷ map (line_by c.args.form c.args.prefix.now c.ask_on-2.new.answers.items) (EARLY ++ LATE)) (line_by c.args.form c.args.prefix.now c.ask_on-2.new.answers.items premise.IdsAreEchoed ∷ []) g.P.Printer.own_fault g.P.Printer.IsWhole (g.P.Printer.contents c.args.printer.now) (g.P.Printer.contents c.print_lines-2.new.printer) refl (omega (arith, most))
    (eight_lines c.args.form c.args.prefix.now c.ask_on.new.answers.items c.ask_on-2.new.answers.items more (g.P.Printer.contents c.args.printer.now) (g.P.Printer.contents c.print_making.new.printer) (g.P.Printer.contents c.print_lines.new.printer) (g.P.Printer.contents c.print_lines-2.new.printer) is (omega (arith, eight)) c.in_ok-print_making.ensures.text told later) fault.2)

pub returns-clause-broken : goal.returns-clause-broken
returns-clause-broken g c =
    let eight = counted c.args.answers.now.items c.ask_on.new.answers.items 8 c.in_ok-ask_on.ensures.onward c.requires.two c.requires.first c.requires.second c.in_ok-ask_on.ensures.most (omega arith) c.in_ok-ask_on.ensures.whole in
    let told = subst (λ xs. Appends (g.P.Printer.contents c.print_making.new.printer) (g.P.Printer.contents c.print_lines.new.printer) (flat_map (line_by c.args.form c.args.prefix.now xs) EARLY)) c.as_slice.ensures.value c.in_ok-print_lines.ensures.text in
    let most = counted c.args.answers.now.items c.ask_on-2.new.answers.items 23 (farther c.args.answers.now.items c.ask_on.new.answers.items c.ask_on-2.new.answers.items c.in_ok-ask_on.ensures.onward c.in_ok-ask_on-2.ensures.onward) c.requires.two c.requires.first c.requires.second c.in_ok-ask_on-2.ensures.most (omega arith) c.in_ok-ask_on-2.ensures.whole in
    let later = subst (λ xs. Appends (g.P.Printer.contents c.print_lines.new.printer) (g.P.Printer.contents c.print_lines-2.new.printer) (flat_map (line_by c.args.form c.args.prefix.now xs) LATE)) c.as_slice-2.ensures.value c.in_ok-print_lines-2.ensures.text in
    let (more, is) = c.in_ok-ask_on-2.ensures.onward in
    broke c.print_rest.result c.args.form c.args.prefix.now c.ask_on-2.new.answers.items (making_text c.args.form c.args.prefix.now ∷ map (line_by c.args.form c.args.prefix.now c.ask_on-2.new.answers.items) (EARLY ++ LATE)) (line_by c.args.form c.args.prefix.now c.ask_on-2.new.answers.items premise.IdsAreEchoed ∷ []) g.P.Printer.own_fault g.P.Printer.IsWhole (g.P.Printer.contents c.args.printer.now) (g.P.Printer.contents c.print_lines-2.new.printer) (g.P.Printer.contents c.print_rest.new.printer) refl (omega (arith, most))
    (eight_lines c.args.form c.args.prefix.now c.ask_on.new.answers.items c.ask_on-2.new.answers.items more (g.P.Printer.contents c.args.printer.now) (g.P.Printer.contents c.print_making.new.printer) (g.P.Printer.contents c.print_lines.new.printer) (g.P.Printer.contents c.print_lines-2.new.printer) is (omega (arith, eight)) c.in_ok-print_making.ensures.text told later) c.print_rest.ensures.broken

pub returns-clause-text : goal.returns-clause-text
returns-clause-text g c =
    let eight = counted c.args.answers.now.items c.ask_on.new.answers.items 8 c.in_ok-ask_on.ensures.onward c.requires.two c.requires.first c.requires.second c.in_ok-ask_on.ensures.most (omega arith) c.in_ok-ask_on.ensures.whole in
    let told = subst (λ xs. Appends (g.P.Printer.contents c.print_making.new.printer) (g.P.Printer.contents c.print_lines.new.printer) (flat_map (line_by c.args.form c.args.prefix.now xs) EARLY)) c.as_slice.ensures.value c.in_ok-print_lines.ensures.text in
    let most = counted c.args.answers.now.items c.ask_on-2.new.answers.items 23 (farther c.args.answers.now.items c.ask_on.new.answers.items c.ask_on-2.new.answers.items c.in_ok-ask_on.ensures.onward c.in_ok-ask_on-2.ensures.onward) c.requires.two c.requires.first c.requires.second c.in_ok-ask_on-2.ensures.most (omega arith) c.in_ok-ask_on-2.ensures.whole in
    let later = subst (λ xs. Appends (g.P.Printer.contents c.print_lines.new.printer) (g.P.Printer.contents c.print_lines-2.new.printer) (flat_map (line_by c.args.form c.args.prefix.now xs) LATE)) c.as_slice-2.ensures.value c.in_ok-print_lines-2.ensures.text in
    let (more, is) = c.in_ok-ask_on-2.ensures.onward in
    let (rest, is_all) = c.in_ok-ask_on-3.ensures.onward in
    told_if c.print_rest.result _ _
    (λ r tells. told_report c.args.form c.args.prefix.now c.ask_on.new.answers.items c.ask_on-2.new.answers.items c.ask_on-3.new.answers.items more rest r (g.P.Printer.contents c.args.printer.now) (g.P.Printer.contents c.print_making.new.printer) (g.P.Printer.contents c.print_lines.new.printer) (g.P.Printer.contents c.print_lines-2.new.printer) (g.P.Printer.contents c.print_rest.new.printer) is is_all (omega (arith, eight)) (omega (arith, most)) c.in_ok-print_making.ensures.text told later
    (subst (λ xs. TellsEnd (rest_text c.args.form) c.args.prefix.now xs r (g.P.Printer.contents c.print_lines-2.new.printer) (g.P.Printer.contents c.print_rest.new.printer)) c.as_slice-3.ensures.value tells)) c.print_rest.ensures.text

pub returns-clause-all : goal.returns-clause-all
returns-clause-all g c =
    always c.print_rest.result _
    (counted c.args.answers.now.items c.ask_on-3.new.answers.items 25 (farther c.args.answers.now.items c.ask_on-2.new.answers.items c.ask_on-3.new.answers.items (farther c.args.answers.now.items c.ask_on.new.answers.items c.ask_on-2.new.answers.items c.in_ok-ask_on.ensures.onward c.in_ok-ask_on-2.ensures.onward) c.in_ok-ask_on-3.ensures.onward)
    c.requires.two c.requires.first c.requires.second c.in_ok-ask_on-3.ensures.most (omega arith) c.in_ok-ask_on-3.ensures.whole)

pub returns-clause-asked : goal.returns-clause-asked
returns-clause-asked g c =
    λ names honest.
    let (still, asked) = c.in_ok-ask_on.ensures.asked names honest in
    let (again, asked_then) = c.in_ok-ask_on-2.ensures.asked names still in
    let (last, asked_last) = c.in_ok-ask_on-3.ensures.asked names again in
    always c.print_rest.result _ (λ start first. asked_last start (asked_then start (asked start first)))

pub returns-clause-once : goal.returns-clause-once
returns-clause-once g c =
    λ names calm.
    let (still, once) = c.in_ok-ask_on.ensures.once names calm in
    let (again, once_then) = c.in_ok-ask_on-2.ensures.once names still in
    let (last, once_last) = c.in_ok-ask_on-3.ensures.once names again in
    always c.print_rest.result _ (λ start first. once_last start (once_then start (once start first)))
