-- The line at the place is written anew, and the others stay.
use Rattle.std.proofs.Common.{arith, rules, ◌≡◌, ◌+◌, ◌++◌, length, take, drop, set, get_or, ap, sym, ◌∙◌}
use Rattle.kmip_progress.specs.declared.saved_line.SavedLine.{SavedLine}
use Rattle.kmip_progress.specs.Saved.{line_bytes, saved_line, saved_lines}
use Rattle.kmip_progress.proofs.SavedLemmas.{laid, lines_set, same_state, sizes, text_set}
use Rattle.kmip_progress.proofs.saved_text.SavedText.set.Goals as goal

pub start_of-start-requires-clause-place : goal.start_of-start-requires-clause-place
start_of-start-requires-clause-place c =
    let l = laid c.args.plan.now c.requires.saved.progress c.args.place c.self.inside.text.items
    c.self.inside.lines.items (c.self.view_is ∙ c.requires.saved.is) c.requires.saved.suits c.requires.place in
    omega (arith, l.counted, c.requires.place, ap length c.as_slice.ensures.value)

pub start_of-start-requires-clause-fits : goal.start_of-start-requires-clause-fits
start_of-start-requires-clause-fits c =
    let l = laid c.args.plan.now c.requires.saved.progress c.args.place c.self.inside.text.items
    c.self.inside.lines.items (c.self.view_is ∙ c.requires.saved.is) c.requires.saved.suits c.requires.place in
    omega (
      arith,
      l.long,
      ap sizes c.as_slice.ensures.value,
      c.self.inside.text.ok.0,
      c.self.inside.text.ok.1,
      c.self.inside.text.small,
    )

pub index-requires : goal.index-requires
index-requires c =
    let l = laid c.args.plan.now c.requires.saved.progress c.args.place c.self.inside.text.items
    c.self.inside.lines.items (c.self.view_is ∙ c.requires.saved.is) c.requires.saved.suits c.requires.place in
    omega (arith, l.counted, c.requires.place, c.self.inside.lines.ok.0)

pub overflow_add-end : goal.overflow_add-end
overflow_add-end c =
    let l = laid c.args.plan.now c.requires.saved.progress c.args.place c.self.inside.text.items
    c.self.inside.lines.items (c.self.view_is ∙ c.requires.saved.is) c.requires.saved.suits c.requires.place in
    let start = c.start_of-start.ensures
    ∙ ap (λ lines. 16 + sizes (take c.args.place lines)) c.as_slice.ensures.value in
    let size = ap (λ (line : SavedLine). line.size) c.index.ensures in
    omega (
      arith,
      l.ends c.index.result.now,
      start,
      size,
      c.self.inside.text.ok.0,
      c.self.inside.text.ok.1,
      c.self.inside.text.small,
    )

pub replaced-requires-clause-end : goal.replaced-requires-clause-end
replaced-requires-clause-end c =
    let l = laid c.args.plan.now c.requires.saved.progress c.args.place c.self.inside.text.items
    c.self.inside.lines.items (c.self.view_is ∙ c.requires.saved.is) c.requires.saved.suits c.requires.place in
    let start = c.start_of-start.ensures
    ∙ ap (λ lines. 16 + sizes (take c.args.place lines)) c.as_slice.ensures.value in
    let size = ap (λ (line : SavedLine). line.size) c.index.ensures in
    omega (arith, l.ends c.index.result.now, start, size, ap length c.as_slice-2.ensures.value)

pub index_mut-requires : goal.index_mut-requires
index_mut-requires c =
    let l = laid c.args.plan.now c.requires.saved.progress c.args.place c.self.inside.text.items
    c.self.inside.lines.items (c.self.view_is ∙ c.requires.saved.is) c.requires.saved.suits c.requires.place in
    omega (arith, l.counted, c.requires.place, c.self.inside.lines.ok.0)

pub returns-clause-set : goal.returns-clause-set
returns-clause-set c = λ progress suits saved_is.
    let keys = c.args.plan.now in
    let place = c.args.place in
    let known = c.args.known.now in
    let old = c.self.inside.text.items in
    let lines = c.self.inside.lines.items in
    let start = c.start_of-start.result in
    let line = c.index.result.now in
    let l = laid keys progress place old lines (c.self.view_is ∙ saved_is) suits c.requires.place in
    let d = c.index-keys-place.result in
    let key : d ≡ get_or keys place d = c.index-keys-place.is ∙ ap (λ ks. get_or ks place d) c.keys.ensures.value in
    let begins : start ≡ 16 + sizes (take place (saved_lines keys progress)) =
    c.start_of-start.ensures ∙ ap (λ lines. 16 + sizes (take place lines)) (c.as_slice.ensures.value ∙ l.lines_are) in
    let long : line.size ≡ (get_or (saved_lines keys progress) place line).size =
    ap (λ (line : SavedLine). line.size) (c.index.ensures ∙ ap (λ lines. get_or lines place line) l.lines_are) in
    let made : c.in_ok-text.text.items ≡ take start c.as_slice-2.result.now ++ (c.as_bytes.result.now ++ drop
    (start + line.size) c.as_slice-2.result.now) =
    search rules in
    let written : c.as_bytes.result.now ≡ line_bytes (get_or keys place d) known =
    let own : c.as_bytes.result.now ≡ line_bytes d known = search rules in
    own ∙ ap (λ k. line_bytes k known) key in
    let says : c.in_ok-line.line ≡ saved_line (get_or keys place d) known =
    let own : c.in_ok-line.line ≡ saved_line d known = search rules in
    own ∙ ap (λ k. saved_line k known) key in
    same_state keys (set progress place known) c.in_ok-text.text.items (set lines place c.in_ok-line.line)
    (made ∙ ap (λ t. take start t ++ (c.as_bytes.result.now ++ drop (start + line.size) t)) c.as_slice-2.ensures.value
    ∙ ap (λ w. take start old ++ (w ++ drop (start + line.size) old)) written
    ∙ text_set keys progress place d line known old start line.size suits c.requires.place l.text_is begins long)
    (ap (λ says. set lines place says) says
    ∙ ap (λ lines. set lines place (saved_line (get_or keys place d) known)) l.lines_are
    ∙ sym (lines_set keys progress place d known suits c.requires.place))
