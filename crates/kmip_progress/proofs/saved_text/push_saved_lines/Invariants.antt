-- The lines so far, and then those of the keys that are left, are all of them.
use Rattle.std.proofs.Common.{◌≡◌, ◌++◌, drop, string_bytes}
use Rattle.kmip_progress.specs.Suiting.{Suits, are_texts}
use Rattle.kmip_progress.specs.Saved.{saved_lines}
use Rattle.kmip_progress.specs.Private.{key_lines}
use Rattle.kmip_progress.proofs.saved_text.push_saved_lines.Given as goal

abbrev pub invariant-loop-one : goal.invariant-loop-one
invariant-loop-one l = record {
  suits : Suits l.rest (drop l.one-index l.known);
  text : string_bytes l.text ++ key_lines l.rest (drop l.one-index l.known) ≡ string_bytes l.initial.text ++ key_lines
      l.keys l.known;
  lines : l.lines.items ++ saved_lines l.rest (drop l.one-index l.known) ≡ l.initial.lines.items ++ saved_lines l.keys
      l.known;
  utf8 : are_texts (drop l.one-index l.known) ≡ are_texts l.known;
}
