-- The words so far, and those of the lines that are left, are all.
use denote.Shadow.{shadow}
use denote.Text.{Utf8}
use Rattle.std.proofs.Common.{◌≡◌}
use Rattle.kmip_scripted.specs.ScriptReading.{script_read, with_front, words_from}
use Rattle.kmip_scripted.specs.ScriptTexts.{lines_in}
use Rattle.kmip_scripted.proofs.reading.words_of.Given as goal

abbrev pub invariant-loop-number : goal.invariant-loop-number
invariant-loop-number l = record {
  so_far : with_front l.words.items (words_from l.number (lines_in l.rest)) ≡ script_read l.text;
  is_text : shadow (Utf8 l.rest);
}
