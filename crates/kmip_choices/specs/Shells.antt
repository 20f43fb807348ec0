-- The shells, by their words.
-- Source: own (text): a person names a shell so.
use Rattle.std.specs.Prelude.{ℕ, nat_eq, Bool, List, codes, Option, Some, None, if◌then◌else◌}
use Rattle.std.specs.Cmp.Lexicographic.{pointwise}
use Rattle.kmip_choices.specs.declared.shell.Shell.{Shell}
use Rattle.kmip_choices.specs.declared.shell.Shell.TheVariants.{Bash, Zsh, Fish}

-- The shell that a word names; none for any other word.
abbrev pub shell_named : List ℕ → Option Shell
shell_named word =
    if pointwise nat_eq word (codes "bash") then Some Bash
    else if pointwise nat_eq word (codes "zsh") then Some Zsh
    else if pointwise nat_eq word (codes "fish") then Some Fish
    else None
