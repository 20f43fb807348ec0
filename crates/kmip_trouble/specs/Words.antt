-- The words of what cannot be done with a file or a socket.
-- Source: own (text): what the program prints.
use Rattle.std.specs.Prelude.{List, codes, ℕ}
use Rattle.kmip_trouble.specs.declared.cannot.Cannot.{Cannot}
use Rattle.kmip_trouble.specs.declared.cannot.Cannot.TheVariants.{Begin, Connect, Last, Measure, Read, ReadOrigin, Save}

-- What standard output says of it before the path.
abbrev pub cannot_word : Cannot → List ℕ
cannot_word Read = codes "cannot read"
cannot_word ReadOrigin = codes "cannot read"
cannot_word Begin = codes "cannot write"
cannot_word Save = codes "cannot write"
cannot_word Last = codes "cannot write"
cannot_word Connect = codes "cannot connect"
cannot_word Measure = codes "cannot write"
