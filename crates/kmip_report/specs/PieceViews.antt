-- What the pieces of the code are.
-- Source: own (view): a type of this crate, in the terms of its two forms.
use Rattle.std.specs.Prelude.{List, map}
use Rattle.kmip_report.specs.declared.piece.Piece as code
use Rattle.kmip_report.specs.declared.piece.Piece.TheVariants.{Told, Said, Raw, Noted}
use Rattle.kmip_report.specs.Members.{data_of, text_of}
use Rattle.kmip_report.specs.Pieces.{Piece, noted, said, told}

-- A piece of the code.
abbrev pub piece_of : code.Piece → Piece
piece_of (Told front m) = told front.now m.name.now (text_of m.value) (data_of m.value)
piece_of (Said words) = said words.now
piece_of (Raw bytes) = said bytes.now
piece_of (Noted m) = noted m.name.now (data_of m.value)

-- Pieces of the code, in their order.
abbrev pub pieces_of : List code.Piece → List Piece
pieces_of pieces = map piece_of pieces
