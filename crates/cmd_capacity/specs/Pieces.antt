-- A line in pieces.
use Rattle.std.specs.Prelude.{ℕ, List, decimal, codes, Option, Some, None}
use Rattle.std.specs.List.{flat_map}
use Rattle.cmd_capacity.specs.declared.piece.LinePiece.{LinePiece}
use Rattle.cmd_capacity.specs.declared.piece.LinePiece.TheVariants.{Words, Number, Maybe}

-- a number, or a dash for none
abbrev pub number_or_dash : Option ℕ → List ℕ
number_or_dash None = codes "-"
number_or_dash (Some n) = decimal n

abbrev pub piece_text : LinePiece → List ℕ
piece_text (Words text) = text.now
piece_text (Number n) = decimal n
piece_text (Maybe n) = number_or_dash n

-- the texts of pieces, one after another
abbrev pub text_of : List LinePiece → List ℕ
text_of pieces = flat_map piece_text pieces
