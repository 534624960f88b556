-- Text in pieces.
use Rattle.std.specs.Prelude.{ℕ, List, decimal}
use Rattle.std.specs.List.{flat_map}
use Rattle.hex.specs.Hex.{encode_lower}
use Rattle.text_output.specs.declared.piece.Piece.{Piece}
use Rattle.text_output.specs.declared.piece.Piece.TheVariants.{Words, Number, Hex, Name}

-- the text of a piece
abbrev pub piece_text : Piece → List ℕ
piece_text (Words text) = text.now
piece_text (Number n) = decimal n
piece_text (Hex bytes) = encode_lower bytes.now
piece_text (Name name) = name

-- the texts of pieces, one after another
abbrev pub text_of : List Piece → List ℕ
text_of pieces = flat_map piece_text pieces
