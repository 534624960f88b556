-- Which bytes are a text.
use Rattle.std.specs.Prelude.{ℕ, ◌≡◌, ◌<◌, ◌≤◌, List, length, IsUtf8}
use Rattle.text_lines.specs.declared.text.NoText.{NoText}
use Rattle.text_lines.specs.declared.text.NoText.TheVariants.{TooLong, Utf8}
use Rattle.text_lines.specs.Lines.{bad_line_of}

-- the most bytes that a text has
abbrev pub longest_text : ℕ
longest_text = 262144

-- why these bytes are none: they are too many, or else this is the line of the first byte that is no UTF-8
abbrev pub IsNoText : NoText → List ℕ → Type 0
IsNoText TooLong bytes = longest_text < length bytes
IsNoText (Utf8 line) bytes = (length bytes ≤ longest_text) × (IsUtf8 bytes → ⊥) × (line ≡ bad_line_of bytes)
