-- The law of lines: what a line says is read again from what is written of it.
use Rattle.std.specs.Prelude.{ℕ, ◌≡◌, ◌≢◌, List, ◌∷◌, All, IsUtf8, Ok}
use Rattle.text_lines.specs.Lines.{words_of}
use Rattle.plan_grammar.specs.declared.version.Version.{Version}
use Rattle.plan_grammar.specs.declared.version.Version.TheVariants.{Two}
use Rattle.plan_grammar.specs.declared.line.Line.{Line}
use Rattle.plan_rows.specs.declared.keyword.Keyword.{Keyword}
use Rattle.plan_rows.specs.Keywords.{keyword_text}
use Rattle.plan_rows.specs.Fits.{IsCleanLine}
use Rattle.plan_grammar.specs.Said.{keyword_said, canonical, detached, LineInLines}
use Rattle.plan_grammar.specs.Says.{line_said}

-- The canonical line of what is said is one line of UTF-8, is cut into its keyword and words, and by these says the same; of a file
-- there is only the name.
pub record IsSaidAgain (l : Line) : Type 0 where
  pub one_line : All (λ byte. byte ≢ 10) (canonical l)
  pub utf8 : IsUtf8 (canonical l)
  pub words : List (List ℕ)
  pub cut : words_of (canonical l) ≡ keyword_text (keyword_said l) ∷ words
  pub said : line_said Two (keyword_said l) (canonical l) words ≡ Ok (detached l)

abbrev pub AreSaidAgain : Type 0
AreSaidAgain = (l : Line) → LineInLines l → IsSaidAgain l

-- what a clean line says is what a line can say
abbrev pub SayWhatFits : Type 0
SayWhatFits = (version : Version) (keyword : Keyword) (line : List ℕ) (words : List (List ℕ)) (l : Line) → IsCleanLine line words → line_said version keyword line words ≡ Ok l → LineInLines l

-- and is a line of its keyword
abbrev pub SayTheirKeyword : Type 0
SayTheirKeyword = (version : Version) (keyword : Keyword) (line : List ℕ) (words : List (List ℕ)) (l : Line) → line_said version keyword line words ≡ Ok l → keyword_said l ≡ keyword
