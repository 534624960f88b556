-- A command line.
use Rattle.std.specs.Prelude.{ℕ, ◌≡◌, List, ◌∷◌}
use Rattle.drm_words.specs.declared.request.Request.{Request}
use Rattle.cli_syntax.specs.Spelling.{Argument, WordsSpell, texts, options}
use Rattle.drm_words.specs.Table.{IsRequest}

-- The words are a command and then the spelling of arguments, and this is the request of that command with these arguments.
pub record IsLine (words : List (List ℕ)) (request : Request) : Type 0 where
  pub command : List ℕ
  pub behind : List (List ℕ)
  pub arguments : List Argument
  pub stands : words ≡ command ∷ behind
  pub spelled : WordsSpell arguments behind
  pub asks : IsRequest request command (texts arguments) (options arguments)

-- at most one request fits the words
abbrev pub HasOneRequest : Type 0
HasOneRequest = (words : List (List ℕ)) (request other : Request) → IsLine words request → IsLine words other → request ≡ other
