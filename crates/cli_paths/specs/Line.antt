-- A command line.
use Rattle.std.specs.Prelude.{ℕ, ◌≡◌, List}
use Rattle.cli_paths.specs.declared.request.PathsRequest.{PathsRequest}
use Rattle.cli_syntax.specs.Spelling.{Argument, WordsSpell, texts, options}
use Rattle.cli_paths.specs.Table.{IsPaths}

-- The words are the spelling of arguments, and this is the request with these arguments.
pub record IsPathsLine (words : List (List ℕ)) (request : PathsRequest) : Type 0 where
  pub arguments : List Argument
  pub spelled : WordsSpell arguments words
  pub asks : IsPaths request (texts arguments) (options arguments)

-- at most one request fits the words
abbrev pub HasOnePathsRequest : Type 0
HasOnePathsRequest = (words : List (List ℕ)) (request other : PathsRequest) → IsPathsLine words request → IsPathsLine words other → request ≡ other
