-- What the words tell, as a function.
use Rattle.std.specs.Prelude.{ℕ, List, [], ◌∷◌, codes, Option, Some, None, option_and_then, option_map, if◌then◌else◌}
use Rattle.std.specs.Str.{bytes_eq}
use Rattle.clap.specs.Walk.{first_of}
use Rattle.clap.specs.Simple.{matches_of}
use Rattle.cli_paths.specs.Command.{paths}
use Rattle.cli_paths.specs.Uses.{Use, Idle, plain, run}

-- the text of an argument, if it is told
abbrev pub value_of : List ℕ → List Use → Option (List ℕ)
value_of name [] = None
value_of name (use_ ∷ others) = if bytes_eq use_.0 name then Some use_.1 else value_of name others

-- the texts of a command line
pub record CommandTexts : Type 0 where
  pub addresses : List ℕ
  pub window : Option (List ℕ)
  pub reach : Option (List ℕ)
  pub first : Option (List ℕ)
  pub frames : Option (List ℕ)
  pub idle : Option (List ℕ)
  pub limit : Option (List ℕ)

abbrev pub texts_with : List Use → List ℕ → CommandTexts
texts_with done addresses = record {
  addresses = addresses;
  window = value_of (codes "window") done;
  reach = value_of (codes "reach") done;
  first = value_of (codes "first") done;
  frames = value_of (codes "frames") done;
  idle = value_of (codes "idle") done;
  limit = value_of (codes "limit") done;
}

abbrev pub texts_of : List Use → Option CommandTexts
texts_of done = option_map (texts_with done) (value_of plain done)

unfoldable pub parse_of : List (List ℕ) → Option CommandTexts
parse_of words = option_and_then texts_of (run words Idle [])

-- the text of an argument, as clap gives it
abbrev pub text_of : List ℕ → List (List ℕ) → Option (List ℕ)
text_of id words = first_of id (matches_of paths words)
