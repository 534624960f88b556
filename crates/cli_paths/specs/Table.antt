-- What the plain words and the options ask for.
use Rattle.std.specs.Prelude.{ℕ, ◌≡◌, ◌≤◌, ◌⊎◌, List, [], ◌∷◌, Option, Some, None, MatchOption, codes, length}
use Rattle.cli_paths.specs.declared.request.PathsRequest.{PathsRequest}
use Rattle.cli_syntax.specs.Numbers.{IsNumberWithin}
use Rattle.cli_syntax.specs.Addresses.{AreAddresses}
use Rattle.cli_paths.specs.CommandTexts.{value_of}

-- the options: names and values
abbrev pub OptionWords : Type 0
OptionWords = List (List ℕ × List ℕ)

-- it is one of these
abbrev pub IsOneOf : List (List ℕ) → List ℕ → Type 0
IsOneOf [] name = ⊥
IsOneOf (known ∷ others) name = (name ≡ known) ⊎ IsOneOf others name

-- each option has one of these names, and no name comes twice
abbrev pub AreOf : List (List ℕ) → OptionWords → Type 0
AreOf names [] = Unit {0}
AreOf names (option ∷ others) = IsOneOf names option.0 × (value_of option.0 others ≡ None) × AreOf names others

-- the number of an option in its range, or the default where the option isn't told
abbrev pub IsNumberOr : ℕ → ℕ → ℕ → Option (List ℕ) → ℕ → Type 0
IsNumberOr default least greatest value n = MatchOption value (n ≡ default) (λ text. IsNumberWithin least greatest text n)

-- the number of an option in its range, or none where the option isn't told
abbrev pub IsNumberOrNone : ℕ → ℕ → Option (List ℕ) → Option ℕ → Type 0
IsNumberOrNone least greatest None n = n ≡ None
IsNumberOrNone least greatest (Some text) n = (number : ℕ) × (n ≡ Some number) × IsNumberWithin least greatest text number

-- ADDRS [--window W] [--reach A] [--first N] [--frames N] [--idle K] [--limit L]
-- Where an option has a default it stands before the option's range.
pub record IsPaths (request : PathsRequest) (texts : List (List ℕ)) (options : OptionWords) : Type 0 where
  pub text : List ℕ
  pub one : texts ≡ text ∷ []
  pub addresses : AreAddresses text request.addresses
  pub some_paths : 2 ≤ length request.addresses
  pub few_paths : length request.addresses ≤ 4
  pub names : AreOf (codes "window" ∷ codes "reach" ∷ codes "first" ∷ codes "frames" ∷ codes "idle" ∷ codes "limit" ∷ []) options
  pub window : IsNumberOr 8 1 64 (value_of (codes "window") options) request.window
  pub reach : IsNumberOr 32767 1 32767 (value_of (codes "reach") options) request.reach
  pub first : IsNumberOrNone 0 65535 (value_of (codes "first") options) request.first
  pub frames : IsNumberOrNone 1 3000000 (value_of (codes "frames") options) request.frames
  pub idle : IsNumberOr 50 1 1000000 (value_of (codes "idle") options) request.idle
  pub limit : IsNumberOr 1000000 1 1000000 (value_of (codes "limit") options) request.limit
