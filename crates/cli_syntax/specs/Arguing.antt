-- What kind of word a word is, and what is read from the words behind a command, as functions.
use Rattle.std.specs.Prelude.{ℕ, ◌≡◌, ◌<◌, ◌==◌, true, false, List, [], ◌∷◌, length, map, string_bytes, Option, Some, None, option_map, if◌then◌else◌}
use Rattle.std.specs.Str.{bytes_eq}
use Rattle.cli_syntax.specs.declared.word.WordKind.{WordKind as Word}
use Rattle.cli_syntax.specs.declared.word.WordKind.TheVariants as words
use Rattle.cli_syntax.specs.declared.word.Named.{Named}
use Rattle.cli_syntax.specs.declared.arguments.NextArgument.{NextArgument}
use Rattle.cli_syntax.specs.declared.arguments.NextArgument.TheVariants as next
use Rattle.cli_syntax.specs.declared.arguments.Arguments.{Arguments}
use Rattle.cli_syntax.specs.Spelling.{dashes}
use Rattle.cli_syntax.specs.Addressing.{cut}

-- `--`, a plain word, `--name=value`, `--name` with its value in the next word, or a word that is none of these
pub data Kind : Type 0 where
  Dashes : Kind
  Plain : Kind
  Joined : (name value : List ℕ) → Kind
  Apart : (name : List ℕ) → Kind
  Stray : Kind

abbrev pub parted : List ℕ → Option (List ℕ × List ℕ) → Kind
parted option None = Apart option
parted option (Some parts) = Joined parts.0 parts.1

-- the kind of a word by what stands behind two dashes, behind one, and by itself
abbrev pub behind_two : List ℕ → Kind
behind_two [] = Dashes
behind_two (b ∷ bs) = parted (b ∷ bs) (cut 61 (b ∷ bs))

abbrev pub behind_one : List ℕ → Kind
behind_one [] = Plain
behind_one (b ∷ bs) = if b == 45 then behind_two bs else Stray

abbrev pub kind_of : List ℕ → Kind
kind_of [] = Plain
kind_of (b ∷ bs) = if b == 45 then behind_one bs else Plain

-- the kind that is answered
abbrev pub kind_said : Word → Kind
kind_said words.Dashes = Dashes
kind_said words.Plain = Plain
kind_said (words.Joined option) = Joined option.name.now option.value.now
kind_said (words.Apart name) = Apart name.now
kind_said words.Stray = Stray

-- plain words, and options with their values
pub record SortedWords : Type 0 where
  pub texts : List (List ℕ)
  pub options : List (List ℕ × List ℕ)

abbrev pub with_text : List ℕ → SortedWords → SortedWords
with_text text sorted = record { texts = text ∷ sorted.texts; options = sorted.options }

abbrev pub with_option : List ℕ → List ℕ → SortedWords → SortedWords
with_option name value sorted = record { texts = sorted.texts; options = (name, value) ∷ sorted.options }

abbrev pub only_texts : List (List ℕ) → SortedWords
only_texts texts = record { texts = texts; options = [] }

-- by the kind of the last word
abbrev pub read_last : List ℕ → Kind → Option SortedWords
read_last word Dashes = Some (only_texts [])
read_last word Plain = Some (only_texts (word ∷ []))
read_last word (Joined name value) = Some (with_option name value (only_texts []))
read_last word (Apart name) = None
read_last word Stray = None

-- by the kind of a word, the next word, the words behind that, what is read from the next word on, and from behind it
abbrev pub read_before : List ℕ → Kind → List ℕ → List (List ℕ) → Option SortedWords → Option SortedWords → Option SortedWords
read_before word Dashes value behind others after = Some (only_texts (value ∷ behind))
read_before word Plain value behind others after = option_map (with_text word) others
read_before word (Joined name said) value behind others after = option_map (with_option name said) others
read_before word (Apart name) value behind others after = if bytes_eq value dashes then None else option_map (with_option name value) after
read_before word Stray value behind others after = None

unfoldable pub read : List (List ℕ) → Option SortedWords
read [] = Some (only_texts [])
read (word ∷ []) = read_last word (kind_of word)
read (word ∷ value ∷ behind) = read_before word (kind_of word) value behind (read (value ∷ behind)) (read behind)

abbrev pub option_said : Named → List ℕ × List ℕ
option_said option = (option.name.now, option.value.now)

abbrev pub sorted : Arguments → SortedWords
sorted arguments = record { texts = map (λ text. text.now) arguments.texts.items; options = map option_said arguments.options.items }

-- What stands first among the words, and what is read from the words by what is read from the rest.
abbrev pub ArgumentFollows : List (List ℕ) → NextArgument → Type 0
ArgumentFollows words next.End = read words ≡ Some (only_texts [])
ArgumentFollows words (next.Text text rest) = (read words ≡ option_map (with_text text.now) (read (map string_bytes rest.now))) × (length rest.now < length words)
ArgumentFollows words (next.Option option rest) =
    (read words ≡ option_map (with_option option.name.now option.value.now) (read (map string_bytes rest.now))) × (length rest.now < length words)
ArgumentFollows words (next.Behind rest) = read words ≡ Some (only_texts (map string_bytes rest.now))
ArgumentFollows words next.Refused = read words ≡ None

-- the option has the next word as its value, unless that is `--` or there is none
abbrev pub IsValued : List ℕ → List (List ℕ) → NextArgument → Type 0
IsValued name [] result = result ≡ next.Refused
IsValued name (value ∷ behind) (next.Option option rest) =
    (bytes_eq value dashes ≡ false) × (option.name.now ≡ name) × (option.value.now ≡ value) × (map string_bytes rest.now ≡ behind)
IsValued name (value ∷ behind) next.Refused = bytes_eq value dashes ≡ true
IsValued name (value ∷ behind) _ = ⊥
