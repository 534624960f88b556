-- What was read so far, and one more option.
use Rattle.std.proofs.Common.{◌≡◌, ℕ, List, [], ◌∷◌, ◌++◌, Option, Some, None, refl, ap, sym, ◌∙◌, map, append_assoc}
use Rattle.std.specs.Prelude.{option_map}
use Rattle.std.proofs.lemmas.List.{map_push}
use Rattle.cli_syntax.specs.declared.word.Named.{Named}
use Rattle.cli_syntax.specs.Arguing.{SortedWords, with_option, option_said}

-- what was read before, and then this
abbrev pub onto : List (List ℕ) → List (List ℕ × List ℕ) → SortedWords → SortedWords
onto texts options more = record { texts = texts ++ more.texts; options = options ++ more.options }

moved : (texts : List (List ℕ)) (options : List (List ℕ × List ℕ)) (name value : List ℕ) (rest : Option SortedWords)
    → option_map (onto texts options) (option_map (with_option name value) rest) ≡ option_map (onto texts (options ++ (name, value) ∷ [])) rest
moved texts options name value None = refl
moved texts options name value (Some s) =
    ap (λ (o : List (List ℕ × List ℕ)). Some (record { texts = texts ++ s.texts; options = o })) (sym (append_assoc options ((name, value) ∷ []) s.options))

pub one_option : (whole here rest : Option SortedWords) (texts : List (List ℕ)) (before after : List Named) (option : Named)
    → whole ≡ option_map (onto texts (map option_said before)) here → here ≡ option_map (with_option option.name.now option.value.now) rest → after ≡ before ++ option ∷ []
    → whole ≡ option_map (onto texts (map option_said after)) rest
one_option whole here rest texts before after option e f g =
    e ∙ ap (option_map (onto texts (map option_said before))) f ∙ moved texts (map option_said before) option.name.now option.value.now rest
    ∙ ap (λ (o : List (List ℕ × List ℕ)). option_map (onto texts o) rest) (sym (ap (map option_said) g ∙ map_push option_said before option))
