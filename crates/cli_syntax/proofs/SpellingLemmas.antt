-- The words that are read are the spelling of arguments, and a spelling is read.
use Rattle.std.proofs.Common.{◌≡◌, ◌≢◌, ℕ, Bool, true, false, cond, eqb, List, [], ◌∷◌, ◌++◌, map, Option, Some, None, refl, ap, sym, ◌∙◌, subst, arith}
use Rattle.std.specs.Prelude.{option_map}
use Rattle.std.specs.Str.{bytes_eq}
use Rattle.std.proofs.lemmas.Bool.Decides.{nat_tests}
use Rattle.std.proofs.lemmas.Slice.Eq.{bytes_eq-Decides}
use Rattle.std.proofs.lemmas.Option.{same_Some}
use Rattle.cli_syntax.specs.Spelling.{Argument, Plain as PlainWord, Named, WordsBegin, plain, in_one, in_two, WordsSpell, none, more, behind, IsPlain, IsOptionName, dashes, joined, texts, options}
use Rattle.cli_syntax.specs.Addressing.{cut}
use Rattle.cli_syntax.specs.Arguing.{Kind, Dashes, Plain, Joined, Apart, Stray, kind_of, behind_one, behind_two, parted, read, read_last, read_before, SortedWords, only_texts, with_text, with_option}
use Rattle.cli_syntax.proofs.CutLemmas.{cut-none, cut-at, cut_is, lacks_by_cut}
use Rattle.cli_syntax.proofs.OptionLemmas.{mapped}
use Rattle.cli_syntax.proofs.WordLemmas.{read-dashes, read-plain, read-joined, read-apart}

-- what the kind of a word says of it
abbrev IsKind : List ℕ → Kind → Type 0
IsKind word Dashes = word ≡ dashes
IsKind word Plain = IsPlain word
IsKind word (Joined name value) = IsOptionName name × (word ≡ joined name value)
IsKind word (Apart name) = IsOptionName name × (name ≢ []) × (word ≡ dashes ++ name)
IsKind word Stray = Unit {0}

parted_is : (b : ℕ) (bs : List ℕ) (r : Option (List ℕ × List ℕ)) → cut 61 (b ∷ bs) ≡ r → IsKind (45 ∷ 45 ∷ b ∷ bs) (parted (b ∷ bs) r)
parted_is b bs None e = (lacks_by_cut 61 (b ∷ bs) e, λ f. absurd cc, refl)
parted_is b bs (Some p) e = let c = cut_is 61 (b ∷ bs) p.0 p.1 e in (c.first, ap (λ (l : List ℕ). 45 ∷ 45 ∷ l) c.whole)

two_is : (bs : List ℕ) → IsKind (45 ∷ 45 ∷ bs) (behind_two bs)
two_is [] = refl
two_is (b ∷ bs) = parted_is b bs (cut 61 (b ∷ bs)) refl

one_by : (b : ℕ) (bs : List ℕ) (t : Bool) → t ≡ eqb b 45 → IsKind (45 ∷ b ∷ bs) (cond t (behind_two bs) Stray)
one_by b bs true e =
    let same : b ≡ 45 = grind (arith, nat_tests) in
    subst (λ (x : ℕ). IsKind (45 ∷ x ∷ bs) (behind_two bs)) (sym same) (two_is bs)
one_by b bs false e = tt

one_is : (bs : List ℕ) → IsKind (45 ∷ bs) (behind_one bs)
one_is [] = λ e. refl
one_is (b ∷ bs) = one_by b bs (eqb b 45) refl

kind_by : (b : ℕ) (bs : List ℕ) (t : Bool) → t ≡ eqb b 45 → IsKind (b ∷ bs) (cond t (behind_one bs) Plain)
kind_by b bs true e =
    let same : b ≡ 45 = grind (arith, nat_tests) in
    subst (λ (x : ℕ). IsKind (x ∷ bs) (behind_one bs)) (sym same) (one_is bs)
kind_by b bs false e = λ f. absurd (other b e f)
  where
    other : (b : ℕ) → false ≡ eqb b 45 → b ≡ 45 → ⊥
    other b e f = grind (arith, nat_tests)

kind_is : (word : List ℕ) → IsKind word (kind_of word)
kind_is [] = tt
kind_is (b ∷ bs) = kind_by b bs (eqb b 45) refl

-- the plain words and options of arguments
abbrev pub sorted_of : List Argument → SortedWords
sorted_of arguments = record { texts = texts arguments; options = options arguments }

pub record IsRead (words : List (List ℕ)) (s : SortedWords) : Type 0 where
  pub arguments : List Argument
  pub spells : WordsSpell arguments words
  pub same : sorted_of arguments ≡ s

only_plain : (words : List (List ℕ)) → sorted_of (map PlainWord words) ≡ only_texts words
only_plain [] = refl
only_plain (word ∷ words) = ap (with_text word) (only_plain words)

-- an argument, and then what is read behind it
then_text : (word : List ℕ) (rest : List (List ℕ)) (r : Option SortedWords) (s : SortedWords) → IsPlain word → ((t : SortedWords) → r ≡ Some t → IsRead rest t) → option_map (with_text word) r ≡ Some s → IsRead (word ∷ rest) s
then_text word rest r s is later e =
    let p = mapped r (with_text word) s e in
    let q = later p.value p.is in
    record { arguments = PlainWord word ∷ q.arguments; spells = more (plain is) q.spells; same = ap (with_text word) q.same ∙ p.rest }

then_option : (words rest : List (List ℕ)) (name value : List ℕ) (r : Option SortedWords) (s : SortedWords) → WordsBegin (Named name value) words rest → ((t : SortedWords) → r ≡ Some t → IsRead rest t) → option_map (with_option name value) r ≡ Some s → IsRead words s
then_option words rest name value r s begins later e =
    let p = mapped r (with_option name value) s e in
    let q = later p.value p.is in
    record { arguments = Named name value ∷ q.arguments; spells = more begins q.spells; same = ap (with_option name value) q.same ∙ p.rest }

nothing : (s : SortedWords) → Some (only_texts []) ≡ Some s → IsRead [] s
nothing s e = record { arguments = []; spells = none; same = same_Some (only_texts []) s e }

all_plain : (word : List ℕ) (rest : List (List ℕ)) (s : SortedWords) → word ≡ dashes → Some (only_texts rest) ≡ Some s → IsRead (word ∷ rest) s
all_plain word rest s is e = record { arguments = map PlainWord rest; spells = behind is; same = only_plain rest ∙ same_Some (only_texts rest) s e }

last : (word : List ℕ) (k : Kind) (s : SortedWords) → IsKind word k → read_last word k ≡ Some s → IsRead (word ∷ []) s
last word Dashes s is e = all_plain word [] s is e
last word Plain s is e = then_text word [] (Some (only_texts [])) s is (λ t f. nothing t f) e
last word (Joined name value) s is e = then_option (word ∷ []) [] name value (Some (only_texts [])) s (in_one is.0 is.1) (λ t f. nothing t f) e
last word (Apart name) s is e = absurd cc
last word Stray s is e = absurd cc

apart : (word name value : List ℕ) (rest : List (List ℕ)) (b : Bool) (after : Option SortedWords) (s : SortedWords) → b ≡ bytes_eq value dashes → IsKind word (Apart name)
    → ((t : SortedWords) → after ≡ Some t → IsRead rest t) → cond b None (option_map (with_option name value) after) ≡ Some s → IsRead (word ∷ value ∷ rest) s
apart word name value rest true after s test is later e = absurd cc
apart word name value rest false after s test is later e =
    then_option (word ∷ value ∷ rest) rest name value after s (in_two is.0 is.1 is.2 (λ f. not_equal f)) later e
  where
    not_equal : value ≡ dashes → ⊥
    not_equal f = let t = (bytes_eq-Decides value dashes).1 f in absurd cc

before : (word : List ℕ) (k : Kind) (value : List ℕ) (rest : List (List ℕ)) (others after : Option SortedWords) (s : SortedWords) → IsKind word k
    → ((t : SortedWords) → others ≡ Some t → IsRead (value ∷ rest) t) → ((t : SortedWords) → after ≡ Some t → IsRead rest t)
    → read_before word k value rest others after ≡ Some s → IsRead (word ∷ value ∷ rest) s
before word Dashes value rest others after s is next later e = all_plain word (value ∷ rest) s is e
before word Plain value rest others after s is next later e = then_text word (value ∷ rest) others s is next e
before word (Joined name said) value rest others after s is next later e = then_option (word ∷ value ∷ rest) (value ∷ rest) name said others s (in_one is.0 is.1) next e
before word (Apart name) value rest others after s is next later e = apart word name value rest (bytes_eq value dashes) after s refl is later e
before word Stray value rest others after s is next later e = absurd cc

-- what is read is spelled
pub read_fits : (words : List (List ℕ)) (s : SortedWords) → read words ≡ Some s → IsRead words s
unfolding read
read_fits [] s e = nothing s e
read_fits (word ∷ []) s e = last word (kind_of word) s (kind_is word) e
read_fits (word ∷ value ∷ rest) s e =
    before word (kind_of word) value rest (read (value ∷ rest)) (read rest) s (kind_is word) (λ t f. read_fits (value ∷ rest) t f) (λ t f. read_fits rest t f) e

kind-plain : (word : List ℕ) → IsPlain word → kind_of word ≡ Plain
kind-plain [] h = refl
kind-plain (b ∷ bs) h = by_test (eqb b 45) refl
  where
    by_test : (t : Bool) → t ≡ eqb b 45 → cond t (behind_one bs) Plain ≡ Plain
    by_test true e = let same : b ≡ 45 = grind (arith, nat_tests) in rw (h same) refl
    by_test false e = refl

kind-joined : (name value : List ℕ) → IsOptionName name → kind_of (joined name value) ≡ Joined name value
kind-joined [] value h = ap (parted (61 ∷ value)) (cut-at 61 [] value tt)
kind-joined (b ∷ bs) value h = ap (parted (b ∷ (bs ++ 61 ∷ value))) (cut-at 61 (b ∷ bs) value h)

kind-apart : (name : List ℕ) → IsOptionName name → name ≢ [] → kind_of (dashes ++ name) ≡ Apart name
kind-apart [] h some = absurd (some refl)
kind-apart (b ∷ bs) h some = ap (parted (b ∷ bs)) (cut-none 61 (b ∷ bs) h)

not_dashes : (value : List ℕ) → value ≢ dashes → bytes_eq value dashes ≡ false
not_dashes value h = by_test (bytes_eq value dashes) refl
  where
    by_test : (t : Bool) → bytes_eq value dashes ≡ t → t ≡ false
    by_test true e = absurd (h ((bytes_eq-Decides value dashes).0 e))
    by_test false e = refl

begun : {argument : Argument} {words rest : List (List ℕ)} (others : List Argument) → WordsBegin argument words rest → read rest ≡ Some (sorted_of others) → read words ≡ Some (sorted_of (argument ∷ others))
begun others (plain {text} {rest} is) e = read-plain text rest (kind-plain text is) ∙ ap (option_map (with_text text)) e
begun others (in_one {name} {value} {word} {rest} is f) e =
    read-joined word rest name value (ap kind_of f ∙ kind-joined name value is) ∙ ap (option_map (with_option name value)) e
begun others (in_two {name} {value} {word} {rest} is some f other) e =
    read-apart word name value rest (ap kind_of f ∙ kind-apart name is some) (not_dashes value other) ∙ ap (option_map (with_option name value)) e

-- what is spelled is read
pub read_is : {arguments : List Argument} {words : List (List ℕ)} → WordsSpell arguments words → read words ≡ Some (sorted_of arguments)
unfolding read
read_is none = refl
read_is (more {argument} {others} begins spells) = begun others begins (read_is spells)
read_is (behind {word} {words} is) = read-dashes word words (ap kind_of is) ∙ ap Some (sym (only_plain words))
