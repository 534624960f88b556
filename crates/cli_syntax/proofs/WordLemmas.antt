-- What is read from words, by the kind of the first one.
use Rattle.std.proofs.Common.{◌≡◌, ◌≢◌, ℕ, suc, ◌<◌, Bool, true, false, eqb, length, map, List, [], ◌∷◌, Some, None, refl, ap, sym, ◌∙◌, arith, Global}
use Rattle.std.specs.Prelude.{option_map, string_bytes}
use Rattle.std.specs.List.{IsFirstAndRest}
use Rattle.std.proofs.lemmas.List.{length-map}
use Rattle.std.specs.Str.{bytes_eq}
use Rattle.cli_syntax.specs.Spelling.{dashes}
use Rattle.cli_syntax.specs.declared.arguments.NextArgument.{NextArgument}
use Rattle.cli_syntax.specs.declared.arguments.NextArgument.TheVariants as next
use Rattle.cli_syntax.specs.Arguing.{ArgumentFollows, IsValued, Dashes, Plain, Joined, Apart, Stray, kind_of, behind_one, read, only_texts, with_text, with_option}
use Rattle.cli_syntax.proofs.CutLemmas.{differs}

pub read-dashes : (word : List ℕ) (rest : List (List ℕ)) → kind_of word ≡ Dashes → read (word ∷ rest) ≡ Some (only_texts rest)
unfolding read
read-dashes word [] e = rw e refl
read-dashes word (value ∷ behind) e = rw e refl

pub read-plain : (word : List ℕ) (rest : List (List ℕ)) → kind_of word ≡ Plain → read (word ∷ rest) ≡ option_map (with_text word) (read rest)
unfolding read
read-plain word [] e = rw e refl
read-plain word (value ∷ behind) e = rw e refl

pub read-joined : (word : List ℕ) (rest : List (List ℕ)) (name said : List ℕ) → kind_of word ≡ Joined name said → read (word ∷ rest) ≡ option_map (with_option name said) (read rest)
unfolding read
read-joined word [] name said e = rw e refl
read-joined word (value ∷ behind) name said e = rw e refl

pub read-apart : (word name value : List ℕ) (behind : List (List ℕ)) → kind_of word ≡ Apart name → bytes_eq value dashes ≡ false → read (word ∷ value ∷ behind) ≡ option_map (with_option name value) (read behind)
unfolding read
read-apart word name value behind e other = rw (e, other) refl

pub read-apart_dashes : (word name value : List ℕ) (behind : List (List ℕ)) → kind_of word ≡ Apart name → bytes_eq value dashes ≡ true → read (word ∷ value ∷ behind) ≡ None
unfolding read
read-apart_dashes word name value behind e same = rw (e, same) refl

pub read-apart_last : (word name : List ℕ) → kind_of word ≡ Apart name → read (word ∷ []) ≡ None
unfolding read
read-apart_last word name e = rw e refl

pub read-stray : (word : List ℕ) (rest : List (List ℕ)) → kind_of word ≡ Stray → read (word ∷ rest) ≡ None
unfolding read
read-stray word [] e = rw e refl
read-stray word (value ∷ behind) e = rw e refl

-- a word without a dash in front
pub kind-undashed : (word : List ℕ) → ((rest : List ℕ) → word ≢ 45 ∷ rest) → kind_of word ≡ Plain
kind-undashed [] h = refl
kind-undashed (b ∷ bs) h = rw (differs b 45 (λ e. h bs (ap (λ (x : ℕ). x ∷ bs) e))) refl

-- one dash, and then something else
pub behind_one-undashed : (rest : List ℕ) (b : Bool) → b ≡ eqb (length rest) 0 → b ≡ false → ((behind : List ℕ) → rest ≢ 45 ∷ behind) → behind_one rest ≡ Stray
behind_one-undashed [] b is fails h = absurd cc
behind_one-undashed (x ∷ xs) b is fails h = rw (differs x 45 (λ e. h xs (ap (λ (y : ℕ). y ∷ xs) e))) refl

-- What is read from words of which the first is of a kind, and that fewer stand behind it. The words are seen by their bytes.
module _ {X : Type 0} (view : X → List ℕ) (xs rest : List X) (x : X) (text : List ℕ) (first : IsFirstAndRest xs x rest) (is : text ≡ view x) where
  fewer : length rest < length (map view xs)
  fewer = omega (arith, first.1, length-map xs view)

  shown : map view xs ≡ text ∷ map view rest
  shown = ap (map view) first.0 ∙ ap (λ (t : List ℕ). t ∷ map view rest) (sym is)

  pub first-dashes : Dashes ≡ kind_of text → read (map view xs) ≡ Some (only_texts (map view rest))
  first-dashes e = rw shown (read-dashes text (map view rest) (sym e))

  pub first-plain : Plain ≡ kind_of text → (read (map view xs) ≡ option_map (with_text text) (read (map view rest))) × (length rest < length (map view xs))
  first-plain e = (rw shown (read-plain text (map view rest) (sym e)), fewer)

  pub first-joined : (name value : List ℕ) → Joined name value ≡ kind_of text → (read (map view xs) ≡ option_map (with_option name value) (read (map view rest))) × (length rest < length (map view xs))
  first-joined name value e = (rw shown (read-joined text (map view rest) name value (sym e)), fewer)

  pub first-stray : Stray ≡ kind_of text → read (map view xs) ≡ None
  first-stray e = rw shown (read-stray text (map view rest) (sym e))

pub read-none : {X : Type 0} (view : X → List ℕ) (xs : List X) → length xs ≡ 0 → read (map view xs) ≡ Some (only_texts [])
unfolding read
read-none view [] e = refl
read-none view (x ∷ xs) e = absurd (omega arith)

-- an option whose value is the next word
valued_follows : (word name : List ℕ) (words : List (List ℕ)) (result : NextArgument) → kind_of word ≡ Apart name → IsValued name words result → ArgumentFollows (word ∷ words) result
valued_follows word name [] result e h = rw h (read-apart_last word name e)
valued_follows word name (value ∷ behind) (next.Option option rest) e h =
    (rw (h.1, h.2, h.3) (read-apart word name value behind e h.0), shorter)
  where
    shorter : length rest.now < suc (suc (length behind))
    shorter = omega (arith, ap length h.3, length-map rest.now (string_bytes {Z = Global}))
valued_follows word name (value ∷ behind) next.Refused e h = read-apart_dashes word name value behind e h
valued_follows word name (value ∷ behind) next.End e h = absurd h
valued_follows word name (value ∷ behind) (next.Text text rest) e h = absurd h
valued_follows word name (value ∷ behind) (next.Behind rest) e h = absurd h

pub first-apart : {X : Type 0} (view : X → List ℕ) (xs rest : List X) (x : X) (text : List ℕ) (first : IsFirstAndRest xs x rest) (is : text ≡ view x) (name : List ℕ) (result : NextArgument)
    → Apart name ≡ kind_of text → IsValued name (map view rest) result → ArgumentFollows (map view xs) result
first-apart view xs rest x text first is name result e h =
    rw (shown view xs rest x text first is) (valued_follows text name (map view rest) result (sym e) h)
