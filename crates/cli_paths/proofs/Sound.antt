-- What is read of words is what they spell.
use Rattle.std.proofs.Common.{◌≡◌, ◌≢◌, inl, inr, ℕ, Bool, true, false, cond, List, [], ◌∷◌, ◌++◌, map, Some, None, refl, ap, sym, ◌∙◌, subst}
use Rattle.std.proofs.lemmas.Option.{same_Some}
use Rattle.std.proofs.lemmas.List.{append_assoc}
use Rattle.cli_syntax.specs.Spelling.{Argument, Plain as PlainWord, Named, WordsBegin, plain as plain_word, in_one, in_two, WordsSpell, none, more, behind, IsPlain, IsOptionName as HasName, dashes, joined}
use Rattle.cli_paths.specs.Uses.{Use, ArgKind, Dashes, Plain, Joined, Apart, Stray, sort_of, Idle, Value, is_known, plain, has_use, trailed, run, stepped}
use Rattle.cli_paths.proofs.Fresh.{Fresh, uses_of, AllKnown, AllPlain, AllNamed}
use Rattle.cli_paths.proofs.SortLemmas.{IsSort, sort_is}

pub record IsSpelled (words : List (List ℕ)) (uses : List Use) : Type 0 where
  pub arguments : List Argument
  pub spells : WordsSpell arguments words
  pub same : uses_of arguments ≡ uses
  pub known : AllKnown arguments

-- what was read behind what was read before; it is spelled, where no text looks like an option
pub record Reads (words : List (List ℕ)) (done all : List Use) : Type 0 where
  pub uses : List Use
  pub whole : done ++ uses ≡ all
  pub fresh : Fresh done uses
  pub named : AllNamed uses
  pub spelled : AllPlain uses → IsSpelled words uses

append_none : (uses : List Use) → uses ++ [] ≡ uses
append_none [] = refl
append_none (u ∷ us) = ap (λ (l : List Use). u ∷ l) (append_none us)

nothing : (done all : List Use) → Some done ≡ Some all → Reads [] done all
nothing done all e = record {
  uses = [];
  whole = append_none done ∙ same_Some done all e;
  fresh = tt;
  named = tt;
  spelled = λ p. record { arguments = []; spells = none; same = refl; known = tt };
}

-- one more argument
pushed_text : (word : List ℕ) (rest : List (List ℕ)) (done all : List Use) → has_use plain done ≡ false → Reads rest (done ++ (plain, word) ∷ []) all → Reads (word ∷ rest) done all
pushed_text word rest done all e r = record {
  uses = (plain, word) ∷ r.uses;
  whole = sym (append_assoc done ((plain, word) ∷ []) r.uses) ∙ r.whole;
  fresh = (e, r.fresh);
  named = (inl refl, r.named);
  spelled = λ p. let s = r.spelled p.1 in record { arguments = PlainWord word ∷ s.arguments; spells = more (plain_word p.0) s.spells; same = ap (λ (l : List Use). (plain, word) ∷ l) s.same; known = s.known };
}

pushed_option : (words rest : List (List ℕ)) (name value : List ℕ) (done all : List Use) → is_known name ≡ true → (IsPlain value → WordsBegin (Named name value) words rest) → has_use name done ≡ false
    → Reads rest (done ++ (name, value) ∷ []) all → Reads words done all
pushed_option words rest name value done all k begins e r = record {
  uses = (name, value) ∷ r.uses;
  whole = sym (append_assoc done ((name, value) ∷ []) r.uses) ∙ r.whole;
  fresh = (e, r.fresh);
  named = (inr k, r.named);
  spelled = λ p. let s = r.spelled p.1 in record { arguments = Named name value ∷ s.arguments; spells = more (begins p.0) s.spells; same = ap (λ (l : List Use). (name, value) ∷ l) s.same; known = (k, s.known) };
}

-- behind `--`
record Trails (words : List (List ℕ)) (done all : List Use) : Type 0 where
  whole : done ++ map (λ (t : List ℕ). (plain, t)) words ≡ all
  fresh : Fresh done (map (λ (t : List ℕ). (plain, t)) words)

trails_by : (word : List ℕ) (rest : List (List ℕ)) (done all : List Use) (u : Bool) → has_use plain done ≡ u → (trailed rest (done ++ (plain, word) ∷ []) ≡ Some all → Trails rest (done ++ (plain, word) ∷ []) all)
    → cond u None (trailed rest (done ++ (plain, word) ∷ [])) ≡ Some all → Trails (word ∷ rest) done all
trails_by word rest done all true f later e = absurd cc
trails_by word rest done all false f later e =
    let t = later e in
    record { whole = sym (append_assoc done ((plain, word) ∷ []) (map (λ (t : List ℕ). (plain, t)) rest)) ∙ t.whole; fresh = (f, t.fresh) }

trails : (words : List (List ℕ)) (done all : List Use) → trailed words done ≡ Some all → Trails words done all
unfolding trailed
trails [] done all e = record { whole = append_none done ∙ same_Some done all e; fresh = tt }
trails (word ∷ rest) done all e = trails_by word rest done all (has_use plain done) refl (λ f. trails rest (done ++ (plain, word) ∷ []) all f) e

plain_uses : (words : List (List ℕ)) → uses_of (map PlainWord words) ≡ map (λ (t : List ℕ). (plain, t)) words
plain_uses [] = refl
plain_uses (word ∷ rest) = ap (λ (l : List Use). (plain, word) ∷ l) (plain_uses rest)

plain_known : (words : List (List ℕ)) → AllKnown (map PlainWord words)
plain_known [] = tt
plain_known (word ∷ rest) = plain_known rest

plain_named : (words : List (List ℕ)) → AllNamed (map (λ (t : List ℕ). (plain, t)) words)
plain_named [] = tt
plain_named (word ∷ rest) = (inl refl, plain_named rest)

all_behind : (word : List ℕ) (rest : List (List ℕ)) (done all : List Use) → word ≡ dashes → Trails rest done all → Reads (word ∷ rest) done all
all_behind word rest done all is t = record {
  uses = map (λ (t : List ℕ). (plain, t)) rest;
  whole = t.whole;
  fresh = t.fresh;
  named = plain_named rest;
  spelled = λ p. record { arguments = map PlainWord rest; spells = behind is; same = plain_uses rest; known = plain_known rest };
}

pub record Sound (rest : List (List ℕ)) : Type 0 where
  pub idles : (done all : List Use) → run rest Idle done ≡ Some all → Reads rest done all
  pub values : (done all : List Use) (name word : List ℕ) → HasName name → is_known name ≡ true → word ≡ dashes ++ name → run rest (Value name) done ≡ Some all → Reads (word ∷ rest) done all

not_dashes : (value : List ℕ) → IsPlain value → value ≢ dashes
not_dashes value h e = let p : IsPlain dashes = subst IsPlain e h in let bad = p refl in cc

not_empty : (name : List ℕ) → is_known name ≡ true → name ≢ []
not_empty name k e = let bad : is_known [] ≡ true = subst (λ (n : List ℕ). is_known n ≡ true) e k in absurd cc

module _ (word : List ℕ) (rest : List (List ℕ)) (c : Sound rest) where
  text_by : (done all : List Use) (u : Bool) → has_use plain done ≡ u → cond u None (run rest Idle (done ++ (plain, word) ∷ [])) ≡ Some all → Reads (word ∷ rest) done all
  text_by done all true f e = absurd cc
  text_by done all false f e = pushed_text word rest done all f (c.idles (done ++ (plain, word) ∷ []) all e)

  option_by : (words : List (List ℕ)) (name value : List ℕ) (done all : List Use) → is_known name ≡ true → (IsPlain value → WordsBegin (Named name value) words rest) → (u : Bool) → has_use name done ≡ u
      → cond u None (run rest Idle (done ++ (name, value) ∷ [])) ≡ Some all → Reads words done all
  option_by words name value done all k begins true f e = absurd cc
  option_by words name value done all k begins false f e = pushed_option words rest name value done all k begins f (c.idles (done ++ (name, value) ∷ []) all e)

  joined_by : (name value : List ℕ) (done all : List Use) → HasName name → word ≡ joined name value → (k : Bool) → is_known name ≡ k
      → cond k (cond (has_use name done) None (run rest Idle (done ++ (name, value) ∷ []))) None ≡ Some all → Reads (word ∷ rest) done all
  joined_by name value done all h is false k e = absurd cc
  joined_by name value done all h is true k e = option_by (word ∷ rest) name value done all k (λ p. in_one h is) (has_use name done) refl e

  apart_by : (name : List ℕ) (done all : List Use) → HasName name → word ≡ dashes ++ name → (k : Bool) → is_known name ≡ k
      → cond k (run rest (Value name) done) None ≡ Some all → Reads (word ∷ rest) done all
  apart_by name done all h is false k e = absurd cc
  apart_by name done all h is true k e = c.values done all name word h k is e

  idle_by : (done all : List Use) (s : ArgKind) → IsSort word s → stepped Idle s word done (run rest) (trailed rest) ≡ Some all → Reads (word ∷ rest) done all
  idle_by done all Dashes is e = all_behind word rest done all is (trails rest done all e)
  idle_by done all Plain is e = text_by done all (has_use plain done) refl e
  idle_by done all (Joined name value) is e = joined_by name value done all is.0 is.1 (is_known name) refl e
  idle_by done all (Apart name) is e = apart_by name done all is.0 is.1 (is_known name) refl e
  idle_by done all Stray is e = absurd cc

  value_by : (done all : List Use) (name first : List ℕ) → HasName name → is_known name ≡ true → first ≡ dashes ++ name → (s : ArgKind) → stepped (Value name) s word done (run rest) (trailed rest) ≡ Some all
      → Reads (first ∷ word ∷ rest) done all
  value_by done all name first h k is Dashes e = absurd cc
  value_by done all name first h k is Plain e =
      option_by (first ∷ word ∷ rest) name word done all k (λ p. in_two h (not_empty name k) is (not_dashes word p)) (has_use name done) refl e
  value_by done all name first h k is (Joined n v) e = absurd cc
  value_by done all name first h k is (Apart n) e = absurd cc
  value_by done all name first h k is Stray e = absurd cc

  more_sound : Sound (word ∷ rest)
  unfolding run
  more_sound = record {
    idles = λ done all e. idle_by done all (sort_of word) (sort_is word) e;
    values = λ done all name first h k is e. value_by done all name first h k is (sort_of word) e;
  }

end_sound : Sound []
unfolding run
end_sound = record { idles = λ done all e. nothing done all e; values = λ done all name word h k is e. absurd (no all e) }
  where
    no : (all : List Use) → None ≡ Some all → ⊥
    no all e = cc

pub sound : (words : List (List ℕ)) → Sound words
sound [] = end_sound
sound (word ∷ rest) = more_sound word rest (sound rest)
