-- What words spell is read of them.
use Rattle.std.proofs.Common.{◌≡◌, ℕ, Bool, true, false, cond, ◌||◌, List, [], ◌∷◌, ◌++◌, map, Some, None, refl, ap, sym, ◌∙◌, subst}
use Rattle.std.specs.List.{AllByRecursion}
use Rattle.std.specs.Str.{bytes_eq}
use Rattle.std.proofs.lemmas.List.{append_assoc}
use Rattle.std.proofs.lemmas.Slice.Eq.{bytes_eq-Decides}
use Rattle.cli_syntax.specs.Spelling.{Argument, Plain as PlainWord, Named, WordsBegin, plain as plain_word, in_one, in_two, WordsSpell, none, more, behind, IsPlain, texts, options}
use Rattle.cli_paths.specs.Uses.{Use, names, Idle, is_known, plain, has_use, trailed, run}
use Rattle.cli_paths.specs.CommandTexts.{value_of}
use Rattle.cli_paths.specs.Table.{OptionWords, AreOf}
use Rattle.cli_paths.proofs.Arguments.{has_use_more, option_used}
use Rattle.cli_paths.proofs.Fresh.{Fresh, uses_of, AllKnown, eq_sym, is_known_by, differs}
use Rattle.cli_paths.proofs.SortLemmas.{sort-dashes, sort-plain, sort-joined, sort-apart}

-- no value of an option looks like an option
abbrev pub PlainValues : OptionWords → Type 0
PlainValues options = AllByRecursion (λ option. IsPlain option.1) options

trailed_is : (words : List (List ℕ)) (done : List Use) → Fresh done (uses_of (map PlainWord words)) → trailed words done ≡ Some (done ++ uses_of (map PlainWord words))
unfolding trailed
trailed_is [] done h = ap Some (sym (append_none done))
  where
    append_none : (uses : List Use) → uses ++ [] ≡ uses
    append_none [] = refl
    append_none (u ∷ us) = ap (λ (l : List Use). u ∷ l) (append_none us)
trailed_is (word ∷ rest) done h = rw h.0 (trailed_is rest (done ++ (plain, word) ∷ []) h.1 ∙ ap Some (append_assoc done ((plain, word) ∷ []) (uses_of (map PlainWord rest))))

begun : {argument : Argument} {words rest : List (List ℕ)} (others : List Argument) (done : List Use) → WordsBegin argument words rest → Fresh done (uses_of (argument ∷ others)) → AllKnown (argument ∷ others) → PlainValues (options (argument ∷ others))
    → ((now : List Use) → Fresh now (uses_of others) → AllKnown others → PlainValues (options others) → run rest Idle now ≡ Some (now ++ uses_of others))
    → run words Idle done ≡ Some (done ++ uses_of (argument ∷ others))
unfolding run
begun others done (plain_word {text} {rest} is) h k p later =
    rw (sort-plain text is, h.0) (later (done ++ (plain, text) ∷ []) h.1 k p ∙ ap Some (append_assoc done ((plain, text) ∷ []) (uses_of others)))
begun others done (in_one {name} {value} {word} {rest} is f) h k p later =
    rw (f, sort-joined name value is) (rw (k.0, h.0) (later (done ++ (name, value) ∷ []) h.1 k.1 p.1 ∙ ap Some (append_assoc done ((name, value) ∷ []) (uses_of others))))
begun others done (in_two {name} {value} {word} {rest} is some f other) h k p later =
    rw (f, sort-apart name is some) (rw (k.0, sort-plain value p.0, h.0) (later (done ++ (name, value) ∷ []) h.1 k.1 p.1 ∙ ap Some (append_assoc done ((name, value) ∷ []) (uses_of others))))

pub run_is : {arguments : List Argument} {words : List (List ℕ)} → WordsSpell arguments words → (done : List Use) → Fresh done (uses_of arguments) → AllKnown arguments → PlainValues (options arguments)
    → run words Idle done ≡ Some (done ++ uses_of arguments)
unfolding run
run_is none done h k p = ap Some (sym (append_none done))
  where
    append_none : (uses : List Use) → uses ++ [] ≡ uses
    append_none [] = refl
    append_none (u ∷ us) = ap (λ (l : List Use). u ∷ l) (append_none us)
run_is (more {argument} {others} begins spells) done h k p = begun others done begins h k p (λ now f l q. run_is spells now f l q)
run_is (behind {word} {words} is) done h k p = rw (sort-dashes word is) (trailed_is words done h)

-- ---- options of which no name comes twice, and at most one plain word

abbrev Apart_from : List Use → OptionWords → Type 0
Apart_from done options = AllByRecursion (λ option. has_use option.0 done ≡ false) options

abbrev pub Once : List Use → List (List ℕ) → Type 0
Once done [] = Unit {0}
Once done (text ∷ []) = has_use plain done ≡ false
Once done (text ∷ other ∷ ts) = ⊥

or_both : (a b : Bool) → a ≡ false → b ≡ false → (a || b) ≡ false
or_both a b e f = rw (e, f) refl

apart_more : (done : List Use) (u : Use) (options : OptionWords) → Apart_from done options → AllByRecursion (λ option. bytes_eq u.0 option.0 ≡ false) options → Apart_from (done ++ u ∷ []) options
apart_more done u [] h f = tt
apart_more done u (o ∷ os) h f = (has_use_more o.0 done u ∙ or_both (has_use o.0 done) (bytes_eq u.0 o.0) h.0 f.0, apart_more done u os h.1 f.1)

no_value_by : (name : List ℕ) (o : List ℕ × List ℕ) (os : OptionWords) (b : Bool) → bytes_eq o.0 name ≡ b → cond b (Some o.1) (value_of name os) ≡ None → (bytes_eq o.0 name ≡ false) × (value_of name os ≡ None)
no_value_by name o os true e h = absurd cc
no_value_by name o os false e h = (e, h)

no_value : (name : List ℕ) (options : OptionWords) → value_of name options ≡ None → AllByRecursion (λ option. bytes_eq name option.0 ≡ false) options
no_value name [] e = tt
no_value name (o ∷ os) e = let p = no_value_by name o os (bytes_eq o.0 name) refl e in (eq_sym o.0 name p.0, no_value name os p.1)

unlike : (options : OptionWords) → AreOf names options → AllByRecursion (λ option. bytes_eq plain option.0 ≡ false) options
unlike [] h = tt
unlike (o ∷ os) h = (differs o.0 (is_known_by o.0 h.0), unlike os h.2)

pub all_known : (arguments : List Argument) → AreOf names (options arguments) → AllKnown arguments
all_known [] h = tt
all_known (PlainWord text ∷ others) h = all_known others h
all_known (Named n v ∷ others) h = (is_known_by n h.0, all_known others h.2)

once_text : (done : List Use) (text : List ℕ) (others : List (List ℕ)) → Once done (text ∷ others) → (has_use plain done ≡ false) × (others ≡ [])
once_text done text [] h = (h, refl)
once_text done text (t ∷ ts) h = absurd h

once_more : (done : List Use) (u : Use) (ts : List (List ℕ)) → has_use plain (done ++ u ∷ []) ≡ has_use plain done → Once done ts → Once (done ++ u ∷ []) ts
once_more done u [] e h = tt
once_more done u (t ∷ []) e h = e ∙ h
once_more done u (t ∷ s ∷ ts) e h = absurd h

pub fresh_is : (arguments : List Argument) (done : List Use) → AreOf names (options arguments) → Apart_from done (options arguments) → Once done (texts arguments) → Fresh done (uses_of arguments)
fresh_is [] done a f o = tt
fresh_is (PlainWord text ∷ others) done a f o =
    let p = once_text done text (texts others) o in
    (p.0, fresh_is others (done ++ (plain, text) ∷ []) a (apart_more done (plain, text) (options others) f (unlike (options others) a)) (subst (λ (ts : List (List ℕ)). Once (done ++ (plain, text) ∷ []) ts) (sym p.1) tt))
fresh_is (Named n v ∷ others) done a f o =
    (f.0, fresh_is others (done ++ (n, v) ∷ []) a.2 (apart_more done (n, v) (options others) f.1 (no_value n (options others) a.1)) (once_more done (n, v) (texts others) (option_used done n v (is_known_by n a.0)) o))

pub apart_none : (options : OptionWords) → Apart_from [] options
apart_none [] = tt
apart_none (o ∷ os) = (refl, apart_none os)

-- each value is told
other_value : (name text : List ℕ) (o : List ℕ × List ℕ) (os : OptionWords) (b : Bool) → bytes_eq o.0 name ≡ b → value_of o.0 os ≡ None → value_of name os ≡ Some text → cond b (Some o.1) (value_of name os) ≡ Some text
other_value name text o os false e un t = t
other_value name text o os true e un t =
    let same : value_of name os ≡ None = subst (λ (n : List ℕ). value_of n os ≡ None) ((bytes_eq-Decides o.0 name).0 e) un in
    absurd cc

pub plain_values : (options : OptionWords) → AreOf names options → ((name text : List ℕ) → is_known name ≡ true → value_of name options ≡ Some text → IsPlain text) → PlainValues options
plain_values [] a each = tt
plain_values (o ∷ os) a each = (
  each o.0 o.1 (is_known_by o.0 a.0) (rw ((bytes_eq-Decides o.0 o.0).1 refl) refl),
  plain_values os a.2 (λ name text k t. each name text k (other_value name text o os (bytes_eq o.0 name) refl a.1 t)),
)
