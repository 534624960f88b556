-- Uses, none of which comes twice.
use Rattle.std.proofs.Common.{◌≡◌, ◌⊎◌, inl, inr, ℕ, Bool, true, false, cond, ◌||◌, List, [], ◌∷◌, ◌++◌, Option, Some, None, is_some, refl, ap, sym, ◌∙◌, subst}
use Rattle.std.specs.List.{AllByRecursion, list_any}
use Rattle.std.specs.Str.{bytes_eq}
use Rattle.std.proofs.lemmas.Option.{same_Some}
use Rattle.std.proofs.lemmas.Slice.Eq.{bytes_eq-Decides}
use Rattle.cli_syntax.specs.Spelling.{Argument, Plain, Named, IsPlain, texts, options}
use Rattle.cli_paths.specs.Uses.{Use, names, is_known, plain, has_use}
use Rattle.cli_paths.specs.CommandTexts.{value_of}
use Rattle.cli_paths.specs.Table.{IsOneOf, AreOf}
use Rattle.cli_paths.proofs.Arguments.{has_use_more, known_differs, any_false}
use Rattle.cli_paths.proofs.Parses.{value_used}

-- each use's name was not used before it
abbrev pub Fresh : List Use → List Use → Type 0
Fresh done [] = Unit {0}
Fresh done (u ∷ us) = (has_use u.0 done ≡ false) × Fresh (done ++ u ∷ []) us

abbrev pub uses_of : List Argument → List Use
uses_of [] = []
uses_of (Plain text ∷ others) = (plain, text) ∷ uses_of others
uses_of (Named name value ∷ others) = (name, value) ∷ uses_of others

abbrev pub AllKnown : List Argument → Type 0
AllKnown [] = Unit {0}
AllKnown (Plain text ∷ others) = AllKnown others
AllKnown (Named name value ∷ others) = (is_known name ≡ true) × AllKnown others

abbrev pub AllPlain : List Use → Type 0
AllPlain uses = AllByRecursion (λ u. IsPlain u.1) uses

abbrev pub IsName : List ℕ → Type 0
IsName id = (id ≡ plain) ⊎ (is_known id ≡ true)

abbrev pub AllNamed : List Use → Type 0
AllNamed uses = AllByRecursion (λ u. IsName u.0) uses

-- ---- tests on names

pub eq_itself : (a : List ℕ) → bytes_eq a a ≡ true
eq_itself a = (bytes_eq-Decides a a).1 refl

pub eq_sym : (a b : List ℕ) → bytes_eq a b ≡ false → bytes_eq b a ≡ false
eq_sym a b h = by (bytes_eq b a) refl
  where
    by : (t : Bool) → bytes_eq b a ≡ t → t ≡ false
    by false e = refl
    by true e = let same : bytes_eq a b ≡ true = (bytes_eq-Decides a b).1 (sym ((bytes_eq-Decides b a).0 e)) in absurd cc

pub used_more : (id : List ℕ) (done : List Use) (u : Use) → has_use id done ≡ true → has_use id (done ++ u ∷ []) ≡ true
used_more id done u e = has_use_more id done u ∙ rw e refl

or_true : (b : Bool) → (b || true) ≡ true
or_true true = refl
or_true false = refl

pub used_last : (id : List ℕ) (done : List Use) (u : Use) → bytes_eq u.0 id ≡ true → has_use id (done ++ u ∷ []) ≡ true
used_last id done u e = has_use_more id done u ∙ rw e (or_true (has_use id done))

-- ---- what was used doesn't come again

no_more_by : (id : List ℕ) (done : List Use) (u : Use) (us : List Use) (b : Bool) → bytes_eq u.0 id ≡ b → has_use u.0 done ≡ false → has_use id us ≡ false → has_use id done ≡ true → (b || has_use id us) ≡ false
no_more_by id done u us false e first more h = more
no_more_by id done u us true e first more h =
    let same : has_use id done ≡ false = subst (λ (t : List ℕ). has_use t done ≡ false) ((bytes_eq-Decides u.0 id).0 e) first in
    absurd cc

pub no_more : (id : List ℕ) (done more : List Use) → Fresh done more → has_use id done ≡ true → has_use id more ≡ false
no_more id done [] h e = refl
no_more id done (u ∷ us) h e = no_more_by id done u us (bytes_eq u.0 id) refl h.0 (no_more id (done ++ u ∷ []) us h.1 (used_more id done u e)) e

none_by : (o : Option (List ℕ)) → is_some o ≡ false → o ≡ None
none_by None e = refl
none_by (Some x) e = absurd cc

pub unused_value : (id : List ℕ) (uses : List Use) → has_use id uses ≡ false → value_of id uses ≡ None
unused_value id uses e = none_by (value_of id uses) (value_used id uses ∙ e)

-- a later use is told where it is
value_unless_used : (id text : List ℕ) (done : List Use) (u : Use) (us : List Use) (b : Bool) → bytes_eq u.0 id ≡ b → Fresh (done ++ u ∷ []) us → value_of id us ≡ Some text → cond b (Some u.1) (value_of id us) ≡ Some text
value_unless_used id text done u us false e h t = t
value_unless_used id text done u us true e h t =
    let none : value_of id us ≡ None = unused_value id us (no_more id (done ++ u ∷ []) us h (used_last id done u e)) in
    absurd cc

pub all_plain : (done more : List Use) → Fresh done more → AllNamed more → ((id text : List ℕ) → IsName id → value_of id more ≡ Some text → IsPlain text) → AllPlain more
all_plain done [] h named each = tt
all_plain done (u ∷ us) h named each = (
  each u.0 u.1 named.0 (rw (eq_itself u.0) refl),
  all_plain (done ++ u ∷ []) us h.1 named.1 (λ id text is t. each id text is (value_unless_used id text done u us (bytes_eq u.0 id) refl h.1 t)),
)

-- ---- one of the names

abbrev any_of : List (List ℕ) → List ℕ → Bool
any_of list name = list_any (λ known. bytes_eq known name) list

one_by : (known name : List ℕ) (others : List (List ℕ)) (b : Bool) → bytes_eq known name ≡ b → (any_of others name ≡ true → IsOneOf others name) → (b || any_of others name) ≡ true → (name ≡ known) ⊎ IsOneOf others name
one_by known name others true e later h = inl (sym ((bytes_eq-Decides known name).0 e))
one_by known name others false e later h = inr (later h)

one_of : (list : List (List ℕ)) (name : List ℕ) → any_of list name ≡ true → IsOneOf list name
one_of [] name h = absurd cc
one_of (known ∷ others) name h = one_by known name others (bytes_eq known name) refl (λ k. one_of others name k) h

of_one : (list : List (List ℕ)) (name : List ℕ) → IsOneOf list name → any_of list name ≡ true
of_one [] name h = absurd h
of_one (known ∷ others) name h =
    elim h [ inl e ↦ rw ((bytes_eq-Decides known name).1 (sym e)) refl | inr k ↦ rw (of_one others name k) (or_true (bytes_eq known name)) ]

pub known_is : (name : List ℕ) → is_known name ≡ true → IsOneOf names name
known_is name h = one_of names name h

pub is_known_by : (name : List ℕ) → IsOneOf names name → is_known name ≡ true
is_known_by name h = of_one names name h

-- ---- from uses to options

pub differs : (name : List ℕ) → is_known name ≡ true → bytes_eq plain name ≡ false
differs name k = eq_sym name plain (known_differs name k)

pub value_options : (arguments : List Argument) (name : List ℕ) → is_known name ≡ true → value_of name (uses_of arguments) ≡ value_of name (options arguments)
value_options [] name k = refl
value_options (Plain text ∷ others) name k = rw (differs name k) (value_options others name k)
value_options (Named n v ∷ others) name k = ap (λ (o : Option (List ℕ)). cond (bytes_eq n name) (Some v) o) (value_options others name k)

pub are_of : (done : List Use) (arguments : List Argument) → Fresh done (uses_of arguments) → AllKnown arguments → AreOf names (options arguments)
are_of done [] h k = tt
are_of done (Plain text ∷ others) h k = are_of (done ++ (plain, text) ∷ []) others h.1 k
are_of done (Named n v ∷ others) h k = (
  known_is n k.0,
  sym (value_options others n k.0) ∙ unused_value n (uses_of others) (no_more n (done ++ (n, v) ∷ []) (uses_of others) h.1 (used_last n done (n, v) (eq_itself n))),
  are_of (done ++ (n, v) ∷ []) others h.1 k.1,
)

-- ---- the one plain word

pub no_texts : (arguments : List Argument) → has_use plain (uses_of arguments) ≡ false → texts arguments ≡ []
no_texts [] e = refl
no_texts (Plain text ∷ others) e = absurd cc
no_texts (Named n v ∷ others) e = no_texts others (any_false (bytes_eq n plain) (has_use plain (uses_of others)) e).1

pub one_text : (done : List Use) (arguments : List Argument) (text : List ℕ) → Fresh done (uses_of arguments) → AllKnown arguments → value_of plain (uses_of arguments) ≡ Some text → texts arguments ≡ text ∷ []
one_text done [] text h k e = absurd cc
one_text done (Plain t ∷ others) text h k e =
    let none = no_texts others (no_more plain (done ++ (plain, t) ∷ []) (uses_of others) h.1 (used_last plain done (plain, t) refl)) in
    rw none (ap (λ (x : List ℕ). x ∷ []) (same_Some t text e))
one_text done (Named n v ∷ others) text h k e = one_text (done ++ (n, v) ∷ []) others text h.1 k.1 (rw (known_differs n k.0) at e)

pub text_value : (arguments : List Argument) (text : List ℕ) → AllKnown arguments → texts arguments ≡ text ∷ [] → value_of plain (uses_of arguments) ≡ Some text
text_value [] text k e = absurd cc
text_value (Plain t ∷ others) text k e = let same : t ≡ text = cc in ap Some same
text_value (Named n v ∷ others) text k e = rw (known_differs n k.0) (text_value others text k.1 e)
