-- A line's words, read one after another.
use Rattle.std.proofs.Common.{◌≡◌, ℕ, ◌+◌, ◌≤◌, ◌<◌, Bool, true, false, List, [], ◌∷◌, ◌++◌, length, map, drop, get_or, Option, Some, None, Result, Ok, Err, refl, sym, ap, ◌∙◌, append_assoc, add-one, drop-cons, arith}
use Rattle.std.specs.Prelude.{◌&&◌}
use Rattle.std.specs.Borrow.{Bor}
use Rattle.std.proofs.lemmas.List.{length-map}
use Rattle.std.specs.Cmp.Lexicographic.{unequal}
use lib.Pointwise.{pointwise_long}
use Rattle.text_lines.specs.Lines.{behind_two}
use Rattle.plan_rows.specs.declared.field.LineField.{LineField}
use Rattle.plan_rows.specs.declared.value.LineValue.{LineValue}
use Rattle.plan_rows.specs.declared.fault.Wrong.{Wrong}
use Rattle.plan_rows.specs.declared.fault.Wrong.TheVariants.{Word, Number, Range}
use Rattle.plan_rows.specs.Fields.{suits, verdict, spells_one}
use Rattle.plan_rows.specs.Rows.{all_suit, ends_in_text, parts_of, spells}
use Rattle.plan_rows.specs.Steps.{worse, first_wrong}

abbrev pub nows : List (Bor (List ℕ)) → List (List ℕ)
nows ws = map (λ (w : Bor (List ℕ)). w.now) ws

-- another count of words
pub other_count : (fs : List LineField) (ws : List (Bor (List ℕ))) → (length fs ≡ length ws → ⊥) → all_suit fs (nows ws) ≡ false
other_count fs ws other = unequal suits fs (nows ws) (λ e. other (e ∙ length-map ws (λ w. w.now)))

-- as many words as fields
pub suits_count : (fs : List LineField) (ws : List (Bor (List ℕ))) → all_suit fs (nows ws) ≡ true → length fs ≡ length ws
suits_count fs ws suit = pointwise_long suits fs (nows ws) suit ∙ length-map ws (λ w. w.now)

pub no_text : (fs : List LineField) (line : List ℕ) (ws : List (Bor (List ℕ))) → ends_in_text fs ≡ true → length ws < 2 → all_suit fs (parts_of fs line (nows ws)) ≡ false
no_text [] line ws ends few = absurd cc
no_text (f ∷ fs) line [] ends few = rw ends refl
no_text (f ∷ fs) line (w ∷ []) ends few = rw ends refl
no_text (f ∷ fs) line (w ∷ v ∷ ws) ends few = absurd (omega (arith, few))

pub text_is : (fs : List LineField) (line : List ℕ) (ws : List (Bor (List ℕ))) (w : Bor (List ℕ)) (rest : List ℕ) → ends_in_text fs ≡ true → 2 ≤ length ws → rest ≡ behind_two line → (get_or ws 0 w).now ∷ rest ∷ [] ≡ parts_of fs line (nows ws)
text_is fs line [] w rest ends more is = absurd (omega (arith, more))
text_is fs line (x ∷ []) w rest ends more is = absurd (omega (arith, more))
text_is fs line (x ∷ y ∷ ws) w rest ends more is = rw (ends, is) refl

pub words_are : (fs : List LineField) (line : List ℕ) (ws : List (Bor (List ℕ))) → ends_in_text fs ≡ false → nows ws ≡ parts_of fs line (nows ws)
words_are fs line ws ends = rw ends refl

-- what a word spells, put before what the rest spells
abbrev pub onto : Result LineValue Wrong → Result (List LineValue) Wrong → Result (List LineValue) Wrong
onto (Ok v) (Ok vs) = Ok (v ∷ vs)
onto (Ok v) (Err x) = Err x
onto (Err w) (Ok vs) = Err w
onto (Err w) (Err x) = Err (worse w x)

both : (s r ss rs : Bool) (v : LineValue) (vs : List LineValue) → verdict (s && ss) (r && rs) (v ∷ vs) ≡ onto (verdict s r v) (verdict ss rs vs)
both false r false rs v vs = refl
both false r true false v vs = refl
both false r true true v vs = refl
both true false false rs v vs = refl
both true false true false v vs = refl
both true false true true v vs = refl
both true true false rs v vs = refl
both true true true false v vs = refl
both true true true true v vs = refl

pub spells_cons : (f : LineField) (w : List ℕ) (fs : List LineField) (ws : List (List ℕ)) → spells (f ∷ fs) (w ∷ ws) ≡ onto (spells_one f w) (spells fs ws)
spells_cons f w fs ws = both _ _ _ _ _ _

-- what a whole line spells, from what its front and what the rest spells
abbrev pub after : Option Wrong → List LineValue → Result (List LineValue) Wrong → Result (List LineValue) Wrong
after None vs (Ok more) = Ok (vs ++ more)
after None vs (Err x) = Err x
after (Some w) vs (Ok more) = Err w
after (Some w) vs (Err x) = Err (worse w x)

worse_assoc : (w x y : Wrong) → worse w (worse x y) ≡ worse (worse w x) y
worse_assoc Word x y = refl
worse_assoc Range x y = refl
worse_assoc Number Word y = refl
worse_assoc Number Range y = refl
worse_assoc Number Number Word = refl
worse_assoc Number Number Number = refl
worse_assoc Number Number Range = refl

ok_on : (wrong : Option Wrong) (vs : List LineValue) (v : LineValue) (rest : Result (List LineValue) Wrong) → after wrong vs (onto (Ok v) rest) ≡ after wrong (vs ++ v ∷ []) rest
ok_on None vs v (Ok more) = ap good (sym (append_assoc vs (v ∷ []) more))
  where
    good : List LineValue → Result (List LineValue) Wrong
    good x = Ok x
ok_on None vs v (Err x) = refl
ok_on (Some w) vs v (Ok more) = refl
ok_on (Some w) vs v (Err x) = refl

err_on : (wrong : Option Wrong) (vs : List LineValue) (x : Wrong) (rest : Result (List LineValue) Wrong) → after wrong vs (onto (Err x) rest) ≡ after (Some (first_wrong wrong x)) vs rest
err_on None vs x (Ok more) = refl
err_on None vs x (Err y) = refl
err_on (Some w) vs x (Ok more) = refl
err_on (Some w) vs x (Err y) = ap bad (worse_assoc w x y)
  where
    bad : Wrong → Result (List LineValue) Wrong
    bad z = Err z

-- what the words from one on spell
abbrev pub rest_spells : List LineField → List (Bor (List ℕ)) → ℕ → Result (List LineValue) Wrong
rest_spells fs ws i = spells (drop i fs) (nows (drop i ws))

opens : (fs : List LineField) (ws : List (Bor (List ℕ))) (i : ℕ) (f : LineField) (w : Bor (List ℕ)) → i < length fs → i < length ws
    → rest_spells fs ws i ≡ onto (spells_one (get_or fs i f) (get_or ws i w).now) (rest_spells fs ws (i + 1))
opens fs ws i f w lt lt_w =
    let e : drop i fs ≡ get_or fs i f ∷ drop (i + 1) fs = rw (add-one, drop-cons fs i f) refl in
    let g : drop i ws ≡ get_or ws i w ∷ drop (i + 1) ws = rw (add-one, drop-cons ws i w) refl in
    ap (λ x. spells x (nows (drop i ws))) e ∙ ap (λ x. spells (get_or fs i f ∷ drop (i + 1) fs) (nows x)) g ∙ spells_cons (get_or fs i f) (get_or ws i w).now (drop (i + 1) fs) (nows (drop (i + 1) ws))

-- a word more, which spells a value
pub one_spelled : (fs : List LineField) (ws : List (Bor (List ℕ))) (i : ℕ) (f : LineField) (w : Bor (List ℕ)) (wrong now_wrong : Option Wrong) (vs now_vs : List LineValue) (v : LineValue) (whole : Result (List LineValue) Wrong)
    → i < length fs → length fs ≡ length ws → spells_one (get_or fs i f) (get_or ws i w).now ≡ Ok v → after wrong vs (rest_spells fs ws i) ≡ whole → now_wrong ≡ wrong → now_vs ≡ vs ++ v ∷ []
    → after now_wrong now_vs (rest_spells fs ws (i + 1)) ≡ whole
one_spelled fs ws i f w wrong now_wrong vs now_vs v whole lt same here so_far kept more =
    rw (kept, more) (sym (ap (after wrong vs) (opens fs ws i f w lt (omega (arith, lt, same)) ∙ ap (λ x. onto x (rest_spells fs ws (i + 1))) here) ∙ ok_on wrong vs v (rest_spells fs ws (i + 1))) ∙ so_far)

-- a word more, which is wrong
pub one_wrong : (fs : List LineField) (ws : List (Bor (List ℕ))) (i : ℕ) (f : LineField) (w : Bor (List ℕ)) (wrong now_wrong : Option Wrong) (vs now_vs : List LineValue) (x : Wrong) (whole : Result (List LineValue) Wrong)
    → i < length fs → length fs ≡ length ws → spells_one (get_or fs i f) (get_or ws i w).now ≡ Err x → after wrong vs (rest_spells fs ws i) ≡ whole → now_wrong ≡ Some (first_wrong wrong x) → now_vs ≡ vs
    → after now_wrong now_vs (rest_spells fs ws (i + 1)) ≡ whole
one_wrong fs ws i f w wrong now_wrong vs now_vs x whole lt same here so_far more kept =
    rw (kept, more) (sym (ap (after wrong vs) (opens fs ws i f w lt (omega (arith, lt, same)) ∙ ap (λ y. onto y (rest_spells fs ws (i + 1))) here) ∙ err_on wrong vs x (rest_spells fs ws (i + 1))) ∙ so_far)
