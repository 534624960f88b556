-- A table whose rows are apart reads what it writes.
use Rattle.std.proofs.Common.{◌≡◌, ℕ, ◌<◌, zero, suc, Bool, true, false, List, [], ◌∷◌, length, get_or, Some, Ok, refl, sym, ap, subst, arith}
use Rattle.std.specs.Prelude.{◌&&◌, ◌||◌, ◌==◌, nat_le, not, if◌then◌else◌}
use Rattle.std.specs.List.{list_all}
use Rattle.std.specs.Str.{bytes_eq}
use Rattle.std.proofs.lemmas.Bool.{and_parts, eqb-true}
use Rattle.std.proofs.lemmas.Option.{same_Some}
use Rattle.plan_rows.specs.declared.field.LineField.{LineField}
use Rattle.plan_rows.specs.declared.field.LineField.TheVariants as fields
use Rattle.plan_rows.specs.declared.keyword.Keyword.{Keyword}
use Rattle.plan_rows.specs.declared.value.LineValue.{LineValue}
use Rattle.plan_rows.specs.Choices.{names}
use Rattle.plan_rows.specs.Fields.{suits, word_of}
use Rattle.plan_rows.specs.Rows.{all_suit, ends_in_text, parts_of, words_written, takes}
use Rattle.plan_rows.specs.Keywords.{same, keyword_number}
use Rattle.plan_rows.specs.Tables.{is_line, front, row_for, line_reads}
use Rattle.plan_rows.specs.Law.{AllFit, clash, apart, later_differ, line_differs, is_table, IsTableReadAgain}
use Rattle.std.proofs.Math.Bool.{and-false}
use Rattle.plan_rows.proofs.FieldsAgain.{all_suit_again, spells_again}

pub not_true : (b : Bool) → not b ≡ true → b ≡ false
not_true true e = absurd cc
not_true false e = refl

unsuited : (f g : LineField) (v : LineValue) → clash f g ≡ true → suits f (word_of g v) ≡ false
unsuited (fields.Fixed set place) (fields.Fixed other at) v clashes = not_true (bytes_eq (get_or (names other) at []) (get_or (names set) place [])) clashes
unsuited _ _ v clashes = absurd cc

-- one of two holds
pub either : {P : Type 0} (a b : Bool) → (a || b) ≡ true → (a ≡ true → P) → (b ≡ true → P) → P
either true b e left right = left refl
either false b e left right = right e

pub apart_suit : (fs gs : List LineField) (vs : List LineValue) → apart fs gs ≡ true → AllFit gs vs → all_suit fs (words_written gs vs) ≡ false
apart_suit [] [] vs e fits = absurd cc
apart_suit [] (g ∷ gs) [] e fits = absurd fits
apart_suit [] (g ∷ gs) (v ∷ vs) e fits = refl
apart_suit (f ∷ fs) [] vs e fits = refl
apart_suit (f ∷ fs) (g ∷ gs) [] e fits = absurd fits
apart_suit (f ∷ fs) (g ∷ gs) (v ∷ vs) e fits =
    either (clash f g) (apart fs gs) e (λ clashes. rw (unsuited f g v clashes) refl) (λ more. rw (apart_suit fs gs vs more fits.1) (and-false (suits f (word_of g v))))

pub each_at : {X : Type 0} (p : X → Bool) (xs : List X) (k : ℕ) (d : X) → k < length xs → list_all p xs ≡ true → p (get_or xs k d) ≡ true
each_at p [] k d lt all = absurd (omega arith)
each_at p (x ∷ xs) zero d lt all = (and_parts (p x) (list_all p xs) all).0
each_at p (x ∷ xs) (suc k) d lt all = each_at p xs k d (omega (arith, lt)) (and_parts (p x) (list_all p xs) all).1

-- a row that is found behind another one of its keyword differs from that
record Differ (fs gs : List LineField) : Type 0 where
  mine : ends_in_text fs ≡ false
  its : ends_in_text gs ≡ false
  are_apart : apart fs gs ≡ true

differs : (version : ℕ) (keyword other : Keyword) (hs fs : List LineField) (cells : List LineField) (vs : List LineValue) → keyword_number other ≡ keyword_number keyword → later_differ version keyword hs cells ≡ true → row_for cells version other vs ≡ Some fs
    → Differ hs fs
differs version keyword other hs fs [] vs same_word later found = absurd cc
differs version keyword other hs fs (g ∷ cells) vs same_word later found =
    let parts = and_parts (not (is_line g version keyword) || (not (ends_in_text hs) && not (ends_in_text (front cells)) && apart hs (front cells))) (later_differ version keyword hs cells) later in
    by (is_line g version other && takes (front cells) vs) refl found parts.0 (differs version keyword other hs fs cells vs same_word parts.1)
  where
    same_line : (g : LineField) → is_line g version keyword ≡ is_line g version other
    same_line (fields.Line word first last) = ap (λ n. keyword_number word == n && (nat_le first version && nat_le version last)) (sym same_word)
    same_line _ = refl

    by : (x : Bool) → x ≡ (is_line g version other && takes (front cells) vs) → (if x then Some (front cells) else row_for cells version other vs) ≡ Some fs
        → (not (is_line g version keyword) || (not (ends_in_text hs) && not (ends_in_text (front cells)) && apart hs (front cells))) ≡ true → (row_for cells version other vs ≡ Some fs → Differ hs fs) → Differ hs fs
    by false is e row more = more e
    by true is e row more =
        let here = (and_parts (is_line g version other) (takes (front cells) vs) (sym is)).0 in
        let fs_is : front cells ≡ fs = same_Some (front cells) fs e in
        let rest : (not (ends_in_text hs) && not (ends_in_text (front cells)) && apart hs (front cells)) ≡ true = rw (same_line g, here) at row in
        let first = and_parts (not (ends_in_text hs) && not (ends_in_text (front cells))) (apart hs (front cells)) rest in
        let ends = and_parts (not (ends_in_text hs)) (not (ends_in_text (front cells))) first.0 in
        subst (λ (x : List LineField). Differ hs x) fs_is (record { mine = not_true _ ends.0; its = not_true _ ends.1; are_apart = first.1 })

-- a row before the one that was written by
passed : (version : ℕ) (f : LineField) (cells : List LineField) (keyword : Keyword) (fs : List LineField) (line : List ℕ) (ws : List (List ℕ)) (vs : List LineValue) → line_differs version f cells ≡ true → row_for cells version keyword vs ≡ Some fs → AllFit fs vs
    → parts_of fs line ws ≡ words_written fs vs → (is_line f version keyword && all_suit (front cells) (parts_of (front cells) line ws)) ≡ false
passed version (fields.Line word low high) cells keyword fs line ws vs e found fits is = by (is_line (fields.Line word low high) version keyword) refl
  where
    by : (x : Bool) → x ≡ is_line (fields.Line word low high) version keyword → (is_line (fields.Line word low high) version keyword && all_suit (front cells) (parts_of (front cells) line ws)) ≡ false
    by false other = rw (sym other) refl
    by true one =
        let same_word = (and_parts (same word keyword) (nat_le low version && nat_le version high) (sym one)).0 in
        let d = differs version word keyword (front cells) fs cells vs (sym (eqb-true _ _ same_word)) e found in
        let words : ws ≡ words_written fs vs = rw d.its at is in
        rw (d.mine, words, apart_suit (front cells) fs vs d.are_apart fits) (and-false (is_line (fields.Line word low high) version keyword))
passed version _ cells keyword fs line ws vs e found fits is = refl

pub rows_again : (table : List LineField) (version : ℕ) → is_table version table ≡ true → IsTableReadAgain table version
rows_again [] version is keyword vs fs line ws found fits written = absurd cc
rows_again (f ∷ cells) version is keyword vs fs line ws found fits written =
    let parts = and_parts (line_differs version f cells) (is_table version cells) is in
    by (is_line f version keyword && takes (front cells) vs) refl found (λ more. rw (passed version f cells keyword fs line ws vs parts.0 more fits written) (rows_again cells version parts.1 keyword vs fs line ws more fits written))
  where
    by : (x : Bool) → x ≡ (is_line f version keyword && takes (front cells) vs) → (if x then Some (front cells) else row_for cells version keyword vs) ≡ Some fs
        → (row_for cells version keyword vs ≡ Some fs → line_reads (f ∷ cells) version keyword line ws ≡ Ok vs) → line_reads (f ∷ cells) version keyword line ws ≡ Ok vs
    by false x e more = more e
    by true x e more =
        let here = (and_parts (is_line f version keyword) (takes (front cells) vs) (sym x)).0 in
        let fs_is : front cells ≡ fs = same_Some (front cells) fs e in
        rw (here, fs_is, written, all_suit_again fs vs fits) (spells_again fs vs fits)
