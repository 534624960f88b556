-- The end of a segment, by its parts as slices.
use Rattle.std.proofs.Common.{◌≡◌, ℕ, ◌+◌, true, false, List, take, drop, get_or, Result, Ok, Err, is_ok, sym, ap, subst, ◌∙◌}
use Rattle.std.specs.Prelude.{EachIndex, OnOk, IfErr}
use Rattle.std.specs.Int.{w16, from_be_bytes}
use Rattle.std.proofs.lemmas.List.{drop-drop}
use Rattle.drm_bits.specs.declared.compared.WrongCheck.{WrongCheck}
use Rattle.drm_bits.specs.Crc.{IsCheckOf}
use Rattle.drm_bits.specs.Compared.{IsWrongCheck}
use Rattle.drm_bits.proofs.Checks.{one_check}
use Rattle.drm_text.specs.Reading.{EndsWithCheck}

-- the parts behind the first bytes
pub record AreParts (bytes : List ℕ) (end : ℕ) (front check zeros : List ℕ) : Type 0 where
  pub front_is : front ≡ take end bytes
  pub check_is : check ≡ take 2 (drop end bytes)
  pub zeros_are : zeros ≡ drop (end + 2) bytes

pub parts_of : (bytes front rest check zeros : List ℕ) (end : ℕ) → front ≡ take end bytes → rest ≡ drop end bytes → check ≡ take 2 rest → zeros ≡ drop 2 rest → AreParts bytes end front check zeros
parts_of bytes front rest check zeros end is_front is_rest is_check are_zeros = record {
  front_is = is_front;
  check_is = is_check ∙ ap (take 2) is_rest;
  zeros_are = are_zeros ∙ (ap (drop 2) is_rest ∙ drop-drop 2 end bytes);
}

on_ok : {P : Type 0} (r : Result (Unit {0}) WrongCheck) → is_ok r ≡ true → OnOk r P → P
on_ok (Ok x) is h = h
on_ok (Err w) is h = absurd cc

pub ends_from : (bytes front check zeros : List ℕ) (end : ℕ) (r : Result (Unit {0}) WrongCheck) → AreParts bytes end front check zeros → is_ok r ≡ true → OnOk r (IsCheckOf front (from_be_bytes w16 check))
    → EachIndex zeros (λ k. get_or zeros k 0 ≡ 0) → EndsWithCheck bytes end
ends_from bytes front check zeros end r at is h each =
    let P : List ℕ → List ℕ → Type 0 = λ f c. IsCheckOf f (from_be_bytes w16 c) in
    let R : List ℕ → Type 0 = λ l. EachIndex l (λ k. get_or l k 0 ≡ 0) in
    record {
      checked = subst (λ f. P f (take 2 (drop end bytes))) at.front_is (subst (λ c. P front c) at.check_is (on_ok r is h));
      zeros = subst R at.zeros_are each;
    }

pub zeros_from : (bytes front check zeros : List ℕ) (end : ℕ) → AreParts bytes end front check zeros → EndsWithCheck bytes end → EachIndex zeros (λ k. get_or zeros k 0 ≡ 0)
zeros_from bytes front check zeros end at e =
    let R : List ℕ → Type 0 = λ l. EachIndex l (λ k. get_or l k 0 ≡ 0) in
    subst R (sym at.zeros_are) e.zeros

-- with another check value it doesn't end well
pub wrong_end : (bytes front check zeros : List ℕ) (end : ℕ) (r : Result (Unit {0}) WrongCheck) → AreParts bytes end front check zeros → is_ok r ≡ false → IfErr r (λ w. IsWrongCheck w front check) → EndsWithCheck bytes end → ⊥
wrong_end bytes front check zeros end (Ok x) at is h e = absurd cc
wrong_end bytes front check zeros end (Err w) at is h e =
    let P : List ℕ → List ℕ → Type 0 = λ f c. IsCheckOf f (from_be_bytes w16 c) in
    let right : P front check = subst (λ f. P f check) (sym at.front_is) (subst (λ c. P (take end bytes) c) (sym at.check_is) e.checked) in
    h.differ (h.stands ∙ one_check front (from_be_bytes w16 check) w.computed right h.computed)
