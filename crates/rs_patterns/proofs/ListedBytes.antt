-- The erased bytes of a chunk, listed one after another.
use Rattle.std.proofs.Common.{ℕ, zero, suc, ◌≡◌, ◌≢◌, ◌+◌, ◌-◌, ◌*◌, ◌/◌, ◌%◌, ◌<◌, ◌≤◌, inl, inr, Bool, true, false, List, [], ◌∷◌, ◌++◌, length, take, get_or, get_or-set_other, get_or-set_same, slice_set, sym, subst, ap, ◌∙◌, arith}
use Rattle.std.proofs.Math.Nat.{add-mul-mod_self_left, div-add-mod}
use Rattle.std.proofs.lemmas.Bool.{cases_lt}
use Rattle.std.proofs.lemmas.List.{take_more_set}
use Rattle.std.proofs.lemmas.Nat.{mod_below}
use Rattle.rs_patterns.specs.Listed.{ListsErased}
use Rattle.rs_patterns.specs.Positions.{erased_positions, position}
use Rattle.rs_patterns.proofs.Positions.{none_erased, step_kept, step_erased}

module _ (count : ℕ) (kept : ℕ → Bool) (start k : ℕ) where
  abbrev IsKept : ℕ → Type 0
  IsKept j = kept ((start + j) % count) ≡ true

  -- a byte is of the same fragment as the one so many before it
  fragment_before : (j : ℕ) → count ≤ j → (start + j) % count ≡ (start + (j - count)) % count
  fragment_before j le =
      let e : start + j ≡ start + (j - count) + count * 1 = omega arith in
      ap (λ (p : ℕ). p % count) e ∙ add-mul-mod_self_left (start + (j - count)) count 1

  fragment_rest : (j : ℕ) → (start + j) % count ≡ (start + j % count) % count
  fragment_rest j =
      let whole = div-add-mod j count in
      let e : start + j ≡ start + j % count + count * (j / count) = omega (arith, whole) in
      ap (λ (p : ℕ). p % count) e ∙ add-mul-mod_self_left (start + j % count) count (j / count)

  -- ---- more bytes

  pub none_listed : (bytes positions : List ℕ) → ListsErased count kept start k 0 0 bytes positions
  none_listed bytes positions = record {
    at = sym (none_erased count kept start k);
    below = λ i lt. absurd (omega arith);
    rising = λ i j lt lj. absurd (omega arith);
    lost = λ i lt. absurd (omega arith);
    others = λ j lt apart. absurd (omega arith);
  }

  -- none of the next n bytes is erased
  kept_stretch : (m n : ℕ) → ((j : ℕ) → m ≤ j → j < m + n → IsKept j) → erased_positions count kept start k (m + n) ≡ erased_positions count kept start k m
  kept_stretch m zero each = ap (erased_positions count kept start k) (let e : m + 0 ≡ m = omega arith in e)
  kept_stretch m (suc n) each =
      ap (erased_positions count kept start k) (let e : m + suc n ≡ m + n + 1 = omega arith in e)
      ∙ step_kept count kept start k (m + n) (each (m + n) (omega arith) (omega arith))
      ∙ kept_stretch m n (λ j le lt. each j le (omega arith))

  kept_between : (m n : ℕ) → m ≤ n → ((j : ℕ) → m ≤ j → j < n → IsKept j) → erased_positions count kept start k n ≡ erased_positions count kept start k m
  kept_between m n le each =
      let e : n ≡ m + (n - m) = omega arith in
      ap (erased_positions count kept start k) e ∙ kept_stretch m (n - m) (λ j lj lt. each j lj (omega arith))

  pub stretched : (many end later : ℕ) (bytes positions : List ℕ) → end ≤ later → ((j : ℕ) → end ≤ j → j < later → IsKept j)
      → ListsErased count kept start k many end bytes positions → ListsErased count kept start k many later bytes positions
  stretched many end later bytes positions le each h = record {
    at = h.at ∙ sym (kept_between end later le each);
    below = λ i lt. let b = h.below i lt in omega arith;
    rising = h.rising;
    lost = h.lost;
    others = λ j lt apart. elim (cases_lt j end) [
      | inl before ↦ h.others j before apart
      | inr behind ↦ each j behind lt
    ];
  }

  pub one_kept : (many end : ℕ) (bytes positions : List ℕ) → IsKept end
      → ListsErased count kept start k many end bytes positions → ListsErased count kept start k many (end + 1) bytes positions
  one_kept many end bytes positions is h =
      stretched many end (end + 1) bytes positions (omega arith)
      (λ j le lt. let e : end ≡ j = omega arith in subst IsKept e is) h

  pub one_erased : (many end : ℕ) (bytes positions : List ℕ) → many < length bytes → many < length positions → kept ((start + end) % count) ≡ false
      → ListsErased count kept start k many end bytes positions
      → ListsErased count kept start k (many + 1) (end + 1) (slice_set bytes many end) (slice_set positions many (position k end))
  one_erased many end bytes positions lb lp is h =
      let new = slice_set bytes many end in
      let old : (i : ℕ) → i < many → get_or new i 0 ≡ get_or bytes i 0 = λ i lt. get_or-set_other bytes many i end 0 (let ne : i ≢ many = λ q. omega arith in ne) in
      let last : get_or new many 0 ≡ end = get_or-set_same bytes many end 0 lb in
      record {
        at = take_more_set positions many (position k end) lp
            ∙ (ap (λ (l : List ℕ). l ++ position k end ∷ []) h.at ∙ sym (step_erased count kept start k end is));
        below = λ i lt. elim (cases_lt i many) [
          | inl before ↦ let b = h.below i before in let o = old i before in omega arith
          | inr behind ↦ let e : i ≡ many = omega arith in let b : get_or new i 0 ≡ end = ap (λ (n : ℕ). get_or new n 0) e ∙ last in omega arith
        ];
        rising = λ i j lt lj. elim (cases_lt j many) [
          | inl before ↦ let r = h.rising i j lt before in let o = old i (omega arith) in let p = old j before in omega arith
          | inr behind ↦
              let e : j ≡ many = omega arith in
              let b : get_or new j 0 ≡ end = ap (λ (n : ℕ). get_or new n 0) e ∙ last in
              let o = old i (omega arith) in let below = h.below i (omega arith) in omega arith
        ];
        lost = λ i lt. elim (cases_lt i many) [
          | inl before ↦ ap (λ (n : ℕ). kept ((start + n) % count)) (old i before) ∙ h.lost i before
          | inr behind ↦
              let e : i ≡ many = omega arith in
              ap (λ (n : ℕ). kept ((start + n) % count)) (ap (λ (n : ℕ). get_or new n 0) e ∙ last) ∙ is
        ];
        others = λ j lt apart. elim (cases_lt j end) [
          | inl before ↦ h.others j before (λ i li e. apart i (omega arith) (old i li ∙ e))
          | inr behind ↦ absurd (apart many (omega arith) (last ∙ (let e : end ≡ j = omega arith in e)))
        ];
      }

  -- ---- the bytes of the same fragments

  -- from the first period on to the first byte that is erased in the next one
  pub begun : (many : ℕ) (bytes positions : List ℕ) → 0 < many → ListsErased count kept start k many count bytes positions
      → ListsErased count kept start k many (get_or bytes 0 0 + count) bytes positions
  begun many bytes positions some h =
      stretched many count (get_or bytes 0 0 + count) bytes positions (omega arith)
      (λ j le lt.
      let b = h.below 0 some in
      ap kept (fragment_before j le)
      ∙ h.others (j - count) (omega arith)
      (λ i li e. elim (cases_lt 0 i) [
        | inl later ↦ let r = h.rising 0 i later li in omega arith
        | inr first ↦ let z : i ≡ 0 = omega arith in let q : get_or bytes i 0 ≡ get_or bytes 0 0 = ap (λ (n : ℕ). get_or bytes n 0) z in omega arith
      ]))
      h

  -- and from one of them to the next
  pub onward : (many i : ℕ) (bytes positions : List ℕ) → i + 1 < many → ListsErased count kept start k many (get_or bytes i 0 + count + 1) bytes positions
      → ListsErased count kept start k many (get_or bytes (i + 1) 0 + count) bytes positions
  onward many i bytes positions li h =
      let up = h.rising i (i + 1) (omega arith) li in
      let next = h.below (i + 1) li in
      stretched many (get_or bytes i 0 + count + 1) (get_or bytes (i + 1) 0 + count) bytes positions (omega arith)
      (λ j le lt.
      ap kept (fragment_before j (omega arith))
      ∙ h.others (j - count) (omega arith)
      (λ n ln e. elim (cases_lt n (i + 1)) [
        | inl before ↦ elim (cases_lt n i) [
          | inl early ↦ let r = h.rising n i early (omega arith) in omega arith
          | inr here ↦ let z : n ≡ i = omega arith in let q : get_or bytes n 0 ≡ get_or bytes i 0 = ap (λ (m : ℕ). get_or bytes m 0) z in omega arith
        ]
        | inr behind ↦ elim (cases_lt (i + 1) n) [
          | inl late ↦ let r = h.rising (i + 1) n late ln in omega arith
          | inr here ↦ let z : n ≡ i + 1 = omega arith in let q : get_or bytes n 0 ≡ get_or bytes (i + 1) 0 = ap (λ (m : ℕ). get_or bytes m 0) z in omega arith
        ]
      ]))
      h

  -- the next byte of a fragment is erased too
  pub lost_again : (many i end : ℕ) (bytes positions : List ℕ) → i < many → ListsErased count kept start k many end bytes positions
      → kept ((start + (get_or bytes i 0 + count)) % count) ≡ false
  lost_again many i end bytes positions li h =
      let e : get_or bytes i 0 + count - count ≡ get_or bytes i 0 = omega arith in
      ap kept (fragment_before (get_or bytes i 0 + count) (omega arith))
      ∙ ap (λ (n : ℕ). kept ((start + n) % count)) e ∙ h.lost i li

  -- no more bytes than below the end
  pub byte_least : (many end : ℕ) (bytes positions : List ℕ) → ListsErased count kept start k many end bytes positions
      → (i : ℕ) → i < many → i ≤ get_or bytes i 0
  byte_least many end bytes positions h zero lt = omega arith
  byte_least many end bytes positions h (suc i) lt =
      let before = byte_least many end bytes positions h i (omega arith) in
      let up = h.rising i (suc i) (omega arith) lt in
      omega arith

  pub few_listed : (many end : ℕ) (bytes positions : List ℕ) → ListsErased count kept start k many end bytes positions → many ≤ end
  few_listed zero end bytes positions h = omega arith
  few_listed (suc n) end bytes positions h =
      let least = byte_least (suc n) end bytes positions h n (omega arith) in
      let b = h.below n (omega arith) in
      omega arith

  pub few_within : (many end all : ℕ) (bytes positions : List ℕ) → ((i : ℕ) → i < many → get_or bytes i 0 < all)
      → ListsErased count kept start k many end bytes positions → many ≤ all
  few_within zero end all bytes positions within h = omega arith
  few_within (suc n) end all bytes positions within h =
      let least = byte_least (suc n) end bytes positions h n (omega arith) in
      let b = within n (omega arith) in
      omega arith

  pub with_lists : (many other end : ℕ) (bytes others positions places : List ℕ) → other ≡ many → others ≡ bytes → places ≡ positions
      → ListsErased count kept start k many end bytes positions → ListsErased count kept start k other end others places
  with_lists many other end bytes others positions places em eb ep h =
      subst (λ (n : ℕ). ListsErased count kept start k n end others places) (sym em)
      (subst (λ (xs : List ℕ). ListsErased count kept start k many end xs places) (sym eb)
      (subst (λ (ps : List ℕ). ListsErased count kept start k many end bytes ps) (sym ep) h))

  -- ---- the end

  -- the bytes of a chunk end before the next one that is erased
  pub ended : (many end all : ℕ) (bytes positions : List ℕ) → all ≤ end → ((i : ℕ) → i < many → get_or bytes i 0 < all)
      → ListsErased count kept start k many end bytes positions → take many positions ≡ erased_positions count kept start k all
  ended many end all bytes positions le within h =
      h.at ∙ kept_between all end le (λ j lj lt. h.others j lt (λ i li e. let w = within i li in omega arith))

  -- none of the first bytes of all fragments is erased, so none is
  pub none_at_all : (all : ℕ) (bytes positions : List ℕ) → 0 < count → count ≤ all → ListsErased count kept start k 0 count bytes positions
      → take 0 positions ≡ erased_positions count kept start k all
  none_at_all all bytes positions some le h =
      let done = stretched 0 count all bytes positions le
      (λ j lj lt. ap kept (fragment_rest j) ∙ h.others (j % count) (mod_below j count some) (λ i li e. absurd (omega arith))) h in
      done.at
