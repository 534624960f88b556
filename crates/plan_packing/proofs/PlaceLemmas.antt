-- Where one size is placed.
use Rattle.std.proofs.Common.{◌≡◌, ◌<◌, ◌≤◌, ◌+◌, ◌==◌, ℕ, suc, Bool, true, false, List, [], ◌∷◌, length, drop, get_or, nat_le, nat_eq, None, Some, if◌then◌else◌, refl, sym, ap, subst, ◌∙◌, ⊎_elim, arith, length-drop}
use Rattle.std.proofs.lemmas.Bool.{cases_lt, leb-true, leb-false}
use Rattle.std.proofs.lemmas.Bool.Decides.{nat_tests}
use Rattle.std.proofs.lemmas.List.{get_or-drop}
use Rattle.plan_packing.specs.declared.packing.Spot.{Spot}
use Rattle.plan_packing.specs.Packing.{first_that_holds, placed}

-- so many bytes in one frame, seen from frame g
abbrev pub bytes_at : ℕ → ℕ → ℕ → ℕ
bytes_at frame g n = if frame == g then n else 0

pub at_same : (frame g n : ℕ) → frame ≡ g → bytes_at frame g n ≡ n
at_same frame g n is = by (nat_eq frame g) refl
  where
    by : (b : Bool) → nat_eq frame g ≡ b → (if b then n else 0) ≡ n
    by true test = refl
    by false test = absurd (grind (arith, nat_tests))

pub at_before : (frame g n : ℕ) → frame < g → bytes_at frame g n ≡ 0
at_before frame g n less = by (nat_eq frame g) refl
  where
    by : (b : Bool) → nat_eq frame g ≡ b → (if b then n else 0) ≡ 0
    by true test = absurd (grind (arith, nat_tests))
    by false test = refl

pub at_behind : (frame g n : ℕ) → g < frame → bytes_at frame g n ≡ 0
at_behind frame g n more = by (nat_eq frame g) refl
  where
    by : (b : Bool) → nat_eq frame g ≡ b → (if b then n else 0) ≡ 0
    by true test = absurd (grind (arith, nat_tests))
    by false test = refl

pub at_none : (frame g : ℕ) → bytes_at frame g 0 ≡ 0
at_none frame g = by (nat_eq frame g)
  where
    by : (b : Bool) → ◌≡◌ {A = ℕ} (if b then 0 else 0) 0
    by true = refl
    by false = refl

abbrev pub spot_at : ℕ → ℕ → Spot
spot_at frame taken = record { frame = frame; taken = taken }

-- Behind a spot, a size goes to the first frame that holds it.
pub record Places (free : List ℕ) (spot : Spot) (size : ℕ) (next : Spot) : Type 0 where
  pub low : spot.frame ≤ next.frame
  pub there : next.frame < length free
  pub taken : next.taken ≡ bytes_at spot.frame next.frame spot.taken + size
  pub holds : next.taken ≤ get_or free next.frame 0
  pub none : (g : ℕ) → spot.frame ≤ g → g < next.frame → get_or free g 0 < bytes_at spot.frame g spot.taken + size

-- These are the frames from this one on.
record AreFrom (free : List ℕ) (frame : ℕ) (more : List ℕ) : Type 0 where
  has : (j : ℕ) → get_or more j 0 ≡ get_or free (frame + j) 0
  long : frame + length more ≡ length free

from_next : (free : List ℕ) (frame x : ℕ) (more : List ℕ) → AreFrom free frame (x ∷ more) → AreFrom free (frame + 1) more
from_next free frame x more are =
    record {
      has = λ j. let same : frame + suc j ≡ frame + 1 + j = omega arith in are.has (suc j) ∙ ap (λ n. get_or free n 0) same;
      long = omega (arith, are.long);
    }

first_is : (free : List ℕ) (frame x : ℕ) (more : List ℕ) → AreFrom free frame (x ∷ more) → get_or free frame 0 ≡ x
first_is free frame x more are = let same : frame + 0 ≡ frame = omega arith in sym (are.has 0 ∙ ap (λ n. get_or free n 0) same)

none_is_some : (next : Spot) → None ≡ Some next → ⊥
none_is_some next is = cc

some_is : (a b : Spot) → Some a ≡ Some b → a ≡ b
some_is a b same = cc

here : (free : List ℕ) (frame taken size x : ℕ) (more : List ℕ) → AreFrom free frame (x ∷ more) → taken + size ≤ x → Places free (spot_at frame taken) size (spot_at frame (taken + size))
here free frame taken size x more are fits =
    record {
      low = omega arith;
      there = omega (arith, are.long);
      taken = ap (λ n. n + size) (sym (at_same frame frame taken refl));
      holds = omega (arith, first_is free frame x more are, fits);
      none = λ g low less. absurd (omega (arith, low, less));
    }

later : (free : List ℕ) (frame taken size x : ℕ) (more : List ℕ) (next : Spot) → AreFrom free frame (x ∷ more) → x < taken + size → Places free (spot_at (frame + 1) 0) size next → Places free (spot_at frame taken) size next
later free frame taken size x more next are full is =
    record {
      low = omega (arith, is.low);
      there = is.there;
      taken = omega (arith, is.taken, at_none (frame + 1) next.frame, at_before frame next.frame taken (omega (arith, is.low)));
      holds = is.holds;
      none = λ g low less.
          ⊎_elim
          (λ (past : frame < g). omega (arith, is.none g (omega (arith, past)) less, at_none (frame + 1) g, at_before frame g taken past))
          (λ (not : g ≤ frame).
          let same : frame ≡ g = omega (arith, low, not) in
          let first : get_or free g 0 ≡ x = subst (λ n. get_or free n 0 ≡ x) same (first_is free frame x more are) in
          omega (arith, first, full, at_same frame g taken same))
          (cases_lt frame g);
    }

walks : (free : List ℕ) (frame taken size : ℕ) (more : List ℕ) (next : Spot) → AreFrom free frame more → first_that_holds size frame taken more ≡ Some next → Places free (spot_at frame taken) size next
walks free frame taken size [] next are is = absurd (none_is_some next is)
walks free frame taken size (x ∷ more) next are is = by (walks free (frame + 1) 0 size more next (from_next free frame x more are)) (nat_le (taken + size) x) refl is
  where
    by : (first_that_holds size (frame + 1) 0 more ≡ Some next → Places free (spot_at (frame + 1) 0) size next) → (b : Bool) → nat_le (taken + size) x ≡ b → (if b then Some (spot_at frame (taken + size)) else first_that_holds size (frame + 1) 0 more) ≡ Some next → Places free (spot_at frame taken) size next
    by rest true test is = subst (Places free (spot_at frame taken) size) (some_is (spot_at frame (taken + size)) next is) (here free frame taken size x more are (leb-true (taken + size) x test))
    by rest false test is = later free frame taken size x more next are (leb-false (taken + size) x test) (rest is)

-- what is placed past a frame is placed behind it
beyond : (free : List ℕ) (frame taken size : ℕ) (next : Spot) → Places free (spot_at frame taken) size next → frame < next.frame → Places free (spot_at (frame + 1) 0) size next
beyond free frame taken size next is past =
    record {
      low = omega (arith, past);
      there = is.there;
      taken = omega (arith, is.taken, at_none (frame + 1) next.frame, at_before frame next.frame taken past);
      holds = is.holds;
      none = λ g low less. omega (arith, is.none g (omega (arith, low)) less, at_none (frame + 1) g, at_before frame g taken (omega (arith, low)));
    }

same_spot : (frame taken : ℕ) (next : Spot) → next.frame ≡ frame → next.taken ≡ taken → spot_at frame taken ≡ next
same_spot frame taken next frames takens = sym (ap (λ n. spot_at n next.taken) frames ∙ ap (λ n. spot_at frame n) takens)

finds : (free : List ℕ) (frame taken size : ℕ) (more : List ℕ) (next : Spot) → AreFrom free frame more → Places free (spot_at frame taken) size next → first_that_holds size frame taken more ≡ Some next
finds free frame taken size [] next are is = absurd (omega (arith, are.long, is.low, is.there))
finds free frame taken size (x ∷ more) next are is = by (finds free (frame + 1) 0 size more next (from_next free frame x more are)) (nat_le (taken + size) x) refl
  where
    by : (Places free (spot_at (frame + 1) 0) size next → first_that_holds size (frame + 1) 0 more ≡ Some next) → (b : Bool) → nat_le (taken + size) x ≡ b → (if b then Some (spot_at frame (taken + size)) else first_that_holds size (frame + 1) 0 more) ≡ Some next
    by rest true test =
        let fits : taken + size ≤ x = leb-true (taken + size) x test in
        let same : next.frame ≡ frame =
        ⊎_elim
        (λ (past : frame < next.frame). absurd (omega (arith, is.none frame (omega arith) past, at_same frame frame taken refl, first_is free frame x more are, fits)))
        (λ (not : next.frame ≤ frame). omega (arith, not, is.low))
        (cases_lt frame next.frame) in
        ap (λ (s : Spot). Some s) (same_spot frame (taken + size) next same (is.taken ∙ ap (λ n. n + size) (at_same frame next.frame taken (sym same))))
    by rest false test =
        let full : x < taken + size = leb-false (taken + size) x test in
        let past : frame < next.frame =
        ⊎_elim
        (λ (past : frame < next.frame). past)
        (λ (not : next.frame ≤ frame).
        let same : frame ≡ next.frame = omega (arith, not, is.low) in
        let first : get_or free next.frame 0 ≡ x = subst (λ n. get_or free n 0 ≡ x) same (first_is free frame x more are) in
        absurd (omega (arith, is.holds, is.taken, at_same frame next.frame taken same, first, full)))
        (cases_lt frame next.frame) in
        rest (beyond free frame taken size next is past)

are_from : (free : List ℕ) (frame : ℕ) → frame ≤ length free → AreFrom free frame (drop frame free)
are_from free frame low = record { has = λ j. get_or-drop frame free j 0; long = omega (arith, length-drop frame free, low) }

past_all : (free : List ℕ) (frame : ℕ) → length free < frame → drop frame free ≡ []
past_all free frame past = empty (drop frame free) (omega (arith, length-drop frame free, past))
  where
    empty : (xs : List ℕ) → length xs ≡ 0 → xs ≡ []
    empty [] none = refl
    empty (x ∷ xs) none = absurd (omega (arith, none))

pub places : (free : List ℕ) (spot : Spot) (size : ℕ) (next : Spot) → placed free spot size ≡ Some next → Places free spot size next
places free spot size next is =
    ⊎_elim
    (λ (past : length free < spot.frame). absurd (none_is_some next (sym (ap (first_that_holds size spot.frame spot.taken) (past_all free spot.frame past)) ∙ is)))
    (λ (low : spot.frame ≤ length free). walks free spot.frame spot.taken size (drop spot.frame free) next (are_from free spot.frame low) is)
    (cases_lt (length free) spot.frame)

pub is_placed : (free : List ℕ) (spot : Spot) (size : ℕ) (next : Spot) → Places free spot size next → placed free spot size ≡ Some next
is_placed free spot size next is = finds free spot.frame spot.taken size (drop spot.frame free) next (are_from free spot.frame (omega (arith, is.low, is.there))) is
