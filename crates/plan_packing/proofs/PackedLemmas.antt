-- The walk that packs sizes finds what a packing is, and nothing else.
use Rattle.std.proofs.Common.{◌≡◌, ◌<◌, ◌≤◌, ◌+◌, ◌↔◌, ℕ, zero, suc, List, [], ◌∷◌, length, get_or, IsTrue, is_some, option_map, Option, None, Some, refl, sym, ap, subst, ◌∙◌, ⊎_elim, arith}
use Rattle.std.proofs.lemmas.Bool.{cases_lt, true≢false}
use Rattle.plan_packing.specs.declared.packing.Spot.{Spot}
use Rattle.plan_packing.specs.Packing.{chain, placed, packed, front, can_be_packed}
use Rattle.plan_packing.specs.Relation.{bytes_in, frame_before, IsPacking}
use Rattle.plan_packing.proofs.PlaceLemmas.{bytes_at, at_same, at_before, at_behind, at_none, spot_at, Places, places, is_placed}

abbrev before : ℕ → List ℕ → ℕ → ℕ
before start frames zero = start
before start frames (suc i) = get_or frames i 0

-- The sizes are packed behind a spot.
record PackedFrom (free : List ℕ) (spot : Spot) (sizes frames : List ℕ) : Type 0 where
  each : length frames ≡ length sizes
  in_order : (i : ℕ) → i < length frames → before spot.frame frames i ≤ get_or frames i 0
  there : (i : ℕ) → i < length frames → get_or frames i 0 < length free
  held : (g : ℕ) → bytes_at spot.frame g spot.taken + bytes_in g sizes frames ≤ get_or free g 0
  first : (i g : ℕ) → i < length frames → before spot.frame frames i ≤ g → g < get_or frames i 0 → get_or free g 0 < bytes_at spot.frame g spot.taken + bytes_in g sizes frames + get_or sizes i 0

abbrev IsOrdered : ℕ → List ℕ → Type 0
IsOrdered start frames = (i : ℕ) → i < length frames → before start frames i ≤ get_or frames i 0

ordered_behind : (start frame : ℕ) (frames : List ℕ) → IsOrdered start (frame ∷ frames) → IsOrdered frame frames
ordered_behind start frame frames is zero lt = is 1 (omega (arith, lt))
ordered_behind start frame frames is (suc i) lt = is (suc (suc i)) (omega (arith, lt))

all_above : (start : ℕ) (frames : List ℕ) → IsOrdered start frames → (i : ℕ) → i < length frames → start ≤ get_or frames i 0
all_above start [] is i lt = absurd (omega (arith, lt))
all_above start (frame ∷ frames) is zero lt = is 0 (omega arith)
all_above start (frame ∷ frames) is (suc i) lt = omega (arith, is 0 (omega arith), all_above frame frames (ordered_behind start frame frames is) i (omega (arith, lt)))

-- nothing is in a frame before the first of those that don't fall
nothing_before : (g start : ℕ) (sizes frames : List ℕ) → g < start → IsOrdered start frames → bytes_in g sizes frames ≡ 0
nothing_before g start [] frames less is = refl
nothing_before g start (size ∷ sizes) [] less is = refl
nothing_before g start (size ∷ sizes) (frame ∷ frames) less is =
    let past : g < frame = omega (arith, less, is 0 (omega arith)) in
    omega (arith, at_behind frame g size past, nothing_before g frame sizes frames past (ordered_behind start frame frames is))

SpotFits : List ℕ → Spot → Type 0
SpotFits free spot = (g : ℕ) → bytes_at spot.frame g spot.taken ≤ get_or free g 0

next_fits : (free : List ℕ) (spot : Spot) (size : ℕ) (next : Spot) → Places free spot size next → SpotFits free next
unfolding SpotFits
next_fits free spot size next is g =
    ⊎_elim
    (λ (more : next.frame < g). omega (arith, at_before next.frame g next.taken more))
    (λ (not : g ≤ next.frame).
    ⊎_elim
    (λ (less : g < next.frame). omega (arith, at_behind next.frame g next.taken less))
    (λ (same : next.frame ≤ g).
    let is_g : next.frame ≡ g = omega (arith, not, same) in
    let holds : next.taken ≤ get_or free g 0 = subst (λ n. next.taken ≤ get_or free n 0) is_g is.holds in
    omega (arith, holds, at_same next.frame g next.taken is_g))
    (cases_lt g next.frame))
    (cases_lt next.frame g)

-- ---- what was found is a packing

no_sizes : (free : List ℕ) (spot : Spot) → SpotFits free spot → PackedFrom free spot [] []
unfolding SpotFits
no_sizes free spot fits =
    record {
      each = refl;
      in_order = λ i lt. absurd (omega (arith, lt));
      there = λ i lt. absurd (omega (arith, lt));
      held = λ g. omega (arith, fits g);
      first = λ i g lt. absurd (omega (arith, lt));
    }

-- the bytes of a frame behind one size more
record SameBytes (spot : Spot) (size g : ℕ) (next : Spot) : Type 0 where
  at_next : bytes_at next.frame g next.taken ≡ bytes_at spot.frame g spot.taken + bytes_at next.frame g size

same_bytes : (free : List ℕ) (spot : Spot) (size g : ℕ) (next : Spot) → Places free spot size next → next.frame ≤ g → SameBytes spot size g next
same_bytes free spot size g next is low =
    ⊎_elim
    (λ (more : next.frame < g).
    record { at_next = omega (arith, at_before next.frame g next.taken more, at_before next.frame g size more, at_before spot.frame g spot.taken (omega (arith, is.low, more))) })
    (λ (not : g ≤ next.frame).
    let is_g : next.frame ≡ g = omega (arith, not, low) in
    let taken : next.taken ≡ bytes_at spot.frame g spot.taken + size = subst (λ n. next.taken ≡ bytes_at spot.frame n spot.taken + size) is_g is.taken in
    record { at_next = omega (arith, taken, at_same next.frame g next.taken is_g, at_same next.frame g size is_g) })
    (cases_lt next.frame g)

one_more : (free : List ℕ) (spot : Spot) (size : ℕ) (next : Spot) (sizes frames : List ℕ) → SpotFits free spot → Places free spot size next → PackedFrom free next sizes frames → PackedFrom free spot (size ∷ sizes) (next.frame ∷ frames)
unfolding SpotFits
one_more free spot size next sizes frames fits is rest =
    record {
      each = ap suc rest.each;
      in_order = in_order;
      there = there;
      held = λ g.
          ⊎_elim
          (λ (less : g < next.frame). omega (arith, fits g, at_behind next.frame g size less, nothing_before g next.frame sizes frames less rest.in_order))
          (λ (low : next.frame ≤ g). omega (arith, rest.held g, (same_bytes free spot size g next is low).at_next))
          (cases_lt g next.frame);
      first = first;
    }
  where
    in_order : IsOrdered spot.frame (next.frame ∷ frames)
    in_order zero lt = is.low
    in_order (suc zero) lt = rest.in_order 0 (omega (arith, lt))
    in_order (suc (suc i)) lt = rest.in_order (suc i) (omega (arith, lt))

    there : (i : ℕ) → i < length (next.frame ∷ frames) → get_or (next.frame ∷ frames) i 0 < length free
    there zero lt = is.there
    there (suc i) lt = rest.there i (omega (arith, lt))

    behind : (i g : ℕ) → i < length frames → next.frame ≤ g → get_or free g 0 < bytes_at next.frame g next.taken + bytes_in g sizes frames + get_or sizes i 0
        → get_or free g 0 < bytes_at spot.frame g spot.taken + bytes_in g (size ∷ sizes) (next.frame ∷ frames) + get_or sizes i 0
    behind i g lt low full = omega (arith, full, (same_bytes free spot size g next is low).at_next)

    first : (i g : ℕ) → i < length (next.frame ∷ frames) → before spot.frame (next.frame ∷ frames) i ≤ g → g < get_or (next.frame ∷ frames) i 0
        → get_or free g 0 < bytes_at spot.frame g spot.taken + bytes_in g (size ∷ sizes) (next.frame ∷ frames) + get_or (size ∷ sizes) i 0
    first zero g lt low less = omega (arith, is.none g low less)
    first (suc zero) g lt low less = behind 0 g (omega (arith, lt)) low (rest.first 0 g (omega (arith, lt)) low less)
    first (suc (suc i)) g lt low less =
        behind (suc i) g (omega (arith, lt)) (omega (arith, low, all_above next.frame frames rest.in_order i (omega (arith, lt)))) (rest.first (suc i) g (omega (arith, lt)) low less)

abbrev frames_ok : List ℕ → Option (List ℕ)
frames_ok frames = Some frames

same_frames : (xs ys : List ℕ) → frames_ok xs ≡ frames_ok ys → xs ≡ ys
same_frames xs ys is = cc

none_is_some : (frames : List ℕ) → None ≡ frames_ok frames → ⊥
none_is_some frames is = cc

found : (free : List ℕ) (spot : Spot) (sizes frames : List ℕ) → SpotFits free spot → packed free spot sizes ≡ Some frames → PackedFrom free spot sizes frames
found free spot [] frames fits is = subst (PackedFrom free spot []) (same_frames [] frames is) (no_sizes free spot fits)
found free spot (size ∷ sizes) frames fits is = by (λ next. found free next sizes) (placed free spot size) refl is
  where
    behind : (next : Spot) → Places free spot size next → (o : Option (List ℕ)) → ((more : List ℕ) → o ≡ Some more → PackedFrom free next sizes more)
        → option_map (λ more. next.frame ∷ more) o ≡ Some frames → PackedFrom free spot (size ∷ sizes) frames
    behind next at None rest is = absurd (none_is_some frames is)
    behind next at (Some more) rest is = subst (PackedFrom free spot (size ∷ sizes)) (same_frames (next.frame ∷ more) frames is) (one_more free spot size next sizes more fits at (rest more refl))

    by : ((next : Spot) (more : List ℕ) → SpotFits free next → packed free next sizes ≡ Some more → PackedFrom free next sizes more)
        → (o : Option Spot) → placed free spot size ≡ o → chain o (λ next. option_map (λ more. next.frame ∷ more) (packed free next sizes)) ≡ Some frames → PackedFrom free spot (size ∷ sizes) frames
    by rest None at is = absurd (none_is_some frames is)
    by rest (Some next) at is =
        let here : Places free spot size next = places free spot size next at in
        behind next here (packed free next sizes) (λ more. rest next more (next_fits free spot size next here)) is

-- ---- a packing is found

-- where a size leaves off that stands in this frame
abbrev spot_behind : Spot → ℕ → ℕ → Spot
spot_behind spot size frame = spot_at frame (bytes_at spot.frame frame spot.taken + size)

-- the first size of a packing is placed
first_placed : (free : List ℕ) (spot : Spot) (size : ℕ) (sizes : List ℕ) (frame : ℕ) (frames : List ℕ) → PackedFrom free spot (size ∷ sizes) (frame ∷ frames)
    → Places free spot size (spot_behind spot size frame)
first_placed free spot size sizes frame frames is =
    record {
      low = is.in_order 0 (omega arith);
      there = is.there 0 (omega arith);
      taken = refl;
      holds = omega (arith, is.held frame, at_same frame frame size refl);
      none = λ g low less.
          omega (arith, is.first 0 g (omega arith) low less, at_behind frame g size less, nothing_before g frame sizes frames less (ordered_behind spot.frame frame frames is.in_order));
    }

-- the others are packed behind it
others_packed : (free : List ℕ) (spot : Spot) (size : ℕ) (sizes : List ℕ) (frame : ℕ) (frames : List ℕ) → PackedFrom free spot (size ∷ sizes) (frame ∷ frames)
    → PackedFrom free (spot_behind spot size frame) sizes frames
others_packed free spot size sizes frame frames is =
    record {
      each = omega (arith, is.each);
      in_order = ordered;
      there = λ i lt. is.there (suc i) (omega (arith, lt));
      held = λ g.
          ⊎_elim
          (λ (less : g < frame). omega (arith, is.held g, at_behind frame g (spot_behind spot size frame).taken less))
          (λ (low : frame ≤ g). omega (arith, is.held g, (same_bytes free spot size g (spot_behind spot size frame) here low).at_next))
          (cases_lt g frame);
      first = first;
    }
  where
    ordered : IsOrdered frame frames
    ordered = ordered_behind spot.frame frame frames is.in_order

    here : Places free spot size (spot_behind spot size frame)
    here = first_placed free spot size sizes frame frames is

    behind : (i g : ℕ) → i < length frames → frame ≤ g → before spot.frame (frame ∷ frames) (suc i) ≤ g → g < get_or frames i 0
        → get_or free g 0 < bytes_at frame g (bytes_at spot.frame frame spot.taken + size) + bytes_in g sizes frames + get_or sizes i 0
    behind i g lt low after less = omega (arith, is.first (suc i) g (omega (arith, lt)) after less, (same_bytes free spot size g (spot_behind spot size frame) here low).at_next)

    first : (i g : ℕ) → i < length frames → before frame frames i ≤ g → g < get_or frames i 0
        → get_or free g 0 < bytes_at frame g (bytes_at spot.frame frame spot.taken + size) + bytes_in g sizes frames + get_or sizes i 0
    first zero g lt low less = behind 0 g lt low low less
    first (suc i) g lt low less = behind (suc i) g lt (omega (arith, low, all_above frame frames ordered i (omega (arith, lt)))) low less

is_found : (free : List ℕ) (spot : Spot) (sizes frames : List ℕ) → PackedFrom free spot sizes frames → packed free spot sizes ≡ Some frames
is_found free spot [] [] is = refl
is_found free spot [] (frame ∷ frames) is = absurd (omega (arith, is.each))
is_found free spot (size ∷ sizes) [] is = absurd (omega (arith, is.each))
is_found free spot (size ∷ sizes) (frame ∷ frames) is =
    let next : Spot = spot_behind spot size frame in
    ap (λ (o : Option Spot). chain o (λ (s : Spot). option_map (λ more. s.frame ∷ more) (packed free s sizes))) (is_placed free spot size next (first_placed free spot size sizes frame frames is))
    ∙ ap (λ (o : Option (List ℕ)). option_map (λ more. frame ∷ more) o) (is_found free next sizes frames (others_packed free spot size sizes frame frames is))

-- ---- from the first frame on

front_fits : (free : List ℕ) → SpotFits free front
unfolding SpotFits
front_fits free g = omega (arith, at_none 0 g)

same_before : (frames : List ℕ) (i : ℕ) → before 0 frames i ≡ frame_before frames i
same_before frames zero = refl
same_before frames (suc i) = refl

from_front : (free sizes frames : List ℕ) → PackedFrom free front sizes frames → IsPacking free sizes frames
from_front free sizes frames is =
    record {
      each = is.each;
      in_order = λ i lt. omega (arith, is.in_order i lt, same_before frames i);
      there = is.there;
      held = λ g. omega (arith, is.held g);
      first = λ i g lt low less. omega (arith, is.first i g lt (omega (arith, low, same_before frames i)) less, at_none 0 g);
    }

to_front : (free sizes frames : List ℕ) → IsPacking free sizes frames → PackedFrom free front sizes frames
to_front free sizes frames is =
    record {
      each = is.each;
      in_order = λ i lt. omega (arith, is.in_order i lt, same_before frames i);
      there = is.there;
      held = λ g. omega (arith, is.held g, at_none 0 g);
      first = λ i g lt low less. omega (arith, is.first i g lt (omega (arith, low, same_before frames i)) less);
    }

pub finds_the_packing : (free sizes frames : List ℕ) → (packed free front sizes ≡ Some frames) ↔ IsPacking free sizes frames
finds_the_packing free sizes frames =
    (λ is. from_front free sizes frames (found free front sizes frames (front_fits free) is), λ is. is_found free front sizes frames (to_front free sizes frames is))

pub finds_none : (free sizes : List ℕ) → (packed free front sizes ≡ None) ↔ ((frames : List ℕ) → ¬ IsPacking free sizes frames)
finds_none free sizes =
    (λ none frames is. none_is_some frames (sym none ∙ (finds_the_packing free sizes frames).1 is), λ lacks. by lacks (packed free front sizes) refl)
  where
    by : ((frames : List ℕ) → ¬ IsPacking free sizes frames) → (o : Option (List ℕ)) → packed free front sizes ≡ o → o ≡ None
    by lacks None is = refl
    by lacks (Some frames) is = absurd (lacks frames ((finds_the_packing free sizes frames).0 is))

pub tests_for_a_packing : (free sizes : List ℕ) → IsTrue (can_be_packed free sizes) ↔ ((frames : List ℕ) × IsPacking free sizes frames)
tests_for_a_packing free sizes = (by (packed free front sizes) refl, has)
  where
    by : (o : Option (List ℕ)) → packed free front sizes ≡ o → IsTrue (is_some o) → (frames : List ℕ) × IsPacking free sizes frames
    by None is test = absurd (true≢false (sym test))
    by (Some frames) is test = (frames, (finds_the_packing free sizes frames).0 is)

    has : ((frames : List ℕ) × IsPacking free sizes frames) → IsTrue (can_be_packed free sizes)
    has (frames, is) = subst (λ (o : Option (List ℕ)). IsTrue (is_some o)) (sym ((finds_the_packing free sizes frames).1 is)) refl
