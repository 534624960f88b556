-- The order of the services in the FAC, as the numbers that the code computes.
use Rattle.std.proofs.Common.{◌≡◌, ◌<◌, ◌≤◌, ◌+◌, ◌*◌, ◌/◌, ◌%◌, ℕ, zero, suc, length, map, Some, IsSome, slice_get, nat_lt, if◌then◌else◌, refl, sym, ap, ◌∙◌, arith}
use Rattle.std.specs.List.{range_with_len}
use Rattle.std.proofs.lemmas.Option.{slice_get-get_or}
use Rattle.std.proofs.lemmas.List.FromFn.{get_or-map-range_with_len, length-map-range_with_len}
use Rattle.drm_fac.specs.declared.order.Slot.{Slot}
use Rattle.drm_fac.specs.declared.order.Slot.TheVariants.{Audio, Data}
use Rattle.drm_fac.specs.Services.{code_of}
use Rattle.drm_fac.specs.Pattern.{before_data, order_of}

-- a list of what a function gives for the first numbers
table : {X : Type 0} (f : ℕ → X) (n p : ℕ) → p < n → slice_get (map f (range_with_len 0 n)) p ≡ Some (f p)
table f n p below =
    let all : length (map f (range_with_len 0 n)) ≡ n = length-map-range_with_len f 0 n in
    slice_get-get_or (map f (range_with_len 0 n)) p (f p) (rw all below)
    ∙ ap (λ x. Some x) (get_or-map-range_with_len f 0 n p p (f p) below (omega arith))

-- one to four services
pub few : (a d : ℕ) → IsSome (code_of a d) → (0 < a + d) × (a + d < 5)
few a d some = grind arith

-- the service at a place, where audio and data services stand there
abbrev pub slot_of : ℕ → ℕ → Slot
slot_of a p = let n = length (before_data a) in if nat_lt (p % (n + 1)) n then Audio (p % (n + 1) % a) else Data (p / (n + 1))

pub is_audio : (a p : ℕ) → p % (length (before_data a) + 1) < length (before_data a) → slot_of a p ≡ Audio (p % (length (before_data a) + 1) % a)
is_audio a p below = grind arith

pub is_data : (a p : ℕ) → length (before_data a) ≤ p % (length (before_data a) + 1) → slot_of a p ≡ Data (p / (length (before_data a) + 1))
is_data a p above = grind arith

-- one round has some frames, and few
round_of : (a d : ℕ) → 0 < a + d → a + d < 5 → (0 < length (order_of a d)) × (length (order_of a d) < 16)
round_of zero zero some few = absurd (omega arith)
round_of zero (suc zero) some few = omega arith
round_of zero (suc (suc zero)) some few = omega arith
round_of zero (suc (suc (suc zero))) some few = omega arith
round_of zero (suc (suc (suc (suc zero)))) some few = omega arith
round_of zero (suc (suc (suc (suc (suc d))))) some few = absurd (omega arith)
round_of (suc zero) zero some few = omega arith
round_of (suc zero) (suc zero) some few = omega arith
round_of (suc zero) (suc (suc zero)) some few = omega arith
round_of (suc zero) (suc (suc (suc zero))) some few = omega arith
round_of (suc zero) (suc (suc (suc (suc d)))) some few = absurd (omega arith)
round_of (suc (suc zero)) zero some few = omega arith
round_of (suc (suc zero)) (suc zero) some few = omega arith
round_of (suc (suc zero)) (suc (suc zero)) some few = omega arith
round_of (suc (suc zero)) (suc (suc (suc d))) some few = absurd (omega arith)
round_of (suc (suc (suc zero))) zero some few = omega arith
round_of (suc (suc (suc zero))) (suc zero) some few = omega arith
round_of (suc (suc (suc zero))) (suc (suc d)) some few = absurd (omega arith)
round_of (suc (suc (suc (suc zero)))) zero some few = omega arith
round_of (suc (suc (suc (suc zero)))) (suc d) some few = absurd (omega arith)
round_of (suc (suc (suc (suc (suc a))))) d some few = absurd (omega arith)

pub round : (a d : ℕ) → IsSome (code_of a d) → (0 < length (order_of a d)) × (length (order_of a d) < 16)
round a d some = let n = few a d some in round_of a d n.0 n.1

pub all_audio : (a p : ℕ) → p < length (order_of a 0) → slice_get (order_of a 0) p ≡ Some (Audio p)
all_audio a p below = table Audio a p (rw (sym (length-map-range_with_len Audio 0 a)) below)

pub all_data : (d p : ℕ) → p < length (order_of 0 d) → slice_get (order_of 0 d) p ≡ Some (Data p)
all_data zero p below = absurd (omega arith)
all_data (suc d) p below = table Data (suc d) p (rw (sym (length-map-range_with_len Data 0 (suc d))) below)

pub mixed : (a d p : ℕ) → IsSome (code_of (suc a) (suc d)) → p < length (order_of (suc a) (suc d)) → slice_get (order_of (suc a) (suc d)) p ≡ Some (slot_of (suc a) p)
mixed zero zero p some below = table (slot_of 1) 5 p below
mixed zero (suc zero) p some below = table (slot_of 1) 10 p below
mixed zero (suc (suc zero)) p some below = table (slot_of 1) 15 p below
mixed (suc zero) zero p some below = table (slot_of 2) 5 p below
mixed (suc zero) (suc zero) p some below = table (slot_of 2) 10 p below
mixed (suc (suc zero)) zero p some below = table (slot_of 3) 7 p below
mixed zero (suc (suc (suc d))) p some below = absurd (omega (arith, (few 1 (suc (suc (suc (suc d)))) some).1))
mixed (suc zero) (suc (suc d)) p some below = absurd (omega (arith, (few 2 (suc (suc (suc d))) some).1))
mixed (suc (suc zero)) (suc d) p some below = absurd (omega (arith, (few 3 (suc (suc d)) some).1))
mixed (suc (suc (suc a))) d p some below = absurd (omega (arith, (few (suc (suc (suc (suc a)))) (suc d) some).1))

-- The same, as the code asks for it.
pub at_audio : (a d p : ℕ) → d ≡ 0 → p < length (order_of a d) → Some (Audio p) ≡ slice_get (order_of a d) p
at_audio a zero p none below = sym (all_audio a p below)
at_audio a (suc d) p none below = absurd (omega arith)

pub at_data : (a d p : ℕ) → a ≡ 0 → (d ≡ 0 → ⊥) → p < length (order_of a d) → Some (Data p) ≡ slice_get (order_of a d) p
at_data zero zero p none some below = absurd (some refl)
at_data zero (suc d) p none some below = sym (all_data (suc d) p below)
at_data (suc a) d p none some below = absurd (omega arith)

pub at_mixed : (a d p : ℕ) → IsSome (code_of a d) → (a ≡ 0 → ⊥) → (d ≡ 0 → ⊥) → p < length (order_of a d) → Some (slot_of a p) ≡ slice_get (order_of a d) p
at_mixed zero d p some audio data_too below = absurd (audio refl)
at_mixed (suc a) zero p some audio data_too below = absurd (data_too refl)
at_mixed (suc a) (suc d) p some audio data_too below = sym (mixed a d p some below)

-- the length of the order
pub len_mixed : (a d : ℕ) → IsSome (code_of a d) → (a ≡ 0 → ⊥) → (d ≡ 0 → ⊥) → (length (before_data a) + 1) * d ≡ length (order_of a d)
len_mixed a d some audio data_too = let n = few a d some in by a d n.1 audio data_too
  where
    by : (a d : ℕ) → a + d < 5 → (a ≡ 0 → ⊥) → (d ≡ 0 → ⊥) → (length (before_data a) + 1) * d ≡ length (order_of a d)
    by zero d few audio data_too = absurd (audio refl)
    by (suc a) zero few audio data_too = absurd (data_too refl)
    by (suc zero) (suc zero) few audio data_too = refl
    by (suc zero) (suc (suc zero)) few audio data_too = refl
    by (suc zero) (suc (suc (suc zero))) few audio data_too = refl
    by (suc (suc zero)) (suc zero) few audio data_too = refl
    by (suc (suc zero)) (suc (suc zero)) few audio data_too = refl
    by (suc (suc (suc zero))) (suc zero) few audio data_too = refl
    by (suc zero) (suc (suc (suc (suc d)))) few audio data_too = absurd (omega arith)
    by (suc (suc zero)) (suc (suc (suc d))) few audio data_too = absurd (omega arith)
    by (suc (suc (suc zero))) (suc (suc d)) few audio data_too = absurd (omega arith)
    by (suc (suc (suc (suc a)))) (suc d) few audio data_too = absurd (omega arith)

pub len_audio : (a d : ℕ) → d ≡ 0 → a ≡ length (order_of a d)
len_audio a zero none = sym (length-map-range_with_len Audio 0 a)
len_audio a (suc d) none = absurd (omega arith)

pub len_data : (a d : ℕ) → a ≡ 0 → (d ≡ 0 → ⊥) → d ≡ length (order_of a d)
len_data zero zero none some = absurd (some refl)
len_data zero (suc d) none some = sym (length-map-range_with_len Data 0 (suc d))
len_data (suc a) d none some = absurd (omega arith)

pub twice : (a : ℕ) → a < 4 → (a ≡ 1 → ⊥) → 2 * a ≡ length (before_data a)
twice zero few other = refl
twice (suc zero) few other = absurd (other refl)
twice (suc (suc zero)) few other = refl
twice (suc (suc (suc zero))) few other = refl
twice (suc (suc (suc (suc a)))) few other = absurd (omega arith)
