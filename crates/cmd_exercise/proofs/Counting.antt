-- How many fragments the packets of an exercise have, and that what is delivered are fragments of them.
use Rattle.std.proofs.Common.{◌≡◌, ℕ, zero, suc, ◌+◌, ◌*◌, ◌/◌, ◌%◌, ◌<◌, ◌≤◌, Bool, true, false, List, [], ◌∷◌, length, All, Option, Some, None, refl, sym, subst, arith, length-append}
use Rattle.std.specs.Prelude.{nat_le, ◌==◌, if◌then◌else◌, reverse, option_map, unwrap_or, filter, sum_by}
use Rattle.std.specs.List.{flat_map, range_with_len, last_or}
use Rattle.std.proofs.lemmas.List.Elements.{All-append}
use Rattle.dcp_pft.specs.declared.carry.Carry.TheVariants.{Pft}
use Rattle.dcp_pft.specs.Carrying.{datagram_count}
use Rattle.dcp_pft.specs.Cutting.{shape_of, chunk_count, chunk_size, coded_size, most_bytes}
use Rattle.drm_fac.specs.declared.mode.Mode.TheVariants.{B, C}
use Rattle.drm_schedule.specs.declared.config.Config.{Config}
use Rattle.drm_schedule.specs.Sizes.{packet_len}
use Rattle.drm_timeline.specs.Numbers.{packet_size}
use Rattle.drm_timeline.specs.Standing.{has_started}
use Rattle.plan_script.specs.declared.delivery.Delivery.{Delivery}
use Rattle.plan_script.specs.Script.{delivery, fragment_count, IsDelivery}
use Rattle.cmd_air.specs.Air.{AreFeeds}
use Rattle.cmd_exercise.specs.Exercise.{config, plan, is_left_out, twice_unless, of_packet, deliveries}
use Rattle.cmd_exercise.proofs.Ranges.{forward_more, back_more}

-- ---- the fragments of a packet

abbrev size : Bool → Option Config → ℕ
size is_first found = unwrap_or (option_map (λ c. packet_len c is_first) found) 0

abbrev IsFew : Bool → Option Config → Type 0
IsFew is_first found = datagram_count (Pft 2 1400) (size is_first found) ≤ 16

few_of : (is_first : Bool) (byte : ℕ) (c : Config) → packet_len c true ≡ 421 → packet_len c false ≡ 386 → IsFew is_first (Some c)
unfolding shape_of chunk_count chunk_size coded_size most_bytes
few_of true byte c first other = let count : datagram_count (Pft 2 1400) 421 ≡ 12 = refl in subst (λ n. datagram_count (Pft 2 1400) n ≤ 16) (sym first) (omega (arith, count))
few_of false byte c first other = let count : datagram_count (Pft 2 1400) 386 ≡ 16 = refl in subst (λ n. datagram_count (Pft 2 1400) n ≤ 16) (sym other) (omega (arith, count))

few_none : (is_first : Bool) → IsFew is_first None
unfolding shape_of chunk_count chunk_size coded_size most_bytes
few_none is_first = let count : datagram_count (Pft 2 1400) 0 ≡ 0 = refl in omega (arith, count)

-- the last one of those that pass
last_passes : (P : Option Config → Type 0) (c d : Config) (two a b : Bool) → P None → P (Some c) → P (Some d)
    → P (last_or None (if a then c ∷ (if two then (if b then d ∷ [] else []) else []) else (if two then (if b then d ∷ [] else []) else [])))
last_passes P c d true true true none one other = other
last_passes P c d true true false none one other = one
last_passes P c d true false true none one other = other
last_passes P c d true false false none one other = none
last_passes P c d false true b none one other = one
last_passes P c d false false b none one other = none

abbrev half : ℕ → Config
half n = config (n / 2) 2 C true 18

filtered : (n sf : ℕ) (two : Bool) → filter (has_started sf) (config 0 0 B false 17 ∷ (if two then half n ∷ [] else []))
    ≡ (if has_started sf (config 0 0 B false 17) then config 0 0 B false 17 ∷ (if two then (if has_started sf (half n) then half n ∷ [] else []) else []) else (if two then (if has_started sf (half n) then half n ∷ [] else []) else []))
filtered n sf true = refl
filtered n sf false = refl

pub few_fragments : (n packet : ℕ) → fragment_count (plan n) packet ≤ 16
unfolding fragment_count packet_size
few_fragments n packet =
    let sf : ℕ = packet / 3 in
    let is_first : Bool = packet % 3 == 0 in
    let first : Config = config 0 0 B false 17 in
    subst (λ l. IsFew is_first (last_or None l)) (sym (filtered n sf (nat_le 4 n)))
    (last_passes (IsFew is_first) first (half n) (nat_le 4 n) (has_started sf first) (has_started sf (half n)) (few_none is_first) (few_of is_first 17 first refl refl) (few_of is_first 18 (half n) refl refl))

-- ---- the deliveries

module _ {X : Type 0} (P : X → Type 0) (f : ℕ → List X) where
  all_nothing : All P []
  all_nothing k d within = absurd (omega (arith, within))

  all_forward : (k : ℕ) → ((i : ℕ) → i < k → All P (f i)) → All P (flat_map f (range_with_len 0 k))
  all_forward zero each = all_nothing
  all_forward (suc k) each =
      let next : k + 1 ≡ suc k = omega arith in
      subst (λ m. All P (flat_map f (range_with_len 0 m))) next
      (subst (All P) (sym (forward_more f k)) (All-append P (flat_map f (range_with_len 0 k)) (f k) (all_forward k (λ i less. each i (omega (arith, less)))) (each k (omega arith))))

  all_back : (k : ℕ) → ((i : ℕ) → i < k → All P (f i)) → All P (flat_map f (reverse (range_with_len 0 k)))
  all_back zero each = all_nothing
  all_back (suc k) each =
      let next : k + 1 ≡ suc k = omega arith in
      subst (λ m. All P (flat_map f (reverse (range_with_len 0 m)))) next
      (subst (All P) (sym (back_more f k)) (All-append P (f k) (flat_map f (reverse (range_with_len 0 k))) (each k (omega arith)) (all_back k (λ i less. each i (omega (arith, less))))))

  few_forward : (most k : ℕ) → ((i : ℕ) → length (f i) ≤ most) → length (flat_map f (range_with_len 0 k)) ≤ most * k
  few_forward most zero each = omega arith
  few_forward most (suc k) each =
      let next : k + 1 ≡ suc k = omega arith in
      let more = few_forward most k each in
      let here = each k in
      let parts = length-append (flat_map f (range_with_len 0 k)) (f k) in
      subst (λ m. length (flat_map f (range_with_len 0 m)) ≤ most * m) next
      (subst (λ l. length l ≤ most * (k + 1)) (sym (forward_more f k)) (omega (arith, more, here, parts)))

  few_back : (most k : ℕ) → ((i : ℕ) → length (f i) ≤ most) → length (flat_map f (reverse (range_with_len 0 k))) ≤ most * k
  few_back most zero each = omega arith
  few_back most (suc k) each =
      let next : k + 1 ≡ suc k = omega arith in
      let more = few_back most k each in
      let here = each k in
      let parts = length-append (f k) (flat_map f (reverse (range_with_len 0 k))) in
      subst (λ m. length (flat_map f (reverse (range_with_len 0 m))) ≤ most * m) next
      (subst (λ l. length l ≤ most * (k + 1)) (sym (back_more f k)) (omega (arith, more, here, parts)))

all_twice : (P : Delivery → Type 0) (left_out : Bool) (d : Delivery) → P d → All P (twice_unless left_out d)
all_twice P true d is k e within = absurd (omega (arith, within))
all_twice P false d is zero e within = is
all_twice P false d is (suc zero) e within = is
all_twice P false d is (suc (suc k)) e within = absurd (omega (arith, within))

few_twice : (left_out : Bool) (d : Delivery) → length (twice_unless left_out d) ≤ 2
few_twice true d = omega arith
few_twice false d = omega arith

of_packet_are : (n packet : ℕ) → packet < 3 * n → All (IsDelivery (plan n)) (of_packet n packet (fragment_count (plan n) packet))
unfolding of_packet
of_packet_are n packet within =
    let count : ℕ = fragment_count (plan n) packet in
    all_back (IsDelivery (plan n)) (λ i. twice_unless (is_left_out n packet count i) (delivery packet i)) count
    (λ i less. all_twice (IsDelivery (plan n)) (is_left_out n packet count i) (delivery packet i) (record { packet = within; fragment = less }))

of_packet_few : (n packet : ℕ) → length (of_packet n packet (fragment_count (plan n) packet)) ≤ 32
unfolding of_packet
of_packet_few n packet =
    let count : ℕ = fragment_count (plan n) packet in
    let few = few_fragments n packet in
    let some = few_back (λ d. Unit {0}) (λ i. twice_unless (is_left_out n packet count i) (delivery packet i)) 2 count (λ i. few_twice (is_left_out n packet count i) (delivery packet i)) in
    omega (arith, few, some)

pub are_feeds : (n : ℕ) → n ≤ 1000 → AreFeeds (plan n) (deliveries n ∷ [])
unfolding deliveries
are_feeds n few = record {
  some = omega arith;
  few = omega arith;
  each = λ k d within. one k d within;
  few_deliveries =
      (let all = few_forward (λ d. Unit {0}) (λ packet. of_packet n packet (fragment_count (plan n) packet)) 32 (3 * n) (of_packet_few n) in
      let sum : sum_by length (deliveries n ∷ []) ≡ 0 + length (deliveries n) = refl in
      omega (arith, few, all, sum));
}
  where
    one : All (All (IsDelivery (plan n))) (deliveries n ∷ [])
    one zero d within = all_forward (IsDelivery (plan n)) (λ packet. of_packet n packet (fragment_count (plan n) packet)) (3 * n) (λ packet less. of_packet_are n packet less)
    one (suc k) d within = absurd (omega (arith, within))
