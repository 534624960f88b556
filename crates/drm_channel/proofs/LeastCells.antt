-- The fewest cells that carry a part A.
use Rattle.std.proofs.Common.{◌≡◌, ℕ, ◌<◌, ◌≤◌, ◌+◌, ◌*◌, ◌/◌, ◌%◌, sym, ◌∙◌, ap, subst, arith}
use Rattle.std.proofs.Math.Nat.{mul-div_cancel, mul-mod_right, mul-le-mul_left, lt_of_mul-lt-mul_right}
use Rattle.std.proofs.lemmas.Grind.{div_ceil_times}
use Rattle.std.specs.Int.{div_ceil}
use Rattle.drm_channel.specs.declared.coding.MscCoding.{MscCoding}
use Rattle.drm_channel.specs.declared.coding.MscCoding.TheVariants.{Qam64Level0, Qam64Level1, Qam64Level2, Qam64Level3, Qam16Level0, Qam16Level1}
use Rattle.drm_channel.specs.Rates.{multiple_of}
use Rattle.drm_channel.specs.Parts.{carried_in_a, cells_for, CarriesLeast}

-- a whole number of times
times : (n k y : ℕ) → 0 < y → n ≡ k * y → n / y ≡ k
times n k y some is = ap (λ x. x / y) is ∙ mul-div_cancel k some

-- whole multiples carry as many times what one carries
carried_by : (coding : MscCoding) (q : ℕ) → carried_in_a coding (multiple_of coding * q) ≡ q * carried_in_a coding (multiple_of coding)
carried_by Qam64Level0 q =
    let a = times (2 * (4 * q)) (2 * q) 4 (omega arith) (omega arith) in
    let b = times (2 * (4 * q)) (4 * q) 2 (omega arith) (omega arith) in
    omega (arith, a, b)
carried_by Qam64Level1 q =
    let a = times (2 * (15 * q)) (10 * q) 3 (omega arith) (omega arith) in
    let b = times (2 * (15 * q)) (6 * q) 5 (omega arith) (omega arith) in
    omega (arith, a, b)
carried_by Qam64Level2 q =
    let a = times (2 * (8 * q)) (8 * q) 2 (omega arith) (omega arith) in
    let b = times (2 * (8 * q)) (4 * q) 4 (omega arith) (omega arith) in
    let d = times (2 * (8 * q)) (2 * q) 8 (omega arith) (omega arith) in
    omega (arith, a, b, d)
carried_by Qam64Level3 q =
    let a = times (2 * (45 * q)) (30 * q) 3 (omega arith) (omega arith) in
    let b = times (2 * (45 * q)) (18 * q) 5 (omega arith) (omega arith) in
    let d = times (2 * (45 * q)) (10 * q) 9 (omega arith) (omega arith) in
    omega (arith, a, b, d)
carried_by Qam16Level0 q =
    let a = times (2 * (3 * q)) (2 * q) 3 (omega arith) (omega arith) in
    omega (arith, a)
carried_by Qam16Level1 q =
    let a = times (2 * (4 * q)) (4 * q) 2 (omega arith) (omega arith) in
    let b = times (2 * (4 * q)) (2 * q) 4 (omega arith) (omega arith) in
    omega (arith, a, b)

-- one multiple carries something
carries_some : (coding : MscCoding) → 0 < carried_in_a coding (multiple_of coding)
carries_some Qam64Level0 = omega arith
carries_some Qam64Level1 = omega arith
carries_some Qam64Level2 = omega arith
carries_some Qam64Level3 = omega arith
carries_some Qam16Level0 = omega arith
carries_some Qam16Level1 = omega arith

-- it is so many times the multiple
whole : (m n : ℕ) → m % n ≡ 0 → m ≡ n * (m / n)
whole m n is = grind (arith, is)

module _ (coding : MscCoding) (bytes : ℕ) where
  abbrev one : ℕ
  one = carried_in_a coding (multiple_of coding)

  abbrev count : ℕ
  count = div_ceil (8 * bytes) one

  least : (m : ℕ) → m % multiple_of coding ≡ 0 → 8 * bytes ≤ carried_in_a coding m → cells_for coding bytes ≤ m
  least m is enough =
      let k = m / multiple_of coding in
      let same : m ≡ multiple_of coding * k = whole m (multiple_of coding) is in
      let carries : carried_in_a coding m ≡ k * one = ap (carried_in_a coding) same ∙ carried_by coding k in
      let bound = (div_ceil_times (8 * bytes) one (carries_some coding)).1 in
      let less : count * one < (k + 1) * one = grind (arith, bound, enough, carries) in
      let few : count < k + 1 = lt_of_mul-lt-mul_right one less in
      let e : count ≤ k = omega (arith, few) in
      subst (λ (x : ℕ). cells_for coding bytes ≤ x) (sym same) (mul-le-mul_left (multiple_of coding) e)

  pub carries_least : CarriesLeast coding bytes (cells_for coding bytes)
  carries_least = record {
    multiple = mul-mod_right (multiple_of coding) count;
    enough = let bound = (div_ceil_times (8 * bytes) one (carries_some coding)).0 in subst (λ (x : ℕ). 8 * bytes ≤ x) (sym (carried_by coding count)) bound;
    least = least;
  }
