-- A packet stands the loss of as many fragments as it was cut for.
use Rattle.std.proofs.Common.{ℕ, zero, suc, ◌≡◌, ◌+◌, ◌*◌, ◌<◌, ◌≤◌, Bool, true, inl, inr, arith}
use Rattle.std.specs.Int.{div_ceil}
use Rattle.std.proofs.Math.Nat.{mul-le-mul_left}
use Rattle.std.proofs.lemmas.Bool.{cases_lt}
use Rattle.std.proofs.lemmas.Grind.{div_ceil_times}
use Rattle.dcp_pft.specs.Cutting.{chunk_count, chunk_size, coded_size, most_bytes, coded_shape, plain_shape, chunks_of, shape_of}
use Rattle.dcp_pft.specs.declared.carry.Carry.TheVariants.{Pft}
use Rattle.dcp_pft.specs.Limits.{most_packet, most_losses, least_fragment, most_fragment}
use Rattle.dcp_pft.specs.Loss.{size, is_recoverable}
use Rattle.dcp_pft.proofs.Sizes.{Fits, fits_is, chunks_are, most_is, coded_is}
use Rattle.dcp_pft.proofs.Erased.{erased_few, all_stand, all_kept}

few_places : (m q : ℕ) → 1 ≤ m → m ≤ 5 → (m + 1) * q < 49 + m → q * m ≤ 48
few_places zero q some few below = absurd (omega arith)
few_places (suc zero) q some few below = omega arith
few_places (suc (suc zero)) q some few below = omega arith
few_places (suc (suc (suc zero))) q some few below = omega arith
few_places (suc (suc (suc (suc zero)))) q some few below = omega arith
few_places (suc (suc (suc (suc (suc zero))))) q some few below = omega arith
few_places (suc (suc (suc (suc (suc (suc m)))))) q some few below = absurd (omega arith)

-- the fragments are so many that 48 of each chunk's places for every one are m + 1 times the chunk
count_enough : (c n m b f : ℕ) → 0 < c → b * (m + 1) ≤ 48 * c → c * n ≤ f * b → n * (m + 1) ≤ 48 * f
count_enough c n m b f some most all =
    elim (cases_lt (48 * f) (n * (m + 1))) [
      | inl lt ↦
          let x : c * (48 * f + 1) ≤ c * (n * (m + 1)) = mul-le-mul_left c (omega arith) in
          let y : (m + 1) * (c * n) ≤ (m + 1) * (f * b) = mul-le-mul_left (m + 1) all in
          let z : f * (b * (m + 1)) ≤ f * (48 * c) = mul-le-mul_left f most in
          absurd (omega arith)
      | inr le ↦ le
    ]

rounds_few : (n m f q : ℕ) → 0 < f → n * (m + 1) ≤ 48 * f → q * f < n + f → (m + 1) * q < 49 + m
rounds_few n m f q some enough below =
    elim (cases_lt ((m + 1) * q) (49 + m)) [
      | inl lt ↦ lt
      | inr le ↦
          let x : f * (49 + m) ≤ f * ((m + 1) * q) = mul-le-mul_left f le in
          let b : q * f + 1 ≤ n + f = omega arith in
          let y : (m + 1) * (q * f + 1) ≤ (m + 1) * (n + f) = mul-le-mul_left (m + 1) b in
          absurd (omega arith)
    ]

-- with a code
coded_bound : (len m mtu : ℕ) (kept : ℕ → Bool) → Fits len mtu → 1 ≤ m → m ≤ 5
    → (coded_shape len m mtu).count ≤ size (coded_shape len m mtu).count kept + m → is_recoverable (coded_shape len m mtu) kept ≡ true
unfolding is_recoverable coded_size
coded_bound len m mtu kept fits lost few enough =
    let chunks = chunks_are len fits.some fits.small in
    let most = most_is len m mtu lost few fits.least in
    let is = coded_is len m mtu fits lost few in
    let n : ℕ = chunk_size len + 48 in
    let f : ℕ = (coded_shape len m mtu).count in
    let q : ℕ = div_ceil (chunk_size len + 48) (coded_shape len m mtu).count in
    let rounds = div_ceil_times (chunk_size len + 48) (coded_shape len m mtu).count is.some in
    let most_some : 0 < most_bytes len m mtu = most.some chunks.some in
    let counted = div_ceil_times (coded_size len) (most_bytes len m mtu) most_some in
    let all : chunk_count len * (chunk_size len + 48) ≤ (coded_shape len m mtu).count * most_bytes len m mtu = omega (arith, counted.0) in
    let times : (chunk_size len + 48) * (m + 1) ≤ 48 * (coded_shape len m mtu).count = count_enough (chunk_count len) (chunk_size len + 48) m (most_bytes len m mtu) f chunks.some most.chunk all in
    let q_few : q * m ≤ 48 = few_places m q lost few (rounds_few n m f q is.some times rounds.1) in
    all_stand f kept n (chunks_of (coded_shape len m mtu)) (λ start. omega (arith, erased_few f kept start n q m rounds.0 enough))

-- without one
plain_bound : (len mtu : ℕ) (kept : ℕ → Bool) → (plain_shape len mtu).count ≤ size (plain_shape len mtu).count kept → is_recoverable (plain_shape len mtu) kept ≡ true
unfolding is_recoverable
plain_bound len mtu kept enough = all_kept (plain_shape len mtu).count kept enough

pub loss_bound : (len m mtu : ℕ) (kept : ℕ → Bool) → 1 ≤ len → len ≤ most_packet (Pft m mtu) → m ≤ most_losses → least_fragment ≤ mtu → mtu ≤ most_fragment
    → (shape_of len m mtu).count ≤ size (shape_of len m mtu).count kept + m → is_recoverable (shape_of len m mtu) kept ≡ true
unfolding shape_of
loss_bound len zero mtu kept some small few least most enough = plain_bound len mtu kept (omega arith)
loss_bound len (suc m) mtu kept some small few least most enough = coded_bound len (suc m) mtu kept (fits_is len (suc m) mtu some small least) (omega arith) few enough
