-- The sizes of what a packet is cut into.
use Rattle.std.proofs.Common.{ℕ, zero, suc, ◌≡◌, ◌+◌, ◌-◌, ◌*◌, ◌/◌, ◌%◌, ◌<◌, ◌≤◌, min, ◌⊎◌, inl, inr, Bool, true, false, cond, ltb, refl, ap, arith}
use Rattle.std.specs.Int.{div_ceil}
use Rattle.std.proofs.Math.Nat.{mul-le-mul_left, div-mul-le_self, le-div_iff_mul-le, div-eq_of_lt-le}
use Rattle.std.proofs.lemmas.Bool.{cases_lt, ltb-false}
use Rattle.std.proofs.lemmas.Grind.{div_ceil_times}
use Rattle.dcp_pft.specs.declared.carry.Carry.TheVariants.{Pft}
use Rattle.dcp_pft.specs.Limits.{longest_packet, longest_in_short, long_fragment, least_fragment, most_packet, most_carried}
use Rattle.dcp_pft.specs.Cutting.{chunk_count, chunk_size, coded_size, most_bytes, coded_shape, plain_shape, shape_of}

-- the packet isn't longer than its fragments allow
pub record Fits (len mtu : ℕ) : Type 0 where
  pub some : 1 ≤ len
  pub small : len ≤ longest_packet
  pub least : least_fragment ≤ mtu
  pub short : (len ≤ longest_in_short) ⊎ (long_fragment ≤ mtu)

fits_when : (b : Bool) (len mtu : ℕ) → ltb mtu long_fragment ≡ b → 1 ≤ len → len ≤ cond b longest_in_short longest_packet → least_fragment ≤ mtu → Fits len mtu
fits_when true len mtu is some small least = record { some = some; small = omega arith; least = least; short = inl small }
fits_when false len mtu is some small least =
    record { some = some; small = small; least = least; short = inr (ltb-false mtu long_fragment is) }

pub fits_is : (len m mtu : ℕ) → 1 ≤ len → len ≤ most_packet (Pft m mtu) → least_fragment ≤ mtu → Fits len mtu
fits_is len m mtu some small least = fits_when (ltb mtu long_fragment) len mtu refl some small least

-- a quotient, rounded up
pub up_at_most : (a b q : ℕ) → 0 < b → a ≤ q * b → div_ceil a b ≤ q
up_at_most a b q p all =
    elim (cases_lt q (a / b + min 1 (a % b))) [
      | inl lt ↦
          let t = (div_ceil_times a b p).1 in
          let s : b * (q + 1) ≤ b * (a / b + min 1 (a % b)) = mul-le-mul_left b (omega arith) in
          absurd (omega arith)
      | inr le ↦ le
    ]

pub up_some : (a b : ℕ) → 0 < a → 0 < b → 0 < div_ceil a b
up_some a b some p =
    elim (cases_lt 0 (a / b + min 1 (a % b))) [
      | inl lt ↦ lt
      | inr le ↦
          let t = (div_ceil_times a b p).0 in
          let s : b * (a / b + min 1 (a % b)) ≤ b * 0 = mul-le-mul_left b le in
          absurd (omega arith)
    ]

-- the chunks of a packet
pub record Chunks (len : ℕ) : Type 0 where
  pub some : 0 < chunk_count len
  pub few : chunk_count len ≤ 159
  pub size_some : 0 < chunk_size len
  pub size_few : chunk_size len ≤ 207
  pub holds : len ≤ chunk_count len * chunk_size len
  pub little : chunk_count len * chunk_size len < len + chunk_count len
  pub fill : chunk_count len * chunk_size len < len + chunk_size len

fill_is : (len c k : ℕ) → 0 < c → c ≤ 159 → 0 < k → c * 207 < len + 207 → len ≤ c * k → c * k < len + c → c * k < len + k
fill_is len c k some few size_some full holds little =
    elim (cases_lt k c) [
      | inl lt ↦
          let p : c * k ≤ c * 158 = mul-le-mul_left c (omega arith) in
          let few_chunks : c * 49 < 207 = omega arith in
          let q : c * k ≤ c * 3 = mul-le-mul_left c (omega arith) in
          let one : c * 204 < 207 = omega arith in
          omega arith
      | inr le ↦ omega arith
    ]

-- whatever its length
pub short_chunks : (len : ℕ) → 1 ≤ len → chunk_size len ≤ 207
unfolding chunk_count chunk_size
short_chunks len some =
    let counted = div_ceil_times len 207 (omega arith) in
    let c_some : 0 < div_ceil len 207 = up_some len 207 some (omega arith) in
    up_at_most len (div_ceil len 207) 207 c_some (omega arith)

pub chunks_are : (len : ℕ) → 1 ≤ len → len ≤ longest_packet → Chunks len
unfolding chunk_count chunk_size
chunks_are len some small =
    let c : ℕ = div_ceil len 207 in
    let counted = div_ceil_times len 207 (omega arith) in
    let c_some : 0 < div_ceil len 207 = up_some len 207 some (omega arith) in
    let c_few : div_ceil len 207 ≤ 159 = up_at_most len 207 159 (omega arith) (omega arith) in
    let sized = div_ceil_times len (div_ceil len 207) c_some in
    let k_some : 0 < div_ceil len (div_ceil len 207) = up_some len (div_ceil len 207) some c_some in
    let k_few : div_ceil len (div_ceil len 207) ≤ 207 = up_at_most len (div_ceil len 207) 207 c_some (omega arith) in
    let holds : len ≤ div_ceil len 207 * div_ceil len (div_ceil len 207) = omega (arith, sized.0) in
    let little : div_ceil len 207 * div_ceil len (div_ceil len 207) < len + div_ceil len 207 = omega (arith, sized.1) in
    record {
      some = c_some;
      few = c_few;
      size_some = k_some;
      size_few = k_few;
      holds = holds;
      little = little;
      fill = fill_is len (div_ceil len 207) (div_ceil len (div_ceil len 207)) c_some c_few k_some counted.1 holds little;
    }

-- the bytes of all chunks with their parity
pub coded_small : (len : ℕ) → 1 ≤ len → len ≤ longest_packet → coded_size len ≤ 40558
unfolding coded_size
coded_small len some small = let are = chunks_are len some small in omega (arith, are.little, are.few)

-- of any length
chunks_some : (len : ℕ) → 1 ≤ len → 0 < chunk_count len
unfolding chunk_count
chunks_some len some = up_some len 207 some (omega arith)

pub coded_some : (len : ℕ) → 1 ≤ len → 0 < coded_size len
unfolding coded_size
coded_some len some =
    let p : (chunk_size len + 48) * 1 ≤ (chunk_size len + 48) * chunk_count len = mul-le-mul_left (chunk_size len + 48) (chunks_some len some) in
    omega arith

-- the chunks, and all their bytes, beside what a fragment of so many bytes carries at most
pub record Room (len mtu : ℕ) : Type 0 where
  pub chunks : chunk_count len ≤ mtu - 16
  pub size : coded_size len ≤ 169 * (mtu - 16)
  pub whole : len ≤ 169 * (mtu - 14)

few_chunks : (len : ℕ) → len ≤ longest_in_short → chunk_count len ≤ 40
unfolding chunk_count
few_chunks len short = up_at_most len 207 40 (omega arith) (omega arith)

pub room_is : (len mtu : ℕ) → Fits len mtu → Room len mtu
unfolding coded_size
room_is len mtu fits =
    let are = chunks_are len fits.some fits.small in
    let least = fits.least in
    elim fits.short [
      | inl short ↦
          let few = few_chunks len short in
          record { chunks = omega arith; size = omega (arith, are.little); whole = omega arith }
      | inr long ↦
          record { chunks = omega (arith, are.few); size = omega (arith, coded_small len fits.some fits.small); whole = omega (arith, fits.small) }
    ]

-- the most bytes of a fragment
pub record Most (len m mtu : ℕ) : Type 0 where
  pub each : chunk_count len * 8 ≤ 48 * chunk_count len / (m + 1)
  pub chunk : most_bytes len m mtu * (m + 1) ≤ 48 * chunk_count len
  pub datagram : most_bytes len m mtu + 16 ≤ mtu
  pub some : 0 < chunk_count len → 0 < most_bytes len m mtu

pub most_is : (len m mtu : ℕ) → 1 ≤ m → m ≤ 5 → 128 ≤ mtu → Most len m mtu
unfolding most_bytes
most_is len m mtu kept few least =
    let c : ℕ = chunk_count len in
    let all : 48 * chunk_count len / (m + 1) * (m + 1) ≤ 48 * chunk_count len = div-mul-le_self (48 * chunk_count len) (m + 1) in
    let p : 0 < m + 1 = omega arith in
    let least_each : chunk_count len * 8 * (m + 1) ≤ chunk_count len * 8 * 6 = mul-le-mul_left (chunk_count len * 8) (omega arith) in
    let below : min (48 * chunk_count len / (m + 1)) (mtu - 16) ≤ 48 * chunk_count len / (m + 1) = omega arith in
    let times : (m + 1) * min (48 * chunk_count len / (m + 1)) (mtu - 16) ≤ (m + 1) * (48 * chunk_count len / (m + 1)) = mul-le-mul_left (m + 1) below in
    let each : chunk_count len * 8 ≤ 48 * chunk_count len / (m + 1) = (le-div_iff_mul-le p).1 (omega arith) in
    record {
      each = each;
      chunk = omega arith;
      datagram = omega arith;
      some = λ chunk. omega arith;
    }

-- the fragments of a packet with a code
pub record Coded (len m mtu : ℕ) : Type 0 where
  pub some : 0 < (coded_shape len m mtu).count
  pub few : (coded_shape len m mtu).count ≤ 169
  pub short : (coded_shape len m mtu).count ≤ chunk_size len + 48
  pub holds : coded_size len ≤ (coded_shape len m mtu).count * (coded_shape len m mtu).piece
  pub little : (coded_shape len m mtu).count * (coded_shape len m mtu).piece < coded_size len + (coded_shape len m mtu).count
  pub piece : (coded_shape len m mtu).piece + 16 ≤ mtu
  pub byte : 0 < (coded_shape len m mtu).piece
  pub chunks : (coded_shape len m mtu).count * (coded_shape len m mtu).piece / (chunk_size len + 48) ≡ chunk_count len

-- a fragment has at least eight bytes for each chunk, or as many as it is allowed
most_least : (len m mtu : ℕ) → Most len m mtu → (chunk_count len * 8 ≤ most_bytes len m mtu) ⊎ (mtu - 16 ≤ most_bytes len m mtu)
unfolding most_bytes
most_least len m mtu is =
    elim (cases_lt (48 * chunk_count len / (m + 1)) (mtu - 16)) [
      | inl lt ↦ inl (omega (arith, is.each))
      | inr le ↦ inr (omega arith)
    ]

count_few : (size c k most mtu : ℕ) → size ≡ c * (k + 48) → size ≤ 169 * (mtu - 16) → k ≤ 207 → 0 < most → (c * 8 ≤ most) ⊎ (mtu - 16 ≤ most) → div_ceil size most ≤ 169
count_few size c k most mtu is small k_few some (inl each) =
    let p : c * (k + 48) ≤ c * 255 = mul-le-mul_left c (omega arith) in
    up_at_most size most 169 some (omega arith)
count_few size c k most mtu is small k_few some (inr large) = up_at_most size most 169 some (omega arith)

count_short : (size c k most : ℕ) → size ≡ c * (k + 48) → c ≤ most → 0 < most → div_ceil size most ≤ k + 48
count_short size c k most is least some =
    let p : (k + 48) * c ≤ (k + 48) * most = mul-le-mul_left (k + 48) least in
    up_at_most size most (k + 48) some (omega arith)

-- the chunks of what these fragments hold
chunks_again : (c k size n f s : ℕ) → n ≡ k + 48 → size ≡ c * n → size ≤ f * s → f * s < size + f → f ≤ n → f * s / n ≡ c
chunks_again c k size n f s is_n is holds little short =
    div-eq_of_lt-le n (omega arith) (omega arith)

pub coded_is : (len m mtu : ℕ) → Fits len mtu → 1 ≤ m → m ≤ 5 → Coded len m mtu
unfolding coded_size
coded_is len m mtu fits kept few =
    let chunks = chunks_are len fits.some fits.small in
    let room = room_is len mtu fits in
    let is = most_is len m mtu kept few fits.least in
    let size_some = coded_some len fits.some in
    let large = most_least len m mtu is in
    let enough : chunk_count len ≤ most_bytes len m mtu =
    elim large [ inl each ↦ omega arith | inr all ↦ omega (arith, room.chunks) ] in
    let most_some : 0 < most_bytes len m mtu = omega (arith, chunks.some) in
    let f : ℕ = div_ceil (coded_size len) (most_bytes len m mtu) in
    let counted = div_ceil_times (coded_size len) (most_bytes len m mtu) most_some in
    let f_some : 0 < div_ceil (coded_size len) (most_bytes len m mtu) = up_some (coded_size len) (most_bytes len m mtu) size_some most_some in
    let f_few = count_few (coded_size len) (chunk_count len) (chunk_size len) (most_bytes len m mtu) mtu refl room.size chunks.size_few most_some large in
    let f_short = count_short (coded_size len) (chunk_count len) (chunk_size len) (most_bytes len m mtu) refl enough most_some in
    let cut = div_ceil_times (coded_size len) f f_some in
    let holds : coded_size len ≤ f * div_ceil (coded_size len) f = omega (arith, cut.0) in
    let little : f * div_ceil (coded_size len) f < coded_size len + f = omega (arith, cut.1) in
    let s_few : div_ceil (coded_size len) f ≤ most_bytes len m mtu = up_at_most (coded_size len) f (most_bytes len m mtu) f_some (omega (arith, counted.0)) in
    record {
      some = f_some;
      few = f_few;
      short = f_short;
      holds = holds;
      little = little;
      piece = omega (arith, is.datagram, s_few);
      byte = up_some (coded_size len) f size_some f_some;
      chunks = chunks_again (chunk_count len) (chunk_size len) (coded_size len) (chunk_size len + 48) f (div_ceil (coded_size len) f) refl refl holds little f_short;
    }

-- the fragments of a packet without a code
pub record Plain (len mtu : ℕ) : Type 0 where
  pub some : 0 < (plain_shape len mtu).count
  pub few : (plain_shape len mtu).count ≤ 169
  pub holds : len ≤ (plain_shape len mtu).count * (plain_shape len mtu).piece
  pub little : (plain_shape len mtu).count * (plain_shape len mtu).piece < len + (plain_shape len mtu).count
  pub piece : (plain_shape len mtu).piece + 14 ≤ mtu
  pub byte : 0 < (plain_shape len mtu).piece
  pub last : ((plain_shape len mtu).count - 1) * (plain_shape len mtu).piece < len

-- the fragments before the last one carry less than the packet
last_is : (len f s most : ℕ) → 0 < f → f * most < len + most → s ≤ most → (f - 1) * s < len
last_is len zero s most some below small = absurd (omega arith)
last_is len (suc n) s most some below small =
    let p : n * s ≤ n * most = mul-le-mul_left n small in
    let e : (suc n - 1) * s ≡ n * s = ap (λ (k : ℕ). k * s) (omega arith) in
    omega (arith, below, p, e)

pub plain_is : (len mtu : ℕ) → Fits len mtu → Plain len mtu
plain_is len mtu fits =
    let least = fits.least in
    let most_some : 0 < mtu - 14 = omega arith in
    let f : ℕ = div_ceil len (mtu - 14) in
    let counted = div_ceil_times len (mtu - 14) most_some in
    let f_some : 0 < div_ceil len (mtu - 14) = up_some len (mtu - 14) fits.some most_some in
    let cut = div_ceil_times len f f_some in
    let s_few : div_ceil len f ≤ mtu - 14 = up_at_most len f (mtu - 14) f_some (omega (arith, counted.0)) in
    record {
      some = f_some;
      few = up_at_most len (mtu - 14) 169 most_some (room_is len mtu fits).whole;
      holds = omega (arith, cut.0);
      little = omega (arith, cut.1);
      piece = omega (arith, s_few);
      byte = up_some len f fits.some f_some;
      last = last_is len f (div_ceil len f) (mtu - 14) f_some (omega (arith, counted.1)) s_few;
    }

-- what the fragments carry is no more than a receiver takes
pub coded_bytes : (len m mtu : ℕ) → 1 ≤ len → len ≤ longest_packet → Coded len m mtu → (coded_shape len m mtu).count * (coded_shape len m mtu).piece ≤ most_carried
coded_bytes len m mtu some small is = omega (arith, is.few, is.little, coded_small len some small)

pub plain_bytes : (len mtu : ℕ) → len ≤ longest_packet → Plain len mtu → (plain_shape len mtu).count * (plain_shape len mtu).piece ≤ most_carried
plain_bytes len mtu small is = omega (arith, is.few, is.little)

-- each of the two ways is the shape where it is meant
pub no_code : (len m mtu : ℕ) → m ≡ 0 → plain_shape len mtu ≡ shape_of len m mtu
unfolding shape_of
no_code len zero mtu is = refl
no_code len (suc m) mtu is = absurd (omega arith)

pub with_code : (len m mtu : ℕ) → 1 ≤ m → coded_shape len m mtu ≡ shape_of len m mtu
unfolding shape_of
with_code len zero mtu some = absurd (omega arith)
with_code len (suc m) mtu some = refl

-- a packet of any length has a fragment at least
pub some_fragments : (len m mtu : ℕ) → 1 ≤ len → m ≤ 5 → 128 ≤ mtu → 0 < (shape_of len m mtu).count
unfolding shape_of
some_fragments len zero mtu some few least = up_some len (mtu - 14) some (omega arith)
some_fragments len (suc m) mtu some few least =
    up_some (coded_size len) (most_bytes len (suc m) mtu) (coded_some len some) ((most_is len (suc m) mtu (omega arith) few least).some (chunks_some len some))
