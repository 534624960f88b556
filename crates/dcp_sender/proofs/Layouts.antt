-- Datagrams one behind another, of which all but the last have one length.
use Rattle.std.proofs.Common.{◌≡◌, ◌+◌, ◌-◌, ◌*◌, ◌<◌, ◌≤◌, inl, inr, ℕ, zero, suc, List, ◌++◌, length, take, drop, All, Option, None, Some, refl, sym, subst, ap, ◌∙◌, arith}
use Rattle.std.specs.Prelude.{slice_index_or}
use Rattle.std.specs.List.{concat}
use Rattle.std.specs.Simd.{first_chunks}
use Rattle.std.proofs.Math.Nat.{mul-le-mul_right, suc-mul, zero-mul}
use Rattle.std.proofs.lemmas.Bool.{cases_lt}
use Rattle.std.proofs.lemmas.List.{take_all, take-take, drop-take, drop-drop, length-take, length-drop, nil_from_length, take-append-drop}
use Rattle.dcp_pft.specs.declared.carry.Carry.TheVariants.{Pft}
use Rattle.dcp_pft.specs.declared.shape.Rs.{Rs}
use Rattle.dcp_pft.specs.declared.shape.Shape.{Shape}
use Rattle.dcp_pft.specs.Limits.{most_fragment}
use Rattle.dcp_pft.specs.Cutting.{IsShapeOf}
use Rattle.dcp_pft.specs.declared.carry.Carry.{Carry}
use Rattle.dcp_pft.specs.Carrying.{cut_of, fragment_size, datagram_size}
use Rattle.dcp_pft.specs.Head.{IsFragmentOf}
use Rattle.dcp_pft.specs.Writing.{fragment_at}
use Rattle.dcp_pft.proofs.Shapes.{has_code, has_none}
use Rattle.dcp_sender.specs.Sending.{AreAll}

-- ---- lists

pub length-chunks : (n k : ℕ) (xs : List ℕ) → length (first_chunks n k xs) ≡ k
length-chunks n zero xs = refl
length-chunks n (suc k) xs = ap (λ (j : ℕ). suc j) (length-chunks n k (drop n xs))

pub concat-chunks : (n k : ℕ) (xs : List ℕ) → length xs ≤ k * n → concat (first_chunks n k xs) ≡ xs
concat-chunks n zero xs all = sym (nil_from_length xs (omega (arith, all)))
concat-chunks n (suc k) xs all =
    ap (λ l. take n xs ++ l) (concat-chunks n k (drop n xs) (omega (arith, all, suc-mul k n, length-drop n xs))) ∙ take-append-drop n xs

pub chunk_at : (n k : ℕ) (xs : List ℕ) (i : ℕ) (none : List ℕ) → i < k → slice_index_or (first_chunks n k xs) i none ≡ take n (drop (i * n) xs)
chunk_at n zero xs i none below = absurd (omega (arith, below))
chunk_at n (suc k) xs zero none below = ap (λ p. take n (drop p xs)) (sym (zero-mul n))
chunk_at n (suc k) xs (suc i) none below =
    let place : n + i * n ≡ suc i * n = omega (arith, suc-mul i n) in
    chunk_at n k (drop n xs) i none (omega (arith, below)) ∙ ap (take n) (drop-drop (i * n) n xs ∙ ap (λ p. drop p xs) place)

pub short_chunks : (n m k : ℕ) (xs : List ℕ) → n ≤ m → All (λ l. length l ≤ m) (first_chunks n k xs)
short_chunks n m k xs less i none below =
    let is = chunk_at n k xs i none (omega (arith, below, length-chunks n k xs)) in
    omega (arith, less, ap length is, length-take n (drop (i * n) xs))

-- a part of a list of which only the front is left: it lies in it, or reaches to its end
whole_part : (n p len : ℕ) (xs : List ℕ) → p + n ≤ len → take n (drop p (take len xs)) ≡ take n (drop p xs)
whole_part n p len xs within =
    let rest : len ≡ p + (len - p) = omega (arith, within) in
    ap (λ l. take n (drop p (take l xs))) rest ∙ ap (take n) (drop-take p (len - p) xs) ∙ take-take n (len - p) (drop p xs) (omega (arith, within))

last_part : (n p s len : ℕ) (xs : List ℕ) → len ≡ p + s → s ≤ n → take n (drop p (take len xs)) ≡ take s (drop p xs)
last_part n p s len xs is small =
    ap (λ l. take n (drop p (take l xs))) is ∙ ap (take n) (drop-take p s xs) ∙ take_all n (take s (drop p xs)) (omega (arith, small, length-take s (drop p xs)))

-- ---- fragments

module _ (shape : Shape) (len : ℕ) (is : IsShapeOf len shape) where
  -- all but the last are as long as the first one
  pub as_long : (i : ℕ) → i + 1 < shape.count → fragment_size shape len i ≡ fragment_size shape len 0
  as_long i below = by shape.rs refl
    where
      by : (rs : Option Rs) → shape.rs ≡ rs → fragment_size (record { count = shape.count; piece = shape.piece; rs = rs }) len i ≡ fragment_size (record { count = shape.count; piece = shape.piece; rs = rs }) len 0
      by None none =
          let last = (has_none len shape is none).last in
          let more : (i + 1) * shape.piece ≤ (shape.count - 1) * shape.piece = mul-le-mul_right shape.piece (omega (arith, below)) in
          omega (arith, last, more, suc-mul i shape.piece)
      by (Some rs) some = refl

  pub no_longer : (i : ℕ) → fragment_size shape len i ≤ fragment_size shape len 0
  no_longer i = by shape.rs
    where
      by : (rs : Option Rs) → fragment_size (record { count = shape.count; piece = shape.piece; rs = rs }) len i ≤ fragment_size (record { count = shape.count; piece = shape.piece; rs = rs }) len 0
      by None = omega arith
      by (Some rs) = omega arith

  -- the first one fits a datagram, and is its header and a piece
  pub first_fits : (fragment_size shape len 0 ≤ most_fragment) × (fragment_size shape len 0 ≤ shape.piece + 16)
  first_fits = by shape.rs refl
    where
      by : (rs : Option Rs) → shape.rs ≡ rs → (fragment_size (record { count = shape.count; piece = shape.piece; rs = rs }) len 0 ≤ most_fragment) × (fragment_size (record { count = shape.count; piece = shape.piece; rs = rs }) len 0 ≤ shape.piece + 16)
      by None none = let fits = has_none len shape is none in (omega (arith, fits.piece), omega arith)
      by (Some rs) some = let fits = has_code len shape rs is some in (omega (arith, fits.piece), omega arith)

-- Fragments that stand one after another, and nothing behind the last one.
module _ (shape : Shape) (packet room : List ℕ) (bytes : ℕ) (is : IsShapeOf (length packet) shape) (some : 1 ≤ shape.count)
    (end : bytes ≡ (shape.count - 1) * fragment_size shape (length packet) 0 + fragment_size shape (length packet) (shape.count - 1)) where
  abbrev longest : ℕ
  longest = fragment_size shape (length packet) 0

  -- they have no more bytes than as many of the longest
  pub not_more : bytes ≤ shape.count * longest
  not_more =
      let one : (shape.count - 1) + 1 ≡ shape.count = omega (arith, some) in
      omega (arith, end, no_longer shape (length packet) is (shape.count - 1), ap (λ k. k * longest) one, suc-mul (shape.count - 1) longest)

  at_place : (i : ℕ) → i < shape.count → take longest (drop (i * longest) (take bytes room)) ≡ fragment_at shape (length packet) i room
  at_place i below =
      elim (cases_lt (i + 1) shape.count) [
        | inl more ↦
            let fits : (i + 1) * longest ≤ (shape.count - 1) * longest = mul-le-mul_right longest (omega (arith, more)) in
            whole_part longest (i * longest) bytes room (omega (arith, fits, end, suc-mul i longest))
            ∙ ap (λ (k : ℕ). take k (drop (i * longest) room)) (sym (as_long shape (length packet) is i more))
        | inr last ↦
            let i_is : shape.count - 1 ≡ i = omega (arith, last, below) in
            let to_end : bytes ≡ i * longest + fragment_size shape (length packet) i =
            end ∙ ap (λ (k : ℕ). k * longest + fragment_size shape (length packet) k) i_is in
            last_part longest (i * longest) (fragment_size shape (length packet) i) bytes room to_end (no_longer shape (length packet) is i)
      ]

  pub stand_so : (seq : ℕ) → ((i : ℕ) → i < shape.count → IsFragmentOf shape seq packet i (fragment_at shape (length packet) i room))
      → AreAll (Some shape) seq packet (first_chunks longest shape.count (take bytes room))
  stand_so seq each =
      let many = length-chunks longest shape.count (take bytes room) in (
        (λ i none below.
            let within : i < shape.count = omega (arith, below, many) in
            subst (IsFragmentOf shape seq packet i) (sym (chunk_at longest shape.count (take bytes room) i none within ∙ at_place i within)) (each i within)),
        many,
      )

-- the first one has the length that is given for a cut
pub longest_is : (shape : Shape) (len n : ℕ) → IsShapeOf len shape → ((carry : Carry) → Some shape ≡ cut_of carry len → n ≡ datagram_size carry len 0) → n ≡ fragment_size shape len 0
longest_is shape len n is given = given (Pft is.m is.mtu) (ap Some is.is) ∙ ap (λ (s : Shape). fragment_size s len 0) (sym is.is)
