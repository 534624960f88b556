-- What a front of bytes says of the bytes with more behind them, and of fewer of them.
use Rattle.std.proofs.Common.{◌≡◌, ◌≢◌, ℕ, ◌+◌, ◌%◌, ◌<◌, ◌≤◌, List, [], ◌∷◌, ◌++◌, length, take, min, sym, subst, ap, ap₂, ◌∙◌, refl, inl, inr, arith}
use Rattle.std.specs.Int.{w32, from_be_bytes}
use Rattle.std.proofs.lemmas.Grind.{common_steps}
use Rattle.std.proofs.lemmas.List.{take-take, take_at, length-take, length-take-le}
use Rattle.dcp_af.specs.Faults as af_head
use Rattle.dcp_pft.specs.Faults.{head_size, checked_size, described, marks}
use Rattle.capture_reader.specs.declared.fault.CaptureField.{CaptureField}
use Rattle.capture_reader.specs.declared.fault.CaptureField.TheVariants.{Sync, HeadCrc, TooLarge, HeadCut, BodyCut}
use Rattle.capture_reader.specs.Front.{Front, Packet, Wrong, Cut, AfFront, PftFront, OtherFront, BytesBegin, Af, Pft, Other, IsWhole, fragment_size}
use Rattle.capture_reader.specs.Laws.{OneFront}
use Rattle.capture_reader.proofs.FrontParts.{range_part, size_part, same_head_in, checked_size_small, checked_size_least, check_part, check_whole, IsSameHead}

pub one_front : OneFront
one_front bytes f g a b = grind (arith, common_steps)

two_part : (bytes : List ℕ) (n : ℕ) → 2 ≤ n → take 2 (take n bytes) ≡ take 2 bytes
two_part bytes n low = take-take 2 n bytes low

af_part : (bytes : List ℕ) (n : ℕ) → 6 ≤ n → af_head.described (take n bytes) ≡ af_head.described bytes
af_part bytes n low = ap (λ l. from_be_bytes w32 l + 12) (range_part bytes n 2 6 (omega (arith, low)) low)

twelve : (bytes : List ℕ) → 14 ≤ head_size bytes
twelve bytes = omega (arith, checked_size_least bytes)

-- a header that is whole in the front
same_in : (bytes : List ℕ) (n : ℕ) → head_size (take n bytes) ≤ length (take n bytes) → IsSameHead (take n bytes) bytes
same_in bytes n whole =
    let low : 12 ≤ n = omega (arith, whole, length-take n bytes, twelve (take n bytes)) in
    same_head_in bytes n low (omega (arith, whole, length-take n bytes, size_part bytes n low))

-- a packet at the front of some of the bytes is one of all of them
pub packet_in_front : (bytes : List ℕ) (n size : ℕ) → BytesBegin (take n bytes) (Packet size) → BytesBegin bytes (Packet size)
packet_in_front bytes n size (Af sync is) =
    let long : length (take n bytes) ≡ min n (length bytes) = length-take n bytes in
    Af (sym (two_part bytes n (omega (arith, is.0, long))) ∙ sync) (omega (arith, is.0, long), is.1 ∙ af_part bytes n (omega (arith, is.0, long)), is.2, omega (arith, is.3, long))
packet_in_front bytes n size (Pft sync is) =
    let long : length (take n bytes) ≡ min n (length bytes) = length-take n bytes in
    let same = same_in bytes n is.0 in
    let least = twelve (take n bytes) in
    Pft (sym (two_part bytes n (omega (arith, is.0, long, least))) ∙ sync) (
      omega (arith, is.0, long, same.checked_size),
      check_part (take n bytes) bytes same is.1,
      is.2 ∙ ap₂ (λ a b. a + 2 + b) same.checked_size same.described,
      omega (arith, is.3, long),
    )
packet_in_front bytes n size (Other no_af no_pft is) = absurd is

-- and what is wrong there stays wrong
pub wrong_in_front : (bytes : List ℕ) (n : ℕ) (field : CaptureField) → BytesBegin (take n bytes) (Wrong field) → BytesBegin bytes (Wrong field)
wrong_in_front bytes n Sync (Other no_af no_pft is) =
    let long : length (take n bytes) ≡ min n (length bytes) = length-take n bytes in
    let same : take 2 (take n bytes) ≡ take 2 bytes = two_part bytes n (omega (arith, is, long)) in
    Other (λ e. no_af (same ∙ e)) (λ e. no_pft (same ∙ e)) (omega (arith, is, long))
wrong_in_front bytes n HeadCrc (Pft sync is) =
    let long : length (take n bytes) ≡ min n (length bytes) = length-take n bytes in
    let same = same_in bytes n is.0 in
    let least = twelve (take n bytes) in
    Pft (sym (two_part bytes n (omega (arith, is.0, long, least))) ∙ sync) (omega (arith, is.0, long, same.checked_size), λ check. is.1 (check_whole (take n bytes) bytes same check))
wrong_in_front bytes n TooLarge (Af sync is) =
    let long : length (take n bytes) ≡ min n (length bytes) = length-take n bytes in
    Af (sym (two_part bytes n (omega (arith, is.0, long))) ∙ sync) (omega (arith, is.0, long), omega (arith, is.1, af_part bytes n (omega (arith, is.0, long))))
wrong_in_front bytes n Sync (Af sync is) = absurd is
wrong_in_front bytes n Sync (Pft sync is) = absurd is
wrong_in_front bytes n HeadCrc (Af sync is) = absurd is
wrong_in_front bytes n HeadCrc (Other no_af no_pft is) = absurd is
wrong_in_front bytes n TooLarge (Pft sync is) = absurd is
wrong_in_front bytes n TooLarge (Other no_af no_pft is) = absurd is
wrong_in_front bytes n HeadCut (Af sync is) = absurd is
wrong_in_front bytes n HeadCut (Pft sync is) = absurd is
wrong_in_front bytes n HeadCut (Other no_af no_pft is) = absurd is
wrong_in_front bytes n BodyCut (Af sync is) = absurd is
wrong_in_front bytes n BodyCut (Pft sync is) = absurd is
wrong_in_front bytes n BodyCut (Other no_af no_pft is) = absurd is

-- a packet needs no byte behind it
pub packet_alone : (bytes : List ℕ) (n size : ℕ) → size ≤ n → BytesBegin bytes (Packet size) → BytesBegin (take n bytes) (Packet size)
packet_alone bytes n size within (Af sync is) =
    let long : length (take n bytes) ≡ min n (length bytes) = length-take n bytes in
    let low : 12 ≤ n = omega (arith, within, is.1) in
    Af (two_part bytes n (omega (arith, low)) ∙ sync) (omega (arith, low, long, is.0), is.1 ∙ sym (af_part bytes n (omega (arith, low))), is.2, omega (arith, within, long, is.3))
packet_alone bytes n size within (Pft sync is) =
    let long : length (take n bytes) ≡ min n (length bytes) = length-take n bytes in
    let whole : head_size bytes ≤ n = omega (arith, within, is.2) in
    let low : 12 ≤ n = omega (arith, whole, twelve bytes) in
    let same = same_head_in bytes n low whole in
    Pft (two_part bytes n (omega (arith, low)) ∙ sync) (
      omega (arith, long, whole, is.0, same.checked_size),
      check_whole (take n bytes) bytes same is.1,
      is.2 ∙ sym (ap₂ (λ a b. a + 2 + b) same.checked_size same.described),
      omega (arith, within, long, is.3),
    )
packet_alone bytes n size within (Other no_af no_pft is) = absurd is

described_small : (bytes : List ℕ) → described bytes < 16384
described_small bytes = omega arith

-- how long packets are
pub packet_size : (bytes : List ℕ) (size : ℕ) → BytesBegin bytes (Packet size) → (12 ≤ size) × (size ≤ 65536) × (size ≤ length bytes)
packet_size bytes size (Af sync is) = (omega (arith, is.1), is.2, is.3)
packet_size bytes size (Pft sync is) =
    (omega (arith, is.2, twelve bytes), omega (arith, is.2, checked_size_small bytes, described_small bytes), is.3)
packet_size bytes size (Other no_af no_pft is) = absurd is

half : (bytes : List ℕ) → OtherFront bytes (Cut HeadCut) → length bytes < 65536
half bytes (inl none) = omega (arith, ap length none)
half bytes (inr (inl one)) = omega (arith, ap length one)
half bytes (inr (inr one)) = omega (arith, ap length one)

-- and what is cut
pub cut_size : (bytes : List ℕ) (field : CaptureField) → BytesBegin bytes (Cut field) → length bytes < 65536
cut_size bytes Sync (Other no_af no_pft is) = omega (arith, is.0)
cut_size bytes HeadCut (Af sync is) = omega (arith, is)
cut_size bytes HeadCut (Pft sync is) = omega (arith, is, checked_size_small bytes)
cut_size bytes HeadCut (Other no_af no_pft is) = half bytes is
cut_size bytes BodyCut (Af sync is) = omega (arith, is.1, is.2)
cut_size bytes BodyCut (Pft sync is) = omega (arith, is.2, checked_size_small bytes, described_small bytes)
cut_size bytes Sync (Af sync is) = absurd is
cut_size bytes Sync (Pft sync is) = absurd is
cut_size bytes BodyCut (Other no_af no_pft is) = absurd is
cut_size bytes HeadCrc (Af sync is) = absurd is
cut_size bytes HeadCrc (Pft sync is) = absurd is
cut_size bytes HeadCrc (Other no_af no_pft is) = absurd is
cut_size bytes TooLarge (Af sync is) = absurd is
cut_size bytes TooLarge (Pft sync is) = absurd is
cut_size bytes TooLarge (Other no_af no_pft is) = absurd is
