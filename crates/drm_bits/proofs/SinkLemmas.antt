-- What a bit sink has written, and what is left of it.
use Rattle.std.proofs.Common.{◌≡◌, ℕ, ◌-◌, ◌*◌, List, Bool, ◌++◌, length, sym, ap, ◌∙◌, arith, length-drop, ◌<◌, ◌^◌, get_or, take, drop, ◌+◌}
use Rattle.std.proofs.lemmas.List.{length-take-le, take-append-drop, get_or-drop}
use Rattle.drm_bits.specs.Bits.{bits_of}
use Rattle.drm_bits.specs.declared.bit_sink.BitSink.{BitSink}
use Rattle.drm_bits.specs.Sink.{written, unwritten}
use Rattle.drm_bits.proofs.ByteBits.{bits_of-take, bits_of-drop, same_bytes}
use Rattle.drm_bits.proofs.BitsLemmas.{length-bits_of}

pub length-written : (s : BitSink) → length (written s) ≡ s.at
length-written s = length-take-le s.at (bits_of s.bytes.now) (omega (arith, length-bits_of s.bytes.now, s.within))

pub length-unwritten : (s : BitSink) → length (unwritten s) ≡ 8 * length s.bytes.now - s.at
length-unwritten s = omega (arith, length-drop s.at (bits_of s.bytes.now), length-bits_of s.bytes.now)

-- the bytes are the bits that were written, and those behind them
pub written-unwritten : (s : BitSink) → bits_of s.bytes.now ≡ written s ++ unwritten s
written-unwritten s = sym (take-append-drop s.at (bits_of s.bytes.now))

-- what a list lent to a sink has in the end
pub lent-bits : (s : BitSink) (bytes : List ℕ) (front back : List Bool) → bytes ≡ s.bytes.now → written s ≡ front → unwritten s ≡ back → bits_of bytes ≡ front ++ back
lent-bits s bytes front back is is_front is_back =
    ap bits_of is ∙ (written-unwritten s ∙ (ap (λ l. l ++ unwritten s) is_front ∙ ap (λ l. front ++ l) is_back))

small_rest : (bytes : List ℕ) (n : ℕ) → ((i : ℕ) → get_or bytes i 0 < 2 ^ 8) → (i : ℕ) → get_or (drop n bytes) i 0 < 2 ^ 8
small_rest bytes n small i = rw (get_or-drop n bytes i 0) (small (n + i))

-- so many whole bytes were written, and these are the bytes behind them
pub rest-bytes : (s : BitSink) (old : List ℕ) (n : ℕ) → ((i : ℕ) → get_or old i 0 < 2 ^ 8) → length (written s) ≡ 8 * n → unwritten s ≡ drop (8 * n) (bits_of old) → drop n s.bytes.now ≡ drop n old
rest-bytes s old n small size is =
    let at : s.at ≡ 8 * n = sym (length-written s) ∙ size in
    let same : bits_of (drop n s.bytes.now) ≡ bits_of (drop n old) =
    bits_of-drop n s.bytes.now ∙ (ap (λ k. drop k (bits_of s.bytes.now)) (sym at) ∙ (is ∙ sym (bits_of-drop n old))) in
    same_bytes (drop n s.bytes.now) (drop n old) (small_rest s.bytes.now n s.octets) (small_rest old n small) same

-- and these were written
pub front-bytes : (s : BitSink) (n : ℕ) → length (written s) ≡ 8 * n → bits_of (take n s.bytes.now) ≡ written s
front-bytes s n size =
    let at : s.at ≡ 8 * n = sym (length-written s) ∙ size in
    bits_of-take n s.bytes.now ∙ ap (λ k. take k (bits_of s.bytes.now)) (sym at)
