use Rattle.std.proofs.Common.{◌≡◌, ℕ, ◌+◌, ◌-◌, ◌*◌, ◌/◌, ◌%◌, ◌^◌, ◌<◌, ◌≤◌, List, ◌∷◌, length, take, drop, false, nat_eq, get_or, bit_and, refl, arith}
use Rattle.std.proofs.lemmas.Grind.{common_steps}
use Rattle.std.proofs.lemmas.List.{drop_more, get_or-take}
use Rattle.std.proofs.lemmas.Nat.Bits.{shr_and_one}
use Rattle.drm_bits.specs.Bits.{bits_of}
use Rattle.drm_bits.proofs.BitsLemmas.{length-bits_of, get_or-bits_of}
use Rattle.drm_bits.proofs.bits.Bits.next_bit.Goals as goal

-- the first of the bits that are left, by its place in its byte
next-bit : (bytes : List ℕ) (at end : ℕ) → end ≤ 8 * length bytes → at < end → drop at (take end (bits_of bytes)) ≡ nat_eq (bit_and (get_or bytes (at / 8) 0 / 2 ^ (7 - at % 8)) 1) 1 ∷ drop (at + 1) (take end (bits_of bytes))
next-bit bytes at end within lt =
    let inside : at < length (take end (bits_of bytes)) = grind (arith, common_steps, length-bits_of bytes) in
    let place : at < 8 * length bytes = omega (arith, within, lt) in
    rw (drop_more (take end (bits_of bytes)) at false inside, get_or-take end (bits_of bytes) at false lt, get_or-bits_of bytes at place, shr_and_one (get_or bytes (at / 8) 0) (7 - at % 8)) refl

pub returns : goal.returns
returns c =
    let nonempty : 0 < length (drop c.self.inside.at (take c.self.inside.end (bits_of c.self.inside.bytes.now))) = rw c.self.view_is c.requires in
    let some : c.self.inside.at < c.self.inside.end = grind (arith, common_steps) in
    rw (← c.self.view_is) (next-bit c.self.inside.bytes.now c.self.inside.at c.self.inside.end c.self.invariant.1 some)
