use Rattle.std.proofs.Common.{ℕ, List, Bool, ◌≡◌, ◌+◌, ◌*◌, ◌++◌, take, drop, sym, subst, ◌∙◌, ap, arith}
use Rattle.std.proofs.Math.Seq.{take-add}
use Rattle.drm_bits.specs.Bits.{digits, bits_of}
use Rattle.drm_bits.specs.Crc.{complement, IsCheck, crc16_polynomial}
use Rattle.drm_bits.proofs.Checks.{bits_of-append, crc16_of_nothing}
use Rattle.drm_bits.proofs.EightBytes.{register_of_nothing}
use Rattle.drm_bits.proofs.crc.register_after.Goals as goal

pub loop-i-init : goal.loop-i-init
loop-i-init c = record { fits = omega arith; check = subst (IsCheck crc16_polynomial _) (sym register_of_nothing) crc16_of_nothing }

pub loop-i-preserved : goal.loop-i-preserved
loop-i-preserved c =
    let bytes : List ℕ = c.args.bytes.now in
    let n : ℕ = 8 * c.loop-i.i in
    let P : List Bool → Type 0 = λ l. IsCheck crc16_polynomial l (complement (digits 16 c.eight_bytes_after-register.result)) in
    let longer : take (8 * (c.loop-i.i + 1)) bytes ≡ take n bytes ++ take 8 (drop n bytes) =
    ap (λ (m : ℕ). take m bytes) (let e : 8 * (c.loop-i.i + 1) ≡ n + 8 = omega arith in e) ∙ take-add n 8 bytes in
    record {
      fits = omega (arith, c.eight_bytes_after-register.type_inv);
      check = subst P (sym (ap bits_of longer ∙ bits_of-append (take n bytes) (take 8 (drop n bytes)))) (c.eight_bytes_after-register.ensures _ c.loop-i.invariant.check);
    }

pub returns : goal.returns
returns c =
    let Q : ℕ → Type 0 = λ n. IsCheck crc16_polynomial (bits_of (take (8 * n) c.args.bytes.now)) (complement (digits 16 c.loop-i.register)) in
    let all : c.loop-i.i ≡ c.args.eights = omega (arith, c.loop-i-test.false, c.loop-i.auto.i-end) in
    subst Q all c.loop-i.invariant.check
