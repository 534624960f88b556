use Rattle.std.proofs.Common.{ℕ, ◌<◌, ◌≤◌, ◌^◌, List, length, sym, ◌∙◌, arith, subst}
use Rattle.std.proofs.Math.ListN.{length-set}
use Rattle.drm_sdc.proofs.EntityLaws.{front-below}
use Rattle.drm_sdc.proofs.Frames.{byte_taken, small_set}
use Rattle.drm_sdc.proofs.unpack.unpack.Goals as goal

pub loop-byte-preserved : goal.loop-byte-preserved
loop-byte-preserved c =
    let bytes : List ℕ = c.loop-byte.bytes in
    let i : ℕ = c.loop-byte.byte-index in
    let n : ℕ = c.take_u8.result in
    let within : i < length bytes = omega (arith, c.loop-byte.invariant.size, c.loop-byte-test.true) in
    let enough : 8 ≤ length c.loop-byte.bits = omega (arith, c.loop-byte.invariant.left, c.loop-byte-test.true, c.requires) in
    let below : n < 2 ^ 8 = subst (λ m. m < 2 ^ 8) (sym c.take_u8.ensures.number) (front-below 8 c.loop-byte.bits enough) in
    record {
      size = length-set bytes i n ∙ c.loop-byte.invariant.size;
      taken = byte_taken bytes c.args.bits.now c.loop-byte.bits c.take_u8.new.self i n within enough c.take_u8.ensures.number c.take_u8.ensures.rest c.loop-byte.invariant.taken;
      left = omega (arith, c.loop-byte.invariant.left, c.take_u8.ensures.remaining);
      octets = small_set bytes i n within below c.loop-byte.invariant.octets;
    }
