-- The bytes of a block, cut out of the bytes that it was written into.
use Rattle.std.proofs.Common.{◌≡◌, ◌<◌, ◌+◌, ◌-◌, ◌*◌, ◌^◌, ℕ, List, length, take, drop, Bool, Option, Some, option_map, sym, ap, subst, ◌∙◌, arith}
use Rattle.std.proofs.lemmas.List.{length-take-le, drop-take, take-take}
use Rattle.drm_bits.specs.Bits.{bits_of, IsBytes}
use Rattle.drm_bits.specs.Crc.{zeros}
use Rattle.drm_bits.proofs.ByteBits.{bits_of-take}
use Rattle.drm_sdc.specs.declared.block.Block.{Block}
use Rattle.drm_sdc.specs.Block.{IsBlock}
use Rattle.drm_schedule.specs.declared.config.Config.{Config}
use Rattle.drm_schedule.specs.declared.plan.Plan.{Plan}
use Rattle.drm_timeline.specs.Blocks.{block_of}
use Rattle.drm_server.specs.Frames.{IsBlockAt}
use Rattle.drm_server.proofs.ByteLemmas.{bytes_take}

pub block_bits : (n : ℕ) (o : Option Config) (c : Config) → Some n ≡ option_map (λ (x : Config). 8 * x.room + 20) o → o ≡ Some c → n ≡ 8 * c.room + 20
block_bits n o c is same = some_is (is ∙ ap (λ (x : Option Config). option_map (λ (y : Config). 8 * y.room + 20) x) same)
  where
    some_is : Some n ≡ Some (8 * c.room + 20) → n ≡ 8 * c.room + 20
    some_is eq = cc

-- four bits are behind the block
pub padded : (bytes : List ℕ) (room n bits : ℕ) → n ≡ room → bits ≡ 8 * room + 20 → take 4 (drop bits (bits_of bytes)) ≡ zeros 4 → drop bits (bits_of (take (n + 3) bytes)) ≡ zeros 4
padded bytes room n bits is count last =
    ap (drop bits) (bits_of-take (n + 3) bytes ∙ ap (λ k. take k (bits_of bytes)) (omega (arith, is, count))) ∙ (drop-take bits 4 (bits_of bytes) ∙ last)

pub no_more : (bytes : List ℕ) (room n bits : ℕ) → length bytes ≡ 1026 → room < 2 ^ 10 → n ≡ room → bits ≡ 8 * room + 20 → 8 * length (take (n + 3) bytes) - bits ≡ 4
no_more bytes room n bits long few is count = omega (arith, length-take-le (n + 3) bytes (omega (arith, long, few, is)), is, count)

pub block_at : (plan : Plan) (sf room n bits : ℕ) (bytes : List ℕ) → length bytes ≡ 1026 → room < 2 ^ 10 → n ≡ room → bits ≡ 8 * room + 20
    → ((block : Block) × (block_of plan sf ≡ Some block) × IsBlock block (take bits (bits_of bytes))) → take 4 (drop bits (bits_of bytes)) ≡ zeros 4 → IsBytes bytes
    → IsBlockAt plan sf room (record { bits = bits; value = take (n + 3) bytes })
block_at plan sf room n bits bytes long few is count (block, same, spelled) last small = record {
  block = block;
  is = same;
  bits = count;
  size = omega (arith, length-take-le (n + 3) bytes (omega (arith, long, few, is)), is);
  octets = bytes_take (n + 3) bytes small;
  spelled = subst (λ (l : List Bool). IsBlock block l) (sym (ap (take bits) (bits_of-take (n + 3) bytes) ∙ take-take bits (8 * (n + 3)) (bits_of bytes) (omega (arith, is, count)))) spelled;
  padding = padded bytes room n bits is count last;
}
