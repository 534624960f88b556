use Rattle.std.proofs.Common.{◌≡◌, ℕ, List, take, ap, subst, inl, rules}
use Rattle.drm_bits.specs.Bits.{bits_of}
use Rattle.drm_sdc.specs.declared.block.Block.{Block}
use Rattle.drm_sdc.specs.declared.block.BlockInfo.{BlockInfo}
use Rattle.drm_sdc.specs.Block.{IsBlock, info_of}
use Rattle.mdi_items.specs.declared.known.ItemSpan.{ItemSpan}
use Rattle.mdi_items.specs.Frame.{bytes_at}
use Rattle.mdi_items.proofs.block.read_block_span.Goals as goal

-- what is told of a block of these bits
IsBlockInfo : ItemSpan → BlockInfo → List ℕ → Type 0
IsBlockInfo found info bytes = (block : Block) × (is : IsBlock block (take found.bits (bits_of bytes))) × (info ≡ info_of block (take found.bits (bits_of bytes)) is)

pub returns-in-Ok-clause-value : goal.returns-in-Ok-clause-value
unfolding IsBlockInfo
returns-in-Ok-clause-value c =
    let found : ItemSpan = c.in-Some.found in
    let is_info : IsBlockInfo found c.in-Ok.info (bytes_at c.args.payload.now found) = subst (IsBlockInfo found c.in-Ok.info) c.bytes_at.ensures.value c.in-Ok.ensures.right in
    (found, is_info.0, c.in-Some.ensures.found.0, c.in-Some.ensures.found.1, is_info.1, ap (λ (i : BlockInfo). record { at = found.at; bits = found.bits; info = i }) is_info.2)

pub returns-then-first-clause-fault : goal.returns-then-first-clause-fault
returns-then-first-clause-fault c =
    inl (c.args.fac.now, c.requires.fac, c.is_first-first.ensures.0 c.if-first.true, search rules, search rules)
