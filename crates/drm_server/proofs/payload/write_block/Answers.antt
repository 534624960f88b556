use Rattle.std.proofs.Common.{◌≡◌, ◌+◌, ◌*◌, ℕ, false, replicate, sym, ap, ◌∙◌}
use Rattle.drm_server.proofs.BlockLemmas.{block_bits, padded, no_more, block_at}
use Rattle.drm_timeline.specs.Standing.{config_of}
use Rattle.drm_server.proofs.payload.write_block.Goals as goal

pub block-requires-clause-padding : goal.block-requires-clause-padding
block-requires-clause-padding c =
    let b = c.block_into-bits in
    let count : b.result ≡ 8 * c.args.config.now.room + 20 = block_bits b.result (config_of c.args.plan.now c.args.sf) c.args.config.now b.ensures.bits c.requires.config.holds in
    padded b.new.into c.args.config.now.room c.from.result b.result c.from.ensures count b.ensures.last
    ∙ ap (λ (n : ℕ). replicate n false) (sym (no_more b.new.into c.args.config.now.room c.from.result b.result b.array_long c.requires.config.fits.room_fits c.from.ensures count))

pub returns-clause-written : goal.returns-clause-written
returns-clause-written c =
    let b = c.block_into-bits in
    let count : b.result ≡ 8 * c.args.config.now.room + 20 = block_bits b.result (config_of c.args.plan.now c.args.sf) c.args.config.now b.ensures.bits c.requires.config.holds in (
      _,
      block_at c.args.plan.now c.args.sf c.args.config.now.room c.from.result b.result b.new.into b.array_long c.requires.config.fits.room_fits c.from.ensures count b.ensures.block b.ensures.last b.ensures.octets,
      c.block.ensures.written,
    )
