use Rattle.std.proofs.Common.{◌∙◌, ap, drop}
use Rattle.report_dump.proofs.BlockLemmas.{span_holds}
use Rattle.report_dump.proofs.block.write_block.Goals as goal

pub write_field-requires : goal.write_field-requires
write_field-requires g c =
    let is_block = c.requires.is_block in
    record {
      field = (
        is_block.0.entities,
        is_block.0.tail,
        span_holds c.args.payload.now c.args.span.now is_block.0 c.from.result c.take_u8-index.new.self c.requires.inside is_block is_block.1 c.from.ensures
            (c.take_u8-index.ensures.rest ∙ ap (drop 4) c.block_bits-bits.ensures),
      );
    }

pub returns : goal.returns
returns g c = λ block is.
    c.write_field.ensures block.entities block.tail
    (span_holds c.args.payload.now c.args.span.now block c.from.result c.take_u8-index.new.self c.requires.inside c.requires.is_block is c.from.ensures
    (c.take_u8-index.ensures.rest ∙ ap (drop 4) c.block_bits-bits.ensures))
