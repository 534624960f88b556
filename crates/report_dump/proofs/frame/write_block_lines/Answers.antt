use Rattle.mdi_items.specs.Frame.{frame_of}
use Rattle.report_dump.proofs.SpanLemmas.{span_there}
use Rattle.report_dump.proofs.frame.write_block_lines.Goals as goal

pub write_block-requires-clause-is_block : goal.write_block-requires-clause-is_block
write_block-requires-clause-is_block g c = span_there (frame_of c.args.view.now) c.args.view.now.payload.now c.in-Some.span c.requires.frame c.in-Some.is
