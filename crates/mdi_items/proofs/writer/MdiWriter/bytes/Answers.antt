use Rattle.mdi_items.proofs.WriterLemmas.{no_padding}
use Rattle.mdi_items.proofs.writer.MdiWriter.bytes.Goals as goal

pub item-requires-clause-padding : goal.item-requires-clause-padding
item-requires-clause-padding c = no_padding c.args.value.now
