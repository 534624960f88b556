use Rattle.report_dump.proofs.ItemLemmas.{plain_name}
use Rattle.report_dump.proofs.tags.write_plain_tag.Goals as goal

pub returns : goal.returns
returns g c = rw (plain_name c.args.name.now c.requires) (rw c.from.ensures at c.write_pieces.ensures)
