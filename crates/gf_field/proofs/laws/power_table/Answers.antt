use Rattle.gf_field.proofs.TableEntries.{powers_are}
use Rattle.gf_field.proofs.laws.power_table.Goals as goal

pub returns : goal.returns
returns c = powers_are
