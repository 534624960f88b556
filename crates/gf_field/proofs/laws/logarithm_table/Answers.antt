use Rattle.gf_field.proofs.TableEntries.{logarithms_are}
use Rattle.gf_field.proofs.laws.logarithm_table.Goals as goal

pub returns : goal.returns
returns c = logarithms_are
