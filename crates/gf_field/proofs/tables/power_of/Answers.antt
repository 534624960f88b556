use Rattle.std.proofs.Common.{◌∙◌}
use Rattle.gf_field.proofs.TableEntries.{powers_are}
use Rattle.gf_field.proofs.tables.power_of.Goals as goal

pub returns : goal.returns
returns c = c.power_at.ensures ∙ powers_are c.args.n c.requires
