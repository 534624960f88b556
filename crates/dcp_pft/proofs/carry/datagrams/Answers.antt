use Rattle.std.proofs.Common.{◌∙◌, sym}
use Rattle.dcp_pft.proofs.Carried.{whole_count, cut_count}
use Rattle.dcp_pft.proofs.carry.datagrams.Goals as goal

pub returns-in-None : goal.returns-in-None
returns-in-None c = λ carry len is. whole_count carry len (sym is ∙ c.in-None.is)

pub returns-in-Some : goal.returns-in-Some
returns-in-Some c = λ carry len is. cut_count carry len c.in-Some.shape (sym is ∙ c.in-Some.is)
