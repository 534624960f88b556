use Rattle.std.proofs.Common.{◌∙◌, sym}
use Rattle.dcp_pft.proofs.Carried.{whole_size, cut_size}
use Rattle.dcp_pft.proofs.carry.datagram_len.Goals as goal

pub returns-in-None-clause-size : goal.returns-in-None-clause-size
returns-in-None-clause-size c = λ carry is. whole_size carry c.args.len c.args.i (sym is ∙ c.in-None.is)

pub returns-in-Some-clause-size : goal.returns-in-Some-clause-size
returns-in-Some-clause-size c = λ carry is. c.fragment_len.ensures.size ∙ cut_size carry c.args.len c.args.i c.in-Some.shape (sym is ∙ c.in-Some.is)
