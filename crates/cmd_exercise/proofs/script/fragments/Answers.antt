use Rattle.std.proofs.Common.{◌∙◌, ap}
use Rattle.dcp_pft.specs.Carrying.{datagram_count}
use Rattle.cmd_exercise.proofs.Delivering.{count_is}
use Rattle.cmd_exercise.proofs.script.fragments.Goals as goal

pub returns : goal.returns
returns c =
    count_is c.args.plan.now c.args.packet c.datagrams.result (
    c.datagrams.ensures c.carry.result c.packet_len.result c.cut_for.ensures.cut
    ∙ ap (λ carry. datagram_count carry c.packet_len.result) c.carry.ensures
    ∙ ap (datagram_count c.args.plan.now.carry) c.packet_len.ensures.len
    )
