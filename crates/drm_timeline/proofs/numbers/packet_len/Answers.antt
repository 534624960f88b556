use Rattle.std.proofs.Common.{◌%◌, ◌==◌, arith}
use Rattle.dcp_pft.proofs.Carried.{limit_is}
use Rattle.drm_timeline.proofs.PacketSizes.{first_most}
use Rattle.drm_timeline.proofs.numbers.packet_len.Goals as goal

pub returns-clause-within : goal.returns-clause-within
returns-clause-within c =
    omega (arith, c.standing.ensures.packet, (limit_is c.args.plan.now.carry).1, first_most c.standing.result.now (c.args.t % 3 == 0))
