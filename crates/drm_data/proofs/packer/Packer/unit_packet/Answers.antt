use Rattle.std.proofs.Common.{take}
use Rattle.drm_data.proofs.UnitPackets.{written_as}
use Rattle.drm_data.proofs.packer.Packer.unit_packet.Goals as goal

pub returns-clause-packet : goal.returns-clause-packet
returns-clause-packet c =
    rw (← c.self.view_is)
    (written_as c.self.inside.id c.self.inside.length c.self.inside.continuity c.args.unit.now c.args.k c.from-data.result c.front.result.now
    (take c.write_packet.result c.write_packet.new.into) c.from-data.ensures c.front.ensures c.write_packet.ensures.packet)
