use Rattle.std.proofs.Common.{◌≡◌, length}
use Rattle.drm_data.specs.Units.{packet_count}
use Rattle.cmd_pack.proofs.Written.{Wrote}
use Rattle.cmd_pack.proofs.packing.write_unit.Given as goal

-- the packets before this one were written
abbrev pub invariant-loop-k : goal.invariant-loop-k
invariant-loop-k g l = Wrote l.fn.packer l.unit l.k l.packer (g.O.Sink.known l.fn.out) (g.O.Sink.known l.out) × (l.count ≡ packet_count l.fn.packer.length (length l.unit))
