use Rattle.std.proofs.Common.{length, arith}
use Rattle.dcp_pft.proofs.Shapes.{has_none}
use Rattle.dcp_pft.proofs.write.write_fragment.Goals as goal

pub write_plain-requires-clause-room : goal.write_plain-requires-clause-room
write_plain-requires-clause-room c = omega (arith, (has_none (length c.args.packet.now) c.args.shape.now c.requires.shape c.in-None.is).piece, c.told-into)

pub returns-in-None-clause-fragment : goal.returns-in-None-clause-fragment
returns-in-None-clause-fragment c = (c.write_plain.ensures.fragment c.args.parity.now).spells

pub returns-in-None-clause-is : goal.returns-in-None-clause-is
returns-in-None-clause-is c = record { parity = c.args.parity.now; is_parity = c.requires.parity; spells = (c.write_plain.ensures.fragment c.args.parity.now).spells }

pub returns-in-None-clause-in_range : goal.returns-in-None-clause-in_range
returns-in-None-clause-in_range c = (c.write_plain.ensures.fragment c.args.parity.now).small

pub returns-in-None-clause-bytes : goal.returns-in-None-clause-bytes
returns-in-None-clause-bytes c = (c.write_plain.ensures.fragment c.args.parity.now).bytes

pub returns-in-None-clause-behind : goal.returns-in-None-clause-behind
returns-in-None-clause-behind c = (c.write_plain.ensures.fragment c.args.parity.now).behind
