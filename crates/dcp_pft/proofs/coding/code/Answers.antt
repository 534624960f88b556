use Rattle.std.proofs.Common.{◌∙◌, sym, length, arith}
use Rattle.dcp_pft.proofs.Parities.{is_parity_with, is_parity_none}
use Rattle.dcp_pft.proofs.Shapes.{has_code}
use Rattle.dcp_pft.proofs.coding.code.Goals as goal

pub code_chunks-requires-clause-size : goal.code_chunks-requires-clause-size
code_chunks-requires-clause-size c =
    let has = has_code (length c.args.packet.now) c.args.shape.now c.in-Some.rs c.requires.shape c.in-Some.is in omega (arith, has.size)

pub code_chunks-requires-clause-within_limit : goal.code_chunks-requires-clause-within_limit
code_chunks-requires-clause-within_limit c =
    let has = has_code (length c.args.packet.now) c.args.shape.now c.in-Some.rs c.requires.shape c.in-Some.is in omega (arith, has.chunks, c.requires.room)

pub returns-in-Some : goal.returns-in-Some
returns-in-Some c =
    is_parity_with c.args.shape.now c.in-Some.rs c.args.packet.now c.code_chunks.new.parity c.requires.shape c.in-Some.is (c.code_chunks.auto.parity ∙ c.requires.room) c.from.result c.from.ensures
    (λ n z whole small long. c.code_chunks.ensures n z whole small (sym c.code_chunks.auto.parity ∙ long))

pub returns-in_default : goal.returns-in_default
returns-in_default c = is_parity_none c.args.shape.now c.args.packet.now c.args.parity.now c.in_default.is c.requires.room
