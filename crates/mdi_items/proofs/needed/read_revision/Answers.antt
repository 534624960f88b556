use Rattle.std.proofs.Common.{inl, refl, [], ◌∷◌}
use Rattle.mdi_items.specs.Names.{ptr}
use Rattle.mdi_items.specs.Table.{due_rows, OtherProtocol}
use Rattle.mdi_items.proofs.TableLemmas.{later}
use Rattle.mdi_items.proofs.needed.read_revision.Goals as goal

pub returns-then-not-is_protocol-clause-fault : goal.returns-then-not-is_protocol-clause-fault
returns-then-not-is_protocol-clause-fault c =
    later c.args.payload.now c.args.known.now (due_rows ptr 64) (OtherProtocol ∷ []) _ c.in_ok-bytes.ensures.right (inl (c.in_ok-bytes.bytes.now, c.in_ok-bytes.ensures.value, (λ same. cc (c.if-not-is_protocol.ensures.1 same)), refl))

pub returns-clause-value : goal.returns-clause-value
returns-clause-value c = (c.in_ok-bytes.bytes.now, c.in_ok-bytes.ensures.value, c.revision.ensures.major, c.revision.ensures.minor)
