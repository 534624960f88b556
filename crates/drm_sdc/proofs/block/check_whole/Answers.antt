use Rattle.std.proofs.Common.{◌≡◌, ℕ, inl, inr, List, Bool, length, take, arith, ap}
use Rattle.std.proofs.lemmas.Result.{err_from_is_err_and}
use Rattle.drm_bits.specs.Bits.{bits_of}
use Rattle.drm_sdc.specs.Block.{IsBlockOpen, IsFramed}
use Rattle.drm_sdc.proofs.BlockLaws.{field_fault, framed_length}
use Rattle.drm_sdc.proofs.block.check_whole.Goals as goal

pub returns-in_err-check_entities-clause-fault : goal.returns-in_err-check_entities-clause-fault
returns-in_err-check_entities-clause-fault c =
    let p = err_from_is_err_and c.from_residual-in_err-check_entities.result c.from_residual-in_err-check_entities.ensures.1 in
    let parts = c.in_ok-afs.ensures.parts in
    rw (p.1, p.2) (field_fault c.in_err-check_entities.field-0.0 c.in_ok-afs.afs c.unpack_block.new.field parts.0 (take c.args.bits (bits_of c.args.value.now)) parts.1 parts.2 c.in_err-check_entities.ensures.fault)

-- the field has as many bytes as were told
same_room : (all : List Bool) (d afs : ℕ) (field : List ℕ) (check : List Bool) → IsBlockOpen d all → IsFramed afs field check all → d ≡ length field
same_room all d afs field check is_open framed =
    elim (framed_length afs field check all framed) [
      | inl same ↦ elim is_open.form [ inl len ↦ omega (arith, len, same) | inr two ↦ absurd (omega (arith, two.0, same)) ]
      | inr same ↦ elim is_open.form [ inl len ↦ absurd (omega (arith, len, same)) | inr two ↦ omega (arith, two.0, same) ]
    ]

pub returns-clause-right : goal.returns-clause-right
returns-clause-right c =
    let parts = c.in_ok-afs.ensures.parts in
    let field = c.in_ok-check_entities.ensures.right in
    let all : List Bool = take c.args.bits (bits_of c.args.value.now) in (
      record { afs = c.in_ok-afs.afs; entities = field.0; tail = field.1 },
      record { field = c.unpack_block.new.field; check = parts.0; framed = parts.1; checked = parts.2; entities = field.2 },
      ap (λ n. record { afs = c.in_ok-afs.afs; room = n }) (same_room all c.in_ok-room.room c.in_ok-afs.afs c.unpack_block.new.field parts.0 c.in_ok-room.ensures.open parts.1),
    )
