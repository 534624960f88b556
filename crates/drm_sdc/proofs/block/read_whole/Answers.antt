use Rattle.std.proofs.Common.{◌≡◌, ◌⊎◌, inl, inr, List, Bool, take}
use Rattle.std.proofs.lemmas.Result.{err_from_is_err_and}
use Rattle.drm_bits.specs.Bits.{bits_of}
use Rattle.drm_sdc.specs.declared.fault.SdcFault.{SdcFault}
use Rattle.drm_sdc.specs.declared.fault.SdcFault.TheVariants.{NoMemory}
use Rattle.drm_sdc.specs.Field.{IsFirstFault}
use Rattle.drm_sdc.specs.Block.{IsFramed, IsBlockChecked, IsBlockFault}
use Rattle.drm_sdc.proofs.BlockLaws.{field_fault}
use Rattle.drm_sdc.proofs.block.read_whole.Goals as goal
use Rattle.std.proofs.Common.{ℕ}

in_field : (f : SdcFault) (afs : ℕ) (field : List ℕ) (check bits : List Bool) → IsFramed afs field check bits → IsBlockChecked afs field check → (f ≡ NoMemory) ⊎ IsFirstFault field f → (f ≡ NoMemory) ⊎ IsBlockFault bits f
in_field f afs field check bits framed checked (inl none) = inl none
in_field f afs field check bits framed checked (inr first) = inr (field_fault f afs field check bits framed checked first)

pub returns-in_err-entities-clause-fault : goal.returns-in_err-entities-clause-fault
returns-in_err-entities-clause-fault c =
    let p = err_from_is_err_and c.from_residual-in_err-entities.result c.from_residual-in_err-entities.ensures.1 in
    let parts = c.in_ok-afs.ensures.parts in
    rw (p.1, p.2) (in_field c.in_err-entities.field-0.0 c.in_ok-afs.afs c.unpack_block.new.field parts.0 (take c.args.bits (bits_of c.args.value.now)) parts.1 parts.2 c.in_err-entities.ensures.fault)
