use Rattle.std.proofs.Common.{◌≡◌, ◌+◌, ◌*◌, ◌++◌, List, ℕ, length, take, drop, refl, ap, ◌∙◌}
use Rattle.drm_bits.specs.Bits.{bits_of}
use Rattle.drm_bits.specs.Crc.{zeros}
use Rattle.drm_sdc.specs.Block.{first_form}
use Rattle.drm_sdc.proofs.WrittenField.{frame_front, block_is}
use Rattle.drm_sdc.proofs.written_block.frame_field.Goals as goal

front : (c : goal.After-slice_known-2-1) → bits_of c.copy_from_slice.new.self ≡ first_form c.args.afs c.args.field.now c.write_frame.ensures.frame.0 ++ zeros 4
front c = ap bits_of c.copy_from_slice.ensures.after ∙ c.write_frame.ensures.frame.3

pub returns-clause-framed : goal.returns-clause-framed
returns-clause-framed c =
    let field : List ℕ = c.args.field.now in
    let frame = c.write_frame.ensures.frame in
    (frame.0, frame.1, (frame_front c.args.afs (length field) field c.copy_from_slice.new.self (drop (length field + 3) c.args.into.now) frame.0 refl frame.2 (front c)).0)

pub returns-clause-block : goal.returns-clause-block
returns-clause-block c =
    λ entities tail is.
    let field : List ℕ = c.args.field.now in
    let frame = c.write_frame.ensures.frame in
    let rest : List ℕ = drop (length field + 3) c.args.into.now in
    let form = (frame_front c.args.afs (length field) field c.copy_from_slice.new.self rest frame.0 refl frame.2 (front c)).0 in
    block_is c.args.afs (length field) entities tail field frame.0 (take (8 * length field + 20) (bits_of (c.copy_from_slice.new.self ++ rest)))
    c.requires.index c.requires.room refl (λ i. (c.type_inv.field i).fits) frame.2 form frame.1 is

pub returns-clause-last : goal.returns-clause-last
returns-clause-last c =
    let field : List ℕ = c.args.field.now in
    let frame = c.write_frame.ensures.frame in
    (frame_front c.args.afs (length field) field c.copy_from_slice.new.self (drop (length field + 3) c.args.into.now) frame.0 refl frame.2 (front c)).1
