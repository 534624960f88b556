use Rattle.std.proofs.Common.{◌≡◌, ◌*◌, ◌+◌, ◌/◌, ◌++◌, ℕ, length, take, drop, arith, sym, ◌∙◌, ap, subst}
use Rattle.drm_bits.specs.Bits.{bits_of}
use Rattle.drm_bits.specs.Fields.{AreFields, spelled}
use Rattle.drm_bits.specs.Sink.{WroteBits, written, unwritten}
use Rattle.drm_bits.specs.declared.description.MuxDesc.{MuxDesc}
use Rattle.drm_bits.proofs.BitsLemmas.{length-bits_of}
use Rattle.drm_bits.proofs.FieldLemmas.{fields_spelled}
use Rattle.drm_bits.proofs.PartLemmas.{description_fit}
use Rattle.drm_bits.proofs.SinkLemmas.{front-bytes, rest-bytes}
use Rattle.drm_bits.proofs.WroteLemmas.{then}
use Rattle.drm_mux.specs.Sdci.{sdci_fields, IsSdci}
use Rattle.drm_mux.proofs.SdciLemmas.{sdci_fit, length-sdci}
use Rattle.drm_mux.proofs.sdci.write_sdci.Goals as goal

pub put_u8-requires-clause-room : goal.put_u8-requires-clause-room
put_u8-requires-clause-room c = omega (arith, ap length c.new-sink.ensures.unwritten, length-bits_of c.args.into.now, c.told-into)

pub write-requires-clause-fits : goal.write-requires-clause-fits
write-requires-clause-fits c = description_fit c.args.desc.now c.requires.description c.requires.fits

pub write-requires-clause-room : goal.write-requires-clause-room
write-requires-clause-room c = omega (arith, ap length c.new-sink.ensures.unwritten, length-bits_of c.args.into.now, c.told-into, c.put_u8.ensures.remaining, c.requires.description.count)

-- what is written in the end
all : (c : goal.After-len) → WroteBits (spelled (sdci_fields c.args.desc.now)) c.new-sink.result c.write.new.sink
all c = then c.put_u8.ensures.wrote c.write.ensures.wrote

whole : (c : goal.After-len) → written c.write.new.sink ≡ spelled (sdci_fields c.args.desc.now)
whole c = (all c).more ∙ ap (λ l. l ++ spelled (sdci_fields c.args.desc.now)) c.new-sink.ensures.empty

size : (c : goal.After-len) → length (written c.write.new.sink) ≡ 8 * (1 + 3 * c.args.desc.now.count)
size c = ap length (whole c) ∙ length-sdci c.args.desc.now c.requires.description

bytes : (c : goal.After-len) → c.len.result / 8 ≡ 1 + 3 * c.args.desc.now.count
bytes c = omega (arith, c.len.ensures, size c)

pub returns-clause-length : goal.returns-clause-length
returns-clause-length c = bytes c

pub returns-clause-written : goal.returns-clause-written
returns-clause-written c =
    let d : MuxDesc = c.args.desc.now in
    let n : ℕ = 1 + 3 * d.count in
    let bits : bits_of (take n c.write.new.sink.bytes.now) ≡ spelled (sdci_fields d) = front-bytes c.write.new.sink n (size c) ∙ whole c in
    let fields : AreFields (sdci_fields d) (bits_of (take n c.write.new.sink.bytes.now)) = subst (AreFields (sdci_fields d)) (sym bits) (fields_spelled (sdci_fields d) (sdci_fit d c.requires.description c.requires.fits)) in
    subst (λ (k : ℕ). IsSdci d (take k c.write.new.sink.bytes.now)) (sym (bytes c)) (record { description = c.requires.description; fields = fields })

pub returns-clause-rest : goal.returns-clause-rest
returns-clause-rest c =
    let n : ℕ = 1 + 3 * c.args.desc.now.count in
    let behind : unwritten c.write.new.sink ≡ drop (8 * n) (bits_of c.args.into.now) =
    (all c).behind ∙ ap (λ l. drop (length (spelled (sdci_fields c.args.desc.now))) l) c.new-sink.ensures.unwritten
    ∙ ap (λ k. drop k (bits_of c.args.into.now)) (length-sdci c.args.desc.now c.requires.description) in
    let rest : drop n c.write.new.sink.bytes.now ≡ drop n c.args.into.now = rest-bytes c.write.new.sink c.args.into.now n c.fits-into (size c) behind in
    subst (λ (k : ℕ). drop k c.write.new.sink.bytes.now ≡ drop k c.args.into.now) (sym (bytes c)) rest
