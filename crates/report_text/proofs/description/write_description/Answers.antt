use Rattle.std.proofs.Common.{◌≡◌, length, take, ◌∙◌, arith}
use Rattle.std.proofs.lemmas.List.{length-take-le}
use Rattle.drm_bits.specs.Bits.{bits_of}
use Rattle.drm_bits.specs.Fields.{spelled}
use Rattle.drm_bits.proofs.FieldLemmas.{spelled_fields}
use Rattle.drm_mux.specs.Sdci.{sdci_fields}
use Rattle.report_text.proofs.description.write_description.Goals as goal

pub returns : goal.returns
returns g c =
    let all : length (take c.write_sdci-len.result c.write_sdci-len.new.into) ≡ c.write_sdci-len.result =
    length-take-le c.write_sdci-len.result c.write_sdci-len.new.into (omega (arith, c.write_sdci-len.array_long, c.write_sdci-len.ensures.length, c.requires.description.count)) in
    let same : c.new.result ≡ spelled (sdci_fields c.args.view.now.mux) = c.new.ensures.whole (omega (arith, all)) ∙ spelled_fields (sdci_fields c.args.view.now.mux) (bits_of (take c.write_sdci-len.result c.write_sdci-len.new.into)) c.write_sdci-len.ensures.written.fields in
    rw same at c.write_bits.ensures
