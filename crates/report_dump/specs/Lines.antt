-- The lines that tell of a packet.
use Rattle.std.specs.Prelude.{ℕ, Bool, List, [], ◌∷◌, ◌++◌, length, codes, decimal, Option, None, Some, if◌then◌else◌}
use Rattle.std.specs.List.{concat, flat_map}
use Rattle.std.specs.Int.{from_bool}
use Rattle.std.specs.Char.{is_ascii_graphic}
use Rattle.hex.specs.Hex.{encode_lower}
use Rattle.drm_bits.specs.Description.{described}
use Rattle.drm_bits.specs.Fields.{spelled}
use Rattle.drm_bits.specs.declared.description.Part.{Part}
use Rattle.drm_bits.specs.declared.description.MuxDesc.{MuxDesc}
use Rattle.drm_fac.specs.declared.fac.Fac.{Fac}
use Rattle.drm_fac.specs.Mode.{mode_letter}
use Rattle.drm_sdc.specs.declared.entity.Entity.{Entity}
use Rattle.drm_sdc.specs.Bodies.{body_fields, kind_of}
use Rattle.dcp_tag.specs.Tag.{TagItem}
use Rattle.dcp_af.specs.Packet.{AfPacket}
use Rattle.dcp_pft.specs.declared.shape.Rs.{Rs}
use Rattle.dcp_pft.specs.declared.fragment.Addr.{Addr}
use Rattle.dcp_pft.specs.Head.{PftFragment}
use Rattle.mdi_items.specs.Frame.{Frame}
use Rattle.report_text.specs.FacLine.{fac_line}
use Rattle.report_text.specs.HexBits.{hex_of_bits}

abbrev pub two_numbers : ℕ → ℕ → List ℕ
two_numbers first second = concat (decimal first ∷ codes " " ∷ decimal second ∷ [])

-- the length of a chunk, and the fill of the last one
abbrev pub code_text : Option Rs → List ℕ
code_text None = codes "-"
code_text (Some rs) = two_numbers rs.k rs.z

abbrev pub addr_text : Option Addr → List ℕ
addr_text None = codes "-"
addr_text (Some addr) = two_numbers addr.source addr.dest

-- a fragment at a byte of the capture
abbrev pub fragment_line : ℕ → PftFragment → List ℕ
fragment_line at f =
    concat (
    codes "pft " ∷ decimal at ∷ codes " seq " ∷ decimal f.seq ∷ codes " index " ∷ decimal f.index ∷ codes " of " ∷ decimal f.count
    ∷ codes " len " ∷ decimal (length f.payload) ∷ codes " fec " ∷ code_text f.rs ∷ codes " addr " ∷ addr_text f.addr ∷ codes "\n" ∷ [])

-- an AF packet
abbrev pub af_line : ℕ → AfPacket → List ℕ
af_line at p =
    concat (
    codes "af " ∷ decimal at ∷ codes " seq " ∷ decimal p.seq ∷ codes " len " ∷ decimal (length p.payload)
    ∷ codes " crc " ∷ (if p.checked then codes "yes" else codes "no") ∷ codes "\n" ∷ [])

-- what is wrong with a packet, in the words for a layer and its field
abbrev pub bad_line : ℕ → List ℕ → List ℕ
bad_line at words = concat (codes "bad " ∷ decimal at ∷ codes " " ∷ words ∷ codes "\n" ∷ [])

-- A byte of a name stands as it is where it is a visible sign of ASCII (0x21 to 0x7e), and else as its two digits.
abbrev pub name_byte : ℕ → List ℕ
name_byte byte = if is_ascii_graphic byte then byte ∷ [] else codes "\\x" ++ encode_lower (byte ∷ [])

abbrev pub bits_text : ℕ → List ℕ
bits_text bits = concat (codes " " ∷ decimal bits ∷ codes "\n" ∷ [])

-- an item: its name, and the number of its value's bits
abbrev pub tag_text : List ℕ → ℕ → List ℕ
tag_text name bits = codes "tag " ++ (flat_map name_byte name ++ bits_text bits)

abbrev pub tag_line : TagItem → List ℕ
tag_line item = tag_text item.name (length item.value)

-- a frame, and the revision of its protocol
abbrev pub mdi_line : Frame → List ℕ
mdi_line frame =
    concat (
    codes "mdi dlfc " ∷ decimal frame.dlfc ∷ codes " mode " ∷ mode_letter frame.mode
    ∷ codes " revision " ∷ decimal frame.major ∷ codes "." ∷ decimal frame.minor ∷ codes "\n" ∷ [])

abbrev pub fac_text : Fac → List ℕ
fac_text fac = codes "fac " ++ fac_line fac

-- the bytes of a stream's parts
abbrev pub part_text : Part → List ℕ
part_text part = concat (codes " " ∷ decimal part.a ∷ codes "+" ∷ decimal part.b ∷ [])

abbrev pub protection_text : MuxDesc → List ℕ
protection_text mux = concat (codes "mux " ∷ decimal mux.prot_a ∷ codes " " ∷ decimal mux.prot_b ∷ [])

-- the protections, and the streams that are described
abbrev pub mux_line : MuxDesc → List ℕ
mux_line mux = protection_text mux ++ (flat_map part_text (described mux) ++ codes "\n")

-- a type and a version
abbrev pub kind_text : ℕ → Bool → List ℕ
kind_text kind version = concat (codes "sdc " ∷ decimal kind ∷ codes " " ∷ decimal (from_bool version) ∷ codes " " ∷ [])

-- an entity: its body is four bits and whole bytes, so the first digit is that of the four bits
abbrev pub entity_line : Entity → List ℕ
entity_line e = kind_text (kind_of e.body) e.version ++ (hex_of_bits (spelled (body_fields e.body)) ++ codes "\n")

-- the number of the bytes behind the entities
abbrev pub tail_text : ℕ → List ℕ
tail_text len = concat (codes "sdctail " ∷ decimal len ∷ codes "\n" ∷ [])

abbrev pub tail_line : List ℕ → List ℕ
tail_line tail = tail_text (length tail)

-- the last line, behind those of so many packets
abbrev pub end_packets_line : ℕ → ℕ → List ℕ
end_packets_line packets bytes = concat (codes "end packets " ∷ decimal packets ∷ codes " bytes " ∷ decimal bytes ∷ codes "\n" ∷ [])
