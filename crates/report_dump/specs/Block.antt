-- The data field of a block, as its bits are taken one after another.
use Rattle.std.specs.Prelude.{ℕ, ◌≡◌, Bool, false, List, [], ◌∷◌, ◌++◌, length, drop, codes, slice_index}
use Rattle.hex.specs.Hex.{lower_digits}
use Rattle.std.specs.Int.{from_bool}
use Rattle.drm_bits.specs.Bits.{bits_of, front, IsBytes}
use Rattle.drm_sdc.specs.declared.entity.Entity.{Entity}
use Rattle.drm_sdc.specs.declared.block.Block.{Block}
use Rattle.drm_sdc.specs.Block.{IsBlock, info_of}
use Rattle.drm_sdc.specs.Field.{IsField}
use Rattle.mdi_items.specs.declared.view.SdcSpan.{SdcSpan}
use Rattle.report_dump.specs.declared.block.EntityHead.{EntityHead}
use Rattle.report_text.specs.HexBits.{hex_of_bits}
use Rattle.report_dump.specs.PacketContent.{bits_at}
use Rattle.report_dump.specs.Lines.{kind_text}

-- A block stands there, of which this is told.
abbrev pub IsSpanOfBlock : List ℕ → SdcSpan → Type 0
IsSpanOfBlock payload span = (block : Block) × (is : IsBlock block (bits_at payload span)) × (span.info ≡ info_of block (bits_at payload span) is)

-- So many bytes stand at the front of the bits, and they are these entities and this tail.
pub record HoldsBlock (entities : List Entity) (tail : List ℕ) (room : ℕ) (bits : List Bool) : Type 0 where
  pub field : List ℕ
  pub behind : List Bool
  pub begins : bits ≡ bits_of field ++ behind
  pub size : length field ≡ room
  pub octets : IsBytes field
  pub is : IsField entities tail field

-- the numbers of the first two bytes of an entity: the length of its body, version, type, and the body's four bits
pub record IsEntityHead (h : EntityHead) (bits : List Bool) : Type 0 where
  pub len : h.len ≡ front 7 bits
  pub version : front 1 (drop 7 bits) ≡ from_bool h.version
  pub kind : h.kind ≡ front 4 (drop 1 (drop 7 bits))
  pub nibble : h.nibble ≡ front 4 (drop 4 (drop 1 (drop 7 bits)))

-- All of these are 0: the tail begins here.
pub record IsZero (h : EntityHead) : Type 0 where
  pub len : h.len ≡ 0
  pub version : h.version ≡ false
  pub kind : h.kind ≡ 0
  pub nibble : h.nibble ≡ 0

-- the line of an entity with this head, and these bits of its body behind the first four
abbrev pub head_text : EntityHead → List Bool → List ℕ
head_text h bits = kind_text h.kind h.version ++ ((slice_index lower_digits h.nibble ∷ []) ++ (hex_of_bits bits ++ codes "\n"))
