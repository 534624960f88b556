-- What is written is read again.
use Rattle.std.specs.Prelude.{ℕ, ◌≡◌, ◌<◌, ◌^◌, ◌⊎◌, List, [], ◌∷◌, ◌++◌, length, take, drop, slice_index, slice_index_or, Option, None, Some}
use Rattle.drm_bits.specs.Bits.{bits_of, IsBytes}
use Rattle.drm_bits.specs.Description.{IsDescription}
use Rattle.drm_bits.specs.declared.description.MuxDesc.{MuxDesc}
use Rattle.drm_fac.specs.declared.fac.Fac.{Fac}
use Rattle.drm_mux.specs.Frame.{stream_length}
use Rattle.drm_fac.specs.declared.mode.Mode.{Mode}
use Rattle.drm_sdc.specs.declared.block.Block.{Block}
use Rattle.drm_sdc.specs.Block.{IsBlock}
use Rattle.dcp_tag.specs.Tag.{bytes_for}
use Rattle.mdi_items.specs.declared.view.SdcSpan.{SdcSpan}
use Rattle.mdi_items.specs.Frame.{Frame, IsFirstOfSuperFrame}
use Rattle.mdi_items.specs.Mdi.{IsMdi}
use Rattle.mdi_items.specs.Written.{WrittenItem, AreHeadItems, spelling, block_piece, stream_pieces}

-- the bits of a block, and its bytes
pub record BlockBytes : Type 0 where
  pub bits : ℕ
  pub value : List ℕ

-- what a frame is written of
pub record Parts : Type 0 where
  pub count : ℕ
  pub fac : Fac
  pub mux : MuxDesc
  pub mode : Mode
  pub block : Option BlockBytes
  pub streams : List (List ℕ)

abbrev pub block_pieces : Option BlockBytes → List WrittenItem
block_pieces None = []
block_pieces (Some block) = block_piece block.bits block.value ∷ []

-- The payload is what is written of these parts: the head, the block where there is one, and the streams.
abbrev pub IsWrittenOf : Parts → List ℕ → Type 0
IsWrittenOf p payload = (head : List ℕ) × AreHeadItems p.count p.fac p.mux p.mode head × (payload ≡ head ++ spelling (block_pieces p.block ++ stream_pieces 0 p.streams))

-- The first frame of a super frame has a block, and no other one.
abbrev pub SuitsBlock : Fac → Option BlockBytes → Type 0
SuitsBlock fac None = ¬ IsFirstOfSuperFrame fac
SuitsBlock fac (Some b) = IsFirstOfSuperFrame fac × (b.bits < 2 ^ 32) × (length b.value ≡ bytes_for b.bits) × ((block : Block) × IsBlock block (take b.bits (bits_of b.value)))

-- The parts are those of a frame.
pub record PartsSuit (p : Parts) : Type 0 where
  pub count : p.count < 2 ^ 32
  pub not_hierarchical : ¬ ((p.fac.channel.msc ≡ 1) ⊎ (p.fac.channel.msc ≡ 2))
  pub description : IsDescription p.mux
  pub block : SuitsBlock p.fac p.block
  pub all_streams : length p.streams ≡ p.mux.count
  pub lengths : (k : ℕ) → k < p.mux.count → length (slice_index_or p.streams k []) ≡ stream_length p.mux k
  pub few : (k : ℕ) → k < p.mux.count → length (slice_index_or p.streams k []) < 2 ^ 29

-- The block that is read has the bits and the bytes of the one that was written.
abbrev pub IsBlockOf : List ℕ → Option BlockBytes → Option SdcSpan → Type 0
IsBlockOf payload None None = Unit {0}
IsBlockOf payload (Some b) (Some span) = (span.bits ≡ b.bits) × (take (bytes_for span.bits) (drop span.at payload) ≡ b.value)
IsBlockOf payload _ _ = ⊥

-- The payload is a frame of these parts.
pub record IsFrameOf (p : Parts) (payload : List ℕ) : Type 0 where
  pub frame : Frame
  pub is_mdi : IsMdi frame payload
  pub major : frame.major ≡ 0
  pub minor : frame.minor ≡ 0
  pub count : frame.dlfc ≡ p.count
  pub fac : frame.fac ≡ p.fac
  pub mux : frame.mux ≡ p.mux
  pub mode : frame.mode ≡ p.mode
  pub block : IsBlockOf payload p.block frame.sdc
  pub streams : (k : ℕ) → k < p.mux.count → take (slice_index frame.streams.len k) (drop (slice_index frame.streams.at k) payload) ≡ slice_index_or p.streams k []

-- what is written of parts that suit is read again as these
abbrev pub WrittenIsRead : Type 0
WrittenIsRead = (p : Parts) (payload : List ℕ) → PartsSuit p → IsWrittenOf p payload → IsFrameOf p payload

-- bytes that are written of parts are determined: no others are
abbrev pub HasOneSpelling : Type 0
HasOneSpelling = (p : Parts) (payload other : List ℕ) → IsWrittenOf p payload → IsWrittenOf p other → IsBytes payload → IsBytes other → payload ≡ other
