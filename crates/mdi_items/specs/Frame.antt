-- A logical frame (TS 102 820): what its items say.
use Rattle.std.specs.Prelude.{ℕ, ◌≡◌, ◌≢◌, ◌+◌, ◌≤◌, ◌/◌, ◌⊎◌, Bool, List, [], ◌∷◌, take, drop, slice_range, slice_index_or, Option, None, Some}
use Rattle.std.specs.Int.{w16, w32, from_be_bytes}
use Rattle.drm_bits.specs.Bits.{bits_of}
use Rattle.drm_bits.specs.declared.description.MuxDesc.{MuxDesc}
use Rattle.drm_fac.specs.declared.fac.Fac.{Fac}
use Rattle.drm_fac.specs.Fac.{IsFac}
use Rattle.drm_fac.specs.Mode.{mode_code}
use Rattle.drm_mux.specs.declared.frame.Spans.{Spans}
use Rattle.drm_mux.specs.Sdci.{IsSdci}
use Rattle.drm_fac.specs.declared.mode.Mode.{Mode}
use Rattle.drm_sdc.specs.declared.block.Block.{Block}
use Rattle.drm_sdc.specs.Block.{IsBlock, info_of}
use Rattle.dcp_tag.specs.Tag.{bytes_for}
use Rattle.mdi_items.specs.declared.known.ItemSpan.{ItemSpan}
use Rattle.mdi_items.specs.declared.view.SdcSpan.{SdcSpan}
use Rattle.mdi_items.specs.declared.view.MdiView.{MdiView}
use Rattle.mdi_items.specs.Names.{ptr, dlfc, fac_, sdci, robm, sdc_, str}

-- what a frame says, with the places in its payload
pub record Frame : Type 0 where
  pub major : ℕ
  pub minor : ℕ
  pub dlfc : ℕ
  pub fac_bytes : List ℕ
  pub fac : Fac
  pub mux : MuxDesc
  pub mode : Mode
  pub sdc : Option SdcSpan
  pub streams : Spans

abbrev pub frame_of : MdiView → Frame
frame_of v =
    record { major = v.major; minor = v.minor; dlfc = v.dlfc; fac_bytes = v.fac_bytes; fac = v.fac; mux = v.mux; mode = v.mode; sdc = v.sdc; streams = v.streams }

-- the bytes of a value
abbrev pub bytes_at : List ℕ → ItemSpan → List ℕ
bytes_at payload found = take (bytes_for found.bits) (drop found.at payload)

-- The item whose name stands at a place of the order is found here.
abbrev pub IsAt : List (Option ItemSpan) → ℕ → ItemSpan → Type 0
IsAt known k found = slice_index_or known k None ≡ Some found

-- That item has these bytes.
abbrev pub HasBytes : List ℕ → List (Option ItemSpan) → ℕ → List ℕ → Type 0
HasBytes payload known k bytes = (found : ItemSpan) × IsAt known k found × (bytes_at payload found ≡ bytes)

-- Each of the items ends in the payload of so many bytes.
abbrev pub AreInside : ℕ → List (Option ItemSpan) → Type 0
AreInside end known = (k : ℕ) (found : ItemSpan) → IsAt known k found → found.at + bytes_for found.bits ≤ end

-- the bits of an item, 0 where it isn't there
abbrev pub bits_there : Option ItemSpan → ℕ
bits_there None = 0
bits_there (Some found) = found.bits

abbrev pub place_there : Option ItemSpan → ℕ
place_there None = 0
place_there (Some found) = found.at

-- what there is of each stream's item
abbrev pub of_streams : (Option ItemSpan → ℕ) → List (Option ItemSpan) → List ℕ
of_streams what known =
    what (slice_index_or known (str 0) None) ∷ what (slice_index_or known (str 1) None) ∷ what (slice_index_or known (str 2) None) ∷ what (slice_index_or known (str 3) None) ∷ []

-- where the streams stand; one that isn't there has no bytes, at the front
abbrev pub spans_of : List (Option ItemSpan) → Spans
spans_of known = record { at = of_streams place_there known; len = of_streams (λ there. bits_there there / 8) known }

-- The frame is the first of its super frame, which has the SDC block.
abbrev pub IsFirstOfSuperFrame : Fac → Type 0
IsFirstOfSuperFrame fac = (fac.channel.identity ≡ 0) ⊎ (fac.channel.identity ≡ 3)

-- the block's bits
abbrev pub block_bits : List ℕ → ItemSpan → List Bool
block_bits payload found = take found.bits (bits_of (bytes_at payload found))

-- What is told of the block is that of the item `sdc_`, which has no bits where nothing is told.
abbrev pub IsBlockSpan : List ℕ → List (Option ItemSpan) → Option SdcSpan → Type 0
IsBlockSpan payload known None = bits_there (slice_index_or known sdc_ None) ≡ 0
IsBlockSpan payload known (Some span) =
    (found : ItemSpan) × (block : Block) × IsAt known sdc_ found × (found.bits ≢ 0) × (is : IsBlock block (block_bits payload found))
    × (span ≡ record { at = found.at; bits = found.bits; info = info_of block (block_bits payload found) is })

-- The frame says what the items say.
pub record FrameSays (payload : List ℕ) (known : List (Option ItemSpan)) (frame : Frame) : Type 0 where
  pub pointer : List ℕ
  pub pointer_stands : HasBytes payload known ptr pointer
  pub major : frame.major ≡ from_be_bytes w16 (slice_range pointer 4 6)
  pub minor : frame.minor ≡ from_be_bytes w16 (slice_range pointer 6 8)
  pub count : List ℕ
  pub count_stands : HasBytes payload known dlfc count
  pub dlfc : frame.dlfc ≡ from_be_bytes w32 count
  pub fac_stands : HasBytes payload known fac_ frame.fac_bytes
  pub fac : IsFac frame.fac frame.fac_bytes
  pub description : List ℕ
  pub description_stands : HasBytes payload known sdci description
  pub mux : IsSdci frame.mux description
  pub mode : HasBytes payload known robm (mode_code frame.mode ∷ [])
  pub sdc : IsBlockSpan payload known frame.sdc
  pub streams : frame.streams ≡ spans_of known
