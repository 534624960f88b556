-- What a packet of a capture has in it, whatever its bytes are.
use Rattle.std.specs.Prelude.{ℕ, ◌≡◌, ◌<◌, ◌⊎◌, Bool, List, [], ◌∷◌, ◌++◌, length, take, drop, Option, None, Some}
use Rattle.drm_bits.specs.Bits.{bits_of}
use Rattle.drm_sdc.specs.declared.block.Block.{Block}
use Rattle.drm_sdc.specs.Block.{IsBlock}
use Rattle.dcp_tag.specs.Tag.{TagItem, IsSpelling, IsItemCut}
use Rattle.dcp_af.specs.declared.fault.AfFault.{AfFault}
use Rattle.dcp_af.specs.Packet.{AfPacket, IsAf, sync as af_sync}
use Rattle.dcp_af.specs.Faults.{IsFault as IsAfFault}
use Rattle.dcp_pft.specs.declared.fault.PftFault.{PftFault}
use Rattle.dcp_pft.specs.Head.{PftFragment, sync as pft_sync}
use Rattle.dcp_pft.specs.Faults.{IsFault as IsPftFault}
use Rattle.dcp_pft.specs.Reading.{IsPft}
use Rattle.mdi_items.specs.declared.fault.MdiFault.{MdiFault}
use Rattle.mdi_items.specs.declared.view.SdcSpan.{SdcSpan}
use Rattle.mdi_items.specs.Frame.{Frame}
use Rattle.mdi_items.specs.Mdi.{IsMdi, IsMdiFault}

-- what the items of a payload say: a frame, with its block where it has one, or why they are none
pub data Saying : Type 0 where
  FrameOf : Frame → Option Block → Saying
  NoFrame : MdiFault → Saying

-- a fragment; an AF packet with its items; or why the bytes are neither
pub data PacketContent : Type 0 where
  Fragment : PftFragment → PacketContent
  NoFragment : PftFault → PacketContent
  Whole : AfPacket → List TagItem → Saying → PacketContent
  NoPacket : AfFault → PacketContent

-- Fewer than eight bytes are there, which are padding, or an item that goes past the end.
abbrev pub HasNoItem : List ℕ → Type 0
HasNoItem bytes = (length bytes < 8) ⊎ IsItemCut bytes

-- The items stand one after another from the front of the bytes, up to a cut.
abbrev pub AreItems : List TagItem → List ℕ → Type 0
AreItems [] bytes = HasNoItem bytes
AreItems (item ∷ items) bytes = (spelling : List ℕ) × (rest : List ℕ) × (bytes ≡ spelling ++ rest) × IsSpelling item spelling × AreItems items rest

-- the bits of the block that stands there
abbrev pub bits_at : List ℕ → SdcSpan → List Bool
bits_at payload span = take span.bits (bits_of (drop span.at payload))

-- The block is the one that the frame has, if it has one.
abbrev pub IsBlockOf : List ℕ → Option SdcSpan → Option Block → Type 0
IsBlockOf payload None None = Unit {0}
IsBlockOf payload (Some span) (Some block) = IsBlock block (bits_at payload span)
IsBlockOf payload _ _ = ⊥

-- The payload says this.
abbrev pub PayloadSays : Saying → List ℕ → Type 0
PayloadSays (FrameOf frame block) payload = IsMdi frame payload × IsBlockOf payload frame.sdc block
PayloadSays (NoFrame fault) payload = IsMdiFault payload fault

abbrev pub IsContent : PacketContent → List ℕ → Type 0
IsContent (Fragment f) bytes = IsPft f bytes
IsContent (NoFragment fault) bytes = (take 2 bytes ≡ pft_sync) × IsPftFault fault bytes
IsContent (Whole p items saying) bytes = IsAf p bytes × AreItems items p.payload × PayloadSays saying p.payload
IsContent (NoPacket fault) bytes = (take 2 bytes ≡ af_sync) × IsAfFault fault bytes

-- The bytes begin as one of the two kinds of packets do.
abbrev pub PacketBegins : List ℕ → Type 0
PacketBegins bytes = (take 2 bytes ≡ af_sync) ⊎ (take 2 bytes ≡ pft_sync)
