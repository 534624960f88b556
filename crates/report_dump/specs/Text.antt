-- The text of a packet: the lines of what it has in it.
use Rattle.std.specs.Prelude.{ℕ, ◌≡◌, Bool, true, false, List, [], ◌++◌, Option, None, Some}
use Rattle.std.specs.List.{flat_map}
use Rattle.drm_sdc.specs.declared.entity.Entity.{Entity}
use Rattle.drm_sdc.specs.declared.block.Block.{Block}
use Rattle.dcp_tag.specs.Tag.{TagItem}
use Rattle.dcp_af.specs.Packet.{AfPacket}
use Rattle.mdi_items.specs.Frame.{Frame}
use Rattle.report_text.specs.FaultWords.{af_words, pft_words, mdi_words}
use Rattle.report_dump.specs.PacketContent.{Saying, FrameOf, NoFrame, PacketContent, Fragment, NoFragment, Whole, NoPacket, IsContent}
use Rattle.report_dump.specs.Lines.{fragment_line, af_line, bad_line, tag_line, mdi_line, fac_text, mux_line, entity_line, tail_line}

-- the lines of a data field's entities and tail
unfoldable pub field_text : List Entity → List ℕ → List ℕ
field_text entities tail = flat_map entity_line entities ++ tail_line tail

abbrev pub block_text : Option Block → List ℕ
block_text None = []
block_text (Some block) = field_text block.entities block.tail

-- the lines of a frame, with its block where it has one
unfoldable pub frame_text : Frame → Option Block → List ℕ
frame_text frame block = mdi_line frame ++ (fac_text frame.fac ++ (mux_line frame.mux ++ block_text block))

abbrev pub saying_text : ℕ → Saying → List ℕ
saying_text at (FrameOf frame block) = frame_text frame block
saying_text at (NoFrame fault) = bad_line at (mdi_words fault)

abbrev pub items_text : List TagItem → List ℕ
items_text items = flat_map tag_line items

-- an AF packet and its items
unfoldable pub front_text : ℕ → AfPacket → List TagItem → List ℕ
front_text at p items = af_line at p ++ items_text items

abbrev pub packet_text : ℕ → PacketContent → List ℕ
packet_text at (Fragment f) = fragment_line at f
packet_text at (NoFragment fault) = bad_line at (pft_words fault)
packet_text at (Whole p items saying) = front_text at p items ++ saying_text at saying
packet_text at (NoPacket fault) = bad_line at (af_words fault)

-- whether one of the lines says what is wrong
abbrev pub is_bad : PacketContent → Bool
is_bad (Fragment f) = false
is_bad (NoFragment fault) = true
is_bad (Whole p items (FrameOf frame block)) = false
is_bad (Whole p items (NoFrame fault)) = true
is_bad (NoPacket fault) = true

-- The packet with these bytes, at this byte of its capture, has this text; bad says whether one of its lines tells what is
-- wrong.
abbrev pub IsPacketText : ℕ → List ℕ → List ℕ → Bool → Type 0
IsPacketText at bytes text bad = (content : PacketContent) × IsContent content bytes × (text ≡ packet_text at content) × (bad ≡ is_bad content)
