-- The frames and packets of a schedule, each read off the schedule for itself (ES 201 980, TS 102 820).
use Rattle.std.specs.Prelude.{ℕ, ◌≡◌, ◌+◌, ◌-◌, ◌*◌, ◌/◌, ◌%◌, ◌^◌, ◌==◌, true, false, Bool, List, map, take, drop, length, Option, Some, None}
use Rattle.drm_bits.specs.Bits.{bits_of, IsBytes}
use Rattle.drm_bits.specs.Crc.{zeros}
use Rattle.drm_sdc.specs.declared.block.Block.{Block}
use Rattle.drm_sdc.specs.Block.{IsBlock}
use Rattle.dcp_pft.specs.Limits.{longest_packet}
use Rattle.dcp_af.specs.Packet.{IsAf}
use Rattle.mdi_items.specs.RoundTrip.{Parts, BlockBytes, IsWrittenOf}
use Rattle.drm_schedule.specs.declared.config.Config.{Config}
use Rattle.drm_schedule.specs.declared.plan.Plan.{Plan}
use Rattle.drm_schedule.specs.Contents.{stream_bytes}
use Rattle.drm_timeline.specs.Standing.{config_of}
use Rattle.drm_timeline.specs.Numbers.{sequence_number}
use Rattle.drm_timeline.specs.FastAccess.{fac_of}
use Rattle.drm_timeline.specs.Description.{description_of}
use Rattle.drm_timeline.specs.Blocks.{block_of}

-- the most bytes of a payload: a packet has 12 around it
abbrev pub longest_payload : ℕ
longest_payload = longest_packet - 12

-- The bits and the bytes are those of the block of super frame sf, and four zero bits behind it.
pub record IsBlockAt (plan : Plan) (sf : ℕ) (room : ℕ) (b : BlockBytes) : Type 0 where
  pub block : Block
  pub is : block_of plan sf ≡ Some block
  pub bits : b.bits ≡ 8 * room + 20
  pub size : length b.value ≡ room + 3
  pub octets : IsBytes b.value
  pub spelled : IsBlock block (take b.bits (bits_of b.value))
  pub padding : drop b.bits (bits_of b.value) ≡ zeros 4

-- the first frame of a super frame has the block, the others have none
abbrev pub HasBlockWhere : Bool → Plan → ℕ → ℕ → Option BlockBytes → Type 0
HasBlockWhere true plan sf room block = (b : BlockBytes) × (block ≡ Some b) × IsBlockAt plan sf room b
HasBlockWhere false plan sf room block = block ≡ None

-- What frame t of a schedule is made of.
pub record IsFrameAt (plan : Plan) (t : ℕ) (parts : Parts) : Type 0 where
  pub config : Config
  pub holds : config_of plan (t / 3) ≡ Some config
  pub count : parts.count ≡ (plan.dlfc + t) % 2 ^ 32
  pub fac : fac_of plan t ≡ Some parts.fac
  pub mux : parts.mux ≡ description_of config
  pub mode : parts.mode ≡ config.mode
  pub block : HasBlockWhere (t % 3 == 0) plan (t / 3) config.room parts.block
  pub streams : parts.streams ≡ map (stream_bytes (t - 3 * config.start)) config.streams

-- The bytes are the AF packet of frame t: its number, and the one spelling of the frame as its payload.
pub record IsPacketAt (plan : Plan) (t : ℕ) (packet : List ℕ) : Type 0 where
  pub parts : Parts
  pub frame : IsFrameAt plan t parts
  pub payload : List ℕ
  pub written : IsWrittenOf parts payload
  pub is : IsAf (record { seq = sequence_number plan t; checked = true; minor = 0; payload = payload }) packet
  pub octets : IsBytes packet
