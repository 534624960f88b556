-- What is sent in a frame doesn't depend on how it is carried.
use Rattle.std.proofs.Common.{ℕ, ◌%◌, ◌/◌, ◌==◌, Bool, true, false, List, Option}
use Rattle.mdi_items.specs.RoundTrip.{Parts, BlockBytes}
use Rattle.dcp_pft.specs.declared.carry.Carry.{Carry}
use Rattle.drm_schedule.specs.declared.plan.Plan.{Plan}
use Rattle.drm_server.specs.Frames.{HasBlockWhere, IsFrameAt, IsPacketAt}
use Rattle.law_delivery.specs.OtherCarry.{under}

block_under : (carry : Carry) (plan : Plan) (first : Bool) (sf room : ℕ) (block : Option BlockBytes) → HasBlockWhere first plan sf room block → HasBlockWhere first (under carry plan) sf room block
block_under carry plan true sf room block (bytes, same, at) = (
  bytes,
  same,
  record { block = at.block; is = at.is; bits = at.bits; size = at.size; octets = at.octets; spelled = at.spelled; padding = at.padding },
)
block_under carry plan false sf room block none = none

pub frame_under : (carry : Carry) (plan : Plan) (t : ℕ) (parts : Parts) → IsFrameAt plan t parts → IsFrameAt (under carry plan) t parts
frame_under carry plan t parts frame = record {
  config = frame.config;
  holds = frame.holds;
  count = frame.count;
  fac = frame.fac;
  mux = frame.mux;
  mode = frame.mode;
  block = block_under carry plan (t % 3 == 0) (t / 3) frame.config.room parts.block frame.block;
  streams = frame.streams;
}

pub packet_under : (carry : Carry) (plan : Plan) (t : ℕ) (packet : List ℕ) → IsPacketAt plan t packet → IsPacketAt (under carry plan) t packet
packet_under carry plan t packet at = record {
  parts = at.parts;
  frame = frame_under carry plan t at.parts at.frame;
  payload = at.payload;
  written = at.written;
  is = at.is;
  octets = at.octets;
}
