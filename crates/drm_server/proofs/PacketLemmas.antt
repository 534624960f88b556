-- A packet, made around its payload.
use Rattle.std.proofs.Common.{◌≡◌, ◌≤◌, ◌<◌, ◌+◌, ◌-◌, ℕ, true, Option, Some, List, ◌++◌, length, take, drop, sym, ap, subst, ◌∙◌, arith}
use Rattle.std.specs.List.{slice_range}
use Rattle.std.proofs.lemmas.List.{length-take-le, take-append-le}
use Rattle.std.proofs.Math.Seq.{drop-append_seam}
use Rattle.drm_schedule.specs.declared.plan.Plan.{Plan}
use Rattle.drm_bits.specs.Bits.{IsBytes}
use Rattle.dcp_af.specs.Packet.{IsAf}
use Rattle.drm_schedule.specs.declared.live.Live.{Live}
use Rattle.drm_schedule.specs.Valid.{IsSchedule}
use Rattle.drm_timeline.specs.Numbers.{frame_count, sequence_number}
use Rattle.live_streams.specs.Live.{streams_with, piece_at, live_schedule}
use Rattle.live_streams.proofs.FrameLemmas.{same_sequence_number}
use Rattle.drm_server.specs.Frames.{IsFrameAt, IsPacketAt}
use Rattle.drm_server.specs.Placing.{IsPayloadWith}
use Rattle.drm_server.specs.ServerState.{only_at}
use Rattle.drm_server.proofs.LiveLemmas.{frame_with, only_here, only_whole}

pub packet_is : (live : Live) (piece : List ℕ) (plan : Plan) (t seq : ℕ) (payload stands packet : List ℕ) → IsSchedule plan → length piece ≡ piece_at live plan t → t < frame_count plan
    → IsPayloadWith live piece plan t payload → stands ≡ payload → seq ≡ sequence_number plan t
    → IsAf (record { seq = seq; checked = true; minor = 0; payload = stands }) packet → IsBytes packet → IsPacketAt (live_schedule live (only_at t piece) plan) t packet
packet_is live piece plan t seq payload stands packet valid whole within (parts, frame, written) same number is small = record {
  parts = record parts { streams = streams_with live (Some piece) parts.streams };
  frame = subst (λ (input : Option (List ℕ)). IsFrameAt (live_schedule live (only_at t piece) plan) t (record parts { streams = streams_with live input parts.streams })) (only_here t piece)
      (frame_with live (only_at t piece) plan t valid (only_whole live plan t piece whole) within parts frame);
  payload = payload;
  written = written;
  is = subst (λ (n : ℕ). IsAf (record { seq = n; checked = true; minor = 0; payload = payload }) packet) (number ∙ sym (same_sequence_number live (only_at t piece) plan t))
      (subst (λ (l : List ℕ). IsAf (record { seq = seq; checked = true; minor = 0; payload = l }) packet) same is);
  octets = small;
}

-- what was written behind the head stands there
pub behind_head : (old room rest : List ℕ) (n : ℕ) → 10 ≤ length old → n ≤ length room → slice_range (take 10 old ++ (room ++ rest)) 10 (n + 10) ≡ take n room
behind_head old room rest n long fits =
    let front : List ℕ = take 10 old in
    let ten : length front ≡ 10 = length-take-le 10 old long in
    let behind : drop 10 (front ++ (room ++ rest)) ≡ room ++ rest = ap (λ k. drop k (front ++ (room ++ rest))) (sym ten) ∙ drop-append_seam front (room ++ rest) in
    ap (take (n + 10 - 10)) behind ∙ (ap (λ k. take k (room ++ rest)) (let e : n + 10 - 10 ≡ n = omega arith in e) ∙ take-append-le n room rest fits)
