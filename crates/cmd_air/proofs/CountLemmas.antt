-- How many datagrams a script counts for a packet.
use Rattle.std.proofs.Common.{◌≡◌, ℕ, List, length, sym, ap}
use Rattle.drm_schedule.specs.declared.plan.Plan.{Plan}
use Rattle.dcp_pft.specs.Carrying.{datagram_count}
use Rattle.drm_timeline.specs.Numbers.{packet_size}
use Rattle.drm_server.specs.Frames.{IsPacketAt}
use Rattle.drm_server.specs.Datagrams.{HasDatagrams}
use Rattle.plan_script.specs.Script.{fragment_count}

pub datagrams_counted : (plan : Plan) (t : ℕ) (packet : List ℕ) → IsPacketAt plan t packet → length packet ≡ packet_size plan t → HasDatagrams plan t (fragment_count plan t)
unfolding fragment_count
datagrams_counted plan t packet is len = record {
  packet = packet;
  is_packet = is;
  is = ap (datagram_count plan.carry) (sym len);
}
