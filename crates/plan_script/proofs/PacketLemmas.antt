-- A packet of a schedule, as it is counted.
use Rattle.std.proofs.Common.{◌≡◌, ℕ, ap, ◌∙◌}
use Rattle.drm_schedule.specs.declared.plan.Plan.{Plan}
use Rattle.dcp_pft.specs.Carrying.{datagram_count, datagram_size}
use Rattle.plan_script.specs.declared.packet.SchedulePacket.{SchedulePacket}
use Rattle.plan_script.specs.Script.{fragment_count, delivery_size, delivery}
use Rattle.plan_script.specs.Steps.{IsPacket}

pub counted : (plan : Plan) (p : SchedulePacket) (n : ℕ) → IsPacket plan p → n ≡ datagram_count plan.carry p.len → n ≡ fragment_count plan p.number
unfolding fragment_count
counted plan p n is same = same ∙ ap (datagram_count plan.carry) is.size

pub sized : (plan : Plan) (p : SchedulePacket) (i n : ℕ) → IsPacket plan p → n ≡ datagram_size plan.carry p.len i → n ≡ delivery_size plan (delivery p.number i)
unfolding delivery_size
sized plan p i n is same = same ∙ ap (λ len. datagram_size plan.carry len i) is.size
