-- Modulators behind gateways, each of which sends the schedule on under a carry of its own.
use Rattle.std.specs.Prelude.{ℕ, ℤ, List}
use Rattle.std.specs.List.{AllZip, AllByRecursion}
use Rattle.dcp_pft.specs.declared.carry.Carry.{Carry}
use Rattle.drm_schedule.specs.declared.plan.Plan.{Plan}
use Rattle.law_delivery.specs.OtherCarry.{under}
use Rattle.law_delivery.specs.Sent.{Arrival, IsArrival}
use Rattle.recv_reading.specs.declared.options.ReceiveOptions.{ReceiveOptions}
use Rattle.drm_gate.specs.Passing.{Outcome, sent_of}
use Rattle.law_gate.specs.Laws.{IsDeliveryPassedOn, IsAmong, HaveFirstFrame}
use Rattle.law_agreement.specs.Modulators.{Modulator, Reception, ReceivesSchedule, HeadlineFor, AgreeOnSchedule}

-- A gateway that the schedule reached, under whatever carry, sent it on under this one. What was received is of what it sent, any of it, in any
-- order and with any repetitions, or is a foreign datagram.
pub record ComesByGateway (plan : Plan) (carry : Carry) (received : List (List ℕ)) : Type 0 where
  pub before : Carry
  pub rules : ReceiveOptions
  pub first_frame : ℤ
  pub arrivals : List Arrival
  pub datagrams : List (List ℕ)
  pub fates : List Outcome
  pub passed : IsDeliveryPassedOn (under before plan) carry rules first_frame arrivals datagrams fates
  pub among : AllByRecursion (IsAmong (sent_of fates)) received

-- how the schedule reaches a modulator: under this carry, its items numbered from this frame on, by these arrivals
abbrev pub reception : Carry → ℤ → List Arrival → Reception
reception carry first_frame arrivals = record { carry = carry; first_frame = first_frame; arrivals = arrivals }

-- These are arrivals of the schedule under the carry. If the modulator can follow them, numbered from some frame on, the schedule reaches it so.
pub record ReceivesUnder (plan : Plan) (carry : Carry) (m : Modulator) : Type 0 where
  pub arrivals : List Arrival
  pub arrive : AllZip (IsArrival (under carry plan)) arrivals m.received
  pub receives : (first_frame : ℤ) → HaveFirstFrame plan m.range.reach m.range.first first_frame arrivals m.received
      → ReceivesSchedule plan m (reception carry first_frame arrivals)

-- The schedule reaches a modulator behind a gateway under the gateway's carry.
abbrev pub ReachesBehindGateway : Type 0
ReachesBehindGateway = (plan : Plan) (carry : Carry) (m : Modulator) → ComesByGateway plan carry m.received → ReceivesUnder plan carry m

-- Any two modulators behind gateways, each with a carry of its own, agree, if the headline holds of each.
abbrev pub TwoBehindGateways : Type 0
TwoBehindGateways =
    (plan : Plan) (carry carry' : Carry) (one other : Modulator) → HeadlineFor one → HeadlineFor other
    → ComesByGateway plan carry one.received → ComesByGateway plan carry' other.received
    → (this : ReceivesUnder plan carry one) × (that : ReceivesUnder plan carry' other)
    × ((first_frame first_frame' : ℤ)
    → HaveFirstFrame plan one.range.reach one.range.first first_frame this.arrivals one.received
    → HaveFirstFrame plan other.range.reach other.range.first first_frame' that.arrivals other.received
    → AgreeOnSchedule plan one other (reception carry first_frame this.arrivals) (reception carry' first_frame' that.arrivals))
