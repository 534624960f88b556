-- Modulators, and how one schedule reaches each of them.
use Rattle.std.specs.Prelude.{ℕ, ℤ, ◌≡◌, List}
use Rattle.dcp_pft.specs.declared.carry.Carry.{Carry}
use Rattle.drm_links.specs.Link.{Answer}
use Rattle.drm_schedule.specs.declared.plan.Plan.{Plan}
use Rattle.drm_schedule.specs.Valid.{IsSchedule}
use Rattle.mod_feed.specs.Feeding.{FeedStep}
use Rattle.law_delivery.specs.OtherCarry.{under}
use Rattle.law_delivery.specs.Sent.{Arrival, pairs_in, IsDeliveryOf}
use Rattle.law_delivery.specs.Given.{AreGiven}
use Rattle.recv_reading.specs.declared.options.PacketRange.{PacketRange}
use Rattle.recv_reading.specs.declared.options.ReceiveOptions.{ReceiveOptions}
use Rattle.recv_reading.specs.declared.reason.EndWord.{EndWord}
use Rattle.recv_reading.specs.Ending.{datagrams}
use Rattle.recv_reading.specs.Values.{packet_range}
use Rattle.report_text.specs.Reports.{Report, report, is_clean}
use Rattle.recv_report.specs.Headline.{foreign_datagrams}
use Rattle.law_agreement.specs.Reconfigurations.{GivenItems}
use Rattle.law_agreement.specs.Agreement.{AreAlike}

-- A modulator: which packets it receives, the datagrams that it received, and its report of them.
pub record Modulator : Type 0 where
  pub range : PacketRange
  pub received : List (List ℕ)
  pub report : Report

-- the modulator that a receiver by these options stands for, which read these answers
abbrev pub receiver : ReceiveOptions → List Answer → Report → Modulator
receiver rules answers r = record { range = packet_range rules.window rules.reach rules.first rules.frames; received = datagrams answers; report = r }

-- How a schedule reaches a modulator: under which carry, from which frame on its items are numbered, and what arrives.
pub record Reception : Type 0 where
  pub carry : Carry
  pub first_frame : ℤ
  pub arrivals : List Arrival

-- The schedule, valid under that carry, reaches the modulator so: what it received is a delivery of the schedule that it can follow, with
-- any losses, repetitions, order and foreign datagrams.
pub record ReceivesSchedule (plan : Plan) (m : Modulator) (by : Reception) : Type 0 where
  pub valid : IsSchedule (under by.carry plan)
  pub delivery : IsDeliveryOf (under by.carry plan) m.range.reach m.range.first by.first_frame by.arrivals m.received

-- Its report is that of what this delivery calls for.
pub record ReportsSchedule (plan : Plan) (m : Modulator) (by : Reception) : Type 0 where
  pub feed : ℕ
  pub steps : List FeedStep
  pub given : AreGiven (under by.carry plan) m.range.window by.first_frame m.range.frame_limit (pairs_in by.arrivals) steps
  pub word : EndWord
  pub text_is : m.report.text ≡ report feed steps (foreign_datagrams by.arrivals) word
  pub clean_is : m.report.clean ≡ is_clean steps

-- what the headline says of a modulator: whatever schedule reaches it, and however, it reports that
abbrev pub HeadlineFor : Modulator → Type 0
HeadlineFor m = (plan : Plan) (by : Reception) → ReceivesSchedule plan m by → ReportsSchedule plan m by

abbrev pub items_of : Reception → List FeedStep → GivenItems
items_of by steps = record { first_frame = by.first_frame; steps = steps }

-- Both report the schedule, and what they report is alike.
pub record AgreeOnSchedule (plan : Plan) (one other : Modulator) (by by' : Reception) : Type 0 where
  pub this : ReportsSchedule plan one by
  pub that : ReportsSchedule plan other by'
  pub alike : AreAlike plan (items_of by this.steps) (items_of by' that.steps)

-- THE TWO AGREE: whatever schedule reaches both, and however it reaches each.
abbrev pub ModulatorsAgree : Modulator → Modulator → Type 0
ModulatorsAgree one other =
    (plan : Plan) (by by' : Reception) → ReceivesSchedule plan one by → ReceivesSchedule plan other by' → AgreeOnSchedule plan one other by by'
