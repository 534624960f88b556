-- The report of what is ahead of a link.
use Rattle.std.specs.Prelude.{ℕ, pos, ◌≡◌, ◌<◌, ◌⊎◌, List, None, Some}
use Rattle.drm_schedule.specs.declared.plan.Plan.{Plan}
use Rattle.drm_schedule.specs.Valid.{IsSchedule}
use Rattle.drm_links.specs.Link.{Answer}
use Rattle.drm_timeline.specs.Numbers.{frame_count}
use Rattle.law_delivery.specs.Sent.{Arrival, pairs_in, IsDeliveryOf, IsInTime}
use Rattle.drm_links.specs.Hearing.{AreNext}
use Rattle.recv_reading.specs.declared.options.ReceiveOptions.{ReceiveOptions}
use Rattle.recv_reading.specs.Ending.{datagrams, ReadingGoesOn}
use Rattle.report_text.specs.Reports.{Report}
use Rattle.recv_report.specs.Received.{IsReport, IsReportBrokenOff, IsReportPrefix}
use Rattle.recv_report.specs.Headline.{WouldBeRead, HeadlineOf, CompleteOf}

-- The report of what is ahead of a link: of the answers that are read of it. It is that of the delivery that is read, and
-- where each frame is in time of all frames.
pub record IsReportOf (rules : ReceiveOptions) (feed : ℕ) (ahead : List Answer) (r : Report) : Type 0 where
  pub answers : List Answer
  pub rest : List Answer
  pub next : AreNext ahead answers rest
  pub is : IsReport rules feed answers r.text r.clean
  pub headline : HeadlineOf rules feed answers r.text r.clean
  pub complete : CompleteOf rules feed ahead r.text r.clean

-- What is ahead of a link is a delivery of a valid schedule, from its first frame on, in which each frame is in time; the
-- number of frames is the schedule's, or isn't told.
pub record IsInTimeAhead (rules : ReceiveOptions) (ahead : List Answer) : Type 0 where
  pub plan : Plan
  pub valid : IsSchedule plan
  pub arrivals : List Arrival
  pub answers : List Answer
  pub read : WouldBeRead rules ahead answers
  pub followed : IsDeliveryOf plan rules.reach rules.first (pos 0) arrivals (datagrams answers)
  pub frames : (rules.frames ≡ None) ⊎ (rules.frames ≡ Some (frame_count plan))
  pub in_time : (q : ℕ) → q < frame_count plan → IsInTime plan rules.window (pos 0) (pairs_in arrivals) q

-- The text is what is given of what is ahead of a link, which breaks off.
pub record IsGivenOf (rules : ReceiveOptions) (feed : ℕ) (ahead : List Answer) (text : List ℕ) : Type 0 where
  pub answers : List Answer
  pub rest : List Answer
  pub next : AreNext ahead answers rest
  pub is : IsReportBrokenOff rules feed answers text

-- The text is a front of what is written of what is ahead of a link.
pub record IsPrefixAhead (rules : ReceiveOptions) (feed : ℕ) (ahead : List Answer) (text : List ℕ) : Type 0 where
  pub answers : List Answer
  pub rest : List Answer
  pub next : AreNext ahead answers rest
  pub goes_on : ReadingGoesOn rules answers
  pub is : IsReportPrefix rules feed answers text
