-- What is said of a schedule under another carry is said of the schedule.
use Rattle.std.proofs.Common.{ℕ, List}
use Rattle.std.specs.Prelude.{ℤ}
use Rattle.dcp_pft.specs.declared.carry.Carry.{Carry}
use Rattle.drm_schedule.specs.declared.plan.Plan.{Plan}
use Rattle.mod_feed.specs.Feeding.{FeedStep}
use Rattle.law_delivery.specs.OtherCarry.{under}
use Rattle.law_delivery.proofs.OtherCarry.{frame_under}
use Rattle.law_frame_lines.specs.Line.{IsFrameLine}
use Rattle.recv_report.specs.Headline.{ReportsSwitches}
use Rattle.law_agreement.specs.Reconfigurations.{GivenItems, GivesCountdown, ReportsReconfigurations}

-- a frame's line
pub line_of_schedule : (carry : Carry) (plan : Plan) (t q : ℕ) (line : List ℕ) → IsFrameLine (under carry plan) t q line → IsFrameLine plan t q line
line_of_schedule carry plan t q line is = record {
  parts = is.parts;
  frame = frame_under plan.carry (under carry plan) t is.parts is.frame;
  fac = is.fac;
  is_fac = is.is_fac;
  multiplex = is.multiplex;
  is_multiplex = is.is_multiplex;
  line_is = is.line_is;
}

-- where switches stand
pub switches_of_schedule : (carry : Carry) (plan : Plan) (first_frame : ℤ) (steps : List FeedStep) → ReportsSwitches (under carry plan) first_frame steps → ReportsSwitches plan first_frame steps
switches_of_schedule carry plan first_frame steps is = record { only = is.only; each = is.each; none_resumed = is.none_resumed }

-- whether a countdown is given, in both directions
countdown_of : (carry : Carry) (plan : Plan) (start : ℕ) (items : GivenItems) → GivesCountdown (under carry plan) start items → GivesCountdown plan start items
countdown_of carry plan start items gives = record { t = gives.t; q = gives.q; step = gives.step; is = gives.is; is_frame = gives.is_frame; counts = gives.counts }

countdown_under : (carry : Carry) (plan : Plan) (start : ℕ) (items : GivenItems) → GivesCountdown plan start items → GivesCountdown (under carry plan) start items
countdown_under carry plan start items gives = countdown_of plan.carry (under carry plan) start items gives

-- what is reported of reconfigurations
pub reconfigurations_of_schedule : (carry : Carry) (plan : Plan) (items : GivenItems) → ReportsReconfigurations (under carry plan) items → ReportsReconfigurations plan items
reconfigurations_of_schedule carry plan items reports = record {
  only = reports.only;
  exactly = λ start. (
    λ switches. let (gives, has) = (reports.exactly start).0 switches in (countdown_of carry plan start items gives, has),
    λ can. (reports.exactly start).1 (countdown_under carry plan start items can.0, can.1),
  );
  resumed = λ q p step at before.
      let (same, follows) = reports.resumed q p step at before in (
        same,
        record {
          t = follows.t;
          is = follows.is;
          is_frame = follows.is_frame;
          start = follows.start;
          starts = follows.starts;
          behind = follows.behind;
          missed = λ gives. follows.missed (countdown_under carry plan follows.start items gives);
        },
      );
}
