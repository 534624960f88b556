-- A segment as the code has it.
use Rattle.std.specs.Prelude.{◌<◌, ◌≤◌, length}
use Rattle.drm_text.specs.declared.segment.SegmentView.{SegmentView}
use Rattle.drm_text.specs.Segment.{Segment, most_body}

abbrev pub segment_of : SegmentView → Segment
segment_of p =
    record { toggle = p.toggle; first = p.first; last = p.last; number = p.number; body = p.body.now }

-- a segment that has a spelling
pub record FitsSegment (s : Segment) : Type 0 where
  pub some : 1 ≤ length s.body
  pub few : length s.body ≤ most_body
  pub number : s.number < 16
