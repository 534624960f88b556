use Rattle.law_convert.proofs.Delivery.{collected}
use Rattle.law_convert.proofs.Conversions.{Collects, converting, converting_early, conversions, broken_conversions}
use Rattle.law_convert.proofs.Halted.{halted_conversions}
use Rattle.law_convert.proofs.laws.conversions_are_captures.Goals as goal

pub returns : goal.returns
returns c =
    let collects : Collects = collected c.collecting.ensures c.giving_ends.ensures c.in_time.ensures c.one_run.ensures c.all_frames_are_given_at_once.ensures in
    record {
      whole = converting collects c.one_run.ensures;
      early = converting_early collects c.giving_ends.ensures c.one_run.ensures c.steps_part.ensures;
      range =
          conversions collects c.giving_ends.ensures c.one_reading.ensures c.refusing.ensures c.one_run.ensures c.steps_part.ensures
          c.all_frames_are_given_at_once.ensures;
      broken = broken_conversions collects c.giving_ends.ensures c.one_reading.ensures c.refusing.ensures c.one_run.ensures c.steps_part.ensures;
      halted = halted_conversions collects c.giving_ends.ensures c.one_reading.ensures c.refusing.ensures c.steps_part.ensures;
    }
