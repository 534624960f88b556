use Rattle.std.proofs.Common.{Some, None, refl}
use Rattle.drm_text.specs.Writing.{segment_of}
use Rattle.drm_text.proofs.joiner.take_segment.Goals as goal

pub returns-in-Some : goal.returns-in-Some
returns-in-Some c = record {
  read = Some (segment_of c.in-Some.part);
  reads = c.in-Some.ensures.found;
  begun = c.join.ensures.begun;
  whole = c.join.ensures.whole;
  within = c.join.ensures.within;
  room = c.join.ensures.room;
}

pub returns-in-None : goal.returns-in-None
returns-in-None c = record {
  read = None;
  reads = c.in-None.ensures.only;
  begun = c.clear.ensures.none;
  whole = refl;
  within = tt;
  room = c.clear.ensures.room;
}
