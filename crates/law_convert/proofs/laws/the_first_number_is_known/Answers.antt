use Rattle.law_convert.proofs.Firsts.{first_known, first_of_all}
use Rattle.law_convert.proofs.laws.the_first_number_is_known.Goals as goal

pub returns : goal.returns
returns c = record {
  given = first_known c.one_reading.ensures c.refusing.ensures;
  first_of_all = first_of_all c.one_reading.ensures c.refusing.ensures c.one_run.ensures c.all_frames_are_given_at_once.ensures;
}
