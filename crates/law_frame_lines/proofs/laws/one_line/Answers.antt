use Rattle.law_frame_lines.proofs.LineLemmas.{has_one_line}
use Rattle.law_frame_lines.proofs.laws.one_line.Goals as goal

pub returns : goal.returns
returns c = has_one_line
