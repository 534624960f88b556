use Rattle.law_frame_lines.proofs.LineLemmas.{served_lines}
use Rattle.law_frame_lines.proofs.laws.served_frames_are_printed.Goals as goal

pub returns : goal.returns
returns c = served_lines
