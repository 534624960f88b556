use Rattle.law_unpack.proofs.LostFrames.{gives_what_frames_bring}
use Rattle.law_unpack.proofs.laws.gives_what_frames_bring.Goals as goal

pub returns : goal.returns
returns c = gives_what_frames_bring
