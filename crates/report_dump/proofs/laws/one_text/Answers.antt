use Rattle.report_dump.proofs.OneText.{one_text}
use Rattle.report_dump.proofs.laws.one_text.Goals as goal

pub returns : goal.returns
returns c = λ at bytes text other bad worse is is_too. one_text at bytes text other bad worse is is_too
