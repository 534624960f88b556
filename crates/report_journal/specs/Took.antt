-- What became of a datagram.
use Rattle.dcp_collect.specs.declared.taken.Taken.{Taken}
use Rattle.report_journal.specs.declared.event.Event.{Event}
use Rattle.report_journal.specs.declared.event.Event.TheVariants.{Took, NoMemory}

-- where it was taken, P holds of the answer
abbrev pub IfTook : Event → (Taken → Type 0) → Type 0
IfTook (Took answer) P = P answer
IfTook NoMemory P = Unit {0}
