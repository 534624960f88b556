use Rattle.std.proofs.Common.{append_assoc, refl}
use Rattle.report_text.proofs.fac_line.pieces.Goals as goal

pub returns : goal.returns
returns c =
    rw (c.flag.ensures, c.number.ensures, c.number-2.ensures, c.depth.ensures, c.number-3.ensures, c.flag-2.ensures)
    (rw (c.number-4.ensures, c.number-5.ensures, c.number-6.ensures, c.flag-3.ensures, c.number-7.ensures)
    (rw (c.kind.ensures, c.number-8.ensures, c.flag-4.ensures, c.number-9.ensures)
    (rw (← c.services-services.ensures, c.requires.id)
    (rw append_assoc (rw append_assoc refl)))))
