use Rattle.drm_plan.proofs.TextLemmas.{right_text, too_long, no_utf8}
use Rattle.drm_plan.proofs.reading.read_plan.Goals as goal

pub returns-in-Ok-clause-read : goal.returns-in-Ok-clause-read
returns-in-Ok-clause-read c = rw (right_text c.args.text.now c.in-Ok.ensures.fits c.in-Ok.ensures.utf8, ← c.in-Ok.ensures.text) c.read_text.ensures

pub returns-in-Err-TooLong-clause-read : goal.returns-in-Err-TooLong-clause-read
returns-in-Err-TooLong-clause-read c = rw c.fault_at_line.ensures (too_long c.in-Err-TooLong.field-0 c.args.text.now c.in-Err-TooLong.field-0-is c.in-Err-TooLong.ensures.fault)

pub returns-in-Err-Utf8-clause-read : goal.returns-in-Err-Utf8-clause-read
returns-in-Err-Utf8-clause-read c =
    rw (c.fault_at_line-in-Err-Utf8.ensures, c.in-Err-Utf8.field-0-is) (no_utf8 c.in-Err-Utf8.field-0 c.in-Err-Utf8.line c.args.text.now c.in-Err-Utf8.field-0-is c.in-Err-Utf8.ensures.fault)
