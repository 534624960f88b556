use Rattle.std.proofs.Common.{◌≡◌, ap, arith}
use Rattle.drm_links.specs.Known.{one_more}
use Rattle.cmd_receive.specs.Stopping.{clean_ending}
use Rattle.cmd_count.proofs.command.count.Goals as goal

-- no write fails where the report goes
pub write_line-requires : goal.write_line-requires
write_line-requires g c = λ is. let rose : 0 ≡ one_more 0 = c.link_totals-counted.ensures.run.receives.write_cause.once (ap clean_ending is) in omega (arith, rose)

pub returns : goal.returns
returns g c = record { run = record { counted = c.link_totals-counted.result; sink = _; reads = c.link_totals-counted.ensures.run; ends = c.write_line.ensures } }
