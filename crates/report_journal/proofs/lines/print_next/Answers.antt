use Rattle.std.proofs.Common.{◌∙◌, sym}
use Rattle.dcp_collect.specs.View.{item_of}
use Rattle.mod_feed.specs.Feeding.{step_of}
use Rattle.mod_feed.proofs.FeedingLemmas.{number_is}
use Rattle.report_journal.proofs.lines.print_next.Goals as goal

pub returns-clause-next : goal.returns-clause-next
returns-clause-next g c =
    let item = item_of c.in-Some.given in
    let is = c.in-Some.ensures.out.1 in
    record {
      item = item;
      is = is;
      step = step_of c.step-step.result;
      stepping = record { in_order = number_is c.args.collector.now item is ∙ sym c.requires.in_order; item = c.step-step.ensures.item; before = c.step-step.ensures.before };
      feed = c.step-step.ensures.after;
      calls = c.step-step.ensures.counted;
      counts = c.count.ensures;
      writes = c.write_step.ensures;
    }
