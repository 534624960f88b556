use Rattle.std.proofs.Common.{ℕ, Option, ap, subst, ◌∙◌, unwrap_or}
use Rattle.dcp_collect.specs.View.{item_of}
use Rattle.cmd_convert.specs.Steps.{ConvertsOne}
use Rattle.cmd_convert.proofs.item.convert_next.Goals as goal

pub returns-clause-next : goal.returns-clause-next
returns-clause-next g c = record {
  item = item_of c.in-Some.given;
  is = c.in-Some.ensures.out.1;
  one = subst (λ (n : ℕ). ConvertsOne c.convert_item.result c.args.cutter.now n
      (item_of c.in-Some.given) c.args.progress.now c.convert_item.new.progress
      (g.O.Sink.known c.args.out.now) (g.O.Sink.known c.convert_item.new.out)
      (g.E.Sink.known c.args.err.now) (g.E.Sink.known c.convert_item.new.err))
      (c.unwrap_or-first.ensures ∙ ap (λ (o : Option ℕ). unwrap_or o 0) c.first.ensures.first)
      c.convert_item.ensures.one;
}
