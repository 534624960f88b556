use Rattle.law_convert.proofs.Runs.{captures_are_converted}
use Rattle.law_convert.proofs.laws.captures_are_converted.Goals as goal

pub returns : goal.returns
returns c =
    captures_are_converted c.packets_in_front.ensures c.read_one_way.ensures c.conversions_are_captures.ensures.range c.conversions_are_captures.ensures.broken
    c.conversions_are_captures.ensures.halted c.none_is_too_large.ensures
