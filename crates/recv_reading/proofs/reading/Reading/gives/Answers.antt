use Rattle.std.proofs.Common.{◌++◌, ◌∷◌, [], ◌<◌, sym, ap, subst, ◌∙◌}
use Rattle.dcp_collect.specs.CollectorState.{after_item}
use Rattle.recv_reading.specs.State.{one_given, ahead}
use Rattle.recv_reading.specs.ReadingReached.{ReadingReached}
use Rattle.recv_reading.proofs.Reaching.{reached_given, less_given}
use Rattle.recv_reading.proofs.reading.Reading.gives.Goals as goal

pub returns-clause-reached : goal.returns-clause-reached
returns-clause-reached c = λ options answers taken during more item z given is.
    subst (λ s. ReadingReached options answers taken during (more ++ item ∷ []) s (after_item c.args.collector.now)) (sym (ap one_given c.self.view_is))
    (reached_given options answers taken during more c.args.self.now c.args.collector.now z item (sym c.has_enough.ensures ∙ c.if-has_enough.false) (sym c.ready.ensures.ready ∙ c.if-not-ready.false) is)

pub returns-clause-less : goal.returns-clause-less
returns-clause-less c = λ given.
    let (options, answers, taken, during, more, z) = c.requires.reached in
    subst (λ s. ahead s (after_item c.args.collector.now) < ahead c.args.self.now c.args.collector.now) (sym (ap one_given c.self.view_is))
    (less_given options answers taken during more c.args.self.now c.args.collector.now z (c.ready.ensures.in_range c.if-not-ready.false))
