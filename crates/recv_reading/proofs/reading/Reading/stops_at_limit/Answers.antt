use Rattle.std.proofs.Common.{◌≡◌, ◌++◌, [], ◌<◌, sym, ap, subst, ◌∙◌}
use Rattle.recv_reading.proofs.Common.{CollectorState, ReadingState, ahead, ReadingReached}
use Rattle.recv_reading.specs.declared.reason.EndWord.TheVariants as word
use Rattle.recv_reading.proofs.Reaching.{reached_limit, less_ended, can_end}
use Rattle.recv_reading.proofs.reading.Reading.stops_at_limit.Goals as goal

pub finish-requires : goal.finish-requires
finish-requires c =
    let (options, answers, taken, during, more, z) = c.requires.reached in
    can_end options answers taken during more c.args.self.now c.args.collector.now z c.requires.waits

pub returns-clause-reached : goal.returns-clause-reached
returns-clause-reached c = λ options answers taken during more z yes.
    subst (λ s. ReadingReached options answers taken (during ++ more) [] s c.finish.new.collector) (sym c.finish.ensures.ended)
    (reached_limit options answers taken during more c.args.self.now c.args.collector.now z c.requires.waits c.finish.new.collector
    (ap (λ (r : ReadingState). r.taken) (sym c.self.view_is) ∙ c.if-self.false ∙ ap (λ (r : ReadingState). r.bounds.limit) c.self.view_is) c.finish.ensures.finished)

pub returns-clause-less : goal.returns-clause-less
returns-clause-less c =
    let (options, answers, taken, during, more, z) = c.requires.reached in
    λ yes. subst (λ s. ahead s c.finish.new.collector < ahead c.args.self.now c.args.collector.now) (sym c.finish.ensures.ended)
    (less_ended options answers taken during more c.args.self.now c.args.collector.now z c.requires.waits c.finish.new.collector word.Limit
    (ap (λ (d : CollectorState). d.next) c.finish.ensures.finished))
