use Rattle.std.proofs.Common.{◌++◌, ◌∷◌, [], ◌<◌, sym, ap, subst}
use Rattle.recv_reading.proofs.Common.{End, CollectorState, ahead, ReadingReached}
use Rattle.recv_reading.specs.declared.reason.EndWord.TheVariants as word
use Rattle.recv_reading.proofs.Reaching.{reached_end, less_ended, can_end}
use Rattle.recv_reading.proofs.reading.Reading.end.Goals as goal

pub finish-requires : goal.finish-requires
finish-requires c =
    let (options, answers, taken, during, more, z) = c.requires.reached in
    can_end options answers taken during more c.args.self.now c.args.collector.now z c.requires.waits

pub returns-clause-reached : goal.returns-clause-reached
returns-clause-reached c = λ options answers taken during more z.
    subst (λ s. ReadingReached options (answers ++ End ∷ []) taken (during ++ more) [] s c.finish.new.collector) (sym c.finish.ensures.ended)
    (reached_end options answers taken during more c.args.self.now c.args.collector.now z c.requires.waits c.finish.new.collector c.requires.below_limit c.finish.ensures.finished)

pub returns-clause-less : goal.returns-clause-less
returns-clause-less c =
    let (options, answers, taken, during, more, z) = c.requires.reached in
    subst (λ s. ahead s c.finish.new.collector < ahead c.args.self.now c.args.collector.now) (sym c.finish.ensures.ended)
    (less_ended options answers taken during more c.args.self.now c.args.collector.now z c.requires.waits c.finish.new.collector word.Input
    (ap (λ (d : CollectorState). d.next) c.finish.ensures.finished))
