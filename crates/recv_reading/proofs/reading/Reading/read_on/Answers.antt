use Rattle.std.proofs.Common.{◌++◌, [], ◌<◌, sym, ap, subst, ◌∙◌}
use Rattle.std.proofs.lemmas.List.{append-nil}
use Rattle.recv_reading.proofs.Common.{CollectorState, ReadingState, ahead, ReadingReached}
use Rattle.recv_reading.specs.declared.reason.EndWord.TheVariants as word
use Rattle.recv_reading.proofs.Reaching.{reached_limit, less_ended, can_end}
use Rattle.recv_reading.proofs.reading.Reading.read_on.Goals as goal

pub finish-requires : goal.finish-requires
finish-requires g c =
    let (options, answers, taken, during, more, z) = c.requires.reached in
    can_end options answers taken during more c.args.self.now c.args.collector.now z c.requires.waits

pub returns-then-self-clause-reads : goal.returns-then-self-clause-reads
returns-then-self-clause-reads g c = λ start options answers taken during more so_far z. (
  [],
  subst (g.R.Datagrams.so_far start c.args.reader.now c.args.from.now) (sym (append-nil answers)) so_far,
  subst (λ l. ReadingReached options l taken (during ++ more) [] c.finish.new.self c.finish.new.collector) (sym (append-nil answers))
      (subst (λ s. ReadingReached options answers taken (during ++ more) [] s c.finish.new.collector) (sym c.finish.ensures.ended)
      (reached_limit options answers taken during more c.args.self.now c.args.collector.now z c.requires.waits c.finish.new.collector
      (ap (λ (r : ReadingState). r.taken) (sym c.self.view_is) ∙ c.if-self.true ∙ ap (λ (r : ReadingState). r.bounds.limit) c.self.view_is) c.finish.ensures.finished)),
)

pub returns-then-self-clause-less : goal.returns-then-self-clause-less
returns-then-self-clause-less g c =
    let (options, answers, taken, during, more, z) = c.requires.reached in
    subst (λ s. ahead s c.finish.new.collector < ahead c.args.self.now c.args.collector.now) (sym c.finish.ensures.ended)
    (less_ended options answers taken during more c.args.self.now c.args.collector.now z c.requires.waits c.finish.new.collector word.Limit
    (ap (λ (d : CollectorState). d.next) c.finish.ensures.finished))
