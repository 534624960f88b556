use Rattle.std.proofs.Common.{ℕ, ◌≡◌, ◌+◌, ◌++◌, ◌∷◌, [], ◌<◌, arith, sym, ap, subst, ◌∙◌}
use Rattle.recv_reading.proofs.Common.{Idle, CollectorState, after_finish, ReadingState, ahead, ReadingReached}
use Rattle.recv_reading.specs.declared.reason.EndWord.TheVariants as word
use Rattle.recv_reading.specs.State.{one_idle, ended_by}
use Rattle.recv_reading.specs.ReadingReached.{CanEnd}
use Rattle.recv_reading.proofs.Reaching.{fewer_idles, reached_idle, reached_last_idle, less_idle, less_last_idle, can_end}
use Rattle.recv_reading.proofs.reading.Reading.idle.Goals as goal

pub finish-requires : goal.finish-requires
finish-requires c =
    let (options, answers, taken, during, more, z) = c.requires.reached in
    subst (λ (r : ReadingState). CanEnd r c.args.collector.now) (sym c.self.view_is)
    (can_end options answers taken during more c.args.self.now c.args.collector.now z c.requires.waits)

pub returns-then-self-most-clause-reached : goal.returns-then-self-most-clause-reached
returns-then-self-most-clause-reached c = λ options answers taken during more z.
    subst (λ s. ReadingReached options (answers ++ Idle ∷ []) taken (during ++ more) [] s c.finish.new.collector)
    (sym (c.finish.ensures.ended ∙ ap (λ r. ended_by word.Idle (one_idle r)) c.self.view_is))
    (reached_last_idle options answers taken during more c.args.self.now c.args.collector.now z c.requires.waits c.finish.new.collector c.requires.below_limit
    (ap (λ (r : ReadingState). r.idles + 1) (sym c.self.view_is) ∙ c.if-self-most.true ∙ ap (λ (r : ReadingState). r.bounds.idle) c.self.view_is)
    (c.finish.ensures.finished ∙ ap (λ (r : ReadingState). after_finish c.args.collector.now r.bounds.frames) c.self.view_is))

pub returns-then-self-most-clause-less : goal.returns-then-self-most-clause-less
returns-then-self-most-clause-less c =
    let (options, answers, taken, during, more, z) = c.requires.reached in
    subst (λ s. ahead s c.finish.new.collector < ahead c.args.self.now c.args.collector.now)
    (sym (c.finish.ensures.ended ∙ ap (λ r. ended_by word.Idle (one_idle r)) c.self.view_is))
    (less_last_idle options answers taken during more c.args.self.now c.args.collector.now z c.requires.waits c.finish.new.collector
    (ap (λ (r : ReadingState). r.idles + 1) (sym c.self.view_is) ∙ c.if-self-most.true ∙ ap (λ (r : ReadingState). r.bounds.idle) c.self.view_is)
    (ap (λ (d : CollectorState). d.next) c.finish.ensures.finished))

more_idles : (old new idles idle : ℕ) → old ≡ idles → new ≡ idle → idles < idle → (old + 1 ≡ new → ⊥) → idles + 1 < idle
more_idles old new idles idle is same less other = grind (arith, is, same, less)

pub returns-else-self-most-clause-reached : goal.returns-else-self-most-clause-reached
returns-else-self-most-clause-reached c = λ options answers taken during more z.
    subst (λ s. ReadingReached options (answers ++ Idle ∷ []) taken (during ++ more) [] s c.args.collector.now) (sym (ap one_idle c.self.view_is))
    (reached_idle options answers taken during more c.args.self.now c.args.collector.now z c.requires.waits c.requires.below_limit
    (more_idles c.self.inside.idles c.self.inside.bounds.idle c.args.self.now.idles c.args.self.now.bounds.idle
    (ap (λ (r : ReadingState). r.idles) c.self.view_is) (ap (λ (r : ReadingState). r.bounds.idle) c.self.view_is)
    (fewer_idles options answers taken during more c.args.self.now c.args.collector.now z c.requires.waits) c.if-self-most.false))

pub returns-else-self-most-clause-less : goal.returns-else-self-most-clause-less
returns-else-self-most-clause-less c =
    let (options, answers, taken, during, more, z) = c.requires.reached in
    subst (λ s. ahead s c.args.collector.now < ahead c.args.self.now c.args.collector.now) (sym (ap one_idle c.self.view_is))
    (less_idle options answers taken during more c.args.self.now c.args.collector.now z c.requires.waits
    (more_idles c.self.inside.idles c.self.inside.bounds.idle c.args.self.now.idles c.args.self.now.bounds.idle
    (ap (λ (r : ReadingState). r.idles) c.self.view_is) (ap (λ (r : ReadingState). r.bounds.idle) c.self.view_is)
    (fewer_idles options answers taken during more c.args.self.now c.args.collector.now z c.requires.waits) c.if-self-most.false))
