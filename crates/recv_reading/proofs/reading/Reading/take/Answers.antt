use Rattle.std.proofs.Common.{◌++◌, ◌∷◌, [], ◌<◌, sym, ap, subst}
use Rattle.drm_links.specs.Link.{Datagram}
use Rattle.law_collect.proofs.Fit.{fit_taken}
use Rattle.recv_reading.specs.State.{one_taken, ahead}
use Rattle.recv_reading.specs.ReadingReached.{ReadingReached}
use Rattle.recv_reading.proofs.First.{may_taken}
use Rattle.recv_reading.proofs.Reaching.{reached_taken, less_taken, takes_next}
use Rattle.recv_reading.proofs.reading.Reading.take.Goals as goal

pub returns-clause-reached : goal.returns-clause-reached
returns-clause-reached c = λ options answers taken during more z.
    subst (λ s. ReadingReached options (answers ++ Datagram c.args.datagram.now ∷ []) (taken ++ c.take-answer.result ∷ []) (during ++ more) [] s c.take-answer.new.self)
    (sym (ap one_taken c.self.view_is))
    (reached_taken options answers taken during more c.args.self.now c.args.collector.now z c.requires.waits
    c.take-answer.new.self c.args.datagram.now c.take-answer.result c.requires.below_limit c.take-answer.ensures.takes
    (fit_taken c.args.collector.now c.take-answer.new.self c.args.datagram.now c.take-answer.result (λ k. (c.type_inv.datagram k).fits) c.take-answer.ensures.takes z.fit))

pub returns-clause-less : goal.returns-clause-less
returns-clause-less c =
    let (options, answers, taken, during, more, z) = c.requires.reached in
    subst (λ s. ahead s c.take-answer.new.self < ahead c.args.self.now c.args.collector.now) (sym (ap one_taken c.self.view_is))
    (less_taken options answers taken during more c.args.self.now c.args.collector.now z c.requires.waits c.take-answer.new.self c.requires.below_limit
    (takes_next c.args.collector.now c.take-answer.new.self c.args.datagram.now c.take-answer.result c.take-answer.ensures.takes))

pub returns-clause-first : goal.returns-clause-first
returns-clause-first c = λ first may. may_taken c.args.collector.now c.take-answer.new.self c.args.datagram.now c.take-answer.result first c.take-answer.ensures.takes may
