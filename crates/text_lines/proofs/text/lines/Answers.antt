use Rattle.text_lines.proofs.LineLemmas.{without_last, with_last, no_last}
use Rattle.text_lines.proofs.text.lines.Goals.{in-Some+then-not-is_empty+in_default-push, in-Some+else-not-is_empty, in_default}
use Rattle.text_lines.proofs.text.lines.Goals as goal

pub returns : goal.returns
returns c =
    elim c.match-pop.branch [
      | in-Some+then-not-is_empty+in_default-push w ↦ rw (w.lines-is, w.in_default-push.ensures.items) (with_last c.in_ok-lines.lines.items c.pop.new.self.items w.in-Some.last _ w.is_empty.result w.in-Some.ensures.items c.in_ok-lines.ensures w.is_empty.ensures w.if-not-is_empty.true)
      | in-Some+else-not-is_empty w ↦ rw w.lines-is (without_last c.in_ok-lines.lines.items c.pop.new.self.items w.in-Some.last _ w.is_empty.result w.in-Some.ensures.items c.in_ok-lines.ensures w.is_empty.ensures w.if-not-is_empty.false)
      | in_default w ↦ rw w.lines-is (no_last c.in_ok-lines.lines.items c.pop.new.self.items _ _ w.in_default.ensures.items c.pop.ensures.rest w.in_default.ensures.cases.0 c.in_ok-lines.ensures)
    ]
