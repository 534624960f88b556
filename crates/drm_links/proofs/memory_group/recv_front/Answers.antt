use Rattle.std.proofs.Common.{drop, subst}
use Rattle.drm_links.specs.Link.{Answer}
use Rattle.drm_links.specs.History.{Received}
use Rattle.drm_links.specs.MemoryGroup.{NotesEvent}
use Rattle.drm_links.specs.MemoryLink.{link_known}
use Rattle.drm_links.proofs.GroupLemmas.{fits_more, answer_more, receives_more}
use Rattle.drm_links.proofs.memory_group.recv_front.Goals as goal

pub returns-clause-front : goal.returns-clause-front
returns-clause-front c = fits_more c.recv_into.result c.recv_into.new.front (drop 65536 c.args.buf.now) c.recv_into.ensures.front

pub returns-clause-notes : goal.returns-clause-notes
returns-clause-notes c =
    subst (λ (a : Answer). NotesEvent (Received a) c.args.book.now c.recv_into.new.book) (answer_more c.recv_into.result c.recv_into.new.front (drop 65536 c.args.buf.now) c.recv_into.ensures.front) c.recv_into.ensures.notes

pub returns-clause-answer : goal.returns-clause-answer
returns-clause-answer c =
    receives_more c.recv_into.result c.recv_into.new.front (drop 65536 c.args.buf.now) (link_known c.args.source.now) (link_known c.recv_into.new.source) c.recv_into.ensures.front c.recv_into.ensures.answer
