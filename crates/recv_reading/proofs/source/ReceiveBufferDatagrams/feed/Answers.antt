use Rattle.std.proofs.Common.{take, ◌∷◌, []}
use Rattle.drm_links.specs.declared.link.Came.TheVariants as recv
use Rattle.drm_links.specs.Link.{Idle}
use Rattle.drm_links.proofs.Hearing.{heard_more}
use Rattle.recv_reading.proofs.Reaching.{broken, drained}
use Rattle.recv_reading.proofs.source.ReceiveBufferDatagrams.feed.Goals as goal

pub returns-in-Datagram-clause-reads : goal.returns-in-Datagram-clause-reads
returns-in-Datagram-clause-reads g c = λ start options answers taken during more heard z. (
  take c.in-Datagram.len c.recv.new.buf,
  heard_more (g.L.Link.known start) (g.L.Link.known c.args.from.now) (g.L.Link.known c.recv.new.self) answers (recv.Datagram c.in-Datagram.len) c.recv.new.buf heard c.in-Datagram.ensures.answer c.in-Datagram.ensures.counts_call,
  c.take.ensures.reached options answers taken during more z,
)

pub returns-in-Idle-clause-reads : goal.returns-in-Idle-clause-reads
returns-in-Idle-clause-reads g c = λ start options answers taken during more heard z. (
  Idle ∷ [],
  heard_more (g.L.Link.known start) (g.L.Link.known c.args.from.now) (g.L.Link.known c.recv.new.self) answers recv.Idle c.recv.new.buf heard c.in-Idle.ensures.answer c.in-Idle.ensures.counts_call,
  c.idle.ensures.reached options answers taken during more z,
)

pub returns-in-Failed-clause-reads : goal.returns-in-Failed-clause-reads
returns-in-Failed-clause-reads g c = λ start options answers taken during more heard z. (
  heard_more (g.L.Link.known start) (g.L.Link.known c.args.from.now) (g.L.Link.known c.recv.new.self) answers recv.Failed c.recv.new.buf heard c.in-Failed.ensures.answer c.in-Failed.ensures.counts_call,
  broken options answers taken during more c.args.reading.now c.args.collector.now z c.requires.waits c.requires.below_limit,
  (drained options answers taken during more c.args.reading.now c.args.collector.now z c.requires.waits).gave,
)
