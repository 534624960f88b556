use Rattle.std.proofs.Common.{◌≡◌, ◌+◌, ◌<◌, ◌^◌, length, take, drop, ap, ◌∙◌, arith}
use Rattle.std.proofs.lemmas.Result.{err_from_is_err_and}
use Rattle.drm_links.proofs.KnownLemmas.{done_counts}
use Rattle.drm_links.proofs.WritingLemmas.{Writes-done}
use Rattle.cmd_unpack.proofs.Pieces.{come_none, come_one, come_broken, come_all, come_below, below_weaker}
use Rattle.cmd_unpack.proofs.units.UnitTaker.take_pieces.Goals as goal

pub pieces-init : goal.pieces-init
pieces-init g c = (come_none c.args.self.now c.args.bytes.now (g.O.Sink.known c.args.out.now) c.requires.whole c.requires.joiner (λ k. (c.type_inv.bytes k).fits), omega (arith, c.from-size.ensures))

pub take_piece-requires : goal.take_piece-requires
take_piece-requires g c =
    let small : length c.args.bytes.now < 2 ^ 64 = omega arith in
    record { room = below_weaker c.pieces.self.counts _ _ (omega (arith, small)) (c.pieces.invariant.0.room (2 ^ 126) c.requires.room) }

pub returns-in_err-take_piece-clause-takes : goal.returns-in_err-take_piece-clause-takes
returns-in_err-take_piece-clause-takes g c =
    let i = c.pieces.invariant in
    let p = err_from_is_err_and c.from_residual.result c.from_residual.ensures.1 in
    let (event, reads, joiner, counts, writes) = c.take_piece.ensures.takes in
    let size : c.from-size.result + 3 ≡ c.args.self.now.length + 3 = i.1 in
    rw p.1
    (come_broken c.args.self.now c.pieces.self _ c.args.bytes.now c.pieces.rest.now c.split_at.result.0.now c.split_at.result.1.now event c.take_piece.new.joiner c.take_piece.new.counts
    (g.O.Sink.known c.args.out.now) (g.O.Sink.known c.pieces.out) (g.O.Sink.known c.take_piece.new.out) c.take_piece.result c.in_err-take_piece.field-0.0 p.0
    i.0 (omega (arith, size, c.pieces-test.true)) (c.split_at.ensures.front ∙ ap (λ n. take n c.pieces.rest.now) size) (c.split_at.ensures.back ∙ ap (λ n. drop n c.pieces.rest.now) size)
    reads joiner counts c.in_err-take_piece.was writes)

pub pieces-preserved : goal.pieces-preserved
pieces-preserved g c =
    let i = c.pieces.invariant in
    let (event, reads, joiner, counts, writes) = c.take_piece.ensures.takes in
    let size : c.from-size.result + 3 ≡ c.args.self.now.length + 3 = i.1 in (
      come_one c.args.self.now c.pieces.self c.args.bytes.now c.pieces.rest.now c.split_at.result.0.now c.split_at.result.1.now event c.take_piece.new.joiner c.take_piece.new.counts
          (g.O.Sink.known c.args.out.now) (g.O.Sink.known c.pieces.out) (g.O.Sink.known c.take_piece.new.out)
          i.0 (omega (arith, size, c.pieces-test.true)) (c.split_at.ensures.front ∙ ap (λ n. take n c.pieces.rest.now) size) (c.split_at.ensures.back ∙ ap (λ n. drop n c.pieces.rest.now) size)
          reads joiner counts (Writes-done c.in_ok-take_piece.was writes) (done_counts c.in_ok-take_piece.was writes.cause),
      i.1,
    )

pub returns-clause-takes : goal.returns-clause-takes
returns-clause-takes g c = come_all c.args.self.now c.pieces.self c.args.bytes.now c.pieces.rest.now (g.O.Sink.known c.args.out.now) (g.O.Sink.known c.pieces.out) c.pieces.invariant.0 (omega (arith, c.pieces.invariant.1, c.pieces-test.false))

pub returns-clause-grows : goal.returns-clause-grows
returns-clause-grows g c = come_below c.args.self.now c.pieces.self c.args.bytes.now c.pieces.rest.now (g.O.Sink.known c.args.out.now) (g.O.Sink.known c.pieces.out) c.pieces.invariant.0 (omega arith)
