use Rattle.std.proofs.Common.{◌≡◌, ℕ, ◌+◌, ◌/◌, ◌%◌, min, length, List, take, sym, subst, ◌∙◌, arith}
use Rattle.std.specs.Prelude.{Ok, Err}
use Rattle.std.proofs.lemmas.Result.{err_from_is_err_and}
use Rattle.drm_links.proofs.KnownLemmas.{done_counts}
use Rattle.drm_links.proofs.WritingLemmas.{Writes-done}
use Rattle.drm_data.specs.Units.{unit_packet}
use Rattle.drm_data.specs.Writing.{IsWrittenPacket}
use Rattle.cmd_pack.proofs.Written.{wrote_none, wrote_one, wrote_broken, wrote_all, ceil_is, WritesUnit}
use Rattle.cmd_pack.proofs.packing.write_unit.Goals as goal

pub loop-k-init : goal.loop-k-init
loop-k-init g c =
    let d : c.from.result ≡ c.args.packer.now.length = c.from.ensures ∙ c.requires.length in (
      wrote_none c.args.packer.now c.args.unit.now (g.O.Sink.known c.args.out.now) c.requires.continuity,
      ceil_is c.args.packer.now.length (length c.args.unit.now) c.div_ceil-count.result (omega (arith, c.requires.at_least_one, c.requires.length)) (subst (λ n. c.div_ceil-count.result ≡ length c.args.unit.now / n + min 1 (length c.args.unit.now % n)) d c.div_ceil-count.ensures),
    )

pub returns-in_err-write_all-clause-writes : goal.returns-in_err-write_all-clause-writes
returns-in_err-write_all-clause-writes g c =
    let i = c.loop-k.invariant in
    let p = err_from_is_err_and c.from_residual.result c.from_residual.ensures.1 in
    let start = c.args.packer.now in
    let q = c.loop-k.packer in
    let a = g.O.Sink.known c.args.out.now in
    let o = g.O.Sink.known c.write_all.new.out in
    let bytes : List ℕ = take c.unit_packet-len.result c.unit_packet-len.new.into in
    let one = subst (λ n. IsWrittenPacket n (unit_packet q.id q.length q.continuity c.args.unit.now c.loop-k.k) bytes) i.0.size c.unit_packet-len.ensures.packet in
    rw p.1
    (subst (λ d. WritesUnit (Err p.0) start.id d start.continuity c.args.unit.now a o) (sym c.requires.length)
    (wrote_broken start q c.args.unit.now c.loop-k.k a (g.O.Sink.known c.loop-k.out) o bytes c.write_all.result c.in_err-write_all.field-0.0 p.0 c.requires.id
    i.0 (let e = i.1 in let below = c.loop-k-test.true in omega (arith, e, below)) one c.in_err-write_all.was c.write_all.ensures))

pub loop-k-preserved : goal.loop-k-preserved
loop-k-preserved g c =
    let i = c.loop-k.invariant in
    let q = c.loop-k.packer in
    let bytes : List ℕ = take c.unit_packet-len.result c.unit_packet-len.new.into in
    let one = subst (λ n. IsWrittenPacket n (unit_packet q.id q.length q.continuity c.args.unit.now c.loop-k.k) bytes) i.0.size c.unit_packet-len.ensures.packet in (
      wrote_one c.args.packer.now q c.unit_packet-len.new.self c.args.unit.now c.loop-k.k (g.O.Sink.known c.args.out.now) (g.O.Sink.known c.loop-k.out) (g.O.Sink.known c.write_all.new.out) bytes
          i.0 (let e = i.1 in let below = c.loop-k-test.true in omega (arith, e, below)) one c.unit_packet-len.ensures.after (Writes-done c.in_ok-write_all.was c.write_all.ensures) (done_counts c.in_ok-write_all.was c.write_all.ensures.cause),
      i.1,
    )

pub returns-clause-writes : goal.returns-clause-writes
returns-clause-writes g c =
    let i = c.loop-k.invariant in
    let start = c.args.packer.now in
    let a = g.O.Sink.known c.args.out.now in
    let b = g.O.Sink.known c.loop-k.out in
    subst (λ d. WritesUnit (Ok tt) start.id d start.continuity c.args.unit.now a b) (sym c.requires.length)
    (wrote_all start c.loop-k.packer c.args.unit.now c.loop-k.k a b i.0 (let e = i.1 in let full = c.loop-k-test.false in omega (arith, e, full)))
