use Rattle.std.proofs.Common.{◌≡◌, ◌≤◌, arith, length, rules, sym, take}
use Rattle.std.proofs.lemmas.Bool.{false≢true}
use Rattle.std.proofs.lemmas.List.{length-take-le}
use Rattle.drm_bits.proofs.PutLemmas.{put_behind}
use Rattle.dcp_collect.proofs.Chunks.{put_keeps_front}
use Rattle.dcp_collect.proofs.ShortChunks.{known_found}
use Rattle.dcp_collect.proofs.solve.solve_next.Goals as goal

pub returns-in-Some-chunk-clause-solves : goal.returns-in-Some-chunk-clause-solves
returns-in-Some-chunk-clause-solves c =
    let a = c.requires.chunk.earlier in let b = c.requires.chunk.room in
    let few : c.args.k ≤ 15 = (rw c.in-Some.is at c.requires.known).few in
    let long : length c.in-Some-chunk.chunk ≡ 16 = search rules in
    let front : length (take c.args.k c.in-Some-chunk.chunk) ≡ c.args.k = length-take-le c.args.k c.in-Some-chunk.chunk (omega (arith, few, long)) in
    record {
      before = put_keeps_front c.args.bytes.now (take c.args.k c.in-Some-chunk.chunk) c.put_at.new.into c.args.at (omega (arith, a, b)) c.put_at.ensures.put;
      behind = λ p l.
          put_behind c.args.bytes.now (take c.args.k c.in-Some-chunk.chunk) c.put_at.new.into c.args.at p (omega (arith, a, b)) c.put_at.ensures.put
          (omega (arith, a, l, front));
      found = λ yes fs t.
          known_found c.args.count fs c.args.marks.now c.begin_with.new.self c.in-Some-chunk.chunk c.args.k c.args.start c.args.at c.args.bytes.now c.put_at.new.into
          few long c.begin_with.ensures.known c.begin_with.ensures.first c.in-Some-chunk.ensures (omega (arith, a, b)) c.put_at.ensures.put t;
      lacks = λ no. absurd (false≢true (sym no));
      same_length = c.put_at.auto.into;
    }
