use Rattle.std.proofs.Common.{ℕ, ◌≡◌, ◌+◌, ◌*◌, ◌%◌, List, ap, arith}
use Rattle.dcp_pft.specs.Head.{SpellsHead}
use Rattle.dcp_pft.specs.Turning.{laid_fragment}
use Rattle.dcp_pft.proofs.AllWritten.{still_stand}
use Rattle.dcp_pft.proofs.FragmentPlaces.{one_more, coded_ends}
use Rattle.dcp_pft.proofs.write_all.write_laid_out.Goals as goal

pub loop-i-preserved : goal.loop-i-preserved
loop-i-preserved c =
    let shape = c.args.shape.now in
    let size : ℕ = 16 + shape.piece in
    let place : c.loop-i.i * (16 + c.from.result) ≡ c.loop-i.i * size = ap (λ (n : ℕ). c.loop-i.i * (16 + n)) c.from.ensures in
    record {
      fragments = one_more (λ (k : ℕ) (l : List ℕ). SpellsHead (laid_fragment shape c.args.rs c.args.seq c.args.coded.now k) l) (λ k. k * size) (λ k. size) c.loop-i.i
          (c.loop-i.i * (16 + c.from.result)) c.loop-i.into c.write_column.new.into c.loop-i.invariant.fragments
          (λ k before. omega (arith, coded_ends size c.loop-i.i k before, place)) place c.write_column.ensures.before
          (c.write_column.ensures.fragment c.args.coded.now c.make_ready.ensures.stand);
      stand = still_stand shape.count c.loop-i.i shape.piece (shape.piece + shape.piece % 2) c.args.coded.now c.make_ready.new.columns c.make_ready.ensures.stand;
    }
