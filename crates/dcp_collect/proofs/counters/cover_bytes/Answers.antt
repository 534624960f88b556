use Rattle.std.proofs.Common.{ℕ, ◌≡◌, ◌+◌, sym, ap, arith}
use Rattle.std.specs.Prelude.{slice_index}
use Rattle.dcp_collect.proofs.CoveringRows.{full_now, not_full_now}
use Rattle.dcp_collect.proofs.counters.cover_bytes.Goals.{else-from-k-via-then-from-k+else-k-from, else-from-k-via-else-from-k}
use Rattle.dcp_collect.proofs.counters.cover_bytes.Goals as goal

pub returns-then-k-from-clause-full : goal.returns-then-k-from-clause-full
returns-then-k-from-clause-full c =
    ap (λ n. c.args.full + n) (sym (full_now c.args.k (slice_index c.args.covered.now c.args.chunk) c.args.more (omega (arith, c.if-from-k.true, c.from.ensures)) (omega (arith, c.if-k-from.true, c.from-then-from-k.ensures))))

pub returns-else-from-k-clause-full : goal.returns-else-from-k-clause-full
returns-else-from-k-clause-full c =
    let same : (n : ℕ) → n ≡ 0 → c.args.full ≡ c.args.full + n = λ n e. omega (arith, e) in
    same _ (elim c.else-from-k.branch [
      | else-from-k-via-then-from-k+else-k-from w ↦ not_full_now c.args.k _ c.args.more (λ l h. absurd (omega (arith, h, w.if-k-from.false, w.from-then-from-k.ensures)))
      | else-from-k-via-else-from-k w ↦ not_full_now c.args.k _ c.args.more (λ l h. absurd (omega (arith, l, w.if-from-k.false, c.from.ensures)))
    ])
