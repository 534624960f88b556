use Rattle.std.proofs.Common.{◌+◌, ◌++◌, ℕ, List, get_or, set, refl, sym, ◌∙◌, ap, arith}
use Rattle.std.proofs.lemmas.List.{length-set, get_or_append_left}
use Rattle.dcp_pft.specs.Interleaving.{payload_with}
use Rattle.dcp_pft.proofs.Coming.{one_written, part_passed, all_written}
use Rattle.dcp_pft.proofs.interleave.take_every.Goals.{then-loop-at-test+else-written-into, else-loop-at-test}
use Rattle.dcp_pft.proofs.interleave.take_every.Goals as goal

pub loop-at-init : goal.loop-at-init
loop-at-init c = record { within = c.requires.within; small = c.requires.in_range; all = λ rest. refl }

pub loop-at-smaller : goal.loop-at-smaller
loop-at-smaller c = omega (arith, length-set c.loop-at.into c.loop-at.written (get_or c.args.bytes.now c.loop-at.at 0))

pub loop-at-preserved : goal.loop-at-preserved
loop-at-preserved c =
    let into : List ℕ = c.loop-at.into in
    let written : ℕ = c.loop-at.written in
    let at : ℕ = c.loop-at.at in
    let bytes : List ℕ = c.args.bytes.now in
    record {
      within = omega (arith, length-set into written (get_or bytes at 0));
      small = omega arith;
      all = λ rest.
          ap (λ (byte : ℕ). payload_with c.args.count (record { written = written + 1; skip = at + c.args.count }) (set into written byte) (bytes ++ rest))
          (sym (get_or_append_left bytes rest 0 at c.loop-at-test.true))
          ∙ (one_written c.args.count written at into (bytes ++ rest) c.if-written-into.true
          ∙ c.loop-at.invariant.all rest);
    }

pub returns-clause-within : goal.returns-clause-within
returns-clause-within c = c.loop-at.invariant.within

pub returns-clause-in_range : goal.returns-clause-in_range
returns-clause-in_range c = omega (arith, c.loop-at.invariant.small, c.saturating_sub.ensures)

pub returns-clause-written : goal.returns-clause-written
returns-clause-written c = λ rest.
    let into : List ℕ = c.loop-at.into in
    let written : ℕ = c.loop-at.written in
    let at : ℕ = c.loop-at.at in
    let bytes : List ℕ = c.args.bytes.now in
    elim c.loop-at-test.branch [
      | then-loop-at-test+else-written-into w ↦
          all_written c.args.count written c.saturating_sub.result at into rest (bytes ++ rest) (omega (arith, w.if-written-into)) ∙ c.loop-at.invariant.all rest
      | else-loop-at-test w ↦
          ap (λ (skip : ℕ). payload_with c.args.count (record { written = written; skip = skip }) into rest) c.saturating_sub.ensures
          ∙ (part_passed c.args.count written at into bytes rest (omega (arith, w.loop-at-test))
          ∙ c.loop-at.invariant.all rest)
    ]
