use Rattle.std.proofs.Common.{ℕ, ◌≡◌, ◌+◌, length, subst, arith}
use Rattle.std.proofs.lemmas.Bool.{both_ways}
use Rattle.drm_text.specs.Reading.{EndsWithCheck}
use Rattle.drm_text.proofs.Spellings.{placed, found_by}
use Rattle.drm_text.proofs.read.read_segment.Goals as goal

pub returns-then-not-ends_well-clause-only : goal.returns-then-not-ends_well-clause-only
returns-then-not-ends_well-clause-only c = λ s is.
    let p = placed s c.args.bytes.now is in
    let place : length s.body + 2 ≡ c.from-len.result + 1 + 2 = omega (arith, p.long, c.from-len.ensures) in
    let P : ℕ → Type 0 = λ n. EndsWithCheck c.args.bytes.now n in
    both_ways c.ends_well.result c.if-not-ends_well.true (c.ends_well.ensures.1 (subst P place p.ends))

pub returns-clause-found : goal.returns-clause-found
returns-clause-found c =
    found_by c.args.bytes.now c.from-len.result (λ i. omega (arith, c.type_inv.bytes i)) (c.begins_well.ensures.0 c.if-not-begins_well.false) (c.ends_well.ensures.0 c.if-not-ends_well.false) c.from-len.ensures
