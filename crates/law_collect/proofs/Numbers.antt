-- The nearest number with a sequence number is the pair's number, within the span.
use Rattle.std.proofs.Common.{ℕ, ◌≡◌, ◌+◌, ◌*◌, ◌/◌, ◌%◌, refl, sym, ap, ◌∙◌, arith}
use Rattle.std.specs.Prelude.{ℤ, pos, ◌+ℤ◌, ◌-ℤ◌, ◌*ℤ◌, ◌<ℤ◌}
use Rattle.std.proofs.lemmas.Int.{ints, int_rem_euclid_is}
use Rattle.dcp_collect.specs.CollectorState.{nearest}
use Rattle.law_collect.specs.Laws.{OneNearest}

residue_is : (m : ℕ) (t k : ℤ) → pos m ≡ (t +ℤ (k *ℤ pos 65536)) → pos 0 <ℤ (t +ℤ pos 1) → t <ℤ pos 65536 → pos (m % 65536) ≡ t
residue_is m t k e low high = omega (arith, ints)

-- the nearest number without a negative remainder
nearest_by : (first reference sequence : ℕ) → nearest first reference sequence ≡ (pos reference -ℤ pos 32768 +ℤ pos ((sequence + 32768 + (first + reference) * 65535) % 65536))
unfolding nearest
nearest_by first reference sequence =
    let m : ℕ = sequence + 32768 + (first + reference) * 65535 in
    let z : ℤ = pos sequence -ℤ pos first -ℤ pos reference +ℤ pos 32768 in
    ap (λ x. pos reference -ℤ pos 32768 +ℤ x) (int_rem_euclid_is z (pos 65536) 65536 (first + reference) m (omega arith) refl (omega (arith, ints)))

pub nearest_is : (first reference sequence : ℕ) (n k : ℤ)
    → (pos first +ℤ n) ≡ (pos sequence +ℤ (k *ℤ pos 65536))
    → n <ℤ (pos reference +ℤ pos 32768) → pos reference <ℤ (n +ℤ pos 32769)
    → nearest first reference sequence ≡ n
nearest_is first reference sequence n k e high low =
    let m : ℕ = sequence + 32768 + (first + reference) * 65535 in
    let s : pos (m % 65536) ≡ (n -ℤ pos reference +ℤ pos 32768)
    = residue_is m (n -ℤ pos reference +ℤ pos 32768) (pos (first + reference) -ℤ k) (omega (arith, ints)) (omega (arith, ints)) (omega (arith, ints)) in
    nearest_by first reference sequence ∙ (ap (λ x. pos reference -ℤ pos 32768 +ℤ x) s ∙ omega (arith, ints))

pub one_nearest : OneNearest
one_nearest first reference sequence =
    let m : ℕ = sequence + 32768 + (first + reference) * 65535 in
    let by = nearest_by first reference sequence in (
      (pos (first + reference) -ℤ pos (m / 65536), omega (arith, ints, by)),
      (omega (arith, ints, by), omega (arith, ints, by)),
      (λ n has near. sym (nearest_is first reference sequence n has.0 has.1 near.0 near.1)),
    )
