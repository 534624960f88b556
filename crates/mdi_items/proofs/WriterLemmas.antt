-- Items that are written one after another.
use Rattle.std.proofs.Common.{◌≡◌, ℕ, ◌+◌, ◌-◌, ◌*◌, false, List, length, drop, replicate, sym, ap, ◌∙◌, arith}
use Rattle.std.proofs.lemmas.List.{drop-drop, drop_all}
use Rattle.drm_bits.specs.Bits.{bits_of}
use Rattle.drm_bits.proofs.BitsLemmas.{length-bits_of}

-- whole bytes have no padding
pub no_padding : (value : List ℕ) → drop (8 * length value) (bits_of value) ≡ replicate (8 * length value - 8 * length value) false
no_padding value =
    let none : 8 * length value - 8 * length value ≡ 0 = omega arith in
    drop_all (8 * length value) (bits_of value) (omega (arith, length-bits_of value)) ∙ ap (λ (n : ℕ). replicate n false) (sym none)

-- what is behind two pieces
pub dropped : (from between to : List ℕ) (m n k : ℕ) → between ≡ drop m from → to ≡ drop n between → m + n ≡ k → to ≡ drop k from
dropped from between to m n k is is_too sum = is_too ∙ (ap (drop n) is ∙ (drop-drop n m from ∙ ap (λ (x : ℕ). drop x from) sum))
