-- An item's one written spelling.
use Rattle.std.proofs.Common.{◌≡◌, ℕ, suc, ◌+◌, Bool, false, get_or, List, [], ◌∷◌, ◌++◌, length, drop, replicate, refl, sym, ap, ◌∙◌, arith, length-append}
use Rattle.std.proofs.lemmas.List.{drop_at, get_or-drop, length-replicate}
use Rattle.drm_bits.specs.Bits.{value, digits, bits_of}
use Rattle.drm_bits.proofs.BitsLemmas.{length-digits, length-bits_of}
use Rattle.drm_bits.proofs.DigitsLemmas.{value-digits}
use Rattle.dcp_tag.specs.Tag.{TagItem, head, IsPadded, IsWrittenItem}
use Rattle.dcp_tag.specs.Laws.{AreBytes}
use Rattle.dcp_tag.proofs.TagLemmas.{length-head, same_fronts, behind_size}

-- bytes are known by their bits
bits_of-same : (bytes others : List ℕ) → AreBytes bytes → AreBytes others → bits_of bytes ≡ bits_of others → bytes ≡ others
bits_of-same [] [] small small_too same = refl
bits_of-same [] (o ∷ os) small small_too same = absurd (omega (arith, ap length same, length-bits_of [], length-bits_of (o ∷ os)))
bits_of-same (b ∷ bs) [] small small_too same = absurd (omega (arith, ap length same, length-bits_of (b ∷ bs), length-bits_of []))
bits_of-same (b ∷ bs) (o ∷ os) small small_too same =
    let parts = same_fronts (digits 8 b) (digits 8 o) (bits_of bs) (bits_of os) 8 (length-digits 8 b) (length-digits 8 o) same in
    let first : b ≡ o = sym (value-digits 8 b (small 0)) ∙ (ap value parts.0 ∙ value-digits 8 o (small_too 0)) in
    let rest : bs ≡ os = bits_of-same bs os (λ i. small (suc i)) (λ i. small_too (suc i)) parts.1 in
    ap (λ (x : ℕ). x ∷ bs) first ∙ ap (λ (l : List ℕ). o ∷ l) rest

-- the bytes behind a head are bytes
behind_small : (item : TagItem) (padding : List Bool) (bytes : List ℕ) (p : IsPadded item padding bytes) → AreBytes bytes → AreBytes p.behind
behind_small item padding bytes p small i =
    let is : drop 8 bytes ≡ p.behind = ap (drop 8) p.spelled ∙ drop_at (head item.name (length item.value)) p.behind 8 (length-head item.name (length item.value) p.name) in
    let place : get_or p.behind i 0 ≡ get_or bytes (8 + i) 0 = ap (λ (l : List ℕ). get_or l i 0) (sym is) ∙ get_or-drop 8 bytes i 0 in
    omega (arith, place, small (8 + i))

pub written_once : (item : TagItem) (bytes others : List ℕ) → AreBytes bytes → AreBytes others → IsWrittenItem item bytes → IsWrittenItem item others → bytes ≡ others
written_once item bytes others small small_too (m, p) (n, q) =
    let size : length p.behind ≡ length q.behind = behind_size item (replicate m false) bytes p ∙ sym (behind_size item (replicate n false) others q) in
    let count : m ≡ n =
    omega (
      arith,
      size,
      length-bits_of p.behind,
      ap length p.value,
      length-append item.value (replicate m false),
      length-replicate m false,
      length-bits_of q.behind,
      ap length q.value,
      length-append item.value (replicate n false),
      length-replicate n false,
    ) in
    let bits : bits_of p.behind ≡ bits_of q.behind = p.value ∙ (ap (λ (k : ℕ). item.value ++ replicate k false) count ∙ sym q.value) in
    let behind : p.behind ≡ q.behind = bits_of-same p.behind q.behind (behind_small item (replicate m false) bytes p small) (behind_small item (replicate n false) others q small_too) bits in
    p.spelled ∙ (ap (λ (l : List ℕ). head item.name (length item.value) ++ l) behind ∙ sym q.spelled)
