-- The datagrams of a packet exist, whether they are made or not.
use Rattle.std.proofs.Common.{◌≡◌, ℕ, zero, suc, ◌+◌, ◌<◌, ◌^◌, Bool, true, List, [], ◌∷◌, ◌++◌, length, replicate, Option, None, Some, refl, sym, ◌∙◌, subst, arith, length-append}
use Rattle.std.specs.Prelude.{not, IfSome}
use Rattle.std.specs.Int.{w16, to_be_bytes}
use Rattle.std.proofs.lemmas.List.{length-map, length-replicate}
use Rattle.drm_bits.specs.Bits.{IsBytes, value, digits, bits_of}
use Rattle.drm_bits.specs.Crc.{IsCheck, IsCheckOf, complement, crc16_polynomial}
use Rattle.drm_bits.proofs.BitsLemmas.{length-digits, value-below}
use Rattle.drm_bits.proofs.DigitsLemmas.{digits-value}
use Rattle.drm_bits.proofs.Registers.{run, length-run}
use Rattle.drm_bits.proofs.Checks.{check-start, check-more, crc16_low}
use Rattle.dcp_pft.specs.declared.shape.Shape.{Shape}
use Rattle.dcp_pft.specs.Cutting.{IsShapeOf}
use Rattle.dcp_pft.specs.Coding.{IsParityOf}
use Rattle.dcp_pft.specs.Head.{IsFragmentOf, PftFragment, fragment_of, head}
use Rattle.dcp_sender.specs.Sending.{AreFirst, AreAll}
use Rattle.dcp_sender.proofs.Lists.{one_more, itself}
use Rattle.drm_compare.proofs.SomeParity.{some_parity_of}

-- a check value of any bytes: the complement of what stands in the register behind them
some_check : (bytes : List ℕ) → (check : ℕ) × IsCheckOf bytes check
some_check bytes =
    let low : List Bool = digits 16 4129 in
    let start : List Bool = replicate (length low) true in
    let end : List Bool = run low start (bits_of bytes) in
    let bits : List Bool = complement end in
    let wide : length low ≡ 16 = length-digits 16 4129 in
    let size : length bits ≡ 16 = length-map end not ∙ (length-run low start (bits_of bytes) (length-replicate (length low) true) ∙ wide) in
    let is : IsCheck (true ∷ low) (bits_of bytes) bits = check-more low [] (bits_of bytes) start end (omega (arith, wide)) refl (check-start low start refl) in
    let below : value bits < 2 ^ 16 = subst (λ (n : ℕ). value bits < 2 ^ n) size (value-below bits) in (
      value bits,
      record { narrow = below; is = subst (λ (l : List Bool). IsCheck crc16_polynomial (bits_of bytes) l) (sym (digits-value 16 bits size)) (subst (λ (g : List Bool). IsCheck g (bits_of bytes) bits) (sym crc16_low) is) },
    )

some_fragment : (shape : Shape) (seq : ℕ) (packet parity : List ℕ) (i : ℕ) → IsParityOf shape packet parity → (datagram : List ℕ) × IsFragmentOf shape seq packet i datagram
some_fragment shape seq packet parity i is =
    let f : PftFragment = fragment_of shape seq packet parity i in
    let check = some_check (head f) in
    (head f ++ to_be_bytes w16 check.0 ++ f.payload, record { parity = parity; is_parity = is; spells = record { check = check.0; checks = check.1; spelled = refl } })

some_fragments : (shape : Shape) (seq : ℕ) (packet parity : List ℕ) → IsParityOf shape packet parity → (n : ℕ) → (datagrams : List (List ℕ)) × AreFirst (Some shape) seq packet datagrams × (length datagrams ≡ n)
some_fragments shape seq packet parity is zero = ([], (λ i none below. absurd (omega (arith, below))), refl)
some_fragments shape seq packet parity is (suc n) =
    let before = some_fragments shape seq packet parity is n in
    let next = some_fragment shape seq packet parity n is in
    (before.0 ++ next.0 ∷ [], one_more (Some shape) seq n packet before.0 next.0 before.1 before.2 next.1, omega (arith, before.2, length-append before.0 (next.0 ∷ [])))

pub some_datagrams : (cut : Option Shape) (seq : ℕ) (packet : List ℕ) → IfSome cut (IsShapeOf (length packet)) → IsBytes packet → (datagrams : List (List ℕ)) × AreAll cut seq packet datagrams
some_datagrams None seq packet is bytes = (packet ∷ [], (itself seq packet, refl))
some_datagrams (Some shape) seq packet is bytes =
    let parity = some_parity_of shape packet is bytes in
    let all = some_fragments shape seq packet parity.0 parity.1 shape.count in
    (all.0, (all.1, all.2))
