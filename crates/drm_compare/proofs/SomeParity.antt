-- Each packet has its parity, whether it is made or not: a message with a remainder has one with a symbol more.
use Rattle.std.proofs.Common.{◌≡◌, ℕ, zero, suc, ◌-◌, ◌*◌, ◌^◌, ◌<◌, ◌≤◌, List, [], ◌∷◌, ◌++◌, length, take, drop, replicate, Option, None, Some, refl, sym, ap, ap₂, subst, ◌∙◌, arith, bit_xor, length-append, append_assoc, length-take}
use Rattle.std.proofs.Math.Seq.{take-append_seam, drop-append_seam}
use Rattle.std.proofs.lemmas.List.{append-nil}
use Rattle.std.proofs.lemmas.List.Elements.{All-take, All-drop}
use Rattle.std.specs.Int.Bits.{xor_assoc, xor_self, xor_zero_r}
use Rattle.gf_field.specs.Field.{power, times}
use Rattle.gf_field.proofs.Times.{one_times, times_assoc, times_comm, times_xor, xor_times, zero_times}
use Rattle.drm_bits.specs.Bits.{IsBytes}
use Rattle.rs_erase.specs.Code.{AreElements, IsCodeWord, word_of}
use Rattle.rs_erase.specs.Equations.{nth_power, word_value}
use Rattle.rs_erase.specs.Polynomial.{add, scale}
use Rattle.rs_erase.specs.Register.{IsRemainder}
use Rattle.rs_erase.proofs.Elements.{append_elements, cons_elements, elements_of, elements_tail, no_elements, zeros_elements}
use Rattle.rs_erase.proofs.OnePlaceLess.{swap}
use Rattle.rs_erase.proofs.PolynomialLaws.{add_elements, length-scale, scale_elements}
use Rattle.rs_erase.proofs.RemainderTable.{nexts, length-nexts, nexts_value}
use Rattle.rs_erase.proofs.ShiftRegister.{remainder_is_parity}
use Rattle.rs_erase.proofs.WordValues.{length-add_same, nth_power_add, nth_power-lt, one_more, word_value_add, word_value_append, word_value_scale, word_value_zeros}
use Rattle.dcp_pft.specs.declared.shape.Rs.{Rs}
use Rattle.dcp_pft.specs.declared.shape.Shape.{Shape}
use Rattle.dcp_pft.specs.Cutting.{IsShapeOf}
use Rattle.dcp_pft.specs.Coding.{AreParities, IsParityOf, filled}
use Rattle.dcp_pft.proofs.Shapes.{has_code}
use Rattle.dcp_pft.proofs.Fragments.{with_rs, chunks_by}

-- what remains of x to the 48: the generator without its leading 1
abbrev row : List ℕ
row = nexts 0

-- the remainder, where one symbol more comes
abbrev after : List ℕ → ℕ → List ℕ
after [] s = []
after (r ∷ t) s = add (t ++ 0 ∷ []) (scale (bit_xor r s) row)

-- What remains of a message: 48 elements with its values at the roots, 48 powers higher.
record Remains (message rest : List ℕ) : Type 0 where
  long : length rest ≡ 48
  elements : AreElements rest
  values : (j : ℕ) → 0 < j → j ≤ 48 → word_value (power j) rest ≡ times (word_value (power j) message) (nth_power (power j) 48)

nothing : Remains [] (replicate 48 0)
nothing = record { long = refl; elements = zeros_elements 48; values = λ j pos le. word_value_zeros (power j) 48 ∙ sym (zero_times (nth_power (power j) 48)) }

one_power : (x : ℕ) → nth_power x 48 ≡ times (nth_power x 1) (nth_power x 47)
one_power x = nth_power_add x 1 47

-- the value of a remainder that is moved by one place, and of the multiple of the row that comes to it
moved_value : (x r s : ℕ) (t : List ℕ) (v : ℕ) → length t ≡ 47 → word_value x row ≡ nth_power x 48 → word_value x (r ∷ t) ≡ times v (nth_power x 48)
    → word_value x (after (r ∷ t) s) ≡ times (bit_xor (times v (nth_power x 1)) (times s 1)) (nth_power x 48)
moved_value x r s t v lt hg h =
    let y = nth_power x 1 in
    let n = nth_power x 48 in
    let ls : length (scale (bit_xor r s) row) ≡ 48 = length-scale (bit_xor r s) row ∙ length-nexts 0 in
    let moved : word_value x (t ++ 0 ∷ []) ≡ times y (word_value x t) =
    one_more x 0 t ∙ ap (bit_xor (times (word_value x t) y)) (zero_times 1) ∙ xor_zero_r (times (word_value x t) y) ∙ times_comm (word_value x t) y in
    let high : times r n ≡ times y (times r (nth_power x 47)) = ap (times r) (one_power x) ∙ swap r y (nth_power x 47) in
    let old : bit_xor (times y (word_value x t)) (times r n) ≡ times (times v y) n =
    ap (bit_xor (times y (word_value x t))) high
    ∙ sym (times_xor y (word_value x t) (times r (nth_power x 47)))
    ∙ ap (times y) (ap (λ (k : ℕ). bit_xor (word_value x t) (times r (nth_power x k))) (sym lt) ∙ h)
    ∙ sym (times_assoc y v n) ∙ ap (λ (k : ℕ). times k n) (times_comm y v) in
    let new : times s n ≡ times (times s 1) n = sym (times_assoc s 1 n ∙ ap (times s) (one_times n (nth_power-lt x 48))) in
    word_value_add x (t ++ 0 ∷ []) (scale (bit_xor r s) row) (omega (arith, length-append t (0 ∷ []), ls))
    ∙ ap₂ bit_xor moved (word_value_scale x (bit_xor r s) row ∙ ap (times (bit_xor r s)) hg ∙ xor_times r s n)
    ∙ sym (xor_assoc (times y (word_value x t)) (times r n) (times s n))
    ∙ ap₂ bit_xor old new
    ∙ sym (xor_times (times v y) (times s 1) n)

next_remains : (message rest : List ℕ) (s : ℕ) → Remains message rest → Remains (message ++ s ∷ []) (after rest s)
next_remains message [] s h = absurd (let e = h.long in omega (arith, e))
next_remains message (r ∷ t) s h =
    let lt : length t ≡ 47 = let e = h.long in omega (arith, e) in
    let ls : length (scale (bit_xor r s) row) ≡ 48 = length-scale (bit_xor r s) row ∙ length-nexts 0 in
    record {
      long = length-add_same (t ++ 0 ∷ []) (scale (bit_xor r s) row) (omega (arith, length-append t (0 ∷ []), ls)) ∙ ls;
      elements = add_elements (t ++ 0 ∷ []) (scale (bit_xor r s) row)
          (append_elements t (0 ∷ []) (elements_tail r t h.elements) (cons_elements 0 [] (omega arith) no_elements)) (scale_elements (bit_xor r s) row);
      values = λ j pos le.
          moved_value (power j) r s t (word_value (power j) message) lt (nexts_value j 0 pos le) (h.values j pos le)
          ∙ ap (λ (k : ℕ). times k (nth_power (power j) 48)) (sym (one_more (power j) s message));
    }

all_remains : (message rest more : List ℕ) → Remains message rest → (last : List ℕ) × Remains (message ++ more) last
all_remains message rest [] h = (rest, subst (λ (m : List ℕ). Remains m rest) (sym (append-nil message)) h)
all_remains message rest (s ∷ more) h =
    let last = all_remains (message ++ s ∷ []) (after rest s) more (next_remains message rest s h) in
    (last.0, subst (λ (m : List ℕ). Remains m last.0) (append_assoc message (s ∷ []) more) last.1)

is_remainder : (message rest : List ℕ) → Remains message rest → IsRemainder message rest
is_remainder message rest h = record {
  roots = λ j pos le.
      word_value_append (power j) message rest
      ∙ ap₂ bit_xor (ap (λ (n : ℕ). times (word_value (power j) message) (nth_power (power j) n)) h.long) (h.values j pos le)
      ∙ xor_self (times (word_value (power j) message) (nth_power (power j) 48));
}

-- a chunk has its parity
pub some_parity : (chunk : List ℕ) → length chunk ≤ 207 → AreElements chunk → (parity : List ℕ) × (length parity ≡ 48) × IsCodeWord (word_of chunk parity)
some_parity chunk small elements =
    let rest = all_remains [] (replicate 48 0) (chunk ++ replicate (207 - length chunk) 0) nothing in
    (rest.0, rest.1.long, remainder_is_parity chunk rest.0 small elements rest.1.long rest.1.elements (is_remainder (chunk ++ replicate (207 - length chunk) 0) rest.0 rest.1))

-- so have chunks
some_parities : (c k : ℕ) (chunks : List ℕ) → k ≤ 207 → AreElements chunks → (parities : List ℕ) × AreParities c k chunks parities
some_parities zero k chunks small elements = ([], refl)
some_parities (suc c) k chunks small elements =
    let first = some_parity (take k chunks) (omega (arith, small, length-take k chunks)) (All-take (λ a. a < 2 ^ 8) k chunks elements) in
    let more = some_parities c k (drop k chunks) small (All-drop (λ a. a < 2 ^ 8) k chunks elements) in
    let front : take 48 (first.0 ++ more.0) ≡ first.0 = ap (λ (n : ℕ). take n (first.0 ++ more.0)) (sym first.1) ∙ take-append_seam first.0 more.0 in
    let behind : drop 48 (first.0 ++ more.0) ≡ more.0 = ap (λ (n : ℕ). drop n (first.0 ++ more.0)) (sym first.1) ∙ drop-append_seam first.0 more.0 in (
      first.0 ++ more.0,
      (subst (λ (p : List ℕ). IsCodeWord (word_of (take k chunks) p)) (sym front) first.2, subst (λ (p : List ℕ). AreParities c k (drop k chunks) p) (sym behind) more.1),
    )

-- so has a packet that is cut, by whether there is a code
parity_by : (shape : Shape) (packet : List ℕ) → IsShapeOf (length packet) shape → IsBytes packet → (o : Option Rs) → shape.rs ≡ o → (parity : List ℕ) × IsParityOf (with_rs shape o) packet parity
parity_by shape packet is bytes None none = ([], refl)
parity_by shape packet is bytes (Some rs) has =
    some_parities (chunks_by shape rs) rs.k (filled rs packet) (has_code (length packet) shape rs is has).size (append_elements packet (replicate rs.z 0) (elements_of packet bytes) (zeros_elements rs.z))

pub some_parity_of : (shape : Shape) (packet : List ℕ) → IsShapeOf (length packet) shape → IsBytes packet → (parity : List ℕ) × IsParityOf shape packet parity
some_parity_of shape packet is bytes = parity_by shape packet is bytes shape.rs refl
