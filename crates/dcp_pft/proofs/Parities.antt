-- The parity of a packet, chunk by chunk.
use Rattle.std.proofs.Common.{length-append, length-take, ℕ, zero, suc, ◌≡◌, ◌+◌, ◌-◌, ◌*◌, ◌<◌, ◌≤◌, inl, inr, Option, None, Some, List, ◌++◌, length, take, drop, replicate, sym, subst, ap, ◌∙◌, append_assoc, arith, length-drop}
use Rattle.std.proofs.Math.Nat.{mul-le-mul_left}
use Rattle.std.proofs.Math.Seq.{take-append-add}
use Rattle.std.proofs.lemmas.Bool.{cases_lt}
use Rattle.std.proofs.lemmas.List.{drop-drop, take-append-le, drop-append-le, take_all, take-replicate, length-replicate, replicate-append-replicate, append-nil, length-take-le, nil_from_length}
use Rattle.drm_bits.proofs.PutLemmas.{same_before}
use Rattle.rs_erase.specs.Code.{IsCodeWord, word_of}
use Rattle.dcp_pft.specs.declared.shape.Rs.{Rs}
use Rattle.dcp_pft.specs.declared.shape.Shape.{Shape}
use Rattle.dcp_pft.specs.Cutting.{chunks_of, IsShapeOf}
use Rattle.dcp_pft.specs.Coding.{AreParities, IsParityOf, filled}
use Rattle.dcp_pft.proofs.Shapes.{has_code}
use Rattle.dcp_pft.proofs.Fragments.{with_rs, chunks_with}

-- some more than the first list
take_more_than : (xs ys : List ℕ) (n : ℕ) → length xs ≤ n → take n (xs ++ ys) ≡ xs ++ take (n - length xs) ys
take_more_than xs ys n le =
    let e : n ≡ length xs + (n - length xs) = omega arith in
    ap (λ (m : ℕ). take m (xs ++ ys)) e ∙ take-append-add xs ys (n - length xs)

-- zeros behind a chunk are among those that the code puts there
two_parts : (chunk some rest parity : List ℕ) → chunk ++ (some ++ rest) ++ parity ≡ chunk ++ some ++ rest ++ parity
two_parts chunk some rest parity = let e : chunk ++ some ++ rest ≡ chunk ++ (some ++ rest) = append_assoc chunk some rest in ap (λ (l : List ℕ). l ++ parity) (sym e)

zeros_are : (all some rest : ℕ) → all ≡ some + rest → replicate {A = ℕ} all 0 ≡ replicate some 0 ++ replicate rest 0
zeros_are all some rest is = ap (λ (n : ℕ). replicate {A = ℕ} n 0) is ∙ sym (replicate-append-replicate some rest 0)

more_zeros : (chunk parity : List ℕ) (k : ℕ) → length chunk ≤ k → k ≤ 207 → word_of chunk parity ≡ word_of (chunk ++ replicate (k - length chunk) 0) parity
more_zeros chunk parity k within small =
    let size = length-append chunk (replicate (k - length chunk) 0) in
    let all : 207 - length chunk ≡ k - length chunk + (207 - length (chunk ++ replicate (k - length chunk) 0)) =
    omega (arith, size, length-replicate {A = ℕ} (k - length chunk) 0) in
    let zeros = zeros_are (207 - length chunk) (k - length chunk) (207 - length (chunk ++ replicate (k - length chunk) 0)) all in
    ap (λ (l : List ℕ). chunk ++ l ++ parity) zeros
    ∙ two_parts chunk (replicate (k - length chunk) 0) (replicate (207 - length (chunk ++ replicate (k - length chunk) 0)) 0) parity

-- a chunk of the packet, filled where it is the last
pub chunk_filled : (c k z : ℕ) (packet : List ℕ) → c * k ≡ length packet + z → z < k → (j : ℕ) → j < c
    → take k (drop (j * k) packet) ++ replicate (k - length (take k (drop (j * k) packet))) 0 ≡ take k (drop (j * k) (packet ++ replicate z 0))
chunk_filled c k z packet whole small j lt =
    let rest : List ℕ = drop (j * k) packet in
    let some : k * (j + 1) ≤ k * c = mul-le-mul_left k (omega arith) in
    let within : j * k ≤ length packet = omega arith in
    let long : length (drop (j * k) packet) ≡ length packet - j * k = length-drop (j * k) packet in
    let all : drop (j * k) (packet ++ replicate z 0) ≡ rest ++ replicate z 0 = drop-append-le (j * k) packet (replicate z 0) within in
    elim (cases_lt (length (drop (j * k) packet)) k) [
      | inl short ↦
          let taken : take k rest ≡ rest = take_all k rest (omega arith) in
          ap (λ (l : List ℕ). l ++ replicate (k - length l) 0) taken
          ∙ (ap (λ (l : List ℕ). rest ++ l) (sym (take-replicate (k - length rest) z 0 (omega arith)))
          ∙ (sym (take_more_than rest (replicate z 0) k (omega arith)) ∙ ap (take k) (sym all)))
      | inr enough ↦
          let full : k - length (take k rest) ≡ 0 = omega (arith, length-take-le k rest enough) in
          ap (λ (m : ℕ). take k rest ++ replicate m 0) full
          ∙ (append-nil (take k rest) ∙ (sym (take-append-le k rest (replicate z 0) enough) ∙ ap (take k) (sym all)))
    ]

-- the parity of one more chunk is written
pub one_more : (c k z i : ℕ) (packet bytes old new : List ℕ) → c * k ≡ length packet + z → z < k → k ≤ 207 → i < c
    → bytes ≡ take k (drop (i * k) packet) → take (i * 48) new ≡ take (i * 48) old
    → IsCodeWord (word_of bytes (take 48 (drop (i * 48) new)))
    → ((j : ℕ) → j < i → IsCodeWord (word_of (take k (drop (j * k) (packet ++ replicate z 0))) (take 48 (drop (j * 48) old))))
    → (j : ℕ) → j < i + 1 → IsCodeWord (word_of (take k (drop (j * k) (packet ++ replicate z 0))) (take 48 (drop (j * 48) new)))
one_more c k z i packet bytes old new whole small size lt is same made before j below =
    let chunk : ℕ → List ℕ = λ n. take k (drop (n * k) (packet ++ replicate z 0)) in
    elim (cases_lt j i) [
      | inl earlier ↦
          subst (λ (l : List ℕ). IsCodeWord (word_of (chunk j) l)) (sym (same_before old new (i * 48) (j * 48) 48 same (omega arith))) (before j earlier)
      | inr last ↦
          let here : i ≡ j = omega arith in
          let within : length bytes ≤ k = omega (arith, ap length is, length-take k (drop (i * k) packet)) in
          let all : bytes ++ replicate (k - length bytes) 0 ≡ chunk i =
          ap (λ (l : List ℕ). l ++ replicate (k - length l) 0) is ∙ chunk_filled c k z packet whole small i lt in
          subst (λ (n : ℕ). IsCodeWord (word_of (chunk n) (take 48 (drop (n * 48) new)))) here
          (subst (λ (l : List ℕ). IsCodeWord (word_of l (take 48 (drop (i * 48) new)))) all
          (subst IsCodeWord (more_zeros bytes (take 48 (drop (i * 48) new)) k within size) made))
    ]

-- the parity of each chunk at its place is the parity of all
pub are_parities : (c k : ℕ) (chunks parities : List ℕ) → length parities ≡ 48 * c
    → ((j : ℕ) → j < c → IsCodeWord (word_of (take k (drop (j * k) chunks)) (take 48 (drop (j * 48) parities))))
    → AreParities c k chunks parities
are_parities zero k chunks parities long each = nil_from_length parities (omega arith)
are_parities (suc c) k chunks parities long each =
    let none : 0 * k ≡ 0 = omega arith in
    let first : IsCodeWord (word_of (take k chunks) (take 48 parities)) =
    subst (λ (n : ℕ). IsCodeWord (word_of (take k (drop n chunks)) (take 48 parities))) none (each 0 (omega arith)) in (
      first,
      are_parities c k (drop k chunks) (drop 48 parities) (omega (arith, length-drop 48 parities)) (λ j lt.
          let place : (suc j) * k ≡ k + j * k = omega arith in
          let place' : (suc j) * 48 ≡ 48 + j * 48 = omega arith in
          let chunk : drop ((suc j) * k) chunks ≡ drop (j * k) (drop k chunks) = ap (λ (n : ℕ). drop n chunks) place ∙ sym (drop-drop (j * k) k chunks) in
          let parity : drop ((suc j) * 48) parities ≡ drop (j * 48) (drop 48 parities) = ap (λ (n : ℕ). drop n parities) place' ∙ sym (drop-drop (j * 48) 48 parities) in
          subst (λ (l : List ℕ). IsCodeWord (word_of (take k l) (take 48 (drop (j * 48) (drop 48 parities))))) chunk
          (subst (λ (l : List ℕ). IsCodeWord (word_of (take k (drop ((suc j) * k) chunks)) (take 48 l))) parity (each (suc j) (omega arith)))),
    )

-- and so it is the packet's
pub is_parity_with : (shape : Shape) (rs : Rs) (packet parity : List ℕ) → IsShapeOf (length packet) shape → shape.rs ≡ Some rs → length parity ≡ 48 * chunks_of shape
    → (k : ℕ) → k ≡ rs.k → ((c z : ℕ) → c * k ≡ length packet + z → z < k → length parity ≡ 48 * c → AreParities c k (packet ++ replicate z 0) parity)
    → IsParityOf shape packet parity
is_parity_with shape rs packet parity is has long k is_k every =
    let here = has_code (length packet) shape rs is has in
    let by = chunks_with shape rs has in
    let P : ℕ → Type 0 = λ n. (c z : ℕ) → c * n ≡ length packet + z → z < n → length parity ≡ 48 * c → AreParities c n (packet ++ replicate z 0) parity in
    let all : P rs.k = subst P is_k every in
    subst (λ (o : Option Rs). IsParityOf (with_rs shape o) packet parity) (sym has)
    (subst (λ (c : ℕ). AreParities c rs.k (filled rs packet) parity) by (all (chunks_of shape) rs.z here.whole here.fill long))

pub is_parity_none : (shape : Shape) (packet parity : List ℕ) → shape.rs ≡ None → length parity ≡ 48 * chunks_of shape → IsParityOf shape packet parity
is_parity_none shape packet parity none long =
    let no_chunks : chunks_of shape ≡ 0 = ap (λ (o : Option Rs). chunks_of (with_rs shape o)) none in
    subst (λ (o : Option Rs). IsParityOf (with_rs shape o) packet parity) (sym none) (nil_from_length parity (omega (arith, long, no_chunks)))
