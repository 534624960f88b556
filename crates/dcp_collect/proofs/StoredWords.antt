-- The word of a chunk, as its bytes stand in a slot.
use Rattle.std.proofs.Common.{ℕ, ◌≡◌, ◌+◌, ◌-◌, ◌%◌, ◌<◌, ◌≤◌, ◌++◌, inl, inr, Bool, true, List, length, take, drop, replicate, get_or, sym, subst, ap, ◌∙◌, arith}
use Rattle.std.proofs.lemmas.Bool.{cases_lt}
use Rattle.std.proofs.lemmas.List.{get_or_past, get_or-take, get_or-drop, get_or-replicate, length-take-le, length-drop, length-replicate}
use Rattle.std.specs.List.{Contains}
use Rattle.rs_erase.specs.Code.{AgreesOutside}
use Rattle.dcp_collect.specs.Fragments.{NumberedFragment, has_index}
use Rattle.dcp_collect.specs.Erasure.{erased_positions, position, received, received_word}
use Rattle.dcp_collect.specs.Counters.{MarksDescribe}
use Rattle.rs_patterns.proofs.Positions.{position_in_chunk, position_in_parity, kept_outside}
use Rattle.drm_bits.proofs.PutLemmas.{put_byte, put_before, put_behind, put_long}
use Rattle.dcp_collect.proofs.Received.{at_chunk, at_fill, at_parity, word_at, word_length}

-- It is that of the fragments outside the erased positions.
pub word_agrees : (count : ℕ) (fs : List NumberedFragment) (marks : List Bool) (bytes word : List ℕ) (k start : ℕ) → k ≤ 207
    → MarksDescribe count fs marks bytes start (start + k + 48) → length word ≡ 255
    → ((j : ℕ) → j < k + 48 → has_index fs ((start + j) % count) ≡ true → get_or word (position k j) 0 ≡ get_or bytes (start + j) 0)
    → ((p : ℕ) → k ≤ p → p < 207 → get_or word p 0 ≡ 0)
    → AgreesOutside (erased_positions count (has_index fs) start k (k + 48)) (received_word count fs start k) word
word_agrees count fs marks bytes word k start few t long stand fill = record {
  long = long ∙ sym (word_length count fs start k);
  same = λ p out. elim (cases_lt p 255) [
    | inr past ↦
        get_or_past word p 0 (omega (arith, long, past))
        ∙ sym (get_or_past (received_word count fs start k) p 0 (let l = word_length count fs start k in omega (arith, l, past)))
    | inl within ↦ elim (cases_lt p k) [
      | inl inside ↦
          let at = position_in_chunk k p inside in
          let has = kept_outside count (has_index fs) start k (k + 48) p (omega arith) (λ c. out (subst (Contains (erased_positions count (has_index fs) start k (k + 48))) at c)) in
          ap (λ n. get_or word n 0) (sym at) ∙ stand p (omega arith) has ∙ sym (t.by_bytes (start + p) (omega arith) (omega (arith, inside)) has)
          ∙ sym (word_at count fs start k p within ∙ at_chunk count fs start k p inside)
      | inr beyond ↦ elim (cases_lt p 207) [
        | inl gap ↦ fill p beyond gap ∙ sym (word_at count fs start k p within ∙ at_fill count fs start k p beyond gap)
        | inr behind ↦
            let j = k + (p - 207) in
            let at : position k (k + (p - 207)) ≡ p = (let e = position_in_parity k (k + (p - 207)) (omega arith) in omega (arith, e, behind)) in
            let has = kept_outside count (has_index fs) start k (k + 48) (k + (p - 207)) (omega (arith, within, behind))
            (λ c. out (subst (Contains (erased_positions count (has_index fs) start k (k + 48))) at c)) in
            let place : start + (k + (p - 207)) ≡ start + k + (p - 207) = omega arith in
            ap (λ n. get_or word n 0) (sym at) ∙ stand (k + (p - 207)) (omega (arith, within, behind)) has
            ∙ sym (t.by_bytes (start + (k + (p - 207))) (omega arith) (omega (arith, within, behind)) has)
            ∙ ap (received count fs) place
            ∙ sym (word_at count fs start k p within ∙ at_parity count fs start k p beyond behind)
      ]
    ]
  ];
}

-- A word that is made of zeros, the chunk put to its front and the parity to its end. The parts have so many bytes.
module _ (bytes one two : List ℕ) (k start m n : ℕ) (few : k ≤ 207) (room : start + k + 48 ≤ length bytes) (is_k : m ≡ k) (is_48 : n ≡ 48)
    (first : one ≡ take 0 (replicate 255 0) ++ take m (drop start bytes) ++ drop (0 + length (take m (drop start bytes))) (replicate 255 0))
    (second : two ≡ take 207 one ++ take n (drop (start + k) bytes) ++ drop (207 + length (take n (drop (start + k) bytes))) one) where
  chunk_long : length (take m (drop start bytes)) ≡ k
  chunk_long = let d = length-drop start bytes in length-take-le m (drop start bytes) (omega (arith, d, room, is_k)) ∙ is_k

  parity_long : length (take n (drop (start + k) bytes)) ≡ 48
  parity_long = let d = length-drop (start + k) bytes in length-take-le n (drop (start + k) bytes) (omega (arith, d, room, is_48)) ∙ is_48

  one_long : length one ≡ 255
  one_long = put_long (replicate 255 0) (take m (drop start bytes)) one 0 255 (length-replicate {A = ℕ} 255 0) (let l = chunk_long in omega (arith, l, few)) first

  pub made_bytes : (j : ℕ) → j < k + 48 → get_or two (position k j) 0 ≡ get_or bytes (start + j) 0
  made_bytes j l =
      let o = one_long in
      elim (cases_lt j k) [
        | inl inside ↦
            ap (λ p. get_or two p 0) (position_in_chunk k j inside)
            ∙ put_before one (take n (drop (start + k) bytes)) two 207 j (omega (arith, o)) second (omega (arith, inside, few))
            ∙ put_byte (replicate 255 0) (take m (drop start bytes)) one 0 j j (omega arith) first (let c = chunk_long in omega (arith, c, inside)) (omega arith)
            ∙ get_or-take m (drop start bytes) j 0 (omega (arith, is_k, inside)) ∙ get_or-drop start bytes j 0
        | inr beyond ↦
            let at : position k j ≡ 207 + (j - k) = position_in_parity k j beyond in
            put_byte one (take n (drop (start + k) bytes)) two 207 (j - k) (position k j) (omega (arith, o)) second (let p = parity_long in omega (arith, p, l, beyond)) at
            ∙ get_or-take n (drop (start + k) bytes) (j - k) 0 (omega (arith, is_48, l, beyond)) ∙ get_or-drop (start + k) bytes (j - k) 0
            ∙ ap (λ p. get_or bytes p 0) (let e : start + k + (j - k) ≡ start + j = omega (arith, beyond) in e)
      ]

  pub made_fill : (p : ℕ) → k ≤ p → p < 207 → get_or two p 0 ≡ 0
  made_fill p low high =
      let o = one_long in
      let c = chunk_long in
      put_before one (take n (drop (start + k) bytes)) two 207 p (omega (arith, o)) second high
      ∙ put_behind (replicate 255 0) (take m (drop start bytes)) one 0 p (omega arith) first (omega (arith, c, low))
      ∙ get_or-replicate 255 p 0 0 (omega (arith, high))
