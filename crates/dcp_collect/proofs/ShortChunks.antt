-- Chunks of few bytes, solved by those that are known.
use Rattle.std.proofs.Common.{ℕ, ◌≡◌, ◌+◌, ◌-◌, ◌%◌, ◌<◌, ◌≤◌, inl, inr, Bool, true, false, List, ◌++◌, length, take, drop, get_or, refl, slice_set, replicate, append_assoc, sym, subst, ap, ◌∙◌, arith}
use Rattle.std.proofs.lemmas.Bool.{cases_eq, cases_lt, false≢true}
use Rattle.std.proofs.lemmas.List.{get_or-append_right, get_or-drop, get_or-set_other, get_or-set_same, get_or-take, get_or_append_left, length-take-le, take_at}
use Rattle.rs_erase.specs.Code.{AgreesOutside, word_of}
use Rattle.rs_erase.specs.Short.{HasBytes}
use Rattle.rs_patterns.proofs.Positions.{position_in_chunk, position_in_parity}
use Rattle.rs_patterns.proofs.PatternPlaces.{same_index}
use Rattle.rs_patterns.specs.Marks.{is_marked}
use Rattle.dcp_collect.specs.Counters.{MarksDescribe}
use Rattle.dcp_collect.specs.Fragments.{NumberedFragment, has_index}
use Rattle.dcp_collect.specs.Erasure.{IsFound, erased_positions, position}
use Rattle.dcp_collect.specs.Short.{IsKnown}
use Rattle.dcp_collect.specs.declared.short_chunks.KnownBytes.{KnownBytes}
use Rattle.dcp_collect.proofs.Chunks.{chunk_found}
use Rattle.dcp_collect.proofs.StoredWords.{word_agrees}
use Rattle.dcp_collect.proofs.Words.{of_chunk, of_fill, of_parity}

-- so many places have the known ones of the first bytes of a chunk
abbrev pub KnowsFirst : ℕ → ℕ → List Bool → List ℕ → ℕ → ℕ → Type 0
KnowsFirst count first marks places n end =
    (j : ℕ) → j < end → is_marked marks ((first + j) % count) ≡ true → (i : ℕ) × (i < n) × (get_or places i 0 ≡ j)

-- one more byte, with its place or without
pub knows_known : (count first : ℕ) (marks : List Bool) (places : List ℕ) (n end : ℕ) → n < length places
    → KnowsFirst count first marks places n end → KnowsFirst count first marks (slice_set places n end) (n + 1) (end + 1)
knows_known count first marks places n end room knows j lt marked =
    elim (cases_eq j end) [
      | inl last ↦ (n, omega arith, get_or-set_same places n end 0 room ∙ sym last)
      | inr before ↦
          let old = knows j (omega (arith, lt, before)) marked in
          let small = old.1 in
          (old.0, omega (arith, small), get_or-set_other places n old.0 end 0 (λ e. absurd (omega (arith, e, small))) ∙ old.2)
    ]

pub knows_erased : (count first : ℕ) (marks : List Bool) (places : List ℕ) (n end : ℕ) → is_marked marks ((first + end) % count) ≡ false
    → KnowsFirst count first marks places n end → KnowsFirst count first marks places n (end + 1)
knows_erased count first marks places n end none knows j lt marked =
    elim (cases_eq j end) [
      | inl last ↦ absurd (false≢true (sym none ∙ ap (λ i. is_marked marks ((first + i) % count)) (sym last) ∙ marked))
      | inr before ↦ knows j (omega (arith, lt, before)) marked
    ]

-- each of them is a place of a chunk
pub within_known : (places : List ℕ) (n end k : ℕ) → n < length places → end < k + 48 → ((i : ℕ) → i < n → get_or places i 0 < k + 48)
    → (i : ℕ) → i < n + 1 → get_or (slice_set places n end) i 0 < k + 48
within_known places n end k room lt within i small =
    elim (cases_eq i n) [
      | inl last ↦ subst (λ m. get_or (slice_set places n end) m 0 < k + 48) (sym last) (omega (arith, get_or-set_same places n end 0 room, lt))
      | inr before ↦ omega (arith, get_or-set_other places n i end 0 before, within i (omega (arith, small, before)))
    ]

-- the chunk of its code word
same_chunk : (chunk parity : List ℕ) (k : ℕ) → k ≤ 207 → length chunk ≡ k → take k (word_of chunk parity) ≡ chunk
same_chunk chunk parity k few long =
    ap (take k) (append_assoc chunk (replicate (207 - length chunk) 0) parity) ∙ take_at chunk (replicate (207 - length chunk) 0 ++ parity) k long

-- the chunk with its parity, by the positions of its code word
coded_at : (chunk parity : List ℕ) (k j : ℕ) → k ≤ 207 → length chunk ≡ k → get_or (word_of chunk parity) (position k j) 0 ≡ get_or (chunk ++ parity) j 0
coded_at chunk parity k j few long =
    elim (cases_lt j k) [
      | inl inside ↦
          ap (λ p. get_or (word_of chunk parity) p 0) (position_in_chunk k j inside) ∙ of_chunk k chunk parity few long j inside
          ∙ sym (get_or_append_left chunk parity 0 j (omega (arith, long, inside)))
      | inr beyond ↦
          let e : 207 + (j - k) - 207 ≡ j - k = omega arith in
          ap (λ p. get_or (word_of chunk parity) p 0) (position_in_parity k j beyond) ∙ of_parity k chunk parity few long (207 + (j - k)) (omega arith)
          ∙ ap (λ p. get_or parity p 0) e ∙ sym (get_or-append_right chunk parity k j 0 long beyond)
    ]

-- The bytes that were written are those of a chunk, if its code word has the known bytes.
pub known_found : (count : ℕ) (fs : List NumberedFragment) (marks : List Bool) (known : KnownBytes) (bytes : List ℕ) (k start at : ℕ) (old new : List ℕ)
    → k ≤ 15 → length bytes ≡ 16 → IsKnown count k marks known → known.first ≡ start % count
    → HasBytes (take k bytes) (take known.len known.places) (drop start old) → at + k ≤ length old
    → new ≡ take at old ++ take k bytes ++ drop (at + length (take k bytes)) old
    → MarksDescribe count fs marks old start (start + k + 48) → IsFound count fs k start (take k (drop at new))
known_found count fs marks known bytes k start at old new few long is first has room put t =
    let chunk : List ℕ = take k bytes in
    let long_chunk : length (take k bytes) ≡ k = length-take-le k bytes (omega (arith, few, long)) in
    let small : k ≤ 207 = omega (arith, few) in
    let word : List ℕ = word_of (take k bytes) has.parity in
    let byte : (j : ℕ) → j < k + 48 → has_index fs ((start + j) % count) ≡ true → get_or (word_of (take k bytes) has.parity) (position k j) 0 ≡ get_or old (start + j) 0 = λ j lt there.
    let place : (known.first + j) % count ≡ (start + j) % count = ap (λ f. (f + j) % count) first ∙ same_index count start j in
    let marked : is_marked marks ((known.first + j) % count) ≡ true = ap (is_marked marks) place ∙ sym (t.by_marks ((start + j) % count)) ∙ there in
    let found = is.each j lt marked in
    let before = found.1 in
    let some = is.are.few in
    let room_of = is.are.room in
    let listed : get_or (take known.len known.places) found.0 0 ≡ j = get_or-take known.len known.places found.0 0 found.1 ∙ found.2 in
    let kept : length (take known.len known.places) ≡ known.len = length-take-le known.len known.places (omega (arith, room_of, some)) in
    let same : get_or (take k bytes ++ has.parity) j 0 ≡ get_or (drop start old) j 0 =
    subst (λ i. get_or (take k bytes ++ has.parity) i 0 ≡ get_or (drop start old) i 0) listed (has.each found.0 (omega (arith, before, kept))) in
    coded_at (take k bytes) has.parity k j small long_chunk ∙ same ∙ get_or-drop start old j 0 in
    let agrees = word_agrees count fs marks old word k start small t has.code_word.long byte (of_fill k (take k bytes) has.parity small long_chunk) in
    let itself : AgreesOutside (erased_positions count (has_index fs) start k (k + 48)) word word = record { long = refl; same = λ p out. refl } in
    let front : take k (word_of (take k bytes) has.parity) ≡ take k bytes = same_chunk (take k bytes) has.parity k small long_chunk in
    chunk_found count fs k start at (erased_positions count (has_index fs) start k (k + 48)) word word old new refl agrees has.code_word itself small room
    (subst (λ (zs : List ℕ). new ≡ take at old ++ zs ++ drop (at + length zs) old) (sym front) put)
