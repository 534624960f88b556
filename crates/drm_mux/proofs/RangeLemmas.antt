-- The multiplex frame is what stands at the ranges of its parts.
use Rattle.std.proofs.Common.{◌≡◌, ℕ, zero, suc, ◌+◌, ◌-◌, ◌<◌, ◌≤◌, List, [], ◌∷◌, ◌++◌, length, take, drop, get_or, refl, sym, ◌∙◌, ap, arith, append_assoc, length-append, inl, inr, length-drop}
use Rattle.std.specs.List.{sum_by}
use Rattle.std.proofs.lemmas.Bool.{cases_lt}
use Rattle.std.proofs.lemmas.List.{get_or_append_left, get_or-append_right, get_or-drop, get_or-replicate, drop-take, drop-drop, length-take-le, drop_more, get_or-take}
use Rattle.std.proofs.lemmas.List.Sums.{sum_by-cons}
use Rattle.drm_bits.specs.Description.{IsDescription}
use Rattle.drm_bits.specs.declared.description.Part.{Part}
use Rattle.drm_bits.specs.declared.description.MuxDesc.{MuxDesc}
use Rattle.drm_mux.specs.declared.frame.Spans.{Spans}
use Rattle.drm_mux.specs.Frame.{parts_a, parts_b, multiplex_frame, pieces, streams_in, part_length, frame_length, stream_length, HaveTheirLengths}
use Rattle.drm_mux.specs.Ranges.{ranges_a, ranges_b, ranges}
use Rattle.drm_bits.proofs.PartLemmas.{no_part}

-- a stream is as long as both of its parts, also where it isn't described
pub covers : (d : MuxDesc) (spans : Spans) → IsDescription d → HaveTheirLengths d spans → (k : ℕ) → k < 4 → stream_length d k ≤ get_or spans.len k 0
covers d spans is lengths k below =
    elim (cases_lt k d.count) [
      | inl described ↦ omega (arith, lengths k described)
      | inr other ↦
          let place : d.count + (k - d.count) ≡ k = omega arith in
          let none : get_or d.parts k no_part ≡ no_part =
          ap (λ i. get_or d.parts i no_part) (sym place)
          ∙ (sym (get_or-drop d.count d.parts (k - d.count) no_part)
          ∙ (ap (λ l. get_or l (k - d.count) no_part) is.rest ∙ get_or-replicate (4 - d.count) (k - d.count) no_part no_part (omega arith))) in
          let empty : stream_length d k ≡ 0 = ap part_length none in
          omega (arith, empty)
    ]

pub length-ranges_a : (parts : List Part) (places : List ℕ) → length parts ≡ length places → length (ranges_a parts places) ≡ length parts
length-ranges_a [] places same = refl
length-ranges_a (p ∷ parts) [] same = absurd (omega (arith, same))
length-ranges_a (p ∷ parts) (at ∷ places) same = ap suc (length-ranges_a parts places (omega (arith, same)))

pub length-ranges_b : (parts : List Part) (places : List ℕ) → length parts ≡ length places → length (ranges_b parts places) ≡ length parts
length-ranges_b [] places same = refl
length-ranges_b (p ∷ parts) [] same = absurd (omega (arith, same))
length-ranges_b (p ∷ parts) (at ∷ places) same = ap suc (length-ranges_b parts places (omega (arith, same)))

get_or-ranges_a : (parts : List Part) (places : List ℕ) (k : ℕ) → length parts ≡ length places → k < length parts → get_or (ranges_a parts places) k (0, 0) ≡ (get_or places k 0, (get_or parts k no_part).a)
get_or-ranges_a [] places k same below = absurd (omega (arith, below))
get_or-ranges_a (p ∷ parts) [] k same below = absurd (omega (arith, same))
get_or-ranges_a (p ∷ parts) (at ∷ places) zero same below = refl
get_or-ranges_a (p ∷ parts) (at ∷ places) (suc k) same below = get_or-ranges_a parts places k (omega (arith, same)) (omega (arith, below))

get_or-ranges_b : (parts : List Part) (places : List ℕ) (k : ℕ) → length parts ≡ length places → k < length parts
    → get_or (ranges_b parts places) k (0, 0) ≡ (get_or places k 0 + (get_or parts k no_part).a, (get_or parts k no_part).b)
get_or-ranges_b [] places k same below = absurd (omega (arith, below))
get_or-ranges_b (p ∷ parts) [] k same below = absurd (omega (arith, same))
get_or-ranges_b (p ∷ parts) (at ∷ places) zero same below = refl
get_or-ranges_b (p ∷ parts) (at ∷ places) (suc k) same below = get_or-ranges_b parts places k (omega (arith, same)) (omega (arith, below))

pub range_a : (d : MuxDesc) (spans : Spans) (index : ℕ) → length d.parts ≡ 4 → length spans.at ≡ 4 → index < 4 → get_or (ranges d spans) index (0, 0) ≡ (get_or spans.at index 0, (get_or d.parts index no_part).a)
range_a d spans index size_d size_s below =
    let same : length d.parts ≡ length spans.at = size_d ∙ sym size_s in
    get_or_append_left (ranges_a d.parts spans.at) (ranges_b d.parts spans.at) (0, 0) index (omega (arith, below, size_d, length-ranges_a d.parts spans.at same))
    ∙ get_or-ranges_a d.parts spans.at index same (omega (arith, below, size_d))

pub range_b : (d : MuxDesc) (spans : Spans) (index : ℕ) → length d.parts ≡ 4 → length spans.at ≡ 4 → 4 ≤ index → index < 8
    → get_or (ranges d spans) index (0, 0) ≡ (get_or spans.at (index - 4) 0 + (get_or d.parts (index - 4) no_part).a, (get_or d.parts (index - 4) no_part).b)
range_b d spans index size_d size_s above below =
    let same : length d.parts ≡ length spans.at = size_d ∙ sym size_s in
    get_or-append_right (ranges_a d.parts spans.at) (ranges_b d.parts spans.at) 4 index (0, 0) (length-ranges_a d.parts spans.at same ∙ size_d) above
    ∙ get_or-ranges_b d.parts spans.at (index - 4) same (omega (arith, below, size_d))

-- what stands at the ranges, one after another
abbrev pub cut : List ℕ → List (ℕ × ℕ) → List ℕ
cut buffer [] = []
cut buffer (r ∷ rs) = take r.1 (drop r.0 buffer) ++ cut buffer rs

abbrev pub total : List (ℕ × ℕ) → ℕ
total [] = 0
total (r ∷ rs) = r.1 + total rs

cut-append : (buffer : List ℕ) (rs others : List (ℕ × ℕ)) → cut buffer (rs ++ others) ≡ cut buffer rs ++ cut buffer others
cut-append buffer [] others = refl
cut-append buffer (r ∷ rs) others = ap (λ l. take r.1 (drop r.0 buffer) ++ l) (cut-append buffer rs others) ∙ sym (append_assoc (take r.1 (drop r.0 buffer)) (cut buffer rs) (cut buffer others))

total-append : (rs others : List (ℕ × ℕ)) → total (rs ++ others) ≡ total rs + total others
total-append [] others = omega arith
total-append (r ∷ rs) others = omega (arith, total-append rs others)

-- a part of a piece is a piece
take-take : (m n : ℕ) (xs : List ℕ) → m ≤ n → take m (take n xs) ≡ take m xs
take-take zero n xs le = refl
take-take (suc m) zero xs le = absurd (omega (arith, le))
take-take (suc m) (suc n) [] le = refl
take-take (suc m) (suc n) (x ∷ xs) le = ap (λ l. x ∷ l) (take-take m n xs (omega (arith, le)))

part_of_piece : (at a b len : ℕ) (buffer : List ℕ) → a + b ≤ len → take b (drop a (take len (drop at buffer))) ≡ take b (drop (at + a) buffer)
part_of_piece at a b len buffer le =
    let parts : a + (len - a) ≡ len = omega arith in
    ap (λ k. take b (drop a (take k (drop at buffer)))) (sym parts)
    ∙ (ap (take b) (drop-take a (len - a) (drop at buffer))
    ∙ (take-take b (len - a) (drop a (drop at buffer)) (omega arith) ∙ ap (take b) (drop-drop a at buffer)))

frame_a : (parts : List Part) (places lens buffer : List ℕ) → length parts ≡ length places → length parts ≡ length lens → ((k : ℕ) → k < length parts → part_length (get_or parts k no_part) ≤ get_or lens k 0)
    → parts_a parts (pieces buffer places lens) ≡ cut buffer (ranges_a parts places)
frame_a [] places lens buffer same_p same_l fit = refl
frame_a (p ∷ parts) [] lens buffer same_p same_l fit = absurd (omega (arith, same_p))
frame_a (p ∷ parts) (at ∷ places) [] buffer same_p same_l fit = absurd (omega (arith, same_l))
frame_a (p ∷ parts) (at ∷ places) (len ∷ lens) buffer same_p same_l fit =
    let here : p.a + p.b ≤ len = fit 0 (omega arith) in
    ap (λ l. l ++ parts_a parts (pieces buffer places lens)) (take-take p.a len (drop at buffer) (omega (arith, here)))
    ∙ ap (λ l. take p.a (drop at buffer) ++ l) (frame_a parts places lens buffer (omega (arith, same_p)) (omega (arith, same_l)) (λ k below. fit (suc k) (omega (arith, below))))

frame_b : (parts : List Part) (places lens buffer : List ℕ) → length parts ≡ length places → length parts ≡ length lens → ((k : ℕ) → k < length parts → part_length (get_or parts k no_part) ≤ get_or lens k 0)
    → parts_b parts (pieces buffer places lens) ≡ cut buffer (ranges_b parts places)
frame_b [] places lens buffer same_p same_l fit = refl
frame_b (p ∷ parts) [] lens buffer same_p same_l fit = absurd (omega (arith, same_p))
frame_b (p ∷ parts) (at ∷ places) [] buffer same_p same_l fit = absurd (omega (arith, same_l))
frame_b (p ∷ parts) (at ∷ places) (len ∷ lens) buffer same_p same_l fit =
    let here : p.a + p.b ≤ len = fit 0 (omega arith) in
    ap (λ l. l ++ parts_b parts (pieces buffer places lens)) (part_of_piece at p.a p.b len buffer here)
    ∙ ap (λ l. take p.b (drop (at + p.a) buffer) ++ l) (frame_b parts places lens buffer (omega (arith, same_p)) (omega (arith, same_l)) (λ k below. fit (suc k) (omega (arith, below))))

pub frame_cut : (d : MuxDesc) (spans : Spans) (buffer : List ℕ) → length spans.at ≡ 4 → length spans.len ≡ 4 → IsDescription d → HaveTheirLengths d spans → multiplex_frame d (streams_in buffer spans) ≡ cut buffer (ranges d spans)
frame_cut d spans buffer size_at size_len is lengths =
    let same_p : length d.parts ≡ length spans.at = is.size ∙ sym size_at in
    let same_l : length d.parts ≡ length spans.len = is.size ∙ sym size_len in
    let fit : (k : ℕ) → k < length d.parts → part_length (get_or d.parts k no_part) ≤ get_or spans.len k 0 = λ k below. covers d spans is lengths k (omega (arith, below, is.size)) in
    ap (λ l. l ++ parts_b d.parts (streams_in buffer spans)) (frame_a d.parts spans.at spans.len buffer same_p same_l fit)
    ∙ (ap (λ l. cut buffer (ranges_a d.parts spans.at) ++ l) (frame_b d.parts spans.at spans.len buffer same_p same_l fit)
    ∙ sym (cut-append buffer (ranges_a d.parts spans.at) (ranges_b d.parts spans.at)))

totals : (parts : List Part) (places : List ℕ) → length parts ≡ length places → total (ranges_a parts places) + total (ranges_b parts places) ≡ sum_by part_length parts
totals [] places same = refl
totals (p ∷ parts) [] same = absurd (omega (arith, same))
totals (p ∷ parts) (at ∷ places) same = omega (arith, totals parts places (omega (arith, same)), sum_by-cons part_length p parts)

pub total-ranges : (d : MuxDesc) (spans : Spans) → length d.parts ≡ 4 → length spans.at ≡ 4 → total (ranges d spans) ≡ frame_length d
total-ranges d spans size_d size_s = total-append (ranges_a d.parts spans.at) (ranges_b d.parts spans.at) ∙ totals d.parts spans.at (size_d ∙ sym size_s)

pub length-ranges : (d : MuxDesc) (spans : Spans) → length d.parts ≡ 4 → length spans.at ≡ 4 → length (ranges d spans) ≡ 8
length-ranges d spans size_d size_s =
    let same : length d.parts ≡ length spans.at = size_d ∙ sym size_s in
    omega (arith, length-append (ranges_a d.parts spans.at) (ranges_b d.parts spans.at), length-ranges_a d.parts spans.at same, length-ranges_b d.parts spans.at same, size_d)

-- the first of the ranges from index on
pub first_range : (rs : List (ℕ × ℕ)) (index : ℕ) (r : ℕ × ℕ) → index < length rs → r ≡ get_or rs index (0, 0) → drop index rs ≡ r ∷ drop (index + 1) rs
first_range rs index r below is = drop_more rs index (0, 0) below ∙ ap (λ x. x ∷ drop (index + 1) rs) (sym is)

-- One range more is copied.
pub gather_step : (rs : List (ℕ × ℕ)) (r : ℕ × ℕ) (index at : ℕ) (buffer before after start : List ℕ) → drop index rs ≡ r ∷ drop (index + 1) rs
    → take at before ++ cut buffer (drop index rs) ≡ cut buffer rs → drop at before ≡ drop at start
    → take (at + r.1) after ≡ take at before ++ take r.1 (drop r.0 buffer) → drop (at + r.1) after ≡ drop (at + r.1) before
    → (take (at + r.1) after ++ cut buffer (drop (index + 1) rs) ≡ cut buffer rs) × (drop (at + r.1) after ≡ drop (at + r.1) start)
gather_step rs r index at buffer before after start first done rest is_front is_rest =
    let slice : List ℕ = take r.1 (drop r.0 buffer) in
    let more : List ℕ = cut buffer (drop (index + 1) rs) in (
      ap (λ l. l ++ more) is_front ∙ (append_assoc (take at before) slice more ∙ (ap (λ l. take at before ++ l) (sym (ap (cut buffer) first)) ∙ done)),
      is_rest ∙ (sym (drop-drop r.1 at before) ∙ (ap (drop r.1) rest ∙ drop-drop r.1 at start)),
    )

-- a byte within the first range, and one behind it
pub byte_here : (rs : List (ℕ × ℕ)) (r : ℕ × ℕ) (index rest : ℕ) (buffer : List ℕ) → drop index rs ≡ r ∷ drop (index + 1) rs → r.0 + r.1 ≤ length buffer → rest < r.1
    → get_or (cut buffer (drop index rs)) rest 0 ≡ get_or buffer (r.0 + rest) 0
byte_here rs r index rest buffer first inside within =
    let slice : List ℕ = take r.1 (drop r.0 buffer) in
    let size : length slice ≡ r.1 = length-take-le r.1 (drop r.0 buffer) (omega (arith, inside, length-drop r.0 buffer)) in
    ap (λ l. get_or (cut buffer l) rest 0) first
    ∙ (get_or_append_left slice (cut buffer (drop (index + 1) rs)) 0 rest (omega (arith, size, within))
    ∙ (get_or-take r.1 (drop r.0 buffer) rest 0 within ∙ get_or-drop r.0 buffer rest 0))

pub byte_behind : (rs : List (ℕ × ℕ)) (r : ℕ × ℕ) (index rest : ℕ) (buffer : List ℕ) → drop index rs ≡ r ∷ drop (index + 1) rs → r.0 + r.1 ≤ length buffer → r.1 ≤ rest
    → get_or (cut buffer (drop index rs)) rest 0 ≡ get_or (cut buffer (drop (index + 1) rs)) (rest - r.1) 0
byte_behind rs r index rest buffer first inside above =
    let slice : List ℕ = take r.1 (drop r.0 buffer) in
    let size : length slice ≡ r.1 = length-take-le r.1 (drop r.0 buffer) (omega (arith, inside, length-drop r.0 buffer)) in
    ap (λ l. get_or (cut buffer l) rest 0) first ∙ get_or-append_right slice (cut buffer (drop (index + 1) rs)) r.1 rest 0 size above
