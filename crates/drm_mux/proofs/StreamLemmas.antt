-- A multiplex frame is that of the streams that its parts make.
use Rattle.std.proofs.Common.{◌≡◌, ℕ, ◌+◌, ◌≤◌, List, [], ◌∷◌, ◌++◌, length, take, drop, map, refl, sym, ◌∙◌, ap, arith, append_assoc, length-append, length-drop, get_or, zero, suc, ◌<◌}
use Rattle.std.specs.List.{sum_by}
use Rattle.std.proofs.Math.Seq.{take-add}
use Rattle.std.proofs.lemmas.List.{drop-drop, length-take-le, take_at, drop_at, take_all, take-append-drop}
use Rattle.std.proofs.lemmas.List.Sums.{sum_by-cons}
use Rattle.drm_bits.specs.declared.description.Part.{Part}
use Rattle.drm_bits.specs.declared.description.MuxDesc.{MuxDesc}
use Rattle.drm_mux.specs.declared.frame.Spans.{Spans}
use Rattle.drm_mux.specs.Frame.{parts_a, parts_b, multiplex_frame, pieces, streams_in, part_length, frame_length, starts, AreSideBySide, EndBy}
use Rattle.drm_mux.specs.Streams.{parts_a_length, joined}

-- each stream, where the parts A are at from_a and on, and the parts B at from_b and on
abbrev pub streams_of : List ℕ → List Part → ℕ → ℕ → List (List ℕ)
streams_of frame [] from_a from_b = []
streams_of frame (p ∷ parts) from_a from_b = (take p.a (drop from_a frame) ++ take p.b (drop from_b frame)) ∷ streams_of frame parts (from_a + p.a) (from_b + p.b)

abbrev pub parts_b_length : List Part → ℕ
parts_b_length parts = sum_by (λ (p : Part). p.b) parts

pub a_cons : (p : Part) (parts : List Part) → parts_a_length (p ∷ parts) ≡ p.a + parts_a_length parts
a_cons p parts = sum_by-cons (λ (q : Part). q.a) p parts

pub b_cons : (p : Part) (parts : List Part) → parts_b_length (p ∷ parts) ≡ p.b + parts_b_length parts
b_cons p parts = sum_by-cons (λ (q : Part). q.b) p parts

pub both_cons : (p : Part) (parts : List Part) → sum_by part_length (p ∷ parts) ≡ p.a + p.b + sum_by part_length parts
both_cons p parts = sum_by-cons part_length p parts

pub both_parts : (parts : List Part) → parts_a_length parts + parts_b_length parts ≡ sum_by part_length parts
both_parts [] = refl
both_parts (p ∷ parts) = omega (arith, both_parts parts, a_cons p parts, b_cons p parts, both_cons p parts)

-- one stream more is written
pub scatter_step : (frame before between after target : List ℕ) (p : Part) (parts : List Part) (a b from_a from_b at : ℕ) → a ≡ p.a → b ≡ p.b
    → take at before ++ joined (streams_of frame (p ∷ parts) from_a from_b) ≡ target
    → take (at + a) between ≡ take at before ++ take a (drop from_a frame)
    → take (at + a + b) after ≡ take (at + a) between ++ take b (drop from_b frame)
    → take (at + (a + b)) after ++ joined (streams_of frame parts (from_a + a) (from_b + b)) ≡ target
scatter_step frame before between after target p parts a b from_a from_b at is_a is_b done first second =
    let x : List ℕ = take a (drop from_a frame) in
    let y : List ℕ = take b (drop from_b frame) in
    let more : List ℕ = joined (streams_of frame parts (from_a + a) (from_b + b)) in
    let place : at + (a + b) ≡ at + a + b = omega arith in
    let written : take (at + (a + b)) after ≡ (take at before ++ x) ++ y = ap (λ n. take n after) place ∙ (second ∙ ap (λ l. l ++ y) first) in
    let stream : (x ++ y) ++ more ≡ joined (streams_of frame (p ∷ parts) from_a from_b) =
    ap (λ n. (take n (drop from_a frame) ++ y) ++ joined (streams_of frame parts (from_a + n) (from_b + b))) is_a
    ∙ ap (λ n. (take p.a (drop from_a frame) ++ take n (drop from_b frame)) ++ joined (streams_of frame parts (from_a + p.a) (from_b + n))) is_b in
    ap (λ l. l ++ more) written
    ∙ (ap (λ l. l ++ more) (append_assoc (take at before) x y)
    ∙ (append_assoc (take at before) (x ++ y) more ∙ (ap (λ l. take at before ++ l) stream ∙ done)))

-- the lengths of the parts of a stream
part_size : (frame : List ℕ) (from n rest : ℕ) → from + (n + rest) ≤ length frame → length (take n (drop from frame)) ≡ n
part_size frame from n rest within = length-take-le n (drop from frame) (omega (arith, within, length-drop from frame))

stream_sizes : (frame : List ℕ) (parts : List Part) (from_a from_b : ℕ) → from_a + parts_a_length parts ≤ length frame → from_b + parts_b_length parts ≤ length frame
    → map length (streams_of frame parts from_a from_b) ≡ map part_length parts
stream_sizes frame [] from_a from_b within_a within_b = refl
stream_sizes frame (p ∷ parts) from_a from_b within_a within_b =
    let a = a_cons p parts in
    let b = b_cons p parts in
    let size_a = part_size frame from_a p.a (parts_a_length parts) (omega (arith, within_a, a)) in
    let size_b = part_size frame from_b p.b (parts_b_length parts) (omega (arith, within_b, b)) in
    let here : length (take p.a (drop from_a frame) ++ take p.b (drop from_b frame)) ≡ p.a + p.b = omega (arith, length-append (take p.a (drop from_a frame)) (take p.b (drop from_b frame)), size_a, size_b) in
    ap (λ n. n ∷ map length (streams_of frame parts (from_a + p.a) (from_b + p.b))) here
    ∙ ap (λ l. (p.a + p.b) ∷ l) (stream_sizes frame parts (from_a + p.a) (from_b + p.b) (omega (arith, within_a, a)) (omega (arith, within_b, b)))

-- pieces that stand one after another
pieces_joined : (front : List ℕ) (streams : List (List ℕ)) (from : ℕ) → length front ≡ from → pieces (front ++ joined streams) (starts from (map length streams)) (map length streams) ≡ streams
pieces_joined front [] from size = refl
pieces_joined front (s ∷ streams) from size =
    let here : take (length s) (drop from (front ++ (s ++ joined streams))) ≡ s = ap (take (length s)) (drop_at front (s ++ joined streams) from size) ∙ take_at s (joined streams) (length s) refl in
    let longer : length (front ++ s) ≡ from + length s = omega (arith, length-append front s, size) in
    let rest : pieces (front ++ (s ++ joined streams)) (starts (from + length s) (map length streams)) (map length streams) ≡ streams =
    ap (λ l. pieces l (starts (from + length s) (map length streams)) (map length streams)) (sym (append_assoc front s (joined streams)))
    ∙ pieces_joined (front ++ s) streams (from + length s) longer in
    ap (λ l. l ∷ pieces (front ++ (s ++ joined streams)) (starts (from + length s) (map length streams)) (map length streams)) here ∙ ap (λ l. s ∷ l) rest

-- a run of the frame, by its first part and the others
run_of : (frame : List ℕ) (from n rest sum : ℕ) → sum ≡ n + rest → take n (drop from frame) ++ take rest (drop (from + n) frame) ≡ take sum (drop from frame)
run_of frame from n rest sum is =
    ap (λ l. take n (drop from frame) ++ take rest l) (sym (drop-drop n from frame)) ∙ (sym (take-add n rest (drop from frame)) ∙ ap (λ k. take k (drop from frame)) (sym is))

frame_parts_a : (frame : List ℕ) (parts : List Part) (from_a from_b : ℕ) → from_a + parts_a_length parts ≤ length frame → parts_a parts (streams_of frame parts from_a from_b) ≡ take (parts_a_length parts) (drop from_a frame)
frame_parts_a frame [] from_a from_b within = refl
frame_parts_a frame (p ∷ parts) from_a from_b within =
    let a = a_cons p parts in
    let size = part_size frame from_a p.a (parts_a_length parts) (omega (arith, within, a)) in
    let x : List ℕ = take p.a (drop from_a frame) in
    ap (λ l. l ++ parts_a parts (streams_of frame parts (from_a + p.a) (from_b + p.b))) (take_at x (take p.b (drop from_b frame)) p.a size)
    ∙ (ap (λ l. x ++ l) (frame_parts_a frame parts (from_a + p.a) (from_b + p.b) (omega (arith, within, a)))
    ∙ run_of frame from_a p.a (parts_a_length parts) (parts_a_length (p ∷ parts)) a)

frame_parts_b : (frame : List ℕ) (parts : List Part) (from_a from_b : ℕ) → from_a + parts_a_length parts ≤ length frame → from_b + parts_b_length parts ≤ length frame
    → parts_b parts (streams_of frame parts from_a from_b) ≡ take (parts_b_length parts) (drop from_b frame)
frame_parts_b frame [] from_a from_b within_a within_b = refl
frame_parts_b frame (p ∷ parts) from_a from_b within_a within_b =
    let a = a_cons p parts in
    let b = b_cons p parts in
    let x : List ℕ = take p.a (drop from_a frame) in
    let y : List ℕ = take p.b (drop from_b frame) in
    let size_a = part_size frame from_a p.a (parts_a_length parts) (omega (arith, within_a, a)) in
    let size_b = part_size frame from_b p.b (parts_b_length parts) (omega (arith, within_b, b)) in
    let here : take p.b (drop p.a (x ++ y)) ≡ y = ap (take p.b) (drop_at x y p.a size_a) ∙ take_all p.b y (omega (arith, size_b)) in
    ap (λ l. l ++ parts_b parts (streams_of frame parts (from_a + p.a) (from_b + p.b))) here
    ∙ (ap (λ l. y ++ l) (frame_parts_b frame parts (from_a + p.a) (from_b + p.b) (omega (arith, within_a, a)) (omega (arith, within_b, b)))
    ∙ run_of frame from_b p.b (parts_b_length parts) (parts_b_length (p ∷ parts)) b)

pub split_frame : (d : MuxDesc) (spans : Spans) (frame bytes : List ℕ) → AreSideBySide d.parts spans → length frame ≡ frame_length d → bytes ≡ joined (streams_of frame d.parts 0 (parts_a_length d.parts))
    → multiplex_frame d (streams_in bytes spans) ≡ frame
split_frame d spans frame bytes side size is =
    let a : ℕ = parts_a_length d.parts in
    let b : ℕ = parts_b_length d.parts in
    let whole : a + b ≡ length frame = both_parts d.parts ∙ sym size in
    let streams : List (List ℕ) = streams_of frame d.parts 0 a in
    let sizes : map length streams ≡ spans.len = stream_sizes frame d.parts 0 a (omega (arith, whole)) (omega (arith, whole)) ∙ sym side.len in
    let places : starts 0 (map length streams) ≡ spans.at = ap (starts 0) sizes ∙ sym side.at in
    let again : streams_in bytes spans ≡ streams =
    ap (λ l. pieces l spans.at spans.len) is
    ∙ (ap (λ l. pieces (joined streams) l spans.len) (sym places)
    ∙ (ap (λ l. pieces (joined streams) (starts 0 (map length streams)) l) (sym sizes) ∙ pieces_joined [] streams 0 refl)) in
    ap (multiplex_frame d) again
    ∙ (ap (λ l. l ++ parts_b d.parts streams) (frame_parts_a frame d.parts 0 a (omega (arith, whole)))
    ∙ (ap (λ l. take a frame ++ l) (frame_parts_b frame d.parts 0 a (omega (arith, whole)) (omega (arith, whole)) ∙ take_all b (drop a frame) (omega (arith, whole, length-drop a frame)))
    ∙ take-append-drop a frame))

-- pieces that stand one after another end within the sum of their lengths
ends_within : (parts : List Part) (from k : ℕ) → k < length parts → get_or (starts from (map part_length parts)) k 0 + get_or (map part_length parts) k 0 ≤ from + sum_by part_length parts
ends_within [] from k below = absurd (omega (arith, below))
ends_within (p ∷ parts) from zero below = omega (arith, both_cons p parts)
ends_within (p ∷ parts) from (suc k) below = omega (arith, both_cons p parts, ends_within parts (from + (p.a + p.b)) k (omega (arith, below)))

pub side_inside : (d : MuxDesc) (spans : Spans) (end : ℕ) → AreSideBySide d.parts spans → length d.parts ≡ 4 → end ≡ frame_length d → EndBy end spans
side_inside d spans end side size is = λ k below.
    let at : get_or spans.at k 0 ≡ get_or (starts 0 (map part_length d.parts)) k 0 = ap (λ l. get_or l k 0) (side.at ∙ ap (starts 0) side.len) in
    let len : get_or spans.len k 0 ≡ get_or (map part_length d.parts) k 0 = ap (λ l. get_or l k 0) side.len in
    omega (arith, at, len, is, ends_within d.parts 0 k (omega (arith, below, size)))
