-- The multiplex frame has as many bytes as are described, and is written part by part.
use Rattle.std.proofs.Common.{◌≡◌, ℕ, suc, ◌+◌, ◌-◌, ◌<◌, ◌≤◌, List, [], ◌∷◌, ◌++◌, length, take, drop, get_or, Result, refl, sym, ◌∙◌, ap, append-nil, arith, length-append, length-drop}
use Rattle.std.specs.Prelude.{codes}
use Rattle.std.specs.List.{sum_by}
use Rattle.std.proofs.lemmas.List.{length-take-le}
use Rattle.std.proofs.lemmas.List.Sums.{sum_by-cons}
use Rattle.hex.specs.Hex.{encode_with, encode_lower}
use Rattle.drm_bits.specs.Description.{IsDescription}
use Rattle.drm_bits.specs.declared.description.Part.{Part}
use Rattle.drm_bits.specs.declared.description.MuxDesc.{MuxDesc}
use Rattle.drm_links.specs.Known.{Known}
use Rattle.drm_links.specs.Sink.{Output, OutputsText, WritesWhole}
use Rattle.drm_links.proofs.KnownLemmas.{OutputsText-weaker}
use Rattle.drm_mux.specs.declared.frame.Spans.{Spans}
use Rattle.drm_mux.specs.Frame.{parts_a, parts_b, multiplex_frame, pieces, streams_in, part_length, frame_length, HaveTheirLengths, EndBy}
use Rattle.drm_bits.proofs.PartLemmas.{no_part}
use Rattle.drm_mux.proofs.RangeLemmas.{covers, cut, first_range}
use Rattle.report_text.specs.FrameLine.{bytes_text}

length-parts : (parts : List Part) (places lens buffer : List ℕ) → length parts ≡ length places → length parts ≡ length lens
    → ((k : ℕ) → k < length parts → part_length (get_or parts k no_part) ≤ get_or lens k 0) → ((k : ℕ) → k < length parts → get_or places k 0 + get_or lens k 0 ≤ length buffer)
    → length (parts_a parts (pieces buffer places lens)) + length (parts_b parts (pieces buffer places lens)) ≡ sum_by part_length parts
length-parts [] places lens buffer same_p same_l fit inside = refl
length-parts (p ∷ parts) [] lens buffer same_p same_l fit inside = absurd (omega (arith, same_p))
length-parts (p ∷ parts) (at ∷ places) [] buffer same_p same_l fit inside = absurd (omega (arith, same_l))
length-parts (p ∷ parts) (at ∷ places) (len ∷ lens) buffer same_p same_l fit inside =
    let stream : List ℕ = take len (drop at buffer) in
    let here : p.a + p.b ≤ len = fit 0 (omega arith) in
    let within : at + len ≤ length buffer = inside 0 (omega arith) in
    let all : length stream ≡ len = length-take-le len (drop at buffer) (omega (arith, within, length-drop at buffer)) in
    let a : length (take p.a stream) ≡ p.a = length-take-le p.a stream (omega (arith, all, here)) in
    let b : length (take p.b (drop p.a stream)) ≡ p.b = length-take-le p.b (drop p.a stream) (omega (arith, all, here, length-drop p.a stream)) in
    let rest : length (parts_a parts (pieces buffer places lens)) + length (parts_b parts (pieces buffer places lens)) ≡ sum_by part_length parts =
    length-parts parts places lens buffer (omega (arith, same_p)) (omega (arith, same_l)) (λ k below. fit (suc k) (omega (arith, below))) (λ k below. inside (suc k) (omega (arith, below))) in
    omega (arith, length-append (take p.a stream) (parts_a parts (pieces buffer places lens)), length-append (take p.b (drop p.a stream)) (parts_b parts (pieces buffer places lens)), a, b, rest, sum_by-cons part_length p parts)

pub length-frame : (mux : MuxDesc) (streams : Spans) (payload : List ℕ) → length streams.at ≡ 4 → length streams.len ≡ 4 → IsDescription mux → HaveTheirLengths mux streams → EndBy (length payload) streams
    → length (multiplex_frame mux (streams_in payload streams)) ≡ frame_length mux
length-frame mux streams payload size_at size_len is lengths inside =
    let lent : List (List ℕ) = pieces payload streams.at streams.len in
    let four : length mux.parts ≡ 4 = is.size in
    length-append (parts_a mux.parts lent) (parts_b mux.parts lent)
    ∙ length-parts mux.parts streams.at streams.len payload (four ∙ sym size_at) (four ∙ sym size_len)
    (λ k below. covers mux streams is lengths k (omega (arith, below, four)))
    (λ k below. inside k (omega (arith, below, four)))

-- ---- the text of bytes

pub some_bytes : (bytes : List ℕ) → 0 < length bytes → bytes_text bytes ≡ encode_lower bytes
some_bytes [] some = absurd (omega (arith, some))
some_bytes (b ∷ bytes) some = refl

-- without bytes a dash is written
pub dash_written : {E : Type 0} (bytes : List ℕ) (a b : Known Output) (r : Result (Unit {0}) E) → length bytes ≡ 0 → WritesWhole r a b (codes "-") → WritesWhole r a b (bytes_text bytes)
dash_written [] a b r none written = written
dash_written (x ∷ bytes) a b r none written = absurd (omega (arith, none))

-- the part with an index, and those behind it
pub one_part : (payload : List ℕ) (parts : List (ℕ × ℕ)) (index : ℕ) (part : ℕ × ℕ) → index < length parts → part ≡ get_or parts index (0, 0)
    → take (part.0 + part.1 - part.0) (drop part.0 payload) ++ cut payload (drop (index + 1) parts) ≡ cut payload (drop index parts)
one_part payload parts index part below is =
    ap (λ (k : ℕ). take k (drop part.0 payload) ++ cut payload (drop (index + 1) parts)) (let e : part.0 + part.1 - part.0 ≡ part.1 = omega arith in e)
    ∙ sym (ap (cut payload) (first_range parts index part below is))

-- the digits of all parts
pub all_parts : (bytes rest : List ℕ) (a b : Known Output) → 0 < length bytes → rest ≡ []
    → OutputsText a b (λ text. text ++ encode_lower rest ≡ encode_lower bytes) → OutputsText a b (λ text. text ≡ bytes_text bytes)
unfolding encode_with
all_parts bytes [] a b some none done =
    OutputsText-weaker (λ text. text ++ [] ≡ encode_lower bytes) (λ text. text ≡ bytes_text bytes) a b done
    (λ text is. sym (append-nil text) ∙ (is ∙ sym (some_bytes bytes some)))
all_parts bytes (x ∷ rest) a b some none done = cc
