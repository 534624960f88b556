-- The multiplex frame (ES 201 980): the parts A of all streams, then their parts B.
use Rattle.std.specs.Prelude.{ℕ, ◌≡◌, ◌+◌, ◌<◌, ◌≤◌, List, [], ◌∷◌, ◌++◌, take, drop, map, sum_by, slice_index, slice_index_or}
use Rattle.drm_bits.specs.Description.{IsDescription}
use Rattle.drm_bits.specs.declared.description.Part.{Part}
use Rattle.drm_bits.specs.declared.description.MuxDesc.{MuxDesc}
use Rattle.drm_mux.specs.declared.frame.Spans.{Spans}

-- the parts A of the streams, in order
abbrev pub parts_a : List Part → List (List ℕ) → List ℕ
parts_a [] streams = []
parts_a (p ∷ parts) [] = []
parts_a (p ∷ parts) (stream ∷ streams) = take p.a stream ++ parts_a parts streams

-- the parts B of the streams, in order: a stream is its part A and then its part B
abbrev pub parts_b : List Part → List (List ℕ) → List ℕ
parts_b [] streams = []
parts_b (p ∷ parts) [] = []
parts_b (p ∷ parts) (stream ∷ streams) = take p.b (drop p.a stream) ++ parts_b parts streams

abbrev pub multiplex_frame : MuxDesc → List (List ℕ) → List ℕ
multiplex_frame d streams = parts_a d.parts streams ++ parts_b d.parts streams

-- the pieces of a buffer that begin at these places and have these lengths
abbrev pub pieces : List ℕ → List ℕ → List ℕ → List (List ℕ)
pieces buffer [] lens = []
pieces buffer (at ∷ places) [] = []
pieces buffer (at ∷ places) (len ∷ lens) = take len (drop at buffer) ∷ pieces buffer places lens

-- the streams that the spans name in a buffer
abbrev pub streams_in : List ℕ → Spans → List (List ℕ)
streams_in buffer spans = pieces buffer spans.at spans.len

-- the length of a stream, and of the multiplex frame
abbrev pub part_length : Part → ℕ
part_length p = p.a + p.b

abbrev pub frame_length : MuxDesc → ℕ
frame_length d = sum_by part_length d.parts

abbrev pub stream_length : MuxDesc → ℕ → ℕ
stream_length d k = part_length (slice_index_or d.parts k (record { a = 0; b = 0 }))

-- each described stream has its length
abbrev pub HaveTheirLengths : MuxDesc → Spans → Type 0
HaveTheirLengths d spans = (k : ℕ) → k < d.count → slice_index spans.len k ≡ stream_length d k

-- each span ends at or below a place
abbrev pub EndBy : ℕ → Spans → Type 0
EndBy end spans = (k : ℕ) → k < 4 → slice_index spans.at k + slice_index spans.len k ≤ end

-- a description, and four spans that end at or below a place
pub record HasSpans (d : MuxDesc) (spans : Spans) (end : ℕ) : Type 0 where
  pub description : IsDescription d
  pub inside : EndBy end spans

-- a description, and the spans of its streams: each as long as its two parts, and all end at or below a place
pub record HasStreams (d : MuxDesc) (spans : Spans) (end : ℕ) : Type 0 where
  pub description : IsDescription d
  pub lengths : HaveTheirLengths d spans
  pub inside : EndBy end spans

-- where pieces of these lengths begin that stand one after another
abbrev pub starts : ℕ → List ℕ → List ℕ
starts from [] = []
starts from (len ∷ lens) = from ∷ starts (from + len) lens

-- the spans of the streams with these parts that stand one after another from the front
pub record AreSideBySide (parts : List Part) (spans : Spans) : Type 0 where
  pub len : spans.len ≡ map part_length parts
  pub at : spans.at ≡ starts 0 spans.len
