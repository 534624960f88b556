-- The parts of the streams in the order of the multiplex frame, each by its place in the buffer and its length.
use Rattle.std.specs.Prelude.{ℕ, ◌+◌, List, [], ◌∷◌, ◌++◌}
use Rattle.drm_bits.specs.declared.description.Part.{Part}
use Rattle.drm_bits.specs.declared.description.MuxDesc.{MuxDesc}
use Rattle.drm_mux.specs.declared.frame.Spans.{Spans}

abbrev pub ranges_a : List Part → List ℕ → List (ℕ × ℕ)
ranges_a [] places = []
ranges_a (p ∷ parts) [] = []
ranges_a (p ∷ parts) (at ∷ places) = (at, p.a) ∷ ranges_a parts places

abbrev pub ranges_b : List Part → List ℕ → List (ℕ × ℕ)
ranges_b [] places = []
ranges_b (p ∷ parts) [] = []
ranges_b (p ∷ parts) (at ∷ places) = (at + p.a, p.b) ∷ ranges_b parts places

abbrev pub ranges : MuxDesc → Spans → List (ℕ × ℕ)
ranges d spans = ranges_a d.parts spans.at ++ ranges_b d.parts spans.at
