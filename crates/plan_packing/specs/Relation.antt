-- What a packing is, whoever finds it: each size in turn is in the first super frame, not before that of the size before it,
-- whose free bytes hold it.
use Rattle.std.specs.Prelude.{ℕ, zero, suc, ◌≡◌, ◌+◌, ◌<◌, ◌≤◌, ◌==◌, if◌then◌else◌, List, [], ◌∷◌, length, slice_index}

-- the bytes of those sizes that are in frame g
abbrev pub bytes_in : ℕ → List ℕ → List ℕ → ℕ
bytes_in g [] frames = 0
bytes_in g (size ∷ sizes) [] = 0
bytes_in g (size ∷ sizes) (frame ∷ frames) = (if frame == g then size else 0) + bytes_in g sizes frames

-- the frame of the size before the i-th; before all of them it is the first frame
abbrev pub frame_before : List ℕ → ℕ → ℕ
frame_before frames zero = 0
frame_before frames (suc i) = slice_index frames i

-- The sizes are packed into these frames, of which each has so many free bytes. The frames don't fall, and are there; none
-- has more bytes than are free; and no frame that a size passed by would have held it, behind what is in that frame.
pub record IsPacking (free sizes frames : List ℕ) : Type 0 where
  pub each : length frames ≡ length sizes
  pub in_order : (i : ℕ) → i < length frames → frame_before frames i ≤ slice_index frames i
  pub there : (i : ℕ) → i < length frames → slice_index frames i < length free
  pub held : (g : ℕ) → bytes_in g sizes frames ≤ slice_index free g
  pub first : (i g : ℕ) → i < length frames → frame_before frames i ≤ g → g < slice_index frames i → slice_index free g < bytes_in g sizes frames + slice_index sizes i
