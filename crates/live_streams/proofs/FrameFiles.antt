-- The bytes that live streams have as files, one frame after another, are those of each frame.
use Rattle.std.proofs.Common.{◌≡◌, ◌≤◌, ◌<◌, ◌+◌, ◌*◌, ℕ, zero, suc, Bool, true, false, List, [], ◌∷◌, ◌++◌, codes, length, map, take, drop, get_or, if◌then◌else◌, refl, sym, ap, ◌∙◌, arith}
use Rattle.std.specs.List.{flat_map, range_with_len}
use Rattle.std.proofs.lemmas.List.{length-append, length-map, take_at, drop_at, drop-drop}
use Rattle.drm_schedule.specs.declared.live.Live.{Live}
use Rattle.drm_schedule.specs.declared.stream.Content.TheVariants.{File}
use Rattle.drm_schedule.specs.declared.stream.Stream.{Stream}
use Rattle.drm_schedule.specs.declared.config.Config.{Config}
use Rattle.drm_schedule.specs.declared.plan.Plan.{Plan}
use Rattle.drm_schedule.specs.Contents.{stream_bytes}
use Rattle.drm_schedule.specs.Live.{is_live}
use Rattle.drm_schedule.specs.Sizes.{stream_size}
use Rattle.live_streams.specs.Live.{LivePieces, AreWhole, own_streams, streams_with, bytes_with, stream_with, streams_from, config_with}
use Rattle.live_streams.proofs.Placing.{IsPlaced}
use Rattle.live_streams.proofs.SizeLemmas.{sizes_with, own_kept_with}

-- each of these parts has one size
abbrev AreOf : ℕ → (ℕ → List ℕ) → ℕ → ℕ → Type 0
AreOf size part first count = (n : ℕ) → first ≤ n → n < first + count → length (part n) ≡ size

-- so the n-th stands behind n others
part_at : (part : ℕ → List ℕ) (size first count n i : ℕ) → AreOf size part first count → n < count → i ≡ first + n
    → take size (drop (n * size) (flat_map part (range_with_len first count))) ≡ part i
part_at part size first zero n i are lt is = absurd (omega (arith, lt))
part_at part size first (suc count) zero i are lt is =
    let rest : List ℕ = flat_map part (range_with_len (first + 1) count) in
    let none : zero * size ≡ 0 = omega arith in
    ap (λ m. take size (drop m (part first ++ rest))) none
    ∙ take_at (part first) rest size (are first (omega arith) (omega arith))
    ∙ ap part (omega (arith, is))
part_at part size first (suc count) (suc n) i are lt is =
    let rest : List ℕ = flat_map part (range_with_len (first + 1) count) in
    let more : suc n * size ≡ size + n * size = omega arith in
    ap (λ m. take size (drop m (part first ++ rest))) more
    ∙ ap (take size) (sym (drop-drop (n * size) size (part first ++ rest)))
    ∙ ap (λ l. take size (drop (n * size) l)) (drop_at (part first) rest size (are first (omega arith) (omega arith)))
    ∙ part_at part size (first + 1) count n i (λ m le within. are m (omega (arith, le)) (omega (arith, within))) (omega (arith, lt)) (omega (arith, is))

all_parts : (part : ℕ → List ℕ) (size first count : ℕ) → AreOf size part first count → length (flat_map part (range_with_len first count)) ≡ size * count
all_parts part size first zero are = omega arith
all_parts part size first (suc count) are =
    let rest : List ℕ = flat_map part (range_with_len (first + 1) count) in
    length-append (part first) rest
    ∙ omega (arith, are first (omega arith) (omega arith), all_parts part size (first + 1) count (λ m le within. are m (omega (arith, le)) (omega (arith, within))))

-- the length of a list of a list
length_at : (xs : List (List ℕ)) (j : ℕ) → length (get_or xs j []) ≡ get_or (map length xs) j 0
length_at [] j = refl
length_at (x ∷ xs) zero = refl
length_at (x ∷ xs) (suc j) = length_at xs j

module _ (live : Live) (given : LivePieces) (plan : Plan) (c : Config) (frames : ℕ) (placed : IsPlaced plan frames c) (whole : AreWhole live given plan) where
  -- the streams of the n-th frame
  abbrev streams_given : ℕ → List (List ℕ)
  streams_given n = streams_with live (given (3 * c.start + n)) (own_streams c n)

  -- in each frame, those from the k-th on have the sizes of these
  abbrev pub AreSized : ℕ → List Stream → Type 0
  AreSized k streams = (n : ℕ) → n < frames → (i j : ℕ) → i ≡ k + j → length (get_or (streams_given n) i []) ≡ get_or (map stream_size streams) j 0

  pub all_sized : AreSized 0 c.streams
  all_sized n lt i j is =
      length_at (streams_given n) i ∙ ap (λ l. get_or l i 0) (sizes_with live given plan c frames n placed whole lt) ∙ ap (λ m. get_or (map stream_size c.streams) m 0) (omega (arith, is))

  pub sized_more : (k : ℕ) (s : Stream) (streams : List Stream) → AreSized k (s ∷ streams) → AreSized (k + 1) streams
  sized_more k s streams sized n lt i j is = sized n lt i (suc j) (omega (arith, is))

  pub file_size : (k : ℕ) (s : Stream) (streams : List Stream) → AreSized k (s ∷ streams) → length (bytes_with live given c frames k) ≡ stream_size s * frames
  file_size k s streams sized =
      all_parts (λ n. get_or (streams_given n) k []) (stream_size s) 0 frames (λ n le lt. sized n (omega (arith, lt)) k 0 (omega arith))

  -- the n-th frame of a stream
  one_stream : (n k : ℕ) (s : Stream) (streams : List Stream) → n < frames → AreSized k (s ∷ streams)
      → (is_live live k ≡ false → get_or (streams_given n) k [] ≡ stream_bytes n s) → stream_bytes n (stream_with live given c frames k s) ≡ get_or (streams_given n) k []
  one_stream n k s streams lt sized own = by (is_live live k) refl
    where
      by : (b : Bool) → is_live live k ≡ b → stream_bytes n (if b then record s { content = File (codes "live") (bytes_with live given c frames k) } else s) ≡ get_or (streams_given n) k []
      by true is = part_at (λ n. get_or (streams_given n) k []) (stream_size s) 0 frames n n (λ m le lt. sized m (omega (arith, lt)) k 0 (omega arith)) lt (omega arith)
      by false is = sym (own is)

  streams_at : (n k : ℕ) (streams : List Stream) (rest : List (List ℕ)) → n < frames → AreSized k streams
      → ((i j : ℕ) → i ≡ k + j → get_or (streams_given n) i [] ≡ get_or rest j [])
      → ((i j : ℕ) → i ≡ k + j → is_live live i ≡ false → get_or (streams_given n) i [] ≡ get_or (map (stream_bytes n) streams) j [])
      → length rest ≡ length streams
      → map (stream_bytes n) (streams_from live given c frames k streams) ≡ rest
  streams_at n k [] [] lt sized there own count = refl
  streams_at n k [] (r ∷ rest) lt sized there own count = absurd (omega (arith, count))
  streams_at n k (s ∷ streams) [] lt sized there own count = absurd (omega (arith, count))
  streams_at n k (s ∷ streams) (r ∷ rest) lt sized there own count =
      ap (λ x. x ∷ map (stream_bytes n) (streams_from live given c frames (k + 1) streams))
      (one_stream n k s streams lt sized (own k 0 (omega arith)) ∙ there k 0 (omega arith))
      ∙ ap (λ more. r ∷ more)
      (streams_at n (k + 1) streams rest lt (sized_more k s streams sized) (λ i j is. there i (suc j) (omega (arith, is))) (λ i j is. own i (suc j) (omega (arith, is))) (omega (arith, count)))

  -- the streams of a frame by the files are those that came
  pub files_give : (n : ℕ) → n < frames → own_streams (config_with live given frames c) n ≡ streams_given n
  files_give n lt =
      let sizes : map length (streams_given n) ≡ map stream_size c.streams = sizes_with live given plan c frames n placed whole lt in
      streams_at n 0 c.streams (streams_given n) lt all_sized
      (λ i j is. ap (λ m. get_or (streams_given n) m []) (omega (arith, is)))
      (λ i j is own. own_kept_with live (given (3 * c.start + n)) (own_streams c n) i own ∙ ap (λ m. get_or (own_streams c n) m []) (omega (arith, is)))
      (omega (arith, ap length sizes, length-map (streams_given n) length, length-map c.streams stream_size))
