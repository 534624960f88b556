-- How long the streams of a frame are: its own ones, and those with bytes that came.
use Rattle.std.proofs.Common.{◌≡◌, ◌≤◌, ◌<◌, ◌+◌, ◌*◌, ◌/◌, ℕ, zero, suc, Bool, true, false, List, [], ◌∷◌, length, map, take, drop, get_or, All, Option, Some, None, option_map, unwrap_or, if◌then◌else◌, refl, ap, ◌∙◌, arith, mul-le-mul_left}
use Rattle.std.proofs.lemmas.Bool.{ltb-false}
use Rattle.std.proofs.lemmas.List.{length-take-le, length-drop, length-replicate}
use Rattle.std.proofs.lemmas.List.Elements.{All-head, All-tail}
use Rattle.drm_schedule.specs.declared.live.Live.{Live}
use Rattle.drm_schedule.specs.declared.stream.Content.{Content}
use Rattle.drm_schedule.specs.declared.stream.Content.TheVariants.{Fill, File}
use Rattle.drm_schedule.specs.declared.stream.Stream.{Stream}
use Rattle.drm_schedule.specs.declared.config.Config.{Config}
use Rattle.drm_schedule.specs.declared.plan.Plan.{Plan}
use Rattle.drm_schedule.specs.Contents.{stream_bytes}
use Rattle.drm_schedule.specs.Live.{is_live}
use Rattle.drm_schedule.specs.Sizes.{stream_size}
use Rattle.drm_schedule.specs.Valid.{is_short}
use Rattle.drm_timeline.specs.Standing.{config_of}
use Rattle.live_streams.specs.Live.{LivePieces, AreWhole, own_streams, given_from, streams_with, size_from, piece_size, piece_at}
use Rattle.live_streams.proofs.Placing.{IsPlaced}

own_size : (n frames : ℕ) (s : Stream) → n < frames → is_short frames s ≡ false → length (stream_bytes n s) ≡ stream_size s
own_size n frames s lt is = by s.content refl
  where
    by : (content : Content) → s.content ≡ content → length (stream_bytes n s) ≡ stream_size s
    by (Fill byte) same = rw same (length-replicate (stream_size s) byte)
    by (File name bytes) same =
        let long : stream_size s * frames ≤ length bytes = ltb-false (length bytes) (stream_size s * frames) (rw same at is) in
        let enough : stream_size s * (n + 1) ≤ stream_size s * frames = mul-le-mul_left (stream_size s) (omega (arith, lt)) in
        rw same (length-take-le (stream_size s) (drop (n * stream_size s) bytes) (omega (arith, long, enough, length-drop (n * stream_size s) bytes)))

-- the own streams of a frame have their sizes
own_sizes : (n frames : ℕ) (streams : List Stream) → n < frames → All (λ (s : Stream). is_short frames s ≡ false) streams
    → map length (map (stream_bytes n) streams) ≡ map stream_size streams
own_sizes n frames [] lt files = refl
own_sizes n frames (s ∷ streams) lt files =
    let IsLong : Stream → Type 0 = λ (s : Stream). is_short frames s ≡ false in
    ap (λ m. m ∷ map length (map (stream_bytes n) streams)) (own_size n frames s lt (All-head IsLong s streams files))
    ∙ ap (λ more. stream_size s ∷ more) (own_sizes n frames streams lt (All-tail IsLong s streams files))

-- and so have those to which a whole piece was given
pub given_sizes : (live : Live) (k : ℕ) (piece : List ℕ) (streams : List Stream) (own : List (List ℕ)) → map length own ≡ map stream_size streams
    → length piece ≡ size_from live k streams → map length (given_from live k piece own) ≡ map stream_size streams
given_sizes live k piece [] [] sizes whole = refl
given_sizes live k piece [] (o ∷ own) sizes whole = absurd cc
given_sizes live k piece (s ∷ streams) [] sizes whole = absurd cc
given_sizes live k piece (s ∷ streams) (o ∷ own) sizes whole =
    by (λ rest whole. given_sizes live (k + 1) rest streams own (ap (λ l. drop 1 l) sizes) whole) (is_live live k) whole
  where
    size : length o ≡ stream_size s
    size = ap (λ l. get_or l 0 0) sizes

    by : ((rest : List ℕ) → length rest ≡ size_from live (k + 1) streams → map length (given_from live (k + 1) rest own) ≡ map stream_size streams)
        → (b : Bool) → length piece ≡ (if b then stream_size s else 0) + size_from live (k + 1) streams
        → map length (if b then take (length o) piece ∷ given_from live (k + 1) (drop (length o) piece) own else o ∷ given_from live (k + 1) piece own) ≡ stream_size s ∷ map stream_size streams
    by rest true whole =
        ap (λ m. m ∷ map length (given_from live (k + 1) (drop (length o) piece) own)) (length-take-le (length o) piece (omega (arith, size, whole)) ∙ size)
        ∙ ap (λ more. stream_size s ∷ more) (rest (drop (length o) piece) (omega (arith, size, whole, length-drop (length o) piece)))
    by rest false whole =
        ap (λ m. m ∷ map length (given_from live (k + 1) piece own)) size
        ∙ ap (λ more. stream_size s ∷ more) (rest piece (omega (arith, whole)))

-- one that isn't live has its own bytes
pub own_kept : (live : Live) (k : ℕ) (piece : List ℕ) (own : List (List ℕ)) (i j : ℕ) → i ≡ k + j → is_live live i ≡ false
    → get_or (given_from live k piece own) j [] ≡ get_or own j []
own_kept live k piece [] i j is own = refl
own_kept live k piece (o ∷ more) i zero is own = by (is_live live k) (ap (is_live live) (omega (arith, is)) ∙ own)
  where
    by : (b : Bool) → b ≡ false → get_or (if b then take (length o) piece ∷ given_from live (k + 1) (drop (length o) piece) more else o ∷ given_from live (k + 1) piece more) 0 [] ≡ o
    by true wrong = absurd cc
    by false same = refl
own_kept live k piece (o ∷ more) i (suc j) is own = by (λ rest. own_kept live (k + 1) rest more i j (omega (arith, is)) own) (is_live live k)
  where
    by : ((rest : List ℕ) → get_or (given_from live (k + 1) rest more) j [] ≡ get_or more j [])
        → (b : Bool) → get_or (if b then take (length o) piece ∷ given_from live (k + 1) (drop (length o) piece) more else o ∷ given_from live (k + 1) piece more) (suc j) [] ≡ get_or more j []
    by rest true = rest (drop (length o) piece)
    by rest false = rest piece

-- the same of a frame for which a piece or none came
pub own_kept_with : (live : Live) (input : Option (List ℕ)) (own : List (List ℕ)) (j : ℕ) → is_live live j ≡ false → get_or (streams_with live input own) j [] ≡ get_or own j []
own_kept_with live None own j is = refl
own_kept_with live (Some piece) own j is = own_kept live 0 piece own j j (omega arith) is

-- the piece of a frame is that of its configuration
pub piece_is : (live : Live) (plan : Plan) (t : ℕ) (c : Config) → config_of plan (t / 3) ≡ Some c → piece_at live plan t ≡ piece_size live c
piece_is live plan t c holds = ap (λ (o : Option Config). unwrap_or (option_map (piece_size live) o) 0) holds

-- so whatever came for a frame, each of its streams has its size
pub sizes_with : (live : Live) (given : LivePieces) (plan : Plan) (c : Config) (frames n : ℕ) → IsPlaced plan frames c → AreWhole live given plan → n < frames
    → map length (streams_with live (given (3 * c.start + n)) (own_streams c n)) ≡ map stream_size c.streams
sizes_with live given plan c frames n placed whole lt = by (given (3 * c.start + n)) refl
  where
    by : (input : Option (List ℕ)) → given (3 * c.start + n) ≡ input → map length (streams_with live input (own_streams c n)) ≡ map stream_size c.streams
    by None is = own_sizes n frames c.streams lt placed.files
    by (Some piece) is =
        given_sizes live 0 piece c.streams (own_streams c n) (own_sizes n frames c.streams lt placed.files)
        (whole (3 * c.start + n) piece is ∙ piece_is live plan (3 * c.start + n) c (placed.stands n lt))
