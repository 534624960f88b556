-- Of what came only the pieces of the schedule's own frames count.
use Rattle.std.proofs.Common.{◌≡◌, ◌≤◌, ◌<◌, ◌+◌, ◌-◌, ◌*◌, ℕ, zero, suc, List, [], ◌∷◌, ◌++◌, codes, take, get_or, Option, if◌then◌else◌, refl, ap, ◌∙◌, arith}
use Rattle.std.specs.List.{flat_map, range_with_len}
use Rattle.drm_schedule.specs.declared.live.Live.{Live}
use Rattle.drm_schedule.specs.declared.stream.Content.TheVariants.{File}
use Rattle.drm_schedule.specs.declared.stream.Stream.{Stream}
use Rattle.drm_schedule.specs.declared.config.Config.{Config}
use Rattle.drm_schedule.specs.declared.plan.Plan.{Plan}
use Rattle.drm_schedule.specs.Live.{is_live}
use Rattle.drm_schedule.specs.Valid.{end_before}
use Rattle.drm_timeline.specs.Numbers.{frame_count}
use Rattle.live_streams.specs.Live.{LivePieces, own_streams, streams_with, bytes_with, streams_from, config_with, configs_with, live_schedule}
use Rattle.live_streams.specs.Input.{bytes_for, pieces_of}
use Rattle.live_streams.proofs.InputLemmas.{taken_is_enough}

same_parts : (part other : ℕ → List ℕ) (first count : ℕ) → ((n : ℕ) → first ≤ n → n < first + count → part n ≡ other n)
    → flat_map part (range_with_len first count) ≡ flat_map other (range_with_len first count)
same_parts part other first zero same = refl
same_parts part other first (suc count) same =
    ap (λ l. l ++ flat_map part (range_with_len (first + 1) count)) (same first (omega arith) (omega arith))
    ∙ ap (λ more. other first ++ more) (same_parts part other (first + 1) count (λ n le lt. same n (omega (arith, le)) (omega (arith, lt))))

module _ (live : Live) (given other : LivePieces) where
  -- they give the same for so many frames of a configuration
  abbrev AreSame : Config → ℕ → Type 0
  AreSame c frames = (n : ℕ) → n < frames → given (3 * c.start + n) ≡ other (3 * c.start + n)

  same_bytes : (c : Config) (frames k : ℕ) → AreSame c frames → bytes_with live given c frames k ≡ bytes_with live other c frames k
  same_bytes c frames k same =
      let part : LivePieces → ℕ → List ℕ = λ input n. get_or (streams_with live (input (3 * c.start + n)) (own_streams c n)) k [] in
      same_parts (part given) (part other) 0 frames
      (λ n le lt. ap (λ (piece : Option (List ℕ)). get_or (streams_with live piece (own_streams c n)) k []) (same n (omega (arith, lt))))

  same_from : (c : Config) (frames k : ℕ) (streams : List Stream) → AreSame c frames → streams_from live given c frames k streams ≡ streams_from live other c frames k streams
  same_from c frames k [] same = refl
  same_from c frames k (s ∷ streams) same =
      let with_ : List ℕ → Stream = λ bytes. if is_live live k then record s { content = File (codes "live") bytes } else s in
      ap (λ bytes. with_ bytes ∷ streams_from live given c frames (k + 1) streams) (same_bytes c frames k same)
      ∙ ap (λ more. with_ (bytes_with live other c frames k) ∷ more) (same_from c frames (k + 1) streams same)

  same_configs : (len : ℕ) (cs : List Config) → ((t : ℕ) → t < 3 * len → given t ≡ other t) → configs_with live given len cs ≡ configs_with live other len cs
  same_configs len [] same = refl
  same_configs len (c ∷ more) same =
      let frames : ℕ = 3 * (end_before len more - c.start) in
      let with_ : List Stream → Config = λ streams. record c { streams = streams } in
      ap (λ streams. with_ streams ∷ configs_with live given len more) (same_from c frames 0 c.streams (λ n lt. same (3 * c.start + n) (omega (arith, lt))))
      ∙ ap (λ rest. config_with live other frames c ∷ rest) (same_configs len more same)

  pub same_schedule : (plan : Plan) → ((t : ℕ) → t < frame_count plan → given t ≡ other t) → live_schedule live given plan ≡ live_schedule live other plan
  unfolding live_schedule
  same_schedule plan same = let with_ : List Config → Plan = λ configs. record plan { configs = configs } in ap with_ (same_configs plan.length plan.configs same)

-- what stands in input behind the pieces of all frames makes no other schedule
pub taken_schedule : (live : Live) (plan : Plan) (first : ℕ) (bytes : List ℕ)
    → live_schedule live (pieces_of live plan first (take (bytes_for live plan first) bytes)) plan ≡ live_schedule live (pieces_of live plan first bytes) plan
taken_schedule live plan first bytes =
    same_schedule live (pieces_of live plan first (take (bytes_for live plan first) bytes)) (pieces_of live plan first bytes) plan (λ t within. taken_is_enough live plan first t bytes within)
