-- The frames of a schedule with live streams, as those of the schedule: the same but for the bytes of live streams, which are those
-- that came.
use Rattle.std.proofs.Common.{◌≡◌, ◌<◌, ◌+◌, ◌-◌, ◌*◌, ◌/◌, ◌%◌, ◌==◌, ℕ, List, ◌++◌, length, map, unwrap_or, option_map, Option, Some, None, refl, sym, ap, ◌∙◌, arith}
use Rattle.std.proofs.lemmas.List.{length-map}
use Rattle.plan_packing.specs.Packing.{chain}
use Rattle.drm_fac.specs.declared.fac.Fac.{Fac}
use Rattle.drm_sdc.specs.declared.block.Block.{Block}
use Rattle.drm_sdc.specs.declared.entity.Entity.{Entity}
use Rattle.drm_schedule.specs.declared.live.Live.{Live}
use Rattle.drm_schedule.specs.declared.config.Config.{Config}
use Rattle.drm_schedule.specs.declared.plan.Plan.{Plan}
use Rattle.drm_schedule.specs.Sizes.{packet_len, stream_size}
use Rattle.drm_timeline.specs.Announcing.{announced_by}
use Rattle.drm_timeline.specs.Blocks.{block_of, block_with, own_entities}
use Rattle.drm_timeline.specs.FastAccess.{fac_of, fac_under}
use Rattle.drm_timeline.specs.Numbers.{frame_count, packet_size, sequence_number}
use Rattle.drm_timeline.specs.Standing.{config_of, announced_in, index_of, frames_before}
use Rattle.live_streams.specs.Live.{LivePieces, AreWhole, own_streams, streams_with, config_with, live_schedule}
use Rattle.live_streams.proofs.LikeLemmas.{option_with, same_packet_len, same_own, same_announced}
use Rattle.live_streams.proofs.Placing.{IsLike, config_like, announced_like}
use Rattle.live_streams.proofs.SizeLemmas.{sizes_with}
use Rattle.live_streams.proofs.FrameFiles.{files_give}
pub use Rattle.live_streams.proofs.LikeLemmas.{same_description}
pub use Rattle.live_streams.proofs.Placing.{HoldsWith, config_holds}

module _ (live : Live) (given : LivePieces) (plan : Plan) where
  abbrev with_ : Plan
  with_ = live_schedule live given plan

  -- ---- the schedule

  pub same_carry : with_.carry ≡ plan.carry
  unfolding live_schedule
  same_carry = refl

  pub same_seq : with_.seq ≡ plan.seq
  unfolding live_schedule
  same_seq = refl

  pub same_dlfc : with_.dlfc ≡ plan.dlfc
  unfolding live_schedule
  same_dlfc = refl

  pub same_length : with_.length ≡ plan.length
  unfolding live_schedule
  same_length = refl

  pub same_frame_count : frame_count with_ ≡ frame_count plan
  same_frame_count = ap (λ n. 3 * n) same_length

  pub same_sequence_number : (t : ℕ) → sequence_number with_ t ≡ sequence_number plan t
  unfolding live_schedule
  same_sequence_number t = refl

  -- ---- a frame, but for its streams

  pub same_index : (sf : ℕ) → index_of with_ sf ≡ index_of plan sf
  same_index sf =
      let like : IsLike live given plan sf (announced_in plan sf) (announced_in with_ sf) = announced_like live given plan sf in
      ap (frames_before sf) like.1 ∙ by like.0 (announced_in plan sf)
    where
      by : (frames : ℕ) (o : Option Config) → frames_before sf (option_with live given frames o) ≡ frames_before sf o
      by frames None = refl
      by frames (Some c) = refl

  pub same_fac : (t : ℕ) → fac_of with_ t ≡ fac_of plan t
  same_fac t =
      let like : IsLike live given plan (t / 3) (config_of plan (t / 3)) (config_of with_ (t / 3)) = config_like live given plan (t / 3) in
      ap (λ o. under o (index_of with_ (t / 3))) like.1
      ∙ ap (under (option_with live given like.0 (config_of plan (t / 3)))) (same_index (t / 3))
      ∙ by like.0 (config_of plan (t / 3))
    where
      under : Option Config → ℕ → Option Fac
      under o index = chain o (λ c. fac_under c index t)

      by : (frames : ℕ) (o : Option Config) → under (option_with live given frames o) (index_of plan (t / 3)) ≡ under o (index_of plan (t / 3))
      by frames None = refl
      by frames (Some c) = refl

  pub same_block : (sf : ℕ) → block_of with_ sf ≡ block_of plan sf
  same_block sf =
      let like : IsLike live given plan sf (config_of plan sf) (config_of with_ sf) = config_like live given plan sf in
      let next : IsLike live given plan sf (announced_in plan sf) (announced_in with_ sf) = announced_like live given plan sf in
      ap (λ o. block o (announced_in with_ sf)) like.1
      ∙ ap (block (option_with live given like.0 (config_of plan sf))) next.1
      ∙ by like.0 next.0 (config_of plan sf)
    where
      block_by : ℕ → List Entity → Option (List Entity) → Option Block
      block_by room own announced = option_map (block_with room) (option_map (λ entities. own ++ entities) announced)

      block : Option Config → Option Config → Option Block
      block o next = chain o (λ c. block_by c.room (own_entities c sf) (announced_by c sf next))

      by : (frames later : ℕ) (o : Option Config) → block (option_with live given frames o) (option_with live given later (announced_in plan sf)) ≡ block o (announced_in plan sf)
      by frames later None = refl
      by frames later (Some c) =
          ap (λ own. block_by c.room own (announced_by (config_with live given frames c) sf (option_with live given later (announced_in plan sf)))) (same_own live given c frames sf)
          ∙ ap (block_by c.room (own_entities c sf)) (same_announced live given c frames later sf (announced_in plan sf))

  pub same_packet_size : (t : ℕ) → packet_size with_ t ≡ packet_size plan t
  unfolding packet_size
  same_packet_size t =
      let like : IsLike live given plan (t / 3) (config_of plan (t / 3)) (config_of with_ (t / 3)) = config_like live given plan (t / 3) in
      ap size like.1 ∙ by like.0 (config_of plan (t / 3))
    where
      size : Option Config → ℕ
      size o = unwrap_or (option_map (λ (c : Config). packet_len c (t % 3 == 0)) o) 0

      by : (frames : ℕ) (o : Option Config) → size (option_with live given frames o) ≡ size o
      by frames None = refl
      by frames (Some c) = same_packet_len live given c frames (t % 3 == 0)

  -- ---- the streams of a frame

  module _ (t : ℕ) (c : Config) (holds : HoldsWith live given plan (t / 3) c) (whole : AreWhole live given plan) where
    -- the number of the frame in its configuration
    number : 3 * c.start + (t - 3 * c.start) ≡ t
    number = omega (arith, holds.started)

    within : t - 3 * c.start < holds.frames
    within = omega (arith, holds.started, holds.reaches)

    pub same_streams : own_streams (config_with live given holds.frames c) (t - 3 * c.start) ≡ streams_with live (given t) (own_streams c (t - 3 * c.start))
    same_streams =
        files_give live given plan c holds.frames holds.placed whole (t - 3 * c.start) within
        ∙ ap (λ n. streams_with live (given n) (own_streams c (t - 3 * c.start))) number

    -- each has the size of its stream
    pub same_stream_sizes : map length (streams_with live (given t) (own_streams c (t - 3 * c.start))) ≡ map stream_size c.streams
    same_stream_sizes =
        ap (λ n. map length (streams_with live (given n) (own_streams c (t - 3 * c.start)))) (sym number)
        ∙ sizes_with live given plan c holds.frames (t - 3 * c.start) holds.placed whole within

    -- and there are as many as the configuration has
    pub same_stream_count : length (streams_with live (given t) (own_streams c (t - 3 * c.start))) ≡ length c.streams
    same_stream_count =
        let streams_given : List (List ℕ) = streams_with live (given t) (own_streams c (t - 3 * c.start)) in
        omega (arith, ap length same_stream_sizes, length-map streams_given length, length-map c.streams stream_size)
