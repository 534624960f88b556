-- A schedule with live streams is a schedule.
use Rattle.std.proofs.Common.{◌≡◌, ◌+◌, ◌-◌, ◌*◌, ◌≢◌, ℕ, zero, suc, Bool, true, false, List, [], ◌∷◌, codes, length, get_or, All, Option, Some, None, if◌then◌else◌, refl, ap, ◌∙◌, arith, IsAscii}
use Rattle.std.proofs.lemmas.Bool.{le-ltb}
use Rattle.std.proofs.lemmas.Str.{IsUtf8-from_ascii}
use Rattle.std.proofs.lemmas.List.Elements.{All-nil, All-cons, All-head, All-tail}
use Rattle.drm_schedule.specs.declared.live.Live.{Live}
use Rattle.drm_schedule.specs.declared.stream.Content.TheVariants.{File}
use Rattle.drm_schedule.specs.declared.stream.Stream.{Stream}
use Rattle.drm_schedule.specs.declared.timed.Timed.{Timed}
use Rattle.drm_schedule.specs.declared.config.Config.{Config}
use Rattle.drm_schedule.specs.declared.plan.Plan.{Plan}
use Rattle.drm_schedule.specs.Live.{is_live}
use Rattle.drm_schedule.specs.Ranges.{IsName, StreamInLines, ConfigInLines, InLines}
use Rattle.drm_schedule.specs.Sizes.{stream_size}
use Rattle.drm_schedule.specs.Valid.{starts_wrongly, counts_wrongly, is_short, next_start, end_before, BeginRightly, IsFaultless, AreFaultless, IsSchedule}
use Rattle.drm_schedule.proofs.Faultless.{all_faultless}
use Rattle.live_streams.specs.Live.{LivePieces, AreWhole, bytes_with, stream_with, streams_from, config_with, configs_with, live_schedule}
use Rattle.live_streams.specs.Laws.{LiveIsASchedule}
use Rattle.live_streams.proofs.LikeLemmas.{count_with, same_packet_len, same_room, same_disagreement, same_lack, option_with}
use Rattle.live_streams.proofs.Placing.{IsPlaced, ArePlaced, all_placed}
use Rattle.live_streams.proofs.FrameFiles.{AreSized, all_sized, sized_more, file_size}
use Rattle.live_streams.proofs.FaultlessRows.{none_invalid}

-- ---- what lines can give

each_letter : (P : ℕ → Type 0) → P 108 → P 105 → P 118 → P 101 → All P (codes "live")
each_letter P l i v e = All-cons P 108 (105 ∷ 118 ∷ 101 ∷ []) l (All-cons P 105 (118 ∷ 101 ∷ []) i (All-cons P 118 (101 ∷ []) v (All-cons P 101 [] e (All-nil P))))

all_ascii : IsAscii (codes "live")
all_ascii zero = omega arith
all_ascii (suc zero) = omega arith
all_ascii (suc (suc zero)) = omega arith
all_ascii (suc (suc (suc zero))) = omega arith
all_ascii (suc (suc (suc (suc k)))) = omega arith

live_name : IsName (codes "live")
live_name =
    record {
      utf8 = IsUtf8-from_ascii (codes "live") all_ascii;
      unspaced = each_letter (λ byte. byte ≢ 32) (λ same. omega (arith, same)) (λ same. omega (arith, same)) (λ same. omega (arith, same)) (λ same. omega (arith, same));
      one_line = each_letter (λ byte. byte ≢ 10) (λ same. omega (arith, same)) (λ same. omega (arith, same)) (λ same. omega (arith, same)) (λ same. omega (arith, same));
      some = omega arith;
      few = omega arith;
    }

module _ (live : Live) (given : LivePieces) where
  stream_in_lines : (c : Config) (frames k : ℕ) (s : Stream) → StreamInLines s → StreamInLines (stream_with live given c frames k s)
  stream_in_lines c frames k s is = by (is_live live k)
    where
      by : (b : Bool) → StreamInLines (if b then record s { content = File (codes "live") (bytes_with live given c frames k) } else s)
      by true = record { a_fits = is.a_fits; b_fits = is.b_fits; not_empty = is.not_empty; contents = live_name }
      by false = is

  streams_in_lines : (c : Config) (frames k : ℕ) (streams : List Stream) → All StreamInLines streams → All StreamInLines (streams_from live given c frames k streams)
  streams_in_lines c frames k [] all = All-nil StreamInLines
  streams_in_lines c frames k (s ∷ streams) all =
      All-cons StreamInLines (stream_with live given c frames k s) (streams_from live given c frames (k + 1) streams)
      (stream_in_lines c frames k s (All-head StreamInLines s streams all))
      (streams_in_lines c frames (k + 1) streams (All-tail StreamInLines s streams all))

  config_in_lines : (c : Config) (frames : ℕ) → ConfigInLines c → ConfigInLines (config_with live given frames c)
  config_in_lines c frames is =
      record {
        start_fits = is.start_fits;
        countdown_fits = is.countdown_fits;
        occupancy_fits = is.occupancy_fits;
        msc_fits = is.msc_fits;
        prot_a_fits = is.prot_a_fits;
        prot_b_fits = is.prot_b_fits;
        room_fits = is.room_fits;
        some_service = is.some_service;
        each_service = is.each_service;
        some_stream = omega (arith, count_with live given c frames, is.some_stream);
        few_streams = omega (arith, count_with live given c frames, is.few_streams);
        each_stream = streams_in_lines c frames 0 c.streams is.each_stream;
        clock_fits = is.clock_fits;
        some_block = is.some_block;
        few_blocks = is.few_blocks;
        each_block = is.each_block;
      }

  configs_in_lines : (len : ℕ) (cs : List Config) → All ConfigInLines cs → All ConfigInLines (configs_with live given len cs)
  configs_in_lines len [] all = All-nil ConfigInLines
  configs_in_lines len (c ∷ more) all =
      let frames : ℕ = 3 * (end_before len more - c.start) in
      All-cons ConfigInLines (config_with live given frames c) (configs_with live given len more)
      (config_in_lines c frames (All-head ConfigInLines c more all)) (configs_in_lines len more (All-tail ConfigInLines c more all))

  config_count : (len : ℕ) (cs : List Config) → length (configs_with live given len cs) ≡ length cs
  config_count len [] = refl
  config_count len (c ∷ more) = ap suc (config_count len more)

  in_lines : (plan : Plan) → InLines plan → InLines (live_schedule live given plan)
  unfolding live_schedule
  in_lines plan is =
      record {
        carry_fits = is.carry_fits;
        seq_fits = is.seq_fits;
        dlfc_fits = is.dlfc_fits;
        some_frames = is.some_frames;
        few_frames = is.few_frames;
        some_config = omega (arith, config_count plan.length plan.configs, is.some_config);
        few_configs = omega (arith, config_count plan.length plan.configs, is.few_configs);
        each_config = configs_in_lines plan.length plan.configs is.each_config;
      }

  -- ---- without fault

  same_next : (len : ℕ) (cs : List Config) → next_start len (configs_with live given len cs) ≡ next_start len cs
  same_next len [] = refl
  same_next len (c ∷ more) = refl

  same_order : (len frames later : ℕ) (before : Option Config) (c : Config) → starts_wrongly len (option_with live given frames before) (config_with live given later c) ≡ starts_wrongly len before c
  same_order len frames later None c = refl
  same_order len frames later (Some before) c = refl

  same_countdown : (frames later : ℕ) (before : Option Config) (c : Config) → counts_wrongly (option_with live given frames before) (config_with live given later c) ≡ counts_wrongly before c
  same_countdown frames later None c = refl
  same_countdown frames later (Some before) c = refl

  begin_rightly : (c : Config) (frames end : ℕ) (before : Option Timed) (blocks : List Timed) → BeginRightly c end before blocks → BeginRightly (config_with live given frames c) end before blocks
  begin_rightly c frames end before [] right = tt
  begin_rightly c frames end None (block ∷ blocks) right = (right.0, begin_rightly c frames end (Some block) blocks right.1)
  begin_rightly c frames end (Some before) (block ∷ blocks) right = (right.0, begin_rightly c frames end (Some block) blocks right.1)

  module _ (plan : Plan) (whole : AreWhole live given plan) where
    long_from : (c : Config) (frames : ℕ) (placed : IsPlaced plan frames c) (k : ℕ) (streams : List Stream) → AreSized live given plan c frames placed whole k streams
        → All (λ (s : Stream). is_short frames s ≡ false) streams → All (λ (s : Stream). is_short frames s ≡ false) (streams_from live given c frames k streams)
    long_from c frames placed k [] sized all = All-nil (λ (s : Stream). is_short frames s ≡ false)
    long_from c frames placed k (s ∷ streams) sized all =
        All-cons IsLong (stream_with live given c frames k s) (streams_from live given c frames (k + 1) streams) (by (is_live live k))
        (long_from c frames placed (k + 1) streams (sized_more live given plan c frames placed whole k s streams sized) (All-tail IsLong s streams all))
      where
        IsLong : Stream → Type 0
        IsLong s = is_short frames s ≡ false

        bytes : List ℕ
        bytes = bytes_with live given c frames k

        by : (b : Bool) → IsLong (if b then record s { content = File (codes "live") bytes } else s)
        by true = le-ltb (length bytes) (stream_size s * frames) (omega (arith, file_size live given plan c frames placed whole k s streams sized))
        by false = All-head IsLong s streams all

    one_faultless : (earlier : ℕ) (before : Option Config) (c : Config) (more : List Config) → IsFaultless plan before c more → IsPlaced plan (3 * (end_before plan.length more - c.start)) c
        → IsFaultless (live_schedule live given plan) (option_with live given earlier before) (config_with live given (3 * (end_before plan.length more - c.start)) c) (configs_with live given plan.length more)
    unfolding live_schedule
    one_faultless earlier before c more is placed =
        let frames : ℕ = 3 * (end_before plan.length more - c.start) in
        let next : next_start plan.length (configs_with live given plan.length more) ≡ next_start plan.length more = same_next plan.length more in
        record {
          order = same_order plan.length earlier frames before c ∙ is.order;
          countdown_fits = same_countdown earlier frames before c ∙ is.countdown_fits;
          blocks_begin = rw next (begin_rightly c frames (next_start plan.length more) None c.blocks is.blocks_begin);
          occupancy_fits = is.occupancy_fits;
          not_hierarchical = is.not_hierarchical;
          services_agree = is.services_agree;
          blocks_agree = λ k d within. same_disagreement live given c frames (get_or c.blocks k d) ∙ is.blocks_agree k d within;
          blocks_have_room = λ k d within. same_room live given c frames (get_or c.blocks k d) ∙ is.blocks_have_room k d within;
          announced = same_lack live given before c earlier frames ∙ is.announced;
          packet = omega (arith, is.packet, same_packet_len live given c frames true);
          files =
              rw next (long_from c frames placed 0 c.streams (all_sized live given plan c frames placed whole) is.files);
        }

    faultless : (earlier : ℕ) (before : Option Config) (cs : List Config) → AreFaultless plan before cs → ArePlaced plan cs
        → AreFaultless (live_schedule live given plan) (option_with live given earlier before) (configs_with live given plan.length cs)
    faultless earlier before [] are placed = tt
    faultless earlier before (c ∷ more) are placed =
        (one_faultless earlier before c more are.0 placed.0, faultless (3 * (end_before plan.length more - c.start)) (Some c) more are.1 placed.1)

    all_valid : IsSchedule plan → AreFaultless (live_schedule live given plan) None (live_schedule live given plan).configs
    unfolding live_schedule
    all_valid is = faultless 0 None plan.configs (all_faultless plan 0 None plan.configs is.valid) (all_placed plan is)

pub live_is_one : LiveIsASchedule
live_is_one live given plan is whole =
    record {
      in_lines = in_lines live given plan is.in_lines;
      valid = none_invalid (live_schedule live given plan) 0 None (live_schedule live given plan).configs (all_valid live given plan whole is);
    }
