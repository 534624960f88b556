-- What is read of a configuration beside the contents of its streams is the same where live ones have bytes that came.
use Rattle.std.proofs.Common.{◌≡◌, ℕ, zero, suc, ◌+◌, ◌-◌, ◌||◌, Bool, true, false, not, nat_lt, List, [], ◌∷◌, ◌++◌, codes, length, map, slice_get, sum_by, is_some, option_map, Option, Some, None, if◌then◌else◌, refl, sym, ap, ◌∙◌, arith}
use Rattle.std.specs.List.{range_with_len}
use Rattle.std.proofs.lemmas.List.Sums.{sum_by-cons}
use Rattle.drm_bits.specs.declared.description.MuxDesc.{MuxDesc}
use Rattle.drm_bits.specs.declared.description.Part.{Part}
use Rattle.drm_sdc.specs.declared.body.Body.TheVariants.{Mux}
use Rattle.drm_sdc.specs.Entity.{entity_size}
use Rattle.drm_sdc.specs.Writing.{total_size}
use Rattle.plan_packing.specs.Packing.{front, can_be_packed}
use Rattle.drm_schedule.specs.declared.live.Live.{Live}
use Rattle.drm_schedule.specs.declared.stream.Content.TheVariants.{File}
use Rattle.drm_schedule.specs.declared.stream.Stream.{Stream}
use Rattle.drm_schedule.specs.declared.timed.Timed.{Timed}
use Rattle.drm_schedule.specs.declared.config.Config.{Config}
use Rattle.drm_schedule.specs.Live.{is_live}
use Rattle.drm_schedule.specs.InForce.{entities_in_force}
use Rattle.drm_schedule.specs.Sizes.{description_size, size_if, tells_clock, has_no_room, packet_len, stream_size}
use Rattle.drm_schedule.specs.Announcement.{announced, all_repeated, countdown_start, free_in_countdown, lacks_announcement}
use Rattle.drm_schedule.specs.SameLines.{tells_others}
use Rattle.drm_schedule.specs.Services.{block_disagrees, lack_one_audio_line, lack_an_app_line, have_a_stray_audio_line, have_a_stray_line, have_two_labels, have_a_line_without_stream}
use Rattle.drm_timeline.specs.Announcing.{announced_by, announcement_of, packed_in, next, as_next}
use Rattle.drm_timeline.specs.Blocks.{own_entities, current, clock_in}
use Rattle.drm_timeline.specs.Description.{description_of, part_of, parameters_of}
use Rattle.live_streams.specs.Live.{LivePieces, bytes_with, stream_with, streams_from, config_with}

module _ (live : Live) (given : LivePieces) where
  -- the sizes of a stream's parts
  parts_with : {X : Type 0} (f : ℕ → ℕ → X) (c : Config) (frames k : ℕ) (s : Stream) → f (stream_with live given c frames k s).a (stream_with live given c frames k s).b ≡ f s.a s.b
  parts_with f c frames k s = by (is_live live k)
    where
      with_bytes : Bool → Stream
      with_bytes b = if b then record s { content = File (codes "live") (bytes_with live given c frames k) } else s

      by : (b : Bool) → f (with_bytes b).a (with_bytes b).b ≡ f s.a s.b
      by true = refl
      by false = refl

  pub size_with : (c : Config) (frames k : ℕ) (s : Stream) → stream_size (stream_with live given c frames k s) ≡ stream_size s
  size_with = parts_with (λ a b. a + b)

  count_from : (c : Config) (frames k : ℕ) (streams : List Stream) → length (streams_from live given c frames k streams) ≡ length streams
  count_from c frames k [] = refl
  count_from c frames k (s ∷ streams) = ap suc (count_from c frames (k + 1) streams)

  pub count_with : (c : Config) (frames : ℕ) → length (config_with live given frames c).streams ≡ length c.streams
  count_with c frames = count_from c frames 0 c.streams

  part_from : (c : Config) (frames k : ℕ) (streams : List Stream) (j : ℕ) → part_of (slice_get (streams_from live given c frames k streams) j) ≡ part_of (slice_get streams j)
  part_from c frames k [] j = refl
  part_from c frames k (s ∷ streams) zero = parts_with (λ a b. let part : Part = record { a = a; b = b } in part) c frames k s
  part_from c frames k (s ∷ streams) (suc j) = part_from c frames (k + 1) streams j

  items_from : (c : Config) (frames k : ℕ) (streams : List Stream) → sum_by (λ (s : Stream). 8 + stream_size s) (streams_from live given c frames k streams) ≡ sum_by (λ (s : Stream). 8 + stream_size s) streams
  items_from c frames k [] = refl
  items_from c frames k (s ∷ streams) =
      let item : Stream → ℕ = λ s. 8 + stream_size s in
      sum_by-cons item (stream_with live given c frames k s) (streams_from live given c frames (k + 1) streams)
      ∙ omega (arith, items_from c frames (k + 1) streams, size_with c frames k s)
      ∙ sym (sum_by-cons item s streams)

  pub same_description : (c : Config) (frames : ℕ) → description_of (config_with live given frames c) ≡ description_of c
  same_description c frames =
      let streams : List Stream = streams_from live given c frames 0 c.streams in
      let part : ℕ → Part = λ j. part_of (slice_get streams j) in
      let own : ℕ → Part = λ j. part_of (slice_get c.streams j) in
      let of : ℕ → Part → Part → Part → Part → MuxDesc = λ n p q r s. record { prot_a = c.prot_a; prot_b = c.prot_b; count = n; parts = p ∷ q ∷ r ∷ s ∷ [] } in
      let same : (j : ℕ) → part j ≡ own j = part_from c frames 0 c.streams in
      ap (λ n. of n (part 0) (part 1) (part 2) (part 3)) (count_with c frames)
      ∙ ap (λ p. of (length c.streams) p (part 1) (part 2) (part 3)) (same 0)
      ∙ ap (λ p. of (length c.streams) (own 0) p (part 2) (part 3)) (same 1)
      ∙ ap (λ p. of (length c.streams) (own 0) (own 1) p (part 3)) (same 2)
      ∙ ap (λ p. of (length c.streams) (own 0) (own 1) (own 2) p) (same 3)

  pub same_packet_len : (c : Config) (frames : ℕ) (is_first : Bool) → packet_len (config_with live given frames c) is_first ≡ packet_len c is_first
  same_packet_len c frames true = omega (arith, count_with c frames, items_from c frames 0 c.streams)
  same_packet_len c frames false = omega (arith, count_with c frames, items_from c frames 0 c.streams)

  pub same_room : (c : Config) (frames : ℕ) (block : Timed) → has_no_room (config_with live given frames c) block ≡ has_no_room c block
  same_room c frames block = ap (λ n. nat_lt c.room (description_size n + total_size block.entities + size_if (is_some c.clock))) (count_with c frames)

  pub same_disagreement : (c : Config) (frames : ℕ) (block : Timed) → block_disagrees (config_with live given frames c) block ≡ block_disagrees c block
  same_disagreement c frames block =
      ap
      (λ n.
      lack_one_audio_line c.services block.entities || lack_an_app_line c.services block.entities
      || have_a_stray_audio_line c.services block.entities || have_a_stray_line c.services block.entities
      || have_two_labels block.entities || have_a_line_without_stream n block.entities || tells_others c block)
      (count_with c frames)

  -- what is free in the countdown to another configuration
  same_free : (before c : Config) (frames later : ℕ) → free_in_countdown (config_with live given frames before) (config_with live given later c) ≡ free_in_countdown before c
  same_free before c frames later =
      ap
      (λ n.
      map (λ sf. before.room - (description_size n + total_size (entities_in_force before sf) + size_if (tells_clock before sf)))
      (range_with_len (countdown_start c) c.countdown))
      (count_with before frames)

  same_sizes : (c : Config) (frames : ℕ) → announced (config_with live given frames c) ≡ announced c
  same_sizes c frames = ap (λ n. description_size n ∷ 4 ∷ map entity_size (all_repeated c)) (count_with c frames)

  -- a configuration that may be missing
  abbrev pub option_with : ℕ → Option Config → Option Config
  option_with frames o = option_map (config_with live given frames) o

  pub same_lack : (before : Option Config) (c : Config) (frames later : ℕ) → lacks_announcement (option_with frames before) (config_with live given later c) ≡ lacks_announcement before c
  same_lack None c frames later = refl
  same_lack (Some before) c frames later =
      ap (λ sizes. not (can_be_packed (free_in_countdown (config_with live given frames before) (config_with live given later c)) sizes)) (same_sizes c later)
      ∙ ap (λ free. not (can_be_packed free (announced c))) (same_free before c frames later)

  same_announcement : (c : Config) (frames : ℕ) → announcement_of (config_with live given frames c) ≡ announcement_of c
  same_announcement c frames =
      ap (λ description. option_map (λ parameters. next (Mux description) ∷ next parameters ∷ map as_next (all_repeated c)) (parameters_of c)) (same_description c frames)

  pub same_own : (c : Config) (frames sf : ℕ) → own_entities (config_with live given frames c) sf ≡ own_entities c sf
  same_own c frames sf = ap (λ description. current (Mux description) ∷ (entities_in_force c sf ++ clock_in c sf)) (same_description c frames)

  pub same_announced : (before : Config) (frames later sf : ℕ) (o : Option Config) → announced_by (config_with live given frames before) sf (option_with later o) ≡ announced_by before sf o
  same_announced before frames later sf None = refl
  same_announced before frames later sf (Some c) =
      ap (λ entities. option_map (packed_in (sf - countdown_start c) (free_in_countdown (config_with live given frames before) (config_with live given later c)) front) entities) (same_announcement c later)
      ∙ ap (λ free. option_map (packed_in (sf - countdown_start c) free front) (announcement_of c)) (same_free before c frames later)
