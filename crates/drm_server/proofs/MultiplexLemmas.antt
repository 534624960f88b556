-- The multiplex frame of the streams of a frame.
use Rattle.std.proofs.Common.{◌≡◌, ◌-◌, ◌*◌, ◌/◌, ◌≤◌, ℕ, List, [], ◌∷◌, ◌++◌, map, length, take, drop, IfSome, option_map, Option, Some, refl, sym, ap, subst, ◌∙◌, arith, length-drop, length-take}
use Rattle.std.specs.List.{flat_map}
use Rattle.std.proofs.lemmas.List.{take_all, length-replicate}
use Rattle.drm_bits.specs.Description.{IsDescription}
use Rattle.drm_bits.specs.declared.description.MuxDesc.{MuxDesc}
use Rattle.drm_mux.specs.Frame.{multiplex_frame, parts_a, parts_b}
use Rattle.mdi_items.specs.RoundTrip.{Parts}
use Rattle.drm_schedule.specs.declared.config.Config.{Config}
use Rattle.drm_schedule.specs.declared.plan.Plan.{Plan}
use Rattle.drm_schedule.specs.declared.stream.Content.{Content}
use Rattle.drm_schedule.specs.declared.stream.Content.TheVariants.{Fill, File}
use Rattle.drm_schedule.specs.declared.stream.Stream.{Stream}
use Rattle.drm_schedule.specs.Ranges.{ConfigInLines}
use Rattle.drm_schedule.specs.Sizes.{stream_size}
use Rattle.drm_schedule.specs.Valid.{IsSchedule}
use Rattle.drm_timeline.specs.Standing.{has_started, config_of}
use Rattle.drm_timeline.specs.Description.{description_of, parts_of}
use Rattle.drm_timeline.proofs.StandingLemmas.{last_passing_has}
use Rattle.drm_schedule.specs.Contents.{stream_bytes}
use Rattle.drm_server.specs.Frames.{IsFrameAt}
use Rattle.drm_server.specs.Multiplex.{part_a, part_b, multiplex_of, multiplex_at}
use Rattle.drm_server.proofs.StreamLemmas.{is_description}

-- a stream has no more bytes than its two parts
no_more : (frame : ℕ) (s : Stream) → length (stream_bytes frame s) ≤ stream_size s
no_more frame s = by s.content refl
  where
    by : (content : Content) → s.content ≡ content → length (stream_bytes frame s) ≤ stream_size s
    by (Fill byte) is = rw is (omega (arith, length-replicate (stream_size s) byte))
    by (File name bytes) is = rw is (omega (arith, length-take (stream_size s) (drop (frame * stream_size s) bytes)))

-- part B is the rest
is_rest : (frame : ℕ) (s : Stream) → take s.b (drop s.a (stream_bytes frame s)) ≡ part_b frame s
is_rest frame s = take_all s.b (part_b frame s) (omega (arith, length-drop s.a (stream_bytes frame s), no_more frame s))

all_a : (frame : ℕ) (streams : List Stream) → length streams ≤ 4 → parts_a (parts_of streams) (map (stream_bytes frame) streams) ≡ flat_map (part_a frame) streams
all_a frame [] few = refl
all_a frame (s ∷ []) few = refl
all_a frame (s ∷ t ∷ []) few = refl
all_a frame (s ∷ t ∷ u ∷ []) few = refl
all_a frame (s ∷ t ∷ u ∷ v ∷ []) few = refl
all_a frame (s ∷ t ∷ u ∷ v ∷ w ∷ more) few = absurd (omega arith)

-- the parts B of the streams, one after another
rests : ℕ → List Stream → List ℕ
rests frame [] = []
rests frame (s ∷ streams) = take s.b (drop s.a (stream_bytes frame s)) ++ rests frame streams

are_rests : (frame : ℕ) (streams : List Stream) → rests frame streams ≡ flat_map (part_b frame) streams
unfolding rests
are_rests frame [] = refl
are_rests frame (s ∷ streams) = ap (λ (l : List ℕ). l ++ rests frame streams) (is_rest frame s) ∙ ap (λ (l : List ℕ). part_b frame s ++ l) (are_rests frame streams)

all_b : (frame : ℕ) (streams : List Stream) → length streams ≤ 4 → parts_b (parts_of streams) (map (stream_bytes frame) streams) ≡ rests frame streams
unfolding rests
all_b frame [] few = refl
all_b frame (s ∷ []) few = refl
all_b frame (s ∷ t ∷ []) few = refl
all_b frame (s ∷ t ∷ u ∷ []) few = refl
all_b frame (s ∷ t ∷ u ∷ v ∷ []) few = refl
all_b frame (s ∷ t ∷ u ∷ v ∷ w ∷ more) few = absurd (omega arith)

-- what the streams of a configuration make in one of its frames
pub of_config : (frame : ℕ) (c : Config) → length c.streams ≤ 4 → multiplex_frame (description_of c) (map (stream_bytes frame) c.streams) ≡ multiplex_of frame c.streams
of_config frame c few =
    ap (λ (l : List ℕ). l ++ parts_b (parts_of c.streams) (map (stream_bytes frame) c.streams)) (all_a frame c.streams few)
    ∙ ap (λ (l : List ℕ). flat_map (part_a frame) c.streams ++ l) (all_b frame c.streams few ∙ are_rests frame c.streams)

-- what those of a frame make, where no more than four are described
pub of_parts : (plan : Plan) (t : ℕ) (parts : Parts) → IsFrameAt plan t parts → IsDescription parts.mux → multiplex_at plan t ≡ Some (multiplex_frame parts.mux parts.streams)
of_parts plan t parts is described =
    let c : Config = is.config in
    let frame : ℕ = t - 3 * c.start in
    let few : length c.streams ≤ 4 = (subst IsDescription is.mux described).count in
    let there : multiplex_at plan t ≡ Some (multiplex_of frame c.streams) = ap (λ (o : Option Config). option_map (λ (c : Config). multiplex_of (t - 3 * c.start) c.streams) o) is.holds in
    there
    ∙ ap (λ (l : List ℕ). Some l)
    (sym (of_config frame c few)
    ∙ (ap (λ (streams : List (List ℕ)). multiplex_frame (description_of c) streams) (sym is.streams)
    ∙ ap (λ (mux : MuxDesc). multiplex_frame mux parts.streams) (sym is.mux)))

pub has_multiplex_frame : (plan : Plan) (t : ℕ) (parts : Parts) → IsSchedule plan → IsFrameAt plan t parts → multiplex_at plan t ≡ Some (multiplex_frame parts.mux parts.streams)
has_multiplex_frame plan t parts valid is =
    let has : IfSome (config_of plan (t / 3)) ConfigInLines = last_passing_has (has_started (t / 3)) ConfigInLines plan.configs valid.in_lines.each_config in
    let fits : ConfigInLines is.config = subst (λ (o : Option Config). IfSome o ConfigInLines) is.holds has in
    of_parts plan t parts is (subst IsDescription (sym is.mux) (is_description is.config fits))
