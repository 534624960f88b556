-- The description of the streams.
use Rattle.std.proofs.Common.{◌<◌, ◌^◌, ℕ, zero, suc, List, [], ◌∷◌, slice_get, All, IfSome, Option, Some, None, arith}
use Rattle.std.proofs.lemmas.List.Elements.{All-nil, All-cons, All-head, All-tail}
use Rattle.drm_bits.specs.Description.{IsDescription, FitsWidths}
use Rattle.drm_bits.specs.declared.description.Part.{Part}
use Rattle.drm_schedule.specs.declared.config.Config.{Config}
use Rattle.drm_schedule.specs.declared.stream.Stream.{Stream}
use Rattle.drm_schedule.specs.Ranges.{StreamInLines, ConfigInLines}
use Rattle.drm_timeline.specs.Description.{description_of, part_of}
use Rattle.drm_timeline.proofs.OwnLemmas.{description_fits}
use Rattle.std.specs.Prelude.{false}

pub is_description : (c : Config) → ConfigInLines c → IsDescription (description_of c)
is_description c fits = (description_fits c false fits).body

abbrev IsNarrow : Part → Type 0
IsNarrow p = (p.a < 2 ^ 12) × (p.b < 2 ^ 12)

narrow_part : (o : Option Stream) → IfSome o StreamInLines → IsNarrow (part_of o)
narrow_part None of = (omega arith, omega arith)
narrow_part (Some s) of = (of.a_fits, of.b_fits)

at_place : (streams : List Stream) (k : ℕ) → All StreamInLines streams → IfSome (slice_get streams k) StreamInLines
at_place [] k all = tt
at_place (s ∷ streams) zero all = All-head StreamInLines s streams all
at_place (s ∷ streams) (suc k) all = at_place streams k (All-tail StreamInLines s streams all)

pub fits_widths : (c : Config) → ConfigInLines c → FitsWidths (description_of c)
fits_widths c fits =
    let narrow : (k : ℕ) → IsNarrow (part_of (slice_get c.streams k)) = λ k. narrow_part (slice_get c.streams k) (at_place c.streams k fits.each_stream) in
    let p : ℕ → Part = λ k. part_of (slice_get c.streams k) in
    record {
      prot_a = fits.prot_a_fits;
      prot_b = fits.prot_b_fits;
      parts = All-cons IsNarrow (p 0) (p 1 ∷ p 2 ∷ p 3 ∷ []) (narrow 0) (All-cons IsNarrow (p 1) (p 2 ∷ p 3 ∷ []) (narrow 1) (All-cons IsNarrow (p 2) (p 3 ∷ []) (narrow 2) (All-cons IsNarrow (p 3) [] (narrow 3) (All-nil IsNarrow))));
    }
