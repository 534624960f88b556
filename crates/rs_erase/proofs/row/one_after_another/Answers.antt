use Rattle.std.proofs.Common.{ap, ◌∙◌, List, ℕ, refl, replicate}
use lib.Lanes.{put_chunk}
use Rattle.rs_erase.proofs.LaneRows.{three_elements, three_written}
use Rattle.rs_erase.proofs.row.one_after_another.Goals as goal

pub returns-clause-value : goal.returns-clause-value
returns-clause-value c =
    c.write_lanes-3.ensures
    ∙ ap (λ (w : List ℕ). put_chunk 32 w c.args.third) (c.write_lanes-2.ensures ∙ ap (λ (w : List ℕ). put_chunk 16 w c.args.second) c.write_lanes.ensures)
    ∙ three_written (replicate 48 0) c.args.first c.args.second c.args.third refl c.fits-first.0 c.fits-second.0 c.fits-third.0

pub returns-clause-elements : goal.returns-clause-elements
returns-clause-elements c = three_elements c.args.first c.args.second c.args.third _ c.fits-first.1 c.fits-second.1 c.fits-third.1 (returns-clause-value c)
