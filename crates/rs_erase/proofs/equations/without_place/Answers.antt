use Rattle.std.proofs.Common.{ap, ◌∙◌, ◌+◌, ◌≡◌, List, ℕ, length, take, rules, arith}
use Rattle.rs_erase.specs.Equations.{remaining_syndromes}
use Rattle.rs_erase.specs.Polynomial.{add, scale}
use Rattle.rs_erase.specs.Rows.{listed}
use Rattle.rs_erase.proofs.LaneRows.{length_three}
use Rattle.rs_erase.proofs.RemovedPlaces.{removed}
use Rattle.rs_erase.proofs.equations.without_place.Goals as goal

pub returns : goal.returns
returns c = λ left lt.
    let s = c.args.syndromes in
    let long : length (listed s) ≡ 48 = length_three s.first s.second s.third (search rules) (search rules) (search rules) in
    ap (take left) (c.plus_multiple.ensures ∙ ap (λ (p : List ℕ). add p (scale c.locator.inside.0 (listed s))) c.from_second.ensures)
    ∙ removed c.locator.inside.0 (listed s) left (omega arith)
    ∙ ap (λ (x : ℕ). remaining_syndromes x (take (left + 1) (listed s))) c.locator.view_is
