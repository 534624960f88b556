use Rattle.std.proofs.Common.{ap, length, refl, rules, ◌≡◌, ◌∙◌}
use Rattle.std.proofs.lemmas.List.{take_at}
use Rattle.rs_erase.proofs.SpacedSums.{is_spaced}
use Rattle.rs_erase.proofs.spaced.SpacedPattern.prepare.Goals as goal

pub invariant_of-result : goal.invariant_of-result
invariant_of-result c =
    let es = c.args.erased.now in
    let n = length es in
    let copied = take_at c.copy_from_slice.new.self _ n (ap length c.copy_from_slice.ensures.after) ∙ c.copy_from_slice.ensures.after in
    let long : length c.write_weights_by.new.weights ≡ n = search rules in
    let weighed = take_at c.write_weights_by.new.weights _ n long in
    let ws = c.write_weights_by.new.weights in
    let factors = c.factors_by-factors.result in
    is_spaced c.distance-distance.result n c.in_message-message.result es _ factors ws _ c.runs_of-runs.result.starts c.runs_of-runs.result.used c.runs_of-runs.new.lanes
    copied weighed c.requires.enough refl c.requires.places c.in_message-message.ensures
    c.factors_by-factors.ensures
    c.write_weights_by.ensures
    (c.if-not-have.ensures refl)
