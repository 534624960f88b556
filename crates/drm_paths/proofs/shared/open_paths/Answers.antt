use Rattle.std.proofs.Common.{◌≡◌, ◌+◌, ℕ, List, ◌∷◌, [], length, refl, sym, subst, ◌∙◌, ap, arith, length-append}
use Rattle.drm_links.proofs.Places.{each_more}
use Rattle.drm_paths.specs.State.{PathState, new_path}
use Rattle.drm_paths.proofs.shared.open_paths.Goals as goal

pub loop-number-preserved : goal.loop-number-preserved
loop-number-preserved g c =
    let i = c.loop-number.invariant in
    let list : List PathState = c.loop-number.list in
    let many : length list ≡ c.loop-number.number = i.3 in
    let parts = i.0 in
    let amount = i.1 in
    let parts_left = c.split_off-share.ensures.parts_left in
    let amount_left = c.split_off-share.ensures.amount_left in
    let longer : length c.push.new.self ≡ length list + 1 = ap length c.in_ok-push.ensures.pushed ∙ length-append list (c.new.result ∷ []) in
    let P : ℕ → PathState → Type 0 = λ k p. p ≡ new_path k in (
      omega (arith, parts, parts_left),
      omega (arith, amount, amount_left),
      i.2,
      omega (arith, longer, many),
      (λ k d within.
          each_more P list c.push.new.self c.new.result (length list) refl c.in_ok-push.ensures.pushed (λ j e less. i.4 j e (omega (arith, less, many)))
          (subst (λ n. c.new.result ≡ new_path n) (sym many) c.new.ensures) k d (omega (arith, within, many))),
    )
