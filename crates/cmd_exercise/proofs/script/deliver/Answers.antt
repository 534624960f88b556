use Rattle.std.proofs.Common.{◌≡◌, ◌+◌, ◌-◌, ◌++◌, List, [], ◌∷◌, sym, ◌∙◌, ap, arith, le_refl}
use Rattle.plan_script.specs.declared.delivery.Delivery.{Delivery}
use Rattle.plan_script.specs.Script.{delivery}
use Rattle.cmd_exercise.proofs.Delivering.{left_of, whole, skipped, taken, twice_behind}
use Rattle.cmd_exercise.proofs.script.deliver.Goals as goal

pub loop-left-init : goal.loop-left-init
loop-left-init c = (ap (λ l. c.args.feed.now ++ l) (whole c.args.n c.args.packet c.args.count), le_refl c.args.count)

pub loop-left-preserved-then-is_left_out : goal.loop-left-preserved-then-is_left_out
loop-left-preserved-then-is_left_out c =
    let n = c.args.n in
    let packet = c.args.packet in
    let count = c.args.count in
    let left = c.loop-left.left in
    let more = c.loop-left-test.true in
    let within = c.loop-left.invariant.1 in
    let next : left ≡ left - 1 + 1 = omega (arith, more) in (
      sym (ap (λ l. c.loop-left.feed ++ l) (ap (left_of n packet count) next ∙ skipped n packet count (left - 1) (sym c.is_left_out.ensures ∙ c.if-is_left_out.true))) ∙ c.loop-left.invariant.0,
      omega (arith, within),
    )

pub loop-left-preserved : goal.loop-left-preserved
loop-left-preserved c =
    let n = c.args.n in
    let packet = c.args.packet in
    let count = c.args.count in
    let left = c.loop-left.left in
    let more = c.loop-left-test.true in
    let within = c.loop-left.invariant.1 in
    let next : left ≡ left - 1 + 1 = omega (arith, more) in
    let d : Delivery = delivery packet (left - 1) in
    let rest : List Delivery = left_of n packet count (left - 1) in (
      ap (λ l. l ++ rest) (c.in_ok-push-2.ensures.pushed ∙ ap (λ l. l ++ d ∷ []) c.in_ok-push.ensures.pushed)
          ∙ twice_behind c.loop-left.feed d rest
          ∙ sym (ap (λ l. c.loop-left.feed ++ l) (ap (left_of n packet count) next ∙ taken n packet count (left - 1) (sym c.is_left_out.ensures ∙ c.if-is_left_out.false)))
          ∙ c.loop-left.invariant.0,
      omega (arith, within),
    )
