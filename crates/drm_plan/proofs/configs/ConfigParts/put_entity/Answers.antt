use Rattle.std.proofs.Common.{◌-◌, [], ◌∷◌, refl, arith}
use Rattle.drm_plan.proofs.BlockLemmas.{put_into, not_before, on_ok}
use Rattle.drm_plan.proofs.configs.ConfigParts.put_entity.Goals as goal

pub returns-in_default : goal.returns-in_default
returns-in_default c =
    let parts = c.args.self.now in
    on_ok c.push-in_default.result _ _
    (λ put. rw (
      put_into parts.blocks (c.len.result - 1) c.args.entity c.get_mut.result.now c.push-in_default.new.self (omega (arith, c.len.ensures, c.in_default)) c.get_mut.ensures.value put,
      not_before parts.blocks (c.len.result - 1) parts.entities (c.args.entity ∷ []) (omega (arith, c.len.ensures, c.in_default)),
    ) refl)
    c.push-in_default.ensures.pushed
