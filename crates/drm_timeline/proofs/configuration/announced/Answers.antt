use Rattle.std.proofs.Common.{◌≡◌, ◌∙◌, ◌-◌, sym, subst, List, length, drop, All, None, refl, length-drop, arith}
use Rattle.std.specs.List.{find}
use Rattle.std.proofs.lemmas.List.{take_all}
use Rattle.std.proofs.lemmas.List.Elements.{All-drop}
use Rattle.drm_schedule.specs.declared.config.Config.{Config}
use Rattle.drm_schedule.specs.Ranges.{ConfigInLines}
use Rattle.drm_timeline.specs.Standing.{is_counting, announced_in}
use Rattle.drm_timeline.proofs.ScheduleLemmas.{IsSound, all_sound, sound_services, found_first, first_has, not_first, can_announce}
use Rattle.drm_timeline.proofs.configuration.announced.Goals as goal

pub loop-left-init : goal.loop-left-init
loop-left-init c =
    subst (λ (left : List Config). (find (is_counting c.args.sf) left ≡ announced_in c.args.plan.now c.args.sf) × All ConfigInLines left × All IsSound left)
    (sym (c.as_slice-left.ensures ∙ c.configs.ensures))
    (refl, c.always_valid.ensures.schedule.in_lines.each_config, all_sound c.args.plan.now None c.args.plan.now.configs c.always_valid.ensures.faultless)

pub returns-then-is_counting-clause-services : goal.returns-then-is_counting-clause-services
returns-then-is_counting-clause-services c =
    let has = λ (P : Config → Type 0) (all : All P c.loop-left.left.now). first_has P c.loop-left.left.now c.config-item.result all c.in-len1-up.len_at_least c.config-item.is in
    sound_services c.config-item.result (has ConfigInLines c.loop-left.invariant.1) (has IsSound c.loop-left.invariant.2)

pub returns-then-is_counting-clause-can : goal.returns-then-is_counting-clause-can
returns-then-is_counting-clause-can c =
    λ before stands.
    can_announce c.args.plan.now c.args.sf c.args.plan.now.configs c.config-item.result before c.always_valid.ensures.faultless
    (sym c.loop-left.invariant.0 ∙ found_first c.args.sf c.loop-left.left.now c.config-item.result c.in-len1-up.len_at_least c.config-item.is (sym c.is_counting.ensures ∙ c.if-is_counting.true)) stands

pub loop-left-preserved : goal.loop-left-preserved
loop-left-preserved c =
    let left : List Config = c.loop-left.left.now in
    subst (λ (more : List Config). (find (is_counting c.args.sf) more ≡ announced_in c.args.plan.now c.args.sf) × All ConfigInLines more × All IsSound more)
    (sym (take_all (length left - 1) (drop 1 left) (omega (arith, length-drop 1 left)))) (
      not_first c.args.sf left c.config-item.result _ c.in-len1-up.len_at_least c.config-item.is (sym c.is_counting.ensures ∙ c.if-is_counting.false) c.loop-left.invariant.0,
      All-drop ConfigInLines 1 left c.loop-left.invariant.1,
      All-drop IsSound 1 left c.loop-left.invariant.2,
    )
