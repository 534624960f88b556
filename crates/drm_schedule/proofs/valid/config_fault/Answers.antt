use Rattle.std.proofs.Common.{◌≡◌, ℕ, None, Option, subst}
use Rattle.std.specs.Option.{option_copied}
use Rattle.drm_schedule.specs.declared.invalid.Invalid.{Invalid}
use Rattle.drm_schedule.specs.declared.config.Config.{Config}
use Rattle.drm_schedule.specs.Valid.{first_fault, beginning_rows}
use Rattle.drm_schedule.proofs.ValidLemmas.{in_second, in_third, in_fourth, in_fifth, in_last}
use Rattle.drm_schedule.proofs.valid.config_fault.Goals as goal

-- what was looked at is the next start
begun : {r : Option Invalid} {end start : ℕ} (c : Config) (k : ℕ) → end ≡ start → r ≡ first_fault (beginning_rows k 0 c end None c.blocks)
    → r ≡ first_fault (beginning_rows k 0 c start None c.blocks)
begun {r} {end} {start} c k is found = subst (λ n. r ≡ first_fault (beginning_rows k 0 c n None c.blocks)) is found

pub returns-then-is_some-2 : goal.returns-then-is_some-2
returns-then-is_some-2 c =
    in_second c.args.plan.now c.args.k (option_copied c.args.before) c.args.config.now c.args.more.now c.place_fault-placed.result c.place_fault-placed.ensures c.is_some.result c.is_some.ensures c.if-is_some.false
    c.beginning_fault-begun.result (begun c.args.config.now c.args.k c.next_start.ensures c.beginning_fault-begun.ensures) c.is_some-2.result c.is_some-2.ensures
    c.if-is_some-2.true

pub returns-then-is_some-3 : goal.returns-then-is_some-3
returns-then-is_some-3 c =
    in_third c.args.plan.now c.args.k (option_copied c.args.before) c.args.config.now c.args.more.now c.place_fault-placed.result c.place_fault-placed.ensures c.is_some.result c.is_some.ensures c.if-is_some.false
    c.beginning_fault-begun.result (begun c.args.config.now c.args.k c.next_start.ensures c.beginning_fault-begun.ensures) c.is_some-2.result c.is_some-2.ensures
    c.if-is_some-2.false c.channel_fault-channel.result c.channel_fault-channel.ensures c.is_some-3.result c.is_some-3.ensures
    c.if-is_some-3.true

pub returns-then-is_some-4 : goal.returns-then-is_some-4
returns-then-is_some-4 c =
    in_fourth c.args.plan.now c.args.k (option_copied c.args.before) c.args.config.now c.args.more.now c.place_fault-placed.result c.place_fault-placed.ensures c.is_some.result c.is_some.ensures c.if-is_some.false
    c.beginning_fault-begun.result (begun c.args.config.now c.args.k c.next_start.ensures c.beginning_fault-begun.ensures) c.is_some-2.result c.is_some-2.ensures
    c.if-is_some-2.false c.channel_fault-channel.result c.channel_fault-channel.ensures c.is_some-3.result c.is_some-3.ensures
    c.if-is_some-3.false c.disagreeing_fault-disagreeing.result c.disagreeing_fault-disagreeing.ensures c.is_some-4.result c.is_some-4.ensures
    c.if-is_some-4.true

pub returns-then-is_some-5 : goal.returns-then-is_some-5
returns-then-is_some-5 c =
    in_fifth c.args.plan.now c.args.k (option_copied c.args.before) c.args.config.now c.args.more.now c.place_fault-placed.result c.place_fault-placed.ensures c.is_some.result c.is_some.ensures c.if-is_some.false
    c.beginning_fault-begun.result (begun c.args.config.now c.args.k c.next_start.ensures c.beginning_fault-begun.ensures) c.is_some-2.result c.is_some-2.ensures
    c.if-is_some-2.false c.channel_fault-channel.result c.channel_fault-channel.ensures c.is_some-3.result c.is_some-3.ensures
    c.if-is_some-3.false c.disagreeing_fault-disagreeing.result c.disagreeing_fault-disagreeing.ensures c.is_some-4.result c.is_some-4.ensures
    c.if-is_some-4.false c.room_fault-fitting.result c.room_fault-fitting.ensures c.is_some-5.result c.is_some-5.ensures
    c.if-is_some-5.true

pub returns : goal.returns
returns c =
    in_last c.args.plan.now c.args.k (option_copied c.args.before) c.args.config.now c.args.more.now c.place_fault-placed.result c.place_fault-placed.ensures c.is_some.result c.is_some.ensures c.if-is_some.false
    c.beginning_fault-begun.result (begun c.args.config.now c.args.k c.next_start.ensures c.beginning_fault-begun.ensures) c.is_some-2.result c.is_some-2.ensures
    c.if-is_some-2.false c.channel_fault-channel.result c.channel_fault-channel.ensures c.is_some-3.result c.is_some-3.ensures
    c.if-is_some-3.false c.disagreeing_fault-disagreeing.result c.disagreeing_fault-disagreeing.ensures c.is_some-4.result c.is_some-4.ensures
    c.if-is_some-4.false c.room_fault-fitting.result c.room_fault-fitting.ensures c.is_some-5.result c.is_some-5.ensures
    c.carried_fault.result c.if-is_some-5.false c.carried_fault.ensures
