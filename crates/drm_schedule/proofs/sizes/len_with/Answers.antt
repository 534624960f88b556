use Rattle.std.proofs.Common.{◌≤◌, ◌*◌, arith}
use Rattle.drm_schedule.proofs.Fitting.{all_fit, total_is_small}
use Rattle.drm_schedule.proofs.sizes.len_with.Goals as goal

pub total_size-requires-clause-fit : goal.total_size-requires-clause-fit
total_size-requires-clause-fit c = all_fit _ c.requires.each

pub total_size-requires-clause-in_range : goal.total_size-requires-clause-in_range
total_size-requires-clause-in_range c = omega (arith, c.requires.within_limit, total_is_small _ c.requires.each)

small : (c : goal.After-total_size) → c.total_size.result ≤ 129 * 64
small c = omega (arith, c.requires.within_limit, total_is_small _ c.requires.each)

pub overflow_add-result-2 : goal.overflow_add-result-2
overflow_add-result-2 c = omega (arith, small c)

pub returns-clause-in_range : goal.returns-clause-in_range
returns-clause-in_range c = omega (arith, small c, c.requires.config.few_streams)
