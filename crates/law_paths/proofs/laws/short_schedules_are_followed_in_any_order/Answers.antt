use Rattle.law_paths.proofs.AnyOrder.{followed_in_any_order}
use Rattle.law_paths.proofs.laws.short_schedules_are_followed_in_any_order.Goals as goal

pub returns : goal.returns
returns c = followed_in_any_order
