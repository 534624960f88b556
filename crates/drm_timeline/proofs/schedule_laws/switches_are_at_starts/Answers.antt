use Rattle.drm_timeline.proofs.ScheduleLaws.{only_at_its_starts, at_all_its_starts, resumes_nowhere}
use Rattle.drm_timeline.proofs.schedule_laws.switches_are_at_starts.Goals as goal

pub returns-clause-only : goal.returns-clause-only
returns-clause-only c = only_at_its_starts c.args.plan.now c.starts_are_announced.ensures

pub returns-clause-at_all_starts : goal.returns-clause-at_all_starts
returns-clause-at_all_starts c = at_all_its_starts c.args.plan.now c.starts_are_announced.ensures

pub returns-clause-never_resumed : goal.returns-clause-never_resumed
returns-clause-never_resumed c = resumes_nowhere c.args.plan.now c.starts_are_announced.ensures
