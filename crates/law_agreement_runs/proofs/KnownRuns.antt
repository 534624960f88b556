-- A run over any objects, by what is known of them.
use Rattle.std.specs.Prelude.{Bool, None, Some}
use Rattle.drm_words.specs.declared.request.Request.{Request}
use Rattle.drm_words.specs.declared.request.Request.TheVariants.{Receive, Air}
use Rattle.drm_top.specs.Outside.{Outside, outside}
use Rattle.drm_top.specs.Headline.{HeadlineOfRun}
use Rattle.law_agreement_runs.specs.Runs.{KnownRun}

abbrev pub known_run : {S I O E D : Type 0} → Outside S I O E D → KnownRun
known_run o =
    outside (λ x. x) (o.shelf.known o.shelf.before) (o.shelf.known o.shelf.after) (λ x. x) (o.input.known o.input.before) (o.input.known o.input.after)
    (λ x. x) (o.out.known o.out.before) (o.out.known o.out.after) (λ x. x) (o.err.known o.err.before) (o.err.known o.err.after)
    (λ x. x) (o.dock.known o.dock.before) (o.dock.known o.dock.after)

-- its headline is the run's
pub headline_known : {S I O E D : Type 0} (request : Request) (clean : Bool) (o : Outside S I O E D) → HeadlineOfRun request clean o → HeadlineOfRun request clean (known_run o)
headline_known (Receive (Some addresses) window reach first frames idle limit) clean o is = is
headline_known (Receive None window reach first frames idle limit) clean o is = is
headline_known (Air name script window) clean o is = record {
  plan = is.plan;
  valid = is.valid;
  between = o.shelf.known is.between;
  schedule = is.schedule;
  feeds = is.feeds;
  deliveries = is.deliveries;
  wrote = is.wrote;
}
headline_known _ clean o is = tt
