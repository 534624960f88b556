use Rattle.std.proofs.Common.{◌≡◌, ◌+◌, ◌-◌, ◌*◌, length}
use Rattle.drm_links.specs.Hearing.{LinkHeard}
use Rattle.drm_paths.proofs.Walking.{Reaches}
use Rattle.drm_paths.proofs.run.run_path.Given as goal

-- the path doesn't end yet
abbrev pub invariant-answers : goal.invariant-answers
invariant-answers g l =
    Reaches l.options (LinkHeard (g.L.Link.known l.fn.link) (g.L.Link.known l.link)) l.path.taken l.taken l.idles
    × ((g.L.Link.known l.link).faults ≡ (g.L.Link.known l.fn.link).faults)
    × (length l.buffer ≡ 65536)
    × (l.path.number ≡ l.fn.path.number)
    × (l.path.parts ≡ l.fn.path.parts)

abbrev pub decreases-answers : goal.decreases-answers
decreases-answers g l = (l.options.limit - l.taken) * l.options.idle + (l.options.idle - l.idles)
