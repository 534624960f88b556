use Rattle.std.proofs.Common.{◌≡◌, ◌*◌, ◌<◌, ◌≤◌, ℕ, List, [], length, take}
use Rattle.std.specs.List.{concat}
use Rattle.dcp_pft.specs.Limits.{most_fragments}
use Rattle.drm_server.specs.Stretch.{first_in}
use Rattle.drm_server.specs.Datagrams.{AreOfFrames}
use Rattle.drm_server.specs.Capture.{IsPrefixOfCapture}
use Rattle.drm_server.specs.Gathering.{GathersDatagrams}
use Rattle.drm_server.proofs.serve.serve.Given as goal

-- the datagrams of the frames before this one were written, or wait
abbrev pub invariant-loop-n : goal.invariant-loop-n
invariant-loop-n g l =
    (datagrams : List (List ℕ)) × AreOfFrames l.fn.loaded.base (first_in l.fn.stretch) l.n datagrams
    × GathersDatagrams [] (concat datagrams) (take l.waiting l.scratch) (g.O.Sink.known l.fn.out) (g.O.Sink.known l.out)
    × (0 < l.waiting → IsPrefixOfCapture l.fn.loaded.base l.fn.stretch (concat datagrams))
    × (l.waiting ≤ length l.scratch)
    × (length l.scratch ≡ length l.fn.scratch)
    × ((g.O.Sink.known l.out).faults ≡ (g.O.Sink.known l.fn.out).faults)
    × (l.loaded.base ≡ l.fn.loaded.base)
    × (l.written ≡ length datagrams)
    × (l.written ≤ most_fragments * l.n)
