use Rattle.std.proofs.Common.{◌≡◌, ◌∙◌, Some, ap, rules}
use Rattle.std.specs.FinMap as map
use Rattle.drm_links.specs.ClosedLinks.{entries_of, histories_of}
use Rattle.drm_links.specs.Link.{Traffic, rests_of}
use Rattle.drm_links.specs.MemoryDock.{starts_of, kept_of, first_room}
use Rattle.drm_links.proofs.DockLemmas.{starts_of-empty}
use Rattle.drm_links.proofs.memory_dock.MemDock.make.Goals as goal

pub returns-clause-tells : goal.returns-clause-tells
returns-clause-tells c =
    let failing : c.in_ok-to_vec.field-0.items ≡ c.args.fail.now = search rules in
    let links = ap (λ es. starts_of (map.from_entries es)) c.new.ensures.empty ∙ starts_of-empty in
    let gone = ap (λ nodes. kept_of (λ (traffic : Traffic). traffic.gone) (entries_of nodes)) c.new-2.ensures in
    let answers = ap (λ nodes. kept_of (λ (traffic : Traffic). traffic.answers) (entries_of nodes)) c.new-2.ensures in
    let rests = ap (λ nodes. kept_of rests_of (entries_of nodes)) c.new-2.ensures in
    let histories = ap histories_of c.new-3.ensures in
    λ i. Some (record { openings = 0; reaches = 0; failing = failing i; links = links i; answers = answers i; gone = gone i; rests = rests i; histories = histories i; room = first_room; calls = 0 })
