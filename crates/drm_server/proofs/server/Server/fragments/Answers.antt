use Rattle.std.proofs.Common.{sym, subst}
use Rattle.drm_server.specs.Datagrams.{HasDatagrams}
use Rattle.drm_server.proofs.OneDelivery.{as_many_as}
use Rattle.drm_server.proofs.server.Server.fragments.Goals as goal

pub returns-clause-datagrams : goal.returns-clause-datagrams
returns-clause-datagrams c =
    let s = c.self.inside.loaded in
    let d = c.datagrams in
    rw (← c.self.view_is) (subst (HasDatagrams s.plan s.frame) (sym c.count.ensures.number) (as_many_as s.plan s.frame d.result.now d.ensures.are))
