use Rattle.std.proofs.Common.{ℕ, [], sym, subst, ap, length, arith}
use Rattle.drm_server.specs.Datagrams.{HasDatagram, IsDatagramAt}
use Rattle.drm_server.specs.ServerState.{ServerState}
use Rattle.drm_server.proofs.OneDelivery.{among_them}
use Rattle.drm_server.proofs.server.Server.datagram.Goals as goal

abbrev Within : ℕ → ServerState → Type 0
Within i s = HasDatagram s.plan s.frame i

pub get-requires : goal.get-requires
get-requires c =
    let s = c.self.inside.loaded in
    (among_them s.plan s.frame c.args.i c.datagrams.result.now c.datagrams.ensures.are (subst (Within c.args.i) (sym c.self.view_is) c.requires.within)).0

pub returns-clause-datagram : goal.returns-clause-datagram
returns-clause-datagram c =
    let s = c.self.inside.loaded in
    let among = among_them s.plan s.frame c.args.i c.datagrams.result.now c.datagrams.ensures.are (subst (Within c.args.i) (sym c.self.view_is) c.requires.within) in
    rw (← c.self.view_is) (subst (IsDatagramAt s.plan s.frame c.args.i) (sym (c.get.ensures.datagram [])) among.1)

pub returns-clause-in_range : goal.returns-clause-in_range
returns-clause-in_range c =
    let s = c.self.inside.loaded in
    let among = among_them s.plan s.frame c.args.i c.datagrams.result.now c.datagrams.ensures.are (subst (Within c.args.i) (sym c.self.view_is) c.requires.within) in
    let short = c.datagrams.ensures.in_range c.args.i [] among.0 in
    rw (← c.self.view_is) (omega (arith, short, ap length (c.get.ensures.datagram [])))
