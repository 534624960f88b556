use Rattle.std.proofs.Common.{◌≡◌, ◌∙◌, true, sym}
use Rattle.std.specs.Str.{bytes_eq}
use Rattle.drm_links.specs.Dock.{address_key}
use Rattle.drm_links.proofs.DockLemmas.{closed_here, closed_elsewhere, closed_nowhere}
use Rattle.drm_links.proofs.memory_dock.MemDock.closed.Goals as goal
use Rattle.drm_links.proofs.memory_dock.MemDock.closed.Goals.{in_default-via-in-None-1, in_default-via-in-Some-node+else-eq}

pub returns-in-Some : goal.returns-in-Some
returns-in-Some c =
    let same : bytes_eq (address_key c.args.at) (address_key c.in-Some-node.closed.at) ≡ true =
    rw (← c.key_of-key.ensures, ← c.key_of.ensures) (sym c.eq.ensures ∙ c.if-eq.true) in
    sym
    (c.loop-node.invariant.2
    ∙ closed_here (address_key c.args.at) c.next.new.self c.loop-node.nodes c.in-Some.node.now c.in-Some-node.closed c.in-Some.ensures.steps c.in-Some-node.is same)

pub loop-node-preserved : goal.loop-node-preserved
loop-node-preserved c = (
  tt,
  tt,
  c.loop-node.invariant.2
      ∙ elim c.in_default.branch [
        | in_default-via-in-None-1 w ↦ closed_nowhere (address_key c.args.at) c.next.new.self c.loop-node.nodes c.in-Some.node.now c.in-Some.ensures.steps cc
        | in_default-via-in-Some-node+else-eq w ↦ closed_elsewhere (address_key c.args.at) c.next.new.self c.loop-node.nodes c.in-Some.node.now w.in-Some-node.closed c.in-Some.ensures.steps w.in-Some-node.is
            (rw (← c.key_of-key.ensures, ← w.key_of.ensures) (sym w.eq.ensures ∙ w.if-eq.false))
      ],
)
