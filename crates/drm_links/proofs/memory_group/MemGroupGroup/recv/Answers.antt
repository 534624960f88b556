use Rattle.std.proofs.Common.{refl}
use Rattle.drm_links.specs.MemoryGroup.{GroupState}
use Rattle.drm_links.proofs.GroupLemmas.{does_recv}
use Rattle.drm_links.proofs.memory_group.MemGroupGroup.recv.Goals as goal

pub invariant_of-self : goal.invariant_of-self
invariant_of-self c =
    let old : GroupState = record { source = c.self.inside.source; members = c.self.inside.members.items; book = c.self.inside.book; faults = c.self.inside.faults } in
    let new : GroupState = record { source = c.recv_front-came.new.source; members = c.self.inside.members.items; book = c.recv_front-came.new.book; faults = c.self.inside.faults } in
    let done = c.recv_front-came.ensures in
    (c.self.invariant.0, (does_recv c.recv_front-came.result c.recv_front-came.new.buf old new refl done.answer done.counts_call done.notes c.self.invariant.1).steps)

pub returns-clause-tells : goal.returns-clause-tells
returns-clause-tells c =
    let old : GroupState = record { source = c.self.inside.source; members = c.self.inside.members.items; book = c.self.inside.book; faults = c.self.inside.faults } in
    let new : GroupState = record { source = c.recv_front-came.new.source; members = c.self.inside.members.items; book = c.recv_front-came.new.book; faults = c.faults_after_recv-self-inside.result } in
    let done = c.recv_front-came.ensures in
    rw (← c.self.view_is)
    (record {
      told = (does_recv c.recv_front-came.result c.recv_front-came.new.buf old new refl done.answer done.counts_call done.notes c.self.invariant.1).told;
      faults = c.faults_after_recv-self-inside.ensures c.recv_front-came.new.buf;
    })
