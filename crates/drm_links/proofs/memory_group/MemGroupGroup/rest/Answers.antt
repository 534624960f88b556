use Rattle.std.proofs.Common.{refl}
use Rattle.drm_links.specs.MemoryGroup.{GroupState}
use Rattle.drm_links.proofs.GroupLemmas.{up_rest, does_rest}
use Rattle.drm_links.proofs.memory_group.MemGroupGroup.rest.Goals as goal

pub invariant_of-self : goal.invariant_of-self
invariant_of-self c =
    let old : GroupState = record { source = c.self.inside.source; members = c.self.inside.members.items; book = c.self.inside.book; faults = c.self.inside.faults } in
    let new : GroupState = record { source = c.self.inside.source; members = c.rest_before.new.members.items; book = c.note_rest.new.self; faults = c.self.inside.faults } in
    (c.self.invariant.0, (does_rest c.args.k c.args.millis old new refl c.rest_before.ensures c.note_rest.ensures c.self.invariant.1).steps)

pub returns-clause-tells : goal.returns-clause-tells
returns-clause-tells c =
    let old : GroupState = record { source = c.self.inside.source; members = c.self.inside.members.items; book = c.self.inside.book; faults = c.self.inside.faults } in
    let new : GroupState = record { source = c.self.inside.source; members = c.rest_before.new.members.items; book = c.note_rest.new.self; faults = c.self.inside.faults } in
    rw (← c.self.view_is)
    (record { told = (does_rest c.args.k c.args.millis old new refl c.rest_before.ensures c.note_rest.ensures c.self.invariant.1).told; faults = refl })

pub returns-clause-up : goal.returns-clause-up
returns-clause-up c =
    rw (← c.self.view_is)
    (up_rest c.args.k c.args.millis c.self.inside.members.items c.rest_before.new.members.items c.rest_before.ensures)
