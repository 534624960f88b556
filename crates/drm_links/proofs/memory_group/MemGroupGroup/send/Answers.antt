use Rattle.std.proofs.Common.{refl, ◌∙◌, ap}
use Rattle.drm_links.specs.MemoryGroup.{GroupState, ups_of}
use Rattle.drm_links.specs.Calls.{is_up}
use Rattle.drm_links.proofs.GroupLemmas.{up_send, does_send}
use Rattle.drm_links.proofs.memory_group.MemGroupGroup.send.Goals as goal

pub invariant_of-self : goal.invariant_of-self
invariant_of-self c =
    let old : GroupState = record { source = c.self.inside.source; members = c.self.inside.members.items; book = c.self.inside.book; faults = c.self.inside.faults } in
    let new : GroupState = record { source = c.self.inside.source; members = c.send_over-answer.new.members.items; book = c.note_send.new.self; faults = c.self.inside.faults } in
    let up = ap (λ (g : GroupState). is_up (ups_of g.members) c.args.k) c.self.view_is ∙ c.requires.up in
    (c.self.invariant.0, (does_send c.args.k c.args.bytes.now c.send_over-answer.result old new c.requires.length up refl c.send_over-answer.ensures c.note_send.ensures c.self.invariant.1).steps)

pub returns-clause-tells : goal.returns-clause-tells
returns-clause-tells c =
    let old : GroupState = record { source = c.self.inside.source; members = c.self.inside.members.items; book = c.self.inside.book; faults = c.self.inside.faults } in
    let new : GroupState = record { source = c.self.inside.source; members = c.send_over-answer.new.members.items; book = c.note_send.new.self; faults = c.faults_after_send-self-inside.result } in
    let up = ap (λ (g : GroupState). is_up (ups_of g.members) c.args.k) c.self.view_is ∙ c.requires.up in
    rw (← c.self.view_is)
    (record {
      told = (does_send c.args.k c.args.bytes.now c.send_over-answer.result old new c.requires.length up refl c.send_over-answer.ensures c.note_send.ensures c.self.invariant.1).told;
      faults = c.faults_after_send-self-inside.ensures c.args.k c.args.bytes.now;
    })

pub returns-clause-up : goal.returns-clause-up
returns-clause-up c =
    rw (← c.self.view_is)
    (up_send c.args.k c.args.bytes.now c.send_over-answer.result c.self.inside.members.items c.send_over-answer.new.members.items c.send_over-answer.ensures)
