use Rattle.std.proofs.Common.{refl}
use Rattle.std.proofs.lemmas.Result.{err_from_is_err_and}
use Rattle.dcp_tag.specs.Reading.{GivesItem}
use Rattle.mdi_items.specs.Items.{known_of}
use Rattle.mdi_items.proofs.PayloadLemmas.{known_inside}
use Rattle.mdi_items.proofs.WalkLemmas.{walk_start, walk_step, walk_end, walk_cut, walk_twice}
use Rattle.mdi_items.proofs.known.gather.Goals as goal

pub loop-item-init : goal.loop-item-init
unfolding known_of
loop-item-init c = walk_start c.args.payload.now c.new-items.result _ c.new-items.ensures refl

pub loop-item-preserved : goal.loop-item-preserved
loop-item-preserved c =
    let given : GivesItem c.in-Ok-Some.item c.loop-item.items c.next_item.new.self = rw c.in-Ok-Some.field-0-is at c.in-Ok-Some.ensures.answer in
    walk_step c.args.payload.now c.loop-item.items c.next_item.new.self c.loop-item.known c.note.new.known c.in-Ok-Some.item c.loop-item.invariant given c.in_ok-note-in-Ok-Some.ensures.noted

pub returns-in_err-note-in-Ok-Some-clause-fault : goal.returns-in_err-note-in-Ok-Some-clause-fault
returns-in_err-note-in-Ok-Some-clause-fault c =
    let p = err_from_is_err_and c.from_residual.result c.from_residual.ensures.1 in
    let given : GivesItem c.in-Ok-Some.item c.loop-item.items c.next_item.new.self = rw c.in-Ok-Some.field-0-is at c.in-Ok-Some.ensures.answer in
    rw (p.1, p.2) (walk_twice c.args.payload.now c.loop-item.items c.next_item.new.self c.loop-item.known c.in-Ok-Some.item _ c.loop-item.invariant given c.in_err-note-in-Ok-Some.ensures.twice)

pub returns-in-Ok-None-clause-known : goal.returns-in-Ok-None-clause-known
returns-in-Ok-None-clause-known c =
    walk_end c.args.payload.now c.loop-item.items c.loop-item.known c.loop-item.invariant (rw c.in-Ok-None.field-0-is at c.in-Ok-None.ensures.answer).0

pub returns-in-Err-clause-fault : goal.returns-in-Err-clause-fault
returns-in-Err-clause-fault c = walk_cut c.args.payload.now c.loop-item.items c.loop-item.known c.in-Err.cut.at c.loop-item.invariant c.in-Err.ensures.answer.1 c.in-Err.ensures.answer.0

pub returns-in-Ok-None-clause-inside : goal.returns-in-Ok-None-clause-inside
returns-in-Ok-None-clause-inside c =
    let parts = walk_end c.args.payload.now c.loop-item.items c.loop-item.known c.loop-item.invariant (rw c.in-Ok-None.field-0-is at c.in-Ok-None.ensures.answer).0 in
    rw parts.2 (known_inside parts.0 c.args.payload.now parts.1.stand)
