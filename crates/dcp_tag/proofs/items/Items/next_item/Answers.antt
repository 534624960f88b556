use Rattle.std.proofs.Common.{ℕ, length, take, refl, ap, ◌∙◌, arith}
use Rattle.dcp_tag.specs.PayloadPlace.{left}
use Rattle.dcp_tag.specs.Reading.{item_of}
use Rattle.dcp_tag.proofs.TagLemmas.{cut_front, item_front}
use Rattle.dcp_tag.proofs.PlaceLemmas.{left_is, begins_left, gives_at}
use Rattle.dcp_tag.proofs.items.Items.next_item.Goals as goal

pub returns-in_default-clause-answer : goal.returns-in_default-clause-answer
returns-in_default-clause-answer c =
    (omega (arith, c.in_default.ensures.short, ap length (left_is c.args.self.now c.self.inside.payload.now c.self.inside.at c.self.view_is)), refl)

pub returns-then-behind-len-clause-item : goal.returns-then-behind-len-clause-item
returns-then-behind-len-clause-item c = λ item spelling rest s is.
    let begins = begins_left c.args.self.now c.self.inside.payload.now c.self.inside.at c.in-Some.name.now c.in-Some.bits c.in-Some.behind.now c.self.view_is c.in-Some.ensures.head in
    let enough = item_front item (left c.args.self.now) spelling rest c.in-Some.name.now c.in-Some.bits c.in-Some.behind.now s is begins in
    absurd (omega (arith, enough.0, c.if-behind-len.true, c.bytes_for-len.ensures))

pub returns-clause-answer : goal.returns-clause-answer
returns-clause-answer c =
    gives_at _ c.args.self.now c.self.inside.payload.now c.self.inside.at c.in-Some.behind.now c.bytes_for-len.result c.self.view_is c.in-Some.ensures.head c.bytes_for-len.ensures c.if-behind-len.false refl refl

pub returns-clause-item : goal.returns-clause-item
returns-clause-item c = λ item spelling rest s is.
    let begins = begins_left c.args.self.now c.self.inside.payload.now c.self.inside.at c.in-Some.name.now c.in-Some.bits c.in-Some.behind.now c.self.view_is c.in-Some.ensures.head in
    let same = item_front item (left c.args.self.now) spelling rest c.in-Some.name.now c.in-Some.bits c.in-Some.behind.now s is begins in
    ap (λ (n : ℕ). item_of c.in-Some.name.now c.in-Some.bits (take n c.in-Some.behind.now)) c.bytes_for-len.ensures ∙ same.1

pub returns-clause-cut : goal.returns-clause-cut
returns-clause-cut c = λ cut.
    let begins = begins_left c.args.self.now c.self.inside.payload.now c.self.inside.at c.in-Some.name.now c.in-Some.bits c.in-Some.behind.now c.self.view_is c.in-Some.ensures.head in
    let short = cut_front (left c.args.self.now) c.in-Some.name.now c.in-Some.bits c.in-Some.behind.now cut begins in
    absurd (omega (arith, short, c.if-behind-len.false, c.bytes_for-len.ensures))
