use Rattle.std.proofs.Common.{◌≡◌, ◌+◌, ◌-◌, ◌*◌, ◌++◌, ℕ, List, length, take, drop, false, replicate, sym, ap, ◌∙◌, arith, length-append, subst, Bool}
use Rattle.dcp_tag.specs.Tag.{head, IsPadded}
use Rattle.dcp_tag.specs.Reading.{item_of}
use Rattle.dcp_tag.proofs.TagLemmas.{padded, length-head}
use Rattle.dcp_tag.proofs.WriteLemmas.{put-after, put-piece}
use Rattle.dcp_tag.proofs.write.write_item.Goals as goal

pub returns-clause-written : goal.returns-clause-written
returns-clause-written c =
    let into : List ℕ = c.args.into.now in
    let number : List ℕ = c.to_be_bytes.result in
    let four : length c.args.name ≡ 4 = omega arith in
    let width : length number ≡ 4 = ap length c.to_be_bytes.ensures in
    let size : length (c.args.name ++ number) ≡ 8 = omega (arith, length-append c.args.name number, four, width) in
    let head_written = put-after into c.put_at.new.into c.put_at-2.new.into c.args.name number c.args.at (c.args.at + 4) (omega (arith, c.requires.room, four)) (omega (arith, four)) c.put_at.ensures.put c.put_at-2.ensures.put in
    let all_written = put-after into c.put_at-2.new.into c.put_at-3.new.into (c.args.name ++ number) c.args.value.now c.args.at (c.args.at + 8) (omega (arith, c.requires.room, size)) (omega (arith, size)) head_written c.put_at-3.ensures.put in
    let total : c.args.at + length (c.args.name ++ number ++ c.args.value.now) ≡ c.args.at + 8 + length c.args.value.now =
    omega (arith, length-append (c.args.name ++ number) c.args.value.now, size) in
    all_written
    ∙ (ap (λ (n : ℕ). take c.args.at into ++ (c.args.name ++ number ++ c.args.value.now) ++ drop n into) total
    ∙ ap (λ (l : List ℕ). take c.args.at into ++ (c.args.name ++ l ++ c.args.value.now) ++ drop (c.args.at + 8 + length c.args.value.now) into) c.to_be_bytes.ensures)

pub returns-clause-spelling : goal.returns-clause-spelling
returns-clause-spelling c =
    let spelling : List ℕ = head c.args.name c.args.bits ++ c.args.value.now in
    let end : ℕ = c.args.at + 8 + length c.args.value.now in
    let four : length c.args.name ≡ 4 = omega arith in
    let size : c.args.at + length spelling ≡ end = omega (arith, length-append (head c.args.name c.args.bits) c.args.value.now, length-head c.args.name c.args.bits four) in
    let piece = put-piece c.args.into.now c.put_at-3.new.into spelling c.args.at end (omega (arith, c.requires.room, size)) (sym size) (returns-clause-written c) in
    let is = padded c.args.name c.args.bits c.args.value.now four c.ranges.bits.fits c.requires.size in
    let zeros = subst (λ (p : List Bool). IsPadded (item_of c.args.name c.args.bits c.args.value.now) p spelling) c.requires.padding is in
    (_, subst (λ (l : List ℕ). IsPadded (item_of c.args.name c.args.bits c.args.value.now) (replicate (8 * length c.args.value.now - c.args.bits) false) l) (sym piece) zeros)
