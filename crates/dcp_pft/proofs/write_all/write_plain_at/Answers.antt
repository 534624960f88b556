use Rattle.std.proofs.Common.{ℕ, List, length, take, sym, subst, ap, ◌∙◌, arith, length-drop}
use Rattle.dcp_pft.specs.Carrying.{fragment_size}
use Rattle.dcp_pft.specs.Head.{SpellsHead, fragment_of}
use Rattle.dcp_pft.proofs.FragmentPlaces.{written_at, plain_most}
use Rattle.dcp_pft.proofs.write_all.write_plain_at.Goals as goal

pub returns-clause-fragment : goal.returns-clause-fragment
returns-clause-fragment c = λ parity.
    let size : ℕ = fragment_size c.args.shape.now (length c.args.packet.now) c.args.index in
    let most = plain_most c.args.shape.now (length c.args.packet.now) c.args.index c.requires.code in
    let new : List ℕ = c.write_plain.new.into in
    subst (SpellsHead (fragment_of c.args.shape.now c.args.seq c.args.packet.now parity c.args.index))
    (ap (λ (n : ℕ). take n new) c.write_plain.ensures.size
    ∙ sym (written_at c.args.at _ size c.args.into.now new (omega (arith, c.requires.room)) (omega (arith, most, c.requires.room, c.write_plain.auto.into, length-drop c.args.at c.args.into.now))))
    (c.write_plain.ensures.fragment parity).spells
