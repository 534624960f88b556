use Rattle.std.proofs.Common.{ℕ, ◌*◌, ◌∙◌, List, length, take, drop, sym, subst, ap₂}
use Rattle.dcp_pft.specs.Head.{SpellsHead, fragment_of}
use Rattle.dcp_pft.proofs.FragmentPlaces.{size_coded, end_coded, end_plain}
use Rattle.dcp_pft.proofs.write_all.write_fragments.Goals as goal

pub returns-in-Some-clause-fragments : goal.returns-in-Some-clause-fragments
returns-in-Some-clause-fragments c = λ i below.
    let shape = c.args.shape.now in
    let len : ℕ = length c.args.packet.now in
    let new : List ℕ = c.write_coded_fragments.new.into in
    record {
      parity = c.args.parity.now;
      is_parity = c.requires.parity;
      spells = subst (SpellsHead (fragment_of shape c.args.seq c.args.packet.now c.args.parity.now i))
          (sym (ap₂ (λ (p q : ℕ). take p (drop (i * q) new)) (size_coded shape c.in-Some.rs len i c.in-Some.is) (size_coded shape c.in-Some.rs len 0 c.in-Some.is)))
          (c.write_coded_fragments.ensures.fragments i below);
    }

pub returns-in-Some-clause-end : goal.returns-in-Some-clause-end
returns-in-Some-clause-end c = c.write_coded_fragments.ensures.end ∙ end_coded c.args.shape.now c.in-Some.rs (length c.args.packet.now) c.requires.shape c.in-Some.is

pub returns-in-None-clause-fragments : goal.returns-in-None-clause-fragments
returns-in-None-clause-fragments c = λ i below.
    record { parity = c.args.parity.now; is_parity = c.requires.parity; spells = c.write_plain_fragments.ensures.fragments c.args.parity.now i below }

pub returns-in-None-clause-end : goal.returns-in-None-clause-end
returns-in-None-clause-end c = c.write_plain_fragments.ensures.end ∙ end_plain c.args.shape.now (length c.args.packet.now) c.requires.shape c.in-None.is
