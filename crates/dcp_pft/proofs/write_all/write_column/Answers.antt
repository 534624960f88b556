use Rattle.std.proofs.Common.{ℕ, ◌≡◌, ◌+◌, ◌-◌, ◌*◌, ◌%◌, ◌∙◌, List, length, take, drop, sym, subst, ap, arith, length-drop}
use borrow.Rule.Slice.PartMut.{put_mid}
use Rattle.dcp_pft.specs.Coding.{every}
use Rattle.dcp_pft.specs.Head.{SpellsHead}
use Rattle.dcp_pft.specs.Turning.{with_payload, laid_fragment}
use Rattle.dcp_pft.proofs.AllWritten.{column_is}
use Rattle.dcp_pft.proofs.FragmentPlaces.{written_at}
use Rattle.dcp_pft.proofs.write_all.write_column.Goals as goal

pub returns-clause-fragment : goal.returns-clause-fragment
returns-clause-fragment c = λ coded holds.
    let shape = c.args.shape.now in
    let i : ℕ = c.args.i in
    let piece : ℕ = c.from-piece.result in
    let from : ℕ = i % 16 * (piece + piece % 2) in
    let columns : List ℕ = c.args.columns.now in
    let new : List ℕ = c.write_payload.new.into in
    let size : from + piece - from ≡ piece = omega arith in
    let payload : take (from + piece - from) (drop from columns) ≡ every shape.count i shape.piece coded =
    ap (λ (n : ℕ). take n (drop from columns)) size
    ∙ (ap (λ (n : ℕ). take n (drop (i % 16 * (n + n % 2)) columns)) c.from-piece.ensures
    ∙ column_is shape.count i shape.piece (shape.piece + shape.piece % 2) coded columns (omega arith) (omega (arith, c.requires)) holds) in
    let bytes : take c.write_payload.result new ≡ take (16 + shape.piece) (drop c.args.at (put_mid c.args.at (length c.args.into.now - c.args.at) c.args.into.now new)) =
    ap (λ (n : ℕ). take n new) c.write_payload.ensures.size
    ∙ sym (written_at c.args.at _ (16 + shape.piece) c.args.into.now new (omega (arith, c.requires.room)) (omega (arith, c.requires.room, c.write_payload.auto.into, length-drop c.args.at c.args.into.now))) in
    subst (SpellsHead (laid_fragment shape c.args.rs c.args.seq coded i)) bytes
    (subst (λ (l : List ℕ). SpellsHead (with_payload shape c.args.rs c.args.seq i l) (take c.write_payload.result new)) payload c.write_payload.ensures.fragment.spells)
