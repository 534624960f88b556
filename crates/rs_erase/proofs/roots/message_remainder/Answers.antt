use Rattle.std.proofs.Common.{refl, subst, List, ℕ}
use Rattle.rs_erase.specs.Register.{IsRemainder}
use Rattle.rs_erase.specs.Rows.{listed}
use Rattle.rs_erase.proofs.FirstRemainders.{few_remainder, whole_message}
use Rattle.rs_erase.proofs.roots.message_remainder.Goals as goal

pub returns-then-has_few : goal.returns-then-has_few
returns-then-has_few c =
    few_remainder c.args.word.now (listed c.first_remainder.result) (c.if-has_few.ensures refl) c.first_remainder.ensures

pub returns : goal.returns
returns c =
    subst (λ (m : List ℕ). IsRemainder m (listed c.remainder_of.result)) (whole_message c.args.word.now c.told-word) c.remainder_of.ensures
