use Rattle.std.proofs.Common.{subst, ℕ, List, ◌++◌, ◌-◌, length, replicate}
use Rattle.rs_erase.specs.Register.{IsRemainder}
use Rattle.rs_erase.specs.Rows.{listed}
use Rattle.rs_erase.proofs.ShiftRegister.{leading_zero}
use Rattle.rs_erase.proofs.parity.remainder_of.Goals as goal

pub returns : goal.returns
returns c =
    leading_zero (c.args.chunk.now ++ replicate (207 - length c.args.chunk.now) 0) (listed c.remainder.result)
    (subst (λ (m : List ℕ). IsRemainder m (listed c.remainder.result)) c.filled-message.ensures c.remainder.ensures)
