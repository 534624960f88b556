use Rattle.std.proofs.Common.{◌≡◌, ◌-◌, ◌*◌, ℕ, subst, arith}
use Rattle.rs_erase.specs.Register.{AreMultiples}
use Rattle.rs_erase.specs.declared.multiples_51.TheConstants.{MULTIPLES_51}
use Rattle.rs_erase.specs.declared.multiples_55.TheConstants.{MULTIPLES_55}
use Rattle.rs_erase.specs.declared.multiples_59.TheConstants.{MULTIPLES_59}
use Rattle.rs_erase.specs.declared.multiples_63.TheConstants.{MULTIPLES_63}
use Rattle.rs_erase.proofs.MultipleTables.{multiples_51, multiples_55, multiples_59, multiples_63}
use Rattle.rs_erase.proofs.parity.multiples_of.Goals as goal

pub returns-in-0 : goal.returns-in-0
returns-in-0 c = subst (λ (p : ℕ). AreMultiples p MULTIPLES_63.bytes) (let e : 63 ≡ 63 - 4 * c.args.four = omega arith in e) multiples_63

pub returns-in-1 : goal.returns-in-1
returns-in-1 c = subst (λ (p : ℕ). AreMultiples p MULTIPLES_59.bytes) (let e : 59 ≡ 63 - 4 * c.args.four = omega arith in e) multiples_59

pub returns-in-2 : goal.returns-in-2
returns-in-2 c = subst (λ (p : ℕ). AreMultiples p MULTIPLES_55.bytes) (let e : 55 ≡ 63 - 4 * c.args.four = omega arith in e) multiples_55

pub returns-in_default : goal.returns-in_default
returns-in_default c = subst (λ (p : ℕ). AreMultiples p MULTIPLES_51.bytes) (let e : 51 ≡ 63 - 4 * c.args.four = omega arith in e) multiples_51
