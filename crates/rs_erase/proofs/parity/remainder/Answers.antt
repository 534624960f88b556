use Rattle.std.proofs.Common.{arith, subst, sym, ℕ, List, ◌≡◌, ◌*◌, ◌++◌, ◌∙◌, ap, take, []}
use Rattle.std.proofs.lemmas.List.{take_all}
use Rattle.rs_erase.specs.Register.{IsRemainder}
use Rattle.rs_erase.specs.Rows.{listed}
use Rattle.rs_erase.proofs.ShiftRegister.{next_symbols, nothing_taken}
use Rattle.rs_erase.proofs.parity.remainder.Goals as goal

pub loop-i-init : goal.loop-i-init
loop-i-init c = subst (λ (r : List ℕ). IsRemainder [] r) (sym c.zeros-register.ensures) nothing_taken

pub loop-i-preserved : goal.loop-i-preserved
loop-i-preserved c =
    let r = listed c.take_in-register.result in
    let taken = take (16 * c.loop-i.i) c.args.message.now in
    subst (λ (m : List ℕ). IsRemainder m r) (next_symbols c.loop-i.i c.args.message.now)
    (subst (λ (s : List ℕ). IsRemainder (taken ++ s) r) c.lanes_from.ensures (c.take_in-register.ensures taken c.loop-i.invariant))

pub returns : goal.returns
returns c =
    let end : c.loop-i.i ≡ 13 = omega arith in
    subst (λ (m : List ℕ). IsRemainder m (listed c.loop-i.register))
    (ap (λ (k : ℕ). take (16 * k) c.args.message.now) end ∙ take_all 208 c.args.message.now (omega arith)) c.loop-i.invariant
