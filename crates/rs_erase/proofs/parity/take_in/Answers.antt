use Rattle.std.proofs.Common.{arith, refl, rules, subst, ℕ, List, ◌≡◌, ◌+◌, ◌*◌, ◌++◌, bit_xor, replicate}
use lib.Lanes.{zip2}
use Rattle.rs_erase.specs.Register.{HasTaken}
use Rattle.rs_erase.specs.Rows.{listed}
use Rattle.rs_erase.proofs.LaneRows.{length_three}
use Rattle.rs_erase.proofs.ShiftRegister.{all_taken, none_taken}
use Rattle.rs_erase.proofs.parity.take_in.Goals as goal

pub loop-four-init : goal.loop-four-init
loop-four-init c =
    none_taken (zip2 bit_xor c.args.register.first c.args.symbols) (c.args.register.second ++ (c.args.register.third ++ replicate 16 0))
    (length_three c.args.register.second c.args.register.third (replicate 16 0) (search rules) (search rules) refl)

pub loop-four-preserved : goal.loop-four-preserved
loop-four-preserved c =
    let leaving : List ℕ = zip2 bit_xor c.args.register.first c.args.symbols in
    let moved : List ℕ = c.args.register.second ++ (c.args.register.third ++ replicate 16 0) in
    let e : 4 * c.loop-four.four + 4 ≡ 4 * (c.loop-four.four + 1) = omega arith in
    subst (λ (k : ℕ). HasTaken leaving moved (listed c.with_four_multiples-next.result) k) e
    (c.with_four_multiples-next.ensures moved c.loop-four.invariant)

pub returns : goal.returns
returns c =
    let end : 4 * c.loop-four.four ≡ 16 = omega arith in
    all_taken c.args.register.first c.args.register.second c.args.register.third c.args.symbols (listed c.loop-four.next)
    (search rules) (search rules) (search rules) c.fits-symbols.0
    (subst (λ (k : ℕ). HasTaken (zip2 bit_xor c.args.register.first c.args.symbols) (c.args.register.second ++ (c.args.register.third ++ replicate 16 0)) (listed c.loop-four.next) k) end c.loop-four.invariant)
