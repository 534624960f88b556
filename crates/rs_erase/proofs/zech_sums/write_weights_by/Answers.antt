use Rattle.std.proofs.Common.{ℕ, ◌≡◌, ◌≢◌, ◌+◌, ◌-◌, ◌*◌, ◌∙◌, ◌<◌, ◌≤◌, ap, ap₂, arith, below_more, get_or, get_or-set_other, get_or-set_same, length, slice_set}
use Rattle.gf_field.specs.Field.{times}
use Rattle.rs_erase.specs.Equations.{locators_of}
use Rattle.rs_erase.specs.Prepared.{scale_of}
use Rattle.rs_erase.specs.Zech.{zech_sum}
use Rattle.rs_erase.specs.declared.zech_logarithms.TheConstants.{ZECH_LOGARITHMS}
use Rattle.rs_erase.proofs.ErasedPlaces.{length-locators_of}
use Rattle.rs_erase.proofs.ZechSums.{logarithm_small, weight_is}
use Rattle.rs_erase.proofs.zech_sums.write_weights_by.Goals as goal

pub loop-j-preserved : goal.loop-j-preserved
loop-j-preserved c =
    let es = c.args.places.now in
    let j = c.loop-j.j in
    let ws = c.loop-j.weights in
    let v = c.power.result in
    let one_each = c.requires.one_each in
    let long = c.loop-j.auto.weights in
    let lt : j < length es = omega arith in
    let lw : j < length ws = omega arith in
    let b = get_or es j 0 in
    let lb = c.requires.places.below j lt in
    let place : c.from-place.result ≡ b = c.from-place.ensures in
    let s = get_or c.args.sums.now c.from-place.result 0 in
    let sum : s ≡ zech_sum ZECH_LOGARITHMS b es =
    ap (λ (e : ℕ). get_or c.args.sums.now e 0) place ∙ c.requires.sums b lb in
    let most = c.requires.bounded b lb in
    let said = c.requires.sums b lb in
    let l = length es * (254 - c.from-place.result) + s in
    let is : l ≡ length es * (254 - b) + zech_sum ZECH_LOGARITHMS b es = ap₂ (λ (e m : ℕ). length es * (254 - e) + m) place sum in
    let few = c.requires.enough in
    let small : l ≤ 24480 = logarithm_small (length es) (254 - c.from-place.result) s few (omega arith) (omega (arith, sum, said, most)) in
    let one : times v (scale_of (locators_of es) j) ≡ 1 = weight_is ZECH_LOGARITHMS c.zech_table.ensures es j v l c.requires.places lt is small c.power.ensures in
    below_more (λ k. times (get_or (slice_set ws j v) k 0) (scale_of (locators_of es) k) ≡ 1) j
    (λ k h. let ne : k ≢ j = omega arith in ap (λ z. times z (scale_of (locators_of es) k)) (get_or-set_other ws j k v 0 ne) ∙ c.loop-j.invariant k h)
    (ap (λ z. times z (scale_of (locators_of es) j)) (get_or-set_same ws j v 0 lw) ∙ one)

pub returns : goal.returns
returns c = λ j lt.
    let l = length-locators_of c.args.places.now in
    let one_each = c.requires.one_each in
    c.loop-j.invariant j (omega arith)
