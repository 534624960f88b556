-- Some datagram of a frame is needed.
use Rattle.std.proofs.Common.{ℕ, zero, suc, ◌≡◌, ◌+◌, ◌≤◌, inl, inr, Bool, true, false, cond, refl, sym, ap, ◌∙◌, arith}
use Rattle.std.proofs.lemmas.Bool.{cases_lt}
use Rattle.dcp_pft.specs.Cutting.{shape_of}
use Rattle.dcp_pft.specs.Loss.{size, is_recoverable}
use Rattle.dcp_pft.specs.Limits.{most_packet}
use Rattle.dcp_pft.proofs.Carried.{is_shape}
use Rattle.dcp_pft.proofs.Payloads.{shape_is_taken}
use Rattle.dcp_pft.specs.declared.carry.Carry.{Carry}
use Rattle.dcp_pft.specs.declared.carry.Carry.TheVariants.{Plain, Pft}
use Rattle.dcp_pft.specs.Carrying.{CarryFits, shape_under, losses}
use Rattle.law_collect.proofs.Heads.{none_all, cut_needed}
use Rattle.drm_schedule.specs.declared.plan.Plan.{Plan}
use Rattle.drm_schedule.specs.Valid.{IsSchedule}
use Rattle.drm_timeline.specs.Numbers.{packet_size}
use Rattle.law_delivery.specs.Sent.{shape_at}
use Rattle.law_delivery.proofs.Configurations.{size_fits}
use Rattle.law_delivery.proofs.InTime.{enough_got}

whole_needed : (len : ℕ) → is_recoverable (shape_under Plain len) (λ i. false) ≡ false
unfolding is_recoverable
whole_needed len = none_all 1 (omega arith)

pub needed_of : (carry : Carry) (len : ℕ) → CarryFits carry → 1 ≤ len → len ≤ most_packet carry → is_recoverable (shape_under carry len) (λ i. false) ≡ false
needed_of Plain len fits some small = whole_needed len
needed_of (Pft m mtu) len fits some small =
    let is = is_shape m mtu len fits some small in
    cut_needed len (shape_of len m mtu) is (shape_is_taken len (shape_of len m mtu) is).some

-- nothing is not enough
pub some_needed : (plan : Plan) (t : ℕ) → IsSchedule plan → is_recoverable (shape_at plan t) (λ i. false) ≡ false
some_needed plan t is =
    let fits = size_fits plan is t in
    needed_of plan.carry (packet_size plan t) is.in_lines.carry_fits fits.0 fits.1

-- a set that has some index below n has this one
pub some_index : (n : ℕ) (kept : ℕ → Bool) → 1 ≤ size n kept → (i : ℕ) × (kept i ≡ true)
unfolding size
some_index zero kept some = absurd (omega (arith, some))
some_index (suc n) kept some = by (λ enough. some_index n kept enough) (kept n) refl
  where
    by : (1 ≤ size n kept → (i : ℕ) × (kept i ≡ true)) → (b : Bool) → kept n ≡ b → (i : ℕ) × (kept i ≡ true)
    by rest true is = (n, is)
    by rest false is =
        let none : ◌≡◌ {A = ℕ} (cond (kept n) 1 0) 0 = ap (λ (b : Bool). cond b 1 0) is in
        rest (omega (arith, some, none))

pub size_none : (n : ℕ) → size n (λ i. false) ≡ 0
unfolding size
size_none zero = refl
size_none (suc n) = omega (arith, size_none n)

-- where enough of a frame is got, something is
pub some_got : (plan : Plan) (t : ℕ) (kept : ℕ → Bool) → IsSchedule plan → (shape_at plan t).count ≤ size (shape_at plan t).count kept + losses plan.carry
    → (i : ℕ) × (kept i ≡ true)
some_got plan t kept is enough =
    let count : ℕ = (shape_at plan t).count in
    elim (cases_lt 0 (size count kept)) [
      | inl some ↦ some_index count kept (omega (arith, some))
      | inr none ↦
          let all_lost : count ≤ size count (λ i. false) + losses plan.carry = omega (arith, none, enough, size_none count) in
          absurd (let e : true ≡ false = sym (enough_got plan t (λ i. false) is all_lost) ∙ some_needed plan t is in cc)
    ]
