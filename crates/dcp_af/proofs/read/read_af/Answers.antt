use Rattle.std.proofs.Common.{◌≡◌, ◌+◌, ◌-◌, ◌≤◌, take, drop, true, false, sym, subst, ◌∙◌, length, arith}
use Rattle.std.proofs.lemmas.Result.{err_from_is_err_and}
use Rattle.drm_bits.specs.Crc.{IsCheckOf}
use Rattle.dcp_af.specs.Packet.{AfPacket, IsAf}
use Rattle.dcp_af.specs.Faults.{is_checked, checked_bytes, check_value}
use Rattle.dcp_af.proofs.Spellings.{packet_at}
use Rattle.dcp_af.proofs.Answered.{fault_only, fault_is, payload_is, given_is, found_at, no_fault, is_packet_at, compared, right_at}
use Rattle.dcp_af.proofs.read.read_af.Goals as goal
use Rattle.dcp_af.proofs.read.read_af.Goals.{then-head+in_ok-compare, else-head}

pub returns-in_err-head-clause-only : goal.returns-in_err-head-clause-only
returns-in_err-head-clause-only c =
    let p = err_from_is_err_and c.from_residual.result c.from_residual.ensures.1 in
    fault_only c.from_residual.result p.0 c.in_err-head.field-0.0 c.args.packet.now p.1 p.2 c.in_err-head.ensures.fault

pub returns-in_err-head-clause-faults : goal.returns-in_err-head-clause-faults
returns-in_err-head-clause-faults c =
    let p = err_from_is_err_and c.from_residual.result c.from_residual.ensures.1 in
    fault_is c.from_residual.result p.0 c.in_err-head.field-0.0 c.args.packet.now p.1 p.2 c.in_err-head.ensures.fault

pub returns-in_err-compare-clause-only : goal.returns-in_err-compare-clause-only
returns-in_err-compare-clause-only c =
    let p = err_from_is_err_and c.from_residual-in_err-compare.result c.from_residual-in_err-compare.ensures.1 in
    let counts : is_checked c.args.packet.now ≡ true = sym c.in_ok-head.ensures.head.checked ∙ c.if-head.true in
    let fault = compared c.in_err-compare.field-0.0 c.args.packet.now c.split_at.result.0.now c.split_at.result.1.now c.in_ok-head.ensures.whole counts c.split_at.ensures.front c.split_at.ensures.back c.in_err-compare.ensures in
    fault_only c.from_residual-in_err-compare.result p.0 c.in_err-compare.field-0.0 c.args.packet.now p.1 p.2 fault

pub returns-in_err-compare-clause-faults : goal.returns-in_err-compare-clause-faults
returns-in_err-compare-clause-faults c =
    let p = err_from_is_err_and c.from_residual-in_err-compare.result c.from_residual-in_err-compare.ensures.1 in
    let counts : is_checked c.args.packet.now ≡ true = sym c.in_ok-head.ensures.head.checked ∙ c.if-head.true in
    let fault = compared c.in_err-compare.field-0.0 c.args.packet.now c.split_at.result.0.now c.split_at.result.1.now c.in_ok-head.ensures.whole counts c.split_at.ensures.front c.split_at.ensures.back c.in_err-compare.ensures in
    fault_is c.from_residual-in_err-compare.result p.0 c.in_err-compare.field-0.0 c.args.packet.now p.1 p.2 fault

-- the check value is right where it counts
right : (c : goal.After-result-1) → is_checked c.args.packet.now ≡ true → IsCheckOf (checked_bytes c.args.packet.now) (check_value c.args.packet.now)
right c = λ counts.
    elim c.if-head.branch [
      | then-head+in_ok-compare w ↦ right_at c.args.packet.now c.split_at.result.0.now c.split_at.result.1.now c.split_at.ensures.front c.split_at.ensures.back w.in_ok-compare.ensures
      | else-head w ↦ let clash : true ≡ false = sym counts ∙ (sym c.in_ok-head.ensures.head.checked ∙ w.if-head.false) in absurd cc
    ]

-- the packet that is given stands at its places
given : (c : goal.After-result-1)
    → record { seq = c.in_ok-head.head.seq; checked = c.in_ok-head.head.checked; minor = c.in_ok-head.head.minor; payload = take (length c.split_at.result.0.now - 10) (drop 10 c.split_at.result.0.now) }
    ≡ packet_at c.args.packet.now
given c =
    let head = c.in_ok-head.ensures.head in
    let enough : 12 ≤ length c.args.packet.now = c.in_ok-head.ensures.whole.0.0.0.1 in
    let size : length c.split_at.result.0.now + 2 ≡ length c.args.packet.now = omega (arith, c.split_at.ensures.back_len, c.split_at.ensures.front_len, enough) in
    given_is c.args.packet.now c.in_ok-head.head.seq c.in_ok-head.head.checked c.in_ok-head.head.minor _ head.seq head.checked head.minor
    (payload_is c.args.packet.now c.split_at.result.0.now enough c.split_at.ensures.front size)

found : (c : goal.After-result-1) → IsAf (packet_at c.args.packet.now) c.args.packet.now
found c = found_at c.args.packet.now (λ i. omega (arith, c.type_inv.packet i)) c.in_ok-head.ensures.whole (right c)

pub returns-clause-found : goal.returns-clause-found
returns-clause-found c = subst (λ (p : AfPacket). IsAf p c.args.packet.now) (sym (given c)) (found c)

pub returns-clause-only : goal.returns-clause-only
returns-clause-only c = λ p af. given c ∙ is_packet_at p c.args.packet.now af

pub returns-clause-faults : goal.returns-clause-faults
returns-clause-faults c = λ f h. absurd (no_fault (packet_at c.args.packet.now) f c.args.packet.now (found c) h)
