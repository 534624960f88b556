use Rattle.std.proofs.Common.{◌≡◌, ◌+◌, ◌*◌, ◌≤◌, ℕ, Some, ap, sym, subst, length, take, arith}
use Rattle.std.proofs.Math.Nat.{mul-add, mul-le-mul_right}
use Rattle.std.specs.Simd.{first_chunks}
use Rattle.dcp_pft.specs.Carrying.{fragment_size}
use Rattle.dcp_sender.specs.Sending.{AreAll}
use Rattle.dcp_sender.proofs.Layouts.{short_chunks, first_fits, longest_is, stand_so, not_more}
use Rattle.dcp_sender.proofs.Taken.{taken}
use Rattle.dcp_sender.proofs.layout.write_all_fragments.Goals as goal

first : (c : goal.After-datagram_len) → c.datagram_len.result ≡ fragment_size c.args.shape.now (length c.args.packet.now) 0
first c = longest_is c.args.shape.now (length c.args.packet.now) c.datagram_len.result c.requires.shaped c.datagram_len.ensures.size

pub returns-clause-datagrams : goal.returns-clause-datagrams
returns-clause-datagrams c =
    let shape = c.args.shape.now in
    let limits = taken c.all_taken.ensures (length c.args.packet.now) shape c.requires.shaped in
    let w = c.write_fragments in
    subst (λ (n : ℕ). AreAll (Some shape) c.args.seq c.args.packet.now (first_chunks n shape.count (take w.result w.new.into))) (sym (first c))
    (stand_so shape c.args.packet.now w.new.into w.result c.requires.shaped limits.some w.ensures.end c.args.seq w.ensures.fragments)

pub returns-clause-in_range : goal.returns-clause-in_range
returns-clause-in_range c n most =
    short_chunks c.datagram_len.result n c.args.shape.now.count (take c.write_fragments.result c.write_fragments.new.into)
    (omega (arith, most, first c, (first_fits c.args.shape.now (length c.args.packet.now) c.requires.shaped).0))

pub returns-clause-layout : goal.returns-clause-layout
returns-clause-layout c =
    let shape = c.args.shape.now in
    let len : ℕ = length c.args.packet.now in
    let limits = taken c.all_taken.ensures len shape c.requires.shaped in
    let w = c.write_fragments in
    let more = not_more shape c.args.packet.now w.new.into w.result c.requires.shaped limits.some w.ensures.end in
    let most : fragment_size shape len 0 * shape.count ≤ (shape.piece + 16) * shape.count = mul-le-mul_right shape.count (first_fits shape len c.requires.shaped).1 in
    let same : shape.count * c.datagram_len.result ≡ shape.count * fragment_size shape len 0 = ap (λ (k : ℕ). shape.count * k) (first c) in
    record {
      within = omega (arith, more, most, mul-add shape.count shape.piece 16, limits.bytes, limits.few);
      all = omega (arith, more, same);
      few = limits.few;
      small = omega (arith, first c, (first_fits shape len c.requires.shaped).0);
    }
