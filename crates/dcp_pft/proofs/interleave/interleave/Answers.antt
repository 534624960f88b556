use Rattle.std.proofs.Common.{◌≡◌, ◌+◌, ◌-◌, ◌*◌, ◌^◌, ◌≤◌, ◌++◌, ℕ, List, length, take, drop, replicate, sym, ◌∙◌, ap, ap₂, arith, length-take}
use Rattle.std.proofs.Math.Nat.{mul-le-mul}
use Rattle.dcp_pft.specs.Coding.{coded, every}
use Rattle.dcp_pft.specs.Interleaving.{payload_with}
use Rattle.dcp_pft.proofs.Coming.{next_chunk, nothing_comes}
use Rattle.dcp_pft.proofs.interleave.interleave.Goals as goal

pub loop-i-init : goal.loop-i-init
loop-i-init c = record {
  within = omega arith;
  small = omega arith;
  all = λ n z whole long.
      let packet : List ℕ = c.args.packet.now ++ replicate z 0 in
      ap (λ (m : ℕ). every c.args.count c.args.first m (coded (n - 0) c.from-k.result (drop (0 * c.from-k.result) packet) c.args.parity.now))
      (let e : length c.args.into.now - 0 ≡ length c.args.into.now = omega arith in e)
      ∙ ap₂ (λ (m at : ℕ). every c.args.count c.args.first (length c.args.into.now) (coded m c.from-k.result (drop at packet) c.args.parity.now))
      (let e : n - 0 ≡ n = omega arith in e) (let e : 0 * c.from-k.result ≡ 0 = omega arith in e);
}

pub overflow_mul-i : goal.overflow_mul-i
overflow_mul-i c =
    let few_chunks : c.loop-i.i ≤ 2 ^ 32 = omega (arith, c.loop-i-test.true, c.requires) in
    let small : c.from-k.result ≤ 255 = omega (arith, c.from-k.ensures, c.ranges.k) in
    let product : c.loop-i.i * c.from-k.result ≤ 2 ^ 32 * 255 = mul-le-mul few_chunks small in
    record { fits = omega (arith, product) }

pub part-chunk-requires : goal.part-chunk-requires
part-chunk-requires c =
    let few_chunks : c.loop-i.i ≤ 2 ^ 32 = omega (arith, c.loop-i-test.true, c.requires) in
    let small : c.from-k.result ≤ 255 = omega (arith, c.from-k.ensures, c.ranges.k) in
    let product : c.loop-i.i * c.from-k.result ≤ 2 ^ 32 * 255 = mul-le-mul few_chunks small in
    omega (arith, product, small)

pub take_chunk-next-requires-clause-within_limit : goal.take_chunk-next-requires-clause-within_limit
take_chunk-next-requires-clause-within_limit c = omega (arith, ap length c.part-chunk_parity.ensures, length-take 48 (drop (c.loop-i.i * 48) c.args.parity.now))

pub loop-i-preserved : goal.loop-i-preserved
loop-i-preserved c = record {
  within = c.take_chunk-next.ensures.within;
  small = c.take_chunk-next.ensures.in_range;
  all = λ n z whole long.
      let i : ℕ = c.loop-i.i in
      let k : ℕ = c.from-k.result in
      let packet : List ℕ = c.args.packet.now in
      let parity : List ℕ = c.args.parity.now in
      let rest : List ℕ = coded (n - (i + 1)) k (drop ((i + 1) * k) (packet ++ replicate z 0)) (drop ((i + 1) * 48) parity) in
      c.take_chunk-next.ensures.written rest
      ∙ (ap₂ (λ (p q : List ℕ). payload_with c.args.count c.loop-i.next c.loop-i.into (p ++ replicate (k - length p) 0 ++ q ++ rest)) c.part-chunk.ensures c.part-chunk_parity.ensures
      ∙ (ap (payload_with c.args.count c.loop-i.next c.loop-i.into) (sym (next_chunk n k z i packet parity whole (omega (arith, long, c.loop-i-test.true))))
      ∙ c.loop-i.invariant.all n z whole long));
}

pub returns-clause-every : goal.returns-clause-every
returns-clause-every c = λ n z whole long.
    let i : ℕ = c.loop-i.i in
    let k : ℕ = c.from-k.result in
    let into : List ℕ = c.loop-i.into in
    let written : ℕ = c.loop-i.next.written in
    let skip : ℕ = c.loop-i.next.skip in
    let whole_in : n * k ≡ length c.args.packet.now + z = ap (λ (m : ℕ). n * m) c.from-k.ensures ∙ whole in
    let none : n - i ≡ 0 = omega (arith, long, c.loop-i-test.false) in
    let chunks : List ℕ = drop (i * k) (c.args.packet.now ++ replicate z 0) in
    c.fill_rest.ensures
    ∙ (ap (λ (l : List ℕ). take written into ++ l) (sym (nothing_comes c.args.count (length into - written) skip))
    ∙ (ap (λ (m : ℕ). payload_with c.args.count c.loop-i.next into (coded m k chunks (drop (i * 48) c.args.parity.now))) (sym none)
    ∙ (c.loop-i.invariant.all n z whole_in long
    ∙ ap (λ (m : ℕ). every c.args.count c.args.first (length c.args.into.now) (coded n m (c.args.packet.now ++ replicate z 0) c.args.parity.now)) c.from-k.ensures)))
