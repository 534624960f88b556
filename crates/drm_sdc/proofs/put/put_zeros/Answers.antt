use Rattle.std.proofs.Common.{◌≡◌, List, Bool, ℕ, replicate, arith, subst}
use Rattle.drm_bits.specs.Bits.{bits_of}
use Rattle.drm_bits.specs.Sink.{WroteBits}
use Rattle.drm_bits.proofs.WroteLemmas.{wrote_none, then}
use Rattle.drm_sdc.proofs.Written.{zeros_more}
use Rattle.drm_sdc.proofs.put.put_zeros.Goals as goal

pub loop-init : goal.loop-init
loop-init c = record { wrote = wrote_none c.args.sink.now; left = omega arith }

pub loop-preserved : goal.loop-preserved
loop-preserved c =
    record {
      wrote = subst (λ (l : List Bool). WroteBits l c.args.sink.now c.put_u8.new.self) (zeros_more c.loop.counter) (then c.loop.invariant.wrote c.put_u8.ensures.wrote);
      left = omega (arith, c.loop.invariant.left, c.put_u8.ensures.remaining);
    }

pub returns-clause-wrote : goal.returns-clause-wrote
returns-clause-wrote c =
    let all : c.loop.counter ≡ c.args.count = omega (arith, c.loop.auto.counter-end, c.loop-test.false) in
    subst (λ (n : ℕ). WroteBits (bits_of (replicate n 0)) c.args.sink.now c.loop.sink) all c.loop.invariant.wrote
