use Rattle.std.proofs.Common.{◌≡◌, List, Bool, take, ◌∙◌, ap, arith, subst}
use Rattle.std.proofs.lemmas.List.{take_all}
use Rattle.drm_bits.specs.Bits.{digits, bits_of}
use Rattle.drm_bits.specs.Sink.{WroteBits}
use Rattle.drm_bits.proofs.WroteLemmas.{each, wrote_none, wrote_more}
use Rattle.drm_sdc.proofs.Written.{bytes_each}
use Rattle.drm_sdc.proofs.put.put_bytes.Goals as goal

pub loop-byte-init : goal.loop-byte-init
loop-byte-init c = record { wrote = wrote_none c.args.sink.now; left = omega arith }

pub loop-byte-preserved : goal.loop-byte-preserved
loop-byte-preserved c =
    record {
      wrote = wrote_more (digits 8) c.args.bytes.now c.loop-byte.byte-index 0 c.loop-byte-test.true c.loop-byte.invariant.wrote c.put_u8.ensures.wrote;
      left = omega (arith, c.loop-byte.invariant.left, c.put_u8.ensures.remaining);
    }

pub returns-clause-wrote : goal.returns-clause-wrote
returns-clause-wrote c =
    let all : each (digits 8) (take c.loop-byte.byte-index c.args.bytes.now) ≡ bits_of c.args.bytes.now =
    ap (each (digits 8)) (take_all c.loop-byte.byte-index c.args.bytes.now c.loop-byte-test.false) ∙ bytes_each c.args.bytes.now in
    subst (λ (l : List Bool). WroteBits l c.args.sink.now c.loop-byte.sink) all c.loop-byte.invariant.wrote
