use Rattle.std.proofs.Common.{◌≡◌, ℕ, suc, ◌+◌, ◌-◌, ◌/◌, ◌^◌, ◌<◌, List, Bool, length, drop, refl, sym, ◌∙◌, ap, arith}
use Rattle.drm_bits.specs.Bits.{bits_of}
use Rattle.drm_bits.specs.Sink.{written, unwritten}
use Rattle.drm_bits.proofs.BitsLemmas.{length-bits_of}
use Rattle.drm_bits.proofs.BitWrites.{put-step, rest-step, digits-none}
use Rattle.drm_bits.proofs.SinkLemmas.{length-unwritten}
use Rattle.drm_bits.proofs.bit_sink.BitSink.put.Goals as goal

pub returns-then-left-n-clause-enough : goal.returns-then-left-n-clause-enough
returns-then-left-n-clause-enough c = λ enough. absurd (omega (arith, length-unwritten c.args.self.now))

pub returns-then-left-n-clause-refused : goal.returns-then-left-n-clause-refused
returns-then-left-n-clause-refused c = λ short. rw (length-unwritten c.args.self.now) refl

pub loop-place-init : goal.loop-place-init
loop-place-init c =
    let none : c.args.n - c.args.n ≡ 0 = omega arith in
    record {
      at = refl;
      size = refl;
      written = digits-none (written c.args.self.now) c.args.n (c.args.value / 2 ^ c.args.n);
      unwritten = ap (λ k. drop k (unwritten c.args.self.now)) (sym none);
      same_reference = refl;
    }

pub loop-place-preserved : goal.loop-place-preserved
loop-place-preserved c =
    let bits : List Bool = bits_of c.loop-place.self.bytes.now in
    let fewer : ℕ = c.loop-place.place - 1 in
    let done : ℕ = c.args.n - c.loop-place.place in
    let more : c.args.n - fewer ≡ suc done = omega (arith, c.loop-place.auto.place, c.loop-place-test.true) in
    let left : c.loop-place.place ≡ fewer + 1 = omega (arith, c.loop-place-test.true) in
    let inside : c.loop-place.self.at < length bits = omega (arith, c.loop-place.invariant.at, c.loop-place.invariant.size, length-bits_of c.loop-place.self.bytes.now) in
    record {
      at = omega (arith, c.loop-place.invariant.at);
      size = c.set_bit.auto.bytes ∙ c.loop-place.invariant.size;
      written = put-step bits (bits_of c.set_bit.new.bytes) (written c.args.self.now) c.loop-place.self.at done (c.args.n - fewer) c.args.value c.loop-place.place fewer inside left more c.set_bit.ensures.bits c.loop-place.invariant.written;
      unwritten = rest-step bits (bits_of c.set_bit.new.bytes) (unwritten c.args.self.now) _ c.loop-place.self.at done (c.args.n - fewer) more c.set_bit.ensures.bits c.loop-place.invariant.unwritten;
      same_reference = c.loop-place.invariant.same_reference;
    }

pub returns-clause-refused : goal.returns-clause-refused
returns-clause-refused c = λ short. absurd (omega (arith, length-unwritten c.args.self.now))

pub invariant_of-self : goal.invariant_of-self
invariant_of-self c =
    record {
      within = omega (arith, c.loop-place.invariant.at, c.loop-place.invariant.size, c.set_bit.auto.bytes);
      fits = omega (arith, c.set_bit.auto.bytes, c.loop-place.self.fits);
      octets = c.set_bit.ensures.octets;
    }
