use Rattle.std.proofs.Common.{◌≡◌, ◌++◌, ◌+◌, ◌-◌, ◌/◌, ◌^◌, length, drop}
use Rattle.drm_bits.specs.Bits.{digits}
use Rattle.drm_bits.specs.Sink.{written, unwritten, lender}
use Rattle.drm_bits.proofs.bit_sink.BitSink.put.Given as goal

-- all digits of the number but the last `place` are written
abbrev pub invariant-loop-place : goal.invariant-loop-place
invariant-loop-place l =
    record {
      at : l.self.at + l.place ≡ l.fn.self.at + l.n;
      size : length l.self.bytes.now ≡ length l.fn.self.bytes.now;
      written : written l.self ≡ written l.fn.self ++ digits (l.n - l.place) (l.value / 2 ^ l.place);
      unwritten : unwritten l.self ≡ drop (l.n - l.place) (unwritten l.fn.self);
      same_reference : lender l.self ≡ lender l.fn.self;
    }
