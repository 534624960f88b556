-- A bit sink: the bits that were written, and those behind them, as they were.
use Rattle.std.specs.Prelude.{◌≡◌, ◌++◌, List, Bool, length, take, drop}
use Rattle.std.specs.Borrow.{GName}
use Rattle.drm_bits.specs.declared.bit_sink.BitSink.{BitSink}
use Rattle.drm_bits.specs.Bits.{bits_of}

-- the bits that were written
abbrev pub written : BitSink → List Bool
written s = take s.at (bits_of s.bytes.now)

-- the bits that weren't
abbrev pub unwritten : BitSink → List Bool
unwritten s = drop s.at (bits_of s.bytes.now)

-- the reference that the sink was made of
abbrev pub lender : BitSink → GName
lender s = s.bytes.ghost_name

-- These bits, behind those that were written; what stands behind them stays.
pub record WroteBits (bits : List Bool) (old new : BitSink) : Type 0 where
  pub more : written new ≡ written old ++ bits
  pub behind : unwritten new ≡ drop (length bits) (unwritten old)
  pub same_reference : lender new ≡ lender old
