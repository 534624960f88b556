use Rattle.std.proofs.Common.{◌≡◌, ◌+◌, ◌*◌, ◌-◌, ◌++◌, length}
use Rattle.drm_sdc.specs.Reading.{channels_from}
use Rattle.drm_sdc.proofs.frequencies.read_channels.Given as goal

-- what is read, and what the rest of the bits gives
abbrev pub invariant-loop : goal.invariant-loop
invariant-loop l =
    record {
      list : l.list ++ channels_from (l.count - l.counter) l.bits ≡ channels_from l.count l.fn.bits;
      left : length l.bits + 16 * l.counter ≡ length l.fn.bits;
    }
