use Rattle.std.proofs.Common.{◌≡◌, ◌+◌, ◌-◌, ◌*◌, ◌<◌, ◌^◌, ◌++◌, length, take, drop, replicate}
use Rattle.std.specs.List.{All}
use Rattle.drm_bits.specs.Description.{parts_from}
use Rattle.drm_bits.specs.declared.description.Part.{Part}
use Rattle.drm_bits.proofs.description.MuxDesc.read.Given as goal

-- the parts before this one are read, and the others are 0
abbrev pub invariant-loop-k : goal.invariant-loop-k
invariant-loop-k l =
    record {
      size : length l.parts ≡ 4;
      parts : take l.k l.parts ++ parts_from (l.k-end - l.k) l.bits ≡ parts_from l.k-end l.initial.bits;
      rest : drop l.k l.parts ≡ replicate (4 - l.k) (record { a = 0; b = 0 });
      left : length l.bits + 24 * l.k ≡ length l.initial.bits;
      fits : All (λ (p : Part). (p.a < 2 ^ 12) × (p.b < 2 ^ 12)) l.parts;
    }
