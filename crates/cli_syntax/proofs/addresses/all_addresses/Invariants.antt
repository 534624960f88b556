use Rattle.std.proofs.Common.{◌≡◌, ◌++◌, map, drop}
use Rattle.std.specs.Prelude.{option_map}
use Rattle.cli_syntax.specs.Addressing.{all_addresses}
use Rattle.cli_syntax.proofs.addresses.all_addresses.Given as goal

abbrev pub invariant-loop-part : goal.invariant-loop-part
invariant-loop-part l =
    all_addresses (map (λ part. part.now) l.parts)
    ≡ option_map (λ others. l.list ++ others) (all_addresses (map (λ part. part.now) (drop l.part-index l.parts)))
