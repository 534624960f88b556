use Rattle.std.proofs.Common.{◌≡◌, take}
use Rattle.std.specs.Prelude.{string_bytes}
use Rattle.plan_rows.specs.Frequencies.{channels_word}
use Rattle.plan_rows.proofs.write_field.frequencies.Given as goal

abbrev pub invariant-loop-k : goal.invariant-loop-k
invariant-loop-k l = string_bytes l.text ≡ channels_word (take l.k l.list)
