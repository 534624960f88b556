use Rattle.std.proofs.Common.{rules, subst, sym, List, ℕ}
use Rattle.rs_erase.specs.Register.{IsRemainder}
use Rattle.rs_erase.specs.Rows.{listed}
use Rattle.rs_erase.proofs.FirstRemainders.{whole_message}
use Rattle.rs_erase.proofs.LaneRows.{length_three}
use Rattle.rs_erase.proofs.RootSums.{remainder_value}
use Rattle.rs_erase.proofs.roots.word_remainder.Goals as goal

pub returns : goal.returns
returns c =
    remainder_value c.args.word.now (listed c.message_remainder.result) (listed c.plus.result) (listed c.from_place.result) c.told-word
    (length_three c.message_remainder.result.first c.message_remainder.result.second c.message_remainder.result.third (search rules) (search rules) (search rules))
    (subst (λ (m : List ℕ). IsRemainder m (listed c.message_remainder.result)) (sym (whole_message c.args.word.now c.told-word)) c.message_remainder.ensures) c.from_place.ensures c.plus.ensures
