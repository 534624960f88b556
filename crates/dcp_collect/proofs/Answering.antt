-- What is answered to a datagram that is not far.
use Rattle.std.proofs.Common.{◌≡◌, false, if◌then◌else◌, ap}
use Rattle.std.specs.Prelude.{ℤ}
use Rattle.dcp_collect.specs.declared.head.Head.{Head}
use Rattle.dcp_collect.specs.declared.taken.Field.TheVariants.{Far}
use Rattle.dcp_collect.specs.declared.taken.Taken.TheVariants.{Refused}
use Rattle.dcp_collect.specs.CollectorState.{CollectorState, is_far, answer_within, answer_at}

pub not_far : (c : CollectorState) (n : ℤ) (head : Head) → is_far c n ≡ false → answer_at c n head ≡ answer_within c n head
not_far c n head far = ap (λ b. if b then Refused Far else answer_within c n head) far
