use Rattle.std.proofs.Common.{rules, ◌≡◌, ◌≢◌, ℕ, List, take, sym, ap, ◌∙◌, arith}
use Rattle.std.proofs.lemmas.List.{take-take}
use Rattle.dcp_af.specs.Packet as af
use Rattle.dcp_pft.specs.Head as pft
use Rattle.capture_reader.specs.Front.{BytesBegin, Other}
use Rattle.capture_reader.specs.Looking.{IsFrontPart}
use Rattle.capture_reader.proofs.look.look.Goals as goal

first_two : (head bytes : List ℕ) (count : ℕ) → IsFrontPart head count bytes → take 2 bytes ≡ take 2 head
first_two head bytes count part = sym (ap (λ l. take 2 l) part.front ∙ take-take 2 20 bytes (omega arith))

pub returns-else-starts_with-2 : goal.returns-else-starts_with-2
returns-else-starts_with-2 c = λ bytes part.
    let same = first_two c.args.head.now bytes c.args.count part in
    let no_af : take 2 c.args.head.now ≢ af.sync = search rules in
    let no_pft : take 2 c.args.head.now ≢ pft.sync = search rules in
    Other (λ is. no_af (sym same ∙ is)) (λ is. no_pft (sym same ∙ is)) (c.look_at_other.ensures bytes c.args.count part)
