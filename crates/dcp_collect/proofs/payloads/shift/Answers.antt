use Rattle.std.proofs.Common.{ℕ, List, ◌≡◌, ◌+◌, ◌++◌, take, drop, append_assoc, sym, ap, ◌∙◌}
use Rattle.std.proofs.Math.Seq.{drop-drop}
use Rattle.std.proofs.lemmas.List.{take-append-drop}
use Rattle.dcp_collect.proofs.payloads.shift.Goals as goal

pub returns-else-from-to : goal.returns-else-from-to
returns-else-from-to c =
    let l : List ℕ = c.args.bytes.now in
    let to : ℕ = c.args.to in
    let behind : take c.args.len (drop to l) ++ drop (to + c.args.len) l ≡ drop to l =
    ap (λ x. take c.args.len (drop to l) ++ x) (sym (drop-drop c.args.len to l)) ∙ take-append-drop c.args.len (drop to l) in
    sym (ap (λ (n : ℕ). take to l ++ take c.args.len (drop n l) ++ drop (to + c.args.len) l) c.if-from-to.false
    ∙ (append_assoc (take to l) (take c.args.len (drop to l)) (drop (to + c.args.len) l)
    ∙ (ap (λ x. take to l ++ x) behind ∙ take-append-drop to l)))
