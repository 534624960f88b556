use Rattle.std.proofs.Common.{◌≡◌, List, ℕ, map, length, ap, arith}
use Rattle.std.specs.Borrow.{Bor}
use Rattle.std.proofs.lemmas.List.{length-map}
use Rattle.text_lines.specs.Lines.{lines_of}
use Rattle.text_lines.proofs.CountLemmas.{few_lines}
use Rattle.plan_script.proofs.reading.read_text.Goals as goal

pub read_lines-requires : goal.read_lines-requires
read_lines-requires c =
    let all : map (λ l. l.now) c.deref.result.now ≡ lines_of c.args.text.now = rw c.deref.ensures.value c.in_ok-lines.ensures in
    let count = ap (λ (x : List (List ℕ)). length x) all in
    omega (arith, length-map c.deref.result.now (λ (l : Bor (List ℕ)). l.now), count, few_lines c.args.text.now, c.requires)

pub returns-clause-read : goal.returns-clause-read
returns-clause-read c =
    let all : map (λ l. l.now) c.deref.result.now ≡ lines_of c.args.text.now = rw c.deref.ensures.value c.in_ok-lines.ensures in
    rw (← all) c.read_lines.ensures.read
