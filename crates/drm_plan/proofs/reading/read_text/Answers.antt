use Rattle.std.proofs.Common.{◌≡◌, List, ℕ, map, length, ap, arith}
use Rattle.std.specs.Borrow.{Bor}
use Rattle.std.proofs.lemmas.List.{length-map}
use Rattle.std.proofs.lemmas.Result.{err_from_is_err_and}
use Rattle.text_lines.specs.Lines.{lines_of}
use Rattle.drm_plan.proofs.TextLemmas.{text_fails, text_gives}
use Rattle.std.specs.Prelude.{All}
use Rattle.plan_lines.proofs.CleanLemmas.{lines_are_single}
use Rattle.plan_rules.specs.InLines.{IsSingle}
use Rattle.text_lines.proofs.CountLemmas.{few_lines}
use Rattle.drm_plan.proofs.CountLemmas.{all_unmapped}
use Rattle.drm_plan.proofs.reading.read_text.Goals as goal

pub read_lines-requires : goal.read_lines-requires
read_lines-requires c =
    let all : map (λ l. l.now) c.deref.result.now ≡ lines_of c.args.text.now = rw c.deref.ensures.value c.in_ok-lines.ensures in
    let count = ap (λ (x : List (List ℕ)). length x) all in
    omega (arith, length-map c.deref.result.now (λ (l : Bor (List ℕ)). l.now), count, few_lines c.args.text.now, c.requires)

pub returns-in_err-read : goal.returns-in_err-read
returns-in_err-read c =
    let all : map (λ l. l.now) c.deref.result.now ≡ lines_of c.args.text.now = rw c.deref.ensures.value c.in_ok-lines.ensures in
    let p = err_from_is_err_and c.from_residual-in_err-read.result c.from_residual-in_err-read.ensures.1 in
    rw (p.1, p.2, ← all) (text_fails c.in_err-read.field-0.0 (map (λ l. l.now) c.deref.result.now) c.in_err-read.ensures.said)

pub returns : goal.returns
returns c =
    let all : map (λ l. l.now) c.deref.result.now ≡ lines_of c.args.text.now = rw c.deref.ensures.value c.in_ok-lines.ensures in
    rw (← all, c.in_ok-make_draft.ensures) (text_gives (map (λ l. l.now) c.deref.result.now) c.in_ok-read.read c.in_ok-read.ensures.said)

pub make_draft-requires-clause-in_lines : goal.make_draft-requires-clause-in_lines
make_draft-requires-clause-in_lines c =
    let all : map (λ l. l.now) c.deref.result.now ≡ lines_of c.args.text.now = rw c.deref.ensures.value c.in_ok-lines.ensures in
    let single : All IsSingle (map (λ (l : Bor (List ℕ)). l.now) c.deref.result.now) = rw all (lines_are_single c.args.text.now) in
    c.in_ok-read.ensures.kept (all_unmapped IsSingle (λ (l : Bor (List ℕ)). l.now) c.deref.result.now single)
