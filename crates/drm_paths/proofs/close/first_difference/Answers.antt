use Rattle.std.proofs.Common.{◌≡◌, ◌≤◌, ℕ, ◌+◌, ◌∷◌, List, map, drop, length, Some, refl, sym, ◌∙◌, ap, subst, arith}
use Rattle.std.proofs.lemmas.List.{length-map, drop_all}
use Rattle.report_journal.specs.Journal.{entry_of}
use Rattle.drm_paths.specs.Closing.{of_path, IsDifference}
use Rattle.drm_paths.proofs.Comparing.{next_entry, not_false, test_true, test_false, passes, agrees, differs, ends_before, same_list}
use Rattle.drm_paths.proofs.close.first_difference.Goals as goal

pub loop-entry-preserved-then-entry-number : goal.loop-entry-preserved-then-entry-number
loop-entry-preserved-then-entry-number c =
    let entries = map entry_of c.args.entries.now in
    let kept : List (List ℕ) = map (λ d. d.items) c.args.kept.now in
    let e = entry_of c.entry-item.result in
    let next : drop c.loop-entry.entry-index entries ≡ e ∷ drop (c.loop-entry.entry-index + 1) entries =
    next_entry entry_of c.args.entries.now c.loop-entry.entry-index c.entry-item.result c.loop-entry-test.true ∙ ap (λ x. entry_of x ∷ drop (c.loop-entry.entry-index + 1) entries) (sym c.entry-item.is) in
    let fewer = c.loop-entry.invariant.1 in (
      passes c.args.number entries kept c.loop-entry.at c.loop-entry.entry-index c.loop-entry.invariant.0 e next (test_false e.0 c.args.number c.if-entry-number.true),
      omega (arith, fewer),
    )

pub returns-then-not-stands_at-clause-differs : goal.returns-then-not-stands_at-clause-differs
returns-then-not-stands_at-clause-differs c =
    let entries = map entry_of c.args.entries.now in
    let kept : List (List ℕ) = map (λ d. d.items) c.args.kept.now in
    let e = entry_of c.entry-item.result in
    let next : drop c.loop-entry.entry-index entries ≡ e ∷ drop (c.loop-entry.entry-index + 1) entries =
    next_entry entry_of c.args.entries.now c.loop-entry.entry-index c.entry-item.result c.loop-entry-test.true ∙ ap (λ x. entry_of x ∷ drop (c.loop-entry.entry-index + 1) entries) (sym c.entry-item.is) in
    let value = c.as_slice-datagram.ensures.value in
    subst (λ bytes. IsDifference (of_path c.args.number entries) kept c.loop-entry.at (Some bytes)) (sym value)
    (differs c.args.number entries kept c.loop-entry.at c.loop-entry.entry-index c.loop-entry.invariant.0 e next (test_true e.0 c.args.number c.if-entry-number.false) (λ stands. not_false (c.if-not-stands_at.ensures.1 (stands ∙ ap Some (sym value)))))

pub loop-entry-preserved : goal.loop-entry-preserved
loop-entry-preserved c =
    let entries = map entry_of c.args.entries.now in
    let kept : List (List ℕ) = map (λ d. d.items) c.args.kept.now in
    let e = entry_of c.entry-item.result in
    let next : drop c.loop-entry.entry-index entries ≡ e ∷ drop (c.loop-entry.entry-index + 1) entries =
    next_entry entry_of c.args.entries.now c.loop-entry.entry-index c.entry-item.result c.loop-entry-test.true ∙ ap (λ x. entry_of x ∷ drop (c.loop-entry.entry-index + 1) entries) (sym c.entry-item.is) in
    let fewer = c.loop-entry.invariant.1 in (
      agrees c.args.number entries kept c.loop-entry.at c.loop-entry.entry-index c.loop-entry.invariant.0 e next (test_true e.0 c.args.number c.if-entry-number.false)
          (c.if-not-stands_at.ensures.0 refl ∙ ap Some c.as_slice-datagram.ensures.value),
      omega (arith, fewer),
    )

pub returns-then-at-kept-clause-differs : goal.returns-then-at-kept-clause-differs
returns-then-at-kept-clause-differs c =
    let entries = map entry_of c.args.entries.now in
    let kept : List (List ℕ) = map (λ d. d.items) c.args.kept.now in
    let size : length kept ≡ length c.args.kept.now = length-map c.args.kept.now (λ d. d.items) in
    let all : length entries ≤ c.loop-entry.entry-index = (let last = c.loop-entry-test.false in let n : length entries ≡ length c.args.entries.now = length-map c.args.entries.now entry_of in omega (arith, last, n)) in
    let more = c.if-at-kept.true in
    ends_before c.args.number entries kept c.loop-entry.at c.loop-entry.entry-index c.loop-entry.invariant.0 (drop_all c.loop-entry.entry-index entries all) (omega (arith, size, more))

pub returns-clause-same : goal.returns-clause-same
returns-clause-same c =
    let entries = map entry_of c.args.entries.now in
    let kept : List (List ℕ) = map (λ d. d.items) c.args.kept.now in
    let size : length kept ≡ length c.args.kept.now = length-map c.args.kept.now (λ d. d.items) in
    let all : length entries ≤ c.loop-entry.entry-index = (let last = c.loop-entry-test.false in let n : length entries ≡ length c.args.entries.now = length-map c.args.entries.now entry_of in omega (arith, last, n)) in
    let more = c.if-at-kept.false in
    same_list c.args.number entries kept c.loop-entry.at c.loop-entry.entry-index c.loop-entry.invariant.0 (drop_all c.loop-entry.entry-index entries all) (omega (arith, size, more))
