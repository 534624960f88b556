-- The lines of refusals, one after another.
use Rattle.std.proofs.Common.{◌≡◌, ℕ, List, [], ◌∷◌, ◌++◌, sym, ◌∙◌, ap, subst, append_assoc}
use Rattle.std.specs.List.{AllByRecursion}
use Rattle.drm_links.specs.Known.{Known}
use Rattle.drm_links.specs.Sink.{Output, OutputsText, IsPrefix}
use Rattle.drm_links.proofs.KnownLemmas.{OutputsText-then, OutputsText-nothing, OutputsText-weaker}
use Rattle.std.proofs.lemmas.List.{append-nil}
use Rattle.report_text.specs.FaultWords.{IsReportable}
use Rattle.report_text.specs.Report.{refused_line}
use Rattle.report_text.specs.declared.counts.Refusal.{Refusal}
use Rattle.report_text.specs.Reports.{refused_text}

-- what was written, put before the lines of those left, is the whole
abbrev pub IsSoFar : List Refusal → List Refusal → List ℕ → Type 0
IsSoFar all left text = text ++ refused_text left ≡ refused_text all

abbrev pub AreReportable : List Refusal → Type 0
AreReportable refused = AllByRecursion (λ r. IsReportable r.taken) refused

abbrev pub line_of : Refusal → List ℕ
line_of r = refused_line r.number r.taken

pub none_refused : (all left : List Refusal) (a : Known Output) → left ≡ all → OutputsText a a (IsSoFar all left)
none_refused all left a is = OutputsText-nothing a (IsSoFar all left) (ap refused_text is)

pub all_reportable : (all left : List Refusal) → left ≡ all → AreReportable all → AreReportable left
all_reportable all left is reportable = subst AreReportable (sym is) reportable

pub one_refused : (all left more : List Refusal) (r : Refusal) (a b d : Known Output) → left ≡ r ∷ more
    → OutputsText a b (IsSoFar all left) → OutputsText b d (λ t. t ≡ line_of r) → OutputsText a d (IsSoFar all more)
one_refused all left more r a b d is so_far line =
    OutputsText-then (IsSoFar all left) (λ t. t ≡ line_of r) (IsSoFar all more) a b d so_far line
    (λ x y e f. append_assoc x y (refused_text more) ∙ ap (λ l. x ++ (l ++ refused_text more)) f ∙ ap (λ l. x ++ refused_text l) (sym is) ∙ e)

pub front_refused : (all left more : List Refusal) (r : Refusal) (a b d : Known Output) → left ≡ r ∷ more
    → OutputsText a b (IsSoFar all left) → OutputsText b d (IsPrefix (line_of r)) → OutputsText a d (IsPrefix (refused_text all))
front_refused all left more r a b d is so_far line =
    OutputsText-then (IsSoFar all left) (IsPrefix (line_of r)) (IsPrefix (refused_text all)) a b d so_far line
    (λ x y e (rest, f). (
      rest ++ refused_text more,
      sym e ∙ ap (λ l. x ++ refused_text l) is ∙ ap (λ l. x ++ (l ++ refused_text more)) f
          ∙ ap (λ l. x ++ l) (append_assoc y rest (refused_text more)) ∙ sym (append_assoc x y (rest ++ refused_text more)),
    ))

pub all_refused : (all left : List Refusal) (a b : Known Output) → left ≡ [] → OutputsText a b (IsSoFar all left) → OutputsText a b (λ t. t ≡ refused_text all)
all_refused all left a b is so_far =
    OutputsText-weaker (IsSoFar all left) (λ t. t ≡ refused_text all) a b so_far (λ t e. sym (append-nil t) ∙ ap (λ l. t ++ refused_text l) (sym is) ∙ e)

pub next_reportable : (left more : List Refusal) (r : Refusal) → left ≡ r ∷ more → AreReportable left → IsReportable r.taken × AreReportable more
next_reportable left more r is reportable = subst AreReportable is reportable
