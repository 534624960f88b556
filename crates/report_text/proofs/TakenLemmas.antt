-- A datagram is taken and noted.
use Rattle.std.proofs.Common.{◌≡◌, ℕ, Bool, true, false, if◌then◌else◌, List, [], ◌∷◌, Option, None, Some, refl, sym, ◌∙◌, ap, subst, inl, inr, not}
use Rattle.std.specs.Prelude.{ℤ, pos, negsuc}
use Rattle.std.specs.List.{find}
use Rattle.dcp_pft.specs.declared.fault.PftFault.{PftFault}
use Rattle.dcp_pft.specs.declared.fault.PftFault.TheVariants as pft
use Rattle.dcp_pft.specs.Faults.{IsFirstRow, FaultHolds, table}
use Rattle.dcp_collect.specs.declared.head.Head.{Head}
use Rattle.dcp_collect.specs.declared.taken.Field.{Field}
use Rattle.dcp_collect.specs.declared.taken.Field.TheVariants as field
use Rattle.dcp_collect.specs.declared.taken.Taken.{Taken}
use Rattle.dcp_collect.specs.declared.taken.Taken.TheVariants.{Repeated, Late, Refused}
use Rattle.dcp_collect.specs.Fragments.{NumberedFragment, suffice, of_packet, agree, has_index}
use Rattle.dcp_collect.specs.Reading.{DatagramContent, Unread, Brings, IsReadAs}
use Rattle.dcp_collect.specs.CollectorState.{CollectorState, answer, answer_at, answer_within, answer_among, answer_by, is_far, is_late, number_of}
use Rattle.dcp_collect.specs.Runs.{CollectorTakes}
use Rattle.report_text.specs.FaultWords.{IsReportable}
use Rattle.report_text.specs.Reports.{is_refused}
use Rattle.report_text.specs.Tallies.{TallyContents, noted, items_in}

noted_by : (b : Bool) (t u v : TallyContents) → items_in u.sums ≡ items_in t.sums → items_in v.sums ≡ items_in t.sums → items_in (if b then u else v).sums ≡ items_in t.sums
noted_by true t u v e f = e
noted_by false t u v e f = f

pub noted_items : (t : TallyContents) (number : ℕ) (a : Taken) → items_in (noted t number a).sums ≡ items_in t.sums
noted_items t number a = noted_by (is_refused a) t _ _ refl refl

-- ---- what is refused is told of

among_reportable : (b : Bool) (o : Option NumberedFragment) (r : Bool) (head : Head) → is_refused (if b then Repeated else answer_by o r head) ≡ true → IsReportable (if b then Repeated else answer_by o r head)
among_reportable true o r head e = absurd (let x : false ≡ true = e in cc)
among_reportable false (Some f) r head e = tt
among_reportable false None true head e = absurd (let x : false ≡ true = e in cc)
among_reportable false None false head e = absurd (let x : false ≡ true = e in cc)

late_reportable : (b : Bool) (a : Taken) → (is_refused a ≡ true → IsReportable a) → is_refused (if b then Late else a) ≡ true → IsReportable (if b then Late else a)
late_reportable true a reportable e = absurd (let x : false ≡ true = e in cc)
late_reportable false a reportable e = reportable e

far_reportable : (b : Bool) (a : Taken) → (is_refused a ≡ true → IsReportable a) → is_refused (if b then Refused field.Far else a) ≡ true → IsReportable (if b then Refused field.Far else a)
far_reportable true a reportable e = tt
far_reportable false a reportable e = reportable e

within_reportable : (c : CollectorState) (n : ℤ) (head : Head) → is_refused (answer_within c n head) ≡ true → IsReportable (answer_within c n head)
within_reportable c (negsuc n) head e = absurd (let x : false ≡ true = e in cc)
within_reportable c (pos n) head e =
    late_reportable (is_late c n) (answer_among (of_packet n c.kept) head)
    (among_reportable (suffice (of_packet n c.kept)) (find (λ f. not (agree f.head head)) (of_packet n c.kept)) (has_index (of_packet n c.kept) head.index) head) e

at_reportable : (c : CollectorState) (n : ℤ) (head : Head) → is_refused (answer_at c n head) ≡ true → IsReportable (answer_at c n head)
at_reportable c n head e = far_reportable (is_far c n) (answer_within c n head) (within_reportable c n head) e

row_holds : (rows : List PftFault) (fault : PftFault) (bytes : List ℕ) → IsFirstRow rows fault bytes → FaultHolds fault bytes
row_holds [] fault bytes h = absurd h
row_holds (row ∷ more) fault bytes (inl (h, e)) = subst (λ r. FaultHolds r bytes) (sym e) h
row_holds (row ∷ more) fault bytes (inr (n, h)) = row_holds more fault bytes h

-- what begins as a fragment isn't refused for its beginning
field_reportable : (f : Field) (bytes : List ℕ) → IsReadAs (Unread f) bytes → IsReportable (Refused f)
field_reportable field.Sync bytes r = tt
field_reportable (field.Af fault) bytes r = tt
field_reportable (field.Pft pft.Sync) bytes r = absurd (row_holds table pft.Sync bytes r.1 r.0)
field_reportable (field.Pft pft.HeadCut) bytes r = tt
field_reportable (field.Pft pft.HeadCrc) bytes r = tt
field_reportable (field.Pft pft.Count) bytes r = tt
field_reportable (field.Pft pft.Index) bytes r = tt
field_reportable (field.Pft pft.PlenMismatch) bytes r = tt
field_reportable (field.Pft pft.RsK) bytes r = tt
field_reportable (field.Pft pft.RsZ) bytes r = tt
field_reportable (field.Pft pft.TooMany) bytes r = tt
field_reportable (field.Pft pft.TooLarge) bytes r = tt
field_reportable (field.Pft pft.Chunks) bytes r = tt
field_reportable field.Large bytes r = tt
field_reportable field.Far bytes r = absurd r

read_reportable : (c : CollectorState) (read : DatagramContent) (bytes : List ℕ) → IsReadAs read bytes → is_refused (answer c read) ≡ true → IsReportable (answer c read)
read_reportable c (Unread f) bytes r e = field_reportable f bytes r
read_reportable c (Brings incoming) bytes r e = at_reportable c (number_of c incoming) incoming.head e

pub takes_reportable : (c after : CollectorState) (bytes : List ℕ) (a : Taken) → CollectorTakes c bytes a after → is_refused a ≡ true → IsReportable a
takes_reportable c after bytes a t e = subst IsReportable (sym t.taken_is) (read_reportable c t.read bytes t.is_read (ap is_refused (sym t.taken_is) ∙ e))
