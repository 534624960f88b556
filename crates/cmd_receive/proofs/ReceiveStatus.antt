-- What is said of how a run of `receive` ends.
use Rattle.std.proofs.Common.{◌≡◌, ℕ, zero, suc, ◌<◌, ◌+◌, ◌⊎◌, ◌↔◌, inl, inr, Bool, true, false, IsTrue, List, [], ◌∷◌, length, slice_index_or, Some, Result, Ok, Err, refl, sym, ◌∙◌, ap, subst, arith}
use Rattle.std.specs.Prelude.{IsNone}
use Rattle.drm_links.specs.Known.{HasFailed, HasCause, Known, KnownThrough}
use Rattle.drm_links.specs.Link.{Answer}
use Rattle.drm_links.specs.Sink.{Output, OutputsText}
use Rattle.drm_links.proofs.KnownLemmas.{OutputsText-weaker}
use Rattle.std.proofs.lemmas.List.{append-nil}
use Rattle.drm_links.specs.Dock.{DockContents, LinkStart, DockKnownThrough, OpeningFinds}
use Rattle.drm_links.specs.declared.dock.Address.{Address}
use Rattle.recv_reading.specs.declared.options.ReceiveOptions.{ReceiveOptions}
use Rattle.cmd_faults.specs.declared.fault.Fault.{Fault}
use Rattle.cmd_faults.specs.declared.fault.Fault.TheVariants as faults
use Rattle.cmd_faults.specs.Causes.{OpeningFailed}
use Rattle.cmd_faults.specs.Fault.{UnlessMemory}
use Rattle.cmd_receive.specs.Receive.{AreReports, AreClean, all_texts, FailsSome, OpensEach, WritesReports, WritesAll, WritesSome, WroteReports, AreInTime, IsLive, ReceiveRun}
use Rattle.report_text.specs.Reports.{Report}
use Rattle.recv_reading.specs.OneReading.{BreaksOff}
use Rattle.recv_report.specs.Ahead.{IsInTimeAhead, IsReportOf}
use Rattle.recv_report.specs.Following.{NoneBreaksOff}
use Rattle.drm_links.proofs.OpeningLemmas.{docked_weaker, docked_both}

pub is_true : IsTrue true
is_true = refl

-- the report of one link is all there are
one_report : (rules : ReceiveOptions) (contents : DockContents) (at : Address) (start : LinkStart) (r : Report) → OpeningFinds contents 0 at start → IsReportOf rules 1 start.ahead r
    → (k : ℕ) (d : Address) (none : Report) → k < 1
    → (s : LinkStart) × OpeningFinds contents k (slice_index_or (at ∷ []) k d) s × IsReportOf rules (k + 1) s.ahead (slice_index_or (r ∷ []) k none)
one_report rules contents at start r finds report zero d none within = (start, finds, report)
one_report rules contents at start r finds report (suc k) d none within = absurd (omega (arith, within))

pub one_clean : (clean : Bool) (r : Report) → clean ≡ r.clean → IsTrue clean ↔ AreClean (r ∷ [])
one_clean clean r is = (
  (λ is_clean k d within. each is_clean k d within),
  (λ all. subst IsTrue (sym is) (all 0 r (omega arith))),
)
  where
    each : IsTrue clean → (k : ℕ) (d : Report) → k < 1 → IsTrue (slice_index_or (r ∷ []) k d).clean
    each is_clean zero d within = subst IsTrue is is_clean
    each is_clean (suc k) d within = absurd (omega (arith, within))

pub one_text : (r : Report) (a b : Known Output) → OutputsText a b (λ t. t ≡ r.text) → OutputsText a b (λ t. t ≡ all_texts (r ∷ []))
one_text r a b text = OutputsText-weaker (λ t. t ≡ r.text) (λ t. t ≡ all_texts (r ∷ [])) a b text (λ t e. e ∙ sym (append-nil r.text))

-- where the run ends well the reports of all links are written, whether there is one or are several
pub all_reports : {O : Type 0} (rules : ReceiveOptions) (contents : DockContents) (addresses : List Address) (clean : Bool) (known : O → Known Output) (out out' : O)
    → WritesAll rules contents addresses (Ok clean) known out out' → WritesReports (AreReports rules contents addresses) (Ok clean) known out out'
all_reports rules contents [] clean known out out' writes = writes
all_reports rules contents (at ∷ []) clean known out out' (start, finds, (r, report, text, is)) = (
  r ∷ [],
  record { as_many = refl; each = one_report rules contents at start r finds report },
  one_text r (known out) (known out') text,
  one_clean clean r is,
)
all_reports rules contents (at ∷ (other ∷ addresses)) clean known out out' writes = writes

-- where it ends well, the reports are written
module _ {O : Type 0} (rules : ReceiveOptions) (contents : DockContents) (addresses : List Address) (known : O → Known Output) (out out' : O) where
  wrote_by : (ending : Result Bool Fault) → ((fault : Fault) → ending ≡ Err fault → (fault ≡ faults.NoMemory) ⊎ (fault ≡ faults.Link) ⊎ (fault ≡ faults.Write))
      → (ending ≡ Err faults.Write → ⊥) → WritesAll rules contents addresses ending known out out' → UnlessMemory ending ((ending ≡ Err faults.Link) ↔ FailsSome rules contents addresses) → (FailsSome rules contents addresses → ⊥)
      → UnlessMemory ending (WroteReports ending (AreReports rules contents addresses) known out out')
  wrote_by (Ok clean) kind no_write writes exactly none = inr (clean, refl, all_reports rules contents addresses clean known out out' writes)
  wrote_by (Err fault) kind no_write writes (inl memory) none = inl memory
  wrote_by (Err fault) kind no_write writes (inr fails) none = elim (kind fault refl) [
    | inl memory ↦ inl (ap Err memory)
    | inr (inl link) ↦ absurd (none (fails.0 (ap Err link)))
    | inr (inr write) ↦ absurd (no_write (ap Err write))
  ]

-- the report of a link that brings each frame in time is clean
pub clean_in_time : (rules : ReceiveOptions) (feed : ℕ) (ahead : List Answer) (r : Report) → IsReportOf rules feed ahead r → IsInTimeAhead rules ahead → IsTrue r.clean
clean_in_time rules feed ahead r report time =
    let all = report.complete time.plan time.arrivals time.answers time.valid time.read time.followed time.frames time.in_time in
    subst IsTrue (sym all.clean_is) is_true

all_clean : (rules : ReceiveOptions) (contents : DockContents) (addresses : List Address) (reports : List Report) → AreReports rules contents addresses reports → AreInTime rules contents addresses → AreClean reports
all_clean rules contents addresses reports are time k d within =
    let at : Address = record { ip = []; port = 0 } in
    let l : k < length addresses = (let many = are.as_many in omega (arith, many, within)) in
    let (start, finds, report) = are.each k at d l in
    let (start', finds', ahead) = time k at l in
    let same : Some start' ≡ Some start = sym finds'.stands ∙ finds.stands in
    let starts : start' ≡ start = cc in
    clean_in_time rules (k + 1) start.ahead (slice_index_or reports k d) report (subst (λ (s : LinkStart). IsInTimeAhead rules s.ahead) starts ahead)

all_given : {O : Type 0} (rules : ReceiveOptions) (contents : DockContents) (addresses : List Address) (ending : Result Bool Fault) (known : O → Known Output) (out out' : O)
    → UnlessMemory ending (WroteReports ending (AreReports rules contents addresses) known out out') → AreInTime rules contents addresses → UnlessMemory ending (ending ≡ Ok true)
all_given rules contents addresses ending known out out' (inl memory) time = inl memory
all_given rules contents addresses ending known out out' (inr (clean, is, (reports, are, text, iff))) time =
    let all : IsTrue clean = iff.1 (all_clean rules contents addresses reports are time) in
    inr (is ∙ ap Ok (clean_is clean all))
  where
    clean_is : (clean : Bool) → IsTrue clean → clean ≡ true
    clean_is clean all = all

-- where each frame is in time, no link fails
none_fails : NoneBreaksOff → (rules : ReceiveOptions) (contents : DockContents) (addresses : List Address) → AreInTime rules contents addresses → FailsSome rules contents addresses → ⊥
none_fails law rules contents addresses time some =
    let at : Address = record { ip = []; port = 0 } in
    let (start, finds, ahead) = time some.k at some.within in
    elim (some.fails at) [
      | inl none ↦ elim none [
        | inl fails ↦ finds.allowed fails
        | inr nothing ↦ let clash : true ≡ false = subst IsNone finds.stands nothing in cc
      ]
      | inr breaks ↦
          let same : Some breaks.0 ≡ Some start = sym breaks.1.stands ∙ finds.stands in
          let starts : breaks.0 ≡ start = cc in
          law rules start.ahead ahead (subst (λ (s : LinkStart). BreaksOff rules s.ahead) starts breaks.2)
    ]

-- ---- the whole run

pub receive_run : NoneBreaksOff → {D O : Type 0} (rules : ReceiveOptions) (addresses : List Address) (ending : Result Bool Fault) (dock_known : D → Known DockContents) (dock dock' : D) (out_known : O → Known Output) (out out' : O)
    → ((fault : Fault) → ending ≡ Err fault → (fault ≡ faults.NoMemory) ⊎ (fault ≡ faults.Link) ⊎ (fault ≡ faults.Write))
    → KnownThrough (dock_known dock) (dock_known dock') (OpensEach rules addresses ending out_known out out')
    → DockKnownThrough (dock_known dock) (dock_known dock') (λ contents. WritesAll rules contents addresses ending out_known out out')
    → WritesSome rules addresses ending out_known out out'
    → ((ending ≡ Err faults.NoMemory) ⊎ ((ending ≡ Err faults.Link) × (IsLive addresses → ⊥)) → out' ≡ out)
    → ((IsLive addresses → ending ≡ Err faults.Write → ⊥) → DockKnownThrough (dock_known dock) (dock_known dock') (λ contents. UnlessMemory ending ((ending ≡ Err faults.Link) ↔ FailsSome rules contents addresses)))
    → OpeningFailed (dock_known dock) (dock_known dock') (ending ≡ Err faults.Link)
    → HasCause (out_known out) (out_known out') (ending ≡ Err faults.Write)
    → ReceiveRun rules addresses ending dock_known dock dock' out_known out out'
receive_run law {D} {O} rules addresses ending dock_known dock dock' out_known out out' kind opens writes sound unwritten exactly dock_cause write_cause = record {
  kind = kind;
  opens = opens;
  writes = writes;
  sound = sound;
  unwritten = unwritten;
  exactly = exactly;
  complete = all_wrote;
  in_time = λ no_write.
      docked_weaker (λ contents. (FailsSome rules contents addresses → ⊥) → UnlessMemory ending (WroteReports ending (AreReports rules contents addresses) out_known out out'))
      (λ contents. AreInTime rules contents addresses → UnlessMemory ending (ending ≡ Ok true)) (dock_known dock) (dock_known dock') (all_wrote no_write)
      (λ contents wrote time. all_given rules contents addresses ending out_known out out' (wrote (none_fails law rules contents addresses time)) time);
  dock_cause = dock_cause;
  write_cause = write_cause;
}
  where
    all_wrote : (HasFailed (out_known out) (out_known out') → ⊥) → DockKnownThrough (dock_known dock) (dock_known dock') (λ contents. (FailsSome rules contents addresses → ⊥) → UnlessMemory ending (WroteReports ending (AreReports rules contents addresses) out_known out out'))
    all_wrote no_write =
        let none : ending ≡ Err faults.Write → ⊥ = λ is. no_write (write_cause.once is) in
        docked_weaker (λ contents. WritesAll rules contents addresses ending out_known out out' × UnlessMemory ending ((ending ≡ Err faults.Link) ↔ FailsSome rules contents addresses))
        (λ contents. (FailsSome rules contents addresses → ⊥) → UnlessMemory ending (WroteReports ending (AreReports rules contents addresses) out_known out out')) (dock_known dock) (dock_known dock')
        (docked_both (λ contents. WritesAll rules contents addresses ending out_known out out') (λ contents. UnlessMemory ending ((ending ≡ Err faults.Link) ↔ FailsSome rules contents addresses)) (dock_known dock) (dock_known dock') writes (exactly (λ live is. none is)))
        (λ contents both fails. wrote_by rules contents addresses out_known out out' ending kind none both.0 both.1 fails)
