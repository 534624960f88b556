-- From the receiver of one link that ended to the whole command.
use Rattle.std.proofs.Common.{◌≡◌, ℕ, zero, suc, ◌<◌, ◌≤◌, ◌⊎◌, ◌↔◌, ◌∙◌, inl, inr, Bool, List, [], ◌∷◌, length, slice_index_or, Some, Result, Ok, Err, IfOk, refl, sym, ap, subst, arith, le_trans}
use Rattle.drm_links.specs.Known.{Known, HasCause, IfBothKnown, CountsCall, KnownThrough}
use Rattle.drm_links.proofs.KnownLemmas.{counts_as, Tells-nothing, Tells-weaker, Tells-both}
use Rattle.cmd_faults.specs.Fault.{UnlessMemory}
use Rattle.drm_links.specs.Link.{Answer, Traffic}
use Rattle.drm_links.specs.Sink.{Output}
use Rattle.drm_links.specs.Dock.{DockContents, LinkStart, Over, DockCloses, first_traffic, after_close, HasLink, DockKnownThrough, DockOpens, OpeningFinds, FindsNone, after_openings}
use Rattle.drm_links.specs.declared.dock.Address.{Address}
use Rattle.drm_links.specs.declared.dock.Opened.TheVariants as opened
use Rattle.recv_reading.specs.declared.options.ReceiveOptions.{ReceiveOptions}
use Rattle.report_text.specs.Totals.{are_clean}
use Rattle.report_text.specs.declared.totals.Totals.{Totals}
use Rattle.recv_report.specs.declared.stop.ReceiveError.{ReceiveError}
use Rattle.recv_report.specs.declared.stop.ReceiveError.TheVariants as errors
use Rattle.recv_reading.specs.Options.{AreInRange}
use Rattle.drm_links.specs.Hearing.{LinkHeard}
use Rattle.recv_reading.specs.Ending.{most_answers}
use Rattle.recv_report.specs.Received.{LinkReportEnds, ReportCounted}
use Rattle.recv_report.specs.Following.{HeadlinesFollow, CompletesFollow, NoneBreaksOff}
use Rattle.recv_reading.specs.OneReading.{BreaksOff}
use Rattle.drm_links.proofs.Hearing.{heard_none}
use Rattle.recv_reading.proofs.Going.{few_answers}
use Rattle.recv_report.proofs.CaptureReading.{heard_as}
use Rattle.recv_report.proofs.ReceiverLemmas.{live_report, live_given, live_breaks, live_front}
use Rattle.cmd_faults.specs.declared.fault.Fault.{Fault}
use Rattle.cmd_faults.specs.declared.fault.Fault.TheVariants as faults
use Rattle.cmd_faults.proofs.CauseLemmas.{inner_fault}
use Rattle.cmd_receive.specs.Stopping.{live_totals, clean_ending}
use Rattle.cmd_receive.specs.Opening.{EndsOpening, StopsOpening}
use Rattle.cmd_receive.specs.Counted.{CountedLink}
use Rattle.drm_links.specs.Binding.{LinkHears, HearsEach}
use Rattle.cmd_receive.specs.Receive.{FailsSome, OpensEach, ReadsLive, AreExactly, WritesLive, ReceiveRun}
use Rattle.drm_links.proofs.OpeningLemmas.{Opened, opened_now, opened_all, found_now, docked_weaker, docked_still, docks_more}
use Rattle.drm_links.proofs.BindLemmas.{WentOver, Missed, missed_now, went_over}
use Rattle.cmd_receive.proofs.BreakingOff.{report_whole}
use Rattle.cmd_receive.proofs.ReceiveStatus.{receive_run}
use Rattle.cmd_receive.proofs.ReceiveLemmas.{no_fault, opening_failed}

-- the receiver ended by this
ended_write : (ended : Result Totals ReceiveError) → clean_ending (live_totals ended) ≡ Err faults.Write → ended ≡ Err errors.Write
ended_write (Ok totals) is = absurd (no_fault (are_clean totals) faults.Write is)
ended_write (Err errors.Link) is = let one : faults.Link ≡ faults.Write = inner_fault faults.Link faults.Write is in absurd cc
ended_write (Err errors.Write) is = refl
ended_write (Err errors.NoMemory) is = let one : faults.NoMemory ≡ faults.Write = inner_fault faults.NoMemory faults.Write is in absurd cc

ended_memory : (ended : Result Totals ReceiveError) → clean_ending (live_totals ended) ≡ Err faults.NoMemory → ended ≡ Err errors.NoMemory
ended_memory (Ok totals) is = absurd (no_fault (are_clean totals) faults.NoMemory is)
ended_memory (Err errors.Link) is = let one : faults.Link ≡ faults.NoMemory = inner_fault faults.Link faults.NoMemory is in absurd cc
ended_memory (Err errors.Write) is = let one : faults.Write ≡ faults.NoMemory = inner_fault faults.Write faults.NoMemory is in absurd cc
ended_memory (Err errors.NoMemory) is = refl

ended_kind : (ended : Result Totals ReceiveError) (fault : Fault) → clean_ending (live_totals ended) ≡ Err fault → (fault ≡ faults.NoMemory) ⊎ (fault ≡ faults.Link) ⊎ (fault ≡ faults.Write)
ended_kind (Ok totals) fault is = absurd (no_fault (are_clean totals) fault is)
ended_kind (Err errors.Link) fault is = inr (inl (sym (inner_fault faults.Link fault is)))
ended_kind (Err errors.Write) fault is = inr (inr (sym (inner_fault faults.Write fault is)))
ended_kind (Err errors.NoMemory) fault is = inl (sym (inner_fault faults.NoMemory fault is))

-- ---- what was read, and what of it is written

-- These answers were heard of a link, no more than a reading takes, and they are what is read.
record LiveReads {O : Type 0} (rules : ReceiveOptions) (ending : Result Bool Fault) (a b : Known Traffic) (known : O → Known Output) (out out' : O) : Type 0 where
  answers : List Answer
  heard : LinkHeard a b answers
  few : length answers ≤ most_answers rules
  reads : ReadsLive rules ending known out out' answers

live_reads : {O : Type 0} (rules : ReceiveOptions) (a b : Known Traffic) (known : O → Known Output) (out out' : O) (ended : Result Totals ReceiveError) → LinkReportEnds rules 1 a b (known out) (known out') ended
    → LiveReads rules (clean_ending (live_totals ended)) a b known out out'
live_reads rules a b known out out' (Ok totals) r =
    let w = r.written in
    record {
      answers = w.answers;
      heard = w.heard;
      few = w.few;
      reads = record { answers = w.answers; heard = refl; few = w.few; at_once = w.at_once; whole = w.whole; is = w.is; text = w.text };
    }
live_reads rules a b known out out' (Err errors.Link) r = record {
  answers = r.answers;
  heard = r.heard;
  few = r.few;
  reads = record { answers = r.answers; heard = refl; few = r.few; at_once = r.at_once; whole = r.whole; is = r.is; text = r.text };
}
live_reads rules a b known out out' (Err errors.Write) r = record {
  answers = r.answers;
  heard = r.heard;
  few = r.few;
  reads = record { answers = r.answers; heard = refl; few = r.few; at_once = r.at_once; goes_on = r.goes_on; text = r.text };
}
live_reads rules a b known out out' (Err errors.NoMemory) r = record { answers = []; heard = subst (λ now. LinkHeard a now []) (sym r.0) (heard_none a); few = omega arith; reads = refl }

-- what fails of one link is the first
abbrev FailsFirst : ReceiveOptions → DockContents → Address → Type 0
FailsFirst rules contents at = FindsNone contents 0 at ⊎ ((start : LinkStart) × OpeningFinds contents 0 at start × BreaksOff rules start.ahead)

first_by : (rules : ReceiveOptions) (contents : DockContents) (at : Address) (k : ℕ) → k < 1
    → FindsNone contents k (slice_index_or (at ∷ []) k at) ⊎ ((start : LinkStart) × OpeningFinds contents k (slice_index_or (at ∷ []) k at) start × BreaksOff rules start.ahead) → FailsFirst rules contents at
first_by rules contents at zero within fails = fails
first_by rules contents at (suc k) within fails = absurd (omega (arith, within))

fails_first : (rules : ReceiveOptions) (contents : DockContents) (at : Address) → FailsSome rules contents (at ∷ []) → FailsFirst rules contents at
fails_first rules contents at some = first_by rules contents at some.k some.within (some.fails at)

module _ {D L O : Type 0} (rules : ReceiveOptions) (valid : AreInRange rules) (headlines : HeadlinesFollow) (completes : CompletesFollow) (at : Address)
    (dock_known : D → Known DockContents) (dock dock' : D) (link_known : L → Known Traffic) (link link' : L)
    (out_known : O → Known Output) (out out' : O)
    (found : DockKnownThrough (dock_known dock) (dock_known dock') (λ contents. HasLink link_known contents 0 at link)) where
  abbrev Ends : Result Totals ReceiveError → Type 0
  Ends ended = LinkReportEnds rules 1 (link_known link) (link_known link') (out_known out) (out_known out') ended

  written : (ended : Result Totals ReceiveError) → Ends ended → (ended ≡ Err errors.NoMemory → out' ≡ out) → (contents : DockContents) → HasLink link_known contents 0 at link → WritesLive rules contents at (clean_ending (live_totals ended)) out_known out out'
  written (Ok totals) ends memory contents has =
      (has.0, has.1, live_report rules valid 1 has.0 (link_known link) (link_known link') (out_known out) (out_known out') has.2 headlines completes (are_clean totals) ends.written)
  written (Err errors.Link) ends memory contents has =
      inr (has.0, has.1, live_given rules valid 1 has.0 (link_known link) (link_known link') (out_known out) (out_known out') has.2 ends)
  written (Err errors.Write) ends memory contents has =
      (has.0, has.1, live_front rules valid 1 has.0 (link_known link) (link_known link') (out_known out) (out_known out') has.2 ends)
  written (Err errors.NoMemory) ends memory contents has = memory refl

  breaks : Ends (Err errors.Link) → (contents : DockContents) → HasLink link_known contents 0 at link → FailsSome rules contents (at ∷ [])
  breaks ends contents has = record {
    k = 0;
    within = omega arith;
    fails = λ d. inr (has.0, has.1, live_breaks rules valid 1 has.0 (link_known link) (link_known link') (out_known out) (out_known out') has.2 ends);
  }

  whole : (totals : Totals) → Ends (Ok totals) → (contents : DockContents) → HasLink link_known contents 0 at link → FailsSome rules contents (at ∷ []) → ⊥
  whole totals ends contents has fails =
      let live = live_report rules valid 1 has.0 (link_known link) (link_known link') (out_known out) (out_known out') has.2 headlines completes (are_clean totals) ends.written in
      report_whole rules contents 0 1 at has.0 live.0 has.1 live.1 (fails_first rules contents at fails)

  -- it fails by the link exactly where the link fails, unless a write failed
  live_exactly : (ended : Result Totals ReceiveError) → Ends ended → (clean_ending (live_totals ended) ≡ Err faults.Write → ⊥) → (contents : DockContents) → HasLink link_known contents 0 at link
      → UnlessMemory (clean_ending (live_totals ended)) ((clean_ending (live_totals ended) ≡ Err faults.Link) ↔ FailsSome rules contents (at ∷ []))
  live_exactly (Ok totals) ends no_write contents has = inr (λ is. absurd (no_fault (are_clean totals) faults.Link is), λ fails. absurd (whole totals ends contents has fails))
  live_exactly (Err errors.Link) ends no_write contents has = inr (λ is. breaks ends contents has, λ fails. refl)
  live_exactly (Err errors.Write) ends no_write contents has = absurd (no_write refl)
  live_exactly (Err errors.NoMemory) ends no_write contents has = inl refl

  pub live_run : NoneBreaksOff → (ended : Result Totals ReceiveError) → Ends ended → (ended ≡ Err errors.NoMemory → out' ≡ out)
      → KnownThrough (dock_known dock) (dock_known dock') (OpensEach rules (at ∷ []) (clean_ending (live_totals ended)) out_known out out') → (dock_known dock').faults ≡ (dock_known dock).faults
      → HasCause (out_known out) (out_known out') (ended ≡ Err errors.Write)
      → ReceiveRun rules (at ∷ []) (clean_ending (live_totals ended)) dock_known dock dock' out_known out out'
  live_run law ended ends memory opens same write_cause =
      receive_run law rules (at ∷ []) (clean_ending (live_totals ended)) dock_known dock dock' out_known out out'
      (ended_kind ended)
      opens
      (docked_weaker (λ contents. HasLink link_known contents 0 at link) (λ contents. WritesLive rules contents at (clean_ending (live_totals ended)) out_known out out') (dock_known dock) (dock_known dock') found
      (written ended ends memory))
      (inr (let read = live_reads rules (link_known link) (link_known link') out_known out out' ended ends in (read.answers, read.reads)))
      (λ any. elim any [
        | inl is ↦ memory (ended_memory ended is)
        | inr several ↦ absurd (several.1 refl)
      ])
      (λ unless. docked_weaker (λ contents. HasLink link_known contents 0 at link) (λ contents. UnlessMemory (clean_ending (live_totals ended)) ((clean_ending (live_totals ended) ≡ Err faults.Link) ↔ FailsSome rules contents (at ∷ []))) (dock_known dock) (dock_known dock') found
      (live_exactly ended ends (unless refl)))
      (inl same)
      (counts_as (ended_write ended) (λ is. ap (λ (x : Result Totals ReceiveError). clean_ending (live_totals x)) is) write_cause)

-- one address
pub one_of : (addresses : List Address) (at : Address) → length addresses ≡ 1 → at ≡ slice_index_or addresses 0 at → addresses ≡ at ∷ []
one_of [] at is same = absurd (omega (arith, is))
one_of (first ∷ []) at is same = ap (λ x. x ∷ []) (sym same)
one_of (first ∷ (other ∷ addresses)) at is same = absurd (omega (arith, is))

-- ---- what was read

-- The only link was opened at this address, what is said was read of it, and it was closed.
pub one_hears : {L : Type 0} (known : L → Known Traffic) (P : List Answer → Type 0) (at : Address) (link link' : L) (a b c : Known DockContents)
    → KnownThrough a b (λ x y. (y ≡ after_openings (at ∷ []) x) × HasLink known x 0 at link)
    → ((start : LinkStart) → (known link).contents ≡ Some (first_traffic start) → WentOver known P link' start)
    → IfBothKnown b c (DockCloses (known link').contents at) → CountsCall (λ (d : DockContents). d.calls) b c
    → KnownThrough a c (HearsEach P (at ∷ []))
one_hears {L} known P at link link' a b c opened went closed counts =
    docks_more (λ x y. (y ≡ after_openings (at ∷ []) x) × HasLink known x 0 at link) (DockCloses (known link').contents at) (HearsEach P (at ∷ [])) a b c opened closed counts
    (λ x y z p q.
    let start : LinkStart = p.1.0 in
    let over = went start p.1.2 in
    let closes : DockCloses (Some over.1.0) at y z = subst (λ t. DockCloses t at y z) over.1.1 q in
    record {
      overs = over.0 ∷ [];
      as_many = refl;
      each = each x start p.1.1 over.0 over.2;
      contents = closes ∙ (ap (λ o. after_close at o y) over.1.2 ∙ ap (after_close at over.0) p.0);
    })
  where
    each : (contents : DockContents) (start : LinkStart) → OpeningFinds contents 0 at start → (over : Over) → LinkHears P start over
        → (k : ℕ) (d : Address) (none : Over) → k < 1 → (s : LinkStart) × OpeningFinds contents k (slice_index_or (at ∷ []) k d) s × LinkHears P s (slice_index_or (over ∷ []) k none)
    each contents start finds over hears zero d none within = (start, finds, hears)
    each contents start finds over hears (suc k) d none within = absurd (omega (arith, within))

module _ {L O : Type 0} (known : L → Known Traffic) (rules : ReceiveOptions) (valid : AreInRange rules) (link link' : L) (start : LinkStart) (out_known : O → Known Output) (out out' : O)
    (contents : (known link).contents ≡ Some (first_traffic start)) where
  -- what the only receiver has read
  pub live_went : (ended : Result Totals ReceiveError) → LinkReportEnds rules 1 (known link) (known link') (out_known out) (out_known out') ended → WentOver known (ReadsLive rules (clean_ending (live_totals ended)) out_known out out') link' start
  live_went ended ends =
      let reads = live_reads rules (known link) (known link') out_known out out' ended ends in
      went_over known (ReadsLive rules (clean_ending (live_totals ended)) out_known out out') link link' start reads.answers contents reads.heard (le_trans reads.few (few_answers rules valid)) reads.reads

-- ---- a run with its totals

module _ (law : NoneBreaksOff) (rules : ReceiveOptions) {D L O : Type 0} (at : Address) (dock_known : D → Known DockContents) (known : L → Known Traffic) (out_known : O → Known Output) where
  -- no opening was made yet
  none_yet : (dock : D) → KnownThrough (dock_known dock) (dock_known dock) (Opened (at ∷ []) 0)
  none_yet dock = Tells-nothing (Opened (at ∷ []) 0) (dock_known dock) (λ x. refl)

  -- it was not opened, for want of memory or since the opening failed
  stops : (dock dock' : D) (fault : Fault) → EndsOpening fault → (fault ≡ faults.NoMemory → dock' ≡ dock)
      → (fault ≡ faults.Link → IfBothKnown (dock_known dock) (dock_known dock') (DockOpens known at opened.Failed))
      → ((fault ≡ faults.NoMemory → ⊥) → CountsCall (λ (d : DockContents). d.calls) (dock_known dock) (dock_known dock'))
      → KnownThrough (dock_known dock) (dock_known dock') (StopsOpening (at ∷ []) fault)
  stops dock dock' fault (inl memory) untouched failed counts =
      subst (λ d. KnownThrough (dock_known dock) (dock_known d) (StopsOpening (at ∷ []) fault)) (sym (untouched memory))
      (Tells-nothing (StopsOpening (at ∷ []) fault) (dock_known dock) (λ x. inl (memory, record { k = 0; within = omega arith; contents = refl })))
  stops dock dock' fault (inr link) untouched failed counts =
      Tells-weaker (Missed (at ∷ []) 0) (StopsOpening (at ∷ []) fault) (dock_known dock) (dock_known dock')
      (missed_now (at ∷ []) 0 at (omega arith) refl known (dock_known dock) (dock_known dock) (dock_known dock') (tt, tt)
      (none_yet dock) (failed link) (counts (λ memory. let one : faults.Link ≡ faults.NoMemory = sym link ∙ memory in cc)))
      (λ x y missed. inr (link, record { k = 0; within = omega arith; fails = missed.0; contents = missed.1 }))

  pub not_opened : (dock dock' : D) (out : O) (fault : Fault) → EndsOpening fault → (fault ≡ faults.NoMemory → dock' ≡ dock)
      → (fault ≡ faults.Link → IfBothKnown (dock_known dock) (dock_known dock') (DockOpens known at opened.Failed))
      → ((fault ≡ faults.NoMemory → ⊥) → CountsCall (λ (d : DockContents). d.calls) (dock_known dock) (dock_known dock'))
      → HasCause (dock_known dock) (dock_known dock') (fault ≡ faults.Link) → CountedLink rules at (Err fault) dock_known dock dock' out_known out out
  not_opened dock dock' out fault ends untouched failed counts cause = record {
    receives = opening_failed law rules (at ∷ []) fault dock_known dock dock' out_known out ends (stops dock dock' fault ends untouched failed counts)
        (counts_as (λ is. inner_fault fault faults.Link is) (λ is. ap Err is) cause);
    totals = tt;
  }

  -- it was opened, read and closed
  pub link_run : (valid : AreInRange rules) (headlines : HeadlinesFollow) (completes : CompletesFollow) (link link' : L) (dock mid dock' : D) (out out' : O) (ended : Result Totals ReceiveError)
      → IfBothKnown (dock_known dock) (dock_known mid) (DockOpens known at (opened.Link link)) → CountsCall (λ (d : DockContents). d.calls) (dock_known dock) (dock_known mid)
      → LinkReportEnds rules 1 (known link) (known link') (out_known out) (out_known out') ended → (ended ≡ Err errors.NoMemory → out' ≡ out)
      → HasCause (out_known out) (out_known out') (ended ≡ Err errors.Write)
      → IfBothKnown (dock_known mid) (dock_known dock') (DockCloses (known link').contents at) → CountsCall (λ (d : DockContents). d.calls) (dock_known mid) (dock_known dock')
      → (dock_known dock').faults ≡ (dock_known dock).faults → CountedLink rules at (live_totals ended) dock_known dock dock' out_known out out'
  link_run valid headlines completes link link' dock mid dock' out out' ended opens opened_counts ends memory write_cause closes closed_counts same =
      let a = dock_known dock in
      let b = dock_known mid in
      let e = dock_known dock' in
      let all : KnownThrough a b (λ x y. y ≡ after_openings (at ∷ []) x) = opened_all (at ∷ []) 1 a b (omega arith) (opened_now (at ∷ []) 0 at (omega arith) refl known link a a b (none_yet dock) opens opened_counts) in
      let found : DockKnownThrough a b (λ contents. HasLink known contents 0 at link) = found_now (at ∷ []) 0 at (omega arith) refl known link a a b (tt, tt) (none_yet dock) opens opened_counts at in
      let both : KnownThrough a b (λ x y. (y ≡ after_openings (at ∷ []) x) × HasLink known x 0 at link) = Tells-both (λ x y. y ≡ after_openings (at ∷ []) x) (λ x _. HasLink known x 0 at link) a b all found in
      let Reads : List Answer → Type 0 = ReadsLive rules (clean_ending (live_totals ended)) out_known out out' in
      record {
        receives = live_run rules valid headlines completes at dock_known dock dock' known link link' out_known out out'
            (docked_still (λ contents. HasLink known contents 0 at link) a b e found closed_counts) law ended ends memory
            (Tells-weaker (HearsEach Reads (at ∷ [])) (OpensEach rules (at ∷ []) (clean_ending (live_totals ended)) out_known out out') a e
            (one_hears known Reads at link link' a b e both (λ start contents. live_went known rules valid link link' start out_known out out' contents ended ends) closes closed_counts)
            (λ x y each. inl each))
            same write_cause;
        totals = counted ended ends both;
      }
    where
      counted : (r : Result Totals ReceiveError) → LinkReportEnds rules 1 (known link) (known link') (out_known out) (out_known out') r
          → KnownThrough (dock_known dock) (dock_known mid) (λ x y. (y ≡ after_openings (at ∷ []) x) × HasLink known x 0 at link)
          → IfOk (live_totals r) (ReportCounted rules 1 (λ answers. KnownThrough (dock_known dock) (dock_known dock') (HearsEach (AreExactly answers) (at ∷ []))) (out_known out) (out_known out'))
      counted (Ok totals) r both =
          heard_as rules (LinkHeard (known link) (known link')) (λ answers. KnownThrough (dock_known dock) (dock_known dock') (HearsEach (AreExactly answers) (at ∷ []))) (out_known out) (out_known out') totals r
          (one_hears known (AreExactly r.written.answers) at link link' (dock_known dock) (dock_known mid) (dock_known dock') both
          (λ start contents. went_over known (AreExactly r.written.answers) link link' start r.written.answers contents r.written.heard (le_trans r.written.few (few_answers rules valid)) refl) closes closed_counts)
      counted (Err errors.Link) r both = tt
      counted (Err errors.Write) r both = tt
      counted (Err errors.NoMemory) r both = tt
