-- From receivers that ended to the whole command.
use Rattle.std.proofs.Common.{◌≡◌, ℕ, zero, suc, ◌+◌, ◌<◌, ◌⊎◌, ◌↔◌, inl, inr, Bool, true, false, IsTrue, List, [], ◌∷◌, ◌++◌, length, map, slice_index_or, take, drop, Some, Result, Ok, Err, refl, sym, ◌∙◌, ap, subst, arith}
use Rattle.std.specs.Prelude.{not}
use Rattle.std.specs.List.{All}
use Rattle.std.proofs.lemmas.List.{take_at, get_or-map, length-map}
use Rattle.std.proofs.lemmas.List.Folds.{flat_map-map}
use Rattle.drm_links.specs.Known.{Known, HasCause, KnownThrough}
use Rattle.drm_links.specs.Link.{Answer, Traffic}
use Rattle.drm_links.specs.Sink.{Output, OutputsText, IsPrefix}
use Rattle.drm_links.specs.Dock.{DockContents, Over, DockKnownThrough, FindsNone, after_openings}
use Rattle.drm_links.specs.declared.dock.Address.{Address}
use Rattle.drm_links.proofs.KnownLemmas.{counts_as, counts_none, OutputsText-weaker, Tells-weaker}
use Rattle.drm_links.proofs.Places.{index_of}
use Rattle.recv_reading.specs.declared.options.ReceiveOptions.{ReceiveOptions}
use Rattle.cmd_faults.specs.declared.fault.Fault.{Fault}
use Rattle.cmd_faults.specs.declared.fault.Fault.TheVariants as faults
use Rattle.recv_report.specs.declared.receiver.Receiver.{Receiver}
use Rattle.recv_reading.specs.Options.{AreInRange}
use Rattle.recv_reading.specs.Ending.{ReadingGoesOn}
use Rattle.recv_report.specs.Received.{IsReport}
use Rattle.recv_report.specs.declared.one_receiver.Ended.{Ended}
use Rattle.recv_report.specs.declared.one_receiver.Ended.TheVariants.{Done, LinkFailed, WriteFailed, NoMemory}
use Rattle.recv_report.specs.Receivers.{HasReceiverEnded, IsReceiverDone, AreReceivers, NoneFailed, clean_of, is_failed}
use Rattle.cmd_receive.specs.Opening.{HaveLinks, EndsOpening, StopsOpening, members_of}
use Rattle.drm_links.specs.Gathering.{after_closes}
use Rattle.drm_links.specs.Members.{HaveGone}
use Rattle.recv_report.specs.Settling.{receiver_texts, ReceiversSettle}
use Rattle.recv_report.specs.declared.stop.ReceiveError.{ReceiveError}
use Rattle.recv_report.specs.declared.stop.ReceiveError.TheVariants as stops
use Rattle.cmd_receive.specs.Stopping.{ending_of}
use Rattle.recv_report.specs.Following.{HeadlinesFollow, CompletesFollow, NoneBreaksOff}
use Rattle.cmd_faults.specs.Fault.{UnlessMemory}
use Rattle.cmd_faults.proofs.CauseLemmas.{inner_fault}
use Rattle.drm_links.specs.Binding.{BindsFew, HearsEach}
use Rattle.cmd_receive.specs.Receive.{AreReports, AreAll, AreBroken, ReadsOne, ReadsBy, all_texts, FailsSome, OpensEach, WritesReports, WritesAll, AreSomeReports, WritesSome, IsLive, ReceiveRun}
use Rattle.drm_links.proofs.BindLemmas.{went_weaker, hears_each}
use Rattle.cmd_receive.proofs.HearingLemmas.{ReadAs, has_read, link_in}
use Rattle.cmd_receive.proofs.ReceiveStatus.{receive_run}
use Rattle.report_text.specs.Reports.{Report}
use Rattle.recv_report.specs.Ahead.{IsReportOf}
use Rattle.drm_links.proofs.OpeningLemmas.{docked_weaker}
use Rattle.cmd_receive.proofs.BreakingOff.{report_whole}
use Rattle.recv_report.proofs.ReceiverLemmas.{report_of, receiver_report, receiver_heard, receiver_breaks, all_reported, SomeFailed, some_failed}

-- ---- what is written

texts_reported : {L : Type 0} (receivers : List (Receiver L)) → receiver_texts receivers ≡ all_texts (map report_of receivers)
texts_reported receivers = sym (flat_map-map (λ (r : Report). r.text) report_of receivers)

-- where all are done their reports are written
pub reports_written : {L O : Type 0} (receivers : List (Receiver L)) (stopped : Result Bool ReceiveError) (are : List Report → Type 0) (known : O → Known Output) (out out' : O)
    → (All IsReceiverDone receivers → are (map report_of receivers)) → ReceiversSettle receivers stopped known out out' → WritesReports are (ending_of stopped) known out out'
reports_written receivers (Ok clean) are known out out' reports settled = (
  map report_of receivers,
  reports settled.0,
  OutputsText-weaker (λ text. text ≡ receiver_texts receivers) (λ text. text ≡ all_texts (map report_of receivers)) (known out) (known out') settled.1 (λ t is. is ∙ texts_reported receivers),
  ((λ clean_is. (all_reported receivers).0 (settled.2.0 clean_is)), (λ all. settled.2.1 ((all_reported receivers).1 all))),
)
reports_written receivers (Err stops.Write) are known out out' reports settled = (
  map report_of receivers,
  reports settled.0,
  subst (λ t. OutputsText (known out) (known out') (IsPrefix t)) (texts_reported receivers) settled.1,
)
reports_written receivers (Err stops.Link) are known out out' reports settled = settled.1
reports_written receivers (Err stops.NoMemory) are known out out' reports settled = settled.2

abbrev of_fault : Fault → Result Bool Fault
of_fault fault = Err fault

abbrev of_clean : Bool → Result Bool Fault
of_clean clean = Ok clean

pub no_fault : (clean : Bool) (fault : Fault) → of_clean clean ≡ of_fault fault → ⊥
no_fault clean fault is = cc

-- how it ends
pub ending_kind : {L O : Type 0} (receivers : List (Receiver L)) (stopped : Result Bool ReceiveError) (known : O → Known Output) (out out' : O) → ReceiversSettle receivers stopped known out out' → (fault : Fault) → ending_of stopped ≡ Err fault
    → (fault ≡ faults.NoMemory) ⊎ ((fault ≡ faults.Link) × (NoneFailed receivers → ⊥)) ⊎ (fault ≡ faults.Write)
ending_kind receivers (Ok clean) known out out' settled fault is = absurd (no_fault clean fault is)
ending_kind receivers (Err stops.Write) known out out' settled fault is = inr (inr (sym (inner_fault faults.Write fault is)))
ending_kind receivers (Err stops.Link) known out out' settled fault is = inr (inl (sym (inner_fault faults.Link fault is), settled.0))
ending_kind receivers (Err stops.NoMemory) known out out' settled fault is = inl (sym (inner_fault faults.NoMemory fault is))

-- a failed write is one of the run
pub write_is : (stopped : Result Bool ReceiveError) → ending_of stopped ≡ Err faults.Write → stopped ≡ Err stops.Write
write_is (Ok clean) is = absurd (no_fault clean faults.Write is)
write_is (Err stops.Write) is = refl
write_is (Err stops.Link) is = let one : faults.Link ≡ faults.Write = inner_fault faults.Link faults.Write is in absurd cc
write_is (Err stops.NoMemory) is = let one : faults.NoMemory ≡ faults.Write = inner_fault faults.NoMemory faults.Write is in absurd cc

settled_unwritten : {L O : Type 0} (receivers : List (Receiver L)) (stopped : Result Bool ReceiveError) (known : O → Known Output) (out out' : O) → ReceiversSettle receivers stopped known out out'
    → (ending_of stopped ≡ Err faults.NoMemory) ⊎ (ending_of stopped ≡ Err faults.Link) → out' ≡ out
settled_unwritten receivers (Ok clean) known out out' settled (inl is) = absurd (no_fault clean faults.NoMemory is)
settled_unwritten receivers (Ok clean) known out out' settled (inr is) = absurd (no_fault clean faults.Link is)
settled_unwritten receivers (Err stops.Write) known out out' settled (inl is) = let one : faults.Write ≡ faults.NoMemory = inner_fault faults.Write faults.NoMemory is in absurd cc
settled_unwritten receivers (Err stops.Write) known out out' settled (inr is) = let one : faults.Write ≡ faults.Link = inner_fault faults.Write faults.Link is in absurd cc
settled_unwritten receivers (Err stops.Link) known out out' settled any = settled.1
settled_unwritten receivers (Err stops.NoMemory) known out out' settled any = settled.2

either : {P Q R : Type 0} → P ⊎ (Q × R) → P ⊎ Q
either (inl p) = inl p
either (inr q) = inr q.0

-- what is written of several links
all_several : {O : Type 0} (rules : ReceiveOptions) (contents : DockContents) (addresses : List Address) (ending : Result Bool Fault) (known : O → Known Output) (out out' : O) → (IsLive addresses → ⊥)
    → WritesReports (AreReports rules contents addresses) ending known out out' → WritesAll rules contents addresses ending known out out'
all_several rules contents [] ending known out out' several writes = writes
all_several rules contents (at ∷ []) ending known out out' several writes = absurd (several refl)
all_several rules contents (at ∷ (other ∷ addresses)) ending known out out' several writes = writes

some_several : {O : Type 0} (rules : ReceiveOptions) (addresses : List Address) (ending : Result Bool Fault) (known : O → Known Output) (out out' : O) → (IsLive addresses → ⊥)
    → WritesReports (AreSomeReports rules (length addresses)) ending known out out' → WritesSome rules addresses ending known out out'
some_several rules [] ending known out out' several writes = writes
some_several rules (at ∷ []) ending known out out' several writes = absurd (several refl)
some_several rules (at ∷ (other ∷ addresses)) ending known out out' several writes = writes

-- what is read of one of several
several_by : {O : Type 0} (rules : ReceiveOptions) (addresses : List Address) (ending : Result Bool Fault) (known : O → Known Output) (out out' : O) → (IsLive addresses → ⊥)
    → (answers : List Answer) → ReadsOne rules ending answers → ReadsBy rules addresses ending known out out' answers
several_by rules [] ending known out out' several answers reads = reads
several_by rules (at ∷ []) ending known out out' several answers reads = absurd (several refl)
several_by rules (at ∷ (other ∷ addresses)) ending known out out' several answers reads = reads

inner_some : (x y : Ended) → Some x ≡ Some y → x ≡ y
inner_some x y is = cc

whole_of : (rules : ReceiveOptions) (ended : Ended) (clean : Bool) → ended ≡ Done clean → (answers : List Answer) → ReadAs rules ended answers → AreAll rules answers
whole_of rules ended clean is answers read = subst (λ e. ReadAs rules e answers) is read

any_of : (rules : ReceiveOptions) (ended : Ended) (answers : List Answer) → ReadAs rules ended answers → ReadingGoesOn rules answers ⊎ AreBroken rules answers
any_of rules (Done clean) answers read = inl read.1.goes_on
any_of rules LinkFailed answers read = inr read
any_of rules WriteFailed answers read = inl read
any_of rules NoMemory answers read = inl read

sound_of : (rules : ReceiveOptions) (ended : Ended) → IsTrue (not (is_failed (Some ended))) → (answers : List Answer) → ReadAs rules ended answers → ReadingGoesOn rules answers
sound_of rules (Done clean) up answers read = read.1.goes_on
sound_of rules LinkFailed up answers read = absurd (let same : false ≡ true = up in cc)
sound_of rules WriteFailed up answers read = read
sound_of rules NoMemory up answers read = read

-- all are done, where the texts are written
all_done : {L O : Type 0} (receivers : List (Receiver L)) (stopped : Result Bool ReceiveError) (known : O → Known Output) (out out' : O) → ReceiversSettle receivers stopped known out out'
    → (ending_of stopped ≡ Err faults.Link → ⊥) → (ending_of stopped ≡ Err faults.NoMemory → ⊥) → All IsReceiverDone receivers
all_done receivers (Ok clean) known out out' settled link memory = settled.0
all_done receivers (Err stops.Write) known out out' settled link memory = settled.0
all_done receivers (Err stops.Link) known out out' settled link memory = absurd (link refl)
all_done receivers (Err stops.NoMemory) known out out' settled link memory = absurd (memory refl)

-- ---- receivers that were opened and ran

pub record Ran {L : Type 0} (link_known : L → Known Traffic) (rules : ReceiveOptions) (many : ℕ) (before after : List (Receiver L)) : Type 0 where
  pub size : length before ≡ many
  pub still : length after ≡ length before
  pub receivers : AreReceivers rules many before
  pub ended : (k : ℕ) (d : Receiver L) → k < length before → HasReceiverEnded link_known (slice_index_or before k d) (slice_index_or after k d)

module _ {L : Type 0} (link_known : L → Known Traffic) (rules : ReceiveOptions) (valid : AreInRange rules) (headlines : HeadlinesFollow) (completes : CompletesFollow) (addresses : List Address) (before after : List (Receiver L)) (ran : Ran link_known rules (length addresses) before after) where
  are_reports : (contents : DockContents) → HaveLinks link_known contents addresses before → All IsReceiverDone after → AreReports rules contents addresses (map report_of after)
  are_reports contents links done = record {
    as_many = length-map after report_of ∙ ran.still ∙ ran.size;
    each = λ k at none within.
        let first : k < length before = (let size = ran.size in omega (arith, size, within)) in
        let last : k < length after = (let still = ran.still in omega (arith, still, first)) in
        let d : Receiver L = (index_of after k last).0 in
        let link = links k at d within in
        let report : IsReportOf rules (k + 1) link.0.ahead (report_of (slice_index_or after k d)) =
        receiver_report link_known rules (k + 1) (slice_index_or before k d) (slice_index_or after k d) (ran.receivers k d within) (ran.ended k d first) valid link.0 link.2 headlines completes (done k d last) in
        (link.0, link.1, subst (λ r. IsReportOf rules (k + 1) link.0.ahead r) (sym (get_or-map report_of after k d none last)) report);
  }

  some_reports : All IsReceiverDone after → AreSomeReports rules (length addresses) (map report_of after)
  some_reports done = record {
    as_many = length-map after report_of ∙ ran.still ∙ ran.size;
    each = λ k none within.
        let first : k < length before = (let size = ran.size in omega (arith, size, within)) in
        let last : k < length after = (let still = ran.still in omega (arith, still, first)) in
        let d : Receiver L = (index_of after k last).0 in
        let (answers, report) = receiver_heard link_known rules (k + 1) (slice_index_or before k d) (slice_index_or after k d) (ran.receivers k d within) (ran.ended k d first) (done k d last) in
        (answers, subst (λ (r : Report). IsReport rules (k + 1) answers r.text r.clean) (sym (get_or-map report_of after k d none last)) report);
  }

  none_fails : (contents : DockContents) (reports : List Report) → AreReports rules contents addresses reports → FailsSome rules contents addresses → ⊥
  none_fails contents reports are fails =
      let at : Address = record { ip = []; port = 0 } in
      let none : Report = record { text = []; clean = false } in
      let each = are.each fails.k at none fails.within in
      report_whole rules contents fails.k (fails.k + 1) (slice_index_or addresses fails.k at) each.0 (slice_index_or reports fails.k none) each.1 each.2 (fails.fails at)

  fails_some : (contents : DockContents) → HaveLinks link_known contents addresses before → SomeFailed after → FailsSome rules contents addresses
  fails_some contents links some =
      let last : some.0 < length after = some.1 in
      let first : some.0 < length before = (let still = ran.still in omega (arith, still, last)) in
      let within : some.0 < length addresses = (let size = ran.size in omega (arith, size, first)) in
      let d : Receiver L = (index_of after some.0 last).0 in
      record {
        k = some.0;
        within = within;
        fails = λ at.
            let link = links some.0 at d within in
            inr (
              link.0,
              link.1,
              receiver_breaks link_known rules (some.0 + 1) (slice_index_or before some.0 d) (slice_index_or after some.0 d) (ran.receivers some.0 d within) (ran.ended some.0 d first) valid link.0 link.2 (some.2 d),
            );
      }

  failed_where : (NoneFailed after → ⊥) → SomeFailed after
  failed_where some = elim (some_failed after) [
    | inl none ↦ absurd (some none)
    | inr failed ↦ failed
  ]

  -- it fails by a link exactly where one fails
  settled_exactly : {O : Type 0} (stopped : Result Bool ReceiveError) (known : O → Known Output) (out out' : O) → ReceiversSettle after stopped known out out' → (contents : DockContents) → HaveLinks link_known contents addresses before
      → UnlessMemory (ending_of stopped) ((ending_of stopped ≡ Err faults.Link) ↔ FailsSome rules contents addresses)
  settled_exactly (Ok clean) known out out' settled contents has = inr (
    λ is. absurd (no_fault clean faults.Link is),
    λ fails. absurd (none_fails contents (map report_of after) (are_reports contents has settled.0) fails),
  )
  settled_exactly (Err stops.Write) known out out' settled contents has = inr (
    λ is. absurd (let one : faults.Write ≡ faults.Link = inner_fault faults.Write faults.Link is in cc),
    λ fails. absurd (none_fails contents (map report_of after) (are_reports contents has settled.0) fails),
  )
  settled_exactly (Err stops.Link) known out out' settled contents has = inr (λ is. fails_some contents has (failed_where settled.0), λ fails. refl)
  settled_exactly (Err stops.NoMemory) known out out' settled contents has = inl refl

  -- what each link has read, by how all of them ended
  read_by : {O : Type 0} (stopped : Result Bool ReceiveError) (known : O → Known Output) (out out' : O) → ReceiversSettle after stopped known out out' → (k : ℕ) (d : Receiver L) → k < length after
      → (ended : Ended) → (slice_index_or after k d).ended ≡ Some ended → (answers : List Answer) → ReadAs rules ended answers → ReadsOne rules (ending_of stopped) answers
  read_by (Ok clean) known out out' settled k d within ended is answers read = whole_of rules ended (clean_of (slice_index_or after k d)) (inner_some ended (Done (clean_of (slice_index_or after k d))) (sym is ∙ (settled.0 k d within).0)) answers read
  read_by (Err stops.Write) known out out' settled k d within ended is answers read = whole_of rules ended (clean_of (slice_index_or after k d)) (inner_some ended (Done (clean_of (slice_index_or after k d))) (sym is ∙ (settled.0 k d within).0)) answers read
  read_by (Err stops.Link) known out out' settled k d within ended is answers read = any_of rules ended answers read
  read_by (Err stops.NoMemory) known out out' settled k d within ended is answers read = sound_of rules ended (subst (λ o. IsTrue (not (is_failed o))) is (settled.0 k d within)) answers read

  -- Each link was opened, what is said was read of it, and it was closed.
  pub settled_hears : {O : Type 0} (stopped : Result Bool ReceiveError) (known : O → Known Output) (out out' : O) (a b c : Known DockContents) → ReceiversSettle after stopped known out out' → (IsLive addresses → ⊥)
      → KnownThrough a b (λ x y. y ≡ after_openings addresses x) → DockKnownThrough a b (λ contents. HaveLinks link_known contents addresses before)
      → KnownThrough b c (λ x y. (overs : List Over) → HaveGone link_known (members_of after) overs → y ≡ after_closes overs addresses x)
      → KnownThrough a c (OpensEach rules addresses (ending_of stopped) known out out')
  settled_hears stopped known out out' a b c settled several opened links closed =
      let P : List Answer → Type 0 = ReadsBy rules addresses (ending_of stopped) known out out' in
      Tells-weaker (HearsEach P addresses) (OpensEach rules addresses (ending_of stopped) known out out') a c
      (hears_each link_in link_known P addresses before after ran.size (ran.still ∙ ran.size) a b c opened links
      (λ k d start within contents.
      let first : k < length before = (let size = ran.size in omega (arith, size, within)) in
      let last : k < length after = (let still = ran.still in omega (arith, still, first)) in
      let r = has_read link_known rules valid (k + 1) start (slice_index_or before k d) (slice_index_or after k d) (ran.receivers k d within) contents (ran.ended k d first) in
      went_weaker link_known (ReadAs rules r.0) P (slice_index_or after k d).link start
      (λ answers read. several_by rules addresses (ending_of stopped) known out out' several answers (read_by stopped known out out' settled k d last r.0 r.1 answers read))
      r.2)
      closed)
      (λ x y each. inl each)

  pub settled_run : NoneBreaksOff → {D O : Type 0} (stopped : Result Bool ReceiveError) (dock_known : D → Known DockContents) (dock dock' : D)
      (out_known : O → Known Output) (out out' : O)
      → DockKnownThrough (dock_known dock) (dock_known dock') (λ contents. HaveLinks link_known contents addresses before)
      → KnownThrough (dock_known dock) (dock_known dock') (OpensEach rules addresses (ending_of stopped) out_known out out') → (dock_known dock').faults ≡ (dock_known dock).faults
      → (IsLive addresses → ⊥) → ReceiversSettle after stopped out_known out out' → HasCause (out_known out) (out_known out') (stopped ≡ Err stops.Write)
      → ReceiveRun rules addresses (ending_of stopped) dock_known dock dock' out_known out out'
  settled_run law stopped dock_known dock dock' out_known out out' links opens same several settled cause =
      receive_run law rules addresses (ending_of stopped) dock_known dock dock' out_known out out'
      (λ fault is.
      elim (ending_kind after stopped out_known out out' settled fault is) [
        | inl memory ↦ inl memory
        | inr rest ↦ elim rest [
          | inl link ↦ inr (inl link.0)
          | inr write ↦ inr (inr write)
        ]
      ])
      opens
      (docked_weaker (λ contents. HaveLinks link_known contents addresses before) (λ contents. WritesAll rules contents addresses (ending_of stopped) out_known out out') (dock_known dock) (dock_known dock') links
      (λ contents has. all_several rules contents addresses (ending_of stopped) out_known out out' several (reports_written after stopped (AreReports rules contents addresses) out_known out out' (are_reports contents has) settled)))
      (some_several rules addresses (ending_of stopped) out_known out out' several (reports_written after stopped (AreSomeReports rules (length addresses)) out_known out out' some_reports settled))
      (λ any. settled_unwritten after stopped out_known out out' settled (either any))
      (λ unless. docked_weaker (λ contents. HaveLinks link_known contents addresses before) (λ contents. UnlessMemory (ending_of stopped) ((ending_of stopped ≡ Err faults.Link) ↔ FailsSome rules contents addresses)) (dock_known dock) (dock_known dock') links
      (settled_exactly stopped out_known out out' settled))
      (inl same)
      (counts_as (write_is stopped) (λ is. ap ending_of is) cause)

-- ---- a run that ends while links are opened

none_found : (contents : DockContents) (at : Address) (k : ℕ) → k < 1 → FindsNone contents k (slice_index_or (at ∷ []) k at) → FindsNone contents 0 at
none_found contents at zero within none = none
none_found contents at (suc k) within none = absurd (omega (arith, within))

unwritten_memory : {O : Type 0} (rules : ReceiveOptions) (contents : DockContents) (addresses : List Address) (known : O → Known Output) (out : O) → WritesAll rules contents addresses (Err faults.NoMemory) known out out
unwritten_memory rules contents [] known out = refl
unwritten_memory rules contents (at ∷ []) known out = refl
unwritten_memory rules contents (at ∷ (other ∷ addresses)) known out = refl

unwritten_link : {O : Type 0} (rules : ReceiveOptions) (contents after : DockContents) (addresses : List Address) (known : O → Known Output) (out : O) → BindsFew addresses contents after → WritesAll rules contents addresses (Err faults.Link) known out out
unwritten_link rules contents after [] known out fails = refl
unwritten_link rules contents after (at ∷ []) known out fails = inl (none_found contents at fails.k fails.within (fails.fails at), refl)
unwritten_link rules contents after (at ∷ (other ∷ addresses)) known out fails = refl

not_link : (fault : Fault) → fault ≡ faults.NoMemory → of_fault fault ≡ Err faults.Link → ⊥
not_link fault memory is = let one : faults.NoMemory ≡ faults.Link = sym memory ∙ inner_fault fault faults.Link is in cc

not_write : (fault : Fault) → EndsOpening fault → of_fault fault ≡ Err faults.Write → ⊥
not_write fault (inl memory) is = let one : faults.NoMemory ≡ faults.Write = sym memory ∙ inner_fault fault faults.Write is in cc
not_write fault (inr link) is = let one : faults.Link ≡ faults.Write = sym link ∙ inner_fault fault faults.Write is in cc

opening_kind : (fault other : Fault) → EndsOpening fault → of_fault fault ≡ Err other → (other ≡ faults.NoMemory) ⊎ (other ≡ faults.Link) ⊎ (other ≡ faults.Write)
opening_kind fault other (inl memory) is = inl (sym (inner_fault fault other is) ∙ memory)
opening_kind fault other (inr link) is = inr (inl (sym (inner_fault fault other is) ∙ link))

module _ {O : Type 0} (rules : ReceiveOptions) (addresses : List Address) (fault : Fault) (out_known : O → Known Output) (out : O) (contents after : DockContents) where
  opens_each : StopsOpening addresses fault contents after → OpensEach rules addresses (Err fault) out_known out out contents after
  opens_each (inl (memory, stops)) = inr (inr (ap Err memory, stops))
  opens_each (inr (link, fails)) = inr (inl (ap Err link, fails))

  nothing_written : StopsOpening addresses fault contents after → WritesAll rules contents addresses (Err fault) out_known out out
  nothing_written (inl (memory, stops)) = subst (λ f. WritesAll rules contents addresses (Err f) out_known out out) (sym memory) (unwritten_memory rules contents addresses out_known out)
  nothing_written (inr (link, fails)) = subst (λ f. WritesAll rules contents addresses (Err f) out_known out out) (sym link) (unwritten_link rules contents after addresses out_known out fails)

  fails_exactly : StopsOpening addresses fault contents after → UnlessMemory (of_fault fault) ((of_fault fault ≡ Err faults.Link) ↔ FailsSome rules contents addresses)
  fails_exactly (inl (memory, stops)) = inl (ap Err memory)
  fails_exactly (inr (link, fails)) = inr (λ is. record { k = fails.k; within = fails.within; fails = λ at. inl (fails.fails at) }, λ any. ap Err link)

-- nothing is written, whatever the dock tells
some_unwritten : {O : Type 0} (rules : ReceiveOptions) (addresses : List Address) (fault : Fault) (known : O → Known Output) (out : O) → EndsOpening fault → WritesSome rules addresses (Err fault) known out out
some_unwritten rules addresses fault known out (inl memory) = subst (λ f. WritesSome rules addresses (Err f) known out out) (sym memory) (by addresses)
  where
    by : (addresses : List Address) → WritesSome rules addresses (Err faults.NoMemory) known out out
    by [] = refl
    by (at ∷ []) = inr ([], refl)
    by (at ∷ (other ∷ addresses)) = refl
some_unwritten rules addresses fault known out (inr link) = subst (λ f. WritesSome rules addresses (Err f) known out out) (sym link) (by addresses)
  where
    by : (addresses : List Address) → WritesSome rules addresses (Err faults.Link) known out out
    by [] = refl
    by (at ∷ []) = inl (refl, refl)
    by (at ∷ (other ∷ addresses)) = refl

pub opening_failed : NoneBreaksOff → {D O : Type 0} (rules : ReceiveOptions) (addresses : List Address) (fault : Fault) (dock_known : D → Known DockContents) (dock dock' : D)
    (out_known : O → Known Output) (out : O)
    → EndsOpening fault → KnownThrough (dock_known dock) (dock_known dock') (StopsOpening addresses fault) → HasCause (dock_known dock) (dock_known dock') (of_fault fault ≡ Err faults.Link)
    → ReceiveRun rules addresses (Err fault) dock_known dock dock' out_known out out
opening_failed law rules addresses fault dock_known dock dock' out_known out ends stopped cause =
    let a = dock_known dock in
    let b = dock_known dock' in
    receive_run law rules addresses (Err fault) dock_known dock dock' out_known out out
    (λ other is. opening_kind fault other ends is)
    (Tells-weaker (StopsOpening addresses fault) (OpensEach rules addresses (Err fault) out_known out out) a b stopped (opens_each rules addresses fault out_known out))
    (Tells-weaker (StopsOpening addresses fault) (λ contents _. WritesAll rules contents addresses (Err fault) out_known out out) a b stopped (nothing_written rules addresses fault out_known out))
    (some_unwritten rules addresses fault out_known out ends)
    (λ any. refl)
    (λ unless. Tells-weaker (StopsOpening addresses fault) (λ contents _. UnlessMemory (of_fault fault) ((of_fault fault ≡ Err faults.Link) ↔ FailsSome rules contents addresses)) a b stopped (fails_exactly rules addresses fault out_known out))
    (elim ends [ inl memory ↦ inl (cause.same (λ is. not_link fault memory is)) | inr link ↦ inr (ap Err link, cause.once (ap Err link)) ])
    (counts_none (not_write fault ends) refl)

-- what a vector holds after its slice was lent
pub written_back : {X : Type 0} (n : ℕ) (xs ys zs : List X) → n ≡ length xs → zs ≡ take n (xs ++ drop (length xs) ys) → zs ≡ xs
written_back n xs ys zs size is = is ∙ take_at xs (drop (length xs) ys) n (sym size)
