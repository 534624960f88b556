-- Runs by how they end.
use Rattle.std.proofs.Common.{◌≡◌, ℕ, ◌⊎◌, ◌↔◌, inl, inr, Bool, List, length, slice_index_or, Result, Ok, Err, refl, sym, ◌∙◌, ap, subst, arith, le_trans}
use Rattle.drm_links.specs.Known.{Known, HasFailed, HasCause, KnownThrough}
use Rattle.drm_links.specs.Link.{Answer, Traffic}
use Rattle.drm_links.specs.Sink.{Output, OutputsText, IsPrefix}
use Rattle.drm_links.specs.Dock.{DockContents, DockKnownThrough}
use Rattle.drm_links.proofs.KnownLemmas.{counts_none, Tells-nothing, Tells-weaker}
use Rattle.cmd_faults.specs.Causes.{OpeningFailed}
use Rattle.report_text.specs.Reports.{Report}
use Rattle.drm_links.proofs.OpeningLemmas.{docked_both, docked_weaker}
use Rattle.drm_links.specs.Binding.{HearsEach, BindsFew}
use Rattle.drm_links.proofs.BindLemmas.{docked_then, went_over, hears_each}
use Rattle.cli_paths.specs.declared.request.PathsRequest.{PathsRequest}
use Rattle.report_journal.specs.Journal.{datagrams}
use Rattle.report_journal.specs.Report.{IsReportOf}
use Rattle.drm_paths.specs.declared.run.PathOptions.{PathOptions}
use Rattle.drm_paths.specs.declared.run.PathEnded.{PathEnded}
use Rattle.drm_paths.specs.declared.run.PathEnded.TheVariants as ended
use Rattle.drm_paths.specs.Reading.{PathEnds}
use Rattle.cmd_paths.specs.declared.fault.PathsFault.{PathsFault}
use Rattle.cmd_paths.specs.declared.fault.PathsFault.TheVariants as faults
use Rattle.cmd_paths.specs.Opening.{HaveLinks, IsClosed}
use Rattle.cmd_paths.specs.Run.{settings_in, options_in, IsPathsRequestInRange, AreEntries, AreOfPaths, FailsSome, DiffersAt, WritesReport, WroteReport, IsDiffering, AreAll, AreCut, AreBroken, ReadsBy, OpensEach, PathsRun}
use Rattle.drm_paths.specs.State.{PathState}
use Rattle.cmd_paths.specs.Links.{EndsLinks, PathFaultFits, RunsOver, RunsLinks}
use Rattle.cmd_paths.specs.Links as Links
use Rattle.cmd_paths.proofs.Finding.{entries_ahead, entries_of_paths, fails_ahead, none_fails, differ_ahead}
use Rattle.cmd_paths.proofs.Hearing.{few_answers}
use Rattle.cmd_paths.proofs.Opening.{itself}

-- it fails by a link exactly where some link does, unless memory runs out
abbrev Exactly : PathsRequest → Result Bool PathsFault → DockContents → Type 0
Exactly request ending contents = (ending ≡ Err faults.NoMemory) ⊎ ((ending ≡ Err faults.Link) ↔ FailsSome request contents)

abbrev Done : {O : Type 0} → PathsRequest → Result Bool PathsFault → (O → Known Output) → O → O → DockContents → Type 0
Done request ending known out out' contents =
    (FailsSome request contents → ⊥) → (ending ≡ Err faults.NoMemory) ⊎ (IsDiffering ending ⊎ WroteReport (settings_in request) (AreEntries request contents) ending known out out')

done_by : {O : Type 0} (request : PathsRequest) (ending : Result Bool PathsFault) (known : O → Known Output) (out out' : O) (contents : DockContents)
    → (ending ≡ Err faults.Words → ⊥) → (ending ≡ Err faults.Write → ⊥) → WritesReport (settings_in request) (AreEntries request contents) ending known out out'
    → Exactly request ending contents → Done request ending known out out' contents
done_by request (Ok clean) known out out' contents words write writes exactly none = inr (inr (clean, refl, writes))
done_by request (Err faults.NoMemory) known out out' contents words write writes exactly none = inl refl
done_by request (Err faults.Words) known out out' contents words write writes exactly none = absurd (words refl)
done_by request (Err faults.Write) known out out' contents words write writes exactly none = absurd (write refl)
done_by request (Err faults.Link) known out out' contents words write writes (inl memory) none = inl memory
done_by request (Err faults.Link) known out out' contents words write writes (inr both) none = absurd (none (both.0 refl))
done_by request (Err (faults.Differs path at)) known out out' contents words write writes exactly none = inr (inl (path, at, refl))

-- what follows from the rest: where nothing fails the report is written
pub paths_run : {D O : Type 0} (request : PathsRequest) (ending : Result Bool PathsFault) (dock_known : D → Known DockContents) (dock dock' : D) (out_known : O → Known Output) (out out' : O)
    → (ending ≡ Err faults.Words → ⊥)
    → KnownThrough (dock_known dock) (dock_known dock') (OpensEach request ending)
    → DockKnownThrough (dock_known dock) (dock_known dock') (λ contents. WritesReport (settings_in request) (AreEntries request contents) ending out_known out out')
    → WritesReport (settings_in request) (AreOfPaths request) ending out_known out out'
    → ((fault : PathsFault) → ending ≡ Err fault → (fault ≡ faults.Write → ⊥) → out' ≡ out)
    → DockKnownThrough (dock_known dock) (dock_known dock') (Exactly request ending)
    → DockKnownThrough (dock_known dock) (dock_known dock') (λ contents. (path at : ℕ) → ending ≡ Err (faults.Differs path at) → DiffersAt request contents path at)
    → OpeningFailed (dock_known dock) (dock_known dock') (ending ≡ Err faults.Link)
    → HasCause (out_known out) (out_known out') (ending ≡ Err faults.Write)
    → PathsRun request ending dock_known dock dock' out_known out out'
paths_run request ending dock_known dock dock' out_known out out' kind opens writes sound unwritten exactly differs dock_cause cause =
    let W : DockContents → Type 0 = λ contents. WritesReport (settings_in request) (AreEntries request contents) ending out_known out out' in
    let E : DockContents → Type 0 = Exactly request ending in
    let a = dock_known dock in
    let b = dock_known dock' in
    record {
      kind = kind;
      opens = opens;
      writes = writes;
      sound = sound;
      unwritten = unwritten;
      exactly = exactly;
      differs = differs;
      complete = λ taken. docked_weaker (λ contents. W contents × E contents) (Done request ending out_known out out') a b (docked_both W E a b writes exactly)
          (λ contents both. done_by request ending out_known out out' contents kind (λ is. taken (cause.once is)) both.0 both.1);
      dock_cause = dock_cause;
      write_cause = cause;
    }

-- ---- an opening failed, or there was no memory to begin with

other_fault : (fault other : PathsFault) → (let e : Result Bool PathsFault = Err fault in e) ≡ Err other → fault ≡ other
other_fault fault other is = cc

pub opening_failed : {D O : Type 0} (request : PathsRequest) (dock_known : D → Known DockContents) (dock dock' : D) (out_known : O → Known Output) (out : O)
    → KnownThrough (dock_known dock) (dock_known dock') (BindsFew request.addresses) → HasFailed (dock_known dock) (dock_known dock')
    → PathsRun request (Err faults.Link) dock_known dock dock' out_known out out
opening_failed request dock_known dock dock' out_known out few failed =
    let a = dock_known dock in
    let b = dock_known dock' in
    paths_run request (Err faults.Link) dock_known dock dock' out_known out out
    (λ is. cc)
    (Tells-weaker (BindsFew request.addresses) (OpensEach request (Err faults.Link)) a b few (λ x y binds. inr (inl (refl, binds))))
    (Tells-weaker (BindsFew request.addresses) (λ contents _. WritesReport (settings_in request) (AreEntries request contents) (Err faults.Link) out_known out out) a b few (λ x y binds. refl))
    refl
    (λ other is any. refl)
    (Tells-weaker (BindsFew request.addresses) (λ contents _. Exactly request (Err faults.Link) contents) a b few
    (λ x y binds. inr (λ is. record { k = binds.k; within = binds.within; fails = λ at. inl (binds.fails at) }, λ any. refl)))
    (Tells-weaker (BindsFew request.addresses) (λ contents _. (path at : ℕ) → (let e : Result Bool PathsFault = Err faults.Link in e) ≡ Err (faults.Differs path at) → DiffersAt request contents path at) a b few
    (λ x y binds path at is. absurd (cc)))
    (inr (refl, failed))
    (counts_none (λ is. cc) refl)

-- what holds of what a dock tells that wasn't touched
untouched : (P : DockContents → DockContents → Type 0) (a b : Known DockContents) → b ≡ a → ((x : DockContents) → P x x) → KnownThrough a b P
untouched P a b same holds = subst (λ m. KnownThrough a m P) (sym same) (Tells-nothing P a holds)

pub not_begun : {D O : Type 0} (request : PathsRequest) (dock_known : D → Known DockContents) (dock dock' : D) (out_known : O → Known Output) (out : O)
    → dock_known dock' ≡ dock_known dock → PathsRun request (Err faults.NoMemory) dock_known dock dock' out_known out out
not_begun request dock_known dock dock' out_known out same =
    let a = dock_known dock in
    let b = dock_known dock' in
    paths_run request (Err faults.NoMemory) dock_known dock dock' out_known out out
    (λ is. cc)
    (untouched (OpensEach request (Err faults.NoMemory)) a b same (λ x. inr (inr (refl, refl))))
    (untouched (λ contents _. WritesReport (settings_in request) (AreEntries request contents) (Err faults.NoMemory) out_known out out) a b same (λ x. refl))
    refl
    (λ other is any. refl)
    (untouched (λ contents _. Exactly request (Err faults.NoMemory) contents) a b same (λ x. inl refl))
    (untouched (λ contents _. (path at : ℕ) → (let e : Result Bool PathsFault = Err faults.NoMemory in e) ≡ Err (faults.Differs path at) → DiffersAt request contents path at) a b same (λ x path at is. absurd (cc)))
    (inl (ap (λ (k : Known DockContents). k.faults) same))
    (counts_none (λ is. cc) refl)

-- ---- what is read of each link

either_end : (options : PathOptions) (why : PathEnded) → (why ≡ ended.Idle) ⊎ (why ≡ ended.Limit) → (answers : List Answer) (taken : List (List ℕ)) → PathEnds options answers taken why → AreAll options answers
either_end options why (inl idle) answers taken ends = (taken, inl (subst (λ w. PathEnds options answers taken w) idle ends))
either_end options why (inr limit) answers taken ends = (taken, inr (subst (λ w. PathEnds options answers taken w) limit ends))

reads_link : (options : PathOptions) (why : PathEnded) (answers : List Answer) (taken : List (List ℕ)) → PathEnds options answers taken why → AreAll options answers ⊎ AreCut options answers ⊎ AreBroken options answers
reads_link options ended.Idle answers taken ends = inl (taken, inl ends)
reads_link options ended.Limit answers taken ends = inl (taken, inr ends)
reads_link options ended.NoMemory answers taken ends = inr (inl (taken, ends))
reads_link options ended.LinkFailed answers taken ends = inr (inr (taken, ends))

reads_memory : (options : PathOptions) (why : PathEnded) → (why ≡ ended.LinkFailed → ⊥) → (answers : List Answer) (taken : List (List ℕ)) → PathEnds options answers taken why → AreAll options answers ⊎ AreCut options answers
reads_memory options ended.Idle sound answers taken ends = inl (taken, inl ends)
reads_memory options ended.Limit sound answers taken ends = inl (taken, inr ends)
reads_memory options ended.NoMemory sound answers taken ends = inr (taken, ends)
reads_memory options ended.LinkFailed sound answers taken ends = absurd (sound refl)

reads_fault : (options : PathOptions) (fault : PathsFault) (why : PathEnded) → PathFaultFits (let r : Result Report PathsFault = Err fault in r) why → (answers : List Answer) (taken : List (List ℕ)) → PathEnds options answers taken why
    → ReadsBy options (Err fault) answers
reads_fault options faults.Link why fits answers taken ends = reads_link options why answers taken ends
reads_fault options faults.NoMemory why fits answers taken ends = reads_memory options why fits answers taken ends
reads_fault options faults.Words why fits answers taken ends = either_end options why fits answers taken ends
reads_fault options faults.Write why fits answers taken ends = either_end options why fits answers taken ends
reads_fault options (faults.Differs path at) why fits answers taken ends = either_end options why fits answers taken ends

-- ---- all links were opened

module _ {D O L : Type 0} (request : PathsRequest) (range : IsPathsRequestInRange request) (dock_known : D → Known DockContents) (dock dock' : D) (out_known : O → Known Output) (known : L → Known Traffic)
    (result : Result Report PathsFault) (run : RunsOver request known result (dock_known dock) (dock_known dock')) where
  abbrev links : List L
  links = run.links

  many : length links ≡ length request.addresses
  many = run.many

  still : (dock_known dock').faults ≡ (dock_known dock).faults
  still = run.still

  have : DockKnownThrough (dock_known dock) (dock_known dock') (λ contents. HaveLinks known contents request.addresses links)
  have = docked_then (λ contents. HaveLinks known contents request.addresses links) (IsClosed known request.addresses run.read.last) (dock_known dock) run.mid (dock_known dock') run.have run.read.closed

  then_docked : (P : DockContents → Type 0) → ((contents : DockContents) → HaveLinks known contents request.addresses links → P contents) → DockKnownThrough (dock_known dock) (dock_known dock') P
  then_docked P then_is = docked_weaker (λ contents. HaveLinks known contents request.addresses links) P (dock_known dock) (dock_known dock') have then_is

  -- what was read of each link
  opens : (ending : Result Bool PathsFault)
      → ((why : PathEnded) → PathFaultFits result why → (answers : List Answer) (taken : List (List ℕ)) → PathEnds (options_in request) answers taken why → ReadsBy (options_in request) ending answers)
      → KnownThrough (dock_known dock) (dock_known dock') (OpensEach request ending)
  opens ending reads =
      Tells-weaker (HearsEach (ReadsBy (options_in request) ending) request.addresses) (OpensEach request ending) (dock_known dock) (dock_known dock')
      (hears_each itself known (ReadsBy (options_in request) ending) request.addresses links run.read.last many (run.read.read.as_many ∙ many) (dock_known dock) run.mid (dock_known dock') run.opened run.have
      (λ k d start within contents.
      let r = run.read.read.each k d (omega (arith, within, many)) in
      went_over known (ReadsBy (options_in request) ending) (slice_index_or links k d) (slice_index_or run.read.last k d) start r.2.answers contents r.2.heard (le_trans r.2.few (few_answers request range))
      (reads r.0 r.3 r.2.answers r.1 r.2.ends))
      run.read.closed)
      (λ x y each. inl each)

  none_ends : (ending : Result Bool PathsFault) (paths : List PathState) → Links.ReadAll (options_in request) known links paths → (ending ≡ Err faults.Link → ⊥) → (contents : DockContents) → HaveLinks known contents request.addresses links → Exactly request ending contents
  none_ends ending paths read other contents has =
      inr (λ is. absurd (other is), λ fails. absurd (none_fails request range known links many contents has paths read fails))

  -- reading or closing ended it early
  pub links_failed : (fault : PathsFault) (out : O) → result ≡ Err fault → PathsRun request (Err fault) dock_known dock dock' out_known out out
  links_failed fault out is =
      let ends : EndsLinks request known links (Err fault) = subst (EndsLinks request known links) is run.ends in
      paths_run request (Err fault) dock_known dock dock' out_known out out
      (not_words fault ends)
      (opens (Err fault) (λ why fits answers taken ends. reads_fault (options_in request) fault why (subst (λ r. PathFaultFits r why) is fits) answers taken ends))
      (then_docked _ (nothing fault ends))
      (sound fault ends)
      (λ other is any. refl)
      (then_docked _ (exactly fault ends))
      (then_docked _ (differs fault ends))
      (inl still)
      (counts_none (not_write fault ends) refl)
    where
      not_words : (fault : PathsFault) → EndsLinks request known links (Err fault) → (let e : Result Bool PathsFault = Err fault in e) ≡ Err faults.Words → ⊥
      not_words faults.Words ends is = ends
      not_words faults.NoMemory ends is = cc
      not_words faults.Link ends is = cc
      not_words faults.Write ends is = ends
      not_words (faults.Differs path at) ends is = cc

      not_write : (fault : PathsFault) → EndsLinks request known links (Err fault) → (let e : Result Bool PathsFault = Err fault in e) ≡ Err faults.Write → ⊥
      not_write faults.Words ends is = ends
      not_write faults.NoMemory ends is = cc
      not_write faults.Link ends is = cc
      not_write faults.Write ends is = ends
      not_write (faults.Differs path at) ends is = cc

      nothing : (fault : PathsFault) → EndsLinks request known links (Err fault) → (contents : DockContents) → HaveLinks known contents request.addresses links
          → WritesReport (settings_in request) (AreEntries request contents) (Err fault) out_known out out
      nothing faults.Words ends contents has = refl
      nothing faults.NoMemory ends contents has = refl
      nothing faults.Link ends contents has = refl
      nothing faults.Write ends contents has = absurd ends
      nothing (faults.Differs path at) ends contents has = refl

      sound : (fault : PathsFault) → EndsLinks request known links (Err fault) → WritesReport (settings_in request) (AreOfPaths request) (Err fault) out_known out out
      sound faults.Words ends = refl
      sound faults.NoMemory ends = refl
      sound faults.Link ends = refl
      sound faults.Write ends = absurd ends
      sound (faults.Differs path at) ends = refl

      exactly : (fault : PathsFault) → EndsLinks request known links (Err fault) → (contents : DockContents) → HaveLinks known contents request.addresses links → Exactly request (Err fault) contents
      exactly faults.Words ends contents has = absurd ends
      exactly faults.NoMemory ends contents has = inl refl
      exactly faults.Link ends contents has = inr (λ is. fails_ahead request range known links many contents has ends, λ any. refl)
      exactly faults.Write ends contents has = absurd ends
      exactly (faults.Differs path at) ends contents has = none_ends (Err (faults.Differs path at)) ends.3.paths ends.3.read (λ is. cc) contents has

      differs : (fault : PathsFault) → EndsLinks request known links (Err fault) → (contents : DockContents) → HaveLinks known contents request.addresses links
          → (path at : ℕ) → (let e : Result Bool PathsFault = Err fault in e) ≡ Err (faults.Differs path at) → DiffersAt request contents path at
      differs faults.Words ends contents has path at is = absurd ends
      differs faults.NoMemory ends contents has path at is = absurd (cc)
      differs faults.Link ends contents has path at is = absurd (cc)
      differs faults.Write ends contents has path at is = absurd ends
      differs (faults.Differs p n) ends contents has path at is =
          let same : faults.Differs p n ≡ faults.Differs path at = other_fault (faults.Differs p n) (faults.Differs path at) is in
          let same_path : p ≡ path = cc in
          let same_at : n ≡ at = cc in
          subst (λ m. DiffersAt request contents path m) same_at (subst (λ m. DiffersAt request contents m n) same_path (differ_ahead request range known links many contents has p n ends))

  module _ (report : Report) (is : result ≡ Ok report) (out out' : O) where
    ends : EndsLinks request known links (Ok report)
    ends = subst (EndsLinks request known links) is run.ends

    all_of : (why : PathEnded) → PathFaultFits result why → (answers : List Answer) (taken : List (List ℕ)) → PathEnds (options_in request) answers taken why → AreAll (options_in request) answers
    all_of why fits answers taken done = either_end (options_in request) why (subst (λ r. PathFaultFits r why) is fits) answers taken done

    abbrev entries : List (ℕ × List ℕ)
    entries = ends.journal.entries

    report_is : IsReportOf (settings_in request) (datagrams entries) report.text report.clean
    report_is = ends.closes.3

    are_entries : (contents : DockContents) → HaveLinks known contents request.addresses links → AreEntries request contents entries
    are_entries contents has = entries_ahead request range known links many contents has ends.paths entries ends.read ends.closes.1 ends.closes.2

    of_paths : AreOfPaths request entries
    of_paths = entries_of_paths request known links many ends.paths entries ends.read ends.closes.1 ends.closes.2

    -- the report was written
    pub written : (clean : Bool) → clean ≡ report.clean → OutputsText (out_known out) (out_known out') (λ text. text ≡ report.text) → HasCause (out_known out) (out_known out') (let e : Result Bool PathsFault = Ok clean in e ≡ Err faults.Write)
        → PathsRun request (Ok clean) dock_known dock dock' out_known out out'
    written clean clean_is text cause =
        paths_run request (Ok clean) dock_known dock dock' out_known out out'
        (λ is. cc)
        (opens (Ok clean) all_of)
        (then_docked _ (λ contents has. (entries, are_entries contents has, report, report_is, text, clean_is)))
        (entries, of_paths, report, report_is, text, clean_is)
        (λ fault is other. absurd (cc))
        (then_docked _ (none_ends (Ok clean) ends.paths ends.read (λ is. cc)))
        (then_docked _ (λ contents has path at is. absurd (cc)))
        (inl still)
        cause

    -- a write failed
    pub unfinished : OutputsText (out_known out) (out_known out') (IsPrefix report.text) → HasCause (out_known out) (out_known out') (let e : Result Bool PathsFault = Err faults.Write in e ≡ Err faults.Write)
        → PathsRun request (Err faults.Write) dock_known dock dock' out_known out out'
    unfinished text cause =
        paths_run request (Err faults.Write) dock_known dock dock' out_known out out'
        (λ is. cc)
        (opens (Err faults.Write) all_of)
        (then_docked _ (λ contents has. (entries, are_entries contents has, report, report_is, text)))
        (entries, of_paths, report, report_is, text)
        (λ fault is other. absurd (other (sym (other_fault faults.Write fault is))))
        (then_docked _ (none_ends (Err faults.Write) ends.paths ends.read (λ is. cc)))
        (then_docked _ (λ contents has path at is. absurd (cc)))
        (inl still)
        cause

-- a run that ends early, by how its links ended
pub ended_early : {D O L : Type 0} (request : PathsRequest) (range : IsPathsRequestInRange request) (dock_known : D → Known DockContents) (dock dock' : D) (out_known : O → Known Output) (known : L → Known Traffic) (fault : PathsFault) (out : O)
    → RunsLinks request known (let r : Result Report PathsFault = Err fault in r) (dock_known dock) (dock_known dock') → PathsRun request (Err fault) dock_known dock dock' out_known out out
ended_early request range dock_known dock dock' out_known known fault out (inl (memory, same)) =
    let is : faults.NoMemory ≡ fault = cc in
    subst (λ f. PathsRun request (Err f) dock_known dock dock' out_known out out) is (not_begun request dock_known dock dock' out_known out same)
ended_early request range dock_known dock dock' out_known known fault out (inr (inl (link, few, failed))) =
    let is : faults.Link ≡ fault = cc in
    subst (λ f. PathsRun request (Err f) dock_known dock dock' out_known out out) is (opening_failed request dock_known dock dock' out_known out few failed)
ended_early request range dock_known dock dock' out_known known fault out (inr (inr run)) = links_failed request range dock_known dock dock' out_known known (Err fault) run fault out refl

-- its links were run over where it has a report
pub ran_over : {L : Type 0} (request : PathsRequest) (known : L → Known Traffic) (report : Report) (a b : Known DockContents) → RunsLinks request known (let r : Result Report PathsFault = Ok report in r) a b
    → RunsOver request known (Ok report) a b
ran_over request known report a b (inl (memory, same)) = absurd (cc)
ran_over request known report a b (inr (inl (link, few, failed))) = absurd (cc)
ran_over request known report a b (inr (inr run)) = run
