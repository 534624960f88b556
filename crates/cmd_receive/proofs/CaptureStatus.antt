-- The run of `receive` without addresses.
use Rattle.std.proofs.Common.{◌≡◌, ℕ, ◌↔◌, inl, inr, Bool, true, IsTrue, List, Result, Ok, Err, refl, sym, ◌∙◌, ap, ap₂, subst}
use Rattle.drm_links.specs.Known.{Known, HasCause}
use Rattle.drm_links.specs.Link.{Answer}
use Rattle.drm_links.specs.Source.{Input, InputsBytes}
use Rattle.drm_links.specs.Sink.{Output}
use Rattle.drm_links.proofs.KnownLemmas.{InputsBytes-weaker}
use Rattle.capture_reader.specs.Capture as capture
use Rattle.capture_reader.proofs.CaptureLaws.{read_one_way}
use Rattle.recv_reading.specs.declared.options.ReceiveOptions.{ReceiveOptions}
use Rattle.drm_links.specs.Hearing.{AreNext}
use Rattle.report_text.specs.Reports.{Report}
use Rattle.recv_report.specs.Ahead.{IsInTimeAhead, IsReportOf}
use Rattle.recv_reading.specs.Source.{answers_of, BytesBring}
use Rattle.recv_report.specs.Following.{NoneBreaksOff}
use Rattle.recv_reading.proofs.OneReading.{finished_whole}
use Rattle.cmd_faults.specs.Fault.{UnlessMemory}
use Rattle.cmd_faults.specs.declared.fault.Fault.{Fault}
use Rattle.cmd_faults.specs.declared.fault.Fault.TheVariants as faults
use Rattle.cmd_faults.specs.Captures.{EndsEarly, EndsByIt}
use Rattle.cmd_faults.proofs.CaptureLemmas.{each_early, none_by, fault_by, length_by, done_or}
use Rattle.cmd_receive.specs.Capture.{BreaksOffBy, CaptureReportEnds, WritesReport, WroteReport, CaptureRun}
use Rattle.cmd_receive.proofs.ReceiveStatus.{clean_in_time}

-- ---- bytes bring one thing

same_ahead : (left : List ℕ) (ahead : List Answer) (brings : BytesBring left ahead) (packets : List (List ℕ)) (ending : capture.CaptureEnding) → capture.IsCaptureOf left packets ending → ahead ≡ answers_of packets ending
same_ahead left ahead brings packets ending of =
    let same = read_one_way left brings.packets packets brings.ending ending brings.is of in
    brings.ahead_is ∙ ap₂ answers_of same.0 same.1

one_ahead : (left : List ℕ) (ahead others : List Answer) → BytesBring left ahead → BytesBring left others → ahead ≡ others
one_ahead left ahead others brings other = same_ahead left ahead brings other.packets other.ending other.is ∙ sym other.ahead_is

one_ending : (left : List ℕ) (packets : List (List ℕ)) (ending : capture.CaptureEnding) (rules : ReceiveOptions) (why : capture.CaptureEnding) → capture.IsCaptureOf left packets ending → BreaksOffBy rules left why → ending ≡ why
one_ending left packets ending rules why of breaks = (read_one_way left packets breaks.packets ending why of breaks.is).1

-- what has a report doesn't break off
whole_report : (rules : ReceiveOptions) (left : List ℕ) (ahead : List Answer) (r : Report) (why : capture.CaptureEnding) → BytesBring left ahead → IsReportOf rules 1 ahead r → BreaksOffBy rules left why → ⊥
whole_report rules left ahead r why brings report by =
    let same : ahead ≡ answers_of by.packets why = same_ahead left ahead brings by.packets why by.is in
    let b = by.breaks in
    finished_whole rules ahead report.rest b.rest report.answers b.before b.answers report.is.word report.next
    (subst (λ l. AreNext l b.answers b.rest) (sym same) b.next) report.is.reading b.reading

-- What an ending says of the bytes that were left: their report is written, or the reading breaks off by them.
abbrev pub Says : {O : Type 0} → ReceiveOptions → List ℕ → Result Bool Fault → (O → Known Output) → O → O → Type 0
Says rules left (Ok clean) known out out' = WritesReport rules left clean known out out'
Says rules left (Err (faults.Capture fault)) known out out' = BreaksOffBy rules left (capture.Fault fault)
Says rules left (Err faults.CaptureTooLong) known out out' = BreaksOffBy rules left capture.TooLong
Says rules left (Err fault) known out out' = Unit {0}

module _ {O : Type 0} (rules : ReceiveOptions) (left : List ℕ) (known : O → Known Output) (out out' : O) where
  -- ---- exactly there

  abbrev Exactly : Result Bool Fault → Type 0
  Exactly ending = (why : capture.CaptureEnding) → EndsByIt ending why ↔ BreaksOffBy rules left why

  -- behind the packets something is wrong
  broken_by : (ending : Result Bool Fault) (is : capture.CaptureEnding) → BreaksOffBy rules left is → EndsByIt ending is → ((why : capture.CaptureEnding) → EndsByIt ending why → is ≡ why) → UnlessMemory ending (Exactly ending)
  broken_by ending is breaks ends one =
      inr (λ why. (
        (λ by. subst (BreaksOffBy rules left) (one why by) breaks),
        (λ other. subst (EndsByIt ending) (one_ending left breaks.packets is rules why breaks.is other) ends),
      ))

  exact_by : (ending : Result Bool Fault) → ((fault : Fault) → ending ≡ Err fault → EndsEarly fault) → Says rules left ending known out out'
      → (ending ≡ Err faults.Read → ⊥) → (ending ≡ Err faults.Write → ⊥) → UnlessMemory ending (Exactly ending)
  exact_by (Ok clean) kind (ahead, brings, r, report, text, is) no_read no_write =
      inr (λ why. ((λ ends. absurd (none_by clean why ends)), (λ breaks. absurd (whole_report rules left ahead r why brings report breaks))))
  exact_by (Err fault) kind wrote no_read no_write =
      each_early ⊥ (λ f. Says rules left (Err f) known out out' → (f ≡ faults.Read → ⊥) → (f ≡ faults.Write → ⊥) → UnlessMemory {T = Bool} (Err f) (Exactly (Err f)))
      (λ wrote reads writes. inl refl) (λ wrong breaks reads writes. broken_by (Err (faults.Capture wrong)) (capture.Fault wrong) breaks refl (fault_by wrong))
      (λ breaks reads writes. broken_by (Err faults.CaptureTooLong) capture.TooLong breaks refl length_by) (λ wrote reads writes. absurd (reads refl)) (λ wrote reads writes. absurd (writes refl))
      (λ never number wrote reads writes. absurd never) fault (kind fault refl) wrote (λ is. no_read (ap Err is)) (λ is. no_write (ap Err is))

  -- ---- nothing is lost

  whole_by : (ending : Result Bool Fault) → ((fault : Fault) → ending ≡ Err fault → EndsEarly fault) → Says rules left ending known out out'
      → (ending ≡ Err faults.Read → ⊥) → (ending ≡ Err faults.Write → ⊥) → ((why : capture.CaptureEnding) → BreaksOffBy rules left why → ⊥)
      → UnlessMemory ending (WroteReport rules left ending known out out')
  whole_by ending kind wrote no_read no_write none =
      elim (exact_by ending kind wrote no_read no_write) [
        | inl memory ↦ inl memory
        | inr exactly ↦ elim (done_or ⊥ ending kind no_read no_write (λ why is. none why ((exactly why).0 is)) (λ never number. absurd never)) [
          | inl memory ↦ inl memory
          | inr (clean, is) ↦ inr (clean, is, subst (λ e. Says rules left e known out out') is wrote)
        ]
      ]

  is_clean : (clean : Bool) → IsTrue clean → clean ≡ true
  is_clean clean is = is

  clean_by : (ending : Result Bool Fault) (ahead : List Answer) → BytesBring left ahead → IsInTimeAhead rules ahead → UnlessMemory ending (WroteReport rules left ending known out out') → UnlessMemory ending (ending ≡ Ok true)
  clean_by ending ahead brings time (inl memory) = inl memory
  clean_by ending ahead brings time (inr (clean, is, (others, other, r, report, text, same))) =
      let there : IsInTimeAhead rules others = subst (IsInTimeAhead rules) (one_ahead left ahead others brings other) time in
      inr (is ∙ ap Ok (same ∙ is_clean r.clean (clean_in_time rules 1 others r report there)))

  never_breaks : NoneBreaksOff → (ahead : List Answer) → BytesBring left ahead → IsInTimeAhead rules ahead → (why : capture.CaptureEnding) → BreaksOffBy rules left why → ⊥
  never_breaks law ahead brings time why by =
      law rules (answers_of by.packets why) (subst (IsInTimeAhead rules) (same_ahead left ahead brings by.packets why by.is) time) by.breaks

-- ---- the whole run

pub capture_run : NoneBreaksOff → {I O : Type 0} (rules : ReceiveOptions) (ending : Result Bool Fault) (input_known : I → Known Input) (input input' : I) (out_known : O → Known Output) (out out' : O)
    → ((fault : Fault) → ending ≡ Err fault → EndsEarly fault)
    → CaptureReportEnds rules ending (input_known input) (input_known input') (out_known out) (out_known out')
    → InputsBytes (input_known input) (input_known input') (λ left _. Says rules left ending out_known out out')
    → (ending ≡ Err faults.NoMemory → (input' ≡ input) × (out' ≡ out))
    → HasCause (input_known input) (input_known input') (ending ≡ Err faults.Read)
    → HasCause (out_known out) (out_known out') (ending ≡ Err faults.Write)
    → CaptureRun rules ending input_known input input' out_known out out'
capture_run law {I} {O} rules ending input_known input input' out_known out out' kind ends writes untouched read_cause write_cause = record {
  kind = kind;
  ends = ends;
  writes = λ clean is. subst (λ e. InputsBytes (input_known input) (input_known input') (λ left _. Says rules left e out_known out out')) is writes;
  untouched = untouched;
  exactly = λ no_read no_write.
      InputsBytes-weaker Writes (λ left rest. UnlessMemory ending ((why : capture.CaptureEnding) → EndsByIt ending why ↔ BreaksOffBy rules left why)) (input_known input) (input_known input') writes
      (λ left rest wrote. exact_by rules left out_known out out' ending kind wrote no_read no_write);
  complete = λ reads goes.
      InputsBytes-weaker Writes (λ left rest. ((why : capture.CaptureEnding) → BreaksOffBy rules left why → ⊥) → UnlessMemory ending (WroteReport rules left ending out_known out out')) (input_known input) (input_known input') writes
      (λ left rest wrote none. whole_by rules left out_known out out' ending kind wrote (λ is. reads (read_cause.once is)) (λ is. goes (write_cause.once is)) none);
  in_time = λ reads goes.
      InputsBytes-weaker Writes (λ left rest. (ahead : List Answer) → BytesBring left ahead → IsInTimeAhead rules ahead → UnlessMemory ending (ending ≡ Ok true)) (input_known input) (input_known input') writes
      (λ left rest wrote ahead brings time. clean_by rules left out_known out out' ending ahead brings time
      (whole_by rules left out_known out out' ending kind wrote (λ is. reads (read_cause.once is)) (λ is. goes (write_cause.once is)) (never_breaks rules left out_known out out' law ahead brings time)));
  read_cause = read_cause;
  write_cause = write_cause;
}
  where
    Writes : List ℕ → List ℕ → Type 0
    Writes left rest = Says rules left ending out_known out out'
