-- From the receiver of a capture that ended to what was written.
use Rattle.std.proofs.Common.{◌≡◌, ℕ, ◌≤◌, ◌⊎◌, inl, inr, Bool, List, [], ◌∷◌, ◌++◌, map, length, Result, Ok, Err, refl, sym, subst, arith}
use Rattle.std.specs.Prelude.{All, IfOk}
use Rattle.std.specs.List.{concat}
use Rattle.drm_links.specs.Known.{Known}
use Rattle.drm_links.specs.Link.{Answer, Datagram, End}
use Rattle.drm_links.specs.Source.{Input, InputsBytes}
use Rattle.drm_links.specs.Sink.{Output}
use Rattle.drm_links.proofs.KnownLemmas.{InputsBytes-nothing, InputsBytes-weaker}
use Rattle.capture_reader.specs.declared.packets.CaptureStop.{CaptureStop}
use Rattle.capture_reader.specs.declared.packets.CaptureStop.TheVariants as stops
use Rattle.capture_reader.specs.Front.{IsWhole}
use Rattle.capture_reader.specs.Capture as capture
use Rattle.capture_reader.specs.Laws.{ReadSomeWay}
use Rattle.capture_reader.specs.Reading.{ReadingBreaks}
use Rattle.recv_reading.specs.declared.options.ReceiveOptions.{ReceiveOptions}
use Rattle.recv_report.specs.declared.capture.CaptureReportError.{CaptureReportError}
use Rattle.recv_report.specs.declared.capture.CaptureReportError.TheVariants as unfinished
use Rattle.drm_links.specs.Hearing.{AreNext}
use Rattle.recv_reading.specs.Ending.{most_answers}
use Rattle.recv_reading.specs.Options.{AreInRange}
use Rattle.recv_report.specs.Received.{ReportWritten, ReportCounted, ReportBroken, ReportStopped}
use Rattle.recv_report.specs.Captures.{EndsReceiving}
use Rattle.report_text.specs.Totals.{are_clean}
use Rattle.report_text.specs.declared.totals.Totals.{Totals}
use Rattle.recv_reading.specs.Source.{answers_of, BytesBring, HeardOf, HeardUntil}
use Rattle.recv_report.specs.Following.{HeadlinesFollow, CompletesFollow}
use Rattle.recv_report.proofs.ReceiverLemmas.{report_ahead}
use Rattle.cmd_faults.specs.declared.fault.Fault.{Fault}
use Rattle.cmd_faults.specs.declared.fault.Fault.TheVariants as faults
use Rattle.cmd_faults.specs.Captures.{EndsEarly}
use Rattle.cmd_faults.proofs.CauseLemmas.{inner_fault}
use Rattle.cmd_receive.specs.Capture.{BreaksOffBy, CaptureReportEnds, WritesReport}
use Rattle.cmd_receive.specs.Stopping.{captured_totals, clean_ending}
use Rattle.law_capture.proofs.CapturePrefixes.{packets_front}
use Rattle.cmd_receive.proofs.CaptureStatus.{Says}
use Rattle.cmd_receive.proofs.ReceiveLemmas.{no_fault}

-- ---- what was heard stood ahead

-- the bytes begin with packets that bring these answers; or they are such packets, and nothing more
abbrev Begin : List ℕ → List Answer → Type 0
Begin left answers =
    (packets : List (List ℕ))
    × (((more : List ℕ) × All IsWhole packets × (left ≡ concat packets ++ more) × (length (concat packets) ≤ capture.most_bytes) × (answers ≡ map Datagram packets))
    ⊎ (capture.IsCaptureOf left packets capture.End × (answers ≡ map Datagram packets ++ End ∷ [])))

began : (before after : Known Input) (answers : List Answer) → HeardOf before after answers → InputsBytes before after (λ left rest. Begin left answers)
began before after answers (reader, (packets, inl (read, are))) =
    InputsBytes-weaker (λ left rest. left ≡ concat packets ++ (reader.held ++ rest)) (λ left rest. Begin left answers) before after read.bytes
    (λ left rest is. (packets, inl (reader.held ++ rest, read.whole, is, (let at = read.at in let few = read.few in omega (arith, at, few)), are)))
began before after answers (reader, (packets, inr (ended, are))) =
    InputsBytes-weaker (λ left rest. capture.IsCaptureOf left packets capture.End) (λ left rest. Begin left answers) before after ended (λ left rest is. (packets, inr (is, are)))

next_packets : (packets later : List (List ℕ)) (ending : capture.CaptureEnding) → AreNext (answers_of (packets ++ later) ending) (map Datagram packets) (answers_of later ending)
next_packets [] later ending = refl
next_packets (p ∷ packets) later ending = (refl, next_packets packets later ending)

next_whole : (packets : List (List ℕ)) (ending : capture.CaptureEnding) → AreNext (answers_of packets ending) (answers_of packets ending) []
next_whole [] ending = (refl, refl)
next_whole (p ∷ packets) ending = (refl, next_whole packets ending)

next_of : ReadSomeWay → (left : List ℕ) (answers : List Answer) → Begin left answers → (ahead : List Answer) × BytesBring left ahead × (later : List Answer) × AreNext ahead answers later
next_of some left answers (packets, inl (more, whole, is, few, are)) =
    let (all, ending, of) = some left in
    let (later, all_is) = packets_front left packets all more ending whole is few of in (
      answers_of all ending,
      record { packets = all; ending = ending; is = of; ahead_is = refl },
      answers_of later ending,
      subst (λ l. AreNext (answers_of l ending) answers (answers_of later ending)) (sym all_is)
          (subst (λ l. AreNext (answers_of (packets ++ later) ending) l (answers_of later ending)) (sym are) (next_packets packets later ending)),
    )
next_of some left answers (packets, inr (of, are)) = (
  answers_of packets capture.End,
  record { packets = packets; ending = capture.End; is = of; ahead_is = refl },
  [],
  subst (λ l. AreNext (answers_of packets capture.End) l []) (sym are) (next_whole packets capture.End),
)

-- ---- what was written

-- these answers and no others were heard
abbrev AreExactly : List Answer → List Answer → Type 0
AreExactly answers others = others ≡ answers

alone_next : (rules : ReceiveOptions) (ahead answers later : List Answer) → AreNext ahead answers later
    → (others : List Answer) → AreExactly answers others → length others ≤ most_answers rules → (rest : List Answer) × AreNext ahead others rest
alone_next rules ahead answers later next others same few = (later, subst (λ l. AreNext ahead l later) (sym same) next)

module _ {O : Type 0} (rules : ReceiveOptions) (valid : AreInRange rules) (headlines : HeadlinesFollow) (completes : CompletesFollow) (some : ReadSomeWay)
    (before after : Known Input) (known : O → Known Output) (out out' : O) where
  reported : (clean : Bool) → ReportWritten rules 1 (HeardOf before after) (known out) (known out') clean → InputsBytes before after (λ left rest. WritesReport rules left clean known out out')
  reported clean r =
      let alone : ReportWritten rules 1 (AreExactly r.answers) (known out) (known out') clean = record { answers = r.answers; heard = refl; few = r.few; at_once = r.at_once; whole = r.whole; is = r.is; text = r.text } in
      InputsBytes-weaker (λ left rest. Begin left r.answers) (λ left rest. WritesReport rules left clean known out out') before after (began before after r.answers r.heard)
      (λ left rest begins.
      let (ahead, brings, later, next) = next_of some left r.answers begins in
      let (report, is, text, same) = report_ahead rules 1 ahead (AreExactly r.answers) (known out) (known out') (alone_next rules ahead r.answers later next) headlines completes valid.some_window clean alone in
      (ahead, brings, report, is, text, same))

  -- a reading that stopped was one of these bytes
  abbrev Quiet : Type 0
  Quiet = InputsBytes before after (λ left rest. Unit {0})

  stopped : ReportStopped rules 1 (HeardOf before after) (known out) (known out') → Quiet
  stopped r = InputsBytes-weaker (λ left rest. Begin left r.answers) (λ left rest. Unit {0}) before after (began before after r.answers r.heard) (λ left rest begins. tt)

  breaks : (stop : CaptureStop) (ending : capture.CaptureEnding) (left : List ℕ) (r : ReportBroken rules 1 (HeardUntil stop before after) (known out) (known out')) → capture.IsCaptureOf left r.heard.0 ending → answers_of r.heard.0 ending ≡ r.answers → BreaksOffBy rules left ending
  breaks stop ending left r is are = record {
    packets = r.heard.0;
    is = is;
    breaks = record {
      before = r.is.before;
      answers = r.answers;
      rest = [];
      next = subst (λ l. AreNext (answers_of r.heard.0 ending) l []) are (next_whole r.heard.0 ending);
      reading = r.is.reading;
    };
  }

  broken : (stop : CaptureStop) → ReportBroken rules 1 (HeardUntil stop before after) (known out) (known out')
      → InputsBytes before after (λ left rest. Says rules left (clean_ending (captured_totals (Err (unfinished.Stopped stop)))) known out out')
  broken stops.Read r = InputsBytes-weaker (ReadingBreaks r.heard.0) (λ left rest. Unit {0}) before after r.heard.2 (λ left rest is. tt)
  broken (stops.Capture fault) r =
      InputsBytes-weaker (λ left rest. capture.IsCaptureOf left r.heard.0 (capture.Fault fault)) (λ left rest. BreaksOffBy rules left (capture.Fault fault)) before after r.heard.2
      (λ left rest is. breaks (stops.Capture fault) (capture.Fault fault) left r is (sym r.heard.3))
  broken stops.TooLong r =
      InputsBytes-weaker (λ left rest. capture.IsCaptureOf left r.heard.0 capture.TooLong) (λ left rest. BreaksOffBy rules left capture.TooLong) before after r.heard.2
      (λ left rest is. breaks stops.TooLong capture.TooLong left r is (sym r.heard.3))

  pub written : (result : Result Totals CaptureReportError) → EndsReceiving rules before after (known out) (known out') result
      → InputsBytes before after (λ left rest. Says rules left (clean_ending (captured_totals result)) known out out')
  written (Ok totals) ends = reported (are_clean totals) ends.written
  written (Err (unfinished.Stopped stop)) ends = broken stop ends
  written (Err unfinished.Write) ends = stopped ends
  written (Err unfinished.NoMemory) ends =
      subst (λ (now : Known Input). InputsBytes before now (λ left rest. Unit {0})) (sym ends.0) (InputsBytes-nothing (λ left rest. Unit {0}) before (λ left. tt))

-- ---- by what it ended

pub ended_as : (rules : ReceiveOptions) (before after : Known Input) (a b : Known Output) (received : Result Totals CaptureReportError) → EndsReceiving rules before after a b received → CaptureReportEnds rules (clean_ending (captured_totals received)) before after a b
ended_as rules before after a b (Ok totals) ends = ends.written
ended_as rules before after a b (Err (unfinished.Stopped stops.Read)) ends = ends
ended_as rules before after a b (Err (unfinished.Stopped (stops.Capture why))) ends = ends
ended_as rules before after a b (Err (unfinished.Stopped stops.TooLong)) ends = ends
ended_as rules before after a b (Err unfinished.Write) ends = ends
ended_as rules before after a b (Err unfinished.NoMemory) ends = ends

pub ended_early : (received : Result Totals CaptureReportError) (fault : Fault) → clean_ending (captured_totals received) ≡ Err fault → EndsEarly fault
ended_early (Ok totals) fault is = absurd (no_fault (are_clean totals) fault is)
ended_early (Err (unfinished.Stopped stops.Read)) fault is = subst EndsEarly (inner_fault faults.Read fault is) tt
ended_early (Err (unfinished.Stopped (stops.Capture why))) fault is = subst EndsEarly (inner_fault (faults.Capture why) fault is) tt
ended_early (Err (unfinished.Stopped stops.TooLong)) fault is = subst EndsEarly (inner_fault faults.CaptureTooLong fault is) tt
ended_early (Err unfinished.Write) fault is = subst EndsEarly (inner_fault faults.Write fault is) tt
ended_early (Err unfinished.NoMemory) fault is = subst EndsEarly (inner_fault faults.NoMemory fault is) tt

pub ended_memory : (received : Result Totals CaptureReportError) → clean_ending (captured_totals received) ≡ Err faults.NoMemory → received ≡ Err unfinished.NoMemory
ended_memory (Ok totals) is = absurd (no_fault (are_clean totals) faults.NoMemory is)
ended_memory (Err (unfinished.Stopped stops.Read)) is = absurd (let one : faults.Read ≡ faults.NoMemory = inner_fault faults.Read faults.NoMemory is in cc)
ended_memory (Err (unfinished.Stopped (stops.Capture why))) is = absurd (let one : faults.Capture why ≡ faults.NoMemory = inner_fault (faults.Capture why) faults.NoMemory is in cc)
ended_memory (Err (unfinished.Stopped stops.TooLong)) is = absurd (let one : faults.CaptureTooLong ≡ faults.NoMemory = inner_fault faults.CaptureTooLong faults.NoMemory is in cc)
ended_memory (Err unfinished.Write) is = absurd (let one : faults.Write ≡ faults.NoMemory = inner_fault faults.Write faults.NoMemory is in cc)
ended_memory (Err unfinished.NoMemory) is = refl

pub ended_read : (received : Result Totals CaptureReportError) → clean_ending (captured_totals received) ≡ Err faults.Read → received ≡ Err (unfinished.Stopped stops.Read)
ended_read (Ok totals) is = absurd (no_fault (are_clean totals) faults.Read is)
ended_read (Err (unfinished.Stopped stops.Read)) is = refl
ended_read (Err (unfinished.Stopped (stops.Capture why))) is = absurd (let one : faults.Capture why ≡ faults.Read = inner_fault (faults.Capture why) faults.Read is in cc)
ended_read (Err (unfinished.Stopped stops.TooLong)) is = absurd (let one : faults.CaptureTooLong ≡ faults.Read = inner_fault faults.CaptureTooLong faults.Read is in cc)
ended_read (Err unfinished.Write) is = absurd (let one : faults.Write ≡ faults.Read = inner_fault faults.Write faults.Read is in cc)
ended_read (Err unfinished.NoMemory) is = absurd (let one : faults.NoMemory ≡ faults.Read = inner_fault faults.NoMemory faults.Read is in cc)

pub ended_write : (received : Result Totals CaptureReportError) → clean_ending (captured_totals received) ≡ Err faults.Write → received ≡ Err unfinished.Write
ended_write (Ok totals) is = absurd (no_fault (are_clean totals) faults.Write is)
ended_write (Err (unfinished.Stopped stops.Read)) is = absurd (let one : faults.Read ≡ faults.Write = inner_fault faults.Read faults.Write is in cc)
ended_write (Err (unfinished.Stopped (stops.Capture why))) is = absurd (let one : faults.Capture why ≡ faults.Write = inner_fault (faults.Capture why) faults.Write is in cc)
ended_write (Err (unfinished.Stopped stops.TooLong)) is = absurd (let one : faults.CaptureTooLong ≡ faults.Write = inner_fault faults.CaptureTooLong faults.Write is in cc)
ended_write (Err unfinished.Write) is = refl
ended_write (Err unfinished.NoMemory) is = absurd (let one : faults.NoMemory ≡ faults.Write = inner_fault faults.NoMemory faults.Write is in cc)

-- the totals, where there are some
pub totals_are : (rules : ReceiveOptions) (before after : Known Input) (a b : Known Output) (received : Result Totals CaptureReportError) → EndsReceiving rules before after a b received
    → IfOk (captured_totals received) (ReportCounted rules 1 (HeardOf before after) a b)
totals_are rules before after a b (Ok totals) ends = ends
totals_are rules before after a b (Err (unfinished.Stopped stop)) ends = tt
totals_are rules before after a b (Err unfinished.Write) ends = tt
totals_are rules before after a b (Err unfinished.NoMemory) ends = tt
