-- How a run ends.
use Rattle.std.proofs.Common.{ℕ, ◌≡◌, inl, inr, Bool, List, ◌++◌, refl, sym, ap, subst, ◌∙◌, ◌↔◌, Result, Ok, Err}
use Rattle.recv_reading.proofs.Common.{Known, Input, InputsBytes, Output}
use Rattle.drm_links.specs.Known.{HasCause}
use Rattle.drm_links.proofs.KnownLemmas.{counts_none, InputsBytes-nothing, InputsBytes-weaker, OutputsText-then}
use Rattle.drm_links.proofs.WritingLemmas.{Writes-done, Writes-front, front_behind}
use Rattle.capture_reader.specs.Capture as capture
use Rattle.capture_reader.specs.Laws.{ReadOneWay}
use Rattle.law_capture.specs.Laws.{PacketsInFront}
use Rattle.mod_feed.specs.Items.{FrameItem}
use Rattle.cmd_faults.specs.Captures.{EndsEarly, EndsByIt}
use Rattle.cmd_faults.specs.Fault.{UnlessMemory}
use Rattle.cmd_faults.specs.declared.fault.Fault.{Fault}
use Rattle.cmd_faults.specs.declared.fault.Fault.TheVariants as faults
use Rattle.cmd_faults.proofs.CaptureLemmas.{each_early, none_by, fault_by, length_by, done_or}
use Rattle.recv_reading.specs.Packets.{BreaksOffBy}
use Rattle.recv_reading.specs.declared.options.PacketRange.{PacketRange}
use Rattle.recv_reading.proofs.BreakingOff.{all_unbroken, BreaksBy, until_breaks}
use Rattle.cmd_unpack.specs.declared.taker.Taker.{Taker}
use Rattle.cmd_unpack.specs.Streams.{PayloadKind}
use Rattle.cmd_unpack.specs.Lines.{is_clean}
use Rattle.cmd_unpack.specs.Printed.{IsWholeText}
use Rattle.cmd_unpack.specs.Run.{WritesAll, WritesPrefix, DataEnds, IsUnpackingDone, DataRun}
use Rattle.cmd_unpack.specs.Taken.{counts_in, TakerTook, TakesAll, EndsText}
use Rattle.cmd_unpack.proofs.Printing.{printed}
use Rattle.cmd_unpack.proofs.Sound.{sound}

-- ---- the end of what is printed

pub whole_written : {E : Type 0} (range : PacketRange) (what : PayloadKind) (taker ended : Taker) (before after : Known Input) (a b o : Known Output) (result : Result (Unit {0}) E) (done all : Unit {0}) (clean : Bool)
    → TakesAll range what (Ok all) taker before after a b
    → ((what : PayloadKind) (items : List FrameItem) (text : List ℕ) → TakerTook what items text taker → EndsText what items text result ended b o)
    → result ≡ Ok done → clean ≡ is_clean (counts_in ended) → WritesAll range what clean before after a o
whole_written range what taker ended before after a b o result done all clean (given, gives, items, are, text, took, out) ends is clean_is =
    let e = ends what items text took in (
      given,
      gives,
      items,
      are,
      text ++ e.rest,
      subst (λ (v : Bool). IsWholeText what items (text ++ e.rest) v) (sym clean_is) e.whole,
      OutputsText-then (λ l. l ≡ text) (λ l. l ≡ e.rest) (λ l. l ≡ text ++ e.rest) a b o out (Writes-done is e.writes) (λ x y p q. ap (λ l. l ++ y) p ∙ ap (λ l. text ++ l) q),
    )

pub whole_broken : {E : Type 0} (range : PacketRange) (what : PayloadKind) (taker ended : Taker) (before after : Known Input) (a b o : Known Output) (result : Result (Unit {0}) E) (fault : E) (all : Unit {0})
    → TakesAll range what (Ok all) taker before after a b
    → ((what : PayloadKind) (items : List FrameItem) (text : List ℕ) → TakerTook what items text taker → EndsText what items text result ended b o)
    → result ≡ Err fault → WritesPrefix range what before after a o
whole_broken range what taker ended before after a b o result fault all (given, gives, items, are, text, took, out) ends is =
    let e = ends what items text took in
    inr (
      given,
      gives,
      items,
      are,
      text,
      e.rest,
      is_clean (counts_in ended),
      printed what items text taker took,
      e.whole,
      front_behind text e.rest a b o out (Writes-front is e.writes),
    )

-- ---- when it ends early

-- which faults end it
fault_can : (range : PacketRange) (what : PayloadKind) (fault : Fault) (before after : Known Input) (a b : Known Output) → DataEnds range what (Err fault) before after a b → EndsEarly fault
fault_can range what faults.NoMemory before after a b ends = tt
fault_can range what (faults.Capture fault) before after a b ends = tt
fault_can range what faults.CaptureTooLong before after a b ends = tt
fault_can range what faults.Read before after a b ends = tt
fault_can range what faults.Write before after a b ends = tt
fault_can range what (faults.PacketSize number) before after a b ends = ends
fault_can range what (faults.Units fault) before after a b ends = ends
fault_can range what faults.Words before after a b ends = ends
fault_can range what (faults.FacLength n) before after a b ends = ends
fault_can range what faults.FacOver before after a b ends = ends
fault_can range what (faults.FacCrc stands computed) before after a b ends = ends
fault_can range what (faults.Schedule line reason) before after a b ends = ends
fault_can range what (faults.Script line reason) before after a b ends = ends
fault_can range what faults.Link before after a b ends = ends

module _ (one_way : ReadOneWay) (in_front : PacketsInFront) (range : PacketRange) (what : PayloadKind) (before after : Known Input) (a b : Known Output) where
  abbrev Exact : Result Bool Fault → List ℕ → List ℕ → Type 0
  Exact ending left rest = UnlessMemory ending ((why : capture.CaptureEnding) → EndsByIt ending why ↔ BreaksOffBy range left why)

  exact_at : (ending : Result Bool Fault) (why : capture.CaptureEnding) → EndsByIt ending why → ((other : capture.CaptureEnding) → EndsByIt ending other → why ≡ other)
      → InputsBytes before after (λ left _. BreaksBy range left why) → InputsBytes before after (Exact ending)
  exact_at ending why by one breaks =
      InputsBytes-weaker (λ left _. BreaksBy range left why) (Exact ending) before after breaks
      (λ left rest is. inr (λ other. ((λ is_end. subst (BreaksOffBy range left) (one other is_end) is.breaks), (λ broken. subst (EndsByIt ending) (is.only other broken) by))))

  exact : (ending : Result Bool Fault) → DataEnds range what ending before after a b → (ending ≡ Err faults.Read → ⊥) → (ending ≡ Err faults.Write → ⊥) → InputsBytes before after (Exact ending)
  exact (Ok clean) (given, gives, items, are, text, printed, out) no_read no_write =
      InputsBytes-weaker (λ left _. (why : capture.CaptureEnding) → BreaksOffBy range left why → ⊥) (Exact (Ok clean)) before after (all_unbroken one_way in_front range given before after gives)
      (λ left more unbroken. inr (λ why. ((λ is_end. absurd (none_by clean why is_end)), (λ broken. absurd (unbroken why broken)))))
  exact (Err fault) ends no_read no_write =
      each_early ⊥ (λ f. DataEnds range what (Err f) before after a b → (f ≡ faults.Read → ⊥) → (f ≡ faults.Write → ⊥) → InputsBytes before after (Exact (Err f)))
      (λ (same, out) reads writes. subst (λ k. InputsBytes before k (Exact (Err faults.NoMemory))) (sym same) (InputsBytes-nothing (Exact (Err faults.NoMemory)) before (λ left. inl refl)))
      (λ wrong (given, gives, items, are, text, printed, out) reads writes.
      exact_at (Err (faults.Capture wrong)) (capture.Fault wrong) refl (fault_by wrong)
      (until_breaks one_way range _ given before after (capture.Fault wrong) gives (λ e. let clash : capture.Fault wrong ≡ capture.End = e in cc) gives.stops))
      (λ (given, gives, items, are, text, printed, out) reads writes.
      exact_at (Err faults.CaptureTooLong) capture.TooLong refl length_by
      (until_breaks one_way range _ given before after capture.TooLong gives (λ e. let clash : capture.TooLong ≡ capture.End = e in cc) gives.stops))
      (λ early reads writes. absurd (reads refl)) (λ early reads writes. absurd (writes refl)) (λ never number early reads writes. absurd never)
      fault (fault_can range what fault before after a b ends) ends (λ is. no_read (ap Err is)) (λ is. no_write (ap Err is))

  can_end : (ending : Result Bool Fault) → DataEnds range what ending before after a b → (fault : Fault) → ending ≡ Err fault → EndsEarly fault
  can_end ending ends fault is = fault_can range what fault before after a b (subst (λ e. DataEnds range what e before after a b) is ends)

  -- nothing is lost
  done_by : (left rest : List ℕ) (ending : Result Bool Fault) → DataEnds range what ending before after a b → (ending ≡ Err faults.Read → ⊥) → (ending ≡ Err faults.Write → ⊥)
      → Exact ending left rest → ((why : capture.CaptureEnding) → BreaksOffBy range left why → ⊥) → UnlessMemory ending (IsUnpackingDone range what ending before after a b)
  done_by left rest ending ends no_read no_write (inl memory) unbroken = inl memory
  done_by left rest ending ends no_read no_write (inr exactly) unbroken =
      elim (done_or ⊥ ending (can_end ending ends) no_read no_write (λ why is. unbroken why ((exactly why).0 is)) (λ never number. absurd never)) [
        | inl memory ↦ inl memory
        | inr (clean, is) ↦ inr (clean, is, subst (λ e. DataEnds range what e before after a b) is ends)
      ]

pub data_run : {I O : Type 0} → ReadOneWay → PacketsInFront → (range : PacketRange) (what : PayloadKind) (ending : Result Bool Fault) (input_known : I → Known Input) (input input' : I) (out_known : O → Known Output) (out out' : O)
    → DataEnds range what ending (input_known input) (input_known input') (out_known out) (out_known out')
    → (ending ≡ Err faults.NoMemory → (input' ≡ input) × (out' ≡ out))
    → HasCause (input_known input) (input_known input') (ending ≡ Err faults.Read)
    → HasCause (out_known out) (out_known out') (ending ≡ Err faults.Write)
    → DataRun range what ending input_known input input' out_known out out'
data_run {I} {O} one_way in_front range what ending input_known input input' out_known out out' ends untouched read_cause write_cause =
    let before : Known Input = input_known input in
    let after : Known Input = input_known input' in
    let a : Known Output = out_known out in
    let b : Known Output = out_known out' in
    record {
      kind = can_end one_way in_front range what before after a b ending ends;
      ends = ends;
      sound = sound range what before after a b ending (can_end one_way in_front range what before after a b ending ends) ends;
      untouched = untouched;
      exactly = exact one_way in_front range what before after a b ending ends;
      complete = λ reads goes.
          let no_read : ending ≡ Err faults.Read → ⊥ = λ is. reads (read_cause.once is) in
          let no_write : ending ≡ Err faults.Write → ⊥ = λ is. goes (write_cause.once is) in
          InputsBytes-weaker (Exact one_way in_front range what before after a b ending) (λ left _. ((why : capture.CaptureEnding) → BreaksOffBy range left why → ⊥) → UnlessMemory ending (IsUnpackingDone range what ending before after a b))
          before after (exact one_way in_front range what before after a b ending ends no_read no_write)
          (λ left rest exactly unbroken. done_by one_way in_front range what before after a b left rest ending ends no_read no_write exactly unbroken);
      read_cause = read_cause;
      write_cause = write_cause;
    }

-- memory was wanting
pub memory_run : {I O : Type 0} → ReadOneWay → PacketsInFront → (range : PacketRange) (what : PayloadKind) (input_known : I → Known Input) (input : I) (out_known : O → Known Output) (out : O)
    → DataRun range what (Err faults.NoMemory) input_known input input out_known out out
memory_run one_way in_front range what input_known input out_known out =
    data_run one_way in_front range what (Err faults.NoMemory) input_known input input out_known out out (refl, refl) (λ is. (refl, refl)) (counts_none (λ is. cc) refl) (counts_none (λ is. cc) refl)
