-- A run of `convert` over a capture of a schedule.
use Rattle.std.proofs.Common.{ℕ, ◌≡◌, ◌+◌, ◌⊎◌, inl, inr, true, List, [], ◌∷◌, ◌++◌, length, Some, Ok, Err, refl, sym, ap, subst, ◌∙◌, arith, length-append}
use Rattle.std.specs.Prelude.{pos, All}
use Rattle.std.specs.List.{concat}
use Rattle.std.proofs.lemmas.List.{append-nil}
use Rattle.drm_links.specs.Known.{Known}
use Rattle.drm_links.specs.Source.{Input, InputsBytes, LeftBy, FewReads}
use Rattle.drm_links.specs.Sink.{Output, OutputsText, IsPrefix, IsPrefixBehind}
use Rattle.drm_links.proofs.KnownLemmas.{OutputsText-nothing, OutputsText-weaker, known_through}
use Rattle.capture_reader.specs.declared.fault.CaptureFault.{CaptureFault}
use Rattle.capture_reader.specs.Capture as capture
use Rattle.capture_reader.specs.Capture.{IsCaptureOf, End}
use Rattle.capture_reader.specs.Front.{IsWhole}
use Rattle.capture_reader.specs.Reading.{ReadingBreaks}
use Rattle.capture_reader.specs.Laws.{ReadOneWay}
use Rattle.law_capture.specs.Laws.{PacketsInFront}
use Rattle.drm_schedule.specs.declared.plan.Plan.{Plan}
use Rattle.drm_server.specs.Stretch.{whole_schedule}
use Rattle.drm_server.proofs.StretchLemmas.{all_frames}
use Rattle.drm_server.specs.Capture.{IsCapture, IsPrefixOfCapture}
use Rattle.drm_server.proofs.CaptureLemmas.{end_written}
use Rattle.law_delivery.specs.Sent.{IsDeliveryOf}
use Rattle.cmd_faults.specs.declared.fault.Fault.TheVariants as faults
use Rattle.cmd_convert.specs.Converting.{ItemOutput, text_of, lines_of}
use Rattle.cmd_convert.specs.Steps.{has_none}
use Rattle.cmd_convert.specs.Converted.{are_clean}
use Rattle.cmd_convert.proofs.PartLemmas.{front_of_all, no_lines_before}
use Rattle.recv_reading.specs.Packets.{AreEnough, AreReadBy, HasEnough}
use Rattle.recv_reading.specs.declared.options.PacketRange.{PacketRange}
use Rattle.law_delivery.specs.OtherCarry.{under}
use Rattle.law_convert.specs.Laws.{AllInTime, NoneIsTooLarge, ConversionsAreCaptures, IsOfFirstFrames, BrokenConversions, IsOfSomeFrames, HaltedConversions, CapturesAreConverted}

-- ---- what is told of an input

left_known : (P : List ℕ → List ℕ → Type 0) (before after : Known Input) (input rest : Input) → before.contents ≡ Some input → after.contents ≡ Some rest → InputsBytes before after P → P input.left rest.left
left_known P before after input rest is_before is_after through =
    (known_through (λ x y. LeftBy P x y × FewReads before.faults after.faults x y) before after input rest is_before is_after through).0

-- ---- no line

none_of : (part : ItemOutput) (lines : List ℕ) → part.line ++ lines ≡ [] → (part.line ≡ []) × (lines ≡ [])
none_of part lines none = by part.line none
  where
    by : (line : List ℕ) → line ++ lines ≡ [] → (line ≡ []) × (lines ≡ [])
    by [] none = (refl, none)
    by (x ∷ line) none = absurd (let clash : x ∷ (line ++ lines) ≡ [] = none in cc)

clean_of : (parts : List ItemOutput) → lines_of parts ≡ [] → are_clean parts ≡ true
clean_of [] none = refl
clean_of (part ∷ parts) none =
    let (first, rest) = none_of part (lines_of parts) none in
    rw (ap has_none first, clean_of parts rest)

empty_front : (text lines : List ℕ) → lines ≡ [] → IsPrefix lines text → text ≡ []
empty_front [] lines none front = refl
empty_front (x ∷ text) lines none (rest, is) = absurd (let clash : [] ≡ x ∷ (text ++ rest) = sym none ∙ is in cc)

-- ---- the packets that were read

-- the packets begin with these
abbrev Begin : List (List ℕ) → List (List ℕ) → Type 0
Begin first packets = (later : List (List ℕ)) × (packets ≡ first ++ later)

module _ (in_front : PacketsInFront) (one_way : ReadOneWay) (bytes : List ℕ) (packets : List (List ℕ)) (is : IsCaptureOf bytes packets End) where
  all_read : (read : List (List ℕ)) → IsCaptureOf bytes read End → packets ≡ read ++ []
  all_read read other = (one_way bytes packets read End End is other).0 ∙ sym (append-nil read)

  front_read : (read : List (List ℕ)) (more : List ℕ) → All IsWhole read → bytes ≡ concat read ++ more → Begin read packets
  front_read read more those same =
      let left : capture.EndsWith (length bytes) (length (concat packets)) is.rest End = is.ends in
      let size = left.1 in
      let long : length bytes ≡ length (concat read) + length more = ap length same ∙ length-append (concat read) more in
      in_front bytes read packets more End those same (omega (arith, long, size)) is

  no_fault : (read : List (List ℕ)) (fault : CaptureFault) → IsCaptureOf bytes read (capture.Fault fault) → ⊥
  no_fault read fault other = let clash : End ≡ capture.Fault fault = (one_way bytes packets read End (capture.Fault fault) is other).1 in cc

  not_too_long : (read : List (List ℕ)) → IsCaptureOf bytes read capture.TooLong → ⊥
  not_too_long read other = let clash : End ≡ capture.TooLong = (one_way bytes packets read End capture.TooLong is other).1 in cc

  -- which packets are read where the conversion comes to an item
  begin_read : (later read : List (List ℕ)) (before after : Known Input) (input rest : Input) → before.contents ≡ Some input → after.contents ≡ Some rest → input.left ≡ bytes
      → AreReadBy later read before after → (more : List (List ℕ)) × (packets ≡ read ++ more) × (later ≡ [] → more ≡ [])
  begin_read [] read before after input rest is_before is_after same all =
      let at = left_known (λ left more. IsCaptureOf left read End) before after input rest is_before is_after all in
      ([], all_read read (subst (λ l. IsCaptureOf l read End) same at), λ none. refl)
  begin_read (x ∷ later) read before after input rest is_before is_after same (reader, has) =
      let at = left_known (λ left more. left ≡ concat read ++ (reader.held ++ more)) before after input rest is_before is_after has.bytes in
      let (more, begins) = front_read read (reader.held ++ rest.left) has.whole (sym same ∙ at) in
      (more, begins, λ none. absurd (let clash : x ∷ later ≡ [] = none in cc))

-- which of them are read, and that they are enough
enough_read : PacketsInFront → ReadOneWay → (range : PacketRange) (packets read : List (List ℕ)) (before after : Known Input) (input rest : Input) → before.contents ≡ Some input → after.contents ≡ Some rest
    → IsCaptureOf input.left packets End → AreEnough range read before after → (later : List (List ℕ)) × (packets ≡ read ++ later) × ((later ≡ []) ⊎ HasEnough range read)
enough_read in_front one_way range packets read before after input rest is_before is_after is (inl ((reader, has), enough)) =
    let at = left_known (λ left more. left ≡ concat read ++ (reader.held ++ more)) before after input rest is_before is_after has.bytes in
    let (later, same) = front_read in_front one_way input.left packets is read (reader.held ++ rest.left) has.whole at in
    (later, same, inr enough)
enough_read in_front one_way range packets read before after input rest is_before is_after is (inr all) =
    let at = left_known (λ left more. IsCaptureOf left read End) before after input rest is_before is_after all in
    ([], all_read in_front one_way input.left packets is read at, inl refl)

-- a front of what is written of some first frames is a front of the capture
front_written : (plan : Plan) (text : List ℕ) (out out' : Known Output) → IsOfSomeFrames plan text → OutputsText out out' (IsPrefix text) → OutputsText out out' (IsPrefixOfCapture plan whole_schedule)
front_written plan text out out' ((n, datagrams, within, are, is), front) wrote =
    end_written plan whole_schedule n datagrams (concat datagrams) out out out' (let all = all_frames plan in omega (arith, within, all)) are (subst (IsPrefixOfCapture plan whole_schedule) is front)
    (OutputsText-nothing out (λ t. [] ++ concat datagrams ≡ t ++ concat datagrams) refl)
    (subst (λ l. OutputsText out out' (IsPrefix l)) is wrote)

-- ---- how the run ends

module _ (in_front : PacketsInFront) (one_way : ReadOneWay) (conversions : ConversionsAreCaptures) (broken : BrokenConversions) (halted : HaltedConversions) (none_is_too_large : NoneIsTooLarge) where
  pub captures_are_converted : CapturesAreConverted
  captures_are_converted plan carry range (Ok clean) through before after out out' err err' input rest fits small is_before is_after has may (read, enough, shorter, parts, conversion, text, names, clean_is) =
      let (later, same, all) = enough_read in_front one_way range has.packets read before after input rest is_before is_after has.capture enough in
      let whole : AllInTime plan range.window range.reach range.first has.arrivals (read ++ later) = subst (λ l. AllInTime plan range.window range.reach range.first has.arrivals l) same has.in_time in
      let (captured, none) = conversions plan carry range has.arrivals read later parts whole may all conversion in (
        clean_is ∙ clean_of parts none,
        OutputsText-weaker (λ t. t ≡ text_of parts) (IsCapture (under carry plan) whole_schedule) out out' text (λ t is. subst (IsCapture (under carry plan) whole_schedule) (sym is) captured),
        OutputsText-weaker (IsPrefix (lines_of parts)) (λ t. t ≡ []) err err' names.front (λ t front. empty_front t (lines_of parts) none front),
      )
  captures_are_converted plan carry range (Err faults.Read) through before after out out' err err' input rest fits small is_before is_after has may (read, whole, stops, lacks, shorter, parts, is, text, names) =
      let (held, field, same, cut) = left_known (ReadingBreaks read) before after input rest is_before is_after stops in
      let (later, begins) = front_read in_front one_way input.left has.packets has.capture read (held ++ rest.left) whole same in
      let all : AllInTime plan range.window range.reach range.first has.arrivals (read ++ later) = subst (λ l. AllInTime plan range.window range.reach range.first has.arrivals l) begins has.in_time in
      let (written, none) = broken plan carry range has.arrivals read later parts all is in (
        OutputsText-weaker (λ t. t ≡ text_of parts) (IsOfFirstFrames (under carry plan)) out out' text (λ t is. subst (IsOfFirstFrames (under carry plan)) (sym is) written),
        OutputsText-weaker (IsPrefix (lines_of parts)) (λ t. t ≡ []) err err' names.front (λ t front. empty_front t (lines_of parts) none front),
      )
  captures_are_converted plan carry range (Err faults.Write) through before after out out' err err' input rest fits small is_before is_after has may (items, item, last, reads, parts, part, converts, text, names) =
      let (later, same, all) = begin_read in_front one_way input.left has.packets has.capture reads.at.later reads.packets before after input rest is_before is_after refl reads.read in
      let whole : AllInTime plan range.window range.reach range.first has.arrivals (reads.packets ++ later) = subst (λ l. AllInTime plan range.window range.reach range.first has.arrivals l) same has.in_time in
      let (written, none) = halted plan carry range has.arrivals reads.packets later items item last (parts ++ part ∷ []) fits whole may reads.at all reads.within converts in (
        front_written (under carry plan) (text_of (parts ++ part ∷ [])) out out' written
            (OutputsText-weaker (IsPrefixBehind (text_of parts) part.out) (IsPrefix (text_of (parts ++ part ∷ []))) out out' text (front_of_all parts part)),
        OutputsText-weaker (IsPrefix (lines_of parts)) (λ t. t ≡ []) err err' names.front (λ t front. empty_front t (lines_of parts) (no_lines_before parts part none) front),
      )
  captures_are_converted plan carry range (Err faults.NoMemory) through before after out out' err err' input rest fits small is_before is_after has may (same, still, silent) = (still, silent)
  captures_are_converted plan carry range (Err (faults.PacketSize number)) through before after out out' err err' input rest fits small is_before is_after has may (items, item, last, reads, large, parts, converts, text, names) =
      let (later, same, all) = begin_read in_front one_way input.left has.packets has.capture reads.at.later reads.packets before after input rest is_before is_after refl reads.read in
      let followed : IsDeliveryOf plan range.reach range.first (pos 0) has.arrivals (reads.packets ++ later) = subst (λ l. IsDeliveryOf plan range.reach range.first (pos 0) has.arrivals l) same has.in_time.followed in
      none_is_too_large plan carry range has.arrivals reads.packets later items item last number has.in_time.schedule small has.in_time.some followed reads.at large
  captures_are_converted plan carry range (Err (faults.Capture fault)) through before after out out' err err' input rest fits small is_before is_after has may (read, whole, stops, lacks, shorter, parts, broken, text, names) =
      let at = left_known (λ left more. IsCaptureOf left read (capture.Fault fault)) before after input rest is_before is_after stops in
      no_fault in_front one_way input.left has.packets has.capture read fault at
  captures_are_converted plan carry range (Err faults.CaptureTooLong) through before after out out' err err' input rest fits small is_before is_after has may (read, whole, stops, lacks, shorter, parts, broken, text, names) =
      let at = left_known (λ left more. IsCaptureOf left read capture.TooLong) before after input rest is_before is_after stops in
      not_too_long in_front one_way input.left has.packets has.capture read at
  captures_are_converted plan carry range (Err faults.Words) through before after out out' err err' input rest fits small is_before is_after has may ends = ends
  captures_are_converted plan carry range (Err (faults.FacLength n)) through before after out out' err err' input rest fits small is_before is_after has may ends = ends
  captures_are_converted plan carry range (Err faults.FacOver) through before after out out' err err' input rest fits small is_before is_after has may ends = ends
  captures_are_converted plan carry range (Err (faults.FacCrc stands computed)) through before after out out' err err' input rest fits small is_before is_after has may ends = ends
  captures_are_converted plan carry range (Err (faults.Schedule line reason)) through before after out out' err err' input rest fits small is_before is_after has may ends = ends
  captures_are_converted plan carry range (Err (faults.Script line reason)) through before after out out' err err' input rest fits small is_before is_after has may ends = ends
  captures_are_converted plan carry range (Err (faults.Units wrong)) through before after out out' err err' input rest fits small is_before is_after has may ends = ends
  captures_are_converted plan carry range (Err faults.Link) through before after out out' err err' input rest fits small is_before is_after has may ends = ends
