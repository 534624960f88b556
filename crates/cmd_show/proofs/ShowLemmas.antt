-- What `show` has written, packet by packet, and how it ends.
use Rattle.std.proofs.Common.{◌≡◌, ℕ, ◌+◌, inl, inr, Bool, true, false, List, [], ◌∷◌, ◌++◌, length, Result, Ok, Err, refl, sym, ◌∙◌, ap, subst, arith, length-append}
use Rattle.std.specs.Prelude.{All, not, ◌&&◌, OnErr, IsErr, IfOk}
use Rattle.std.specs.List.{concat}
use Rattle.std.proofs.lemmas.List.{append-nil}
use Rattle.std.proofs.lemmas.List.Folds.{concat-append, list_all-append}
use Rattle.std.proofs.lemmas.Grind.{flat_map-append}
use Rattle.drm_links.specs.Known.{Known, HasCause, RisesWhere}
use Rattle.drm_links.specs.Source.{Input, InputsBytes}
use Rattle.drm_links.specs.Sink.{Output, OutputsText, IsPrefix, IsPrefixBehind}
use Rattle.drm_links.proofs.KnownLemmas.{counts_as, counts_none, InputsBytes-nothing, InputsBytes-weaker, OutputsText-nothing, OutputsText-then, OutputsText-weaker}
use Rattle.drm_links.proofs.WritingLemmas.{front_behind, front_more, front_of_both}
use Rattle.capture_reader.specs.declared.packets.CaptureStop.{CaptureStop}
use Rattle.capture_reader.specs.declared.packets.CaptureStop.TheVariants as stops
use Rattle.capture_reader.specs.Capture as capture
use Rattle.capture_reader.specs.Front.{IsWhole}
use Rattle.capture_reader.specs.Laws.{ReadOneWay}
use Rattle.capture_reader.specs.Walking.{WalkerState, new_walker}
use Rattle.capture_reader.specs.Reading.{HasRead, ReadingStops}
use Rattle.report_dump.specs.declared.packet.ShowFault.{ShowFault}
use Rattle.report_dump.specs.Text.{IsPacketText}
use Rattle.report_dump.specs.Shown.{ShowsPacket}
use Rattle.report_dump.specs.Laws.{HasOneText}
use Rattle.report_dump.specs.Lines.{end_packets_line}
use Rattle.cmd_faults.specs.Fault.{UnlessMemory}
use Rattle.cmd_faults.specs.declared.fault.Fault.{Fault}
use Rattle.cmd_faults.specs.declared.fault.Fault.TheVariants as faults
use Rattle.cmd_faults.specs.Captures.{EndsEarly, stop_fault}
use Rattle.cmd_faults.proofs.CauseLemmas.{inner_fault}
use Rattle.cmd_show.specs.Show.{PacketText, AreTexts, all_texts, capture_text, are_clean, IsShown, ShowEnds, IsWholeText, IsPrefixOfText, ShowIsSound, EndsByIt, ShowRun}

-- ---- texts one after another

texts_more : (at : ℕ) (packets : List (List ℕ)) (texts : List PacketText) (packet : List ℕ) (shown : PacketText) → AreTexts at packets texts → IsPacketText (at + length (concat packets)) packet shown.text shown.bad
    → AreTexts at (packets ++ packet ∷ []) (texts ++ shown ∷ [])
texts_more at [] [] packet shown are is = (let same : at + 0 ≡ at = omega arith in subst (λ k. IsPacketText k packet shown.text shown.bad) same is, tt)
texts_more at [] (t ∷ texts) packet shown are is = absurd are
texts_more at (p ∷ packets) [] packet shown are is = absurd are
texts_more at (p ∷ packets) (t ∷ texts) packet shown are is =
    let size : length (concat (p ∷ packets)) ≡ length p + length (concat packets) = length-append p (concat packets) in
    let place : at + length (concat (p ∷ packets)) ≡ at + length p + length (concat packets) = omega (arith, size) in
    (are.0, texts_more (at + length p) packets texts packet shown are.1 (subst (λ k. IsPacketText k packet shown.text shown.bad) place is))

one_texts : HasOneText → (at : ℕ) (packets : List (List ℕ)) (texts others : List PacketText) → AreTexts at packets texts → AreTexts at packets others → texts ≡ others
one_texts one at [] [] [] are also = refl
one_texts one at [] [] (o ∷ others) are also = absurd also
one_texts one at [] (t ∷ texts) others are also = absurd are
one_texts one at (p ∷ packets) [] others are also = absurd are
one_texts one at (p ∷ packets) (t ∷ texts) [] are also = absurd also
one_texts one at (p ∷ packets) (t ∷ texts) (o ∷ others) are also =
    let same = one at p t.text o.text t.bad o.bad are.0 also.0 in
    let head : t ≡ o = ap (λ text. record { text = text; bad = t.bad }) same.0 ∙ ap (λ bad. record { text = o.text; bad = bad }) same.1 in
    ap (λ x. x ∷ texts) head ∙ ap (λ xs. o ∷ xs) (one_texts one (at + length p) packets texts others are.1 also.1)

all_more : (texts : List PacketText) (shown : PacketText) → all_texts (texts ++ shown ∷ []) ≡ all_texts texts ++ shown.text
all_more texts shown = flat_map-append (λ (t : PacketText). t.text) texts (shown ∷ []) ∙ ap (λ l. all_texts texts ++ l) (append-nil shown.text)

clean_more : (texts : List PacketText) (shown : PacketText) → are_clean (texts ++ shown ∷ []) ≡ (are_clean texts && not shown.bad)
clean_more texts shown = list_all-append (λ (t : PacketText). not t.bad) texts (shown ∷ []) ∙ ap (λ b. are_clean texts && b) (and_true (not shown.bad))
  where
    and_true : (b : Bool) → (b && true) ≡ b
    and_true true = refl
    and_true false = refl

concat_more : (packets : List (List ℕ)) (packet : List ℕ) → concat (packets ++ packet ∷ []) ≡ concat packets ++ packet
concat_more packets packet = concat-append packets (packet ∷ []) ∙ ap (λ l. concat packets ++ l) (append-nil packet)

-- ---- the loop

-- nothing was read yet
pub read_none : (before : Known Input) (reader : WalkerState) → reader ≡ new_walker → HasRead [] reader before before
read_none before reader new =
    subst (λ r. HasRead [] r before before) (sym new)
    (record { whole = λ k d within. absurd (omega (arith, within)); at = refl; few = omega arith; room = omega arith; bytes = InputsBytes-nothing (λ left rest. left ≡ rest) before (λ left. refl) })

-- So many packets and bytes were shown, of what was read so far, and whether none is bad.
pub record HasShown (reader : WalkerState) (before after : Known Input) (a b : Known Output) (count bytes : ℕ) (clean : Bool) : Type 0 where
  pub packets : List (List ℕ)
  pub read : HasRead packets reader before after
  pub texts : List PacketText
  pub are : AreTexts 0 packets texts
  pub wrote : OutputsText a b (λ text. text ≡ all_texts texts)
  pub count_is : count ≡ length packets
  pub bytes_are : bytes ≡ length (concat packets)
  pub clean_is : clean ≡ are_clean texts

pub shown_none : (before : Known Input) (a : Known Output) (reader : WalkerState) → reader ≡ new_walker → HasShown reader before before a a 0 0 true
shown_none before a reader new = record {
  packets = [];
  read = read_none before reader new;
  texts = [];
  are = tt;
  wrote = OutputsText-nothing a (λ text. text ≡ []) refl;
  count_is = refl;
  bytes_are = refl;
  clean_is = refl;
}

abbrev shown_as : List ℕ → Bool → PacketText
shown_as text bad = record { text = text; bad = bad }

-- more was read, and nothing shown meanwhile
abbrev pub still_shown : {old reader : WalkerState} {before then after : Known Input} {a b : Known Output} {count bytes : ℕ} {clean : Bool} (has : HasShown old before then a b count bytes clean)
    → HasRead has.packets reader before after → HasShown reader before after a b count bytes clean
still_shown has read =
    record { packets = has.packets; read = read; texts = has.texts; are = has.are; wrote = has.wrote; count_is = has.count_is; bytes_are = has.bytes_are; clean_is = has.clean_is }

-- The packet behind those that were shown, and its text.
pub record ShowsNext (reader : WalkerState) (before after : Known Input) (a b : Known Output) (count bytes : ℕ) (clean : Bool) (packet text : List ℕ) (bad : Bool) : Type 0 where
  pub whole : WalkerState
  pub has : HasShown whole before after a b count bytes clean
  pub more : HasRead (has.packets ++ packet ∷ []) reader before after
  pub is : IsPacketText (length (concat has.packets)) packet text bad

pub shows_next : {old whole reader : WalkerState} {before then after : Known Input} {a b d : Known Output} {at count bytes : ℕ} {clean : Bool} {packet : List ℕ} {result : Result Bool ShowFault}
    (has : HasShown old before then a b count bytes clean) → HasRead has.packets whole before after → HasRead (has.packets ++ packet ∷ []) reader before after → at ≡ whole.at
    → (shown : ShowsPacket result b d at packet) → ShowsNext reader before after a b count bytes clean packet shown.text shown.bad
shows_next {whole = whole} {packet = packet} has read more here shown =
    record { whole = whole; has = still_shown has read; more = more; is = subst (λ k. IsPacketText k packet shown.text shown.bad) (here ∙ read.at) shown.is }

texts_of_next : {reader : WalkerState} {before after : Known Input} {a b : Known Output} {count bytes : ℕ} {clean : Bool} {packet text : List ℕ} {bad : Bool}
    (next : ShowsNext reader before after a b count bytes clean packet text bad) → AreTexts 0 (next.has.packets ++ packet ∷ []) (next.has.texts ++ shown_as text bad ∷ [])
texts_of_next {packet = packet} {text = text} {bad = bad} next =
    let same : length (concat next.has.packets) ≡ 0 + length (concat next.has.packets) = omega arith in
    texts_more 0 next.has.packets next.has.texts packet (shown_as text bad) next.has.are (subst (λ k. IsPacketText k packet text bad) same next.is)

-- a packet more
pub shown_more : (reader : WalkerState) (before after : Known Input) (a b d : Known Output) (count bytes : ℕ) (clean : Bool) (packet text : List ℕ) (bad : Bool)
    → ShowsNext reader before after a b count bytes clean packet text bad → OutputsText b d (λ t. t ≡ text)
    → HasShown reader before after a d (count + 1) (bytes + length packet) (clean && not bad)
shown_more reader before after a b d count bytes clean packet text bad next wrote = let has = next.has in record {
  packets = has.packets ++ packet ∷ [];
  read = next.more;
  texts = has.texts ++ shown_as text bad ∷ [];
  are = texts_of_next next;
  wrote = OutputsText-then (λ t. t ≡ all_texts has.texts) (λ t. t ≡ text) (λ t. t ≡ all_texts (has.texts ++ shown_as text bad ∷ [])) a b d has.wrote wrote (λ s t p q. ap (λ l. l ++ t) p ∙ ap (λ l. all_texts has.texts ++ l) q ∙ sym (all_more has.texts (shown_as text bad)));
  count_is = (let one = length-append has.packets (packet ∷ []) in let before = has.count_is in omega (arith, one, before));
  bytes_are = (let parts : length (concat (has.packets ++ packet ∷ [])) ≡ length (concat has.packets) + length packet = ap length (concat_more has.packets packet) ∙ length-append (concat has.packets) packet in let before = has.bytes_are in omega (arith, parts, before));
  clean_is = ap (λ b. b && not bad) has.clean_is ∙ sym (clean_more has.texts (shown_as text bad));
}

-- ---- what each ending has written

-- What is read and written at the end, and that it is a text whatever was read.
pub record HasEnded (ending : Result Bool Fault) (before after : Known Input) (out out' : Known Output) : Type 0 where
  pub ends : ShowEnds ending before after out out'
  pub sound : ShowIsSound ending out out'

front_of_text : (packets : List (List ℕ)) (texts : List PacketText) (text : List ℕ) → All IsWhole packets → AreTexts 0 packets texts → IsPrefix (capture_text packets texts) text → IsPrefixOfText text
front_of_text packets texts text whole are front = (are_clean texts, capture_text packets texts, (packets, whole, texts, are, refl, refl), front)

-- nothing was read or written
pub nothing_ended : (before : Known Input) (o : Known Output) → HasEnded (Err faults.NoMemory) before before o o
nothing_ended before o = record {
  ends = (refl, refl);
  sound = OutputsText-nothing o IsPrefixOfText (front_of_text [] [] [] (λ k d within. absurd (omega (arith, within))) tt (capture_text [] [], refl));
}

module _ (o now : Known Output) (reader : WalkerState) (before after : Known Input) (count bytes : ℕ) (clean : Bool) (has : HasShown reader before after o now count bytes clean) where
  front_so_far : OutputsText o now IsPrefixOfText
  front_so_far =
      OutputsText-weaker (λ t. t ≡ all_texts has.texts) IsPrefixOfText o now has.wrote
      (λ t is. front_of_text has.packets has.texts t has.read.whole has.are (end_packets_line (length has.packets) (length (concat has.packets)), ap (λ l. l ++ end_packets_line (length has.packets) (length (concat has.packets))) (sym is)))

  pub stopped : (stop : CaptureStop) (later : Known Input) → ReadingStops has.packets stop before later → HasEnded (Err (stop_fault stop)) before later o now
  stopped stops.Read later is = record { ends = (has.packets, has.texts, has.are, has.read.whole, is, has.wrote); sound = front_so_far }
  stopped (stops.Capture fault) later is = record { ends = (has.packets, has.texts, has.are, has.read.whole, is, has.wrote); sound = front_so_far }
  stopped stops.TooLong later is = record { ends = (has.packets, has.texts, has.are, has.read.whole, is, has.wrote); sound = front_so_far }

  module _ (ended : InputsBytes before after (λ left _. capture.IsCaptureOf left has.packets capture.End)) where
    end_text : end_packets_line count bytes ≡ end_packets_line (length has.packets) (length (concat has.packets))
    end_text = ap (λ k. end_packets_line k bytes) has.count_is ∙ ap (end_packets_line (length has.packets)) has.bytes_are

    whole_text : (o' : Known Output) → OutputsText now o' (λ t. t ≡ end_packets_line count bytes) → OutputsText o o' (λ t. t ≡ capture_text has.packets has.texts)
    whole_text o' wrote =
        OutputsText-then (λ t. t ≡ all_texts has.texts) (λ t. t ≡ end_packets_line count bytes) (λ t. t ≡ capture_text has.packets has.texts) o now o' has.wrote wrote
        (λ s t p q. ap (λ l. l ++ t) p ∙ ap (λ l. all_texts has.texts ++ l) (q ∙ end_text))

    pub done : (o' : Known Output) → OutputsText now o' (λ t. t ≡ end_packets_line count bytes) → HasEnded (Ok clean) before after o o'
    done o' wrote = record {
      ends = (has.packets, has.texts, has.are, ended, whole_text o' wrote, has.clean_is);
      sound = OutputsText-weaker (λ t. t ≡ capture_text has.packets has.texts) (IsWholeText clean) o o' (whole_text o' wrote) (λ t is. (has.packets, has.read.whole, has.texts, has.are, is, has.clean_is));
    }

    last_cut : (o' : Known Output) → OutputsText now o' (IsPrefix (end_packets_line count bytes)) → OutputsText o o' (IsPrefixBehind (all_texts has.texts) (end_packets_line (length has.packets) (length (concat has.packets))))
    last_cut o' front = subst (λ l. OutputsText o o' (IsPrefixBehind (all_texts has.texts) l)) end_text (front_behind (all_texts has.texts) (end_packets_line count bytes) o now o' has.wrote front)

    pub cut_end : (o' : Known Output) → OutputsText now o' (IsPrefix (end_packets_line count bytes)) → HasEnded (Err faults.Write) before after o o'
    cut_end o' front =
        let last : List ℕ = end_packets_line (length has.packets) (length (concat has.packets)) in
        record {
          ends = (has.packets, has.texts, inr (has.are, ended, last_cut o' front));
          sound = OutputsText-weaker (IsPrefixBehind (all_texts has.texts) last) IsPrefixOfText o o' (last_cut o' front)
              (λ t behind. front_of_text has.packets has.texts t has.read.whole has.are (front_of_both (all_texts has.texts) last t behind));
        }

-- a write of the next packet's text failed
pub cut : (reader : WalkerState) (before after : Known Input) (o now o' : Known Output) (count bytes : ℕ) (clean : Bool) (packet text : List ℕ) (bad : Bool)
    → ShowsNext reader before after o now count bytes clean packet text bad → OutputsText now o' (IsPrefix text) → HasEnded (Err faults.Write) before after o o'
cut reader before after o now o' count bytes clean packet text bad next front =
    let before_it : List ℕ = all_texts next.has.texts in
    let packets : List (List ℕ) = next.has.packets ++ packet ∷ [] in
    let texts : List PacketText = next.has.texts ++ shown_as text bad ∷ [] in
    let last : List ℕ = end_packets_line (length packets) (length (concat packets)) in
    let behind : OutputsText o o' (IsPrefixBehind before_it text) = front_behind before_it text o now o' next.has.wrote front in
    record {
      ends = (next.has.packets, next.has.texts, inl (packet, shown_as text bad, texts_of_next next, (reader, next.more), behind));
      sound = OutputsText-weaker (IsPrefixBehind before_it text) IsPrefixOfText o o' behind
          (λ t is.
          let front : IsPrefix (all_texts texts) t = subst (λ l. IsPrefix l t) (sym (all_more next.has.texts (shown_as text bad))) (front_of_both before_it text t is) in
          front_of_text packets texts t next.more.whole (texts_of_next next) (front_more (all_texts texts) last t front));
    }

-- ---- the whole run

abbrev of_fault : Fault → Result Bool Fault
of_fault fault = Err fault

module _ {I O : Type 0} (one_way : ReadOneWay) (one_text : HasOneText) (input_known : I → Known Input) (input input' : I) (out_known : O → Known Output) (out out' : O) where
  abbrev i : Known Input
  i = input_known input

  abbrev i' : Known Input
  i' = input_known input'

  abbrev o : Known Output
  o = out_known out

  abbrev o' : Known Output
  o' = out_known out'

  -- nothing was read, and this holds of whatever is left
  unread : (P : List ℕ → List ℕ → Type 0) → i' ≡ i → ((left : List ℕ) → P left left) → InputsBytes i i' P
  unread P same holds = subst (λ (now : Known Input). InputsBytes i now P) (sym same) (InputsBytes-nothing P i holds)

  abbrev Exactly : Result Bool Fault → List ℕ → Type 0
  Exactly ending left = UnlessMemory ending ((why : capture.CaptureEnding) (packets : List (List ℕ)) → capture.IsCaptureOf left packets why → EndsByIt ending why)

  -- it ends as these bytes do
  as_they_end : (ending : Result Bool Fault) (is : capture.CaptureEnding) (packets : List (List ℕ)) (left : List ℕ) → EndsByIt ending is → capture.IsCaptureOf left packets is → Exactly ending left
  as_they_end ending is packets left by of = inr (λ why others read. subst (EndsByIt ending) (one_way left packets others is why of read).1 by)

  ends_exactly : (ending : Result Bool Fault) → (ending ≡ Err faults.Read → ⊥) → (ending ≡ Err faults.Write → ⊥) → ShowEnds ending i i' o o' → InputsBytes i i' (λ left _. Exactly ending left)
  ends_exactly (Ok clean) no_read no_write (packets, texts, are, is, wrote, same) =
      InputsBytes-weaker (λ left _. capture.IsCaptureOf left packets capture.End) (λ left _. Exactly (Ok clean) left) i i' is (λ left rest of. as_they_end (Ok clean) capture.End packets left (clean, refl) of)
  ends_exactly (Err faults.NoMemory) no_read no_write (same, none) = unread (λ left _. Exactly (Err faults.NoMemory) left) same (λ left. inl refl)
  ends_exactly (Err faults.Read) no_read no_write ends = absurd (no_read refl)
  ends_exactly (Err faults.Write) no_read no_write ends = absurd (no_write refl)
  ends_exactly (Err (faults.Capture f)) no_read no_write (packets, texts, are, whole, is, wrote) =
      InputsBytes-weaker (λ left _. capture.IsCaptureOf left packets (capture.Fault f)) (λ left _. Exactly (Err (faults.Capture f)) left) i i' is (λ left rest of. as_they_end (Err (faults.Capture f)) (capture.Fault f) packets left refl of)
  ends_exactly (Err faults.CaptureTooLong) no_read no_write (packets, texts, are, whole, is, wrote) =
      InputsBytes-weaker (λ left _. capture.IsCaptureOf left packets capture.TooLong) (λ left _. Exactly (Err faults.CaptureTooLong) left) i i' is (λ left rest of. as_they_end (Err faults.CaptureTooLong) capture.TooLong packets left refl of)
  ends_exactly (Err faults.Words) no_read no_write ends = absurd ends
  ends_exactly (Err (faults.FacLength n)) no_read no_write ends = absurd ends
  ends_exactly (Err faults.FacOver) no_read no_write ends = absurd ends
  ends_exactly (Err (faults.FacCrc s c)) no_read no_write ends = absurd ends
  ends_exactly (Err (faults.Schedule l r)) no_read no_write ends = absurd ends
  ends_exactly (Err (faults.Script l r)) no_read no_write ends = absurd ends
  ends_exactly (Err (faults.PacketSize p)) no_read no_write ends = absurd ends
  ends_exactly (Err (faults.Units p)) no_read no_write ends = absurd ends
  ends_exactly (Err faults.Link) no_read no_write ends = absurd ends

  abbrev Wanted : List (List ℕ) → List PacketText → Result Bool Fault → Type 0
  Wanted packets texts ending = (ending ≡ Ok (are_clean texts)) × OutputsText o o' (λ text. text ≡ capture_text packets texts)

  abbrev Complete : Result Bool Fault → List ℕ → Type 0
  Complete ending left = (packets : List (List ℕ)) (texts : List PacketText) → IsShown left capture.End packets texts → UnlessMemory ending (Wanted packets texts ending)

  -- a capture is no other one, and has one text
  is_wanted : (left : List ℕ) (packets : List (List ℕ)) (texts : List PacketText) → IsShown left capture.End packets texts → (clean : Bool) (others : List (List ℕ)) (other_texts : List PacketText)
      → capture.IsCaptureOf left others capture.End → AreTexts 0 others other_texts → OutputsText o o' (λ text. text ≡ capture_text others other_texts) → clean ≡ are_clean other_texts → Wanted packets texts (Ok clean)
  is_wanted left packets texts shown clean others other_texts also are wrote is =
      let same : others ≡ packets = (one_way left others packets capture.End capture.End also shown.is).0 in
      let same_texts : other_texts ≡ texts = one_texts one_text 0 packets other_texts texts (subst (λ ps. AreTexts 0 ps other_texts) same are) shown.are in (
        ap Ok (is ∙ ap are_clean same_texts),
        OutputsText-weaker (λ text. text ≡ capture_text others other_texts) (λ text. text ≡ capture_text packets texts) o o' wrote
            (λ t p. p ∙ ap (λ ps. capture_text ps other_texts) same ∙ ap (capture_text packets) same_texts),
      )

  -- a capture doesn't end by a fault
  not_faulty : (left : List ℕ) (packets : List (List ℕ)) (texts : List PacketText) → IsShown left capture.End packets texts → (why : capture.CaptureEnding) (others : List (List ℕ)) → capture.IsCaptureOf left others why → capture.End ≡ why
  not_faulty left packets texts shown why others is = (one_way left packets others capture.End why shown.is is).1

  completes : (ending : Result Bool Fault) → (ending ≡ Err faults.Read → ⊥) → (ending ≡ Err faults.Write → ⊥) → ShowEnds ending i i' o o' → InputsBytes i i' (λ left _. Complete ending left)
  completes (Ok clean) no_read no_write (others, other_texts, are, is, wrote, same) =
      InputsBytes-weaker (λ left _. capture.IsCaptureOf left others capture.End) (λ left _. Complete (Ok clean) left) i i' is
      (λ left rest also packets texts shown. inr (is_wanted left packets texts shown clean others other_texts also are wrote same))
  completes (Err faults.NoMemory) no_read no_write (same, none) = unread (λ left _. Complete (Err faults.NoMemory) left) same (λ left packets texts shown. inl refl)
  completes (Err faults.Read) no_read no_write ends = absurd (no_read refl)
  completes (Err faults.Write) no_read no_write ends = absurd (no_write refl)
  completes (Err (faults.Capture f)) no_read no_write (others, other_texts, are, whole, is, wrote) =
      InputsBytes-weaker (λ left _. capture.IsCaptureOf left others (capture.Fault f)) (λ left _. Complete (Err (faults.Capture f)) left) i i' is
      (λ left rest also packets texts shown. absurd (let x : capture.End ≡ capture.Fault f = not_faulty left packets texts shown (capture.Fault f) others also in cc))
  completes (Err faults.CaptureTooLong) no_read no_write (others, other_texts, are, whole, is, wrote) =
      InputsBytes-weaker (λ left _. capture.IsCaptureOf left others capture.TooLong) (λ left _. Complete (Err faults.CaptureTooLong) left) i i' is
      (λ left rest also packets texts shown. absurd (let x : capture.End ≡ capture.TooLong = not_faulty left packets texts shown capture.TooLong others also in cc))
  completes (Err faults.Words) no_read no_write ends = absurd ends
  completes (Err (faults.FacLength n)) no_read no_write ends = absurd ends
  completes (Err faults.FacOver) no_read no_write ends = absurd ends
  completes (Err (faults.FacCrc s c)) no_read no_write ends = absurd ends
  completes (Err (faults.Schedule l r)) no_read no_write ends = absurd ends
  completes (Err (faults.Script l r)) no_read no_write ends = absurd ends
  completes (Err (faults.PacketSize p)) no_read no_write ends = absurd ends
  completes (Err (faults.Units p)) no_read no_write ends = absurd ends
  completes (Err faults.Link) no_read no_write ends = absurd ends

  pub show_run : (ending : Result Bool Fault) → ((fault : Fault) → ending ≡ Err fault → EndsEarly fault) → HasEnded ending i i' o o'
      → (ending ≡ Err faults.NoMemory → (input' ≡ input) × (out' ≡ out)) → HasCause i i' (ending ≡ Err faults.Read) → HasCause o o' (ending ≡ Err faults.Write)
      → ShowRun ending input_known input input' out_known out out'
  show_run ending kind ended untouched read_cause write_cause = record {
    kind = kind;
    ends = ended.ends;
    sound = ended.sound;
    untouched = untouched;
    exactly = λ no_read no_write. ends_exactly ending no_read no_write ended.ends;
    complete = λ no_failed_read no_failed_write. completes ending (λ is. no_failed_read (read_cause.once is)) (λ is. no_failed_write (write_cause.once is)) ended.ends;
    read_cause = read_cause;
    write_cause = write_cause;
  }

-- ---- why a run ends

-- the reading wasn't stopped
pub not_stopped : (result : Result Bool CaptureStop) (found : Bool) → result ≡ Ok found → result ≡ Err stops.TooLong → ⊥
not_stopped result found is stopped = let x : Ok found ≡ Err stops.TooLong = sym is ∙ stopped in cc

pub early : (why fault : Fault) → EndsEarly why → of_fault why ≡ of_fault fault → EndsEarly fault
early why fault ends is = subst EndsEarly (inner_fault why fault is) ends

pub stop_early : (stop : CaptureStop) → EndsEarly (stop_fault stop)
stop_early stops.Read = tt
stop_early (stops.Capture f) = tt
stop_early stops.TooLong = tt

pub stop_no_memory : (stop : CaptureStop) → of_fault (stop_fault stop) ≡ of_fault faults.NoMemory → ⊥
stop_no_memory stops.Read is = let x = inner_fault _ _ is in cc
stop_no_memory (stops.Capture f) is = let x = inner_fault _ _ is in cc
stop_no_memory stops.TooLong is = let x = inner_fault _ _ is in cc

pub stop_no_write : (stop : CaptureStop) → of_fault (stop_fault stop) ≡ of_fault faults.Write → ⊥
stop_no_write stops.Read is = let x = inner_fault _ _ is in cc
stop_no_write (stops.Capture f) is = let x = inner_fault _ _ is in cc
stop_no_write stops.TooLong is = let x = inner_fault _ _ is in cc

pub stop_is_read : (stop : CaptureStop) → of_fault (stop_fault stop) ≡ of_fault faults.Read → stop ≡ stops.Read
stop_is_read stops.Read is = refl
stop_is_read (stops.Capture f) is = absurd (let x = inner_fault _ _ is in cc)
stop_is_read stops.TooLong is = absurd (let x = inner_fault _ _ is in cc)

-- the run ends by a failed read exactly where the reading does
pub stopped_counts : {a b : ℕ} {result : Result Bool CaptureStop} {stop : CaptureStop} → result ≡ Err stop → RisesWhere a b (result ≡ Err stops.Read) → RisesWhere a b (of_fault (stop_fault stop) ≡ of_fault faults.Read)
stopped_counts {stop = stop} was counts =
    counts_as (λ is. was ∙ ap Err (stop_is_read stop is)) (λ is. let same : stop ≡ stops.Read = cc in ap (λ s. of_fault (stop_fault s)) same) counts

-- no read failed where the reading came on
pub found_counts : {a b : ℕ} {result : Result Bool CaptureStop} {found : Bool} → result ≡ Ok found → RisesWhere a b (result ≡ Err stops.Read) → b ≡ a
found_counts is counts = counts.same (λ failed. cc)

pub write_no_memory : of_fault faults.Write ≡ of_fault faults.NoMemory → ⊥
write_no_memory is = let x = inner_fault faults.Write faults.NoMemory is in cc

pub write_no_read : of_fault faults.Write ≡ of_fault faults.Read → ⊥
write_no_read is = let x = inner_fault faults.Write faults.Read is in cc

memory_no_read : of_fault faults.NoMemory ≡ of_fault faults.Read → ⊥
memory_no_read is = let x = inner_fault faults.NoMemory faults.Read is in cc

-- memory was wanting
pub memory_run : {I O : Type 0} (one_way : ReadOneWay) (one_text : HasOneText) (input_known : I → Known Input) (input : I) (out_known : O → Known Output) (out : O)
    → ShowRun (Err faults.NoMemory) input_known input input out_known out out
memory_run one_way one_text input_known input out_known out =
    show_run one_way one_text input_known input input out_known out out (Err faults.NoMemory) (λ fault is. early faults.NoMemory fault tt is) (nothing_ended (input_known input) (out_known out)) (λ is. (refl, refl))
    (counts_none memory_no_read refl) (counts_none (λ is. write_no_memory (sym is)) refl)

-- a packet that wasn't shown whole
pub not_shown : (result : Result Bool ShowFault) (P : Type 0) → ((bad : Bool) → result ≡ Ok bad → ⊥) → OnErr result P → P
not_shown (Ok bad) P none on = absurd (none bad refl)
not_shown (Err fault) P none on = on

pub failed : (result : Result Bool ShowFault) → ((bad : Bool) → result ≡ Ok bad → ⊥) → IsErr result
failed (Ok bad) none = absurd (none bad refl)
failed (Err fault) none = refl

pub was_shown : (result : Result Bool ShowFault) (bad : Bool) (P : Bool → Type 0) → result ≡ Ok bad → IfOk result P → P bad
was_shown result bad P is whole = subst (λ r. IfOk r P) is whole
