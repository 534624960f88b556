-- What is written is what is printed of some items, whatever was read.
use Rattle.std.proofs.Common.{ℕ, ◌≡◌, inl, inr, Bool, List, [], ◌∷◌, ◌++◌, refl, sym, ap, subst, ◌∙◌, append_assoc, Result, Ok, Err, is_some}
use Rattle.std.proofs.lemmas.List.{append-nil}
use Rattle.recv_reading.proofs.Common.{Known, Input, Output, OutputsText, IsPrefix, IsPrefixBehind}
use Rattle.drm_links.proofs.KnownLemmas.{OutputsText-nothing, OutputsText-weaker}
use Rattle.drm_links.proofs.WritingLemmas.{front_of_both}
use Rattle.capture_reader.specs.declared.packets.CaptureStop.{CaptureStop}
use Rattle.capture_reader.specs.declared.packets.CaptureStop.TheVariants as stops
use Rattle.mod_feed.specs.Items.{FrameItem}
use Rattle.drm_data.specs.Joining.{made}
use Rattle.law_data.specs.Runs.{answers, after_all}
use Rattle.drm_text.specs.Joining as joining
use Rattle.cmd_faults.specs.declared.fault.Fault.{Fault}
use Rattle.cmd_faults.specs.Captures.{EndsEarly}
use Rattle.cmd_faults.proofs.CaptureLemmas.{each_early}
use Rattle.recv_reading.specs.declared.options.PacketRange.{PacketRange}
use Rattle.cmd_unpack.specs.Streams.{PayloadKind, UnitsOf, TextsOf}
use Rattle.cmd_unpack.specs.Lines.{cut_line, units_end, texts_end, is_clean}
use Rattle.cmd_unpack.specs.Printed.{IsPrinted, IsWholeText, unit_counts, text_counts}
use Rattle.cmd_unpack.specs.Run.{WritesUntil, WritesPrefix, DataEnds, IsPrefixOfText, UnpackIsSound}

-- what an end adds to what is printed
whole_behind : (what : PayloadKind) (items : List FrameItem) (text : List ℕ) → IsPrinted what items text → (rest : List ℕ) × (clean : Bool) × IsWholeText what items (text ++ rest) clean
whole_behind (UnitsOf k id d) items text (events, are, is) =
    let said = answers (made id d) events in
    let left = is_some (after_all (made id d) events).begun in
    let counts = unit_counts k id d items said left in
    (cut_line left ++ units_end counts, is_clean counts, (events, are, (ap (λ l. l ++ (cut_line left ++ units_end counts)) is, refl)))
whole_behind (TextsOf k) items text (texts, left, runs, is) =
    let counts = text_counts k items texts in
    (texts_end counts, is_clean counts, (texts, left, runs, (ap (λ l. l ++ texts_end counts) is, refl)))

front_printed : (what : PayloadKind) (items : List FrameItem) (printed text : List ℕ) → IsPrinted what items printed → IsPrefix printed text → IsPrefixOfText what text
front_printed what items printed text is (more, front) =
    let (rest, clean, whole) = whole_behind what items printed is in
    (items, printed ++ rest, clean, whole, (more ++ rest, ap (λ l. l ++ rest) front ∙ append_assoc text more rest))

-- nothing is printed of no items
printed_none : (what : PayloadKind) → IsPrinted what [] []
printed_none (UnitsOf k id d) = ([], refl, refl)
printed_none (TextsOf k) = ([], joining.made, (refl, refl), refl)

module _ (range : PacketRange) (what : PayloadKind) (before after : Known Input) (a b : Known Output) where
  until : (stop : CaptureStop) → WritesUntil range what stop before after a b → OutputsText a b (IsPrefixOfText what)
  until stop (given, gives, items, are, printed, is, out) =
      OutputsText-weaker (λ t. t ≡ printed) (IsPrefixOfText what) a b out (λ t e. front_printed what items printed t is ([], sym e ∙ sym (append-nil t)))

  front : WritesPrefix range what before after a b → OutputsText a b (IsPrefixOfText what)
  front (inl (given, last, gives, items, are, item, item_is, printed, line, was, is, out)) =
      OutputsText-weaker (IsPrefixBehind printed line) (IsPrefixOfText what) a b out (λ t e. front_printed what (items ++ item ∷ []) (printed ++ line) t is (front_of_both printed line t e))
  front (inr (given, gives, items, are, printed, rest, clean, was, is, out)) =
      OutputsText-weaker (IsPrefixBehind printed rest) (IsPrefixOfText what) a b out (λ t e. (items, printed ++ rest, clean, is, front_of_both printed rest t e))

  pub sound : (ending : Result Bool Fault) → ((fault : Fault) → ending ≡ Err fault → EndsEarly fault) → DataEnds range what ending before after a b → UnpackIsSound what ending a b
  sound (Ok clean) kind (given, gives, items, are, whole, is, out) =
      OutputsText-weaker (λ t. t ≡ whole) (λ t. (items : List FrameItem) × IsWholeText what items t clean) a b out (λ t e. (items, subst (λ l. IsWholeText what items l clean) (sym e) is))
  sound (Err fault) kind ends =
      each_early ⊥ (λ f. DataEnds range what (Err f) before after a b → OutputsText a b (IsPrefixOfText what))
      (λ (same, none). subst (λ (k : Known Output). OutputsText a k (IsPrefixOfText what)) (sym none) (OutputsText-nothing a (IsPrefixOfText what) (front_printed what [] [] [] (printed_none what) ([], refl))))
      (λ wrong ends. until (stops.Capture wrong) ends) (λ ends. until stops.TooLong ends) (λ ends. until stops.Read ends) front (λ never number ends. absurd never) fault (kind fault refl) ends
