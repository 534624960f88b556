-- The end of a reading is a gap behind it.
use Rattle.std.proofs.Common.{◌≡◌, ◌∙◌, ℕ, ◌+◌, ◌≤◌, Bool, false, List, [], ◌∷◌, ◌++◌, length, Option, None, Some, is_some, refl, sym, ap, ap₂, arith}
use Rattle.std.specs.Prelude.{◌==◌, ◌&&◌, decimal}
use Rattle.std.specs.Int.{from_bool}
use Rattle.std.specs.List.{AllByRecursion}
use Rattle.std.proofs.Common.{append_assoc}
use Rattle.std.proofs.lemmas.List.Concat.{flat_map-append}
use Rattle.drm_data.specs.Units.{packets}
use Rattle.drm_data.specs.Joining.{JoinerEvent, Gap, JoinerState, JoinerAnswer, OpenUnit, made, closed, answer, after, cut_answer}
use Rattle.law_data.specs.Losses.{IsUnit}
use Rattle.law_data.specs.Runs.{answers, after_all, unit_in, with_unit, units_in, cuts_in}
use Rattle.mod_feed.specs.Items.{FrameItem}
use Rattle.cmd_unpack.specs.Streams.{PayloadKind, UnitsOf, reading, bad_in, missing_in}
use Rattle.cmd_unpack.specs.Lines.{cut_line, answer_text, answers_text, units_end, units_end_text, is_clean}
use Rattle.cmd_unpack.specs.Printed.{IsWholeText, unit_counts, refused_at, refused_in}
use Rattle.law_unpack.specs.Frames.{FramePackets, packets_or_gap, events_of, packets_of, BringAll}
use Rattle.law_unpack.specs.Laws.{UnpacksTo, UnpacksWhatIsWhole}
use Rattle.law_unpack.proofs.LostFrames.{Same, all_events, one_reading, gives_what_frames_bring}

-- what frames bring, and the end
abbrev pub to_end : List FramePackets → List JoinerEvent
to_end [] = Gap ∷ []
to_end (frame ∷ frames) = packets_or_gap frame.given frame.packets ++ to_end frames

end_is : (frames : List FramePackets) → to_end frames ≡ events_of frames ++ Gap ∷ []
end_is [] = refl
end_is (frame ∷ frames) = ap (λ l. packets_or_gap frame.given frame.packets ++ l) (end_is frames) ∙ sym (append_assoc (packets_or_gap frame.given frame.packets) (events_of frames) (Gap ∷ []))

-- ---- what is said at the end

answers_end : (s : JoinerState) (events : List JoinerEvent) → answers s (events ++ Gap ∷ []) ≡ answers s events ++ cut_answer (after_all s events).begun ∷ []
answers_end s [] = refl
answers_end s (e ∷ events) = ap (λ l. answer s e ∷ l) (answers_end (after s e) events)

after_end : (s : JoinerState) (events : List JoinerEvent) → after_all s (events ++ Gap ∷ []) ≡ closed (after_all s events)
after_end s [] = refl
after_end s (e ∷ events) = after_end (after s e) events

units_end_one : (begun : Option OpenUnit) → units_in (cut_answer begun ∷ []) ≡ []
units_end_one None = refl
units_end_one (Some u) = refl

cuts_end_one : (begun : Option OpenUnit) → cuts_in (cut_answer begun ∷ []) ≡ from_bool (is_some begun)
cuts_end_one None = refl
cuts_end_one (Some u) = refl

refused_end_one : (begun : Option OpenUnit) → refused_in (cut_answer begun ∷ []) ≡ 0
refused_end_one None = refl
refused_end_one (Some u) = refl

text_end_one : (begun : Option OpenUnit) → answers_text (cut_answer begun ∷ []) ≡ cut_line (is_some begun)
text_end_one None = refl
text_end_one (Some u) = refl

module _ (begun : Option OpenUnit) where
  units_end_is : (said : List JoinerAnswer) → units_in (said ++ cut_answer begun ∷ []) ≡ units_in said
  units_end_is [] = units_end_one begun
  units_end_is (a ∷ said) = ap (with_unit (unit_in a)) (units_end_is said)

  cuts_end_is : (said : List JoinerAnswer) → cuts_in (said ++ cut_answer begun ∷ []) ≡ cuts_in said + from_bool (is_some begun)
  cuts_end_is [] = cuts_end_one begun ∙ omega arith
  cuts_end_is (a ∷ said) = omega (arith, cuts_end_is said)

  refused_end_is : (said : List JoinerAnswer) → refused_in (said ++ cut_answer begun ∷ []) ≡ refused_in said
  refused_end_is [] = refused_end_one begun
  refused_end_is (a ∷ said) = ap (λ n. refused_at a + n) (refused_end_is said)

  text_end_is : (said : List JoinerAnswer) → answers_text (said ++ cut_answer begun ∷ []) ≡ answers_text said ++ cut_line (is_some begun)
  text_end_is said = flat_map-append answer_text said (cut_answer begun ∷ []) ∙ ap (λ l. answers_text said ++ l) (text_end_one begun)

abbrev text_by : ℕ → ℕ → ℕ → ℕ → List ℕ
text_by given cut bad missing = units_end_text (decimal given) (decimal cut) (decimal bad) (decimal missing)

-- the end counts as the gap behind all
module _ (k id d : ℕ) (items : List FrameItem) (said : List JoinerAnswer) (begun : Option OpenUnit) where
  cuts_with : cuts_in (said ++ cut_answer begun ∷ []) + from_bool false ≡ cuts_in said + from_bool (is_some begun)
  cuts_with = omega (arith, cuts_end_is begun said)

  bad_with : bad_in (UnitsOf k id d) items + refused_in (said ++ cut_answer begun ∷ []) ≡ bad_in (UnitsOf k id d) items + refused_in said
  bad_with = ap (λ n. bad_in (UnitsOf k id d) items + n) (refused_end_is begun said)

  text_with : units_end (unit_counts k id d items (said ++ cut_answer begun ∷ []) false) ≡ units_end (unit_counts k id d items said (is_some begun))
  text_with =
      ap (λ n. text_by n (cuts_in (said ++ cut_answer begun ∷ []) + from_bool false) (bad_in (UnitsOf k id d) items + refused_in (said ++ cut_answer begun ∷ [])) (missing_in items))
      (ap length (units_end_is begun said))
      ∙ ap₂ (λ m n. text_by (length (units_in said)) m n (missing_in items)) cuts_with bad_with

  clean_with : is_clean (unit_counts k id d items (said ++ cut_answer begun ∷ []) false) ≡ is_clean (unit_counts k id d items said (is_some begun))
  clean_with = ap₂ (λ m n. (m == 0) && ((n == 0) && (missing_in items == 0))) cuts_with bad_with

-- ---- what is printed

-- Items show frames that a joiner can't tell from others, up to the end: what is printed gives of the others what is whole.
pub unpacked_by : (k id d : ℕ) (units : List (List ℕ)) (frames shown : List FramePackets) (items : List FrameItem) (text : List ℕ) (clean : Bool)
    → 1 ≤ d → AllByRecursion IsUnit units → packets_of frames ≡ packets id d units
    → BringAll (UnitsOf k id d) d items shown → Same (made id d) (to_end shown) (to_end frames) → IsWholeText (UnitsOf k id d) items text clean
    → UnpacksTo k id d units frames items text clean
unpacked_by k id d units frames shown items text clean some are_units are bring same (events, are_events, (text_is, clean_is)) =
    let what : PayloadKind = UnitsOf k id d in
    let s : JoinerState = made id d in
    let law = gives_what_frames_bring id d units frames some are_units are in
    let same_events : events ≡ events_of shown = one_reading d (reading what items) events (events_of shown) are_events (all_events what d items shown bring) in
    let here : events ++ Gap ∷ [] ≡ to_end shown = ap (λ l. l ++ Gap ∷ []) same_events ∙ sym (end_is shown) in
    let begun : Option OpenUnit = (after_all s events).begun in
    let before : List JoinerAnswer = answers s events in
    let said_is : answers s (events ++ Gap ∷ []) ≡ before ++ cut_answer begun ∷ [] = answers_end s events in
    let answered : List JoinerAnswer = answers s (events_of frames) in
    let left : Option OpenUnit = (after_all s (events_of frames)).begun in
    let answered_is : answers s (to_end frames) ≡ answered ++ cut_answer left ∷ [] = ap (answers s) (end_is frames) ∙ answers_end s (events_of frames) in
    let none : from_bool (is_some left) ≡ 0 = ap (λ (o : Option OpenUnit). from_bool (is_some o)) law.2 in
    let cuts : cuts_in (answers s (to_end frames)) ≡ cuts_in answered = ap cuts_in answered_is ∙ (cuts_end_is left answered ∙ (omega (arith, none))) in
    let printed : answers_text (answers s (events ++ Gap ∷ [])) ≡ answers_text before ++ cut_line (is_some begun) = ap answers_text said_is ∙ text_end_is begun before in
    record {
      said = answers s (events ++ Gap ∷ []);
      units_are = ap (λ l. units_in (answers s l)) here ∙ (same.units ∙ (ap units_in answered_is ∙ (units_end_is left answered ∙ law.0)));
      cuts_are = ap (λ l. cuts_in (answers s l)) here ∙ (same.cuts ∙ (cuts ∙ law.1));
      text_is = text_is
          ∙ (sym (append_assoc (answers_text before) (cut_line (is_some begun)) (units_end (unit_counts k id d items before (is_some begun))))
          ∙ ap₂ (λ x y. x ++ y) (sym printed) (sym (ap (λ l. units_end (unit_counts k id d items l false)) said_is ∙ text_with k id d items before begun)));
      clean_is = clean_is ∙ sym (ap (λ l. is_clean (unit_counts k id d items l false)) said_is ∙ clean_with k id d items before begun);
    }

pub same_self : (s : JoinerState) (xs : List JoinerEvent) → Same s xs xs
same_self s xs = record { units = refl; cuts = refl; after = refl }

pub unpacks_what_is_whole : UnpacksWhatIsWhole
unpacks_what_is_whole k id d units frames items text clean some are_units are bring is =
    unpacked_by k id d units frames frames items text clean some are_units are bring (same_self (made id d) (to_end frames)) is
