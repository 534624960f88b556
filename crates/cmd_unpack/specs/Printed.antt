-- What is printed of items.
use Rattle.std.specs.Prelude.{ℕ, ◌≡◌, ◌+◌, Bool, List, [], ◌∷◌, ◌++◌, length, Option, is_some}
use Rattle.std.specs.List.{flat_map}
use Rattle.std.specs.Int.{from_bool}
use Rattle.dcp_collect.specs.Runs.{CollectorItem as Given}
use Rattle.mod_feed.specs.Items.{FrameItem, IsItemOf}
use Rattle.drm_data.specs.Joining.{JoinerEvent, JoinerAnswer, Refuses, made}
use Rattle.law_data.specs.Readings.{AreEvents}
use Rattle.law_data.specs.Runs.{answers, after_all, units_in, cuts_in}
use Rattle.drm_text.specs.Joining as joining
use Rattle.law_text.specs.Runs.{JoinerRuns, messages_in}
use Rattle.cmd_unpack.specs.declared.counts.Counts.{Counts}
use Rattle.cmd_unpack.specs.Streams.{PayloadKind, UnitsOf, TextsOf, reading, bad_in, missing_in}
use Rattle.cmd_unpack.specs.Lines.{cut_line, answers_text, text_line, units_end, texts_end, is_clean}

-- the items of what a collector gives
abbrev pub AreItems : List Given → List FrameItem → Type 0
AreItems [] items = items ≡ []
AreItems (given ∷ more) [] = ⊥
AreItems (given ∷ more) (item ∷ items) = IsItemOf given item × AreItems more items

-- how many packets are refused
abbrev pub refused_at : JoinerAnswer → ℕ
refused_at (Refuses fault cut) = 1
refused_at other = 0

abbrev pub refused_in : List JoinerAnswer → ℕ
refused_in [] = 0
refused_in (answer ∷ more) = refused_at answer + refused_in more

-- What is printed of items as they come: of the answers of a joiner for the reading that they make; or of the messages in it.
abbrev pub IsPrinted : PayloadKind → List FrameItem → List ℕ → Type 0
IsPrinted (UnitsOf k id d) items text =
    (events : List JoinerEvent) × AreEvents d (reading (UnitsOf k id d) items) events × (text ≡ answers_text (answers (made id d) events))
IsPrinted (TextsOf k) items text =
    (texts : List (Option (List ℕ))) × (left : joining.TextState) × JoinerRuns joining.made (reading (TextsOf k) items) texts left
    × (text ≡ flat_map text_line (messages_in texts))

-- What is counted: units, cuts, and bad and missing items; a unit that is open at the end is cut. Refused packets are bad, too.
abbrev pub unit_counts : ℕ → ℕ → ℕ → List FrameItem → List JoinerAnswer → Bool → Counts
unit_counts k id d items said open_at_end =
    record {
      given = length (units_in said);
      cut = cuts_in said + from_bool open_at_end;
      bad = bad_in (UnitsOf k id d) items + refused_in said;
      missing = missing_in items;
    }

abbrev pub text_counts : ℕ → List FrameItem → List (Option (List ℕ)) → Counts
text_counts k items texts =
    record { given = length (messages_in texts); cut = 0; bad = bad_in (TextsOf k) items; missing = missing_in items }

-- All that is printed of them: at the end the answer of the joiner's end, and the last line.
abbrev pub IsWholeText : PayloadKind → List FrameItem → List ℕ → Bool → Type 0
IsWholeText (UnitsOf k id d) items text clean =
    (events : List JoinerEvent) × AreEvents d (reading (UnitsOf k id d) items) events
    × let said = answers (made id d) events in
    let open_at_end = is_some (after_all (made id d) events).begun in
    let counts = unit_counts k id d items said open_at_end in
    (text ≡ answers_text said ++ (cut_line open_at_end ++ units_end counts)) × (clean ≡ is_clean counts)
IsWholeText (TextsOf k) items text clean =
    (texts : List (Option (List ℕ))) × (left : joining.TextState) × JoinerRuns joining.made (reading (TextsOf k) items) texts left
    × let counts = text_counts k items texts in
    (text ≡ flat_map text_line (messages_in texts) ++ texts_end counts) × (clean ≡ is_clean counts)
