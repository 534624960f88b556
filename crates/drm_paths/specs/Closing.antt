-- What a journal has of its paths.
use Rattle.std.specs.Prelude.{ℕ, ◌≡◌, ◌≢◌, ◌<◌, ◌==◌, if◌then◌else◌, false, List, [], ◌∷◌, length, take, slice_get, slice_index_or, Option, sum_by}
use Rattle.recv_reading.specs.declared.options.PacketRange.{PacketRange}
use Rattle.report_journal.specs.Journal.{JournalState, datagrams}
use Rattle.report_journal.specs.Report.{IsReportOf}
use Rattle.drm_paths.specs.State.{PathState, AreNumbered}
use Rattle.drm_paths.specs.declared.close.Difference.{Difference}
use Rattle.drm_paths.specs.declared.close.Closed.{Closed}
use Rattle.drm_paths.specs.declared.close.Closed.TheVariants.{Whole, Differ, NoMemory}

-- the datagrams of the entries of a path, in their order
abbrev pub of_path : ℕ → List (ℕ × List ℕ) → List (List ℕ)
of_path number [] = []
of_path number (e ∷ entries) = if e.0 == number then e.1 ∷ of_path number entries else of_path number entries

-- Up to this place the lists are one, and there they differ: the first has this there, or has ended before.
pub record IsDifference (xs ys : List (List ℕ)) (at : ℕ) (there : Option (List ℕ)) : Type 0 where
  pub before : take at xs ≡ take at ys
  pub there_is : slice_get xs at ≡ there
  pub differs : slice_get ys at ≢ there

-- the entries have of the path what it took, each once and in its order
abbrev pub EntriesAgree : List (ℕ × List ℕ) → PathState → Type 0
EntriesAgree entries p = of_path p.number entries ≡ p.taken

abbrev pub AllAgree : List (ℕ × List ℕ) → List PathState → Type 0
AllAgree entries paths = (k : ℕ) (none : PathState) → k < length paths → EntriesAgree entries (slice_index_or paths k none)

-- it says where they differ first, and what stands there
pub record IsDifferenceOf (entries : List (ℕ × List ℕ)) (p : PathState) (d : Difference) : Type 0 where
  pub path : d.path ≡ p.number
  pub is : IsDifference (of_path p.number entries) p.taken d.at d.journal
  pub kept : slice_get p.taken d.at ≡ d.kept

-- it is of the first path that has one
pub record EntriesDiffer (entries : List (ℕ × List ℕ)) (paths : List PathState) (d : Difference) : Type 0 where
  pub k : ℕ
  pub within : k < length paths
  pub is : (none : PathState) → IsDifferenceOf entries (slice_index_or paths k none) d
  pub before : (j : ℕ) (none : PathState) → j < k → EntriesAgree entries (slice_index_or paths j none)

-- Each entry is of one of these paths, and there are as many as these took datagrams: none was dropped, invented or doubled.
pub record AreCounted (entries : List (ℕ × List ℕ)) (paths : List PathState) : Type 0 where
  pub numbered : AreNumbered (length paths) entries
  pub many : length entries ≡ sum_by (λ p. length p.taken) paths

-- What comes of a book with this journal that is closed. Unless its report has stopped, its entries are those of its paths, and
-- the report is that of all of them; or they differ, and this is where.
abbrev pub BookCloses : PacketRange → JournalState → List PathState → Closed → Type 0
BookCloses by journal paths (Whole ending) =
    (journal.stopped ≡ false) × AreCounted journal.entries paths × AllAgree journal.entries paths
    × IsReportOf by (datagrams journal.entries) ending.text ending.clean
BookCloses by journal paths (Differ difference) =
    (journal.stopped ≡ false) × AreCounted journal.entries paths × EntriesDiffer journal.entries paths difference
BookCloses by journal paths NoMemory = Unit {0}
