-- What is seen of a path and of a book.
use Rattle.std.specs.Prelude.{ℕ, ◌≡◌, ◌+◌, ◌<◌, All, List, [], ◌∷◌, ◌++◌, length, Option}
use Rattle.dcp_collect.specs.declared.taken.Taken.{Taken}
use Rattle.recv_reading.specs.declared.options.PacketRange.{PacketRange}
use Rattle.report_journal.specs.Journal.{JournalState, JournalEnters}

-- the most bytes that a path takes
abbrev pub most_bytes : ℕ
most_bytes = 67108864

-- the bytes of datagrams
abbrev pub bytes_in : List (List ℕ) → ℕ
bytes_in [] = 0
bytes_in (datagram ∷ more) = length datagram + bytes_in more

-- a path's number, the datagrams that it took, and its share of the ledger: so many parts, and this amount
pub record PathState : Type 0 where
  pub number : ℕ
  pub taken : List (List ℕ)
  pub parts : ℕ
  pub amount : ℕ

abbrev pub path_state : ℕ → List (List ℕ) → ℕ → ℕ → PathState
path_state number taken parts amount = record { number = number; taken = taken; parts = parts; amount = amount }

abbrev pub new_path : ℕ → PathState
new_path number = path_state number [] 1 0

-- with one more datagram, which counts
abbrev pub with_datagram : PathState → List ℕ → PathState
with_datagram p datagram = path_state p.number (p.taken ++ datagram ∷ []) p.parts (p.amount + 1)

-- each entry is of one of so many paths
abbrev pub AreNumbered : ℕ → List (ℕ × List ℕ) → Type 0
AreNumbered paths entries = All (λ e. e.0 < paths) entries

-- a journal, and the total of the ledger
pub record BookState : Type 0 where
  pub journal : JournalState
  pub total : ℕ

abbrev pub book_state : JournalState → ℕ → BookState
book_state journal total = record { journal = journal; total = total }

-- The datagram was taken with this answer: it stands last in the journal under the path's number, and last among those of the
-- path; the ledger's total and the path's share are one more.
pub record IsEvent (datagram : List ℕ) (answer : Taken) (b b' : BookState) (p p' : PathState) : Type 0 where
  pub journal : JournalEnters b.journal (p.number, datagram) answer b'.journal
  pub total : b'.total ≡ b.total + 1
  pub path : p' ≡ with_datagram p datagram
