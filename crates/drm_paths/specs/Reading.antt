-- When a path has read enough of its link.
use Rattle.std.specs.Prelude.{ℕ, ◌≡◌, ◌+◌, ◌*◌, ◌<◌, ◌≤◌, ◌⊎◌, List, [], ◌∷◌, ◌++◌, length, take}
use Rattle.std.specs.List.{AllByRecursion}
use Rattle.drm_links.specs.Link.{Answer, Datagram, Failed}
use Rattle.recv_reading.specs.Ending.{datagrams, idles, HasNotFailed}
use Rattle.drm_paths.specs.declared.run.PathOptions.{PathOptions}
use Rattle.drm_paths.specs.declared.run.PathEnded.{PathEnded}
use Rattle.drm_paths.specs.declared.run.PathEnded.TheVariants.{Idle, Limit, LinkFailed, NoMemory}
use Rattle.drm_paths.specs.State.{bytes_in, most_bytes}

-- each number is in its range
pub record AreReasonable (options : PathOptions) : Type 0 where
  pub idle : 1 ≤ options.idle
  pub limit : 1 ≤ options.limit
  pub few : options.limit ≤ 1000000

-- The last answers were idle, as many as are told; as many datagrams came as are told, or there may be no room for the next.
abbrev pub PathEndHolds : PathOptions → List Answer → PathEnded → Type 0
PathEndHolds options answers Idle = options.idle ≤ idles answers
PathEndHolds options answers Limit = (length (datagrams answers) ≡ options.limit) ⊎ (most_bytes < bytes_in (datagrams answers) + 65536)
PathEndHolds options answers LinkFailed = ⊥
PathEndHolds options answers NoMemory = ⊥

abbrev pub IsPathOpen : PathOptions → List Answer → Type 0
IsPathOpen options answers = (why : PathEnded) → PathEndHolds options answers why → ⊥

-- Nothing failed, and after nothing shorter than these answers a path ends.
pub record PathGoesOn (options : PathOptions) (answers : List Answer) : Type 0 where
  pub sound : AllByRecursion HasNotFailed answers
  pub shorter : (k : ℕ) → k < length answers → IsPathOpen options (take k answers)

-- After these answers, and after nothing shorter, a path ends so: it took all datagrams among them, but for want of memory the
-- last one.
abbrev pub PathEnds : PathOptions → List Answer → List (List ℕ) → PathEnded → Type 0
PathEnds options answers taken Idle =
    PathGoesOn options answers × PathEndHolds options answers Idle × (PathEndHolds options answers Limit → ⊥) × (taken ≡ datagrams answers)
PathEnds options answers taken Limit = PathGoesOn options answers × PathEndHolds options answers Limit × (taken ≡ datagrams answers)
PathEnds options answers taken LinkFailed =
    (before : List Answer) × (answers ≡ before ++ Failed ∷ []) × PathGoesOn options before × IsPathOpen options before × (taken ≡ datagrams before)
PathEnds options answers taken NoMemory =
    (before : List Answer) × (last : List ℕ) × (answers ≡ before ++ Datagram last ∷ []) × PathGoesOn options before × IsPathOpen options before
    × (taken ≡ datagrams before)

-- so many answers are read at the most
abbrev pub most_answers : PathOptions → ℕ
most_answers options = options.limit * options.idle + options.idle + 1

-- A path read its link so: what was heard says which answers it can be.
pub record ReadsPath (options : PathOptions) (hears : List Answer → Type 0) (taken : List (List ℕ)) (why : PathEnded) : Type 0 where
  pub answers : List Answer
  pub heard : hears answers
  pub few : length answers ≤ most_answers options
  pub ends : PathEnds options answers taken why
