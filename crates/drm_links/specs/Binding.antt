-- Links that are opened in a dock to receive over them, and closed again.
use Rattle.std.specs.Prelude.{ℕ, ◌≡◌, ◌<◌, ◌≤◌, List, [], ◌∷◌, length, take, replicate, slice_index_or}
use Rattle.drm_links.specs.Link.{Answer}
use Rattle.drm_links.specs.Dock.{DockContents, LinkStart, Over, after_failure, OpeningFinds, FindsNone, after_openings}
use Rattle.drm_links.specs.declared.dock.Address.{Address}
use Rattle.drm_links.specs.Gathering.{after_closes, nothing}
use Rattle.drm_links.specs.Hearing.{AreNext}

-- what went over a link that gave these answers, over which nothing was sent, and which never rested
abbrev pub heard : List Answer → Over
heard answers = record { answers = answers; gone = []; rests = 0 ∷ [] }

-- Nothing but answers of which P holds went over a link: the next ones of those that stood ahead of it.
pub record LinkHears (P : List Answer → Type 0) (start : LinkStart) (over : Over) : Type 0 where
  pub answers : List Answer
  pub rest : List Answer
  pub next : AreNext start.ahead answers rest
  pub reading : P answers
  pub over_is : over ≡ heard answers

-- A link was opened at each address, this went over them, and they were closed.
pub record HearsEach (P : List Answer → Type 0) (addresses : List Address) (before after : DockContents) : Type 0 where
  pub overs : List Over
  pub as_many : length overs ≡ length addresses
  pub each : (k : ℕ) (at : Address) (none : Over) → k < length addresses
      → (start : LinkStart) × OpeningFinds before k (slice_index_or addresses k at) start × LinkHears P start (slice_index_or overs k none)
  pub contents : after ≡ after_closes overs addresses (after_openings addresses before)

-- The openings at the first k addresses were made, and the next one failed. The links that were opened are closed: nothing went over
-- them.
pub record BindsFew (addresses : List Address) (before after : DockContents) : Type 0 where
  pub k : ℕ
  pub within : k < length addresses
  pub fails : (at : Address) → FindsNone before k (slice_index_or addresses k at)
  pub contents : after ≡ after_closes (replicate k nothing) addresses (after_failure (after_openings (take k addresses) before))

-- The openings at the first k addresses were made, and no more. These links are closed: nothing went over them.
pub record StopsBehind (addresses : List Address) (before after : DockContents) : Type 0 where
  pub k : ℕ
  pub within : k ≤ length addresses
  pub contents : after ≡ after_closes (replicate k nothing) addresses (after_openings (take k addresses) before)
