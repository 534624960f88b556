-- What is read of what is ahead of a link.
use Rattle.std.specs.Prelude.{ℕ, ◌⊎◌, List}
use Rattle.drm_links.specs.Link.{Answer}
use Rattle.drm_links.specs.Hearing.{AreNext}
use Rattle.drm_paths.specs.declared.run.PathOptions.{PathOptions}
use Rattle.drm_paths.specs.declared.run.PathEnded.{PathEnded}
use Rattle.drm_paths.specs.declared.run.PathEnded.TheVariants.{Idle, Limit, LinkFailed}
use Rattle.drm_paths.specs.Reading.{PathEnds}

-- Of the answers ahead these are read, the shortest after which a path ends, and it took these datagrams.
pub record IsReadByPath (options : PathOptions) (ahead : List Answer) (taken : List (List ℕ)) (why : PathEnded) : Type 0 where
  pub answers : List Answer
  pub rest : List Answer
  pub next : AreNext ahead answers rest
  pub ends : PathEnds options answers taken why

-- these are all datagrams that are read of what is ahead: nothing fails
abbrev pub IsAllOf : PathOptions → List Answer → List (List ℕ) → Type 0
IsAllOf options ahead taken = IsReadByPath options ahead taken Idle ⊎ IsReadByPath options ahead taken Limit

-- what is read ends in `Failed`
abbrev pub BreaksOff : PathOptions → List Answer → Type 0
BreaksOff options ahead = (taken : List (List ℕ)) × IsReadByPath options ahead taken LinkFailed
