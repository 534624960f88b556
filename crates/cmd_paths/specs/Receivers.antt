-- Paths side by side.
use Rattle.std.specs.Prelude.{ℕ, ◌≡◌, ◌<◌, List, length, slice_index_or, Bool, true, false, [], vec_len, Option, Some, MatchOption}
use Rattle.drm_links.specs.Known.{Known, HasCause}
use Rattle.drm_links.specs.Link.{Traffic}
use Rattle.drm_links.specs.Hearing.{LinkHeard}
use Rattle.drm_paths.specs.declared.run.PathOptions.{PathOptions}
use Rattle.drm_paths.specs.declared.run.PathEnded.{PathEnded}
use Rattle.drm_paths.specs.declared.run.PathEnded.TheVariants.{LinkFailed, NoMemory}
use Rattle.drm_paths.specs.State.{new_path}
use Rattle.drm_paths.specs.Reading.{ReadsPath}
use Rattle.cmd_paths.specs.declared.receiver.PathReceiver.{PathReceiver}

-- the jobs' paths are new, and numbered from 0
abbrev pub HaveNewPaths : {G L : Type 0} → List (PathReceiver G L) → Type 0
HaveNewPaths {G} {L} receivers = (k : ℕ) (d : PathReceiver G L) → k < length receivers → (slice_index_or receivers k d).path ≡ new_path k

-- Nothing was taken yet.
pub record IsPathJobReady {G L : Type 0} (receiver : PathReceiver G L) : Type 0 where
  pub new : receiver.path.taken ≡ []
  pub buffer : vec_len receiver.buffer ≡ 65536

-- The path ended so: what it read of its link, and the cause of its end, are those of `run_path`.
pub record EndedAs {G L : Type 0} (known : L → Known Traffic) (options : PathOptions) (before after : PathReceiver G L) (ended : PathEnded) : Type 0 where
  pub reads : ReadsPath options (LinkHeard (known before.link) (known after.link)) after.path.taken ended
  pub number : after.path.number ≡ before.path.number
  pub parts : after.path.parts ≡ before.path.parts
  pub link : HasCause (known before.link) (known after.link) (ended ≡ LinkFailed)

abbrev pub HasPathEnded : {G L : Type 0} → (L → Known Traffic) → PathOptions → PathReceiver G L → PathReceiver G L → Type 0
HasPathEnded known options before after = MatchOption after.ended ⊥ (EndedAs known options before after)

abbrev pub has_failed : Option PathEnded → Bool
has_failed (Some LinkFailed) = true
has_failed ended = false

abbrev pub has_run_out : Option PathEnded → Bool
has_run_out (Some NoMemory) = true
has_run_out ended = false
