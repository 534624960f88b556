-- How far two schedules have the same datagrams.
use Rattle.std.specs.Prelude.{ℕ, ◌*◌, ◌<◌, ◌≤◌, List}
use Rattle.drm_schedule.specs.declared.plan.Plan.{Plan}
use Rattle.drm_server.specs.Datagrams.{AreOfFrame}

-- frame t of both has these datagrams
abbrev pub SameDatagrams : Plan → Plan → ℕ → Type 0
SameDatagrams plan other t = (datagrams : List (List ℕ)) × AreOfFrame plan t datagrams × AreOfFrame other t datagrams

-- Both have n super frames, and the same datagrams in each frame of them.
pub record AgreeBelow (plan other : Plan) (n : ℕ) : Type 0 where
  pub within : n ≤ plan.length
  pub within_other : n ≤ other.length
  pub same : (t : ℕ) → t < 3 * n → SameDatagrams plan other t

-- n is the greatest such number.
pub record IsAgreement (plan other : Plan) (n : ℕ) : Type 0 where
  pub agree : AgreeBelow plan other n
  pub greatest : (m : ℕ) → AgreeBelow plan other m → m ≤ n
