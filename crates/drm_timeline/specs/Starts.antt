-- What each schedule keeps to: its reconfigurations are announced, and what receivers see changes only with them.
use Rattle.std.specs.Prelude.{ℕ, ◌≡◌, ◌≢◌, ◌+◌, ◌-◌, ◌*◌, ◌/◌, ◌%◌, ◌<◌, ◌≤◌, List, All, Contains, length, drop, map, option_map, IsSome, Option, Some}
use Rattle.drm_schedule.specs.declared.config.Config.{Config}
use Rattle.drm_schedule.specs.declared.plan.Plan.{Plan}
use Rattle.plan_packing.specs.Packing.{chain}
use Rattle.drm_reconfiguration.specs.declared.seen.Seen.{Seen}
use Rattle.drm_reconfiguration.specs.declared.seen.Signature.{Signature}
use Rattle.drm_timeline.specs.Standing.{config_of, index_of}
use Rattle.drm_timeline.specs.FastAccess.{fac_of}
use Rattle.drm_timeline.specs.Description.{description_of}
use Rattle.drm_reconfiguration.specs.Seen.{signature_of}
use Rattle.drm_reconfiguration.specs.Switches.{IsFrame, SwitchesAt, ResumesAt}
use Rattle.drm_reconfiguration.specs.Announced.{NoneMissing}

-- the super frames in which the later configurations start: all but the first, which starts with the schedule
abbrev pub later_starts : Plan → List ℕ
later_starts plan = map (λ (c : Config). c.start) (drop 1 plan.configs)

-- frame t is the first one of a later configuration
abbrev pub IsFirstFrame : Plan → ℕ → Type 0
IsFirstFrame plan t = (start : ℕ) × Contains (later_starts plan) start × (t ≡ 3 * start)

-- the signature of frame t: of the mode and the multiplex description of its configuration, and the channel of its FAC
abbrev pub signature_at : Plan → ℕ → Option Signature
signature_at plan t =
    chain (config_of plan (t / 3)) (λ c. option_map (λ fac. signature_of c.mode fac.channel (description_of c)) (fac_of plan t))

-- What a receiver sees of frame t of a schedule.
pub record IsSeenOf (plan : Plan) (t : ℕ) (seen : Seen) : Type 0 where
  pub position : seen.position ≡ t % 3
  pub index : seen.index ≡ index_of plan (t / 3)
  pub signature : signature_at plan t ≡ Some seen.signature

-- A schedule announces its later starts, and signatures change only with them.
pub record AnnouncesStarts (plan : Plan) : Type 0 where
  -- a later start is behind the first super frame, and within the schedule
  pub within : All (λ start. (0 < start) × (start < plan.length)) (later_starts plan)
  -- a reconfiguration index above 0 counts down to a later start
  pub named : (super_frame : ℕ) → 0 < index_of plan super_frame → Contains (later_starts plan) (super_frame + index_of plan super_frame)
  -- it is 1 in the super frame before each later start
  pub before : (start : ℕ) → Contains (later_starts plan) start → index_of plan (start - 1) ≡ 1
  -- and in each super frame of a countdown it says how many super frames ahead the start is
  pub counts : (c : Config) → Contains plan.configs c → (ahead : ℕ) → 1 ≤ ahead → ahead ≤ c.countdown → index_of plan (c.start - ahead) ≡ ahead
  -- it has three bits
  pub small : (super_frame : ℕ) → index_of plan super_frame < 8
  -- each frame has a signature
  pub signed : (t : ℕ) → IsSome (signature_at plan t)
  -- which changes only with the first frame of a later configuration
  pub changes : (t : ℕ) → signature_at plan t ≢ signature_at plan (t + 1) → IsFirstFrame plan (t + 1)

-- each frame among the items is seen of the schedule, from its frame `first_frame` on
abbrev pub AreSeenOf : Plan → ℕ → List (Option Seen) → Type 0
AreSeenOf plan first_frame items = (q : ℕ) (seen : Seen) → IsFrame items q seen → IsSeenOf plan (q + first_frame) seen

-- whatever is missing, a switch stands only before the first frame of a later configuration
abbrev pub SwitchesOnlyAtStarts : Plan → Type 0
SwitchesOnlyAtStarts plan =
    (first_frame : ℕ) (items : List (Option Seen)) (f : ℕ) → AreSeenOf plan first_frame items → SwitchesAt items f → IsFirstFrame plan (f + first_frame)

-- where no frame is missing, a switch stands at each later start among the frames behind the first one
abbrev pub SwitchesAtAllStarts : Plan → Type 0
SwitchesAtAllStarts plan =
    (first_frame : ℕ) (items : List (Option Seen)) (start : ℕ) → AreSeenOf plan first_frame items → NoneMissing items
    → Contains (later_starts plan) start → first_frame < 3 * start → 3 * start < first_frame + length items → SwitchesAt items (3 * start - first_frame)

-- where no frame is missing, none is resumed
abbrev pub ResumesNowhere : Plan → Type 0
ResumesNowhere plan =
    (first_frame : ℕ) (items : List (Option Seen)) (p : ℕ) → AreSeenOf plan first_frame items → NoneMissing items → ¬ ResumesAt items p
