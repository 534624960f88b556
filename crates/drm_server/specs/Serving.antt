-- A schedule over a group of links: frame by frame, over one link after another.
use Rattle.std.specs.Prelude.{ℕ, zero, suc, ◌≡◌, ◌+◌, ◌==◌, Bool, true, List, [], ◌∷◌, ◌++◌, length, if◌then◌else◌}
use Rattle.drm_schedule.specs.declared.plan.Plan.{Plan}
use Rattle.drm_links.specs.Known.{Known}
use Rattle.drm_links.specs.History.{GroupEvent, History, GroupTells}
use Rattle.drm_links.specs.Calls.{Call, Rest, is_up, each, sends, CallsCome, CallsMake}
use Rattle.drm_server.specs.Datagrams.{AreOfFrame}

-- a rest before a frame that is sent behind n others, but not before the first one
abbrev pub pause : ℕ → ℕ → ℕ → List Call
pause pace n k = if n == 0 then [] else Rest k pace ∷ []

-- what goes of it over the k-th link: a rest, and its datagrams
abbrev pub turn : ℕ → ℕ → List (List ℕ) → ℕ → List Call
turn pace n datagrams k = pause pace n k ++ sends k datagrams

-- Frame t was sent behind n others, over one link after another.
abbrev pub ServesFrame : Plan → ℕ → ℕ → ℕ → List Bool → List Bool → Known History → Known History → Type 0
ServesFrame plan t pace n up up' before after =
    (datagrams : List (List ℕ)) × AreOfFrame plan t datagrams × CallsMake (each (turn pace n datagrams) (length up)) up up' (λ events. GroupTells events before after)

-- some link hasn't failed
abbrev pub IsOneUp : List Bool → Type 0
IsOneUp up = (k : ℕ) × (is_up up k ≡ true)

-- What comes of n frames from frame `first` on, each of them sent before the next one, and begun while some link hadn't failed.
abbrev pub FramesCome : Plan → ℕ → ℕ → ℕ → List Bool → List GroupEvent → List Bool → Type 0
FramesCome plan first pace zero up events up' = (events ≡ []) × (up' ≡ up)
FramesCome plan first pace (suc n) up events up' =
    (before : List GroupEvent) × (mid : List Bool) × FramesCome plan first pace n up before mid × IsOneUp mid
    × (datagrams : List (List ℕ)) × AreOfFrame plan (first + n) datagrams
    × (frame : List GroupEvent) × CallsCome mid (each (turn pace n datagrams) (length mid)) frame up' × (events ≡ before ++ frame)

-- just that happened
abbrev pub ServesFrames : Plan → ℕ → ℕ → ℕ → List Bool → List Bool → Known History → Known History → Type 0
ServesFrames plan first pace n up up' before after = (events : List GroupEvent) × FramesCome plan first pace n up events up' × GroupTells events before after
