-- In which super frames a configuration of a schedule stands, and what stands there where live streams have bytes that came.
use Rattle.std.proofs.Common.{◌≡◌, ◌<◌, ◌≤◌, ◌+◌, ◌-◌, ◌*◌, ◌/◌, ℕ, Bool, true, false, cond, List, [], ◌∷◌, filter, All, Option, Some, None, refl, ap, subst, ◌∙◌, arith}
use Rattle.std.specs.List.{last_or, find}
use Rattle.std.proofs.lemmas.Bool.{lt-leb, le-leb, leb-true, leb-false}
use Rattle.drm_schedule.specs.declared.live.Live.{Live}
use Rattle.drm_schedule.specs.declared.stream.Stream.{Stream}
use Rattle.drm_schedule.specs.declared.config.Config.{Config}
use Rattle.drm_schedule.specs.declared.plan.Plan.{Plan}
use Rattle.drm_schedule.specs.Valid.{is_short, next_start, end_before, AreFaultless, IsSchedule}
use Rattle.drm_schedule.proofs.Faultless.{all_faultless}
use Rattle.drm_timeline.specs.Standing.{has_started, is_counting, config_of, announced_in}
use Rattle.drm_timeline.proofs.ScheduleLemmas.{follows}
use Rattle.live_streams.specs.Live.{LivePieces, config_with, configs_with, live_schedule}
use Rattle.live_streams.proofs.LikeLemmas.{option_with}

-- A configuration stands in all of so many frames from its start on, and its files reach as far.
pub record IsPlaced (plan : Plan) (frames : ℕ) (c : Config) : Type 0 where
  pub files : All (λ (s : Stream). is_short frames s ≡ false) c.streams
  pub stands : (n : ℕ) → n < frames → config_of plan ((3 * c.start + n) / 3) ≡ Some c

-- each of these does, up to the next one
abbrev pub ArePlaced : Plan → List Config → Type 0
ArePlaced plan [] = Unit {0}
ArePlaced plan (c ∷ more) = IsPlaced plan (3 * (end_before plan.length more - c.start)) c × ArePlaced plan more

-- none that follows has started before the one before it
none_behind : (plan : Plan) (sf : ℕ) (before : Config) (cs : List Config) → AreFaultless plan (Some before) cs → sf < before.start → filter (has_started sf) cs ≡ []
none_behind plan sf before [] are ahead = refl
none_behind plan sf before (c ∷ more) are ahead =
    let later : before.start < c.start = (follows plan before c more are.0).later in
    ap (λ b. cond b (c ∷ filter (has_started sf) more) (filter (has_started sf) more)) (lt-leb c.start sf (omega (arith, later, ahead)))
    ∙ none_behind plan sf c more are.1 (omega (arith, later, ahead))

none_yet : (plan : Plan) (sf : ℕ) (before : Config) (cs : List Config) → AreFaultless plan (Some before) cs → sf < next_start plan.length cs → filter (has_started sf) cs ≡ []
none_yet plan sf before [] are ahead = refl
none_yet plan sf before (c ∷ more) are ahead =
    ap (λ b. cond b (c ∷ filter (has_started sf) more) (filter (has_started sf) more)) (lt-leb c.start sf ahead) ∙ none_behind plan sf c more are.1 ahead

-- from a configuration's start on, it stands or one behind it
abbrev StandsFrom : Plan → Config → List Config → Type 0
StandsFrom plan c more = (sf : ℕ) → c.start ≤ sf → config_of plan sf ≡ last_or (Some c) (filter (has_started sf) more)

one_placed : (plan : Plan) (before : Option Config) (c : Config) (more : List Config) → AreFaultless plan before (c ∷ more) → StandsFrom plan c more
    → IsPlaced plan (3 * (end_before plan.length more - c.start)) c
one_placed plan before c more are from =
    record {
      files = are.0.files;
      stands =
          λ n lt.
          from ((3 * c.start + n) / 3) (omega arith)
          ∙ ap (λ cs. last_or (Some c) cs) (none_yet plan ((3 * c.start + n) / 3) c more are.1 (omega (arith, lt)));
    }

placed_from : (plan : Plan) (before : Option Config) (c : Config) (more : List Config) → AreFaultless plan before (c ∷ more) → StandsFrom plan c more → ArePlaced plan (c ∷ more)
placed_from plan before c [] are from = (one_placed plan before c [] are from, tt)
placed_from plan before c (d ∷ more) are from =
    let later : c.start < d.start = (follows plan c d more are.1.0).later in
    let next : StandsFrom plan d more =
    λ sf le.
    from sf (omega (arith, later, le)) ∙ ap (λ b. last_or (Some c) (cond b (d ∷ filter (has_started sf) more) (filter (has_started sf) more))) (le-leb d.start sf le) in
    (one_placed plan before c (d ∷ more) are from, placed_from plan (Some c) d more are.1 next)

pub all_placed : (plan : Plan) → IsSchedule plan → ArePlaced plan plan.configs
all_placed plan is = by plan.configs (λ sf. refl) (all_faultless plan 0 None plan.configs is.valid)
  where
    by : (cs : List Config) → ((sf : ℕ) → config_of plan sf ≡ last_or None (filter (has_started sf) cs)) → AreFaultless plan None cs → ArePlaced plan cs
    by [] same are = tt
    by (c ∷ more) same are =
        placed_from plan None c more are
        (λ sf le. same sf ∙ ap (λ b. last_or None (cond b (c ∷ filter (has_started sf) more) (filter (has_started sf) more))) (le-leb c.start sf le))

-- What stands in a super frame of a schedule with live streams, where this configuration stands without: the same one, with bytes
-- for so many frames.
pub record HoldsWith (live : Live) (given : LivePieces) (plan : Plan) (sf : ℕ) (c : Config) : Type 0 where
  pub frames : ℕ
  pub holds : config_of (live_schedule live given plan) sf ≡ Some (config_with live given frames c)
  pub placed : IsPlaced plan frames c
  pub started : c.start ≤ sf
  pub reaches : 3 * sf + 3 ≤ 3 * c.start + frames

module _ (live : Live) (given : LivePieces) (plan : Plan) (sf : ℕ) where
  -- this may stand with live streams, where that does without
  abbrev IsWith : Option Config → Option Config → Type 0
  IsWith None with_ = with_ ≡ None
  IsWith (Some c) with_ =
      (frames : ℕ) × (with_ ≡ Some (config_with live given frames c)) × IsPlaced plan frames c × (c.start ≤ sf) × (3 * sf + 3 ≤ 3 * c.start + frames)

  last_with : (cs : List Config) (o with_ : Option Config) → ArePlaced plan cs → sf < plan.length → (sf < end_before plan.length cs → IsWith o with_)
      → IsWith (last_or o (filter (has_started sf) cs)) (last_or with_ (filter (has_started sf) (configs_with live given plan.length cs)))
  last_with [] o with_ placed lt of = of (omega (arith, lt))
  last_with (c ∷ more) o with_ placed lt of = by (λ o with_ of. last_with more o with_ placed.1 lt of) (has_started sf c) refl
    where
      frames : ℕ
      frames = 3 * (end_before plan.length more - c.start)

      own : List Config
      own = filter (has_started sf) more

      rest : List Config
      rest = filter (has_started sf) (configs_with live given plan.length more)

      by : ((o with_ : Option Config) → (sf < end_before plan.length more → IsWith o with_) → IsWith (last_or o own) (last_or with_ rest))
          → (b : Bool) → has_started sf c ≡ b → IsWith (last_or o (cond b (c ∷ own) own)) (last_or with_ (cond b (config_with live given frames c ∷ rest) rest))
      by behind true is =
          behind (Some c) (Some (config_with live given frames c))
          (λ within. (frames, refl, placed.0, leb-true c.start sf is, omega (arith, within, leb-true c.start sf is)))
      by behind false is = behind o with_ (λ within. of (omega (arith, leb-false c.start sf is, lt)))

  pub config_holds : (c : Config) → IsSchedule plan → sf < plan.length → config_of plan sf ≡ Some c → HoldsWith live given plan sf c
  unfolding live_schedule
  config_holds c is lt same =
      let with_ : IsWith (Some c) (config_of (live_schedule live given plan) sf) =
      subst (λ (o : Option Config). IsWith o (config_of (live_schedule live given plan) sf)) same
      (last_with plan.configs None None (all_placed plan is) lt (λ within. refl)) in
      record { frames = with_.0; holds = with_.1; placed = with_.2; started = with_.3; reaches = with_.4 }

  -- so far as the contents of streams aren't read, it is the same one, or none, in each super frame
  abbrev pub IsLike : Option Config → Option Config → Type 0
  IsLike o with_ = (frames : ℕ) × (with_ ≡ option_with live given frames o)

  last_like : (cs : List Config) (o with_ : Option Config) → IsLike o with_
      → IsLike (last_or o (filter (has_started sf) cs)) (last_or with_ (filter (has_started sf) (configs_with live given plan.length cs)))
  last_like [] o with_ like = like
  last_like (c ∷ more) o with_ like = by (last_like more) (has_started sf c)
    where
      frames : ℕ
      frames = 3 * (end_before plan.length more - c.start)

      own : List Config
      own = filter (has_started sf) more

      rest : List Config
      rest = filter (has_started sf) (configs_with live given plan.length more)

      by : ((o with_ : Option Config) → IsLike o with_ → IsLike (last_or o own) (last_or with_ rest))
          → (b : Bool) → IsLike (last_or o (cond b (c ∷ own) own)) (last_or with_ (cond b (config_with live given frames c ∷ rest) rest))
      by behind true = behind (Some c) (Some (config_with live given frames c)) (frames, refl)
      by behind false = behind o with_ like

  pub config_like : IsLike (config_of plan sf) (config_of (live_schedule live given plan) sf)
  unfolding live_schedule
  config_like = last_like plan.configs None None (0, refl)

  found_like : (cs : List Config) → IsLike (find (is_counting sf) cs) (find (is_counting sf) (configs_with live given plan.length cs))
  found_like [] = (0, refl)
  found_like (c ∷ more) = by (found_like more) (is_counting sf c)
    where
      frames : ℕ
      frames = 3 * (end_before plan.length more - c.start)

      own : Option Config
      own = find (is_counting sf) more

      with_ : Option Config
      with_ = find (is_counting sf) (configs_with live given plan.length more)

      by : IsLike own with_ → (b : Bool) → IsLike (cond b (Some c) own) (cond b (Some (config_with live given frames c)) with_)
      by behind true = (frames, refl)
      by behind false = behind

  pub announced_like : IsLike (announced_in plan sf) (announced_in (live_schedule live given plan) sf)
  unfolding live_schedule
  announced_like = found_like plan.configs
