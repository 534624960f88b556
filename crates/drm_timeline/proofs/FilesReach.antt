-- The files of the configuration of a super frame reach as far as its frames.
use Rattle.std.proofs.Common.{◌≡◌, ◌<◌, ◌≤◌, ◌+◌, ◌-◌, ◌*◌, ◌/◌, ℕ, Bool, true, false, cond, List, [], ◌∷◌, length, filter, All, IfSome, Option, Some, None, refl, subst, arith, mul-le-mul_left}
use Rattle.std.specs.List.{last_or}
use Rattle.std.proofs.lemmas.Bool.{ltb-false, le-ltb, leb-false}
use Rattle.drm_schedule.specs.declared.plan.Plan.{Plan}
use Rattle.drm_schedule.specs.declared.config.Config.{Config}
use Rattle.drm_schedule.specs.declared.stream.Content.{Content}
use Rattle.drm_schedule.specs.declared.stream.Content.TheVariants.{Fill, File}
use Rattle.drm_schedule.specs.declared.stream.Stream.{Stream}
use Rattle.drm_schedule.specs.Sizes.{stream_size}
use Rattle.drm_schedule.specs.Valid.{is_short, end_before, IsFaultless, AreFaultless}
use Rattle.drm_timeline.specs.Standing.{has_started}

-- a file that is long enough for more frames is so for fewer
fewer : (frames more : ℕ) (s : Stream) → frames ≤ more → is_short more s ≡ false → is_short frames s ≡ false
fewer frames more s le is = by s.content refl
  where
    by : (content : Content) → s.content ≡ content → is_short frames s ≡ false
    by (Fill byte) same = rw same refl
    by (File name bytes) same =
        let long : stream_size s * more ≤ length bytes = ltb-false (length bytes) (stream_size s * more) (rw same at is) in
        rw same (le-ltb (length bytes) (stream_size s * frames) (omega (arith, long, mul-le-mul_left (stream_size s) le)))

-- the files of a configuration reach to the end of this super frame
abbrev pub Reaches : ℕ → Config → Type 0
Reaches sf c = All (λ (s : Stream). is_short (3 * (sf + 1 - c.start)) s ≡ false) c.streams

reaches : (plan : Plan) (sf : ℕ) (before : Option Config) (c : Config) (more : List Config) → IsFaultless plan before c more → sf < end_before plan.length more → Reaches sf c
reaches plan sf before c more is lt k d within = fewer (3 * (sf + 1 - c.start)) (3 * (end_before plan.length more - c.start)) _ (omega (arith, lt)) (is.files k d within)

last_reaches : (plan : Plan) (sf : ℕ) (before : Option Config) (cs : List Config) (o : Option Config) → AreFaultless plan before cs → sf < plan.length → (sf < end_before plan.length cs → IfSome o (Reaches sf)) → IfSome (last_or o (filter (has_started sf) cs)) (Reaches sf)
last_reaches plan sf before [] o are lt of = of (omega (arith, lt))
last_reaches plan sf before (c ∷ more) o are lt of = by (λ o first. last_reaches plan sf (Some c) more o are.1 lt first) (has_started sf c) refl
  where
    by : ((o : Option Config) → (sf < end_before plan.length more → IfSome o (Reaches sf)) → IfSome (last_or o (filter (has_started sf) more)) (Reaches sf)) → (b : Bool) → has_started sf c ≡ b
        → IfSome (last_or o (cond b (c ∷ filter (has_started sf) more) (filter (has_started sf) more))) (Reaches sf)
    by rest true is = rest (Some c) (λ within. reaches plan sf before c more are.0 within)
    by rest false is = rest o (λ within. of (omega (arith, leb-false c.start sf is, lt)))

-- and so those of the one that holds
pub files_reach : (plan : Plan) (sf : ℕ) (cs : List Config) (c : Config) → AreFaultless plan None cs → sf < plan.length → last_or None (filter (has_started sf) cs) ≡ Some c → Reaches sf c
files_reach plan sf cs c are lt same = subst (λ (o : Option Config). IfSome o (Reaches sf)) same (last_reaches plan sf None cs None are lt (λ within. tt))

pub frame_reached : (t : ℕ) (c : Config) → 3 * c.start ≤ t → Reaches (t / 3) c → All (λ (s : Stream). is_short (t - 3 * c.start + 1) s ≡ false) c.streams
frame_reached t c le all k d within = fewer (t - 3 * c.start + 1) (3 * (t / 3 + 1 - c.start)) _ (omega (arith, le)) (all k d within)
