-- The command `serve`: to out or over links, with live streams or without.
use Rattle.std.proofs.Common.{◌≡◌, ℕ, Bool, true, false, List, [], ◌∷◌, length, ◌≤◌, Option, Result, Ok, refl, sym, arith}
use Rattle.drm_links.specs.declared.dock.Address.{Address}
use Rattle.drm_schedule.specs.declared.live.Live.{Live}
use Rattle.drm_schedule.specs.Live.{is_any}
use Rattle.cmd_faults.specs.declared.fault.Fault.{Fault}
use Rattle.drm_words.specs.declared.request.Request.TheVariants.{Serve}
use Rattle.live_server.specs.Loading.{IsFed}
use Rattle.drm_top.specs.Outside.{Outside, IsStill}
use Rattle.drm_top.specs.Command.{CommandRun, ServesOver, IsQuiet, OpensALink}

-- a run that sends to some addresses is one of the command
pub sends : {S I O E D : Type 0} → (name : List ℕ) (to : List Address) (pace from : ℕ) (until : Option ℕ) (live : Live) (ending : Result Bool Fault) (err_ok : Bool)
    (o : Outside S I O E D) → (to ≡ [] → ⊥)
    → ServesOver name to pace (record { from = from; until = until }) live ending o × IsStill o.out × IsQuiet err_ok o.err.before o.err.after
    → CommandRun (Serve name to pace from until live) ending err_ok o
sends name [] pace from until live ending err_ok o some run = absurd (some refl)
sends name (at ∷ others) pace from until live ending err_ok o some run = run

-- it opens a link
pub opens_some : (name : List ℕ) (to : List Address) (pace from : ℕ) (until : Option ℕ) (live : Live) → (to ≡ [] → ⊥) → OpensALink (Serve name to pace from until live)
opens_some name [] pace from until live some = absurd (some refl)
opens_some name (at ∷ others) pace from until live some = tt

-- there is one or more
pub at_least_one : (to : List Address) → (to ≡ [] → ⊥) → 1 ≤ length to
at_least_one [] some = absurd (some refl)
at_least_one (at ∷ others) some = omega arith

-- where a frame lacks its piece some stream is live
pub lacks_live : {I : Type 0} (live : Live) (input input' : I) (ending : Result Bool Fault) → IsFed live input input' ending → ending ≡ Ok false → is_any live ≡ true
lacks_live live input input' ending fed is = by (is_any live) refl
  where
    by : (b : Bool) → is_any live ≡ b → b ≡ true
    by true any = refl
    by false none = let e = (fed none).1 false is in absurd cc
