-- Frames over a group of links.
use Rattle.std.proofs.Common.{◌≡◌, ◌+◌, ℕ, suc, Bool, List, [], ◌++◌, refl, subst, arith}
use Rattle.drm_links.specs.Known.{Known}
use Rattle.drm_links.specs.History.{History}
use Rattle.drm_links.proofs.CallLemmas.{Tells-none, Tells-then}
use Rattle.drm_schedule.specs.declared.plan.Plan.{Plan}
use Rattle.drm_server.specs.Serving.{IsOneUp, FramesCome, ServesFrame, ServesFrames}

module _ (plan : Plan) (first pace : ℕ) where
  -- nothing yet
  pub Serves-none : (u : List Bool) (a : Known History) → ServesFrames plan first pace 0 u u a a
  Serves-none u a = ([], (refl, refl), Tells-none a)

  -- a frame more
  pub Serves-more : (n : ℕ) (u v w : List Bool) (a b c : Known History) → IsOneUp v → ServesFrames plan first pace n u v a b → ServesFrame plan (first + n) pace n v w b c → ServesFrames plan first pace (n + 1) u w a c
  Serves-more n u v w a b c left before frame =
      let made = frame.2 in
      let one : suc n ≡ n + 1 = omega arith in
      let comes : FramesCome plan first pace (suc n) u (before.0 ++ made.events) w = (before.0, v, before.1, left, frame.0, frame.1, made.events, made.come, refl) in
      (before.0 ++ made.events, subst (λ (k : ℕ). FramesCome plan first pace k u (before.0 ++ made.events) w) one comes, Tells-then before.0 made.events a b c before.2 made.happens)
