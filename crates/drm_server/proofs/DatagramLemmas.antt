-- The datagrams of one frame, and of one frame more.
use Rattle.std.proofs.Common.{◌≡◌, ◌+◌, ℕ, zero, suc, List, [], ◌∷◌, ◌++◌, length, refl, ap, ap₂, subst, ◌∙◌, arith, length-append}
use Rattle.drm_schedule.specs.declared.plan.Plan.{Plan}
use Rattle.drm_server.specs.ServerState.{ServerState}
use Rattle.drm_server.specs.Datagrams.{AreFirst, AreOfFrame, AreOfFrames}

pub next_frame : (plan : Plan) (from n : ℕ) (before of_frame : List (List ℕ)) → AreOfFrames plan from n before → AreOfFrame plan (from + n) of_frame → AreOfFrames plan from (n + 1) (before ++ of_frame)
next_frame plan from n before of_frame are is =
    let one : suc n ≡ n + 1 = omega arith in
    subst (λ k. AreOfFrames plan from k (before ++ of_frame)) one (more are is)
  where
    more : AreOfFrames plan from n before → AreOfFrame plan (from + n) of_frame → AreOfFrames plan from (suc n) (before ++ of_frame)
    more are is = (before, of_frame, are, is, refl)

-- the first i are i
pub first_length : (plan : Plan) (t i : ℕ) (datagrams : List (List ℕ)) → AreFirst plan t i datagrams → length datagrams ≡ i
first_length plan t zero datagrams are = ap length are
first_length plan t (suc i) datagrams (before, datagram, are, is, same) =
    let whole : length datagrams ≡ length before + 1 = ap length same ∙ length-append before (datagram ∷ []) in
    omega (arith, whole, first_length plan t i before are)

-- the server that loaded frame t of its schedule
pub at_frame : (old new : ServerState) (plan : Plan) (k t : ℕ) → new ≡ record { base = old.base; plan = old.base; frame = k } → k ≡ t → old.base ≡ plan → new ≡ record { base = plan; plan = plan; frame = t }
at_frame old new plan k t is at same = is ∙ ap₂ (λ (p : Plan) (i : ℕ). record { base = p; plan = p; frame = i }) same at
