-- What went over each link of a group that was opened and closed.
use Rattle.std.proofs.Common.{◌≡◌, ℕ, ◌-◌, ◌<◌, ◌⊎◌, inl, inr, Bool, true, false, List, [], length, replicate, slice_index_or, Option, None, Some, Result, Ok, Err, refl, sym, ◌∙◌, ap, subst, arith}
use Rattle.std.proofs.lemmas.List.{length-replicate, get_or-replicate}
use Rattle.drm_links.specs.Dock.{DockContents, LinkStart, OpeningFinds}
use Rattle.drm_links.specs.declared.dock.Address.{Address}
use Rattle.drm_links.specs.Transmission.{TakesSends, fewer}
use Rattle.drm_links.specs.History.{History}
use Rattle.drm_links.specs.Alone.{gone_at}
use Rattle.drm_links.specs.Calls.{is_up}
use Rattle.drm_schedule.specs.declared.plan.Plan.{Plan}
use Rattle.drm_server.specs.declared.stretch.Stretch.{Stretch}
use Rattle.drm_server.specs.Stretch.{first_in, frames_in}
use Rattle.drm_server.specs.Datagrams.{AreOfFrames, AreDatagrams, AreBefore}
use Rattle.drm_server.proofs.CallsAt.{Stands}
use Rattle.drm_server.proofs.FramesAt.{FramesWent, frames_went}
use Rattle.cmd_load.specs.declared.loading.ScheduleFault.{ScheduleFault}
use Rattle.cmd_serve.specs.Send.{RunComes, GroupRan}

-- What goes over a link that takes so many sends: all datagrams of the frames that are sent, where it doesn't fail; where it does, some first ones
-- of them, after which no more are taken.
abbrev pub GoFrames : Stretch → Plan → Bool → Option ℕ → List (List ℕ) → Type 0
GoFrames stretch schedule true sends gone = AreDatagrams schedule stretch gone × TakesSends sends (length gone)
GoFrames stretch schedule false sends gone = (next : List ℕ) × AreBefore schedule stretch next gone × (sends ≡ Some (length gone))

-- of the schedule that came; where none came nothing
abbrev pub SentDatagrams : Stretch → Result Plan ScheduleFault → Bool → Option ℕ → List (List ℕ) → Type 0
SentDatagrams stretch (Ok schedule) up sends gone = GoFrames stretch schedule up sends gone
SentDatagrams stretch (Err fault) up sends gone = gone ≡ []

none_left : (taken : Option ℕ) → fewer taken 0 ≡ taken
none_left None = refl
none_left (Some n) = let e : n - 0 ≡ n = omega arith in ap (λ (l : ℕ). Some l) e

takes_none : (taken : Option ℕ) → TakesSends taken 0
takes_none None = tt
takes_none (Some n) = omega arith

-- of n frames, where there are so many or no link is up
frames_by : (plan : Plan) (stretch : Stretch) (pace n k : ℕ) (taken : Option ℕ) (b : Bool) (gone : List (List ℕ)) (z : History) → (n ≡ frames_in stretch plan) ⊎ (b ≡ false) → FramesWent plan stretch pace k taken b n gone z
    → GoFrames stretch plan b taken gone
frames_by plan stretch pace n k taken true gone z (inl all) went = (subst (λ m. AreOfFrames plan (first_in stretch) m gone) all went.0, went.1.takes)
frames_by plan stretch pace n k taken true gone z (inr down) went = absurd cc
frames_by plan stretch pace n k taken false gone z some went = went

module _ (addresses : List Address) (pace : ℕ) (stretch : Stretch) (outcome : Result Plan ScheduleFault) (up : List Bool) (x y : DockContents) (ran : GroupRan (RunComes pace stretch outcome) up addresses x y) where
  -- what went over the k-th link
  abbrev pub gone_of : ℕ → List (List ℕ)
  gone_of k = gone_at k ran.events

  pub sent_each : (k : ℕ) (at : Address) → k < length addresses → (start : LinkStart) × OpeningFinds x k (slice_index_or addresses k at) start × SentDatagrams stretch outcome (is_up up k) start.sends (gone_of k)
  sent_each k at within =
      let there = ran.starts.sends.each k at None within in
      (there.0, there.1, by outcome ran.comes)
    where
      by : (o : Result Plan ScheduleFault) → RunComes pace stretch o (replicate (length addresses) true) ran.events up
          → SentDatagrams stretch o (is_up up k) (ran.starts.sends.each k at None within).0.sends (gone_of k)
      by (Err fault) comes = ap (gone_at k) comes.0
      by (Ok plan) (n, few, come, some) =
          let s = ran.starts.sends in
          let there = s.each k at None within in
          let size = length-replicate (length addresses) true in
          let b = is_up up k in
          let stands : Stands k there.0.sends [] ran.start = record { among = (let many = s.as_many in omega (arith, within, many)); takes = takes_none there.0.sends; left = there.2 ∙ sym (none_left there.0.sends) } in
          frames_by plan stretch pace n k there.0.sends b (gone_of k) ran.last (elim some [ inl all ↦ inl all | inr down ↦ inr (down k) ])
          (frames_went plan stretch pace k there.0.sends n (replicate (length addresses) true) up ran.events ran.start ran.last come ran.happened (omega (arith, within, size)) (get_or-replicate (length addresses) k true false within) stands few)
