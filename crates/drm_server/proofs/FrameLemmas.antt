-- The datagrams of a packet that is sent are those of its frame.
use Rattle.std.proofs.Common.{◌≡◌, ◌+◌, ◌<◌, ◌≤◌, ℕ, zero, suc, List, [], length, take, refl, ap, subst, ◌∙◌, arith}
use Rattle.std.specs.Prelude.{slice_index_or}
use Rattle.std.proofs.lemmas.Grind.{take_at_read}
use Rattle.std.proofs.lemmas.List.{take_all}
use Rattle.drm_schedule.specs.declared.plan.Plan.{Plan}
use Rattle.drm_timeline.specs.Numbers.{sequence_number}
use Rattle.dcp_sender.specs.CarriesText.{AreOf}
use Rattle.drm_server.specs.Frames.{IsPacketAt}
use Rattle.drm_server.specs.Datagrams.{IsDatagramAt, AreFirst, AreOfFrame}

by_place : (plan : Plan) (t n : ℕ) (datagrams : List (List ℕ)) → n ≤ length datagrams → ((i : ℕ) (none : List ℕ) → i < n → IsDatagramAt plan t i (slice_index_or datagrams i none))
    → AreFirst plan t n (take n datagrams)
by_place plan t zero datagrams enough each = refl
by_place plan t (suc n) datagrams enough each =
    let last : List ℕ = slice_index_or datagrams n [] in
    let one : suc n ≡ n + 1 = omega arith in (
      take n datagrams,
      last,
      by_place plan t n datagrams (omega (arith, enough)) (λ i none less. each i none (omega (arith, less))),
      each n [] (omega arith),
      ap (λ k. take k datagrams) one ∙ (take_at_read datagrams n [] (omega (arith, enough))).1,
    )

pub of_frame : (plan : Plan) (t : ℕ) (packet : List ℕ) (datagrams : List (List ℕ)) → IsPacketAt plan t packet → AreOf plan.carry (sequence_number plan t) packet datagrams → AreOfFrame plan t datagrams
of_frame plan t packet datagrams is are = (
  length datagrams,
  record { packet = packet; is_packet = is; is = are.many },
  subst (λ (l : List (List ℕ)). AreFirst plan t (length datagrams) l) (take_all (length datagrams) datagrams (omega arith))
      (by_place plan t (length datagrams) datagrams (omega arith)
      (λ i none less. record { packet = packet; is_packet = is; within = omega (arith, less, are.many); is = are.each i none less })),
)
