-- A reading that ends as soon as the told number of items was given: some run goes on to the end.
use Rattle.std.proofs.Common.{ℕ, zero, suc, ◌≡◌, ◌≤◌, inl, inr, List, [], ◌∷◌, ◌++◌, length, take, slice_get, Option, Some, refl, sym, ap, subst, ◌∙◌, arith, length-append}
use Rattle.std.specs.Prelude.{ℤ}
use Rattle.std.specs.List.{AllByRecursion, AllZip}
use Rattle.std.proofs.lemmas.List.{take-append-le}
use Rattle.drm_bits.specs.Bits.{IsBytes}
use Rattle.drm_schedule.specs.declared.plan.Plan.{Plan}
use Rattle.drm_schedule.specs.Valid.{IsSchedule}
use Rattle.drm_reconfiguration.specs.Tracker.{new_tracker}
use Rattle.dcp_collect.specs.declared.taken.Taken.{Taken}
use Rattle.dcp_collect.specs.Reading.{Incoming, DatagramContent, Brings, IsReadAs}
use Rattle.dcp_collect.specs.CollectorState.{CollectorState, made, answer, after_take, after_finish}
use Rattle.dcp_collect.specs.Runs.{CollectorItem as Collected, CollectorTakes, CollectorSteps, CollectorRun}
use Rattle.dcp_pft.specs.declared.carry.Carry.{Carry}
use Rattle.law_collect.specs.Laws.{IsTakenWell, OneReading, StepsJoin, CollectorInvariant, GivingEnds}
use Rattle.law_collect.proofs.Fit.{fit_after, fit_given}
use Rattle.law_collect.proofs.Sent.{BringsPair}
use Rattle.law_collect.proofs.Brought.{all_brought}
use Rattle.law_delivery.specs.Sent.{AreSent}
use Rattle.law_delivery.proofs.Paired.{IsPaired, DeliveringPairs, PairsEarly, PairsRight}
use Rattle.law_delivery.proofs.Bytes.{carried_bytes}
use Rattle.law_delivery.proofs.Packets.{IsChosen, ArePackets, some_packets, chosen_at, all_sent, delivered, filler}

-- The datagram is read as something whose payload is bytes.
pub record IsBrought (datagram : List ℕ) : Type 0 where
  pub incoming : Incoming
  pub is_read : IsReadAs (Brings incoming) datagram
  pub bytes : IsBytes incoming.payload

module _ (one_reading : OneReading) where
  fit_taken : (c d : CollectorState) (datagram : List ℕ) (a : Taken) → IsBrought datagram → CollectorTakes c datagram a d → CollectorInvariant c → CollectorInvariant d
  fit_taken c d datagram a brought takes fit =
      let same : takes.read ≡ Brings brought.incoming = one_reading datagram (Brings brought.incoming) takes.read brought.is_read takes.is_read in
      subst CollectorInvariant (sym (takes.after_is ∙ ap (after_take c) same)) (fit_after c brought.incoming fit brought.bytes)

  fit_steps : (c d : CollectorState) (datagrams : List (List ℕ)) (answers : List Taken) (given : List Collected) → AllByRecursion IsBrought datagrams
      → CollectorSteps c datagrams answers given d → CollectorInvariant c → CollectorInvariant d
  fit_steps c d [] [] given brought steps fit = subst CollectorInvariant (sym steps.1) fit
  fit_steps c d [] (a ∷ answers) given brought steps fit = absurd steps
  fit_steps c d (datagram ∷ datagrams) [] given brought steps fit = absurd steps
  fit_steps c d (datagram ∷ datagrams) (a ∷ answers) given brought (now, later, kept, mid, takes, gives, steps, are) fit =
      fit_steps mid d datagrams answers later brought.1 steps (fit_given now kept mid gives (fit_taken c kept datagram a brought.0 takes fit))

-- Steps over these datagrams, which there are.
pub record GoesOn (c : CollectorState) (datagrams : List (List ℕ)) : Type 0 where
  pub answers : List Taken
  pub given : List Collected
  pub after : CollectorState
  pub steps : CollectorSteps c datagrams answers given after
  pub fit : CollectorInvariant after

module _ (giving_ends : GivingEnds) where
  pub goes_on : (c : CollectorState) (datagrams : List (List ℕ)) → AllByRecursion IsBrought datagrams → CollectorInvariant c → GoesOn c datagrams
  goes_on c [] brought fit = record { answers = []; given = []; after = c; steps = (refl, refl); fit = fit }
  goes_on c (datagram ∷ datagrams) brought fit =
      let read : DatagramContent = Brings brought.0.incoming in
      let kept : CollectorState = after_take c read in
      let takes : CollectorTakes c datagram (answer c read) kept = record { read = read; is_read = brought.0.is_read; taken_is = refl; after_is = refl } in
      let fit_kept : CollectorInvariant kept = fit_after c brought.0.incoming fit brought.0.bytes in
      let now = giving_ends kept fit_kept.0 fit_kept.1 in
      let more = goes_on now.1 datagrams brought.1 (fit_given now.0 kept now.1 now.2 fit_kept) in
      record {
        answers = answer c read ∷ more.answers;
        given = now.0 ++ more.given;
        after = more.after;
        steps = (now.0, more.given, kept, now.1, takes, now.2, more.steps, refl);
        fit = more.fit;
      }

all_front : {X : Type 0} (P : X → Type 0) (xs ys : List X) → AllByRecursion P (xs ++ ys) → AllByRecursion P xs
all_front P [] ys all = tt
all_front P (x ∷ xs) ys all = (all.0, all_front P xs ys all.1)

all_behind : (xs ys : List (List ℕ)) → AllByRecursion IsBrought (xs ++ ys) → AllByRecursion IsBrought ys
all_behind [] ys all = all
all_behind (x ∷ xs) ys all = all_behind xs ys all.1

-- the packets are bytes
filler_bytes : (plan : Plan) (p : ℕ) → IsBytes (filler plan p)
filler_bytes plan p zero = omega arith
filler_bytes plan p (suc zero) = omega arith
filler_bytes plan p (suc (suc zero)) = omega arith
filler_bytes plan p (suc (suc (suc zero))) = omega arith
filler_bytes plan p (suc (suc (suc (suc zero)))) = omega arith
filler_bytes plan p (suc (suc (suc (suc (suc zero))))) = omega arith
filler_bytes plan p (suc (suc (suc (suc (suc (suc zero)))))) = omega arith
filler_bytes plan p (suc (suc (suc (suc (suc (suc (suc zero))))))) = omega arith
filler_bytes plan p (suc (suc (suc (suc (suc (suc (suc (suc zero)))))))) = omega arith
filler_bytes plan p (suc (suc (suc (suc (suc (suc (suc (suc (suc zero))))))))) = omega arith
filler_bytes plan p (suc (suc (suc (suc (suc (suc (suc (suc (suc (suc zero)))))))))) = omega arith
filler_bytes plan p (suc (suc (suc (suc (suc (suc (suc (suc (suc (suc (suc zero))))))))))) = omega arith
filler_bytes plan p (suc (suc (suc (suc (suc (suc (suc (suc (suc (suc (suc (suc k)))))))))))) = omega arith

chosen_bytes : (plan : Plan) (pairs : List (ℕ × ℕ)) (p : ℕ) (packet : List ℕ) → IsChosen plan pairs p packet → IsBytes packet
chosen_bytes plan pairs p packet (inl at) = at.octets
chosen_bytes plan pairs p packet (inr none) = subst IsBytes (sym none.1) (filler_bytes plan p)

all_bytes : (carry : Carry) (sequence0 : ℕ) (packets : List (List ℕ)) → ((p : ℕ) (packet : List ℕ) → slice_get packets p ≡ Some packet → IsBytes packet)
    → (pairs : List (ℕ × ℕ)) (datagrams : List (List ℕ)) → AllZip (BringsPair carry sequence0 packets) pairs datagrams → AllByRecursion IsBrought datagrams
all_bytes carry sequence0 packets bytes [] [] all = tt
all_bytes carry sequence0 packets bytes [] (datagram ∷ datagrams) all = absurd all
all_bytes carry sequence0 packets bytes (pair ∷ pairs) [] all = absurd all
all_bytes carry sequence0 packets bytes (pair ∷ pairs) (datagram ∷ datagrams) (first, rest) = (
  record { incoming = first.incoming; is_read = first.is_read; bytes = carried_bytes carry first.packet first.incoming.payload pair.1 (bytes pair.0 first.packet first.at) first.payload },
  all_bytes carry sequence0 packets bytes pairs datagrams rest,
)

-- some run over the whole delivery gives what was given early
whole_run : StepsJoin → GivingEnds → (window reach n : ℕ) (first : Option ℕ) (datagrams later : List (List ℕ)) (answers : List Taken) (collected : List Collected) (mid : CollectorState)
    → CollectorSteps (made window reach first) datagrams answers collected mid → n ≤ length collected → AllByRecursion IsBrought later → CollectorInvariant mid
    → (more : List Taken) × CollectorRun window reach first (Some n) (datagrams ++ later) (answers ++ more) (take n collected)
whole_run steps_join giving_ends window reach n first datagrams later answers collected mid before enough brought fit =
    let more = goes_on giving_ends mid later brought fit in
    let end = giving_ends (after_finish more.after (Some n)) more.fit.0 more.fit.1 in
    let within : n ≤ length (collected ++ more.given) = omega (arith, enough, length-append collected more.given) in
    let front : take n ((collected ++ more.given) ++ end.0) ≡ take n collected =
    take-append-le n (collected ++ more.given) end.0 within ∙ take-append-le n collected more.given enough in (
      more.answers,
      record {
        during = collected ++ more.given;
        rest = end.0;
        mid = more.after;
        after = end.1;
        steps = steps_join (made window reach first) mid more.after datagrams later answers more.answers collected more.given before more.steps;
        gives = end.2;
        are = sym front;
      },
    )

-- the datagrams of a schedule bring bytes
pub all_brought_of : (plan : Plan) (pairs : List (ℕ × ℕ)) (datagrams : List (List ℕ)) → IsSchedule plan → AreSent plan pairs datagrams → AllByRecursion IsBrought datagrams
all_brought_of plan pairs datagrams is sent =
    let found = some_packets plan pairs datagrams sent in
    let packets : List (List ℕ) = found.0 in
    let are : ArePackets plan pairs packets = found.1 in
    let carry : Carry = plan.carry in
    all_bytes carry plan.seq packets (λ p packet at. chosen_bytes plan pairs p packet (chosen_at plan is pairs packets are p packet at).1) pairs datagrams
    (all_brought carry plan.seq packets (all_sent plan is pairs packets are) pairs datagrams (delivered plan is pairs packets are datagrams sent))

module _ (delivering : DeliveringPairs) (one_reading : OneReading) (steps_join : StepsJoin) (giving_ends : GivingEnds) where
  run_on : (plan : Plan) (window reach n : ℕ) (first : Option ℕ) (first_frame : ℤ) (pairs : List (ℕ × ℕ)) (datagrams later : List (List ℕ)) (answers : List Taken) (collected : List Collected) (mid : CollectorState)
      → IsSchedule plan → 1 ≤ window → IsPaired plan reach first first_frame pairs (datagrams ++ later) → CollectorSteps (made window reach first) datagrams answers collected mid → n ≤ length collected
      → (more : List Taken) × CollectorRun window reach first (Some n) (datagrams ++ later) (answers ++ more) (take n collected)
  run_on plan window reach n first first_frame pairs datagrams later answers collected mid is some followed before enough =
      let brought : AllByRecursion IsBrought (datagrams ++ later) = all_brought_of plan pairs (datagrams ++ later) is followed.sent in
      let fit : CollectorInvariant mid = fit_steps one_reading (made window reach first) mid datagrams answers collected (all_front IsBrought datagrams later brought) before (some, tt) in
      whole_run steps_join giving_ends window reach n first datagrams later answers collected mid before enough (all_behind datagrams later brought) fit

  -- those that are given early are those of the whole delivery
  pub pairs_early : PairsEarly
  pairs_early plan window reach n first first_frame pairs datagrams later answers collected mid steps after is some followed before enough feeds =
      let whole = run_on plan window reach n first first_frame pairs datagrams later answers collected mid is some followed before enough in
      (delivering plan window reach first (Some n) first_frame pairs (datagrams ++ later) (answers ++ whole.0) (take n collected) steps after is some followed whole.1 feeds).0

  -- and no datagram is refused
  pub pairs_right : PairsRight
  pairs_right plan window reach first first_frame pairs datagrams later answers collected mid is some followed before =
      let whole = run_on plan window reach 0 first first_frame pairs datagrams later answers collected mid is some followed before (omega arith) in
      let law = delivering plan window reach first (Some 0) first_frame pairs (datagrams ++ later) (answers ++ whole.0) (take 0 collected) [] new_tracker is some followed whole.1 refl in
      all_front IsTakenWell answers whole.0 law.1
