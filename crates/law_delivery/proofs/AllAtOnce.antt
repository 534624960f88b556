-- Where each frame is in time, all of them were given with the last datagram.
use Rattle.std.proofs.Common.{ℕ, zero, suc, ◌≡◌, ◌+◌, ◌<◌, ◌≤◌, inl, inr, Bool, true, false, cond, eqb, ◌&&◌, ◌||◌, List, [], ◌∷◌, ◌++◌, length, take, slice_get, Option, None, Some, refl, sym, ap, subst, ◌∙◌, arith}
use Rattle.std.specs.Prelude.{ℤ, pos, ◌+ℤ◌}
use Rattle.std.proofs.lemmas.Bool.{cases_lt, true≢false}
use Rattle.dcp_pft.specs.declared.carry.Carry.{Carry}
use Rattle.dcp_pft.specs.Carrying.{shape_under}
use Rattle.dcp_pft.specs.Loss.{is_recoverable}
use Rattle.dcp_collect.specs.declared.taken.Taken.{Taken}
use Rattle.dcp_collect.specs.Fragments.{suffice, of_packet}
use Rattle.dcp_collect.specs.CollectorState.{CollectorState, made, ready, ready_by, reached, after_item, after_finish}
use Rattle.dcp_collect.specs.Runs.{CollectorItem, Packet, IsItem, CollectorGives, CollectorSteps, CollectorRun}
use Rattle.law_collect.specs.Delivery.{number, is_number, is_at_least, packet_at, got, item_by, item}
use Rattle.law_collect.specs.Laws.{IsHeard, Collecting, GivingEnds}
use Rattle.law_collect.proofs.Runs.{gives_given}
use Rattle.law_collect.proofs.Stays.{take_end}
use Rattle.drm_schedule.specs.declared.plan.Plan.{Plan}
use Rattle.drm_schedule.specs.Valid.{IsSchedule}
use Rattle.drm_timeline.specs.Numbers.{frame_count}
use Rattle.law_delivery.specs.Sent.{shape_at, IsInTime, pairs_in}
use Rattle.law_delivery.specs.Laws.{AllAtOnce}
use Rattle.law_delivery.proofs.AllGiven.{number_ahead}
use Rattle.law_delivery.proofs.Delivered.{none_got}
use Rattle.law_delivery.proofs.Early.{GoesOn, goes_on, all_brought_of}
use Rattle.law_delivery.proofs.InTime.{enough_got}
use Rattle.law_delivery.proofs.Lengths.{packet_long}
use Rattle.law_delivery.proofs.Needed.{some_got}
use Rattle.law_delivery.proofs.Numbering.{frame_is}
use Rattle.law_delivery.proofs.Packets.{IsChosen, ArePackets, some_packets, all_sent, delivered, at_number}
use Rattle.law_delivery.proofs.Paired.{IsPaired}
use Rattle.law_delivery.proofs.ForeignDatagrams.{others_of, with_foreign, stands_new}

-- ---- after the last datagram nothing is ready, and there is no end

steps_idle : (c d : CollectorState) (ds : List (List ℕ)) (answers : List Taken) (given : List CollectorItem) → CollectorSteps c ds answers given d → ready c ≡ false → ready d ≡ false
steps_idle c d [] [] given steps idle = ap ready steps.1 ∙ idle
steps_idle c d [] (a ∷ answers) given steps idle = absurd steps
steps_idle c d (datagram ∷ ds) [] given steps idle = absurd steps
steps_idle c d (datagram ∷ ds) (a ∷ answers) given (now, later, kept, mid, takes, gives, steps, are) idle =
    steps_idle mid d ds answers later steps (gives_given now kept mid gives).1

gives_end : (given : List CollectorItem) (c d : CollectorState) → CollectorGives c given d → d.end ≡ c.end
gives_end [] c d gives = ap (λ (s : CollectorState). s.end) gives.1
gives_end (first ∷ given) c d gives = gives_end given (after_item c) d gives.2

steps_end : (c d : CollectorState) (ds : List (List ℕ)) (answers : List Taken) (given : List CollectorItem) → CollectorSteps c ds answers given d → d.end ≡ c.end
steps_end c d [] [] given steps = ap (λ (s : CollectorState). s.end) steps.1
steps_end c d [] (a ∷ answers) given steps = absurd steps
steps_end c d (datagram ∷ ds) [] given steps = absurd steps
steps_end c d (datagram ∷ ds) (a ∷ answers) given (now, later, kept, mid, takes, gives, steps, are) =
    steps_end mid d ds answers later steps ∙ gives_end now kept mid gives ∙ ap (λ (s : CollectorState). s.end) takes.after_is ∙ take_end c takes.read

-- a packet that could be made would have been given
not_sufficient : (c : CollectorState) → c.end ≡ None → ready c ≡ false → suffice (of_packet c.next c.kept) ≡ true → ⊥
not_sufficient c no_end idle enough =
    let late : Bool = reached c.newest (c.next + c.window) in
    let clash : true ≡ false = sym (ap (λ (b : Bool). b || late) enough) ∙ ap (λ (o : Option ℕ). ready_by o c) (sym no_end) ∙ idle in
    true≢false clash

-- ---- the first item behind those that were given

at_seam : {X : Type 0} (n : ℕ) (xs ys : List X) → length xs < n → slice_get (take n (xs ++ ys)) (length xs) ≡ slice_get ys 0
at_seam zero xs ys l = absurd (omega (arith, l))
at_seam (suc n) [] [] l = refl
at_seam (suc n) [] (y ∷ ys) l = refl
at_seam (suc n) (x ∷ xs) ys l = at_seam n xs ys (omega (arith, l))

first_is : (ys : List CollectorItem) (y : CollectorItem) → slice_get ys 0 ≡ Some y → (more : List CollectorItem) × (ys ≡ y ∷ more)
first_is [] y at = absurd (let e : None ≡ Some y = at in cc)
first_is (x ∷ ys) y at = let same : x ≡ y = cc in (ys, ap (λ z. z ∷ ys) same)

-- ---- the packet of a frame that is in time

made_of : (carry : Carry) (packet : List ℕ) (q : ℕ) (kept : ℕ → Bool) → is_recoverable (shape_under carry (length packet)) kept ≡ true → item_by carry (Some packet) q kept ≡ Packet q packet
made_of carry packet q kept enough = rw enough

module _ (plan : Plan) (window : ℕ) (pairs : List (ℕ × ℕ)) (packets : List (List ℕ)) (is : IsSchedule plan) (are : ArePackets plan pairs packets)
    (q : ℕ) (time : IsInTime plan window (pos 0) pairs q) where
  abbrev kept : ℕ → Bool
  kept = got window (pos 0) pairs q

  -- what was chosen for its place is its packet
  made_by : (t : ℕ) (packet : List ℕ) → t ≡ time.t → (pos 0 +ℤ pos q) ≡ pos t → t < frame_count plan → IsChosen plan pairs t packet → item_by plan.carry (Some packet) q kept ≡ Packet q packet
  made_by t packet same at below (inl chosen) =
      let shape : shape_under plan.carry (length packet) ≡ shape_at plan time.t =
      ap (shape_under plan.carry) (packet_long plan t packet is below chosen) ∙ ap (shape_at plan) same in
      made_of plan.carry packet q kept (ap (λ s. is_recoverable s kept) shape ∙ enough_got plan time.t kept is time.enough)
  made_by t packet same at below (inr none) =
      let one = some_got plan time.t kept is time.enough in
      absurd (true≢false (sym one.1 ∙ none_got window (pos 0) pairs q one.0 t at none.0))

  item_there : (packet : List ℕ) × (item plan.carry packets window (pos 0) pairs q ≡ Packet q packet)
  item_there =
      let (at, below) = frame_is plan (pos 0 +ℤ pos q) time.t time.is in
      let (packet, there, chosen) = are.each time.t below in
      (packet, ap (λ o. item_by plan.carry o q kept) (ap (packet_at packets) at ∙ there) ∙ made_by time.t packet refl at below chosen)

-- ---- the window isn't empty

zero_by : (late same index rest : Bool) → (same ≡ true → late ≡ true) → rest ≡ false → cond late false ((same && index) || rest) ≡ false
zero_by true same index rest closed none = refl
zero_by false true index rest closed none = absurd (let e : false ≡ true = closed refl in cc)
zero_by false false index rest closed none = none

-- where a number closes itself, nothing of it is got
zero_got : (first_frame : ℤ) (pairs : List (ℕ × ℕ)) (q i : ℕ) → got 0 first_frame pairs q i ≡ false
zero_got first_frame [] q i = refl
zero_got first_frame (pair ∷ pairs) q i =
    let same : q ≡ q + 0 = omega arith in
    zero_by (is_at_least (number first_frame pair) (q + 0)) (is_number (number first_frame pair) q) (eqb pair.1 i) (got 0 first_frame pairs q i)
    (λ is. subst (λ k. is_at_least (number first_frame pair) k ≡ true) same (number_ahead (number first_frame pair) q is)) (zero_got first_frame pairs q i)

some_window : (plan : Plan) (window : ℕ) (first_frame : ℤ) (pairs : List (ℕ × ℕ)) (q : ℕ) → IsSchedule plan → IsInTime plan window first_frame pairs q → 1 ≤ window
some_window plan zero first_frame pairs q is time =
    let one = some_got plan time.t (got 0 first_frame pairs q) is time.enough in
    absurd (true≢false (sym one.1 ∙ zero_got first_frame pairs q one.0))
some_window plan (suc window) first_frame pairs q is time = omega arith

-- ---- all of them

module _ (collecting : Collecting) (giving_ends : GivingEnds) (plan : Plan) (window reach : ℕ) (first : Option ℕ) (pairs : List (ℕ × ℕ)) (ds : List (List ℕ))
    (is : IsSchedule plan) (some : 1 ≤ window) (paired : IsPaired plan reach first (pos 0) pairs ds) (in_time : (q : ℕ) → q < frame_count plan → IsInTime plan window (pos 0) pairs q) where
  -- the steps go on over all datagrams
  run : GoesOn (made window reach first) ds
  run = goes_on giving_ends (made window reach first) ds (all_brought_of plan pairs ds is paired.sent) (some, tt)

  not_fewer : length run.given < frame_count plan → ⊥
  not_fewer few =
      let n : ℕ = frame_count plan in
      let mid : CollectorState = run.after in
      let m : ℕ = length run.given in
      let (rest, after, gives) = giving_ends (after_finish mid (Some n)) run.fit.0 run.fit.1 in
      let (packets, are) = some_packets plan pairs ds paired.sent in
      let heard : IsHeard plan.carry plan.seq packets reach first (pos 0) pairs ds = record {
        sent = all_sent plan is pairs packets are;
        delivered = delivered plan is pairs packets are ds paired.sent;
        is_first = paired.is_first;
        within_span = paired.within_span;
      } in
      let whole : CollectorRun window reach first (Some n) ds run.answers (take n (run.given ++ rest)) =
      record { during = run.given; rest = rest; mid = mid; after = after; steps = run.steps; gives = gives; are = refl } in
      let law = (collecting plan.carry plan.seq window reach packets first (Some n) (pos 0) pairs ds run.answers (take n (run.given ++ rest)) some heard whole).0 in
      let of : ℕ → CollectorItem = item plan.carry packets window (pos 0) pairs in
      let at : slice_get rest 0 ≡ Some (of m) = sym (at_seam n run.given rest few) ∙ ap (λ l. slice_get l m) law ∙ at_number of n m few in
      let (more, begins) = first_is rest (of m) at in
      let (packet, there) = item_there plan window pairs packets is are m (in_time m few) in
      let next : IsItem (after_finish mid (Some n)) (of m) = (subst (λ l. CollectorGives (after_finish mid (Some n)) l after) begins gives).1 in
      let made_next : IsItem (after_finish mid (Some n)) (Packet m packet) = subst (IsItem (after_finish mid (Some n))) there next in
      not_sufficient mid (steps_end (made window reach first) mid ds run.answers run.given run.steps) (steps_idle (made window reach first) mid ds run.answers run.given run.steps refl) made_next.1

  pub pairs_all : (answers : List Taken) × (given : List CollectorItem) × (mid : CollectorState) × CollectorSteps (made window reach first) ds answers given mid × (frame_count plan ≤ length given)
  pairs_all = (
    run.answers,
    run.given,
    run.after,
    run.steps,
    elim (cases_lt (length run.given) (frame_count plan)) [
      | inl few ↦ absurd (not_fewer few)
      | inr enough ↦ omega (arith, enough)
    ],
  )

pub all_at_once : Collecting → GivingEnds → AllAtOnce
all_at_once collecting giving_ends plan window reach first arrivals datagrams is followed in_time =
    let one : 0 < frame_count plan = (let least = is.in_lines.some_frames in omega (arith, least)) in
    let some : 1 ≤ window = some_window plan window (pos 0) (pairs_in arrivals) 0 is (in_time 0 one) in
    let (others, sent) = others_of plan arrivals datagrams followed.arrive in
    let (replies, given, mid, steps, enough) = pairs_all collecting giving_ends plan window reach first (pairs_in arrivals) others is some
    (record { sent = sent; is_first = followed.is_first; within_span = followed.within_span }) in_time in
    let stands = stands_new plan window reach first (pos 0) arrivals datagrams followed in
    let (answers, again) = with_foreign plan is window reach (pos 0) (made window reach first) mid None arrivals [] datagrams replies given followed.arrive stands steps in
    (answers, given, mid, again, enough)
