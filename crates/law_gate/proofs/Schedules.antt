-- What becomes of a delivery of a schedule.
use Rattle.std.proofs.Common.{ℕ, ◌≡◌, ◌<◌, ◌==◌, ◌⊎◌, inl, inr, if◌then◌else◌, Bool, true, false, cond, List, [], ◌++◌, length, map, slice_get, Option, None, Some, refl, sym, ap, subst, ◌∙◌, arith}
use Rattle.std.specs.Prelude.{ℤ, pos, negsuc, ◌+ℤ◌}
use Rattle.std.specs.List.{range_with_len, AllZip}
use Rattle.std.proofs.lemmas.Bool.{cases_lt, le-ltb, true≢false}
use Rattle.std.proofs.lemmas.Option.{slice_get_past}
use Rattle.dcp_pft.specs.declared.carry.Carry.{Carry}
use Rattle.dcp_pft.specs.declared.shape.Shape.{Shape}
use Rattle.dcp_pft.specs.Loss.{size, is_recoverable}
use Rattle.dcp_pft.specs.Carrying.{shape_under, datagram_count}
use Rattle.dcp_pft.proofs.Carried.{limit_is}
use Rattle.dcp_collect.specs.CollectorState.{CollectorState, made, after_finish}
use Rattle.dcp_collect.specs.Runs.{CollectorItem, Packet, Lost, CollectorGives, up_to}
use Rattle.dcp_collect.specs.Numbers.{end_of}
use Rattle.dcp_collect.proofs.Sets.{recoverable_same}
use Rattle.law_collect.specs.Delivery.{packet_at, got, newest_of, item_by, item, items}
use Rattle.law_collect.specs.Laws.{Collecting, GivingEnds, OneReading, OneRun}
use Rattle.law_collect.proofs.Brought.{all_brought}
use Rattle.drm_schedule.specs.declared.plan.Plan.{Plan}
use Rattle.drm_schedule.specs.Valid.{IsSchedule}
use Rattle.drm_timeline.specs.Numbers.{frame_count, packet_size, sequence_number}
use Rattle.drm_server.specs.Frames.{IsPacketAt}
use Rattle.dcp_sender.specs.Packets.{sequence_of}
use Rattle.recv_reading.specs.First.{first_of}
use Rattle.law_delivery.specs.Sent.{IsSent, pairs_in, shape_at, frame_at}
use Rattle.law_delivery.proofs.Configurations.{size_fits}
use Rattle.law_delivery.proofs.Delivered.{none_got}
use Rattle.law_delivery.proofs.Lengths.{af_long, packet_long}
use Rattle.law_delivery.proofs.Needed.{needed_of, some_needed}
use Rattle.law_delivery.proofs.Numbering.{frame_within}
use Rattle.law_delivery.proofs.Packets.{IsChosen, ArePackets, delivered, filler, filler_af, filler_is}
use Rattle.law_delivery.specs.OtherCarry.{under}
use Rattle.law_convert.proofs.Hearing.{Hears, hears}
use Rattle.law_delivery.proofs.OtherCarry.{packet_under}
use Rattle.drm_gate.specs.Passing.{Outcome, OutcomeOf, OutcomesOf, datagrams_of}
use Rattle.law_gate.specs.Laws.{pairs_where, pairs_by, PassesSchedules}
use Rattle.law_gate.proofs.Listed.{gather}
use Rattle.law_gate.proofs.FirstNumber.{IsSequenceOfFirst, first_known, sequence_same}
use Rattle.law_gate.proofs.Packets.{lost_sends, packet_sends}

-- the item of a packet that was cut in this shape
abbrev item_in : Shape → List ℕ → ℕ → (ℕ → Bool) → CollectorItem
item_in shape packet q kept =
    if is_recoverable shape kept then Packet q packet else (let had = size shape.count kept in Lost q had (if had == 0 then 0 else shape.count))

module _ (plan : Plan) (carry : Carry) (schedule : IsSchedule plan) (other : IsSchedule (under carry plan)) (window : ℕ) (first_frame : ℤ) (pairs : List (ℕ × ℕ)) (packets : List (List ℕ)) (are : ArePackets plan pairs packets)
    (first : ℕ) (known : (pairs ≡ []) ⊎ IsSequenceOfFirst plan.seq first_frame first) (q : ℕ) (fate : Outcome) where
  abbrev Sends : ℕ × ℕ → List ℕ → Type 0
  Sends = IsSent (under carry plan)

  abbrev kept : ℕ → Bool
  kept = got window first_frame pairs q

  -- ---- of a packet of the schedule

  place_known : (t : ℕ) → (first_frame +ℤ pos q) ≡ pos t → is_recoverable (shape_at plan t) kept ≡ true → sequence_of first q ≡ sequence_number plan t
  place_known t at enough =
      elim known [
        | inl none ↦
            let of_none : is_recoverable (shape_at plan t) (got window first_frame [] q) ≡ true = subst (λ (l : List (ℕ × ℕ)). is_recoverable (shape_at plan t) (got window first_frame l q) ≡ true) none enough in
            absurd (true≢false (sym of_none ∙ some_needed plan t schedule))
        | inr of_first ↦ sequence_same plan.seq first q t first_frame of_first at
      ]

  frame_where : (t : ℕ) (packet : List ℕ) (had total : ℕ) → t < frame_count plan → IsPacketAt plan t packet → (first_frame +ℤ pos q) ≡ pos t → (b : Bool) → is_recoverable (shape_at plan t) kept ≡ b
      → OutcomeOf carry first (cond b (Packet q packet) (Lost q had total)) fate → AllZip Sends (pairs_where b plan carry t) (datagrams_of fate)
  frame_where t packet had total below is at true enough become =
      let here : IsPacketAt (under carry plan) t packet = packet_under carry plan t packet is in
      let size : length packet ≡ packet_size plan t = packet_long plan t packet schedule below is in
      let long : length packet ≡ packet_size (under carry plan) t = packet_long (under carry plan) t packet other below here in
      let count : datagram_count carry (length packet) ≡ datagram_count carry (packet_size plan t) = ap (datagram_count carry) size in
      let fits = size_fits (under carry plan) other t in
      packet_sends Sends carry first q t (datagram_count carry (packet_size plan t)) (sequence_number plan t) packet fate
      (record { seq = sequence_number plan t; checked = true; minor = 0; payload = is.payload }, is.is) (omega (arith, long, fits.1)) (place_known t at enough) count
      (λ datagrams i within carries. record { within = below; is = record { packet = packet; is_packet = here; within = omega (arith, within, count); is = carries } }) become
  frame_where t packet had total below is at false enough become = lost_sends Sends carry first q had total fate become

  of_frame : (t : ℕ) (packet : List ℕ) → t < frame_count plan → IsPacketAt plan t packet → (first_frame +ℤ pos q) ≡ pos t → OutcomeOf carry first (item_by plan.carry (Some packet) q kept) fate
      → AllZip Sends (pairs_by plan carry (Some t) kept) (datagrams_of fate)
  of_frame t packet below is at become =
      let same : shape_under plan.carry (length packet) ≡ shape_at plan t = ap (shape_under plan.carry) (packet_long plan t packet schedule below is) in
      let had : ℕ = size (shape_at plan t).count kept in
      frame_where t packet had (if had == 0 then 0 else (shape_at plan t).count) below is at (is_recoverable (shape_at plan t) kept) refl
      (subst (λ (s : Shape). OutcomeOf carry first (item_in s packet q kept) fate) same become)

  -- ---- of a packet of which nothing came

  lost_where : (packet : List ℕ) (had total : ℕ) (b : Bool) → b ≡ false → OutcomeOf carry first (cond b (Packet q packet) (Lost q had total)) fate → AllZip Sends [] (datagrams_of fate)
  lost_where packet had total true none become = absurd (true≢false none)
  lost_where packet had total false none become = lost_sends Sends carry first q had total fate become

  of_none : (t : ℕ) (packet : List ℕ) → packet ≡ filler plan t → ((i : ℕ) → kept i ≡ false) → OutcomeOf carry first (item_by plan.carry (Some packet) q kept) fate
      → AllZip Sends (pairs_by plan carry (Some t) kept) (datagrams_of fate)
  of_none t packet same none become =
      let long : length packet ≡ 12 = ap length same ∙ af_long (filler_af plan t) (filler plan t) (filler_is plan t) in
      let shape : Shape = shape_under plan.carry (length packet) in
      let needed = needed_of plan.carry (length packet) schedule.in_lines.carry_fits (omega (arith, long)) (omega (arith, long, (limit_is plan.carry).0)) in
      let lost : is_recoverable shape kept ≡ false = recoverable_same shape kept (λ i. false) none ∙ needed in
      let of_frame : is_recoverable (shape_at plan t) kept ≡ false = recoverable_same (shape_at plan t) kept (λ i. false) none ∙ some_needed plan t schedule in
      let had : ℕ = size shape.count kept in
      subst (λ (b : Bool). AllZip Sends (pairs_where b plan carry t) (datagrams_of fate)) (sym of_frame) (lost_where packet had (if had == 0 then 0 else shape.count) (is_recoverable shape kept) lost become)

  -- ---- of any place

  of_chosen : (t : ℕ) (packet : List ℕ) → t < frame_count plan → IsChosen plan pairs t packet → (first_frame +ℤ pos q) ≡ pos t → OutcomeOf carry first (item_by plan.carry (Some packet) q kept) fate
      → AllZip Sends (pairs_by plan carry (Some t) kept) (datagrams_of fate)
  of_chosen t packet below (inl chosen) at become = of_frame t packet below chosen at become
  of_chosen t packet below (inr (nothing, same)) at become = of_none t packet same (λ i. none_got window first_frame pairs q i t at nothing) become

  of_place : (z : ℤ) → (first_frame +ℤ pos q) ≡ z → OutcomeOf carry first (item_by plan.carry (packet_at packets z) q kept) fate → AllZip Sends (pairs_by plan carry (frame_at plan z) kept) (datagrams_of fate)
  of_place (negsuc n) at become = lost_sends Sends carry first q 0 0 fate become
  of_place (pos t) at become =
      elim (cases_lt t (frame_count plan)) [
        | inl below ↦
            let (packet, there, chosen) = are.each t below in
            subst (λ (o : Option ℕ). AllZip Sends (pairs_by plan carry o kept) (datagrams_of fate)) (sym (frame_within plan (pos t) t refl below))
            (of_chosen t packet below chosen at (subst (λ (o : Option (List ℕ)). OutcomeOf carry first (item_by plan.carry o q kept) fate) there become))
        | inr beyond ↦
            let none : slice_get packets t ≡ None = slice_get_past packets t (omega (arith, beyond, are.all)) in
            let no_frame : frame_at plan (pos t) ≡ None = ap (λ (b : Bool). cond b (Some t) None) (le-ltb t (frame_count plan) beyond) in
            subst (λ (o : Option ℕ). AllZip Sends (pairs_by plan carry o kept) (datagrams_of fate)) (sym no_frame)
            (lost_sends Sends carry first q 0 0 fate (subst (λ (o : Option (List ℕ)). OutcomeOf carry first (item_by plan.carry o q kept) fate) none become))
      ]

  pub each_sends : OutcomeOf carry first (item plan.carry packets window first_frame pairs q) fate → AllZip Sends (pairs_by plan carry (frame_at plan (first_frame +ℤ pos q)) kept) (datagrams_of fate)
  each_sends become = of_place (first_frame +ℤ pos q) refl become

-- ---- the law

pub passes_schedules : Collecting → GivingEnds → OneReading → OneRun → PassesSchedules
passes_schedules collecting giving_ends one_reading one_run plan carry rules first_frame arrivals datagrams fates passed =
    let pairs : List (ℕ × ℕ) = pairs_in arrivals in
    let run = passed.onward.run in
    let h : Hears plan rules.window rules.reach rules.first first_frame pairs datagrams = hears collecting giving_ends plan rules.window rules.reach rules.first first_frame arrivals datagrams passed.schedule passed.some passed.followed in
    let same = one_run (made rules.window rules.reach rules.first) run.mid h.mid datagrams passed.onward.taken h.answers run.during h.given run.steps h.steps in
    let gives : CollectorGives (after_finish h.mid rules.frames) run.rest run.after = subst (λ (s : CollectorState). CollectorGives (after_finish s rules.frames) run.rest run.after) (sym same.2) run.gives in
    let are : passed.onward.items ≡ items plan.carry h.packets rules.window first_frame rules.frames pairs =
    run.are ∙ (ap (λ (l : List CollectorItem). up_to rules.frames (l ++ run.rest)) (sym same.1) ∙ h.law rules.frames run.rest run.after gives) in
    let first : ℕ = first_of run.mid in
    let known : (pairs ≡ []) ⊎ IsSequenceOfFirst plan.seq first_frame first =
    subst (λ (s : CollectorState). (pairs ≡ []) ⊎ IsSequenceOfFirst plan.seq first_frame (first_of s)) same.2
    (first_known one_reading plan.carry plan.seq rules.window rules.reach h.packets rules.first first_frame pairs h.others h.replies h.given h.mid
    (all_brought plan.carry plan.seq h.packets h.all_sent pairs h.others (delivered plan passed.schedule pairs h.packets h.are h.others h.sent)) passed.followed.is_first h.without) in
    let of : ℕ → CollectorItem = item plan.carry h.packets rules.window first_frame pairs in
    let n : ℕ = end_of rules.frames (newest_of first_frame None pairs) in
    let become : OutcomesOf carry first (map of (range_with_len 0 n)) fates = subst (λ (l : List CollectorItem). OutcomesOf carry first l fates) are passed.onward.become in
    gather (IsSent (under carry plan)) carry first of (λ q. pairs_by plan carry (frame_at plan (first_frame +ℤ pos q)) (got rules.window first_frame pairs q)) 0 n fates become
    (λ q fate. each_sends plan carry passed.schedule passed.other rules.window first_frame pairs h.packets h.are first known q fate)
