-- No packet of a schedule is too large.
use Rattle.std.proofs.Common.{ℕ, ◌≡◌, ◌+◌, ◌<◌, ◌≤◌, ◌==◌, ◌⊎◌, if◌then◌else◌, inl, inr, Bool, true, false, cond, List, [], ◌∷◌, ◌++◌, length, take, slice_get, Option, None, Some, refl, sym, ap, subst, ◌∙◌, arith, append_assoc, length-append}
use Rattle.std.specs.Prelude.{ℤ, pos, negsuc, ◌+ℤ◌}
use Rattle.std.proofs.lemmas.Bool.{true≢false, ltb-true}
use Rattle.std.proofs.lemmas.List.{append-nil}
use Rattle.std.proofs.lemmas.List.FromFn.{length-map-range_with_len}
use Rattle.std.proofs.lemmas.Option.{slice_get_within}
use Rattle.dcp_pft.specs.declared.carry.Carry.{Carry}
use Rattle.dcp_pft.specs.declared.carry.Carry.TheVariants.{Plain, Pft}
use Rattle.dcp_pft.specs.Limits.{most_packet}
use Rattle.dcp_pft.specs.Carrying.{shape_under}
use Rattle.dcp_pft.proofs.Carried.{limit_is}
use Rattle.dcp_pft.specs.Loss.{size, is_recoverable}
use Rattle.dcp_collect.specs.Numbers.{end_of}
use Rattle.dcp_collect.specs.CollectorState.{CollectorState, made, ready, ready_by, after_finish}
use Rattle.dcp_collect.specs.declared.taken.Taken.{Taken}
use Rattle.dcp_collect.specs.Runs.{CollectorItem, Packet, Lost, CollectorTakes, up_to}
use Rattle.law_collect.specs.Delivery.{packet_at, got, newest_of, item_by, item, items}
use Rattle.law_collect.specs.Laws.{Collecting, GivingEnds, StepsCount}
use Rattle.drm_schedule.specs.declared.plan.Plan.{Plan}
use Rattle.drm_schedule.specs.Valid.{IsSchedule}
use Rattle.drm_timeline.specs.Numbers.{frame_count}
use Rattle.law_delivery.specs.Sent.{pairs_in}
use Rattle.law_delivery.proofs.Lengths.{af_long, packet_long}
use Rattle.law_delivery.proofs.Packets.{at_number, IsChosen, ArePackets, filler, filler_af, filler_is, chosen_at}
use Rattle.dcp_sender.specs.CarriesText.{is_too_long}
use Rattle.cmd_convert.specs.Converting.{IsTooLarge}
use Rattle.recv_reading.specs.Packets.{ComesAt, ComesTo}
use Rattle.recv_reading.specs.declared.options.PacketRange.{PacketRange}
use Rattle.recv_reading.proofs.Ways.{taken_starts, finished_starts}
use Rattle.law_convert.specs.Laws.{FitsCarry, NoneIsTooLarge}
use Rattle.law_convert.proofs.Prefixes.{front_followed}
use Rattle.law_convert.proofs.Hearing.{Hears, hears}
use Rattle.law_convert.proofs.Places.{at_place, in_front, given_on}

-- ---- an item of a delivery isn't

not_long : (carry : Carry) (len : ℕ) → len ≤ most_packet carry → is_too_long carry len ≡ true → ⊥
not_long Plain len small is = true≢false (sym is)
not_long (Pft m mtu) len small is =
    let long : most_packet (Pft m mtu) < len = ltb-true (most_packet (Pft m mtu)) len is in omega (arith, small, long)

by_packet : (carry : Carry) (packet : List ℕ) (q number had total : ℕ) → length packet ≤ most_packet carry → (b : Bool) → IsTooLarge carry (cond b (Packet q packet) (Lost q had total)) number → ⊥
by_packet carry packet q number had total small true large = not_long carry (length packet) small large.2
by_packet carry packet q number had total small false large = large

by_place : (carry under : Carry) (o : Option (List ℕ)) (q number : ℕ) (kept : ℕ → Bool) → ((packet : List ℕ) → o ≡ Some packet → length packet ≤ most_packet under)
    → IsTooLarge under (item_by carry o q kept) number → ⊥
by_place carry under None q number kept small large = large
by_place carry under (Some packet) q number kept small large =
    let shape = shape_under carry (length packet) in
    let had : ℕ = size shape.count kept in
    by_packet under packet q number had (if had == 0 then 0 else shape.count) (small packet refl) (is_recoverable shape kept) large

-- the packet of a frame, or a filler in its place
chosen_small : (plan : Plan) (under : Carry) (pairs : List (ℕ × ℕ)) (p : ℕ) (packet : List ℕ) → IsSchedule plan → FitsCarry under plan → p < frame_count plan → IsChosen plan pairs p packet
    → length packet ≤ most_packet under
chosen_small plan under pairs p packet is fits below (inl at) = omega (arith, packet_long plan p packet is below at, fits p)
chosen_small plan under pairs p packet is fits below (inr (none, same)) =
    let long : length packet ≡ 12 = ap length same ∙ af_long (filler_af plan p) (filler plan p) (filler_is plan p) in omega (arith, long, (limit_is under).0)

sent_small : (plan : Plan) (under : Carry) (pairs : List (ℕ × ℕ)) (packets : List (List ℕ)) → IsSchedule plan → FitsCarry under plan → ArePackets plan pairs packets
    → (z : ℤ) (packet : List ℕ) → packet_at packets z ≡ Some packet → length packet ≤ most_packet under
sent_small plan under pairs packets is fits are (pos p) packet at =
    let (below, chosen) = chosen_at plan is pairs packets are p packet at in
    chosen_small plan under pairs p packet is fits below chosen
sent_small plan under pairs packets is fits are (negsuc p) packet at = absurd (let none : None ≡ Some packet = at in cc)

one_from : (a b : CollectorItem) → Some a ≡ Some b → a ≡ b
one_from a b same = cc

item_small : (plan : Plan) (under : Carry) (window number : ℕ) (packets : List (List ℕ)) (first_frame : ℤ) (frame_limit : Option ℕ) (pairs : List (ℕ × ℕ)) (k : ℕ) (given : CollectorItem) → IsSchedule plan → FitsCarry under plan
    → ArePackets plan pairs packets → slice_get (items plan.carry packets window first_frame frame_limit pairs) k ≡ Some given → IsTooLarge under given number → ⊥
item_small plan under window number packets first_frame frame_limit pairs k given is fits are at large =
    let of : ℕ → CollectorItem = item plan.carry packets window first_frame pairs in
    let n : ℕ = end_of frame_limit (newest_of first_frame None pairs) in
    let within : k < length (items plan.carry packets window first_frame frame_limit pairs) = slice_get_within (items plan.carry packets window first_frame frame_limit pairs) k given at in
    let below : k < n = omega (arith, within, length-map-range_with_len of 0 n) in
    let same : given ≡ of k = one_from given (of k) (sym at ∙ at_number of n k below) in
    by_place plan.carry under (packet_at packets (first_frame +ℤ pos k)) k number (got window first_frame pairs k) (λ packet there. sent_small plan under pairs packets is fits are (first_frame +ℤ pos k) packet there)
    (subst (λ i. IsTooLarge under i number) same large)

-- ---- so none comes

-- where it comes behind these, and no end cuts it off
there : (frame_limit : Option ℕ) (before rest : List CollectorItem) (given : CollectorItem) → (frame_limit ≡ None) ⊎ ((n : ℕ) × (frame_limit ≡ Some n) × (length before < n))
    → slice_get (up_to frame_limit (before ++ given ∷ rest)) (length before) ≡ Some given
there frame_limit before rest given may = by may (at_place before rest given)
  where
    by : (frame_limit ≡ None) ⊎ ((n : ℕ) × (frame_limit ≡ Some n) × (length before < n)) → slice_get (before ++ given ∷ rest) (length before) ≡ Some given
        → slice_get (up_to frame_limit (before ++ given ∷ rest)) (length before) ≡ Some given
    by (inl none) at = ap (λ o. slice_get (up_to o (before ++ given ∷ rest)) (length before)) none ∙ at
    by (inr (n, known, below)) at = ap (λ o. slice_get (up_to o (before ++ given ∷ rest)) (length before)) known ∙ (in_front n (length before) (before ++ given ∷ rest) below ∙ at)

-- an item that is ready stands before the told end
before_end : (frame_limit newest : Option ℕ) (last : CollectorState) (k : ℕ) → last.end ≡ Some (end_of frame_limit newest) → last.next ≡ k → ready last ≡ true → (frame_limit ≡ None) ⊎ ((n : ℕ) × (frame_limit ≡ Some n) × (k < n))
before_end None newest last k end next is_ready = inl refl
before_end (Some n) newest last k end next is_ready =
    let below : last.next < n = ltb-true last.next n (sym (ap (λ o. ready_by o last) end) ∙ is_ready) in
    inr (n, refl, omega (arith, below, next))

module _ (collecting : Collecting) (giving_ends : GivingEnds) (steps_count : StepsCount) where
  module _ (plan : Plan) (carry : Carry) (is : IsSchedule plan) (fits : FitsCarry carry plan) (range : PacketRange) (pairs : List (ℕ × ℕ)) (packets : List (List ℕ)) (given : List CollectorItem) (next : CollectorItem) (last : CollectorState) (number : ℕ)
      (h : Hears plan range.window range.reach range.first (pos 0) pairs packets) (at : ComesAt range packets given next last) where
    not_taken : (bytes : List ℕ) (answer : Taken) → at.later ≡ bytes ∷ [] → CollectorTakes at.mid bytes answer at.state → IsTooLarge carry next number → ⊥
    not_taken bytes answer same takes large =
        let (rest, begins) = taken_starts range packets given next last at bytes answer same takes packets [] h.answers h.given h.mid (sym (append-nil packets)) h.steps in
        let (end, after, gives) = giving_ends (after_finish h.mid None) h.fit.0 h.fit.1 in
        let whole : given ++ next ∷ (rest ++ end) ≡ items plan.carry h.packets range.window (pos 0) None pairs =
        sym (append_assoc given (next ∷ rest) end) ∙ (ap (λ l. l ++ end) (sym begins) ∙ h.law None end after gives) in
        item_small plan carry range.window number h.packets (pos 0) None pairs (length given) next is fits h.are
        (ap (λ l. slice_get l (length given)) (sym whole) ∙ there None given (rest ++ end) next (inl refl)) large

    not_finished : at.later ≡ [] → at.state ≡ after_finish at.mid range.frame_limit → IsTooLarge carry next number → ⊥
    not_finished none ends large =
        let (end, after, gives) = giving_ends (after_finish h.mid range.frame_limit) h.fit.0 h.fit.1 in
        let (rest, begins) = finished_starts range packets given next last at none ends h.answers h.given end h.mid after h.steps gives in
        let on = given_on at.more at.state last at.gives in
        let counted : at.mid.next ≡ 0 + length at.during = steps_count (made range.window range.reach range.first) at.mid at.before at.taken at.during at.steps in
        let first : at.state.next ≡ at.mid.next = ap (λ s. s.next) ends in
        let count : last.next ≡ length given = omega (arith, on.0, counted, first, ap length at.items_are, length-append at.during at.more) in
        let end_is : last.end ≡ Some (end_of range.frame_limit at.mid.newest) = on.1 ∙ ap (λ s. s.end) ends in
        let whole : up_to range.frame_limit (given ++ next ∷ rest) ≡ items plan.carry h.packets range.window (pos 0) range.frame_limit pairs =
        ap (up_to range.frame_limit) (sym begins) ∙ h.law range.frame_limit end after gives in
        item_small plan carry range.window number h.packets (pos 0) range.frame_limit pairs (length given) next is fits h.are
        (ap (λ l. slice_get l (length given)) (sym whole) ∙ there range.frame_limit given rest next (before_end range.frame_limit at.mid.newest last (length given) end_is count at.is_ready)) large

    not_next : ComesTo range at.later at.mid at.state → IsTooLarge carry next number → ⊥
    not_next (inl (bytes, answer, same, takes)) large = not_taken bytes answer same takes large
    not_next (inr (none, ends)) large = not_finished none ends large

  pub none_is_too_large : NoneIsTooLarge
  none_is_too_large plan carry range arrivals packets later given next last number is fits some followed at large =
      let h = hears collecting giving_ends plan range.window range.reach range.first (pos 0) (take (length packets) arrivals) packets is some
      (front_followed plan range.reach range.first arrivals packets later followed) in
      not_next plan carry is fits range (pairs_in (take (length packets) arrivals)) packets given next last number h at at.comes large
