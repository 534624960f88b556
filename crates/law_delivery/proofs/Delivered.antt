-- What a modulator gives of a delivery.
use Rattle.std.proofs.Common.{ℕ, zero, suc, eq-eqb, ◌≡◌, inl, inr, ◌+◌, ◌<◌, ◌==◌, ◌&&◌, ◌||◌, eqb, Bool, true, false, cond, if◌then◌else◌, List, [], ◌∷◌, length, slice_get, Option, Some, None, refl, sym, ap, subst, ◌∙◌, arith}
use Rattle.std.specs.Prelude.{ℤ, pos, negsuc, ◌+ℤ◌, ◌-ℤ◌}
use Rattle.std.proofs.lemmas.Bool.{cases_lt, eqb-true, or_parts, le-ltb, true≢false}
use Rattle.std.proofs.lemmas.Int.{ints}
use Rattle.std.proofs.lemmas.List.FromFn.{length-map-range_with_len}
use Rattle.std.proofs.lemmas.Option.{slice_get_past, slice_get_within}
use Rattle.dcp_pft.specs.declared.shape.Shape.{Shape}
use Rattle.dcp_pft.specs.Loss.{size, is_recoverable}
use Rattle.dcp_collect.specs.Runs.{CollectorItem as Collected, Packet, Lost}
use Rattle.dcp_collect.specs.Numbers.{end_of}
use Rattle.dcp_pft.specs.declared.carry.Carry.{Carry}
use Rattle.dcp_pft.specs.Carrying.{shape_under}
use Rattle.dcp_pft.proofs.Carried.{limit_is}
use Rattle.law_collect.specs.Delivery.{got, number, is_number, is_at_least, packet_at, item_by, item, items, newest_of}
use Rattle.law_collect.specs.Laws.{IsHeard, Collecting}
use Rattle.dcp_collect.proofs.Sets.{recoverable_same, size_same}
use Rattle.drm_schedule.specs.declared.plan.Plan.{Plan}
use Rattle.drm_schedule.specs.Valid.{IsSchedule}
use Rattle.drm_reconfiguration.specs.Tracker.{TrackerState, new_tracker}
use Rattle.drm_timeline.specs.Numbers.{frame_count}
use Rattle.drm_server.specs.Frames.{IsPacketAt}
use Rattle.mod_feed.specs.Items.{FrameItem, Missing, IsItemOf}
use Rattle.mod_feed.specs.Feeding.{FeedStep, FeedAnswers, FeedTellsTheSwitches, after_step}
use Rattle.mod_feed.proofs.ItemLemmas.{item_is_one}
use Rattle.law_delivery.specs.Sent.{shape_at, frame_at}
use Rattle.law_delivery.specs.Given.{IsServedWhere, IsItemBy, IsItemAt, AreGiven}
use Rattle.law_delivery.proofs.Paired.{DeliveringPairs}
use Rattle.law_delivery.proofs.Needed.{needed_of, some_needed, size_none}
use Rattle.law_delivery.proofs.Numbering.{frame_within}
use Rattle.law_delivery.proofs.Lengths.{af_long, packet_long}
use Rattle.law_delivery.proofs.Suiting.{served}
use Rattle.law_delivery.proofs.Packets.{IsChosen, ArePackets, some_packets, all_sent, delivered, has, filler, filler_af, filler_is, at_number}

-- the item of a step is that of what was given
pub fed_at : (feed after : TrackerState) (given : List Collected) (steps : List FeedStep) → FeedAnswers feed given steps after
    → (q : ℕ) (step : FeedStep) → slice_get steps q ≡ Some step → (from : Collected) × (slice_get given q ≡ Some from) × IsItemOf from step.item
fed_at feed after [] [] feeds q step at = absurd (let e : None ≡ Some step = at in cc)
fed_at feed after [] (first ∷ steps) feeds q step at = absurd feeds
fed_at feed after (from ∷ given) [] feeds q step at = absurd feeds
fed_at feed after (from ∷ given) (first ∷ steps) feeds zero step at =
    let same : first ≡ step = cc in
    (from, refl, subst (λ (s : FeedStep). IsItemOf from s.item) same feeds.0.item)
fed_at feed after (from ∷ given) (first ∷ steps) feeds (suc q) step at = fed_at (after_step feed first) after given steps feeds.1 q step at

pub fed_many : (feed after : TrackerState) (given : List Collected) (steps : List FeedStep) → FeedAnswers feed given steps after → length steps ≡ length given
fed_many feed after [] [] feeds = refl
fed_many feed after [] (first ∷ steps) feeds = absurd feeds
fed_many feed after (from ∷ given) [] feeds = absurd feeds
fed_many feed after (from ∷ given) (first ∷ steps) feeds = omega (arith, fed_many (after_step feed first) after given steps feeds.1)

-- a pair with a number is of the frame that has it
number_place : (first_frame : ℤ) (q t p : ℕ) → (first_frame +ℤ pos q) ≡ pos t → (z : ℤ) → z ≡ (pos p -ℤ first_frame) → is_number z q ≡ true → p ≡ t
number_place first_frame q t p at (pos n) e is = let same : n ≡ q = eqb-true n q is in omega (arith, ints, at, e, same)
number_place first_frame q t p at (negsuc n) e is = absurd (true≢false (sym is))

got_cond : (late same index rest : Bool) → (same ≡ true → ⊥) → rest ≡ false → cond late false ((same && index) || rest) ≡ false
got_cond true same index rest other none = refl
got_cond false true index rest other none = absurd (other refl)
got_cond false false index rest other none = none

-- of a packet of which no datagram is among the pairs, none is got
pub none_got : (window : ℕ) (first_frame : ℤ) (pairs : List (ℕ × ℕ)) (q i t : ℕ) → (first_frame +ℤ pos q) ≡ pos t → has t pairs ≡ false → got window first_frame pairs q i ≡ false
none_got window first_frame [] q i t at none = refl
none_got window first_frame (pair ∷ pairs) q i t at none =
    let parts = or_parts (eqb pair.0 t) (has t pairs) none in
    got_cond (is_at_least (number first_frame pair) (q + window)) (is_number (number first_frame pair) q) (eqb pair.1 i) (got window first_frame pairs q i)
    (λ is.
    let same : pair.0 ≡ t = number_place first_frame q t pair.0 at (number first_frame pair) refl is in
    true≢false (sym (eq-eqb pair.0 t same) ∙ parts.0))
    (none_got window first_frame pairs q i t at parts.1)

-- the item of a packet that was cut in this shape
abbrev item_in : Shape → List ℕ → ℕ → (ℕ → Bool) → Collected
item_in shape packet q kept =
    if is_recoverable shape kept then Packet q packet else (let had = size shape.count kept in Lost q had (if had == 0 then 0 else shape.count))

module _ (plan : Plan) (is : IsSchedule plan) (q : ℕ) (kept : ℕ → Bool) (given : FrameItem) where
  served_where : (t : ℕ) (packet : List ℕ) → t < frame_count plan → IsPacketAt plan t packet → (b : Bool)
      → (let had = size (shape_at plan t).count kept in IsItemOf (cond b (Packet q packet) (Lost q had (if had == 0 then 0 else (shape_at plan t).count))) given)
      → IsServedWhere b plan t q kept given
  served_where t packet below at true item_is = served plan t q packet given is below at item_is
  served_where t packet below at false item_is =
      let had : ℕ = size (shape_at plan t).count kept in
      let total : ℕ = if had == 0 then 0 else (shape_at plan t).count in
      item_is_one (Lost q had total) (Missing q had total) given (refl, refl, refl) item_is

  -- of a packet of the schedule
  item_of_packet : (t : ℕ) (packet : List ℕ) → t < frame_count plan → IsPacketAt plan t packet → IsItemOf (item_by plan.carry (Some packet) q kept) given
      → IsItemBy plan (Some t) q kept given
  item_of_packet t packet below at item_is =
      let same : shape_under plan.carry (length packet) ≡ shape_at plan t = ap (shape_under plan.carry) (packet_long plan t packet is below at) in
      served_where t packet below at (is_recoverable (shape_at plan t) kept) (subst (λ (s : Shape). IsItemOf (item_in s packet q kept) given) same item_is)

  lost_in : (shape : Shape) (packet : List ℕ) → is_recoverable shape (λ i. false) ≡ false → ((i : ℕ) → kept i ≡ false) → item_in shape packet q kept ≡ Lost q 0 0
  lost_in shape packet needed none =
      let lost : is_recoverable shape kept ≡ false = recoverable_same shape kept (λ i. false) none ∙ needed in
      let zero_had : size shape.count kept ≡ 0 = size_same shape.count kept (λ i. false) (λ i lt. none i) ∙ size_none shape.count in
      ap (λ (b : Bool). cond b (Packet q packet) (Lost q (size shape.count kept) (if size shape.count kept == 0 then 0 else shape.count))) lost
      ∙ ap (λ (n : ℕ). Lost q n (if n == 0 then 0 else shape.count)) zero_had

  -- of a packet of which nothing came
  item_of_none : (t : ℕ) (packet : List ℕ) → packet ≡ filler plan t → ((i : ℕ) → kept i ≡ false) → IsItemOf (item_by plan.carry (Some packet) q kept) given
      → IsItemBy plan (Some t) q kept given
  item_of_none t packet same none item_is =
      let long : length packet ≡ 12 = ap length same ∙ af_long (filler_af plan t) (filler plan t) (filler_is plan t) in
      let needed = needed_of plan.carry (length packet) is.in_lines.carry_fits (omega (arith, long)) (omega (arith, long, (limit_is plan.carry).0)) in
      let lost : item_in (shape_under plan.carry (length packet)) packet q kept ≡ Lost q 0 0 =
      lost_in (shape_under plan.carry (length packet)) packet needed none in
      let missing : given ≡ Missing q 0 0 = item_is_one (Lost q 0 0) (Missing q 0 0) given (refl, refl, refl) (subst (λ (c : Collected). IsItemOf c given) lost item_is) in
      let of_frame : is_recoverable (shape_at plan t) kept ≡ false = recoverable_same (shape_at plan t) kept (λ i. false) none ∙ some_needed plan t is in
      let count : ℕ = (shape_at plan t).count in
      let zero_had : size count kept ≡ 0 = size_same count kept (λ i. false) (λ i lt. none i) ∙ size_none count in
      let as_counted : Missing q 0 0 ≡ Missing q (size count kept) (if size count kept == 0 then 0 else count) = ap (λ (n : ℕ). Missing q n (if n == 0 then 0 else count)) (sym zero_had) in
      subst (λ (b : Bool). IsServedWhere b plan t q kept given) (sym of_frame) (missing ∙ as_counted)

-- a place is a frame's, and its packet was chosen, or it is none's
module _ (plan : Plan) (is : IsSchedule plan) (window : ℕ) (first_frame : ℤ) (pairs : List (ℕ × ℕ)) (packets : List (List ℕ)) (are : ArePackets plan pairs packets) where
  item_of_place : (q : ℕ) (given : FrameItem) (z : ℤ) → (first_frame +ℤ pos q) ≡ z → IsItemOf (item_by plan.carry (packet_at packets z) q (got window first_frame pairs q)) given
      → IsItemBy plan (frame_at plan z) q (got window first_frame pairs q) given
  item_of_place q given (negsuc n) at item_is = item_is_one (Lost q 0 0) (Missing q 0 0) given (refl, refl, refl) item_is
  item_of_place q given (pos t) at item_is =
      elim (cases_lt t (frame_count plan)) [
        | inl below ↦ here (are.each t below) below
        | inr beyond ↦
            let none : slice_get packets t ≡ None = slice_get_past packets t (omega (arith, beyond, are.all)) in
            let no_frame : frame_at plan (pos t) ≡ None = ap (λ (b : Bool). cond b (Some t) None) (le-ltb t (frame_count plan) beyond) in
            let lost : IsItemOf (Lost q 0 0) given =
            subst (λ (o : Option (List ℕ)). IsItemOf (item_by plan.carry o q (got window first_frame pairs q)) given) none item_is in
            subst (λ (o : Option ℕ). IsItemBy plan o q (got window first_frame pairs q) given) (sym no_frame) (item_is_one (Lost q 0 0) (Missing q 0 0) given (refl, refl, refl) lost)
      ]
    where
      kept : ℕ → Bool
      kept = got window first_frame pairs q

      of_chosen : (packet : List ℕ) → t < frame_count plan → IsChosen plan pairs t packet → IsItemOf (item_by plan.carry (Some packet) q (got window first_frame pairs q)) given
          → IsItemBy plan (Some t) q (got window first_frame pairs q) given
      of_chosen packet below (inl chosen) of_it = item_of_packet plan is q (got window first_frame pairs q) given t packet below chosen of_it
      of_chosen packet below (inr none) of_it =
          item_of_none plan is q (got window first_frame pairs q) given t packet none.1 (λ i. none_got window first_frame pairs q i t at none.0) of_it

      here : (packet : List ℕ) × (slice_get packets t ≡ Some packet) × IsChosen plan pairs t packet → t < frame_count plan → IsItemBy plan (frame_at plan (pos t)) q (got window first_frame pairs q) given
      here (packet, there, chosen) below =
          subst (λ (o : Option ℕ). IsItemBy plan o q (got window first_frame pairs q) given) (sym (frame_within plan (pos t) t refl below))
          (of_chosen packet below chosen
          (subst (λ (o : Option (List ℕ)). IsItemOf (item_by plan.carry o q (got window first_frame pairs q)) given) there item_is))

  -- what a collector gives is turned into what the delivery calls for
  pub item_of_number : (q : ℕ) (given : FrameItem) → IsItemOf (item plan.carry packets window first_frame pairs q) given → IsItemAt plan window first_frame pairs q given
  item_of_number q given item_is = item_of_place q given (first_frame +ℤ pos q) refl item_is

one_from : (a b : Collected) → Some a ≡ Some b → a ≡ b
one_from a b same = cc

-- the steps of a feed over the items of a delivery
pub given_of_items : (plan : Plan) (window : ℕ) (first_frame : ℤ) (frame_limit : Option ℕ) (pairs : List (ℕ × ℕ)) (packets : List (List ℕ)) (steps : List FeedStep) (after : TrackerState)
    → FeedTellsTheSwitches → IsSchedule plan → ArePackets plan pairs packets
    → FeedAnswers new_tracker (items plan.carry packets window first_frame frame_limit pairs) steps after → AreGiven plan window first_frame frame_limit pairs steps
given_of_items plan window first_frame frame_limit pairs packets steps after switches is are feeds =
    let of : ℕ → Collected = item plan.carry packets window first_frame pairs in
    let n : ℕ = end_of frame_limit (newest_of first_frame None pairs) in
    let given : List Collected = items plan.carry packets window first_frame frame_limit pairs in
    let many : length steps ≡ n = fed_many new_tracker after given steps feeds ∙ length-map-range_with_len of 0 n in
    record {
      many = many;
      items = λ q step at.
          let from = fed_at new_tracker after given steps feeds q step at in
          let below : q < length steps = slice_get_within steps q step at in
          let same : from.0 ≡ of q = one_from from.0 (of q) (sym from.1 ∙ at_number of n q (omega (arith, below, many))) in
          item_of_number plan is window first_frame pairs packets are q step.item (subst (λ (c : Collected). IsItemOf c step.item) same from.2);
      before = λ q before before_is. ((switches given steps after feeds q before).0 before_is).1;
    }

-- a collector and a feed give what the delivery calls for
pub delivering : Collecting → FeedTellsTheSwitches → DeliveringPairs
delivering collecting switches plan window reach first frame_limit first_frame pairs datagrams answers collected steps after is some followed run feeds =
    let made = some_packets plan pairs datagrams followed.sent in
    let packets : List (List ℕ) = made.0 in
    let are : ArePackets plan pairs packets = made.1 in
    let carry : Carry = plan.carry in
    let heard : IsHeard carry plan.seq packets reach first first_frame pairs datagrams = record {
      sent = all_sent plan is pairs packets are;
      delivered = delivered plan is pairs packets are datagrams followed.sent;
      is_first = followed.is_first;
      within_span = followed.within_span;
    } in
    let law = collecting carry plan.seq window reach packets first frame_limit first_frame pairs datagrams answers collected some heard run in
    let fed : FeedAnswers new_tracker (items carry packets window first_frame frame_limit pairs) steps after = subst (λ (l : List Collected). FeedAnswers new_tracker l steps after) law.0 feeds in
    (given_of_items plan window first_frame frame_limit pairs packets steps after switches is are fed, law.1)
