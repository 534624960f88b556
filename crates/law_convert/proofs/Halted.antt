-- What a conversion has come to when a write fails.
use Rattle.std.proofs.Common.{ℕ, suc, ◌≡◌, ◌+◌, ◌<◌, ◌≤◌, inl, inr, false, List, [], ◌∷◌, ◌++◌, length, None, refl, sym, ap, subst, ◌∙◌, arith, append_assoc, length-append}
use Rattle.std.specs.Prelude.{pos}
use Rattle.std.specs.List.{concat}
use Rattle.std.proofs.lemmas.List.{append-nil}
use Rattle.dcp_pft.specs.declared.carry.Carry.{Carry}
use Rattle.dcp_pft.specs.declared.carry.Carry.TheVariants.{Plain, Pft}
use Rattle.dcp_pft.specs.Carrying.{CarryFits, datagram_count}
use Rattle.dcp_pft.proofs.Sizes.{some_fragments}
use Rattle.dcp_collect.specs.declared.taken.Taken.{Taken}
use Rattle.dcp_collect.specs.CollectorState.{CollectorState, made, after_finish}
use Rattle.dcp_collect.specs.Runs.{CollectorItem, CollectorTakes, CollectorSteps, up_to}
use Rattle.law_collect.specs.Laws.{GivingEnds, OneReading, Refusing, StepsPart}
use Rattle.drm_schedule.specs.declared.plan.Plan.{Plan}
use Rattle.drm_schedule.specs.Valid.{IsSchedule}
use Rattle.drm_timeline.specs.Numbers.{frame_count, packet_size}
use Rattle.drm_server.specs.Frames.{IsPacketAt}
use Rattle.drm_server.specs.Datagrams.{HasDatagrams, AreOfFrames}
use Rattle.drm_server.specs.Stretch.{whole_schedule}
use Rattle.drm_server.proofs.StretchLemmas.{all_frames}
use Rattle.drm_server.specs.Capture.{IsPrefixOfCapture}
use Rattle.drm_server.proofs.CaptureLemmas.{one_or_more}
use Rattle.drm_server.proofs.OnePacket.{one_packet}
use Rattle.law_delivery.specs.Sent.{Arrival, IsDeliveryOf}
use Rattle.law_delivery.proofs.Configurations.{size_fits}
use Rattle.law_delivery.proofs.Lengths.{packet_long}
use Rattle.recv_reading.specs.Packets.{ComesAt, ComesTo}
use Rattle.recv_reading.specs.declared.options.PacketRange.{PacketRange}
use Rattle.recv_reading.specs.State.{is_full}
use Rattle.recv_reading.specs.First.{first_of}
use Rattle.cmd_convert.specs.Converting.{ItemOutput, ConvertsAll, text_of, lines_of}
use Rattle.recv_reading.proofs.Reaching.{one_way}
use Rattle.recv_reading.proofs.Ways.{Starts, starts_more, starts_up_to, taken_starts, finished_starts, taken_first, all_before}
use Rattle.recv_reading.proofs.First.{given_first}
use Rattle.law_delivery.specs.OtherCarry.{under}
use Rattle.law_convert.specs.Laws.{IsFirstOf, AllInTime, MayBeFrameLimit, KnowsFirst, IsOfSomeFrames, HaltedConversions}
use Rattle.law_delivery.proofs.OtherCarry.{packet_under}
use Rattle.law_convert.proofs.Packets.{IsPacketOf, AreFrom, IsWritten, all_written}
use Rattle.law_convert.proofs.Firsts.{knows_first}
use Rattle.law_convert.proofs.Delivery.{AreAll, IsCollected}
use Rattle.law_convert.proofs.Conversions.{Collects, counted_from, first_of_all_packets}

-- ---- one datagram or more

some_datagrams : (carry : Carry) (len : ℕ) → CarryFits carry → 1 ≤ len → 1 ≤ datagram_count carry len
some_datagrams Plain len fits some = omega arith
some_datagrams (Pft m mtu) len fits some = some_fragments len m mtu some fits.0 fits.1

-- the packet of a frame of a schedule is carried by some, whichever the carry is
some_of_frame : (plan : Plan) (carry : Carry) (t count : ℕ) (packet : List ℕ) → IsSchedule plan → CarryFits carry → t < frame_count plan → IsPacketAt plan t packet → HasDatagrams (under carry plan) t count → 1 ≤ count
some_of_frame plan carry t count packet is fits within at has =
    let same : has.packet ≡ packet = one_packet (under carry plan) t has.packet packet has.is_packet (packet_under carry plan t packet at) in
    let long : length has.packet ≡ packet_size plan t = ap length same ∙ packet_long plan t packet is within at in
    let size = size_fits plan is t in
    let some : 1 ≤ datagram_count carry (length has.packet) = some_datagrams carry (length has.packet) fits (omega (arith, long, size.0)) in
    omega (arith, has.is, some)

-- ---- the item, and those before it

at_place : (plan : Plan) (t : ℕ) (items rest : List CollectorItem) (item : CollectorItem) → AreFrom plan t (items ++ item ∷ rest) → IsPacketOf plan (t + length items) item
at_place plan t [] rest item are = let same : t ≡ t + 0 = omega arith in subst (λ k. IsPacketOf plan k item) same are.0
at_place plan t (x ∷ items) rest item are =
    let next : (t + 1) + length items ≡ t + length (x ∷ items) = omega arith in
    subst (λ k. IsPacketOf plan k item) next (at_place plan (t + 1) items rest item are.1)

-- They begin the packets of all frames, and the collector counts from the first one.
pub record IsComeTo (plan : Plan) (items : List CollectorItem) (item : CollectorItem) (last : CollectorState) : Type 0 where
  pub all : List CollectorItem
  pub are : AreAll plan all
  pub starts : Starts items item all
  pub first : IsFirstOf plan (first_of last)

module _ (collects : Collects) (giving_ends : GivingEnds) (one_reading : OneReading) (refusing : Refusing) (steps_part : StepsPart) where
  module _ (plan : Plan) (range : PacketRange) (arrivals : List Arrival) (packets later : List (List ℕ)) (items : List CollectorItem) (item : CollectorItem) (last : CollectorState)
      (whole : AllInTime plan range.window range.reach range.first arrivals (packets ++ later)) (may : MayBeFrameLimit plan range.frame_limit) (at : ComesAt range packets items item last) where
    abbrev new : CollectorState
    new = made range.window range.reach range.first

    counted : (c : CollectorState) → KnowsFirst plan c → c.first ≡ last.first → IsFirstOf plan (first_of last)
    counted c (n, known, is) same = counted_from plan last (n, sym same ∙ known, is)

    behind_packet : (bytes : List ℕ) (answer : Taken) → at.later ≡ bytes ∷ [] → CollectorTakes at.mid bytes answer at.state → IsComeTo plan items item last
    behind_packet bytes answer is takes =
        let c : IsCollected plan range.window range.reach range.first (packets ++ later) = collects plan range.window range.reach range.first arrivals (packets ++ later) whole in
        let (end, after, gives) = giving_ends (after_finish c.mid None) c.fit.0 c.fit.1 in
        let (mid, replies, more, now, then_given, front, back, are_answers, are_given) = steps_part new c.mid packets later c.answers c.given c.steps in
        let (rest, begins) = taken_starts range packets items item last at bytes answer is takes packets [] replies now mid (sym (append-nil packets)) front in
        let some : 1 ≤ length now = omega (arith, ap length begins, length-append items (item ∷ rest)) in
        let first : KnowsFirst plan mid = knows_first one_reading refusing plan whole.schedule range.window range.reach range.first arrivals packets later replies now mid whole.followed front some in
        record {
          all = c.given ++ end;
          are = c.all None end after (inl refl) gives;
          starts = starts_more items item c.given end (taken_starts range packets items item last at bytes answer is takes (packets ++ later) later c.answers c.given c.mid refl c.steps);
          first = counted mid first (taken_first range packets items item last at bytes answer is takes replies now mid front);
        }

    when_finished : at.later ≡ [] → at.state ≡ after_finish at.mid range.frame_limit → later ≡ [] → is_full range.frame_limit (length items) ≡ false → IsComeTo plan items item last
    when_finished none is no_more room =
        let c : IsCollected plan range.window range.reach range.first (packets ++ later) = collects plan range.window range.reach range.first arrivals (packets ++ later) whole in
        let all : packets ++ later ≡ packets = ap (λ l. packets ++ l) no_more ∙ append-nil packets in
        let steps : CollectorSteps new packets c.answers c.given c.mid = subst (λ l. CollectorSteps new l c.answers c.given c.mid) all c.steps in
        let (end, after, gives) = giving_ends (after_finish c.mid range.frame_limit) c.fit.0 c.fit.1 in
        let begins : Starts items item (c.given ++ end) = finished_starts range packets items item last at none is c.answers c.given end c.mid after steps gives in
        let least = whole.schedule.in_lines.some_frames in
        let enough = c.enough in
        let some : 1 ≤ length c.given = omega (arith, least, enough) in
        let followed : IsDeliveryOf plan range.reach range.first (pos 0) arrivals ((packets ++ later) ++ []) = subst (λ l. IsDeliveryOf plan range.reach range.first (pos 0) arrivals l) (sym (append-nil (packets ++ later))) whole.followed in
        let first : KnowsFirst plan c.mid =
        knows_first one_reading refusing plan whole.schedule range.window range.reach range.first arrivals (packets ++ later) [] c.answers c.given c.mid followed c.steps some in
        let there : c.mid ≡ at.mid =
        (one_way new at.mid c.mid packets at.taken c.answers at.during c.given (subst (λ l. CollectorSteps new l at.taken at.during at.mid) (sym (all_before range packets items item last at none)) at.steps) steps).2 in
        record {
          all = up_to range.frame_limit (c.given ++ end);
          are = c.all range.frame_limit end after may gives;
          starts = starts_up_to range.frame_limit items item (c.given ++ end) room begins;
          first = counted c.mid first (ap (λ s. s.first) (there) ∙ (sym (ap (λ s. s.first) is) ∙ sym (given_first at.more at.state last at.gives)));
        }

    come_to : ComesTo range at.later at.mid at.state → (at.later ≡ [] → later ≡ []) → is_full range.frame_limit (length items) ≡ false → IsComeTo plan items item last
    come_to (inl (bytes, answer, is, takes)) all room = behind_packet bytes answer is takes
    come_to (inr (none, is)) all room = when_finished none is (all none) room

  -- ---- what they become

  becomes : (plan : Plan) (carry : Carry) (items : List CollectorItem) (item : CollectorItem) (last : CollectorState) (parts : List ItemOutput) → IsSchedule plan → CarryFits carry → IsComeTo plan items item last
      → ConvertsAll carry (first_of last) (items ++ item ∷ []) parts → IsOfSomeFrames (under carry plan) (text_of parts) × (lines_of parts ≡ [])
  becomes plan carry items item last parts is fits to converts =
      let (rest, same) = to.starts in
      let from : AreFrom plan 0 (items ++ item ∷ rest) = subst (AreFrom plan 0) same to.are.are in
      let place : IsPacketOf plan (0 + length items) item = at_place plan 0 items rest item from in
      let those : AreFrom plan 0 (items ++ item ∷ []) = first_of_all_packets plan 0 (items ++ item ∷ []) rest (subst (AreFrom plan 0) (sym (append_assoc items (item ∷ []) rest)) from) in
      let w : IsWritten (under carry plan) (0 + length (items ++ item ∷ [])) [] parts = all_written plan carry (first_of last) to.first 0 [] (items ++ item ∷ []) parts those refl converts in
      let count : 0 + length (items ++ item ∷ []) ≡ suc (length items) = omega (arith, length-append items (item ∷ [])) in
      let frames : AreOfFrames (under carry plan) 0 (suc (length items)) w.datagrams = subst (λ k. AreOfFrames (under carry plan) 0 k w.datagrams) count w.are in
      let (before, of_frame, are, (n, has, first), parted) = frames in
      let some : 1 ≤ n = some_of_frame plan carry (0 + length items) n place.packet is fits place.within place.is has in
      let front : IsPrefixOfCapture (under carry plan) whole_schedule (concat (before ++ of_frame)) = one_or_more (under carry plan) whole_schedule (length items) n (let less = place.within in let all = all_frames (under carry plan) in omega (arith, less, all)) some before of_frame are first in
      let within = place.within in (
        ((suc (length items), w.datagrams, omega (arith, within), frames, w.text), subst (IsPrefixOfCapture (under carry plan) whole_schedule) (sym (w.text ∙ ap concat parted)) front),
        w.lines,
      )

  pub halted_conversions : HaltedConversions
  halted_conversions plan carry range arrivals packets later items item last parts fits whole may at all room converts =
      becomes plan carry items item last parts whole.schedule fits (come_to plan range arrivals packets later items item last whole may at at.comes all room) converts
