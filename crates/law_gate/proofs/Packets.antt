-- What becomes of a delivery of packets.
use Rattle.std.proofs.Common.{ℕ, ◌≡◌, ◌<◌, ◌≤◌, ◌==◌, ◌⊎◌, inl, inr, if◌then◌else◌, Bool, true, false, cond, List, [], length, map, slice_get, Option, None, Some, refl, sym, subst, ◌∙◌, arith}
use Rattle.std.specs.Prelude.{ℤ, pos, negsuc, ◌+ℤ◌, slice_index_or}
use Rattle.std.specs.List.{range_with_len, flat_map, AllZip}
use Rattle.std.proofs.lemmas.Bool.{true≢false}
use Rattle.std.proofs.lemmas.Bool.Decides.{nat_tests}
use Rattle.std.proofs.lemmas.List.Folds.{flat_map-map}
use Rattle.dcp_af.proofs.Answered.{no_fault}
use Rattle.dcp_pft.specs.declared.carry.Carry.{Carry}
use Rattle.dcp_pft.specs.Limits.{most_packet}
use Rattle.dcp_pft.specs.Loss.{size, is_recoverable}
use Rattle.dcp_pft.specs.Carrying.{shape_under, datagram_count, CarriesPacket}
use Rattle.dcp_collect.specs.Runs.{CollectorItem, Packet, Lost}
use Rattle.dcp_collect.specs.Numbers.{end_of}
use Rattle.law_collect.specs.Delivery.{IsPacketWith, sequence_at, AreSent, IsDatagramAt, packet_at, got, newest_of, item_by, item}
use Rattle.law_collect.specs.Laws.{Collecting, OneReading}
use Rattle.law_collect.proofs.Brought.{all_brought}
use Rattle.law_collect.proofs.SentCuts.{packet_long}
use Rattle.dcp_sender.specs.Packets.{IsAny, sequence_of}
use Rattle.recv_reading.specs.First.{first_of}
use Rattle.law_delivery.proofs.Needed.{needed_of}
use Rattle.dcp_sender.specs.OverLinks.{is_large}
use Rattle.drm_gate.specs.Passing.{Outcome, Sent, Bad, Large, Missing, OutcomeOf, OutcomesOf, datagrams_of, sent_of}
use Rattle.law_gate.specs.Laws.{pairs_at, place_of, pairs_of, AreWithin, PassesDeliveries}
use Rattle.law_gate.proofs.Listed.{each_at, gather}
use Rattle.law_gate.proofs.FirstNumber.{IsSequenceOfFirst, first_known, sequence_same}

-- ---- one item

-- Of a packet that was lost nothing is sent.
pub lost_sends : (P : ℕ × ℕ → List ℕ → Type 0) (carry : Carry) (first q had total : ℕ) (fate : Outcome) → OutcomeOf carry first (Lost q had total) fate → AllZip P [] (datagrams_of fate)
lost_sends P carry first q had total (Sent datagrams) become = absurd become
lost_sends P carry first q had total Bad become = absurd become
lost_sends P carry first q had total Large become = absurd become
lost_sends P carry first q had total Missing become = tt

-- A packet that is an AF packet, and within the limit, is sent: each of its datagrams in its place.
pub packet_sends : (P : ℕ × ℕ → List ℕ → Type 0) (carry : Carry) (first q p n sequence : ℕ) (packet : List ℕ) (fate : Outcome) → IsAny packet → length packet ≤ most_packet carry → sequence_of first q ≡ sequence
    → datagram_count carry (length packet) ≡ n
    → ((datagrams : List (List ℕ)) (i : ℕ) → i < n → CarriesPacket carry sequence packet i (slice_index_or datagrams i []) → P (p, i) (slice_index_or datagrams i []))
    → OutcomeOf carry first (Packet q packet) fate → AllZip P (pairs_at p n) (datagrams_of fate)
packet_sends P carry first q p n sequence packet (Sent datagrams) any small same count each (is_any, within, are) =
    each_at P p n datagrams (are.many ∙ count)
    (λ i below. each datagrams i below (subst (λ (k : ℕ). CarriesPacket carry k packet i (slice_index_or datagrams i [])) same (are.each i [] (omega (arith, below, are.many, count)))))
packet_sends P carry first q p n sequence packet Bad any small same count each (fault, is) = absurd (no_fault any.0 fault packet any.1 is)
packet_sends P carry first q p n sequence packet Large any small same count each (is_any, large) =
    let more : most_packet carry < length packet = (let l : is_large carry (length packet) ≡ true = large in grind (arith, nat_tests)) in
    absurd (omega (arith, more, small))
packet_sends P carry first q p n sequence packet Missing any small same count each become = absurd become

-- ---- a delivery

module _ (old new : Carry) (sequence0 window : ℕ) (packets : List (List ℕ)) (first_frame : ℤ) (pairs : List (ℕ × ℕ)) (first : ℕ) (sent : AreSent old sequence0 packets) (within : AreWithin new packets)
    (known : (pairs ≡ []) ⊎ IsSequenceOfFirst sequence0 first_frame first) where
  abbrev Sends : ℕ × ℕ → List ℕ → Type 0
  Sends = IsDatagramAt new sequence0 packets

  -- a packet that can be made of what was got has the sequence number of its place
  place_known : (q p : ℕ) (packet : List ℕ) → IsPacketWith old (sequence_at sequence0 p) packet → (first_frame +ℤ pos q) ≡ pos p → is_recoverable (shape_under old (length packet)) (got window first_frame pairs q) ≡ true
      → sequence_of first q ≡ sequence_at sequence0 p
  place_known q p packet is at enough =
      elim known [
        | inl none ↦
            let long = packet_long is.af packet is.is_af in
            let needed : is_recoverable (shape_under old (length packet)) (λ i. false) ≡ false = needed_of old (length packet) sent.carried (omega (arith, long)) is.small in
            let of_none : is_recoverable (shape_under old (length packet)) (got window first_frame [] q) ≡ true = subst (λ (l : List (ℕ × ℕ)). is_recoverable (shape_under old (length packet)) (got window first_frame l q) ≡ true) none enough in
            absurd (true≢false (sym of_none ∙ needed))
        | inr of_first ↦ sequence_same sequence0 first q p first_frame of_first at
      ]

  by_kept : (q p : ℕ) (packet : List ℕ) (had total : ℕ) (fate : Outcome) → slice_get packets p ≡ Some packet → (first_frame +ℤ pos q) ≡ pos p → (b : Bool) → is_recoverable (shape_under old (length packet)) (got window first_frame pairs q) ≡ b
      → OutcomeOf new first (cond b (Packet q packet) (Lost q had total)) fate → AllZip Sends (pairs_of new first_frame (cond b (Packet q packet) (Lost q had total))) (datagrams_of fate)
  by_kept q p packet had total fate there at true enough become =
      let is = sent.each p packet there in
      let all : AllZip Sends (pairs_at p (datagram_count new (length packet))) (datagrams_of fate) =
      packet_sends Sends new first q p (datagram_count new (length packet)) (sequence_at sequence0 p) packet fate (is.af, is.is_af) (within p packet there) (place_known q p packet is at enough) refl
      (λ datagrams i below carries. record { packet = packet; at = there; within = below; carries = carries }) become in
      subst (λ (z : ℤ). AllZip Sends (pairs_at (place_of z) (datagram_count new (length packet))) (datagrams_of fate)) (sym at) all
  by_kept q p packet had total fate there at false enough become = lost_sends Sends new first q had total fate become

  by_place : (q : ℕ) (fate : Outcome) (z : ℤ) (o : Option (List ℕ)) → (first_frame +ℤ pos q) ≡ z → packet_at packets z ≡ o → OutcomeOf new first (item_by old o q (got window first_frame pairs q)) fate
      → AllZip Sends (pairs_of new first_frame (item_by old o q (got window first_frame pairs q))) (datagrams_of fate)
  by_place q fate z None at there become = lost_sends Sends new first q 0 0 fate become
  by_place q fate (pos p) (Some packet) at there become =
      let shape = shape_under old (length packet) in
      let had : ℕ = size shape.count (got window first_frame pairs q) in
      by_kept q p packet had (if had == 0 then 0 else shape.count) fate there at (is_recoverable shape (got window first_frame pairs q)) refl become
  by_place q fate (negsuc n) (Some packet) at there become = absurd (let none : None ≡ Some packet = there in cc)

  pub each_sends : (q : ℕ) (fate : Outcome) → OutcomeOf new first (item old packets window first_frame pairs q) fate → AllZip Sends (pairs_of new first_frame (item old packets window first_frame pairs q)) (datagrams_of fate)
  each_sends q fate become = by_place q fate (first_frame +ℤ pos q) (packet_at packets (first_frame +ℤ pos q)) refl refl become

-- ---- the law

pub passes_deliveries : Collecting → OneReading → PassesDeliveries
passes_deliveries collecting one_reading old new sequence0 packets rules first_frame pairs datagrams fates some fits within heard onward =
    let law = collecting old sequence0 rules.window rules.reach packets rules.first rules.frames first_frame pairs datagrams onward.taken onward.items some heard onward.run in
    let first : ℕ = first_of onward.run.mid in
    let of : ℕ → CollectorItem = item old packets rules.window first_frame pairs in
    let n : ℕ = end_of rules.frames (newest_of first_frame None pairs) in
    let known = first_known one_reading old sequence0 rules.window rules.reach packets rules.first first_frame pairs datagrams onward.taken onward.run.during onward.run.mid
    (all_brought old sequence0 packets heard.sent pairs datagrams heard.delivered) heard.is_first onward.run.steps in
    let become : OutcomesOf new first (map of (range_with_len 0 n)) fates = subst (λ (l : List CollectorItem). OutcomesOf new first l fates) law.0 onward.become in
    let all : AllZip (IsDatagramAt new sequence0 packets) (flat_map (λ q. pairs_of new first_frame (of q)) (range_with_len 0 n)) (sent_of fates) =
    gather (IsDatagramAt new sequence0 packets) new first of (λ q. pairs_of new first_frame (of q)) 0 n fates become (each_sends old new sequence0 rules.window packets first_frame pairs first heard.sent within known) in
    record {
      are_sent = record {
        few = heard.sent.few;
        carried = fits;
        each = λ p packet there. let is = heard.sent.each p packet there in record { af = is.af; is_af = is.is_af; seq = is.seq; small = within p packet there };
      };
      delivered = subst (λ (l : List (ℕ × ℕ)). AllZip (IsDatagramAt new sequence0 packets) l (sent_of fates)) (sym (flat_map-map (pairs_of new first_frame) of (range_with_len 0 n))) all;
    }
