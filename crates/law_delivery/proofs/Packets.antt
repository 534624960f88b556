-- The packets of which a delivery has datagrams, and others in the places of those of which it has none.
use Rattle.std.proofs.Common.{ℕ, ◌≡◌, ◌⊎◌, inl, inr, ◌+◌, ◌*◌, ◌%◌, ◌^◌, ◌<◌, ◌||◌, eqb, Bool, true, false, List, [], ◌∷◌, ◌++◌, map, length, slice_get, Some, refl, sym, ap, subst, ◌∙◌, arith}
use Rattle.std.specs.Int.{w16, to_be_bytes}
use Rattle.std.specs.List.{list_any, range_with_len}
use Rattle.std.proofs.lemmas.Bool.{eqb-true, eq-eqb, true≢false}
use Rattle.std.proofs.lemmas.List.FromFn.{length-map-range_with_len, get_or-map-range_with_len}
use Rattle.std.proofs.lemmas.Option.{slice_get-get_or, slice_get_within}
use Rattle.dcp_af.specs.Packet.{AfPacket, IsAf, head}
use Rattle.law_collect.specs.Delivery.{IsPacketWith, sequence_at, AreSent as AllSent, IsDatagramAt as IsDatagramOf, AreDelivered}
use Rattle.dcp_pft.proofs.Carried.{limit_is}
use Rattle.drm_schedule.specs.declared.plan.Plan.{Plan}
use Rattle.drm_schedule.specs.Valid.{IsSchedule}
use Rattle.drm_timeline.specs.Numbers.{frame_count, sequence_number}
use Rattle.drm_server.specs.Frames.{IsPacketAt}
use Rattle.drm_server.proofs.OnePacket.{one_packet}
use Rattle.law_delivery.specs.Sent.{IsSent, AreSent}
use Rattle.law_delivery.proofs.Configurations.{size_fits}
use Rattle.law_delivery.proofs.Lengths.{af_long, packet_long}

-- what a function gives for each number, at its place
pub at_number : {X : Type 0} (f : ℕ → X) (n k : ℕ) → k < n → slice_get (map f (range_with_len 0 n)) k ≡ Some (f k)
at_number f n k lt =
    slice_get-get_or (map f (range_with_len 0 n)) k (f k) (omega (arith, lt, length-map-range_with_len f 0 n))
    ∙ ap Some (get_or-map-range_with_len f 0 n k k (f k) lt (omega arith))

-- some datagram of the packet is among the pairs
abbrev pub has : ℕ → List (ℕ × ℕ) → Bool
has p pairs = list_any (λ pair. eqb pair.0 p) pairs

-- an AF packet with the number of a packet, without a payload and a check value
abbrev pub filler_af : Plan → ℕ → AfPacket
filler_af plan p = record { seq = sequence_number plan p; checked = false; minor = 0; payload = [] }

abbrev pub filler : Plan → ℕ → List ℕ
filler plan p = head (filler_af plan p) ++ [] ++ to_be_bytes w16 0

pub filler_is : (plan : Plan) (p : ℕ) → IsAf (filler_af plan p) (filler plan p)
filler_is plan p = (
  0,
  record { fits = record { seq = omega arith; minor = omega arith; payload = omega arith }; narrow = omega arith; spelled = refl },
  λ checked. absurd (true≢false (sym checked)),
)

-- The packet at a place is the schedule's, or there is no datagram of it, and it is a filler.
abbrev pub IsChosen : Plan → List (ℕ × ℕ) → ℕ → List ℕ → Type 0
IsChosen plan pairs p packet = IsPacketAt plan p packet ⊎ ((has p pairs ≡ false) × (packet ≡ filler plan p))

none_more : (p : ℕ) (pair : ℕ × ℕ) (pairs : List (ℕ × ℕ)) → eqb pair.0 p ≡ false → has p pairs ≡ false → has p (pair ∷ pairs) ≡ false
none_more p pair pairs here rest = ap (λ (b : Bool). b || has p pairs) here ∙ rest

choose : (plan : Plan) (p : ℕ) (pairs : List (ℕ × ℕ)) (datagrams : List (List ℕ)) → AreSent plan pairs datagrams → (packet : List ℕ) × IsChosen plan pairs p packet
choose plan p [] datagrams are = (filler plan p, inr (refl, refl))
choose plan p (pair ∷ pairs) [] are = absurd are
choose plan p (pair ∷ pairs) (datagram ∷ datagrams) are = by (eqb pair.0 p) refl (choose plan p pairs datagrams are.1)
  where
    by : (b : Bool) → eqb pair.0 p ≡ b → (packet : List ℕ) × IsChosen plan pairs p packet → (packet : List ℕ) × IsChosen plan (pair ∷ pairs) p packet
    by true here rest = (are.0.is.packet, inl (subst (λ (t : ℕ). IsPacketAt plan t are.0.is.packet) (eqb-true pair.0 p here) are.0.is.is_packet))
    by false other (packet, inl is) = (packet, inl is)
    by false other (packet, inr none) = (packet, inr (none_more p pair pairs other none.0, none.1))

-- A packet for each frame of the schedule.
pub record ArePackets (plan : Plan) (pairs : List (ℕ × ℕ)) (packets : List (List ℕ)) : Type 0 where
  pub all : length packets ≡ frame_count plan
  pub each : (p : ℕ) → p < frame_count plan → (packet : List ℕ) × (slice_get packets p ≡ Some packet) × IsChosen plan pairs p packet

pub some_packets : (plan : Plan) (pairs : List (ℕ × ℕ)) (datagrams : List (List ℕ)) → AreSent plan pairs datagrams → (packets : List (List ℕ)) × ArePackets plan pairs packets
some_packets plan pairs datagrams sent =
    let chosen = λ (p : ℕ). choose plan p pairs datagrams sent in
    let packet : ℕ → List ℕ = λ p. (chosen p).0 in (
      map packet (range_with_len 0 (frame_count plan)),
      record {
        all = length-map-range_with_len packet 0 (frame_count plan);
        each = λ p lt. (packet p, at_number packet (frame_count plan) p lt, (chosen p).1);
      },
    )

one_there : (a b : List ℕ) → Some a ≡ Some b → a ≡ b
one_there a b same = cc

module _ (plan : Plan) (is : IsSchedule plan) (pairs : List (ℕ × ℕ)) (packets : List (List ℕ)) (are : ArePackets plan pairs packets) where
  -- what stands at a place was chosen for it
  pub chosen_at : (p : ℕ) (packet : List ℕ) → slice_get packets p ≡ Some packet → (p < frame_count plan) × IsChosen plan pairs p packet
  chosen_at p packet at =
      let within : p < length packets = slice_get_within packets p packet at in
      let below : p < frame_count plan = omega (arith, within, are.all) in
      let there = are.each p below in
      (below, subst (λ (l : List ℕ). IsChosen plan pairs p l) (one_there there.0 packet (sym there.1 ∙ at)) there.2)

  packet_with : (p : ℕ) (packet : List ℕ) → p < frame_count plan → IsChosen plan pairs p packet → IsPacketWith plan.carry (sequence_at plan.seq p) packet
  packet_with p packet below (inl at) =
      let fits = size_fits plan is p in
      record {
        af = record { seq = sequence_number plan p; checked = true; minor = 0; payload = at.payload };
        is_af = at.is;
        seq = refl;
        small = omega (arith, packet_long plan p packet is below at, fits.1);
      }
  packet_with p packet below (inr (none, same)) =
      let long : length packet ≡ 12 = ap length same ∙ af_long (filler_af plan p) (filler plan p) (filler_is plan p) in
      record {
        af = filler_af plan p;
        is_af = subst (λ (l : List ℕ). IsAf (filler_af plan p) l) (sym same) (filler_is plan p);
        seq = refl;
        small = omega (arith, long, (limit_is plan.carry).0);
      }

  -- they are packets that can be sent
  pub all_sent : AllSent plan.carry plan.seq packets
  all_sent = record {
    few = omega (arith, are.all, is.in_lines.few_frames);
    carried = is.in_lines.carry_fits;
    each = λ p packet at. let here = chosen_at p packet at in packet_with p packet here.0 here.1;
  }

  datagram_of : (pair : ℕ × ℕ) (datagram : List ℕ) → has pair.0 pairs ≡ true → IsSent plan pair datagram → IsDatagramOf plan.carry plan.seq packets pair datagram
  datagram_of pair datagram there sent = by (are.each pair.0 sent.within)
    where
      by : (packet : List ℕ) × (slice_get packets pair.0 ≡ Some packet) × IsChosen plan pairs pair.0 packet → IsDatagramOf plan.carry plan.seq packets pair datagram
      by (packet, at, inl chosen) =
          let same : packet ≡ sent.is.packet = one_packet plan pair.0 packet sent.is.packet chosen sent.is.is_packet in
          record {
            packet = sent.is.packet;
            at = at ∙ ap (λ (l : List ℕ). Some l) same;
            within = sent.is.within;
            carries = sent.is.is;
          }
      by (packet, at, inr none) = absurd (true≢false (sym there ∙ none.0))

  delivered_of : (some : List (ℕ × ℕ)) (datagrams : List (List ℕ)) → ((p : ℕ) → has p some ≡ true → has p pairs ≡ true) → AreSent plan some datagrams
      → AreDelivered plan.carry plan.seq packets some datagrams
  delivered_of [] [] sub sent = tt
  delivered_of [] (datagram ∷ datagrams) sub sent = absurd sent
  delivered_of (pair ∷ some) [] sub sent = absurd sent
  delivered_of (pair ∷ some) (datagram ∷ datagrams) sub sent = (
    datagram_of pair datagram (sub pair.0 (ap (λ (b : Bool). b || has pair.0 some) (eq-eqb pair.0 pair.0 refl))) sent.0,
    delivered_of some datagrams (λ p there. sub p (either (eqb pair.0 p) (has p some) there)) sent.1,
  )
    where
      either : (a b : Bool) → b ≡ true → (a || b) ≡ true
      either true b there = refl
      either false b there = there

  -- and the delivery is one of them
  pub delivered : (datagrams : List (List ℕ)) → AreSent plan pairs datagrams → AreDelivered plan.carry plan.seq packets pairs datagrams
  delivered datagrams sent = delivered_of pairs datagrams (λ p there. there) sent
