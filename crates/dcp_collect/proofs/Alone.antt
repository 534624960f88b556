-- A packet that came as one datagram.
use Rattle.std.proofs.Common.{ℕ, ◌≡◌, inl, inr, Bool, true, eqb, List, [], ◌∷◌, take, refl, sym, subst, ap, ◌∙◌}
use Rattle.std.specs.List.{AllByRecursion}
use Rattle.std.proofs.lemmas.Bool.{false≢true}
use Rattle.std.proofs.lemmas.List.{append-nil}
use Rattle.dcp_af.specs.Packet.{AfPacket, IsAf}
use Rattle.dcp_collect.specs.declared.made.PacketOutcome.TheVariants.{Made}
use Rattle.dcp_collect.specs.Fragments.{NumberedFragment, of_packet}
use Rattle.dcp_collect.specs.Decoding.{joined}
use Rattle.dcp_collect.specs.Reading.{Incoming, IsIncoming}
use Rattle.dcp_collect.specs.Made.{IsMade}
use Rattle.dcp_collect.specs.WholePackets.{IsAlone}
use Rattle.dcp_collect.proofs.Lists.{all_filter, all_weaker}
use Rattle.dcp_collect.proofs.Decoded.{decoded_plain}

-- what was read says that it is whole only where it is an AF packet
pub read_alone : (n : ℕ) (i : Incoming) (bytes : List ℕ) → IsIncoming i bytes → IsAlone (record { number = n; head = i.head; payload = i.payload })
read_alone n i bytes (inl (af, is, small, e)) =
    subst (λ (x : Incoming). IsAlone (record { number = n; head = x.head; payload = x.payload })) (sym e) (λ whole. (refl, refl, (af, is)))
read_alone n i bytes (inr (f, is, e)) =
    subst (λ (x : Incoming). IsAlone (record { number = n; head = x.head; payload = x.payload })) (sym e) (λ whole. absurd (false≢true whole))

-- and what is made of it is that packet
af_of : (those : List NumberedFragment) (len : ℕ) (whole : Bool) (buffer : List ℕ) → AllByRecursion IsAlone those → IsMade those (Made len whole) buffer
    → whole ≡ true → (af : AfPacket) × IsAf af (take len buffer)
af_of [] len whole buffer all made is = absurd (false≢true made.0)
af_of (f ∷ fs) len whole buffer all made is =
    let p = all.0 (sym made.3 ∙ is) in
    let one = made.4 p.0 in
    let plain = decoded_plain f fs (take len buffer) p.1 made.2 in
    let bytes : take len buffer ≡ f.payload = plain ∙ ap joined one.1 ∙ append-nil one.0.payload ∙ sym (ap payload_of one.1) in
    (p.2.0, subst (IsAf p.2.0) (sym bytes) p.2.1)
  where
    payload_of : List NumberedFragment → List ℕ
    payload_of [] = []
    payload_of (g ∷ gs) = g.payload

pub af_given : (kept : List NumberedFragment) (q len : ℕ) (whole : Bool) (buffer : List ℕ) → AllByRecursion IsAlone kept
    → IsMade (of_packet q kept) (Made len whole) buffer → whole ≡ true → (af : AfPacket) × IsAf af (take len buffer)
af_given kept q len whole buffer all =
    af_of (of_packet q kept) len whole buffer
    (all_weaker _ IsAlone (λ f p. p.0) (of_packet q kept) (all_filter IsAlone (λ f. eqb f.number q) kept all))
