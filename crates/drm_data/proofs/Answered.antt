-- One answer for each byte list: a packet, or its first fault.
use Rattle.std.proofs.Common.{◌≡◌, ℕ, ◌-◌, ◌/◌, ◌%◌, ◌≤◌, Bool, true, List, length, get_or, Result, Ok, Err, sym, ap, ap₂, subst, ◌∙◌, arith}
use Rattle.std.specs.Prelude.{IsOkAnd}
use Rattle.std.specs.Borrow.{Bor}
use Rattle.std.proofs.lemmas.Bool.{ltb-true}
use Rattle.std.proofs.lemmas.List.{length-take-le, get_or-take}
use Rattle.drm_bits.proofs.Checks.{one_check}
use Rattle.drm_bits.specs.Crc.{IsCheckOf}
use Rattle.drm_data.specs.declared.fault.DataFault.{DataFault}
use Rattle.drm_data.specs.declared.fault.DataFault.TheVariants.{Length, Crc, Useful}
use Rattle.drm_data.specs.declared.packet.DataPacket.{DataPacket}
use Rattle.drm_data.specs.declared.packet.DataHead.{DataHead}
use Rattle.drm_data.specs.PacketFields.{PacketFields, is_padded, IsPacket}
use Rattle.drm_data.specs.Faults.{checked_bytes, check_value, says_padded, HasCheck, IsFault}
use Rattle.drm_data.specs.Reading.{packet_of, flag_at, useful_in, IsHeadOf, FindsUseful}
use Rattle.drm_data.proofs.Spellings.{IsBytes, packet_at, placed, head_fields, is_packet_at, found_at}

pub one_fault : (d : ℕ) (f g : DataFault) (bytes : List ℕ) → IsFault d f bytes → IsFault d g bytes → f ≡ g
one_fault d (Length s) (Length t) bytes h k = ap Length (h.0 ∙ sym k.0)
one_fault d (Length s) (Crc t c) bytes h k = absurd (h.1 (h.0 ∙ k.0))
one_fault d (Length s) (Useful n) bytes h k = absurd (h.1 (h.0 ∙ k.0.0))
one_fault d (Crc t c) (Length s) bytes h k = absurd (k.1 (k.0 ∙ h.0))
one_fault d (Crc s c) (Crc t e) bytes h k = ap₂ Crc (h.1 ∙ sym k.1) (one_check (checked_bytes bytes) c e h.2 k.2)
one_fault d (Crc s c) (Useful n) bytes h k = absurd (h.3 (h.1 ∙ one_check (checked_bytes bytes) (check_value bytes) c k.0.1 h.2))
one_fault d (Useful n) (Length s) bytes h k = absurd (k.1 (k.0 ∙ h.0.0))
one_fault d (Useful n) (Crc s c) bytes h k = absurd (k.3 (k.1 ∙ one_check (checked_bytes bytes) (check_value bytes) c h.0.1 k.2))
one_fault d (Useful n) (Useful m) bytes h k = ap Useful (h.2 ∙ sym k.2)

-- a packet has no fault
pub no_fault : (d : ℕ) (p : PacketFields) (f : DataFault) (bytes : List ℕ) → IsPacket d p bytes → IsFault d f bytes → ⊥
no_fault d p (Length s) bytes is h = h.1 (h.0 ∙ (placed d p is.0 is.1 bytes is.2).size)
no_fault d p (Crc s c) bytes is h =
    let at = placed d p is.0 is.1 bytes is.2 in
    let P : List ℕ → Type 0 = λ l. IsCheckOf l is.1 in
    let right : IsCheckOf (checked_bytes bytes) is.1 = subst P (sym at.front_is) is.2.checked in
    h.3 (h.1 ∙ (at.check_is ∙ one_check (checked_bytes bytes) is.1 c right h.2))
no_fault d p (Useful n) bytes is h =
    let at = placed d p is.0 is.1 bytes is.2 in
    let fields = head_fields d p is.0 is.1 bytes is.2 in
    let padded : is_padded d p ≡ true = sym fields.padded_is ∙ h.1 in
    absurd (omega (arith, at.count_is padded, h.2, h.3, ltb-true (length p.useful) d padded))

-- bytes are one packet
pub one_packet : (d : ℕ) (p q : PacketFields) (bytes : List ℕ) → IsPacket d p bytes → IsPacket d q bytes → p ≡ q
one_packet d p q bytes h k = sym (is_packet_at d p bytes h) ∙ is_packet_at d q bytes k

-- what a fault that is handed on excludes
pub fault_only : (d : ℕ) (r : Result DataPacket DataFault) (e f : DataFault) (bytes : List ℕ) → r ≡ Err e → e ≡ f → IsFault d f bytes → (p : PacketFields) → IsPacket d p bytes → IsOkAnd r (λ given. packet_of given ≡ p)
fault_only d r e f bytes is same h p packet = absurd (no_fault d p f bytes packet h)

pub fault_is : (d : ℕ) (r : Result DataPacket DataFault) (e f : DataFault) (bytes : List ℕ) → r ≡ Err e → e ≡ f → IsFault d f bytes → (g : DataFault) → IsFault d g bytes → r ≡ Err g
fault_is d r e f bytes is same h g k = is ∙ ap (λ (x : DataFault). Err x) (same ∙ one_fault d f g bytes h k)

-- the bytes before the check value, by their places in all bytes
pub record IsFront (d : ℕ) (bytes front : List ℕ) : Type 0 where
  pub field : length front - 1 ≡ d
  pub head : get_or front 0 0 ≡ get_or bytes 0 0
  pub count : get_or front 1 0 ≡ get_or bytes 1 0

pub front_at : (d : ℕ) (bytes front : List ℕ) → 1 ≤ d → HasCheck d bytes → front ≡ checked_bytes bytes → IsFront d bytes front
front_at d bytes front some whole is =
    let size : length (checked_bytes bytes) ≡ length bytes - 2 = length-take-le (length bytes - 2) bytes (omega arith) in
    record {
      field = omega (arith, ap length is, size, whole.0);
      head = ap (λ l. get_or l 0 0) is ∙ get_or-take (length bytes - 2) bytes 0 0 (omega (arith, whole.0));
      count = ap (λ l. get_or l 1 0) is ∙ get_or-take (length bytes - 2) bytes 1 0 (omega (arith, whole.0, some));
    }

-- a count that is too great
pub useful_fault : (d : ℕ) (bytes front : List ℕ) (padded : Bool) (f : DataFault) → HasCheck d bytes → IsFront d bytes front → padded ≡ says_padded bytes
    → FindsUseful (length front - 1) padded front (Err f) → IsFault d f bytes
useful_fault d bytes front padded (Useful n) whole at is h = (whole, sym is ∙ h.0, h.1 ∙ at.count, omega (arith, at.field, h.2))
useful_fault d bytes front padded (Length n) whole at is h = absurd h
useful_fault d bytes front padded (Crc s n) whole at is h = absurd h

-- the packet with these parts is the one at its places
given_is : (bytes : List ℕ) (first last : Bool) (id continuity : ℕ) (useful : List ℕ)
    → first ≡ (packet_at bytes).first → last ≡ (packet_at bytes).last → id ≡ (packet_at bytes).id → continuity ≡ (packet_at bytes).continuity → useful ≡ (packet_at bytes).useful
    → record { first = first; last = last; id = id; continuity = continuity; useful = useful } ≡ packet_at bytes
given_is bytes first last id continuity useful is_first is_last is_id is_continuity is_useful =
    let p : PacketFields = packet_at bytes in
    ap (λ b. record { first = b; last = last; id = id; continuity = continuity; useful = useful }) is_first
    ∙ (ap (λ b. record { first = p.first; last = b; id = id; continuity = continuity; useful = useful }) is_last
    ∙ (ap (λ n. record { first = p.first; last = p.last; id = n; continuity = continuity; useful = useful }) is_id
    ∙ (ap (λ n. record { first = p.first; last = p.last; id = p.id; continuity = n; useful = useful }) is_continuity
    ∙ ap (λ l. record { first = p.first; last = p.last; id = p.id; continuity = p.continuity; useful = l }) is_useful)))

-- the packet that is given, where nothing is refused
abbrev pub given : DataHead → Bor (List ℕ) → PacketFields
given h useful = record { first = h.first; last = h.last; id = h.id; continuity = h.continuity; useful = useful.now }

pub given_at : (d : ℕ) (bytes front : List ℕ) (h : DataHead) (useful : Bor (List ℕ)) → 1 ≤ d → HasCheck d bytes → front ≡ checked_bytes bytes → IsHeadOf h (get_or front 0 0)
    → FindsUseful (length front - 1) h.padded front (Ok useful) → given h useful ≡ packet_at bytes
given_at d bytes front h useful some whole is head finds =
    let byte = (front_at d bytes front some whole is).head in
    let padded : h.padded ≡ says_padded bytes = head.padded ∙ ap (flag_at 8) byte in
    given_is bytes h.first h.last h.id h.continuity useful.now (head.first ∙ ap (flag_at 128) byte) (head.last ∙ ap (flag_at 64) byte) (head.id ∙ ap (λ n. n / 16 % 4) byte)
    (head.continuity ∙ ap (λ n. n % 8) byte) (finds.0 ∙ (ap (λ b. useful_in b front) padded ∙ ap (useful_in (says_padded bytes)) is))

pub found : (d : ℕ) (bytes front : List ℕ) (h : DataHead) (useful : Bor (List ℕ)) → 1 ≤ d → IsBytes bytes → HasCheck d bytes → front ≡ checked_bytes bytes → IsHeadOf h (get_or front 0 0)
    → FindsUseful (length front - 1) h.padded front (Ok useful) → IsPacket d (given h useful) bytes
found d bytes front h useful some fits whole is head finds =
    let at = front_at d bytes front some whole is in
    let padded : h.padded ≡ says_padded bytes = head.padded ∙ ap (flag_at 8) at.head in
    let P : PacketFields → Type 0 = λ p. IsPacket d p bytes in
    subst P (sym (given_at d bytes front h useful some whole is head finds)) (found_at d bytes some fits whole (λ says. omega (arith, at.field, at.count, finds.1 (padded ∙ says))))
