-- One answer for each byte list: a packet, or its first fault.
use Rattle.std.proofs.Common.{◌≡◌, ℕ, ◌≤◌, Bool, true, List, ◌++◌, length, refl, sym, subst, ap, ap₂, ◌∙◌, ◌+◌, ◌-◌, take, drop, Result, Err, arith}
use Rattle.std.specs.Prelude.{IsOkAnd}
use Rattle.std.specs.Int.{w16, from_be_bytes}
use Rattle.std.proofs.lemmas.List.{drop-take, take-take}
use Rattle.drm_bits.proofs.Checks.{one_check}
use Rattle.dcp_af.specs.declared.fault.AfFault.{AfFault}
use Rattle.dcp_af.specs.declared.fault.AfFault.TheVariants.{Sync, HeadCut, Length, Version, Kind, Crc}
use Rattle.dcp_af.specs.declared.read.Af.{Af}
use Rattle.drm_bits.specs.Crc.{IsCheckOf}
use Rattle.dcp_af.specs.Packet.{AfPacket, head, EndsWith, IsAf}
use Rattle.dcp_af.specs.Faults.{sequence_number, minor, payload, checked_bytes, check_value, is_checked, HasKind, IsFault}
use Rattle.dcp_af.specs.Reading.{packet_of, ComparesCheckValue}
use Rattle.dcp_af.proofs.Spellings.{IsBytes, packet_at, placed, spelled_at}

pub one_fault : (f g : AfFault) (bytes : List ℕ) → IsFault f bytes → IsFault g bytes → f ≡ g
one_fault Sync Sync bytes h k = refl
one_fault Sync (HeadCut n') bytes h k = absurd (h k.0)
one_fault Sync (Length s' d') bytes h k = absurd (h k.0.0)
one_fault Sync (Version m') bytes h k = absurd (h k.0.0.0)
one_fault Sync (Kind t') bytes h k = absurd (h k.0.0.0.0)
one_fault Sync (Crc s' c') bytes h k = absurd (h k.0.0.0.0.0)
one_fault (HeadCut n) Sync bytes h k = absurd (k h.0)
one_fault (HeadCut n) (HeadCut n') bytes h k = ap HeadCut (h.1 ∙ sym k.1)
one_fault (HeadCut n) (Length s' d') bytes h k = absurd (omega (arith, h.1, h.2, k.0.1))
one_fault (HeadCut n) (Version m') bytes h k = absurd (omega (arith, h.1, h.2, k.0.0.1))
one_fault (HeadCut n) (Kind t') bytes h k = absurd (omega (arith, h.1, h.2, k.0.0.0.1))
one_fault (HeadCut n) (Crc s' c') bytes h k = absurd (omega (arith, h.1, h.2, k.0.0.0.0.1))
one_fault (Length s d) Sync bytes h k = absurd (k h.0.0)
one_fault (Length s d) (HeadCut n') bytes h k = absurd (omega (arith, k.1, k.2, h.0.1))
one_fault (Length s d) (Length s' d') bytes h k = ap₂ Length (h.1 ∙ sym k.1) (h.2 ∙ sym k.2)
one_fault (Length s d) (Version m') bytes h k = absurd (h.3 (h.1 ∙ k.0.1 ∙ sym h.2))
one_fault (Length s d) (Kind t') bytes h k = absurd (h.3 (h.1 ∙ k.0.0.1 ∙ sym h.2))
one_fault (Length s d) (Crc s' c') bytes h k = absurd (h.3 (h.1 ∙ k.0.0.0.1 ∙ sym h.2))
one_fault (Version m) Sync bytes h k = absurd (k h.0.0.0)
one_fault (Version m) (HeadCut n') bytes h k = absurd (omega (arith, k.1, k.2, h.0.0.1))
one_fault (Version m) (Length s' d') bytes h k = absurd (k.3 (k.1 ∙ h.0.1 ∙ sym k.2))
one_fault (Version m) (Version m') bytes h k = ap Version (h.1 ∙ sym k.1)
one_fault (Version m) (Kind t') bytes h k = absurd (h.2 (h.1 ∙ k.0.1))
one_fault (Version m) (Crc s' c') bytes h k = absurd (h.2 (h.1 ∙ k.0.0.1))
one_fault (Kind t) Sync bytes h k = absurd (k h.0.0.0.0)
one_fault (Kind t) (HeadCut n') bytes h k = absurd (omega (arith, k.1, k.2, h.0.0.0.1))
one_fault (Kind t) (Length s' d') bytes h k = absurd (k.3 (k.1 ∙ h.0.0.1 ∙ sym k.2))
one_fault (Kind t) (Version m') bytes h k = absurd (k.2 (k.1 ∙ h.0.1))
one_fault (Kind t) (Kind t') bytes h k = ap Kind (h.1 ∙ sym k.1)
one_fault (Kind t) (Crc s' c') bytes h k = absurd (h.2 (h.1 ∙ k.0.1))
one_fault (Crc s c) Sync bytes h k = absurd (k h.0.0.0.0.0)
one_fault (Crc s c) (HeadCut n') bytes h k = absurd (omega (arith, k.1, k.2, h.0.0.0.0.1))
one_fault (Crc s c) (Length s' d') bytes h k = absurd (k.3 (k.1 ∙ h.0.0.0.1 ∙ sym k.2))
one_fault (Crc s c) (Version m') bytes h k = absurd (k.2 (k.1 ∙ h.0.0.1))
one_fault (Crc s c) (Kind t') bytes h k = absurd (k.2 (k.1 ∙ h.0.1))
one_fault (Crc s c) (Crc s' c') bytes h k = ap₂ Crc (h.2 ∙ sym k.2) (one_check (checked_bytes bytes) c c' h.3 k.3)

-- the check value of a packet where it counts
right_check : (p : AfPacket) (bytes : List ℕ) (check : ℕ) → EndsWith p check bytes → (p.checked ≡ true → IsCheckOf (head p ++ p.payload) check) → is_checked bytes ≡ true → IsCheckOf (checked_bytes bytes) (check_value bytes)
right_check p bytes check e right counts =
    let at = placed p check bytes e in
    let is = right (sym at.checked ∙ counts) in
    let P : List ℕ → Type 0 = λ l. IsCheckOf l check in
    let Q : ℕ → Type 0 = λ n. IsCheckOf (checked_bytes bytes) n in
    subst Q (sym at.last) (subst P (sym at.front) is)

-- a packet has no fault
pub no_fault : (p : AfPacket) (f : AfFault) (bytes : List ℕ) → IsAf p bytes → IsFault f bytes → ⊥
no_fault p Sync bytes is h = h (placed p is.0 bytes is.1).kind.0.0.0.0
no_fault p (HeadCut n) bytes is h = absurd (omega (arith, h.1, h.2, (placed p is.0 bytes is.1).kind.0.0.0.1))
no_fault p (Length s d) bytes is h = h.3 (h.1 ∙ (placed p is.0 bytes is.1).kind.0.0.1 ∙ sym h.2)
no_fault p (Version m) bytes is h = h.2 (h.1 ∙ (placed p is.0 bytes is.1).kind.0.1)
no_fault p (Kind t) bytes is h = h.2 (h.1 ∙ (placed p is.0 bytes is.1).kind.1)
no_fault p (Crc s c) bytes is h =
    h.4 (h.2 ∙ one_check (checked_bytes bytes) (check_value bytes) c (right_check p bytes is.0 is.1 is.2 h.1) h.3)

-- the packet that stands at its places
pub is_packet_at : (p : AfPacket) (bytes : List ℕ) → IsAf p bytes → packet_at bytes ≡ p
is_packet_at p bytes is =
    let at = placed p is.0 bytes is.1 in
    ap (λ (n : ℕ). record { seq = n; checked = is_checked bytes; minor = (packet_at bytes).minor; payload = (packet_at bytes).payload }) at.seq
    ∙ (ap (λ (b : Bool). record { seq = p.seq; checked = b; minor = (packet_at bytes).minor; payload = (packet_at bytes).payload }) at.checked
    ∙ (ap (λ (n : ℕ). record { seq = p.seq; checked = p.checked; minor = n; payload = (packet_at bytes).payload }) at.minor
    ∙ ap (λ (l : List ℕ). record { seq = p.seq; checked = p.checked; minor = p.minor; payload = l }) at.payload))

-- a packet, where nothing is refused
pub found_at : (bytes : List ℕ) → IsBytes bytes → HasKind bytes → (is_checked bytes ≡ true → IsCheckOf (checked_bytes bytes) (check_value bytes)) → IsAf (packet_at bytes) bytes
found_at bytes fits is right =
    let e = spelled_at bytes fits is in
    let at = placed (packet_at bytes) (check_value bytes) bytes e in
    let P : List ℕ → Type 0 = λ l. IsCheckOf l (check_value bytes) in
    (check_value bytes, e, λ counts. subst P at.front (right counts))

-- the payload in the code's slices
pub payload_is : (bytes front : List ℕ) → 12 ≤ length bytes → front ≡ checked_bytes bytes → length front + 2 ≡ length bytes → take (length front - 10) (drop 10 front) ≡ payload bytes
payload_is bytes front enough is size =
    let inside : ℕ = length bytes - 2 - 10 in
    let end : length bytes - 2 ≡ 10 + inside = omega arith in
    let same : length front - 10 ≡ inside = omega arith in
    let all : drop 10 front ≡ take inside (drop 10 bytes) = ap (drop 10) (is ∙ ap (λ (n : ℕ). take n bytes) end) ∙ drop-take 10 inside bytes in
    ap (λ (n : ℕ). take n (drop 10 front)) same ∙ (ap (take inside) all ∙ take-take inside inside (drop 10 bytes) (omega arith))

-- the packet with these fields is the one at its places
pub given_is : (bytes : List ℕ) (seq : ℕ) (checked : Bool) (low : ℕ) (inner : List ℕ) → seq ≡ sequence_number bytes → checked ≡ is_checked bytes → low ≡ minor bytes → inner ≡ payload bytes
    → record { seq = seq; checked = checked; minor = low; payload = inner } ≡ packet_at bytes
given_is bytes seq checked low inner is_seq is_marked is_low is_inner =
    ap (λ (n : ℕ). record { seq = n; checked = checked; minor = low; payload = inner }) is_seq
    ∙ (ap (λ (b : Bool). record { seq = sequence_number bytes; checked = b; minor = low; payload = inner }) is_marked
    ∙ (ap (λ (n : ℕ). record { seq = sequence_number bytes; checked = is_checked bytes; minor = n; payload = inner }) is_low
    ∙ ap (λ (l : List ℕ). record { seq = sequence_number bytes; checked = is_checked bytes; minor = minor bytes; payload = l }) is_inner))

-- what a fault that is handed on excludes
pub fault_only : (r : Result Af AfFault) (e f : AfFault) (bytes : List ℕ) → r ≡ Err e → e ≡ f → IsFault f bytes → (p : AfPacket) → IsAf p bytes → IsOkAnd r (λ given. packet_of given ≡ p)
fault_only r e f bytes is same h p af = absurd (no_fault p f bytes af h)

pub fault_is : (r : Result Af AfFault) (e f : AfFault) (bytes : List ℕ) → r ≡ Err e → e ≡ f → IsFault f bytes → (g : AfFault) → IsFault g bytes → r ≡ Err g
fault_is r e f bytes is same h g k = is ∙ ap (λ (x : AfFault). Err x) (same ∙ one_fault f g bytes h k)

-- the fault of a check value
pub compared : (f : AfFault) (bytes front last : List ℕ) → HasKind bytes → is_checked bytes ≡ true → front ≡ checked_bytes bytes → last ≡ drop (length bytes - 2) bytes → ComparesCheckValue (Err f) front last → IsFault f bytes
compared Sync bytes front last kind counts is is_last h = absurd h
compared (HeadCut n) bytes front last kind counts is is_last h = absurd h
compared (Length s d) bytes front last kind counts is is_last h = absurd h
compared (Version m) bytes front last kind counts is is_last h = absurd h
compared (Kind t) bytes front last kind counts is is_last h = absurd h
compared (Crc s c) bytes front last kind counts is is_last h =
    (kind, counts, h.0 ∙ ap (from_be_bytes w16) is_last, subst (λ (l : List ℕ). IsCheckOf l c) is h.1, h.2)

-- the check value that is right
pub right_at : (bytes front last : List ℕ) → front ≡ checked_bytes bytes → last ≡ drop (length bytes - 2) bytes → IsCheckOf front (from_be_bytes w16 last) → IsCheckOf (checked_bytes bytes) (check_value bytes)
right_at bytes front last is is_last h =
    let P : List ℕ → Type 0 = λ l. IsCheckOf l (check_value bytes) in
    let Q : List ℕ → Type 0 = λ l. IsCheckOf front (from_be_bytes w16 l) in
    subst P is (subst Q is_last h)
