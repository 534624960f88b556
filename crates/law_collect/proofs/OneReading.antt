-- A datagram is read as one thing.
use Rattle.std.proofs.Common.{◌≡◌, ℕ, List, take, get_or, inl, inr, refl, sym, ap, ◌∙◌, arith}
use Rattle.dcp_af.specs.Packet.{AfPacket, IsAf, sync as af_sync}
use Rattle.dcp_af.proofs.Spellings.{placed}
use Rattle.dcp_af.proofs.Answered.{one_fault, no_fault, is_packet_at}
use Rattle.dcp_pft.specs.Head.{PftFragment, sync as pft_sync}
use Rattle.dcp_pft.specs.Reading.{IsPft}
use Rattle.dcp_pft.specs.Faults.{table}
use Rattle.dcp_pft.proofs.Table.{one_first, none_first}
use Rattle.dcp_pft.proofs.Answered.{none_holds, is_fragment_at, placed_at}
use Rattle.dcp_collect.specs.declared.taken.Field.{Field}
use Rattle.dcp_collect.specs.declared.taken.Field.TheVariants.{Sync, Af, Pft, Large, Far}
use Rattle.dcp_collect.specs.Reading.{Incoming, Unread, Brings, whole_packet, fragment_of, IsIncoming, IsReadAs}
use Rattle.law_collect.specs.Laws.{OneReading}

-- a packet begins with AF
af_begins : (af : AfPacket) (bytes : List ℕ) → IsAf af bytes → take 2 bytes ≡ af_sync
af_begins af bytes is = (placed af is.0 bytes is.1).kind.0.0.0.0

-- a fragment with PF
pft_begins : (f : PftFragment) (bytes : List ℕ) → IsPft f bytes → take 2 bytes ≡ pft_sync
pft_begins f bytes is = (placed_at f bytes is).is_sync

-- nothing with both
apart : (bytes : List ℕ) → take 2 bytes ≡ af_sync → take 2 bytes ≡ pft_sync → ⊥
apart bytes h k = let first : 65 ≡ 80 = ap (λ (l : List ℕ). get_or l 0 0) (sym h ∙ k) in absurd (omega (arith, first))

one_packet : (af other : AfPacket) (bytes : List ℕ) → IsAf af bytes → IsAf other bytes → other ≡ af
one_packet af other bytes h k = sym (is_packet_at other bytes k) ∙ is_packet_at af bytes h

one_fragment : (f g : PftFragment) (bytes : List ℕ) → IsPft f bytes → IsPft g bytes → g ≡ f
one_fragment f g bytes h k = sym (is_fragment_at g bytes k) ∙ is_fragment_at f bytes h

one_incoming : (a b : Incoming) (bytes : List ℕ) → IsIncoming a bytes → IsIncoming b bytes → b ≡ a
one_incoming a b bytes (inl (af, is, few, e)) (inl (other, is', few', e')) =
    e' ∙ ap (λ p. whole_packet p bytes) (one_packet af other bytes is is') ∙ sym e
one_incoming a b bytes (inl (af, is, few, e)) (inr (f, is', e')) = absurd (apart bytes (af_begins af bytes is) (pft_begins f bytes is'))
one_incoming a b bytes (inr (f, is, e)) (inl (af, is', few, e')) = absurd (apart bytes (af_begins af bytes is') (pft_begins f bytes is))
one_incoming a b bytes (inr (f, is, e)) (inr (g, is', e')) = e' ∙ ap fragment_of (one_fragment f g bytes is is') ∙ sym e

-- what brings a fragment or a packet is not refused
no_refusal : (a : Incoming) (field : Field) (bytes : List ℕ) → IsIncoming a bytes → IsReadAs (Unread field) bytes → ⊥
no_refusal a Sync bytes (inl (af, is, few, e)) k = k.0 (af_begins af bytes is)
no_refusal a Sync bytes (inr (f, is, e)) k = k.1 (pft_begins f bytes is)
no_refusal a (Af fault) bytes (inl (af, is, few, e)) k = no_fault af fault bytes is k.1
no_refusal a (Af fault) bytes (inr (f, is, e)) k = apart bytes k.0 (pft_begins f bytes is)
no_refusal a (Pft fault) bytes (inl (af, is, few, e)) k = apart bytes (af_begins af bytes is) k.0
no_refusal a (Pft fault) bytes (inr (f, is, e)) k = none_first table fault bytes (none_holds f bytes is) k.1
no_refusal a Large bytes (inl (af, is, few, e)) k = absurd (omega (arith, few, k.2))
no_refusal a Large bytes (inr (f, is, e)) k = apart bytes (af_begins k.0 bytes k.1) (pft_begins f bytes is)
no_refusal a Far bytes is k = k

one_refusal : (a b : Field) (bytes : List ℕ) → IsReadAs (Unread a) bytes → IsReadAs (Unread b) bytes → b ≡ a
one_refusal Sync Sync bytes h k = refl
one_refusal Sync (Af g) bytes h k = absurd (h.0 k.0)
one_refusal Sync (Pft g) bytes h k = absurd (h.1 k.0)
one_refusal Sync Large bytes h k = absurd (h.0 (af_begins k.0 bytes k.1))
one_refusal Sync Far bytes h k = absurd k
one_refusal (Af f) Sync bytes h k = absurd (k.0 h.0)
one_refusal (Af f) (Af g) bytes h k = ap Af (one_fault g f bytes k.1 h.1)
one_refusal (Af f) (Pft g) bytes h k = absurd (apart bytes h.0 k.0)
one_refusal (Af f) Large bytes h k = absurd (no_fault k.0 f bytes k.1 h.1)
one_refusal (Af f) Far bytes h k = absurd k
one_refusal (Pft f) Sync bytes h k = absurd (k.1 h.0)
one_refusal (Pft f) (Af g) bytes h k = absurd (apart bytes k.0 h.0)
one_refusal (Pft f) (Pft g) bytes h k = ap Pft (one_first table g f bytes k.1 h.1)
one_refusal (Pft f) Large bytes h k = absurd (apart bytes (af_begins k.0 bytes k.1) h.0)
one_refusal (Pft f) Far bytes h k = absurd k
one_refusal Large Sync bytes h k = absurd (k.0 (af_begins h.0 bytes h.1))
one_refusal Large (Af g) bytes h k = absurd (no_fault h.0 g bytes h.1 k.1)
one_refusal Large (Pft g) bytes h k = absurd (apart bytes (af_begins h.0 bytes h.1) k.0)
one_refusal Large Large bytes h k = refl
one_refusal Large Far bytes h k = absurd k
one_refusal Far b bytes h k = absurd h

pub one_reading : OneReading
one_reading bytes (Unread a) (Unread b) h k = ap Unread (one_refusal a b bytes h k)
one_reading bytes (Unread a) (Brings incoming) h k = absurd (no_refusal incoming a bytes k h)
one_reading bytes (Brings incoming) (Unread b) h k = absurd (no_refusal incoming b bytes h k)
one_reading bytes (Brings a) (Brings b) h k = ap Brings (one_incoming a b bytes h k)
