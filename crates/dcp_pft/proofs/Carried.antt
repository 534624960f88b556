-- A packet that is cut, or carried whole: its shape, its datagrams, and how many of them may be lost.
use Rattle.std.proofs.Common.{◌≡◌, ◌≤◌, ℕ, Bool, true, false, cond, ltb, List, length, Some, None, refl, sym, ap, subst, arith}
use Rattle.dcp_pft.specs.declared.carry.Carry.{Carry}
use Rattle.dcp_pft.specs.declared.carry.Carry.TheVariants.{Plain, Pft}
use Rattle.dcp_pft.specs.declared.shape.Shape.{Shape}
use Rattle.dcp_pft.specs.Limits.{longest_packet, longest_in_short, long_fragment, most_packet}
use Rattle.dcp_pft.specs.Cutting.{IsShapeOf, shape_of}
use Rattle.dcp_pft.specs.Carrying.{CarryFits, cut_of, shape_under, datagram_count, fragment_size, datagram_size, CarriesPacket}
use Rattle.dcp_pft.specs.Head.{IsFragmentOf}
use Rattle.dcp_pft.specs.Loss.{size, is_recoverable}
use Rattle.dcp_pft.specs.Laws.{AnyMayBeLost}
use Rattle.dcp_pft.proofs.Erased.{all_kept}
use Rattle.dcp_pft.proofs.LossBound.{loss_bound}

-- the limit, whichever the carry is
either : (b : Bool) → (longest_in_short ≤ cond b longest_in_short longest_packet) × (cond b longest_in_short longest_packet ≤ longest_packet)
either true = (omega arith, omega arith)
either false = (omega arith, omega arith)

pub limit_is : (carry : Carry) → (longest_in_short ≤ most_packet carry) × (most_packet carry ≤ longest_packet)
limit_is Plain = (omega arith, omega arith)
limit_is (Pft m mtu) = either (ltb mtu long_fragment)

-- how a packet is cut, where its carry is one of this profile
pub is_shape : (m mtu len : ℕ) → CarryFits (Pft m mtu) → 1 ≤ len → len ≤ most_packet (Pft m mtu) → IsShapeOf len (shape_of len m mtu)
is_shape m mtu len (few, least, most) some small = record { some = some; small = small; m = m; few = few; mtu = mtu; least = least; most = most; is = refl }

whole_recoverable : (len : ℕ) (kept : ℕ → Bool) → 1 ≤ size 1 kept → is_recoverable (shape_under Plain len) kept ≡ true
unfolding is_recoverable
whole_recoverable len kept enough = all_kept 1 kept enough

-- so many may be lost
pub any_may_be_lost : AnyMayBeLost
any_may_be_lost Plain len kept fits some small enough = whole_recoverable len kept (omega (arith, enough))
any_may_be_lost (Pft m mtu) len kept (few, least, most) some small enough = loss_bound len m mtu kept some small few least most enough

pub whole_count : (carry : Carry) (len : ℕ) → cut_of carry len ≡ None → 1 ≡ datagram_count carry len
whole_count Plain len none = refl
whole_count (Pft m mtu) len none = absurd cc

pub cut_count : (carry : Carry) (len : ℕ) (shape : Shape) → cut_of carry len ≡ Some shape → shape.count ≡ datagram_count carry len
cut_count Plain len shape is = absurd cc
cut_count (Pft m mtu) len shape is =
    let same : shape_of len m mtu ≡ shape = cc in
    ap (λ (s : Shape). s.count) (sym same)

pub whole_size : (carry : Carry) (len i : ℕ) → cut_of carry len ≡ None → len ≡ datagram_size carry len i
whole_size Plain len i none = refl
whole_size (Pft m mtu) len i none = absurd cc

pub cut_size : (carry : Carry) (len i : ℕ) (shape : Shape) → cut_of carry len ≡ Some shape → fragment_size shape len i ≡ datagram_size carry len i
cut_size Plain len i shape is = absurd cc
cut_size (Pft m mtu) len i shape is =
    let same : shape_of len m mtu ≡ shape = cc in
    ap (λ (s : Shape). fragment_size s len i) (sym same)

-- a datagram, where the packet isn't cut and where it is
pub carries_whole : (carry : Carry) (sequence i : ℕ) (packet : List ℕ) → cut_of carry (length packet) ≡ None → CarriesPacket carry sequence packet i packet
carries_whole Plain sequence i packet none = refl
carries_whole (Pft m mtu) sequence i packet none = absurd cc

pub carries_cut : (carry : Carry) (sequence i : ℕ) (packet datagram : List ℕ) (shape : Shape) → cut_of carry (length packet) ≡ Some shape
    → IsFragmentOf shape sequence packet i datagram → CarriesPacket carry sequence packet i datagram
carries_cut Plain sequence i packet datagram shape is fragment = absurd cc
carries_cut (Pft m mtu) sequence i packet datagram shape is fragment =
    let same : shape_of (length packet) m mtu ≡ shape = cc in
    subst (λ s. IsFragmentOf s sequence packet i datagram) (sym same) fragment
