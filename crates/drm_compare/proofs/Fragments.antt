-- Two packets of which each datagram is the same are one packet, cut in one way.
use Rattle.std.proofs.Common.{◌≡◌, ℕ, zero, suc, ◌+◌, ◌<◌, ◌≤◌, ◌==◌, ◌||◌, Bool, true, false, inl, inr, List, [], ◌∷◌, length, Option, None, Some, if◌then◌else◌, refl, sym, ap, subst, ◌∙◌, arith, eq-eqb}
use Rattle.std.specs.Prelude.{slice_get}
use Rattle.std.specs.Int.{div_ceil}
use Rattle.std.specs.List.{AllByRecursion}
use Rattle.std.proofs.lemmas.Bool.{cases_eq, true≢false}
use Rattle.dcp_pft.specs.declared.carry.Carry.{Carry}
use Rattle.dcp_pft.specs.declared.carry.Carry.TheVariants.{Plain, Pft}
use Rattle.dcp_pft.specs.declared.shape.Rs.{Rs}
use Rattle.dcp_pft.specs.declared.shape.Shape.{Shape}
use Rattle.dcp_pft.specs.Carrying.{CarryFits, cut_of, datagram_count, CarriesPacket}
use Rattle.dcp_pft.specs.Cutting.{shape_of, coded_size}
use Rattle.dcp_pft.specs.Loss.{size, is_recoverable}
use Rattle.dcp_collect.specs.declared.head.Head.{Head}
use Rattle.dcp_collect.specs.Fragments.{NumberedFragment, has_index, shape_by, suffice}
use Rattle.dcp_collect.specs.Reading.{Incoming, Brings, IsReadAs}
use Rattle.dcp_collect.proofs.Ascending.{IsAscending}
use Rattle.dcp_collect.proofs.Decoded.{one_decoding}
use Rattle.dcp_collect.proofs.Lists.{all_weaker}
use Rattle.law_collect.specs.Delivery.{IsPacketWith, AreSent, sequence_at}
use Rattle.law_collect.proofs.Sent.{head_of, IsPayload, datagrams_of, IsOf, IsCut, BringsPair}
use Rattle.law_collect.proofs.SentCuts.{sent_cut}
use Rattle.law_collect.proofs.SentInTime.{recoverable_by}
use Rattle.law_collect.proofs.Brought.{brought}
use Rattle.law_collect.proofs.OneReading.{one_reading}

-- ---- what a datagram of a packet brings

-- A datagram of a packet is read as this.
record BringsOne (carry : Carry) (packet : List ℕ) (i : ℕ) (datagram : List ℕ) : Type 0 where
  incoming : Incoming
  is_read : IsReadAs (Brings incoming) datagram
  head : incoming.head ≡ head_of carry packet i
  payload : IsPayload carry packet i incoming.payload

-- a packet with this number that may be carried so
pub record IsCarried (carry : Carry) (sequence : ℕ) (packet : List ℕ) : Type 0 where
  pub fits : CarryFits carry
  pub below : sequence < 65536
  pub is : IsPacketWith carry sequence packet

there : (a b : List ℕ) → Some a ≡ Some b → b ≡ a
there a b same = cc

module _ (carry : Carry) (sequence : ℕ) (packet : List ℕ) (carried : IsCarried carry sequence packet) where
  same_sequence : sequence ≡ sequence_at sequence 0
  same_sequence = let below = carried.below in omega (arith, below)

  each : (p : ℕ) (other : List ℕ) → slice_get (packet ∷ []) p ≡ Some other → IsPacketWith carry (sequence_at sequence p) other
  each zero other at =
      subst (λ (l : List ℕ). IsPacketWith carry (sequence_at sequence 0) l) (sym (there packet other at))
      (subst (λ (n : ℕ). IsPacketWith carry n packet) same_sequence carried.is)
  each (suc p) other at = absurd (let e : None ≡ Some other = at in cc)

  sent : AreSent carry sequence (packet ∷ [])
  sent = record { few = omega arith; carried = carried.fits; each = each }

  brings : (i : ℕ) (datagram : List ℕ) → i < datagram_count carry (length packet) → CarriesPacket carry sequence packet i datagram → BringsOne carry packet i datagram
  brings i datagram within carries =
      let pair : BringsPair carry sequence (packet ∷ []) (0, i) datagram = brought carry sequence (packet ∷ []) sent (0, i) datagram (record {
        packet = packet;
        at = refl;
        within = within;
        carries = subst (λ (n : ℕ). CarriesPacket carry n packet i datagram) same_sequence carries;
      }) in
      let same : pair.packet ≡ packet = there packet pair.packet pair.at in
      record {
        incoming = pair.incoming;
        is_read = pair.is_read;
        head = pair.head ∙ ap (λ (l : List ℕ). head_of carry l i) same;
        payload = subst (λ (l : List ℕ). IsPayload carry l i pair.incoming.payload) same pair.payload;
      }

  cut_well : IsCut carry packet
  cut_well = sent_cut one_decoding carry sequence packet carried.fits carried.is

  -- as a fragment
  of_packet : (i : ℕ) (f : NumberedFragment) → i < datagram_count carry (length packet) → f.head ≡ head_of carry packet i → IsPayload carry packet i f.payload
      → (f.head.index ≡ i) × IsOf carry packet f
  of_packet i f within head payload =
      let index : f.head.index ≡ i = ap (λ (h : Head). h.index) head ∙ cut_well.indices i within in (
        index,
        (
          omega (arith, index, within),
          head ∙ ap (head_of carry packet) (sym index),
          subst (λ (n : ℕ). IsPayload carry packet n f.payload) (sym index) payload,
        ),
      )

-- ---- the fragments of two packets

full_size : (n : ℕ) (kept : ℕ → Bool) → ((i : ℕ) → i < n → kept i ≡ true) → size n kept ≡ n
unfolding size
full_size zero kept all = refl
full_size (suc n) kept all =
    let last : ℕ = if kept n then 1 else 0 in
    let one : last ≡ 1 = ap (λ (b : Bool). if b then 1 else 0) (all n (omega arith)) in
    omega (arith, one, full_size n kept (λ i below. all i (omega (arith, below))))

or_true : (a b : Bool) → b ≡ true → (a || b) ≡ true
or_true true b is = refl
or_true false b is = is

true_or : (a b : Bool) → a ≡ true → (a || b) ≡ true
true_or true b is = refl
true_or false b is = absurd cc

module _ (carry : Carry) (sequence : ℕ) (packet : List ℕ) (carried : IsCarried carry sequence packet)
    (carry' : Carry) (sequence' : ℕ) (packet' : List ℕ) (carried' : IsCarried carry' sequence' packet') where
  -- Fragment i of both.
  pub record IsShared (i : ℕ) : Type 0 where
    pub f : NumberedFragment
    pub index : f.head.index ≡ i
    pub one : IsOf carry packet f
    pub other : IsOf carry' packet' f
    pub heads : head_of carry packet i ≡ head_of carry' packet' i

  pub shared : (i : ℕ) (datagram : List ℕ) → i < datagram_count carry (length packet) → i < datagram_count carry' (length packet')
      → CarriesPacket carry sequence packet i datagram → CarriesPacket carry' sequence' packet' i datagram → IsShared i
  shared i datagram within within' carries carries' =
      let a = brings carry sequence packet carried i datagram within carries in
      let b = brings carry' sequence' packet' carried' i datagram within' carries' in
      let read : Brings b.incoming ≡ Brings a.incoming = one_reading datagram (Brings a.incoming) (Brings b.incoming) a.is_read b.is_read in
      let same : b.incoming ≡ a.incoming = cc in
      let f : NumberedFragment = record { number = 0; head = a.incoming.head; payload = a.incoming.payload } in
      let head' : a.incoming.head ≡ head_of carry' packet' i = ap (λ (x : Incoming). x.head) (sym same) ∙ b.head in
      let mine = of_packet carry sequence packet carried i f within a.head a.payload in
      let theirs = of_packet carry' sequence' packet' carried' i f within' head' (subst (λ (x : Incoming). IsPayload carry' packet' i x.payload) same b.payload) in
      record { f = f; index = mine.0; one = mine.1; other = theirs.1; heads = sym a.head ∙ head' }

  -- n of them from the one with number `start` on
  record AreShared (start n : ℕ) : Type 0 where
    fs : List NumberedFragment
    one : AllByRecursion (IsOf carry packet) fs
    other : AllByRecursion (IsOf carry' packet') fs
    above : AllByRecursion (λ f. start ≤ f.head.index) fs
    rise : IsAscending fs
    has : (i : ℕ) → start ≤ i → i < start + n → has_index fs i ≡ true

  all_shared : (n start : ℕ) → ((i : ℕ) → start ≤ i → i < start + n → IsShared i) → AreShared start n
  all_shared zero start each = record { fs = []; one = tt; other = tt; above = tt; rise = tt; has = λ i le lt. absurd (omega (arith, le, lt)) }
  all_shared (suc n) start each =
      let first : IsShared start = each start (omega arith) (omega arith) in
      let more : AreShared (start + 1) n = all_shared n (start + 1) (λ i le lt. each i (omega (arith, le)) (omega (arith, lt))) in
      let index = first.index in
      record {
        fs = first.f ∷ more.fs;
        one = (first.one, more.one);
        other = (first.other, more.other);
        above = (omega (arith, index), all_weaker (λ f. start + 1 ≤ f.head.index) (λ f. start ≤ f.head.index) (λ f le. omega (arith, le)) more.fs more.above);
        rise = (all_weaker (λ f. start + 1 ≤ f.head.index) (λ f. first.f.head.index < f.head.index) (λ f le. omega (arith, le, index)) more.fs more.above, more.rise);
        has = λ i le lt. elim (cases_eq start i) [
          | inl here ↦ true_or (first.f.head.index == i) (has_index more.fs i) (eq-eqb first.f.head.index i (index ∙ here))
          | inr later ↦ or_true (first.f.head.index == i) (has_index more.fs i) (more.has i (omega (arith, le, later)) (omega (arith, lt)))
        ];
      }

  -- all of them suffice
  enough : (fs : List NumberedFragment) → 0 < datagrams_of carry packet → AllByRecursion (IsOf carry packet) fs → ((i : ℕ) → i < datagrams_of carry packet → has_index fs i ≡ true) → suffice fs ≡ true
  enough [] some one has = absurd (true≢false (sym (has 0 some)))
  enough (f ∷ fs) some one has =
      let kept : ℕ → Bool = has_index (f ∷ fs) in
      let count : ℕ = datagrams_of carry packet in
      let all : size count kept ≡ count = full_size count kept has in
      ap (λ (h : Head). is_recoverable (shape_by h) kept) one.0.1
      ∙ (cut_well carry sequence packet carried).same_shape f.head.index kept one.0.0
      ∙ recoverable_by carry sequence packet kept carried.fits carried.is (omega (arith, all))

  -- so the packets are one
  pub one_packet : 0 < datagram_count carry (length packet)
      → ((i : ℕ) → i < datagram_count carry (length packet) → IsShared i) → packet ≡ packet'
  one_packet some each =
      let count : ℕ = datagram_count carry (length packet) in
      let row : AreShared 0 count = all_shared count 0 (λ i le lt. each i (omega (arith, lt))) in
      let suffices : suffice row.fs ≡ true = enough row.fs some row.one (λ i below. row.has i (omega arith) (omega (arith, below))) in
      (cut_well carry' sequence' packet' carried').decoded_only row.fs packet row.other row.rise suffices
      ((cut_well carry sequence packet carried).decoded row.fs row.one row.rise suffices)

-- ---- how they are cut

-- the bytes that are cut: with a code those of the coded chunks
size_by : ℕ → Option Rs → ℕ
size_by len None = len
size_by len (Some rs) = coded_size len

piece_is : (len m mtu : ℕ) → (shape_of len m mtu).piece ≡ div_ceil (size_by len (shape_of len m mtu).rs) (shape_of len m mtu).count
unfolding shape_of size_by
piece_is len zero mtu = refl
piece_is len (suc m) mtu = refl

-- a packet's shape is known by the number of fragments and the code
one_shape : (len m mtu m' mtu' : ℕ) → (shape_of len m mtu).count ≡ (shape_of len m' mtu').count → (shape_of len m mtu).rs ≡ (shape_of len m' mtu').rs
    → shape_of len m mtu ≡ shape_of len m' mtu'
one_shape len m mtu m' mtu' count rs =
    let a : Shape = shape_of len m mtu in
    let b : Shape = shape_of len m' mtu' in
    ap (λ (n : ℕ). record a { piece = n }) (piece_is len m mtu)
    ∙ (ap (λ (c : ℕ). record { count = c; piece = div_ceil (size_by len a.rs) c; rs = a.rs }) count
    ∙ (ap (λ (o : Option Rs). record { count = b.count; piece = div_ceil (size_by len o) b.count; rs = o }) rs
    ∙ ap (λ (n : ℕ). record b { piece = n }) (sym (piece_is len m' mtu'))))

-- fragments with the same head are cut in one way
pub one_cut : (carry carry' : Carry) (packet : List ℕ) → head_of carry packet 0 ≡ head_of carry' packet 0 → cut_of carry (length packet) ≡ cut_of carry' (length packet)
one_cut Plain Plain packet same = refl
one_cut Plain (Pft m mtu) packet same = absurd (true≢false (ap (λ (h : Head). h.whole) same))
one_cut (Pft m mtu) Plain packet same = absurd (true≢false (sym (ap (λ (h : Head). h.whole) same)))
one_cut (Pft m mtu) (Pft m' mtu') packet same =
    ap (λ (s : Shape). Some s) (one_shape (length packet) m mtu m' mtu' (ap (λ (h : Head). h.count) same) (ap (λ (h : Head). h.rs) same))
