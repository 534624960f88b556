-- Packets that are written one after another.
use Rattle.std.proofs.Common.{◌≡◌, ℕ, zero, suc, ◌+◌, ◌-◌, ◌*◌, ◌/◌, ◌%◌, ◌<◌, ◌≤◌, List, [], ◌∷◌, ◌++◌, length, take, drop, min, refl, sym, ap, subst, ◌∙◌, arith, append_assoc}
use Rattle.std.specs.Prelude.{Result, Ok, Err}
use Rattle.std.proofs.Math.Nat.{div-add-mod', add-mul}
use Rattle.std.proofs.lemmas.Nat.{div-mul-add}
use Rattle.std.proofs.lemmas.List.{append-nil}
use Rattle.drm_links.specs.Known.{Known}
use Rattle.drm_links.specs.Sink.{Output, OutputsText, WritesWhole}
use Rattle.drm_links.proofs.KnownLemmas.{OutputsText-nothing, OutputsText-then, OutputsText-weaker}
use Rattle.drm_links.proofs.WritingLemmas.{Writes-broken, Writes-whole}
use Rattle.drm_data.specs.PacketFields.{PacketFields}
use Rattle.drm_data.specs.Units.{unit_packet, packet_count, next_continuity, packets_from, unit_packets, packets_after, packets}
use Rattle.drm_data.specs.Writing.{IsWrittenPacket, Packing, new_packer, after_packet}
use Rattle.law_data.proofs.Totals.{some_written}
use Rattle.cmd_pack.specs.Units.{BeginsWith, AreUnits}
use Rattle.cmd_pack.specs.Packed.{AreWritten, after_unit}
use Rattle.cmd_pack.proofs.Files.{one_begin, begin_size}

written_join : (d : ℕ) (ps qs : List PacketFields) (s t : List ℕ) → AreWritten d ps s → AreWritten d qs t → AreWritten d (ps ++ qs) (s ++ t)
written_join d [] qs s t a b = subst (λ l. AreWritten d qs (l ++ t)) (sym a) b
written_join d (p ∷ ps) qs s t (bytes, more, one, others, is) b =
    (bytes, more ++ t, one, written_join d ps qs more t others b, ap (λ l. l ++ t) is ∙ append_assoc bytes more t)

-- ---- packets that are still to come have a spelling, too

some_from : (id d continuity : ℕ) (unit : List ℕ) (k n : ℕ) → id < 4 → continuity < 8 → (text : List ℕ) × AreWritten d (packets_from id d continuity unit k n) text
some_from id d continuity unit k zero small few = ([], refl)
some_from id d continuity unit k (suc n) small few =
    let (bytes, one) = some_written d (unit_packet id d continuity unit k) (record { id = small; continuity = few; useful = take_few d (drop (k * d) unit) }) in
    let (more, others) = some_from id d (next_continuity continuity) unit (k + 1) n small (omega arith) in
    (bytes ++ more, (bytes, more, one, others, refl))
  where
    take_few : (n : ℕ) (xs : List ℕ) → length (take n xs) ≤ n
    take_few zero [] = omega arith
    take_few zero (x ∷ xs) = omega arith
    take_few (suc n) [] = omega arith
    take_few (suc n) (x ∷ xs) = omega (arith, take_few n xs)

some_after : (id d continuity : ℕ) (units : List (List ℕ)) → id < 4 → continuity < 8 → (text : List ℕ) × AreWritten d (packets_after id d continuity units) text
some_after id d continuity [] small few = ([], refl)
some_after id d continuity (unit ∷ units) small few =
    let (text, one) = some_from id d continuity unit 0 (packet_count d (length unit)) small few in
    let (more, others) = some_after id d ((continuity + packet_count d (length unit)) % 8) units small (omega arith) in
    (text ++ more, written_join d (unit_packets id d continuity unit) (packets_after id d ((continuity + packet_count d (length unit)) % 8) units) text more one others)

-- ---- a unit

-- the first packets of a unit were written, and what is written of the others behind them is all of it
pub record Wrote (start : Packing) (unit : List ℕ) (k : ℕ) (p : Packing) (a b : Known Output) : Type 0 where
  pub written : List ℕ
  pub text : OutputsText a b (λ t. t ≡ written)
  pub still : b.faults ≡ a.faults
  pub id : p.id ≡ start.id
  pub size : p.length ≡ start.length
  pub continuity : p.continuity ≡ (start.continuity + k) % 8
  pub within : k ≤ packet_count start.length (length unit)
  pub all : (more : List ℕ) → AreWritten start.length (packets_from start.id start.length p.continuity unit k (packet_count start.length (length unit) - k)) more
      → AreWritten start.length (unit_packets start.id start.length start.continuity unit) (written ++ more)

pub wrote_none : (start : Packing) (unit : List ℕ) (a : Known Output) → start.continuity < 8 → Wrote start unit 0 start a a
wrote_none start unit a few = record {
  written = [];
  text = OutputsText-nothing a (λ t. t ≡ []) refl;
  still = refl;
  id = refl;
  size = refl;
  continuity = omega (arith, few);
  within = omega arith;
  all = λ more are. (
      let n : ℕ = packet_count start.length (length unit) in
      let none : n - 0 ≡ n = omega arith in
      subst (λ m. AreWritten start.length (packets_from start.id start.length start.continuity unit 0 m) more) none are);
}

step_by : (id d continuity : ℕ) (unit : List ℕ) (k n : ℕ) (bytes more : List ℕ) → k < n → IsWrittenPacket d (unit_packet id d continuity unit k) bytes
    → AreWritten d (packets_from id d (next_continuity continuity) unit (k + 1) (n - (k + 1))) more → AreWritten d (packets_from id d continuity unit k (n - k)) (bytes ++ more)
step_by id d continuity unit k n bytes more below one others =
    let size : n - k ≡ suc (n - (k + 1)) = omega (arith, below) in
    subst (λ m. AreWritten d (packets_from id d continuity unit k m) (bytes ++ more)) (sym size) (bytes, more, one, others, refl)

-- what is written of this packet and the others
next_all : (start p : Packing) (unit : List ℕ) (k : ℕ) (a b : Known Output) (bytes more : List ℕ) → (i : Wrote start unit k p a b) → k < packet_count start.length (length unit) → IsWrittenPacket start.length (unit_packet p.id p.length p.continuity unit k) bytes
    → AreWritten start.length (packets_from start.id start.length (next_continuity p.continuity) unit (k + 1) (packet_count start.length (length unit) - (k + 1))) more
    → AreWritten start.length (unit_packets start.id start.length start.continuity unit) (i.written ++ (bytes ++ more))
next_all start p unit k a b bytes more i below one others =
    let P : ℕ → Type 0 = λ n. IsWrittenPacket start.length (unit_packet n p.length p.continuity unit k) bytes in
    let Q : ℕ → Type 0 = λ n. IsWrittenPacket start.length (unit_packet start.id n p.continuity unit k) bytes in
    i.all (bytes ++ more) (step_by start.id start.length p.continuity unit k (packet_count start.length (length unit)) bytes more below (subst Q i.size (subst P i.id one)) others)

pub wrote_one : (start p q : Packing) (unit : List ℕ) (k : ℕ) (a b c : Known Output) (bytes : List ℕ) → Wrote start unit k p a b → k < packet_count start.length (length unit)
    → IsWrittenPacket start.length (unit_packet p.id p.length p.continuity unit k) bytes → q ≡ after_packet p → OutputsText b c (λ t. t ≡ bytes) → c.faults ≡ b.faults → Wrote start unit (k + 1) q a c
wrote_one start p q unit k a b c bytes i below one after text still =
    let next : q.continuity ≡ next_continuity p.continuity = ap (λ (x : Packing). x.continuity) after in
    record {
      written = i.written ++ bytes;
      text = OutputsText-then (λ t. t ≡ i.written) (λ t. t ≡ bytes) (λ t. t ≡ i.written ++ bytes) a b c i.text text (λ x y u v. ap (λ l. l ++ y) u ∙ ap (λ l. i.written ++ l) v);
      still = still ∙ i.still;
      id = ap (λ (x : Packing). x.id) after ∙ i.id;
      size = ap (λ (x : Packing). x.length) after ∙ i.size;
      continuity = (let e = i.continuity in omega (arith, next, e));
      within = omega (arith, below);
      all = λ more are. (
          let n : ℕ = packet_count start.length (length unit) in
          let moved = subst (λ m. AreWritten start.length (packets_from start.id start.length m unit (k + 1) (n - (k + 1))) more) next are in
          subst (λ l. AreWritten start.length (unit_packets start.id start.length start.continuity unit) l) (sym (append_assoc i.written bytes more)) (next_all start p unit k a b bytes more i below one moved));
    }

-- what a packer wrote of a unit, or a front of it
abbrev pub WritesUnit : {E : Type 0} → Result (Unit {0}) E → ℕ → ℕ → ℕ → List ℕ → Known Output → Known Output → Type 0
WritesUnit result id d continuity unit a b = (text : List ℕ) × AreWritten d (unit_packets id d continuity unit) text × WritesWhole result a b text

pub wrote_broken : {E F : Type 0} (start p : Packing) (unit : List ℕ) (k : ℕ) (a b c : Known Output) (bytes : List ℕ) (r : Result (Unit {0}) E) (other : E) (fault : F) → start.id < 4
    → Wrote start unit k p a b → k < packet_count start.length (length unit) → IsWrittenPacket start.length (unit_packet p.id p.length p.continuity unit k) bytes → r ≡ Err other → WritesWhole r b c bytes
    → (let broken : Result (Unit {0}) F = Err fault in WritesUnit broken start.id start.length start.continuity unit a c)
wrote_broken start p unit k a b c bytes r other fault small i below one is writes =
    let n : ℕ = packet_count start.length (length unit) in
    let (more, others) = some_from start.id start.length (next_continuity p.continuity) unit (k + 1) (n - (k + 1)) small (omega arith) in (
      i.written ++ (bytes ++ more),
      next_all start p unit k a b bytes more i below one others,
      Writes-broken (i.written ++ (bytes ++ more)) bytes more a b c r other fault
          (OutputsText-weaker (λ t. t ≡ i.written) (λ t. t ++ (bytes ++ more) ≡ i.written ++ (bytes ++ more)) a b i.text (λ t e. ap (λ l. l ++ (bytes ++ more)) e)) i.still is writes,
    )

pub wrote_all : {E : Type 0} (start p : Packing) (unit : List ℕ) (k : ℕ) (a b : Known Output) → Wrote start unit k p a b → packet_count start.length (length unit) ≤ k
    → (let done : Result (Unit {0}) E = Ok tt in WritesUnit done start.id start.length start.continuity unit a b)
wrote_all start p unit k a b i full =
    let n : ℕ = packet_count start.length (length unit) in
    let none : n - k ≡ 0 = omega (arith, full) in
    let all = i.all [] (subst (λ m. AreWritten start.length (packets_from start.id start.length p.continuity unit k m) []) (sym none) refl) in (
      i.written,
      subst (λ l. AreWritten start.length (unit_packets start.id start.length start.continuity unit) l) (append-nil i.written) all,
      Writes-whole i.written a b i.text i.still,
    )

-- ---- units

-- the packets of the units before the rest were written, and what is written of the units in it behind them is all of it
pub record Packs (id d : ℕ) (bytes rest : List ℕ) (p : Packing) (a b : Known Output) : Type 0 where
  pub id_is : p.id ≡ id
  pub size : p.length ≡ d
  pub few : p.continuity < 8
  pub still : b.faults ≡ a.faults
  pub all : (units : List (List ℕ)) → AreUnits units [] bytes
      → (left : List (List ℕ)) × (written : List ℕ) × AreUnits left [] rest × OutputsText a b (λ t. t ≡ written)
      × ((more : List ℕ) → AreWritten d (packets_after id d p.continuity left) more → AreWritten d (packets id d units) (written ++ more))

pub packs_none : (id d : ℕ) (bytes : List ℕ) (p : Packing) (a : Known Output) → p ≡ new_packer id d → Packs id d bytes bytes p a a
packs_none id d bytes p a new =
    let none : p.continuity ≡ 0 = ap (λ (x : Packing). x.continuity) new in
    record {
      id_is = ap (λ (x : Packing). x.id) new;
      size = ap (λ (x : Packing). x.length) new;
      few = omega (arith, none);
      still = refl;
      all = λ units are. (units, [], are, OutputsText-nothing a (λ t. t ≡ []) refl, λ more written. subst (λ n. AreWritten d (packets_after id d n units) more) none written);
    }

-- the first unit of the rest
pub record NextUnit (left : List (List ℕ)) (unit behind : List ℕ) : Type 0 where
  pub others : List (List ℕ)
  pub is : left ≡ unit ∷ others
  pub are : AreUnits others [] behind

next_unit : (left : List (List ℕ)) (unit behind rest : List ℕ) → AreUnits left [] rest → BeginsWith unit behind rest → NextUnit left unit behind
next_unit [] unit behind rest are begins = absurd (omega (arith, ap length are, begin_size unit behind rest begins))
next_unit (u ∷ left) unit behind rest (more, first, are) begins =
    let (same, same_rest) = one_begin u unit more behind rest first begins in
    record { others = left; is = ap (λ l. l ∷ left) same; are = subst (AreUnits left []) same_rest are }

pub packs_one : (id d : ℕ) (bytes rest unit behind : List ℕ) (p q : Packing) (a b c : Known Output) (text : List ℕ)
    → Packs id d bytes rest p a b → BeginsWith unit behind rest → AreWritten d (unit_packets p.id d p.continuity unit) text → OutputsText b c (λ t. t ≡ text) → c.faults ≡ b.faults → q ≡ after_unit p unit
    → Packs id d bytes behind q a c
packs_one id d bytes rest unit behind p q a b c text i begins one out still after =
    let count : ℕ = packet_count d (length unit) in
    let continuity : q.continuity ≡ (p.continuity + count) % 8 = ap (λ (x : Packing). x.continuity) after ∙ ap (λ n. (p.continuity + packet_count n (length unit)) % 8) i.size in
    let mine : AreWritten d (unit_packets id d p.continuity unit) text = subst (λ n. AreWritten d (unit_packets n d p.continuity unit) text) i.id_is one in
    record {
      id_is = ap (λ (x : Packing). x.id) after ∙ i.id_is;
      size = ap (λ (x : Packing). x.length) after ∙ i.size;
      few = omega (arith, continuity);
      still = still ∙ i.still;
      all = λ units are.
          let (left, written, are_left, outcome, all) = i.all units are in
          let next = next_unit left unit behind rest are_left begins in (
            next.others,
            written ++ text,
            next.are,
            OutputsText-then (λ t. t ≡ written) (λ t. t ≡ text) (λ t. t ≡ written ++ text) a b c outcome out (λ x y u v. ap (λ l. l ++ y) u ∙ ap (λ l. written ++ l) v),
            λ more others.
                let moved : AreWritten d (packets_after id d ((p.continuity + count) % 8) next.others) more = subst (λ n. AreWritten d (packets_after id d n next.others) more) continuity others in
                let whole : AreWritten d (packets_after id d p.continuity (unit ∷ next.others)) (text ++ more) =
                written_join d (unit_packets id d p.continuity unit) (packets_after id d ((p.continuity + count) % 8) next.others) text more mine moved in
                subst (λ l. AreWritten d (packets id d units) l) (sym (append_assoc written text more))
                (all (text ++ more) (subst (λ l. AreWritten d (packets_after id d p.continuity l) (text ++ more)) (sym next.is) whole)),
          );
    }

-- the packets of all units, or a front of them
abbrev pub WritesPackets : {E : Type 0} → Result (Unit {0}) E → ℕ → ℕ → List ℕ → Known Output → Known Output → Type 0
WritesPackets result id d bytes a b = (units : List (List ℕ)) → AreUnits units [] bytes → (text : List ℕ) × AreWritten d (packets id d units) text × WritesWhole result a b text

pub packs_broken : {E F : Type 0} (id d : ℕ) (bytes rest unit behind : List ℕ) (p : Packing) (a b c : Known Output) (text : List ℕ) (r : Result (Unit {0}) E) (other : E) (fault : F) → id < 4
    → Packs id d bytes rest p a b → BeginsWith unit behind rest → AreWritten d (unit_packets p.id d p.continuity unit) text → r ≡ Err other → WritesWhole r b c text
    → (let broken : Result (Unit {0}) F = Err fault in WritesPackets broken id d bytes a c)
packs_broken id d bytes rest unit behind p a b c text r other fault small i begins one is writes units are =
    let count : ℕ = packet_count d (length unit) in
    let mine : AreWritten d (unit_packets id d p.continuity unit) text = subst (λ n. AreWritten d (unit_packets n d p.continuity unit) text) i.id_is one in
    let (left, written, are_left, outcome, all) = i.all units are in
    let next = next_unit left unit behind rest are_left begins in
    let (more, others) = some_after id d ((p.continuity + count) % 8) next.others small (omega arith) in
    let whole : AreWritten d (packets_after id d p.continuity (unit ∷ next.others)) (text ++ more) =
    written_join d (unit_packets id d p.continuity unit) (packets_after id d ((p.continuity + count) % 8) next.others) text more mine others in (
      written ++ (text ++ more),
      all (text ++ more) (subst (λ l. AreWritten d (packets_after id d p.continuity l) (text ++ more)) (sym next.is) whole),
      Writes-broken (written ++ (text ++ more)) text more a b c r other fault
          (OutputsText-weaker (λ t. t ≡ written) (λ t. t ++ (text ++ more) ≡ written ++ (text ++ more)) a b outcome (λ t e. ap (λ l. l ++ (text ++ more)) e)) i.still is writes,
    )

-- no unit begins the rest
pub packs_all : {E : Type 0} (id d : ℕ) (bytes rest : List ℕ) (p : Packing) (a b : Known Output) → Packs id d bytes rest p a b → ((unit behind : List ℕ) → BeginsWith unit behind rest → ⊥)
    → (let done : Result (Unit {0}) E = Ok tt in WritesPackets done id d bytes a b)
packs_all {E} id d bytes rest p a b i stuck units are =
    let (left, written, are_left, outcome, all) = i.all units are in by left written are_left outcome all
  where
    by : (left : List (List ℕ)) (written : List ℕ) → AreUnits left [] rest → OutputsText a b (λ t. t ≡ written)
        → ((more : List ℕ) → AreWritten d (packets_after id d p.continuity left) more → AreWritten d (packets id d units) (written ++ more))
        → (text : List ℕ) × AreWritten d (packets id d units) text × (let done : Result (Unit {0}) E = Ok tt in WritesWhole done a b text)
    by [] written are_left outcome all = (written, subst (λ l. AreWritten d (packets id d units) l) (append-nil written) (all [] refl), Writes-whole written a b outcome i.still)
    by (u ∷ left) written (more, first, others) outcome all = absurd (stuck u more first)

-- a number of packets, as it is computed
ceil_by : (d q r : ℕ) → 1 ≤ d → r < d → q + min 1 r ≡ (q * d + r + (d - 1)) / d
ceil_by d q zero some below =
    let whole : q * d + 0 + (d - 1) ≡ q * d + (d - 1) = omega arith in
    omega arith ∙ (sym (div-mul-add q d (d - 1) (omega (arith, some))) ∙ ap (λ n. n / d) (sym whole))
ceil_by d q (suc r) some below =
    let more : (q + 1) * d ≡ q * d + 1 * d = add-mul q 1 d in
    let whole : q * d + suc r + (d - 1) ≡ (q + 1) * d + r = omega (arith, more, some) in
    omega arith ∙ (sym (div-mul-add (q + 1) d r (omega (arith, below))) ∙ ap (λ n. n / d) (sym whole))

pub ceil_is : (d size n : ℕ) → 1 ≤ d → n ≡ size / d + min 1 (size % d) → n ≡ packet_count d size
ceil_is d size n some is =
    let parts : size / d * d + size % d ≡ size = div-add-mod' size d in
    is ∙ (ceil_by d (size / d) (size % d) some (omega (arith, some)) ∙ ap (λ k. (k + (d - 1)) / d) parts)
