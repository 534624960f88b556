-- Bytes are read in one way.
use Rattle.std.proofs.Common.{◌≡◌, ◌≢◌, ℕ, ◌+◌, ◌-◌, ◌<◌, ◌≤◌, ◌⊎◌, List, [], ◌∷◌, ◌++◌, length, take, drop, sym, subst, ap, ap₂, ◌∙◌, refl, inl, inr, arith, add_assoc, append_assoc, length-append}
use Rattle.std.specs.Prelude.{All}
use Rattle.std.specs.List.{concat}
use Rattle.std.proofs.lemmas.List.{take_all, take_at, drop_at}
use Rattle.std.proofs.lemmas.List.Elements.{All-head, All-tail}
use Rattle.capture_reader.specs.declared.fault.CaptureField.{CaptureField}
use Rattle.capture_reader.specs.declared.fault.CaptureField.TheVariants.{HeadCut}
use Rattle.capture_reader.specs.declared.fault.CaptureFault.{CaptureFault}
use Rattle.capture_reader.specs.Front.{Front, Packet, Wrong, Cut, BytesBegin, Other, Af, Pft, IsWhole}
use Rattle.capture_reader.specs.Capture.{CaptureEnding, End, Fault, TooLong, EndsWith, IsCaptureOf, most_bytes}
use Rattle.capture_reader.specs.Laws.{ReadOneWay}
use Rattle.capture_reader.proofs.FrontLaws.{one_front, packet_in_front, packet_alone, packet_size}

-- bytes from a place of a capture on, which are these packets and end so
pub record Behind (at : ℕ) (bytes : List ℕ) (packets : List (List ℕ)) (ending : CaptureEnding) : Type 0 where
  pub whole : All IsWhole packets
  pub few : at + length (concat packets) ≤ most_bytes
  pub rest : List ℕ
  pub is : bytes ≡ concat packets ++ rest
  pub ends : EndsWith (at + length bytes) (at + length (concat packets)) rest ending

-- no bytes begin neither wrongly nor with a packet
pub none_begin : BytesBegin [] (Cut HeadCut)
none_begin = Other (λ e. cc) (λ e. cc) (inl refl)

-- what begins wrongly, with a packet, or is cut, is one of these alone
wrong_cut : (bytes : List ℕ) (f g : CaptureField) → BytesBegin bytes (Wrong f) → BytesBegin bytes (Cut g) → ⊥
wrong_cut bytes f g a b = let e : Wrong f ≡ Cut g = one_front bytes (Wrong f) (Cut g) a b in cc

packet_wrong : (bytes : List ℕ) (n : ℕ) (g : CaptureField) → BytesBegin bytes (Packet n) → BytesBegin bytes (Wrong g) → ⊥
packet_wrong bytes n g a b = let e : Packet n ≡ Wrong g = one_front bytes (Packet n) (Wrong g) a b in cc

packet_cut : (bytes : List ℕ) (n : ℕ) (g : CaptureField) → BytesBegin bytes (Packet n) → BytesBegin bytes (Cut g) → ⊥
packet_cut bytes n g a b = let e : Packet n ≡ Cut g = one_front bytes (Packet n) (Cut g) a b in cc

same_wrong : (bytes : List ℕ) (f g : CaptureField) → BytesBegin bytes (Wrong f) → BytesBegin bytes (Wrong g) → f ≡ g
same_wrong bytes f g a b = let e : Wrong f ≡ Wrong g = one_front bytes (Wrong f) (Wrong g) a b in cc

same_cut : (bytes : List ℕ) (f g : CaptureField) → BytesBegin bytes (Cut f) → BytesBegin bytes (Cut g) → f ≡ g
same_cut bytes f g a b = let e : Cut f ≡ Cut g = one_front bytes (Cut f) (Cut g) a b in cc

same_packet : (bytes : List ℕ) (m n : ℕ) → BytesBegin bytes (Packet m) → BytesBegin bytes (Packet n) → m ≡ n
same_packet bytes m n a b = let e : Packet m ≡ Packet n = one_front bytes (Packet m) (Packet n) a b in cc

-- all that is left lies among the bytes that are looked at
pub looked_at : (size at : ℕ) (rest : List ℕ) → size ≡ at + length rest → size ≤ most_bytes → take (most_bytes - at) rest ≡ rest
looked_at size at rest is few = take_all (most_bytes - at) rest (omega (arith, is, few))

fault_with : (f g : CaptureFault) (at : ℕ) → f.at ≡ at → g.at ≡ at → f.field ≡ g.field → Fault f ≡ Fault g
fault_with f g at a b same = ap₂ (λ (n : ℕ) (field : CaptureField). Fault (record { at = n; field = field })) (a ∙ sym b) same

ended : (size at : ℕ) (rest : List ℕ) (f : CaptureFault) → EndsWith size at rest End → EndsWith size at rest (Fault f) → ⊥
ended size at rest f a b = elim b.1 [
  | inl wrong ↦
      let P : List ℕ → Type 0 = λ l. BytesBegin l (Wrong f.field) in
      wrong_cut [] f.field HeadCut (subst P (ap (λ l. take (most_bytes - at) l) a.0 ∙ take_all (most_bytes - at) [] (omega arith)) wrong) none_begin
  | inr cut ↦ cut.1 a.0
]

too_long : (size at : ℕ) (rest : List ℕ) (f : CaptureFault) → EndsWith size at rest TooLong → EndsWith size at rest (Fault f) → ⊥
too_long size at rest f a b = elim b.1 [
  | inl wrong ↦ wrong_cut (take (most_bytes - at) rest) f.field a.1.0 wrong a.1.1
  | inr cut ↦ omega (arith, cut.0, a.0)
]

abbrev IsFaulty : ℕ → ℕ → List ℕ → CaptureField → Type 0
IsFaulty size at rest field = BytesBegin (take (most_bytes - at) rest) (Wrong field) ⊎ ((size ≤ most_bytes) × (rest ≢ []) × BytesBegin rest (Cut field))

wrong_and_cut : (size at : ℕ) (rest : List ℕ) (f g : CaptureField) → size ≡ at + length rest → BytesBegin (take (most_bytes - at) rest) (Wrong f) → (size ≤ most_bytes) × (rest ≢ []) × BytesBegin rest (Cut g) → ⊥
wrong_and_cut size at rest f g is a b =
    let P : List ℕ → Type 0 = λ l. BytesBegin l (Wrong f) in
    wrong_cut rest f g (subst P (looked_at size at rest is b.0) a) b.2

same_fields : (size at : ℕ) (rest : List ℕ) (f g : CaptureField) → size ≡ at + length rest → IsFaulty size at rest f → IsFaulty size at rest g → f ≡ g
same_fields size at rest f g is (inl a) (inl b) = same_wrong (take (most_bytes - at) rest) f g a b
same_fields size at rest f g is (inl a) (inr b) = absurd (wrong_and_cut size at rest f g is a b)
same_fields size at rest f g is (inr a) (inl b) = absurd (wrong_and_cut size at rest g f is b a)
same_fields size at rest f g is (inr a) (inr b) = same_cut rest f g a.2 b.2

-- what bytes end with behind the last packet
one_ending : (size at : ℕ) (rest : List ℕ) (e f : CaptureEnding) → size ≡ at + length rest → EndsWith size at rest e → EndsWith size at rest f → e ≡ f
one_ending size at rest End End is a b = refl
one_ending size at rest End TooLong is a b = absurd (omega (arith, a.1, b.0))
one_ending size at rest TooLong End is a b = absurd (omega (arith, b.1, a.0))
one_ending size at rest TooLong TooLong is a b = refl
one_ending size at rest End (Fault f) is a b = absurd (ended size at rest f a b)
one_ending size at rest (Fault f) End is a b = absurd (ended size at rest f b a)
one_ending size at rest TooLong (Fault f) is a b = absurd (too_long size at rest f a b)
one_ending size at rest (Fault f) TooLong is a b = absurd (too_long size at rest f b a)
one_ending size at rest (Fault f) (Fault g) is a b = fault_with f g at a.0 b.0 (same_fields size at rest f.field g.field is a.1 b.1)

-- no ending where a packet is
no_ending : (size at n : ℕ) (rest : List ℕ) (e : CaptureEnding) → at + n ≤ most_bytes → BytesBegin rest (Packet n) → EndsWith size at rest e → ⊥
no_ending size at n rest End few packet ends =
    let some = packet_size rest n packet in
    omega (arith, some.0, some.2, ap length ends.0)
no_ending size at n rest (Fault f) few packet ends =
    let front = packet_alone rest (most_bytes - at) n (omega (arith, few)) packet in
    elim ends.1 [
      | inl wrong ↦ packet_wrong (take (most_bytes - at) rest) n f.field front wrong
      | inr cut ↦ packet_cut rest n f.field packet cut.2
    ]
no_ending size at n rest TooLong few packet ends =
    let front = packet_alone rest (most_bytes - at) n (omega (arith, few)) packet in
    packet_cut (take (most_bytes - at) rest) n ends.1.0 front ends.1.1

-- the first packet is at the front
first_packet : (at : ℕ) (bytes p : List ℕ) (ps : List (List ℕ)) (e : CaptureEnding) → Behind at bytes (p ∷ ps) e → BytesBegin bytes (Packet (length p)) × (at + length p ≤ most_bytes) × (bytes ≡ p ++ drop (length p) bytes) × Behind (at + length p) (drop (length p) bytes) ps e
first_packet at bytes p ps e b =
    let is : bytes ≡ p ++ (concat ps ++ b.rest) = b.is ∙ append_assoc p (concat ps) b.rest in
    let front : take (length p) bytes ≡ p = ap (λ l. take (length p) l) is ∙ take_at p (concat ps ++ b.rest) (length p) refl in
    let behind : drop (length p) bytes ≡ concat ps ++ b.rest = ap (λ l. drop (length p) l) is ∙ drop_at p (concat ps ++ b.rest) (length p) refl in
    let few : at + (length p + length (concat ps)) ≤ most_bytes = omega (arith, b.few, length-append p (concat ps)) in
    let P : List ℕ → Type 0 = λ l. BytesBegin l (Packet (length p)) in
    let place : at + length (p ++ concat ps) ≡ at + length p + length (concat ps) = omega (arith, length-append p (concat ps)) in
    let size : at + length bytes ≡ at + length p + length (drop (length p) bytes) = omega (arith, ap length is, ap length behind, length-append p (concat ps ++ b.rest)) in
    let Q : ℕ → Type 0 = λ n. EndsWith n (at + length (p ++ concat ps)) b.rest e in
    let R : ℕ → Type 0 = λ n. EndsWith (at + length p + length (drop (length p) bytes)) n b.rest e in (
      packet_in_front bytes (length p) (length p) (subst P (sym front) (All-head IsWhole p ps b.whole)),
      omega (arith, few),
      is ∙ ap (λ l. p ++ l) (sym behind),
      record {
        whole = All-tail IsWhole p ps b.whole;
        few = omega (arith, few);
        rest = b.rest;
        is = behind;
        ends = subst R place (subst Q size b.ends);
      },
    )

-- no packet on either side
last_ending : (at : ℕ) (bytes : List ℕ) (e f : CaptureEnding) → Behind at bytes [] e → Behind at bytes [] f → e ≡ f
last_ending at bytes e f a b =
    let P : List ℕ → Type 0 = λ l. EndsWith (at + length bytes) (at + 0) l f in
    let same : b.rest ≡ a.rest = sym b.is ∙ a.is in
    one_ending (at + length bytes) (at + 0) a.rest e f (omega (arith, ap length a.is)) a.ends (subst P same b.ends)

-- a packet on one side alone
more_packets : (at : ℕ) (bytes p : List ℕ) (ps : List (List ℕ)) (e f : CaptureEnding) → Behind at bytes (p ∷ ps) e → Behind at bytes [] f → ⊥
more_packets at bytes p ps e f a b =
    let x = first_packet at bytes p ps e a in
    let P : List ℕ → Type 0 = λ l. EndsWith (at + length bytes) (at + 0) l f in
    no_ending (at + length bytes) (at + 0) (length p) bytes f (omega (arith, x.1)) x.0 (subst P (sym b.is) b.ends)

one_behind : (at : ℕ) (bytes : List ℕ) (packets others : List (List ℕ)) (e f : CaptureEnding) → Behind at bytes packets e → Behind at bytes others f → (packets ≡ others) × (e ≡ f)
one_behind at bytes [] [] e f a b = (refl, last_ending at bytes e f a b)
one_behind at bytes (p ∷ ps) [] e f a b = absurd (more_packets at bytes p ps e f a b)
one_behind at bytes [] (q ∷ qs) e f a b = absurd (more_packets at bytes q qs f e b a)
one_behind at bytes (p ∷ ps) (q ∷ qs) e f a b =
    let x = first_packet at bytes p ps e a in
    let y = first_packet at bytes q qs f b in
    let size : length p ≡ length q = same_packet bytes (length p) (length q) x.0 y.0 in
    let same : p ≡ q = sym (take_at p (drop (length p) bytes) (length p) refl) ∙ (ap (λ l. take (length p) l) (sym x.2) ∙ (ap (λ n. take n bytes) size ∙ (ap (λ l. take (length q) l) y.2 ∙ take_at q (drop (length q) bytes) (length q) refl))) in
    let P : ℕ → Type 0 = λ n. Behind (at + n) (drop n bytes) qs f in
    let rest = one_behind (at + length p) (drop (length p) bytes) ps qs e f x.3 (subst P (sym size) y.3) in
    (ap₂ (λ (l : List ℕ) (ls : List (List ℕ)). l ∷ ls) same rest.0, rest.1)

from_start : (bytes : List ℕ) (packets : List (List ℕ)) (e : CaptureEnding) → IsCaptureOf bytes packets e → Behind 0 bytes packets e
from_start bytes packets e c =
    let P : ℕ → Type 0 = λ n. EndsWith n (0 + length (concat packets)) c.rest e in
    let Q : ℕ → Type 0 = λ n. EndsWith (length bytes) n c.rest e in
    record {
      whole = c.whole;
      few = omega (arith, c.few);
      rest = c.rest;
      is = c.is;
      ends = subst P (omega arith) (subst Q (omega arith) c.ends);
    }

pub read_one_way : ReadOneWay
read_one_way bytes packets others ending other a b =
    one_behind 0 bytes packets others ending other (from_start bytes packets ending a) (from_start bytes others other b)
