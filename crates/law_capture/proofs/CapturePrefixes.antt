-- Packets that bytes begin with are the first packets of the capture that the bytes are.
use Rattle.std.proofs.Common.{◌≡◌, ℕ, ◌+◌, ◌-◌, ◌≤◌, inl, inr, List, [], ◌∷◌, ◌++◌, length, take, refl, sym, ◌∙◌, ap, ap₂, subst, arith, append_assoc, length-append}
use Rattle.std.specs.Prelude.{All}
use Rattle.std.specs.List.{concat}
use Rattle.std.proofs.lemmas.List.{take_at}
use Rattle.std.proofs.lemmas.List.Elements.{All-head, All-tail}
use Rattle.capture_reader.specs.declared.fault.CaptureField.{CaptureField}
use Rattle.capture_reader.specs.Front.{Packet, Wrong, Cut, BytesBegin, IsWhole}
use Rattle.capture_reader.specs.Capture.{CaptureEnding, End, Fault, TooLong, EndsWith, most_bytes}
use Rattle.law_capture.specs.Laws.{PacketsInFront}
use Rattle.capture_reader.proofs.FrontLaws.{one_front, packet_in_front, packet_alone, packet_size}

in_front : (p more : List ℕ) → IsWhole p → BytesBegin (p ++ more) (Packet (length p))
in_front p more whole =
    let P : List ℕ → Type 0 = λ l. BytesBegin l (Packet (length p)) in
    packet_in_front (p ++ more) (length p) (length p) (subst P (sym (take_at p more (length p) refl)) whole)

packet_wrong : (bytes : List ℕ) (n : ℕ) (g : CaptureField) → BytesBegin bytes (Packet n) → BytesBegin bytes (Wrong g) → ⊥
packet_wrong bytes n g a b = let e : Packet n ≡ Wrong g = one_front bytes (Packet n) (Wrong g) a b in cc

packet_cut : (bytes : List ℕ) (n : ℕ) (g : CaptureField) → BytesBegin bytes (Packet n) → BytesBegin bytes (Cut g) → ⊥
packet_cut bytes n g a b = let e : Packet n ≡ Cut g = one_front bytes (Packet n) (Cut g) a b in cc

same_packet : (bytes : List ℕ) (m n : ℕ) → BytesBegin bytes (Packet m) → BytesBegin bytes (Packet n) → m ≡ n
same_packet bytes m n a b = let e : Packet m ≡ Packet n = one_front bytes (Packet m) (Packet n) a b in cc

-- where a packet stands, nothing ends
stands : (size at : ℕ) (p more : List ℕ) (ending : CaptureEnding) → IsWhole p → at + length p ≤ most_bytes → EndsWith size at (p ++ more) ending → ⊥
stands size at p more End whole few ends =
    let some : 12 ≤ length p = (packet_size p (length p) whole).0 in
    let none : length (p ++ more) ≡ 0 = ap length ends.0 in
    let both : length (p ++ more) ≡ length p + length more = length-append p more in
    omega (arith, some, none, both)
stands size at p more (Fault fault) whole few ends = elim ends.1 [
  | inl wrong ↦ packet_wrong (take (most_bytes - at) (p ++ more)) (length p) fault.field
      (packet_alone (p ++ more) (most_bytes - at) (length p) (omega (arith, few)) (in_front p more whole)) wrong
  | inr cut ↦ packet_cut (p ++ more) (length p) fault.field (in_front p more whole) cut.2
]
stands size at p more TooLong whole few ends =
    packet_cut (take (most_bytes - at) (p ++ more)) (length p) ends.1.0
    (packet_alone (p ++ more) (most_bytes - at) (length p) (omega (arith, few)) (in_front p more whole)) ends.1.1

same_fronts : (xs ys us vs : List ℕ) → length xs ≡ length ys → xs ++ us ≡ ys ++ vs → (xs ≡ ys) × (us ≡ vs)
same_fronts [] [] us vs size is = (refl, is)
same_fronts [] (y ∷ ys) us vs size is = absurd (omega (arith, size))
same_fronts (x ∷ xs) [] us vs size is = absurd (omega (arith, size))
same_fronts (x ∷ xs) (y ∷ ys) us vs size is =
    let cut : x ∷ (xs ++ us) ≡ y ∷ (ys ++ vs) = is in
    let more = same_fronts xs ys us vs (omega (arith, size)) cc in
    let first : x ≡ y = cc in
    (ap₂ (λ (z : ℕ) (zs : List ℕ). z ∷ zs) first more.0, more.1)

front_by : (size at : ℕ) (packets all : List (List ℕ)) (more rest : List ℕ) (ending : CaptureEnding) → All IsWhole packets → All IsWhole all
    → concat packets ++ more ≡ concat all ++ rest → at + length (concat packets) ≤ most_bytes → EndsWith size (at + length (concat all)) rest ending
    → (later : List (List ℕ)) × (all ≡ packets ++ later)
front_by size at [] all more rest ending whole wholes is few ends = (all, refl)
front_by size at (p ∷ packets) [] more rest ending whole wholes is few ends =
    let same : rest ≡ p ++ (concat packets ++ more) = sym is ∙ append_assoc p (concat packets) more in
    let P : List ℕ → Type 0 = λ l. EndsWith size (at + 0) l ending in
    let both : length (p ++ concat packets) ≡ length p + length (concat packets) = length-append p (concat packets) in
    absurd (stands size (at + 0) p (concat packets ++ more) ending (All-head IsWhole p packets whole) (omega (arith, few, both)) (subst P same ends))
front_by size at (p ∷ packets) (q ∷ all) more rest ending whole wholes is few ends =
    let a : p ++ (concat packets ++ more) ≡ q ++ (concat all ++ rest) = sym (append_assoc p (concat packets) more) ∙ is ∙ append_assoc q (concat all) rest in
    let P : List ℕ → Type 0 = λ l. BytesBegin l (Packet (length q)) in
    let m : length p ≡ length q =
    same_packet (p ++ (concat packets ++ more)) (length p) (length q) (in_front p (concat packets ++ more) (All-head IsWhole p packets whole))
    (subst P (sym a) (in_front q (concat all ++ rest) (All-head IsWhole q all wholes))) in
    let (front, behind) = same_fronts p q (concat packets ++ more) (concat all ++ rest) m a in
    let both : length (p ++ concat packets) ≡ length p + length (concat packets) = length-append p (concat packets) in
    let others : length (q ++ concat all) ≡ length q + length (concat all) = length-append q (concat all) in
    let Q : ℕ → Type 0 = λ n. EndsWith size n rest ending in
    let place : at + length (q ++ concat all) ≡ at + length p + length (concat all) = omega (arith, others, m) in
    let (later, are) = front_by size (at + length p) packets all more rest ending (All-tail IsWhole p packets whole) (All-tail IsWhole q all wholes)
    behind (omega (arith, few, both)) (subst Q place ends) in
    (later, ap₂ (λ (x : List ℕ) (xs : List (List ℕ)). x ∷ xs) (sym front) are)

-- packets that the bytes of a capture begin with are its first
pub packets_front : PacketsInFront
packets_front bytes packets all more ending whole is few of =
    let P : ℕ → Type 0 = λ n. EndsWith (length bytes) n of.rest ending in
    front_by (length bytes) 0 packets all more of.rest ending whole of.whole (sym is ∙ of.is) (omega (arith, few)) (subst P (omega arith) of.ends)
