-- What a walker gives is the capture that was put.
use Rattle.std.proofs.Common.{◌≡◌, ◌≢◌, ℕ, ◌+◌, ◌-◌, ◌<◌, ◌≤◌, List, [], ◌∷◌, ◌++◌, length, take, drop, Option, None, Some, Result, Ok, Err, sym, subst, ap, ap₂, ◌∙◌, refl, arith, append_assoc, length-append}
use Rattle.std.specs.Prelude.{All}
use Rattle.std.specs.List.{concat}
use Rattle.std.proofs.lemmas.List.{append-nil, take_at, take-append-drop, length-take-le}
use Rattle.std.proofs.lemmas.List.Elements.{All-nil, All-push}
use Rattle.std.proofs.lemmas.List.Folds.{concat-append}
use Rattle.capture_reader.specs.declared.fault.CaptureField.{CaptureField}
use Rattle.capture_reader.specs.declared.fault.CaptureFault.{CaptureFault}
use Rattle.capture_reader.specs.declared.packet.Packet.{Packet as Given}
use Rattle.capture_reader.specs.Front.{Front, Packet, Wrong, Cut, BytesBegin, IsWhole}
use Rattle.capture_reader.specs.Walking.{WalkerState, WalkerGives, IsDue, HasWalked, new_walker, after_packet}
use Rattle.capture_reader.specs.Laws.{FrontsStay, WalksCaptures}
use Rattle.capture_reader.proofs.FrontLaws.{one_front, packet_in_front, wrong_in_front, packet_alone, packet_size}
use Rattle.capture_reader.proofs.ReadingLemmas.{wrong_of, cut_of, end_of}

-- ---- whatever comes behind

front_of_more : (bytes more : List ℕ) → take (length bytes) (bytes ++ more) ≡ bytes
front_of_more bytes more = take_at bytes more (length bytes) refl

pub fronts_stay : FrontsStay
fronts_stay bytes more = (
  λ n front.
      let P : List ℕ → Type 0 = λ l. BytesBegin l (Packet n) in
      packet_in_front (bytes ++ more) (length bytes) n (subst P (sym (front_of_more bytes more)) front),
  λ field front.
      let P : List ℕ → Type 0 = λ l. BytesBegin l (Wrong field) in
      wrong_in_front (bytes ++ more) (length bytes) field (subst P (sym (front_of_more bytes more)) front),
)

-- ---- a walk

walked_one : (bytes : List ℕ) (packets : List (List ℕ)) (walker : WalkerState) (n : ℕ) → HasWalked bytes packets walker → BytesBegin walker.held (Packet n) → HasWalked bytes (packets ++ take n walker.held ∷ []) (after_packet n walker)
walked_one bytes packets walker n walked front =
    let p : List ℕ = take n walker.held in
    let size : length (take n walker.held) ≡ n = length-take-le n walker.held (packet_size walker.held n front).2 in
    let P : ℕ → Type 0 = λ k. BytesBegin (take n walker.held) (Packet k) in
    let all : concat (packets ++ take n walker.held ∷ []) ≡ concat packets ++ take n walker.held = concat-append packets (take n walker.held ∷ []) ∙ ap (λ l. concat packets ++ l) (append-nil (take n walker.held)) in
    record {
      whole = All-push IsWhole packets (take n walker.held) walked.whole (subst P (sym size) (packet_alone walker.held n n (omega arith) front));
      at = omega (arith, walked.at, size, ap length all, length-append (concat packets) (take n walker.held));
      is = walked.is ∙ (ap (λ l. concat packets ++ l) (sym (take-append-drop n walker.held)) ∙ (sym (append_assoc (concat packets) (take n walker.held) (drop n walker.held)) ∙ ap (λ l. l ++ drop n walker.held) (sym all)));
    }

walked_more : (bytes more : List ℕ) (packets : List (List ℕ)) (walker : WalkerState) → HasWalked bytes packets walker → bytes ++ more ≡ concat packets ++ (walker.held ++ more)
walked_more bytes more packets walker walked = ap (λ l. l ++ more) walked.is ∙ append_assoc (concat packets) walker.held more

walked_size : (bytes : List ℕ) (packets : List (List ℕ)) (walker : WalkerState) → HasWalked bytes packets walker → length bytes ≡ walker.at + length walker.held
walked_size bytes packets walker walked = omega (arith, walked.at, ap length walked.is, length-append (concat packets) walker.held)

pub walks_captures : WalksCaptures
walks_captures = record {
  begins = record { whole = All-nil IsWhole; at = refl; is = refl };
  puts = λ bytes more packets walker walked. record { whole = walked.whole; at = walked.at; is = walked_more bytes more packets walker walked };
  gives = walked_one;
  wrong = λ bytes more packets walker field walked few front.
      wrong_of packets walker.at walker.held (bytes ++ more) more (record { at = walker.at; field = field }) walked.whole walked.at (omega (arith, few, walked_size bytes packets walker walked)) refl front (walked_more bytes more packets walker walked);
  cut = λ bytes packets walker field walked few some front.
      cut_of packets walker.at walker.held bytes [] (record { at = walker.at; field = field }) walked.whole walked.at (omega (arith, few, walked_size bytes packets walker walked)) refl some front
      (walked.is ∙ ap (λ l. concat packets ++ l) (sym (append-nil walker.held))) refl;
  ends = λ bytes packets walker walked few none.
      end_of packets walker.held bytes [] walked.whole (omega (arith, few, walked.at, walked_size bytes packets walker walked)) none (walked.is ∙ ap (λ l. concat packets ++ l) (sym (append-nil walker.held))) refl;
}
