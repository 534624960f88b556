-- What is read of an input is a capture, as far as it goes.
use Rattle.std.proofs.Common.{◌≡◌, ◌≢◌, ℕ, ◌+◌, ◌-◌, ◌<◌, ◌≤◌, ◌⊎◌, Bool, true, false, List, [], ◌∷◌, ◌++◌, length, take, drop, Option, None, Some, Result, Ok, Err, sym, subst, ap, ◌∙◌, refl, inl, inr, arith, append_assoc, length-append}
use Rattle.std.specs.Prelude.{All, IfErr}
use Rattle.std.specs.List.{concat}
use Rattle.std.proofs.lemmas.List.{append-nil, take-take, take_at, length-take-le, take-append-drop}
use Rattle.std.proofs.lemmas.List.Elements.{All-push}
use Rattle.std.proofs.lemmas.List.Folds.{concat-append}
use Rattle.drm_links.specs.Known.{Known, Throughout}
use Rattle.drm_links.specs.Source.{Input, InputsBytes, LeftBy}
use Rattle.drm_links.proofs.KnownLemmas.{InputsBytes-then, InputsBytes-weaker, InputsBytes-both}
use Rattle.capture_reader.specs.declared.fault.CaptureField.{CaptureField}
use Rattle.capture_reader.specs.declared.fault.CaptureFault.{CaptureFault}
use Rattle.capture_reader.specs.declared.packet.Packet.{Packet as Given}
use Rattle.capture_reader.specs.declared.packets.CaptureStop.{CaptureStop}
use Rattle.capture_reader.specs.declared.packets.CaptureStop.TheVariants as stop
use Rattle.capture_reader.specs.Front.{Packet, Wrong, Cut, BytesBegin, IsWhole}
use Rattle.capture_reader.specs.Capture.{most_bytes, End, Fault, TooLong, EndsWith, IsCaptureOf}
use Rattle.capture_reader.specs.Walking.{WalkerState, IsPacketCut, after_packet, WalkerLeaves}
use Rattle.capture_reader.specs.Reading.{HasRead, HasNext, ReadingBreaks, ReadingStops, PacketGiven}
use Rattle.capture_reader.specs.Fetching.{BytesCame, IsFull, IsAtEnd, FindsPacket}
use Rattle.capture_reader.proofs.FrontLaws.{wrong_in_front, packet_alone, packet_size}

-- more bytes behind those that are held
pub read_on : (packets : List (List ℕ)) (old new : WalkerState) (before a b : Known Input) → HasRead packets old before a → BytesCame old new a b → HasRead packets new before b
read_on packets old new before a b read more = record {
  whole = read.whole;
  at = more.at ∙ read.at;
  few = more.few;
  room = omega (arith, read.room, more.room);
  bytes = InputsBytes-then (λ left rest. left ≡ concat packets ++ (old.held ++ rest)) (λ left rest. old.held ++ left ≡ new.held ++ rest) (λ left rest. left ≡ concat packets ++ (new.held ++ rest))
      before a b read.bytes more.bytes (λ x y z p q. p ∙ ap (λ l. concat packets ++ l) q);
}

-- the bytes of the packets and those that are held
few_of : (packets : List (List ℕ)) (reader : WalkerState) (before after : Known Input) → HasRead packets reader before after → length (concat packets) + length reader.held ≤ most_bytes
few_of packets reader before after read = omega (arith, read.at, read.few)

-- the input ends behind the packets
pub end_of : (packets : List (List ℕ)) (held left rest : List ℕ) → All IsWhole packets → length (concat packets) + length held ≤ most_bytes → held ≡ [] → left ≡ concat packets ++ (held ++ rest) → rest ≡ [] → IsCaptureOf left packets End
end_of packets held left rest whole few none is over =
    let all : left ≡ concat packets ++ [] = is ∙ ap (λ l. concat packets ++ l) (ap (λ l. l ++ rest) none ∙ over) in
    record {
      whole = whole;
      few = omega (arith, few);
      rest = [];
      is = all;
      ends = (refl, omega (arith, few, ap length (all ∙ append-nil (concat packets))));
    }

pub capture_ended : (packets : List (List ℕ)) (old new : WalkerState) (before a b : Known Input) → HasRead packets old before a → BytesCame old new a b → new.held ≡ [] → IsAtEnd a b
    → InputsBytes before b (λ left rest. IsCaptureOf left packets End)
capture_ended packets old new before a b read more none over =
    let now = read_on packets old new before a b read more in
    InputsBytes-then (λ left rest. left ≡ concat packets ++ (old.held ++ rest)) (λ left rest. (old.held ++ left ≡ new.held ++ rest) × (rest ≡ [])) (λ left rest. IsCaptureOf left packets End)
    before a b read.bytes (InputsBytes-both (λ left rest. old.held ++ left ≡ new.held ++ rest) (λ left rest. rest ≡ []) a b more.bytes over)
    (λ x y z p q. end_of packets new.held x z read.whole (few_of packets new before b now) none (p ∙ ap (λ l. concat packets ++ l) q.0) q.1)

-- a fault behind them, whatever comes
pub wrong_of : (packets : List (List ℕ)) (at : ℕ) (held left rest : List ℕ) (f : CaptureFault) → All IsWhole packets → at ≡ length (concat packets) → at + length held ≤ most_bytes → f.at ≡ at → BytesBegin held (Wrong f.field) → left ≡ concat packets ++ (held ++ rest)
    → IsCaptureOf left packets (Fault f)
wrong_of packets at held left rest f whole place few is wrong all =
    let n : ℕ = most_bytes - length (concat packets) in
    let P : List ℕ → Type 0 = λ l. BytesBegin l (Wrong f.field) in
    let front : take (length held) (take n (held ++ rest)) ≡ held = take-take (length held) n (held ++ rest) (omega (arith, place, few)) ∙ take_at held rest (length held) refl in
    record {
      whole = whole;
      few = omega (arith, place, few);
      rest = held ++ rest;
      is = all;
      ends = (is ∙ place, inl (wrong_in_front (take n (held ++ rest)) (length held) f.field (subst P (sym front) wrong)));
    }

-- the input ends inside a packet
pub cut_of : (packets : List (List ℕ)) (at : ℕ) (held left rest : List ℕ) (f : CaptureFault) → All IsWhole packets → at ≡ length (concat packets) → at + length held ≤ most_bytes → f.at ≡ at → held ≢ [] → BytesBegin held (Cut f.field) → left ≡ concat packets ++ (held ++ rest) → rest ≡ []
    → IsCaptureOf left packets (Fault f)
cut_of packets at held left rest f whole place few is some cut all over =
    let bytes : left ≡ concat packets ++ held = all ∙ ap (λ l. concat packets ++ l) (ap (λ l. held ++ l) over ∙ append-nil held) in
    record {
      whole = whole;
      few = omega (arith, place, few);
      rest = held;
      is = bytes;
      ends = (is ∙ place, inr (omega (arith, place, few, ap length bytes, length-append (concat packets) held), some, cut));
    }

-- more bytes come than a capture may have
long_of : (packets : List (List ℕ)) (at : ℕ) (held more left rest : List ℕ) (field : CaptureField) → All IsWhole packets → at ≡ length (concat packets) → at + length held ≡ most_bytes → BytesBegin held (Cut field) → 0 < length more → left ≡ concat packets ++ (held ++ (more ++ rest))
    → IsCaptureOf left packets TooLong
long_of packets at held more left rest field whole place full cut some all =
    let P : List ℕ → Type 0 = λ l. BytesBegin l (Cut field) in
    let front : take (most_bytes - length (concat packets)) (held ++ (more ++ rest)) ≡ held = take_at held (more ++ rest) (most_bytes - length (concat packets)) (omega (arith, place, full)) in
    record {
      whole = whole;
      few = omega (arith, place, full);
      rest = held ++ (more ++ rest);
      is = all;
      ends = (
        omega (arith, place, full, some, ap length all, length-append (concat packets) (held ++ (more ++ rest)), length-append held (more ++ rest), length-append more rest),
        (field, subst P (sym front) cut),
      );
    }

-- ---- by how the reading goes on

pub finds_more : (r : Result Bool CaptureStop) (old new : WalkerState) (a b : Known Input) → FindsPacket r old new a b → (packets : List (List ℕ)) (before : Known Input) → HasRead packets old before a → (r ≡ Err stop.TooLong → ⊥) → HasRead packets new before b
finds_more (Ok true) old new a b finds packets before read other = read_on packets old new before a b read finds.0
finds_more (Ok false) old new a b finds packets before read other = read_on packets old new before a b read finds.0
finds_more (Err stop.Read) old new a b finds packets before read other = read_on packets old new before a b read finds.0
finds_more (Err (stop.Capture f)) old new a b finds packets before read other = read_on packets old new before a b read finds.0
finds_more (Err stop.TooLong) old new a b finds packets before read other = absurd (other refl)

pub finds_next : (r : Result Bool CaptureStop) (old new : WalkerState) (a b : Known Input) → FindsPacket r old new a b → r ≡ Ok true → HasNext new
finds_next r old new a b finds is =
    let P : Result Bool CaptureStop → Type 0 = λ s. FindsPacket s old new a b in
    let found : FindsPacket (Ok true) old new a b = subst P is finds in
    found.1

pub finds_end : (r : Result Bool CaptureStop) (old new : WalkerState) (a b : Known Input) → FindsPacket r old new a b → (packets : List (List ℕ)) (before : Known Input) → HasRead packets old before a → r ≡ Ok false → InputsBytes before b (λ left rest. IsCaptureOf left packets End)
finds_end r old new a b finds packets before read is =
    let P : Result Bool CaptureStop → Type 0 = λ s. FindsPacket s old new a b in
    let over : FindsPacket (Ok false) old new a b = subst P is finds in
    capture_ended packets old new before a b read over.0 over.1 over.2

pub finds_stop : (r : Result Bool CaptureStop) (old new : WalkerState) (a b : Known Input) → FindsPacket r old new a b → (packets : List (List ℕ)) (before : Known Input) → HasRead packets old before a → IfErr r (λ stop. ReadingStops packets stop before b)
finds_stop (Ok found) old new a b finds packets before read = tt
finds_stop (Err stop.Read) old new a b finds packets before read =
    let now = read_on packets old new before a b read finds.0 in
    InputsBytes-weaker (λ left rest. left ≡ concat packets ++ (new.held ++ rest)) (ReadingBreaks packets) before b now.bytes (λ x y is. (new.held, finds.1.0, is, finds.1.1))
finds_stop (Err (stop.Capture f)) old new a b finds packets before read =
    let now = read_on packets old new before a b read finds.0 in
    elim finds.2 [
      | inl wrong ↦
          InputsBytes-weaker (λ left rest. left ≡ concat packets ++ (new.held ++ rest)) (λ left rest. IsCaptureOf left packets (Fault f)) before b now.bytes
          (λ x y is. wrong_of packets new.at new.held x y f now.whole now.at now.few finds.1 wrong is)
      | inr cut ↦
          InputsBytes-then (λ left rest. left ≡ concat packets ++ (old.held ++ rest)) (λ left rest. (old.held ++ left ≡ new.held ++ rest) × (rest ≡ [])) (λ left rest. IsCaptureOf left packets (Fault f))
          before a b read.bytes (InputsBytes-both (λ left rest. old.held ++ left ≡ new.held ++ rest) (λ left rest. rest ≡ []) a b finds.0.bytes cut.2)
          (λ x y z p q. cut_of packets new.at new.held x z f now.whole now.at now.few finds.1 cut.0 cut.1 (p ∙ ap (λ l. concat packets ++ l) q.0) q.1)
    ]
finds_stop (Err stop.TooLong) old new a b finds packets before read =
    let full = finds.0 in
    InputsBytes-then (λ left rest. left ≡ concat packets ++ (old.held ++ rest)) (λ left rest. (more : List ℕ) × (0 < length more) × (old.held ++ left ≡ new.held ++ (more ++ rest))) (λ left rest. IsCaptureOf left packets TooLong)
    before a b read.bytes full.more
    (λ x y z p q. long_of packets new.at new.held q.0 x z finds.1.0 read.whole (full.at ∙ read.at) full.full finds.1.1 q.1 (p ∙ ap (λ l. concat packets ++ l) q.2))

-- ---- a packet is given

pub read_one : (packets : List (List ℕ)) (packet : List ℕ) (old new : WalkerState) (before after : Known Input) → IsWhole packet → old.held ≡ packet ++ new.held → new.at ≡ old.at + length packet → HasRead packets old before after → HasRead (packets ++ packet ∷ []) new before after
read_one packets packet old new before after whole held at read =
    let all : concat (packets ++ packet ∷ []) ≡ concat packets ++ packet = concat-append packets (packet ∷ []) ∙ ap (λ l. concat packets ++ l) (append-nil packet) in
    record {
      whole = All-push IsWhole packets packet read.whole whole;
      at = omega (arith, at, read.at, ap length all, length-append (concat packets) packet);
      few = omega (arith, at, read.few, ap length held, length-append packet new.held);
      room = omega (arith, read.room, ap length held, length-append packet new.held);
      bytes = InputsBytes-weaker (λ left rest. left ≡ concat packets ++ (old.held ++ rest)) (λ left rest. left ≡ concat (packets ++ packet ∷ []) ++ (new.held ++ rest)) before after read.bytes
          (λ x y is. is ∙ (ap (λ l. concat packets ++ l) (ap (λ l. l ++ y) held ∙ append_assoc packet new.held y) ∙ (sym (append_assoc (concat packets) packet (new.held ++ y)) ∙ ap (λ l. l ++ (new.held ++ y)) (sym all))));
    }

-- what is given of a walker that has a packet
pub record GaveOf (start : ℕ) (packet : List ℕ) (old new : WalkerState) : Type 0 where
  pub at : start ≡ old.at
  pub whole : IsWhole packet
  pub front : old.held ≡ packet ++ drop (length packet) old.held
  pub gave : PacketGiven packet old new

pub gave_one : (at n : ℕ) (packet : List ℕ) (old new : WalkerState) → at ≡ old.at → BytesBegin old.held (Packet n) → packet ≡ take n old.held → new ≡ after_packet (length packet) old → GaveOf at packet old new
gave_one at n packet old new place begins is after =
    let few = packet_size old.held n begins in
    let size : length packet ≡ n = ap length is ∙ length-take-le n old.held few.2 in
    let front : packet ≡ take (length packet) old.held = is ∙ ap (λ k. take k old.held) (sym size) in
    let split : old.held ≡ packet ++ drop (length packet) old.held = sym (ap (λ l. l ++ drop (length packet) old.held) front ∙ take-append-drop (length packet) old.held) in
    let P : List ℕ → Type 0 = λ l. BytesBegin l (Packet n) in
    let Q : ℕ → Type 0 = λ k. BytesBegin packet (Packet k) in
    let whole : IsWhole packet = subst Q (sym size) (subst P (sym is) (packet_alone old.held n n (omega arith) begins)) in
    let held : old.held ≡ packet ++ new.held = split ∙ ap (λ (w : WalkerState). packet ++ w.held) (sym after) in
    let behind : new.at ≡ old.at + length packet = ap (λ (w : WalkerState). w.at) after in
    record {
      at = place;
      whole = whole;
      front = split;
      gave = record { whole = whole; held = held; at = behind; reads = λ packets a b read. read_one packets packet old new a b whole held behind read };
    }

-- what is left behind a packet that was given
pub leaves_one : (r : Result (Option Given) CaptureFault) (o : Option Given) (packet : Given) (old new : WalkerState) → r ≡ Ok o → o ≡ Some packet → WalkerLeaves r old new → new ≡ after_packet (length packet.bytes.now) old
leaves_one r o packet old new is some leaves =
    let P : Result (Option Given) CaptureFault → Type 0 = λ s. WalkerLeaves s old new in
    let Q : Option Given → Type 0 = λ s. WalkerLeaves (Ok s) old new in
    let left : WalkerLeaves (Ok (Some packet)) old new = subst Q some (subst P is leaves) in
    left
