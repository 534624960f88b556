-- One read of an input.
use Rattle.std.proofs.Common.{◌≡◌, ℕ, ◌+◌, ◌-◌, ◌<◌, ◌≤◌, List, ◌++◌, length, take, min, max, Err, sym, subst, ap, ◌∙◌, arith, append_assoc, length-append}
use Rattle.std.proofs.lemmas.List.{take-take, take_all, take-append-le, length-take-le}
use Rattle.drm_links.specs.Known.{Known, IfBothKnown, CountsCall}
use Rattle.drm_links.specs.Source.{Input, SourceTakes}
use Rattle.drm_links.specs.declared.source.ReadOut.TheVariants.{Got}
use Rattle.drm_links.proofs.KnownLemmas.{InputsBytes-got, InputsBytes-then, InputsBytes-weaker}
use Rattle.capture_reader.specs.Capture.{most_bytes}
use Rattle.capture_reader.specs.Walking.{WalkerState, IsPacketCut, after_put}
use Rattle.capture_reader.specs.declared.packets.CaptureStop.{CaptureStop}
use Rattle.capture_reader.specs.declared.packets.CaptureStop.TheVariants as stop
use Rattle.capture_reader.specs.Fetching.{BytesCame, IsFull, FetchesBytes, FindsPacket}
use Rattle.capture_reader.proofs.FrontLaws.{cut_size}

-- the front of a room that was written
pub front_same : (n len : ℕ) (lent buf more : List ℕ) → lent ≡ take len (buf ++ more) → n ≤ len → n ≤ length buf → take n lent ≡ take n buf
front_same n len lent buf more is low short = ap (λ l. take n l) is ∙ (take-take n len (buf ++ more) low ∙ take-append-le n buf more short)

-- bytes came, and all of them are put
pub fetch_got : (old new : WalkerState) (a b : Known Input) (n put left : ℕ) (buf lent : List ℕ) → IsPacketCut old → old.at + length old.held + left ≡ most_bytes
    → 0 < n → n ≤ length buf → n ≤ 65536 → n ≤ max left 1 → (left ≡ 0 → ⊥) → take n lent ≡ take n buf → b.faults ≡ a.faults
    → put ≡ min (length (take n lent)) (131072 - length old.held) → new ≡ after_put (take put (take n lent)) old
    → IfBothKnown a b (SourceTakes (Got n) buf) → CountsCall (λ (i : Input). i.calls) a b
    → BytesCame old new a b × (length old.held < length new.held)
fetch_got old new a b n put left buf lent cut size some whole room few more same still count is takes counts =
    let long : length (take n buf) ≡ n = length-take-le n buf whole in
    let long' : length (take n lent) ≡ n = ap length same ∙ long in
    let all : put ≡ n = omega (arith, count, long', room, cut_size old.held cut.0 cut.1) in
    let bytes : take put (take n lent) ≡ take n buf = take_all put (take n lent) (omega (arith, all, long')) ∙ same in
    let held : new.held ≡ old.held ++ take n buf = ap (λ (w : WalkerState). w.held) is ∙ ap (λ l. old.held ++ l) bytes in
    let place : new.at ≡ old.at = ap (λ (w : WalkerState). w.at) is in
    let size' : length new.held ≡ length old.held + n = omega (arith, ap length held, length-append old.held (take n buf), long) in (
      record {
        at = place;
        few = omega (arith, place, size', size, few, more);
        room = omega (arith, size', count, all, long');
        bytes = InputsBytes-weaker (λ x y. x ≡ take n buf ++ y) (λ left rest. old.held ++ left ≡ new.held ++ rest) a b (InputsBytes-got n buf a b some whole still takes counts)
            (λ x y e. ap (λ l. old.held ++ l) e ∙ (sym (append_assoc old.held (take n buf) y) ∙ ap (λ l. l ++ y) (sym held)));
      },
      omega (arith, size', some),
    )

-- bytes came, and there is no place for them in a capture
pub fetch_long : (old new : WalkerState) (a b : Known Input) (n taken : ℕ) (buf : List ℕ) → new ≡ old → taken ≡ new.at + length new.held → most_bytes - taken ≡ 0 → new.at + length new.held ≤ most_bytes
    → 0 < n → n ≤ length buf → b.faults ≡ a.faults → IfBothKnown a b (SourceTakes (Got n) buf) → CountsCall (λ (i : Input). i.calls) a b
    → (new ≡ old) × IsFull old new a b
fetch_long old new a b n taken buf same count none few some whole still takes counts =
    let long : length (take n buf) ≡ n = length-take-le n buf whole in (
      same,
      record {
        at = ap (λ (w : WalkerState). w.at) same;
        full = omega (arith, count, none, few);
        more = InputsBytes-weaker (λ x y. x ≡ take n buf ++ y) (λ left rest. (more : List ℕ) × (0 < length more) × (old.held ++ left ≡ new.held ++ (more ++ rest))) a b (InputsBytes-got n buf a b some whole still takes counts)
            (λ x y e. (take n buf, omega (arith, long, some), ap (λ l. old.held ++ l) e ∙ ap (λ (w : WalkerState). w.held ++ (take n buf ++ y)) (sym same)));
      },
    )

-- ---- one read behind others

pub fetched_then : (old mid new : WalkerState) (a b c : Known Input) → BytesCame old mid a b → BytesCame mid new b c → BytesCame old new a c
fetched_then old mid new a b c first second = record {
  at = second.at ∙ first.at;
  few = second.few;
  room = omega (arith, first.room, second.room);
  bytes = InputsBytes-then (λ left rest. old.held ++ left ≡ mid.held ++ rest) (λ left rest. mid.held ++ left ≡ new.held ++ rest) (λ left rest. old.held ++ left ≡ new.held ++ rest)
      a b c first.bytes second.bytes (λ x y z p q. p ∙ q);
}

full_then : (old mid new : WalkerState) (a b c : Known Input) → BytesCame old mid a b → IsFull mid new b c → IsFull old new a c
full_then old mid new a b c first second = record {
  at = second.at ∙ first.at;
  full = second.full;
  more = InputsBytes-then (λ left rest. old.held ++ left ≡ mid.held ++ rest) (λ left rest. (more : List ℕ) × (0 < length more) × (mid.held ++ left ≡ new.held ++ (more ++ rest)))
      (λ left rest. (more : List ℕ) × (0 < length more) × (old.held ++ left ≡ new.held ++ (more ++ rest)))
      a b c first.bytes second.more (λ x y z p q. (q.0, q.1, p ∙ q.2));
}

-- the last one fails
pub finds_broken : (old mid new : WalkerState) (a b c : Known Input) (why : CaptureStop) → BytesCame old mid a b → IsPacketCut mid → FetchesBytes (Err why) mid new b c → FindsPacket (Err why) old new a c
finds_broken old mid new a b c stop.Read first cut (same, second) = (fetched_then old mid new a b c first second, subst IsPacketCut (sym same) cut)
finds_broken old mid new a b c (stop.Capture fault) first cut never = absurd never
finds_broken old mid new a b c stop.TooLong first cut (same, second) = (full_then old mid new a b c first second, subst IsPacketCut (sym same) cut)
