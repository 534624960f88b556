-- A reading breaks off exactly where its input says so.
use Rattle.std.proofs.Common.{ℕ, ◌≡◌, ◌+◌, inl, inr, List, [], ◌∷◌, ◌++◌, length, take, sym, ap, subst, ◌∙◌, arith, length-append}
use Rattle.std.specs.List.{concat}
use Rattle.std.proofs.Math.Seq.{take-append_seam}
use Rattle.std.proofs.lemmas.List.{append-nil}
use Rattle.recv_reading.proofs.Common.{CollectorItem, Known, Input, InputsBytes}
use Rattle.drm_links.proofs.KnownLemmas.{InputsBytes-weaker}
use Rattle.capture_reader.specs.Capture.{IsCaptureOf, CaptureEnding, End}
use Rattle.capture_reader.specs.Laws.{ReadOneWay}
use Rattle.law_capture.specs.Laws.{PacketsInFront}
use Rattle.capture_reader.specs.declared.packets.CaptureStop.{CaptureStop}
use Rattle.recv_reading.specs.Packets.{HasEnough, NoneShorter, AreEnough, BreaksOffBy}
use Rattle.recv_reading.specs.declared.options.PacketRange.{PacketRange}
use Rattle.recv_reading.specs.Given.{GivesAll, GivesUntil}

-- fewer packets than these aren't enough, nor are these
pub none_in_front : (range : PacketRange) (packets others rest : List (List ℕ)) → NoneShorter range others → (HasEnough range others → ⊥) → others ≡ packets ++ rest → HasEnough range packets → ⊥
none_in_front range packets others [] shorter lacks is enough = lacks (subst (HasEnough range) (sym (is ∙ append-nil packets)) enough)
none_in_front range packets others (x ∷ rest) shorter lacks is enough =
    let long : length others ≡ length packets + length (x ∷ rest) = ap length is ∙ length-append packets (x ∷ rest) in
    let front : take (length packets) others ≡ packets = ap (take (length packets)) is ∙ take-append_seam packets (x ∷ rest) in
    shorter (length packets) (omega (arith, long)) (subst (HasEnough range) (sym front) enough)

-- where all items are given it doesn't break off
pub all_unbroken : ReadOneWay → PacketsInFront → (range : PacketRange) (items : List CollectorItem) (before after : Known Input) → GivesAll range items before after
    → InputsBytes before after (λ left _. (why : CaptureEnding) → BreaksOffBy range left why → ⊥)
all_unbroken one_way in_front range items before after gives = by gives.enough
  where
    by : AreEnough range gives.packets before after → InputsBytes before after (λ left _. (why : CaptureEnding) → BreaksOffBy range left why → ⊥)
    by (inl ((reader, read), enough)) =
        InputsBytes-weaker (λ left rest. left ≡ concat gives.packets ++ (reader.held ++ rest)) (λ left _. (why : CaptureEnding) → BreaksOffBy range left why → ⊥) before after read.bytes
        (λ left more same why breaks.
        let (rest, are) = in_front left gives.packets breaks.packets (reader.held ++ more) why read.whole same (omega (arith, read.at, read.few)) breaks.is in
        none_in_front range gives.packets breaks.packets rest breaks.shorter breaks.lacks are enough)
    by (inr all) =
        InputsBytes-weaker (λ left rest. IsCaptureOf left gives.packets End) (λ left _. (why : CaptureEnding) → BreaksOffBy range left why → ⊥) before after all
        (λ left more of why breaks. breaks.faulty (one_way left breaks.packets gives.packets why End breaks.is of).1)

-- what a reading of these bytes breaks off by, and nothing else
pub record BreaksBy (range : PacketRange) (bytes : List ℕ) (why : CaptureEnding) : Type 0 where
  pub breaks : BreaksOffBy range bytes why
  pub only : (other : CaptureEnding) → BreaksOffBy range bytes other → why ≡ other

-- where no more can be read, it breaks off by what stands there
pub until_breaks : ReadOneWay → (range : PacketRange) (stop : CaptureStop) (items : List CollectorItem) (before after : Known Input) (why : CaptureEnding) → (gives : GivesUntil range stop items before after)
    → (why ≡ End → ⊥) → InputsBytes before after (λ left rest. IsCaptureOf left gives.packets why) → InputsBytes before after (λ left _. BreaksBy range left why)
until_breaks one_way range stop items before after why gives faulty stops =
    InputsBytes-weaker (λ left rest. IsCaptureOf left gives.packets why) (λ left _. BreaksBy range left why) before after stops
    (λ left more of. record {
      breaks = record { packets = gives.packets; is = of; faulty = faulty; lacks = gives.lacks; shorter = gives.shorter };
      only = λ other breaks. (one_way left gives.packets breaks.packets why other of breaks.is).1;
    })
