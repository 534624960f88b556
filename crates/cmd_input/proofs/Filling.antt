-- An input that is read into a room, part by part.
use Rattle.std.proofs.Common.{◌≡◌, ℕ, ◌+◌, ◌<◌, ◌≤◌, List, [], ◌++◌, length, take, sym, ap, ◌∙◌, arith, append_assoc}
use Rattle.std.proofs.lemmas.List.{take-append-le, length-take-le}
use Rattle.std.proofs.Math.Seq.{take-append-add}
use borrow.Rule.Slice.PartMut.{put_mid, post_of}
use Rattle.drm_links.specs.declared.source.ReadOut.TheVariants.{Got, End, Failed}
use Rattle.drm_links.specs.Known.{Known, IfBothKnown, CountsCall, one_more}
use Rattle.drm_links.specs.Source.{Input, InputsBytes, SourceTakes}
use Rattle.drm_links.proofs.KnownLemmas.{InputsBytes-then, InputsBytes-got, InputsBytes-end, InputsBytes-failed}
use Rattle.cmd_input.specs.Input.{ReadsFirstBytes, FailsBehind}

-- these bytes stand in front, and nothing else was read
abbrev pub IsFilled : ℕ → List ℕ → Known Input → Known Input → Type 0
IsFilled len room a b = InputsBytes a b (λ left rest. left ≡ take len room ++ rest)

front_more : (len n size : ℕ) (room buf : List ℕ) → length room ≡ len + size → n ≤ length buf → take (len + n) (put_mid len size room buf) ≡ take len room ++ take n buf
front_more len n size room buf long within =
    let front : length (take len room) ≡ len = length-take-le len room (omega (arith, long)) in
    ap (λ k. take (k + n) (put_mid len size room buf)) (sym front)
    ∙ (take-append-add (take len room) (buf ++ post_of len size room) n ∙ ap (λ l. take len room ++ l) (take-append-le n buf (post_of len size room) within))

pub filled_more : (a b c : Known Input) (len n size : ℕ) (room buf : List ℕ) → length room ≡ len + size → 0 < n → n ≤ length buf → c.faults ≡ b.faults → IsFilled len room a b → IfBothKnown b c (SourceTakes (Got n) buf) → CountsCall (λ (i : Input). i.calls) b c
    → IsFilled (len + n) (put_mid len size room buf) a c
filled_more a b c len n size room buf long some within still before takes counts =
    InputsBytes-then (λ left rest. left ≡ take len room ++ rest) (λ left rest. left ≡ take n buf ++ rest) (λ left rest. left ≡ take (len + n) (put_mid len size room buf) ++ rest) a b c before (InputsBytes-got n buf b c some within still takes counts)
    (λ x y z p q. p ∙ (ap (λ l. take len room ++ l) q ∙ (sym (append_assoc (take len room) (take n buf) z) ∙ ap (λ l. l ++ z) (sym (front_more len n size room buf long within)))))

-- the room is full
pub filled_full : (a b : Known Input) (len : ℕ) (room : List ℕ) → len ≤ length room → length room ≤ len → IsFilled len room a b → ReadsFirstBytes (length room) (take len room) a b
filled_full a b len room within full filled =
    let size : length (take len room) ≡ len = length-take-le len room within in
    record { front = filled; all = λ short. absurd (omega (arith, short, size, full)); few = omega (arith, size, within) }

-- the input has ended
pub filled_end : (a b c : Known Input) (len : ℕ) (room buf : List ℕ) → len ≤ length room → IsFilled len room a b → c.faults ≡ b.faults → IfBothKnown b c (SourceTakes End buf) → CountsCall (λ (i : Input). i.calls) b c → ReadsFirstBytes (length room) (take len room) a c
filled_end a b c len room buf within filled still takes counts =
    let size : length (take len room) ≡ len = length-take-le len room within in
    let ended = InputsBytes-end buf b c still takes counts in
    record {
      front = InputsBytes-then (λ left rest. left ≡ take len room ++ rest) (λ x y. (x ≡ []) × (y ≡ [])) (λ left rest. left ≡ take len room ++ rest) a b c filled ended
          (λ x y z p q. p ∙ ap (λ l. take len room ++ l) (q.0 ∙ sym q.1));
      all = λ short. InputsBytes-then (λ left rest. left ≡ take len room ++ rest) (λ x y. (x ≡ []) × (y ≡ [])) (λ left rest. rest ≡ []) a b c filled ended (λ x y z p q. q.1);
      few = omega (arith, size, within);
    }

-- a read failed
pub filled_failed : (a b c : Known Input) (len : ℕ) (room buf : List ℕ) → len < length room → IsFilled len room a b → c.faults ≡ one_more b.faults → IfBothKnown b c (SourceTakes Failed buf) → CountsCall (λ (i : Input). i.calls) b c → FailsBehind (length room) a c
filled_failed a b c len room buf below filled rose takes counts =
    let size : length (take len room) ≡ len = length-take-le len room (omega (arith, below)) in (
      take len room,
      omega (arith, size, below),
      InputsBytes-then (λ left rest. left ≡ take len room ++ rest) (λ x y. y ≡ x) (λ left rest. left ≡ take len room ++ rest) a b c filled (InputsBytes-failed buf b c rose takes counts)
          (λ x y z p q. p ∙ ap (λ l. take len room ++ l) (sym q)),
    )
