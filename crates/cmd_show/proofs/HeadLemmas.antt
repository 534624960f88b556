-- The head of an input, which is read into a buffer part by part.
use Rattle.std.proofs.Common.{◌≡◌, ℕ, ◌+◌, ◌<◌, ◌≤◌, List, [], ◌++◌, length, take, drop, min, Option, None, Some, sym, ◌∙◌, ap, arith, append_assoc}
use Rattle.std.proofs.lemmas.Grind.{common_steps}
use Rattle.std.proofs.lemmas.List.{append-nil, take-append-le, length-take-le, take_at, drop_at, take_all}
use Rattle.std.proofs.Math.Seq.{take-append-add}
use borrow.Rule.Slice.PartMut.{put_mid, post_of}
use Rattle.drm_links.specs.declared.source.ReadOut.TheVariants.{Got, End}
use Rattle.drm_links.specs.Known.{Known, IfBothKnown, CountsCall, CountsOneCall, Throughout}
use Rattle.drm_links.specs.Source.{Input, InputsBytes, SourceTakes}
use Rattle.drm_links.proofs.KnownLemmas.{InputsBytes-then, InputsBytes-got, InputsBytes-end, InputsBytes-weaker, Tells-weaker}
use Rattle.cmd_show.specs.Input.{ReadsHead, AsksAtMost, AskedAtMost}

-- the front of a buffer after one more read
front_more : (len n room : ℕ) (bytes buf : List ℕ) → length bytes ≡ len + room → n ≤ length buf → take (len + n) (put_mid len room bytes buf) ≡ take len bytes ++ take n buf
front_more len n room bytes buf size within =
    let front : length (take len bytes) ≡ len = length-take-le len bytes (omega (arith, size)) in
    ap (λ k. take (k + n) (put_mid len room bytes buf)) (sym front)
    ∙ (take-append-add (take len bytes) (buf ++ post_of len room bytes) n ∙ ap (λ l. take len bytes ++ l) (take-append-le n buf (post_of len room bytes) within))

pub got_more : (a b c : Known Input) (len n room : ℕ) (bytes buf : List ℕ) → length bytes ≡ len + room → 0 < n → n ≤ length buf → c.faults ≡ b.faults → InputsBytes a b (λ left rest. left ≡ take len bytes ++ rest) → IfBothKnown b c (SourceTakes (Got n) buf) → CountsCall (λ (i : Input). i.calls) b c → InputsBytes a c (λ left rest. left ≡ take (len + n) (put_mid len room bytes buf) ++ rest)
got_more a b c len n room bytes buf size some within still before takes counts =
    InputsBytes-then (λ left rest. left ≡ take len bytes ++ rest) (λ left rest. left ≡ take n buf ++ rest) (λ left rest. left ≡ take (len + n) (put_mid len room bytes buf) ++ rest) a b c before (InputsBytes-got n buf b c some within still takes counts)
    (λ x y z p q. p ∙ (ap (λ l. take len bytes ++ l) q ∙ (sym (append_assoc (take len bytes) (take n buf) z) ∙ ap (λ l. l ++ z) (sym (front_more len n room bytes buf size within)))))

-- one more call
pub asks_more : (m n : ℕ) (a b c : Known Input) → m < n → AsksAtMost m a b → CountsCall (λ (i : Input). i.calls) b c → AsksAtMost n a c
asks_more m n a b c more = asked a.contents b.contents c.contents
  where
    asked : (a b c : Option Input) → Throughout a b (AskedAtMost m) → CountsOneCall (λ (i : Input). i.calls) b c → Throughout a c (AskedAtMost n)
    asked a b None asks counts = tt
    asked a None (Some z) asks counts = cc
    asked None (Some y) (Some z) asks counts = absurd asks
    asked (Some x) (Some y) (Some z) asks counts = omega (arith, counts.0, asks, more)

asks_fewer : (m n : ℕ) (a b : Known Input) → m ≤ n → AsksAtMost m a b → AsksAtMost n a b
asks_fewer m n a b fewer asks = Tells-weaker (AskedAtMost m) (AskedAtMost n) a b asks (λ x y asked. omega (arith, asked, fewer))

-- the bytes in front of the rest are the first ten, where they are ten
first_ten : (head left rest : List ℕ) → length head ≡ 10 → left ≡ head ++ rest → (head ≡ take 10 left) × (rest ≡ drop 10 left)
first_ten head left rest ten is = (sym (ap (λ l. take 10 l) is ∙ take_at head rest 10 ten), sym (ap (λ l. drop 10 l) is ∙ drop_at head rest 10 ten))

-- the buffer is full
pub head_full : (a b : Known Input) (len : ℕ) (bytes : List ℕ) → length bytes ≡ 10 → len ≤ 10 → 10 ≤ len → InputsBytes a b (λ left rest. left ≡ take len bytes ++ rest) → AsksAtMost len a b → ReadsHead (take len bytes) a b
head_full a b len bytes size within full read asks =
    let ten : length (take len bytes) ≡ 10 = length-take-le len bytes (omega (arith, size, within)) ∙ omega (arith, within, full) in
    record {
      bytes = InputsBytes-weaker (λ left rest. left ≡ take len bytes ++ rest) (λ left rest. (take len bytes ≡ take 10 left) × (rest ≡ drop 10 left)) a b read (λ left rest is. first_ten (take len bytes) left rest ten is);
      asks = asks_fewer len (min 10 (length (take len bytes) + 1)) a b (omega (arith, ten, within)) asks;
      short = omega (arith, ten);
    }

whole_left : (head left : List ℕ) → length head ≤ 10 → left ≡ head → (head ≡ take 10 left) × ([] ≡ drop 10 left)
whole_left head left within is = (sym (take_all 10 left (omega (arith, ap length is, within)) ∙ is), grind (arith, common_steps, ap length is, within))

-- the input has ended
pub head_end : (a b c : Known Input) (len : ℕ) (bytes buf : List ℕ) → length bytes ≡ 10 → len < 10 → InputsBytes a b (λ left rest. left ≡ take len bytes ++ rest) → AsksAtMost len a b → c.faults ≡ b.faults → IfBothKnown b c (SourceTakes End buf) → CountsCall (λ (i : Input). i.calls) b c → ReadsHead (take len bytes) a c
head_end a b c len bytes buf size within before asks still takes counts =
    let some : length (take len bytes) ≡ len = length-take-le len bytes (omega (arith, size, within)) in
    let P : List ℕ → List ℕ → Type 0 = λ left rest. (take len bytes ≡ take 10 left) × (rest ≡ drop 10 left) in
    record {
      bytes = InputsBytes-then (λ left rest. left ≡ take len bytes ++ rest) (λ x y. (x ≡ []) × (y ≡ [])) P a b c before (InputsBytes-end buf b c still takes counts)
          (λ x y z p q. let e = whole_left (take len bytes) x (omega (arith, some, within)) (p ∙ (ap (λ l. take len bytes ++ l) q.0 ∙ append-nil (take len bytes))) in (e.0, q.1 ∙ e.1));
      asks = asks_more len (min 10 (length (take len bytes) + 1)) a b c (omega (arith, some, within)) asks counts;
      short = omega (arith, some, within);
    }
