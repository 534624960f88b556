-- Texts that are written one after another.
use Rattle.std.proofs.Common.{◌≡◌, ℕ, List, ◌++◌, Result, Ok, Err, IsErr, refl, sym, ◌∙◌, ap, append_assoc}
use Rattle.drm_links.specs.Known.{Known, HasCause}
use Rattle.drm_links.specs.Sink.{Output, OutputsText, IsPrefix, IsPrefixBehind, WritesWhole}
use Rattle.drm_links.proofs.KnownLemmas.{counts_one, counts_none, once_then, counts_then, OutputsText-then, OutputsText-weaker}

-- ---- one text behind another

pub text_then : (xs ys : List ℕ) (a b c : Known Output) → OutputsText a b (λ t. t ≡ xs) → OutputsText b c (λ t. t ≡ ys) → OutputsText a c (λ t. t ≡ xs ++ ys)
text_then xs ys a b c first second =
    OutputsText-then (λ t. t ≡ xs) (λ t. t ≡ ys) (λ t. t ≡ xs ++ ys) a b c first second (λ s t p q. ap (λ l. l ++ t) p ∙ ap (λ l. xs ++ l) q)

-- a front of a text is a front of what begins with that text
pub front_more : (xs ys text : List ℕ) → IsPrefix xs text → IsPrefix (xs ++ ys) text
front_more xs ys text (rest, is) = (rest ++ ys, ap (λ l. l ++ ys) is ∙ append_assoc text rest ys)

-- a text, and a front of the next one
pub front_then : (xs ys : List ℕ) (a b c : Known Output) → OutputsText a b (λ t. t ≡ xs) → OutputsText b c (IsPrefix ys) → OutputsText a c (IsPrefix (xs ++ ys))
front_then xs ys a b c first second =
    OutputsText-then (λ t. t ≡ xs) (IsPrefix ys) (IsPrefix (xs ++ ys)) a b c first second
    (λ s t is (rest, front). (rest, ap (λ l. xs ++ l) front ∙ (sym (append_assoc xs t rest) ∙ ap (λ l. (l ++ t) ++ rest) (sym is))))

-- the same, where the first text is told apart
pub front_behind : (xs ys : List ℕ) (a b c : Known Output) → OutputsText a b (λ t. t ≡ xs) → OutputsText b c (IsPrefix ys) → OutputsText a c (IsPrefixBehind xs ys)
front_behind xs ys a b c first second = OutputsText-then (λ t. t ≡ xs) (IsPrefix ys) (IsPrefixBehind xs ys) a b c first second (λ s t is front. (t, front, ap (λ l. l ++ t) is))

pub front_of_both : (xs ys text : List ℕ) → IsPrefixBehind xs ys text → IsPrefix (xs ++ ys) text
front_of_both xs ys text (front, (rest, ys_is), text_is) =
    (rest, ap (λ l. xs ++ l) ys_is ∙ (sym (append_assoc xs front rest) ∙ ap (λ l. l ++ rest) (sym text_is)))

-- ---- what a writer says

-- all of the text was written
pub Writes-whole : {E : Type 0} (text : List ℕ) (a b : Known Output) → OutputsText a b (λ t. t ≡ text) → b.faults ≡ a.faults
    → (let done : Result (Unit {0}) E = Ok tt in WritesWhole done a b text)
Writes-whole text a b written same = record { whole = written; front = tt; cause = counts_none (λ failed. cc) same }

-- a front of the first text is a front of both
pub Writes-cut : {E F : Type 0} (s t : List ℕ) (a b : Known Output) (r : Result (Unit {0}) E) (other : E) (fault : F) → r ≡ Err other → WritesWhole r a b s
    → (let cut : Result (Unit {0}) F = Err fault in WritesWhole cut a b (s ++ t))
Writes-cut s t a b (Ok done) other fault is writes = cc
Writes-cut s t a b (Err same) other fault is writes =
    record {
      whole = tt;
      front = OutputsText-weaker (IsPrefix s) (IsPrefix (s ++ t)) a b writes.front (front_more s t);
      cause = counts_one refl (writes.cause.once refl);
    }

-- the second text behind the first one, which was written whole
pub Writes-then : {E F : Type 0} (s t : List ℕ) (a b c : Known Output) (first : Result (Unit {0}) F) (r : Result (Unit {0}) E) (done : Unit {0}) → first ≡ Ok done → WritesWhole first a b s
    → WritesWhole r b c t → WritesWhole r a c (s ++ t)
Writes-then s t a b c (Err fault) r done is writes second = cc
Writes-then s t a b c (Ok so) (Ok done) _ is writes second =
    record {
      whole = text_then s t a b c writes.whole second.whole;
      front = tt;
      cause = counts_then (writes.cause.same (λ failed. cc)) second.cause;
    }
Writes-then s t a b c (Ok so) (Err fault) done is writes second =
    record {
      whole = tt;
      front = front_then s t a b c writes.whole second.front;
      cause = counts_then (writes.cause.same (λ failed. cc)) second.cause;
    }

-- what was written, and a front of what is left
pub Writes-broken : {E F : Type 0} (whole s rest : List ℕ) (a b c : Known Output) (r : Result (Unit {0}) E) (other : E) (fault : F) → OutputsText a b (λ text. text ++ (s ++ rest) ≡ whole)
    → b.faults ≡ a.faults → r ≡ Err other → WritesWhole r b c s → (let broken : Result (Unit {0}) F = Err fault in WritesWhole broken a c whole)
Writes-broken whole s rest a b c (Ok done) other fault first still is second = cc
Writes-broken whole s rest a b c (Err other') other fault first still is second =
    record {
      whole = tt;
      front =
          OutputsText-then (λ text. text ++ (s ++ rest) ≡ whole) (IsPrefix s) (IsPrefix whole) a b c first second.front
          (λ x y is_x (left, is_y). (
            left ++ rest,
            sym is_x
                ∙ (ap (λ l. x ++ (l ++ rest)) is_y
                ∙ (ap (λ l. x ++ l) (append_assoc y left rest) ∙ sym (append_assoc x y (left ++ rest)))),
          ));
      cause = counts_one refl (once_then still (second.cause.once refl));
    }

-- what was written, and the next part of what is left
pub Writes-more : {E : Type 0} (whole s rest : List ℕ) (a b c : Known Output) (r : Result (Unit {0}) E) (done : Unit {0}) → OutputsText a b (λ text. text ++ (s ++ rest) ≡ whole)
    → r ≡ Ok done → WritesWhole r b c s → OutputsText a c (λ text. text ++ rest ≡ whole)
Writes-more whole s rest a b c (Err fault) done first is second = cc
Writes-more whole s rest a b c (Ok same) done first is second =
    OutputsText-then (λ text. text ++ (s ++ rest) ≡ whole) (λ text. text ≡ s) (λ text. text ++ rest ≡ whole) a b c first second.whole
    (λ x y is_x is_y. append_assoc x y rest ∙ (ap (λ l. x ++ (l ++ rest)) is_y ∙ is_x))

-- what was written, by how the call ended
pub Writes-done : {E : Type 0} {text : List ℕ} {a b : Known Output} {r : Result (Unit {0}) E} {done : Unit {0}} → r ≡ Ok done → WritesWhole r a b text → OutputsText a b (λ t. t ≡ text)
Writes-done {r = Ok same} is writes = writes.whole
Writes-done {r = Err fault} is writes = cc

pub Writes-front : {E : Type 0} {text : List ℕ} {a b : Known Output} {r : Result (Unit {0}) E} {fault : E} → r ≡ Err fault → WritesWhole r a b text → OutputsText a b (IsPrefix text)
Writes-front {r = Ok done} is writes = cc
Writes-front {r = Err same} is writes = writes.front

-- a front of a text, where the call failed
pub Writes-part : {E F : Type 0} (text : List ℕ) (a b c : Known Output) (r : Result (Unit {0}) E) (other : E) (fault : F) → OutputsText a c (IsPrefix text) → b.faults ≡ a.faults → r ≡ Err other
    → HasCause b c (IsErr r) → (let broken : Result (Unit {0}) F = Err fault in WritesWhole broken a c text)
Writes-part text a b c (Ok done) other fault front still is cause = cc
Writes-part text a b c (Err other') other fault front still is cause =
    record {
      whole = tt;
      front = front;
      cause = counts_one refl (once_then still (cause.once refl));
    }
