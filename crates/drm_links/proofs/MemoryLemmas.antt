-- What the forms in memory tell before and after a call.
use Rattle.std.proofs.Common.{◌≡◌, ℕ, ◌^◌, ◌≤◌, Bool, true, false, List, ◌++◌, length, take, drop, nat_le, None, Some, if◌then◌else◌, refl, sym}
use Rattle.std.proofs.lemmas.Bool.{leb-true}
use Rattle.std.proofs.lemmas.List.{take-append-drop, take_at, length-take-le}
use Rattle.drm_links.specs.Known.{IfBoth, contents_for}
use Rattle.drm_links.specs.Source.{SourceTakes}
use Rattle.drm_links.specs.declared.source.ReadOut.TheVariants as read

-- what is told before and after, by the tests of the two numbers of calls
both_known_if : {T : Type 0} (before_known after_known : Bool) (before after : T) (P : T → T → Type 0) → (before_known ≡ true → P before after) → IfBoth (if before_known then Some before else None) (if after_known then Some after else None) P
both_known_if true true before after P holds = holds refl
both_known_if true false before after P holds = tt
both_known_if false after_known before after P holds = tt

pub both_known_for : {T : Type 0} (calls more : ℕ) (before after : T) (P : T → T → Type 0) → (calls ≤ 2 ^ 62 → P before after) → IfBoth (contents_for calls before) (contents_for more after) P
both_known_for calls more before after P holds =
    both_known_if (nat_le calls (2 ^ 62)) (nat_le more (2 ^ 62)) before after P (λ known. holds (leb-true calls (2 ^ 62) known))

-- what was put at the front of the buffer is the front of what was left
front-taken : (left rest : List ℕ) (n : ℕ) → n ≤ length left → left ≡ take n (take n left ++ rest) ++ drop n left
front-taken left rest n within =
    rw (take_at (take n left) rest n (length-take-le n left within)) (sym (take-append-drop n left))

pub Takes-from_front : (left after rest buf : List ℕ) (calls more n : ℕ) → n ≤ length left → buf ≡ take n left ++ rest → after ≡ drop n left → IfBoth (contents_for calls (record { left = left; calls = calls })) (contents_for more (record { left = after; calls = more })) (SourceTakes (read.Got n) buf)
Takes-from_front left after rest buf calls more n within is_buf is_after =
    both_known_for calls more _ _ (SourceTakes (read.Got n) buf)
    (λ _. rw (is_buf, is_after) (front-taken left rest n within))
