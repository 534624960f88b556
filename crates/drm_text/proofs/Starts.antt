-- No piece but a start is four bytes FF.
use Rattle.std.proofs.Common.{◌≡◌, ℕ, zero, suc, ◌+◌, ◌-◌, ◌*◌, ◌/◌, ◌%◌, ◌<◌, ◌≤◌, nat_lt, inl, inr, Bool, true, false, if◌then◌else◌, List, [], ◌∷◌, ◌++◌, length, take, drop, replicate, get_or, Some, None, refl, sym, ap, subst, ◌∙◌, arith, length-append}
use Rattle.std.specs.Int.{w16, to_be_bytes, from_bool}
use Rattle.std.specs.List.{AllByRecursion}
use Rattle.std.specs.Str.{IsUtf8}
use Rattle.std.proofs.lemmas.Bool.{cases_lt, cases_Bool, and_parts, lt-ltb, le-ltb}
use Rattle.std.proofs.lemmas.List.{get_or-take, get_or-drop, get_or_append_left, get_or-append_right, get_or-replicate, get_or_past, length-replicate}
use lib.Utf8.{scalar, scalars, encode, encodes, scalar_cases}
use Rattle.drm_text.specs.Segment.{Segment, head, front, round_up, IsSegment}
use Rattle.drm_text.specs.Message.{start, segment_at, piece_at}
use Rattle.drm_text.specs.Laws.{OnlyStarts}

-- the bytes of a text are below FF
abbrev pub IsPlain : ℕ → Type 0
IsPlain byte = byte < 255

scalar_small : (c : ℕ) → scalar c ≡ true → c < 1114112
scalar_small c is =
    elim (scalar_cases c is) [
      | inl low ↦ omega (arith, low)
      | inr high ↦ high.1
    ]

encode_plain : (c : ℕ) → c < 1114112 → AllByRecursion IsPlain (encode c)
unfolding encode
encode_plain c small =
    elim (cases_lt c 128) [
      | inl a ↦ rw (lt-ltb c 128 a) ((omega arith, tt))
      | inr a ↦
          elim (cases_lt c 2048) [
            | inl b ↦ rw (le-ltb c 128 a, lt-ltb c 2048 b) ((omega arith, (omega arith, tt)))
            | inr b ↦
                elim (cases_lt c 65536) [
                  | inl d ↦ rw (le-ltb c 128 a, le-ltb c 2048 b, lt-ltb c 65536 d) ((omega arith, (omega arith, (omega arith, tt))))
                  | inr d ↦ rw (le-ltb c 128 a, le-ltb c 2048 b, le-ltb c 65536 d) ((omega arith, (omega arith, (omega arith, (omega arith, tt)))))
                ]
          ]
    ]

pub all_append : (xs ys : List ℕ) → AllByRecursion IsPlain xs → AllByRecursion IsPlain ys → AllByRecursion IsPlain (xs ++ ys)
all_append [] ys h k = k
all_append (x ∷ xs) ys h k = (h.0, all_append xs ys h.1 k)

pub all_take : (n : ℕ) (xs : List ℕ) → AllByRecursion IsPlain xs → AllByRecursion IsPlain (take n xs)
all_take zero xs h = tt
all_take (suc n) [] h = tt
all_take (suc n) (x ∷ xs) h = (h.0, all_take n xs h.1)

pub all_drop : (n : ℕ) (xs : List ℕ) → AllByRecursion IsPlain xs → AllByRecursion IsPlain (drop n xs)
all_drop zero xs h = h
all_drop (suc n) [] h = tt
all_drop (suc n) (x ∷ xs) h = all_drop n xs h.1

encodes_plain : (cs : List ℕ) → scalars cs ≡ true → AllByRecursion IsPlain (encodes cs)
encodes_plain [] is = tt
encodes_plain (c ∷ cs) is =
    let parts = and_parts (scalar c) (scalars cs) is in
    all_append (encode c) (encodes cs) (encode_plain c (scalar_small c parts.0)) (encodes_plain cs parts.1)

pub text_plain : (text : List ℕ) → IsUtf8 text → AllByRecursion IsPlain text
text_plain text is = let P : List ℕ → Type 0 = λ l. AllByRecursion IsPlain l in subst P is.1.1 (encodes_plain is.0 is.1.0)

plain_at : (xs : List ℕ) (i : ℕ) → AllByRecursion IsPlain xs → get_or xs i 0 < 255
plain_at [] i h = omega arith
plain_at (x ∷ xs) zero h = h.0
plain_at (x ∷ xs) (suc i) h = plain_at xs i h.1

flag_lt : (b : Bool) → from_bool b < 2
flag_lt true = omega arith
flag_lt false = omega arith

zero_at : (n i : ℕ) → ◌≡◌ {A = ℕ} (get_or (replicate n 0) i 0) 0
zero_at n i =
    let none : ℕ = 0 in
    elim (cases_lt i n) [
      | inl lt ↦ get_or-replicate n i none none lt
      | inr ge ↦ get_or_past (replicate n none) i none (omega (arith, length-replicate n none))
    ]

-- a byte of the body stands two places further on
body_at : (s : Segment) (p : ℕ) → 2 ≤ p → get_or (front s) p 0 ≡ get_or s.body (p - 2) 0
body_at s p some =
    let at : p ≡ suc (suc (p - 2)) = omega arith in
    ap (λ n. get_or (front s) n 0) at

-- of two places with one between them, one has no byte FF behind the first piece of a segment
not_both : (s : Segment) (bytes : List ℕ) (p : ℕ) → AllByRecursion IsPlain s.body → IsSegment s bytes → 4 ≤ p → get_or bytes p 0 ≡ 255 → get_or bytes (p + 2) 0 ≡ 255 → ⊥
not_both s bytes p plain is behind here later =
    let check : List ℕ = to_be_bytes w16 is.0 in
    let zeros : List ℕ = replicate (round_up (length s.body) - length s.body) 0 in
    let size : length (front s ++ check) ≡ length s.body + 4 = omega (arith, length-append (front s) check) in
    elim (cases_lt p (length s.body + 2)) [
      | inl lt ↦
          let there : get_or bytes p 0 ≡ get_or s.body (p - 2) 0 =
          ap (λ l. get_or l p 0) is.1.spelled
          ∙ (get_or_append_left (front s ++ check) zeros 0 p (omega (arith, size, lt))
          ∙ (get_or_append_left (front s) check 0 p (omega (arith, lt)) ∙ body_at s p (omega arith))) in
          absurd (omega (arith, there, here, plain_at s.body (p - 2) plain))
      | inr ge ↦
          let there : get_or bytes (p + 2) 0 ≡ 0 =
          ap (λ l. get_or l (p + 2) 0) is.1.spelled
          ∙ (get_or-append_right (front s ++ check) zeros (length s.body + 4) (p + 2) 0 size (omega (arith, ge)) ∙ zero_at (round_up (length s.body) - length s.body) (p + 2 - (length s.body + 4))) in
          absurd (omega (arith, there, later))
    ]

-- the bytes of a piece
byte_of : (bytes : List ℕ) (at j : ℕ) → j < 4 → start ≡ take 4 (drop at bytes) → get_or bytes (at + j) 0 ≡ get_or start j 0
byte_of bytes at j few is =
    sym (get_or-drop at bytes j 0) ∙ (sym (get_or-take 4 (drop at bytes) j 0 few) ∙ ap (λ l. get_or l j 0) (sym is))

pub later_piece : (s : Segment) (bytes : List ℕ) (i : ℕ) → AllByRecursion IsPlain s.body → IsSegment s bytes → start ≡ take 4 (drop (i * 4) bytes) → ⊥
later_piece s bytes zero plain is piece =
    let none : 0 * 4 + 0 ≡ 0 = omega arith in
    let first : head s ≡ 255 = sym (ap (λ l. get_or l 0 0) is.1.spelled) ∙ (ap (λ n. get_or bytes n 0) (sym none) ∙ byte_of bytes (0 * 4) 0 (omega arith) piece) in
    absurd (omega (arith, first, is.1.few, is.1.some, flag_lt s.toggle, flag_lt s.first, flag_lt s.last))
later_piece s bytes (suc i) plain is piece =
    let none : suc i * 4 + 0 ≡ suc i * 4 = omega arith in
    not_both s bytes (suc i * 4) plain is (omega arith) (ap (λ n. get_or bytes n 0) (sym none) ∙ byte_of bytes (suc i * 4) 0 (omega arith) piece) (byte_of bytes (suc i * 4) 2 (omega arith) piece)

same_some : (x y : List ℕ) → Some x ≡ Some y → x ≡ y
same_some x y is = cc

never : (x : List ℕ) → Some x ≡ None → ⊥
never x is = cc

by_place : (s : Segment) (bytes : List ℕ) (place : ℕ) → AllByRecursion IsPlain s.body → IsSegment s bytes → Some start ≡ piece_at bytes place → place ≡ 0
by_place s bytes zero plain is piece = refl
by_place s bytes (suc i) plain is piece =
    elim (cases_Bool (nat_lt (i * 4) (length bytes))) [
      | inl there ↦
          absurd (later_piece s bytes i plain is (same_some start _ (piece ∙ ap (λ b. if b then Some (take 4 (drop (i * 4) bytes)) else None) there)))
      | inr past ↦ absurd (never start (piece ∙ ap (λ b. if b then Some (take 4 (drop (i * 4) bytes)) else None) past))
    ]

pub only_starts : OnlyStarts
only_starts toggle message k text is =
    elim (cases_lt (k / 6 * 16) (length message)) [
      | inl within ↦
          let w = is.there within in
          by_place (segment_at toggle message (k / 6)) w.0 (k % 6) (all_take 16 (drop (k / 6 * 16) message) (all_drop (k / 6 * 16) message (text_plain message text))) w.1 w.2
      | inr past ↦ absurd (never start (is.past past))
    ]
