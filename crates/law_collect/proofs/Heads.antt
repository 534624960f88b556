-- The heads of a packet's datagrams fit together, however it is cut.
use Rattle.std.proofs.Common.{ℕ, zero, suc, ◌≡◌, ◌+◌, ◌-◌, ◌*◌, ◌<◌, ◌≤◌, min, Bool, true, false, cond, ◌&&◌, ◌||◌, eqb, leb, Option, Some, None, refl, sym, ap, ◌∙◌, subst, arith}
use Rattle.std.proofs.Math.Nat.{mul-le-mul_left}
use Rattle.std.proofs.lemmas.Bool.{and_from, and_left, le-leb, lt-leb, eq-eqb, eqb-true, eqb-false}
use Rattle.dcp_pft.specs.declared.shape.Rs.{Rs}
use Rattle.dcp_pft.specs.declared.shape.Shape.{Shape}
use Rattle.dcp_pft.specs.Cutting.{chunks_of, coded_shape, shape_of, IsShapeOf}
use Rattle.dcp_pft.specs.Loss.{has_all, erased, chunks_stand, is_recoverable}
use Rattle.dcp_pft.proofs.Sizes.{Fits, plain_is}
use Rattle.dcp_pft.proofs.Shapes.{has_code, fits_of}
use Rattle.dcp_pft.proofs.Fragments.{with_rs}
use Rattle.dcp_collect.specs.declared.head.Head.{Head}
use Rattle.dcp_collect.specs.Fragments.{agree, shape_by, lengths_suit, same_bool}
use Rattle.law_collect.proofs.Sent.{payload_size}

-- the head of fragment i of a packet of so many bytes that is cut in this shape
abbrev pub cut_head : Shape → ℕ → ℕ → Head
cut_head shape len i = record { whole = false; count = shape.count; index = i; len = payload_size shape len i; rs = shape.rs }

-- without a code only the last fragment may be short
abbrev pub IsFull : Shape → ℕ → Type 0
IsFull shape len = shape.rs ≡ None → (shape.count - 1) * shape.piece ≤ len

-- nothing kept is not enough
all_erased : (count start n : ℕ) → erased count (λ i. false) start n ≡ n
unfolding erased
all_erased count start zero = refl
all_erased count start (suc n) = omega (arith, all_erased count start n)

no_chunk : (count bytes n : ℕ) → 48 < bytes → 0 < n → chunks_stand count (λ i. false) bytes n ≡ false
unfolding chunks_stand
no_chunk count bytes zero more some = absurd (omega arith)
no_chunk count bytes (suc n) more some =
    and_left (leb (erased count (λ i. false) (n * bytes) bytes) 48) (chunks_stand count (λ i. false) bytes n)
    (lt-leb (erased count (λ i. false) (n * bytes) bytes) 48 (omega (arith, all_erased count (n * bytes) bytes)))

pub none_all : (n : ℕ) → 0 < n → has_all n (λ i. false) ≡ false
unfolding has_all
none_all zero some = absurd (omega arith)
none_all (suc n) some = refl

needed_by : (shape : Shape) (o : Option Rs) → 0 < shape.count → ((rs : Rs) → o ≡ Some rs → (1 ≤ rs.k) × (0 < chunks_of (with_rs shape o)))
    → is_recoverable (with_rs shape o) (λ i. false) ≡ false
unfolding is_recoverable
needed_by shape None some code = none_all shape.count some
needed_by shape (Some rs) some code =
    let p = code rs refl in no_chunk shape.count (rs.k + 48) (chunks_of (with_rs shape (Some rs))) (omega (arith, p.0)) p.1

-- some fragment is needed
pub cut_needed : (len : ℕ) (shape : Shape) → IsShapeOf len shape → 0 < shape.count → is_recoverable shape (λ i. false) ≡ false
cut_needed len shape is some =
    needed_by shape shape.rs some (λ rs e. let c = has_code len shape rs is e in (c.size_some, c.some))

-- each head tells the shape, as far as a receiver needs it
same_by : (shape : Shape) (o : Option Rs) (len i : ℕ) (kept : ℕ → Bool)
    → is_recoverable (shape_by (cut_head (with_rs shape o) len i)) kept ≡ is_recoverable (with_rs shape o) kept
unfolding is_recoverable
same_by shape None len i kept = refl
same_by shape (Some rs) len i kept = refl

pub cut_same_shape : (shape : Shape) (len i : ℕ) (kept : ℕ → Bool) → is_recoverable (shape_by (cut_head shape len i)) kept ≡ is_recoverable shape kept
cut_same_shape shape len i kept = same_by shape shape.rs len i kept

-- lengths suit where only that of the last one may be less
suit_by : (a b same : Bool) (x y : ℕ) → (same ≡ true → x ≡ y) → (a ≡ b → x ≡ y) → (b ≡ false → x ≤ y) → (a ≡ false → y ≤ x)
    → cond (same || same_bool a b) (eqb x y) (cond a (leb x y) (leb y x)) ≡ true
suit_by a b true x y one alike less more = eq-eqb x y (one refl)
suit_by true true false x y one alike less more = eq-eqb x y (alike refl)
suit_by false false false x y one alike less more = eq-eqb x y (alike refl)
suit_by true false false x y one alike less more = le-leb x y (less refl)
suit_by false true false x y one alike less more = le-leb y x (more refl)

-- a fragment before the last one has a whole piece
whole_piece : (count piece len i : ℕ) → (count - 1) * piece ≤ len → i < count → eqb (i + 1) count ≡ false → min piece (len - i * piece) ≡ piece
whole_piece count piece len i full below before =
    let more : i + 1 < count = omega (arith, eqb-false (i + 1) count before) in
    let fits : piece * (i + 1) ≤ piece * (count - 1) = mul-le-mul_left piece (omega arith) in
    omega arith

alike_by : (count piece len i j : ℕ) → (count - 1) * piece ≤ len → i < count → j < count → (a b : Bool) → eqb (i + 1) count ≡ a → eqb (j + 1) count ≡ b → a ≡ b
    → min piece (len - i * piece) ≡ min piece (len - j * piece)
alike_by count piece len i j full u v true true p q e =
    let same : i ≡ j = omega (arith, eqb-true (i + 1) count p, eqb-true (j + 1) count q) in ap (λ n. min piece (len - n * piece)) same
alike_by count piece len i j full u v false false p q e = whole_piece count piece len i full u p ∙ sym (whole_piece count piece len j full v q)
alike_by count piece len i j full u v true false p q e = cc
alike_by count piece len i j full u v false true p q e = cc

plain_suit : (shape : Shape) (len i j : ℕ) → (shape.count - 1) * shape.piece ≤ len → i < shape.count → j < shape.count
    → lengths_suit (cut_head (with_rs shape None) len i) (cut_head (with_rs shape None) len j) ≡ true
plain_suit shape len i j full u v =
    let size : ℕ → ℕ = λ n. min shape.piece (len - n * shape.piece) in
    suit_by (eqb (i + 1) shape.count) (eqb (j + 1) shape.count) (eqb i j) (size i) (size j)
    (λ e. ap size (eqb-true i j e))
    (alike_by shape.count shape.piece len i j full u v (eqb (i + 1) shape.count) (eqb (j + 1) shape.count) refl refl)
    (λ e. omega (arith, whole_piece shape.count shape.piece len j full v e))
    (λ e. omega (arith, whole_piece shape.count shape.piece len i full u e))

agree_by : (shape : Shape) (o : Option Rs) (len i j : ℕ) → (o ≡ None → (shape.count - 1) * shape.piece ≤ len) → i < shape.count → j < shape.count
    → agree (cut_head (with_rs shape o) len i) (cut_head (with_rs shape o) len j) ≡ true
unfolding agree
agree_by shape None len i j full u v =
    and_from (eqb shape.count shape.count && true) (lengths_suit (cut_head (with_rs shape None) len i) (cut_head (with_rs shape None) len j))
    (rw (eq-eqb shape.count shape.count refl)) (plain_suit shape len i j (full refl) u v)
agree_by shape (Some rs) len i j full u v =
    rw (eq-eqb shape.count shape.count refl, eq-eqb rs.k rs.k refl, eq-eqb rs.z rs.z refl, eq-eqb shape.piece shape.piece refl)

-- no two heads disagree
pub cut_agree : (shape : Shape) (len i j : ℕ) → IsFull shape len → i < shape.count → j < shape.count → agree (cut_head shape len i) (cut_head shape len j) ≡ true
cut_agree shape len i j full u v = agree_by shape shape.rs len i j full u v

coded_none : (len m mtu : ℕ) → (coded_shape len m mtu).rs ≡ None → ⊥
coded_none len m mtu is = cc

-- all fragments but the last one are full
full_by_m : (len m mtu : ℕ) → Fits len mtu → IsFull (shape_of len m mtu) len
unfolding shape_of
full_by_m len zero mtu fits none = let is = plain_is len mtu fits in omega (arith, is.last)
full_by_m len (suc m) mtu fits none = absurd (coded_none len (suc m) mtu none)

pub is_full : (len : ℕ) (shape : Shape) → IsShapeOf len shape → IsFull shape len
is_full len shape is = subst (λ s. IsFull s len) (sym is.is) (full_by_m len is.m is.mtu (fits_of len shape is))
