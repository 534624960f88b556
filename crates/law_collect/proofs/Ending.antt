-- Giving what is ready comes to an end.
use Rattle.std.proofs.Common.{ℕ, zero, suc, ◌≡◌, ◌+◌, ◌-◌, ◌<◌, ◌≤◌, ◌⊎◌, inl, inr, Bool, true, false, cond, ◌||◌, not, eqb, List, [], ◌∷◌, length, Option, Some, None, refl, sym, ap, ◌∙◌, arith}
use Rattle.std.specs.List.{filter, AllByRecursion}
use Rattle.std.proofs.lemmas.Bool.{leb-true, ltb-true}
use Rattle.drm_bits.specs.Bits.{IsBytes}
use Rattle.dcp_collect.specs.Fragments.{NumberedFragment, suffice, of_packet}
use Rattle.dcp_collect.specs.CollectorState.{CollectorState, ready, ready_by, reached, after_item, count_of}
use Rattle.dcp_collect.specs.Decoding.{IsDecoded}
use Rattle.dcp_collect.specs.Runs.{CollectorItem, Packet, Lost, Damaged, IsItem, CollectorGives}
use Rattle.law_collect.specs.Laws.{GivingEnds}
use Rattle.dcp_collect.proofs.Lists.{all_filter, all_weaker}

-- whether there are bytes that the fragments give can be told
abbrev pub Decides : Type 0
Decides =
    (fs : List NumberedFragment) → suffice fs ≡ true → AllByRecursion (λ f. IsBytes f.payload) fs
    → ((bytes : List ℕ) × IsDecoded fs bytes) ⊎ ((bytes : List ℕ) → IsDecoded fs bytes → ⊥)

-- of bytes, some of them are bytes
pub bytes_filter : (p : NumberedFragment → Bool) (fs : List NumberedFragment) → AllByRecursion (λ f. IsBytes f.payload) fs → AllByRecursion (λ f. IsBytes f.payload) (filter p fs)
bytes_filter p fs all =
    all_weaker (λ f. IsBytes f.payload × (p f ≡ true)) (λ f. IsBytes f.payload) (λ f h. h.0) (filter p fs) (all_filter (λ f. IsBytes f.payload) p fs all)

-- how many numbers are left to the end, or to the newest
abbrev left_by : Option ℕ → Option ℕ → ℕ → ℕ
left_by (Some end) newest next = end - next
left_by None None next = 0
left_by None (Some newest) next = newest - next

-- no fewer than the items that may still be given
abbrev left : CollectorState → ℕ
left c = length c.kept + left_by c.end c.newest c.next

-- without those of this packet
abbrev others : ℕ → List NumberedFragment → List NumberedFragment
others n fs = filter (λ f. not (eqb f.number n)) fs

few_cond : (b : Bool) (f : NumberedFragment) (n : ℕ) (fs : List NumberedFragment) → length (others n fs) ≤ length fs
    → length (cond (not b) (f ∷ others n fs) (others n fs)) ≤ length (f ∷ fs)
few_cond true f n fs h = omega (arith, h)
few_cond false f n fs h = omega (arith, h)

others_few : (n : ℕ) (fs : List NumberedFragment) → length (others n fs) ≤ length fs
others_few n [] = omega arith
others_few n (f ∷ fs) = few_cond (eqb f.number n) f n fs (others_few n fs)

fewer_cond : (b : Bool) (f : NumberedFragment) (n : ℕ) (fs : List NumberedFragment) → (suffice (of_packet n fs) ≡ true → length (others n fs) < length fs)
    → suffice (cond b (f ∷ of_packet n fs) (of_packet n fs)) ≡ true → length (cond (not b) (f ∷ others n fs) (others n fs)) < length (f ∷ fs)
fewer_cond true f n fs rest s = let h = others_few n fs in omega (arith, h)
fewer_cond false f n fs rest s = let h = rest s in omega (arith, h)

-- where those of this packet suffice, the others are fewer than all
others_fewer : (n : ℕ) (fs : List NumberedFragment) → suffice (of_packet n fs) ≡ true → length (others n fs) < length fs
others_fewer n [] s = absurd (let e : false ≡ true = s in cc)
others_fewer n (f ∷ fs) s = fewer_cond (eqb f.number n) f n fs (others_fewer n fs) s

-- by whether the packet suffices, by the end, and by the newest number: one number fewer is left
fewer_left : (c : CollectorState) (b : Bool) → suffice (of_packet c.next c.kept) ≡ b → 1 ≤ c.window
    → (end newest : Option ℕ) → c.end ≡ end → c.newest ≡ newest → ready_by end c ≡ true
    → length (others c.next c.kept) + left_by end newest (c.next + 1) < length c.kept + left_by end newest c.next
fewer_left c b s w (Some end) newest u v r =
    let l : c.next < end = ltb-true c.next end r in
    let k = others_few c.next c.kept in
    omega (arith, k, l)
fewer_left c true s w None None u v r = let k = others_fewer c.next c.kept s in omega (arith, k)
fewer_left c true s w None (Some newest) u v r = let k = others_fewer c.next c.kept s in omega (arith, k)
fewer_left c false s w None None u v r =
    absurd (let g : reached c.newest (c.next + c.window) ≡ true = ap (λ b. b || reached c.newest (c.next + c.window)) (sym s) ∙ r in
    let h : false ≡ true = ap (λ o. reached o (c.next + c.window)) (sym v) ∙ g in cc)
fewer_left c false s w None (Some newest) u v r =
    let g : reached c.newest (c.next + c.window) ≡ true = ap (λ b. b || reached c.newest (c.next + c.window)) (sym s) ∙ r in
    let l : c.next + c.window ≤ newest = leb-true (c.next + c.window) newest (ap (λ o. reached o (c.next + c.window)) (sym v) ∙ g) in
    let k = others_few c.next c.kept in
    omega (arith, k, l, w)

left_less : (c : CollectorState) → 1 ≤ c.window → ready c ≡ true → left (after_item c) < left c
left_less c w r = fewer_left c (suffice (of_packet c.next c.kept)) refl w c.end c.newest refl refl r

made_or_damaged : (c : CollectorState) → suffice (of_packet c.next c.kept) ≡ true
    → ((bytes : List ℕ) × IsDecoded (of_packet c.next c.kept) bytes) ⊎ ((bytes : List ℕ) → IsDecoded (of_packet c.next c.kept) bytes → ⊥)
    → (item : CollectorItem) × IsItem c item
made_or_damaged c s (inl made) = (Packet c.next made.0, (refl, s, made.1))
made_or_damaged c s (inr none) = (Damaged c.next, (refl, s, none))

-- there is an item to give
the_item : (decide : Decides) (c : CollectorState) → AllByRecursion (λ f. IsBytes f.payload) c.kept → (b : Bool) → suffice (of_packet c.next c.kept) ≡ b → (item : CollectorItem) × IsItem c item
the_item decide c bytes true s =
    made_or_damaged c s (decide (of_packet c.next c.kept) s (bytes_filter (λ f. eqb f.number c.next) c.kept bytes))
the_item decide c bytes false s =
    (Lost c.next (length (of_packet c.next c.kept)) (count_of (of_packet c.next c.kept)), (refl, s, refl, refl))

gives_from : (decide : Decides) (n : ℕ) (c : CollectorState) (b : Bool) → left c ≤ n → 1 ≤ c.window → AllByRecursion (λ f. IsBytes f.payload) c.kept
    → ready c ≡ b → (given : List CollectorItem) × (after : CollectorState) × CollectorGives c given after
gives_from decide n c false few w bytes r = ([], c, (r, refl))
gives_from decide zero c true few w bytes r = absurd (let l = left_less c w r in omega (arith, l, few))
gives_from decide (suc n) c true few w bytes r =
    let l = left_less c w r in
    let item = the_item decide c bytes (suffice (of_packet c.next c.kept)) refl in
    let more = gives_from decide n (after_item c) (ready (after_item c)) (omega (arith, l, few)) w (bytes_filter (λ f. not (eqb f.number c.next)) c.kept bytes) refl in
    (item.0 ∷ more.0, more.1, (r, item.1, more.2))

pub giving_ends : (decide : Decides) → GivingEnds
giving_ends decide c w bytes = gives_from decide (left c) c (ready c) (omega arith) w bytes refl
