-- What is read of a link is one thing.
use Rattle.std.proofs.Common.{◌≡◌, ℕ, zero, suc, ◌+◌, ◌<◌, ◌≤◌, ◌⊎◌, inl, inr, List, [], ◌∷◌, ◌++◌, length, take, drop, None, Some, refl, sym, ◌∙◌, ap, subst, arith, length-append}
use Rattle.std.specs.List.{AllByRecursion}
use Rattle.std.proofs.lemmas.List.{take_all}
use Rattle.recv_reading.proofs.Common.{Answer, Failed, EndWord, ReceiveOptions, ReadingEndsBy, ReadingGoesOn, IsFinished, IsReadingBroken}
use Rattle.drm_links.specs.Hearing.{AreNext}
use Rattle.recv_reading.specs.declared.reason.EndWord.TheVariants as word
use Rattle.recv_reading.specs.Ending.{ReasonHolds, HasNotFailed}
use Rattle.recv_reading.specs.OneReading.{IsOneReading}

pub next_front : (ahead r s : List Answer) (xs ys : List Answer) → AreNext ahead xs r → AreNext ahead ys s → length xs ≤ length ys → xs ≡ take (length xs) ys
next_front ahead r s [] ys p q l = refl
next_front ahead r s (x ∷ xs) [] p q l = absurd (omega arith)
next_front ahead r s (x ∷ xs) (y ∷ ys) p q l =
    let e : x ≡ y = p.0 ∙ sym q.0 in
    let f : xs ≡ take (length xs) ys = next_front (drop 1 ahead) r s xs ys p.1 q.1 (omega arith) in
    ap (λ z. z ∷ xs) e ∙ ap (λ zs. y ∷ zs) f

pub ends_hold : (rules : ReceiveOptions) (xs : List Answer) (w : EndWord) → ReadingEndsBy rules xs w → ReasonHolds rules xs w
ends_hold rules xs word.Frames e = e
ends_hold rules xs word.Limit e = e.0
ends_hold rules xs word.Idle e = e.0
ends_hold rules xs word.Input e = e.0
ends_hold rules xs word.Paths e = e

-- where a list that holds a reason to end stands at the front of another one, that one doesn't go on
pub not_shorter : (rules : ReceiveOptions) (ahead r s : List Answer) (xs ys : List Answer) (w : EndWord) → AreNext ahead xs r → AreNext ahead ys s → ReasonHolds rules xs w → ReadingGoesOn rules ys → length xs < length ys → ⊥
not_shorter rules ahead r s xs ys w p q h g l =
    let e : xs ≡ take (length xs) ys = next_front ahead r s xs ys p q (omega arith) in
    g.shorter (length xs) l w (subst (λ zs. ReasonHolds rules zs w) e h)

pub three : (m n : ℕ) → (m < n) ⊎ ((n < m) ⊎ (m ≡ n))
three m n = grind arith

pub same_answers : (ahead r s : List Answer) (xs ys : List Answer) → AreNext ahead xs r → AreNext ahead ys s → length xs ≡ length ys → xs ≡ ys
same_answers ahead r s xs ys p q e = next_front ahead r s xs ys p q (omega (arith, e)) ∙ take_all (length xs) ys (omega (arith, e))

-- two of which neither is shorter
pub same_next : (ahead r s : List Answer) (xs ys : List Answer) → AreNext ahead xs r → AreNext ahead ys s → (length xs < length ys → ⊥) → (length ys < length xs → ⊥) → xs ≡ ys
same_next ahead r s xs ys p q not other =
    elim (three (length xs) (length ys)) [
      | inl less ↦ absurd (not less)
      | inr rest ↦ elim rest [
        | inl more ↦ absurd (other more)
        | inr same ↦ same_answers ahead r s xs ys p q same
      ]
    ]

finished_same : (rules : ReceiveOptions) (ahead r s : List Answer) (xs ys : List Answer) (v w : EndWord) → AreNext ahead xs r → AreNext ahead ys s → IsFinished rules xs v → IsFinished rules ys w → ys ≡ xs
finished_same rules ahead r s xs ys v w p q f g =
    sym (same_next ahead r s xs ys p q (not_shorter rules ahead r s xs ys v p q (ends_hold rules xs v f.ends) g.goes_on)
    (not_shorter rules ahead s r ys xs w q p (ends_hold rules ys w g.ends) f.goes_on))

pub one_word : (rules : ReceiveOptions) (xs : List Answer) (v w : EndWord) → ReadingEndsBy rules xs v → ReadingEndsBy rules xs w → w ≡ v
one_word rules xs word.Frames word.Frames e f = refl
one_word rules xs word.Frames word.Limit e f = absurd (f.1 e)
one_word rules xs word.Frames word.Idle e f = absurd (f.1 e)
one_word rules xs word.Limit word.Frames e f = absurd (e.1 f)
one_word rules xs word.Limit word.Limit e f = refl
one_word rules xs word.Limit word.Idle e f = absurd (f.2 e.0)
one_word rules xs word.Idle word.Frames e f = absurd (e.1 f)
one_word rules xs word.Idle word.Limit e f = absurd (e.2 f.0)
one_word rules xs word.Idle word.Idle e f = refl
one_word rules xs word.Frames word.Input e f = absurd (f.1 e)
one_word rules xs word.Limit word.Input e f = absurd (f.2 e.0)
one_word rules xs word.Idle word.Input e f = absurd (f.3 e.0)
one_word rules xs word.Input word.Frames e f = absurd (e.1 f)
one_word rules xs word.Input word.Limit e f = absurd (e.2 f.0)
one_word rules xs word.Input word.Idle e f = absurd (e.3 f.0)
one_word rules xs word.Input word.Input e f = refl
one_word rules xs v word.Paths e f = absurd f
one_word rules xs word.Paths w e f = absurd e

pub next_split : (ahead s : List Answer) (xs ys : List Answer) → AreNext ahead (xs ++ ys) s → (mid : List Answer) × AreNext ahead xs mid
next_split ahead s [] ys p = (ahead, refl)
next_split ahead s (x ∷ xs) ys p = let h = next_split (drop 1 ahead) s xs ys p.1 in (h.0, (p.0, h.1))

has_failed : (xs : List Answer) (n : ℕ) (before : List Answer) → AllByRecursion HasNotFailed xs → before ++ Failed ∷ [] ≡ take n xs → ⊥
has_failed [] zero [] all e = cc
has_failed [] zero (b ∷ before) all e = cc
has_failed [] (suc n) [] all e = cc
has_failed [] (suc n) (b ∷ before) all e = cc
has_failed (x ∷ xs) zero [] all e = cc
has_failed (x ∷ xs) zero (b ∷ before) all e = cc
has_failed (x ∷ xs) (suc n) [] all e = let f : Failed ≡ x = cc in subst HasNotFailed (sym f) all.0
has_failed (x ∷ xs) (suc n) (b ∷ before) all e = has_failed xs n before all.1 cc

-- answers that go on don't break off within themselves
pub goes_past : (rules : ReceiveOptions) (ahead r s : List Answer) (xs before : List Answer) → AreNext ahead xs r → AreNext ahead (before ++ Failed ∷ []) s → ReadingGoesOn rules xs → length before < length xs → ⊥
goes_past rules ahead r s xs before p q g l =
    let size : length (before ++ Failed ∷ []) ≡ length before + 1 = length-append before (Failed ∷ []) in
    has_failed xs (length (before ++ Failed ∷ [])) before g.sound (next_front ahead s r (before ++ Failed ∷ []) xs q p (omega (arith, size, l)))

-- what is finished doesn't break off
pub finished_whole : (rules : ReceiveOptions) (ahead r s : List Answer) (xs before ys : List Answer) (w : EndWord) → AreNext ahead xs r → AreNext ahead ys s → IsFinished rules xs w → IsReadingBroken rules before ys → ⊥
finished_whole rules ahead r s xs before ys w p q f b =
    let q' : AreNext ahead (before ++ Failed ∷ []) s = subst (λ zs. AreNext ahead zs s) b.last q in
    let half = next_split ahead s before (Failed ∷ []) q' in
    let same : xs ≡ before =
    same_next ahead r half.0 xs before p half.1 (not_shorter rules ahead r half.0 xs before w p half.1 (ends_hold rules xs w f.ends) b.goes_on) (goes_past rules ahead r s xs before p q' f.goes_on) in
    b.is_open w (subst (λ zs. ReasonHolds rules zs w) same (ends_hold rules xs w f.ends))

-- two that break off are one
pub broken_same : (rules : ReceiveOptions) (ahead r s : List Answer) (before xs before' ys : List Answer) → AreNext ahead xs r → AreNext ahead ys s → IsReadingBroken rules before xs → IsReadingBroken rules before' ys → ys ≡ xs
broken_same rules ahead r s before xs before' ys p q b d =
    let p' : AreNext ahead (before ++ Failed ∷ []) r = subst (λ zs. AreNext ahead zs r) b.last p in
    let q' : AreNext ahead (before' ++ Failed ∷ []) s = subst (λ zs. AreNext ahead zs s) d.last q in
    let half = next_split ahead r before (Failed ∷ []) p' in
    let half' = next_split ahead s before' (Failed ∷ []) q' in
    let same : before ≡ before' =
    same_next ahead half.0 half'.0 before before' half.1 half'.1 (goes_past rules ahead half'.0 r before' before half'.1 p' d.goes_on) (goes_past rules ahead half.0 s before before' half.1 q' b.goes_on) in
    d.last ∙ ap (λ l. l ++ Failed ∷ []) (sym same) ∙ sym b.last

pub one_reading : IsOneReading
one_reading rules ahead answers others (Some v) (Some w) p q =
    let same : others ≡ answers = finished_same rules ahead p.rest q.rest answers others v w p.next q.next p.ends q.ends in
    (same, ap Some (one_word rules answers v w p.ends.ends (subst (λ zs. ReadingEndsBy rules zs w) same q.ends.ends)))
one_reading rules ahead answers others (Some v) None p q = absurd (finished_whole rules ahead p.rest q.rest answers q.ends.0 others v p.next q.next p.ends q.ends.1)
one_reading rules ahead answers others None (Some w) p q = absurd (finished_whole rules ahead q.rest p.rest others p.ends.0 answers w q.next p.next q.ends p.ends.1)
one_reading rules ahead answers others None None p q = (broken_same rules ahead p.rest q.rest p.ends.0 answers q.ends.0 others p.next q.next p.ends.1 q.ends.1, refl)
