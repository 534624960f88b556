-- Places removed from the syndromes one after another, and the products found from the last one back.
use Rattle.std.proofs.Common.{◌≡◌, ℕ, ◌+◌, ◌-◌, ◌<◌, ◌≤◌, zero, suc, List, [], ◌∷◌, ◌++◌, length, get_or, take, drop, refl, sym, ap, ap₂, ◌∙◌, subst, arith, bit_xor, append-nil}
use Rattle.std.proofs.Math.Seq.{drop-append_seam, drop-drop}
use Rattle.std.proofs.lemmas.List.{drop_all, length-drop, length-take-le, take-append-drop}
use Rattle.std.proofs.lemmas.Slice.{drop-put_mid, take-put_mid}
use borrow.Rule.Slice.PartMut.{put_mid}
use Rattle.gf_field.specs.Field.{times}
use Rattle.rs_erase.specs.Equations.{AreLocators, remaining_syndromes}
use Rattle.rs_erase.specs.FromZero.{AreFirstSyndromes, SolvesFromZero, syndromes_without}
use Rattle.rs_erase.specs.Polynomial.{add, scale}
use Rattle.rs_erase.proofs.EquationLoops.{length_remaining_syndromes}

-- a multiple added to the elements from the second on
pub removed : (f : ℕ) (s : List ℕ) (left : ℕ) → left < length s → take left (add (drop 1 s ++ 0 ∷ []) (scale f s)) ≡ remaining_syndromes f (take (left + 1) s)
removed f [] left lt = absurd (omega arith)
removed f (a ∷ s) zero lt = refl
removed f (a ∷ []) (suc left) lt = absurd (omega arith)
removed f (a ∷ b ∷ s) (suc left) lt =
    ap (λ (zs : List ℕ). bit_xor b (times f a) ∷ zs)
    (removed f (b ∷ s) left (omega arith) ∙ ap (λ (n : ℕ). remaining_syndromes f (take n (b ∷ s))) (let e : left + 1 ≡ suc left = omega arith in e))
    ∙ ap (λ (n : ℕ). remaining_syndromes f (take n (a ∷ b ∷ s))) (let e : suc (suc left) ≡ suc left + 1 = omega arith in e)

-- one place more is removed
pub without_more : (xs s : List ℕ) (k : ℕ) → k < length xs
    → syndromes_without (take (k + 1) xs) s ≡ remaining_syndromes (get_or xs k 0) (syndromes_without (take k xs) s)
without_more [] s k lt = absurd (omega arith)
without_more (x ∷ xs) s zero lt = refl
without_more (x ∷ xs) s (suc k) lt =
    ap (λ (n : ℕ). syndromes_without (take n (x ∷ xs)) s) (let e : suc k + 1 ≡ suc (k + 1) = omega arith in e)
    ∙ without_more xs (remaining_syndromes x s) k (omega arith)

pub length-without : (xs s : List ℕ) (k : ℕ) → k ≤ length xs → length (syndromes_without (take k xs) s) ≡ length s - k
length-without xs s zero le = let e : length s ≡ length s - zero = omega arith in e
length-without [] s (suc k) le = absurd (omega arith)
length-without (x ∷ xs) s (suc k) le =
    length-without xs (remaining_syndromes x s) k (omega arith)
    ∙ (let l = length_remaining_syndromes x s in let e : length (remaining_syndromes x s) - k ≡ length s - suc k = omega arith in e)

pub get_or_drop : (k : ℕ) (xs : List ℕ) → get_or (drop k xs) 0 0 ≡ get_or xs k 0
get_or_drop zero xs = refl
get_or_drop (suc k) [] = refl
get_or_drop (suc k) (x ∷ xs) = get_or_drop k xs

pub locators_from : (k : ℕ) (xs : List ℕ) → AreLocators xs → AreLocators (drop k xs)
locators_from zero xs lo = lo
locators_from (suc k) [] lo = lo
locators_from (suc k) (x ∷ xs) lo = locators_from k xs lo.3

-- the products from the k-th place on, where those behind it are found; parts and held are these locators and products
pub one_back : (xs s firsts old new parts held : List ℕ) (k : ℕ) → k < length xs → length xs ≤ length s
    → AreFirstSyndromes xs s firsts → get_or old k 0 ≡ get_or firsts k 0 → parts ≡ drop k xs → held ≡ drop k old
    → SolvesFromZero (drop (k + 1) xs) (drop (k + 1) old) (syndromes_without (take (k + 1) xs) s)
    → ((t : List ℕ) → length parts ≤ length t → get_or held 0 0 ≡ get_or t 0 0
    → SolvesFromZero (drop 1 parts) (drop 1 held) (remaining_syndromes (get_or parts 0 0) t) → SolvesFromZero parts new t)
    → SolvesFromZero (drop k xs) new (syndromes_without (take k xs) s)
one_back xs s firsts old new parts held k lt le first same ep eh later step =
    let t = syndromes_without (take k xs) s in
    let lx = length-drop k xs in
    let lp : length parts ≡ length (drop k xs) = ap (λ (zs : List ℕ). length zs) ep in
    let lw = length-without xs s k (omega arith) in
    let from : drop (k + 1) xs ≡ drop 1 parts = sym (ap (λ (zs : List ℕ). drop 1 zs) ep ∙ drop-drop 1 k xs) in
    let from' : drop (k + 1) old ≡ drop 1 held = sym (ap (λ (zs : List ℕ). drop 1 zs) eh ∙ drop-drop 1 k old) in
    let left : syndromes_without (take (k + 1) xs) s ≡ remaining_syndromes (get_or parts 0 0) t =
    without_more xs s k lt ∙ ap (λ (x : ℕ). remaining_syndromes x t) (sym (ap (λ (zs : List ℕ). get_or zs 0 0) ep ∙ get_or_drop k xs)) in
    subst (λ (zs : List ℕ). SolvesFromZero zs new t) ep
    (step t (omega arith) (ap (λ (zs : List ℕ). get_or zs 0 0) eh ∙ get_or_drop k old ∙ same ∙ first k lt)
    (subst (λ (zs : List ℕ). SolvesFromZero zs (drop 1 held) (remaining_syndromes (get_or parts 0 0) t)) from
    (subst (λ (us : List ℕ). SolvesFromZero (drop (k + 1) xs) us (remaining_syndromes (get_or parts 0 0) t)) from'
    (subst (λ (r : List ℕ). SolvesFromZero (drop (k + 1) xs) (drop (k + 1) old) r) left later))))

-- a list whose end was written
pub end_written : (k n : ℕ) (xs ys : List ℕ) → k + n ≡ length xs → length ys ≡ n → put_mid k n xs ys ≡ take k xs ++ ys
end_written k n xs ys e l =
    let p = put_mid k n xs ys in
    sym (take-append-drop (k + n) p)
    ∙ ap₂ (λ (a b : List ℕ). a ++ b) (take-put_mid k n xs ys (k + n) (omega arith) (omega arith)) (drop-put_mid k n xs ys (k + n) (omega arith) (omega arith) l ∙ drop_all (k + n) xs (omega arith))
    ∙ append-nil (take k xs ++ ys)

pub end_of : (k : ℕ) (xs ys : List ℕ) → k ≤ length xs → drop k (take k xs ++ ys) ≡ ys
end_of k xs ys le =
    ap (λ (n : ℕ). drop n (take k xs ++ ys)) (sym (length-take-le k xs le)) ∙ drop-append_seam (take k xs) ys
