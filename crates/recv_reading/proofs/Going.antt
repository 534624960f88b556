-- A reading goes on answer by answer.
use Rattle.std.proofs.Common.{◌≡◌, ℕ, ◌+◌, ◌*◌, ◌^◌, ◌<◌, ◌≤◌, ◌⊎◌, inl, inr, List, [], ◌∷◌, ◌++◌, length, take, refl, sym, ◌∙◌, ap, subst, arith, length-append, add-one}
use Rattle.std.proofs.Math.Nat.{mul-le-mul_right, suc-mul}
use Rattle.std.specs.List.{AllByRecursion}
use Rattle.std.proofs.lemmas.List.{append-nil, take-append-le, take_all}
use Rattle.std.proofs.lemmas.List.Elements.{filter_map-append}
use Rattle.drm_links.specs.Link.{Answer, Datagram, Idle, Failed, End, datagram_of}
use Rattle.recv_reading.specs.declared.reason.EndWord.TheVariants as word
use Rattle.recv_reading.specs.declared.options.ReceiveOptions.{ReceiveOptions}
use Rattle.recv_reading.specs.Options.{AreInRange}
use Rattle.recv_reading.specs.Ending.{datagrams, idles_from, idles, HasGiven, HaveEnded, IsReadingOpen, HasNotFailed, ReadingGoesOn, most_answers}

pub goes_none : (rules : ReceiveOptions) → ReadingGoesOn rules []
goes_none rules = record { sound = tt; shorter = λ k l. absurd (omega arith) }

answers_more : (xs : List Answer) (x : Answer) → AllByRecursion HasNotFailed xs → HasNotFailed x → AllByRecursion HasNotFailed (xs ++ x ∷ [])
answers_more [] x all one = (one, tt)
answers_more (y ∷ xs) x all one = (all.0, answers_more xs x all.1 one)

le_cases : (k n : ℕ) → k < n + 1 → (k < n) ⊎ (k ≡ n)
le_cases k n l = grind arith

shorter_more : (rules : ReceiveOptions) (xs : List Answer) (x : Answer) → ((k : ℕ) → k < length xs → IsReadingOpen rules (take k xs)) → IsReadingOpen rules xs → (k : ℕ) → (k < length xs) ⊎ (k ≡ length xs) → IsReadingOpen rules (take k (xs ++ x ∷ []))
shorter_more rules xs x shorter now k (inl l) =
    let w : k ≤ length xs = omega arith in
    subst (λ ys. IsReadingOpen rules ys) (sym (take-append-le k xs (x ∷ []) w)) (shorter k l)
shorter_more rules xs x shorter now k (inr e) =
    let w : k ≤ length xs = omega arith in
    subst (λ ys. IsReadingOpen rules ys) (sym (take-append-le k xs (x ∷ []) w ∙ take_all k xs (omega arith))) now

pub goes_more : (rules : ReceiveOptions) (xs : List Answer) (x : Answer) → ReadingGoesOn rules xs → IsReadingOpen rules xs → HasNotFailed x → ReadingGoesOn rules (xs ++ x ∷ [])
goes_more rules xs x goes now one = record {
  sound = answers_more xs x goes.sound one;
  shorter = λ k l. shorter_more rules xs x goes.shorter now k (le_cases k (length xs) (let n : length (xs ++ x ∷ []) ≡ length xs + 1 = simp length-append (omega arith) in omega (arith, n, l)));
}

pub is_open : (rules : ReceiveOptions) (xs : List Answer) → (HasGiven rules xs rules.frames → ⊥) → length (datagrams xs) < rules.limit → idles xs < rules.idle → (HaveEnded xs → ⊥) → IsReadingOpen rules xs
is_open rules xs given limit idle ended word.Frames h = given h
is_open rules xs given limit idle ended word.Limit h = omega (arith, h)
is_open rules xs given limit idle ended word.Idle h = omega (arith, h)
is_open rules xs given limit idle ended word.Input h = ended h
is_open rules xs given limit idle ended word.Paths h = h

pub datagrams_more : (xs : List Answer) (bytes : List ℕ) → length (datagrams (xs ++ Datagram bytes ∷ [])) ≡ length (datagrams xs) + 1
datagrams_more xs bytes = ap length (filter_map-append datagram_of xs (Datagram bytes ∷ [])) ∙ simp length-append (omega arith)

pub datagrams_idle : (xs : List Answer) → length (datagrams (xs ++ Idle ∷ [])) ≡ length (datagrams xs)
datagrams_idle xs = ap length (filter_map-append datagram_of xs (Idle ∷ []) ∙ append-nil (datagrams xs))

-- the idle answers behind one answer more
pub idles_more : (n : ℕ) (xs : List Answer) (x : Answer) → idles_from n (xs ++ x ∷ []) ≡ idles_from (idles_from n xs) (x ∷ [])
idles_more n [] x = refl
idles_more n (Datagram b ∷ xs) x = idles_more 0 xs x
idles_more n (Idle ∷ xs) x = idles_more (n + 1) xs x
idles_more n (Failed ∷ xs) x = idles_more 0 xs x
idles_more n (End ∷ xs) x = idles_more 0 xs x

pub datagrams_end : (xs : List Answer) → datagrams (xs ++ End ∷ []) ≡ datagrams xs
datagrams_end xs = filter_map-append datagram_of xs (End ∷ []) ∙ append-nil (datagrams xs)

-- the last answer alone ends them
pub last_ends : (xs before : List Answer) (x : Answer) → xs ++ x ∷ [] ≡ before ++ End ∷ [] → x ≡ End
last_ends [] [] x e = cc
last_ends [] (b ∷ []) x e = absurd (cc)
last_ends [] (b ∷ c ∷ before) x e = absurd (cc)
last_ends (y ∷ []) [] x e = absurd (cc)
last_ends (y ∷ z ∷ xs) [] x e = absurd (cc)
last_ends (y ∷ xs) (b ∷ before) x e = last_ends xs before x cc

pub not_ended : (xs : List Answer) (x : Answer) → (x ≡ End → ⊥) → HaveEnded (xs ++ x ∷ []) → ⊥
not_ended xs x other (before, e) = other (last_ends xs before x e)

pub none_ended : HaveEnded [] → ⊥
none_ended ([], e) = cc
none_ended (b ∷ before, e) = cc

-- ---- how many answers

pub one_longer : (xs : List Answer) (x : Answer) (n : ℕ) → length xs ≤ n → length (xs ++ x ∷ []) ≤ n + 1
one_longer xs x n h = let e : length (xs ++ x ∷ []) ≡ length xs + 1 = length-append xs (x ∷ []) in omega (arith, e, h)

pub one_turn : (size taken idles idle : ℕ) → size ≤ taken * idle + idles + 1 → idles < idle → size ≤ (taken + 1) * idle
one_turn size taken idles idle h l =
    let e : (taken + 1) * idle ≡ taken * idle + idle = rw add-one (suc-mul taken idle) in
    omega (arith, h, l, e)

-- rules in their range read few answers
pub few_answers : (rules : ReceiveOptions) → AreInRange rules → most_answers rules ≤ 2 ^ 62
few_answers rules valid =
    let l : rules.limit ≤ 2 ^ 32 = (let few = valid.few_datagrams in omega (arith, few)) in
    let i : rules.idle ≤ 1000000 = valid.few_idles in
    let m : rules.limit * rules.idle ≤ 2 ^ 32 * rules.idle = mul-le-mul_right rules.idle l in
    omega (arith, m, i)
