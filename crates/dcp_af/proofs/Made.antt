-- A packet that is made around its payload.
use Rattle.std.proofs.Common.{◌≡◌, ℕ, ◌+◌, ◌-◌, ◌≤◌, List, ◌++◌, length, take, drop, sym, ap, ◌∙◌, append_assoc, arith, length-append, length-drop}
use Rattle.std.proofs.lemmas.List.{take_at, drop_at, drop-drop, take-append-drop, length-take-le}

-- the payload that stands in its place
abbrev pub inner : ℕ → List ℕ → List ℕ
inner n into = take (n + 10 - 10) (drop 10 into)

pub length-inner : (n : ℕ) (into : List ℕ) → n + 12 ≤ length into → length (inner n into) ≡ n
length-inner n into room =
    let same : n + 10 - 10 ≡ n = omega arith in
    length-take-le (n + 10 - 10) (drop 10 into) (omega (arith, length-drop 10 into)) ∙ same

-- the head is written
pub head_written : (into mid head : List ℕ) (n : ℕ) → length head ≡ 10 → n + 12 ≤ length into → mid ≡ head ++ drop (0 + length head) into → take (10 + n) mid ≡ head ++ inner n into
head_written into mid head n ten room is =
    let place : 0 + length head ≡ 10 = omega (arith, ten) in
    let rest : List ℕ = drop (n + 10 - 10) (drop 10 into) in
    let whole : mid ≡ head ++ inner n into ++ rest =
    is
    ∙ (ap (λ (k : ℕ). head ++ drop k into) place
    ∙ (ap (λ (l : List ℕ). head ++ l) (sym (take-append-drop (n + 10 - 10) (drop 10 into))) ∙ sym (append_assoc head (inner n into) rest))) in
    ap (take (10 + n)) whole ∙ take_at (head ++ inner n into) rest (10 + n) (omega (arith, length-append head (inner n into), ten, length-inner n into room))

-- the bytes behind the packet are as before
pub behind_head : (into mid head : List ℕ) (n : ℕ) → length head ≡ 10 → mid ≡ head ++ drop (0 + length head) into → drop (10 + n + 2) mid ≡ drop (10 + n + 2) into
behind_head into mid head n ten is =
    let place : 0 + length head ≡ 10 = omega (arith, ten) in
    let more : 10 + (n + 2) ≡ 10 + n + 2 = omega arith in
    let first : drop 10 mid ≡ drop 10 into = ap (drop 10) (is ∙ ap (λ (k : ℕ). head ++ drop k into) place) ∙ drop_at head (drop 10 into) 10 ten in
    ap (λ (k : ℕ). drop k mid) (sym more)
    ∙ (sym (drop-drop (n + 2) 10 mid) ∙ (ap (drop (n + 2)) first ∙ (drop-drop (n + 2) 10 into ∙ ap (λ (k : ℕ). drop k into) more)))

-- the whole packet, and what stands behind it
pub packet_written : (into mid new head last : List ℕ) (n : ℕ) → length head ≡ 10 → length last ≡ 2 → n + 12 ≤ length into → mid ≡ head ++ drop (0 + length head) into
    → new ≡ take (10 + n) mid ++ last ++ drop (10 + n + length last) mid
    → new ≡ head ++ inner n into ++ last ++ drop (10 + n + 2) into
packet_written into mid new head last n ten two room is_mid is_new =
    is_new
    ∙ (ap (λ (k : ℕ). take (10 + n) mid ++ last ++ drop (10 + n + k) mid) two
    ∙ (ap (λ (l : List ℕ). l ++ last ++ drop (10 + n + 2) mid) (head_written into mid head n ten room is_mid)
    ∙ ap (λ (l : List ℕ). head ++ inner n into ++ last ++ l) (behind_head into mid head n ten is_mid)))

pub packet_size : (into head last : List ℕ) (n : ℕ) → length head ≡ 10 → length last ≡ 2 → n + 12 ≤ length into → length (head ++ inner n into ++ last) ≡ 10 + n + 2
packet_size into head last n ten two room =
    omega (arith, length-append (head ++ inner n into) last, length-append head (inner n into), length-inner n into room, ten, two)

-- the payload stays
pub payload_kept : (into new head last more : List ℕ) (n : ℕ) → length head ≡ 10 → n + 12 ≤ length into → new ≡ head ++ inner n into ++ last ++ more → inner n new ≡ inner n into
payload_kept into new head last more n ten room is =
    let size : length (inner n into) ≡ n + 10 - 10 = omega (arith, length-inner n into room) in
    let regrouped : new ≡ head ++ (inner n into ++ (last ++ more)) =
    is ∙ (append_assoc (head ++ inner n into) last more ∙ append_assoc head (inner n into) (last ++ more)) in
    ap (λ (l : List ℕ). take (n + 10 - 10) (drop 10 l)) regrouped
    ∙ (ap (take (n + 10 - 10)) (drop_at head (inner n into ++ (last ++ more)) 10 ten) ∙ take_at (inner n into) (last ++ more) (n + 10 - 10) size)
