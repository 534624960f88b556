-- A fragment that is written in its parts.
use Rattle.std.proofs.Common.{ℕ, ◌≡◌, ◌+◌, ◌-◌, ◌≤◌, inl, inr, List, ◌++◌, length, take, drop, refl, sym, subst, ap, ◌∙◌, arith, length-append}
use Rattle.std.specs.Int.{w16, to_be_bytes}
use Rattle.std.proofs.lemmas.Bool.{cases_lt}
use Rattle.std.proofs.lemmas.List.{take_at, drop_at, drop-drop, get_or_append_left, get_or-append_right}
use Rattle.drm_bits.specs.Bits.{IsBytes}
use Rattle.drm_bits.specs.Crc.{IsCheckOf}
use Rattle.dcp_pft.specs.Head.{PftFragment, head}
use Rattle.dcp_pft.specs.Writing.{PutsHead, WritesFragment}

pub IsBytes-append : (xs ys : List ℕ) → IsBytes xs → IsBytes ys → IsBytes (xs ++ ys)
IsBytes-append xs ys here there i =
    elim (cases_lt i (length xs)) [
      | inl lt ↦ rw (get_or_append_left xs ys 0 i lt) (here i)
      | inr le ↦ rw (get_or-append_right xs ys (length xs) i 0 refl le) (there (i - length xs))
    ]

-- the header with its check value
pub head_put : (front old mid new : List ℕ) (check : ℕ) → IsCheckOf front check → IsBytes front → IsBytes (to_be_bytes w16 check)
    → mid ≡ front ++ drop (0 + length front) old
    → new ≡ take (length front) mid ++ to_be_bytes w16 check ++ drop (length front + 2) mid
    → PutsHead front old new
head_put front old mid new check checks front_bytes check_bytes is_mid is_new =
    let none : 0 + length front ≡ length front = omega arith in
    let is : mid ≡ front ++ drop (length front) old = is_mid ∙ ap (λ (n : ℕ). front ++ drop n old) none in
    let first : take (length front) mid ≡ front = ap (take (length front)) is ∙ take_at front (drop (length front) old) (length front) refl in
    let rest : drop (length front) mid ≡ drop (length front) old = ap (drop (length front)) is ∙ drop_at front (drop (length front) old) (length front) refl in
    let behind : drop (length front + 2) mid ≡ drop (length front + 2) old = sym (drop-drop 2 (length front) mid) ∙ (ap (drop 2) rest ∙ drop-drop 2 (length front) old) in
    record {
      check = check;
      checks = checks;
      bytes = IsBytes-append front (to_be_bytes w16 check) front_bytes check_bytes;
      put = is_new
          ∙ (ap (λ (l : List ℕ). l ++ to_be_bytes w16 check ++ drop (length front + 2) mid) first
          ∙ ap (λ (l : List ℕ). front ++ to_be_bytes w16 check ++ l) behind);
    }

-- header and payload
pub fragment_put : (f : PftFragment) (front old mid new payload : List ℕ) (n size : ℕ) → PutsHead front old mid → front ≡ head f → payload ≡ f.payload
    → length front + 2 ≡ n → n + length payload ≡ size → size ≤ 1500 → IsBytes payload
    → new ≡ take n mid ++ payload ++ drop size mid
    → WritesFragment f size old new
fragment_put f front old mid new payload n size puts is_head is_payload is_n is_size small payload_bytes is_new =
    let last : List ℕ = to_be_bytes w16 puts.check in
    let long : length (front ++ last) ≡ n = length-append front last ∙ is_n in
    let mid_is : mid ≡ front ++ last ++ drop n old = puts.put ∙ ap (λ (k : ℕ). front ++ last ++ drop k old) is_n in
    let first : take n mid ≡ front ++ last = ap (take n) mid_is ∙ take_at (front ++ last) (drop n old) n long in
    let rest : drop n mid ≡ drop n old = ap (drop n) mid_is ∙ drop_at (front ++ last) (drop n old) n long in
    let behind : drop size mid ≡ drop size old =
    ap (λ (k : ℕ). drop k mid) (sym is_size)
    ∙ (sym (drop-drop (length payload) n mid) ∙ (ap (drop (length payload)) rest ∙ (drop-drop (length payload) n old ∙ ap (λ (k : ℕ). drop k old) is_size))) in
    let whole : new ≡ front ++ last ++ payload ++ drop size old =
    is_new ∙ (ap (λ (l : List ℕ). l ++ payload ++ drop size mid) first ∙ ap (λ (l : List ℕ). front ++ last ++ payload ++ l) behind) in
    let whole_long : length (front ++ last ++ payload) ≡ size = length-append (front ++ last) payload ∙ (ap (λ (k : ℕ). k + length payload) long ∙ is_size) in
    let taken : take size new ≡ front ++ last ++ payload = ap (take size) whole ∙ take_at (front ++ last ++ payload) (drop size old) size whole_long in
    record {
      small = small;
      spells = record {
        check = puts.check;
        checks = subst (λ (l : List ℕ). IsCheckOf l puts.check) is_head puts.checks;
        spelled = taken ∙ (ap (λ (l : List ℕ). l ++ last ++ payload) is_head ∙ ap (λ (l : List ℕ). head f ++ last ++ l) is_payload);
      };
      bytes = subst IsBytes (sym taken) (IsBytes-append (front ++ last) payload puts.bytes payload_bytes);
      behind = ap (drop size) whole ∙ drop_at (front ++ last ++ payload) (drop size old) size whole_long;
    }
