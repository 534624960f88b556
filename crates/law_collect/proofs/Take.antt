-- Taking one datagram more keeps what a collector is after some pairs of a delivery.
use Rattle.std.proofs.Common.{ℕ, ◌≡◌, ◌+◌, ◌^◌, ◌<◌, ◌≤◌, Bool, true, false, cond, ◌&&◌, ◌||◌, not, leb, ltb, eqb, List, [], ◌∷◌, ◌++◌, length, Option, Some, None, ◌⊎◌, inl, inr, ⊎_elim, refl, sym, ap, ◌∙◌, subst, arith}
use Rattle.std.specs.Prelude.{ℤ, pos, negsuc, ◌+ℤ◌}
use Rattle.std.specs.List.{AllByRecursion, find}
use Rattle.std.proofs.lemmas.Bool.{eqb-true, eq-eqb, ne_eqb, leb-true, ltb-true, ltb-false, cases_eq, and_parts, and_from, and_right, or_cases, or_parts, or_left, or_right}
use Rattle.dcp_pft.specs.Loss.{size}
use Rattle.dcp_collect.specs.declared.taken.Taken.TheVariants.{Repeated, Late}
use Rattle.dcp_collect.specs.Fragments.{NumberedFragment, agree, has_index, suffice, of_packet}
use Rattle.dcp_collect.specs.Reading.{Incoming}
use Rattle.dcp_collect.specs.CollectorState.{CollectorState, reached, is_far, is_late, answer_by, answer_at, insert_kept, kept_at, after_answer}
use Rattle.dcp_collect.specs.Numbers.{newer, end_of}
use Rattle.dcp_pft.specs.declared.carry.Carry.{Carry}
use Rattle.law_collect.specs.Delivery.{packet_at, number, is_number, got, newer_number, newest_of}
use Rattle.law_collect.specs.Laws.{IsTakenWell}
use Rattle.law_collect.proofs.Sent.{datagrams_of, head_of, IsPayload, IsOf, IsCut}
use Rattle.dcp_collect.proofs.Answering.{not_far}
use Rattle.dcp_collect.proofs.Sets.{size_more}
use Rattle.dcp_collect.proofs.Lists.{all_weaker, all_insert, count_insert, insert_other, has_inserted}
use Rattle.law_collect.proofs.Ordered.{ordered_insert, others_of}
use Rattle.law_collect.proofs.Got.{is_pair, closed, got_more, got_last, got_now, newest_last}
use Rattle.law_collect.proofs.Packets.{IsSent, those_of, none_disagrees}
use Rattle.law_collect.proofs.Reached.{newer_same, reached_more, reached_now, reached_less, below_end}
use Rattle.law_collect.proofs.After.{IsKept, IsAfter, reached_by, sent_all, closed_same, unchanged}

pair_is : (first_packet : ℤ) (pair : ℕ × ℕ) (n q i : ℕ) → number first_packet pair ≡ pos n → is_pair first_packet pair q i ≡ true → (n ≡ q) × (pair.1 ≡ i)
pair_is first_packet pair n q i e t =
    let p = and_parts (is_number (number first_packet pair) q) (eqb pair.1 i) t in
    let m : is_number (pos n) q ≡ true = subst (λ z. is_number z q ≡ true) e p.0 in
    (eqb-true n q m, eqb-true pair.1 i p.1)

is_pair_at : (first_packet : ℤ) (pair : ℕ × ℕ) (n q i : ℕ) → number first_packet pair ≡ pos n → n ≡ q → pair.1 ≡ i → is_pair first_packet pair q i ≡ true
is_pair_at first_packet pair n q i e a b =
    and_from (is_number (number first_packet pair) q) (eqb pair.1 i) (subst (λ z. is_number z q ≡ true) (sym e) (eq-eqb n q a)) (eq-eqb pair.1 i b)

no_pair : (first_packet : ℤ) (pair : ℕ × ℕ) (n q i : ℕ) → number first_packet pair ≡ negsuc n → is_pair first_packet pair q i ≡ true → ⊥
no_pair first_packet pair n q i e t =
    let p = and_parts (is_number (number first_packet pair) q) (eqb pair.1 i) t in
    let m : false ≡ true = subst (λ z. is_number z q ≡ true) e p.0 in
    cc

-- a pair before number 0
pub before_all : (carry : Carry) (packets : List (List ℕ)) (window : ℕ) (first_packet : ℤ) (pairs : List (ℕ × ℕ)) (c : CollectorState) (h : IsAfter carry packets window first_packet pairs c)
    (pair : ℕ × ℕ) (n : ℕ) → number first_packet pair ≡ negsuc n → IsAfter carry packets window first_packet (pairs ++ pair ∷ []) c
before_all carry packets window first_packet pairs c h pair n e =
    unchanged carry packets window first_packet pairs c h pair
    (newest_last first_packet None pairs pair ∙ ap (newer_number (newest_of first_packet None pairs)) e)
    (λ q l. inr (λ i t. ⊎_elim (λ g. g) (λ k. absurd (no_pair first_packet pair n q i e k.1)) (got_last window first_packet pairs pair q i t)))

-- a pair whose number isn't above the newest, and that adds nothing to what was got of it
old_number : (carry : Carry) (packets : List (List ℕ)) (window : ℕ) (first_packet : ℤ) (pairs : List (ℕ × ℕ)) (c : CollectorState) (h : IsAfter carry packets window first_packet pairs c)
    (pair : ℕ × ℕ) (n : ℕ) → number first_packet pair ≡ pos n → reached c.newest n ≡ true
    → (c.next ≤ n → (suffice (of_packet n c.kept) ≡ true) ⊎ ((closed window first_packet pairs n ≡ true) ⊎ (got window first_packet pairs n pair.1 ≡ true)))
    → IsAfter carry packets window first_packet (pairs ++ pair ∷ []) c
old_number carry packets window first_packet pairs c h pair n e r why =
    unchanged carry packets window first_packet pairs c h pair
    (newest_last first_packet None pairs pair ∙ ap (newer_number (newest_of first_packet None pairs)) e
    ∙ newer_same (newest_of first_packet None pairs) n (subst (λ m. reached m n ≡ true) h.newest_is r))
    (λ q l. ⊎_elim
    (λ same. ⊎_elim (λ s. inl (subst (λ k. suffice (of_packet k c.kept) ≡ true) same s))
    (λ rest. inr (λ i t. ⊎_elim (λ g. g)
    (λ k. let p = pair_is first_packet pair n q i e k.1 in
    ⊎_elim (λ cl. let x : closed window first_packet pairs q ≡ true = subst (λ k. closed window first_packet pairs k ≡ true) same cl in let y = k.0 in cc)
    (λ g. subst (λ j. got window first_packet pairs q j ≡ true) p.1 (subst (λ k. got window first_packet pairs k pair.1 ≡ true) same g)) rest)
    (got_last window first_packet pairs pair q i t)))
    (why (subst (λ k. c.next ≤ k) (sym same) l)))
    (λ other. inr (λ i t. ⊎_elim (λ g. g) (λ k. absurd (other (pair_is first_packet pair n q i e k.1).0)) (got_last window first_packet pairs pair q i t)))
    (cases_eq n q))

-- the fragment that comes in a datagram
abbrev pub fragment : ℕ → Incoming → NumberedFragment
fragment n incoming = record { number = n; head = incoming.head; payload = incoming.payload }

module _ (carry : Carry) (packets : List (List ℕ)) (window : ℕ) (first_packet : ℤ) (pairs : List (ℕ × ℕ)) (c : CollectorState)
    (h : IsAfter carry packets window first_packet pairs c) (pair : ℕ × ℕ) (incoming : Incoming) (n : ℕ) (packet : List ℕ) (cut : IsCut carry packet) (w : 1 ≤ window) (below : c.next ≤ end_of None c.newest)
    (num : number first_packet pair ≡ pos n) (there : packet_at packets (first_packet +ℤ pos n) ≡ Some packet) (in' : pair.1 < datagrams_of carry packet)
    (head_is : incoming.head ≡ head_of carry packet pair.1) (payload_is : IsPayload carry packet pair.1 incoming.payload) where
  index_is : incoming.head.index ≡ pair.1
  index_is = ap (λ x. x.index) head_is ∙ cut.indices pair.1 in'

  is_fragment : IsOf carry packet (fragment n incoming)
  is_fragment = (
    subst (λ i. i < datagrams_of carry packet) (sym index_is) in',
    head_is ∙ ap (head_of carry packet) (sym index_is),
    subst (λ i. IsPayload carry packet i incoming.payload) (sym index_is) payload_is,
  )

  is_sent : IsSent carry packets first_packet (fragment n incoming)
  is_sent = (packet, there, is_fragment)

  those_sent : AllByRecursion (IsOf carry packet) (of_packet n c.kept)
  those_sent = those_of carry packets first_packet n packet there c.kept (sent_all carry packets window first_packet pairs c h)

  -- the datagram is kept, since its number isn't closed, the packet isn't recoverable yet, and the index isn't there
  module _ (open' : closed window first_packet pairs n ≡ false) (next : c.next ≤ n) (few : suffice (of_packet n c.kept) ≡ false) (fresh : has_index (of_packet n c.kept) incoming.head.index ≡ false) where
    has_new : (i : ℕ) → pair.1 ≡ i → has_index (of_packet n (insert_kept (fragment n incoming) c.kept)) i ≡ true
    has_new i e =
        has_inserted (fragment n incoming) c.kept n i
        ∙ or_left (eqb n n && eqb incoming.head.index i) (has_index (of_packet n c.kept) i)
        (and_from (eqb n n) (eqb incoming.head.index i) (eq-eqb n n refl) (eq-eqb incoming.head.index i (index_is ∙ e)))

    has_old : (q i : ℕ) → has_index (of_packet q c.kept) i ≡ true → has_index (of_packet q (insert_kept (fragment n incoming) c.kept)) i ≡ true
    has_old q i t =
        has_inserted (fragment n incoming) c.kept q i
        ∙ or_right (eqb n q && eqb incoming.head.index i) (has_index (of_packet q c.kept) i) t

    held_new : (q i : ℕ) → c.next ≤ q → has_index (of_packet q (insert_kept (fragment n incoming) c.kept)) i ≡ true → got window first_packet (pairs ++ pair ∷ []) q i ≡ true
    held_new q i l t =
        ⊎_elim
        (λ m. let p = and_parts (eqb n q) (eqb incoming.head.index i) m in
        let same : n ≡ q = eqb-true n q p.0 in
        let j : pair.1 ≡ i = sym index_is ∙ eqb-true incoming.head.index i p.1 in
        got_now window first_packet pairs pair q i w (subst (λ k. closed window first_packet pairs k ≡ false) same open') (is_pair_at first_packet pair n q i num same j))
        (λ o. got_more window first_packet pairs (pair ∷ []) q i (h.held q i l o))
        (or_cases (eqb n q && eqb incoming.head.index i) (has_index (of_packet q c.kept) i) (sym (has_inserted (fragment n incoming) c.kept q i) ∙ t))

    complete_new : (q : ℕ) → c.next ≤ q →
        (suffice (of_packet q (insert_kept (fragment n incoming) c.kept)) ≡ true)
        ⊎ ((i : ℕ) → got window first_packet (pairs ++ pair ∷ []) q i ≡ true → has_index (of_packet q (insert_kept (fragment n incoming) c.kept)) i ≡ true)
    complete_new q l =
        ⊎_elim
        (λ same. ⊎_elim
        (λ st. let x : suffice (of_packet n c.kept) ≡ true = subst (λ k. suffice (of_packet k c.kept) ≡ true) (sym same) st in absurd (let y : false ≡ true = sym few ∙ x in cc))
        (λ k. inr (λ i t. ⊎_elim
        (λ g. has_old q i (k i g))
        (λ m. subst (λ r. has_index (of_packet r (insert_kept (fragment n incoming) c.kept)) i ≡ true) same (has_new i (pair_is first_packet pair n q i num m.1).1))
        (got_last window first_packet pairs pair q i t)))
        (h.complete q l))
        (λ other. ⊎_elim
        (λ st. inl (ap suffice (insert_other (λ f. eqb f.number q) (fragment n incoming) c.kept (ne_eqb n q other)) ∙ st))
        (λ k. inr (λ i t. ⊎_elim
        (λ g. has_old q i (k i g))
        (λ m. absurd (other (pair_is first_packet pair n q i num m.1).0))
        (got_last window first_packet pairs pair q i t)))
        (h.complete q l))
        (cases_eq n q)

    size_new : size (datagrams_of carry packet) (has_index (of_packet n (insert_kept (fragment n incoming) c.kept))) ≡ size (datagrams_of carry packet) (has_index (of_packet n c.kept)) + 1
    size_new =
        size_more (datagrams_of carry packet) pair.1 (has_index (of_packet n c.kept)) (has_index (of_packet n (insert_kept (fragment n incoming) c.kept)))
        (λ j ne. has_inserted (fragment n incoming) c.kept n j
        ∙ ap (λ x. (eqb n n && x) || has_index (of_packet n c.kept) j) (ne_eqb incoming.head.index j (λ e. ne (sym e ∙ index_is)))
        ∙ ap (λ x. x || has_index (of_packet n c.kept) j) (and_right (eqb n n) false refl))
        (subst (λ i. has_index (of_packet n c.kept) i ≡ false) index_is fresh)
        (has_new pair.1 refl) in'

    counted_new : (q : ℕ) (x : List ℕ) → c.next ≤ q → packet_at packets (first_packet +ℤ pos q) ≡ Some x →
        length (of_packet q (insert_kept (fragment n incoming) c.kept)) ≡ size (datagrams_of carry x) (has_index (of_packet q (insert_kept (fragment n incoming) c.kept)))
    counted_new q x l at =
        ⊎_elim
        (λ same. let e : packet_at packets (first_packet +ℤ pos n) ≡ Some x = subst (λ k. packet_at packets (first_packet +ℤ pos k) ≡ Some x) (sym same) at in
        let xs : packet ≡ x = cc in
        subst (λ k. length (of_packet k (insert_kept (fragment n incoming) c.kept)) ≡ size (datagrams_of carry x) (has_index (of_packet k (insert_kept (fragment n incoming) c.kept)))) same
        (subst (λ y. length (of_packet n (insert_kept (fragment n incoming) c.kept)) ≡ size (datagrams_of carry y) (has_index (of_packet n (insert_kept (fragment n incoming) c.kept)))) xs
        (count_insert (λ f. eqb f.number n) (fragment n incoming) c.kept
        ∙ ap (λ b. length (of_packet n c.kept) + cond b 1 0) (eq-eqb n n refl)
        ∙ ap (λ k. k + 1) (h.counted n packet next there) ∙ sym size_new)))
        (λ other. subst (λ fs. length fs ≡ size (datagrams_of carry x) (has_index fs)) (sym (insert_other (λ f. eqb f.number q) (fragment n incoming) c.kept (ne_eqb n q other))) (h.counted q x l at))
        (cases_eq n q)

    kept_new : IsAfter carry packets window first_packet (pairs ++ pair ∷ []) (kept_at c (pos n) incoming)
    kept_new = record {
      window_is = h.window_is;
      newest_is = ap (λ m. newer m n) h.newest_is ∙ sym (newest_last first_packet None pairs pair ∙ ap (newer_number (newest_of first_packet None pairs)) num);
      sent = all_insert (IsKept carry packets first_packet c.next (newer c.newest n)) (fragment n incoming) c.kept
          (is_sent, next, reached_now c.newest n)
          (all_weaker (IsKept carry packets first_packet c.next c.newest) (IsKept carry packets first_packet c.next (newer c.newest n))
          (λ f k. (k.0, k.1, reached_more c.newest n f.number k.2)) c.kept h.sent);
      ordered = ordered_insert (fragment n incoming) c.kept (others_of (fragment n incoming) c.kept fresh) h.ordered;
      held = held_new;
      complete = complete_new;
      counted = counted_new;
    }

  is_old : n < 2 ^ 62 → is_late c n ≡ true → IsAfter carry packets window first_packet (pairs ++ pair ∷ []) c
  is_old small l =
      ⊎_elim
      (λ r. old_number carry packets window first_packet pairs c h pair n num (reached_less c.newest n c.window r) (λ m. inr (inl (sym (closed_same carry packets window first_packet pairs c h n) ∙ r))))
      (λ r. ⊎_elim
      (λ g. let less : n < c.next = ltb-true n c.next g in
      old_number carry packets window first_packet pairs c h pair n num (below_end c.newest n c.next less below) (λ m. absurd (omega arith)))
      (λ g. let less : 2 ^ 62 ≤ n = leb-true (2 ^ 62) n g in absurd (omega arith))
      (or_cases (ltb n c.next) (leb (2 ^ 62) n) r))
      (or_cases (reached c.newest (n + c.window)) (ltb n c.next || leb (2 ^ 62) n) l)

  by_tests : (late done again : Bool) (odd : Option NumberedFragment) → n < 2 ^ 62
      → late ≡ is_late c n → done ≡ suffice (of_packet n c.kept)
      → odd ≡ find (λ f. not (agree f.head incoming.head)) (of_packet n c.kept) → again ≡ has_index (of_packet n c.kept) incoming.head.index
      → IsAfter carry packets window first_packet (pairs ++ pair ∷ []) (after_answer c (pos n) incoming (cond late Late (cond done Repeated (answer_by odd again incoming.head))))
      × IsTakenWell (cond late Late (cond done Repeated (answer_by odd again incoming.head)))
  by_tests true done again odd small l d o a = (is_old small (sym l), tt)
  by_tests false true again odd small l d o a =
      (old_number carry packets window first_packet pairs c h pair n num (reached_by carry packets window first_packet pairs c h n (inl (sym d))) (λ m. inl (sym d)), tt)
  by_tests false false again (Some f) small l d o a =
      let none : find (λ f. not (agree f.head incoming.head)) (of_packet n c.kept) ≡ None
      = ap (λ x. find (λ f. not (agree f.head x)) (of_packet n c.kept)) head_is ∙ none_disagrees carry packet cut pair.1 in' (of_packet n c.kept) those_sent in
      absurd (let e : Some f ≡ None = o ∙ none in cc)
  by_tests false false true None small l d o a = (
    old_number carry packets window first_packet pairs c h pair n num (reached_by carry packets window first_packet pairs c h n (inr (incoming.head.index, sym a)))
        (λ m. inr (inr (h.held n pair.1 m (subst (λ i. has_index (of_packet n c.kept) i ≡ true) index_is (sym a))))),
    tt,
  )
  by_tests false false false None small l d o a =
      let p = or_parts (reached c.newest (n + c.window)) (ltb n c.next || leb (2 ^ 62) n) (sym l) in
      let r = or_parts (ltb n c.next) (leb (2 ^ 62) n) p.1 in
      (kept_new (sym (closed_same carry packets window first_packet pairs c h n) ∙ p.0) (ltb-false n c.next r.0) (sym d) (sym a), tt)

  -- a datagram that is taken: the collector is that of one pair more, and its fragment was consistent
  pub take_pos : n < 2 ^ 62 → is_far c (pos n) ≡ false
      → IsAfter carry packets window first_packet (pairs ++ pair ∷ []) (after_answer c (pos n) incoming (answer_at c (pos n) incoming.head)) × IsTakenWell (answer_at c (pos n) incoming.head)
  take_pos small near =
      subst (λ a. IsAfter carry packets window first_packet (pairs ++ pair ∷ []) (after_answer c (pos n) incoming a) × IsTakenWell a) (sym (not_far c (pos n) incoming.head near))
      (by_tests (is_late c n) (suffice (of_packet n c.kept)) (has_index (of_packet n c.kept) incoming.head.index)
      (find (λ f. not (agree f.head incoming.head)) (of_packet n c.kept)) small refl refl refl refl)
