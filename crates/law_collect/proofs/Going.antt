-- Giving what is ready, while a delivery goes on and after its end.
use Rattle.std.proofs.Common.{ℕ, ◌≡◌, ◌+◌, ◌<◌, ◌≤◌, true, false, List, [], ◌∷◌, ◌++◌, map, Some, None, inl, ⊎_elim, refl, sym, ap, ◌∙◌, subst, append_assoc, arith}
use Rattle.std.specs.Prelude.{ℤ, pos, ◌+ℤ◌}
use Rattle.std.specs.List.{range_with_len}
use Rattle.std.proofs.lemmas.Bool.{ltb-true, ltb-false}
use Rattle.std.proofs.lemmas.List.{append-nil}
use Rattle.std.proofs.lemmas.List.FromFn.{map-range_with_len_more}
use Rattle.dcp_collect.specs.Fragments.{suffice, of_packet}
use Rattle.dcp_collect.specs.CollectorState.{CollectorState, ready, ready_by, reached, after_item}
use Rattle.dcp_collect.specs.Numbers.{end_of}
use Rattle.dcp_collect.specs.Runs.{CollectorItem, CollectorGives}
use Rattle.dcp_pft.specs.declared.carry.Carry.{Carry}
use Rattle.law_collect.specs.Delivery.{packet_at, got, item}
use Rattle.law_collect.proofs.Sent.{IsCut}
use Rattle.law_collect.proofs.Got.{got_more, got_closed}
use Rattle.law_collect.proofs.Reached.{reached_less, reached_end, IsReady, ready_why}
use Rattle.law_collect.proofs.After.{IsAfter, reached_by, closed_same}
use Rattle.law_collect.proofs.Next.{item_after, item_is}

-- the items of the first n numbers
abbrev pub first_items : (ℕ → CollectorItem) → ℕ → List CollectorItem
first_items I n = map I (range_with_len 0 n)

range_more : (I : ℕ → CollectorItem) (n : ℕ) (given : CollectorItem) (later : List CollectorItem) → given ≡ I n
    → first_items I n ++ (given ∷ later) ≡ first_items I (n + 1) ++ later
range_more I n given later e =
    ap (λ o. first_items I n ++ (o ∷ later)) e
    ∙ sym (append_assoc (first_items I n) (I n ∷ []) later)
    ∙ ap (λ xs. xs ++ later) (sym (map-range_with_len_more I 0 n n (omega arith)))

-- the collector after these pairs, before `finish`
pub record IsOpen (carry : Carry) (packets : List (List ℕ)) (window : ℕ) (first_packet : ℤ) (pairs : List (ℕ × ℕ)) (c : CollectorState) : Type 0 where
  pub is_after : IsAfter carry packets window first_packet pairs c
  pub no_end : c.end ≡ None
  pub below : c.next ≤ end_of None c.newest
  pub fresh : c.first ≡ None → c.newest ≡ None

module _ (carry : Carry) (packets : List (List ℕ)) (window : ℕ) (first_packet : ℤ)
    (cut : (q : ℕ) (packet : List ℕ) → packet_at packets (first_packet +ℤ pos q) ≡ Some packet → IsCut carry packet)
    (pairs more : List (ℕ × ℕ)) where
  same_by : (c : CollectorState) → IsAfter carry packets window first_packet pairs c → IsReady c
      → suffice (of_packet c.next c.kept) ≡ false → (i : ℕ) → got window first_packet (pairs ++ more) c.next i ≡ got window first_packet pairs c.next i
  same_by c h why f i =
      ⊎_elim (λ t. let e : false ≡ true = sym f ∙ t in absurd (let y = e in cc))
      (λ r. got_closed window first_packet pairs more c.next i (sym (closed_same carry packets window first_packet pairs c h c.next) ∙ r)) why

  reached_why : (c : CollectorState) → IsAfter carry packets window first_packet pairs c → IsReady c → reached c.newest c.next ≡ true
  reached_why c h why =
      ⊎_elim (λ t. reached_by carry packets window first_packet pairs c h c.next (inl t)) (λ r. reached_less c.newest c.next c.window r) why

  open_next : (c : CollectorState) → IsOpen carry packets window first_packet pairs c → ready c ≡ true → IsOpen carry packets window first_packet pairs (after_item c)
  open_next c o r = record {
    is_after = item_after carry packets window first_packet pairs c o.is_after;
    no_end = o.no_end;
    below = reached_end c.newest c.next (reached_why c o.is_after (ready_why c o.no_end r));
    fresh = o.fresh;
  }

  -- while the delivery goes on
  pub gives_during : (given : List CollectorItem) (c d : CollectorState) → IsOpen carry packets window first_packet pairs c → CollectorGives c given d
      → IsOpen carry packets window first_packet pairs d × (d.first ≡ c.first)
      × (first_items (item carry packets window first_packet (pairs ++ more)) c.next ++ given ≡ first_items (item carry packets window first_packet (pairs ++ more)) d.next)
  gives_during [] c d o g = (
    subst (λ x. IsOpen carry packets window first_packet pairs x) (sym g.1) o,
    ap (λ x. x.first) g.1,
    append-nil (first_items (item carry packets window first_packet (pairs ++ more)) c.next)
        ∙ ap (λ x. first_items (item carry packets window first_packet (pairs ++ more)) x.next) (sym g.1),
  )
  gives_during (given ∷ later) c d o g =
      let why = ready_why c o.no_end g.0 in
      let is : given ≡ item carry packets window first_packet (pairs ++ more) c.next
      = item_is carry packets window first_packet pairs c cut o.is_after (pairs ++ more) (λ i t. got_more window first_packet pairs more c.next i t) (same_by c o.is_after why) given g.1 in
      let rest = gives_during later (after_item c) d (open_next c o g.0) g.2 in
      (rest.0, rest.1, range_more (item carry packets window first_packet (pairs ++ more)) c.next given later is ∙ rest.2)

module _ (carry : Carry) (packets : List (List ℕ)) (window : ℕ) (first_packet : ℤ)
    (cut : (q : ℕ) (packet : List ℕ) → packet_at packets (first_packet +ℤ pos q) ≡ Some packet → IsCut carry packet)
    (pairs : List (ℕ × ℕ)) (n : ℕ) where
  -- after `finish`, up to the end
  pub gives_to_end : (given : List CollectorItem) (c d : CollectorState) → IsAfter carry packets window first_packet pairs c → c.end ≡ Some n → CollectorGives c given d
      → (m : ℕ) × (n ≤ m) × (c.next ≤ n → m ≡ n)
      × (first_items (item carry packets window first_packet pairs) c.next ++ given ≡ first_items (item carry packets window first_packet pairs) m)
  gives_to_end [] c d h u g =
      let l : n ≤ c.next = ltb-false c.next n (sym (ap (λ o. ready_by o c) u) ∙ g.0) in
      (c.next, l, λ k. omega arith, append-nil (first_items (item carry packets window first_packet pairs) c.next))
  gives_to_end (given ∷ later) c d h u g =
      let l : c.next < n = ltb-true c.next n (sym (ap (λ o. ready_by o c) u) ∙ g.0) in
      let is : given ≡ item carry packets window first_packet pairs c.next
      = item_is carry packets window first_packet pairs c cut h pairs (λ i t. t) (λ f i. refl) given g.1 in
      let rest = gives_to_end later (after_item c) d (item_after carry packets window first_packet pairs c h) u g.2 in
      (rest.0, rest.1, λ k. rest.2 (omega arith), range_more (item carry packets window first_packet pairs) c.next given later is ∙ rest.3)
