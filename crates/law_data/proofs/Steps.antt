-- What a joiner knows of a reading, and what each event makes of it.
use Rattle.std.proofs.Common.{◌≡◌, ℕ, ◌+◌, ◌<◌, ◌≤◌, ◌⊎◌, inl, inr, Bool, true, false, List, [], ◌∷◌, ◌++◌, length, Option, Some, None, is_some, refl, sym, ap, subst, ◌∙◌, append-nil, arith}
use Rattle.std.specs.List.{AllByRecursion}
use Rattle.drm_data.specs.PacketFields.{PacketFields}
use Rattle.drm_data.specs.Units.{most_unit, next_continuity}
use Rattle.drm_data.specs.Joining.{JoinerEvent, Received, OpenUnit}
use Rattle.law_data.specs.Readings.{IsAPacket, bytes_of, continuity_of, IsNotLast, AreChained, IsUnitOpen, EndsUnit, EventCutsUnit}
use Rattle.law_data.proofs.Cases.{GoesOn, Case, Alone, Begins, Goes, Finishes, Breaks, Strays}
use Rattle.law_data.proofs.Pushes.{all_push, all_front, bytes_of-push, continuity_of-push, chained_one, chained_more, chained_cases, GoesWith, ends_in_none, ends_more, ends_past, ended_more, ended_past, ended_break}

-- the unit is the one that is is_open
pub record OpensAs (id : ℕ) (before : List JoinerEvent) (u : OpenUnit) : Type 0 where
  pub packets : List PacketFields
  pub is_open : IsUnitOpen id before packets
  pub bytes_are : u.bytes ≡ bytes_of packets
  pub last_is : u.continuity ≡ continuity_of packets
  pub only : (qs : List PacketFields) → IsUnitOpen id before qs → qs ≡ packets

-- of a reading so far it is known whether a unit is open, and which
abbrev pub Knows : ℕ → List JoinerEvent → Option OpenUnit → Type 0
Knows id before None = (ps : List PacketFields) → IsUnitOpen id before ps → ⊥
Knows id before (Some u) = OpensAs id before u

pub clash : {A : Type 0} (b : Bool) → b ≡ true → b ≡ false → A
clash b h k = let is : true ≡ false = sym h ∙ k in absurd cc

pub clash_some : {A X : Type 0} (o : Option X) (x : X) → o ≡ None → o ≡ Some x → A
clash_some o x none some = let is : None ≡ Some x = sym none ∙ some in absurd cc

same_some : {X : Type 0} (o : Option X) (x y : X) → o ≡ Some x → o ≡ Some y → x ≡ y
same_some o x y h k = let is : Some x ≡ Some y = sym h ∙ k in cc

nothing_chained : {A : Type 0} (ps : List PacketFields) → AreChained ps → ps ≡ [] → A
nothing_chained ps h none = let P : List PacketFields → Type 0 = λ l. AreChained l in absurd (subst P none h)

-- a unit that is open behind a packet of the id was begun by it, or it goes on with one that was is_open
open_cases : (id : ℕ) (before : List JoinerEvent) (p : PacketFields) (ps : List PacketFields) → p.id ≡ id → IsUnitOpen id (before ++ Received p ∷ []) ps
    → (p.last ≡ false) × (((p.first ≡ true) × (ps ≡ p ∷ [])) ⊎ ((qs : List PacketFields) × IsUnitOpen id before qs × GoesWith qs p × (ps ≡ qs ++ p ∷ [])))
open_cases id before p ps mine h =
    elim (ended_more id before p ps mine h.ends) [
      | inl none ↦ nothing_chained ps h.chained none
      | inr w ↦
          let P : List PacketFields → Type 0 = λ l. AreChained l in
          let Q : List PacketFields → Type 0 = λ l. AllByRecursion IsNotLast l in
          let parts = all_front IsNotLast w.0 p (subst Q w.2 h.going) in
          elim (chained_cases w.0 p (subst P w.2 h.chained)) [
            | inl one ↦ (parts.1, inl (one.1, w.2 ∙ ap (λ l. l ++ p ∷ []) one.0))
            | inr more ↦ (parts.1, inr (w.0, record { ends = w.1; chained = more.chained; going = parts.0 }, more, w.2))
          ]
    ]

pub knows_past : (id : ℕ) (before : List JoinerEvent) (p : PacketFields) (b : Option OpenUnit) → (p.id ≡ id → ⊥) → Knows id before b → Knows id (before ++ Received p ∷ []) b
knows_past id before p None other k = λ ps h.
    elim (ended_past id before p ps other h.ends) [
      | inl none ↦ nothing_chained ps h.chained none
      | inr ends ↦ k ps (record { ends = ends; chained = h.chained; going = h.going })
    ]
knows_past id before p (Some u) other k = record {
  packets = k.packets;
  is_open = record { ends = ends_past id before p k.packets other k.is_open.ends; chained = k.is_open.chained; going = k.is_open.going };
  bytes_are = k.bytes_are;
  last_is = k.last_is;
  only = λ qs h.
      elim (ended_past id before p qs other h.ends) [
        | inl none ↦ nothing_chained qs h.chained none
        | inr ends ↦ k.only qs (record { ends = ends; chained = h.chained; going = h.going })
      ];
}

pub knows_break : (id : ℕ) (before : List JoinerEvent) (e : JoinerEvent) → (IsAPacket e → ⊥) → Knows id (before ++ e ∷ []) None
knows_break id before e break = λ ps h. nothing_chained ps h.chained (ended_break id before e ps break h.ends)

-- what goes on with the packets goes on with the unit, and the other way round
goes_with : (id : ℕ) (before : List JoinerEvent) (u : OpenUnit) (p : PacketFields) (k : OpensAs id before u) → GoesOn u p → GoesWith k.packets p
goes_with id before u p k go = record {
  chained = k.is_open.chained;
  not_first = go.not_first;
  due = go.due ∙ ap next_continuity k.last_is;
  few = omega (arith, ap length k.bytes_are, go.few);
}

goes_on_with : (id : ℕ) (before : List JoinerEvent) (u : OpenUnit) (p : PacketFields) (k : OpensAs id before u) (qs : List PacketFields) → IsUnitOpen id before qs → GoesWith qs p → GoesOn u p
goes_on_with id before u p k qs is_open go =
    let same : qs ≡ k.packets = k.only qs is_open in
    record {
      not_first = go.not_first;
      due = go.due ∙ ap next_continuity (ap continuity_of same ∙ sym k.last_is);
      few = omega (arith, ap length k.bytes_are, ap (λ l. length (bytes_of l)) same, go.few);
    }

not_odd : {A : Type 0} (u : OpenUnit) (p : PacketFields) → GoesOn u p → (p.continuity ≡ next_continuity u.continuity → ⊥) ⊎ (most_unit < length u.bytes + length p.useful) → A
not_odd u p go (inl ne) = absurd (ne go.due)
not_odd u p go (inr lt) = absurd (omega (arith, go.few, lt))

-- the unit that is known, where it is this one
known_as : (id : ℕ) (before : List JoinerEvent) (b : Option OpenUnit) (u : OpenUnit) → b ≡ Some u → Knows id before b → OpensAs id before u
known_as id before b u is k = let P : Option OpenUnit → Type 0 = λ o. Knows id before o in subst P is k

known_none : (id : ℕ) (before : List JoinerEvent) (b : Option OpenUnit) → b ≡ None → Knows id before b → (ps : List PacketFields) → IsUnitOpen id before ps → ⊥
known_none id before b is k = let P : Option OpenUnit → Type 0 = λ o. Knows id before o in subst P is k

pub open_some : (id : ℕ) (before : List JoinerEvent) (b : Option OpenUnit) (ps : List PacketFields) → Knows id before b → IsUnitOpen id before ps → is_some b ≡ true
open_some id before None ps k is_open = absurd (k ps is_open)
open_some id before (Some u) ps k is_open = refl

pub some_open : (id : ℕ) (before : List JoinerEvent) (b : Option OpenUnit) → Knows id before b → is_some b ≡ true → (u : OpenUnit) × (b ≡ Some u) × OpensAs id before u
some_open id before None k is = absurd cc
some_open id before (Some u) k is = (u, refl, k)

-- after a packet of the id, none is is_open
none_by : (id : ℕ) (before : List JoinerEvent) (c : Option OpenUnit) → c ≡ None → ((ps : List PacketFields) → IsUnitOpen id before ps → ⊥) → Knows id before c
none_by id before c is k = let P : Option OpenUnit → Type 0 = λ o. Knows id before o in subst P (sym is) k

as_by : (id : ℕ) (before : List JoinerEvent) (c : Option OpenUnit) (u : OpenUnit) → c ≡ Some u → OpensAs id before u → Knows id before c
as_by id before c u is k = let P : Option OpenUnit → Type 0 = λ o. Knows id before o in subst P (sym is) k

begins_one : (id : ℕ) (before : List JoinerEvent) (p : PacketFields) → p.id ≡ id → length p.useful ≤ most_unit → p.first ≡ true → p.last ≡ false
    → OpensAs id (before ++ Received p ∷ []) (record { bytes = p.useful; continuity = p.continuity })
begins_one id before p mine few first last = record {
  packets = p ∷ [];
  is_open = record { ends = ends_more id before p [] mine (ends_in_none id before); chained = chained_one p first few; going = (last, tt) };
  bytes_are = sym (append-nil p.useful);
  last_is = refl;
  only = λ qs h.
      elim (open_cases id before p qs mine h).1 [
        | inl one ↦ one.1
        | inr w ↦ clash p.first first w.2.not_first
      ];
}

goes_one : (id : ℕ) (before : List JoinerEvent) (p : PacketFields) (u : OpenUnit) → p.id ≡ id → OpensAs id before u → GoesOn u p → p.last ≡ false
    → OpensAs id (before ++ Received p ∷ []) (record { bytes = u.bytes ++ p.useful; continuity = p.continuity })
goes_one id before p u mine k go last =
    let g = goes_with id before u p k go in
    record {
      packets = k.packets ++ p ∷ [];
      is_open = record {
        ends = ends_more id before p k.packets mine k.is_open.ends;
        chained = chained_more k.packets p g.chained g.not_first g.due g.few;
        going = all_push IsNotLast k.packets p k.is_open.going last;
      };
      bytes_are = ap (λ l. l ++ p.useful) k.bytes_are ∙ sym (bytes_of-push k.packets p);
      last_is = sym (continuity_of-push k.packets p);
      only = λ qs h.
          elim (open_cases id before p qs mine h).1 [
            | inl one ↦ clash p.first one.0 go.not_first
            | inr w ↦ w.3 ∙ ap (λ l. l ++ p ∷ []) (k.only w.0 w.1)
          ];
    }

pub knows_mine : (id : ℕ) (before : List JoinerEvent) (p : PacketFields) (b c : Option OpenUnit) (unit : Option (List ℕ)) (cut : Bool) → p.id ≡ id → length p.useful ≤ most_unit → Knows id before b → Case b p c unit cut
    → Knows id (before ++ Received p ∷ []) c
knows_mine id before p b c unit cut mine few k (Alone first last is gives cut_is) =
    none_by id (before ++ Received p ∷ []) c is (λ ps h. clash p.last last (open_cases id before p ps mine h).0)
knows_mine id before p b c unit cut mine few k (Begins first last is gives cut_is) =
    as_by id (before ++ Received p ∷ []) c _ is (begins_one id before p mine few first last)
knows_mine id before p b c unit cut mine few k (Goes u was go last is gives cut_is) =
    as_by id (before ++ Received p ∷ []) c _ is (goes_one id before p u mine (known_as id before b u was k) go last)
knows_mine id before p b c unit cut mine few k (Finishes u was go last is gives cut_is) =
    none_by id (before ++ Received p ∷ []) c is (λ ps h. clash p.last last (open_cases id before p ps mine h).0)
knows_mine id before p b c unit cut mine few k (Breaks u was first odd is gives cut_is) =
    none_by id (before ++ Received p ∷ []) c is (λ ps h.
    elim (open_cases id before p ps mine h).1 [
      | inl one ↦ clash p.first one.0 first
      | inr w ↦ not_odd u p (goes_on_with id before u p (known_as id before b u was k) w.0 w.1 w.2) odd
    ])
knows_mine id before p b c unit cut mine few k (Strays was first is gives cut_is) =
    none_by id (before ++ Received p ∷ []) c is (λ ps h.
    elim (open_cases id before p ps mine h).1 [
      | inl one ↦ clash p.first one.0 first
      | inr w ↦ known_none id before b was k w.0 w.1
    ])

-- A unit that ends here was begun here, or was open.
end_cases : (id : ℕ) (before : List JoinerEvent) (p : PacketFields) (unit : List ℕ) → EndsUnit id before p unit
    → ((p.first ≡ true) × (unit ≡ p.useful)) ⊎ ((qs : List PacketFields) × IsUnitOpen id before qs × GoesWith qs p × (unit ≡ bytes_of qs ++ p.useful))
end_cases id before p unit h =
    elim (chained_cases h.before p h.chained) [
      | inl one ↦ inl (one.1, h.unit_is ∙ (ap (λ l. bytes_of (l ++ p ∷ [])) one.0 ∙ append-nil p.useful))
      | inr more ↦ inr (h.before, record { ends = h.ends; chained = more.chained; going = h.going }, more, h.unit_is ∙ bytes_of-push h.before p)
    ]

-- the unit that ends here is given
pub ends_given : (id : ℕ) (before : List JoinerEvent) (p : PacketFields) (b c : Option OpenUnit) (gives : Option (List ℕ)) (cut : Bool) → Knows id before b → Case b p c gives cut
    → (unit : List ℕ) → EndsUnit id before p unit → gives ≡ Some unit
ends_given id before p b c gives cut k (Alone first last is given cut_is) unit h =
    elim (end_cases id before p unit h) [
      | inl one ↦ given ∙ ap Some (sym one.1)
      | inr w ↦ clash p.first first w.2.not_first
    ]
ends_given id before p b c gives cut k (Begins first last is given cut_is) unit h = clash p.last h.last last
ends_given id before p b c gives cut k (Goes u was go last is given cut_is) unit h = clash p.last h.last last
ends_given id before p b c gives cut k (Finishes u was go last is given cut_is) unit h =
    let known = known_as id before b u was k in
    elim (end_cases id before p unit h) [
      | inl one ↦ clash p.first one.0 go.not_first
      | inr w ↦ given ∙ ap Some (ap (λ l. l ++ p.useful) (known.bytes_are ∙ ap bytes_of (sym (known.only w.0 w.1))) ∙ sym w.3)
    ]
ends_given id before p b c gives cut k (Breaks u was first odd is given cut_is) unit h =
    elim (end_cases id before p unit h) [
      | inl one ↦ clash p.first one.0 first
      | inr w ↦ not_odd u p (goes_on_with id before u p (known_as id before b u was k) w.0 w.1 w.2) odd
    ]
ends_given id before p b c gives cut k (Strays was first is given cut_is) unit h =
    elim (end_cases id before p unit h) [
      | inl one ↦ clash p.first one.0 first
      | inr w ↦ absurd (known_none id before b was k w.0 w.1)
    ]

-- the unit that is given ends here
pub given_ends : (id : ℕ) (before : List JoinerEvent) (p : PacketFields) (b c : Option OpenUnit) (gives : Option (List ℕ)) (cut : Bool) → p.id ≡ id → length p.useful ≤ most_unit → Knows id before b
    → Case b p c gives cut → (unit : List ℕ) → gives ≡ Some unit → EndsUnit id before p unit
given_ends id before p b c gives cut mine few k (Alone first last is given cut_is) unit h = record {
  mine = mine;
  before = [];
  ends = ends_in_none id before;
  chained = chained_one p first few;
  going = tt;
  last = last;
  unit_is = same_some gives unit p.useful h given ∙ sym (append-nil p.useful);
}
given_ends id before p b c gives cut mine few k (Begins first last is given cut_is) unit h = clash_some gives unit given h
given_ends id before p b c gives cut mine few k (Goes u was go last is given cut_is) unit h = clash_some gives unit given h
given_ends id before p b c gives cut mine few k (Finishes u was go last is given cut_is) unit h =
    let known = known_as id before b u was k in
    let g = goes_with id before u p known go in
    record {
      mine = mine;
      before = known.packets;
      ends = known.is_open.ends;
      chained = chained_more known.packets p g.chained g.not_first g.due g.few;
      going = known.is_open.going;
      last = last;
      unit_is = same_some gives unit (u.bytes ++ p.useful) h given ∙ (ap (λ l. l ++ p.useful) known.bytes_are ∙ sym (bytes_of-push known.packets p));
    }
given_ends id before p b c gives cut mine few k (Breaks u was first odd is given cut_is) unit h = clash_some gives unit given h
given_ends id before p b c gives cut mine few k (Strays was first is given cut_is) unit h = clash_some gives unit given h

-- the open unit that the event cuts
abbrev pub CutsOne : ℕ → List JoinerEvent → JoinerEvent → Type 0
CutsOne id before e = (ps : List PacketFields) × IsUnitOpen id before ps × EventCutsUnit id ps e

cut_by_first : (id : ℕ) (before : List JoinerEvent) (p : PacketFields) (b : Option OpenUnit) → p.id ≡ id → Knows id before b → p.first ≡ true → is_some b ≡ true → CutsOne id before (Received p)
cut_by_first id before p b mine k first is =
    let w = some_open id before b k is in (w.2.packets, w.2.is_open, (mine, inl first))

cut_by_odd : (id : ℕ) (before : List JoinerEvent) (p : PacketFields) (u : OpenUnit) → p.id ≡ id → OpensAs id before u → (p.continuity ≡ next_continuity u.continuity → ⊥) ⊎ (most_unit < length u.bytes + length p.useful)
    → CutsOne id before (Received p)
cut_by_odd id before p u mine k (inl ne) = (k.packets, k.is_open, (mine, inr (inl (λ is. ne (is ∙ ap next_continuity (sym k.last_is))))))
cut_by_odd id before p u mine k (inr lt) = (k.packets, k.is_open, (mine, inr (inr (omega (arith, ap length k.bytes_are, lt)))))

-- a cut that is told is one
pub cut_of_answer : (id : ℕ) (before : List JoinerEvent) (p : PacketFields) (b c : Option OpenUnit) (gives : Option (List ℕ)) (cut : Bool) → p.id ≡ id → Knows id before b → Case b p c gives cut → cut ≡ true
    → CutsOne id before (Received p)
cut_of_answer id before p b c gives cut mine k (Alone first last is given cut_is) is_cut = cut_by_first id before p b mine k first (sym cut_is ∙ is_cut)
cut_of_answer id before p b c gives cut mine k (Begins first last is given cut_is) is_cut = cut_by_first id before p b mine k first (sym cut_is ∙ is_cut)
cut_of_answer id before p b c gives cut mine k (Goes u was go last is given cut_is) is_cut = clash cut is_cut cut_is
cut_of_answer id before p b c gives cut mine k (Finishes u was go last is given cut_is) is_cut = clash cut is_cut cut_is
cut_of_answer id before p b c gives cut mine k (Breaks u was first odd is given cut_is) is_cut = cut_by_odd id before p u mine (known_as id before b u was k) odd
cut_of_answer id before p b c gives cut mine k (Strays was first is given cut_is) is_cut = clash cut is_cut cut_is

-- a packet that goes on with the unit doesn't cut it
going_cuts : {A : Type 0} (id : ℕ) (before : List JoinerEvent) (p : PacketFields) (u : OpenUnit) → OpensAs id before u → GoesOn u p → CutsOne id before (Received p) → A
going_cuts id before p u k go (ps, is_open, (mine, inl first)) = clash p.first first go.not_first
going_cuts id before p u k go (ps, is_open, (mine, inr (inl ne))) = absurd (ne (go.due ∙ ap next_continuity (k.last_is ∙ ap continuity_of (sym (k.only ps is_open)))))
going_cuts id before p u k go (ps, is_open, (mine, inr (inr lt))) =
    absurd (omega (arith, go.few, lt, ap length k.bytes_are, ap (λ l. length (bytes_of l)) (k.only ps is_open)))

-- a cut is told
pub answer_of_cut : (id : ℕ) (before : List JoinerEvent) (p : PacketFields) (b c : Option OpenUnit) (gives : Option (List ℕ)) (cut : Bool) → Knows id before b → Case b p c gives cut → CutsOne id before (Received p) → cut ≡ true
answer_of_cut id before p b c gives cut k (Alone first last is given cut_is) h = cut_is ∙ open_some id before b h.0 k h.1
answer_of_cut id before p b c gives cut k (Begins first last is given cut_is) h = cut_is ∙ open_some id before b h.0 k h.1
answer_of_cut id before p b c gives cut k (Goes u was go last is given cut_is) h = going_cuts id before p u (known_as id before b u was k) go h
answer_of_cut id before p b c gives cut k (Finishes u was go last is given cut_is) h = going_cuts id before p u (known_as id before b u was k) go h
answer_of_cut id before p b c gives cut k (Breaks u was first odd is given cut_is) h = cut_is
answer_of_cut id before p b c gives cut k (Strays was first is given cut_is) h = absurd (known_none id before b was k h.0 h.1)
