-- Readings and packets with one more at their end.
use Rattle.std.proofs.Common.{◌≡◌, ℕ, ◌+◌, ◌≤◌, ◌⊎◌, inl, inr, true, false, if◌then◌else◌, List, [], ◌∷◌, ◌++◌, length, refl, sym, ap, subst, ◌∙◌, append_assoc, append-nil, arith, length-append, eq-eqb}
use Rattle.std.specs.List.{AllByRecursion}
use Rattle.std.proofs.lemmas.Bool.{ne_eqb}
use Rattle.std.proofs.lemmas.List.{same_from_push}
use Rattle.drm_data.specs.PacketFields.{PacketFields}
use Rattle.drm_data.specs.Units.{most_unit, next_continuity}
use Rattle.drm_data.specs.Joining.{JoinerEvent, Received}
use Rattle.law_data.specs.Readings.{IsAPacket, of_id_at, of_id, bytes_of, continuity_behind, continuity_of, ContinuitiesFollow, IsNotFirst, AreChained, EndsIn}

pub all_push : {X : Type 0} (P : X → Type 0) (xs : List X) (x : X) → AllByRecursion P xs → P x → AllByRecursion P (xs ++ x ∷ [])
all_push P [] x h k = (k, tt)
all_push P (y ∷ xs) x h k = (h.0, all_push P xs x h.1 k)

pub all_front : {X : Type 0} (P : X → Type 0) (xs : List X) (x : X) → AllByRecursion P (xs ++ x ∷ []) → AllByRecursion P xs × P x
all_front P [] x h = (tt, h.0)
all_front P (y ∷ xs) x h = let r = all_front P xs x h.1 in ((h.0, r.0), r.1)

-- a list is empty or has a last element
pub last_or_none : {X : Type 0} (xs : List X) → (xs ≡ []) ⊎ ((ys : List X) × (y : X) × (xs ≡ ys ++ y ∷ []))
last_or_none [] = inl refl
last_or_none (x ∷ xs) =
    elim (last_or_none xs) [
      | inl is ↦ inr ([], x, ap (λ l. x ∷ l) is)
      | inr w ↦ inr (x ∷ w.0, w.1, ap (λ l. x ∷ l) w.2)
    ]

pub of_id-push : (id : ℕ) (events : List JoinerEvent) (e : JoinerEvent) → of_id id (events ++ e ∷ []) ≡ of_id id events ++ of_id_at id e
of_id-push id [] e = append-nil (of_id_at id e)
of_id-push id (x ∷ events) e =
    ap (λ l. of_id_at id x ++ l) (of_id-push id events e) ∙ sym (append_assoc (of_id_at id x) (of_id id events) (of_id_at id e))

pub bytes_of-push : (ps : List PacketFields) (p : PacketFields) → bytes_of (ps ++ p ∷ []) ≡ bytes_of ps ++ p.useful
bytes_of-push [] p = append-nil p.useful
bytes_of-push (q ∷ ps) p = ap (λ l. q.useful ++ l) (bytes_of-push ps p) ∙ sym (append_assoc q.useful (bytes_of ps) p.useful)

continuity_behind-push : (c : ℕ) (ps : List PacketFields) (p : PacketFields) → continuity_behind c (ps ++ p ∷ []) ≡ p.continuity
continuity_behind-push c [] p = refl
continuity_behind-push c (q ∷ ps) p = continuity_behind-push q.continuity ps p

pub continuity_of-push : (ps : List PacketFields) (p : PacketFields) → continuity_of (ps ++ p ∷ []) ≡ p.continuity
continuity_of-push [] p = refl
continuity_of-push (q ∷ ps) p = continuity_behind-push q.continuity ps p

follow_push : (c : ℕ) (ps : List PacketFields) (p : PacketFields) → ContinuitiesFollow c ps → p.continuity ≡ next_continuity (continuity_behind c ps) → ContinuitiesFollow c (ps ++ p ∷ [])
follow_push c [] p h k = (k, tt)
follow_push c (q ∷ ps) p h k = (h.0, follow_push q.continuity ps p h.1 k)

follow_front : (c : ℕ) (ps : List PacketFields) (p : PacketFields) → ContinuitiesFollow c (ps ++ p ∷ []) → ContinuitiesFollow c ps × (p.continuity ≡ next_continuity (continuity_behind c ps))
follow_front c [] p h = (tt, h.0)
follow_front c (q ∷ ps) p h = let r = follow_front q.continuity ps p h.1 in ((h.0, r.0), r.1)

length_push : (ps : List PacketFields) (p : PacketFields) → length (bytes_of (ps ++ p ∷ [])) ≡ length (bytes_of ps) + length p.useful
length_push ps p = ap length (bytes_of-push ps p) ∙ length-append (bytes_of ps) p.useful

pub chained_one : (p : PacketFields) → p.first ≡ true → length p.useful ≤ most_unit → AreChained (p ∷ [])
chained_one p is few = (is, tt, tt, omega (arith, ap length (append-nil p.useful), few))

pub chained_more : (ps : List PacketFields) (p : PacketFields) → AreChained ps → p.first ≡ false → p.continuity ≡ next_continuity (continuity_of ps) → length (bytes_of ps) + length p.useful ≤ most_unit
    → AreChained (ps ++ p ∷ [])
chained_more [] p h not_first due few = absurd h
chained_more (q ∷ ps) p h not_first due few =
    (h.0, all_push IsNotFirst ps p h.1 not_first, follow_push q.continuity ps p h.2 due, omega (arith, length_push (q ∷ ps) p, few))

-- the last of chained packets is the only one, or goes on with those before it
pub record GoesWith (ps : List PacketFields) (p : PacketFields) : Type 0 where
  pub chained : AreChained ps
  pub not_first : p.first ≡ false
  pub due : p.continuity ≡ next_continuity (continuity_of ps)
  pub few : length (bytes_of ps) + length p.useful ≤ most_unit

pub chained_cases : (ps : List PacketFields) (p : PacketFields) → AreChained (ps ++ p ∷ []) → ((ps ≡ []) × (p.first ≡ true)) ⊎ GoesWith ps p
chained_cases [] p h = inl (refl, h.0)
chained_cases (q ∷ ps) p h =
    let others = all_front IsNotFirst ps p h.1 in
    let follow = follow_front q.continuity ps p h.2 in
    inr (record {
      chained = (h.0, others.0, follow.0, omega (arith, length_push (q ∷ ps) p, h.3));
      not_first = others.1;
      due = follow.1;
      few = omega (arith, length_push (q ∷ ps) p, h.3);
    })

-- what stands at the end of a reading with one event more
pub split_push : (before front stretch : List JoinerEvent) (e : JoinerEvent) → before ++ e ∷ [] ≡ front ++ stretch
    → (stretch ≡ []) ⊎ ((s : List JoinerEvent) × (stretch ≡ s ++ e ∷ []) × (before ≡ front ++ s))
split_push before front stretch e is =
    elim (last_or_none stretch) [
      | inl none ↦ inl none
      | inr w ↦
          let same = same_from_push before (front ++ w.0) e w.1 (is ∙ (ap (λ l. front ++ l) w.2 ∙ sym (append_assoc front w.0 (w.1 ∷ [])))) in
          inr (w.0, w.2 ∙ ap (λ x. w.0 ++ x ∷ []) (sym same.1), same.0)
    ]

of_mine : (id : ℕ) (p : PacketFields) → p.id ≡ id → of_id_at id (Received p) ≡ p ∷ []
of_mine id p is = ap (λ b. if b then p ∷ [] else []) (eq-eqb p.id id is)

of_other : (id : ℕ) (p : PacketFields) → (p.id ≡ id → ⊥) → of_id_at id (Received p) ≡ []
of_other id p is = ap (λ b. if b then p ∷ [] else []) (ne_eqb p.id id is)

-- every reading ends in no packets
pub ends_in_none : (id : ℕ) (events : List JoinerEvent) → EndsIn id events []
ends_in_none id events = record { front = events; stretch = []; all = sym (append-nil events); unbroken = tt; mine = refl }

-- A packet of the id is one more; a packet of another id isn't.
pub ends_more : (id : ℕ) (before : List JoinerEvent) (p : PacketFields) (ps : List PacketFields) → p.id ≡ id → EndsIn id before ps → EndsIn id (before ++ Received p ∷ []) (ps ++ p ∷ [])
ends_more id before p ps is h = record {
  front = h.front;
  stretch = h.stretch ++ Received p ∷ [];
  all = ap (λ l. l ++ Received p ∷ []) h.all ∙ append_assoc h.front h.stretch (Received p ∷ []);
  unbroken = all_push IsAPacket h.stretch (Received p) h.unbroken tt;
  mine = of_id-push id h.stretch (Received p) ∙ (ap (λ l. of_id id h.stretch ++ l) (of_mine id p is) ∙ ap (λ l. l ++ p ∷ []) h.mine);
}

pub ends_past : (id : ℕ) (before : List JoinerEvent) (p : PacketFields) (ps : List PacketFields) → (p.id ≡ id → ⊥) → EndsIn id before ps → EndsIn id (before ++ Received p ∷ []) ps
ends_past id before p ps other h = record {
  front = h.front;
  stretch = h.stretch ++ Received p ∷ [];
  all = ap (λ l. l ++ Received p ∷ []) h.all ∙ append_assoc h.front h.stretch (Received p ∷ []);
  unbroken = all_push IsAPacket h.stretch (Received p) h.unbroken tt;
  mine = of_id-push id h.stretch (Received p) ∙ (ap (λ l. of_id id h.stretch ++ l) (of_other id p other) ∙ (append-nil (of_id id h.stretch) ∙ h.mine));
}

-- and the other way round
pub ended_more : (id : ℕ) (before : List JoinerEvent) (p : PacketFields) (ps : List PacketFields) → p.id ≡ id → EndsIn id (before ++ Received p ∷ []) ps
    → (ps ≡ []) ⊎ ((qs : List PacketFields) × EndsIn id before qs × (ps ≡ qs ++ p ∷ []))
ended_more id before p ps is h =
    elim (split_push before h.front h.stretch (Received p) h.all) [
      | inl none ↦ inl (sym h.mine ∙ ap (of_id id) none)
      | inr w ↦
          let P : List JoinerEvent → Type 0 = λ l. AllByRecursion IsAPacket l in
          let parts = all_front IsAPacket w.0 (Received p) (subst P w.1 h.unbroken) in
          inr (
            of_id id w.0,
            record { front = h.front; stretch = w.0; all = w.2; unbroken = parts.0; mine = refl },
            sym h.mine ∙ (ap (of_id id) w.1 ∙ (of_id-push id w.0 (Received p) ∙ ap (λ l. of_id id w.0 ++ l) (of_mine id p is))),
          )
    ]

pub ended_past : (id : ℕ) (before : List JoinerEvent) (p : PacketFields) (ps : List PacketFields) → (p.id ≡ id → ⊥) → EndsIn id (before ++ Received p ∷ []) ps → (ps ≡ []) ⊎ EndsIn id before ps
ended_past id before p ps other h =
    elim (split_push before h.front h.stretch (Received p) h.all) [
      | inl none ↦ inl (sym h.mine ∙ ap (of_id id) none)
      | inr w ↦
          let P : List JoinerEvent → Type 0 = λ l. AllByRecursion IsAPacket l in
          let parts = all_front IsAPacket w.0 (Received p) (subst P w.1 h.unbroken) in
          inr (record {
            front = h.front;
            stretch = w.0;
            all = w.2;
            unbroken = parts.0;
            mine = sym (append-nil (of_id id w.0)) ∙ (ap (λ l. of_id id w.0 ++ l) (sym (of_other id p other)) ∙ (sym (of_id-push id w.0 (Received p)) ∙ (ap (of_id id) (sym w.1) ∙ h.mine)));
          })
    ]

-- behind anything else a reading ends in no packets
pub ended_break : (id : ℕ) (before : List JoinerEvent) (e : JoinerEvent) (ps : List PacketFields) → (IsAPacket e → ⊥) → EndsIn id (before ++ e ∷ []) ps → ps ≡ []
ended_break id before e ps break h =
    elim (split_push before h.front h.stretch e h.all) [
      | inl none ↦ sym h.mine ∙ ap (of_id id) none
      | inr w ↦
          let P : List JoinerEvent → Type 0 = λ l. AllByRecursion IsAPacket l in
          absurd (break (all_front IsAPacket w.0 e (subst P w.1 h.unbroken)).1)
    ]
