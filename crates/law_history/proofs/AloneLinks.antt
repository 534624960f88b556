-- Over each link goes what would go over it alone.
use Rattle.std.proofs.Common.{◌≡◌, ℕ, zero, suc, nat_eq, Bool, true, false, List, [], ◌∷◌, get_or, set, MatchBool, if◌then◌else◌, refl, sym, ◌∙◌, ap, subst, arith}
use Rattle.std.proofs.lemmas.Bool.Decides.{nat_tests}
use Rattle.drm_links.specs.declared.link.Sent.{Sent}
use Rattle.drm_links.specs.declared.link.Sent.TheVariants as send
use Rattle.drm_links.specs.History.{GroupEvent, SentTo, RestedAt}
use Rattle.drm_links.specs.Calls.{Call, Rest, Send, is_up, up_after, CallsCome}
use Rattle.law_history.specs.Laws.{calls_at, events_at, EachAlone}
use Rattle.drm_links.proofs.CallLemmas.{match_true, match_false, set_down}

match_case : (b : Bool) {P Q : Type 0} (T : Type 0) → (b ≡ true → P → T) → (b ≡ false → Q → T) → MatchBool b P Q → T
match_case true T f g p = f refl p
match_case false T f g q = g refl q

unit_case : (b : Bool) → MatchBool b (Unit {0}) (Unit {0})
unit_case true = tt
unit_case false = tt

set_other : (u : List Bool) (j k : ℕ) → (j ≡ k → ⊥) → get_or (set u j false) k false ≡ get_or u k false
set_other [] j k apart = refl
set_other (b ∷ u) zero zero apart = absurd (apart refl)
set_other (b ∷ u) zero (suc k) apart = refl
set_other (b ∷ u) (suc j) zero apart = refl
set_other (b ∷ u) (suc j) (suc k) apart = set_other u j k (λ e. apart (ap suc e))

apart_numbers : (j k : ℕ) → nat_eq j k ≡ false → j ≡ k → ⊥
apart_numbers j k is e = grind (arith, nat_tests)

other_after : (u : List Bool) (j k : ℕ) (answer : Sent) → nat_eq j k ≡ false → is_up (up_after u j answer) k ≡ is_up u k
other_after u j k send.Sent apart = refl
other_after u j k send.Failed apart = set_other u j k (apart_numbers j k apart)

here_after : (u u' : List Bool) (j k : ℕ) (answer : Sent) → j ≡ k → is_up u' k ≡ is_up u k → is_up (up_after u' j answer) k ≡ is_up (up_after u j answer) k
here_after u u' j k send.Sent is same = same
here_after u u' j k send.Failed is same =
    let a : is_up (set u' j false) k ≡ false = subst (λ (n : ℕ). is_up (set u' n false) k ≡ false) (sym is) (set_down u' k) in
    let b : is_up (set u j false) k ≡ false = subst (λ (n : ℕ). is_up (set u n false) k ≡ false) (sym is) (set_down u k) in
    a ∙ sym b

same_number : (j k : ℕ) → nat_eq j k ≡ true → j ≡ k
same_number j k is = grind (arith, nat_tests)

abbrev Alone : ℕ → List Call → List Bool → List Bool → List GroupEvent → Type 0
Alone k calls u' v e = (w : List Bool) × CallsCome u' (calls_at k calls) (events_at k e) w × (is_up w k ≡ is_up v k)

alone : (k : ℕ) (calls : List Call) (u u' v : List Bool) (e : List GroupEvent) → is_up u' k ≡ is_up u k → CallsCome u calls e v → Alone k calls u' v e
alone k [] u u' v e same comes = (u', (ap (λ (l : List GroupEvent). events_at k l) comes.0, refl), same ∙ sym (ap (λ (l : List Bool). is_up l k) comes.1))
alone k (Rest j millis ∷ calls) u u' v e same comes =
    let T : Type 0 = Alone k (Rest j millis ∷ calls) u' v e in
    let here : nat_eq j k ≡ true → T = λ is.
    let calls_are : calls_at k (Rest j millis ∷ calls) ≡ Rest j millis ∷ calls_at k calls = ap (λ (b : Bool). if b then Rest j millis ∷ calls_at k calls else calls_at k calls) is in
    let same_j : is_up u' j ≡ is_up u j = subst (λ (n : ℕ). is_up u' n ≡ is_up u n) (sym (same_number j k is)) same in
    match_case (is_up u j) T
    (λ up p.
    let r = alone k calls u u' v p.0 same p.2 in
    let events_are : events_at k e ≡ RestedAt j millis ∷ events_at k p.0 = ap (λ (l : List GroupEvent). events_at k l) p.1 ∙ ap (λ (b : Bool). if b then RestedAt j millis ∷ events_at k p.0 else events_at k p.0) is in
    let base : CallsCome u' (Rest j millis ∷ calls_at k calls) (RestedAt j millis ∷ events_at k p.0) r.0 = match_true (is_up u' j) _ (same_j ∙ up) (events_at k p.0, refl, r.1) in
    (r.0, subst (λ (l : List Call). CallsCome u' l (events_at k e) r.0) (sym calls_are) (subst (λ (l : List GroupEvent). CallsCome u' (Rest j millis ∷ calls_at k calls) l r.0) (sym events_are) base), r.2))
    (λ down q.
    let r = alone k calls u u' v e same q in
    let base : CallsCome u' (Rest j millis ∷ calls_at k calls) (events_at k e) r.0 = match_false (is_up u' j) _ (same_j ∙ down) r.1 in
    (r.0, subst (λ (l : List Call). CallsCome u' l (events_at k e) r.0) (sym calls_are) base, r.2))
    comes in
    let there : nat_eq j k ≡ false → T = λ is.
    let calls_are : calls_at k (Rest j millis ∷ calls) ≡ calls_at k calls = ap (λ (b : Bool). if b then Rest j millis ∷ calls_at k calls else calls_at k calls) is in
    match_case (is_up u j) T
    (λ up p.
    let r = alone k calls u u' v p.0 same p.2 in
    let events_are : events_at k e ≡ events_at k p.0 = ap (λ (l : List GroupEvent). events_at k l) p.1 ∙ ap (λ (b : Bool). if b then RestedAt j millis ∷ events_at k p.0 else events_at k p.0) is in
    (r.0, subst (λ (l : List Call). CallsCome u' l (events_at k e) r.0) (sym calls_are) (subst (λ (l : List GroupEvent). CallsCome u' (calls_at k calls) l r.0) (sym events_are) r.1), r.2))
    (λ down q. let r = alone k calls u u' v e same q in (r.0, subst (λ (l : List Call). CallsCome u' l (events_at k e) r.0) (sym calls_are) r.1, r.2))
    comes in
    match_case (nat_eq j k) {P = Unit {0}} {Q = Unit {0}} T (λ is _. here is) (λ is _. there is) (unit_case (nat_eq j k))
alone k (Send j bytes ∷ calls) u u' v e same comes =
    let T : Type 0 = Alone k (Send j bytes ∷ calls) u' v e in
    let here : nat_eq j k ≡ true → T = λ is.
    let calls_are : calls_at k (Send j bytes ∷ calls) ≡ Send j bytes ∷ calls_at k calls = ap (λ (b : Bool). if b then Send j bytes ∷ calls_at k calls else calls_at k calls) is in
    let same_j : is_up u' j ≡ is_up u j = subst (λ (n : ℕ). is_up u' n ≡ is_up u n) (sym (same_number j k is)) same in
    match_case (is_up u j) T
    (λ up p.
    let r = alone k calls (up_after u j p.0) (up_after u' j p.0) v p.1 (here_after u u' j k p.0 (same_number j k is) same) p.3 in
    let events_are : events_at k e ≡ SentTo j bytes p.0 ∷ events_at k p.1 = ap (λ (l : List GroupEvent). events_at k l) p.2 ∙ ap (λ (b : Bool). if b then SentTo j bytes p.0 ∷ events_at k p.1 else events_at k p.1) is in
    let base : CallsCome u' (Send j bytes ∷ calls_at k calls) (SentTo j bytes p.0 ∷ events_at k p.1) r.0 = match_true (is_up u' j) _ (same_j ∙ up) (p.0, events_at k p.1, refl, r.1) in
    (r.0, subst (λ (l : List Call). CallsCome u' l (events_at k e) r.0) (sym calls_are) (subst (λ (l : List GroupEvent). CallsCome u' (Send j bytes ∷ calls_at k calls) l r.0) (sym events_are) base), r.2))
    (λ down q.
    let r = alone k calls u u' v e same q in
    let base : CallsCome u' (Send j bytes ∷ calls_at k calls) (events_at k e) r.0 = match_false (is_up u' j) _ (same_j ∙ down) r.1 in
    (r.0, subst (λ (l : List Call). CallsCome u' l (events_at k e) r.0) (sym calls_are) base, r.2))
    comes in
    let there : nat_eq j k ≡ false → T = λ is.
    let calls_are : calls_at k (Send j bytes ∷ calls) ≡ calls_at k calls = ap (λ (b : Bool). if b then Send j bytes ∷ calls_at k calls else calls_at k calls) is in
    match_case (is_up u j) T
    (λ up p.
    let r = alone k calls (up_after u j p.0) u' v p.1 (same ∙ sym (other_after u j k p.0 is)) p.3 in
    let events_are : events_at k e ≡ events_at k p.1 = ap (λ (l : List GroupEvent). events_at k l) p.2 ∙ ap (λ (b : Bool). if b then SentTo j bytes p.0 ∷ events_at k p.1 else events_at k p.1) is in
    (r.0, subst (λ (l : List Call). CallsCome u' l (events_at k e) r.0) (sym calls_are) (subst (λ (l : List GroupEvent). CallsCome u' (calls_at k calls) l r.0) (sym events_are) r.1), r.2))
    (λ down q. let r = alone k calls u u' v e same q in (r.0, subst (λ (l : List Call). CallsCome u' l (events_at k e) r.0) (sym calls_are) r.1, r.2))
    comes in
    match_case (nat_eq j k) {P = Unit {0}} {Q = Unit {0}} T (λ is _. here is) (λ is _. there is) (unit_case (nat_eq j k))

pub each_alone : EachAlone
each_alone k calls u v e comes = alone k calls u u v e refl comes
