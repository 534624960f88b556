-- What was to be answered leaves one history.
use Rattle.std.proofs.Common.{◌≡◌, ◌+◌, Bool, true, false, List, [], ◌∷◌, MatchBool, sym, ◌∙◌, ap, subst, arith}
use Rattle.drm_links.specs.declared.link.Sent.{Sent}
use Rattle.drm_links.specs.History.{GroupEvent, SentTo, RestedAt, History, EventHappens, EventsHappen}
use Rattle.drm_links.specs.Calls.{Rest, Send, is_up, up_after, CallsCome}
use Rattle.law_history.specs.Laws.{OneHistory}

match_both : (b : Bool) {P Q R S : Type 0} (T : Type 0) → (P → R → T) → (Q → S → T) → MatchBool b P Q → MatchBool b R S → T
match_both true T f g p r = f p r
match_both false T f g q s = g q s

once : (event : GroupEvent) (x y z : History) → EventHappens event x y → EventHappens event x z → y ≡ z
once event x y z first second =
    let events : y.events ≡ z.events = first.events ∙ sym second.events in
    let coming : y.coming ≡ z.coming = first.coming ∙ sym second.coming in
    let sends : y.sends ≡ z.sends = first.sends ∙ sym second.sends in
    let left : x.room ≡ y.room + 1 = first.room in
    let right : x.room ≡ z.room + 1 = second.room in
    let room : y.room ≡ z.room = omega arith in
    λ i. record { events = events i; coming = coming i; sends = sends i; room = room i }

pub come_once : OneHistory
come_once [] u v w e f x y z comes comes' all all' =
    let left : y ≡ x = subst (λ (l : List GroupEvent). EventsHappen l x y) comes.0 all in
    let right : z ≡ x = subst (λ (l : List GroupEvent). EventsHappen l x z) comes'.0 all' in
    (comes.0 ∙ sym comes'.0, comes.1 ∙ sym comes'.1, left ∙ sym right)
come_once (Rest k millis ∷ calls) u v w e f x y z comes comes' all all' =
    match_both (is_up u k) ((e ≡ f) × (v ≡ w) × (y ≡ z))
    (λ p q.
    let event = RestedAt k millis in
    let first : EventsHappen (event ∷ p.0) x y = subst (λ (l : List GroupEvent). EventsHappen l x y) p.1 all in
    let second : EventsHappen (event ∷ q.0) x z = subst (λ (l : List GroupEvent). EventsHappen l x z) q.1 all' in
    let same : second.0 ≡ first.0 = once event x second.0 first.0 second.1 first.1 in
    let rest = come_once calls u v w p.0 q.0 first.0 y z p.2 q.2 first.2 (subst (λ (m : History). EventsHappen q.0 m z) same second.2) in
    (p.1 ∙ (ap (λ (l : List GroupEvent). event ∷ l) rest.0 ∙ sym q.1), rest.1, rest.2))
    (λ p q. come_once calls u v w e f x y z p q all all')
    comes comes'
come_once (Send k bytes ∷ calls) u v w e f x y z comes comes' all all' =
    match_both (is_up u k) ((e ≡ f) × (v ≡ w) × (y ≡ z))
    (λ p q.
    let first : EventsHappen (SentTo k bytes p.0 ∷ p.1) x y = subst (λ (l : List GroupEvent). EventsHappen l x y) p.2 all in
    let second' : EventsHappen (SentTo k bytes q.0 ∷ q.1) x z = subst (λ (l : List GroupEvent). EventsHappen l x z) q.2 all' in
    let answer : q.0 ≡ p.0 = second'.1.is_ahead ∙ sym first.1.is_ahead in
    let second : EventsHappen (SentTo k bytes p.0 ∷ q.1) x z = subst (λ (a : Sent). EventsHappen (SentTo k bytes a ∷ q.1) x z) answer second' in
    let same : second.0 ≡ first.0 = once (SentTo k bytes p.0) x second.0 first.0 second.1 first.1 in
    let rest = come_once calls (up_after u k p.0) v w p.1 q.1 first.0 y z p.3 (subst (λ (a : Sent). CallsCome (up_after u k a) calls q.1 w) answer q.3)
    first.2 (subst (λ (m : History). EventsHappen q.1 m z) same second.2) in
    (p.2 ∙ (ap (λ (l : List GroupEvent). SentTo k bytes p.0 ∷ l) rest.0 ∙ (ap (λ (a : Sent). SentTo k bytes a ∷ q.1) (sym answer) ∙ sym q.2)), rest.1, rest.2))
    (λ p q. come_once calls u v w e f x y z p q all all')
    comes comes'
