-- What comes of calls, and of others behind them.
use Rattle.std.proofs.Common.{◌≡◌, ℕ, zero, suc, ◌+◌, Bool, true, false, List, [], ◌∷◌, ◌++◌, length, get_or, set, MatchBool, Option, None, Some, refl, sym, ◌∙◌, ap, subst, arith, length-append}
use Rattle.std.proofs.Math.ListN.{length-set}
use Rattle.drm_links.specs.Known.{Known, one_more}
use Rattle.drm_links.specs.declared.link.Sent.{Sent}
use Rattle.drm_links.specs.declared.link.Sent.TheVariants as send
use Rattle.drm_links.specs.History.{GroupEvent, SentTo, RestedAt, History, EventsHappen, TellsEvents, GroupTells, failed_in, risen}
use Rattle.drm_links.specs.Calls.{Call, Rest, Send, is_up, up_after, each, CallsCome, CallsMake}

-- ---- cases

pub match_map : (b : Bool) {P Q R S : Type 0} → (P → R) → (Q → S) → MatchBool b P Q → MatchBool b R S
match_map true f g h = f h
match_map false f g h = g h

pub match_true : (b : Bool) {P : Type 0} (Q : Type 0) → b ≡ true → P → MatchBool b P Q
match_true true Q is h = h
match_true false Q is h = absurd cc

pub match_false : (b : Bool) (P : Type 0) {Q : Type 0} → b ≡ false → Q → MatchBool b P Q
match_false true P is h = absurd cc
match_false false P is h = h

pub match_either : (b : Bool) {P Q : Type 0} (R : Type 0) → (P → R) → (Q → R) → MatchBool b P Q → R
match_either true R f g h = f h
match_either false R f g h = g h

-- ---- events, and then others

pub Happen-then : (events events' : List GroupEvent) (x y z : History) → EventsHappen events x y → EventsHappen events' y z → EventsHappen (events ++ events') x z
Happen-then [] events' x y z first second = subst (λ (h : History). EventsHappen events' h z) first second
Happen-then (event ∷ events) events' x y z first second = (first.0, first.1, Happen-then events events' first.0 y z first.2 second)

pub room_left : (events : List GroupEvent) (x y : History) → EventsHappen events x y → x.room ≡ y.room + length events
room_left [] x y all = let e : x.room ≡ y.room = ap (λ (h : History). h.room) (sym all) in omega arith
room_left (event ∷ events) x y all =
    let more = room_left events all.0 y all.2 in
    let one : x.room ≡ all.0.room + 1 = all.1.room in
    omega arith

pub told_none : (a : Option History) → TellsEvents [] a a
told_none None = refl
told_none (Some x) = refl

pub told_then : (events events' : List GroupEvent) (a b c : Option History) → TellsEvents events a b → TellsEvents events' b c → TellsEvents (events ++ events') a c
told_then events events' None None c first second = second
told_then events events' None (Some y) c first second = cc
told_then events events' (Some x) None None first second = let e = length-append events events' in omega (arith, first)
told_then events events' (Some x) None (Some z) first second = cc
told_then events events' (Some x) (Some y) None first second =
    let left = room_left events x y first in
    let e = length-append events events' in
    omega (arith, left, second)
told_then events events' (Some x) (Some y) (Some z) first second = Happen-then events events' x y z first second

pub risen_more : (m n count : ℕ) → risen n (risen m count) ≡ risen (m + n) count
risen_more m zero count = let e : m ≡ m + 0 = omega arith in ap (λ (k : ℕ). risen k count) e
risen_more m (suc n) count = let e : suc (m + n) ≡ m + suc n = omega arith in ap one_more (risen_more m n count) ∙ ap (λ (k : ℕ). risen k count) e

pub failed_then : (events events' : List GroupEvent) → failed_in (events ++ events') ≡ failed_in events + failed_in events'
failed_then [] events' = omega arith
failed_then (event ∷ events) events' = let more = failed_then events events' in omega (arith, more)

pub Tells-none : (a : Known History) → GroupTells [] a a
Tells-none a = record { told = told_none a.contents; faults = refl }

pub Tells-then : (events events' : List GroupEvent) (a b c : Known History) → GroupTells events a b → GroupTells events' b c → GroupTells (events ++ events') a c
Tells-then events events' a b c first second = record {
  told = told_then events events' a.contents b.contents c.contents first.told second.told;
  faults =
      second.faults
      ∙ (ap (λ (f : ℕ). risen (failed_in events') f) first.faults
      ∙ (risen_more (failed_in events) (failed_in events') a.faults
      ∙ ap (λ (n : ℕ). risen n a.faults) (sym (failed_then events events'))));
}

-- ---- calls, and then others

pub Come-then : (calls calls' : List Call) (events events' : List GroupEvent) (u v w : List Bool) → CallsCome u calls events v → CallsCome v calls' events' w → CallsCome u (calls ++ calls') (events ++ events') w
Come-then [] calls' events events' u v w first second =
    subst (λ (l : List GroupEvent). CallsCome u calls' (l ++ events') w) (sym first.0) (subst (λ (l : List Bool). CallsCome l calls' events' w) first.1 second)
Come-then (Rest k millis ∷ calls) calls' events events' u v w first second =
    match_map (is_up u k)
    (λ p. (p.0 ++ events', ap (λ l. l ++ events') p.1, Come-then calls calls' p.0 events' u v w p.2 second))
    (λ q. Come-then calls calls' events events' u v w q second)
    first
Come-then (Send k bytes ∷ calls) calls' events events' u v w first second =
    match_map (is_up u k)
    (λ p. (p.0, p.1 ++ events', ap (λ l. l ++ events') p.2, Come-then calls calls' p.1 events' (up_after u k p.0) v w p.3 second))
    (λ q. Come-then calls calls' events events' u v w q second)
    first

pub Make-then : (calls calls' : List Call) (u v w : List Bool) (P Q R : List GroupEvent → Type 0) → ((x y : List GroupEvent) → P x → Q y → R (x ++ y))
    → CallsMake calls u v P → CallsMake calls' v w Q → CallsMake (calls ++ calls') u w R
Make-then calls calls' u v w P Q R join first second = record {
  events = first.events ++ second.events;
  come = Come-then calls calls' first.events second.events u v w first.come second.come;
  happens = join first.events second.events first.happens second.happens;
}

-- ---- one call, or none

-- nothing happened, where nothing comes of the calls
pub Make-none : (calls : List Call) (u : List Bool) (P : List GroupEvent → Type 0) → CallsCome u calls [] u → P [] → CallsMake calls u u P
Make-none calls u P come none = record { events = []; come = come; happens = none }

pub Make-rest : (k millis : ℕ) (u v : List Bool) (P : List GroupEvent → Type 0) → is_up u k ≡ true → P (RestedAt k millis ∷ []) → v ≡ u → CallsMake (Rest k millis ∷ []) u v P
Make-rest k millis u v P up happens same = record {
  events = RestedAt k millis ∷ [];
  come = subst (λ (l : List Bool). CallsCome u (Rest k millis ∷ []) (RestedAt k millis ∷ []) l) (sym same) (match_true (is_up u k) _ up ([], refl, (refl, refl)));
  happens = happens;
}

pub Make-send : (k : ℕ) (bytes : List ℕ) (answer : Sent) (u v : List Bool) (P : List GroupEvent → Type 0) → is_up u k ≡ true → P (SentTo k bytes answer ∷ []) → v ≡ up_after u k answer → CallsMake (Send k bytes ∷ []) u v P
Make-send k bytes answer u v P up happens after = record {
  events = SentTo k bytes answer ∷ [];
  come = subst (λ (l : List Bool). CallsCome u (Send k bytes ∷ []) (SentTo k bytes answer ∷ []) l) (sym after) (match_true (is_up u k) _ up (answer, [], refl, (refl, refl)));
  happens = happens;
}

-- a send over a link that failed
pub Make-no_send : (k : ℕ) (bytes : List ℕ) (u : List Bool) (P : List GroupEvent → Type 0) → is_up u k ≡ false → P [] → CallsMake (Send k bytes ∷ []) u u P
Make-no_send k bytes u P down none = Make-none (Send k bytes ∷ []) u P (match_false (is_up u k) _ down (refl, refl)) none

-- ---- so many, and more of them

-- nothing comes of each
pub Come-each_none : (calls : ℕ → List Call) (u : List Bool) → ((i : ℕ) → CallsCome u (calls i) [] u) → (n : ℕ) → CallsCome u (each calls n) [] u
Come-each_none calls u none zero = (refl, refl)
Come-each_none calls u none (suc n) = Come-then (each calls n) (calls n) [] [] u u u (Come-each_none calls u none n) (none n)

-- ---- which links are up

pub length_after : (u : List Bool) (k : ℕ) (answer : Sent) → length (up_after u k answer) ≡ length u
length_after u k send.Sent = refl
length_after u k send.Failed = length-set u k false

pub set_down : (u : List Bool) (k : ℕ) → get_or (set u k false) k false ≡ false
set_down [] k = refl
set_down (b ∷ u) zero = refl
set_down (b ∷ u) (suc k) = set_down u k

-- calls leave as many links as there were, up or not
pub same_count : (calls : List Call) (events : List GroupEvent) (u v : List Bool) → CallsCome u calls events v → length v ≡ length u
same_count [] events u v come = ap (λ (l : List Bool). length l) come.1
same_count (Rest k millis ∷ calls) events u v come =
    match_either (is_up u k) (length v ≡ length u) (λ p. same_count calls p.0 u v p.2) (λ q. same_count calls events u v q) come
same_count (Send k bytes ∷ calls) events u v come =
    match_either (is_up u k) (length v ≡ length u)
    (λ p. same_count calls p.1 (up_after u k p.0) v p.3 ∙ length_after u k p.0)
    (λ q. same_count calls events u v q)
    come

pub Make-same_count : (calls : List Call) (u v : List Bool) (P : List GroupEvent → Type 0) → CallsMake calls u v P → length v ≡ length u
Make-same_count calls u v P made = same_count calls made.events u v made.come
