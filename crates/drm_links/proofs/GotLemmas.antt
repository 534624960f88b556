-- What calls bring over one link of a group.
use Rattle.std.proofs.Common.{◌≡◌, ℕ, zero, suc, ◌+◌, ◌≤◌, ◌<◌, nat_eq, Bool, true, false, List, [], ◌∷◌, ◌++◌, length, get_or, MatchBool, if◌then◌else◌, Option, None, Some, refl, sym, ◌∙◌, ap, subst, arith, append_assoc, length-append}
use Rattle.std.proofs.Math.ListN.{length-set}
use Rattle.std.proofs.lemmas.List.{append-nil, get_or-set_same, get_or-set_other}
use Rattle.std.proofs.lemmas.Bool.Decides.{nat_tests}
use Rattle.drm_links.specs.Link.{one_less}
use Rattle.drm_links.specs.Transmission.{fewer, TakesSends}
use Rattle.drm_links.specs.declared.link.Sent.{Sent}
use Rattle.drm_links.specs.declared.link.Sent.TheVariants as send
use Rattle.drm_links.specs.History.{GroupEvent, SentTo, RestedAt, History, sent_by, EventHappens, EventsHappen}
use Rattle.drm_links.specs.Alone.{gone_at}
use Rattle.drm_links.specs.Calls.{Call, Rest, Send, is_up, up_after, CallsCome}
use Rattle.drm_links.proofs.CallLemmas.{set_down}
use Rattle.drm_links.proofs.AloneLemmas.{itself, same_number, either_then, gone_then}
use Rattle.drm_links.proofs.TransmissionLemmas.{takes_none, fewer_none, takes_more, fewer_more, no_more_before}

-- the datagrams that go over the k-th link by these calls, where it takes all
abbrev pub datagrams_over : ℕ → List Call → List (List ℕ)
datagrams_over k [] = []
datagrams_over k (Rest j millis ∷ calls) = datagrams_over k calls
datagrams_over k (Send j bytes ∷ calls) = if nat_eq j k then bytes ∷ datagrams_over k calls else datagrams_over k calls

-- What went over a link that was up, or wasn't, by whether it is then: all of these, and it takes them; or some first ones, and it takes no
-- more.
abbrev pub LinkGot : Bool → Bool → List (List ℕ) → List (List ℕ) → Option ℕ → Option ℕ → Type 0
LinkGot false up datagrams gone before after = (up ≡ false) × (gone ≡ []) × (after ≡ before)
LinkGot true true datagrams gone before after = (gone ≡ datagrams) × TakesSends before (length datagrams) × (after ≡ fewer before (length datagrams))
LinkGot true false datagrams gone before after = (rest : List (List ℕ)) × (1 ≤ length rest) × (datagrams ≡ gone ++ rest) × (before ≡ Some (length gone))

-- how many sends the k-th link takes
abbrev pub taken_by : ℕ → History → Option ℕ
taken_by k history = get_or history.sends k None

-- ---- numbers and places

apart_numbers : (j k : ℕ) → nat_eq j k ≡ false → j ≡ k → ⊥
apart_numbers j k is e = grind (arith, nat_tests)

-- ---- one call

got_none : (b : Bool) (o : Option ℕ) → LinkGot b b [] [] o o
got_none false o = (refl, refl, refl)
got_none true o = (refl, takes_none o, fewer_none o)

got_sent : (bytes : List ℕ) (o : Option ℕ) → send.Sent ≡ sent_by o → LinkGot true true (bytes ∷ []) (bytes ∷ []) o (one_less o)
got_sent bytes None sent = (refl, tt, refl)
got_sent bytes (Some zero) sent = absurd cc
got_sent bytes (Some (suc n)) sent = (refl, omega arith, refl)

refused_at : (o : Option ℕ) → send.Failed ≡ sent_by o → o ≡ Some 0
refused_at None failed = cc
refused_at (Some zero) failed = refl
refused_at (Some (suc n)) failed = cc

-- what a link got by some calls
abbrev Got : ℕ → List Call → List GroupEvent → List Bool → List Bool → History → History → Type 0
Got k calls events u v x y = LinkGot (is_up u k) (is_up v k) (datagrams_over k calls) (gone_at k events) (taken_by k x) (taken_by k y)

sent_here : (k : ℕ) (bytes : List ℕ) (answer : Sent) (u : List Bool) (x m : History) → is_up u k ≡ true → k < length x.sends → EventHappens (SentTo k bytes answer) x m
    → Got k (Send k bytes ∷ []) (SentTo k bytes answer ∷ []) u (up_after u k answer) x m
sent_here k bytes send.Sent u x m up within happens =
    let now : taken_by k m ≡ one_less (taken_by k x) = ap (λ (l : List (Option ℕ)). get_or l k None) happens.sends ∙ get_or-set_same x.sends k (one_less (taken_by k x)) None within in
    rw (itself k, up, now) (got_sent bytes (taken_by k x) happens.is_ahead)
sent_here k bytes send.Failed u x m up within happens =
    rw (itself k, up, set_down u k) (bytes ∷ [], omega arith, refl, refused_at (taken_by k x) happens.is_ahead)

sent_there : (k j : ℕ) (bytes : List ℕ) (answer : Sent) (u : List Bool) (x m : History) → nat_eq j k ≡ false → EventHappens (SentTo j bytes answer) x m
    → Got k (Send j bytes ∷ []) (SentTo j bytes answer ∷ []) u (up_after u j answer) x m
sent_there k j bytes answer u x m apart happens =
    let other : k ≡ j → ⊥ = λ is. apart_numbers j k apart (sym is) in
    let now : taken_by k m ≡ taken_by k x = ap (λ (l : List (Option ℕ)). get_or l k None) happens.sends ∙ get_or-set_other x.sends j k (one_less (get_or x.sends j None)) None other in
    by_answer answer now
  where
    by_answer : (a : Sent) → taken_by k m ≡ taken_by k x → Got k (Send j bytes ∷ []) (SentTo j bytes a ∷ []) u (up_after u j a) x m
    by_answer send.Sent now = rw (apart, now) (got_none (is_up u k) (taken_by k x))
    by_answer send.Failed now = rw (apart, now, get_or-set_other u j k false false (λ is. apart_numbers j k apart (sym is))) (got_none (is_up u k) (taken_by k x))

-- a send, or one that is left out since its link had failed
sent_one : (k j : ℕ) (b : Bool) → nat_eq j k ≡ b → (bytes : List ℕ) (answer : Sent) (u : List Bool) (x m : History) → is_up u j ≡ true → k < length x.sends → EventHappens (SentTo j bytes answer) x m
    → Got k (Send j bytes ∷ []) (SentTo j bytes answer ∷ []) u (up_after u j answer) x m
sent_one k j false apart bytes answer u x m up within happens = sent_there k j bytes answer u x m apart happens
sent_one k j true is bytes answer u x m up within happens =
    subst (λ (i : ℕ). is_up u i ≡ true → EventHappens (SentTo i bytes answer) x m → Got k (Send i bytes ∷ []) (SentTo i bytes answer ∷ []) u (up_after u i answer) x m) (sym (same_number j k is))
    (λ up happens. sent_here k bytes answer u x m up within happens) up happens

left_out : (k j : ℕ) (b : Bool) → nat_eq j k ≡ b → (bytes : List ℕ) (u : List Bool) (x : History) → is_up u j ≡ false → Got k (Send j bytes ∷ []) [] u u x x
left_out k j false apart bytes u x down = rw apart (got_none (is_up u k) (taken_by k x))
left_out k j true is bytes u x down = rw (is, subst (λ (i : ℕ). is_up u i ≡ false) (same_number j k is) down) (refl, refl, refl)

-- ---- several calls

pub over_then : (k : ℕ) (calls others : List Call) → datagrams_over k (calls ++ others) ≡ datagrams_over k calls ++ datagrams_over k others
over_then k [] others = refl
over_then k (Rest j millis ∷ calls) others = over_then k calls others
over_then k (Send j bytes ∷ calls) others = either_then (nat_eq j k) bytes (datagrams_over k (calls ++ others)) (datagrams_over k calls) (datagrams_over k others) (over_then k calls others)

-- a link that had failed got nothing, whatever the calls are
got_down : (b up : Bool) (xs ys gone : List (List ℕ)) (o after : Option ℕ) → b ≡ false → LinkGot b up xs gone o after → LinkGot b up ys gone o after
got_down true up xs ys gone o after down got = absurd cc
got_down false up xs ys gone o after down got = got

-- and others behind them
pub got_then : (a b c : Bool) (xs ys front back : List (List ℕ)) (o p q : Option ℕ) → LinkGot a b xs front o p → LinkGot b c ys back p q → LinkGot a c (xs ++ ys) (front ++ back) o q
got_then false b c xs ys front back o p q (down, none, same) second =
    let behind = got_down b c ys ys back p q down second in
    let (down', none', same') = subst (λ (w : Bool). LinkGot w c ys back p q) down second in
    (down', ap (λ l. l ++ back) none ∙ none', same' ∙ same)
got_then true true true xs ys front back o p q (all, takes, left) (all', takes', left') =
    let size = length-append xs ys in (
      ap (λ l. l ++ back) all ∙ ap (λ l. xs ++ l) all',
      subst (λ (n : ℕ). TakesSends o n) (sym size) (takes_more o (length xs) (length ys) takes (subst (λ (r : Option ℕ). TakesSends r (length ys)) left takes')),
      left' ∙ (ap (λ r. fewer r (length ys)) left ∙ (fewer_more o (length xs) (length ys) ∙ ap (fewer o) (sym size))),
    )
got_then true true false xs ys front back o p q (all, takes, left) (rest, some, are, no_more) = (
  rest,
  some,
  ap (λ l. xs ++ l) are ∙ (ap (λ l. l ++ (back ++ rest)) (sym all) ∙ sym (append_assoc front back rest)),
  no_more_before o (length xs) (length back) takes (sym left ∙ no_more) ∙ ap Some (ap (λ (l : List (List ℕ)). length l + length back) (sym all) ∙ sym (length-append front back)),
)
got_then true false c xs ys front back o p q (rest, some, are, no_more) (down, none, same) =
    let size = length-append rest ys in
    let front_is : front ≡ front ++ back = sym (ap (λ l. front ++ l) none ∙ append-nil front) in
    subst (λ (w : Bool). LinkGot true w (xs ++ ys) (front ++ back) o q) (sym down) (
      rest ++ ys,
      omega (arith, some, size),
      ap (λ l. l ++ ys) are ∙ (append_assoc front rest ys ∙ ap (λ l. l ++ (rest ++ ys)) front_is),
      no_more ∙ ap (λ (l : List (List ℕ)). Some (length l)) front_is,
    )

got_more : (k : ℕ) (calls others : List Call) (events later : List GroupEvent) (u v w : List Bool) (x y z : History) → Got k calls events u v x y → Got k others later v w y z → Got k (calls ++ others) (events ++ later) u w x z
got_more k calls others events later u v w x y z first second =
    rw (over_then k calls others, gone_then k events later)
    (got_then (is_up u k) (is_up v k) (is_up w k) (datagrams_over k calls) (datagrams_over k others) (gone_at k events) (gone_at k later) (taken_by k x) (taken_by k y) (taken_by k z) first second)

-- ---- all calls

match_cases : (b : Bool) {P Q : Type 0} (R : Type 0) → (b ≡ true → P → R) → (b ≡ false → Q → R) → MatchBool b P Q → R
match_cases true R f g p = f refl p
match_cases false R f g q = g refl q

-- what a link got by calls, and that the group has as many
abbrev pub GotBy : ℕ → List Call → List GroupEvent → List Bool → List Bool → History → History → Type 0
GotBy k calls events u v x y = LinkGot (is_up u k) (is_up v k) (datagrams_over k calls) (gone_at k events) (taken_by k x) (taken_by k y) × (length y.sends ≡ length x.sends)

pub got_by : (k : ℕ) (calls : List Call) (events : List GroupEvent) (u v : List Bool) (x y : History) → k < length x.sends → CallsCome u calls events v → EventsHappen events x y → GotBy k calls events u v x y
got_by k [] events u v x y within come happen =
    let same : y ≡ x = subst (λ (l : List GroupEvent). EventsHappen l x y) come.0 happen in
    let base : GotBy k [] [] u u x x = (got_none (is_up u k) (taken_by k x), refl) in
    subst (λ (l : List GroupEvent). GotBy k [] l u v x y) (sym come.0)
    (subst (λ (w : List Bool). GotBy k [] [] u w x y) (sym come.1) (subst (λ (h : History). GotBy k [] [] u u x h) (sym same) base))
got_by k (Rest j millis ∷ calls) events u v x y within come happen =
    match_cases (is_up u j) (GotBy k calls events u v x y)
    (λ up p.
    let happen' : EventsHappen (RestedAt j millis ∷ p.0) x y = subst (λ (l : List GroupEvent). EventsHappen l x y) p.1 happen in
    let m = happen'.0 in
    let sends_are : m.sends ≡ x.sends = happen'.1.sends in
    let within' : k < length m.sends = omega (arith, within, ap (λ (l : List (Option ℕ)). length l) sends_are) in
    let got = got_by k calls p.0 u v m y within' p.2 happen'.2 in
    let now : taken_by k m ≡ taken_by k x = ap (λ (l : List (Option ℕ)). get_or l k None) sends_are in
    subst (λ (l : List GroupEvent). GotBy k calls l u v x y) (sym p.1)
    (subst (λ (o : Option ℕ). LinkGot (is_up u k) (is_up v k) (datagrams_over k calls) (gone_at k p.0) o (taken_by k y)) now got.0, got.1 ∙ ap (λ (l : List (Option ℕ)). length l) sends_are))
    (λ down q. got_by k calls events u v x y within q happen)
    come
got_by k (Send j bytes ∷ calls) events u v x y within come happen =
    match_cases (is_up u j) (GotBy k (Send j bytes ∷ calls) events u v x y)
    (λ up p.
    let happen' : EventsHappen (SentTo j bytes p.0 ∷ p.1) x y = subst (λ (l : List GroupEvent). EventsHappen l x y) p.2 happen in
    let m = happen'.0 in
    let size : length m.sends ≡ length x.sends = ap (λ (l : List (Option ℕ)). length l) happen'.1.sends ∙ length-set x.sends j (one_less (get_or x.sends j None)) in
    let got = got_by k calls p.1 (up_after u j p.0) v m y (omega (arith, within, size)) p.3 happen'.2 in
    rw p.2 (got_more k (Send j bytes ∷ []) calls (SentTo j bytes p.0 ∷ []) p.1 u (up_after u j p.0) v x m y (sent_one k j (nat_eq j k) refl bytes p.0 u x m up within happen'.1) got.0, got.1 ∙ size))
    (λ down q.
    let got = got_by k calls events u v x y within q happen in
    (got_more k (Send j bytes ∷ []) calls [] events u u v x x y (left_out k j (nat_eq j k) refl bytes u x down) got.0, got.1))
    come
