-- What goes over one link of a group where calls are made.
use Rattle.std.proofs.Common.{◌≡◌, ℕ, zero, suc, ◌+◌, ◌-◌, ◌≤◌, ◌<◌, Bool, true, false, List, [], ◌∷◌, ◌++◌, length, nat_eq, get_or, set, MatchBool, if◌then◌else◌, Option, None, Some, refl, sym, ◌∙◌, ap, subst, arith, append_assoc, length-append}
use Rattle.std.proofs.lemmas.Bool.Decides.{nat_tests}
use Rattle.std.proofs.lemmas.List.{append-nil}
use Rattle.std.proofs.Math.ListN.{length-set}
use Rattle.drm_links.specs.Link.{one_less}
use Rattle.drm_links.specs.Transmission.{TakesSends, fewer}
use Rattle.drm_links.specs.declared.link.Sent.{Sent}
use Rattle.drm_links.specs.declared.link.Sent.TheVariants as send
use Rattle.drm_links.specs.History.{GroupEvent, SentTo, RestedAt, History, EventHappens, EventsHappen, sent_by}
use Rattle.drm_links.specs.Alone.{gone_at}
use Rattle.drm_links.specs.Calls.{Call, Rest, Send, is_up, up_after, CallsCome}
use Rattle.drm_links.proofs.AloneLemmas.{itself, another}
use Rattle.drm_links.proofs.CallLemmas.{set_down}

-- the datagrams that are to go over the k-th link
abbrev pub called_at : ℕ → List Call → List (List ℕ)
called_at k [] = []
called_at k (Rest j millis ∷ calls) = called_at k calls
called_at k (Send j bytes ∷ calls) = if nat_eq j k then bytes ∷ called_at k calls else called_at k calls

-- The k-th link took so many sends at first, these datagrams went over it, and it takes those that are left.
pub record Stands (k : ℕ) (taken : Option ℕ) (gone : List (List ℕ)) (history : History) : Type 0 where
  pub among : k < length history.sends
  pub takes : TakesSends taken (length gone)
  pub left : get_or history.sends k None ≡ fewer taken (length gone)

-- What went over it, of what was called for behind what had gone: all of it; or some first ones, and then it took no more.
abbrev pub Went : Bool → ℕ → Option ℕ → List (List ℕ) → List (List ℕ) → List (List ℕ) → History → Type 0
Went true k taken before called gone history = (gone ≡ before ++ called) × Stands k taken gone history
Went false k taken before called gone history =
    (front : List (List ℕ)) × (next : List ℕ) × (rest : List (List ℕ)) × (called ≡ front ++ next ∷ rest) × (gone ≡ before ++ front) × (taken ≡ Some (length gone))

went_up : (b : Bool) (k : ℕ) (taken : Option ℕ) (before called gone : List (List ℕ)) (history : History) → b ≡ true → gone ≡ before ++ called → Stands k taken gone history → Went b k taken before called gone history
went_up true k taken before called gone history is all stands = (all, stands)
went_up false k taken before called gone history is all stands = absurd cc

went_down : (b : Bool) (k : ℕ) (taken : Option ℕ) (before called gone front : List (List ℕ)) (next : List ℕ) (rest : List (List ℕ)) (history : History) → b ≡ false
    → called ≡ front ++ next ∷ rest → gone ≡ before ++ front → taken ≡ Some (length gone) → Went b k taken before called gone history
went_down false k taken before called gone front next rest history is all some none = (front, next, rest, all, some, none)
went_down true k taken before called gone front next rest history is all some none = absurd cc

-- one datagram had gone more
went_more : (b : Bool) (k : ℕ) (taken : Option ℕ) (before called gone : List (List ℕ)) (bytes : List ℕ) (history : History) → Went b k taken (before ++ bytes ∷ []) called gone history → Went b k taken before (bytes ∷ called) gone history
went_more true k taken before called gone bytes history went = (went.0 ∙ append_assoc before (bytes ∷ []) called, went.1)
went_more false k taken before called gone bytes history went =
    (bytes ∷ went.0, went.1, went.2, ap (λ l. bytes ∷ l) went.3, went.4 ∙ append_assoc before (bytes ∷ []) went.0, went.5)

-- ---- lists

pub other_item : {A : Type 0} (xs : List A) (j k : ℕ) (x d : A) → (j ≡ k → ⊥) → get_or (set xs j x) k d ≡ get_or xs k d
other_item [] j k x d apart = refl
other_item (y ∷ xs) zero zero x d apart = absurd (apart refl)
other_item (y ∷ xs) zero (suc k) x d apart = refl
other_item (y ∷ xs) (suc j) zero x d apart = refl
other_item (y ∷ xs) (suc j) (suc k) x d apart = other_item xs j k x d (λ same. apart (ap suc same))

pub this_item : {A : Type 0} (xs : List A) (k : ℕ) (x d : A) → k < length xs → get_or (set xs k x) k d ≡ x
this_item [] k x d within = absurd (omega (arith, within))
this_item (y ∷ xs) zero x d within = refl
this_item (y ∷ xs) (suc k) x d within = this_item xs k x d (omega (arith, within))

-- ---- one send

fewer_by_one : (taken : Option ℕ) (n : ℕ) → one_less (fewer taken n) ≡ fewer taken (n + 1)
fewer_by_one None n = refl
fewer_by_one (Some m) n = let e : m - n - 1 ≡ m - (n + 1) = omega arith in ap (λ (l : ℕ). Some l) e

some_left : (m : ℕ) → sent_by (Some m) ≡ send.Sent → 1 ≤ m
some_left zero is = absurd cc
some_left (suc m) is = omega arith

takes_one : (taken : Option ℕ) (n : ℕ) → sent_by (fewer taken n) ≡ send.Sent → TakesSends taken (n + 1)
takes_one None n is = tt
takes_one (Some m) n is = let left = some_left (m - n) is in omega (arith, left)

none_left : (m : ℕ) → sent_by (Some m) ≡ send.Failed → m ≡ 0
none_left zero is = refl
none_left (suc m) is = absurd cc

takes_none : (taken : Option ℕ) (n : ℕ) → TakesSends taken n → sent_by (fewer taken n) ≡ send.Failed → taken ≡ Some n
takes_none None n takes is = absurd cc
takes_none (Some m) n takes is = let left = none_left (m - n) is in let e : m ≡ n = omega (arith, left, takes) in ap (λ (l : ℕ). Some l) e

-- ---- a link that has failed

abbrev Left : ℕ → List GroupEvent → List Bool → Type 0
Left k events v = (gone_at k events ≡ []) × (is_up v k ≡ false)

up_other : (u : List Bool) (j k : ℕ) (answer : Sent) → (j ≡ k → ⊥) → is_up (up_after u j answer) k ≡ is_up u k
up_other u j k send.Sent apart = refl
up_other u j k send.Failed apart = other_item u j k false false apart

sent_gone : (j k : ℕ) (bytes : List ℕ) (answer : Sent) (events : List GroupEvent) → nat_eq j k ≡ false → gone_at k (SentTo j bytes answer ∷ events) ≡ gone_at k events
sent_gone j k bytes send.Sent events is = ap (λ (b : Bool). if b then bytes ∷ gone_at k events else gone_at k events) is
sent_gone j k bytes send.Failed events is = refl

apart : (u : List Bool) (j k : ℕ) (a b : Bool) → is_up u j ≡ a → is_up u k ≡ b → (a ≡ b → ⊥) → j ≡ k → ⊥
apart u j k a b at_j at_k differ same = differ (sym at_j ∙ (ap (λ (i : ℕ). is_up u i) same ∙ at_k))

match_in : (b : Bool) {P Q : Type 0} (R : Type 0) → (b ≡ true → P → R) → (b ≡ false → Q → R) → MatchBool b P Q → R
match_in true R f g h = f refl h
match_in false R f g h = g refl h

-- nothing goes over it
pub calls_left : (k : ℕ) (calls : List Call) (events : List GroupEvent) (u v : List Bool) → CallsCome u calls events v → is_up u k ≡ false → Left k events v
calls_left k [] events u v comes down = (ap (gone_at k) comes.0, ap (λ l. is_up l k) comes.1 ∙ down)
calls_left k (Rest j millis ∷ calls) events u v comes down =
    match_in (is_up u j) (Left k events v)
    (λ yes p. let more = calls_left k calls p.0 u v p.2 down in (ap (gone_at k) p.1 ∙ more.0, more.1))
    (λ no q. calls_left k calls events u v q down)
    comes
calls_left k (Send j bytes ∷ calls) events u v comes down =
    match_in (is_up u j) (Left k events v)
    (λ yes p.
    let other = apart u j k true false yes down (λ e. cc) in
    let more = calls_left k calls p.1 (up_after u j p.0) v p.3 (up_other u j k p.0 other ∙ down) in
    (ap (gone_at k) p.2 ∙ (sent_gone j k bytes p.0 p.1 (another j k other) ∙ more.0), more.1))
    (λ no q. calls_left k calls events u v q down)
    comes

-- ---- one that hasn't

stands_by : (k : ℕ) (taken : Option ℕ) (gone : List (List ℕ)) (x y : History) → length y.sends ≡ length x.sends → get_or y.sends k None ≡ get_or x.sends k None → Stands k taken gone x → Stands k taken gone y
stands_by k taken gone x y long same stands = record { among = omega (arith, long, stands.among); takes = stands.takes; left = same ∙ stands.left }

module _ (k : ℕ) (taken : Option ℕ) where
  -- a send over it
  one_sent : (answer : Sent) (bytes : List ℕ) (before : List (List ℕ)) (events : List GroupEvent) (calls : List Call) (u v : List Bool) (x y z : History) → Stands k taken before x → EventHappens (SentTo k bytes answer) x y
      → (is_up (up_after u k answer) k ≡ true → Stands k taken (before ++ bytes ∷ []) y → Went (is_up v k) k taken (before ++ bytes ∷ []) (called_at k calls) ((before ++ bytes ∷ []) ++ gone_at k events) z)
      → is_up u k ≡ true → CallsCome (up_after u k answer) calls events v
      → Went (is_up v k) k taken before (bytes ∷ called_at k calls) (before ++ gone_at k (SentTo k bytes answer ∷ events)) z
  one_sent send.Sent bytes before events calls u v x y z stands happens more up comes =
      let here = itself k in
      let long : length (before ++ bytes ∷ []) ≡ length before + 1 = length-append before (bytes ∷ []) in
      let answered : sent_by (fewer taken (length before)) ≡ send.Sent = ap sent_by (sym stands.left) ∙ sym happens.is_ahead in
      let next : Stands k taken (before ++ bytes ∷ []) y = record {
        among = let e = ap (λ (l : List (Option ℕ)). length l) happens.sends ∙ length-set x.sends k (one_less (get_or x.sends k None)) in omega (arith, e, stands.among);
        takes = subst (TakesSends taken) (sym long) (takes_one taken (length before) answered);
        left = ap (λ (l : List (Option ℕ)). get_or l k None) happens.sends ∙ (this_item x.sends k (one_less (get_or x.sends k None)) None stands.among ∙ (ap one_less stands.left ∙ (fewer_by_one taken (length before) ∙ ap (fewer taken) (sym long))));
      } in
      let gone : (before ++ bytes ∷ []) ++ gone_at k events ≡ before ++ gone_at k (SentTo k bytes send.Sent ∷ events) =
      append_assoc before (bytes ∷ []) (gone_at k events) ∙ ap (λ (b : Bool). before ++ (if b then bytes ∷ gone_at k events else gone_at k events)) (sym here) in
      subst (λ (l : List (List ℕ)). Went (is_up v k) k taken before (bytes ∷ called_at k calls) l z) gone
      (went_more (is_up v k) k taken before (called_at k calls) ((before ++ bytes ∷ []) ++ gone_at k events) bytes z (more up next))
  one_sent send.Failed bytes before events calls u v x y z stands happens more up comes =
      let down : is_up (up_after u k send.Failed) k ≡ false = set_down u k in
      let left = calls_left k calls events (up_after u k send.Failed) v comes down in
      let answered : sent_by (fewer taken (length before)) ≡ send.Failed = ap sent_by (sym stands.left) ∙ sym happens.is_ahead in
      let gone : before ++ gone_at k events ≡ before ++ [] = ap (λ l. before ++ l) left.0 in
      let size : length (before ++ gone_at k events) ≡ length before = ap (λ (l : List (List ℕ)). length l) (gone ∙ append-nil before) in
      went_down (is_up v k) k taken before (bytes ∷ called_at k calls) (before ++ gone_at k events) [] bytes (called_at k calls) z left.1 refl gone
      (takes_none taken (length before) stands.takes answered ∙ ap (λ (n : ℕ). Some n) (sym size))

  -- what is known of the calls behind a send
  abbrev Behind : List Call → List Bool → History → Type 0
  Behind calls v z =
      (events : List GroupEvent) (u : List Bool) (x : History) (before : List (List ℕ)) → CallsCome u calls events v → EventsHappen events x z → is_up u k ≡ true → Stands k taken before x
      → Went (is_up v k) k taken before (called_at k calls) (before ++ gone_at k events) z

  not_called : (j : ℕ) (bytes : List ℕ) (calls : List Call) → (j ≡ k → ⊥) → called_at k (Send j bytes ∷ calls) ≡ called_at k calls
  not_called j bytes calls other = ap (λ (b : Bool). if b then bytes ∷ called_at k calls else called_at k calls) (another j k other)

  -- a send over it, and over another one
  send_here : (calls : List Call) (u v : List Bool) (x z : History) (before : List (List ℕ)) (bytes : List ℕ) (answer : Sent) (rest : List GroupEvent) → Behind calls v z → is_up u k ≡ true → Stands k taken before x
      → EventsHappen (SentTo k bytes answer ∷ rest) x z → CallsCome (up_after u k answer) calls rest v
      → Went (is_up v k) k taken before (called_at k (Send k bytes ∷ calls)) (before ++ gone_at k (SentTo k bytes answer ∷ rest)) z
  send_here calls u v x z before bytes answer rest behind up stands h c =
      let called : called_at k (Send k bytes ∷ calls) ≡ bytes ∷ called_at k calls = ap (λ (b : Bool). if b then bytes ∷ called_at k calls else called_at k calls) (itself k) in
      subst (λ (l : List (List ℕ)). Went (is_up v k) k taken before l (before ++ gone_at k (SentTo k bytes answer ∷ rest)) z) (sym called)
      (one_sent answer bytes before rest calls u v x h.0 z stands h.1 (λ still next. behind rest (up_after u k answer) h.0 (before ++ bytes ∷ []) c h.2 still next) up c)

  send_there : (j : ℕ) (calls : List Call) (u v : List Bool) (x z : History) (before : List (List ℕ)) (bytes : List ℕ) (answer : Sent) (rest : List GroupEvent) → (j ≡ k → ⊥) → Behind calls v z → is_up u k ≡ true → Stands k taken before x
      → EventsHappen (SentTo j bytes answer ∷ rest) x z → CallsCome (up_after u j answer) calls rest v
      → Went (is_up v k) k taken before (called_at k (Send j bytes ∷ calls)) (before ++ gone_at k (SentTo j bytes answer ∷ rest)) z
  send_there j calls u v x z before bytes answer rest other behind up stands h c =
      let next : Stands k taken before h.0 =
      stands_by k taken before x h.0 (ap (λ (l : List (Option ℕ)). length l) h.1.sends ∙ length-set x.sends j (one_less (get_or x.sends j None)))
      (ap (λ (l : List (Option ℕ)). get_or l k None) h.1.sends ∙ other_item x.sends j k (one_less (get_or x.sends j None)) None other) stands in
      subst (λ (l : List (List ℕ)). Went (is_up v k) k taken before l (before ++ gone_at k (SentTo j bytes answer ∷ rest)) z) (sym (not_called j bytes calls other))
      (subst (λ (l : List (List ℕ)). Went (is_up v k) k taken before (called_at k calls) (before ++ l) z) (sym (sent_gone j k bytes answer rest (another j k other)))
      (behind rest (up_after u j answer) h.0 before c h.2 (up_other u j k answer other ∙ up) next))

  send_by : (b : Bool) (j : ℕ) (calls : List Call) (u v : List Bool) (x z : History) (before : List (List ℕ)) (bytes : List ℕ) (answer : Sent) (rest : List GroupEvent) → nat_eq j k ≡ b → Behind calls v z → is_up u k ≡ true → Stands k taken before x
      → EventsHappen (SentTo j bytes answer ∷ rest) x z → CallsCome (up_after u j answer) calls rest v
      → Went (is_up v k) k taken before (called_at k (Send j bytes ∷ calls)) (before ++ gone_at k (SentTo j bytes answer ∷ rest)) z
  send_by true j calls u v x z before bytes answer rest is behind up stands h c =
      let same : j ≡ k = grind (arith, nat_tests, is) in
      let P : ℕ → Type 0 = λ i. EventsHappen (SentTo i bytes answer ∷ rest) x z → CallsCome (up_after u i answer) calls rest v
      → Went (is_up v k) k taken before (called_at k (Send i bytes ∷ calls)) (before ++ gone_at k (SentTo i bytes answer ∷ rest)) z in
      subst P (sym same) (send_here calls u v x z before bytes answer rest behind up stands) h c
  send_by false j calls u v x z before bytes answer rest is behind up stands h c =
      send_there j calls u v x z before bytes answer rest (λ e. (let same : nat_eq j k ≡ true = ap (λ i. nat_eq i k) e ∙ itself k in cc)) behind up stands h c

  pub calls_went : (calls : List Call) (events : List GroupEvent) (u v : List Bool) (x z : History) (before : List (List ℕ)) → CallsCome u calls events v → EventsHappen events x z → is_up u k ≡ true → Stands k taken before x
      → Went (is_up v k) k taken before (called_at k calls) (before ++ gone_at k events) z
  calls_went [] events u v x z before comes happen up stands =
      let none : events ≡ [] = comes.0 in
      let same : z ≡ x = subst (λ (l : List GroupEvent). EventsHappen l x z) none happen in
      let gone : before ++ gone_at k events ≡ before ++ [] = ap (λ l. before ++ gone_at k l) none in
      went_up (is_up v k) k taken before [] (before ++ gone_at k events) z (ap (λ l. is_up l k) comes.1 ∙ up) gone
      (subst (λ (h : History). Stands k taken (before ++ gone_at k events) h) (sym same) (subst (λ (l : List (List ℕ)). Stands k taken l x) (sym (gone ∙ append-nil before)) stands))
  calls_went (Rest j millis ∷ calls) events u v x z before comes happen up stands =
      match_in (is_up u j) (Went (is_up v k) k taken before (called_at k calls) (before ++ gone_at k events) z)
      (λ yes p.
      let h : EventsHappen (RestedAt j millis ∷ p.0) x z = subst (λ (l : List GroupEvent). EventsHappen l x z) p.1 happen in
      let next : Stands k taken before h.0 = stands_by k taken before x h.0 (ap (λ (l : List (Option ℕ)). length l) h.1.sends) (ap (λ (l : List (Option ℕ)). get_or l k None) h.1.sends) stands in
      subst (λ (l : List GroupEvent). Went (is_up v k) k taken before (called_at k calls) (before ++ gone_at k l) z) (sym p.1)
      (calls_went calls p.0 u v h.0 z before p.2 h.2 up next))
      (λ no q. calls_went calls events u v x z before q happen up stands)
      comes
  calls_went (Send j bytes ∷ calls) events u v x z before comes happen up stands =
      match_in (is_up u j) (Went (is_up v k) k taken before (called_at k (Send j bytes ∷ calls)) (before ++ gone_at k events) z)
      (λ yes p.
      let h : EventsHappen (SentTo j bytes p.0 ∷ p.1) x z = subst (λ (l : List GroupEvent). EventsHappen l x z) p.2 happen in
      subst (λ (l : List GroupEvent). Went (is_up v k) k taken before (called_at k (Send j bytes ∷ calls)) (before ++ gone_at k l) z) (sym p.2)
      (send_by (nat_eq j k) j calls u v x z before bytes p.0 p.1 refl (λ e u' x' gone c s still stood. calls_went calls e u' v x' z gone c s still stood) up stands h p.3))
      (λ no q.
      let other = apart u j k false true no up (λ e. cc) in
      subst (λ (l : List (List ℕ)). Went (is_up v k) k taken before l (before ++ gone_at k events) z) (sym (not_called j bytes calls other)) (calls_went calls events u v x z before q happen up stands))
      comes
