-- What a run of a gateway brought over each link, whoever tells it.
use Rattle.std.proofs.Common.{◌≡◌, ◌≢◌, ℕ, ◌<◌, nat_eq, Bool, true, false, List, [], ◌∷◌, ◌++◌, length, MatchBool, if◌then◌else◌, refl, sym, ◌∙◌, ap, ap₂, subst, arith, append_assoc, length-append}
use Rattle.std.proofs.lemmas.List.{append-nil, get_or-set_other}
use Rattle.std.proofs.lemmas.Bool.Decides.{nat_tests}
use Rattle.dcp_pft.specs.declared.carry.Carry.{Carry}
use Rattle.drm_links.specs.Link.{Answer}
use Rattle.drm_links.specs.declared.link.Sent.{Sent}
use Rattle.drm_links.specs.declared.link.Sent.TheVariants as send
use Rattle.drm_links.specs.History.{GroupEvent, SentTo}
use Rattle.drm_links.specs.Alone.{gone_at}
use Rattle.drm_links.specs.Calls.{Call, Rest, Send, is_up, up_after, CallsCome}
use Rattle.drm_links.proofs.AloneLemmas.{gone_then}
use Rattle.drm_links.proofs.CallLemmas.{match_either, set_down}
use Rattle.drm_links.proofs.GotLemmas.{datagrams_over, over_then}
use Rattle.recv_reading.specs.declared.options.ReceiveOptions.{ReceiveOptions}
use Rattle.drm_gate.specs.Passing.{Outcome, sent_of, passing}
use Rattle.drm_gate.specs.Relaying.{RelaysPackets}
use Rattle.drm_gate.specs.Laws.{LinkGets, EachLinkGets}
use Rattle.drm_gate.proofs.PassedLemmas.{sent_join}
use Rattle.drm_gate.proofs.EachLink.{passing_over}

-- over a link that was up, or wasn't, by whether it is then
abbrev Went : Bool → Bool → List (List ℕ) → List (List ℕ) → Type 0
Went false up datagrams gone = (up ≡ false) × (gone ≡ [])
Went true up datagrams gone = LinkGets up datagrams gone

went_none : (b : Bool) → Went b b [] []
went_none false = (refl, refl)
went_none true = refl

went_then : (a b c : Bool) (xs ys front back : List (List ℕ)) → Went a b xs front → Went b c ys back → Went a c (xs ++ ys) (front ++ back)
went_then false true c xs ys front back first second = cc (first.0)
went_then false false c xs ys front back first second = (second.0, ap₂ (λ l m. l ++ m) first.1 second.1)
went_then true true true xs ys front back first second = ap₂ (λ l m. l ++ m) first second
went_then true true false xs ys front back first (rest, some, are) = (rest, some, ap₂ (λ l m. l ++ m) (sym first) are ∙ sym (append_assoc front back rest))
went_then true false true xs ys front back first second = cc (second.0)
went_then true false false xs ys front back (rest, some, are) second =
    let none : front ++ back ≡ front = ap (λ l. front ++ l) second.1 ∙ append-nil front in (
      rest ++ ys,
      omega (arith, some, length-append rest ys),
      ap (λ l. l ++ ys) are ∙ (append_assoc front rest ys ∙ ap (λ l. l ++ (rest ++ ys)) (sym none)),
    )

match_cases : (b : Bool) {P Q : Type 0} (R : Type 0) → (b ≡ true → P → R) → (b ≡ false → Q → R) → MatchBool b P Q → R
match_cases true R f g p = f refl p
match_cases false R f g q = g refl q

-- ---- one send

abbrev one_if : Bool → List ℕ → List (List ℕ)
one_if b bytes = if b then bytes ∷ [] else []

went_sent : (b p : Bool) (bytes : List ℕ) → (b ≡ true → p ≡ true) → Went p p (one_if b bytes) (one_if b bytes)
went_sent false p bytes here = went_none p
went_sent true true bytes here = refl
went_sent true false bytes here = cc (here refl)

went_failed : (b p q : Bool) (bytes : List ℕ) → (b ≡ true → (p ≡ true) × (q ≡ false)) → (b ≡ false → q ≡ p) → Went p q (one_if b bytes) []
went_failed false p q bytes here there = subst (λ (c : Bool). Went p c [] []) (sym (there refl)) (went_none p)
went_failed true p q bytes here there =
    let now = here refl in
    subst (λ (c : Bool). Went c q (bytes ∷ []) []) (sym now.0) (subst (λ (c : Bool). LinkGets c (bytes ∷ []) []) (sym now.1) (bytes ∷ [], omega arith, refl))

went_down : (b p : Bool) (bytes : List ℕ) → (b ≡ true → p ≡ false) → Went p p (one_if b bytes) []
went_down false p bytes here = went_none p
went_down true true bytes here = cc (here refl)
went_down true false bytes here = (refl, refl)

module _ (k : ℕ) where
  same_number : (j : ℕ) → nat_eq j k ≡ true → j ≡ k
  same_number j is = grind (arith, nat_tests)

  apart : (j : ℕ) → nat_eq j k ≡ false → k ≢ j
  apart j is same = grind (arith, nat_tests)

  went_one : (j : ℕ) (bytes : List ℕ) (answer : Sent) (u : List Bool) → is_up u j ≡ true → Went (is_up u k) (is_up (up_after u j answer) k) (one_if (nat_eq j k) bytes) (gone_at k (SentTo j bytes answer ∷ []))
  went_one j bytes send.Sent u up = went_sent (nat_eq j k) (is_up u k) bytes (λ is. subst (λ (i : ℕ). is_up u i ≡ true) (same_number j is) up)
  went_one j bytes send.Failed u up =
      went_failed (nat_eq j k) (is_up u k) (is_up (up_after u j send.Failed) k) bytes
      (λ is. (subst (λ (i : ℕ). is_up u i ≡ true) (same_number j is) up, subst (λ (i : ℕ). is_up (up_after u i send.Failed) k ≡ false) (sym (same_number j is)) (set_down u k)))
      (λ is. get_or-set_other u j k false false (apart j is))

  -- ---- calls

  went_by : (calls : List Call) (events : List GroupEvent) (u v : List Bool) → CallsCome u calls events v → Went (is_up u k) (is_up v k) (datagrams_over k calls) (gone_at k events)
  went_by [] events u v come =
      subst (λ (l : List GroupEvent). Went (is_up u k) (is_up v k) [] (gone_at k l)) (sym come.0) (subst (λ (l : List Bool). Went (is_up u k) (is_up l k) [] []) (sym come.1) (went_none (is_up u k)))
  went_by (Rest j millis ∷ calls) events u v come =
      match_either (is_up u j) (Went (is_up u k) (is_up v k) (datagrams_over k calls) (gone_at k events))
      (λ p. subst (λ (l : List GroupEvent). Went (is_up u k) (is_up v k) (datagrams_over k calls) (gone_at k l)) (sym p.1) (went_by calls p.0 u v p.2))
      (λ q. went_by calls events u v q)
      come
  went_by (Send j bytes ∷ calls) events u v come =
      let over = over_then k (Send j bytes ∷ []) calls in
      match_cases (is_up u j) (Went (is_up u k) (is_up v k) (datagrams_over k (Send j bytes ∷ calls)) (gone_at k events))
      (λ up p.
      let mid = up_after u j p.0 in
      let all =
      went_then (is_up u k) (is_up mid k) (is_up v k) (one_if (nat_eq j k) bytes) (datagrams_over k calls) (gone_at k (SentTo j bytes p.0 ∷ [])) (gone_at k p.1) (went_one j bytes p.0 u up) (went_by calls p.1 mid v p.3) in
      rw (over, p.2, gone_then k (SentTo j bytes p.0 ∷ []) p.1) all)
      (λ down q.
      let none = went_down (nat_eq j k) (is_up u k) bytes (λ is. subst (λ (i : ℕ). is_up u i ≡ false) (same_number j is) down) in
      rw over (went_then (is_up u k) (is_up u k) (is_up v k) (one_if (nat_eq j k) bytes) (datagrams_over k calls) [] (gone_at k events) none (went_by calls events u v q)))
      come

  -- ---- a run

  module _ (rules : ReceiveOptions) (carry : Carry) (links : ℕ) (within : k < links) where
    relays_went : (answers heard : List Answer) (done fates : List Outcome) (u v : List Bool) (events : List GroupEvent) → RelaysPackets rules carry links heard done u answers fates events v
        → (more : List Outcome) × (fates ≡ done ++ more) × Went (is_up u k) (is_up v k) (sent_of more) (gone_at k events)
    relays_went [] heard done fates u v events relays = ([], relays.1 ∙ sym (append-nil done), went_by [] events u v (relays.0, relays.2))
    relays_went (answer ∷ answers) heard done fates u v events (goes, more, front, mid, back, are, come, become, behind) =
        let later = relays_went answers (heard ++ answer ∷ []) (done ++ more) fates mid v back behind in
        let now : Went (is_up u k) (is_up mid k) (sent_of more) (gone_at k front) = subst (λ (l : List (List ℕ)). Went (is_up u k) (is_up mid k) l (gone_at k front)) (passing_over k links more within) (went_by (passing links more) front u mid come) in
        let both = went_then (is_up u k) (is_up mid k) (is_up v k) (sent_of more) (sent_of later.0) (gone_at k front) (gone_at k back) now later.2 in
        (more ++ later.0, later.1 ∙ append_assoc done more later.0, rw (sent_join more later.0, are, gone_then k front back) both)

pub each_gets : EachLinkGets
each_gets rules carry u v answers fates events k relays within was =
    let went = relays_went k rules carry (length u) within answers [] [] fates u v events relays in
    subst (λ (b : Bool). Went b (is_up v k) (sent_of fates) (gone_at k events)) was (subst (λ (f : List Outcome). Went (is_up u k) (is_up v k) (sent_of f) (gone_at k events)) (sym went.1) went.2)
