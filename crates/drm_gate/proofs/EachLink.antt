-- What a run of a gateway heard, and what it brought over each link.
use Rattle.std.proofs.Common.{◌≡◌, ℕ, zero, suc, ◌<◌, ◌≤◌, ◌⊎◌, inl, inr, Bool, true, false, List, [], ◌∷◌, ◌++◌, length, get_or, if◌then◌else◌, Option, None, refl, sym, ◌∙◌, ap, ap₂, subst, arith, append_assoc}
use Rattle.std.proofs.lemmas.List.{append-nil}
use Rattle.dcp_pft.specs.declared.carry.Carry.{Carry}
use Rattle.drm_links.specs.Link.{Answer}
use Rattle.drm_links.specs.Hearing.{AreNext}
use Rattle.drm_links.specs.History.{GroupEvent, Received, SentTo, RestedAt, History, EventsHappen}
use Rattle.drm_links.specs.Alone.{gone_at}
use Rattle.drm_links.specs.Calls.{Call, Rest, Send, is_up, up_after, sends, CallsCome}
use Rattle.drm_links.proofs.CallLemmas.{match_either, same_count}
use Rattle.drm_links.proofs.AloneLemmas.{itself, another, gone_then}
use Rattle.drm_links.proofs.GotLemmas.{LinkGot, datagrams_over, taken_by, got_by, got_then, over_then}
use Rattle.dcp_sender.specs.OverLinks.{over_each}
use Rattle.recv_reading.specs.declared.options.ReceiveOptions.{ReceiveOptions}
use Rattle.drm_gate.specs.Passing.{Outcome, datagrams_of, sent_of, passing}
use Rattle.drm_gate.specs.Relaying.{RelaysPackets}
use Rattle.drm_gate.specs.Laws.{TakesJust, EachLinkTakes}
use Rattle.drm_gate.proofs.PassedLemmas.{sent_join}

-- ---- the calls over one link

-- the datagrams of one send more
abbrev with_one : Bool → List ℕ → List (List ℕ) → List (List ℕ)
with_one b bytes datagrams = if b then bytes ∷ datagrams else datagrams

same_over : (k : ℕ) (datagrams : List (List ℕ)) → datagrams_over k (sends k datagrams) ≡ datagrams
same_over k [] = refl
same_over k (bytes ∷ datagrams) = ap (λ (b : Bool). with_one b bytes (datagrams_over k (sends k datagrams))) (itself k) ∙ ap (λ l. bytes ∷ l) (same_over k datagrams)

other_over : (k j : ℕ) (datagrams : List (List ℕ)) → (j ≡ k → ⊥) → datagrams_over k (sends j datagrams) ≡ []
other_over k j [] apart = refl
other_over k j (bytes ∷ datagrams) apart = ap (λ (b : Bool). with_one b bytes (datagrams_over k (sends j datagrams))) (another j k apart) ∙ other_over k j datagrams apart

below_or_last : (k n : ℕ) → k < suc n → (k < n) ⊎ (k ≡ n)
below_or_last k n within = grind arith

none_past : (k n : ℕ) (datagrams : List (List ℕ)) → n ≤ k → datagrams_over k (over_each n datagrams) ≡ []
none_past k zero datagrams past = refl
none_past k (suc n) datagrams past =
    over_then k (over_each n datagrams) (sends n datagrams)
    ∙ ap₂ (λ xs ys. xs ++ ys) (none_past k n datagrams (omega (arith, past))) (other_over k n datagrams (λ e. omega (arith, past, e)))

all_over : (k n : ℕ) (datagrams : List (List ℕ)) → k < n → datagrams_over k (over_each n datagrams) ≡ datagrams
all_over k zero datagrams within = absurd (omega (arith, within))
all_over k (suc n) datagrams within =
    over_then k (over_each n datagrams) (sends n datagrams)
    ∙ elim (below_or_last k n within) [
      | inl below ↦ ap₂ (λ xs ys. xs ++ ys) (all_over k n datagrams below) (other_over k n datagrams (λ e. omega (arith, below, e))) ∙ append-nil datagrams
      | inr last ↦ ap₂ (λ xs ys. xs ++ ys) (none_past k n datagrams (omega (arith, last))) (subst (λ (j : ℕ). datagrams_over k (sends j datagrams) ≡ datagrams) last (same_over k datagrams))
    ]

pub passing_over : (k links : ℕ) (fates : List Outcome) → k < links → datagrams_over k (passing links fates) ≡ sent_of fates
passing_over k links [] within = refl
passing_over k links (fate ∷ fates) within =
    over_then k (over_each links (datagrams_of fate)) (passing links fates) ∙ ap₂ (λ xs ys. xs ++ ys) (all_over k links (datagrams_of fate) within) (passing_over k links fates within)

-- ---- what is heard

split : (events later : List GroupEvent) (x z : History) → EventsHappen (events ++ later) x z → (y : History) × EventsHappen events x y × EventsHappen later y z
split [] later x z happen = (x, refl, happen)
split (event ∷ events) later x z happen = let rest = split events later happen.0 z happen.2 in (rest.0, (happen.0, happen.1, rest.1), rest.2)

-- calls leave what is ahead
same_coming : (calls : List Call) (events : List GroupEvent) (u v : List Bool) (x y : History) → CallsCome u calls events v → EventsHappen events x y → y.coming ≡ x.coming
same_coming [] events u v x y come happen =
    let same : y ≡ x = subst (λ (l : List GroupEvent). EventsHappen l x y) come.0 happen in
    ap (λ (h : History). h.coming) same
same_coming (Rest k millis ∷ calls) events u v x y come happen =
    match_either (is_up u k) (y.coming ≡ x.coming)
    (λ p.
    let h : EventsHappen (RestedAt k millis ∷ p.0) x y = subst (λ (l : List GroupEvent). EventsHappen l x y) p.1 happen in
    same_coming calls p.0 u v h.0 y p.2 h.2 ∙ h.1.coming)
    (λ q. same_coming calls events u v x y q happen)
    come
same_coming (Send k bytes ∷ calls) events u v x y come happen =
    match_either (is_up u k) (y.coming ≡ x.coming)
    (λ p.
    let h : EventsHappen (SentTo k bytes p.0 ∷ p.1) x y = subst (λ (l : List GroupEvent). EventsHappen l x y) p.2 happen in
    same_coming calls p.1 (up_after u k p.0) v h.0 y p.3 h.2 ∙ h.1.coming)
    (λ q. same_coming calls events u v x y q happen)
    come

module _ (rules : ReceiveOptions) (carry : Carry) (links : ℕ) where
  -- the answers that are heard are the first of those ahead
  pub relays_next : (answers heard : List Answer) (done fates : List Outcome) (u v : List Bool) (events : List GroupEvent) (x y : History) → RelaysPackets rules carry links heard done u answers fates events v → EventsHappen events x y
      → AreNext x.coming answers y.coming
  relays_next [] heard done fates u v events x y relays happen =
      let same : y ≡ x = subst (λ (l : List GroupEvent). EventsHappen l x y) relays.0 happen in
      ap (λ (h : History). h.coming) same
  relays_next (answer ∷ answers) heard done fates u v events x y (goes, more, front, mid, back, are, come, become, behind) happen =
      let h : EventsHappen (Received answer ∷ front ++ back) x y = subst (λ (l : List GroupEvent). EventsHappen l x y) are happen in
      let s = split front back h.0 y h.2 in
      let later = relays_next answers (heard ++ answer ∷ []) (done ++ more) fates mid v back s.0 y behind s.2 in
      (h.1.is_ahead, subst (λ (l : List Answer). AreNext l answers y.coming) (same_coming (passing links more) front u mid h.0 s.0 come s.1 ∙ h.1.coming) later)

  pub relays_count : (answers heard : List Answer) (done fates : List Outcome) (u v : List Bool) (events : List GroupEvent) → RelaysPackets rules carry links heard done u answers fates events v → length v ≡ length u
  relays_count [] heard done fates u v events relays = ap (λ (l : List Bool). length l) relays.2
  relays_count (answer ∷ answers) heard done fates u v events (goes, more, front, mid, back, are, come, become, behind) =
      relays_count answers (heard ++ answer ∷ []) (done ++ more) fates mid v back behind ∙ same_count (passing links more) front u mid come

  -- What went over a link: all that has become of what was heard, and it takes that; or some first ones, and it takes no more.
  module _ (k : ℕ) (within : k < links) where
    abbrev Got : List Outcome → List Outcome → List Bool → List Bool → List GroupEvent → History → History → Type 0
    Got done fates u v events x y = (more : List Outcome) × (fates ≡ done ++ more) × LinkGot (is_up u k) (is_up v k) (sent_of more) (gone_at k events) (taken_by k x) (taken_by k y)

    pub relays_got : (answers heard : List Answer) (done fates : List Outcome) (u v : List Bool) (events : List GroupEvent) (x y : History) → k < length x.sends → RelaysPackets rules carry links heard done u answers fates events v
        → EventsHappen events x y → Got done fates u v events x y
    relays_got [] heard done fates u v events x y has relays happen = ([], relays.1 ∙ sym (append-nil done), (got_by k [] events u v x y has (relays.0, relays.2) happen).0)
    relays_got (answer ∷ answers) heard done fates u v events x y has (goes, more, front, mid, back, are, come, become, behind) happen =
        let h : EventsHappen (Received answer ∷ front ++ back) x y = subst (λ (l : List GroupEvent). EventsHappen l x y) are happen in
        let m = h.0 in
        let s = split front back m y h.2 in
        let n = s.0 in
        let sends_are : m.sends ≡ x.sends = h.1.sends in
        let has' : k < length m.sends = omega (arith, has, ap (λ (l : List (Option ℕ)). length l) sends_are) in
        let got = got_by k (passing links more) front u mid m n has' come s.1 in
        let now : LinkGot (is_up u k) (is_up mid k) (sent_of more) (gone_at k front) (taken_by k x) (taken_by k n) =
        subst (λ (l : List (List ℕ)). LinkGot (is_up u k) (is_up mid k) l (gone_at k front) (taken_by k x) (taken_by k n)) (passing_over k links more within)
        (subst (λ (l : List (Option ℕ)). LinkGot (is_up u k) (is_up mid k) (datagrams_over k (passing links more)) (gone_at k front) (get_or l k None) (taken_by k n)) sends_are got.0) in
        let later = relays_got answers (heard ++ answer ∷ []) (done ++ more) fates mid v back n y (omega (arith, has', got.1)) behind s.2 in
        let both = got_then (is_up u k) (is_up mid k) (is_up v k) (sent_of more) (sent_of later.0) (gone_at k front) (gone_at k back) (taken_by k x) (taken_by k n) (taken_by k y) now later.2 in
        let gone : gone_at k events ≡ gone_at k front ++ gone_at k back = ap (λ (l : List GroupEvent). gone_at k l) are ∙ gone_then k front back in (
          more ++ later.0,
          later.1 ∙ append_assoc done more later.0,
          subst (λ (l : List (List ℕ)). LinkGot (is_up u k) (is_up v k) (sent_of (more ++ later.0)) l (taken_by k x) (taken_by k y)) (sym gone)
              (subst (λ (l : List (List ℕ)). LinkGot (is_up u k) (is_up v k) l (gone_at k front ++ gone_at k back) (taken_by k x) (taken_by k y)) (sym (sent_join more later.0)) both),
        )

pub each_takes : EachLinkTakes
each_takes rules carry u v answers fates events x y k relays happen within has was =
    let got = relays_got rules carry (length u) k within answers [] [] fates u v events x y has relays happen in
    by (is_up v k)
    (subst (λ (b : Bool). LinkGot b (is_up v k) (sent_of fates) (gone_at k events) (taken_by k x) (taken_by k y)) was
    (subst (λ (f : List Outcome). LinkGot (is_up u k) (is_up v k) (sent_of f) (gone_at k events) (taken_by k x) (taken_by k y)) (sym got.1) got.2))
  where
    by : (b : Bool) → LinkGot true b (sent_of fates) (gone_at k events) (taken_by k x) (taken_by k y) → TakesJust b (length (gone_at k events)) (taken_by k x) (taken_by k y)
    by true (all, takes, left) = subst (λ (l : List (List ℕ)). TakesJust true (length l) (taken_by k x) (taken_by k y)) (sym all) (takes, left)
    by false (rest, some, are, no_more) = no_more
