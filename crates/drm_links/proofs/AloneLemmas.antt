-- What went over each link, with more events behind.
use Rattle.std.proofs.Common.{◌≡◌, ℕ, ◌+◌, nat_eq, Bool, true, false, List, [], ◌∷◌, ◌++◌, if◌then◌else◌, refl, sym, ◌∙◌, ap, arith, append_assoc}
use Rattle.std.proofs.lemmas.Bool.Decides.{nat_tests}
use Rattle.std.proofs.lemmas.List.{append-nil, same_from_push}
use Rattle.drm_links.specs.Link.{Answer, Traffic, LinkReceives, LinkSends, LinkRests, KeepsAnswers, answer_of}
use Rattle.drm_links.specs.Dock.{Over, over_of}
use Rattle.drm_links.specs.declared.link.Came.{Came}
use Rattle.drm_links.specs.declared.link.Sent.{Sent}
use Rattle.drm_links.specs.declared.link.Sent.TheVariants as send
use Rattle.drm_links.specs.History.{GroupEvent, Received, SentTo, RestedAt}
use Rattle.drm_links.specs.Alone.{answers_in, gone_at, rests_at, over_at, over_source}

-- ---- numbers of links

pub itself : (k : ℕ) → nat_eq k k ≡ true
itself k = grind (arith, nat_tests)

pub another : (j k : ℕ) → (j ≡ k → ⊥) → nat_eq j k ≡ false
another j k apart = grind (arith, nat_tests)

pub same_number : (j k : ℕ) → nat_eq j k ≡ true → j ≡ k
same_number j k is = grind (arith, nat_tests)

-- ---- events, and then others

pub answers_then : (events later : List GroupEvent) → answers_in (events ++ later) ≡ answers_in events ++ answers_in later
answers_then [] later = refl
answers_then (Received answer ∷ events) later = ap (λ l. answer ∷ l) (answers_then events later)
answers_then (SentTo j bytes answer ∷ events) later = answers_then events later
answers_then (RestedAt j millis ∷ events) later = answers_then events later

pub either_then : (b : Bool) (bytes : List ℕ) (xs ys zs : List (List ℕ)) → xs ≡ ys ++ zs → (if b then bytes ∷ xs else xs) ≡ (if b then bytes ∷ ys else ys) ++ zs
either_then true bytes xs ys zs is = ap (λ l. bytes ∷ l) is
either_then false bytes xs ys zs is = is

pub gone_then : (k : ℕ) (events later : List GroupEvent) → gone_at k (events ++ later) ≡ gone_at k events ++ gone_at k later
gone_then k [] later = refl
gone_then k (Received answer ∷ events) later = gone_then k events later
gone_then k (SentTo j bytes send.Sent ∷ events) later =
    either_then (nat_eq j k) bytes (gone_at k (events ++ later)) (gone_at k events) (gone_at k later) (gone_then k events later)
gone_then k (SentTo j bytes send.Failed ∷ events) later = gone_then k events later
gone_then k (RestedAt j millis ∷ events) later = gone_then k events later

-- how long a link rested before each datagram, and then since the last; and what that is with more events behind
abbrev Splits : ℕ → List GroupEvent → List ℕ → List ℕ → Type 0
Splits k later rests more = (waits : List ℕ) × (waiting : ℕ) × (rests ≡ waits ++ waiting ∷ []) × (more ≡ waits ++ rests_at k waiting later)

if_splits : (k : ℕ) (later : List GroupEvent) (b : Bool) (x y u v : List ℕ) → Splits k later x u → Splits k later y v → Splits k later (if b then x else y) (if b then u else v)
if_splits k later true x y u v first second = first
if_splits k later false x y u v first second = second

splits : (k waited : ℕ) (events later : List GroupEvent) → Splits k later (rests_at k waited events) (rests_at k waited (events ++ later))
splits k waited [] later = ([], waited, refl, refl)
splits k waited (Received answer ∷ events) later = splits k waited events later
splits k waited (SentTo j bytes send.Sent ∷ events) later =
    let next = splits k 0 events later in
    if_splits k later (nat_eq j k) (waited ∷ rests_at k 0 events) (rests_at k waited events) (waited ∷ rests_at k 0 (events ++ later)) (rests_at k waited (events ++ later))
    (waited ∷ next.0, next.1, ap (λ l. waited ∷ l) next.2, ap (λ l. waited ∷ l) next.3)
    (splits k waited events later)
splits k waited (SentTo j bytes send.Failed ∷ events) later = splits k waited events later
splits k waited (RestedAt j millis ∷ events) later =
    if_splits k later (nat_eq j k) (rests_at k (waited + millis) events) (rests_at k waited events) (rests_at k (waited + millis) (events ++ later)) (rests_at k waited (events ++ later))
    (splits k (waited + millis) events later)
    (splits k waited events later)

pub rests_then : (k waited : ℕ) (events later : List GroupEvent) (waits : List ℕ) (waiting : ℕ) → rests_at k waited events ≡ waits ++ waiting ∷ []
    → rests_at k waited (events ++ later) ≡ waits ++ rests_at k waiting later
rests_then k waited events later waits waiting is =
    let split = splits k waited events later in
    let same = same_from_push split.0 waits split.1 waiting (sym split.2 ∙ is) in
    split.3 ∙ (λ i. same.0 i ++ rests_at k (same.1 i) later)

-- ---- one event that is of another link

-- events that leave what went over the k-th link as it is
abbrev pub LeavesAlone : ℕ → List GroupEvent → Type 0
LeavesAlone k later = (gone_at k later ≡ []) × ((waited : ℕ) → rests_at k waited later ≡ waited ∷ [])

pub at_other : (k : ℕ) (events later : List GroupEvent) → LeavesAlone k later → over_at k (events ++ later) ≡ over_at k events
at_other k events later alone =
    let split = splits k 0 events later in
    let gone : gone_at k (events ++ later) ≡ gone_at k events = gone_then k events later ∙ (ap (λ l. gone_at k events ++ l) alone.0 ∙ append-nil (gone_at k events)) in
    let rests : rests_at k 0 (events ++ later) ≡ rests_at k 0 events = split.3 ∙ (ap (λ l. split.0 ++ l) (alone.1 split.1) ∙ sym split.2) in
    λ i. record { answers = []; gone = gone i; rests = rests i }

pub alone_recv : (k : ℕ) (answer : Answer) → LeavesAlone k (Received answer ∷ [])
alone_recv k answer = (refl, λ waited. refl)

pub alone_send : (j k : ℕ) (bytes : List ℕ) (answer : Sent) → (j ≡ k → ⊥) → LeavesAlone k (SentTo j bytes answer ∷ [])
alone_send j k bytes send.Sent apart =
    let other = another j k apart in (
      ap (λ (b : Bool). if b then bytes ∷ [] else []) other,
      λ waited. ap (λ (b : Bool). if b then waited ∷ 0 ∷ [] else waited ∷ []) other,
    )
alone_send j k bytes send.Failed apart = (refl, λ waited. refl)

pub alone_rest : (j k millis : ℕ) → (j ≡ k → ⊥) → LeavesAlone k (RestedAt j millis ∷ [])
alone_rest j k millis apart = (refl, λ waited. ap (λ (b : Bool). if b then (waited + millis) ∷ [] else waited ∷ []) (another j k apart))

-- ---- one event that is of this link

pub at_sent : (k : ℕ) (events : List GroupEvent) (bytes : List ℕ) (answer : Sent) (t t' : Traffic) → over_of t ≡ over_at k events → LinkSends answer bytes t t' → KeepsAnswers t t'
    → over_of t' ≡ over_at k (events ++ SentTo k bytes answer ∷ [])
at_sent k events bytes send.Sent t t' went sends kept =
    let here = itself k in
    let answers : t'.answers ≡ [] = kept.answers ∙ ap (λ (o : Over). o.answers) went in
    let gone : t'.gone ≡ gone_at k (events ++ SentTo k bytes send.Sent ∷ []) =
    sends.1 ∙ (ap (λ l. l ++ bytes ∷ []) (ap (λ (o : Over). o.gone) went)
    ∙ sym (gone_then k events (SentTo k bytes send.Sent ∷ []) ∙ ap (λ (b : Bool). gone_at k events ++ (if b then bytes ∷ [] else [])) here)) in
    let before : rests_at k 0 events ≡ t.waits ++ t.waiting ∷ [] = sym (ap (λ (o : Over). o.rests) went) in
    let now : t'.waits ++ t'.waiting ∷ [] ≡ (t.waits ++ t.waiting ∷ []) ++ 0 ∷ [] = λ i. sends.2 i ++ sends.3 i ∷ [] in
    let rests : t'.waits ++ t'.waiting ∷ [] ≡ rests_at k 0 (events ++ SentTo k bytes send.Sent ∷ []) =
    now ∙ (append_assoc t.waits (t.waiting ∷ []) (0 ∷ [])
    ∙ sym (rests_then k 0 events (SentTo k bytes send.Sent ∷ []) t.waits t.waiting before ∙ ap (λ (b : Bool). t.waits ++ (if b then t.waiting ∷ 0 ∷ [] else t.waiting ∷ [])) here)) in
    λ i. record { answers = answers i; gone = gone i; rests = rests i }
at_sent k events bytes send.Failed t t' went sends kept =
    let alone : LeavesAlone k (SentTo k bytes send.Failed ∷ []) = (refl, λ waited. refl) in
    let same : over_of t' ≡ over_of t = λ i. record { answers = kept.answers i; gone = sends.1 i; rests = sends.2 i ++ sends.3 i ∷ [] } in
    same ∙ (went ∙ sym (at_other k events (SentTo k bytes send.Failed ∷ []) alone))

pub at_rested : (k : ℕ) (events : List GroupEvent) (millis : ℕ) (t t' : Traffic) → over_of t ≡ over_at k events → LinkRests millis t t'
    → over_of t' ≡ over_at k (events ++ RestedAt k millis ∷ [])
at_rested k events millis t t' went rests =
    let here = itself k in
    let answers : t'.answers ≡ [] = rests.answers ∙ ap (λ (o : Over). o.answers) went in
    let gone : t'.gone ≡ gone_at k (events ++ RestedAt k millis ∷ []) = rests.gone ∙ (ap (λ (o : Over). o.gone) went ∙ sym (gone_then k events (RestedAt k millis ∷ []) ∙ append-nil (gone_at k events))) in
    let before : rests_at k 0 events ≡ t.waits ++ t.waiting ∷ [] = sym (ap (λ (o : Over). o.rests) went) in
    let now : t'.waits ++ t'.waiting ∷ [] ≡ t.waits ++ (t.waiting + millis) ∷ [] = λ i. rests.waits i ++ rests.waiting i ∷ [] in
    let all : t'.waits ++ t'.waiting ∷ [] ≡ rests_at k 0 (events ++ RestedAt k millis ∷ []) =
    now ∙ sym (rests_then k 0 events (RestedAt k millis ∷ []) t.waits t.waiting before ∙ ap (λ (b : Bool). t.waits ++ (if b then (t.waiting + millis) ∷ [] else t.waiting ∷ [])) here) in
    λ i. record { answers = answers i; gone = gone i; rests = all i }

-- ---- over the link that is received from

pub source_heard : (events : List GroupEvent) (answer : Answer) (came : Came) (buf : List ℕ) (t t' : Traffic) → over_of t ≡ over_source events → LinkReceives came buf t t' → answer ≡ answer_of came buf
    → over_of t' ≡ over_source (events ++ Received answer ∷ [])
source_heard events answer came buf t t' went receives is =
    let answers : t'.answers ≡ answers_in (events ++ Received answer ∷ []) =
    receives.answers ∙ (ap (λ a. t.answers ++ a ∷ []) (sym (is ∙ receives.next)) ∙ (ap (λ l. l ++ answer ∷ []) (ap (λ (o : Over). o.answers) went) ∙ sym (answers_then events (Received answer ∷ [])))) in
    let gone : t'.gone ≡ [] = receives.gone ∙ ap (λ (o : Over). o.gone) went in
    let rests : t'.waits ++ t'.waiting ∷ [] ≡ 0 ∷ [] = (λ i. receives.waits i ++ receives.waiting i ∷ []) ∙ ap (λ (o : Over). o.rests) went in
    λ i. record { answers = answers i; gone = gone i; rests = rests i }

pub source_other : (events later : List GroupEvent) → answers_in later ≡ [] → over_source (events ++ later) ≡ over_source events
source_other events later none =
    let answers : answers_in (events ++ later) ≡ answers_in events = answers_then events later ∙ (ap (λ l. answers_in events ++ l) none ∙ append-nil (answers_in events)) in
    λ i. record { answers = answers i; gone = []; rests = 0 ∷ [] }
