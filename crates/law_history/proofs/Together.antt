-- Links that serve a schedule stay together.
use Rattle.std.proofs.Common.{◌≡◌, ℕ, zero, suc, ◌+◌, ◌<◌, ◌≤◌, ◌==◌, ◌⊎◌, inl, inr, nat_eq, Bool, true, false, List, [], ◌∷◌, ◌++◌, length, get_or, set, MatchBool, if◌then◌else◌, refl, sym, ◌∙◌, ap, subst, arith, append_assoc}
use Rattle.std.proofs.lemmas.List.{append-nil}
use Rattle.std.proofs.lemmas.Bool.Decides.{nat_tests}
use Rattle.drm_schedule.specs.declared.plan.Plan.{Plan}
use Rattle.drm_links.specs.declared.link.Sent.{Sent}
use Rattle.drm_links.specs.declared.link.Sent.TheVariants as send
use Rattle.drm_links.specs.History.{GroupEvent, Received, SentTo, RestedAt}
use Rattle.drm_links.specs.Calls.{Call, Rest, Send, is_up, up_after, each, sends, CallsCome}
use Rattle.drm_links.specs.Alone.{gone_at}
use Rattle.drm_links.proofs.AloneLemmas.{itself, another, gone_then}
use Rattle.drm_links.proofs.CallLemmas.{set_down}
use Rattle.drm_links.proofs.GotLemmas.{datagrams_over, over_then}
use Rattle.drm_server.specs.Datagrams.{AreOfFrame, AreOfFrames}
use Rattle.drm_server.specs.Serving.{pause, turn, FramesCome}
use Rattle.law_history.specs.Laws.{ups_after, AreOfNext, IsWithin, LinksStayTogether, AfterEachTurn}

-- ---- numbers, and which links are up

by_number : {T : Type 0} (j k : ℕ) → (j ≡ k → T) → ((j ≡ k → ⊥) → T) → T
by_number {T} j k same other = decided (nat_eq j k) refl
  where
    decided : (b : Bool) → nat_eq j k ≡ b → T
    decided true is = same (grind (arith, nat_tests))
    decided false is = other (grind (arith, nat_tests))

match_case : (b : Bool) {P Q : Type 0} (T : Type 0) → (b ≡ true → P → T) → (b ≡ false → Q → T) → MatchBool b P Q → T
match_case true T f g p = f refl p
match_case false T f g q = g refl q

set_other : (u : List Bool) (j k : ℕ) → (j ≡ k → ⊥) → get_or (set u j false) k false ≡ get_or u k false
set_other [] j k apart = refl
set_other (b ∷ u) zero zero apart = absurd (apart refl)
set_other (b ∷ u) zero (suc k) apart = refl
set_other (b ∷ u) (suc j) zero apart = refl
set_other (b ∷ u) (suc j) (suc k) apart = set_other u j k (λ e. apart (ap suc e))

other_after : (u : List Bool) (j k : ℕ) (answer : Sent) → (j ≡ k → ⊥) → is_up (up_after u j answer) k ≡ is_up u k
other_after u j k send.Sent apart = refl
other_after u j k send.Failed apart = set_other u j k apart

-- a link that is up after a send was up before
falls_once : (u : List Bool) (j k : ℕ) (answer : Sent) → is_up (up_after u j answer) k ≡ true → is_up u k ≡ true
falls_once u j k send.Sent up = up
falls_once u j k send.Failed up =
    by_number j k
    (λ same. let down : is_up (set u j false) k ≡ false = subst (λ (n : ℕ). get_or (set u n false) k false ≡ false) (sym same) (set_down u k) in cc)
    (λ apart. sym (set_other u j k apart) ∙ up)

falls : (u : List Bool) (events : List GroupEvent) (k : ℕ) → is_up (ups_after u events) k ≡ true → is_up u k ≡ true
falls u [] k up = up
falls u (Received answer ∷ events) k up = falls u events k up
falls u (SentTo j bytes answer ∷ events) k up = falls_once u j k answer (falls (up_after u j answer) events k up)
falls u (RestedAt j millis ∷ events) k up = falls u events k up

ups_then : (u : List Bool) (events later : List GroupEvent) → ups_after u (events ++ later) ≡ ups_after (ups_after u events) later
ups_then u [] later = refl
ups_then u (Received answer ∷ events) later = ups_then u events later
ups_then u (SentTo j bytes answer ∷ events) later = ups_then (up_after u j answer) events later
ups_then u (RestedAt j millis ∷ events) later = ups_then u events later

-- which links are up after calls is told by what came of them
ups_are : (calls : List Call) (events : List GroupEvent) (u v : List Bool) → CallsCome u calls events v → v ≡ ups_after u events
ups_are [] events u v come = come.1 ∙ sym (ap (ups_after u) come.0)
ups_are (Rest j millis ∷ calls) events u v come =
    match_case (is_up u j) (v ≡ ups_after u events)
    (λ up p. ups_are calls p.0 u v p.2 ∙ sym (ap (ups_after u) p.1))
    (λ down q. ups_are calls events u v q)
    come
ups_are (Send j bytes ∷ calls) events u v come =
    match_case (is_up u j) (v ≡ ups_after u events)
    (λ up p. ups_are calls p.1 (up_after u j p.0) v p.3 ∙ sym (ap (ups_after u) p.2))
    (λ down q. ups_are calls events u v q)
    come

up_within : (u : List Bool) (k : ℕ) → is_up u k ≡ true → k < length u
up_within [] k up = absurd cc
up_within (b ∷ u) zero up = omega arith
up_within (b ∷ u) (suc k) up = let more = up_within u k up in omega (arith, more)

-- ---- what goes over one link by calls

gone_here : (k : ℕ) (bytes : List ℕ) (events : List GroupEvent) → gone_at k (SentTo k bytes send.Sent ∷ events) ≡ bytes ∷ gone_at k events
gone_here k bytes events = ap (λ (b : Bool). if b then bytes ∷ gone_at k events else gone_at k events) (itself k)

gone_there : (k j : ℕ) (bytes : List ℕ) (answer : Sent) (events : List GroupEvent) → (j ≡ k → ⊥) → gone_at k (SentTo j bytes answer ∷ events) ≡ gone_at k events
gone_there k j bytes send.Sent events apart = ap (λ (b : Bool). if b then bytes ∷ gone_at k events else gone_at k events) (another j k apart)
gone_there k j bytes send.Failed events apart = refl

over_here : (k : ℕ) (bytes : List ℕ) (calls : List Call) → datagrams_over k (Send k bytes ∷ calls) ≡ bytes ∷ datagrams_over k calls
over_here k bytes calls = ap (λ (b : Bool). if b then bytes ∷ datagrams_over k calls else datagrams_over k calls) (itself k)

over_there : (k j : ℕ) (bytes : List ℕ) (calls : List Call) → (j ≡ k → ⊥) → datagrams_over k (Send j bytes ∷ calls) ≡ datagrams_over k calls
over_there k j bytes calls apart = ap (λ (b : Bool). if b then bytes ∷ datagrams_over k calls else datagrams_over k calls) (another j k apart)

-- over a link that has failed nothing goes
down_none : (k : ℕ) (calls : List Call) (events : List GroupEvent) (u v : List Bool) → is_up u k ≡ false → CallsCome u calls events v → (gone_at k events ≡ []) × (is_up v k ≡ false)
down_none k [] events u v down come = (ap (gone_at k) come.0, ap (λ (l : List Bool). is_up l k) come.1 ∙ down)
down_none k (Rest j millis ∷ calls) events u v down come =
    match_case (is_up u j) ((gone_at k events ≡ []) × (is_up v k ≡ false))
    (λ up p. let more = down_none k calls p.0 u v down p.2 in (ap (gone_at k) p.1 ∙ more.0, more.1))
    (λ off q. down_none k calls events u v down q)
    come
down_none k (Send j bytes ∷ calls) events u v down come =
    match_case (is_up u j) ((gone_at k events ≡ []) × (is_up v k ≡ false))
    (λ up p.
    let apart : j ≡ k → ⊥ = λ same. let is : is_up u j ≡ false = subst (λ (n : ℕ). is_up u n ≡ false) (sym same) down in cc in
    let more = down_none k calls p.1 (up_after u j p.0) v (other_after u j k p.0 apart ∙ down) p.3 in
    (ap (gone_at k) p.2 ∙ (gone_there k j bytes p.0 p.1 apart ∙ more.0), more.1))
    (λ off q. down_none k calls events u v down q)
    come

-- what goes over a link that is up is a prefix of its calls' datagrams, and all of them where it is up then
abbrev Came : ℕ → List Call → List GroupEvent → List Bool → Type 0
Came k calls events v = (rest : List (List ℕ)) × (datagrams_over k calls ≡ gone_at k events ++ rest) × (is_up v k ≡ true → rest ≡ [])

came_send : (k : ℕ) (bytes : List ℕ) (answer : Sent) (calls : List Call) (events : List GroupEvent) (u v : List Bool) → CallsCome (up_after u k answer) calls events v
    → (is_up (up_after u k answer) k ≡ true → Came k calls events v) → is_up u k ≡ true → Came k (Send k bytes ∷ calls) (SentTo k bytes answer ∷ events) v
came_send k bytes send.Sent calls events u v come more up =
    let r = more up in
    (r.0, over_here k bytes calls ∙ (ap (λ l. bytes ∷ l) r.1 ∙ ap (λ l. l ++ r.0) (sym (gone_here k bytes events))), r.2)
came_send k bytes send.Failed calls events u v come more up =
    let none = down_none k calls events (set u k false) v (set_down u k) come in (
      bytes ∷ datagrams_over k calls,
      over_here k bytes calls ∙ ap (λ l. l ++ bytes ∷ datagrams_over k calls) (sym none.0),
      λ still. let off = none.1 in absurd cc,
    )

came : (k : ℕ) (calls : List Call) (events : List GroupEvent) (u v : List Bool) → is_up u k ≡ true → CallsCome u calls events v → Came k calls events v
came k [] events u v up come = ([], ap (λ l. gone_at k l ++ []) (sym come.0), λ still. refl)
came k (Rest j millis ∷ calls) events u v up come =
    match_case (is_up u j) (Came k (Rest j millis ∷ calls) events v)
    (λ on p. subst (λ l. Came k calls l v) (sym p.1) (came k calls p.0 u v up p.2))
    (λ off q. came k calls events u v up q)
    come
came k (Send j bytes ∷ calls) events u v up come =
    match_case (is_up u j) (Came k (Send j bytes ∷ calls) events v)
    (λ on p.
    by_number j k
    (λ same.
    let there : CallsCome (up_after u k p.0) calls p.1 v = subst (λ (n : ℕ). CallsCome (up_after u n p.0) calls p.1 v) same p.3 in
    let here : Came k (Send k bytes ∷ calls) (SentTo k bytes p.0 ∷ p.1) v = came_send k bytes p.0 calls p.1 u v there (λ now. came k calls p.1 (up_after u k p.0) v now there) up in
    subst (λ l. Came k (Send j bytes ∷ calls) l v) (sym p.2) (subst (λ (n : ℕ). Came k (Send n bytes ∷ calls) (SentTo n bytes p.0 ∷ p.1) v) (sym same) here))
    (λ apart.
    let r = came k calls p.1 (up_after u j p.0) v (other_after u j k p.0 apart ∙ up) p.3 in
    (r.0, over_there k j bytes calls apart ∙ (r.1 ∙ ap (λ l. l ++ r.0) (sym (ap (gone_at k) p.2 ∙ gone_there k j bytes p.0 p.1 apart))), r.2)))
    (λ off q.
    let apart : j ≡ k → ⊥ = λ same. let is : is_up u j ≡ true = subst (λ (n : ℕ). is_up u n ≡ true) (sym same) up in cc in
    let r = came k calls events u v up q in
    (r.0, over_there k j bytes calls apart ∙ r.1, r.2))
    come

-- ---- one frame's turn

same_over : (k : ℕ) (datagrams : List (List ℕ)) → datagrams_over k (sends k datagrams) ≡ datagrams
same_over k [] = refl
same_over k (bytes ∷ datagrams) = over_here k bytes (sends k datagrams) ∙ ap (λ l. bytes ∷ l) (same_over k datagrams)

other_over : (k j : ℕ) (datagrams : List (List ℕ)) → (j ≡ k → ⊥) → datagrams_over k (sends j datagrams) ≡ []
other_over k j [] apart = refl
other_over k j (bytes ∷ datagrams) apart = over_there k j bytes (sends j datagrams) apart ∙ other_over k j datagrams apart

no_pause : (k j pace : ℕ) (b : Bool) → datagrams_over k (if b then [] else Rest j pace ∷ []) ≡ []
no_pause k j pace true = refl
no_pause k j pace false = refl

turn_over : (k j pace n : ℕ) (datagrams : List (List ℕ)) → datagrams_over k (turn pace n datagrams j) ≡ datagrams_over k (sends j datagrams)
turn_over k j pace n datagrams = over_then k (pause pace n j) (sends j datagrams) ∙ ap (λ l. l ++ datagrams_over k (sends j datagrams)) (no_pause k j pace (n == 0))

none_past : (k pace n m : ℕ) (datagrams : List (List ℕ)) → m ≤ k → datagrams_over k (each (turn pace n datagrams) m) ≡ []
none_past k pace n zero datagrams past = refl
none_past k pace n (suc m) datagrams past =
    over_then k (each (turn pace n datagrams) m) (turn pace n datagrams m)
    ∙ (ap (λ l. l ++ datagrams_over k (turn pace n datagrams m)) (none_past k pace n m datagrams (omega (arith, past)))
    ∙ (turn_over k m pace n datagrams ∙ other_over k m datagrams (λ same. omega (arith, same, past))))

less_or_same : (k m : ℕ) → k < suc m → (k < m) ⊎ (k ≡ m)
less_or_same k m within = grind (arith, within)

all_over : (k pace n m : ℕ) (datagrams : List (List ℕ)) → k < m → datagrams_over k (each (turn pace n datagrams) m) ≡ datagrams
all_over k pace n zero datagrams within = absurd (omega (arith, within))
all_over k pace n (suc m) datagrams within =
    over_then k (each (turn pace n datagrams) m) (turn pace n datagrams m)
    ∙ (ap (λ l. datagrams_over k (each (turn pace n datagrams) m) ++ l) (turn_over k m pace n datagrams)
    ∙ elim (less_or_same k m within) [
      | inl less ↦
          ap (λ l. l ++ datagrams_over k (sends m datagrams)) (all_over k pace n m datagrams less)
          ∙ (ap (λ l. datagrams ++ l) (other_over k m datagrams (λ same. omega (arith, same, less))) ∙ append-nil datagrams)
      | inr last ↦
          ap (λ l. l ++ datagrams_over k (sends m datagrams)) (none_past k pace n m datagrams (omega (arith, last)))
          ∙ subst (λ (j : ℕ). datagrams_over k (sends j datagrams) ≡ datagrams) last (same_over k datagrams)
    ])

-- what goes of it over a link that is up
frame_came : (k pace n : ℕ) (datagrams : List (List ℕ)) (frame : List GroupEvent) (u v : List Bool) → is_up u k ≡ true → CallsCome u (each (turn pace n datagrams) (length u)) frame v
    → (rest : List (List ℕ)) × (datagrams ≡ gone_at k frame ++ rest) × (is_up v k ≡ true → rest ≡ [])
frame_came k pace n datagrams frame u v up come =
    let r = came k (each (turn pace n datagrams) (length u)) frame u v up come in
    (r.0, sym (all_over k pace n (length u) datagrams (up_within u k up)) ∙ r.1, r.2)

frame_whole : (k pace n : ℕ) (datagrams : List (List ℕ)) (frame : List GroupEvent) (u v : List Bool) → is_up v k ≡ true → CallsCome u (each (turn pace n datagrams) (length u)) frame v
    → (gone_at k frame ≡ datagrams) × (is_up u k ≡ true)
frame_whole k pace n datagrams frame u v up come =
    let was : is_up u k ≡ true = falls u frame k (ap (λ (l : List Bool). is_up l k) (sym (ups_are (each (turn pace n datagrams) (length u)) frame u v come)) ∙ up) in
    let r = frame_came k pace n datagrams frame u v was come in
    (sym (r.1 ∙ (ap (λ l. gone_at k frame ++ l) (r.2 up) ∙ append-nil (gone_at k frame))), was)

-- ---- all frames

pub after_turn : AfterEachTurn
after_turn plan first pace zero up up' events come = ([], refl, λ k on. ap (gone_at k) come.0)
after_turn plan first pace (suc n) up up' events come =
    let before = come.0 in
    let mid = come.1 in
    let datagrams = come.4 in
    let frame = come.6 in
    let earlier = after_turn plan first pace n up mid before come.2 in (
      earlier.0 ++ datagrams,
      (earlier.0, datagrams, earlier.1, come.5, refl),
      λ k on.
          let whole = frame_whole k pace n datagrams frame mid up' on come.7 in
          let same : gone_at k before ≡ earlier.0 = earlier.2 k whole.1 in
          ap (gone_at k) come.8 ∙ (gone_then k before frame ∙ (λ i. same i ++ whole.0 i)),
    )

frames_ups : (plan : Plan) (first pace n : ℕ) (up up' : List Bool) (events : List GroupEvent) → FramesCome plan first pace n up events up' → up' ≡ ups_after up events
frames_ups plan first pace zero up up' events come = come.1 ∙ sym (ap (ups_after up) come.0)
frames_ups plan first pace (suc n) up up' events come =
    ups_are (each (turn pace n come.4) (length come.1)) come.6 come.1 up' come.7
    ∙ (ap (λ (l : List Bool). ups_after l come.6) (frames_ups plan first pace n up come.1 come.0 come.2)
    ∙ (sym (ups_then up come.0 come.6) ∙ sym (ap (ups_after up) come.8)))

-- a front of two lists is a front of the first one, or has it and a front of the second
split_front : (xs ys front back : List GroupEvent) → xs ++ ys ≡ front ++ back
    → ((more : List GroupEvent) × (xs ≡ front ++ more)) ⊎ ((part : List GroupEvent) × (front ≡ xs ++ part) × (ys ≡ part ++ back))
split_front [] ys front back is = inr (front, refl, is)
split_front (x ∷ xs) ys [] back is = inl (x ∷ xs, refl)
split_front (x ∷ xs) ys (y ∷ front) back is =
    let same : x ≡ y = cc in
    let rest : xs ++ ys ≡ front ++ back = cc in
    elim (split_front xs ys front back rest) [
      | inl early ↦ inl (early.0, λ i. same i ∷ early.1 i)
      | inr late ↦ inr (late.0, (λ i. sym same i ∷ late.1 i), late.2)
    ]

no_first : {X : Type 0} (xs ys : List X) → xs ++ ys ≡ [] → xs ≡ []
no_first [] ys none = refl
no_first (x ∷ xs) ys none = cc

abbrev Together : Plan → ℕ → List Bool → List GroupEvent → ℕ → Type 0
Together plan first up front n =
    (m : ℕ) × (common : List (List ℕ)) × (next : List (List ℕ)) × AreOfFrames plan first m common × AreOfNext plan first n m next
    × ((k : ℕ) → is_up (ups_after up front) k ≡ true → IsWithin common next (gone_at k front))

-- behind n frames is another one
one_further : (plan : Plan) (first n : ℕ) (up : List Bool) (front : List GroupEvent) (datagrams : List (List ℕ)) → AreOfFrame plan (first + n) datagrams → Together plan first up front n
    → Together plan first up front (suc n)
one_further plan first n up front datagrams are r =
    elim r.4 [
      | inl within ↦ (r.0, r.1, r.2, r.3, inl (omega (arith, within.0), within.1), r.5)
      | inr past ↦ (
        r.0,
        r.1,
        datagrams,
        r.3,
        inl (omega (arith, past.0), subst (λ (m : ℕ). AreOfFrame plan (first + m) datagrams) (sym past.0) are),
        λ k on.
            let w = r.5 k on in
            let none : w.0 ≡ [] = no_first w.0 w.1 (sym w.3 ∙ past.1) in
            (w.0, datagrams, w.2, ap (λ l. l ++ datagrams) (sym none)),
      )
    ]

pub stay_together : LinksStayTogether
stay_together plan first pace zero up up' events front back come is =
    let none : front ++ back ≡ [] = sym is ∙ come.0 in
    let no_front : front ≡ [] = no_first front back none in
    (0, [], [], refl, inr (refl, refl), λ k on. ([], [], ap (gone_at k) no_front, refl))
stay_together plan first pace (suc n) up up' events front back come is =
    let before = come.0 in
    let mid = come.1 in
    let datagrams = come.4 in
    let frame = come.6 in
    elim (split_front before frame front back (sym come.8 ∙ is)) [
      | inl early ↦ one_further plan first n up front datagrams come.5 (stay_together plan first pace n up mid before front early.0 come.2 early.1)
      | inr late ↦
          let earlier = after_turn plan first pace n up mid before come.2 in (
            n,
            earlier.0,
            datagrams,
            earlier.1,
            inl (omega arith, come.5),
            λ k on.
                let part = late.0 in
                let now : is_up (ups_after (ups_after up before) part) k ≡ true = ap (λ (l : List Bool). is_up l k) (sym (ap (ups_after up) late.1 ∙ ups_then up before part)) ∙ on in
                let mid_is : mid ≡ ups_after up before = frames_ups plan first pace n up mid before come.2 in
                let was : is_up mid k ≡ true = ap (λ (l : List Bool). is_up l k) mid_is ∙ falls (ups_after up before) part k now in
                let r = frame_came k pace n datagrams frame mid up' was come.7 in
                let same : gone_at k before ≡ earlier.0 = earlier.2 k was in (
                  gone_at k part,
                  gone_at k back ++ r.0,
                  ap (gone_at k) late.1 ∙ (gone_then k before part ∙ ap (λ l. l ++ gone_at k part) same),
                  r.1 ∙ (ap (λ l. l ++ r.0) (ap (gone_at k) late.2 ∙ gone_then k part back) ∙ append_assoc (gone_at k part) (gone_at k back) r.0),
                ),
          )
    ]
