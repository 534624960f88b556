-- What comes at a place comes there on each way along the same packets.
use Rattle.std.proofs.Common.{ℕ, suc, ◌≡◌, ◌+◌, ◌-◌, ◌<◌, ◌≤◌, ◌⊎◌, inl, inr, true, false, List, [], ◌∷◌, ◌++◌, length, take, Option, None, Some, refl, sym, ap, ap₂, subst, ◌∙◌, arith, append_assoc, length-append, nat_lt}
use Rattle.std.proofs.Math.Seq.{take-append-add}
use Rattle.std.proofs.lemmas.Bool.{true≢false, cases_lt}
use Rattle.std.proofs.lemmas.Bool.Decides.{nat_tests}
use Rattle.std.proofs.lemmas.List.{append-nil}
use Rattle.recv_reading.proofs.Common.{Taken, CollectorState, made, ready, after_item, after_finish, CollectorItem, Packet, Lost, Damaged, IsItem}
use Rattle.recv_reading.proofs.Common.{CollectorTakes, CollectorGives, CollectorSteps, up_to, GivesSoFar, is_full}
use Rattle.dcp_collect.proofs.Decoded.{one_decoding}
use Rattle.law_collect.proofs.OneReading.{one_reading}
use Rattle.law_collect.proofs.Runs.{steps_part}
use Rattle.law_collect.proofs.Unique.{one_giving, one_taking}
use Rattle.recv_reading.proofs.First.{given_first}
use Rattle.recv_reading.proofs.Reaching.{one_way}
use Rattle.recv_reading.specs.Packets.{ComesAt, HasEnough}
use Rattle.recv_reading.specs.declared.options.PacketRange.{PacketRange}

-- ---- lists

-- of two fronts of a list the longer one begins with the shorter one
pub front_of : {X : Type 0} (xs ys us vs : List X) → xs ++ us ≡ ys ++ vs → length xs ≤ length ys → (rest : List X) × (ys ≡ xs ++ rest)
front_of [] ys us vs is few = (ys, refl)
front_of (x ∷ xs) [] us vs is few = absurd (omega (arith, few))
front_of (x ∷ xs) (y ∷ ys) us vs is few =
    let cut : x ∷ (xs ++ us) ≡ y ∷ (ys ++ vs) = is in
    let first : x ≡ y = cc in
    let others : xs ++ us ≡ ys ++ vs = cc in
    let (rest, same) = front_of xs ys us vs others (omega (arith, few)) in
    (rest, ap₂ (λ z zs. z ∷ zs) (sym first) same)

-- and behind two of the same length the same stands
same_next : {X : Type 0} (xs ys us vs : List X) (a b : X) → length xs ≡ length ys → xs ++ a ∷ us ≡ ys ++ b ∷ vs → (xs ≡ ys) × (a ≡ b)
same_next [] [] us vs a b size is = let cut : a ∷ us ≡ b ∷ vs = is in (refl, cc)
same_next [] (y ∷ ys) us vs a b size is = absurd (omega (arith, size))
same_next (x ∷ xs) [] us vs a b size is = absurd (omega (arith, size))
same_next (x ∷ xs) (y ∷ ys) us vs a b size is =
    let cut : x ∷ (xs ++ a ∷ us) ≡ y ∷ (ys ++ b ∷ vs) = is in
    let first : x ≡ y = cc in
    let others : xs ++ a ∷ us ≡ ys ++ b ∷ vs = cc in
    let (more, same) = same_next xs ys us vs a b (omega (arith, size)) others in
    (ap₂ (λ z zs. z ∷ zs) first more, same)

-- these, and this one behind them, begin the list
abbrev pub Starts : List CollectorItem → CollectorItem → List CollectorItem → Type 0
Starts items item all = (rest : List CollectorItem) × (all ≡ items ++ item ∷ rest)

pub starts_more : (items : List CollectorItem) (item : CollectorItem) (some others : List CollectorItem) → Starts items item some → Starts items item (some ++ others)
starts_more items item some others (rest, is) = (rest ++ others, ap (λ l. l ++ others) is ∙ append_assoc items (item ∷ rest) others)

starts_behind : (before items : List CollectorItem) (item : CollectorItem) (all : List CollectorItem) → Starts items item all → Starts (before ++ items) item (before ++ all)
starts_behind before items item all (rest, is) = (rest, ap (λ l. before ++ l) is ∙ sym (append_assoc before items (item ∷ rest)))

-- no told number cuts it off
pub starts_up_to : (frame_limit : Option ℕ) (items : List CollectorItem) (item : CollectorItem) (all : List CollectorItem) → is_full frame_limit (length items) ≡ false → Starts items item all → Starts items item (up_to frame_limit all)
starts_up_to None items item all room starts = starts
starts_up_to (Some n) items item all room (rest, is) =
    let below : length items < n = grind (arith, nat_tests) in
    let behind : ℕ = (n - length items) - 1 in
    let size : length items + suc behind ≡ n = omega (arith, below) in
    (take behind rest, ap (take n) is ∙ (ap (λ k. take k (items ++ item ∷ rest)) (sym size) ∙ take-append-add items (item ∷ rest) (suc behind)))

-- Two lists and what comes behind each: both are the same, or one begins the other.
abbrev pub Agree : List CollectorItem → CollectorItem → List CollectorItem → CollectorItem → Type 0
Agree xs x ys y = ((xs ≡ ys) × (x ≡ y)) ⊎ (Starts xs x ys ⊎ Starts ys y xs)

agree_behind : (before xs ys : List CollectorItem) (x y : CollectorItem) → Agree xs x ys y → Agree (before ++ xs) x (before ++ ys) y
agree_behind before xs ys x y (inl (same, next)) = inl (ap (λ l. before ++ l) same, next)
agree_behind before xs ys x y (inr (inl starts)) = inr (inl (starts_behind before xs x ys starts))
agree_behind before xs ys x y (inr (inr starts)) = inr (inr (starts_behind before ys y xs starts))

-- ---- enough

pub longer_full : (frame_limit : Option ℕ) (m n : ℕ) → m ≤ n → is_full frame_limit m ≡ true → is_full frame_limit n ≡ true
longer_full None m n most full = full
longer_full (Some t) m n most full = grind (arith, nat_tests)

-- ---- what a collector gives

-- an item doesn't know of an end
ended : (end : Option ℕ) (c : CollectorState) (item : CollectorItem) → IsItem c item → IsItem (record c { end = end }) item
ended end c (Packet q bytes) is = is
ended end c (Lost q had total) is = is
ended end c (Damaged q) is = is

before_next : (n : ℕ) → nat_lt n (n + 1) ≡ true
before_next n = grind (arith, nat_tests)

not_itself : (n : ℕ) → nat_lt n n ≡ false
not_itself n = grind (arith, nat_tests)

-- one item stands at each number
one_item : (c : CollectorState) (x y : CollectorItem) → IsItem c x → IsItem c y → x ≡ y
one_item c x y is also =
    let end : Option ℕ = Some (c.next + 1) in
    let d : CollectorState = record c { end = end } in
    let same : y ∷ [] ≡ x ∷ [] =
    (one_giving one_decoding d (after_item d) (after_item d) (x ∷ []) (y ∷ []) (before_next c.next, ended end c x is, (not_itself (c.next + 1), refl))
    (before_next c.next, ended end c y also, (not_itself (c.next + 1), refl))).0 in
    cc

-- the first one that is given is the one that is next
one_next : (c e : CollectorState) (x y : CollectorItem) (now : List CollectorItem) → CollectorGives c (x ∷ now) e → IsItem c y → x ≡ y
one_next c e x y now gives is = one_item c x y gives.1 is

-- what is given starts with what can be given
pub starts : (more : List CollectorItem) (item : CollectorItem) (c last e : CollectorState) (now : List CollectorItem) → GivesSoFar c more last → ready last ≡ true → IsItem last item → CollectorGives c now e → Starts more item now
starts [] item c last e [] given is_ready is gives = absurd (true≢false (sym is_ready ∙ (ap ready given ∙ gives.0)))
starts [] item c last e (x ∷ now) given is_ready is gives =
    (now, ap (λ i. i ∷ now) (one_next c e x item now gives (subst (λ s. IsItem s item) given is)))
starts (m ∷ more) item c last e [] given is_ready is gives = absurd (true≢false (sym given.0 ∙ gives.0))
starts (m ∷ more) item c last e (x ∷ now) given is_ready is gives =
    let (rest, same) = starts more item (after_item c) last e now given.2 is_ready is gives.2 in
    let first : x ≡ m = one_next c e x m now gives given.1 in
    (rest, ap (λ i. i ∷ now) first ∙ ap (λ l. m ∷ l) same)

-- from one state on
given_agree : (xs ys : List CollectorItem) (x y : CollectorItem) (c d e : CollectorState) → GivesSoFar c xs d → IsItem d x → GivesSoFar c ys e → IsItem e y → Agree xs x ys y
given_agree [] [] x y c d e given is given' also = inl (refl, one_item c x y (subst (λ s. IsItem s x) given is) (subst (λ s. IsItem s y) given' also))
given_agree [] (y' ∷ ys) x y c d e given is given' also = inr (inl (ys, ap (λ i. i ∷ ys) (one_item c y' x given'.1 (subst (λ s. IsItem s x) given is))))
given_agree (x' ∷ xs) [] x y c d e given is given' also = inr (inr (xs, ap (λ i. i ∷ xs) (one_item c x' y given.1 (subst (λ s. IsItem s y) given' also))))
given_agree (x' ∷ xs) (y' ∷ ys) x y c d e given is given' also =
    let rest : Agree xs x ys y = given_agree xs ys x y (after_item c) d e given.2 is given'.2 also in
    subst (λ i. Agree (x' ∷ xs) x (i ∷ ys) y) (one_item c x' y' given.1 given'.1) (agree_behind (x' ∷ []) xs ys x y rest)

-- what is given behind a datagram that was taken does so, too
pub step_starts : (c d state last : CollectorState) (bytes : List ℕ) (after : List (List ℕ)) (answer : Taken) (answers : List Taken) (given more : List CollectorItem) (item : CollectorItem)
    → CollectorSteps c (bytes ∷ after) answers given d → CollectorTakes c bytes answer state → GivesSoFar state more last → ready last ≡ true → IsItem last item → Starts more item given
step_starts c d state last bytes after answer [] given more item steps takes gives is_ready is = absurd steps
step_starts c d state last bytes after answer (a ∷ answers) given more item (now, later, kept, mid, takes', gives', steps, are) takes gives is_ready is =
    let same : kept ≡ state = (one_taking one_reading c state kept bytes answer a takes takes').1 in
    let (rest, begins) = starts more item state last mid now gives is_ready is (subst (λ s. CollectorGives s now mid) same gives') in
    (rest ++ later, are ∙ (ap (λ l. l ++ later) begins ∙ append_assoc more (item ∷ rest) later))

-- ---- on the way along packets

pub gives_first : (items : List CollectorItem) (c d : CollectorState) → CollectorGives c items d → d.first ≡ c.first
gives_first [] c d gives = ap (λ s. s.first) gives.1
gives_first (item ∷ items) c d gives = gives_first items (after_item c) d gives.2

step_first : (c d state : CollectorState) (bytes : List ℕ) (answer : Taken) (answers : List Taken) (given : List CollectorItem) → CollectorSteps c (bytes ∷ []) answers given d → CollectorTakes c bytes answer state → d.first ≡ state.first
step_first c d state bytes answer [] given steps takes = absurd steps
step_first c d state bytes answer (a ∷ []) given (now, later, kept, mid, takes', gives, steps, are) takes =
    let same : kept ≡ state = (one_taking one_reading c state kept bytes answer a takes takes').1 in
    ap (λ s. s.first) steps.1 ∙ (gives_first now kept mid gives ∙ ap (λ s. s.first) same)
step_first c d state bytes answer (a ∷ b ∷ answers) given (now, later, kept, mid, takes', gives, steps, are) takes = absurd steps

module _ (range : PacketRange) where
  abbrev new : CollectorState
  new = made range.window range.reach range.first

  module _ (packets : List (List ℕ)) (items : List CollectorItem) (item : CollectorItem) (last : CollectorState) (at : ComesAt range packets items item last) where
    -- where it comes behind a packet, it is among what these packets give, and more of them
    pub taken_starts : (bytes : List ℕ) (answer : Taken) → at.later ≡ bytes ∷ [] → CollectorTakes at.mid bytes answer at.state
        → (all later : List (List ℕ)) (answers : List Taken) (given : List CollectorItem) (after : CollectorState) → all ≡ packets ++ later → CollectorSteps new all answers given after → Starts items item given
    taken_starts bytes answer is takes all later answers given after are steps =
        let parts : all ≡ at.before ++ bytes ∷ later = are ∙ (ap (λ l. l ++ later) (at.are ∙ ap (λ l. at.before ++ l) is) ∙ append_assoc at.before (bytes ∷ []) later) in
        let (mid, replies, more_replies, now, then_given, front, back, are_answers, are_given) =
        steps_part new after at.before (bytes ∷ later) answers given (subst (λ l. CollectorSteps new l answers given after) parts steps) in
        let (answers_alike, same, there) = one_way new at.mid mid at.before at.taken replies at.during now at.steps front in
        let begins : Starts at.more item then_given =
        step_starts at.mid after at.state last bytes later answer more_replies then_given at.more item
        (subst (λ s. CollectorSteps s (bytes ∷ later) more_replies then_given after) there back) takes at.gives at.is_ready at.is_next in
        let whole : given ≡ at.during ++ then_given = are_given ∙ ap (λ l. l ++ then_given) same in
        subst (λ l. Starts l item given) (sym at.items_are) (subst (Starts (at.during ++ at.more) item) (sym whole) (starts_behind at.during at.more item then_given begins))

    pub all_before : at.later ≡ [] → packets ≡ at.before
    all_before none = at.are ∙ (ap (λ l. at.before ++ l) none ∙ append-nil at.before)

    -- where it comes when the collector is finished, it is among what these packets give, and the end
    pub finished_starts : at.later ≡ [] → at.state ≡ after_finish at.mid range.frame_limit
        → (answers : List Taken) (during rest : List CollectorItem) (mid after : CollectorState) → CollectorSteps new packets answers during mid → CollectorGives (after_finish mid range.frame_limit) rest after → Starts items item (during ++ rest)
    finished_starts none is answers during rest mid after steps gives =
        let (answers_alike, same, there) = one_way new at.mid mid at.before at.taken answers at.during during at.steps (subst (λ l. CollectorSteps new l answers during mid) (all_before none) steps) in
        let finished : at.state ≡ after_finish mid range.frame_limit = is ∙ ap (λ s. after_finish s range.frame_limit) (sym there) in
        let begins : Starts at.more item rest =
        starts at.more item (after_finish mid range.frame_limit) last after rest (subst (λ s. GivesSoFar s at.more last) finished at.gives) at.is_ready at.is_next gives in
        let front : items ≡ during ++ at.more = at.items_are ∙ ap (λ l. l ++ at.more) (sym same) in
        subst (λ l. Starts l item (during ++ rest)) (sym front) (starts_behind during at.more item rest begins)

    -- behind the packet the first sequence number is that of the collector that gives it
    pub taken_first : (bytes : List ℕ) (answer : Taken) → at.later ≡ bytes ∷ [] → CollectorTakes at.mid bytes answer at.state
        → (answers : List Taken) (given : List CollectorItem) (after : CollectorState) → CollectorSteps new packets answers given after → after.first ≡ last.first
    taken_first bytes answer is takes answers given after steps =
        let parts : packets ≡ at.before ++ bytes ∷ [] = at.are ∙ ap (λ l. at.before ++ l) is in
        let (mid, replies, more_replies, now, then_given, front, back, are_answers, are_given) =
        steps_part new after at.before (bytes ∷ []) answers given (subst (λ l. CollectorSteps new l answers given after) parts steps) in
        let (answers_alike, same, there) = one_way new at.mid mid at.before at.taken replies at.during now at.steps front in
        step_first at.mid after at.state bytes answer more_replies then_given (subst (λ s. CollectorSteps s (bytes ∷ []) more_replies then_given after) there back) takes
        ∙ sym (given_first at.more at.state last at.gives)

    -- the packets before it aren't enough
    pub lacks_before : is_full range.frame_limit (length items) ≡ false → HasEnough range at.before → ⊥
    lacks_before room (taken, given, end, steps, full) =
        let same : given ≡ at.during = (one_way new at.mid end at.before at.taken taken at.during given at.steps steps).1 in
        let long : length items ≡ length at.during + length at.more = ap length at.items_are ∙ length-append at.during at.more in
        true≢false (sym (longer_full range.frame_limit (length given) (length items) (omega (arith, long, ap length same)) full) ∙ room)

    place_of : (bytes : List ℕ) (more : List (List ℕ)) → at.later ≡ bytes ∷ [] → packets ++ more ≡ at.before ++ bytes ∷ more
    place_of bytes more is = ap (λ l. l ++ more) (at.are ∙ ap (λ l. at.before ++ l) is) ∙ append_assoc at.before (bytes ∷ []) more

  -- ---- two items

  module _ (packets others : List (List ℕ)) (items given : List CollectorItem) (item next : CollectorItem) (last end : CollectorState)
      (a : ComesAt range packets items item last) (b : ComesAt range others given next end) where
    -- where both come out of one state
    from_one : a.before ≡ b.before → (a.mid ≡ b.mid → a.state ≡ b.state) → Agree items item given next
    from_one same both =
        let (answers_alike, during, mid) = one_way new b.mid a.mid b.before b.taken a.taken b.during a.during b.steps (subst (λ l. CollectorSteps new l a.taken a.during a.mid) same a.steps) in
        let more : Agree a.more item b.more next =
        given_agree a.more b.more item next b.state last end (subst (λ s. GivesSoFar s a.more last) (both mid) a.gives) a.is_next b.gives b.is_next in
        let front : items ≡ b.during ++ a.more = a.items_are ∙ ap (λ l. l ++ a.more) during in
        subst (λ l. Agree l item given next) (sym front) (subst (λ l. Agree (b.during ++ a.more) item l next) (sym b.items_are) (agree_behind b.during a.more b.more item next more))

    -- where the first one comes behind a packet, and the second one behind more
    earlier : (bytes : List ℕ) (answer : Taken) → a.later ≡ bytes ∷ [] → CollectorTakes a.mid bytes answer a.state → (later : List (List ℕ)) → b.before ≡ packets ++ later → Agree items item given next
    earlier bytes answer is takes later are =
        let begins : Starts items item b.during = taken_starts packets items item last a bytes answer is takes b.before later b.taken b.during b.mid are b.steps in
        inr (inl (subst (Starts items item) (sym b.items_are) (starts_more items item b.during b.more begins)))

    -- where both come behind the same packet
    together : (bytes other : List ℕ) (answer reply : Taken) → CollectorTakes a.mid bytes answer a.state → CollectorTakes b.mid other reply b.state → a.before ≡ b.before → bytes ≡ other → Agree items item given next
    together bytes other answer reply takes takes' before same =
        from_one before (λ mid.
        (one_taking one_reading b.mid b.state a.state other reply answer takes'
        (subst (λ l. CollectorTakes b.mid l answer a.state) same (subst (λ s. CollectorTakes s bytes answer a.state) mid takes))).1)

    -- where both come when the collector is finished
    pub both_finished : a.later ≡ [] → b.later ≡ [] → a.state ≡ after_finish a.mid range.frame_limit → b.state ≡ after_finish b.mid range.frame_limit → packets ≡ others → Agree items item given next
    both_finished none also is is' same =
        from_one (sym (all_before packets items item last a none) ∙ (same ∙ all_before others given next end b also))
        (λ mid. is ∙ (ap (λ s. after_finish s range.frame_limit) mid ∙ sym is'))

    -- where the second one does
    pub then_finished : (bytes : List ℕ) (answer : Taken) → a.later ≡ bytes ∷ [] → CollectorTakes a.mid bytes answer a.state → b.later ≡ [] → (later : List (List ℕ)) → others ≡ packets ++ later → Agree items item given next
    then_finished bytes answer is takes none later are = earlier bytes answer is takes later (sym (all_before others given next end b none) ∙ are)

  swapped : (xs ys : List CollectorItem) (x y : CollectorItem) → Agree xs x ys y → Agree ys y xs x
  swapped xs ys x y (inl (same, next)) = inl (sym same, sym next)
  swapped xs ys x y (inr (inl starts)) = inr (inr starts)
  swapped xs ys x y (inr (inr starts)) = inr (inl starts)

  module _ (packets others : List (List ℕ)) (items given : List CollectorItem) (item next : CollectorItem) (last end : CollectorState)
      (a : ComesAt range packets items item last) (b : ComesAt range others given next end) where
    pub finished_then : a.later ≡ [] → (bytes : List ℕ) (answer : Taken) → b.later ≡ bytes ∷ [] → CollectorTakes b.mid bytes answer b.state → (later : List (List ℕ)) → packets ≡ others ++ later → Agree items item given next
    finished_then none bytes answer is takes later are =
        swapped given items next item (then_finished others packets given items next item end last b a bytes answer is takes none later are)

    -- where both come behind a packet
    pub both_taken : (bytes other : List ℕ) (answer reply : Taken) → a.later ≡ bytes ∷ [] → b.later ≡ other ∷ [] → CollectorTakes a.mid bytes answer a.state → CollectorTakes b.mid other reply b.state
        → (us vs : List (List ℕ)) → packets ++ us ≡ others ++ vs → Agree items item given next
    both_taken bytes other answer reply is is' takes takes' us vs same =
        let here : packets ++ us ≡ a.before ++ bytes ∷ us = place_of packets items item last a bytes us is in
        let there : others ++ vs ≡ b.before ++ other ∷ vs = place_of others given next end b other vs is' in
        let size : length packets ≡ length a.before + 1 = ap length (a.are ∙ ap (λ l. a.before ++ l) is) ∙ length-append a.before (bytes ∷ []) in
        let size' : length others ≡ length b.before + 1 = ap length (b.are ∙ ap (λ l. b.before ++ l) is') ∙ length-append b.before (other ∷ []) in
        elim (cases_lt (length a.before) (length b.before)) [
          | inl less ↦
              let (later, are) = front_of packets b.before us (other ∷ vs) (same ∙ there) (omega (arith, less, size)) in
              earlier packets others items given item next last end a b bytes answer is takes later are
          | inr most ↦ elim (cases_lt (length b.before) (length a.before)) [
            | inl less ↦
                let (later, are) = front_of others a.before vs (bytes ∷ us) (sym same ∙ here) (omega (arith, less, size')) in
                swapped given items next item (earlier others packets given items next item end last b a other reply is' takes' later are)
            | inr least ↦
                let (before, next_same) = same_next a.before b.before us vs bytes other (omega (arith, most, least)) (sym here ∙ (same ∙ there)) in
                together packets others items given item next last end a b bytes other answer reply takes takes' before next_same
          ]
        ]
