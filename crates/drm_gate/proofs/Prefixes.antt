-- What was passed on before the last link failed is a front of all that would have been.
use Rattle.std.proofs.Common.{◌≡◌, ℕ, List, [], ◌∷◌, ◌++◌, Option, Some, sym, subst, ap, ap₂, ◌∙◌, refl, inl, inr, append_assoc, IfSome}
use Rattle.std.proofs.lemmas.List.{append-nil}
use Rattle.std.proofs.lemmas.List.Elements.{filter_map-append}
use Rattle.recv_reading.proofs.Common.{Answer, Datagram, datagram_of, Taken, CollectorState, made, after_finish, CollectorItem, CollectorTakes, CollectorGives, CollectorSteps}
use Rattle.recv_reading.proofs.Common.{up_to, datagrams, ReadingGoesOn, ReadingEndsBy, MayBeFirst, first_of}
use Rattle.recv_reading.specs.declared.reason.EndWord.{EndWord}
use Rattle.recv_reading.specs.declared.options.ReceiveOptions.{ReceiveOptions}
use Rattle.dcp_pft.specs.declared.carry.Carry.{Carry}
use Rattle.dcp_collect.proofs.Decoded.{one_decoding}
use Rattle.recv_reading.specs.Ending.{ComesTo}
use Rattle.drm_links.specs.Hearing.{AreNext}
use Rattle.recv_reading.specs.OneReading.{ReadingEnds, IsOneReading}
use Rattle.recv_reading.specs.Packets.{range_of, ComesAt}
use Rattle.law_collect.proofs.Runs.{steps_part}
use Rattle.law_collect.proofs.Unique.{one_giving}
use Rattle.recv_reading.proofs.OneReading.{one_reading}
use Rattle.recv_reading.proofs.First.{may_taken, first_itself, given_first}
use Rattle.recv_reading.proofs.Reaching.{one_way}
use Rattle.recv_reading.proofs.PacketLemmas.{stands_at}
use Rattle.recv_reading.proofs.Ways.{Starts, starts_more, starts_up_to, taken_starts, taken_first, finished_starts, gives_first}
use Rattle.drm_gate.specs.Passing.{Outcome, OutcomesOf, sent_of}
use Rattle.drm_gate.specs.Relaying.{IsOnward, SomeBecome}
use Rattle.drm_gate.proofs.PassedLemmas.{sent_join}
use Rattle.drm_gate.proofs.Fates.{all_sent, split}

-- ---- where the item stands

of_answers : (xs ys : List Answer) → datagrams (xs ++ ys) ≡ datagrams xs ++ datagrams ys
of_answers xs ys = filter_map-append datagram_of xs ys

-- ---- a front of the whole

-- these are the first of those
abbrev pub StartsWith : List (List ℕ) → List (List ℕ) → Type 0
StartsWith whole front = (rest : List (List ℕ)) × (whole ≡ front ++ rest)

-- all that becomes of items that start with those that were passed on, and the one behind them
front_of : (carry : Carry) (first : ℕ) (items given : List CollectorItem) (item : CollectorItem) (fs fates : List Outcome) → Starts items item given
    → OutcomesOf carry first (items ++ item ∷ []) fs → OutcomesOf carry first given fates → StartsWith (sent_of fates) (sent_of fs)
front_of carry first items given item fs fates (rest, are) become all =
    let are' : given ≡ (items ++ item ∷ []) ++ rest = are ∙ sym (append_assoc items (item ∷ []) rest) in
    let (gs, hs, fates_are, front, back) = split carry first (items ++ item ∷ []) rest fates (subst (λ (l : List CollectorItem). OutcomesOf carry first l fates) are' all) in
    let whole : sent_of fates ≡ sent_of gs ++ sent_of hs = ap sent_of fates_are ∙ sent_join gs hs in
    let same : sent_of gs ≡ sent_of fs = all_sent carry first (items ++ item ∷ []) gs fs front become in
    (sent_of hs, whole ∙ ap (λ l. l ++ sent_of hs) same)

-- ---- the answers ahead

are_next : (xs ys : List Answer) → AreNext (xs ++ ys) xs ys
are_next [] ys = refl
are_next (x ∷ xs) ys = (refl, are_next xs ys)

all_next : (xs : List Answer) → AreNext xs xs []
all_next xs = subst (λ (l : List Answer). AreNext l xs []) (append-nil xs) (are_next xs [])

-- a reading that is finished isn't gone on with
no_more : IsOneReading → (rules : ReceiveOptions) (answers more : List Answer) (word : EndWord) (ending : Option EndWord) → ReadingGoesOn rules answers → ReadingEndsBy rules answers word → ReadingEnds rules (answers ++ more) ending → answers ++ more ≡ answers
no_more one rules answers more word ending goes_on ends other =
    (one rules (answers ++ more) answers (answers ++ more) (Some word) ending
    (record { rest = more; next = are_next answers more; ends = record { goes_on = goes_on; ends = ends } })
    (record { rest = []; next = all_next (answers ++ more); ends = other })).0

-- ---- the first sequence number

may_steps : (c d : CollectorState) (ds : List (List ℕ)) (taken : List Taken) (items : List CollectorItem) (first : ℕ) → CollectorSteps c ds taken items d → MayBeFirst d first → MayBeFirst c first
may_steps c d [] [] items first steps may = subst (λ (s : CollectorState). MayBeFirst s first) steps.1 may
may_steps c d [] (a ∷ taken) items first steps may = absurd steps
may_steps c d (b ∷ ds) [] items first steps may = absurd steps
may_steps c d (b ∷ ds) (a ∷ taken) items first (now, later, kept, mid, takes, gives, steps, are) may =
    let at_mid : MayBeFirst mid first = may_steps mid d ds taken later first steps may in
    may_taken c kept b a first takes (subst (λ (o : Option ℕ). IfSome o (λ n. n ≡ first)) (gives_first now kept mid gives) at_mid)

-- ---- the law

module _ (rules : ReceiveOptions) (carry : Carry) (answers : List Answer) (done : List Outcome) (s : SomeBecome rules carry answers done) where
  abbrev new : CollectorState
  new = made rules.window rules.reach rules.first

  abbrev before : List CollectorItem
  before = s.during ++ s.more

  comes_at : ComesAt (range_of rules) (datagrams answers) before s.item s.last
  comes_at =
      stands_at rules answers s.during s.more s.last s.item
      (record { before = s.before; later = s.later; are = s.are; taken = s.taken; mid = s.mid; gave = s.gave; state = s.state; comes = s.comes; gives = s.gives })
      s.is_ready s.is_next

  module _ (more : List Answer) (fates : List Outcome) (o : IsOnward rules carry (datagrams (answers ++ more)) fates) where
    abbrev first : ℕ
    first = first_of o.run.mid

    among : Starts before s.item (o.run.during ++ o.run.rest) → MayBeFirst s.last first → StartsWith (sent_of fates) (sent_of done)
    among begins may =
        let items : Starts before s.item o.items =
        subst (λ (l : List CollectorItem). Starts before s.item l) (sym o.run.are) (starts_up_to rules.frames before s.item (o.run.during ++ o.run.rest) s.within begins) in
        front_of carry first before o.items s.item done fates items (s.become first may) o.become

    -- behind a datagram that was taken
    taken_case : (bytes : List ℕ) (answer : Taken) → s.later ≡ Datagram bytes ∷ [] → CollectorTakes s.mid bytes answer s.state → StartsWith (sent_of fates) (sent_of done)
    unfolding comes_at
    taken_case bytes answer is takes =
        let all : datagrams (answers ++ more) ≡ datagrams answers ++ datagrams more = of_answers answers more in
        let begins : Starts before s.item o.run.during =
        taken_starts (range_of rules) (datagrams answers) before s.item s.last comes_at bytes answer (ap datagrams is) takes (datagrams (answers ++ more)) (datagrams more) o.taken o.run.during o.run.mid all o.run.steps in
        let (mid, replies, more_replies, now, then_given, front, back, are_answers, are_given) =
        steps_part new o.run.mid (datagrams answers) (datagrams more) o.taken o.run.during (subst (λ (l : List (List ℕ)). CollectorSteps new l o.taken o.run.during o.run.mid) all o.run.steps) in
        let known : mid.first ≡ s.last.first = taken_first (range_of rules) (datagrams answers) before s.item s.last comes_at bytes answer (ap datagrams is) takes replies now mid front in
        let may : MayBeFirst mid first = may_steps mid o.run.mid (datagrams more) more_replies then_given first back (first_itself o.run.mid) in
        among (starts_more before s.item o.run.during o.run.rest begins) (subst (λ (v : Option ℕ). IfSome v (λ n. n ≡ first)) known may)

    -- at the end of the reading
    finished_case : s.later ≡ [] → s.state ≡ after_finish s.mid rules.frames → answers ++ more ≡ answers → StartsWith (sent_of fates) (sent_of done)
    unfolding comes_at
    finished_case none is same =
        let steps : CollectorSteps new (datagrams answers) o.taken o.run.during o.run.mid = subst (λ (l : List Answer). CollectorSteps new (datagrams l) o.taken o.run.during o.run.mid) same o.run.steps in
        let begins : Starts before s.item (o.run.during ++ o.run.rest) =
        finished_starts (range_of rules) (datagrams answers) before s.item s.last comes_at (ap datagrams none) is o.taken o.run.during o.run.rest o.run.mid o.run.after steps o.run.gives in
        let all : datagrams answers ≡ datagrams s.before = ap datagrams (s.are ∙ (ap (λ l. s.before ++ l) none ∙ append-nil s.before)) in
        let mids : o.run.mid ≡ s.mid =
        (one_way new s.mid o.run.mid (datagrams s.before) s.taken o.taken s.during o.run.during s.gave (subst (λ (l : List (List ℕ)). CollectorSteps new l o.taken o.run.during o.run.mid) all steps)).2 in
        let known : s.last.first ≡ o.run.mid.first = given_first s.more s.state s.last s.gives ∙ (ap (λ (v : CollectorState). v.first) is ∙ sym (ap (λ (v : CollectorState). v.first) mids)) in
        among begins (subst (λ (v : Option ℕ). IfSome v (λ n. n ≡ first)) (sym known) (first_itself o.run.mid))

  -- however the reading goes on that these answers begin
  pub front_follows : ReadingGoesOn rules answers → (more : List Answer) (ending : Option EndWord) (fates : List Outcome) → ReadingEnds rules (answers ++ more) ending → IsOnward rules carry (datagrams (answers ++ more)) fates
      → StartsWith (sent_of fates) (sent_of done)
  front_follows goes_on more ending fates other o = by s.comes
    where
      by : ComesTo rules answers s.later s.mid s.state → StartsWith (sent_of fates) (sent_of done)
      by (inl (bytes, answer, is, takes)) = taken_case more fates o bytes answer is takes
      by (inr (word, none, ends, is)) = finished_case more fates o none is (no_more one_reading rules answers more word ending goes_on ends other)

-- ---- what becomes of datagrams is one

pub one_onward : (rules : ReceiveOptions) (carry : Carry) (ds : List (List ℕ)) (fs gs : List Outcome) → IsOnward rules carry ds fs → IsOnward rules carry ds gs → sent_of fs ≡ sent_of gs
one_onward rules carry ds fs gs a b =
    let steps = one_way (made rules.window rules.reach rules.first) a.run.mid b.run.mid ds a.taken b.taken a.run.during b.run.during a.run.steps b.run.steps in
    let gives : CollectorGives (after_finish a.run.mid rules.frames) b.run.rest b.run.after = subst (λ (s : CollectorState). CollectorGives (after_finish s rules.frames) b.run.rest b.run.after) steps.2 b.run.gives in
    let rest = one_giving one_decoding (after_finish a.run.mid rules.frames) a.run.after b.run.after a.run.rest b.run.rest a.run.gives gives in
    let items : b.items ≡ a.items = b.run.are ∙ (ap₂ (λ x y. up_to rules.frames (x ++ y)) steps.1 rest.0 ∙ sym a.run.are) in
    let become : OutcomesOf carry (first_of a.run.mid) b.items gs = subst (λ (s : CollectorState). OutcomesOf carry (first_of s) b.items gs) steps.2 b.become in
    all_sent carry (first_of a.run.mid) a.items fs gs a.become (subst (λ (l : List CollectorItem). OutcomesOf carry (first_of a.run.mid) l gs) items become)
