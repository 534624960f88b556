-- What is given of a delivery of a schedule becomes its capture under the other carry.
use Rattle.std.proofs.Common.{ℕ, ◌≡◌, ◌+◌, ◌-◌, ◌≤◌, inr, List, [], ◌∷◌, length-append, ◌%◌, ◌^◌, inl, true, ◌++◌, length, take, Option, None, Some, refl, sym, ap, subst, ◌∙◌, arith, append_assoc}
use Rattle.std.specs.Prelude.{unwrap_or}
use Rattle.std.proofs.lemmas.Bool.{true≢false, leb-true}
use Rattle.std.proofs.lemmas.List.{append-nil, take-append-le}
use Rattle.dcp_pft.specs.declared.carry.Carry.{Carry}
use Rattle.dcp_collect.specs.declared.taken.Taken.{Taken}
use Rattle.dcp_collect.specs.CollectorState.{CollectorState, made, after_finish}
use Rattle.dcp_collect.specs.Runs.{CollectorItem, CollectorGives, CollectorSteps, CollectorRun, up_to}
use Rattle.law_collect.specs.Laws.{GivingEnds, OneReading, Refusing, OneRun, StepsPart}
use Rattle.drm_schedule.specs.declared.plan.Plan.{Plan}
use Rattle.drm_timeline.specs.Numbers.{frame_count}
use Rattle.drm_server.specs.Datagrams.{AreOfFrames}
use Rattle.law_delivery.specs.Laws.{AllAtOnce}
use Rattle.law_delivery.specs.Sent.{Arrival}
use Rattle.recv_reading.specs.State.{is_full}
use Rattle.recv_reading.specs.First.{first_of}
use Rattle.cmd_convert.specs.Converting.{ItemOutput, ConvertsAll, text_of, lines_of}
use Rattle.law_delivery.specs.OtherCarry.{under}
use Rattle.drm_server.specs.Stretch.{whole_schedule, frames_in}
use Rattle.drm_server.proofs.StretchLemmas.{all_frames}
use Rattle.law_convert.specs.Laws.{IsFirstOf, AllInTime, MayBeFrameLimit, IsItsCapture, Converting, ConvertingEarly, KnowsFirst, ConversionsAreCaptures, IsOfFirstFrames, BrokenConversions}
use Rattle.law_convert.proofs.Firsts.{knows_first, first_of_all}
use Rattle.law_convert.proofs.Packets.{AreFrom, all_written}
use Rattle.law_convert.proofs.Delivery.{AreAll, IsCollected}

captured : (plan : Plan) (carry : Carry) (n : ℕ) (items : List CollectorItem) (parts : List ItemOutput) → AreAll plan items → IsFirstOf plan n → ConvertsAll carry n items parts
    → IsItsCapture plan carry parts
captured plan carry n items parts all first converts =
    let w = all_written plan carry n first 0 [] items parts all.are refl converts in
    let many : 0 + length items ≡ frames_in whole_schedule (under carry plan) = (let every = all_frames (under carry plan) in let each = all.many in omega (arith, each, every)) in
    ((w.datagrams, subst (λ k. AreOfFrames (under carry plan) 0 k w.datagrams) many w.are, w.text), w.lines)

-- a run over the delivery gives all packets
run_gives : OneRun → (plan : Plan) (window reach : ℕ) (first frame_limit : Option ℕ) (datagrams : List (List ℕ)) (answers : List Taken) (items : List CollectorItem)
    → IsCollected plan window reach first datagrams → MayBeFrameLimit plan frame_limit → CollectorRun window reach first frame_limit datagrams answers items → AreAll plan items
run_gives one_run plan window reach first frame_limit datagrams answers items c may run =
    let (same, given, mid) = one_run (made window reach first) run.mid c.mid datagrams answers c.answers run.during c.given run.steps c.steps in
    let gives : CollectorGives (after_finish c.mid frame_limit) run.rest run.after = subst (λ s. CollectorGives (after_finish s frame_limit) run.rest run.after) (sym mid) run.gives in
    let as_given : up_to frame_limit (c.given ++ run.rest) ≡ items = ap (λ l. up_to frame_limit (l ++ run.rest)) given ∙ sym run.are in
    subst (AreAll plan) as_given (c.all frame_limit run.rest run.after may gives)

take_front : (n : ℕ) (now later rest : List CollectorItem) → n ≤ length now → take n ((now ++ later) ++ rest) ≡ take n now
take_front n now later rest enough = ap (take n) (append_assoc now later rest) ∙ take-append-le n now (later ++ rest) enough

-- and so does one over a front of it that gave as many
front_gives : GivingEnds → OneRun → StepsPart → (plan : Plan) (window reach : ℕ) (first : Option ℕ) (datagrams later : List (List ℕ)) (answers : List Taken) (items : List CollectorItem)
    → IsCollected plan window reach first (datagrams ++ later) → (run : CollectorRun window reach first (Some (frame_count plan)) datagrams answers items) → frame_count plan ≤ length run.during
    → AreAll plan items
front_gives giving_ends one_run steps_part plan window reach first datagrams later answers items c run enough =
    let n : ℕ = frame_count plan in
    let (mid, replies, more, now, then_given, steps, steps_on, are_answers, are_given) = steps_part (made window reach first) c.mid datagrams later c.answers c.given c.steps in
    let same : now ≡ run.during = (one_run (made window reach first) run.mid mid datagrams answers replies run.during now run.steps steps).1 in
    let (rest, after, gives) = giving_ends (after_finish c.mid (Some n)) c.fit.0 c.fit.1 in
    let all : AreAll plan (take n (c.given ++ rest)) = c.all (Some n) rest after (inr refl) gives in
    let of_whole : take n (c.given ++ rest) ≡ take n run.during =
    ap (λ l. take n (l ++ rest)) (are_given ∙ ap (λ l. l ++ then_given) same) ∙ take_front n run.during then_given rest enough in
    let of_front : items ≡ take n run.during = run.are ∙ take-append-le n run.during run.rest enough in
    subst (AreAll plan) (of_whole ∙ sym of_front) all

-- the delivery is collected
abbrev pub Collects : Type 0
Collects = (plan : Plan) (window reach : ℕ) (first : Option ℕ) (arrivals : List Arrival) (datagrams : List (List ℕ)) → AllInTime plan window reach first arrivals datagrams
    → IsCollected plan window reach first datagrams

pub converting : Collects → OneRun → Converting
converting collects one_run plan carry window reach n first frame_limit arrivals datagrams answers items parts whole may run is converts =
    let c = collects plan window reach first arrivals datagrams whole in
    captured plan carry n items parts (run_gives one_run plan window reach first frame_limit datagrams answers items c may run) is converts

pub converting_early : Collects → GivingEnds → OneRun → StepsPart → ConvertingEarly
converting_early collects giving_ends one_run steps_part plan carry window reach n first arrivals datagrams later answers items parts whole run enough is converts =
    let c = collects plan window reach first arrivals (datagrams ++ later) whole in
    captured plan carry n items parts (front_gives giving_ends one_run steps_part plan window reach first datagrams later answers items c run enough) is converts

-- ---- by the terms of a conversion

-- with the told number known
run_as : (window reach : ℕ) (first frame_limit : Option ℕ) (n : ℕ) (packets : List (List ℕ)) (taken : List Taken) (items : List CollectorItem) → frame_limit ≡ Some n
    → (run : CollectorRun window reach first frame_limit packets taken items) → (as_limited : CollectorRun window reach first (Some n) packets taken items) × (as_limited.during ≡ run.during)
run_as window reach first frame_limit n packets taken items known run = (
  record {
    during = run.during;
    rest = run.rest;
    mid = run.mid;
    after = run.after;
    steps = run.steps;
    gives = subst (λ o. CollectorGives (after_finish run.mid o) run.rest run.after) known run.gives;
    are = run.are ∙ ap (λ o. up_to o (run.during ++ run.rest)) known;
  },
  refl,
)

-- enough are as many as the schedule has frames
enough_of : (plan : Plan) (frame_limit : Option ℕ) (n : ℕ) → MayBeFrameLimit plan frame_limit → is_full frame_limit n ≡ true → (frame_limit ≡ Some (frame_count plan)) × (frame_count plan ≤ n)
enough_of plan None n may full = absurd (true≢false (sym full))
enough_of plan (Some m) n (inl unknown) full = absurd (let clash : Some m ≡ None = unknown in cc)
enough_of plan (Some m) n (inr known) full =
    let same : m ≡ frame_count plan = (let e : Some m ≡ Some (frame_count plan) = known in cc) in
    let low : m ≤ n = leb-true m n full in
    (known, omega (arith, same, low))

-- the number that parts are counted from
pub counted_from : (plan : Plan) (c : CollectorState) → KnowsFirst plan c → IsFirstOf plan (first_of c)
counted_from plan c (n, known, is) = ap (λ o. unwrap_or o 0 % 2 ^ 16) known ∙ is

pub conversions : Collects → GivingEnds → OneReading → Refusing → OneRun → StepsPart → AllAtOnce → ConversionsAreCaptures
conversions collects giving_ends one_reading refusing one_run steps_part at_once plan carry range arrivals packets later parts whole may (inl none) is =
    let same : packets ++ later ≡ packets = ap (λ l. packets ++ l) none ∙ append-nil packets in
    let all : AllInTime plan range.window range.reach range.first arrivals packets = subst (λ l. AllInTime plan range.window range.reach range.first arrivals l) same whole in
    let first = first_of_all one_reading refusing one_run at_once plan range.window range.reach range.first range.frame_limit arrivals packets is.taken is.items all is.run in
    converting collects one_run plan carry range.window range.reach (first_of is.run.mid) range.first range.frame_limit arrivals packets is.taken is.items parts all may is.run
    (counted_from plan is.run.mid first) is.converts
conversions collects giving_ends one_reading refusing one_run steps_part at_once plan carry range arrivals packets later parts whole may (inr (taken, items, end, steps, full)) is =
    let (known, enough) = enough_of plan range.frame_limit (length items) may full in
    let (run, during) = run_as range.window range.reach range.first range.frame_limit (frame_count plan) packets is.taken is.items known is.run in
    let same : items ≡ is.run.during = (one_run (made range.window range.reach range.first) is.run.mid end packets is.taken taken is.run.during items is.run.steps steps).1 in
    let least = whole.schedule.in_lines.some_frames in
    let all : frame_count plan ≤ length run.during = omega (arith, enough, ap length same, ap length during) in
    let some : 1 ≤ length is.run.during = omega (arith, least, enough, ap length same) in
    let first = knows_first one_reading refusing plan whole.schedule range.window range.reach range.first arrivals packets later is.taken is.run.during is.run.mid whole.followed is.run.steps some in
    converting_early collects giving_ends one_run steps_part plan carry range.window range.reach (first_of is.run.mid) range.first arrivals packets later is.taken is.items parts whole run all
    (counted_from plan is.run.mid first) is.converts

-- ---- of a front

-- the first ones of them are packets of the first frames
pub first_of_all_packets : (plan : Plan) (t : ℕ) (given more : List CollectorItem) → AreFrom plan t (given ++ more) → AreFrom plan t given
first_of_all_packets plan t [] more are = tt
first_of_all_packets plan t (item ∷ given) more are = (are.0, first_of_all_packets plan (t + 1) given more are.1)

-- what was given of a front are packets of some first frames
front_packets : GivingEnds → OneRun → StepsPart → (plan : Plan) (window reach : ℕ) (first : Option ℕ) (packets later : List (List ℕ)) (answers : List Taken) (given : List CollectorItem) (mid : CollectorState)
    → IsCollected plan window reach first (packets ++ later) → CollectorSteps (made window reach first) packets answers given mid → AreFrom plan 0 given × (length given ≤ frame_count plan)
front_packets giving_ends one_run steps_part plan window reach first packets later answers given mid c steps =
    let (between, replies, more, now, then_given, first_steps, steps_on, are_answers, are_given) = steps_part (made window reach first) c.mid packets later c.answers c.given c.steps in
    let same : now ≡ given = (one_run (made window reach first) mid between packets answers replies given now steps first_steps).1 in
    let (rest, after, gives) = giving_ends (after_finish c.mid None) c.fit.0 c.fit.1 in
    let all : AreAll plan (c.given ++ rest) = c.all None rest after (inl refl) gives in
    let parted : c.given ++ rest ≡ given ++ (then_given ++ rest) = ap (λ l. l ++ rest) (are_given ∙ ap (λ l. l ++ then_given) same) ∙ append_assoc given then_given rest in
    let few : length (given ++ (then_given ++ rest)) ≡ frame_count plan = ap length (sym parted) ∙ all.many in (
      first_of_all_packets plan 0 given (then_given ++ rest) (subst (AreFrom plan 0) parted all.are),
      omega (arith, few, length-append given (then_given ++ rest)),
    )

-- nothing is written of nothing
none_written : (plan : Plan) (carry : Carry) (n : ℕ) (parts : List ItemOutput) → ConvertsAll carry n [] parts → IsOfFirstFrames (under carry plan) (text_of parts) × (lines_of parts ≡ [])
none_written plan carry n [] converts = ((0, [], omega arith, refl, refl), refl)
none_written plan carry n (part ∷ parts) converts = absurd converts

some_written : (plan : Plan) (carry : Carry) (n : ℕ) (items : List CollectorItem) (parts : List ItemOutput) → AreFrom plan 0 items → length items ≤ frame_count plan → IsFirstOf plan n → ConvertsAll carry n items parts
    → IsOfFirstFrames (under carry plan) (text_of parts) × (lines_of parts ≡ [])
some_written plan carry n items parts are few first converts =
    let w = all_written plan carry n first 0 [] items parts are refl converts in
    let count : 0 + length items ≡ length items = omega arith in
    ((length items, w.datagrams, few, subst (λ k. AreOfFrames (under carry plan) 0 k w.datagrams) count w.are, w.text), w.lines)

pub broken_conversions : Collects → GivingEnds → OneReading → Refusing → OneRun → StepsPart → BrokenConversions
broken_conversions collects giving_ends one_reading refusing one_run steps_part plan carry range arrivals packets later parts whole is =
    by is.items refl
  where
    c : IsCollected plan range.window range.reach range.first (packets ++ later)
    c = collects plan range.window range.reach range.first arrivals (packets ++ later) whole

    by : (items : List CollectorItem) → is.items ≡ items → IsOfFirstFrames (under carry plan) (text_of parts) × (lines_of parts ≡ [])
    by [] none = none_written plan carry (first_of is.mid) parts (subst (λ l. ConvertsAll carry (first_of is.mid) l parts) none is.converts)
    by (item ∷ items) some =
        let (are, few) = front_packets giving_ends one_run steps_part plan range.window range.reach range.first packets later is.taken is.items is.mid c is.steps in
        let long : length is.items ≡ length items + 1 = ap length some ∙ omega arith in
        let known = knows_first one_reading refusing plan whole.schedule range.window range.reach range.first arrivals packets later is.taken is.items is.mid whole.followed is.steps (omega (arith, long)) in
        some_written plan carry (first_of is.mid) is.items parts are few (counted_from plan is.mid known) is.converts
