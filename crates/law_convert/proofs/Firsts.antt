-- The sequence number that a collector counts from is that of the schedule's first packet.
use Rattle.std.proofs.Common.{ℕ, ◌≡◌, ◌≤◌, false, true, List, [], ◌∷◌, ◌++◌, length, take, Option, None, Some, refl, sym, ap, subst, ◌∙◌, arith}
use Rattle.std.specs.Prelude.{pos, negsuc}
use Rattle.std.specs.List.{AllZip}
use Rattle.std.proofs.lemmas.Bool.{true≢false}
use Rattle.std.proofs.lemmas.Int.{ints}
use Rattle.std.proofs.lemmas.List.{append-nil}
use Rattle.dcp_pft.specs.declared.carry.Carry.{Carry}
use Rattle.dcp_collect.specs.declared.taken.Field.{Field}
use Rattle.dcp_collect.specs.declared.taken.Field.TheVariants.{Sync, Af, Pft, Large, Far}
use Rattle.dcp_collect.specs.declared.taken.Taken.{Taken}
use Rattle.dcp_collect.specs.declared.taken.Taken.TheVariants.{Kept}
use Rattle.dcp_collect.specs.Reading.{Incoming, DatagramContent, Unread, Brings}
use Rattle.dcp_collect.specs.CollectorState.{CollectorState, made, ready, number_of, answer, answer_at, after_answer, after_take}
use Rattle.dcp_collect.specs.Runs.{CollectorItem, CollectorTakes, CollectorGives, CollectorSteps}
use Rattle.law_collect.specs.Delivery.{sequence_at, IsFirstPacket}
use Rattle.law_collect.specs.Laws.{OneReading, HasCause, Refusing, OneRun}
use Rattle.law_collect.proofs.FirstPackets.{kept_first}
use Rattle.law_collect.proofs.Numbers.{nearest_is}
use Rattle.law_collect.proofs.Sent.{BringsPair}
use Rattle.law_collect.proofs.Stays.{first_stays}
use Rattle.drm_schedule.specs.declared.plan.Plan.{Plan}
use Rattle.drm_schedule.specs.Valid.{IsSchedule}
use Rattle.law_delivery.specs.Laws.{AllAtOnce}
use Rattle.law_delivery.specs.Sent.{Arrival, OfSchedule, Foreign, IsForeign, IsArrival, IsFarIfSo, AreFar, pairs_in, IsDeliveryOf}
use Rattle.law_delivery.proofs.Following.{brings_of}
use Rattle.recv_reading.proofs.Ways.{gives_first}
use Rattle.law_convert.specs.Laws.{IsFirstOf, KnowsFirst, FirstIsKnown, FirstOfAll}
use Rattle.law_convert.proofs.Prefixes.{front_followed}

-- ---- it stays

first_taken : (c : CollectorState) (read : DatagramContent) (f : ℕ) → c.first ≡ Some f → (after_take c read).first ≡ Some f
first_taken c (Unread field) f is = is
first_taken c (Brings incoming) f is = first_stays c (number_of c incoming) incoming (answer c (Brings incoming)) f is

pub first_steps : (c d : CollectorState) (datagrams : List (List ℕ)) (answers : List Taken) (given : List CollectorItem) (f : ℕ) → CollectorSteps c datagrams answers given d → c.first ≡ Some f → d.first ≡ Some f
first_steps c d [] [] given f steps is = ap (λ s. s.first) steps.1 ∙ is
first_steps c d [] (a ∷ answers) given f steps is = absurd steps
first_steps c d (datagram ∷ datagrams) [] given f steps is = absurd steps
first_steps c d (datagram ∷ datagrams) (a ∷ answers) given f (now, later, kept, mid, takes, gives, steps, are) is =
    first_steps mid d datagrams answers later f steps
    (gives_first now kept mid gives ∙ (ap (λ s. s.first) takes.after_is ∙ first_taken c takes.read f is))

-- ---- the first datagram tells it

module _ (one_reading : OneReading) where
  pub first_from_pair : (carry : Carry) (sequence0 window reach : ℕ) (packets : List (List ℕ)) (pair : ℕ × ℕ) (datagram : List ℕ) (a : Taken) (kept : CollectorState)
      → BringsPair carry sequence0 packets pair datagram → CollectorTakes (made window reach None) datagram a kept → kept.first ≡ Some (sequence_at sequence0 pair.0)
  first_from_pair carry sequence0 window reach packets pair datagram a kept brings takes =
      let v : Incoming = brings.incoming in
      let c : CollectorState = made window reach None in
      let same : takes.read ≡ Brings v = one_reading datagram (Brings v) takes.read brings.is_read takes.is_read in
      let here : number_of c v ≡ pos 0 = nearest_is v.sequence 0 v.sequence (pos 0) (pos 0) (omega (arith, ints)) (omega (arith, ints)) (omega (arith, ints)) in
      let is_kept : answer c (Brings v) ≡ Kept = ap (λ z. answer_at c z v.head) here ∙ kept_first c v.head refl refl refl in
      let first : (after_take c (Brings v)).first ≡ Some v.sequence =
      ap (λ x. (after_answer c (number_of c v) v x).first) is_kept ∙ ap (λ z. (after_answer c z v Kept).first) here in
      ap (λ s. s.first) (takes.after_is ∙ ap (after_take c) same) ∙ (first ∙ ap (λ n. Some n) brings.sequence)

-- a collector from which nothing is ready gives nothing
nothing_given : (c kept mid : CollectorState) (now : List CollectorItem) → ready c ≡ false → kept ≡ c → CollectorGives kept now mid → (now ≡ []) × (mid ≡ c)
nothing_given c kept mid [] idle same gives = (refl, gives.1 ∙ same)
nothing_given c kept mid (item ∷ now) idle same gives = absurd (true≢false (sym gives.0 ∙ (ap ready same ∙ idle)))

-- before anything was kept no foreign datagram is far
fresh_cause : (reach sequence0 : ℕ) (c : CollectorState) (cause : Field) (datagram : List ℕ) → IsForeign cause datagram → IsFarIfSo cause reach sequence0 (pos 0) None datagram → HasCause c cause datagram
fresh_cause reach sequence0 c Sync datagram foreign far = foreign
fresh_cause reach sequence0 c (Af fault) datagram foreign far = foreign
fresh_cause reach sequence0 c (Pft fault) datagram foreign far = foreign
fresh_cause reach sequence0 c Large datagram foreign far = foreign
fresh_cause reach sequence0 c Far datagram foreign far = absurd (let above = far.above in let clash : false ≡ true = above in cc)

module _ (one_reading : OneReading) (refusing : Refusing) (plan : Plan) (is : IsSchedule plan) (window reach : ℕ) where
  first_without : (arrivals : List Arrival) (datagrams : List (List ℕ)) (answers : List Taken) (given : List CollectorItem) (mid : CollectorState) → AllZip (IsArrival plan) arrivals datagrams
      → AreFar reach plan.seq (pos 0) None arrivals datagrams → IsFirstPacket plan.seq None (pairs_in arrivals) (pos 0) → CollectorSteps (made window reach None) datagrams answers given mid → 1 ≤ length given → mid.first ≡ Some (sequence_at plan.seq 0)
  first_without [] [] [] given mid all far is_first steps some = absurd (let none : length given ≡ 0 = ap length steps.0 in omega (arith, some, none))
  first_without [] [] (a ∷ answers) given mid all far is_first steps some = absurd steps
  first_without [] (datagram ∷ datagrams) answers given mid all far is_first steps some = absurd all
  first_without (arrival ∷ arrivals) [] answers given mid all far is_first steps some = absurd all
  first_without (arrival ∷ arrivals) (datagram ∷ datagrams) [] given mid all far is_first steps some = absurd steps
  first_without (OfSchedule pair ∷ arrivals) (datagram ∷ datagrams) (a ∷ answers) given mid all far is_first (now, later, kept, after, takes, gives, steps, are) some =
      let (packets, brings) = brings_of plan pair datagram is all.0 in
      let place : pair.0 ≡ 0 = omega (arith, ints, is_first) in
      let has_first : kept.first ≡ Some (sequence_at plan.seq pair.0) = first_from_pair one_reading plan.carry plan.seq window reach packets pair datagram a kept brings takes in
      first_steps after mid datagrams answers later (sequence_at plan.seq 0) steps (gives_first now kept after gives ∙ (has_first ∙ ap (λ p. Some (sequence_at plan.seq p)) place))
  first_without (Foreign cause ∷ arrivals) (datagram ∷ datagrams) (a ∷ answers) given mid all far is_first (now, later, kept, after, takes, gives, steps, are) some =
      let c : CollectorState = made window reach None in
      let refused = refusing c kept datagram a cause takes in
      let none = nothing_given c kept after now refl (refused.1 (refused.0.0 (fresh_cause reach plan.seq c cause datagram all.0 far.0))) gives in
      let same : given ≡ later = are ∙ ap (λ l. l ++ later) none.0 in
      first_without arrivals datagrams answers later mid all.1 far.1 is_first (subst (λ s. CollectorSteps s datagrams answers later mid) none.1 steps) (omega (arith, some, ap length same))

  -- one that was told has it, too
  first_given : (f : ℕ) (pairs : List (ℕ × ℕ)) → IsFirstPacket plan.seq (Some f) pairs (pos 0) → IsFirstOf plan f
  first_given f pairs (pos turns, same) = omega (arith, ints, same)
  first_given f pairs (negsuc turns, same) = omega (arith, ints, same)

  -- after steps over a front of a delivery that gave anything
  pub knows_first : (first : Option ℕ) (arrivals : List Arrival) (datagrams later : List (List ℕ)) (answers : List Taken) (given : List CollectorItem) (mid : CollectorState)
      → IsDeliveryOf plan reach first (pos 0) arrivals (datagrams ++ later) → CollectorSteps (made window reach first) datagrams answers given mid → 1 ≤ length given → KnowsFirst plan mid
  knows_first None arrivals datagrams later answers given mid followed steps some =
      let front = front_followed plan reach None arrivals datagrams later followed in
      (sequence_at plan.seq 0, first_without (take (length datagrams) arrivals) datagrams answers given mid front.arrive front.far front.is_first steps some, omega arith)
  knows_first (Some f) arrivals datagrams later answers given mid followed steps some =
      (f, first_steps (made window reach (Some f)) mid datagrams answers given f steps refl, first_given f (pairs_in arrivals) followed.is_first)

-- ---- the laws

pub first_known : OneReading → Refusing → FirstIsKnown
first_known one_reading refusing plan window reach first arrivals datagrams later answers given mid is followed steps some =
    knows_first one_reading refusing plan is window reach first arrivals datagrams later answers given mid followed steps some

pub first_of_all : OneReading → Refusing → OneRun → AllAtOnce → FirstOfAll
first_of_all one_reading refusing one_run at_once plan window reach first has_first arrivals datagrams answers items whole run =
    let least = whole.schedule.in_lines.some_frames in
    let (replies, given, mid, steps, enough) = at_once plan window reach first arrivals datagrams whole.schedule whole.followed whole.in_time in
    let same : given ≡ run.during = (one_run (made window reach first) run.mid mid datagrams answers replies run.during given run.steps steps).1 in
    let some : 1 ≤ length run.during = omega (arith, least, enough, ap length same) in
    let followed : IsDeliveryOf plan reach first (pos 0) arrivals (datagrams ++ []) = subst (λ l. IsDeliveryOf plan reach first (pos 0) arrivals l) (sym (append-nil datagrams)) whole.followed in
    knows_first one_reading refusing plan whole.schedule window reach first arrivals datagrams [] answers run.during run.mid followed run.steps some
