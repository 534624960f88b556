-- A gateway's reading, item by item, and how it ends.
use Rattle.std.proofs.Common.{◌≡◌, inl, inr, ℕ, ◌*◌, ◌≤◌, Bool, true, false, List, [], ◌∷◌, ◌++◌, length, Option, None, Some, refl, sym, ◌∙◌, ap, subst, arith, append_assoc, IfSome}
use Rattle.std.specs.List.{AllByRecursion}
use Rattle.std.proofs.lemmas.Bool.{true≢false}
use Rattle.std.proofs.lemmas.List.{append-nil, take_at, length-append}
use Rattle.std.proofs.lemmas.List.Elements.{filter_map-append}
use Rattle.dcp_pft.specs.declared.carry.Carry.{Carry}
use Rattle.dcp_pft.specs.Limits.{most_fragments}
use Rattle.drm_links.specs.History.{GroupEvent, Received}
use Rattle.drm_links.specs.Calls.{NoneUp, CallsMake}
use Rattle.dcp_sender.specs.OverLinks.{over_each}
use Rattle.drm_links.proofs.CallLemmas.{Make-same_count}
use Rattle.recv_reading.proofs.Common.{Answer, Datagram, Failed, datagram_of, Taken, CollectorState, ready, CollectorItem, IsItem, MayBeFirst, KeepsFirst, first_of, ReadingState, new_reading, has_enough, has_ended, word_of, ReadingReached, ReadingWaits, bounds_of, AreUsable, made, datagrams, HasGiven, CollectorSteps, ReadingEndsBy}
use Rattle.recv_reading.specs.declared.options.ReceiveOptions.{ReceiveOptions}
use Rattle.recv_reading.specs.declared.reason.EndWord.{EndWord}
use Rattle.recv_reading.specs.declared.reason.EndWord.TheVariants as word
use Rattle.recv_reading.specs.Ending.{idles, ReasonHolds, IsReadingOpen, HasNotFailed}
use Rattle.recv_reading.specs.ReadingReached.{ComesIn}
use Rattle.recv_reading.proofs.First.{first_itself}
use Rattle.recv_reading.proofs.Going.{idles_more, not_ended, none_ended}
use Rattle.recv_reading.proofs.Reaching.{reached_none, drained, full_is, one_more_few}
use Rattle.recv_reading.proofs.Finishing.{IsOver, finishes, stands}
use Rattle.drm_gate.specs.declared.tally.Tally.{Tally}
use Rattle.drm_gate.specs.declared.gate.GateEnded.{GateEnded}
use Rattle.drm_gate.specs.declared.gate.GateEnded.TheVariants.{FromFailed, ToFailed}
use Rattle.drm_gate.specs.Passing.{Outcome, datagrams_of}
use Rattle.drm_gate.specs.Tallies.{nothing, tally_of, items_in, over}
use Rattle.drm_gate.specs.Steps.{PassesOne}
use Rattle.drm_gate.specs.Hearing.{HearsOn}
use Rattle.drm_gate.specs.Relaying.{IsOnward, AreReadyOutcomes, SomeBecome, HasBecome, RelayIsOver}
use Rattle.drm_gate.specs.Run.{PassesAll, GateEndsAs, GateRun, CountsOver, SomeUp}
use Rattle.drm_gate.proofs.Tallying.{items_all, few_sent}
use Rattle.drm_gate.proofs.PassedLemmas.{PassedAll, all_none, all_more, all_later, sent_packets}
use Rattle.drm_gate.proofs.RelayLemmas.{StandsAt, Turn, stands_leads, hears, passes, ends}

-- ---- when more is heard

no_failed : (before : List Answer) → AllByRecursion HasNotFailed (before ++ Failed ∷ []) → ⊥
no_failed [] all = all.0
no_failed (x ∷ before) all = no_failed before all.1

-- the first reason that holds is one
ends_reason : (rules : ReceiveOptions) (answers : List Answer) (why : EndWord) → ReadingEndsBy rules answers why → ReasonHolds rules answers why
ends_reason rules answers word.Frames is = is
ends_reason rules answers word.Limit is = is.0
ends_reason rules answers word.Idle is = is.0
ends_reason rules answers word.Input is = is.0
ends_reason rules answers word.Paths is = is

not_over : (rules : ReceiveOptions) (answers : List Answer) (v : List Bool) → AllByRecursion HasNotFailed answers → IsReadingOpen rules answers → SomeUp v → RelayIsOver rules answers v → ⊥
not_over rules answers v sound open_ up (inl (why, holds)) = open_ why holds
not_over rules answers v sound open_ up (inr (inl (before, are))) = no_failed before (subst (λ (l : List Answer). AllByRecursion HasNotFailed l) are sound)
not_over rules answers v sound open_ (k, up) (inr (inr none)) = true≢false (sym up ∙ none k)

-- a failed answer brings no datagram, and is no reason to end
same_datagrams : (answers : List Answer) → datagrams (answers ++ Failed ∷ []) ≡ datagrams answers
same_datagrams answers = filter_map-append datagram_of answers (Failed ∷ []) ∙ append-nil (datagrams answers)

given_before : (rules : ReceiveOptions) (answers : List Answer) (o : Option ℕ) → HasGiven rules (answers ++ Failed ∷ []) o → HasGiven rules answers o
given_before rules answers None given = given
given_before rules answers (Some n) (taken, items, end, gave, many) =
    (taken, items, end, subst (λ (l : List (List ℕ)). CollectorSteps (made rules.window rules.reach rules.first) l taken items end) (same_datagrams answers) gave, many)

open_failed : (rules : ReceiveOptions) (answers : List Answer) → 1 ≤ rules.idle → IsReadingOpen rules answers → IsReadingOpen rules (answers ++ Failed ∷ [])
open_failed rules answers some open_ word.Frames h = open_ word.Frames (given_before rules answers rules.frames h)
open_failed rules answers some open_ word.Limit h = open_ word.Limit (sym (ap length (same_datagrams answers)) ∙ h)
open_failed rules answers some open_ word.Idle h =
    let least : rules.idle ≤ idles (answers ++ Failed ∷ []) = h in
    let none : idles (answers ++ Failed ∷ []) ≡ 0 = idles_more 0 answers Failed in
    omega (arith, least, none, some)
open_failed rules answers some open_ word.Input h = not_ended answers Failed (λ is. cc) h
open_failed rules answers some open_ word.Paths h = h

-- ---- before anything was heard

given_none : (rules : ReceiveOptions) (o : Option ℕ) → IfSome o (λ n. 1 ≤ n) → HasGiven rules [] o → ⊥
given_none rules None some given = given
given_none rules (Some n) some ([], items, end, gave, many) = omega (arith, some, many, ap length gave.0)
given_none rules (Some n) some (answer ∷ taken, items, end, gave, many) = gave

open_none : (rules : ReceiveOptions) → AreUsable rules → IsReadingOpen rules []
open_none rules usable word.Frames h = given_none rules rules.frames usable.frames h
open_none rules usable word.Limit h = let none : 0 ≡ rules.limit = h in omega (arith, none, usable.limit)
open_none rules usable word.Idle h = let none : rules.idle ≤ 0 = h in omega (arith, none, usable.idle)
open_none rules usable word.Input h = none_ended h
open_none rules usable word.Paths h = h

no_push : (before : List Answer) (x : Answer) → [] ≡ before ++ x ∷ [] → ⊥
no_push [] x is = cc
no_push (b ∷ before) x is = cc

-- nothing is ready
none_ready : (rules : ReceiveOptions) (answers : List Answer) (taken : List Taken) (during more : List CollectorItem) (r : ReadingState) (c : CollectorState) → ReadingReached rules answers taken during more r c → answers ≡ [] → ready c ≡ true → ⊥
none_ready rules answers taken during more r c z none now = by r.end z.comes
  where
    by : (end : Option EndWord) → ComesIn rules answers taken during more end c → ⊥
    by None (goes, inl (empty, d)) = true≢false (sym now ∙ d.none_ready)
    by None (goes, inr a) = no_push a.before (Datagram a.bytes) (sym none ∙ a.are)
    by (Some why) e = open_none rules z.usable why (subst (λ (l : List Answer). ReasonHolds rules l why) none (ends_reason rules answers why e.ends))

-- ---- how far a run has come

-- So much was heard, all that was given of it was passed on and counted, and just that happened.
pub record GateLoop (rules : ReceiveOptions) (carry : Carry) (u v : List Bool) (Happened : List GroupEvent → Type 0) (t : Tally) (r : ReadingState) (c : CollectorState) : Type 0 where
  pub answers : List Answer
  pub taken : List Taken
  pub during : List CollectorItem
  pub more : List CollectorItem
  pub reached : ReadingReached rules answers taken during more r c
  pub fates : List Outcome
  pub passed : PassedAll carry c (during ++ more) t fates
  pub few : t.sent ≤ most_fragments * t.given
  pub events : List GroupEvent
  pub stands : StandsAt rules carry (length u) u answers fates v events
  pub happened : Happened events
  pub same_count : length v ≡ length u
  pub up : SomeUp v

pub loop_none : (rules : ReceiveOptions) (carry : Carry) (u : List Bool) (P : List GroupEvent → Type 0) (t : Tally) (r : ReadingState) (c : CollectorState) → AreUsable rules → r ≡ new_reading (bounds_of rules)
    → c ≡ made rules.window rules.reach rules.first → t ≡ nothing → SomeUp u → P [] → GateLoop rules carry u u P t r c
loop_none rules carry u P t r c usable new is empty up none = record {
  answers = [];
  taken = [];
  during = [];
  more = [];
  reached = subst (λ s. ReadingReached rules [] [] [] [] s c) (sym new) (reached_none rules c usable is);
  fates = [];
  passed = all_none carry c t empty;
  few = subst (λ (w : Tally). w.sent ≤ most_fragments * w.given) (sym empty) (omega arith);
  events = [];
  stands = inl (refl, refl, refl, refl);
  happened = none;
  same_count = refl;
  up = up;
}

module _ (rules : ReceiveOptions) (carry : Carry) (u v : List Bool) (P : List GroupEvent → Type 0) (t : Tally) (r : ReadingState) (c : CollectorState) (i : GateLoop rules carry u v P t r c) where
  abbrev items : List CollectorItem
  items = i.during ++ i.more

  -- ---- what was counted

  pub counted : items_in t ≡ c.next
  counted =
      let n = i.reached.next_is in
      let g = i.reached.given_are in
      let m = i.passed.many in
      let all = items_all i.fates in
      ap items_in i.passed.tally ∙ omega (arith, n, g, m, all)

  pub sent_limit : t.sent ≤ most_fragments * rules.limit
  sent_limit =
      let given : t.given ≡ (tally_of i.fates).given = ap (λ (w : Tally). w.given) i.passed.tally in
      let packets = sent_packets carry (first_of c) items i.fates (i.passed.become (first_of c) (first_itself c)) in
      let few = i.reached.few_packets in
      let most = i.reached.most in
      omega (arith, given, packets, few, most, i.few)

  -- ---- what has become of what was heard

  -- where it waits, all that was ready was given
  ready_become : ReadingWaits r c → AreReadyOutcomes rules carry (datagrams i.answers) i.fates
  ready_become waits = record {
    taken = i.taken;
    items = items;
    mid = c;
    steps = (drained rules i.answers i.taken i.during i.more r c i.reached waits).gave;
    become = i.passed.become (first_of c) (first_itself c);
  }

  -- ---- an item

  module _ (Q R : List GroupEvent → Type 0) (join : (xs ys : List GroupEvent) → P xs → Q ys → R (xs ++ ys))
      (used : Carry) (w : Tally) (x : List Bool) (item : CollectorItem) (same : used ≡ carry) (now : ready c ≡ true) (is : IsItem c item) (one_used : PassesOne used (first_of c) item t w v x Q) where
    one : PassesOne carry (first_of c) item t w v x Q
    one = subst (λ (k : Carry). PassesOne k (first_of c) item t w v x Q) same one_used

    went : CallsMake (over_each (length u) (datagrams_of one.fate)) v x Q
    went = subst (λ (links : ℕ). CallsMake (over_each links (datagrams_of one.fate)) v x Q) i.same_count one.made

    more_passed : (d : CollectorState) → KeepsFirst c d → PassedAll carry d (items ++ item ∷ []) w (i.fates ++ one.fate ∷ [])
    more_passed d keeps = all_more carry c d items t w i.fates item one.fate keeps i.reached.knows is i.passed one.becomes one.tally

    more_stands : StandsAt rules carry (length u) u i.answers (i.fates ++ one.fate ∷ []) x (i.events ++ went.events)
    more_stands = by i.stands
      where
        by : StandsAt rules carry (length u) u i.answers i.fates v i.events → StandsAt rules carry (length u) u i.answers (i.fates ++ one.fate ∷ []) x (i.events ++ went.events)
        by (inl (none, done, up, events)) = absurd (none_ready rules i.answers i.taken i.during i.more r c i.reached none now)
        by (inr turn) = inr (passes rules carry (length u) u i.answers i.fates v x i.events went.events one.fate turn went.come)

    pub one_passed : (s : ReadingState) (d : CollectorState) → KeepsFirst c d → SomeUp x → ReadingReached rules i.answers i.taken i.during (i.more ++ item ∷ []) s d → GateLoop rules carry u x R w s d
    one_passed s d keeps up reached = record {
      answers = i.answers;
      taken = i.taken;
      during = i.during;
      more = i.more ++ item ∷ [];
      reached = reached;
      fates = i.fates ++ one.fate ∷ [];
      passed = subst (λ (l : List CollectorItem). PassedAll carry d l w (i.fates ++ one.fate ∷ [])) (append_assoc i.during i.more (item ∷ [])) (more_passed d keeps);
      few = few_sent t w one.fate one.tally one.few i.few;
      events = i.events ++ went.events;
      stands = more_stands;
      happened = join i.events went.events i.happened went.happens;
      same_count = Make-same_count (over_each (length u) (datagrams_of one.fate)) v x Q went ∙ i.same_count;
      up = up;
    }

    some_become : has_enough r ≡ false → SomeBecome rules carry i.answers (i.fates ++ one.fate ∷ [])
    some_become enough =
        let s = stands rules i.answers i.taken i.during i.more r c i.reached now in
        record {
          before = s.before;
          later = s.later;
          are = s.are;
          taken = s.taken;
          during = i.during;
          mid = s.mid;
          gave = s.gave;
          state = s.state;
          comes = s.comes;
          more = i.more;
          last = c;
          gives = s.gives;
          is_ready = now;
          item = item;
          is_next = is;
          within = full_is rules i.answers i.taken i.during i.more r c i.reached ∙ enough;
          become = (more_passed c (λ first may. may)).become;
        }

    -- no link is left
    pub none_left : has_enough r ≡ false → NoneUp x → GateRun rules carry u x R ToFailed
    none_left enough none =
        let some = some_become enough in
        record {
          answers = i.answers;
          few = i.reached.few;
          fates = i.fates ++ one.fate ∷ [];
          events = i.events ++ went.events;
          relays = ends rules carry (length u) u i.answers (i.fates ++ one.fate ∷ []) x (i.events ++ went.events)
              (stands_leads rules carry (length u) u i.answers (i.fates ++ one.fate ∷ []) x (i.events ++ went.events) more_stands (inr (none, some))) (inr (inr none));
          happened = join i.events went.events i.happened went.happens;
          ends = (none, i.reached.goes_on, some);
        }

  -- ---- one answer more

  pub one_heard : (Q R : List GroupEvent → Type 0) → ((xs ys : List GroupEvent) → P xs → Q ys → R (xs ++ ys)) → (s : ReadingState) (d : CollectorState) (x : List Bool) → x ≡ v → ReadingWaits r c → KeepsFirst c d → HearsOn true rules i.answers i.taken items s d Q → GateLoop rules carry u x R t s d
  one_heard Q R join s d x same waits keeps (inl (none, reached)) = record {
    answers = i.answers;
    taken = i.taken;
    during = items;
    more = [];
    reached = reached;
    fates = i.fates;
    passed = subst (λ (l : List CollectorItem). PassedAll carry d l t i.fates) (sym (append-nil items)) (all_later carry c d items t i.fates keeps i.passed);
    few = i.few;
    events = i.events;
    stands = subst (λ (y : List Bool). StandsAt rules carry (length u) u i.answers i.fates y i.events) (sym same) i.stands;
    happened = subst R (append-nil i.events) (join i.events [] i.happened none);
    same_count = ap (λ (y : List Bool). length y) same ∙ i.same_count;
    up = subst SomeUp (sym same) i.up;
  }
  one_heard Q R join s d x same waits keeps (inr (answer, taken, heard, reached)) =
      let n = length i.answers in
      let shorter = reached.goes_on.shorter n (let l = length-append i.answers (answer ∷ []) in omega (arith, l)) in
      let open_ : IsReadingOpen rules i.answers = subst (λ (l : List Answer). IsReadingOpen rules l) (take_at i.answers (answer ∷ []) n refl) shorter in
      let become : HasBecome rules carry i.answers i.fates v = inl (inr (open_, ready_become waits)) in
      let leads = stands_leads rules carry (length u) u i.answers i.fates v i.events i.stands become in
      let turn = hears rules carry (length u) u i.answers i.fates v i.events answer leads (not_over rules i.answers v i.reached.goes_on.sound open_ i.up) in
      record {
        answers = i.answers ++ answer ∷ [];
        taken = taken;
        during = items;
        more = [];
        reached = reached;
        fates = i.fates;
        passed = subst (λ (l : List CollectorItem). PassedAll carry d l t i.fates) (sym (append-nil items)) (all_later carry c d items t i.fates keeps i.passed);
        few = i.few;
        events = i.events ++ Received answer ∷ [];
        stands = inr (subst (λ (y : List Bool). Turn rules carry (length u) u (i.answers ++ answer ∷ []) i.fates y (i.events ++ Received answer ∷ [])) (sym same) turn);
        happened = join i.events (Received answer ∷ []) i.happened heard;
        same_count = ap (λ (y : List Bool). length y) same ∙ i.same_count;
        up = subst SomeUp (sym same) i.up;
      }

  -- ---- how it ends

  by_count : (answers : List Answer) (fates : List Outcome) (ended : GateEnded) → t ≡ tally_of fates → PassesAll rules carry answers fates → CountsOver v t ended → GateEndsAs rules carry answers fates v ended
  by_count answers fates ended is all (inl (each, ends)) =
      subst (λ (e : GateEnded). GateEndsAs rules carry answers fates v e) (sym ends) (each, all, ap (over (length v)) is)
  by_count answers fates ended is all (inr (not, ends)) = subst (λ (e : GateEnded). GateEndsAs rules carry answers fates v e) (sym ends) (not, i.up, all)

  -- no more is read
  pub loop_over : (ended : GateEnded) → has_ended r ≡ true → IsOver r c → CountsOver v t ended → GateRun rules carry u v P ended
  loop_over ended over_now over counts =
      let all = finishes rules i.answers i.taken i.during i.more r c i.reached over_now over in
      let f : ℕ = first_of all.run.mid in
      let may : MayBeFirst c f = subst (λ o. IfSome o (λ n. n ≡ f)) all.first (first_itself all.run.mid) in
      let onward : IsOnward rules carry (datagrams i.answers) i.fates = record { taken = i.taken; items = items; run = all.run; become = i.passed.become f may } in
      let become : HasBecome rules carry i.answers i.fates v = inl (inl (word_of r.end, all.reading.ends, onward)) in
      record {
        answers = i.answers;
        few = i.reached.few;
        fates = i.fates;
        events = i.events;
        relays = ends rules carry (length u) u i.answers i.fates v i.events (stands_leads rules carry (length u) u i.answers i.fates v i.events i.stands become)
            (inl (word_of r.end, ends_reason rules i.answers (word_of r.end) all.reading.ends));
        happened = i.happened;
        ends = by_count i.answers i.fates ended i.passed.tally ((word_of r.end, all.reading), onward) counts;
      }

  -- the link that is heard failed
  pub loop_broken : (Q R : List GroupEvent → Type 0) → ((xs ys : List GroupEvent) → P xs → Q ys → R (xs ++ ys)) → (s : ReadingState) (d : CollectorState) (x : List Bool) → x ≡ v → ReadingWaits r c → KeepsFirst c d → HearsOn false rules i.answers i.taken items s d Q → GateRun rules carry u x R FromFailed
  loop_broken Q R join s d x same waits keeps (heard, broke, gave) =
      let ready_now = ready_become waits in
      let leads = stands_leads rules carry (length u) u i.answers i.fates v i.events i.stands (inl (inr (broke.is_open, ready_now))) in
      let turn = hears rules carry (length u) u i.answers i.fates v i.events Failed leads (not_over rules i.answers v i.reached.goes_on.sound broke.is_open i.up) in
      let ready_then : AreReadyOutcomes rules carry (datagrams (i.answers ++ Failed ∷ [])) i.fates = subst (λ (l : List (List ℕ)). AreReadyOutcomes rules carry l i.fates) (sym (same_datagrams i.answers)) ready_now in
      let become : HasBecome rules carry (i.answers ++ Failed ∷ []) i.fates v = inl (inr (open_failed rules i.answers i.reached.usable.idle broke.is_open, ready_then)) in
      let behind = stands_leads rules carry (length u) u (i.answers ++ Failed ∷ []) i.fates v (i.events ++ Received Failed ∷ []) (inr turn) become in
      let run : GateRun rules carry u v R FromFailed = record {
        answers = i.answers ++ Failed ∷ [];
        few = one_more_few rules i.answers i.taken i.during i.more r c i.reached waits Failed;
        fates = i.fates;
        events = i.events ++ Received Failed ∷ [];
        relays = ends rules carry (length u) u (i.answers ++ Failed ∷ []) i.fates v (i.events ++ Received Failed ∷ []) behind (inr (inl (i.answers, refl)));
        happened = join i.events (Received Failed ∷ []) i.happened heard;
        ends = (i.up, (i.answers, broke, ready_now));
      } in
      subst (λ (y : List Bool). GateRun rules carry u y R FromFailed) (sym same) run
