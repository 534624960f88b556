-- A run of the command, by how it ends.
use Rattle.std.proofs.Common.{◌≡◌, ℕ, zero, suc, ◌<◌, ◌⊎◌, ◌↔◌, inl, inr, Bool, true, false, cond, List, [], ◌∷◌, ◌++◌, length, replicate, Option, None, Some, Result, Ok, Err, IsErr, refl, sym, subst, ap, ◌∙◌, arith, append_assoc}
use Rattle.std.specs.Prelude.{slice_index_or}
use Rattle.std.proofs.lemmas.Bool.{true≢false}
use Rattle.std.proofs.lemmas.List.{append-nil, length-replicate}
use Rattle.std.specs.FinMap as map
use Rattle.std.specs.FinMap.{get-remove}
use Rattle.std.specs.Ordering.{nat_cmp, eq_by_cmp}
use Rattle.std.specs.Cmp.Lexicographic.{slice_cmp, nat_list_cmp_total}
use Rattle.dcp_pft.specs.declared.carry.Carry.{Carry}
use Rattle.drm_links.specs.Known.{HasFailed, Known, HasCause, KnownThrough}
use Rattle.drm_links.specs.Link.{Answer}
use Rattle.drm_links.specs.Hearing.{AreNext}
use Rattle.drm_links.specs.Sink.{Output, OutputsText}
use Rattle.drm_links.specs.Dock.{DockContents, LinkStart, address_key, start_at, after_opening, OpeningFinds}
use Rattle.drm_links.specs.History.{GroupEvent, History, EventsHappen}
use Rattle.drm_links.specs.Alone.{gone_at}
use Rattle.drm_links.specs.Calls.{is_up}
use Rattle.drm_links.specs.Gathering.{GathersNone, after_gathering}
use Rattle.drm_links.specs.Transmission.{TakesSends, TakesFewer}
use Rattle.drm_links.specs.declared.dock.Address.{Address}
use Rattle.drm_links.specs.declared.link.LinkFault.{LinkFault}
use Rattle.drm_links.proofs.KnownLemmas.{Tells-nothing, Tells-weaker, counts_none}
use Rattle.drm_links.proofs.GotLemmas.{LinkGot, taken_by}
use Rattle.drm_links.proofs.DisbandLemmas.{disbanded_gone}
use Rattle.recv_reading.specs.declared.options.ReceiveOptions.{ReceiveOptions}
use Rattle.recv_reading.specs.Ending.{IsReadingBroken}
use Rattle.recv_reading.specs.OneReading.{BreaksOff}
use Rattle.drm_links.specs.Listed.{AreListed}
use Rattle.drm_links.proofs.BindLemmas.{found_once, is_found}
use Rattle.cmd_faults.specs.Fault.{UnlessMemory}
use Rattle.cmd_faults.specs.Causes.{OpeningFailed}
use Rattle.cmd_faults.specs.declared.fault.Fault.{Fault}
use Rattle.cmd_faults.specs.declared.fault.Fault.TheVariants as faults
use Rattle.cmd_faults.proofs.CauseLemmas.{inner_fault}
use Rattle.drm_gate.specs.declared.tally.Tally.{Tally}
use Rattle.drm_gate.specs.declared.gate.GateEnded.{GateEnded}
use Rattle.drm_gate.specs.declared.gate.GateEnded.TheVariants as ended
use Rattle.drm_gate.specs.Gateway.{AllUp}
use Rattle.drm_gate.specs.Passing.{Outcome, sent_of}
use Rattle.drm_gate.specs.Tallies.{tally_of, over}
use Rattle.drm_gate.specs.Run.{PassesAll, GateEndsAs}
use Rattle.drm_gate.proofs.EachLink.{relays_next, relays_count, relays_got}
use Rattle.drm_gate.proofs.Prefixes.{StartsWith}
use Rattle.cmd_gate.specs.Line.{gate_line, is_clean}
use Rattle.cmd_gate.specs.Opening.{FailsOpening}
use Rattle.cmd_gate.specs.Between.{AreAhead, IsRelayed, GateRunsAt, RelaysOverLinks, passed_of}
use Rattle.cmd_gate.specs.Run.{WritesTally, LacksSome, FailsGate, HasAll, PassedAll, GateCommandRun}
use Rattle.cmd_gate.proofs.ReadingLemmas.{whole, one_passed, front_of_all, takes_fewer, not_both}

pub no_fault : (clean : Bool) (fault : Fault) → Ok clean ≡ Err fault → ⊥
no_fault clean fault is = cc

any_address : Address
any_address = record { ip = []; port = 0 }

-- ---- which links are up

pub all_at_start : (n k : ℕ) → k < n → is_up (replicate n true) k ≡ true
all_at_start zero k within = absurd (omega (arith, within))
all_at_start (suc n) zero within = refl
all_at_start (suc n) (suc k) within = all_at_start n k (omega (arith, within))

one_more_up : (u : List Bool) → AllUp u → AllUp (true ∷ u)
one_more_up u all zero within = refl
one_more_up u all (suc k) within = all k (omega (arith, within))

some_down : (u : List Bool) → (AllUp u → ⊥) → (k : ℕ) × (k < length u) × (is_up u k ≡ false)
some_down [] not = absurd (not (λ k within. absurd (omega (arith, within))))
some_down (false ∷ u) not = (0, omega arith, refl)
some_down (true ∷ u) not = let one = some_down u (λ all. not (one_more_up u all)) in (suc one.0, omega (arith, one.1), one.2)

-- all that happened is told
happened : (events : List GroupEvent) (x y : History) → EventsHappen events x y → y.events ≡ x.events ++ events
happened [] x y happen = ap (λ (h : History). h.events) happen ∙ sym (append-nil x.events)
happened (event ∷ events) x y happen =
    happened events happen.0 y happen.2 ∙ (ap (λ l. l ++ events) happen.1.events ∙ append_assoc x.events (event ∷ []) events)

-- ---- a gateway that ran over a group

module _ (rules : ReceiveOptions) (carry : Carry) (from : Address) (to : List Address) (listed : AreListed to) (how : GateEnded) (x y : DockContents) (g : GateRunsAt rules carry from to how x y) where
  abbrev up0 : List Bool
  up0 = replicate (length to) true

  links_are : length up0 ≡ length to
  links_are = length-replicate (length to) true

  abbrev source : LinkStart
  source = g.starts.coming.0

  found : OpeningFinds x 0 from source
  found = g.starts.coming.1

  happen : EventsHappen g.run.events g.start g.end
  happen = g.run.happened.told

  heard : AreAhead source.ahead g.run.answers
  heard = (
    g.end.coming,
    subst (λ l. AreNext l g.run.answers g.end.coming) g.starts.coming.2
        (relays_next rules carry (length up0) g.run.answers [] [] g.run.fates up0 g.up g.run.events g.start g.end g.run.relays happen),
  )

  as_many : length g.up ≡ length to
  as_many = relays_count rules carry (length up0) g.run.answers [] [] g.run.fates up0 g.up g.run.events g.run.relays ∙ links_are

  -- ---- over one link

  module _ (k : ℕ) (within : k < length to) where
    link_at : (at : Address) → (start : LinkStart) × OpeningFinds (after_opening from x) k (slice_index_or to k at) start × (taken_by k g.start ≡ start.sends)
    link_at at = g.starts.sends.each k at None within

    got : LinkGot true (is_up g.up k) (sent_of g.run.fates) (gone_at k g.run.events) (taken_by k g.start) (taken_by k g.end)
    got =
        let made = relays_got rules carry (length up0) k (omega (arith, within, links_are)) g.run.answers [] [] g.run.fates up0 g.up g.run.events g.start g.end (omega (arith, within, g.starts.sends.as_many)) g.run.relays happen in
        subst (λ (b : Bool). LinkGot b (is_up g.up k) (sent_of g.run.fates) (gone_at k g.run.events) (taken_by k g.start) (taken_by k g.end)) (all_at_start (length to) k within)
        (subst (λ (fates : List Outcome). LinkGot (is_up up0 k) (is_up g.up k) (sent_of fates) (gone_at k g.run.events) (taken_by k g.start) (taken_by k g.end)) (sym made.1) made.2)

    -- the link that was read had another address
    apart_by : (at : Address) (start : LinkStart) (b : Bool) → eq_by_cmp (slice_cmp nat_cmp) (address_key at) (address_key from) ≡ b → start_at (after_opening from x) at ≡ Some start
        → eq_by_cmp (slice_cmp nat_cmp) (address_key at) (address_key from) ≡ false
    apart_by at start false is stands = is
    apart_by at start true is stands =
        let none : start_at (after_opening from x) at ≡ None =
        get-remove nat_list_cmp_total x.links (address_key from) (address_key at) ∙ ap (λ b. cond b None (map.get x.links (address_key at))) is in
        let clash : None ≡ Some start = sym none ∙ stands in
        absurd cc

    gone : (at : Address) → map.get y.gone (address_key (slice_index_or to k at)) ≡ Some (gone_at k g.run.events)
    gone at =
        let here : Address = slice_index_or to k at in
        let link = link_at at in
        let other = apart_by here link.0 (eq_by_cmp (slice_cmp nat_cmp) (address_key here) (address_key from)) refl link.1.stands in
        let events : g.end.events ≡ g.run.events = happened g.run.events g.start g.end happen ∙ ap (λ l. l ++ g.run.events) g.starts.events in
        ap (λ (d : DockContents). map.get d.gone (address_key here)) g.contents
        ∙ (disbanded_gone (Some from) to g.end.events (after_gathering (Some from) to x) listed.different k at within other ∙ ap (λ (l : List GroupEvent). Some (gone_at k l)) events)

    has_all : (fates : List Outcome) → gone_at k g.run.events ≡ sent_of fates → HasAll fates to k y
    has_all fates same at = gone at ∙ ap Some same

  -- ---- what becomes of all that is read

  pub relayed : PassesAll rules carry g.run.answers g.run.fates → IsRelayed rules carry source.ahead g.run.fates
  relayed all = record { answers = g.run.answers; heard = heard; few = g.run.few; word = all.0.0; reading = all.0.1; onward = all.1 }

  broke : (before : List Answer) → IsReadingBroken rules before g.run.answers → BreaksOff rules source.ahead
  broke before reading = record { before = before; answers = g.run.answers; rest = heard.0; next = heard.1; reading = reading }

  module _ (fates : List Outcome) (passed : IsRelayed rules carry source.ahead fates) where
    same_front : PassesAll rules carry g.run.answers g.run.fates → StartsWith (sent_of fates) (sent_of g.run.fates)
    same_front all = ([], one_passed rules carry source.ahead fates g.run.fates passed (relayed all) ∙ sym (append-nil (sent_of g.run.fates)))

    -- what was passed on is a front of it
    front : (e : GateEnded) → GateEndsAs rules carry g.run.answers g.run.fates g.up e → StartsWith (sent_of fates) (sent_of g.run.fates)
    front (ended.Done tally) ends = same_front ends.1
    front ended.SomeFailed ends = same_front ends.2
    front ended.FromFailed ends = absurd (whole rules carry source.ahead fates passed (broke ends.1.0 ends.1.1))
    front ended.ToFailed ends = front_of_all rules carry source.ahead fates g.run.fates g.run.answers heard ends.1 ends.2 passed

    -- and all of it where a link is up
    all_up : (e : GateEnded) (k : ℕ) → GateEndsAs rules carry g.run.answers g.run.fates g.up e → is_up g.up k ≡ true → sent_of g.run.fates ≡ sent_of fates
    all_up (ended.Done tally) k ends up = one_passed rules carry source.ahead g.run.fates fates (relayed ends.1) passed
    all_up ended.SomeFailed k ends up = one_passed rules carry source.ahead g.run.fates fates (relayed ends.2) passed
    all_up ended.FromFailed k ends up = absurd (whole rules carry source.ahead fates passed (broke ends.1.0 ends.1.1))
    all_up ended.ToFailed k ends up = absurd (true≢false (sym up ∙ ends.0 k))

    -- a link that failed takes fewer
    lacks : (e : GateEnded) (k : ℕ) (start : LinkStart) → GateEndsAs rules carry g.run.answers g.run.fates g.up e → taken_by k g.start ≡ start.sends
        → LinkGot true false (sent_of g.run.fates) (gone_at k g.run.events) (taken_by k g.start) (taken_by k g.end) → TakesFewer start.sends (length (sent_of fates))
    lacks e k start ends is (rest, some, are, no_more) =
        takes_fewer start.sends (sent_of fates) (sent_of g.run.fates) (gone_at k g.run.events) rest (sym is ∙ no_more) some are (front e ends)

    all_gone : (k : ℕ) (start : LinkStart) (b : Bool) → is_up g.up k ≡ b → taken_by k g.start ≡ start.sends → TakesSends start.sends (length (sent_of fates))
        → LinkGot true b (sent_of g.run.fates) (gone_at k g.run.events) (taken_by k g.start) (taken_by k g.end) → gone_at k g.run.events ≡ sent_of fates
    all_gone k start true up is takes (all, few, left) = all ∙ all_up how k g.run.ends up
    all_gone k start false up is takes some = absurd (not_both start.sends (length (sent_of fates)) (lacks how k start g.run.ends is some) takes)

  -- where it takes all, all has gone over it
  pub each_gone : (fates : List Outcome) → IsRelayed rules carry source.ahead fates → (k : ℕ) (at : Address) (start : LinkStart) → k < length to → OpeningFinds (after_opening from x) k (slice_index_or to k at) start
      → TakesSends start.sends (length (sent_of fates)) → HasAll fates to k y
  each_gone fates passed k at start within finds takes =
      let link = link_at k within at in
      let one : link.0 ≡ start = found_once (after_opening from x) k (slice_index_or to k at) link.0 start link.1 finds in
      let is : taken_by k g.start ≡ start.sends = link.2 ∙ ap (λ (s : LinkStart). s.sends) one in
      has_all k within fates (all_gone fates passed k start (is_up g.up k) refl is takes (got k within))

  -- ---- one of them failed

  lacks_at : (e : GateEnded) → GateEndsAs rules carry g.run.answers g.run.fates g.up e → (k : ℕ) → k < length to → is_up g.up k ≡ false → LacksSome rules carry source.ahead (after_opening from x) to
  lacks_at e ends k within down = record {
    k = k;
    within = within;
    lacks = λ at.
        let link = link_at k within at in
        let some = subst (λ (b : Bool). LinkGot true b (sent_of g.run.fates) (gone_at k g.run.events) (taken_by k g.start) (taken_by k g.end)) down (got k within) in
        (link.0, link.1, λ fates passed. lacks fates passed e k link.0 ends link.2 some);
  }

  fails_as : (e : GateEnded) → GateEndsAs rules carry g.run.answers g.run.fates g.up e → IsErr (passed_of e) → BreaksOff rules source.ahead ⊎ LacksSome rules carry source.ahead (after_opening from x) to
  fails_as (ended.Done tally) ends failed = let clash : false ≡ true = failed in absurd cc
  fails_as ended.SomeFailed ends failed = let one = some_down g.up ends.0 in inr (lacks_at ended.SomeFailed ends one.0 (omega (arith, one.1, as_many)) one.2)
  fails_as ended.FromFailed ends failed = inl (broke ends.1.0 ends.1.1)
  fails_as ended.ToFailed ends failed = inr (lacks_at ended.ToFailed ends 0 (let some = listed.some in omega (arith, some)) (ends.0 0))

  pub run_fails : IsErr (passed_of how) → FailsGate rules carry from to x
  run_fails failed = inr (source, found, fails_as how g.run.ends failed)

  -- ---- none of them failed

  pub opens : FailsOpening x from to → ⊥
  opens (inl none) = is_found x 0 from source found none
  opens (inr (start, there, none)) =
      let link = link_at none.k none.within any_address in
      is_found (after_opening from x) none.k (slice_index_or to none.k any_address) link.0 link.1 (none.fails any_address)

  -- what was counted
  abbrev pub RunIsDone : Tally → Type 0
  RunIsDone tally = AllUp g.up × PassesAll rules carry g.run.answers g.run.fates × (tally ≡ over (length to) (tally_of g.run.fates))

  done_as : (e : GateEnded) (tally : Tally) → GateEndsAs rules carry g.run.answers g.run.fates g.up e → Ok tally ≡ passed_of e → RunIsDone tally
  done_as (ended.Done t) tally (up, all, counted) is =
      let same : tally ≡ t = cc in
      (up, all, same ∙ (counted ∙ ap (λ n. over n (tally_of g.run.fates)) as_many))
  done_as ended.SomeFailed tally ends is = absurd cc
  done_as ended.FromFailed tally ends is = absurd cc
  done_as ended.ToFailed tally ends is = absurd cc

  pub run_done : (tally : Tally) → Ok tally ≡ passed_of how → RunIsDone tally
  run_done tally is = done_as how tally g.run.ends is

  module _ (up : AllUp g.up) (all : PassesAll rules carry g.run.answers g.run.fates) where
    whole_at : (k : ℕ) (within : k < length to) → LinkGot true true (sent_of g.run.fates) (gone_at k g.run.events) (taken_by k g.start) (taken_by k g.end)
    whole_at k within =
        subst (λ (b : Bool). LinkGot true b (sent_of g.run.fates) (gone_at k g.run.events) (taken_by k g.start) (taken_by k g.end)) (up k (omega (arith, within, as_many))) (got k within)

    takes : (start : LinkStart) → start ≡ source → LacksSome rules carry start.ahead (after_opening from x) to → ⊥
    takes start same lacks =
        let k : ℕ = lacks.k in
        let (first, there, few) = lacks.lacks any_address in
        let link = link_at k lacks.within any_address in
        let one : link.0 ≡ first = found_once (after_opening from x) k (slice_index_or to k any_address) link.0 first link.1 there in
        let less : TakesFewer first.sends (length (sent_of g.run.fates)) = few g.run.fates (subst (λ (s : LinkStart). IsRelayed rules carry s.ahead g.run.fates) (sym same) (relayed all)) in
        let enough : TakesSends first.sends (length (sent_of g.run.fates)) = subst (λ (o : Option ℕ). TakesSends o (length (sent_of g.run.fates))) (link.2 ∙ ap (λ (s : LinkStart). s.sends) one) (whole_at k lacks.within).1 in
        not_both first.sends (length (sent_of g.run.fates)) less enough

    pub none_fails : FailsGate rules carry from to x → ⊥
    none_fails (inl fails) = opens fails
    none_fails (inr (start, there, inl breaks)) =
        whole rules carry source.ahead g.run.fates (relayed all) (subst (λ (s : LinkStart). BreaksOff rules s.ahead) (found_once x 0 from start source there found) breaks)
    none_fails (inr (start, there, inr lacks)) = takes start (found_once x 0 from start source there found) lacks

    pub has_each : (k : ℕ) → k < length to → HasAll g.run.fates to k y
    has_each k within = has_all k within g.run.fates (whole_at k within).0

-- ---- a run that came to its links

module _ (rules : ReceiveOptions) (carry : Carry) (from : Address) (to : List Address) where
  no_opening : (x y : DockContents) → GathersNone (Some from) to x y → FailsOpening x from to
  no_opening x y (inl (none, after)) = inl none
  no_opening x y (inr (start, found, mid, few, after)) = inr (start, found, record { k = few.k; within = few.within; fails = few.fails })

  fails_by : AreListed to → (fault : LinkFault) (x y : DockContents) → RelaysOverLinks rules carry from to (Err fault) x y → FailsGate rules carry from to x
  fails_by listed fault x y (inl (failed, none)) = inl (no_opening x y none)
  fails_by listed fault x y (inr (how, is, g)) = run_fails rules carry from to listed how x y g (subst (λ (r : Result Tally LinkFault). IsErr r) is refl)

  passes_not : AreListed to → (tally : Tally) (x y : DockContents) → RelaysOverLinks rules carry from to (Ok tally) x y → FailsGate rules carry from to x → ⊥
  passes_not listed tally x y (inl (failed, none)) fail = let clash : false ≡ true = failed in absurd cc
  passes_not listed tally x y (inr (how, is, g)) fail =
      let done = run_done rules carry from to listed how x y g tally is in
      none_fails rules carry from to listed how x y g done.0 done.1 fail

  each_by : AreListed to → (result : Result Tally LinkFault) (x y : DockContents) → RelaysOverLinks rules carry from to result x y → (FailsOpening x from to → ⊥) → (source : LinkStart) (fates : List Outcome) → OpeningFinds x 0 from source
      → IsRelayed rules carry source.ahead fates → (k : ℕ) (at : Address) (start : LinkStart) → k < length to → OpeningFinds (after_opening from x) k (slice_index_or to k at) start
      → TakesSends start.sends (length (sent_of fates)) → HasAll fates to k y
  each_by listed result x y (inl (failed, none)) fine first fates there passed k at start within finds enough = absurd (fine (no_opening x y none))
  each_by listed result x y (inr (how, is, g)) fine first fates there passed k at start within finds enough =
      let one : first ≡ g.starts.coming.0 = found_once x 0 from first g.starts.coming.0 there g.starts.coming.1 in
      each_gone rules carry from to listed how x y g fates (subst (λ (s : LinkStart). IsRelayed rules carry s.ahead fates) one passed) k at start within finds enough

  -- ---- the whole run

  module _ {O : Type 0} (listed : AreListed to) (ending : Result Bool Fault) (known : O → Known Output) (out out' : O) where
    not_link : (tally : Tally) → WritesTally (Ok tally) ending known out out' → ending ≡ Err faults.Link → ⊥
    not_link tally (inl (is, text)) link = no_fault (is_clean tally) faults.Link (sym is ∙ link)
    not_link tally (inr (is, text)) link = let one : faults.Write ≡ faults.Link = inner_fault faults.Write faults.Link (sym is ∙ link) in absurd cc

    -- it ends by a link where that was told
    to_link : (passed : Result Tally LinkFault) → WritesTally passed ending known out out' → IsErr passed → ending ≡ Err faults.Link
    to_link (Ok tally) writes failed = absurd (let clash : false ≡ true = failed in cc)
    to_link (Err fault) writes failed = writes.0

    exactly_by : (passed : Result Tally LinkFault) (x y : DockContents) → WritesTally passed ending known out out' → RelaysOverLinks rules carry from to passed x y
        → UnlessMemory ending ((ending ≡ Err faults.Link) ↔ FailsGate rules carry from to x)
    exactly_by (Ok tally) x y writes passes = inr (λ link. absurd (not_link tally writes link), λ fail. absurd (passes_not listed tally x y passes fail))
    exactly_by (Err fault) x y writes passes = inr (λ link. fails_by listed fault x y passes, λ fail. writes.0)

    passed_by : (tally : Tally) (x y : DockContents) → ending ≡ Ok (is_clean tally) → OutputsText (known out) (known out') (λ text. text ≡ gate_line tally) → RelaysOverLinks rules carry from to (Ok tally) x y
        → PassedAll rules carry from to ending x y known out out'
    passed_by tally x y is text (inl (failed, none)) = let clash : false ≡ true = failed in absurd cc
    passed_by tally x y is text (inr (how, same, g)) =
        let (up, all, counted) = run_done rules carry from to listed how x y g tally same in
        record {
          source = g.starts.coming.0;
          finds = g.starts.coming.1;
          fates = g.run.fates;
          passed = relayed rules carry from to listed how x y g all;
          gone = λ k within. has_each rules carry from to listed how x y g up all k within;
          line = subst (λ (t : Tally). OutputsText (known out) (known out') (λ written. written ≡ gate_line t)) counted text;
          clean = is ∙ ap (λ (t : Tally). Ok (is_clean t)) counted;
        }

    complete_by : (passed : Result Tally LinkFault) (x y : DockContents) → HasCause (known out) (known out') (ending ≡ Err faults.Write) → (HasFailed (known out) (known out') → ⊥)
        → WritesTally passed ending known out out' → RelaysOverLinks rules carry from to passed x y → (FailsGate rules carry from to x → ⊥) → UnlessMemory ending (PassedAll rules carry from to ending x y known out out')
    complete_by (Ok tally) x y cause none (inl (is, text)) passes fail = inr (passed_by tally x y is text passes)
    complete_by (Ok tally) x y cause none (inr (is, text)) passes fail = absurd (none (cause.once is))
    complete_by (Err fault) x y cause none writes passes fail = absurd (fail (fails_by listed fault x y passes))

    alike_by : (passed : Result Tally LinkFault) (clean : Bool) (x y : DockContents) → WritesTally passed ending known out out' → ending ≡ Ok clean → RelaysOverLinks rules carry from to passed x y
        → (j k : ℕ) (at : Address) → j < length to → k < length to → map.get y.gone (address_key (slice_index_or to j at)) ≡ map.get y.gone (address_key (slice_index_or to k at))
    alike_by (Ok tally) clean x y writes done (inl (failed, none)) j k at first second = let clash : false ≡ true = failed in absurd cc
    alike_by (Ok tally) clean x y writes done (inr (how, same, g)) j k at first second =
        let (up, all, counted) = run_done rules carry from to listed how x y g tally same in
        has_each rules carry from to listed how x y g up all j first at ∙ sym (has_each rules carry from to listed how x y g up all k second at)
    alike_by (Err fault) clean x y writes done passes j k at first second = absurd (no_fault clean faults.Link (sym done ∙ writes.0))

    kind_by : (passed : Result Tally LinkFault) → WritesTally passed ending known out out' → (fault : Fault) → ending ≡ Err fault → (fault ≡ faults.NoMemory) ⊎ (fault ≡ faults.Link) ⊎ (fault ≡ faults.Write)
    kind_by (Ok tally) (inl (is, text)) fault failed = absurd (no_fault (is_clean tally) fault (sym is ∙ failed))
    kind_by (Ok tally) (inr (is, text)) fault failed = inr (inr (inner_fault fault faults.Write (sym failed ∙ is)))
    kind_by (Err link) (is, same) fault failed = inr (inl (inner_fault fault faults.Link (sym failed ∙ is)))

    not_memory : (passed : Result Tally LinkFault) → WritesTally passed ending known out out' → ending ≡ Err faults.NoMemory → ⊥
    not_memory (Ok tally) (inl (is, text)) memory = no_fault (is_clean tally) faults.NoMemory (sym is ∙ memory)
    not_memory (Ok tally) (inr (is, text)) memory = let one : faults.Write ≡ faults.NoMemory = inner_fault faults.Write faults.NoMemory (sym is ∙ memory) in absurd cc
    not_memory (Err fault) (is, same) memory = let one : faults.Link ≡ faults.NoMemory = inner_fault faults.Link faults.NoMemory (sym is ∙ memory) in absurd cc

    -- memory was wanting
    pub no_run : {D : Type 0} (dock_known : D → Known DockContents) (dock : D) → ending ≡ Err faults.NoMemory → GateCommandRun rules carry from to ending dock_known dock dock known out out
    no_run dock_known dock is = record {
      run = inl (is, refl, refl);
      kind = λ fault failed. inl (inner_fault fault faults.NoMemory (sym failed ∙ is));
      untouched = λ memory. (refl, refl);
      exactly = Tells-nothing _ (dock_known dock) (λ x. inl is);
      each = Tells-nothing _ (dock_known dock) (λ x fine source fates found passed k at start within finds enough. inl is);
      complete = λ none. Tells-nothing _ (dock_known dock) (λ x fine. inl is);
      alike = λ clean done. absurd (no_fault clean faults.NoMemory (sym done ∙ is));
      dock_cause = inl refl;
      write_cause = counts_none (λ write. let one : faults.Write ≡ faults.NoMemory = inner_fault faults.Write faults.NoMemory (sym write ∙ is) in absurd cc) refl;
    }

    module _ {D : Type 0} (dock_known : D → Known DockContents) (dock dock' : D) where
      pub links_run : (passed : Result Tally LinkFault) → KnownThrough (dock_known dock) (dock_known dock') (RelaysOverLinks rules carry from to passed) → WritesTally passed ending known out out'
          → OpeningFailed (dock_known dock) (dock_known dock') (IsErr passed) → HasCause (known out) (known out') (ending ≡ Err faults.Write)
          → GateCommandRun rules carry from to ending dock_known dock dock' known out out'
      links_run passed contents writes failed cause = record {
        run = inr (record { passed = passed; contents = contents; writes = writes });
        kind = kind_by passed writes;
        untouched = λ is. absurd (not_memory passed writes is);
        exactly = Tells-weaker (RelaysOverLinks rules carry from to passed) _ (dock_known dock) (dock_known dock') contents (λ x y passes. exactly_by passed x y writes passes);
        each = Tells-weaker (RelaysOverLinks rules carry from to passed) _ (dock_known dock) (dock_known dock') contents
            (λ x y passes fine source fates found is k at start within finds enough. inr (each_by listed passed x y passes fine source fates found is k at start within finds enough));
        complete = λ none. Tells-weaker (RelaysOverLinks rules carry from to passed) _ (dock_known dock) (dock_known dock') contents (λ x y passes. complete_by passed x y cause none writes passes);
        alike = λ clean done. Tells-weaker (RelaysOverLinks rules carry from to passed) _ (dock_known dock) (dock_known dock') contents (λ x y passes. alike_by passed clean x y writes done passes);
        dock_cause = elim failed [
          | inl same ↦ inl same
          | inr once ↦ inr (to_link passed writes once.0, once.1)
        ];
        write_cause = cause;
      }
