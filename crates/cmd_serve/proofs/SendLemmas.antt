-- What a run over links says of how it ends and of what has gone.
use Rattle.std.proofs.Common.{◌≡◌, ℕ, ◌+◌, ◌<◌, ◌⊎◌, ◌↔◌, inl, inr, Bool, true, false, List, [], ◌∷◌, length, replicate, slice_index_or, Option, None, Some, Result, Ok, Err, refl, sym, ◌∙◌, ap, subst, arith, length-append}
use Rattle.std.specs.FinMap as map
use Rattle.drm_links.specs.Known.{Known, IfBothKnown, KnownThrough}
use Rattle.drm_links.specs.Shelf.{Files, ShelfSupplies}
use Rattle.drm_links.specs.Dock.{DockContents, LinkStart, address_key, AreDifferent, OpeningFinds}
use Rattle.drm_links.specs.Transmission.{TakesSends, TakesFewer}
use Rattle.drm_links.specs.declared.dock.Address.{Address}
use Rattle.drm_links.proofs.KnownLemmas.{Tells-weaker, Tells-nothing, counts_none}
use Rattle.drm_schedule.specs.declared.plan.Plan.{Plan}
use Rattle.drm_links.specs.History.{GroupEvent}
use Rattle.drm_links.specs.Alone.{gone_at}
use Rattle.drm_links.specs.Calls.{is_up}
use Rattle.drm_links.specs.Gathering.{ReachesNone, ReachesFew, NothingSent}
use Rattle.drm_links.proofs.BindLemmas.{found_once, is_found}
use Rattle.drm_links.proofs.OpeningLemmas.{docks_while}
use Rattle.drm_server.specs.declared.stretch.Stretch.{Stretch}
use Rattle.drm_server.specs.Datagrams.{AreDatagrams, AreBefore}
use Rattle.drm_server.specs.Laws.{HasOneDelivery, FirstOnesArePrefix}
use Rattle.cmd_load.specs.Loading.{ShelfReading}
use Rattle.cmd_faults.specs.declared.fault.Fault.{Fault}
use Rattle.cmd_faults.specs.declared.fault.Fault.TheVariants as faults
use Rattle.cmd_faults.proofs.CauseLemmas.{inner_fault}
use Rattle.cmd_load.specs.declared.loading.ScheduleFault.{ScheduleFault}
use Rattle.cmd_load.specs.declared.loading.ScheduleFault.TheVariants as schedule
use Rattle.cmd_serve.specs.ScheduleRun.{ServeEndsBy}
use Rattle.cmd_serve.specs.Send.{RunComes, GroupRan, LacksSends, LacksSome, ClosedRun, LinksRun, UnopenedRun, SendRun}
use Rattle.cmd_serve.proofs.RanLemmas.{SentDatagrams, sent_each}
use Rattle.cmd_serve.proofs.ClosedLemmas.{went_at, nothing_went}
use Rattle.cmd_serve.proofs.ScheduleRunLemmas.{outcome_or_memory, ends_memory, ends_exactly}

-- ---- an opening finds a link, or none

no_address : Address
no_address = record { ip = []; port = 0 }

opening_fails : (addresses : List Address) (x y : DockContents) → ReachesFew addresses x y → ReachesNone x addresses
opening_fails addresses x y few = record { k = few.k; within = few.within; fails = few.fails }

-- each opening finds a link in a run that sends over them
none_fails : {A : Type 0} (Comes : List Bool → List GroupEvent → List Bool → Type 0) (up : List Bool) (addresses : List Address) (x y : DockContents) → GroupRan Comes up addresses x y → ReachesNone x addresses → A
none_fails Comes up addresses x y ran none =
    let there = ran.starts.sends.each none.k no_address None none.within in
    absurd (is_found x none.k (slice_index_or addresses none.k no_address) there.0 there.1 (none.fails no_address))

-- ---- how it ends, by what came

-- a front that lacks a datagram is shorter than the whole
shorter : FirstOnesArePrefix → (plan : Plan) (stretch : Stretch) (datagrams first : List (List ℕ)) (next : List ℕ) → AreDatagrams plan stretch datagrams → AreBefore plan stretch next first → length first < length datagrams
shorter front plan stretch datagrams first next are before =
    let f = front plan stretch datagrams first next are before in
    let long : length datagrams ≡ length first + length (next ∷ f.0) = ap length f.1 ∙ length-append first (next ∷ f.0) in
    omega (arith, long)

fewer_by : (sends : Option ℕ) (m n : ℕ) → sends ≡ Some m → m < n → TakesFewer sends n
fewer_by None m n is less = cc
fewer_by (Some k) m n is less = let same : k ≡ m = cc in omega (arith, same)

not_both : (sends : Option ℕ) (n : ℕ) → TakesFewer sends n → TakesSends sends n → ⊥
not_both None n few takes = few
not_both (Some k) n few takes = omega (arith, few, takes)

abbrev Ending : Type 0
Ending = Result (Unit {0}) Fault

abbrev failed : Fault → Ending
failed fault = Err fault

-- a run over a schedule that came fails by the link alone
by_link : (fault : Fault) → (failed fault ≡ Ok tt) ⊎ (failed fault ≡ Err faults.Link) → failed fault ≡ Err faults.Link
by_link fault (inl is) = cc
by_link fault (inr is) = is

is_up_or_not : (b : Bool) → (b ≡ true) ⊎ (b ≡ false)
is_up_or_not true = inl refl
is_up_or_not false = inr refl

-- a link that failed takes too few
lacks_by : FirstOnesArePrefix → (stretch : Stretch) (outcome : Result Plan ScheduleFault) (sends : Option ℕ) (gone : List (List ℕ)) (plan : Plan) → outcome ≡ Ok plan → SentDatagrams stretch outcome false sends gone → LacksSends stretch outcome sends
lacks_by front stretch (Ok x) sends gone plan is go = λ datagrams are. fewer_by sends (length gone) (length datagrams) go.2 (shorter front x stretch datagrams gone go.0 are go.1)
lacks_by front stretch (Err fault) sends gone plan is go = cc

-- and one that didn't takes enough
takes_by : (stretch : Stretch) (outcome : Result Plan ScheduleFault) (sends : Option ℕ) (gone : List (List ℕ)) → SentDatagrams stretch outcome true sends gone → LacksSends stretch outcome sends → ⊥
takes_by stretch (Ok x) sends gone go lacks = not_both sends (length gone) (lacks gone go.0) go.1
takes_by stretch (Err fault) sends gone go lacks = lacks

-- all were sent over a link that takes all
all_by : HasOneDelivery → FirstOnesArePrefix → (stretch : Stretch) (plan : Plan) (up : Bool) (sends : Option ℕ) (gone datagrams : List (List ℕ)) → SentDatagrams stretch (Ok plan) up sends gone → AreDatagrams plan stretch datagrams → TakesSends sends (length datagrams)
    → (up ≡ true) × (gone ≡ datagrams)
all_by one front stretch plan true sends gone datagrams go are takes = (refl, one plan stretch gone datagrams go.0 are)
all_by one front stretch plan false sends gone datagrams go are takes =
    absurd (not_both sends (length datagrams) (fewer_by sends (length gone) (length datagrams) go.2 (shorter front plan stretch datagrams gone go.0 are go.1)) takes)

-- where memory ran out no schedule came
none_by : (outcome : Result Plan ScheduleFault) (ending : Ending) → ServeEndsBy faults.Link outcome ending → ending ≡ Err faults.NoMemory → (fault : ScheduleFault) × (outcome ≡ Err fault)
none_by (Ok x) (Ok done) ends e = cc
none_by (Ok x) (Err fault) ends e =
    let other : faults.Link ≡ faults.NoMemory = inner_fault faults.Link faults.NoMemory (sym (by_link fault ends) ∙ e) in absurd cc
none_by (Err fault) ending ends e = (fault, refl)

-- which schedule came, where it ended by a link or was done
outcome_by : (outcome : Result Plan ScheduleFault) (ending : Ending) → ServeEndsBy faults.Link outcome ending → (ending ≡ Err faults.Link) ⊎ (ending ≡ Ok tt) → (plan : Plan) × (outcome ≡ Ok plan)
outcome_by (Ok plan) ending ends is = (plan, refl)
outcome_by (Err schedule.NoMemory) ending ends (inl link) = let other : faults.NoMemory ≡ faults.Link = inner_fault faults.NoMemory faults.Link (sym ends ∙ link) in absurd cc
outcome_by (Err (schedule.Line l r)) ending ends (inl link) = let other : faults.Schedule l r ≡ faults.Link = inner_fault (faults.Schedule l r) faults.Link (sym ends ∙ link) in absurd cc
outcome_by (Err schedule.Read) ending ends (inl link) = let other : faults.Read ≡ faults.Link = inner_fault faults.Read faults.Link (sym ends ∙ link) in absurd cc
outcome_by (Err fault) ending ends (inr done) = let e : ending ≡ Ok tt = done in absurd (let p = sym ends ∙ e in cc)

-- ---- the whole run

module _ {S D : Type 0} (one : HasOneDelivery) (front : FirstOnesArePrefix) (reading : ShelfReading Plan) (addresses : List Address) (pace : ℕ) (stretch : Stretch) (ending : Ending) (shelf_known : S → Known Files) (shelf shelf' : S) (dock_known : D → Known DockContents) (dock dock' : D) where
  -- nothing was loaded
  unread : (P : Files → Type 0) → shelf' ≡ shelf → ((x : Files) → P x) → ShelfSupplies (shelf_known shelf) (shelf_known shelf') (λ x _. P x)
  unread P same all = subst (λ s. ShelfSupplies (shelf_known shelf) (shelf_known s) (λ x _. P x)) (sym same) (Tells-nothing (λ x _. P x) (shelf_known shelf) all)

  pub closed : ClosedRun addresses ending shelf shelf' dock_known dock dock' → SendRun reading addresses pace stretch ending shelf_known shelf shelf' dock_known dock dock'
  closed run = record {
    run = inl run;
    unopened = Tells-weaker (ReachesFew addresses) _ (dock_known dock) (dock_known dock') run.contents (λ x y few none. inr run.fault);
    cut = Tells-weaker (ReachesFew addresses) _ (dock_known dock) (dock_known dock') run.contents
        (λ x y few. unread _ run.unread (λ files. inr (λ e. inl (opening_fails addresses x y few), λ why. run.fault)));
    complete = Tells-weaker (ReachesFew addresses) _ (dock_known dock) (dock_known dock') run.contents (λ x y few some. absurd (some (opening_fails addresses x y few)));
    done = Tells-weaker (ReachesFew addresses) _ (dock_known dock) (dock_known dock') run.contents
        (λ x y few. unread _ run.unread (λ files plan datagrams gives are takes.
        let there = takes few.k no_address few.within in
        absurd (is_found x few.k (slice_index_or addresses few.k no_address) there.0 there.1 (few.fails no_address))));
    alike = λ e. absurd (let other = sym run.fault ∙ e in cc);
    exactly = λ none. absurd (none run.fault);
    dock_cause = inr (run.fault, run.once);
    read_cause = counts_none (λ is. let other = sym run.fault ∙ is in cc) (ap (λ s. (shelf_known s).faults) run.unread);
  }

  pub unopened : UnopenedRun ending shelf shelf' dock dock' → SendRun reading addresses pace stretch ending shelf_known shelf shelf' dock_known dock dock'
  unopened run = record {
    run = inr (inr run);
    unopened = throughout_same _ (λ x none. inl run.fault);
    cut = throughout_same _ (λ x. unread _ run.unread (λ files. inl run.fault));
    complete = throughout_same _ (λ x some. unread _ run.unread (λ files plan datagrams gives are k at start within finds takes. inl run.fault));
    done = throughout_same _ (λ x. unread _ run.unread (λ files plan datagrams gives are takes. inl run.fault));
    alike = λ e. absurd (let other = sym run.fault ∙ e in cc);
    exactly = λ none. unread _ run.unread (λ files. inl run.fault);
    dock_cause = inl (ap (λ d. (dock_known d).faults) run.unopened);
    read_cause = counts_none (λ is. let other = sym run.fault ∙ is in cc) (ap (λ s. (shelf_known s).faults) run.unread);
  }
    where
      throughout_same : (P : DockContents → DockContents → Type 0) → ((x : DockContents) → P x x) → KnownThrough (dock_known dock) (dock_known dock') P
      throughout_same P all = subst (λ d. KnownThrough (dock_known dock) (dock_known d) P) (sym run.unopened) (Tells-nothing P (dock_known dock) all)

  module _ (different : AreDifferent addresses) (run : LinksRun reading addresses pace stretch ending shelf_known shelf shelf' dock_known dock dock') where
    abbrev Ran : DockContents → DockContents → Type 0
    Ran x y = GroupRan (RunComes pace stretch run.over.outcome) run.up addresses x y

    module _ (x y : DockContents) (ran : Ran x y) where
      gone : ℕ → List (List ℕ)
      gone k = gone_at k ran.events

      goes : (k : ℕ) (at : Address) → k < length addresses → (start : LinkStart) × OpeningFinds x k (slice_index_or addresses k at) start × SentDatagrams stretch run.over.outcome (is_up run.up k) start.sends (gone_at k ran.events)
      goes k at within = sent_each addresses pace stretch run.over.outcome run.up x y ran k at within

      -- it fails by a link exactly where one takes too few sends
      link_by : (ending ≡ Err faults.Link) ↔ (ReachesNone x addresses ⊎ LacksSome stretch run.over.outcome x addresses)
      link_by = (
        λ e.
            let failed = run.over.failed.0 e in
            let outcome = outcome_by run.over.outcome ending run.over.ends (inl e) in
            inr (record {
              k = failed.0;
              within = failed.1;
              lacks = λ at.
                  let there = goes failed.0 at failed.1 in
                  (there.0, there.1, lacks_by front stretch run.over.outcome there.0.sends (gone_at failed.0 ran.events) outcome.0 outcome.1 (subst (λ b. SentDatagrams stretch run.over.outcome b there.0.sends (gone_at failed.0 ran.events)) failed.2 there.2));
            }),
        λ why. elim why [
          | inl none ↦ none_fails (RunComes pace stretch run.over.outcome) run.up addresses x y ran none
          | inr lacks ↦
              let k = lacks.k in
              let here = goes k no_address lacks.within in
              let there = lacks.lacks no_address in
              let same : there.0 ≡ here.0 = found_once x k (slice_index_or addresses k no_address) there.0 here.0 there.1 here.1 in
              let few : LacksSends stretch run.over.outcome here.0.sends = subst (λ (s : LinkStart). LacksSends stretch run.over.outcome s.sends) same there.2 in
              elim (is_up_or_not (is_up run.up k)) [
                | inl up ↦ absurd (takes_by stretch run.over.outcome here.0.sends (gone_at k ran.events) (subst (λ b. SentDatagrams stretch run.over.outcome b here.0.sends (gone_at k ran.events)) up here.2) few)
                | inr down ↦ run.over.failed.1 (k, lacks.within, down)
              ]
        ],
      )

      -- all has gone over a link that takes all
      all_gone : (plan : Plan) (datagrams : List (List ℕ)) → run.over.outcome ≡ Ok plan → AreDatagrams plan stretch datagrams
          → (k : ℕ) (at : Address) (start : LinkStart) → k < length addresses → OpeningFinds x k (slice_index_or addresses k at) start → TakesSends start.sends (length datagrams)
          → (is_up run.up k ≡ true) × (gone_at k ran.events ≡ datagrams)
      all_gone plan datagrams outcome are k at start within finds takes =
          let here = goes k at within in
          let same : start ≡ here.0 = found_once x k (slice_index_or addresses k at) start here.0 finds here.1 in
          all_by one front stretch plan (is_up run.up k) here.0.sends (gone_at k ran.events) datagrams
          (subst (λ v. SentDatagrams stretch v (is_up run.up k) here.0.sends (gone_at k ran.events)) outcome here.2) are (subst (λ (s : LinkStart). TakesSends s.sends (length datagrams)) same takes)

      -- what had gone over a link that was closed
      gone_by : (k : ℕ) (at : Address) → k < length addresses → map.get y.gone (address_key (slice_index_or addresses k at)) ≡ Some (gone_at k ran.events)
      gone_by k at within = went_at addresses ran.events x y ran.contents different k at within

      -- after a run that is done all has gone over each link
      done_gone : (e : ending ≡ Ok tt) (plan : Plan) → run.over.outcome ≡ Ok plan → (k : ℕ) → k < length addresses → AreDatagrams plan stretch (gone_at k ran.events)
      done_gone e plan outcome k within =
          let here = goes k no_address within in
          elim (is_up_or_not (is_up run.up k)) [
            | inl up ↦
                (subst (λ b. SentDatagrams stretch (Ok plan) b here.0.sends (gone_at k ran.events)) up (subst (λ v. SentDatagrams stretch v (is_up run.up k) here.0.sends (gone_at k ran.events)) outcome here.2)).0
            | inr down ↦ let link = run.over.failed.1 (k, within, down) in absurd (let other = sym link ∙ e in cc)
          ]

    pub over_links : SendRun reading addresses pace stretch ending shelf_known shelf shelf' dock_known dock dock'
    over_links = record {
      run = inr (inl run);
      unopened = Tells-weaker Ran _ (dock_known dock) (dock_known dock') run.over.made (λ x y over none. none_fails (RunComes pace stretch run.over.outcome) run.up addresses x y over none);
      cut = Tells-weaker Ran _ (dock_known dock) (dock_known dock') run.over.made
          (λ x y over. Tells-weaker _ _ (shelf_known shelf) (shelf_known shelf') run.over.loads
          (λ p q is. elim (outcome_or_memory reading run.over.outcome p q is) [
            | inl memory ↦ inl (ends_memory faults.Link run.over.outcome ending run.over.ends memory)
            | inr outcome ↦ inr (subst (λ v. (ending ≡ Err faults.Link) ↔ (ReachesNone x addresses ⊎ LacksSome stretch v x addresses)) outcome (link_by x y over))
          ]));
      complete = Tells-weaker Ran _ (dock_known dock) (dock_known dock') run.over.made
          (λ x y over some. Tells-weaker _ _ (shelf_known shelf) (shelf_known shelf') run.over.loads
          (λ p q is plan datagrams gives are k at start within finds takes. elim (outcome_or_memory reading run.over.outcome p q is) [
            | inl memory ↦ inl (ends_memory faults.Link run.over.outcome ending run.over.ends memory)
            | inr outcome ↦ inr (gone_by x y over k at within ∙ ap (λ (l : List (List ℕ)). Some l) (all_gone x y over plan datagrams (outcome ∙ gives) are k at start within finds takes).1)
          ]));
      done = Tells-weaker Ran _ (dock_known dock) (dock_known dock') run.over.made
          (λ x y over. Tells-weaker _ _ (shelf_known shelf) (shelf_known shelf') run.over.loads
          (λ p q is plan datagrams gives are takes. elim (outcome_or_memory reading run.over.outcome p q is) [
            | inl memory ↦ inl (ends_memory faults.Link run.over.outcome ending run.over.ends memory)
            | inr outcome ↦ inr (elim (subst (λ v. ServeEndsBy faults.Link v ending) (outcome ∙ gives) run.over.ends) [
              | inl done ↦ done
              | inr link ↦
                  let failed = run.over.failed.0 link in
                  let there = takes failed.0 no_address failed.1 in
                  let all = all_gone x y over plan datagrams (outcome ∙ gives) are failed.0 no_address there.0 failed.1 there.1 there.2 in
                  absurd (let other = sym failed.2 ∙ all.0 in cc)
            ])
          ]));
      alike = λ e.
          let outcome = outcome_by run.over.outcome ending run.over.ends (inr e) in
          Tells-weaker Ran _ (dock_known dock) (dock_known dock') run.over.made
          (λ x y over j k at first second.
          gone_by x y over j at first
          ∙ (ap (λ (l : List (List ℕ)). Some l) (one outcome.0 stretch (gone_at j over.events) (gone_at k over.events)
          (done_gone x y over e outcome.0 outcome.1 j first) (done_gone x y over e outcome.0 outcome.1 k second))
          ∙ sym (gone_by x y over k at second)));
      exactly = λ none. ends_exactly faults.Link reading run.over.outcome ending (shelf_known shelf) (shelf_known shelf') run.over.loads run.over.ends;
      dock_cause = inl run.same;
      read_cause = run.over.read_cause;
    }

    none_sent : ending ≡ Err faults.NoMemory → IfBothKnown (dock_known dock) (dock_known dock') NothingSent
    none_sent memory =
        let none = none_by run.over.outcome ending run.over.ends memory in
        docks_while Ran NothingSent (dock_known dock) (dock_known dock') run.over.made
        (λ x y over. nothing_went addresses over.events x y over.contents
        (λ k. let come = subst (λ v. RunComes pace stretch v (replicate (length addresses) true) over.events run.up) none.1 over.comes in ap (gone_at k) come.0))

  pub nothing_sent : AreDifferent addresses → SendRun reading addresses pace stretch ending shelf_known shelf shelf' dock_known dock dock' → ending ≡ Err faults.NoMemory → IfBothKnown (dock_known dock) (dock_known dock') NothingSent
  nothing_sent different sent memory = elim sent.run [
    | inl run ↦ let other : faults.Link ≡ faults.NoMemory = inner_fault faults.Link faults.NoMemory (sym run.fault ∙ memory) in absurd cc
    | inr others ↦ elim others [
      | inl run ↦ none_sent different run memory
      | inr run ↦
          subst (λ d. IfBothKnown (dock_known dock) (dock_known d) NothingSent) (sym run.unopened)
          (docks_while NothingSent NothingSent (dock_known dock) (dock_known dock) (Tells-nothing NothingSent (dock_known dock) (λ x. ([], refl))) (λ x y none. none))
    ]
  ]
