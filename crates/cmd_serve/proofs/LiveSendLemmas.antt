-- A run with live streams over links that were opened and closed.
use Rattle.std.proofs.Common.{◌≡◌, ℕ, ◌⊎◌, inl, inr, Bool, true, List, [], ◌∷◌, ◌++◌, length, replicate, Option, None, Some, Result, Err, refl, sym, ◌∙◌, ap, subst, append_assoc}
use Rattle.std.proofs.lemmas.List.{append-nil, length-replicate}
use Rattle.drm_links.specs.Known.{Known, KnownThrough, IfBothKnown}
use Rattle.drm_links.specs.Shelf.{Files}
use Rattle.drm_links.specs.Source.{Input}
use Rattle.drm_links.specs.Dock.{DockContents, AreDifferent}
use Rattle.drm_links.specs.History.{GroupEvent, History, EventsHappen, TellsEvents}
use Rattle.drm_links.specs.Gathering.{DockGathers, DockDisbands, NothingSent, after_disbanding}
use Rattle.drm_links.specs.declared.dock.GatheredGroup.TheVariants as gathered
use Rattle.drm_links.specs.declared.dock.Address.{Address}
use Rattle.drm_schedule.specs.declared.live.Live.{Live}
use Rattle.drm_schedule.specs.declared.plan.Plan.{Plan}
use Rattle.drm_server.specs.Laws.{HasOneDelivery, FirstOnesArePrefix}
use Rattle.drm_server.specs.Serving.{FramesCome}
use Rattle.cmd_load.specs.Loading.{ShelfReading}
use Rattle.cmd_faults.specs.Fault.{done_of}
use Rattle.cmd_faults.specs.Causes.{OneFailed, OpeningFailed}
use Rattle.cmd_faults.proofs.CauseLemmas.{one_alone, other_alone}
use Rattle.drm_links.proofs.KnownLemmas.{counts_as, counts_one, Tells-then}
use Rattle.cmd_faults.specs.declared.fault.Fault.{Fault}
use Rattle.cmd_faults.specs.declared.fault.Fault.TheVariants as faults
use Rattle.drm_server.specs.declared.stretch.Stretch.{Stretch}
use Rattle.drm_server.specs.Stretch.{first_in}
use Rattle.live_server.specs.Feeding.{fed}
use Rattle.cmd_serve.specs.Live.{live_named, FedRun, BrokenOver, BrokenSend}
use Rattle.cmd_serve.specs.OverGroup.{GroupComes, OverGroup}
use Rattle.cmd_serve.specs.Send.{RunComes, GroupRan, RunOver, SendRun, ClosedRun, UnopenedRun}
use Rattle.cmd_serve.proofs.SendLemmas.{closed, unopened, over_links, nothing_sent}
use Rattle.cmd_serve.proofs.LiveLemmas.{unfed}
use Rattle.cmd_serve.proofs.LiveServeLemmas.{read_of}

-- what a group tells of itself is what it told before, and what happened since
all_events : (events : List GroupEvent) (x y : History) → EventsHappen events x y → y.events ≡ x.events ++ events
all_events [] x y happen = ap (λ (h : History). h.events) happen ∙ sym (append-nil x.events)
all_events (event ∷ events) x y happen =
    all_events events happen.0 y happen.2 ∙ (ap (λ l. l ++ events) happen.1.events ∙ append_assoc x.events (event ∷ []) events)

-- not for want of memory
not_memory : (P Q : Type 0) (ending : Result Bool Fault) → ((ending ≡ Err faults.Read) × P) ⊎ ((ending ≡ Err faults.Link) × Q) → ending ≡ Err faults.NoMemory → ⊥
not_memory P Q ending (inl (is, p)) memory = let both = sym is ∙ memory in cc
not_memory P Q ending (inr (is, q)) memory = let both = sym is ∙ memory in cc

module _ {S D : Type 0} (one : HasOneDelivery) (front : FirstOnesArePrefix) (name : List ℕ) (addresses : List Address) (pace : ℕ) (stretch : Stretch) (live : Live)
    (shelf_known : S → Known Files) (shelf shelf' : S) (dock_known : D → Known DockContents) (dock dock' : D) where
  abbrev RunOf : Result Bool Fault → ShelfReading Plan → Type 0
  RunOf ending reading = SendRun reading addresses pace stretch (done_of ending) shelf_known shelf shelf' dock_known dock dock'

  abbrev Ran : Result Bool Fault → Known Input → Known Input → Type 0
  Ran ending input input' =
      FedRun name live stretch ending shelf_known shelf shelf' input input' (RunOf ending) ⊎ BrokenSend name addresses pace stretch live ending shelf_known shelf shelf' input input' dock_known dock dock'

  -- an opening failed
  pub live_closed : (input : Known Input) → ClosedRun addresses (Err faults.Link) shelf shelf' dock_known dock dock' → Ran (Err faults.Link) input input
  live_closed input run =
      inl (unfed name live stretch shelf_known shelf shelf' faults.Link input (RunOf (Err faults.Link))
      (λ bytes. closed one front (live_named name live (first_in stretch) bytes) addresses pace stretch (Err faults.Link) shelf_known shelf shelf' dock_known dock dock' run))

  -- there was no memory for the links
  pub live_unopened : (input : Known Input) → UnopenedRun (Err faults.NoMemory) shelf shelf' dock dock' → Ran (Err faults.NoMemory) input input
  live_unopened input run =
      inl (unfed name live stretch shelf_known shelf shelf' faults.NoMemory input (RunOf (Err faults.NoMemory))
      (λ bytes. unopened one front (live_named name live (first_in stretch) bytes) addresses pace stretch (Err faults.NoMemory) shelf_known shelf shelf' dock_known dock dock' run))

  -- after want of memory nothing has gone
  pub live_nothing_sent : (ending : Result Bool Fault) (input input' : Known Input) → AreDifferent addresses → Ran ending input input' → ending ≡ Err faults.NoMemory → IfBothKnown (dock_known dock) (dock_known dock') NothingSent
  live_nothing_sent ending input input' different (inl fed) memory =
      nothing_sent one front (live_named name live (first_in stretch) (fed.bytes ++ [])) addresses pace stretch (done_of ending) shelf_known shelf shelf' dock_known dock dock' different (fed.runs [] (λ end. refl)) (ap done_of memory)
  live_nothing_sent ending input input' different (inr broken) memory = absurd (not_memory _ _ ending broken.over.ends memory)

  -- unless a link failed, a read failed, of input or of the shelf, exactly where that is told
  pub sent_read : (ending : Result Bool Fault) (input input' : Known Input) → Ran ending input input' → (ending ≡ Err faults.Link → ⊥) → OneFailed input input' (shelf_known shelf) (shelf_known shelf') (ending ≡ Err faults.Read)
  sent_read ending input input' (inl fed) none = other_alone fed.same (counts_as (λ e. ap done_of e) (λ e. read_of ending faults.Read e) (fed.runs [] (λ end. refl)).read_cause)
  sent_read ending input input' (inr broken) none = one_alone (counts_one (elim broken.over.ends [ inl read ↦ read.0 | inr link ↦ absurd (none link.0) ]) broken.over.run.once) broken.over.run.loaded

  -- the dock's count of faults rose only where an opening failed
  pub sent_dock : (ending : Result Bool Fault) (input input' : Known Input) → Ran ending input input' → OpeningFailed (dock_known dock) (dock_known dock') (ending ≡ Err faults.Link)
  sent_dock ending input input' (inl fed) = elim (fed.runs [] (λ end. refl)).dock_cause [
    | inl same ↦ inl same
    | inr failed ↦ inr (read_of ending faults.Link failed.0, failed.1)
  ]
  sent_dock ending input input' (inr broken) = inl broken.same

  -- a group was opened, and closed again
  module _ {G : Type 0} (known : G → Known History) (mid : Known DockContents) (group group' : G) (up' : List Bool)
      (opens : KnownThrough (dock_known dock) mid (DockGathers known None addresses (gathered.Group group)))
      (shut : KnownThrough mid (dock_known dock') (DockDisbands (known group') None addresses)) where
    ran : (Comes : List Bool → List GroupEvent → List Bool → Type 0) → GroupComes (replicate (length addresses) true) up' (known group) (known group') Comes
        → KnownThrough (dock_known dock) (dock_known dock') (GroupRan Comes up' addresses)
    ran Comes made =
        Tells-then (DockGathers known None addresses (gathered.Group group)) (DockDisbands (known group') None addresses) (GroupRan Comes up' addresses) (dock_known dock) mid (dock_known dock') opens shut
        (λ x y z p q.
        let P : Option History → Type 0 = λ o. TellsEvents made.0 o (known group').contents in
        let Q : Option History → Type 0 = λ o. TellsEvents made.0 (Some p.0) o in
        let happened : EventsHappen made.0 p.0 q.0 = subst Q q.1 (subst P p.1 made.2.told) in
        let events : q.0.events ≡ made.0 = all_events made.0 p.0 q.0 happened ∙ ap (λ l. l ++ made.0) p.2.events in
        record {
          start = p.0;
          starts = p.2;
          events = made.0;
          last = q.0;
          happened = happened;
          comes = made.1;
          contents = q.2 ∙ (ap (λ l. after_disbanding None addresses l y) events ∙ ap (after_disbanding None addresses made.0) p.3);
        })

    -- each of its links was up
    pub live_over : (different : AreDifferent addresses) (up : List Bool) → up ≡ replicate (length addresses) true → (dock_known dock').faults ≡ (dock_known dock).faults
        → (ending : Result Bool Fault) (input input' : Known Input) → OverGroup name pace stretch live ending shelf_known shelf shelf' input input' up up' (known group) (known group') → Ran ending input input'
    live_over different up is same ending input input' run =
        by (subst (λ (links : ℕ). Over links (replicate (length addresses) true)) (length-replicate (length addresses) true) (subst (λ l. Over (length l) l) is run))
      where
        Over : ℕ → List Bool → Type 0
        Over links l =
            FedRun name live stretch ending shelf_known shelf shelf' input input' (λ reading. RunOver reading pace stretch (done_of ending) shelf_known shelf shelf' links up' (GroupComes l up' (known group) (known group')))
            ⊎ BrokenOver name pace stretch live ending shelf_known shelf shelf' input input' links up' (GroupComes l up' (known group) (known group'))

        by : Over (length addresses) (replicate (length addresses) true) → Ran ending input input'
        by (inl run_fed) = inl (record {
          bytes = run_fed.bytes;
          ended = run_fed.ended;
          read = run_fed.read;
          runs = λ more last.
              let run = run_fed.runs more last in
              over_links one front (live_named name live (first_in stretch) (run_fed.bytes ++ more)) addresses pace stretch (done_of ending) shelf_known shelf shelf' dock_known dock dock' different
              (record {
                up = up';
                over = record {
                  outcome = run.outcome;
                  loads = run.loads;
                  sound = run.sound;
                  ends = run.ends;
                  made = ran (RunComes pace stretch run.outcome) run.made;
                  failed = run.failed;
                  read_cause = run.read_cause;
                };
                same = same;
              });
          same = run_fed.same;
          taken = run_fed.taken;
        })
        by (inr over) =
            let run = over.run in
            let broken = run.broken in
            inr (record {
              up = up';
              over = record {
                left = over.left;
                ends = over.ends;
                run = record {
                  plan = run.plan;
                  loads = run.loads;
                  sound = run.sound;
                  n = run.n;
                  within = run.within;
                  broken = record {
                    bytes = broken.bytes;
                    read = broken.read;
                    breaks = broken.breaks;
                    made = λ more last. ran (FramesCome (fed live run.plan (first_in stretch) (broken.bytes ++ more)) (first_in stretch) pace run.n) (broken.made more last);
                  };
                  once = run.once;
                  loaded = run.loaded;
                };
              };
              same = same;
            })
