use Rattle.std.proofs.Common.{◌≡◌, ◌∙◌, inl, true, false, [], ◌∷◌, Err, refl, sym, ap, subst}
use Rattle.drm_links.specs.Known.{IfBothKnown}
use Rattle.drm_links.specs.Gathering.{NothingSent}
use Rattle.drm_links.proofs.KnownLemmas.{counts_none}
use Rattle.cmd_faults.specs.Fault.{whole_of}
use Rattle.cmd_faults.proofs.CauseLemmas.{one_alone, other_alone, none_failed, opening_as}
use Rattle.cmd_faults.specs.declared.fault.Fault.{Fault}
use Rattle.cmd_faults.specs.declared.fault.Fault.TheVariants as faults
use Rattle.drm_top.specs.Outside.{outside}
use Rattle.drm_top.proofs.CommandLemmas.{fault_of_whole, whole_cause, whole_lacks_none, dock_still, not_else, not_convert, not_a_link, not_gate, no_gate}
use Rattle.drm_top.proofs.ServeLemmas.{sends, opens_some, at_least_one, lacks_live}
use Rattle.cmd_receive.specs.Stopping.{clean_ending}
use Rattle.cmd_receive.proofs.OpeningLemmas.{opens_unsent}
use Rattle.cmd_count.specs.Run.{unseen}
use Rattle.drm_top.proofs.command.run_command.Goals as goal

pub returns-in-Fac : goal.returns-in-Fac
returns-in-Fac g c = record {
  words = λ e. c.fac.ensures.words (fault_of_whole c.whole.result c.fac.result faults.Words c.whole.ensures e);
  memory = λ e. absurd (c.fac.ensures.memory (fault_of_whole c.whole.result c.fac.result faults.NoMemory c.whole.ensures e));
  run = rw c.in-Fac.is ((c.fac.result, c.whole.ensures, c.fac.ensures.run), refl, refl, (c.requires.err_ok, refl));
  read = λ _. one_alone (whole_cause c.whole.result c.fac.result faults.Read c.whole.ensures c.fac.ensures.run.read_cause) refl;
  write = whole_cause c.whole.result c.fac.result faults.Write c.whole.ensures c.fac.ensures.run.write_cause;
  opening = inl refl;
  link = λ e. absurd (c.fac.ensures.link (fault_of_whole c.whole.result c.fac.result faults.Link c.whole.ensures e));
  lacking = λ e. absurd (whole_lacks_none c.whole.result c.fac.result c.whole.ensures e);
  unsent = λ e. dock_still (g.D.Dock.known c.args.dock.now);
  dock = λ none. refl;
}

pub returns-in-Check : goal.returns-in-Check
returns-in-Check g c = record {
  words = λ e. c.check.ensures.words (fault_of_whole c.whole-in-Check.result c.check.result faults.Words c.whole-in-Check.ensures e);
  memory = λ e. (refl, c.check.ensures.memory (fault_of_whole c.whole-in-Check.result c.check.result faults.NoMemory c.whole-in-Check.ensures e));
  run = rw c.in-Check.is ((c.check.result, c.whole-in-Check.ensures, rw (← c.text.ensures) c.check.ensures.run), refl, refl, (c.requires.err_ok, refl));
  read = λ _. other_alone refl (whole_cause c.whole-in-Check.result c.check.result faults.Read c.whole-in-Check.ensures c.check.ensures.run.read_cause);
  write = whole_cause c.whole-in-Check.result c.check.result faults.Write c.whole-in-Check.ensures c.check.ensures.run.write_cause;
  opening = inl refl;
  link = λ e. absurd (c.check.ensures.link (fault_of_whole c.whole-in-Check.result c.check.result faults.Link c.whole-in-Check.ensures e));
  lacking = λ e. absurd (whole_lacks_none c.whole-in-Check.result c.check.result c.whole-in-Check.ensures e);
  unsent = λ e. dock_still (g.D.Dock.known c.args.dock.now);
  dock = λ none. refl;
}

pub returns-in-Capacity : goal.returns-in-Capacity
returns-in-Capacity g c = record {
  words = λ e. c.capacity.ensures.words e;
  memory = λ e. (refl, c.capacity.ensures.memory e);
  run = rw c.in-Capacity.is (rw (← c.text-in-Capacity.ensures) c.capacity.ensures.run, refl, refl, (c.requires.err_ok, refl));
  read = λ _. other_alone refl c.capacity.ensures.read;
  write = c.capacity.ensures.write;
  opening = inl refl;
  link = λ e. absurd (c.capacity.ensures.link e);
  lacking = λ e. rw c.in-Capacity.is tt;
  unsent = λ e. dock_still (g.D.Dock.known c.args.dock.now);
  dock = λ none. refl;
}

pub returns-in-Agree : goal.returns-in-Agree
returns-in-Agree g c = record {
  words = λ e. c.agree.ensures.words (fault_of_whole c.whole-in-Agree.result c.agree.result faults.Words c.whole-in-Agree.ensures e);
  memory = λ e. (refl, c.agree.ensures.memory (fault_of_whole c.whole-in-Agree.result c.agree.result faults.NoMemory c.whole-in-Agree.ensures e));
  run = rw c.in-Agree.is ((c.agree.result, c.whole-in-Agree.ensures, rw (← c.text-in-Agree.ensures, ← c.text-in-Agree-2.ensures) c.agree.ensures.run), refl, refl, (c.requires.err_ok, refl));
  read = λ _. other_alone refl (whole_cause c.whole-in-Agree.result c.agree.result faults.Read c.whole-in-Agree.ensures c.agree.ensures.run.read_cause);
  write = whole_cause c.whole-in-Agree.result c.agree.result faults.Write c.whole-in-Agree.ensures c.agree.ensures.run.write_cause;
  opening = inl refl;
  link = λ e. absurd (c.agree.ensures.link (fault_of_whole c.whole-in-Agree.result c.agree.result faults.Link c.whole-in-Agree.ensures e));
  lacking = λ e. absurd (whole_lacks_none c.whole-in-Agree.result c.agree.result c.whole-in-Agree.ensures e);
  unsent = λ e. dock_still (g.D.Dock.known c.args.dock.now);
  dock = λ none. refl;
}

-- a capture of a schedule
pub returns-then-is_empty : goal.returns-then-is_empty
returns-then-is_empty g c =
    let none : c.in-Serve.to ≡ [] = c.is_empty.ensures.0 c.if-is_empty.true in
    record {
      words = λ e. c.serve.ensures.words e;
      memory = λ e. c.serve.ensures.memory e;
      run = rw (c.in-Serve.is, none) ((rw (← c.text-name.ensures) c.serve.ensures.run, c.serve.ensures.nothing), refl, (c.requires.err_ok, refl));
      read = λ _. c.serve.ensures.read;
      write = c.serve.ensures.write;
      opening = inl refl;
      link = λ e. absurd (c.serve.ensures.link e);
      lacking = λ e. rw (c.in-Serve.is, lacks_live c.in-Serve.live c.args.input.now c.serve.new.input c.serve.result c.serve.ensures.nothing e) refl;
      unsent = λ e. dock_still (g.D.Dock.known c.args.dock.now);
      dock = λ none. refl;
    }

-- and over links
pub send-requires-clause-at_least_one : goal.send-requires-clause-at_least_one
send-requires-clause-at_least_one g c =
    at_least_one c.in-Serve.to (λ none. let yes = c.is_empty.ensures.1 none in let no = c.if-is_empty.false in absurd cc)

pub returns-else-is_empty : goal.returns-else-is_empty
returns-else-is_empty g c =
    let some : c.in-Serve.to ≡ [] → ⊥ = λ none. let yes = c.is_empty.ensures.1 none in let no = c.if-is_empty.false in absurd cc in
    record {
      words = λ e. c.send.ensures.words e;
      memory = λ e. (c.send.ensures.memory e, refl);
      run = rw c.in-Serve.is (sends c.in-Serve.name c.in-Serve.to c.in-Serve.pace c.in-Serve.from c.in-Serve.until c.in-Serve.live c.send.result c.args.err_ok.now (outside
          g.S.Shelf.known c.args.shelf.now c.send.new.shelf g.I.Source.known c.args.input.now c.send.new.input g.O.Sink.known c.args.out.now c.args.out.now
          g.E.Sink.known c.args.err.now c.args.err.now g.D.Dock.known c.args.dock.now c.send.new.dock) some
          ((rw (← c.text-name.ensures) c.send.ensures.run, c.send.ensures.nothing), refl, (c.requires.err_ok, refl)));
      read = c.send.ensures.read;
      write = counts_none c.send.ensures.write refl;
      opening = c.send.ensures.opening;
      link = λ e. rw c.in-Serve.is (opens_some c.in-Serve.name c.in-Serve.to c.in-Serve.pace c.in-Serve.from c.in-Serve.until c.in-Serve.live some);
      lacking = λ e. rw (c.in-Serve.is, lacks_live c.in-Serve.live c.args.input.now c.send.new.input c.send.result c.send.ensures.nothing e) refl;
      unsent = λ e. c.send.ensures.unsent e;
      dock = λ none. absurd (none (rw c.in-Serve.is (opens_some c.in-Serve.name c.in-Serve.to c.in-Serve.pace c.in-Serve.from c.in-Serve.until c.in-Serve.live some)));
    }

-- ---- what receives, from links or from a capture

pub receive-requires-clause-rules : goal.receive-requires-clause-rules
receive-requires-clause-rules g c = λ lifetimes within. rw c.options_of-options.ensures ((rw (c.in-Receive.is, c.in-Some.is) at c.requires.range).0)

pub receive-requires-clause-listed : goal.receive-requires-clause-listed
receive-requires-clause-listed g c = λ lifetimes within. (rw (c.in-Receive.is, c.in-Some.is) at c.requires.range).1

pub receive_from_capture-requires : goal.receive_from_capture-requires
receive_from_capture-requires g c = rw c.options_of-options.ensures (rw (c.in-Receive.is, c.in-None.is) at c.requires.range)

pub returns-in-Some-clause-run : goal.returns-in-Some-clause-run
returns-in-Some-clause-run g c = rw (c.in-Receive.is, c.in-Some.is) (rw c.options_of-options.ensures at c.receive.ensures.run, refl, refl, (c.requires.err_ok, refl))

pub returns-in-Some-clause-read : goal.returns-in-Some-clause-read
returns-in-Some-clause-read g c = λ _. none_failed (λ e. not_gate faults.Read (λ is. cc) (λ is. cc) (λ is. cc) (c.receive.ensures.run.kind faults.Read e)) refl refl

pub returns-in-Some-clause-opening : goal.returns-in-Some-clause-opening
returns-in-Some-clause-opening g c = c.receive.ensures.run.dock_cause

pub returns-in-Some-clause-unsent : goal.returns-in-Some-clause-unsent
returns-in-Some-clause-unsent g c = λ e. opens_unsent c.options_of-options.result c.in-Some.links c.receive.result g.O.Sink.known c.args.out.now c.receive.new.out (g.D.Dock.known c.args.dock.now) (g.D.Dock.known c.receive.new.dock) c.receive.ensures.run.opens

pub returns-in-Some-clause-link : goal.returns-in-Some-clause-link
returns-in-Some-clause-link g c = λ e. rw (c.in-Receive.is, c.in-Some.is) tt

pub returns-in-Some-clause-lacking : goal.returns-in-Some-clause-lacking
returns-in-Some-clause-lacking g c = λ e. rw c.in-Receive.is tt

pub returns-in-Some-clause-dock : goal.returns-in-Some-clause-dock
returns-in-Some-clause-dock g c = λ none. absurd (none (rw (c.in-Receive.is, c.in-Some.is) tt))

pub returns-in-None : goal.returns-in-None
returns-in-None g c =
    let run = c.receive_from_capture.ensures.run in
    record {
      words = λ e. run.kind faults.Words e;
      memory = λ e. run.untouched e;
      run = rw (c.in-Receive.is, c.in-None.is) (rw c.options_of-options.ensures at run, refl, refl, (c.requires.err_ok, refl));
      read = λ _. one_alone run.read_cause refl;
      write = run.write_cause;
      opening = inl refl;
      link = λ e. absurd (run.kind faults.Link e);
      lacking = λ e. rw c.in-Receive.is tt;
      unsent = λ e. dock_still (g.D.Dock.known c.args.dock.now);
      dock = λ none. refl;
    }

-- ---- what counts

pub count-requires : goal.count-requires
count-requires g c = rw c.options_of-options-in-Count.ensures (rw c.in-Count.is at c.requires.range)

pub count_capture-requires : goal.count_capture-requires
count_capture-requires g c = rw c.options_of-options-in-Count.ensures (rw c.in-Count.is at c.requires.range)

pub returns-in-Some-address-clause-unsent : goal.returns-in-Some-address-clause-unsent
returns-in-Some-address-clause-unsent g c = λ e.
    let run = c.count.ensures.run in
    opens_unsent c.options_of-options-in-Count.result (c.in-Some-address.at ∷ []) (clean_ending run.counted) unseen run.sink run.sink
    (g.D.Dock.known c.args.dock.now) (g.D.Dock.known c.count.new.dock) run.reads.receives.opens

pub returns-in-Air-clause-read : goal.returns-in-Air-clause-read
returns-in-Air-clause-read g c = λ _. other_alone refl c.air.ensures.run.read_cause

pub returns-in-Show : goal.returns-in-Show
returns-in-Show g c =
    let run = c.show.ensures in
    record {
      words = λ e. run.kind faults.Words e;
      memory = λ e. run.untouched e;
      run = rw c.in-Show.is (run, refl, refl, (c.requires.err_ok, refl));
      read = λ _. one_alone run.read_cause refl;
      write = run.write_cause;
      opening = inl refl;
      link = λ e. absurd (run.kind faults.Link e);
      lacking = λ e. rw c.in-Show.is tt;
      unsent = λ e. dock_still (g.D.Dock.known c.args.dock.now);
      dock = λ none. refl;
    }

pub returns-in-Exercise : goal.returns-in-Exercise
returns-in-Exercise g c =
    let run = c.exercise.ensures.run in
    record {
      words = λ e. not_else faults.Words (λ is. cc) (λ is. cc) (run.kind faults.Words e);
      memory = λ e. (refl, run.untouched e);
      run = rw c.in-Exercise.is (run, refl, refl, refl, (c.requires.err_ok, refl));
      read = λ _. none_failed (λ e. not_else faults.Read (λ is. cc) (λ is. cc) (run.kind faults.Read e)) refl refl;
      write = run.write_cause;
      opening = inl refl;
      link = λ e. absurd (not_else faults.Link (λ is. cc) (λ is. cc) (run.kind faults.Link e));
      lacking = λ e. rw c.in-Exercise.is tt;
      unsent = λ e. dock_still (g.D.Dock.known c.args.dock.now);
      dock = λ none. refl;
    }

-- ---- what reads a capture, frame by frame

pub convert-requires-clause-range : goal.convert-requires-clause-range
convert-requires-clause-range g c = rw c.range_of-range.ensures ((rw c.in-Convert.is at c.requires.range).1)

pub unpack-requires-clause-range : goal.unpack-requires-clause-range
unpack-requires-clause-range g c = rw c.range_of-range-in-Unpack.ensures ((rw c.in-Unpack.is at c.requires.range).3)

pub texts-requires-clause-range : goal.texts-requires-clause-range
texts-requires-clause-range g c = rw c.range_of-range-in-Texts.ensures ((rw c.in-Texts.is at c.requires.range).1)

pub returns-in-Convert : goal.returns-in-Convert
returns-in-Convert g c =
    let run = c.convert.ensures.run in
    record {
      words = λ e. not_convert c.range_of-range.result c.in-Convert.carry _ _ _ _ _ _ _ _ run.ends e;
      memory = λ e. (let none = run.untouched e in (none.0, none.1));
      run = rw c.in-Convert.is (rw c.range_of-range.ensures at run, refl, refl);
      read = λ _. one_alone run.read_cause refl;
      write = run.write_cause;
      opening = inl refl;
      link = λ e. absurd (not_a_link c.range_of-range.result c.in-Convert.carry _ _ _ _ _ _ _ _ run.ends e);
      lacking = λ e. rw c.in-Convert.is tt;
      unsent = λ e. dock_still (g.D.Dock.known c.args.dock.now);
      dock = λ none. refl;
    }

pub gate-requires-clause-rules : goal.gate-requires-clause-rules
gate-requires-clause-rules g c = rw c.options_of-options-in-Gate.ensures ((rw c.in-Gate.is at c.requires.range).1)

pub returns-in-Gate : goal.returns-in-Gate
returns-in-Gate g c =
    let run = c.gate.ensures in
    record {
      words = λ e. not_gate faults.Words (λ is. cc) (λ is. cc) (λ is. cc) (run.kind faults.Words e);
      memory = λ e. (refl, (no_gate c.options_of-options-in-Gate.result c.in-Gate.carry c.in-Gate.from c.in-Gate.to _ _ _ _ _ _ _ e run.run).1);
      run = rw c.in-Gate.is (rw c.options_of-options-in-Gate.ensures at run, refl, refl, (c.requires.err_ok, refl));
      read = λ _. none_failed (λ e. not_gate faults.Read (λ is. cc) (λ is. cc) (λ is. cc) (run.kind faults.Read e)) refl refl;
      write = run.write_cause;
      opening = run.dock_cause;
      link = λ e. rw c.in-Gate.is tt;
      lacking = λ e. rw c.in-Gate.is tt;
      unsent = λ e.
          subst (λ d. IfBothKnown (g.D.Dock.known c.args.dock.now) (g.D.Dock.known d) NothingSent)
          (sym (no_gate c.options_of-options-in-Gate.result c.in-Gate.carry c.in-Gate.from c.in-Gate.to _ _ _ _ _ _ _ e run.run).0) (dock_still (g.D.Dock.known c.args.dock.now));
      dock = λ none. absurd (none (rw c.in-Gate.is tt));
    }

pub returns-in-Pack : goal.returns-in-Pack
returns-in-Pack g c =
    let run = c.pack.ensures.run in
    let fault : (fault : Fault) → c.whole-in-Pack.result ≡ Err fault → c.pack.result ≡ Err fault =
    λ fault e. fault_of_whole c.whole-in-Pack.result c.pack.result fault c.whole-in-Pack.ensures e in
    record {
      words = λ e. run.kind faults.Words (fault faults.Words e);
      memory = λ e. run.untouched (fault faults.NoMemory e);
      run = rw c.in-Pack.is ((c.pack.result, c.whole-in-Pack.ensures, run), refl, refl, (c.requires.err_ok, refl));
      read = λ _. one_alone (whole_cause c.whole-in-Pack.result c.pack.result faults.Read c.whole-in-Pack.ensures run.read_cause) refl;
      write = whole_cause c.whole-in-Pack.result c.pack.result faults.Write c.whole-in-Pack.ensures run.write_cause;
      opening = inl refl;
      link = λ e. absurd (run.kind faults.Link (fault faults.Link e));
      lacking = λ e. absurd (whole_lacks_none c.whole-in-Pack.result c.pack.result c.whole-in-Pack.ensures e);
      unsent = λ e. dock_still (g.D.Dock.known c.args.dock.now);
      dock = λ none. refl;
    }

pub returns-in-Unpack : goal.returns-in-Unpack
returns-in-Unpack g c =
    let run = c.unpack.ensures.run in
    record {
      words = λ e. run.kind faults.Words e;
      memory = λ e. run.untouched e;
      run = rw c.in-Unpack.is (rw c.range_of-range-in-Unpack.ensures at run, refl, refl, (c.requires.err_ok, refl));
      read = λ _. one_alone run.read_cause refl;
      write = run.write_cause;
      opening = inl refl;
      link = λ e. absurd (run.kind faults.Link e);
      lacking = λ e. rw c.in-Unpack.is tt;
      unsent = λ e. dock_still (g.D.Dock.known c.args.dock.now);
      dock = λ none. refl;
    }

pub returns-in-Texts : goal.returns-in-Texts
returns-in-Texts g c =
    let run = c.texts.ensures.run in
    record {
      words = λ e. run.kind faults.Words e;
      memory = λ e. run.untouched e;
      run = rw c.in-Texts.is (rw c.range_of-range-in-Texts.ensures at run, refl, refl, (c.requires.err_ok, refl));
      read = λ _. one_alone run.read_cause refl;
      write = run.write_cause;
      opening = inl refl;
      link = λ e. absurd (run.kind faults.Link e);
      lacking = λ e. rw c.in-Texts.is tt;
      unsent = λ e. dock_still (g.D.Dock.known c.args.dock.now);
      dock = λ none. refl;
    }
