-- A conversion of a capture, item by item.
use Rattle.std.proofs.Common.{◌≡◌, ℕ, ◌<◌, true, false, List, [], ◌∷◌, ◌++◌, Option, Ok, Err, sym, subst, append_assoc, IfSome}
use Rattle.std.proofs.lemmas.List.{append-nil}
use Rattle.recv_reading.proofs.Common.{Known, Input, Output, OutputsText, Taken, CollectorState, ready, CollectorItem, MayBeFirst, KeepsFirst, first_of}
use Rattle.recv_reading.proofs.Common.{ReadingState, has_enough, has_ended, ReadingReached, ReadsOn}
use Rattle.recv_reading.specs.declared.options.ReceiveOptions.{ReceiveOptions}
use Rattle.drm_links.proofs.WritingLemmas.{front_behind}
use Rattle.capture_reader.specs.Capture.{most_bytes}
use Rattle.capture_reader.specs.Walking.{WalkerState}
use Rattle.capture_reader.specs.declared.packets.CaptureStop.{CaptureStop}
use Rattle.capture_reader.specs.declared.packets.CaptureStop.TheVariants as stops
use Rattle.dcp_pft.specs.declared.carry.Carry.{Carry}
use Rattle.recv_reading.specs.Source.{ReadSoFar, HeardUntil}
use Rattle.recv_reading.specs.Packets.{range_of}
use Rattle.recv_reading.proofs.First.{first_itself}
use Rattle.recv_reading.proofs.Finishing.{IsOver, finishes}
use Rattle.recv_reading.proofs.Looping.{Loop, loop_given, loop_on}
use Rattle.recv_reading.proofs.PacketLemmas.{gives_to, gives_all, gives_until}
use Rattle.cmd_convert.specs.declared.item.ItemError.{ItemError}
use Rattle.cmd_convert.specs.declared.item.ItemError.TheVariants as halt
use Rattle.cmd_convert.specs.declared.naming.Progress.{Progress}
use Rattle.cmd_convert.specs.declared.reading.ConvertError.TheVariants as unconverted
use Rattle.cmd_convert.specs.Converting.{IsTooLarge, text_of, lines_of}
use Rattle.cmd_convert.specs.Steps.{ItemWriteFails}
use Rattle.cmd_convert.specs.Naming.{NamesItems}
use Rattle.cmd_convert.specs.Converted.{ConvertedAll, ConvertsNext}
use Rattle.cmd_convert.specs.Run.{ConvertEnds, ConversionEndsEarly, WritesAll}
use Rattle.cmd_convert.specs.Reading.{new_progress, fault_of}
use Rattle.cmd_convert.proofs.PartLemmas.{all_one, all_then, all_later, all_join, failing_at}

-- all that was given was converted
abbrev pub Converting : Carry → Progress → Known Output → Known Output → Known Output → Known Output → List Taken → List CollectorItem → List CollectorItem → CollectorState → Type 0
Converting carry p a b x y = λ taken during more c. ConvertedAll carry c (during ++ more) new_progress p a b x y

module _ (options : ReceiveOptions) (carry : Carry) (r : ReadingState) (c : CollectorState) (p : Progress) (reader : WalkerState) (before after : Known Input) (a b x y : Known Output)
    (i : Loop options (ReadSoFar reader before after) (Converting carry p a b x y) r c) where
  -- ---- an item

  pub one_given : (used : Carry) (s : ReadingState) (d : CollectorState) (q : Progress) (done : Unit {0}) (o z : Known Output) (n : ConvertsNext (Ok done) used c p q b o y z)
      → used ≡ carry → ReadingReached options i.answers i.taken i.during (i.more ++ n.item ∷ []) s d → KeepsFirst c d → Loop options (ReadSoFar reader before after) (Converting carry q a o x z) s d
  one_given used s d q done o z n same reached keeps =
      loop_given _ _ _ _ _ i (Converting carry q a o x z) n.item s d reached
      (subst (λ l. ConvertedAll carry d l new_progress q a o x z) (append_assoc i.during i.more (n.item ∷ []))
      (all_later carry c d ((i.during ++ i.more) ++ n.item ∷ []) new_progress q a o x z keeps
      (all_then carry c c (i.during ++ i.more) (n.item ∷ []) new_progress p q a b o x y z (λ f may. may) i.has
      (subst (λ k. ConvertedAll k c (n.item ∷ []) p q b o y z) same (all_one used c n.item p q b o y z i.reached.knows n.is n.one)))))

  -- it stopped at an item
  pub loop_halted : (used : Carry) (q : Progress) (why : ItemError) (o z : Known Output) (n : ConvertsNext (Err why) used c p q b o y z) → used ≡ carry
      → has_enough r ≡ false → ready c ≡ true → most_bytes < options.limit → ConvertEnds (range_of options) carry (Err (fault_of (unconverted.Halted why))) q.err_ok before after a o x z
  loop_halted used q halt.Write o z n same enough now far =
      let (gives, last) = gives_to options i.answers i.taken i.during i.more r c i.reached far reader before after n.item enough now n.is i.heard in
      let (failing, err_same, stays) = n.one in
      let here = subst (λ k. ItemWriteFails k (first_of c) n.item b o) same failing in
      let f : ℕ = first_of gives.last in
      let may : MayBeFirst c f = subst (λ (k : CollectorState). MayBeFirst k f) last (first_itself gives.last) in
      let stopped = failing_at carry c n.item f b o i.reached.knows n.is may here in (
        i.during ++ i.more,
        n.item,
        gives.last,
        record { packets = gives.packets; at = gives.at; read = gives.read; shorter = gives.shorter; within = gives.within },
        i.has.parts,
        stopped.part,
        all_join carry f (i.during ++ i.more) (n.item ∷ []) i.has.parts (stopped.part ∷ []) (i.has.converts f may) (stopped.converts, tt),
        front_behind (text_of i.has.parts) stopped.part.out a b o i.has.text stopped.text,
        subst (λ k. NamesItems true q.err_ok x k (lines_of i.has.parts)) (sym err_same) (subst (λ (v : Progress). NamesItems true v.err_ok x y (lines_of i.has.parts)) (sym stays) i.has.names),
      )
  loop_halted used q (halt.PacketSize number) o z n same enough now far =
      let (gives, last) = gives_to options i.answers i.taken i.during i.more r c i.reached far reader before after n.item enough now n.is i.heard in
      let (large, out_same, err_same, stays) = n.one in
      let f : ℕ = first_of gives.last in
      let may : MayBeFirst c f = subst (λ (k : CollectorState). MayBeFirst k f) last (first_itself gives.last) in (
        i.during ++ i.more,
        n.item,
        gives.last,
        record { packets = gives.packets; at = gives.at; read = gives.read; shorter = gives.shorter; within = gives.within },
        subst (λ k. IsTooLarge k n.item number) same large,
        i.has.parts,
        i.has.converts f may,
        subst (λ k. OutputsText a k (λ t. t ≡ text_of i.has.parts)) (sym out_same) i.has.text,
        subst (λ k. NamesItems true q.err_ok x k (lines_of i.has.parts)) (sym err_same) (subst (λ (v : Progress). NamesItems true v.err_ok x y (lines_of i.has.parts)) (sym stays) i.has.names),
      )

  -- ---- one packet more, or the end

  pub one_on : (further : WalkerState) (later : Known Input) (answer : Option Taken) (s : ReadingState) (d : CollectorState) → KeepsFirst c d
      → ReadsOn (ReadSoFar further before later) (λ stop. HeardUntil stop before later) options i.answers i.taken (i.during ++ i.more) (Ok answer) s d
      → Loop options (ReadSoFar further before later) (Converting carry p a b x y) s d
  one_on further later answer s d keeps reads =
      loop_on _ _ _ _ _ i (ReadSoFar further before later) (λ stop. HeardUntil stop before later) (Converting carry p a b x y) answer s d reads (λ next.
      subst (λ l. ConvertedAll carry d l new_progress p a b x y) (sym (append-nil (i.during ++ i.more))) (all_later carry c d (i.during ++ i.more) new_progress p a b x y keeps i.has))

  -- no more can be read
  loop_early : (further : WalkerState) (later : Known Input) (stop : CaptureStop) (s : ReadingState) (d : CollectorState) → KeepsFirst c d
      → ReadsOn (ReadSoFar further before later) (λ stop. HeardUntil stop before later) options i.answers i.taken (i.during ++ i.more) (Err stop) s d
      → ConversionEndsEarly (range_of options) carry stop p.err_ok before later a b x y
  loop_early further later stop s d keeps (heard, broken, gave) =
      let (gives, mid) = gives_until options i.answers i.taken (i.during ++ i.more) d stop before later heard broken gave in
      let may : MayBeFirst c (first_of gives.mid) = keeps (first_of gives.mid) (subst (λ (k : CollectorState). MayBeFirst k (first_of gives.mid)) mid (first_itself gives.mid)) in (
        gives.packets,
        gives.whole,
        gives.stops,
        gives.lacks,
        gives.shorter,
        i.has.parts,
        record { taken = gives.taken; items = i.during ++ i.more; mid = gives.mid; steps = gives.steps; converts = i.has.converts (first_of gives.mid) may },
        i.has.text,
        i.has.names,
      )

  pub loop_stopped : (further : WalkerState) (later : Known Input) (stop : CaptureStop) (s : ReadingState) (d : CollectorState) → KeepsFirst c d
      → ReadsOn (ReadSoFar further before later) (λ stop. HeardUntil stop before later) options i.answers i.taken (i.during ++ i.more) (Err stop) s d
      → ConvertEnds (range_of options) carry (Err (fault_of (unconverted.Stopped stop))) p.err_ok before later a b x y
  loop_stopped further later stops.Read s d keeps reads = loop_early further later stops.Read s d keeps reads
  loop_stopped further later (stops.Capture fault) s d keeps reads = loop_early further later (stops.Capture fault) s d keeps reads
  loop_stopped further later stops.TooLong s d keeps reads = loop_early further later stops.TooLong s d keeps reads

  -- all is converted
  pub loop_over : has_ended r ≡ true → IsOver r c → most_bytes < options.limit → WritesAll (range_of options) carry p.clean p.err_ok before after a b x y
  loop_over ended over far =
      let (gives, first) = gives_all options i.answers i.taken i.during i.more r c i.reached far reader before after _ (finishes options i.answers i.taken i.during i.more r c i.reached ended over) i.heard in
      let f : ℕ = first_of gives.run.mid in
      let may : MayBeFirst c f = subst (λ o. IfSome o (λ n. n ≡ f)) first (first_itself gives.run.mid) in (
        gives.packets,
        gives.enough,
        gives.shorter,
        i.has.parts,
        record { taken = gives.taken; items = i.during ++ i.more; run = gives.run; converts = i.has.converts f may },
        i.has.text,
        i.has.names,
        i.has.clean,
      )
