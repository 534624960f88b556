-- The items of a capture, one after another.
use Rattle.std.proofs.Common.{◌≡◌, ℕ, ◌+◌, ◌*◌, ◌^◌, ◌<◌, ◌≤◌, true, false, List, [], ◌∷◌, ◌++◌, Option, inl, refl, sym, ap, subst, ◌∙◌, arith, append_assoc, Result, Ok, Err, OnOk}
use Rattle.std.proofs.lemmas.List.{append-nil}
use Rattle.recv_reading.proofs.Common.{Known, Input, Output, OutputsText, Taken, CollectorState, ready, after_item, CollectorItem as Given, IsItem}
use Rattle.recv_reading.proofs.Common.{ReadingState, has_enough, has_ended, ReadingReached, ReadsOn}
use Rattle.recv_reading.specs.declared.options.ReceiveOptions.{ReceiveOptions}
use Rattle.drm_links.proofs.KnownLemmas.{OutputsText-nothing, OutputsText-then}
use Rattle.drm_links.proofs.WritingLemmas.{Writes-done, Writes-front, front_behind}
use Rattle.capture_reader.specs.Capture.{most_bytes}
use Rattle.capture_reader.specs.Walking.{WalkerState}
use Rattle.capture_reader.specs.declared.packets.CaptureStop.{CaptureStop}
use Rattle.capture_reader.specs.declared.packets.CaptureStop.TheVariants as stops
use Rattle.dcp_collect.specs.CollectorState.{after_next}
use Rattle.mod_feed.specs.Items.{FrameItem, IsItemOf}
use Rattle.cmd_faults.specs.Captures.{stop_fault}
use Rattle.cmd_faults.specs.declared.fault.Fault.TheVariants as faults
use Rattle.recv_reading.specs.Source.{ReadSoFar, HeardUntil}
use Rattle.recv_reading.specs.Packets.{range_of}
use Rattle.recv_reading.specs.declared.options.PacketRange.{PacketRange}
use Rattle.recv_reading.proofs.Finishing.{IsOver, finishes}
use Rattle.recv_reading.proofs.Looping.{Loop, loop_given, loop_on}
use Rattle.recv_reading.proofs.PacketLemmas.{gives_to, gives_all, gives_until}
use Rattle.cmd_unpack.specs.declared.taker.Taker.{Taker}
use Rattle.cmd_unpack.specs.Streams.{PayloadKind}
use Rattle.cmd_unpack.specs.Printed.{AreItems}
use Rattle.cmd_unpack.specs.Run.{DataEnds, WritesUntil}
use Rattle.cmd_unpack.specs.Taken.{AreBelow, counts_in, IsTakerReady, TakerTook, TakesItem, TakesAll}
use Rattle.cmd_unpack.proofs.Items.{items_more}
use Rattle.cmd_unpack.proofs.Printing.{printed}
use Rattle.cmd_unpack.proofs.Pieces.{below_weaker}

-- These items were taken of what was given, and what is printed of them was written.
pub record Taking (first taker : Taker) (calls : ℕ) (a b : Known Output) (taken : List Taken) (during more : List Given) (c : CollectorState) : Type 0 where
  pub items : List FrameItem
  pub are : AreItems (during ++ more) items
  pub written : (what : PayloadKind) → TakerTook what [] [] first → (text : List ℕ) × TakerTook what items text taker × OutputsText a b (λ t. t ≡ text)
  pub calls_are : calls ≡ c.next
  pub few : c.next ≤ 2 ^ 62
  pub is_ready : IsTakerReady taker
  pub room : AreBelow (counts_in taker) (c.next * 2 ^ 64)

pub after_given : (c d : CollectorState) → ready c ≡ true → d ≡ after_next c → d ≡ after_item c
after_given c d now is = is ∙ rw now refl

pub none_taken : (taker : Taker) (calls : ℕ) (c : CollectorState) (a : Known Output) → c.next ≡ 0 → calls ≡ 0 → IsTakerReady taker → AreBelow (counts_in taker) 0 → Taking taker taker calls a a [] [] [] c
none_taken taker calls c a first none_called is_ready none = record {
  items = [];
  are = refl;
  written = λ what took. ([], took, OutputsText-nothing a (λ t. t ≡ []) refl);
  calls_are = none_called ∙ sym first;
  few = omega (arith, first);
  is_ready = is_ready;
  room = below_weaker (counts_in taker) 0 (c.next * 2 ^ 64) (omega arith) none;
}

on_done : {T E : Type 0} (r : Result T E) (done : T) (P : Type 0) → r ≡ Ok done → OnOk r P → P
on_done {T} {E} r done P is holds = subst (λ (k : Result T E). OnOk k P) is holds

until : (range : PacketRange) (what : PayloadKind) (stop : CaptureStop) (before after : Known Input) (a b : Known Output) → WritesUntil range what stop before after a b → DataEnds range what (Err (stop_fault stop)) before after a b
until range what stops.Read before after a b w = w
until range what (stops.Capture fault) before after a b w = w
until range what stops.TooLong before after a b w = w

module _ (options : ReceiveOptions) (first taker : Taker) (r : ReadingState) (c : CollectorState) (calls : ℕ) (reader : WalkerState) (before after : Known Input) (a b : Known Output)
    (i : Loop options (ReadSoFar reader before after) (Taking first taker calls a b) r c) where
  pub below : AreBelow (counts_in taker) (2 ^ 126)
  below = below_weaker (counts_in taker) (c.next * 2 ^ 64) (2 ^ 126) (let f = i.has.few in omega (arith, f)) i.has.room

  -- ---- an item

  module _ {E : Type 0} (taken : Taker) (o : Known Output) (next : Given) (item : FrameItem) (result : Result (Unit {0}) E) (item_is : IsItemOf next item)
      (takes : (what : PayloadKind) (items : List FrameItem) (text : List ℕ) → TakerTook what items text taker → TakesItem what items item text result taken b o) where
    pub one_taken : (s : ReadingState) (d : CollectorState) (calls' : ℕ) (done : Unit {0}) → ReadingReached options i.answers i.taken i.during (i.more ++ next ∷ []) s d → d.next ≡ c.next + 1 → c.next < 2 ^ 62 → calls' ≡ calls + 1
        → result ≡ Ok done → OnOk result (IsTakerReady taken) → OnOk result ((n : ℕ) → AreBelow (counts_in taker) n → AreBelow (counts_in taken) (n + 2 ^ 64))
        → Loop options (ReadSoFar reader before after) (Taking first taken calls' a o) s d
    one_taken s d calls' done reached one small called ok is_ready grows =
        loop_given _ _ _ _ _ i (Taking first taken calls' a o) next s d reached (record {
          items = i.has.items ++ item ∷ [];
          are = subst (λ l. AreItems l (i.has.items ++ item ∷ [])) (append_assoc i.during i.more (next ∷ [])) (items_more (i.during ++ i.more) i.has.items next item i.has.are item_is);
          written = λ what new.
              let (text, took, out) = i.has.written what new in
              let t = takes what i.has.items text took in (
                text ++ t.line,
                subst (λ (k : Taker). TakerTook what (i.has.items ++ item ∷ []) (text ++ t.line) k) (sym (on_done result done (taken ≡ t.after) ok t.after_is)) t.took,
                OutputsText-then (λ l. l ≡ text) (λ l. l ≡ t.line) (λ l. l ≡ text ++ t.line) a b o out (Writes-done ok t.writes) (λ x y p q. ap (λ l. l ++ y) p ∙ ap (λ l. text ++ l) q),
              );
          calls_are = called ∙ ap (λ n. n + 1) i.has.calls_are ∙ sym one;
          few = omega (arith, one, small);
          is_ready = on_done result done (IsTakerReady taken) ok is_ready;
          room = below_weaker (counts_in taken) (c.next * 2 ^ 64 + 2 ^ 64) (d.next * 2 ^ 64) (omega (arith, one)) (on_done result done _ ok grows (c.next * 2 ^ 64) i.has.room);
        })

    pub loop_broken : (last : Taker) (fault : E) → has_enough r ≡ false → ready c ≡ true → IsItem c next → result ≡ Err fault → most_bytes < options.limit
        → (what : PayloadKind) → TakerTook what [] [] first → TakesAll (range_of options) what (Err faults.Write) last before after a o
    loop_broken last fault enough now is failed far what new =
        let (text, took, out) = i.has.written what new in
        let t = takes what i.has.items text took in
        inl (
          i.during ++ i.more,
          next,
          (gives_to options i.answers i.taken i.during i.more r c i.reached far reader before after next enough now is i.heard).0,
          i.has.items,
          i.has.are,
          item,
          item_is,
          text,
          t.line,
          printed what i.has.items text taker took,
          printed what (i.has.items ++ item ∷ []) (text ++ t.line) t.after t.took,
          front_behind text t.line a b o out (Writes-front failed t.writes),
        )

  -- ---- one packet more, or the end

  pub one_on : (further : WalkerState) (later : Known Input) (answer : Option Taken) (s : ReadingState) (d : CollectorState)
      → ReadsOn (ReadSoFar further before later) (λ stop. HeardUntil stop before later) options i.answers i.taken (i.during ++ i.more) (Ok answer) s d
      → Loop options (ReadSoFar further before later) (Taking first taker calls a b) s d
  one_on further later answer s d reads =
      loop_on _ _ _ _ _ i (ReadSoFar further before later) (λ stop. HeardUntil stop before later) (Taking first taker calls a b) answer s d reads (λ same. record {
        items = i.has.items;
        are = subst (λ l. AreItems l i.has.items) (sym (append-nil (i.during ++ i.more))) i.has.are;
        written = i.has.written;
        calls_are = i.has.calls_are ∙ sym same;
        few = (let f = i.has.few in omega (arith, f, same));
        is_ready = i.has.is_ready;
        room = subst (λ n. AreBelow (counts_in taker) (n * 2 ^ 64)) (sym same) i.has.room;
      })

  -- no more can be read
  pub loop_stopped : (further : WalkerState) (later : Known Input) (stop : CaptureStop) (last : Taker) (s : ReadingState) (d : CollectorState)
      → ReadsOn (ReadSoFar further before later) (λ stop. HeardUntil stop before later) options i.answers i.taken (i.during ++ i.more) (Err stop) s d
      → (what : PayloadKind) → TakerTook what [] [] first → TakesAll (range_of options) what (Err (stop_fault stop)) last before later a b
  loop_stopped further later stop last s d (heard, broken, gave) what new =
      let (text, took, out) = i.has.written what new in
      until (range_of options) what stop before later a b
      (i.during ++ i.more, (gives_until options i.answers i.taken (i.during ++ i.more) d stop before later heard broken gave).0, i.has.items, i.has.are, text, printed what i.has.items text taker took, out)

  -- all items are taken
  pub loop_over : (done : Unit {0}) → has_ended r ≡ true → IsOver r c → most_bytes < options.limit → (what : PayloadKind) → TakerTook what [] [] first → TakesAll (range_of options) what (Ok done) taker before after a b
  loop_over done ended over far what new =
      let (text, took, out) = i.has.written what new in
      let all = finishes options i.answers i.taken i.during i.more r c i.reached ended over in
      (i.during ++ i.more, (gives_all options i.answers i.taken i.during i.more r c i.reached far reader before after _ all i.heard).0, i.has.items, i.has.are, text, took, out)
