-- A conversion ends early exactly where its input says so.
use Rattle.std.proofs.Common.{ℕ, ◌≡◌, inl, inr, Bool, List, [], ◌∷◌, ◌++◌, length, take, Result, Ok, Err, refl, sym, ap, subst, ◌∙◌, arith}
use Rattle.std.specs.List.{concat}
use Rattle.std.proofs.Math.Seq.{take-append_seam}
use Rattle.std.proofs.lemmas.Bool.{true≢false, cases_lt}
use Rattle.std.proofs.lemmas.List.{append-nil}
use Rattle.dcp_af.proofs.Answered.{no_fault}
use Rattle.dcp_pft.specs.declared.carry.Carry.{Carry}
use Rattle.recv_reading.proofs.Common.{CollectorState, made, Taken, CollectorItem, Packet, Lost, Damaged, CollectorTakes, CollectorSteps, Known, Input, InputsBytes}
use Rattle.recv_reading.proofs.Common.{Output, first_of}
use Rattle.drm_links.specs.Known.{HasCause}
use Rattle.drm_links.proofs.KnownLemmas.{counts_none, InputsBytes-nothing, InputsBytes-weaker}
use Rattle.capture_reader.specs.Capture as capture
use Rattle.capture_reader.specs.Capture.{IsCaptureOf, CaptureEnding, End}
use Rattle.capture_reader.specs.Laws.{ReadOneWay, ReadSomeWay}
use Rattle.capture_reader.specs.Walking.{WalkerState}
use Rattle.capture_reader.specs.Reading.{HasRead}
use Rattle.law_capture.specs.Laws.{PacketsInFront}
use Rattle.cmd_faults.specs.Fault.{UnlessMemory}
use Rattle.cmd_faults.specs.declared.fault.Fault.{Fault}
use Rattle.cmd_faults.specs.declared.fault.Fault.TheVariants as faults
use Rattle.cmd_faults.specs.Captures.{EndsByIt}
use Rattle.cmd_faults.proofs.CaptureLemmas.{each_early, none_by, fault_by, length_by, done_or}
use Rattle.recv_reading.proofs.BreakingOff.{none_in_front}
use Rattle.cmd_convert.proofs.Sound.{sound}
use Rattle.cmd_convert.specs.Converting.{ItemOutput, ConvertsItem, ConvertsAll, IsTooLarge}
use Rattle.cmd_convert.specs.Run.{IsConversion, IsConversionBroken, ReadsTo, AreFirstOf, LeadsTo, AreSmall, MeetsTooLarge, EndsExactly, ConvertEnds, IsConversionDone, CanEndConversion, ConvertRun}
use Rattle.recv_reading.specs.Packets.{AreReadBy, BreaksOffBy, ComesTo, HasEnough, NoneShorter}
use Rattle.recv_reading.specs.declared.options.PacketRange.{PacketRange}
use Rattle.recv_reading.proofs.Ways.{Starts, Agree, front_of, starts_up_to, starts_more, taken_starts, finished_starts, lacks_before, all_before, both_taken, both_finished, then_finished, finished_then}

-- ---- what is converted isn't too large

not_large : (carry : Carry) (first number : ℕ) (item : CollectorItem) (part : ItemOutput) → ConvertsItem carry first item part → IsTooLarge carry item number → ⊥
not_large carry first number (Packet index bytes) part (inl (any, short, carried, none)) (is, some, long) = true≢false (sym long ∙ short)
not_large carry first number (Packet index bytes) part (inr (fault, is_fault, none, line)) (is, (af, is_af), long) = no_fault af fault bytes is_af is_fault
not_large carry first number (Lost index had total) part converts large = large
not_large carry first number (Damaged index) part converts large = large

all_small : (carry : Carry) (first : ℕ) (items : List CollectorItem) (parts : List ItemOutput) → ConvertsAll carry first items parts → AreSmall carry items
all_small carry first [] parts converts = tt
all_small carry first (item ∷ items) [] converts = absurd converts
all_small carry first (item ∷ items) (part ∷ parts) (one, others) = (λ number. not_large carry first number item part one, all_small carry first items parts others)

-- so none that is comes among them
not_among : (carry : Carry) (items : List CollectorItem) (item : CollectorItem) (all : List CollectorItem) (number : ℕ) → AreSmall carry all → Starts items item all → IsTooLarge carry item number → ⊥
not_among carry items item all number small (rest, is) large = by items (subst (AreSmall carry) is small)
  where
    by : (before : List CollectorItem) → AreSmall carry (before ++ item ∷ rest) → ⊥
    by [] those = those.0 number large
    by (x ∷ before) those = by before those.1

one_number : (carry : Carry) (item : CollectorItem) (m n : ℕ) → IsTooLarge carry item m → IsTooLarge carry item n → m ≡ n
one_number carry (Packet index bytes) m n a b = a.0 ∙ sym b.0
one_number carry (Lost index had total) m n a b = absurd a
one_number carry (Damaged index) m n a b = absurd a

module _ (one_way : ReadOneWay) (some_way : ReadSomeWay) (in_front : PacketsInFront) (range : PacketRange) (carry : Carry) where
  abbrev new : CollectorState
  new = made range.window range.reach range.first

  module _ (left : List ℕ) where
    -- ---- fronts of the capture

    -- these packets are its first ones
    abbrev Begin : List (List ℕ) → Type 0
    Begin packets = (all : List (List ℕ)) (why : CaptureEnding) → IsCaptureOf left all why → (rest : List (List ℕ)) × (all ≡ packets ++ rest)

    first_ones : (later packets : List (List ℕ)) → AreFirstOf later left packets → Begin packets
    first_ones [] packets are all why of = ([], (one_way left all packets why End of are).0 ∙ sym (append-nil packets))
    first_ones (x ∷ later) packets (rest, other, is) all why of = (rest, (one_way left all (packets ++ rest) why other of is).0)

    some_capture : (later packets : List (List ℕ)) → AreFirstOf later left packets → (all : List (List ℕ)) × (why : CaptureEnding) × IsCaptureOf left all why × (rest : List (List ℕ)) × (all ≡ packets ++ rest)
    some_capture [] packets are = (packets, End, are, [], sym (append-nil packets))
    some_capture (x ∷ later) packets (rest, why, is) = (packets ++ rest, why, is, rest, refl)

    all_of_it : (later packets : List (List ℕ)) → later ≡ [] → AreFirstOf later left packets → IsCaptureOf left packets End
    all_of_it later packets none are = subst (λ l. AreFirstOf l left packets) none are

    -- ---- the bytes lead to one packet that is too large

    agree : (items given : List CollectorItem) (item next : CollectorItem) (last end : CollectorState) → LeadsTo range left items item last → LeadsTo range left given next end → Agree items item given next
    agree items given item next last end a b = by a.at.comes b.at.comes
      where
        by : ComesTo range a.at.later a.at.mid a.at.state → ComesTo range b.at.later b.at.mid b.at.state → Agree items item given next
        by (inl (bytes, answer, is, takes)) (inl (other, reply, is', takes')) =
            let (all, why, of, us, same) = some_capture a.at.later a.packets a.are in
            let (vs, same') = first_ones b.at.later b.packets b.are all why of in
            both_taken range a.packets b.packets items given item next last end a.at b.at bytes other answer reply is is' takes takes' us vs (sym same ∙ same')
        by (inl (bytes, answer, is, takes)) (inr (none, finished)) =
            let (later, are) = first_ones a.at.later a.packets a.are b.packets End (all_of_it b.at.later b.packets none b.are) in
            then_finished range a.packets b.packets items given item next last end a.at b.at bytes answer is takes none later are
        by (inr (none, finished)) (inl (bytes, answer, is, takes)) =
            let (later, are) = first_ones b.at.later b.packets b.are a.packets End (all_of_it a.at.later a.packets none a.are) in
            finished_then range a.packets b.packets items given item next last end a.at b.at none bytes answer is takes later are
        by (inr (none, finished)) (inr (also, finished')) =
            let same : a.packets ≡ b.packets = (one_way left a.packets b.packets End End (all_of_it a.at.later a.packets none a.are) (all_of_it b.at.later b.packets also b.are)).0 in
            both_finished range a.packets b.packets items given item next last end a.at b.at none also finished finished' same

    one_meeting : (m n : ℕ) → MeetsTooLarge range carry left m → MeetsTooLarge range carry left n → m ≡ n
    one_meeting m n (items, item, last, a, small, large) (given, next, end, b, small', large') = by (agree items given item next last end a b)
      where
        by : Agree items item given next → m ≡ n
        by (inl (same, is)) = one_number carry next m n (subst (λ i. IsTooLarge carry i m) is large) large'
        by (inr (inl starts)) = absurd (not_among carry items item given m small' starts large)
        by (inr (inr starts)) = absurd (not_among carry given next items n small starts large')

    -- ---- it isn't converted

    module _ (items : List CollectorItem) (item : CollectorItem) (last : CollectorState) (number : ℕ) (leads : LeadsTo range left items item last) (large : IsTooLarge carry item number) where
      not_given : (packets : List (List ℕ)) (parts : List ItemOutput) → (is : IsConversion range carry packets parts) → Starts items item (is.run.during ++ is.run.rest) → ⊥
      not_given packets parts is starts =
          let cut : Starts items item is.items = subst (Starts items item) (sym is.run.are) (starts_up_to range.frame_limit items item (is.run.during ++ is.run.rest) leads.within starts) in
          not_among carry items item is.items number (all_small carry (first_of is.run.mid) is.items parts is.converts) cut large

      -- where it comes behind a packet, and more of them are converted
      not_behind : (bytes : List ℕ) (answer : Taken) → leads.at.later ≡ bytes ∷ [] → CollectorTakes leads.at.mid bytes answer leads.at.state
          → (packets later : List (List ℕ)) (parts : List ItemOutput) → packets ≡ leads.packets ++ later → IsConversion range carry packets parts → ⊥
      not_behind bytes answer later_is takes packets later parts are is =
          not_given packets parts is
          (starts_more items item is.run.during is.run.rest
          (taken_starts range leads.packets items item last leads.at bytes answer later_is takes packets later is.taken is.run.during is.run.mid are is.run.steps))

      not_enough : (packets : List (List ℕ)) (parts : List ItemOutput) → Begin packets → HasEnough range packets → IsConversion range carry packets parts → ⊥
      not_enough packets parts begins enough is = by leads.at.comes
        where
          by : ComesTo range leads.at.later leads.at.mid leads.at.state → ⊥
          by (inl (bytes, answer, later_is, takes)) =
              let (all, why, of, us, same) = some_capture leads.at.later leads.packets leads.are in
              let (vs, same') = begins all why of in
              elim (cases_lt (length packets) (length leads.packets)) [
                | inl less ↦
                    let (rest, are) = front_of packets leads.packets vs us (sym same' ∙ same) (omega (arith, less)) in
                    let front : take (length packets) leads.packets ≡ packets = ap (take (length packets)) are ∙ take-append_seam packets rest in
                    leads.shorter (length packets) less (subst (HasEnough range) (sym front) enough)
                | inr most ↦
                    let (later, are) = front_of leads.packets packets us vs (sym same ∙ same') most in
                    not_behind bytes answer later_is takes packets later parts are is
              ]
          by (inr (none, finished)) =
              let (rest, are) = begins leads.packets End (all_of_it leads.at.later leads.packets none leads.are) in
              let lacks : HasEnough range leads.packets → ⊥ =
              λ those. lacks_before range leads.packets items item last leads.at leads.within (subst (HasEnough range) (all_before range leads.packets items item last leads.at none) those) in
              none_in_front range packets leads.packets rest leads.shorter lacks are enough

      not_at_end : (packets : List (List ℕ)) (parts : List ItemOutput) → IsCaptureOf left packets End → IsConversion range carry packets parts → ⊥
      not_at_end packets parts of is = by leads.at.comes
        where
          by : ComesTo range leads.at.later leads.at.mid leads.at.state → ⊥
          by (inl (bytes, answer, later_is, takes)) =
              let (later, are) = first_ones leads.at.later leads.packets leads.are packets End of in
              not_behind bytes answer later_is takes packets later parts are is
          by (inr (none, finished)) =
              let same : packets ≡ leads.packets = (one_way left packets leads.packets End End of (all_of_it leads.at.later leads.packets none leads.are)).0 in
              not_given packets parts is
              (finished_starts range leads.packets items item last leads.at none finished is.taken is.run.during is.run.rest is.run.mid is.run.after
              (subst (λ l. CollectorSteps new l is.taken is.run.during is.run.mid) same is.run.steps) is.run.gives)

      not_broken : (packets : List (List ℕ)) (parts : List ItemOutput) (why : CaptureEnding) → IsCaptureOf left packets why → (why ≡ End → ⊥) → IsConversionBroken range carry packets parts → ⊥
      not_broken packets parts why of faulty is = by leads.at.comes
        where
          by : ComesTo range leads.at.later leads.at.mid leads.at.state → ⊥
          by (inl (bytes, answer, later_is, takes)) =
              let (later, are) = first_ones leads.at.later leads.packets leads.are packets why of in
              not_among carry items item is.items number (all_small carry (first_of is.mid) is.items parts is.converts)
              (taken_starts range leads.packets items item last leads.at bytes answer later_is takes packets later is.taken is.items is.mid are is.steps) large
          by (inr (none, finished)) = faulty (one_way left packets leads.packets why End of (all_of_it leads.at.later leads.packets none leads.are)).1

    -- ---- exactly there

    by_size : (number : ℕ) (why : CaptureEnding) → EndsByIt (Err (faults.PacketSize number)) why → ⊥
    by_size number End is = is
    by_size number (capture.Fault fault) is = cc
    by_size number capture.TooLong is = cc

    done_well : (clean : Bool) → ((why : CaptureEnding) → BreaksOffBy range left why → ⊥) → ((number : ℕ) → MeetsTooLarge range carry left number → ⊥) → EndsExactly range carry left (Ok clean)
    done_well clean unbroken unmet = (
      λ why. ((λ is. absurd (none_by clean why is)), (λ both. absurd (unbroken why both.0))),
      λ number. ((λ is. absurd (let clash : Ok clean ≡ Err (faults.PacketSize number) = is in cc)), (λ meets. absurd (unmet number meets))),
    )

    on_enough : (clean : Bool) (packets : List (List ℕ)) (parts : List ItemOutput) → Begin packets → HasEnough range packets → IsConversion range carry packets parts → EndsExactly range carry left (Ok clean)
    on_enough clean packets parts begins enough is =
        done_well clean
        (λ why breaks. let (rest, are) = begins breaks.packets why breaks.is in none_in_front range packets breaks.packets rest breaks.shorter breaks.lacks are enough)
        (λ number (items, item, last, leads, small, large). not_enough items item last number leads large packets parts begins enough is)

    on_end : (clean : Bool) (packets : List (List ℕ)) (parts : List ItemOutput) → IsCaptureOf left packets End → IsConversion range carry packets parts → EndsExactly range carry left (Ok clean)
    on_end clean packets parts of is =
        done_well clean
        (λ why breaks. breaks.faulty (one_way left breaks.packets packets why End breaks.is of).1)
        (λ number (items, item, last, leads, small, large). not_at_end items item last number leads large packets parts of is)

    on_fault : (ending : Result Bool Fault) (why : CaptureEnding) (packets : List (List ℕ)) (parts : List ItemOutput) → (why ≡ End → ⊥) → EndsByIt ending why → ((other : CaptureEnding) → EndsByIt ending other → why ≡ other)
        → ((number : ℕ) → ending ≡ Err (faults.PacketSize number) → ⊥)
        → IsCaptureOf left packets why → (HasEnough range packets → ⊥) → NoneShorter range packets → IsConversionBroken range carry packets parts → EndsExactly range carry left ending
    on_fault ending why packets parts faulty ends one_end no_size of lacks shorter is =
        let unmet : (number : ℕ) → MeetsTooLarge range carry left number → ⊥ = λ number (items, item, last, leads, small, large). not_broken items item last number leads large packets parts why of faulty is in
        let breaks : BreaksOffBy range left why = record { packets = packets; is = of; faulty = faulty; lacks = lacks; shorter = shorter } in (
          λ other. (
            (λ as_asked. (subst (BreaksOffBy range left) (one_end other as_asked) breaks, unmet)),
            (λ both. subst (EndsByIt ending) (one_way left packets both.0.packets why other of both.0.is).1 ends),
          ),
          λ number. ((λ as_asked. absurd (no_size number as_asked)), (λ meets. absurd (unmet number meets))),
        )

    on_size : (number : ℕ) → MeetsTooLarge range carry left number → EndsExactly range carry left (Err (faults.PacketSize number))
    on_size number meets = (
      λ why. ((λ is. absurd (by_size number why is)), (λ both. absurd (both.1 number meets))),
      λ other. (
        (λ is. let same : number ≡ other = cc in subst (MeetsTooLarge range carry left) same meets),
        (λ also. ap (λ n. Err (faults.PacketSize n)) (one_meeting number other meets also)),
      ),
    )

  -- ---- what was read

  read_first : (left more : List ℕ) (packets : List (List ℕ)) (reader : WalkerState) (before after : Known Input) → HasRead packets reader before after → left ≡ concat packets ++ (reader.held ++ more)
      → (all : List (List ℕ)) (why : CaptureEnding) → IsCaptureOf left all why → (rest : List (List ℕ)) × (all ≡ packets ++ rest)
  read_first left more packets reader before after read same all why of = in_front left packets all (reader.held ++ more) why read.whole same (omega (arith, read.at, read.few)) of

  are_first : (later packets : List (List ℕ)) (before after : Known Input) → AreReadBy later packets before after → InputsBytes before after (λ left _. AreFirstOf later left packets)
  are_first [] packets before after read = read
  are_first (x ∷ later) packets before after (reader, read) =
      InputsBytes-weaker (λ left rest. left ≡ concat packets ++ (reader.held ++ rest)) (λ left _. AreFirstOf (x ∷ later) left packets) before after read.bytes
      (λ left more same.
      let (all, why, of) = some_way left in
      let (rest, are) = read_first left more packets reader before after read same all why of in
      (rest, why, subst (λ l. IsCaptureOf left l why) are of))

  leads_to : (items : List CollectorItem) (item : CollectorItem) (last : CollectorState) (before after : Known Input) → ReadsTo range items item last before after → InputsBytes before after (λ left _. LeadsTo range left items item last)
  leads_to items item last before after reads =
      InputsBytes-weaker (λ left _. AreFirstOf reads.at.later left reads.packets) (λ left _. LeadsTo range left items item last) before after (are_first reads.at.later reads.packets before after reads.read)
      (λ left more are. record { packets = reads.packets; at = reads.at; are = are; shorter = reads.shorter; within = reads.within })

  -- ---- a run

  module _ (err_ok : Bool) (before after : Known Input) (a b x y : Known Output) where
    abbrev Exact : Result Bool Fault → Type 0
    Exact ending = InputsBytes before after (λ left _. UnlessMemory ending (EndsExactly range carry left ending))

    -- which faults end it
    fault_can : (fault : Fault) → ConvertEnds range carry (Err fault) err_ok before after a b x y → CanEndConversion fault
    fault_can faults.NoMemory ends = tt
    fault_can (faults.Capture fault) ends = tt
    fault_can faults.CaptureTooLong ends = tt
    fault_can (faults.PacketSize number) ends = tt
    fault_can faults.Read ends = tt
    fault_can faults.Write ends = tt
    fault_can faults.Words ends = ends
    fault_can (faults.FacLength n) ends = ends
    fault_can faults.FacOver ends = ends
    fault_can (faults.FacCrc stands computed) ends = ends
    fault_can (faults.Schedule line reason) ends = ends
    fault_can (faults.Script line reason) ends = ends
    fault_can (faults.Units wrong) ends = ends
    fault_can faults.Link ends = ends

    can_end : (ending : Result Bool Fault) → ConvertEnds range carry ending err_ok before after a b x y → (fault : Fault) → ending ≡ Err fault → CanEndConversion fault
    can_end ending ends fault is = fault_can fault (subst (λ e. ConvertEnds range carry e err_ok before after a b x y) is ends)

    exact_broken : (ending : Result Bool Fault) (why : CaptureEnding) → (why ≡ End → ⊥) → EndsByIt ending why → ((other : CaptureEnding) → EndsByIt ending other → why ≡ other) → ((number : ℕ) → ending ≡ Err (faults.PacketSize number) → ⊥)
        → (packets : List (List ℕ)) (parts : List ItemOutput) → InputsBytes before after (λ left rest. IsCaptureOf left packets why) → (HasEnough range packets → ⊥) → NoneShorter range packets → IsConversionBroken range carry packets parts → Exact ending
    exact_broken ending why faulty ends one_end no_size packets parts stops lacks shorter is =
        InputsBytes-weaker (λ left rest. IsCaptureOf left packets why) (λ left _. UnlessMemory ending (EndsExactly range carry left ending)) before after stops
        (λ left more of. inr (on_fault left ending why packets parts faulty ends one_end no_size of lacks shorter is))

    exact : (ending : Result Bool Fault) → ConvertEnds range carry ending err_ok before after a b x y → (ending ≡ Err faults.Read → ⊥) → (ending ≡ Err faults.Write → ⊥) → Exact ending
    exact (Ok clean) (packets, inl ((reader, read), enough), shorter, parts, is, text, names, clean_is) no_read no_write =
        InputsBytes-weaker (λ left rest. left ≡ concat packets ++ (reader.held ++ rest)) (λ left _. UnlessMemory (Ok clean) (EndsExactly range carry left (Ok clean))) before after read.bytes
        (λ left more same. inr (on_enough left clean packets parts (read_first left more packets reader before after read same) enough is))
    exact (Ok clean) (packets, inr all, shorter, parts, is, text, names, clean_is) no_read no_write =
        InputsBytes-weaker (λ left rest. IsCaptureOf left packets End) (λ left _. UnlessMemory (Ok clean) (EndsExactly range carry left (Ok clean))) before after all
        (λ left more of. inr (on_end left clean packets parts of is))
    exact (Err fault) ends no_read no_write =
        let P : List ℕ → List ℕ → Type 0 = λ left _. UnlessMemory {T = Bool} (Err faults.NoMemory) (EndsExactly range carry left (Err faults.NoMemory)) in
        each_early (Unit {0}) (λ f. ConvertEnds range carry (Err f) err_ok before after a b x y → (f ≡ faults.Read → ⊥) → (f ≡ faults.Write → ⊥) → Exact (Err f))
        (λ (same, out, err) reads writes. subst (λ k. InputsBytes before k P) (sym same) (InputsBytes-nothing P before (λ left. inl refl)))
        (λ wrong (packets, whole, stops, lacks, shorter, parts, is, text, names) reads writes.
        exact_broken (Err (faults.Capture wrong)) (capture.Fault wrong) (λ e. let clash : capture.Fault wrong ≡ End = e in cc) refl (fault_by wrong)
        (λ n e. let clash : Err (faults.Capture wrong) ≡ Err (faults.PacketSize n) = e in cc) packets parts stops lacks shorter is)
        (λ (packets, whole, stops, lacks, shorter, parts, is, text, names) reads writes.
        exact_broken (Err faults.CaptureTooLong) capture.TooLong (λ e. let clash : capture.TooLong ≡ End = e in cc) refl length_by
        (λ n e. let clash : Err faults.CaptureTooLong ≡ Err (faults.PacketSize n) = e in cc) packets parts stops lacks shorter is)
        (λ early reads writes. absurd (reads refl)) (λ early reads writes. absurd (writes refl))
        (λ yes number (items, item, last, leads, large, parts, converts, text, names) reads writes.
        InputsBytes-weaker (λ left _. LeadsTo range left items item last) (λ left _. UnlessMemory (Err (faults.PacketSize number)) (EndsExactly range carry left (Err (faults.PacketSize number)))) before after
        (leads_to items item last before after leads)
        (λ left more to. inr (on_size left number (items, item, last, to, all_small carry (first_of last) items parts converts, large))))
        fault (fault_can fault ends) ends (λ is. no_read (ap Err is)) (λ is. no_write (ap Err is))

    -- nothing is lost
    done_by : (left : List ℕ) (ending : Result Bool Fault) → ConvertEnds range carry ending err_ok before after a b x y → (ending ≡ Err faults.Read → ⊥) → (ending ≡ Err faults.Write → ⊥)
        → UnlessMemory ending (EndsExactly range carry left ending) → ((why : CaptureEnding) → BreaksOffBy range left why → ⊥) → ((number : ℕ) → MeetsTooLarge range carry left number → ⊥)
        → UnlessMemory ending (IsConversionDone range carry ending err_ok before after a b x y)
    done_by left ending ends no_read no_write (inl memory) unbroken unmet = inl memory
    done_by left ending ends no_read no_write (inr exactly) unbroken unmet =
        elim (done_or (Unit {0}) ending (can_end ending ends) no_read no_write (λ why is. unbroken why ((exactly.0 why).0 is).0) (λ yes number is. unmet number ((exactly.1 number).0 is))) [
          | inl memory ↦ inl memory
          | inr (clean, is) ↦ inr (clean, is, subst (λ e. ConvertEnds range carry e err_ok before after a b x y) is ends)
        ]

  pub convert_run : {I O E : Type 0} (ending : Result Bool Fault) (err_ok : Bool) (input_known : I → Known Input) (input input' : I) (out_known : O → Known Output) (out out' : O) (err_known : E → Known Output) (err err' : E)
      → ConvertEnds range carry ending err_ok (input_known input) (input_known input') (out_known out) (out_known out') (err_known err) (err_known err')
      → (ending ≡ Err faults.NoMemory → (input' ≡ input) × (out' ≡ out) × (err' ≡ err))
      → HasCause (input_known input) (input_known input') (ending ≡ Err faults.Read)
      → HasCause (out_known out) (out_known out') (ending ≡ Err faults.Write)
      → ConvertRun range carry ending err_ok input_known input input' out_known out out' err_known err err'
  convert_run {I} {O} {E} ending err_ok input_known input input' out_known out out' err_known err err' ends untouched read_cause write_cause =
      let before : Known Input = input_known input in
      let after : Known Input = input_known input' in
      let a : Known Output = out_known out in
      let b : Known Output = out_known out' in
      let x : Known Output = err_known err in
      let y : Known Output = err_known err' in
      record {
        kind = can_end err_ok before after a b x y ending ends;
        ends = ends;
        sound = sound range carry err_ok before after a b x y ending (can_end err_ok before after a b x y ending ends) ends;
        untouched = untouched;
        exactly = exact err_ok before after a b x y ending ends;
        complete = λ reads goes.
            let no_read : ending ≡ Err faults.Read → ⊥ = λ is. reads (read_cause.once is) in
            let no_write : ending ≡ Err faults.Write → ⊥ = λ is. goes (write_cause.once is) in
            InputsBytes-weaker (λ left _. UnlessMemory ending (EndsExactly range carry left ending))
            (λ left _. ((why : CaptureEnding) → BreaksOffBy range left why → ⊥) → ((number : ℕ) → MeetsTooLarge range carry left number → ⊥) → UnlessMemory ending (IsConversionDone range carry ending err_ok before after a b x y))
            before after (exact err_ok before after a b x y ending ends no_read no_write)
            (λ left _ exactly unbroken unmet. done_by err_ok before after a b x y left ending ends no_read no_write exactly unbroken unmet);
        read_cause = read_cause;
        write_cause = write_cause;
      }

  -- memory was wanting
  pub memory_run : {I O E : Type 0} (err_ok : Bool) (input_known : I → Known Input) (input : I) (out_known : O → Known Output) (out : O) (err_known : E → Known Output) (err : E)
      → ConvertRun range carry (Err faults.NoMemory) err_ok input_known input input out_known out out err_known err err
  memory_run err_ok input_known input out_known out err_known err =
      convert_run (Err faults.NoMemory) err_ok input_known input input out_known out out err_known err err (refl, refl, refl) (λ is. (refl, refl, refl)) (counts_none (λ is. cc) refl) (counts_none (λ is. cc) refl)
