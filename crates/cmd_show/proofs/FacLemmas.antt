-- What an input comes to, and from that what a run of `fac` says.
use Rattle.std.proofs.Common.{◌≡◌, ℕ, ◌<◌, ◌≤◌, ◌⊎◌, ◌↔◌, inl, inr, List, length, take, drop, Result, Ok, Err, refl, sym, ◌∙◌, ap, subst, arith}
use Rattle.std.proofs.lemmas.Grind.{common_steps}
use Rattle.std.proofs.lemmas.List.{take_all}
use Rattle.drm_fac.specs.declared.fac.Fac.{Fac}
use Rattle.drm_fac.specs.declared.fac.FacFault.TheVariants.{Crc}
use Rattle.drm_fac.specs.Fac.{IsFac}
use Rattle.drm_fac.proofs.FacLemmas.{one_fac, fac_or_fault, same_fault}
use Rattle.drm_links.specs.Known.{HasFailed, Known, HasCause}
use Rattle.drm_links.specs.Source.{Input, InputsBytes}
use Rattle.drm_links.specs.Sink.{Output, OutputsText, IsPrefix}
use Rattle.drm_links.proofs.KnownLemmas.{counts_as, counts_none, counts_one, InputsBytes-weaker}
use Rattle.cmd_faults.specs.declared.fault.Fault.{Fault}
use Rattle.cmd_faults.specs.declared.fault.Fault.TheVariants.{NoMemory, Words, FacLength, FacOver, FacCrc, Schedule, Script, Capture, CaptureTooLong, PacketSize, Units, Read, Write, Link}
use Rattle.cmd_show.specs.Input.{ReadsHead, FailsWithin}
use Rattle.report_text.specs.FacLine.{fac_line}
use Rattle.cmd_faults.specs.Fault.{status_of}
use Rattle.cmd_show.specs.Fac.{FacComesTo, ReadsFac, WritesOutcome, FacRun}

-- bytes come to one FAC or one fault
pub comes_once : (bytes : List ℕ) (v w : Result Fac Fault) → FacComesTo bytes v → FacComesTo bytes w → v ≡ w
comes_once bytes (Ok f) (Ok g) is_v is_w = ap Ok (one_fac f g bytes is_v is_w)
comes_once bytes (Ok f) (Err (FacLength n)) is_v is_w = absurd (omega (arith, is_v.nine, is_w.0, is_w.1))
comes_once bytes (Ok f) (Err FacOver) is_v is_w = absurd (omega (arith, is_v.nine, is_w))
comes_once bytes (Ok f) (Err (FacCrc s c)) is_v is_w = absurd (fac_or_fault f (Crc s c) bytes is_v is_w)
comes_once bytes (Err (FacLength n)) (Ok g) is_v is_w = absurd (omega (arith, is_w.nine, is_v.0, is_v.1))
comes_once bytes (Err (FacLength n)) (Err (FacLength m)) is_v is_w = ap (λ k. Err (FacLength k)) (sym is_v.0 ∙ is_w.0)
comes_once bytes (Err (FacLength n)) (Err FacOver) is_v is_w = absurd (omega (arith, is_v.0, is_v.1, is_w))
comes_once bytes (Err (FacLength n)) (Err (FacCrc s c)) is_v is_w = absurd (omega (arith, is_v.0, is_v.1, is_w.nine))
comes_once bytes (Err FacOver) (Ok g) is_v is_w = absurd (omega (arith, is_w.nine, is_v))
comes_once bytes (Err FacOver) (Err (FacLength m)) is_v is_w = absurd (omega (arith, is_w.0, is_w.1, is_v))
comes_once bytes (Err FacOver) (Err FacOver) is_v is_w = refl
comes_once bytes (Err FacOver) (Err (FacCrc s c)) is_v is_w = absurd (omega (arith, is_v, is_w.nine))
comes_once bytes (Err (FacCrc s c)) (Ok g) is_v is_w = absurd (fac_or_fault g (Crc s c) bytes is_w is_v)
comes_once bytes (Err (FacCrc s c)) (Err (FacLength m)) is_v is_w = absurd (omega (arith, is_w.0, is_w.1, is_v.nine))
comes_once bytes (Err (FacCrc s c)) (Err FacOver) is_v is_w = absurd (omega (arith, is_v.nine, is_w))
comes_once bytes (Err (FacCrc s c)) (Err (FacCrc t d)) is_v is_w = let same = same_fault s c t d bytes is_v is_w in cc
comes_once bytes (Ok f) (Err _) is_v is_w = absurd is_w
comes_once bytes (Err (FacLength n)) (Err _) is_v is_w = absurd is_w
comes_once bytes (Err FacOver) (Err _) is_v is_w = absurd is_w
comes_once bytes (Err (FacCrc s c)) (Err _) is_v is_w = absurd is_w
comes_once bytes (Err _) w is_v is_w = absurd is_v

whole : (left : List ℕ) → length left ≤ 9 → take 10 left ≡ left
whole left few = take_all 10 left (omega (arith, few))

whole_of_front : (left : List ℕ) → length (take 10 left) ≤ 9 → take 10 left ≡ left
whole_of_front left few = take_all 10 left (grind (arith, common_steps))

over_whole : (left : List ℕ) → 9 < length (take 10 left) → 9 < length left
over_whole left over = grind (arith, common_steps)

along : (v : Result Fac Fault) (a b : List ℕ) → a ≡ b → FacComesTo a v → FacComesTo b v
along v a b same is = let P : List ℕ → Type 0 = λ l. FacComesTo l v in subst P same is

pub comes_whole : (left : List ℕ) (v : Result Fac Fault) → FacComesTo (take 10 left) v → FacComesTo left v
comes_whole left (Ok f) is = along (Ok f) (take 10 left) left (whole_of_front left (omega (arith, is.nine))) is
comes_whole left (Err (FacLength n)) is = along (Err (FacLength n)) (take 10 left) left (whole_of_front left (omega (arith, is.0, is.1))) is
comes_whole left (Err FacOver) is = over_whole left is
comes_whole left (Err (FacCrc s c)) is = along (Err (FacCrc s c)) (take 10 left) left (whole_of_front left (omega (arith, is.nine))) is
comes_whole left (Err _) is = is

-- a head that was read, and what it comes to
judged : (outcome : Result Fac Fault) (a b : Known Input) (head : List ℕ) → ReadsHead head a b → FacComesTo head outcome → InputsBytes a b (λ left rest. FacComesTo left outcome)
judged outcome a b head reads is =
    InputsBytes-weaker (λ left rest. (head ≡ take 10 left) × (rest ≡ drop 10 left)) (λ left rest. FacComesTo left outcome) a b reads.bytes
    (λ left rest p. comes_whole left outcome (along outcome head (take 10 left) p.0 is))

-- the input comes to what was read
pub comes : (outcome : Result Fac Fault) (a b : Known Input) → (outcome ≡ Err Read → ⊥) → ReadsFac outcome a b → InputsBytes a b (λ left rest. FacComesTo left outcome)
comes (Err Read) a b no_fault reads = absurd (no_fault refl)
comes (Ok f) a b no_fault (head, reads, is) = judged (Ok f) a b head reads is
comes (Err NoMemory) a b no_fault (head, reads, is) = judged (Err NoMemory) a b head reads is
comes (Err Link) a b no_fault (head, reads, is) = judged (Err Link) a b head reads is
comes (Err Words) a b no_fault (head, reads, is) = judged (Err Words) a b head reads is
comes (Err (FacLength n)) a b no_fault (head, reads, is) = judged (Err (FacLength n)) a b head reads is
comes (Err FacOver) a b no_fault (head, reads, is) = judged (Err FacOver) a b head reads is
comes (Err (FacCrc s c)) a b no_fault (head, reads, is) = judged (Err (FacCrc s c)) a b head reads is
comes (Err Write) a b no_fault (head, reads, is) = judged (Err Write) a b head reads is
comes (Err (Schedule l r)) a b no_fault (head, reads, is) = judged (Err (Schedule l r)) a b head reads is
comes (Err (Script l r)) a b no_fault (head, reads, is) = judged (Err (Script l r)) a b head reads is
comes (Err (Capture f)) a b no_fault (head, reads, is) = judged (Err (Capture f)) a b head reads is
comes (Err CaptureTooLong) a b no_fault (head, reads, is) = judged (Err CaptureTooLong) a b head reads is
comes (Err (PacketSize p)) a b no_fault (head, reads, is) = judged (Err (PacketSize p)) a b head reads is
comes (Err (Units p)) a b no_fault (head, reads, is) = judged (Err (Units p)) a b head reads is

is_read : (outcome : Result Fac Fault) → (outcome ≡ Err Read) ⊎ (outcome ≡ Err Read → ⊥)
is_read (Err Read) = inl refl
is_read _ = inr (λ e. cc)

failed_within : (outcome : Result Fac Fault) (a b : Known Input) → outcome ≡ Err Read → ReadsFac outcome a b → (taken : ℕ) × FailsWithin taken a b
failed_within outcome a b is reads = let P : Result Fac Fault → Type 0 = λ v. ReadsFac v a b in subst P is reads

-- the input comes to nothing but what was read
pub comes_only : (outcome : Result Fac Fault) (a b : Known Input) → ReadsFac outcome a b → InputsBytes a b (λ left rest. (other : Result Fac Fault) → FacComesTo left other → (outcome ≡ other) ⊎ (outcome ≡ Err Read))
comes_only outcome a b reads =
    let Only : List ℕ → List ℕ → Type 0 = λ left rest. (other : Result Fac Fault) → FacComesTo left other → (outcome ≡ other) ⊎ (outcome ≡ Err Read) in
    elim (is_read outcome) [
      | inl is ↦ let failed = failed_within outcome a b is reads in InputsBytes-weaker (λ left rest. rest ≡ drop failed.0 left) Only a b failed.1.bytes (λ left rest e other o. inr is)
      | inr another ↦ InputsBytes-weaker (λ left rest. FacComesTo left outcome) Only a b (comes outcome a b another reads) (λ left rest is other o. inl (comes_once left outcome other is o))
    ]

-- ---- what is said of how a run ends

-- with status 0 or 5 a FAC was read, with status 3 none
status_of_outcome : {O : Type 0} (outcome : Result Fac Fault) (ending : Result (Unit {0}) Fault) (known : O → Known Output) (out out' : O) → WritesOutcome outcome ending known out out' → (status_of ending ≡ 4 → ⊥) → (outcome ≡ Err Read → ⊥)
status_of_outcome (Ok fac) ending known out out' writes none is = cc
status_of_outcome (Err fault) ending known out out' writes none is = let same : fault ≡ Read = cc in none (ap status_of (writes.0 ∙ ap Err same))

three_exactly : {O : Type 0} (outcome : Result Fac Fault) (ending : Result (Unit {0}) Fault) (known : O → Known Output) (out out' : O) (left : List ℕ) → WritesOutcome outcome ending known out out' → FacComesTo left outcome → (status_of ending ≡ 3) ↔ ((fac : Fac) → IsFac fac left → ⊥)
three_exactly (Ok fac) (Ok done) known out out' left writes comes = (λ e. absurd (omega (arith, e)), λ none. absurd (none fac comes))
three_exactly (Ok fac) (Err Write) known out out' left writes comes = (λ e. absurd (omega (arith, e)), λ none. absurd (none fac comes))
three_exactly (Ok fac) (Err _) known out out' left writes comes = absurd writes
three_exactly (Err (FacLength n)) ending known out out' left writes comes = (λ e fac is. let wrong : Err (FacLength n) ≡ Ok fac = comes_once left (Err (FacLength n)) (Ok fac) comes is in cc, λ none. ap status_of writes.0)
three_exactly (Err FacOver) ending known out out' left writes comes = (λ e fac is. let wrong : Err FacOver ≡ Ok fac = comes_once left (Err FacOver) (Ok fac) comes is in cc, λ none. ap status_of writes.0)
three_exactly (Err (FacCrc s c)) ending known out out' left writes comes = (λ e fac is. let wrong : Err (FacCrc s c) ≡ Ok fac = comes_once left (Err (FacCrc s c)) (Ok fac) comes is in cc, λ none. ap status_of writes.0)
three_exactly (Err _) ending known out out' left writes comes = absurd comes

-- status 3 comes exactly where the input is no FAC
run_refused : {O : Type 0} (outcome : Result Fac Fault) (ending : Result (Unit {0}) Fault) (a b : Known Input) (out_known : O → Known Output) (out out' : O)
    → ReadsFac outcome a b → WritesOutcome outcome ending out_known out out' → (status_of ending ≡ 4 → ⊥)
    → InputsBytes a b (λ left rest. (status_of ending ≡ 3) ↔ ((fac : Fac) → IsFac fac left → ⊥))
run_refused outcome ending a b out_known out out' reads writes none =
    InputsBytes-weaker (λ left rest. FacComesTo left outcome) (λ left rest. (status_of ending ≡ 3) ↔ ((fac : Fac) → IsFac fac left → ⊥)) a b
    (comes outcome a b (status_of_outcome outcome ending out_known out out' writes none) reads)
    (λ left rest is. three_exactly outcome ending out_known out out' left writes is)

printed : {O : Type 0} (fac : Fac) (ending : Result (Unit {0}) Fault) (known : O → Known Output) (out out' : O) → WritesOutcome (Ok fac) ending known out out' → (ending ≡ Err Write → ⊥) → (ending ≡ Ok tt) × OutputsText (known out) (known out') (λ text. text ≡ fac_line fac)
printed fac (Ok done) known out out' writes none = (refl, writes)
printed fac (Err Write) known out out' writes none = absurd (none refl)
printed fac (Err _) known out out' writes none = absurd writes

-- where neither side failed a FAC is printed
run_complete : {O : Type 0} (outcome : Result Fac Fault) (ending : Result (Unit {0}) Fault) (a b : Known Input) (out_known : O → Known Output) (out out' : O)
    → ReadsFac outcome a b → WritesOutcome outcome ending out_known out out' → (ending ≡ Err Read → HasFailed a b) → (ending ≡ Err Write → HasFailed (out_known out) (out_known out'))
    → (HasFailed a b → ⊥) → (HasFailed (out_known out) (out_known out') → ⊥)
    → InputsBytes a b (λ left rest. (fac : Fac) → IsFac fac left → (ending ≡ Ok tt) × OutputsText (out_known out) (out_known out') (λ text. text ≡ fac_line fac))
run_complete outcome ending a b out_known out out' reads writes read_failed write_failed no_read no_write =
    let reading : outcome ≡ Err Read → ⊥ = λ e. no_read (read_failed (read_ending outcome ending out_known out out' writes e)) in
    InputsBytes-weaker (λ left rest. FacComesTo left outcome)
    (λ left rest. (fac : Fac) → IsFac fac left → (ending ≡ Ok tt) × OutputsText (out_known out) (out_known out') (λ text. text ≡ fac_line fac))
    a b (comes outcome a b reading reads)
    (λ left rest is fac is_fac.
    let P : Result Fac Fault → Type 0 = λ v. WritesOutcome v ending out_known out out' in
    printed fac ending out_known out out' (subst P (comes_once left outcome (Ok fac) is is_fac) writes) (λ e. no_write (write_failed e)))
  where
    read_ending : {O : Type 0} (outcome : Result Fac Fault) (ending : Result (Unit {0}) Fault) (known : O → Known Output) (out out' : O) → WritesOutcome outcome ending known out out' → outcome ≡ Err Read → ending ≡ Err Read
    read_ending (Ok fac) ending known out out' writes is = cc
    read_ending (Err fault) ending known out out' writes is = let same : fault ≡ Read = cc in writes.0 ∙ ap Err same

-- ---- runs

-- no reading ends with the fault of a write
no_write : (a b : Known Input) → ReadsFac (Err Write) a b → ⊥
no_write a b (head, reads, is) = is

-- a run, by what was read and what was written
run_by : {I O : Type 0} (outcome : Result Fac Fault) (ending : Result (Unit {0}) Fault) (input_known : I → Known Input) (input input' : I) (out_known : O → Known Output) (out out' : O)
    → ReadsFac outcome (input_known input) (input_known input') → WritesOutcome outcome ending out_known out out'
    → HasCause (input_known input) (input_known input') (ending ≡ Err Read) → HasCause (out_known out) (out_known out') (ending ≡ Err Write)
    → FacRun ending input_known input input' out_known out out'
run_by outcome ending input_known input input' out_known out out' reads writes read_cause write_cause = record {
  outcome = outcome;
  reads = reads;
  writes = writes;
  only = comes_only outcome (input_known input) (input_known input') reads;
  refused = run_refused outcome ending (input_known input) (input_known input') out_known out out' reads writes;
  complete = run_complete outcome ending (input_known input) (input_known input') out_known out out' reads writes read_cause.once write_cause.once;
  read_cause = read_cause;
  write_cause = write_cause;
}

abbrev refused : Fault → Result Fac Fault
refused fault = Err fault

-- nothing is written where nothing was read
pub run_stopped : {I O : Type 0} (fault : Fault) (ending : Result (Unit {0}) Fault) (input_known : I → Known Input) (input input' : I) (out_known : O → Known Output) (out : O)
    → ending ≡ Err fault → ReadsFac (Err fault) (input_known input) (input_known input')
    → HasCause (input_known input) (input_known input') (refused fault ≡ Err Read)
    → FacRun ending input_known input input' out_known out out
run_stopped fault ending input_known input input' out_known out is reads cause =
    run_by (Err fault) ending input_known input input' out_known out out reads (is, refl)
    (counts_as (λ e. let same : fault ≡ Read = cc in ap refused same) (λ e. let same : fault ≡ Read = cc in is ∙ ap Err same) cause)
    (counts_none
    (λ e.
    let same : fault ≡ Write = cc in
    let P : Fault → Type 0 = λ f. ReadsFac (Err f) (input_known input) (input_known input') in
    no_write (input_known input) (input_known input') (subst P same reads))
    refl)

-- a write failed
pub run_cut : {I O : Type 0} (fac : Fac) (ending : Result (Unit {0}) Fault) (input_known : I → Known Input) (input input' : I) (out_known : O → Known Output) (out out' : O)
    → ending ≡ Err Write → ReadsFac (Ok fac) (input_known input) (input_known input') → (input_known input').faults ≡ (input_known input).faults
    → OutputsText (out_known out) (out_known out') (IsPrefix (fac_line fac)) → HasFailed (out_known out) (out_known out')
    → FacRun ending input_known input input' out_known out out'
run_cut fac ending input_known input input' out_known out out' is reads same front failed =
    let P : Result (Unit {0}) Fault → Type 0 = λ e. WritesOutcome (Ok fac) e out_known out out' in
    run_by (Ok fac) ending input_known input input' out_known out out' reads (subst P (sym is) front)
    (counts_none (λ e. cc) same) (counts_one is failed)

-- the line was written
pub run_done : {I O : Type 0} (fac : Fac) (input_known : I → Known Input) (input input' : I) (out_known : O → Known Output) (out out' : O)
    → ReadsFac (Ok fac) (input_known input) (input_known input') → (input_known input').faults ≡ (input_known input).faults
    → OutputsText (out_known out) (out_known out') (λ text. text ≡ fac_line fac) → (out_known out').faults ≡ (out_known out).faults
    → FacRun (Ok tt) input_known input input' out_known out out'
run_done fac input_known input input' out_known out out' reads same whole same' =
    run_by (Ok fac) (Ok tt) input_known input input' out_known out out' reads whole (counts_none (λ e. cc) same) (counts_none (λ e. cc) same')

-- a run of the command ends with none of the faults that come before it
pub run_ends : {I O : Type 0} (ending : Result (Unit {0}) Fault) (input_known : I → Known Input) (input input' : I) (out_known : O → Known Output) (out out' : O)
    → FacRun ending input_known input input' out_known out out' → (ending ≡ Err Words → ⊥) × (ending ≡ Err NoMemory → ⊥) × (ending ≡ Err Link → ⊥)
run_ends ending input_known input input' out_known out out' run = (
  λ is. ended run.outcome Words out_known out out' (along_ending Words is) run.reads (λ e. cc) (λ r. r.2),
  λ is. ended run.outcome NoMemory out_known out out' (along_ending NoMemory is) run.reads (λ e. cc) (λ r. r.2),
  λ is. ended run.outcome Link out_known out out' (along_ending Link is) run.reads (λ e. cc) (λ r. r.2),
)
  where
    along_ending : (fault : Fault) → ending ≡ Err fault → WritesOutcome run.outcome (Err fault) out_known out out'
    along_ending fault is = let P : Result (Unit {0}) Fault → Type 0 = λ e. WritesOutcome run.outcome e out_known out out' in subst P is run.writes

    ended : {O : Type 0} (outcome : Result Fac Fault) (fault : Fault) (known : O → Known Output) (out out' : O) → WritesOutcome outcome (Err fault) known out out' → ReadsFac outcome (input_known input) (input_known input') → (fault ≡ Write → ⊥) → (ReadsFac (Err fault) (input_known input) (input_known input') → ⊥) → ⊥
    ended (Ok fac) Write known out out' writes reads no_write none = no_write refl
    ended (Ok fac) _ known out out' writes reads no_write none = writes
    ended (Err other) fault known out out' writes reads no_write none =
        let same : other ≡ fault = cc in
        let P : Fault → Type 0 = λ f. ReadsFac (Err f) (input_known input) (input_known input') in
        none (subst P same reads)
