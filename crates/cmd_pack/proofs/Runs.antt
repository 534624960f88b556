-- A run of `pack`, by how it ends.
use Rattle.std.proofs.Common.{◌≡◌, ℕ, ◌<◌, inl, inr, List, [], ◌++◌, length, refl, sym, ap, subst, ◌∙◌, arith, length-append}
use Rattle.std.specs.Prelude.{◌↔◌, Result, Ok, Err}
use Rattle.std.proofs.lemmas.List.{append-nil}
use Rattle.drm_links.specs.Known.{Known, HasCause}
use Rattle.drm_links.specs.Source.{Input, InputsBytes}
use Rattle.drm_links.specs.Sink.{Output, OutputsText}
use Rattle.drm_links.proofs.KnownLemmas.{InputsBytes-nothing, InputsBytes-weaker, InputsBytes-both}
use Rattle.cmd_faults.specs.Fault.{UnlessMemory}
use Rattle.cmd_faults.specs.declared.units.UnitsFault.{UnitsFault}
use Rattle.cmd_faults.specs.declared.fault.Fault.{Fault}
use Rattle.cmd_faults.specs.declared.fault.Fault.TheVariants as faults
use Rattle.cmd_pack.specs.Units.{UnitsComeTo}
use Rattle.cmd_pack.specs.Input.{ReadsFile}
use Rattle.cmd_pack.specs.Packed.{ArePacked}
use Rattle.cmd_pack.specs.Pack.{PackEnds, CanEndPacking, PackRun}
use Rattle.cmd_pack.proofs.Files.{one_coming}

-- ---- what was read, and what was left of the input

all_read : (bytes : List ℕ) (before after : Known Input) → ReadsFile bytes before after → length bytes < 16777217 → InputsBytes before after (λ left rest. left ≡ bytes)
all_read bytes before after reads short =
    let P : List ℕ → List ℕ → Type 0 = λ left rest. left ≡ bytes ++ rest in
    let Q : List ℕ → List ℕ → Type 0 = λ left rest. rest ≡ [] in
    let both : InputsBytes before after (λ left rest. P left rest × Q left rest) = InputsBytes-both P Q before after reads.front (reads.all short) in
    InputsBytes-weaker (λ left rest. P left rest × Q left rest) (λ left rest. left ≡ bytes) before after both (λ left rest (is, none). is ∙ (ap (λ l. bytes ++ l) none ∙ append-nil bytes))

pub comes_left : (bytes : List ℕ) (outcome : Result (List (List ℕ)) UnitsFault) (before after : Known Input) → ReadsFile bytes before after → UnitsComeTo bytes outcome → InputsBytes before after (λ left _. UnitsComeTo left outcome)
comes_left bytes (Ok units) before after reads comes =
    InputsBytes-weaker (λ left rest. left ≡ bytes) (λ left _. UnitsComeTo left (Ok units)) before after (all_read bytes before after reads (omega (arith, comes.0)))
    (λ left rest is. subst (λ l. UnitsComeTo l (Ok units)) (sym is) comes)
comes_left bytes (Err fault) before after reads (inl much) =
    InputsBytes-weaker (λ left rest. left ≡ bytes ++ rest) (λ left _. UnitsComeTo left (Err fault)) before after reads.front
    (λ left rest is. inl (omega (arith, much.0, ap length is, length-append bytes rest), much.1))
comes_left bytes (Err fault) before after reads (inr wrong) =
    InputsBytes-weaker (λ left rest. left ≡ bytes) (λ left _. UnitsComeTo left (Err fault)) before after (all_read bytes before after reads (omega (arith, wrong.0)))
    (λ left rest is. subst (λ l. UnitsComeTo l (Err fault)) (sym is) (inr wrong))

-- ---- how it ends

module _ {O : Type 0} (id d : ℕ) (before after : Known Input) (known : O → Known Output) (out out' : O) where
  can_by : (fault : Fault) → PackEnds id d (Err fault) before after known out out' → CanEndPacking fault
  can_by faults.NoMemory ends = tt
  can_by (faults.Units fault) ends = tt
  can_by faults.Read ends = tt
  can_by faults.Write ends = tt
  can_by (faults.Capture fault) ends = ends
  can_by faults.CaptureTooLong ends = ends
  can_by (faults.PacketSize number) ends = ends
  can_by faults.Words ends = ends
  can_by (faults.FacLength n) ends = ends
  can_by faults.FacOver ends = ends
  can_by (faults.FacCrc stands computed) ends = ends
  can_by (faults.Schedule line reason) ends = ends
  can_by (faults.Script line reason) ends = ends
  can_by faults.Link ends = ends

  abbrev Refused : Result (Unit {0}) Fault → List ℕ → Type 0
  Refused ending left = (fault : UnitsFault) → (ending ≡ Err (faults.Units fault)) ↔ UnitsComeTo left (Err fault)

  abbrev Exact : Result (Unit {0}) Fault → List ℕ → List ℕ → Type 0
  Exact ending left rest = UnlessMemory ending (Refused ending left)

  refused_by : (ending : Result (Unit {0}) Fault) (outcome : Result (List (List ℕ)) UnitsFault) (left : List ℕ) → ((fault : UnitsFault) → (ending ≡ Err (faults.Units fault)) ↔ (outcome ≡ Err fault)) → UnitsComeTo left outcome → Refused ending left
  refused_by ending outcome left same comes fault =
      ((λ is. subst (UnitsComeTo left) ((same fault).0 is) comes), (λ also. (same fault).1 (one_coming left outcome (Err fault) comes also)))

  exact_by : (ending : Result (Unit {0}) Fault) (outcome : Result (List (List ℕ)) UnitsFault) (bytes : List ℕ) → ((fault : UnitsFault) → (ending ≡ Err (faults.Units fault)) ↔ (outcome ≡ Err fault))
      → ReadsFile bytes before after → UnitsComeTo bytes outcome → InputsBytes before after (Exact ending)
  exact_by ending outcome bytes same reads comes =
      InputsBytes-weaker (λ left _. UnitsComeTo left outcome) (Exact ending) before after (comes_left bytes outcome before after reads comes) (λ left rest is. inr (refused_by ending outcome left same is))

  exact : (ending : Result (Unit {0}) Fault) → PackEnds id d ending before after known out out' → (ending ≡ Err faults.Read → ⊥) → InputsBytes before after (Exact ending)
  exact (Ok done) (bytes, reads, units, comes, text) no_read = exact_by (Ok done) (Ok units) bytes (λ fault. ((λ e. absurd (cc)), (λ e. absurd (cc)))) reads comes
  exact (Err faults.Write) (bytes, reads, units, comes, text, are, front) no_read = exact_by (Err faults.Write) (Ok units) bytes (λ fault. ((λ e. absurd (cc)), (λ e. absurd (cc)))) reads comes
  exact (Err (faults.Units f)) (bytes, reads, comes, same) no_read = exact_by (Err (faults.Units f)) (Err f) bytes (λ fault. ((λ e. let is : f ≡ fault = cc in ap Err is), (λ e. let is : f ≡ fault = cc in ap (λ k. Err (faults.Units k)) is))) reads comes
  exact (Err faults.NoMemory) (same, kept) no_read = subst (λ k. InputsBytes before k (Exact (Err faults.NoMemory))) (sym same) (InputsBytes-nothing (Exact (Err faults.NoMemory)) before (λ left. inl refl))
  exact (Err faults.Read) ends no_read = absurd (no_read refl)
  exact (Err (faults.Capture fault)) ends no_read = absurd ends
  exact (Err faults.CaptureTooLong) ends no_read = absurd ends
  exact (Err (faults.PacketSize number)) ends no_read = absurd ends
  exact (Err faults.Words) ends no_read = absurd ends
  exact (Err (faults.FacLength n)) ends no_read = absurd ends
  exact (Err faults.FacOver) ends no_read = absurd ends
  exact (Err (faults.FacCrc stands computed)) ends no_read = absurd ends
  exact (Err (faults.Schedule line reason)) ends no_read = absurd ends
  exact (Err (faults.Script line reason)) ends no_read = absurd ends
  exact (Err faults.Link) ends no_read = absurd ends

  -- nothing is lost
  abbrev Done : Result (Unit {0}) Fault → List ℕ → List ℕ → Type 0
  Done ending left rest = (units : List (List ℕ)) → UnitsComeTo left (Ok units) → UnlessMemory ending ((ending ≡ Ok tt) × OutputsText (known out) (known out') (ArePacked id d units))

  whole : (ending : Result (Unit {0}) Fault) → PackEnds id d ending before after known out out' → (ending ≡ Err faults.Read → ⊥) → (ending ≡ Err faults.Write → ⊥) → InputsBytes before after (Done ending)
  whole (Ok done) (bytes, reads, units, comes, text) no_read no_write =
      InputsBytes-weaker (λ left _. UnitsComeTo left (Ok units)) (Done (Ok done)) before after (comes_left bytes (Ok units) before after reads comes)
      (λ left rest is others also.
      let same : Ok units ≡ Ok others = one_coming left (Ok units) (Ok others) is also in
      let units_are : units ≡ others = cc in
      inr (refl, subst (λ us. OutputsText (known out) (known out') (ArePacked id d us)) units_are text))
  whole (Err (faults.Units f)) (bytes, reads, comes, same) no_read no_write =
      InputsBytes-weaker (λ left _. UnitsComeTo left (Err f)) (Done (Err (faults.Units f))) before after (comes_left bytes (Err f) before after reads comes)
      (λ left rest is others also. absurd (let clash : Err f ≡ Ok others = one_coming left (Err f) (Ok others) is also in cc))
  whole (Err faults.NoMemory) (same, kept) no_read no_write = subst (λ k. InputsBytes before k (Done (Err faults.NoMemory))) (sym same) (InputsBytes-nothing (Done (Err faults.NoMemory)) before (λ left units comes. inl refl))
  whole (Err faults.Read) ends no_read no_write = absurd (no_read refl)
  whole (Err faults.Write) ends no_read no_write = absurd (no_write refl)
  whole (Err (faults.Capture fault)) ends no_read no_write = absurd ends
  whole (Err faults.CaptureTooLong) ends no_read no_write = absurd ends
  whole (Err (faults.PacketSize number)) ends no_read no_write = absurd ends
  whole (Err faults.Words) ends no_read no_write = absurd ends
  whole (Err (faults.FacLength n)) ends no_read no_write = absurd ends
  whole (Err faults.FacOver) ends no_read no_write = absurd ends
  whole (Err (faults.FacCrc stands computed)) ends no_read no_write = absurd ends
  whole (Err (faults.Schedule line reason)) ends no_read no_write = absurd ends
  whole (Err (faults.Script line reason)) ends no_read no_write = absurd ends
  whole (Err faults.Link) ends no_read no_write = absurd ends

pub pack_run : {I O : Type 0} (id d : ℕ) (ending : Result (Unit {0}) Fault) (input_known : I → Known Input) (input input' : I) (out_known : O → Known Output) (out out' : O)
    → PackEnds id d ending (input_known input) (input_known input') out_known out out'
    → (ending ≡ Err faults.NoMemory → (input' ≡ input) × (out' ≡ out))
    → HasCause (input_known input) (input_known input') (ending ≡ Err faults.Read)
    → HasCause (out_known out) (out_known out') (ending ≡ Err faults.Write)
    → PackRun id d ending input_known input input' out_known out out'
pack_run {I} {O} id d ending input_known input input' out_known out out' ends untouched read_cause write_cause = record {
  kind = λ fault is. can_by id d before after out_known out out' fault (subst (λ e. PackEnds id d e before after out_known out out') is ends);
  ends = ends;
  untouched = untouched;
  exactly = exact id d before after out_known out out' ending ends;
  complete = λ reads goes. whole id d before after out_known out out' ending ends (λ is. reads (read_cause.once is)) (λ is. goes (write_cause.once is));
  read_cause = read_cause;
  write_cause = write_cause;
}
  where
    before : Known Input
    before = input_known input

    after : Known Input
    after = input_known input'
