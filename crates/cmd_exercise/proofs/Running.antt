-- What a run of an exercise has written.
use Rattle.std.proofs.Common.{◌≡◌, ℕ, zero, suc, ◌<◌, inl, inr, ◌↔◌, IsTrue, Bool, true, false, List, [], ◌∷◌, length, Option, Some, None, IsSome, Result, Ok, Err, refl, sym, ◌∙◌, ap, subst, arith}
use Rattle.std.specs.Prelude.{if◌then◌else◌, nat_le, slice_index_or, ◌^◌}
use Rattle.std.proofs.lemmas.List.{append-nil}
use Rattle.drm_bits.specs.Crc.{IsCheckOf}
use Rattle.drm_links.specs.Known.{Known, HasFailed}
use Rattle.drm_links.proofs.KnownLemmas.{counts_one, counts_none}
use Rattle.drm_links.specs.Sink.{Output, OutputsText, IsPrefix}
use Rattle.report_text.specs.Reports.{Report}
use Rattle.report_text.specs.Texts.{text_known}
use Rattle.report_text.specs.declared.buffer.ReportBuffer.{ReportBuffer}
use Rattle.recv_report.proofs.ReceiverLemmas.{text_written}
use Rattle.cmd_receive.specs.Receive.{all_texts, AreClean, WritesReports}
use Rattle.cmd_air.specs.Air.{IsAired, AreAired}
use Rattle.cmd_faults.specs.declared.fault.Fault.{Fault}
use Rattle.cmd_faults.specs.declared.fault.Fault.TheVariants as faults
use Rattle.cmd_exercise.specs.Exercise.{plan, deliveries, line}
use Rattle.cmd_exercise.specs.Run.{IsExercise, ExerciseRun}

-- ---- its report

record IsOne (n : ℕ) (reports : List Report) : Type 0 where
  pub r : Report
  pub is : reports ≡ r ∷ []
  pub aired : IsAired (plan n) 8 1 (deliveries n) r

one_report : (n : ℕ) (reports : List Report) → AreAired (plan n) 8 (deliveries n ∷ []) reports → IsOne n reports
one_report n [] are = absurd (let many = are.as_many in omega (arith, many))
one_report n (r ∷ []) are = record { r = r; is = refl; aired = are.each 0 [] r (omega arith) }
one_report n (r ∷ s ∷ more) are = absurd (let many = are.as_many in omega (arith, many))

clean_is : (clean clean' : Bool) → (IsTrue clean ↔ IsTrue clean') → clean ≡ clean'
clean_is true true iff = refl
clean_is true false iff = absurd (let t : IsTrue false = iff.0 refl in cc)
clean_is false true iff = absurd (let t : IsTrue false = iff.1 refl in cc)
clean_is false false iff = refl

one_clean : (clean : Bool) (r : Report) → (IsTrue clean ↔ AreClean (r ∷ [])) → clean ≡ r.clean
one_clean clean r iff = clean_is clean r.clean (
  (λ is. iff.0 is 0 r (omega arith)),
  (λ is. iff.1 (λ k d within. one k d within is)),
)
  where
    one : (k : ℕ) (d : Report) → k < 1 → IsTrue r.clean → IsTrue (slice_index_or (r ∷ []) k d).clean
    one zero d within is = is
    one (suc k) d within is = absurd (omega (arith, within))

-- The report of the exercise stands in a text that tells, and so does whether it is clean.
pub record HasReport (n : ℕ) (clean : Bool) (text : List ℕ) : Type 0 where
  pub r : Report
  pub aired : IsAired (plan n) 8 1 (deliveries n) r
  pub text_is : text ≡ r.text
  pub clean_is : clean ≡ r.clean

pub has_report : (n : ℕ) (clean : Bool) (old new : ReportBuffer) → (text_known old).contents ≡ Some (record { written = []; calls = 0 }) → IsSome (text_known new).contents
    → WritesReports (AreAired (plan n) 8 (deliveries n ∷ [])) (Ok clean) text_known old new → HasReport n clean new.bytes.items
has_report n clean old new fresh has_contents (reports, are, out, iff) =
    let one = one_report n reports are in
    let text : new.bytes.items ≡ all_texts reports = text_written (λ t. t ≡ all_texts reports) (text_known old) new out fresh has_contents in
    record {
      r = one.r;
      aired = one.aired;
      text_is = text ∙ ap all_texts one.is ∙ append-nil one.r.text;
      clean_is = one_clean clean one.r (subst (λ l. IsTrue clean ↔ AreClean l) one.is iff);
    }

-- ---- how a run ends

abbrev of_fault : Fault → Result Bool Fault
of_fault fault = Err fault

is_exercise : (n : ℕ) (clean : Bool) (text : List ℕ) (count check : ℕ) (has : HasReport n clean text) → count ≡ length (deliveries n) → IsCheckOf text check → IsExercise n has.r (line n count text check)
is_exercise n clean text count check has many checks = record {
  aired = has.aired;
  check = check;
  checks = subst (λ t. IsCheckOf t check) has.text_is checks;
  text_is = ap (λ k. line n k text check) many ∙ ap (λ t. line n (length (deliveries n)) t check) has.text_is;
}

module _ {O : Type 0} (n : ℕ) (known : O → Known Output) (out : O) where
  pub wants_memory : ExerciseRun n (of_fault faults.NoMemory) known out out
  wants_memory = record {
    writes = refl;
    kind = λ fault is. inl (sym (same faults.NoMemory fault is));
    untouched = λ is. refl;
    complete = λ no_write. inl refl;
    write_cause = counts_none (λ is. let other : faults.NoMemory ≡ faults.Write = same faults.NoMemory faults.Write is in cc) refl;
  }
    where
      same : (fault other : Fault) → of_fault fault ≡ of_fault other → fault ≡ other
      same fault other is = cc

  pub is_done : (clean : Bool) (text : List ℕ) (count check : ℕ) (out' : O) → HasReport n clean text → count ≡ length (deliveries n) → IsCheckOf text check
      → OutputsText (known out) (known out') (λ t. t ≡ line n count text check) → (known out').faults ≡ (known out).faults → ExerciseRun n (Ok clean) known out out'
  is_done clean text count check out' has many checks wrote still = record {
    writes = (has.r, line n count text check, is_exercise n clean text count check has many checks, wrote, has.clean_is);
    kind = λ fault is. absurd cc;
    untouched = λ is. absurd cc;
    complete = λ no_write. inr (clean, refl);
    write_cause = counts_none (λ is. cc) still;
  }

  pub is_cut : (clean : Bool) (text : List ℕ) (count check : ℕ) (out' : O) → HasReport n clean text → count ≡ length (deliveries n) → IsCheckOf text check
      → OutputsText (known out) (known out') (IsPrefix (line n count text check)) → HasFailed (known out) (known out') → ExerciseRun n (of_fault faults.Write) known out out'
  is_cut clean text count check out' has many checks wrote failed = record {
    writes = (has.r, line n count text check, is_exercise n clean text count check has many checks, wrote);
    kind = λ fault is. inr (sym (same faults.Write fault is));
    untouched = λ is. absurd (let other : faults.Write ≡ faults.NoMemory = same faults.Write faults.NoMemory is in cc);
    complete = λ no_write. absurd (no_write failed);
    write_cause = counts_one refl failed;
  }
    where
      same : (fault other : Fault) → of_fault fault ≡ of_fault other → fault ≡ other
      same fault other is = cc
