-- Texts that are gathered on their way out.
use Rattle.std.proofs.Common.{◌≡◌, ℕ, List, ◌++◌, Result, Ok, Err, refl, ◌∙◌, ap, append_assoc}
use Rattle.drm_links.specs.Known.{Known}
use Rattle.drm_links.specs.Sink.{Output, OutputsText, IsPrefix, WritesWhole}
use Rattle.drm_links.proofs.KnownLemmas.{counts_one, OutputsText-weaker}
use Rattle.text_output.specs.Gathering.{PutsText}

-- Where those that are gathered don't go out whole, a front of all was written.
pub put_cut : {E F : Type 0} (old new text : List ℕ) (a b : Known Output) (r : Result (Unit {0}) E) (other : E) (fault : F) → r ≡ Err other → WritesWhole r a b old
    → (let cut : Result (Unit {0}) F = Err fault in PutsText cut old new a b text)
put_cut old new text a b (Ok done) other fault is writes = cc
put_cut old new text a b (Err same) other fault is writes = record {
  put = tt;
  front = OutputsText-weaker (IsPrefix old) (IsPrefix (old ++ text)) a b writes.front (λ w (rest, e). (rest ++ text, ap (λ l. l ++ text) e ∙ append_assoc w rest text));
  cause = counts_one refl (writes.cause.once refl);
}

-- what was written, by how the call ended
pub put_done : {E : Type 0} {old new text : List ℕ} {a b : Known Output} {r : Result (Unit {0}) E} {done : Unit {0}} → r ≡ Ok done → PutsText r old new a b text → OutputsText a b (λ written. written ++ new ≡ old ++ text)
put_done {r = Ok same} is puts = puts.put
put_done {r = Err fault} is puts = cc

pub put_failed : {E : Type 0} {old new text : List ℕ} {a b : Known Output} {r : Result (Unit {0}) E} {fault : E} → r ≡ Err fault → PutsText r old new a b text → OutputsText a b (IsPrefix (old ++ text))
put_failed {r = Ok done} is puts = cc
put_failed {r = Err same} is puts = puts.front
