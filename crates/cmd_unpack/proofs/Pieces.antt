-- Pieces that are taken one after another.
use Rattle.std.proofs.Common.{◌≡◌, ℕ, zero, suc, ◌+◌, ◌-◌, ◌*◌, ◌/◌, ◌%◌, ◌<◌, ◌≤◌, ◌^◌, true, false, List, [], ◌∷◌, ◌++◌, length, take, drop, map, Option, Some, refl, sym, ap, subst, ◌∙◌, arith, append_assoc, length-drop, Result, Ok, Err}
use Rattle.std.specs.List.{AllByRecursion}
use Rattle.std.proofs.Math.Nat.{div-eq-sub-div, div-eq_of_lt, add-mul-mod_self_left}
use Rattle.std.proofs.lemmas.List.{append-nil, get_or-drop, map-append}
use Rattle.std.proofs.lemmas.Grind.{common_steps}
use Rattle.drm_bits.specs.Bits.{IsBytes}
use Rattle.drm_links.specs.Known.{Known}
use Rattle.drm_links.specs.Sink.{Output, OutputsText, WritesWhole}
use Rattle.drm_links.proofs.KnownLemmas.{OutputsText-nothing, OutputsText-then, OutputsText-weaker}
use Rattle.drm_links.proofs.WritingLemmas.{Writes-broken, Writes-whole}
use Rattle.drm_data.specs.Joining.{JoinerEvent, ReadsDataPacket, JoinerState, JoinerAnswer, Silent, Whole, CutOff, CutWhole, Refuses, answer, after}
use Rattle.cmd_unpack.specs.declared.counts.Counts.{Counts}
use Rattle.cmd_unpack.specs.declared.units.UnitTaker.{UnitTaker}
use Rattle.cmd_unpack.specs.Streams.{cut_into}
use Rattle.cmd_unpack.specs.Lines.{answer_text}
use Rattle.cmd_unpack.specs.Taken.{counted, AreBelow, IsJoinerOf, JoinsEntries, TakesEntries}
use Rattle.cmd_unpack.proofs.Joining.{joins_none, joins_event, joins_then, some_joining, after_length}

-- ---- pieces

abbrev pub pieces : ℕ → List ℕ → List (List ℕ)
pieces n bytes = cut_into n (length bytes / n) bytes

one_less : (n a : ℕ) → 1 ≤ n → n ≤ a → a / n ≡ suc ((a - n) / n)
one_less n a some enough = div-eq-sub-div {m = n} {n = a} (omega arith) enough ∙ omega arith

pub pieces_step : (n : ℕ) (bytes : List ℕ) → 1 ≤ n → n ≤ length bytes → pieces n bytes ≡ take n bytes ∷ pieces n (drop n bytes)
pieces_step n bytes some enough =
    let left : length (drop n bytes) ≡ length bytes - n = length-drop n bytes in
    ap (λ k. cut_into n k bytes) (one_less n (length bytes) some enough ∙ ap (λ k. suc (k / n)) (sym left))

pub rest_whole : (n a : ℕ) → 1 ≤ n → n ≤ a → a % n ≡ 0 → (a - n) % n ≡ 0
rest_whole n a some enough whole =
    let parts : a ≡ (a - n) + n * 1 = omega (arith, enough) in
    sym (add-mul-mod_self_left (a - n) n 1) ∙ (ap (λ k. k % n) (sym parts) ∙ whole)

pub pieces_none : (n : ℕ) (bytes : List ℕ) → length bytes < n → length bytes % n ≡ 0 → pieces n bytes ≡ []
pieces_none n bytes few whole = ap (λ k. cut_into n k bytes) (div-eq_of_lt few)

-- each piece is bytes
bytes_drop : (n : ℕ) (bytes : List ℕ) → IsBytes bytes → IsBytes (drop n bytes)
bytes_drop n bytes are k = rw get_or-drop (are (n + k))

bytes_take : (n : ℕ) (bytes : List ℕ) → IsBytes bytes → IsBytes (take n bytes)
bytes_take n bytes are k = grind (arith, common_steps, are k)

cut_bytes : (n m : ℕ) (bytes : List ℕ) → IsBytes bytes → AllByRecursion IsBytes (cut_into n m bytes)
cut_bytes n zero bytes are = tt
cut_bytes n (suc m) bytes are = (bytes_take n bytes are, cut_bytes n m (drop n bytes) (bytes_drop n bytes are))

-- ---- a reading of pieces that has come so far

pub record Come (t u : UnitTaker) (bytes rest : List ℕ) (a b : Known Output) : Type 0 where
  pub done : List (List ℕ)
  pub all : pieces (t.length + 3) bytes ≡ done ++ pieces (t.length + 3) rest
  pub whole : length rest % (t.length + 3) ≡ 0
  pub shorter : length rest ≤ length bytes
  pub written : List ℕ
  pub joins : JoinsEntries t u (map Some done) 0 0 written
  pub text : OutputsText a b (λ l. l ≡ written)
  pub still : b.faults ≡ a.faults
  pub are : IsBytes rest
  pub joiner : IsJoinerOf u
  pub room : (m : ℕ) → AreBelow t.counts m → AreBelow u.counts (m + (length bytes - length rest))

pub come_none : (t : UnitTaker) (bytes : List ℕ) (a : Known Output) → length bytes % (t.length + 3) ≡ 0 → IsJoinerOf t → IsBytes bytes → Come t t bytes bytes a a
come_none t bytes a whole joiner are = record {
  are = are;
  done = [];
  all = refl;
  whole = whole;
  shorter = omega arith;
  written = [];
  joins = joins_none t;
  text = OutputsText-nothing a (λ l. l ≡ []) refl;
  still = refl;
  joiner = joiner;
  room = λ m below. (let none : m ≡ m + (length bytes - length bytes) = omega arith in subst (AreBelow t.counts) none below);
}

below_one : (counts : Counts) (said : JoinerAnswer) (m n : ℕ) → m + 1 ≤ n → AreBelow counts m → AreBelow (counted counts said) n
below_one counts Silent m n more below = record { given = omega (arith, below.given, more); cut = omega (arith, below.cut, more); bad = omega (arith, below.bad, more); missing = omega (arith, below.missing, more) }
below_one counts (Whole unit) m n more below = record { given = omega (arith, below.given, more); cut = omega (arith, below.cut, more); bad = omega (arith, below.bad, more); missing = omega (arith, below.missing, more) }
below_one counts CutOff m n more below = record { given = omega (arith, below.given, more); cut = omega (arith, below.cut, more); bad = omega (arith, below.bad, more); missing = omega (arith, below.missing, more) }
below_one counts (CutWhole unit) m n more below = record { given = omega (arith, below.given, more); cut = omega (arith, below.cut, more); bad = omega (arith, below.bad, more); missing = omega (arith, below.missing, more) }
below_one counts (Refuses fault true) m n more below = record { given = omega (arith, below.given, more); cut = omega (arith, below.cut, more); bad = omega (arith, below.bad, more); missing = omega (arith, below.missing, more) }
below_one counts (Refuses fault false) m n more below = record { given = omega (arith, below.given, more); cut = omega (arith, below.cut, more); bad = omega (arith, below.bad, more); missing = omega (arith, below.missing, more) }

-- what the taker is behind an event
abbrev pub behind : UnitTaker → JoinerState → Counts → UnitTaker
behind u joiner counts = record { stream = u.stream; length = u.length; joiner = joiner; counts = counts }

-- one piece more
pub come_one : (t u : UnitTaker) (bytes rest piece left : List ℕ) (event : JoinerEvent) (joiner : JoinerState) (counts : Counts) (a b c : Known Output)
    → Come t u bytes rest a b → t.length + 3 ≤ length rest → piece ≡ take (t.length + 3) rest → left ≡ drop (t.length + 3) rest
    → ReadsDataPacket u.joiner.length piece event → joiner ≡ after u.joiner event → counts ≡ counted u.counts (answer u.joiner event)
    → OutputsText b c (λ l. l ≡ answer_text (answer u.joiner event)) → c.faults ≡ b.faults → Come t (behind u joiner counts) bytes left a c
come_one t u bytes rest piece left event joiner counts a b c i enough piece_is left_is reads joins counts_are text still =
    let n : ℕ = t.length + 3 in
    let line : List ℕ = answer_text (answer u.joiner event) in
    let size : length left ≡ length rest - n = ap length left_is ∙ length-drop n rest in
    let step : pieces n rest ≡ piece ∷ pieces n left = pieces_step n rest (omega arith) enough ∙ (ap (λ l. l ∷ pieces n (drop n rest)) (sym piece_is) ∙ ap (λ l. piece ∷ pieces n l) (sym left_is)) in
    let one : JoinsEntries u (behind u joiner counts) (Some piece ∷ []) 0 0 line = joins_event u joiner counts (Some piece) event (reads, refl) joins counts_are in
    record {
      done = i.done ++ piece ∷ [];
      all = i.all ∙ (ap (λ l. i.done ++ l) step ∙ sym (append_assoc i.done (piece ∷ []) (pieces n left)));
      whole = ap (λ k. k % n) size ∙ rest_whole n (length rest) (omega arith) enough i.whole;
      shorter = omega (arith, i.shorter, size);
      written = i.written ++ line;
      joins = subst (λ (l : List (Option (List ℕ))). JoinsEntries t (behind u joiner counts) l 0 0 (i.written ++ line)) (sym (map-append Some i.done (piece ∷ [])))
          (joins_then t u (behind u joiner counts) (map Some i.done) (Some piece ∷ []) 0 0 0 0 i.written line i.joins one);
      text = OutputsText-then (λ l. l ≡ i.written) (λ l. l ≡ line) (λ l. l ≡ i.written ++ line) a b c i.text text (λ x y p q. ap (λ l. l ++ y) p ∙ ap (λ l. i.written ++ l) q);
      still = still ∙ i.still;
      are = subst IsBytes (sym left_is) (bytes_drop n rest i.are);
      joiner = (ap (λ (s : JoinerState). s.length) joins ∙ (after_length u.joiner event ∙ i.joiner.0), i.joiner.1);
      room = λ m below. (
          let most : m + (length bytes - length rest) + 1 ≤ m + (length bytes - length left) = omega (arith, i.shorter, size, enough) in
          subst (λ (k : Counts). AreBelow k (m + (length bytes - length left))) (sym counts_are) (below_one u.counts (answer u.joiner event) (m + (length bytes - length rest)) (m + (length bytes - length left)) most (i.room m below)));
    }

-- the write of one failed
pub come_broken : {E F : Type 0} (t u v : UnitTaker) (bytes rest piece left : List ℕ) (event : JoinerEvent) (joiner : JoinerState) (counts : Counts) (a b c : Known Output) (r : Result (Unit {0}) E) (other : E) (fault : F)
    → Come t u bytes rest a b → t.length + 3 ≤ length rest → piece ≡ take (t.length + 3) rest → left ≡ drop (t.length + 3) rest
    → ReadsDataPacket u.joiner.length piece event → joiner ≡ after u.joiner event → counts ≡ counted u.counts (answer u.joiner event)
    → r ≡ Err other → WritesWhole r b c (answer_text (answer u.joiner event))
    → (let broken : Result (Unit {0}) F = Err fault in TakesEntries broken t v (map Some (pieces (t.length + 3) bytes)) 0 0 a c)
come_broken {E} {F} t u v bytes rest piece left event joiner counts a b c r other fault i enough piece_is left_is reads joins counts_are is writes =
    let n : ℕ = t.length + 3 in
    let line : List ℕ = answer_text (answer u.joiner event) in
    let w : UnitTaker = behind u joiner counts in
    let step : pieces n rest ≡ piece ∷ pieces n left = pieces_step n rest (omega arith) enough ∙ (ap (λ l. l ∷ pieces n (drop n rest)) (sym piece_is) ∙ ap (λ l. piece ∷ pieces n l) (sym left_is)) in
    let one : JoinsEntries u w (Some piece ∷ []) 0 0 line = joins_event u joiner counts (Some piece) event (reads, refl) joins counts_are in
    let long : 1 ≤ w.joiner.length = omega (arith, ap (λ (s : JoinerState). s.length) joins, after_length u.joiner event, i.joiner.0, i.joiner.1) in
    let (x, more, last) = some_joining (pieces n left) w long (cut_bytes n (length left / n) left (subst IsBytes (sym left_is) (bytes_drop n rest i.are))) in
    let tail : JoinsEntries u x (Some piece ∷ map Some (pieces n left)) 0 0 (line ++ more) = joins_then u w x (Some piece ∷ []) (map Some (pieces n left)) 0 0 0 0 line more one last in
    let all : JoinsEntries t x (map Some i.done ++ map Some (piece ∷ pieces n left)) 0 0 (i.written ++ (line ++ more)) =
    joins_then t u x (map Some i.done) (Some piece ∷ map Some (pieces n left)) 0 0 0 0 i.written (line ++ more) i.joins tail in
    let entries : map Some i.done ++ map Some (piece ∷ pieces n left) ≡ map Some (pieces n bytes) =
    sym (map-append Some i.done (piece ∷ pieces n left)) ∙ ap (λ l. map Some l) (sym (i.all ∙ ap (λ l. i.done ++ l) step)) in
    record {
      after = x;
      line = i.written ++ (line ++ more);
      joins = subst (λ (l : List (Option (List ℕ))). JoinsEntries t x l 0 0 (i.written ++ (line ++ more))) entries all;
      writes = Writes-broken (i.written ++ (line ++ more)) line more a b c r other fault
          (OutputsText-weaker (λ l. l ≡ i.written) (λ l. l ++ (line ++ more) ≡ i.written ++ (line ++ more)) a b i.text (λ l e. ap (λ k. k ++ (line ++ more)) e)) i.still is writes;
      after_is = tt;
    }

-- all are taken
pub come_all : {E : Type 0} (t u : UnitTaker) (bytes rest : List ℕ) (a b : Known Output) → Come t u bytes rest a b → length rest < t.length + 3
    → (let done : Result (Unit {0}) E = Ok tt in TakesEntries done t u (map Some (pieces (t.length + 3) bytes)) 0 0 a b)
come_all t u bytes rest a b i few =
    let n : ℕ = t.length + 3 in
    let all : pieces n bytes ≡ i.done = i.all ∙ (ap (λ l. i.done ++ l) (pieces_none n rest few i.whole) ∙ append-nil i.done) in
    record {
      after = u;
      line = i.written;
      joins = subst (λ (l : List (Option (List ℕ))). JoinsEntries t u l 0 0 i.written) (ap (λ l. map Some l) (sym all)) i.joins;
      writes = Writes-whole i.written a b i.text i.still;
      after_is = refl;
    }

pub come_below : (t u : UnitTaker) (bytes rest : List ℕ) (a b : Known Output) → Come t u bytes rest a b → length bytes < 2 ^ 64 → (m : ℕ) → AreBelow t.counts m → AreBelow u.counts (m + 2 ^ 64)
come_below t u bytes rest a b i small m below =
    let k = i.room m below in
    record { given = omega (arith, k.given, small); cut = omega (arith, k.cut, small); bad = omega (arith, k.bad, small); missing = omega (arith, k.missing, small) }

pub below_weaker : (counts : Counts) (m n : ℕ) → m ≤ n → AreBelow counts m → AreBelow counts n
below_weaker counts m n more below = record { given = omega (arith, below.given, more); cut = omega (arith, below.cut, more); bad = omega (arith, below.bad, more); missing = omega (arith, below.missing, more) }
