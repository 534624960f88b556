-- Entries that are taken one after another.
use Rattle.std.proofs.Common.{◌≡◌, ℕ, ◌+◌, ◌≤◌, Bool, true, false, List, [], ◌∷◌, ◌++◌, length, map, Option, None, Some, is_some, if◌then◌else◌, ◌==◌, refl, sym, ap, subst, ◌∙◌, arith, Result}
use Rattle.std.proofs.lemmas.List.{append-nil}
use Rattle.std.proofs.lemmas.List.Concat.{flat_map-append}
use Rattle.std.specs.Int.{from_bool}
use Rattle.drm_links.specs.Known.{Known}
use Rattle.drm_links.specs.Sink.{Output}
use Rattle.std.specs.List.{AllByRecursion}
use Rattle.drm_bits.specs.Bits.{IsBytes}
use Rattle.drm_data.specs.Joining.{JoinerEvent, Received, Broken, Gap, JoinerState, OpenUnit, JoinerAnswer, Silent, Whole, CutOff, CutWhole, Refuses, cut_answer, answer, after, begun_after, closed}
use Rattle.law_data.specs.Readings.{AreEvents}
use Rattle.law_data.specs.Runs.{answers, after_all, unit_in, with_unit, units_in, cuts_in}
use Rattle.law_data.proofs.Totals.{some_event}
use Rattle.cmd_unpack.specs.declared.counts.Counts.{Counts}
use Rattle.cmd_unpack.specs.declared.units.UnitTaker.{UnitTaker}
use Rattle.cmd_unpack.specs.Lines.{cut_line, answer_text, answers_text}
use Rattle.cmd_unpack.specs.Printed.{refused_in}
use Rattle.cmd_unpack.specs.Taken.{counted, JoinsEntries, TakesEntries}

-- ---- answers

answers_join : (s : JoinerState) (xs ys : List JoinerEvent) → answers s (xs ++ ys) ≡ answers s xs ++ answers (after_all s xs) ys
answers_join s [] ys = refl
answers_join s (x ∷ xs) ys = ap (λ l. answer s x ∷ l) (answers_join (after s x) xs ys)

after_join : (s : JoinerState) (xs ys : List JoinerEvent) → after_all s (xs ++ ys) ≡ after_all (after_all s xs) ys
after_join s [] ys = refl
after_join s (x ∷ xs) ys = after_join (after s x) xs ys

with_size : (unit : Option (List ℕ)) (xs : List (List ℕ)) → length (with_unit unit xs) ≡ from_bool (is_some unit) + length xs
with_size None xs = omega arith
with_size (Some unit) xs = omega arith

units_join : (xs ys : List JoinerAnswer) → length (units_in (xs ++ ys)) ≡ length (units_in xs) + length (units_in ys)
units_join [] ys = omega arith
units_join (x ∷ xs) ys = omega (arith, units_join xs ys, with_size (unit_in x) (units_in (xs ++ ys)), with_size (unit_in x) (units_in xs))

cuts_join : (xs ys : List JoinerAnswer) → cuts_in (xs ++ ys) ≡ cuts_in xs + cuts_in ys
cuts_join [] ys = omega arith
cuts_join (x ∷ xs) ys = omega (arith, cuts_join xs ys)

refused_join : (xs ys : List JoinerAnswer) → refused_in (xs ++ ys) ≡ refused_in xs + refused_in ys
refused_join [] ys = omega arith
refused_join (x ∷ xs) ys = omega (arith, refused_join xs ys)

pub events_join : (d : ℕ) (xs ys : List (Option (List ℕ))) (es fs : List JoinerEvent) → AreEvents d xs es → AreEvents d ys fs → AreEvents d (xs ++ ys) (es ++ fs)
events_join d [] ys es fs are more = subst (λ l. AreEvents d ys (l ++ fs)) (sym are) more
events_join d (None ∷ xs) ys [] fs are more = absurd are
events_join d (Some x ∷ xs) ys [] fs are more = absurd are
events_join d (None ∷ xs) ys (e ∷ es) fs are more = (are.0, events_join d xs ys es fs are.1 more)
events_join d (Some x ∷ xs) ys (e ∷ es) fs are more = (are.0, events_join d xs ys es fs are.1 more)

-- ---- a joiner's length stays

length_by : (b : Bool) (s t : JoinerState) → t.length ≡ s.length → (if b then t else s).length ≡ s.length
length_by true s t is = is
length_by false s t is = refl

pub after_length : (s : JoinerState) (e : JoinerEvent) → (after s e).length ≡ s.length
after_length s (Received p) = length_by (p.id == s.id) s (record s { begun = begun_after s.begun p }) refl
after_length s (Broken fault) = refl
after_length s Gap = refl

pub all_length : (s : JoinerState) (events : List JoinerEvent) → (after_all s events).length ≡ s.length
all_length s [] = refl
all_length s (e ∷ events) = all_length (after s e) events ∙ after_length s e

-- ---- entries

pub joins_none : (t : UnitTaker) → JoinsEntries t t [] 0 0 []
joins_none t = record {
  stream = refl;
  size = refl;
  events = [];
  are = refl;
  joiner = refl;
  line_is = refl;
  given_is = omega arith;
  cut_is = omega arith;
  bad_is = omega arith;
  missing_is = omega arith;
}

-- what an answer counts
pub record CountsOne (counts : Counts) (a : JoinerAnswer) : Type 0 where
  pub given : (counted counts a).given ≡ counts.given + length (units_in (a ∷ []))
  pub cut : (counted counts a).cut ≡ counts.cut + cuts_in (a ∷ [])
  pub bad : (counted counts a).bad ≡ counts.bad + refused_in (a ∷ [])
  pub missing : (counted counts a).missing ≡ counts.missing

counts_one : (counts : Counts) (a : JoinerAnswer) → CountsOne counts a
counts_one counts Silent = record { given = omega arith; cut = omega arith; bad = omega arith; missing = refl }
counts_one counts (Whole unit) = record { given = omega arith; cut = omega arith; bad = omega arith; missing = refl }
counts_one counts CutOff = record { given = omega arith; cut = omega arith; bad = omega arith; missing = refl }
counts_one counts (CutWhole unit) = record { given = omega arith; cut = omega arith; bad = omega arith; missing = refl }
counts_one counts (Refuses fault cut) = record { given = omega arith; cut = omega arith; bad = omega arith; missing = refl }

-- one event
pub joins_event : (t : UnitTaker) (joiner : JoinerState) (counts : Counts) (entry : Option (List ℕ)) (event : JoinerEvent)
    → AreEvents t.joiner.length (entry ∷ []) (event ∷ []) → joiner ≡ after t.joiner event → counts ≡ counted t.counts (answer t.joiner event)
    → JoinsEntries t (record { stream = t.stream; length = t.length; joiner = joiner; counts = counts }) (entry ∷ []) 0 0 (answer_text (answer t.joiner event))
joins_event t joiner counts entry event are joins count =
    let one = counts_one t.counts (answer t.joiner event) in
    record {
      stream = refl;
      size = refl;
      events = event ∷ [];
      are = are;
      joiner = joins;
      line_is = sym (append-nil (answer_text (answer t.joiner event)));
      given_is = ap (λ (n : Counts). n.given) count ∙ one.given;
      cut_is = ap (λ (n : Counts). n.cut) count ∙ one.cut;
      bad_is = omega (arith, ap (λ (n : Counts). n.bad) count, one.bad);
      missing_is = omega (arith, ap (λ (n : Counts). n.missing) count, one.missing);
    }

-- a gap
gap_text : (b : Option OpenUnit) → cut_line (is_some b) ≡ answer_text (cut_answer b)
gap_text None = refl
gap_text (Some u) = refl

gap_counts : (b : Option OpenUnit) (counts : Counts) → record counts { cut = counts.cut + from_bool (is_some b) } ≡ counted counts (cut_answer b)
gap_counts None counts = let none : counts.cut + 0 ≡ counts.cut = omega arith in ap (λ (n : ℕ). record counts { cut = n }) none
gap_counts (Some u) counts = refl

pub joins_gap : (t : UnitTaker) (joiner : JoinerState) (n : ℕ) (cut : Bool) → cut ≡ is_some t.joiner.begun → joiner ≡ closed t.joiner → n ≡ from_bool cut
    → JoinsEntries t (record { stream = t.stream; length = t.length; joiner = joiner; counts = record t.counts { cut = t.counts.cut + n } }) (None ∷ []) 0 0 (cut_line cut)
joins_gap t joiner n cut was now is =
    let many : n ≡ from_bool (is_some t.joiner.begun) = is ∙ ap from_bool was in
    let counts : record t.counts { cut = t.counts.cut + n } ≡ counted t.counts (cut_answer t.joiner.begun) =
    ap (λ (k : ℕ). record t.counts { cut = t.counts.cut + k }) many ∙ gap_counts t.joiner.begun t.counts in
    let line : cut_line cut ≡ answer_text (cut_answer t.joiner.begun) = ap cut_line was ∙ gap_text t.joiner.begun in
    subst (λ (l : List ℕ). JoinsEntries t (record { stream = t.stream; length = t.length; joiner = joiner; counts = record t.counts { cut = t.counts.cut + n } }) (None ∷ []) 0 0 l) (sym line)
    (joins_event t joiner (record t.counts { cut = t.counts.cut + n }) None Gap (refl, refl) now counts)

-- some more
pub joins_then : (t u v : UnitTaker) (xs ys : List (Option (List ℕ))) (b m c n : ℕ) (r s : List ℕ) → JoinsEntries t u xs b m r → JoinsEntries u v ys c n s → JoinsEntries t v (xs ++ ys) (b + c) (m + n) (r ++ s)
joins_then t u v xs ys b m c n r s first second =
    let mid : JoinerState = after_all t.joiner first.events in
    let said : answers u.joiner second.events ≡ answers mid second.events = ap (λ (k : JoinerState). answers k second.events) first.joiner in
    let all : answers t.joiner (first.events ++ second.events) ≡ answers t.joiner first.events ++ answers u.joiner second.events =
    answers_join t.joiner first.events second.events ∙ ap (λ l. answers t.joiner first.events ++ l) (sym said) in
    let long : u.joiner.length ≡ t.joiner.length = ap (λ (k : JoinerState). k.length) first.joiner ∙ all_length t.joiner first.events in
    record {
      stream = second.stream ∙ first.stream;
      size = second.size ∙ first.size;
      events = first.events ++ second.events;
      are = events_join t.joiner.length xs ys first.events second.events first.are (subst (λ d. AreEvents d ys second.events) long second.are);
      joiner = second.joiner ∙ (ap (λ (k : JoinerState). after_all k second.events) first.joiner ∙ sym (after_join t.joiner first.events second.events));
      line_is = ap (λ l. l ++ s) first.line_is
          ∙ (ap (λ l. answers_text (answers t.joiner first.events) ++ l) second.line_is
          ∙ (sym (flat_map-append answer_text (answers t.joiner first.events) (answers u.joiner second.events)) ∙ ap answers_text (sym all)));
      given_is = omega (arith, first.given_is, second.given_is, ap (λ l. length (units_in l)) all, units_join (answers t.joiner first.events) (answers u.joiner second.events));
      cut_is = omega (arith, first.cut_is, second.cut_is, ap cuts_in all, cuts_join (answers t.joiner first.events) (answers u.joiner second.events));
      bad_is = omega (arith, first.bad_is, second.bad_is, ap refused_in all, refused_join (answers t.joiner first.events) (answers u.joiner second.events));
      missing_is = omega (arith, first.missing_is, second.missing_is);
    }

-- the entries of pieces that are still to come have events, too
pub some_joining : (pieces : List (List ℕ)) (t : UnitTaker) → 1 ≤ t.joiner.length → AllByRecursion IsBytes pieces → (u : UnitTaker) × (line : List ℕ) × JoinsEntries t u (map Some pieces) 0 0 line
some_joining [] t some are = (t, [], joins_none t)
some_joining (piece ∷ pieces) t some are =
    let (event, reads) = some_event t.joiner.length piece some are.0 in
    let u : UnitTaker = record { stream = t.stream; length = t.length; joiner = after t.joiner event; counts = counted t.counts (answer t.joiner event) } in
    let one : JoinsEntries t u (Some piece ∷ []) 0 0 (answer_text (answer t.joiner event)) =
    joins_event t (after t.joiner event) (counted t.counts (answer t.joiner event)) (Some piece) event (reads, refl) refl refl in
    let (v, line, more) = some_joining pieces u (omega (arith, some, after_length t.joiner event)) are.1 in
    (v, answer_text (answer t.joiner event) ++ line, joins_then t u v (Some piece ∷ []) (map Some pieces) 0 0 0 0 (answer_text (answer t.joiner event)) line one more)

-- the same of a taker that has counted an item already
pub takes_as : {E : Type 0} (result : Result (Unit {0}) E) (t s u : UnitTaker) (entries others : List (Option (List ℕ))) (bad missing : ℕ) (a b : Known Output)
    → TakesEntries result s u entries 0 0 a b → s.stream ≡ t.stream → s.length ≡ t.length → s.joiner ≡ t.joiner → s.counts.given ≡ t.counts.given → s.counts.cut ≡ t.counts.cut
    → s.counts.bad ≡ t.counts.bad + bad → s.counts.missing ≡ t.counts.missing + missing → others ≡ entries → TakesEntries result t u others bad missing a b
takes_as result t s u entries others bad missing a b taken stream size joiner given cut bad_is missing_is is =
    let j = taken.joins in
    let said : answers s.joiner j.events ≡ answers t.joiner j.events = ap (λ (k : JoinerState). answers k j.events) joiner in
    record {
      after = taken.after;
      line = taken.line;
      joins = record {
        stream = j.stream ∙ stream;
        size = j.size ∙ size;
        events = j.events;
        are = subst (λ (l : List (Option (List ℕ))). AreEvents t.joiner.length l j.events) (sym is) (subst (λ (k : JoinerState). AreEvents k.length entries j.events) joiner j.are);
        joiner = j.joiner ∙ ap (λ (k : JoinerState). after_all k j.events) joiner;
        line_is = j.line_is ∙ ap answers_text said;
        given_is = omega (arith, j.given_is, given, ap (λ l. length (units_in l)) said);
        cut_is = omega (arith, j.cut_is, cut, ap cuts_in said);
        bad_is = omega (arith, j.bad_is, bad_is, ap refused_in said);
        missing_is = omega (arith, j.missing_is, missing_is);
      };
      writes = taken.writes;
      after_is = taken.after_is;
    }
