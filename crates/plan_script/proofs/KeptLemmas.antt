-- The feeds of a text without a fault are of the schedule's fragments, and within the limits.
use Rattle.std.proofs.Common.{◌≡◌, ℕ, ◌+◌, ◌-◌, ◌<◌, ◌≤◌, zero, suc, nat_lt, Bool, true, false, List, [], ◌∷◌, ◌++◌, map, reverse, length, sum_by, Option, Some, None, Result, Ok, Err, refl, sym, subst, ◌∙◌, arith}
use Rattle.std.specs.Prelude.{◌==◌, ◌||◌, nat_le, All, IfOk, slice_index, if◌then◌else◌}
use Rattle.std.specs.List.{flat_map, range_with_len}
use Rattle.std.proofs.lemmas.Bool.{and_parts}
use Rattle.std.proofs.lemmas.Bool.Decides.{nat_tests}
use Rattle.std.proofs.lemmas.List.{length-reverse, get_or-reverse}
use Rattle.std.proofs.lemmas.List.Elements.{All-nil, All-cons, All-append, All-push, All-head, All-tail}
use Rattle.text_lines.specs.Lines.{words_of}
use Rattle.plan_rows.specs.declared.fault.Wrong.{Wrong}
use Rattle.plan_rows.specs.declared.keyword.Keyword.{Keyword}
use Rattle.plan_rows.specs.declared.value.LineValue.{LineValue}
use Rattle.plan_rows.specs.Tables.{keyword_in, line_reads}
use Rattle.plan_script.specs.declared.table.TheConstants.{TABLE}
use Rattle.drm_schedule.specs.declared.invalid.Reason.TheVariants as reasons
use Rattle.drm_schedule.specs.declared.plan.Plan.{Plan}
use Rattle.plan_script.specs.declared.delivery.Delivery.{Delivery}
use Rattle.plan_script.specs.declared.fault.ScriptFault.{ScriptFault}
use Rattle.plan_script.specs.declared.line.ScriptLine.{ScriptLine}
use Rattle.plan_script.specs.declared.line.ScriptLine.TheVariants as lines
use Rattle.plan_script.specs.declared.line.Delivers.{Delivers}
use Rattle.plan_script.specs.declared.line.Delivers.TheVariants as delivers
use Rattle.text_lines.specs.Faults.{fault, first_fault, ok_unless, ◌>>=◌, lines_say}
use Rattle.drm_timeline.specs.Numbers.{frame_count}
use Rattle.plan_script.specs.Script.{ScriptTextFault, IsDelivery, IsScript, fragment_count, delivery_size, delivery, all_of, delivered, has_packet, in_schedule, in_range, says, said_by, said_keyword, line_said, lacks_feed, rows, is_too_long, ended, script_of}
use Rattle.plan_script.specs.Steps.{ReadsScript, to_last, with_line, feeds_after, words_after, line_after, lines_after}
use Rattle.plan_script.proofs.SaidLemmas.{script_is}

abbrev AreOf : Plan → List Delivery → Type 0
AreOf plan ds = All (IsDelivery plan) ds

below : (a b : ℕ) → nat_lt a b ≡ true → a < b
below a b e = grind (arith, nat_tests)

fragments_of : (plan : Plan) (p a n : ℕ) → p < frame_count plan → a + n ≤ fragment_count plan p → AreOf plan (map (delivery p) (range_with_len a n))
fragments_of plan p a zero lt le = All-nil (IsDelivery plan)
fragments_of plan p a (suc n) lt le =
    All-cons (IsDelivery plan) (delivery p a) (map (delivery p) (range_with_len (a + 1) n)) (record { packet = lt; fragment = omega (arith, le) }) (fragments_of plan p (a + 1) n lt (omega (arith, le)))

all_of_packet : (plan : Plan) (p : ℕ) → p < frame_count plan → AreOf plan (all_of plan p)
unfolding all_of
all_of_packet plan p lt = fragments_of plan p 0 (fragment_count plan p) lt (omega arith)

packets_of : (plan : Plan) (p n : ℕ) → p + n ≤ frame_count plan → AreOf plan (flat_map (all_of plan) (range_with_len p n))
packets_of plan p zero le = All-nil (IsDelivery plan)
packets_of plan p (suc n) le =
    All-append (IsDelivery plan) (all_of plan p) (flat_map (all_of plan) (range_with_len (p + 1) n)) (all_of_packet plan p (omega (arith, le))) (packets_of plan (p + 1) n (omega (arith, le)))

reversed : {X : Type 0} (P : X → Type 0) (xs : List X) → All P xs → All P (reverse xs)
reversed P xs all = λ k d lt.
    let within : k < length xs = omega (arith, lt, length-reverse xs) in
    subst P (sym (get_or-reverse xs k d within)) (all (length xs - 1 - k) d (omega (arith, within)))

line_of_schedule : (plan : Plan) (d : Delivers) → in_schedule plan d ≡ true → AreOf plan (delivered plan d)
unfolding delivered in_schedule
line_of_schedule plan (delivers.Take p i) e =
    let parts = and_parts (has_packet plan p) (nat_lt i (fragment_count plan p)) e in
    All-cons (IsDelivery plan) (delivery p i) [] (record { packet = below p (frame_count plan) parts.0; fragment = below i (fragment_count plan p) parts.1 }) (All-nil (IsDelivery plan))
line_of_schedule plan (delivers.Packet p) e = all_of_packet plan p (below p (frame_count plan) e)
line_of_schedule plan (delivers.Packets first last) e =
    let parts = and_parts (nat_le first last) (has_packet plan last) e in
    let order : first ≤ last = grind (arith, nat_tests, parts.0) in
    packets_of plan first (last + 1 - first) (omega (arith, order, below last (frame_count plan) parts.1))
line_of_schedule plan (delivers.Back p) e = reversed (IsDelivery plan) (all_of plan p) (all_of_packet plan p (below p (frame_count plan) e))

more_of : (plan : Plan) (more : List Delivery) (feeds : List (List Delivery)) → AreOf plan more → All (AreOf plan) feeds → All (AreOf plan) (to_last more feeds)
more_of plan more [] new all = All-nil (AreOf plan)
more_of plan more (feed ∷ []) new all =
    All-cons (AreOf plan) (feed ++ more) [] (All-append (IsDelivery plan) feed more (All-head (AreOf plan) feed [] all) new) (All-nil (AreOf plan))
more_of plan more (feed ∷ next ∷ feeds) new all =
    All-cons (AreOf plan) feed (to_last more (next ∷ feeds)) (All-head (AreOf plan) feed (next ∷ feeds) all) (more_of plan more (next ∷ feeds) new (All-tail (AreOf plan) feed (next ∷ feeds) all))

abbrev said_is : ScriptLine → Result ScriptLine ScriptTextFault
said_is line = Ok line

-- what a line says is within range
pub said_in_range : (plan : Plan) (n : ℕ) (line first : List ℕ) (words : List (List ℕ)) (l : ScriptLine) → line_said plan n line first words ≡ said_is l → in_range plan l ≡ true
unfolding line_said
said_in_range plan n line first words l e = by (keyword_in TABLE 1 first) e
  where
    tested : (says : ScriptLine) (within : Bool) → within ≡ in_range plan says → (if within then said_is says else Err (fault n reasons.Range)) ≡ said_is l → in_range plan l ≡ true
    tested says true is e =
        let same : says ≡ l = cc in
        subst (λ (x : ScriptLine). in_range plan x ≡ true) same (sym is)
    tested says false is e = absurd cc

    spelled : (keyword : Keyword) (read : Result (List LineValue) Wrong) → said_by plan n keyword read ≡ said_is l → in_range plan l ≡ true
    spelled keyword (Ok v) e = tested (says keyword v) (in_range plan (says keyword v)) refl e
    spelled keyword (Err wrong) e = absurd cc

    by : (keyword : Option Keyword) → said_keyword plan n keyword line words ≡ said_is l → in_range plan l ≡ true
    by None e = absurd cc
    by (Some keyword) e = spelled keyword (line_reads TABLE 1 keyword line words) e

line_of : (plan : Plan) (line : ScriptLine) (feeds : List (List Delivery)) → in_range plan line ≡ true → All (AreOf plan) feeds → All (AreOf plan) (with_line plan line feeds)
line_of plan lines.Feed feeds e all = All-push (AreOf plan) feeds [] all (All-nil (IsDelivery plan))
line_of plan (lines.Deliver d) feeds e all = more_of plan (delivered plan d) feeds (line_of_schedule plan d e) all

-- what is kept from line to line
record Kept (plan : Plan) (feeds : List (List Delivery)) : Type 0 where
  each : All (AreOf plan) feeds
  short : is_too_long plan feeds ≡ false

abbrev gives : List (List Delivery) → Result (List (List Delivery)) ScriptTextFault
gives feeds = Ok feeds

-- no row holds
record NoRow (long : Bool) (feeds new : List (List Delivery)) : Type 0 where
  short : long ≡ false
  same : feeds ≡ new

no_row : (missing long : Bool) (n : ℕ) (feeds new : List (List Delivery)) → ok_unless (first_fault (rows n missing long)) feeds ≡ gives new → NoRow long feeds new
no_row true long n feeds new e = absurd cc
no_row false true n feeds new e = absurd cc
no_row false false n feeds new e = record { short = refl; same = cc }

line_kept : (plan : Plan) (feeds new : List (List Delivery)) (n : ℕ) (line : ScriptLine) → in_range plan line ≡ true → Kept plan feeds → feeds_after plan feeds n line ≡ gives new → Kept plan new
unfolding feeds_after
line_kept plan feeds new n line within kept e =
    let no = no_row (lacks_feed feeds line) (is_too_long plan (with_line plan line feeds)) n (with_line plan line feeds) new e in
    subst (Kept plan) no.same (record { each = line_of plan line feeds within kept.each; short = no.short })

words_kept : (plan : Plan) (feeds new : List (List Delivery)) (n : ℕ) (line : List ℕ) (words : List (List ℕ)) → Kept plan feeds → words_after plan feeds n line words ≡ gives new → Kept plan new
words_kept plan feeds new n line [] kept e =
    let same : feeds ≡ new = cc in
    subst (Kept plan) same kept
words_kept plan feeds new n line (first ∷ words) kept e = by (slice_index first 0 == 35) (line_said plan n line first words) refl e
  where
    by : (x : Bool) (r : Result ScriptLine ScriptTextFault) → line_said plan n line first words ≡ r → (if x then gives feeds else (r >>= feeds_after plan feeds n)) ≡ gives new → Kept plan new
    by true r said is =
        let same : feeds ≡ new = cc in
        subst (Kept plan) same kept
    by false (Ok l) said is = line_kept plan feeds new n l (said_in_range plan n line first words l said) kept is
    by false (Err f) said is = absurd cc

lines_kept : (plan : Plan) (feeds new : List (List Delivery)) (n : ℕ) (lines : List (List ℕ)) → Kept plan feeds → lines_after plan feeds n lines ≡ gives new → Kept plan new
unfolding lines_say
lines_kept plan feeds new n [] kept e =
    let same : feeds ≡ new = cc in
    subst (Kept plan) same kept
lines_kept plan feeds new n (line ∷ lines) kept e = by (line_after plan feeds n line) refl (λ more. lines_kept plan more new (n + 1) lines) e
  where
    by : (r : Result (List (List Delivery)) ScriptTextFault) → r ≡ line_after plan feeds n line → ((more : List (List Delivery)) → Kept plan more → lines_after plan more (n + 1) lines ≡ gives new → Kept plan new) → (r >>= λ more. lines_after plan more (n + 1) lines) ≡ gives new → Kept plan new
    by (Ok more) is rest all = rest more (words_kept plan feeds more n line (words_of line) kept (sym is)) all
    by (Err p) is rest all = absurd cc

none_kept : (plan : Plan) → Kept plan []
unfolding is_too_long
none_kept plan = record { each = All-nil (AreOf plan); short = refl }

-- within the limits
record Within (f n b : ℕ) : Type 0 where
  feeds : f ≤ 16
  deliveries : n ≤ 100000
  bytes : b ≤ 268435456

within : (f n b : ℕ) → (nat_lt 16 f || nat_lt 100000 n || nat_lt 268435456 b) ≡ false → Within f n b
within f n b e = record { feeds = grind (arith, nat_tests); deliveries = grind (arith, nat_tests); bytes = grind (arith, nat_tests) }

limits : (plan : Plan) (feeds : List (List Delivery)) → is_too_long plan feeds ≡ false → Within (length feeds) (sum_by length feeds) (sum_by (sum_by (delivery_size plan)) feeds)
unfolding is_too_long
limits plan feeds e = within (length feeds) (sum_by length feeds) (sum_by (sum_by (delivery_size plan)) feeds) e

record Ends (feeds new : List (List Delivery)) : Type 0 where
  some : 1 ≤ length feeds
  same : feeds ≡ new

ends_by : (none : Bool) (n : ℕ) (feeds new : List (List Delivery)) → none ≡ (length feeds == 0) → ok_unless (first_fault ((none, fault (n + 1) reasons.Missing) ∷ [])) feeds ≡ gives new → Ends feeds new
ends_by true n feeds new is e = absurd cc
ends_by false n feeds new is e = record { some = grind (arith, nat_tests); same = cc }

ends : (n : ℕ) (feeds new : List (List Delivery)) → ended n feeds ≡ gives new → Ends feeds new
unfolding ended
ends n feeds new e = ends_by (length feeds == 0) n feeds new refl e

script_kept : (plan : Plan) (lines : List (List ℕ)) (new : List (List Delivery)) → script_of plan lines ≡ gives new → IsScript plan new
script_kept plan lines new e = by (lines_after plan [] 1 lines) refl (sym (script_is plan lines) ∙ e)
  where
    by : (r : Result (List (List Delivery)) ScriptTextFault) → r ≡ lines_after plan [] 1 lines → (r >>= ended (length lines)) ≡ gives new → IsScript plan new
    by (Ok feeds) is all =
        let end = ends (length lines) feeds new all in
        let kept = lines_kept plan [] feeds 1 lines (none_kept plan) (sym is) in
        let low = limits plan feeds kept.short in
        subst (IsScript plan) end.same (record { some = end.some; few = low.feeds; each = kept.each; few_deliveries = low.deliveries; few_bytes = low.bytes })
    by (Err p) is all = absurd cc

-- what is read is a script
pub script_is_one : (plan : Plan) (lines : List (List ℕ)) (r : Result (List (List Delivery)) ScriptFault) → ReadsScript r (script_of plan lines) → IfOk r (IsScript plan)
script_is_one plan lines (Ok feeds) e = script_kept plan lines feeds e
script_is_one plan lines (Err p) e = tt
