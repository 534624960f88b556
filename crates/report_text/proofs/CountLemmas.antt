-- What is counted is what the whole report tells.
use Rattle.std.proofs.Common.{◌≡◌, ℕ, ◌+◌, ◌-◌, ◌≤◌, ◌↔◌, ◌==◌, ◌&&◌, Bool, true, false, IsTrue, if◌then◌else◌, List, [], ◌∷◌, ◌++◌, length, drop, refl, sym, ◌∙◌, ap, subst, arith, length-append, length-drop, append_assoc, zero, suc}
use Rattle.std.specs.List.{filter}
use Rattle.std.proofs.lemmas.Bool.{and_parts}
use Rattle.std.proofs.lemmas.Bool.Decides.{nat_tests}
use Rattle.std.proofs.lemmas.List.{append-nil, drop-append-le, drop-drop}
use Rattle.std.proofs.lemmas.List.Elements.{filter-append}
use Rattle.circular_buffer.specs.Buffer.{keep_last}
use Rattle.dcp_collect.specs.declared.taken.Taken.{Taken}
use Rattle.dcp_collect.specs.CollectorState.{CollectorState}
use Rattle.dcp_collect.specs.Runs.{CollectorItem as Given, CollectorSteps}
use Rattle.mod_feed.specs.Items.{FrameItem, Frame, Missing, Bad}
use Rattle.mod_feed.specs.Feeding.{FeedStep}
use Rattle.report_text.specs.declared.report.Sums.{Sums}
use Rattle.report_text.specs.FaultWords.{IsReportable}
use Rattle.report_text.specs.declared.counts.Refusal.{Refusal}
use Rattle.report_text.specs.Reports.{is_given, is_missing, is_bad, is_refused, refusals_from, refusals, sums_of, is_clean}
use Rattle.dcp_collect.specs.declared.taken.Taken.TheVariants.{Kept, Repeated, Late, Refused, Inconsistent}
use Rattle.report_text.specs.declared.totals.AnswerCounts.{AnswerCounts}
use Rattle.report_text.specs.Tallies.{TallyContents, one_more_item, one_more_answer, noted, with_steps, tally_of, totals_in}
use Rattle.report_text.specs.Totals.{is_kept, is_repeated, is_late, answers_of, totals_of, answered, are_clean}
use Rattle.report_text.proofs.TakenLemmas.{takes_reportable}
use Rattle.report_text.proofs.RefusalLemmas.{AreReportable}

-- ---- refusals

abbrev one_refusal : ℕ → Taken → List Refusal
one_refusal n a = if is_refused a then record { number = n; taken = a } ∷ [] else []

put_before : (b : Bool) (r : Refusal) (rs more : List Refusal) → (if b then r ∷ (rs ++ more) else rs ++ more) ≡ (if b then r ∷ rs else rs) ++ more
put_before true r rs more = refl
put_before false r rs more = refl

refusals_more : (n : ℕ) (taken : List Taken) (a : Taken) → refusals_from n (taken ++ a ∷ []) ≡ refusals_from n taken ++ one_refusal (n + length taken) a
refusals_more n [] a = ap (λ k. one_refusal k a) (let e : n ≡ n + 0 = omega arith in e)
refusals_more n (first ∷ taken) a =
    let e : (n + 1) + length taken ≡ n + length (first ∷ taken) = omega arith in
    let more : refusals_from (n + 1) (taken ++ a ∷ []) ≡ refusals_from (n + 1) taken ++ one_refusal (n + length (first ∷ taken)) a =
    refusals_more (n + 1) taken a ∙ ap (λ k. refusals_from (n + 1) taken ++ one_refusal k a) e in
    ap (λ l. if is_refused first then record { number = n; taken = first } ∷ l else l) more
    ∙ put_before (is_refused first) (record { number = n; taken = first }) (refusals_from (n + 1) taken) (one_refusal (n + length (first ∷ taken)) a)

put_reportable : (b : Bool) (r : Refusal) (rs : List Refusal) → (b ≡ true → IsReportable r.taken) → AreReportable rs → AreReportable (if b then r ∷ rs else rs)
put_reportable true r rs one all = (one refl, all)
put_reportable false r rs one all = all

pub refusals_reportable : (c d : CollectorState) (ds : List (List ℕ)) (taken : List Taken) (items : List Given) (n : ℕ) → CollectorSteps c ds taken items d → AreReportable (refusals_from n taken)
refusals_reportable c d [] [] items n s = tt
refusals_reportable c d [] (a ∷ taken) items n s = absurd s
refusals_reportable c d (b ∷ ds) [] items n s = absurd s
refusals_reportable c d (b ∷ ds) (a ∷ taken) items n (now, later, kept, mid, takes, gives, steps, are) =
    put_reportable (is_refused a) (record { number = n; taken = a }) (refusals_from (n + 1) taken) (takes_reportable c kept b a takes) (refusals_reportable mid d ds taken later (n + 1) steps)

drop_reportable : (n : ℕ) (rs : List Refusal) → AreReportable rs → AreReportable (drop n rs)
drop_reportable zero rs all = all
drop_reportable (suc n) [] all = tt
drop_reportable (suc n) (r ∷ rs) all = drop_reportable n rs all.1

pub last_reportable : (n : ℕ) (rs : List Refusal) → AreReportable rs → AreReportable (keep_last n rs)
last_reportable n rs all = drop_reportable (length rs - n) rs all

-- ---- the last ones

pub last_more : (n : ℕ) (rs : List Refusal) (r : Refusal) → keep_last n (keep_last n rs ++ r ∷ []) ≡ keep_last n (rs ++ r ∷ [])
last_more n rs r =
    let k : ℕ = length rs - n in
    let below : k ≤ length rs = omega arith in
    let whole : drop k rs ++ r ∷ [] ≡ drop k (rs ++ r ∷ []) = sym (drop-append-le k rs (r ∷ []) below) in
    let size : length (rs ++ r ∷ []) ≡ length rs + 1 = length-append rs (r ∷ []) in
    let left : length (drop k (rs ++ r ∷ [])) ≡ length (rs ++ r ∷ []) - k = length-drop k (rs ++ r ∷ []) in
    let at : k + (length (drop k (rs ++ r ∷ [])) - n) ≡ length (rs ++ r ∷ []) - n = omega (arith, size, left) in
    ap (keep_last n) whole
    ∙ drop-drop (length (drop k (rs ++ r ∷ [])) - n) k (rs ++ r ∷ [])
    ∙ ap (λ m. drop m (rs ++ r ∷ [])) at

-- ---- the sums

abbrev sums_from : ℕ → ℕ → ℕ → ℕ → Sums
sums_from g m b r = record { given = g; missing = m; bad = b; refused = r }

sums_same : (g g' m m' b b' r r' : ℕ) → g ≡ g' → m ≡ m' → b ≡ b' → r ≡ r'
    → sums_from g m b r ≡ sums_from g' m' b' r'
sums_same g g' m m' b b' r r' p q s t = λ i. record { given = p i; missing = q i; bad = s i; refused = t i }

abbrev one : Bool → ℕ
one true = 1
one false = 0

one_kept : {X : Type 0} (P : X → Bool) (s : X) → length (filter P (s ∷ [])) ≡ one (P s)
one_kept P s = by (P s)
  where
    by : (b : Bool) → length (if b then s ∷ [] else []) ≡ one b
    by true = refl
    by false = refl

count_more : {X : Type 0} (P : X → Bool) (ss : List X) (s : X) → length (filter P (ss ++ s ∷ [])) ≡ length (filter P ss) + one (P s)
count_more P ss s = ap length (filter-append P ss (s ∷ [])) ∙ length-append (filter P ss) (filter P (s ∷ [])) ∙ ap (λ k. length (filter P ss) + k) (one_kept P s)

one_item : (g m b r : ℕ) (item : FrameItem)
    → one_more_item (sums_from g m b r) item ≡ sums_from (g + one (is_given item)) (m + one (is_missing item)) (b + one (is_bad item)) r
one_item g m b r (Frame index frame payload) = sums_same (g + 1) (g + 1) m (m + 0) b (b + 0) r r refl (omega arith) (omega arith) refl
one_item g m b r (Missing index had total) = sums_same g (g + 0) (m + 1) (m + 1) b (b + 0) r r (omega arith) refl (omega arith) refl
one_item g m b r (Bad index fault) = sums_same g (g + 0) m (m + 0) (b + 1) (b + 1) r r (omega arith) (omega arith) refl refl

sums_more : (ss : List FeedStep) (s : FeedStep) (rs : List Refusal) → one_more_item (sums_of ss rs) s.item ≡ sums_of (ss ++ s ∷ []) rs
sums_more ss s rs =
    one_item (length (filter (λ x. is_given x.item) ss)) (length (filter (λ x. is_missing x.item) ss)) (length (filter (λ x. is_bad x.item) ss)) (length rs) s.item
    ∙ sums_same _ _ _ _ _ _ _ _
    (sym (count_more (λ x. is_given x.item) ss s)) (sym (count_more (λ x. is_missing x.item) ss s)) (sym (count_more (λ x. is_bad x.item) ss s)) refl

-- ---- the answers

abbrev answers_from : ℕ → ℕ → ℕ → AnswerCounts
answers_from k r l = record { kept = k; repeated = r; late = l }

answers_same : (taken : List Taken) (a : Taken) → answers_from (length (filter is_kept taken) + one (is_kept a)) (length (filter is_repeated taken) + one (is_repeated a)) (length (filter is_late taken) + one (is_late a))
    ≡ answers_of (taken ++ a ∷ [])
answers_same taken a = λ i. record {
  kept = sym (count_more is_kept taken a) i;
  repeated = sym (count_more is_repeated taken a) i;
  late = sym (count_more is_late taken a) i;
}

same_answers : (k r l k' r' l' : ℕ) → k ≡ k' → r ≡ r' → l ≡ l' → answers_from k r l ≡ answers_from k' r' l'
same_answers k r l k' r' l' p q s = λ i. record { kept = p i; repeated = q i; late = s i }

no_more : (n : ℕ) → n ≡ n + 0
no_more n = omega arith

answer_more : (taken : List Taken) (a : Taken) → one_more_answer (answers_of taken) a ≡ answers_of (taken ++ a ∷ [])
answer_more taken a = by a ∙ answers_same taken a
  where
    by : (a : Taken) → one_more_answer (answers_of taken) a
        ≡ answers_from (length (filter is_kept taken) + one (is_kept a)) (length (filter is_repeated taken) + one (is_repeated a)) (length (filter is_late taken) + one (is_late a))
    by Kept = same_answers _ _ _ _ _ _ refl (no_more _) (no_more _)
    by Repeated = same_answers _ _ _ _ _ _ (no_more _) refl (no_more _)
    by Late = same_answers _ _ _ _ _ _ (no_more _) (no_more _) refl
    by (Refused f) = same_answers _ _ _ _ _ _ (no_more _) (no_more _) (no_more _)
    by (Inconsistent kept came) = same_answers _ _ _ _ _ _ (no_more _) (no_more _) (no_more _)

-- each answer is of one kind
each_once : (n : ℕ) (taken : List Taken) → length (refusals_from n taken) + length (filter is_kept taken) + length (filter is_repeated taken) + length (filter is_late taken) ≡ length taken
each_once n [] = refl
each_once n (Kept ∷ taken) = let e = each_once (n + 1) taken in omega (arith, e)
each_once n (Repeated ∷ taken) = let e = each_once (n + 1) taken in omega (arith, e)
each_once n (Late ∷ taken) = let e = each_once (n + 1) taken in omega (arith, e)
each_once n (Refused f ∷ taken) = let e = each_once (n + 1) taken in omega (arith, e)
each_once n (Inconsistent kept came ∷ taken) = let e = each_once (n + 1) taken in omega (arith, e)

pub all_answered : (steps : List FeedStep) (taken : List Taken) → answered (totals_of steps taken) ≡ length taken
all_answered steps taken = each_once 0 taken

-- ---- the tally

abbrev tally_from : Sums → AnswerCounts → List Refusal → TallyContents
tally_from sums answers refused = record { sums = sums; answers = answers; refused = refused }

pub steps_counted : (ss more : List FeedStep) (taken : List Taken) → with_steps (tally_of ss taken) more ≡ tally_of (ss ++ more) taken
steps_counted ss [] taken = ap (λ l. tally_of l taken) (sym (append-nil ss))
steps_counted ss (s ∷ more) taken =
    ap (λ (x : Sums). with_steps (tally_from x (answers_of taken) (keep_last 16 (refusals taken))) more) (sums_more ss s (refusals taken))
    ∙ steps_counted (ss ++ s ∷ []) more taken
    ∙ ap (λ l. tally_of l taken) (append_assoc ss (s ∷ []) more)

noted_as : (ss : List FeedStep) (rs : List Refusal) (k l : AnswerCounts) (b : Bool) (r : Refusal) → (b ≡ true → k ≡ l)
    → (if b then tally_from (record (sums_of ss rs) { refused = length rs + 1 }) k (keep_last 16 (keep_last 16 rs ++ r ∷ [])) else tally_from (sums_of ss rs) l (keep_last 16 rs))
    ≡ tally_from (sums_of ss (rs ++ (if b then r ∷ [] else []))) l (keep_last 16 (rs ++ (if b then r ∷ [] else [])))
noted_as ss rs k l true r same =
    let size : length rs + 1 ≡ length (rs ++ r ∷ []) = sym (length-append rs (r ∷ [])) in
    ap (λ (x : AnswerCounts). tally_from (record (sums_of ss rs) { refused = length rs + 1 }) x (keep_last 16 (keep_last 16 rs ++ r ∷ []))) (same refl)
    ∙ ap (λ (n : ℕ). tally_from (record (sums_of ss rs) { refused = n }) l (keep_last 16 (keep_last 16 rs ++ r ∷ []))) size
    ∙ ap (λ (x : List Refusal). tally_from (sums_of ss (rs ++ r ∷ [])) l x) (last_more 16 rs r)
noted_as ss rs k l false r same =
    ap (λ (x : List Refusal). tally_from (sums_of ss x) l (keep_last 16 x)) (sym (append-nil rs))

unanswered : (answers : AnswerCounts) (a : Taken) → is_refused a ≡ true → answers ≡ one_more_answer answers a
unanswered answers Kept is = absurd (let e : false ≡ true = is in cc)
unanswered answers Repeated is = absurd (let e : false ≡ true = is in cc)
unanswered answers Late is = absurd (let e : false ≡ true = is in cc)
unanswered answers (Refused f) is = refl
unanswered answers (Inconsistent kept came) is = refl

pub answer_noted : (ss : List FeedStep) (taken : List Taken) (a : Taken) (number : ℕ) → number ≡ length taken → noted (tally_of ss taken) number a ≡ tally_of ss (taken ++ a ∷ [])
answer_noted ss taken a number is =
    ap (λ k. noted (tally_of ss taken) k a) (let e : number ≡ 0 + length taken = omega (arith, is) in e)
    ∙ noted_as ss (refusals taken) (answers_of taken) (one_more_answer (answers_of taken) a) (is_refused a) (record { number = 0 + length taken; taken = a }) (unanswered (answers_of taken) a)
    ∙ ap (λ (l : List Refusal). tally_from (sums_of ss l) (one_more_answer (answers_of taken) a) (keep_last 16 l)) (sym (refusals_more 0 taken a))
    ∙ ap (λ (k : AnswerCounts). tally_from (sums_of ss (refusals (taken ++ a ∷ []))) k (keep_last 16 (refusals (taken ++ a ∷ [])))) (answer_more taken a)

-- ---- whether a report is clean

abbrev AreNone : Bool → List FeedStep → List FeedStep → Type 0
AreNone all missing bad = IsTrue all ↔ ((length missing ≡ 0) × (length bad ≡ 0))

one_kind : (item : FrameItem) (s : FeedStep) (all : Bool) (missing bad : List FeedStep)
    → AreNone all missing bad → AreNone (is_given item && all) (if is_missing item then s ∷ missing else missing) (if is_bad item then s ∷ bad else bad)
one_kind (Frame index frame payload) s all missing bad h = h
one_kind (Missing index had total) s all missing bad h = ((λ t. absurd (let e : false ≡ true = t in cc)), (λ (m, b). absurd (omega (arith, m))))
one_kind (Bad index fault) s all missing bad h = ((λ t. absurd (let e : false ≡ true = t in cc)), (λ (m, b). absurd (omega (arith, b))))

clean_as : (steps : List FeedStep) → AreNone (is_clean steps) (filter (λ s. is_missing s.item) steps) (filter (λ s. is_bad s.item) steps)
clean_as [] = ((λ t. (refl, refl)), (λ z. refl))
clean_as (s ∷ steps) = one_kind s.item s (is_clean steps) (filter (λ s. is_missing s.item) steps) (filter (λ s. is_bad s.item) steps) (clean_as steps)

same_true : (x y : Bool) (P : Type 0) → IsTrue x ↔ P → IsTrue y ↔ P → x ≡ y
same_true true true P h k = refl
same_true true false P h k = absurd (let e : false ≡ true = k.1 (h.0 refl) in cc)
same_true false true P h k = absurd (let e : false ≡ true = h.1 (k.0 refl) in cc)
same_true false false P h k = refl

pub clean_is : (clean : Bool) (t : TallyContents) (steps : List FeedStep) (taken : List Taken) → IsTrue clean ↔ ((t.sums.missing ≡ 0) × (t.sums.bad ≡ 0)) → t ≡ tally_of steps taken → clean ≡ is_clean steps
clean_is clean t steps taken h is =
    same_true clean (is_clean steps) ((length (filter (λ s. is_missing s.item) steps) ≡ 0) × (length (filter (λ s. is_bad s.item) steps) ≡ 0))
    (subst (λ (u : TallyContents). IsTrue clean ↔ ((u.sums.missing ≡ 0) × (u.sums.bad ≡ 0))) is h) (clean_as steps)

both_none : (m b : ℕ) → IsTrue ((m == 0) && (b == 0)) ↔ ((m ≡ 0) × (b ≡ 0))
both_none m b = (
  λ t. (
      let p = and_parts (m == 0) (b == 0) t in
      let x : (m == 0) ≡ true = p.0 in
      let y : (b == 0) ≡ true = p.1 in
      let e : m ≡ 0 = grind (arith, nat_tests) in
      let f : b ≡ 0 = grind (arith, nat_tests) in
      (e, f)),
  λ e. rw (e.0, e.1) refl,
)

pub totals_clean : (t : TallyContents) (steps : List FeedStep) (taken : List Taken) → t ≡ tally_of steps taken → are_clean (totals_in t) ≡ is_clean steps
totals_clean t steps taken is = clean_is (are_clean (totals_in t)) t steps taken (both_none t.sums.missing t.sums.bad) is
