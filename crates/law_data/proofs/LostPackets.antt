-- Packets of units with losses, joined.
use Rattle.std.proofs.Common.{◌≡◌, ℕ, zero, suc, ◌+◌, ◌-◌, ◌*◌, ◌/◌, ◌%◌, ◌<◌, ◌≤◌, ◌==◌, nat_le, Bool, true, false, ◌&&◌, not, if◌then◌else◌, List, [], ◌∷◌, ◌++◌, length, take, drop, Option, Some, None, refl, sym, ap, ap₂, subst, ◌∙◌, zero-add, arith, length-append, length-drop, eq-eqb}
use Rattle.std.specs.List.{AllByRecursion}
use Rattle.std.specs.Int.{from_bool}
use Rattle.std.proofs.lemmas.Bool.{ne_eqb, le-leb, lt-leb, and_from}
use Rattle.std.proofs.Math.Nat.{div-add-mod, mod-lt}
use Rattle.std.proofs.lemmas.List.{take_all, take-take, drop-take, length-take, length-take-le, take-append-drop}
use Rattle.drm_data.specs.PacketFields.{PacketFields}
use Rattle.drm_data.specs.Units.{most_unit, next_continuity, unit_packet, packet_count, packets_from, unit_packets, packets_after}
use Rattle.drm_data.specs.Joining.{JoinerEvent, Received, Gap, OpenUnit, JoinerState, JoinerAnswer, Silent, Whole, CutOff, CutWhole, is_unit, begun_by, goes_on, begun_after, answer_after, answer, after}
use Rattle.law_data.specs.Runs.{answers, after_all, unit_in, tells_cut, with_unit, units_in, cuts_in}
use Rattle.law_data.specs.Losses.{IsUnit, packet_or_gap, kept_of, all_kept, first_kept, whole_units, cut_count}
use Rattle.law_data.specs.Laws.{GivesWhatIsWhole}
use Rattle.law_data.proofs.Cases.{GoesOn}

-- a joiner with this unit open
abbrev at : ℕ → ℕ → Option OpenUnit → JoinerState
at id d b = record { id = id; length = d; room = most_unit; begun = b }

-- what a run gives, how many cuts it tells, and what is left
record Runs (s : JoinerState) (events : List JoinerEvent) (units : List (List ℕ)) (cuts : ℕ) (left : JoinerState) : Type 0 where
  pub units_are : units_in (answers s events) ≡ units
  pub cuts_are : cuts_in (answers s events) ≡ cuts
  pub left_is : after_all s events ≡ left

runs_more : (s : JoinerState) (e : JoinerEvent) (events : List JoinerEvent) (a : JoinerAnswer) (t : JoinerState) (units : List (List ℕ)) (cuts : ℕ) (left : JoinerState) → answer s e ≡ a → after s e ≡ t → Runs t events units cuts left
    → Runs s (e ∷ events) (with_unit (unit_in a) units) (from_bool (tells_cut a) + cuts) left
runs_more s e events a t units cuts left is goes h = record {
  units_are = ap₂ (λ x l. with_unit (unit_in x) l) is (ap (λ v. units_in (answers v events)) goes ∙ h.units_are);
  cuts_are = ap₂ (λ x n. from_bool (tells_cut x) + n) is (ap (λ v. cuts_in (answers v events)) goes ∙ h.cuts_are);
  left_is = ap (λ v. after_all v events) goes ∙ h.left_is;
}

with_unit-append : (o : Option (List ℕ)) (xs ys : List (List ℕ)) → with_unit o (xs ++ ys) ≡ with_unit o xs ++ ys
with_unit-append None xs ys = refl
with_unit-append (Some unit) xs ys = refl

units-append : (s : JoinerState) (xs ys : List JoinerEvent) → units_in (answers s (xs ++ ys)) ≡ units_in (answers s xs) ++ units_in (answers (after_all s xs) ys)
units-append s [] ys = refl
units-append s (e ∷ xs) ys =
    ap (with_unit (unit_in (answer s e))) (units-append (after s e) xs ys) ∙ with_unit-append (unit_in (answer s e)) (units_in (answers (after s e) xs)) _

cuts-append : (s : JoinerState) (xs ys : List JoinerEvent) → cuts_in (answers s (xs ++ ys)) ≡ cuts_in (answers s xs) + cuts_in (answers (after_all s xs) ys)
cuts-append s [] ys = omega arith
cuts-append s (e ∷ xs) ys = omega (arith, cuts-append (after s e) xs ys)

after_all-append : (s : JoinerState) (xs ys : List JoinerEvent) → after_all s (xs ++ ys) ≡ after_all (after_all s xs) ys
after_all-append s [] ys = refl
after_all-append s (e ∷ xs) ys = after_all-append (after s e) xs ys

runs_join : (s t left : JoinerState) (xs ys : List JoinerEvent) (us vs : List (List ℕ)) (m n : ℕ) → Runs s xs us m t → Runs t ys vs n left → Runs s (xs ++ ys) (us ++ vs) (m + n) left
runs_join s t left xs ys us vs m n h k = record {
  units_are = units-append s xs ys ∙ ap₂ (λ x y. x ++ y) h.units_are (ap (λ v. units_in (answers v ys)) h.left_is ∙ k.units_are);
  cuts_are = cuts-append s xs ys ∙ ap₂ (λ x y. x + y) h.cuts_are (ap (λ v. cuts_in (answers v ys)) h.left_is ∙ k.cuts_are);
  left_is = after_all-append s xs ys ∙ (ap (λ v. after_all v ys) h.left_is ∙ k.left_is);
}

-- a packet of the id
received : (id d : ℕ) (b c : Option OpenUnit) (p : PacketFields) → p.id ≡ id → begun_after b p ≡ c → after (at id d b) (Received p) ≡ at id d c
received id d b c p mine is =
    ap (λ t. if t then at id d (begun_after b p) else at id d b) (eq-eqb p.id id mine) ∙ ap (at id d) is

-- What a packet makes of a joiner, by what it is.
strayed : (p : PacketFields) → p.first ≡ false → (begun_after None p ≡ None) × (answer_after None p ≡ Silent)
strayed p is =
    (ap (λ b. if b && not p.last then Some (record { bytes = p.useful; continuity = p.continuity }) else None) is, ap (λ b. if b && p.last then Whole p.useful else Silent) is)

goes_test : (u : OpenUnit) (p : PacketFields) → GoesOn u p → goes_on u p ≡ true
goes_test u p go =
    ap (λ b. not b && ((p.continuity == next_continuity u.continuity) && nat_le (length u.bytes + length p.useful) most_unit)) go.not_first
    ∙ and_from _ _ (eq-eqb p.continuity (next_continuity u.continuity) go.due) (le-leb (length u.bytes + length p.useful) most_unit go.few)

-- what is left open, and what is said, where the packet goes on with the unit
record Went (u : OpenUnit) (p : PacketFields) (c : Option OpenUnit) (a : JoinerAnswer) : Type 0 where
  pub begun_is : begun_after (Some u) p ≡ c
  pub answer_is : answer_after (Some u) p ≡ a

went : (u : OpenUnit) (p : PacketFields) → GoesOn u p → p.last ≡ false → Went u p (Some (record { bytes = u.bytes ++ p.useful; continuity = p.continuity })) Silent
went u p go last = record {
  begun_is = ap (λ g. if g then (if p.last then None else Some (record { bytes = u.bytes ++ p.useful; continuity = p.continuity })) else begun_by p) (goes_test u p go)
      ∙ ap (λ l. if l then None else Some (record { bytes = u.bytes ++ p.useful; continuity = p.continuity })) last;
  answer_is = ap (λ g. if g then (if p.last then Whole (u.bytes ++ p.useful) else Silent) else (if is_unit p then CutWhole p.useful else CutOff)) (goes_test u p go)
      ∙ ap (λ l. if l then Whole (u.bytes ++ p.useful) else Silent) last;
}

finished : (u : OpenUnit) (p : PacketFields) → GoesOn u p → p.last ≡ true → Went u p None (Whole (u.bytes ++ p.useful))
finished u p go last = record {
  begun_is = ap (λ g. if g then (if p.last then None else Some (record { bytes = u.bytes ++ p.useful; continuity = p.continuity })) else begun_by p) (goes_test u p go)
      ∙ ap (λ l. if l then None else Some (record { bytes = u.bytes ++ p.useful; continuity = p.continuity })) last;
  answer_is = ap (λ g. if g then (if p.last then Whole (u.bytes ++ p.useful) else Silent) else (if is_unit p then CutWhole p.useful else CutOff)) (goes_test u p go)
      ∙ ap (λ l. if l then Whole (u.bytes ++ p.useful) else Silent) last;
}

answered : (id d : ℕ) (b : Option OpenUnit) (p : PacketFields) (a : JoinerAnswer) → p.id ≡ id → answer_after b p ≡ a → answer (at id d b) (Received p) ≡ a
answered id d b p a mine is = ap (λ t. if t then answer_after b p else Silent) (eq-eqb p.id id mine) ∙ is

runs_none : (s : JoinerState) → Runs s [] [] 0 s
runs_none s = record { units_are = refl; cuts_are = refl; left_is = refl }

runs_as : (s left : JoinerState) (events : List JoinerEvent) (us vs : List (List ℕ)) (m n : ℕ) → us ≡ vs → m ≡ n → Runs s events us m left → Runs s events vs n left
runs_as s left events us vs m n units cuts h = record { units_are = h.units_are ∙ units; cuts_are = h.cuts_are ∙ cuts; left_is = h.left_is }

-- with no unit open, later packets of a unit are nothing
dead : (id d c : ℕ) (unit : List ℕ) (k n : ℕ) (mask : List Bool) → 1 ≤ k → Runs (at id d None) (kept_of mask (packets_from id d c unit k n)) [] 0 (at id d None)
dead id d c unit k zero [] some = runs_none (at id d None)
dead id d c unit k zero (x ∷ mask) some = runs_none (at id d None)
dead id d c unit k (suc n) [] some = runs_none (at id d None)
dead id d c unit k (suc n) (true ∷ mask) some =
    let p : PacketFields = unit_packet id d c unit k in
    let s = strayed p (ne_eqb k 0 (λ is. absurd (omega (arith, is, some)))) in
    runs_more (at id d None) (Received p) _ Silent (at id d None) [] 0 (at id d None) (answered id d None p Silent refl s.1) (received id d None None p refl s.0)
    (dead id d (next_continuity c) unit (k + 1) n mask (omega arith))
dead id d c unit k (suc n) (false ∷ mask) some =
    runs_more (at id d None) Gap _ Silent (at id d None) [] 0 (at id d None) refl refl (dead id d (next_continuity c) unit (k + 1) n mask (omega arith))

-- behind k packets of a unit n + 1 are left
record Left (d : ℕ) (unit : List ℕ) (k n : ℕ) : Type 0 where
  pub more : k * d + n * d < length unit
  pub enough : length unit ≤ k * d + n * d + d

left_more : (d : ℕ) (unit : List ℕ) (k n : ℕ) → Left d unit k (suc n) → Left d unit (k + 1) n
left_more d unit k n h = record { more = omega (arith, h.more); enough = omega (arith, h.enough) }

-- what has come and one packet more
taken : (a b : ℕ) (l : List ℕ) → take a l ++ take b (drop a l) ≡ take (a + b) l
taken a b l =
    ap₂ (λ x y. x ++ y) (sym (take-take a (a + b) l (omega arith))) (sym (drop-take a b l)) ∙ take-append-drop a (take (a + b) l)

part_goes : (id d c last : ℕ) (unit : List ℕ) (k : ℕ) → 1 ≤ k → length unit ≤ most_unit → c ≡ next_continuity last
    → GoesOn (record { bytes = take (k * d) unit; continuity = last }) (unit_packet id d c unit k)
part_goes id d c last unit k some few due = record {
  not_first = ne_eqb k 0 (λ is. absurd (omega (arith, is, some)));
  due = due;
  few = omega (arith, few, length-append (take (k * d) unit) (take d (drop (k * d) unit)), ap length (taken (k * d) d unit), length-take (k * d + d) unit);
}

-- the unit where it is whole
abbrev whole_if : Bool → List ℕ → List (List ℕ)
whole_if true unit = unit ∷ []
whole_if false unit = []

-- with a unit open whose next packets come
alive : (id d c last : ℕ) (unit : List ℕ) (k n : ℕ) (mask : List Bool) → 1 ≤ k → length unit ≤ most_unit → Left d unit k n → length mask ≡ suc n → c ≡ next_continuity last
    → Runs (at id d (Some (record { bytes = take (k * d) unit; continuity = last }))) (kept_of mask (packets_from id d c unit k (suc n))) (whole_if (all_kept mask) unit) (from_bool (not (all_kept mask)))
    (at id d None)
alive id d c last unit k n [] some few left size due = absurd (omega (arith, size))
alive id d c last unit k n (false ∷ mask) some few left size due =
    runs_more (at id d (Some (record { bytes = take (k * d) unit; continuity = last }))) Gap _ CutOff (at id d None) [] 0 (at id d None) refl refl
    (dead id d (next_continuity c) unit (k + 1) n mask (omega arith))
alive id d c last unit k zero (true ∷ x ∷ mask) some few left size due = absurd (omega (arith, size))
alive id d c last unit k zero (true ∷ []) some few left size due =
    let u : OpenUnit = record { bytes = take (k * d) unit; continuity = last } in
    let p : PacketFields = unit_packet id d c unit k in
    let w = finished u p (part_goes id d c last unit k some few due) (le-leb (length unit) (k * d + d) (omega (arith, left.enough))) in
    let all : take (k * d) unit ++ take d (drop (k * d) unit) ≡ unit = taken (k * d) d unit ∙ take_all (k * d + d) unit (omega (arith, left.enough)) in
    runs_more (at id d (Some u)) (Received p) [] (Whole unit) (at id d None) [] 0 (at id d None) (answered id d (Some u) p (Whole unit) refl (w.answer_is ∙ ap Whole all)) (received id d (Some u) None p refl w.begun_is)
    (runs_none (at id d None))
alive id d c last unit k (suc n) (true ∷ mask) some few left size due =
    let u : OpenUnit = record { bytes = take (k * d) unit; continuity = last } in
    let p : PacketFields = unit_packet id d c unit k in
    let w = went u p (part_goes id d c last unit k some few due) (lt-leb (length unit) (k * d + d) (omega (arith, left.more))) in
    let next : OpenUnit = record { bytes = take ((k + 1) * d) unit; continuity = c } in
    let all : take (k * d) unit ++ take d (drop (k * d) unit) ≡ take ((k + 1) * d) unit = taken (k * d) d unit ∙ ap (λ m. take m unit) (omega arith) in
    let begun : begun_after (Some u) p ≡ Some next = w.begun_is ∙ ap (λ l. Some (record { bytes = l; continuity = c })) all in
    runs_as (at id d (Some u)) (at id d None) _ _ _ _ _ refl (zero-add (from_bool (not (all_kept mask))))
    (runs_more (at id d (Some u)) (Received p) _ Silent (at id d (Some next)) _ _ (at id d None) (answered id d (Some u) p Silent refl w.answer_is) (received id d (Some u) (Some next) p refl begun)
    (alive id d (next_continuity c) c unit (k + 1) n mask (omega arith) few (left_more d unit k n left) (omega (arith, size)) refl))

began : (p : PacketFields) → p.first ≡ true → p.last ≡ false
    → (begun_after None p ≡ Some (record { bytes = p.useful; continuity = p.continuity })) × (answer_after None p ≡ Silent)
began p first last = (
  ap₂ (λ f l. if f && not l then Some (record { bytes = p.useful; continuity = p.continuity }) else None) first last,
  ap₂ (λ f l. if f && l then Whole p.useful else Silent) first last,
)

alone : (p : PacketFields) → p.first ≡ true → p.last ≡ true → (begun_after None p ≡ None) × (answer_after None p ≡ Whole p.useful)
alone p first last = (
  ap₂ (λ f l. if f && not l then Some (record { bytes = p.useful; continuity = p.continuity }) else None) first last,
  ap₂ (λ f l. if f && l then Whole p.useful else Silent) first last,
)

-- the packets of one unit
one_unit : (id d c : ℕ) (unit : List ℕ) (n : ℕ) (mask : List Bool) → length unit ≤ most_unit → Left d unit 0 n → length mask ≡ suc n
    → Runs (at id d None) (kept_of mask (packets_from id d c unit 0 (suc n))) (whole_if (all_kept mask) unit) (from_bool (first_kept mask && not (all_kept mask))) (at id d None)
one_unit id d c unit n [] few left size = absurd (omega (arith, size))
one_unit id d c unit n (false ∷ mask) few left size =
    runs_more (at id d None) Gap _ Silent (at id d None) [] 0 (at id d None) refl refl (dead id d (next_continuity c) unit 1 n mask (omega arith))
one_unit id d c unit zero (true ∷ x ∷ mask) few left size = absurd (omega (arith, size))
one_unit id d c unit zero (true ∷ []) few left size =
    let p : PacketFields = unit_packet id d c unit 0 in
    let none : 0 * d ≡ 0 = omega arith in
    let w = alone p refl (le-leb (length unit) (0 * d + d) (omega (arith, left.enough))) in
    let all : take d (drop (0 * d) unit) ≡ unit = ap (λ m. take d (drop m unit)) none ∙ take_all d unit (omega (arith, left.enough)) in
    runs_more (at id d None) (Received p) [] (Whole unit) (at id d None) [] 0 (at id d None) (answered id d None p (Whole unit) refl (w.1 ∙ ap Whole all)) (received id d None None p refl w.0) (runs_none (at id d None))
one_unit id d c unit (suc n) (true ∷ mask) few left size =
    let p : PacketFields = unit_packet id d c unit 0 in
    let none : 0 * d ≡ 0 = omega arith in
    let one : d ≡ 1 * d = omega arith in
    let w = began p refl (lt-leb (length unit) (0 * d + d) (omega (arith, left.more))) in
    let next : OpenUnit = record { bytes = take (1 * d) unit; continuity = c } in
    let all : take d (drop (0 * d) unit) ≡ take (1 * d) unit = ap (λ m. take d (drop m unit)) none ∙ ap (λ m. take m unit) one in
    let begun : begun_after None p ≡ Some next = w.0 ∙ ap (λ l. Some (record { bytes = l; continuity = c })) all in
    runs_as (at id d None) (at id d None) _ _ _ _ _ refl (zero-add (from_bool (not (all_kept mask))))
    (runs_more (at id d None) (Received p) _ Silent (at id d (Some next)) _ _ (at id d None) (answered id d None p Silent refl w.1) (received id d None (Some next) p refl begun)
    (alive id d (next_continuity c) c unit 1 n mask (omega arith) few (left_more d unit 0 n left) (omega (arith, size)) refl))

-- how many packets a unit has
count_facts : (d : ℕ) (unit : List ℕ) (q : ℕ) → 1 ≤ d → 1 ≤ length unit → packet_count d (length unit) ≡ q → (n : ℕ) × (q ≡ suc n) × Left d unit 0 n
count_facts d unit zero some any is =
    let parts = div-add-mod (length unit + (d - 1)) d in
    let product : d * ((length unit + (d - 1)) / d) ≡ 0 = ap (λ m. d * m) is ∙ omega arith in
    absurd (omega (arith, parts, product, mod-lt (length unit + (d - 1)) {m = d} (omega (arith, some)), some, any))
count_facts d unit (suc n) some any is =
    let parts = div-add-mod (length unit + (d - 1)) d in
    let product : d * ((length unit + (d - 1)) / d) ≡ n * d + d = ap (λ m. d * m) is ∙ omega arith in
    let small = mod-lt (length unit + (d - 1)) {m = d} (omega (arith, some)) in
    (n, refl, record { more = omega (arith, parts, product, small, some, any); enough = omega (arith, parts, product, small, some, any) })

packets-size : (id d c : ℕ) (unit : List ℕ) (k n : ℕ) → length (packets_from id d c unit k n) ≡ n
packets-size id d c unit k zero = refl
packets-size id d c unit k (suc n) = ap suc (packets-size id d (next_continuity c) unit (k + 1) n)

kept-append : (kept : List Bool) (ps qs : List PacketFields) → length ps ≤ length kept
    → kept_of kept (ps ++ qs) ≡ kept_of (take (length ps) kept) ps ++ kept_of (drop (length ps) kept) qs
kept-append kept [] qs enough = refl
kept-append [] (p ∷ ps) qs enough = absurd (omega (arith, enough))
kept-append (k ∷ kept) (p ∷ ps) qs enough = ap (λ l. packet_or_gap k p ∷ l) (kept-append kept ps qs (omega (arith, enough)))

joined_if : (b : Bool) (unit : List ℕ) (units : List (List ℕ)) → whole_if b unit ++ units ≡ (if b then unit ∷ units else units)
joined_if true unit units = refl
joined_if false unit units = refl

all_units : (id d c : ℕ) (units : List (List ℕ)) (kept : List Bool) → 1 ≤ d → AllByRecursion IsUnit units → length kept ≡ length (packets_after id d c units)
    → Runs (at id d None) (kept_of kept (packets_after id d c units)) (whole_units d kept units) (cut_count d kept units) (at id d None)
all_units id d c [] [] some each size = runs_none (at id d None)
all_units id d c [] (k ∷ kept) some each size = runs_none (at id d None)
all_units id d c (unit ∷ units) kept some each size =
    let n : ℕ = packet_count d (length unit) in
    let ps : List PacketFields = unit_packets id d c unit in
    let c' : ℕ = (c + n) % 8 in
    let qs : List PacketFields = packets_after id d c' units in
    let long : length ps ≡ n = packets-size id d c unit 0 n in
    let whole : length kept ≡ length ps + length qs = size ∙ length-append ps qs in
    let parts : kept_of kept (ps ++ qs) ≡ kept_of (take n kept) ps ++ kept_of (drop n kept) qs =
    kept-append kept ps qs (omega (arith, whole)) ∙ ap (λ m. kept_of (take m kept) ps ++ kept_of (drop m kept) qs) long in
    let facts = count_facts d unit n some each.0.0 refl in
    let mask : length (take n kept) ≡ suc facts.0 = length-take-le n kept (omega (arith, whole, long)) ∙ facts.1 in
    let first : Runs (at id d None) (kept_of (take n kept) (packets_from id d c unit 0 (suc facts.0))) (whole_if (all_kept (take n kept)) unit) (from_bool (first_kept (take n kept) && not (all_kept (take n kept)))) (at id d None) =
    one_unit id d c unit facts.0 (take n kept) each.0.1 facts.2 mask in
    let here : Runs (at id d None) (kept_of (take n kept) ps) (whole_if (all_kept (take n kept)) unit) (from_bool (first_kept (take n kept) && not (all_kept (take n kept)))) (at id d None) =
    subst (λ m. Runs (at id d None) (kept_of (take n kept) (packets_from id d c unit 0 m)) (whole_if (all_kept (take n kept)) unit) (from_bool (first_kept (take n kept) && not (all_kept (take n kept)))) (at id d None))
    (sym facts.1) first in
    let later = all_units id d c' units (drop n kept) some each.1 (omega (arith, length-drop n kept, whole, long)) in
    let joined = runs_join (at id d None) (at id d None) (at id d None) (kept_of (take n kept) ps) (kept_of (drop n kept) qs) _ _ _ _ here later in
    subst (λ l. Runs (at id d None) l (whole_units d kept (unit ∷ units)) (cut_count d kept (unit ∷ units)) (at id d None)) (sym parts)
    (runs_as (at id d None) (at id d None) _ _ _ _ _ (joined_if (all_kept (take n kept)) unit (whole_units d (drop n kept) units)) refl joined)

pub gives_what_is_whole : GivesWhatIsWhole
gives_what_is_whole id d units kept some each size =
    let h = all_units id d 0 units kept some each size in
    (h.units_are, h.cuts_are, ap (λ s. s.begun) h.left_is)
