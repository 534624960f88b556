-- What is told, over one call and over several.
use Rattle.std.proofs.Common.{◌≡◌, ℕ, ◌+◌, ◌<◌, ◌≤◌, List, [], ◌++◌, length, take, Option, None, Some, MatchOption, Result, Ok, Err, IsErr, refl, sym, ◌∙◌, ap, subst, arith, append_assoc, length-append}
use Rattle.std.proofs.lemmas.List.{append-nil, length-take-le}
use Rattle.drm_links.specs.declared.source.ReadOut.TheVariants as read
use Rattle.drm_links.specs.Known.{Known, IfBothKnown, CountsCall, IfBoth, CountsOneCall, Throughout, KnownThrough, RisesWhere, one_more}
use Rattle.drm_links.specs.Sink.{Output, WritesText, OutputsText, FewWrites}
use Rattle.drm_links.specs.Source.{Input, LeftBy, InputsBytes, FewReads, SourceTakes}
use Rattle.drm_links.specs.Shelf.{Files, ShelfSupplies, ShelfLoads, KeepsFiles, after_load}
use Rattle.drm_links.specs.declared.shelf.Loaded.{Loaded}
use Rattle.drm_links.specs.Link.{Traffic}
use Rattle.drm_links.specs.Dock.{DockContents, LinkStart, DockOpens, start_at, first_traffic}
use Rattle.drm_links.specs.declared.dock.Address.{Address}
use Rattle.drm_links.specs.declared.dock.Opened.TheVariants as opened

-- ---- counts

-- It happened.
pub counts_one : {H : Type 0} {a b : ℕ} → H → b ≡ one_more a → RisesWhere a b H
counts_one here rose = record { once = λ _. rose; same = λ none. absurd (none here) }

-- It didn't.
pub counts_none : {H : Type 0} {a b : ℕ} → (H → ⊥) → b ≡ a → RisesWhere a b H
counts_none none same = record { once = λ here. absurd (none here); same = λ _. same }

-- It didn't happen before.
pub counts_then : {H : Type 0} {a b c : ℕ} → b ≡ a → RisesWhere b c H → RisesWhere a c H
counts_then before counts = record { once = λ here. counts.once here ∙ ap one_more before; same = λ none. counts.same none ∙ before }

-- It doesn't happen afterwards.
pub then_counts : {H : Type 0} {a b c : ℕ} → RisesWhere a b H → c ≡ b → RisesWhere a c H
then_counts counts after = record { once = λ here. after ∙ counts.once here; same = λ none. after ∙ counts.same none }

-- It happens exactly where something else does.
pub counts_as : {G H : Type 0} {a b : ℕ} → (H → G) → (G → H) → RisesWhere a b G → RisesWhere a b H
counts_as to from counts = record { once = λ here. counts.once (to here); same = λ none. counts.same (λ there. none (from there)) }

-- It rose once, and stood still before.
pub once_then : {a b c : ℕ} → b ≡ a → c ≡ one_more b → c ≡ one_more a
once_then before rose = rose ∙ ap one_more before

-- A call that is done hasn't failed, and one with a fault has.
pub done_is_no_fault : {T E : Type 0} {r : Result T E} {done : T} → r ≡ Ok done → IsErr r → ⊥
done_is_no_fault {r = Ok same} is failed = cc
done_is_no_fault {r = Err fault} is failed = cc

pub done_counts : {T E : Type 0} {r : Result T E} {done : T} {a b : ℕ} → r ≡ Ok done → RisesWhere a b (IsErr r) → b ≡ a
done_counts is counts = counts.same (done_is_no_fault is)

pub failed_counts : {T E : Type 0} {r : Result T E} {fault : E} {a b : ℕ} → r ≡ Err fault → RisesWhere a b (IsErr r) → b ≡ one_more a
failed_counts {r = Ok done} is counts = cc
failed_counts {r = Err same} is counts = counts.once refl

-- ---- over many calls

through_none : {T : Type 0} (P : T → T → Type 0) (a : Option T) → ((x : T) → P x x) → Throughout a a P
through_none P None same = tt
through_none P (Some x) same = same x

pub Tells-nothing : {T : Type 0} (P : T → T → Type 0) (a : Known T) → ((x : T) → P x x) → KnownThrough a a P
Tells-nothing P a = through_none P a.contents

through_then : {T : Type 0} (P Q R : T → T → Type 0) (a b c : Option T) → Throughout a b P → Throughout b c Q → ((x y z : T) → P x y → Q y z → R x z) → Throughout a c R
through_then P Q R a b None first second both = tt
through_then P Q R a None (Some z) first second both = absurd second
through_then P Q R None (Some y) (Some z) first second both = absurd first
through_then P Q R (Some x) (Some y) (Some z) first second both = both x y z first second

-- what holds of some calls and what holds of the next ones
pub Tells-then : {T : Type 0} (P Q R : T → T → Type 0) (a b c : Known T) → KnownThrough a b P → KnownThrough b c Q → ((x y z : T) → P x y → Q y z → R x z) → KnownThrough a c R
Tells-then P Q R a b c = through_then P Q R a.contents b.contents c.contents

through_weaker : {T : Type 0} (P Q : T → T → Type 0) (a b : Option T) → Throughout a b P → ((x y : T) → P x y → Q x y) → Throughout a b Q
through_weaker P Q a None first weaker = tt
through_weaker P Q None (Some y) first weaker = first
through_weaker P Q (Some x) (Some y) first weaker = weaker x y first

pub Tells-weaker : {T : Type 0} (P Q : T → T → Type 0) (a b : Known T) → KnownThrough a b P → ((x y : T) → P x y → Q x y) → KnownThrough a b Q
Tells-weaker P Q a b = through_weaker P Q a.contents b.contents

both_through : {T : Type 0} (P Q : T → T → Type 0) (a b : Option T) → Throughout a b P → Throughout a b Q → Throughout a b (λ x y. P x y × Q x y)
both_through P Q a None first second = tt
both_through P Q None (Some y) first second = first
both_through P Q (Some x) (Some y) first second = (first, second)

-- two things that hold of the same calls
pub Tells-both : {T : Type 0} (P Q : T → T → Type 0) (a b : Known T) → KnownThrough a b P → KnownThrough a b Q → KnownThrough a b (λ x y. P x y × Q x y)
Tells-both P Q a b = both_through P Q a.contents b.contents

one_through : {T : Type 0} (calls : T → ℕ) (P : T → T → Type 0) (a b : Option T) → CountsOneCall calls a b → IfBoth a b P → Throughout a b P
one_through calls P a None counts holds = tt
one_through calls P None (Some y) counts holds = cc
one_through calls P (Some x) (Some y) counts holds = holds

-- one call
pub Tells-one : {T : Type 0} (calls : T → ℕ) (P : T → T → Type 0) (a b : Known T) → CountsCall calls a b → IfBothKnown a b P → KnownThrough a b P
Tells-one calls P a b = one_through calls P a.contents b.contents

-- what is told before and at the end
some_through : {T : Type 0} (P : T → T → Type 0) (a b : Option T) (x y : T) → a ≡ Some x → b ≡ Some y → Throughout a b P → P x y
some_through P a b x y first last holds = subst (λ known. Throughout (Some x) known P) last (subst (λ known. Throughout known b P) first holds)

pub known_through : {T : Type 0} (P : T → T → Type 0) (a b : Known T) (x y : T) → a.contents ≡ Some x → b.contents ≡ Some y → KnownThrough a b P → P x y
known_through P a b = some_through P a.contents b.contents

-- one call, with what follows from its number
one_counted : {T : Type 0} (calls : T → ℕ) (P Q : T → T → Type 0) (a b : Option T) → CountsOneCall calls a b → IfBoth a b P → ((x y : T) → calls y ≡ calls x + 1 → P x y → Q x y) → Throughout a b Q
one_counted calls P Q a None counts holds also = tt
one_counted calls P Q None (Some y) counts holds also = cc
one_counted calls P Q (Some x) (Some y) counts holds also = also x y counts.0 holds

-- ---- what is written

writes_none : (f : ℕ) (x : Output) → FewWrites f f x x
writes_none f x = record { rises = λ _. omega arith; few = λ _. omega arith }

writes_then : (f g h : ℕ) (x y z : Output) → FewWrites f g x y → FewWrites g h y z → FewWrites f h x z
writes_then f g h x y z first second = record {
  rises = λ few.
      let later = second.rises few in
      let sooner = first.rises (omega (arith, few, later)) in
      omega (arith, later, sooner);
  few = λ few.
      let rises = second.rises few in
      let later = second.few few in
      let sooner = first.few (omega (arith, few, rises)) in
      omega (arith, later, sooner);
}

pub OutputsText-nothing : (a : Known Output) (P : List ℕ → Type 0) → P [] → OutputsText a a P
OutputsText-nothing a P empty =
    Tells-nothing (λ x y. WritesText P x y × FewWrites a.faults a.faults x y) a (λ x. (([], sym (append-nil x.written), empty), writes_none a.faults x))

pub OutputsText-then : (P Q R : List ℕ → Type 0) (a b c : Known Output) → OutputsText a b P → OutputsText b c Q → ((s t : List ℕ) → P s → Q t → R (s ++ t)) → OutputsText a c R
OutputsText-then P Q R a b c first second both =
    Tells-then (λ x y. WritesText P x y × FewWrites a.faults b.faults x y) (λ x y. WritesText Q x y × FewWrites b.faults c.faults x y)
    (λ x y. WritesText R x y × FewWrites a.faults c.faults x y) a b c first second
    (λ x y z ((s, is_s, p), few) ((t, is_t, q), few'). (
      (s ++ t, is_t ∙ (ap (λ l. l ++ t) is_s ∙ append_assoc x.written s t), both s t p q),
      writes_then a.faults b.faults c.faults x y z few few',
    ))

pub OutputsText-weaker : (P Q : List ℕ → Type 0) (a b : Known Output) → OutputsText a b P → ((t : List ℕ) → P t → Q t) → OutputsText a b Q
OutputsText-weaker P Q a b first weaker =
    Tells-weaker (λ x y. WritesText P x y × FewWrites a.faults b.faults x y) (λ x y. WritesText Q x y × FewWrites a.faults b.faults x y) a b first
    (λ x y ((t, is_t, p), few). ((t, is_t, weaker t p), few))

-- a text that was appended to nothing is all that is written
pub written_to_nothing : (P : List ℕ → Type 0) (a b : Known Output) (o : Output) → OutputsText a b P → a.contents ≡ Some (record { written = []; calls = 0 }) → b.contents ≡ Some o → P o.written
written_to_nothing P a b o writes first last =
    let ((text, is, holds), few) = known_through (λ x y. WritesText P x y × FewWrites a.faults b.faults x y) a b (record { written = []; calls = 0 }) o first last writes in
    subst P (sym is) holds

-- ---- what is read

reads_none : (f : ℕ) (x : Input) → FewReads f f x x
reads_none f x = record { less = omega arith; rises = λ _. omega arith; few = λ _ _. omega arith }

reads_then : (f g h : ℕ) (x y z : Input) → FewReads f g x y → FewReads g h y z → FewReads f h x z
reads_then f g h x y z first second = record {
  less = (let sooner = first.less in let later = second.less in omega (arith, sooner, later));
  rises = λ few.
      let later = second.rises few in
      let sooner = first.rises (omega (arith, few, later)) in
      omega (arith, later, sooner);
  few = λ few some.
      let rises = second.rises few in
      let less = second.less in
      let later = second.few few some in
      let sooner = first.few (omega (arith, few, rises)) (omega (arith, some, less)) in
      omega (arith, later, sooner);
}

pub InputsBytes-nothing : (P : List ℕ → List ℕ → Type 0) (a : Known Input) → ((left : List ℕ) → P left left) → InputsBytes a a P
InputsBytes-nothing P a same = Tells-nothing (λ x y. LeftBy P x y × FewReads a.faults a.faults x y) a (λ x. (same x.left, reads_none a.faults x))

pub InputsBytes-then : (P Q R : List ℕ → List ℕ → Type 0) (a b c : Known Input) → InputsBytes a b P → InputsBytes b c Q → ((x y z : List ℕ) → P x y → Q y z → R x z) → InputsBytes a c R
InputsBytes-then P Q R a b c first second both =
    Tells-then (λ x y. LeftBy P x y × FewReads a.faults b.faults x y) (λ x y. LeftBy Q x y × FewReads b.faults c.faults x y)
    (λ x y. LeftBy R x y × FewReads a.faults c.faults x y) a b c first second
    (λ x y z (p, few) (q, few'). (both x.left y.left z.left p q, reads_then a.faults b.faults c.faults x y z few few'))

pub InputsBytes-weaker : (P Q : List ℕ → List ℕ → Type 0) (a b : Known Input) → InputsBytes a b P → ((x y : List ℕ) → P x y → Q x y) → InputsBytes a b Q
InputsBytes-weaker P Q a b first weaker =
    Tells-weaker (λ x y. LeftBy P x y × FewReads a.faults b.faults x y) (λ x y. LeftBy Q x y × FewReads a.faults b.faults x y) a b first
    (λ x y (p, few). (weaker x.left y.left p, few))

-- both of two facts on what was left and is left
pub InputsBytes-both : (P Q : List ℕ → List ℕ → Type 0) (a b : Known Input) → InputsBytes a b P → InputsBytes a b Q → InputsBytes a b (λ x y. P x y × Q x y)
InputsBytes-both P Q a b first second =
    Tells-weaker (λ x y. (LeftBy P x y × FewReads a.faults b.faults x y) × (LeftBy Q x y × FewReads a.faults b.faults x y))
    (λ x y. LeftBy (λ left rest. P left rest × Q left rest) x y × FewReads a.faults b.faults x y) a b
    (Tells-both (λ x y. LeftBy P x y × FewReads a.faults b.faults x y) (λ x y. LeftBy Q x y × FewReads a.faults b.faults x y) a b first second)
    (λ x y (p, q). ((p.0, q.0), p.1))

-- one call
pub InputsBytes-got : (n : ℕ) (buf : List ℕ) (a b : Known Input) → 0 < n → n ≤ length buf → b.faults ≡ a.faults → IfBothKnown a b (SourceTakes (read.Got n) buf) → CountsCall (λ (i : Input). i.calls) a b → InputsBytes a b (λ x y. x ≡ take n buf ++ y)
InputsBytes-got n buf a b some within same known counts =
    one_counted (λ (i : Input). i.calls) (SourceTakes (read.Got n) buf) (λ x y. LeftBy (λ x y. x ≡ take n buf ++ y) x y × FewReads a.faults b.faults x y) a.contents b.contents counts known
    (λ x y next is. (
      is,
      (let more : length x.left ≡ n + length y.left = ap length is ∙ length-append (take n buf) y.left ∙ ap (λ k. k + length y.left) (length-take-le n buf within) in
          record { less = omega (arith, more); rises = λ _. omega (arith, same); few = λ _ _. omega (arith, same, next, more, some) }),
    ))

pub InputsBytes-end : (buf : List ℕ) (a b : Known Input) → b.faults ≡ a.faults → IfBothKnown a b (SourceTakes read.End buf) → CountsCall (λ (i : Input). i.calls) a b → InputsBytes a b (λ x y. (x ≡ []) × (y ≡ []))
InputsBytes-end buf a b same known counts =
    one_counted (λ (i : Input). i.calls) (SourceTakes read.End buf) (λ x y. LeftBy (λ x y. (x ≡ []) × (y ≡ [])) x y × FewReads a.faults b.faults x y) a.contents b.contents counts known
    (λ x y next is. (
      is,
      (let none : length y.left ≡ 0 = ap length is.1 in
          record { less = omega (arith, none); rises = λ _. omega (arith, same); few = λ _ some. absurd (omega (arith, some, none)) }),
    ))

pub InputsBytes-failed : (buf : List ℕ) (a b : Known Input) → b.faults ≡ one_more a.faults → IfBothKnown a b (SourceTakes read.Failed buf) → CountsCall (λ (i : Input). i.calls) a b → InputsBytes a b (λ x y. y ≡ x)
InputsBytes-failed buf a b rose known counts =
    one_counted (λ (i : Input). i.calls) (SourceTakes read.Failed buf) (λ x y. LeftBy (λ x y. y ≡ x) x y × FewReads a.faults b.faults x y) a.contents b.contents counts known
    (λ x y next is. (
      is,
      (let same : length y.left ≡ length x.left = ap length is in
          record { less = omega (arith, same); rises = λ few. omega (arith, rose, few); few = λ few _. omega (arith, rose, few, next, same) }),
    ))

-- ---- what is loaded

same_files : (loaded : Loaded) (name : List ℕ) (x y : Files) → KeepsFiles loaded name x y → y.loads ≡ x.loads + 1 → y ≡ after_load loaded name x
same_files loaded name x y kept counts = λ i. record { files = kept.files i; loads = counts i; names = kept.names i; failing = kept.failing i }

loaded_one : (loaded : Loaded) (name : List ℕ) (limit : ℕ) (a b : Option Files) → IfBoth a b (λ x _. ShelfLoads loaded name limit x) → IfBoth a b (KeepsFiles loaded name) → CountsOneCall (λ (f : Files). f.loads) a b → Throughout a b (λ x y. ShelfLoads loaded name limit x × (y ≡ after_load loaded name x))
loaded_one loaded name limit a None loads kept counts = tt
loaded_one loaded name limit None (Some y) loads kept counts = cc
loaded_one loaded name limit (Some x) (Some y) loads kept counts = (loads, same_files loaded name x y kept counts.0)

-- one load
pub Supplies-load : (loaded : Loaded) (name : List ℕ) (limit : ℕ) (a b : Known Files) → IfBothKnown a b (λ x _. ShelfLoads loaded name limit x) → IfBothKnown a b (KeepsFiles loaded name) → CountsCall (λ (f : Files). f.loads) a b → ShelfSupplies a b (λ x y. ShelfLoads loaded name limit x × (y ≡ after_load loaded name x))
Supplies-load loaded name limit a b loads kept counts = loaded_one loaded name limit a.contents b.contents loads kept counts

-- ---- links that were opened, and closed

started : (start : Option LinkStart) (traffic : Option Traffic) → MatchOption start ⊥ (λ s. traffic ≡ Some (first_traffic s)) → (s : LinkStart) × (start ≡ Some s) × (traffic ≡ Some (first_traffic s))
started None traffic starts = absurd starts
started (Some s) traffic starts = (s, refl, starts)

-- A link that a telling dock opened tells, and starts with what stood at its address.
pub Opens-started : {L : Type 0} (known : L → Known Traffic) (at : Address) (link : L) (before after : DockContents) → DockOpens known at (opened.Link link) before after → (s : LinkStart) × (start_at before at ≡ Some s) × ((known link).contents ≡ Some (first_traffic s))
Opens-started known at link before after opens = started (start_at before at) (known link).contents opens.1
