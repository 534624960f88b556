-- Readings from a shelf, one after another.
use Rattle.std.proofs.Common.{◌≡◌, ℕ, ◌+◌, ◌≤◌, ◌⊎◌, inl, inr, Bool, true, false, List, [], ◌∷◌, ◌++◌, length, nat_eq, nat_lt, Option, None, Some, Result, Ok, Err, if◌then◌else◌, refl, sym, ◌∙◌, ap, subst, arith, append_assoc}
use Rattle.std.specs.List.{list_any}
use Rattle.std.proofs.lemmas.List.{append-nil, length-append}
use Rattle.drm_links.specs.declared.shelf.Loaded.{Loaded}
use Rattle.drm_links.specs.declared.shelf.Loaded.TheVariants as loads
use Rattle.drm_links.specs.Known.{Known, IfBothKnown, CountsCall}
use Rattle.drm_links.specs.Shelf.{Files, ShelfSupplies, ShelfLoads, KeepsFiles, load_of, file_at, within, names_after, after_load, after_loads}
use Rattle.drm_links.proofs.KnownLemmas.{Tells-nothing, Tells-then, Tells-weaker, Supplies-load}
use Rattle.drm_links.proofs.LoadLemmas.{Loads-is}
use Rattle.cmd_load.specs.declared.loading.ScheduleFault.{ScheduleFault}
use Rattle.cmd_load.specs.declared.loading.ScheduleFault.TheVariants.{NoMemory}
use Rattle.cmd_load.specs.Loading.{ShelfStep, ShelfReading, given, after, ◌>>=◌, bytes_or_fault, load_for, MadeSome, ReadBy, GivesUnlessMemory}

-- ---- a reading makes loads, and the shelf tells nothing else anew

abbrev pub LoadsMore : Files → Files → Type 0
LoadsMore x y = (names : List (List ℕ)) × (y ≡ after_loads names x)

abbrev pub LoadsOnly : {T : Type 0} → ShelfReading T → Type 0
LoadsOnly reading = (x : Files) → LoadsMore x (reading x).contents

no_loads : (x : Files) → x ≡ after_loads [] x
no_loads x = λ i. record { files = x.files; loads = zero_more i; names = sym (append-nil x.names) i; failing = x.failing }
  where
    zero_more : x.loads ≡ x.loads + 0
    zero_more = omega arith

none_more : (x : Files) → LoadsMore x x
none_more x = ([], no_loads x)

loads_then : (ms ns : List (List ℕ)) (x : Files) → after_loads ns (after_loads ms x) ≡ after_loads (ms ++ ns) x
loads_then ms ns x = λ i. record { files = x.files; loads = sum i; names = append_assoc x.names ms ns i; failing = x.failing }
  where
    sum : x.loads + length ms + length ns ≡ x.loads + length (ms ++ ns)
    sum = let both = length-append ms ns in omega (arith, both)

more_then : (x y z : Files) → LoadsMore x y → LoadsMore y z → LoadsMore x z
more_then x y z (ms, first) (ns, second) = (ms ++ ns, second ∙ ap (after_loads ns) first ∙ loads_then ms ns x)

pub given_only : {T : Type 0} (outcome : Result T ScheduleFault) → LoadsOnly (given outcome)
given_only outcome x = none_more x

pub load_only : (line : ℕ) (name : List ℕ) (limit : ℕ) → LoadsOnly (load_for line name limit)
load_only line name limit x = (name ∷ [], refl)

after_only : {A B : Type 0} (outcome : Result A ScheduleFault) (next : A → ShelfReading B) → ((a : A) → LoadsOnly (next a)) → (x : Files) → LoadsMore x (after outcome next x).contents
after_only (Ok a) next later x = later a x
after_only (Err fault) next later x = none_more x

pub then_only : {A B : Type 0} (reading : ShelfReading A) (next : A → ShelfReading B) → LoadsOnly reading → ((a : A) → LoadsOnly (next a)) → LoadsOnly (reading >>= next)
then_only reading next first later x =
    more_then x (reading x).contents ((reading >>= next) x).contents (first x) (after_only (reading x).outcome next later (reading x).contents)

-- ---- some of the loads of a reading

abbrev pub Comes : {T : Type 0} → ShelfReading T → Result T ScheduleFault → Files → Files → Type 0
Comes reading outcome x y = (reading x ≡ record { outcome = outcome; contents = y }) ⊎ ((outcome ≡ Err NoMemory) × MadeSome (reading x).contents x y)

-- all of them
made_all : (x y : Files) → LoadsMore x y → MadeSome y x y
made_all x y (names, is) = record {
  names = names;
  lost = 0;
  one = omega arith;
  contents = is ∙ (λ i. record { files = x.files; loads = none_lost i; names = x.names ++ names; failing = x.failing });
  few = omega arith;
  later = [];
  first = sym (append-nil y.names);
}
  where
    none_lost : x.loads + length names ≡ x.loads + length names + 0
    none_lost = omega arith

-- and of those that come behind them
made_of_more : (last later x y : Files) → LoadsMore last later → MadeSome last x y → MadeSome later x y
made_of_more last later x y (more, is) some = record {
  names = some.names;
  lost = some.lost;
  one = some.one;
  contents = some.contents;
  few = (let loads = ap (λ (f : Files). f.loads) is in let few = some.few in omega (arith, loads, few));
  later = some.later ++ more;
  first = ap (λ (f : Files). f.names) is ∙ ap (λ l. l ++ more) some.first ∙ append_assoc y.names some.later more;
}

-- and behind others
made_behind : (last x y z : Files) → LoadsMore x y → MadeSome last y z → MadeSome last x z
made_behind last x y z (before, is) some = record {
  names = before ++ some.names;
  lost = some.lost;
  one = some.one;
  contents = some.contents ∙ ap (λ (f : Files). record f { loads = f.loads + length some.names + some.lost; names = f.names ++ some.names }) is ∙ joined;
  few = some.few;
  later = some.later;
  first = some.first;
}
  where
    sum : x.loads + length before + length some.names + some.lost ≡ x.loads + length (before ++ some.names) + some.lost
    sum = let both = length-append before some.names in omega (arith, both)

    joined : (record x { loads = x.loads + length before + length some.names + some.lost; names = (x.names ++ before) ++ some.names }) ≡ (record x { loads = x.loads + length (before ++ some.names) + some.lost; names = x.names ++ (before ++ some.names) })
    joined = λ i. record { files = x.files; loads = sum i; names = append_assoc x.names before some.names i; failing = x.failing }

-- what came, where memory didn't run out
pub outcome_by : {T : Type 0} (reading : ShelfReading T) (x : T) (p q : Files) → Comes reading (Ok x) p q → reading p ≡ record { outcome = Ok x; contents = q }
outcome_by reading x p q (inl is) = is
outcome_by reading x p q (inr memory) = cc (memory.0)

contents_by : {T : Type 0} (reading : ShelfReading T) (x : T) (p q : Files) → LoadsOnly reading → reading p ≡ record { outcome = Ok x; contents = q } → LoadsMore p q
contents_by {T} reading x p q only is = subst (λ (step : ShelfStep T). LoadsMore p step.contents) is (only p)

-- ---- readings one after another

pub ReadBy-then : {A B : Type 0} (reading : ShelfReading A) (next : A → ShelfReading B) (x : A) (outcome : Result B ScheduleFault) (a b c : Known Files) → LoadsOnly reading
    → ReadBy reading (Ok x) a b → ReadBy (next x) outcome b c → ReadBy (reading >>= next) outcome a c
ReadBy-then {A} {B} reading next x outcome a b c only first second =
    Tells-then _ _ _ a b c first second
    (λ p q r is_first is_second. joined p q r (outcome_by reading x p q is_first) is_second)
  where
    joined : (p q r : Files) → reading p ≡ record { outcome = Ok x; contents = q } → Comes (next x) outcome q r → Comes (reading >>= next) outcome p r
    joined p q r is_first (inl is_second) = inl (ap (λ (step : ShelfStep A). after step.outcome next step.contents) is_first ∙ is_second)
    joined p q r is_first (inr (memory, some)) =
        let same : (reading >>= next) p ≡ next x q = ap (λ (step : ShelfStep A). after step.outcome next step.contents) is_first in
        inr (
          memory,
          subst (λ (step : ShelfStep B). MadeSome step.contents p r) (sym same)
              (made_behind (next x q).contents p q r (contents_by reading x p q only is_first) some),
        )

pub ReadBy-stops : {A B : Type 0} (reading : ShelfReading A) (next : A → ShelfReading B) (fault : ScheduleFault) (a b : Known Files) → ((x : A) → LoadsOnly (next x))
    → ReadBy reading (Err fault) a b → ReadBy (reading >>= next) (Err fault) a b
ReadBy-stops {A} {B} reading next fault a b only stops =
    Tells-weaker _ _ a b stops (λ p q is. stopped p q is)
  where
    stopped : (p q : Files) → Comes reading (Err fault) p q → Comes (reading >>= next) (Err fault) p q
    stopped p q (inl is) = inl (ap (λ (step : ShelfStep A). after step.outcome next step.contents) is)
    stopped p q (inr (memory, some)) =
        let same : fault ≡ NoMemory = cc in
        inr (ap Err same, made_of_more (reading p).contents ((reading >>= next) p).contents p q (after_only (reading p).outcome next only (reading p).contents) some)

-- what is left of a reading, after some loads
abbrev pub Reached : {T : Type 0} → ShelfReading T → ShelfReading T → Files → Files → Type 0
Reached whole rest x y = (whole x ≡ rest y) × LoadsMore x y

-- and what comes of it
pub ReadBy-rest : {T : Type 0} (whole rest : ShelfReading T) (outcome : Result T ScheduleFault) (a b c : Known Files) → ShelfSupplies a b (Reached whole rest) → ReadBy rest outcome b c → ReadBy whole outcome a c
ReadBy-rest {T} whole rest outcome a b c so_far comes =
    Tells-then _ _ _ a b c so_far comes (λ p q r reached is. of p q r reached is)
  where
    of : (p q r : Files) → Reached whole rest p q → Comes rest outcome q r → Comes whole outcome p r
    of p q r reached (inl is) = inl (reached.0 ∙ is)
    of p q r reached (inr (memory, some)) = inr (
      memory,
      subst (λ (step : ShelfStep T). MadeSome step.contents p r) (sym reached.0)
          (made_behind (rest q).contents p q r reached.1 some),
    )

-- what is left once the next part came
pub rest_after : {A B : Type 0} (whole : ShelfReading B) (reading : ShelfReading A) (next : A → ShelfReading B) (x : A) (a b c : Known Files) → LoadsOnly reading
    → ShelfSupplies a b (Reached whole (reading >>= next)) → ReadBy reading (Ok x) b c → ShelfSupplies a c (Reached whole (next x))
rest_after {A} {B} whole reading next x a b c only so_far outcome =
    Tells-then _ _ _ a b c so_far outcome
    (λ p q r reached is.
    let outcome_is = outcome_by reading x q r is in (
      reached.0 ∙ ap (λ (step : ShelfStep A). after step.outcome next step.contents) outcome_is,
      more_then p q r reached.1 (contents_by reading x q r only outcome_is),
    ))

pub nothing_left : {T : Type 0} (whole rest : ShelfReading T) (a : Known Files) → whole ≡ rest → ShelfSupplies a a (Reached whole rest)
nothing_left whole rest a same = Tells-nothing _ a (λ contents. ((λ i. same i contents), none_more contents))

-- ---- what came without a load

pub ReadBy-given : {T : Type 0} (outcome : Result T ScheduleFault) (a : Known Files) → ReadBy (given outcome) outcome a a
ReadBy-given outcome a = Tells-nothing _ a (λ contents. inl refl)

pub ReadBy-gives : {T : Type 0} (outcome is : Result T ScheduleFault) (a : Known Files) → GivesUnlessMemory outcome is → ReadBy (given is) outcome a a
ReadBy-gives {T} outcome is a (inl memory) = Tells-nothing _ a (λ contents. inr (memory, made_all contents contents (none_more contents)))
ReadBy-gives {T} outcome is a (inr same) = Tells-nothing _ a (λ contents. inl (λ i. record { outcome = sym same i; contents = contents }))

-- where memory runs out behind a reading
pub ran_out : {A : Type 0} (reading : ShelfReading A) (x : A) (a b : Known Files) → LoadsOnly reading → ReadBy reading (Ok x) a b → ReadBy reading (Err NoMemory) a b
ran_out {A} reading x a b only comes =
    Tells-weaker _ _ a b comes
    (λ p q is.
    let outcome_is = outcome_by reading x p q is in
    let same : (reading p).contents ≡ q = ap (λ (step : ShelfStep A). step.contents) outcome_is in
    inr (refl, subst (λ (f : Files). MadeSome f p q) (sym same) (made_all p q (contents_by reading x p q only outcome_is))))

-- ---- one load

-- the one for which memory runs out
lost_one : (name : List ℕ) (x y : Files) → y ≡ after_load loads.NoMemory name x → MadeSome (after_loads (name ∷ []) x) x y
lost_one name x y is = record {
  names = [];
  lost = 1;
  one = omega arith;
  contents = is ∙ (λ i. record { files = x.files; loads = one_lost i; names = sym (append-nil x.names) i; failing = x.failing });
  few = (let loads = ap (λ (f : Files). f.loads) is in omega (arith, loads));
  later = name ∷ [];
  first = sym (ap (λ (f : Files). f.names ++ name ∷ []) is);
}
  where
    one_lost : x.loads + 1 ≡ x.loads + 0 + 1
    one_lost = omega arith

-- a load that gives what is there, or that it isn't there, is named
within_named : (limit : ℕ) (file : Option (List ℕ)) (name : List ℕ) (names : List (List ℕ)) → names_after (within limit file) name names ≡ names ++ name ∷ []
within_named limit None name names = refl
within_named limit (Some file) name names = by (nat_lt limit (length file))
  where
    by : (b : Bool) → names_after (if b then loads.TooLong else loads.Bytes file) name names ≡ names ++ name ∷ []
    by true = refl
    by false = refl

load_named : (fails : Bool) (file : Option (List ℕ)) (limit : ℕ) (name : List ℕ) (names : List (List ℕ)) → names_after (if fails then loads.Failed else within limit file) name names ≡ names ++ name ∷ []
load_named true file limit name names = refl
load_named false file limit name names = within_named limit file name names

pub ReadBy-load : (answer : Loaded) (line : ℕ) (name : List ℕ) (limit : ℕ) (a b : Known Files) → IfBothKnown a b (λ x _. ShelfLoads answer name limit x) → IfBothKnown a b (KeepsFiles answer name) → CountsCall (λ (f : Files). f.loads) a b → ReadBy (load_for line name limit) (bytes_or_fault line answer) a b
ReadBy-load answer line name limit a b loaded kept counts =
    Tells-weaker _ _ a b (Supplies-load answer name limit a b loaded kept counts) (λ p q is. of p q (Loads-is answer name limit p is.0) is.1)
  where
    of : (p q : Files) → (answer ≡ loads.NoMemory) ⊎ (answer ≡ load_of p name limit) → q ≡ after_load answer name p → Comes (load_for line name limit) (bytes_or_fault line answer) p q
    of p q (inl memory) contents =
        inr (ap (bytes_or_fault line) memory, lost_one name p q (contents ∙ ap (λ (l : Loaded). after_load l name p) memory))
    of p q (inr is) contents =
        let named : names_after answer name p.names ≡ p.names ++ name ∷ [] = ap (λ (l : Loaded). names_after l name p.names) is ∙ load_named (list_any (nat_eq p.loads) p.failing) (file_at p name) limit name p.names in
        inl (λ i. record { outcome = bytes_or_fault line (sym is i); contents = sym (contents ∙ ap (λ (ns : List (List ℕ)). record p { loads = p.loads + 1; names = ns }) named) i })
