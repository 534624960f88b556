-- Which fault it is, and what failed of two objects by what failed of one.
use Rattle.std.proofs.Common.{◌≡◌, inl, inr, Result, Err}
use Rattle.drm_links.specs.Known.{Known, HasCause}
use Rattle.cmd_faults.specs.Causes.{OneFailed, OpeningFailed}

-- an answer has one fault
pub inner_fault : {T E : Type 0} (fault other : E) → (let r : Result T E = Err fault in r ≡ Err other) → fault ≡ other
inner_fault fault other is = cc

-- the other is left alone
pub one_alone : {X Y H : Type 0} {a b : Known X} {c d : Known Y} → HasCause a b H → d.faults ≡ c.faults → OneFailed a b c d H
one_alone cause still = record { once = λ here. inl (cause.once here, still); same = λ none. (cause.same none, still) }

pub other_alone : {X Y H : Type 0} {a b : Known X} {c d : Known Y} → b.faults ≡ a.faults → HasCause c d H → OneFailed a b c d H
other_alone still cause = record { once = λ here. inr (cause.once here, still); same = λ none. (still, cause.same none) }

-- it didn't happen
pub none_failed : {X Y H : Type 0} {a b : Known X} {c d : Known Y} → (H → ⊥) → b.faults ≡ a.faults → d.faults ≡ c.faults → OneFailed a b c d H
none_failed none still still' = record { once = λ here. absurd (none here); same = λ _. (still, still') }

-- it happens exactly where something else does
pub one_failed_as : {X Y G H : Type 0} {a b : Known X} {c d : Known Y} → (H → G) → (G → H) → OneFailed a b c d G → OneFailed a b c d H
one_failed_as to from failed = record { once = λ here. failed.once (to here); same = λ none. failed.same (λ there. none (from there)) }

-- the run ends so where it ends in another way
pub opening_as : {X G H : Type 0} (a b : Known X) → (G → H) → OpeningFailed a b G → OpeningFailed a b H
opening_as a b to (inl same) = inl same
opening_as a b to (inr (here, failed)) = inr (to here, failed)
