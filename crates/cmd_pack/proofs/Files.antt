-- The units of a file.
use Rattle.std.proofs.Common.{◌≡◌, ℕ, ◌+◌, ◌≤◌, inl, inr, List, [], ◌∷◌, ◌++◌, length, take, drop, refl, sym, ap, ap₂, subst, ◌∙◌, arith, length-append}
use Rattle.std.specs.Prelude.{Result, Ok, Err}
use Rattle.std.specs.Int.{w32, from_be_bytes}
use Rattle.std.proofs.lemmas.List.{take_at, drop_at}
use Rattle.cmd_faults.specs.declared.units.UnitsReason.{UnitsReason}
use Rattle.cmd_faults.specs.declared.units.UnitsReason.TheVariants.{Empty, TooLong, Cut}
use Rattle.cmd_faults.specs.declared.units.UnitsFault.{UnitsFault}
use Rattle.cmd_pack.specs.Units.{BeginsWith, AreUnits, said_length, IsWrongUnit, IsWrongAt, UnitsComeTo}

-- one unit more
pub units_more : (units : List (List ℕ)) (unit rest more bytes : List ℕ) → AreUnits units rest bytes → BeginsWith unit more rest → AreUnits (units ++ unit ∷ []) more bytes
units_more [] unit rest more bytes are begins = (more, subst (BeginsWith unit more) (sym are) begins, refl)
units_more (u ∷ units) unit rest more bytes (behind, first, are) begins = (behind, first, units_more units unit rest more behind are begins)

pub begin_size : (unit rest bytes : List ℕ) → BeginsWith unit rest bytes → length bytes ≡ 4 + (length unit + length rest)
begin_size unit rest bytes b = omega (arith, ap length b.all, length-append b.head (unit ++ rest), length-append unit rest, b.four)

-- what bytes begin with is one unit
same_front : {X : Type 0} (a b c d : List X) → length a ≡ length b → a ++ c ≡ b ++ d → (a ≡ b) × (c ≡ d)
same_front a b c d size is = (
  sym (take_at a c (length a) refl) ∙ (ap (take (length a)) is ∙ take_at b d (length a) (sym size)),
  sym (drop_at a c (length a) refl) ∙ (ap (drop (length a)) is ∙ drop_at b d (length a) (sym size)),
)

pub one_begin : (unit other rest more bytes : List ℕ) → BeginsWith unit rest bytes → BeginsWith other more bytes → (unit ≡ other) × (rest ≡ more)
one_begin unit other rest more bytes b c =
    let (head, behind) = same_front b.head c.head (unit ++ rest) (other ++ more) (b.four ∙ sym c.four) (sym b.all ∙ c.all) in
    same_front unit other rest more (sym b.says ∙ (ap (from_be_bytes w32) head ∙ c.says)) behind

-- what is wrong begins no unit, and is one thing
begin_said : (unit rest bytes : List ℕ) → BeginsWith unit rest bytes → said_length bytes ≡ length unit
begin_said unit rest bytes b = ap (from_be_bytes w32) (ap (take 4) b.all ∙ take_at b.head (unit ++ rest) 4 b.four) ∙ b.says

pub wrong_begin : (reason : UnitsReason) (unit rest bytes : List ℕ) → IsWrongUnit reason bytes → BeginsWith unit rest bytes → ⊥
wrong_begin Empty unit rest bytes wrong b = let e = begin_said unit rest bytes b in omega (arith, wrong.1, e, b.is_unit.0)
wrong_begin TooLong unit rest bytes wrong b = let e = begin_said unit rest bytes b in omega (arith, wrong.1, e, b.is_unit.1)
wrong_begin Cut unit rest bytes (some, inl few) b = omega (arith, few, begin_size unit rest bytes b)
wrong_begin Cut unit rest bytes (some, inr cut) b = omega (arith, cut.2, begin_size unit rest bytes b, begin_said unit rest bytes b)

wrong_some : (reason : UnitsReason) (bytes : List ℕ) → IsWrongUnit reason bytes → 1 ≤ length bytes
wrong_some Empty bytes wrong = omega (arith, wrong.0)
wrong_some TooLong bytes wrong = omega (arith, wrong.0)
wrong_some Cut bytes wrong = wrong.0

one_reason : (r s : UnitsReason) (bytes : List ℕ) → IsWrongUnit r bytes → IsWrongUnit s bytes → r ≡ s
one_reason Empty Empty bytes a b = refl
one_reason Empty TooLong bytes a b = absurd (omega (arith, a.1, b.1))
one_reason Empty Cut bytes a (some, inl few) = absurd (omega (arith, a.0, few))
one_reason Empty Cut bytes a (some, inr cut) = absurd (omega (arith, a.1, cut.0))
one_reason TooLong Empty bytes a b = absurd (omega (arith, a.1, b.1))
one_reason TooLong TooLong bytes a b = refl
one_reason TooLong Cut bytes a (some, inl few) = absurd (omega (arith, a.0, few))
one_reason TooLong Cut bytes a (some, inr cut) = absurd (omega (arith, a.1, cut.1))
one_reason Cut Empty bytes (some, inl few) b = absurd (omega (arith, b.0, few))
one_reason Cut Empty bytes (some, inr cut) b = absurd (omega (arith, b.1, cut.0))
one_reason Cut TooLong bytes (some, inl few) b = absurd (omega (arith, b.0, few))
one_reason Cut TooLong bytes (some, inr cut) b = absurd (omega (arith, b.1, cut.1))
one_reason Cut Cut bytes a b = refl

-- ---- bytes come to one thing

-- the units up to where something is wrong, or nothing stands
abbrev Stuck : List ℕ → Type 0
Stuck rest = (unit more : List ℕ) → BeginsWith unit more rest → ⊥

pub none_begins : (unit more : List ℕ) → BeginsWith unit more [] → ⊥
none_begins unit more b = omega (arith, begin_size unit more [] b)

one_way : (units others : List (List ℕ)) (rest more bytes : List ℕ) → AreUnits units rest bytes → AreUnits others more bytes → Stuck rest → Stuck more → (units ≡ others) × (rest ≡ more)
one_way [] [] rest more bytes are also stuck stuck' = (refl, sym are ∙ also)
one_way [] (v ∷ others) rest more bytes are (left, first, also) stuck stuck' = absurd (stuck v left (subst (BeginsWith v left) are first))
one_way (u ∷ units) [] rest more bytes (left, first, are) also stuck stuck' = absurd (stuck' u left (subst (BeginsWith u left) also first))
one_way (u ∷ units) (v ∷ others) rest more bytes (left, first, are) (left', first', also) stuck stuck' =
    let (unit, behind) = one_begin u v left left' bytes first first' in
    let (units_are, rest_is) = one_way units others rest more left are (subst (AreUnits others more) (sym behind) also) stuck stuck' in
    (ap₂ (λ x xs. x ∷ xs) unit units_are, rest_is)

one_fault : (f g : UnitsFault) (bytes : List ℕ) → IsWrongAt f bytes → IsWrongAt g bytes → f ≡ g
one_fault f g bytes a b =
    let (units, rest) = one_way a.units b.units a.rest b.rest bytes a.are b.are (λ u m. wrong_begin f.reason u m a.rest a.wrong) (λ u m. wrong_begin g.reason u m b.rest b.wrong) in
    let reason : f.reason ≡ g.reason = one_reason f.reason g.reason a.rest a.wrong (subst (IsWrongUnit g.reason) (sym rest) b.wrong) in
    let at : f.at ≡ g.at = omega (arith, a.at, b.at, ap length rest) in
    ap₂ (λ n r. record { at = n; reason = r }) at reason

not_both : (units : List (List ℕ)) (f : UnitsFault) (bytes : List ℕ) → AreUnits units [] bytes → IsWrongAt f bytes → ⊥
not_both units f bytes are b =
    let (same, rest) = one_way units b.units [] b.rest bytes are b.are none_begins (λ u m. wrong_begin f.reason u m b.rest b.wrong) in
    omega (arith, ap length rest, wrong_some f.reason b.rest b.wrong)

pub one_coming : (bytes : List ℕ) (r s : Result (List (List ℕ)) UnitsFault) → UnitsComeTo bytes r → UnitsComeTo bytes s → r ≡ s
one_coming bytes (Ok units) (Ok others) a b = ap Ok (one_way units others [] [] bytes a.1 b.1 none_begins none_begins).0
one_coming bytes (Ok units) (Err f) a (inl much) = absurd (omega (arith, a.0, much.0))
one_coming bytes (Ok units) (Err f) a (inr wrong) = absurd (not_both units f bytes a.1 wrong.1)
one_coming bytes (Err f) (Ok units) (inl much) b = absurd (omega (arith, b.0, much.0))
one_coming bytes (Err f) (Ok units) (inr wrong) b = absurd (not_both units f bytes b.1 wrong.1)
one_coming bytes (Err f) (Err g) (inl a) (inl b) = ap Err (a.1 ∙ sym b.1)
one_coming bytes (Err f) (Err g) (inl a) (inr b) = absurd (omega (arith, a.0, b.0))
one_coming bytes (Err f) (Err g) (inr a) (inl b) = absurd (omega (arith, a.0, b.0))
one_coming bytes (Err f) (Err g) (inr a) (inr b) = ap Err (one_fault f g bytes a.1 b.1)
