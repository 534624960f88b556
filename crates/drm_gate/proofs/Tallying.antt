-- What is counted of one item, and of several.
use Rattle.std.proofs.Common.{◌≡◌, ℕ, ◌+◌, ◌*◌, ◌≤◌, List, [], ◌∷◌, ◌++◌, length, sym, ap, ◌∙◌, refl, arith}
use Rattle.dcp_pft.specs.Limits.{most_fragments}
use Rattle.drm_gate.specs.declared.tally.Tally.{Tally}
use Rattle.drm_gate.specs.Passing.{Outcome, Sent, Bad, Large, Missing, datagrams_of}
use Rattle.drm_gate.specs.Tallies.{nothing, plus, tally_one, tally_of, items_in}

abbrev tally_from : ℕ → ℕ → ℕ → ℕ → ℕ → Tally
tally_from g m b l s = record { given = g; missing = m; bad = b; large = l; sent = s }

same : (g g' m m' b b' l l' s s' : ℕ) → g ≡ g' → m ≡ m' → b ≡ b' → l ≡ l' → s ≡ s' → tally_from g m b l s ≡ tally_from g' m' b' l' s'
same g g' m m' b b' l l' s s' p q r t u = λ i. record { given = p i; missing = q i; bad = r i; large = t i; sent = u i }

pub plus_nothing : (t : Tally) → plus t nothing ≡ t
plus_nothing t = same _ _ _ _ _ _ _ _ _ _ (omega arith) (omega arith) (omega arith) (omega arith) (omega arith)

pub nothing_plus : (t : Tally) → plus nothing t ≡ t
nothing_plus t = same _ _ _ _ _ _ _ _ _ _ (omega arith) (omega arith) (omega arith) (omega arith) (omega arith)

pub plus_assoc : (t u v : Tally) → plus (plus t u) v ≡ plus t (plus u v)
plus_assoc t u v = same _ _ _ _ _ _ _ _ _ _ (omega arith) (omega arith) (omega arith) (omega arith) (omega arith)

pub tally_join : (xs ys : List Outcome) → tally_of (xs ++ ys) ≡ plus (tally_of xs) (tally_of ys)
tally_join [] ys = sym (nothing_plus (tally_of ys))
tally_join (x ∷ xs) ys = ap (plus (tally_one x)) (tally_join xs ys) ∙ sym (plus_assoc (tally_one x) (tally_of xs) (tally_of ys))

-- ---- one item more

one_item : (fate : Outcome) → items_in (tally_one fate) ≡ 1
one_item (Sent datagrams) = omega arith
one_item Bad = omega arith
one_item Large = omega arith
one_item Missing = omega arith

pub items_plus : (t u : Tally) → items_in (plus t u) ≡ items_in t + items_in u
items_plus t u = omega arith

pub items_all : (fates : List Outcome) → items_in (tally_of fates) ≡ length fates
items_all [] = refl
items_all (fate ∷ fates) = let one = one_item fate in let more = items_all fates in let sum = items_plus (tally_one fate) (tally_of fates) in omega (arith, one, more, sum)

few_one : (fate : Outcome) → length (datagrams_of fate) ≤ most_fragments → (tally_one fate).sent ≤ most_fragments * (tally_one fate).given
few_one (Sent datagrams) few = omega (arith, few)
few_one Bad few = omega arith
few_one Large few = omega arith
few_one Missing few = omega arith

pub few_sent : (t u : Tally) (fate : Outcome) → u ≡ plus t (tally_one fate) → length (datagrams_of fate) ≤ most_fragments
    → t.sent ≤ most_fragments * t.given → u.sent ≤ most_fragments * u.given
few_sent t u fate is few before =
    let sent : u.sent ≡ t.sent + (tally_one fate).sent = ap (λ (v : Tally). v.sent) is in
    let given : u.given ≡ t.given + (tally_one fate).given = ap (λ (v : Tally). v.given) is in
    omega (arith, few_one fate few, sent, given, before)

pub one_missing : (t : Tally) → tally_from t.given (t.missing + 1) t.bad t.large t.sent ≡ plus t (tally_one Missing)
one_missing t = same _ _ _ _ _ _ _ _ _ _ (omega arith) (omega arith) (omega arith) (omega arith) (omega arith)

pub one_bad : (t : Tally) → tally_from t.given t.missing (t.bad + 1) t.large t.sent ≡ plus t (tally_one Bad)
one_bad t = same _ _ _ _ _ _ _ _ _ _ (omega arith) (omega arith) (omega arith) (omega arith) (omega arith)

pub one_large : (t : Tally) → tally_from t.given t.missing t.bad (t.large + 1) t.sent ≡ plus t (tally_one Large)
one_large t = same _ _ _ _ _ _ _ _ _ _ (omega arith) (omega arith) (omega arith) (omega arith) (omega arith)

pub one_given : (t : Tally) (n : ℕ) (datagrams : List (List ℕ)) → length datagrams ≡ n → tally_from (t.given + 1) t.missing t.bad t.large (t.sent + n) ≡ plus t (tally_one (Sent datagrams))
one_given t n datagrams many = same _ _ _ _ _ _ _ _ _ _ (omega arith) (omega arith) (omega arith) (omega arith) (omega (arith, many))
