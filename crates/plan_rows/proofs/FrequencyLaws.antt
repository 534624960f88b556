-- Frequencies that are joined by commas are the frequencies again.
use Rattle.std.proofs.Common.{◌≡◌, ◌≢◌, ℕ, ◌<◌, ◌≤◌, ◌^◌, Bool, true, false, eqb, List, [], ◌∷◌, length, map, refl, ap, sym, ◌∙◌, subst, arith}
use Rattle.std.specs.Prelude.{decimal, nat_le}
use Rattle.std.specs.List.{AllByRecursion, list_all}
use Rattle.std.proofs.lemmas.Bool.{le-leb}
use Rattle.std.proofs.lemmas.List.{length-map}
use Rattle.std.proofs.lemmas.List.Splits.{slice_split_none, slice_split_at}
use Rattle.drm_sdc.specs.declared.channels.Channel15.{Channel15}
use Rattle.text_lines.proofs.Lacking.{lacks, split, all_other, decimal_lacks}
use Rattle.text_lines.proofs.SpellingLaws.{decimal_is_number, decimal_value}
use Rattle.plan_rows.specs.Words.{value}
use Rattle.plan_rows.specs.Frequencies.{elements, has_plus, digits, channel, are_spelled, frequencies, channels, channel_word, channels_word}
use Rattle.plan_rows.proofs.Elements.{no_plus}
use Rattle.plan_rows.proofs.WordsAgain.{Good}

-- a frequency fits its 15 bits
abbrev pub Fits15 : Channel15 → Type 0
Fits15 c = c.number < 2 ^ 15

not_plus : (bs : List ℕ) → lacks 43 bs ≡ true → (rest : List ℕ) → bs ≢ 43 ∷ rest
not_plus bs e rest is = let first : lacks 43 (43 ∷ rest) ≡ true = subst (λ (x : List ℕ). lacks 43 x ≡ true) is e in absurd cc

digits_again : (c : Channel15) → Fits15 c → digits (channel_word c) ≡ decimal c.number
digits_again c fits = by c.first c.number fits
  where
    by : (first : Bool) (n : ℕ) → n < 2 ^ 15 → digits (channel_word (record { first = first; number = n })) ≡ decimal n
    by true n small = refl
    by false n small = sym (no_plus (decimal n) (not_plus (decimal n) (decimal_lacks 43 n (omega arith) (λ r. omega (arith, r)))))

no_plus_there : (bs : List ℕ) → lacks 43 bs ≡ true → has_plus bs ≡ false
no_plus_there [] e = refl
no_plus_there (b ∷ bs) e = (split 43 b bs e).head

channel_again : (c : Channel15) → Fits15 c → channel (channel_word c) ≡ c
channel_again c fits = by c.first c.number fits
  where
    by : (first : Bool) (n : ℕ) → n < 2 ^ 15 → channel (channel_word (record { first = first; number = n })) ≡ record { first = first; number = n }
    by true n small = rw (decimal_value n (omega arith)) refl
    by false n small =
        rw (no_plus_there (decimal n) (decimal_lacks 43 n (omega arith) (λ r. omega (arith, r))), digits_again (record { first = false; number = n }) small, decimal_value n (omega arith)) refl

-- neither a comma nor a byte that isn't a plus or a digit
pub channel_lacks : (byte : ℕ) (c : Channel15) → Fits15 c → eqb 43 byte ≡ false → ((48 ≤ byte) × (byte ≤ 57) → ⊥) → lacks byte (channel_word c) ≡ true
channel_lacks byte c fits plus digit = by c.first c.number fits
  where
    by : (first : Bool) (n : ℕ) → n < 2 ^ 15 → lacks byte (channel_word (record { first = first; number = n })) ≡ true
    by true n small = rw plus (decimal_lacks byte n (omega arith) digit)
    by false n small = decimal_lacks byte n (omega arith) digit

parts_again : (c : Channel15) (cs : List Channel15) → AllByRecursion Fits15 (c ∷ cs) → elements (channels_word (c ∷ cs)) ≡ map channel_word (c ∷ cs)
parts_again c [] fits = slice_split_none (λ b. eqb b 44) (channel_word c) (all_other 44 (channel_word c) (channel_lacks 44 c fits.0 refl (λ r. omega (arith, r))))
parts_again c (d ∷ cs) fits =
    slice_split_at (λ b. eqb b 44) (channel_word c) 44 (channels_word (d ∷ cs)) (all_other 44 (channel_word c) (channel_lacks 44 c fits.0 refl (λ r. omega (arith, r)))) refl
    ∙ ap (λ (r : List (List ℕ)). channel_word c ∷ r) (parts_again d cs fits.1)

spelled : (cs : List Channel15) → AllByRecursion Fits15 cs → are_spelled (map channel_word cs) ≡ true
spelled [] fits = refl
spelled (c ∷ cs) fits =
    let small : c.number < 10 ^ 10 = omega (arith, fits.0) in
    rw (digits_again c fits.0, decimal_is_number c.number small) (spelled cs fits.1)

ranged : (cs : List Channel15) → AllByRecursion Fits15 cs → list_all (λ element. nat_le (value (digits element)) 32767) (map channel_word cs) ≡ true
ranged [] fits = refl
ranged (c ∷ cs) fits =
    let small : c.number < 10 ^ 10 = omega (arith, fits.0) in
    let most : nat_le c.number 32767 ≡ true = le-leb c.number 32767 (omega (arith, fits.0)) in
    rw (digits_again c fits.0, decimal_value c.number small, most) (ranged cs fits.1)

all_again : (cs : List Channel15) → AllByRecursion Fits15 cs → map channel (map channel_word cs) ≡ cs
all_again [] fits = refl
all_again (c ∷ cs) fits = rw (channel_again c fits.0) (ap (λ (r : List Channel15). c ∷ r) (all_again cs fits.1))

pub frequencies_good : (cs : List Channel15) → 1 ≤ length cs → length cs ≤ 16 → AllByRecursion Fits15 cs → Good (frequencies (channels_word cs))
frequencies_good [] some few fits = absurd (omega arith)
frequencies_good (c ∷ cs) some few fits =
    let same : length (map channel_word (c ∷ cs)) ≡ length (c ∷ cs) = simp length-map refl in
    record {
      spelled = rw (parts_again c cs fits) (spelled (c ∷ cs) fits);
      ranged = rw (parts_again c cs fits, le-leb (length (map channel_word (c ∷ cs))) 16 (omega (arith, same, few))) (ranged (c ∷ cs) fits);
    }

pub channels_again : (cs : List Channel15) → 1 ≤ length cs → AllByRecursion Fits15 cs → channels (channels_word cs) ≡ cs
channels_again [] some fits = absurd (omega arith)
channels_again (c ∷ cs) some fits = rw (parts_again c cs fits) (all_again (c ∷ cs) fits)
