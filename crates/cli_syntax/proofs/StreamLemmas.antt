-- What is read of a list of stream numbers, and what it is.
use Rattle.std.proofs.Common.{◌≡◌, ℕ, ◌+◌, List, [], ◌∷◌, Some, refl, sym, ap, ◌∙◌, subst}
use Rattle.std.specs.Prelude.{option_map}
use Rattle.std.proofs.lemmas.Option.{same_Some}
use Rattle.drm_schedule.specs.declared.live.Live.{Live}
use Rattle.cli_syntax.specs.Reading.{within}
use Rattle.cli_syntax.specs.Addressing.{parts_of}
use Rattle.cli_syntax.specs.Streams.{AreRising, AreStreams, live_with, rising_from, live_of}
use Rattle.cli_syntax.proofs.OptionLemmas.{mapped, stepped}
use Rattle.cli_syntax.proofs.NumberLemmas.{within_fits, within_is}

rising_fits : (least : ℕ) (texts : List (List ℕ)) (numbers : List ℕ) → rising_from least texts ≡ Some numbers → AreRising least texts numbers
rising_fits least [] numbers e = subst (AreRising least []) (same_Some [] numbers e) tt
rising_fits least (text ∷ texts) numbers e =
    let first = stepped (within least 3 text) _ numbers e in
    let others = mapped (rising_from (first.value + 1) texts) (λ ns. first.value ∷ ns) numbers first.rest in
    subst (AreRising least (text ∷ texts)) others.rest
    (within_fits least 3 text first.value first.is, rising_fits (first.value + 1) texts others.value others.is)

rising_is : (least : ℕ) (texts : List (List ℕ)) (numbers : List ℕ) → AreRising least texts numbers → rising_from least texts ≡ Some numbers
rising_is least [] [] h = refl
rising_is least [] (n ∷ ns) h = absurd h
rising_is least (text ∷ texts) [] h = absurd h
rising_is least (text ∷ texts) (n ∷ ns) h = rw (within_is least 3 text n h.0, rising_is (n + 1) texts ns h.1) refl

pub live_fits : (text : List ℕ) (live : Live) → live_of text ≡ Some live → AreStreams text live
unfolding live_of
live_fits text live e =
    let p = mapped (rising_from 0 (parts_of text)) live_with live e in
    record { numbers = p.value; rising = rising_fits 0 (parts_of text) p.value p.is; are = sym p.rest }

pub live_is : (text : List ℕ) (live : Live) → AreStreams text live → live_of text ≡ Some live
unfolding live_of
live_is text live h = ap (option_map live_with) (rising_is 0 (parts_of text) h.numbers h.rising) ∙ ap (λ (l : Live). Some l) (sym h.are)
