use Rattle.std.proofs.Common.{List, ℕ, ◌≡◌, ◌<◌, ◌∙◌, ap, arith, length, refl, rules, subst, sym, take}
use Rattle.std.proofs.lemmas.List.{get_or-take, take-take}
use Rattle.gf_field.specs.Field.{times}
use Rattle.rs_erase.specs.Code.{AreSyndromes, HasCodeWord}
use Rattle.rs_erase.specs.Equations.{locators_of, word_with}
use Rattle.rs_erase.specs.Prepared.{scale_of}
use Rattle.rs_erase.specs.Rows.{listed}
use Rattle.rs_erase.specs.Spaced.{HasMessage, IsSpacing, SpacedPlaces}
use Rattle.rs_erase.proofs.Elements.{elements_of}
use Rattle.rs_erase.proofs.ErasedPlaces.{length-locators_of}
use Rattle.rs_erase.proofs.RootSums.{all_summed}
use Rattle.rs_erase.proofs.Solutions.{not_found}
use Rattle.rs_erase.proofs.SpacedSums.{length_to, summed_to, syndromes_to}
use Rattle.rs_erase.proofs.SpacedWords.{code_word_found, first_places, message_found, nothing_left, parity_kept, word_found}
use Rattle.rs_erase.proofs.SymbolSums.{are_syndromes}
use Rattle.rs_erase.proofs.spaced.solve_spaced.Goals as goal

pub add_found-requires-clause-places : goal.add_found-requires-clause-places
add_found-requires-clause-places c =
    let p = c.pattern.inside in
    let few = c.pattern.invariant.few in
    let n = c.pattern.invariant.long in
    let m = c.pattern.invariant.in_message.few in
    first_places p.message p.count p.places (omega arith) n c.pattern.invariant.are_places

pub add_found-requires-clause-lanes : goal.add_found-requires-clause-lanes
add_found-requires-clause-lanes c = λ j lt.
    let p = c.pattern.inside in
    let few = c.pattern.invariant.few in
    let n = c.pattern.invariant.long in
    let m = c.pattern.invariant.in_message.few in
    let same : take p.message (take p.count p.places) ≡ take p.message p.places = take-take p.message p.count p.places (omega arith) in
    let lane = c.pattern.invariant.have_lanes j (subst (λ (zs : List ℕ). j < length zs) (sym same) lt) in
    lane.small

pub returns-then-not-leaves_nothing : goal.returns-then-not-leaves_nothing
returns-then-not-leaves_nothing c =
    let p = c.pattern.inside in
    let es = take p.count p.places in
    let w = c.args.word.now in
    let few = c.pattern.invariant.few in
    let n = c.pattern.invariant.long in
    let r = c.to_bytes-remainder.result in
    let s = c.multiplied-symbols.result in
    let lr : length r ≡ 48 = search rules in
    let ls : length s ≡ 48 = search rules in
    let hw = elements_of w c.fits-word in
    let sy : AreSyndromes w (syndromes_to r 48) =
    are_syndromes w r (listed c.word_remainder.result) (syndromes_to r 48) hw c.to_bytes-remainder.ensures.value (length_to r 48 lr (omega arith))
    (λ j lt. all_summed r (syndromes_to r 48) lr (summed_to r 48 lr (omega arith)) j lt) c.word_remainder.ensures in
    let none : HasCodeWord es w → ⊥ =
    λ has. not_found (c.if-not-leaves_nothing.ensures.1
    (λ i lt. nothing_left es w r s p.factors i c.pattern.invariant.are_places (omega arith) c.told-word hw sy c.pattern.invariant.have_factors c.multiplied-symbols.ensures
    lr ls has (omega arith))) in
    let seen : es ≡ c.args.pattern.now.places = ap (λ (v : SpacedPlaces). v.places) c.pattern.view_is in
    let none' : HasCodeWord c.args.pattern.now.places w → ⊥ = subst (λ (ds : List ℕ). HasCodeWord ds w → ⊥) seen none in
    record {
      solved = (λ ok. cc, λ h. absurd (none' h));
      message = search rules;
      parity = search rules;
      no_code_word = (λ e. none', λ h. refl);
      unchanged = search rules;
    }

pub returns : goal.returns
returns c =
    let p = c.pattern.inside in
    let es = take p.count p.places in
    let w = c.args.word.now in
    let few = c.pattern.invariant.few in
    let n = c.pattern.invariant.long in
    let m = c.pattern.invariant.in_message.few in
    let r = c.to_bytes-remainder.result in
    let s = c.multiplied-symbols.result in
    let lr : length r ≡ 48 = search rules in
    let ls : length s ≡ 48 = search rules in
    let hw = elements_of w c.fits-word in
    let sy : AreSyndromes w (syndromes_to r 48) =
    are_syndromes w r (listed c.word_remainder.result) (syndromes_to r 48) hw c.to_bytes-remainder.ensures.value (length_to r 48 lr (omega arith))
    (λ j lt. all_summed r (syndromes_to r 48) lr (summed_to r 48 lr (omega arith)) j lt) c.word_remainder.ensures in
    let zeros = c.if-not-leaves_nothing.ensures.0 refl in
    let has : HasCodeWord es w =
    code_word_found es w r s p.factors c.pattern.invariant.are_places (omega arith) c.told-word hw sy c.pattern.invariant.have_factors c.multiplied-symbols.ensures lr ls
    (λ i lt. zeros i (omega arith)) in
    let seen : es ≡ c.args.pattern.now.places = ap (λ (v : SpacedPlaces). v.places) c.pattern.view_is in
    let has' : HasCodeWord c.args.pattern.now.places w = subst (λ (ds : List ℕ). HasCodeWord ds w) seen has in
    let same : take p.message es ≡ take p.message p.places = take-take p.message p.count p.places (omega arith) in
    let distance : c.spacing.inside.distance ≡ p.distance = c.spacing.view_is ∙ sym (ap (λ (v : SpacedPlaces). v.distance) c.pattern.view_is ∙ c.requires) in
    let made = word_found es w r s p.factors p.weights p.starts p.lanes c.write_sums.new.sums c.spacing.inside.table c.add_found.new.word p.distance p.message p.used
    (omega arith) c.pattern.invariant.are_places c.pattern.invariant.in_message c.told-word hw sy c.pattern.invariant.have_factors c.multiplied-symbols.ensures lr
    (λ j lt. ap (λ (z : ℕ). times z (scale_of (locators_of es) j)) (sym (get_or-take p.count p.weights j 0 (omega arith))) ∙ c.pattern.invariant.have_weights j (omega (arith, lt, length-locators_of es)))
    c.pattern.invariant.have_lanes (subst (λ (d : ℕ). IsSpacing d c.spacing.inside.table) distance c.spacing.invariant.spacing) c.write_sums.ensures
    (λ vs lv each. c.add_found.ensures vs (lv ∙ ap (λ (zs : List ℕ). length zs) same)
    (λ j lt. each j (subst (λ (zs : List ℕ). j < length zs) (sym same) lt))
    ∙ ap (λ (zs : List ℕ). word_with zs vs w) (sym same)) in
    record {
      solved = (λ ok. has', λ h. refl);
      message = subst (λ (ds : List ℕ). HasMessage ds w c.add_found.new.word) seen
          (message_found es w c.add_found.new.word p.message c.pattern.invariant.are_places c.pattern.invariant.in_message c.told-word made);
      parity = parity_kept es w c.add_found.new.word p.message c.pattern.invariant.in_message has made;
      no_code_word = (λ e. cc, λ h. absurd (h has'));
      unchanged = search rules;
    }
