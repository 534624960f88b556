use Rattle.std.proofs.Common.{◌≡◌, ◌≤◌, length, ◌∙◌, sym, subst, ap, refl, arith, rules}
use Rattle.std.proofs.lemmas.List.{take_at}
use Rattle.rs_erase.specs.Equations.{AreLocators}
use Rattle.rs_erase.specs.FromZero.{weighted}
use Rattle.rs_erase.specs.Rows.{listed}
use Rattle.rs_erase.proofs.FromZero.{bare_solves, weighted_solves}
use Rattle.rs_erase.proofs.ErasedPlaces.{are_locators, length-locators_of, places_rise}
use Rattle.rs_erase.proofs.Solutions.{solved, unsolved, not_found}
use Rattle.rs_erase.proofs.places.solve.Goals as goal

pub find_products-requires-clause-distinct : goal.find_products-requires-clause-distinct
find_products-requires-clause-distinct c =
    let e = take_at c.write_locators.new.locators _ (length c.args.erased.now) (ap length c.write_locators.ensures ∙ length-locators_of c.args.erased.now) in
    subst AreLocators (sym (e ∙ c.write_locators.ensures)) (are_locators 0 c.args.erased.now (places_rise c.args.erased.now c.requires))

pub divide_by_locators-requires-clause-locators : goal.divide_by_locators-requires-clause-locators
divide_by_locators-requires-clause-locators c =
    let e = take_at c.write_locators.new.locators _ (length c.args.erased.now) (ap length c.write_locators.ensures ∙ length-locators_of c.args.erased.now) in
    subst AreLocators (sym (e ∙ c.write_locators.ensures)) (are_locators 0 c.args.erased.now (places_rise c.args.erased.now c.requires))

pub returns-then-not-find_products : goal.returns-then-not-find_products
returns-then-not-find_products c =
    let few : length c.args.erased.now ≤ 48 = omega arith in
    let located =
    take_at c.write_locators.new.locators _ (length c.args.erased.now) (ap length c.write_locators.ensures ∙ length-locators_of c.args.erased.now)
    ∙ c.write_locators.ensures in
    let none =
    unsolved c.args.erased.now c.args.word.now (listed c.values_at_roots-at_roots.result) _ (places_rise c.args.erased.now c.requires) c.told-word c.fits-word
    c.values_at_roots-at_roots.ensures located (λ vs h. not_found (c.if-not-find_products.ensures.complete (weighted _ vs) (weighted_solves _ vs _ h))) in
    record {
      solved = (λ ok. cc, λ h. absurd (none h.1));
      code_word = search rules;
      agrees = search rules;
      only = search rules;
      too_many = (λ e. cc, λ many. absurd (omega arith));
      no_code_word = (λ e. (few, none), λ h. refl);
      unchanged = search rules;
    }

pub returns : goal.returns
returns c =
    let few : length c.args.erased.now ≤ 48 = omega arith in
    let located =
    take_at c.write_locators.new.locators _ (length c.args.erased.now) (ap length c.write_locators.ensures ∙ length-locators_of c.args.erased.now)
    ∙ c.write_locators.ensures in
    let n = length c.args.erased.now in
    let s = listed c.values_at_roots-at_roots.result in
    let found = c.if-not-find_products.ensures.found refl in
    let long : length c.find_products.new.products ≡ n = found.one_each ∙ ap length located ∙ length-locators_of c.args.erased.now in
    let products = take_at c.find_products.new.products _ n long in
    let d = c.divide_by_locators.ensures in
    let long' : length c.divide_by_locators.new.products ≡ n = c.divide_by_locators.auto.products ∙ ap length products ∙ long in
    let bare =
    bare_solves _ c.divide_by_locators.new.products c.find_products.new.products s (long' ∙ sym (ap length located ∙ length-locators_of c.args.erased.now)) d.elements
    (sym products ∙ d.products) found in
    let whole =
    solved c.args.erased.now c.args.word.now s _ c.divide_by_locators.new.products _ c.add_values.new.word
    (places_rise c.args.erased.now c.requires) c.told-word c.fits-word few c.values_at_roots-at_roots.ensures located
    (take_at c.divide_by_locators.new.products _ n long') bare c.add_values.ensures in
    record {
      solved = (λ ok. (few, record { word = c.add_values.new.word; code_word = whole.code_word; agrees = whole.agrees }), λ h. refl);
      code_word = whole.code_word;
      agrees = whole.agrees;
      only = whole.only;
      too_many = (λ e. cc, λ many. absurd (omega arith));
      no_code_word =
          (λ e. cc, λ h. absurd (h.1 (record { word = c.add_values.new.word; code_word = whole.code_word; agrees = whole.agrees })));
      unchanged = search rules;
    }
