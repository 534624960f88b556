use Rattle.std.proofs.Common.{◌∙◌, [], ◌∷◌, ◌++◌, refl, sym, subst}
use Rattle.dcp_collect.specs.Runs.{CollectorGives}
use Rattle.dcp_collect.specs.View.{item_of}
use Rattle.law_collect.specs.Laws.{GivesSoFar}
use Rattle.law_collect.proofs.Runs.{given_more, given_all}
use Rattle.report_journal.proofs.lines.skip_ready.Goals as goal

pub past-init : goal.past-init
past-init c = ([], refl)

pub past-preserved : goal.past-preserved
past-preserved c =
    let (items, given) = c.past.invariant in
    let now = c.in-Some.ensures.out.0 in
    let item = item_of c.in-Some._given in
    (items ++ item ∷ [], subst (λ d. GivesSoFar c.args.collector.now (items ++ item ∷ []) d) (sym (c.next.follows.holds-at-none ∙ rw now refl)) (given_more items c.args.collector.now c.past.collector item given now c.in-Some.ensures.out.1))

pub returns : goal.returns
returns c =
    let (items, given) = c.past.invariant in
    let none = c.in_default.ensures.out in
    (items, subst (λ d. CollectorGives c.args.collector.now items d) (sym (c.next.follows.holds-at-none ∙ rw none refl)) (given_all items c.args.collector.now c.past.collector given none))
