use Rattle.std.proofs.Common.{◌≡◌, ℕ, List, ◌+◌, ◌-◌, ◌%◌, ◌≤◌, length, get_or, arith, sym, ◌∙◌, ap}
use Rattle.drm_bits.specs.declared.description.Part.{Part}
use Rattle.std.proofs.Math.Nat.{mod-eq_of_lt}
use Rattle.drm_bits.proofs.PartLemmas.{no_part}
use Rattle.drm_mux.proofs.RangeLemmas.{covers, range_a, range_b}
use Rattle.drm_mux.proofs.streams.range.Goals as goal

pub returns-then-index-lt4-clause-range : goal.returns-then-index-lt4-clause-range
returns-then-index-lt4-clause-range c =
    let size : length c.args.spans.now.at ≡ 4 = omega arith in
    let k : c.args.index % 4 ≡ c.args.index = mod-eq_of_lt c.if-index-lt4.true in
    let parts : List Part = c.args.desc.now.parts in
    let places : List ℕ = c.args.spans.now.at in
    let a : c.from-a.result ≡ (get_or parts c.args.index no_part).a = c.from-a.ensures ∙ ap (λ i. (get_or parts i no_part).a) k in
    ap (λ i. (get_or places i 0, c.from-a.result)) k
    ∙ (ap (λ n. (get_or places c.args.index 0, n)) a ∙ sym (range_a c.args.desc.now c.args.spans.now c.args.index c.requires.streams.description.size size c.if-index-lt4.true))

pub returns-then-index-lt4-clause-inside : goal.returns-then-index-lt4-clause-inside
returns-then-index-lt4-clause-inside c = λ end inside.
    omega (arith, c.from-a.ensures, covers c.args.desc.now c.args.spans.now c.requires.streams.description c.requires.streams.lengths (c.args.index % 4) (omega arith), inside (c.args.index % 4) (omega arith))

pub returns-else-index-lt4-clause-range : goal.returns-else-index-lt4-clause-range
returns-else-index-lt4-clause-range c =
    let size : length c.args.spans.now.at ≡ 4 = omega arith in
    let above : 4 ≤ c.args.index = c.if-index-lt4.false in
    let k : c.args.index % 4 ≡ c.args.index - 4 = omega arith in
    let parts : List Part = c.args.desc.now.parts in
    let places : List ℕ = c.args.spans.now.at in
    let a : c.from-a.result ≡ (get_or parts (c.args.index - 4) no_part).a = c.from-a.ensures ∙ ap (λ i. (get_or parts i no_part).a) k in
    let b : c.from.result ≡ (get_or parts (c.args.index - 4) no_part).b = c.from.ensures ∙ ap (λ i. (get_or parts i no_part).b) k in
    ap (λ i. (get_or places i 0 + c.from-a.result, c.from.result)) k
    ∙ (ap (λ n. (get_or places (c.args.index - 4) 0 + n, c.from.result)) a
    ∙ (ap (λ n. (get_or places (c.args.index - 4) 0 + (get_or parts (c.args.index - 4) no_part).a, n)) b
    ∙ sym (range_b c.args.desc.now c.args.spans.now c.args.index c.requires.streams.description.size size above c.requires.index)))

pub returns-else-index-lt4-clause-inside : goal.returns-else-index-lt4-clause-inside
returns-else-index-lt4-clause-inside c = λ end inside.
    omega (arith, c.from-a.ensures, c.from.ensures, covers c.args.desc.now c.args.spans.now c.requires.streams.description c.requires.streams.lengths (c.args.index % 4) (omega arith), inside (c.args.index % 4) (omega arith))
