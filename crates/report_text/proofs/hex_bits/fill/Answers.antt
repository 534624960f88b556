use Rattle.std.proofs.Common.{rules, ◌≡◌, ◌*◌, ◌+◌, ◌<◌, ◌≤◌, ◌++◌, ℕ, Bool, suc, List, [], ◌∷◌, length, take, drop, slice_set, sym, ap, ◌∙◌, arith}
use Rattle.std.proofs.lemmas.List.{drop-drop}
use Rattle.std.proofs.Math.Seq.{take-suc-set}
use Rattle.drm_bits.specs.Bits.{value}
use Rattle.report_text.proofs.HexLemmas.{digit_more}
use Rattle.report_text.proofs.hex_bits.fill.Goals as goal

pub loop-i-preserved : goal.loop-i-preserved
loop-i-preserved c =
    let i = c.loop-i.i in
    let d = c.digit.result in
    let digits = c.loop-i.digits in
    let bits = c.args.bits.now in
    let l = c.loop-i.invariant in
    let within : i < length digits = omega (arith, l.long, c.requires.at_once, c.loop-i-test.true) in
    let enough : 4 * (i + 1) ≤ length bits = omega (arith, c.requires.enough, c.loop-i-test.true) in
    let next : i + 1 ≡ suc i = omega arith in
    let four : 4 * i + 4 ≡ 4 * (i + 1) = omega arith in
    let number = c.from.ensures ∙ (c.take_u8.ensures.number ∙ ap (λ (b : List Bool). value (take 4 b)) l.bits) in
    record {
      long = search rules;
      digits =
          ap (λ (k : ℕ). take k (slice_set digits i d)) next
          ∙ (take-suc-set digits i d within
          ∙ (ap (λ (t : List ℕ). t ++ d ∷ []) l.digits ∙ sym (digit_more i c.from.result d bits enough number c.digit.ensures)));
      bits = c.take_u8.ensures.rest ∙ (ap (drop 4) l.bits ∙ (drop-drop 4 (4 * i) bits ∙ ap (λ (k : ℕ). drop k bits) four));
    }
