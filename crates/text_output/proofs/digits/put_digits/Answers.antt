use Rattle.std.proofs.Common.{◌≡◌, ◌+◌, ◌-◌, ◌*◌, ◌/◌, ◌++◌, List, ℕ, length, take, drop, refl, ◌∙◌, sym, ap, ap₂, arith}
use Rattle.std.proofs.Math.Seq.{take-add}
use Rattle.std.proofs.lemmas.List.{append-nil, drop_all, length-drop, take_all, take-append-drop}
use Rattle.std.proofs.lemmas.Slice.{drop-put_mid, take-put_mid}
use borrow.Rule.Slice.PartMut.{put_mid}
use Rattle.hex.specs.Hex.{encode_with, encode_lower}
use Rattle.text_output.proofs.TextLemmas.{encode_lower-append}
use Rattle.text_output.proofs.digits.put_digits.Goals as goal

pub loop-i-init : goal.loop-i-init
unfolding encode_with
loop-i-init c = record { long = omega (arith, c.requires); put = refl }

pub loop-i-preserved : goal.loop-i-preserved
loop-i-preserved c =
    let i : ℕ = c.loop-i.i in
    let bytes : List ℕ = c.args.bytes.now in
    record {
      long = omega (arith, c.put_sixteen.ensures.same_length, c.loop-i.invariant.long);
      put =
          ap (λ (n : ℕ). take n c.put_sixteen.new.digits) (let e : 32 * (i + 1) ≡ 2 * (16 * i) + 32 = omega arith in e)
          ∙ (c.put_sixteen.ensures.put
          ∙ (ap (λ l. l ++ encode_lower (take 16 (drop (16 * i) bytes))) (ap (λ (n : ℕ). take n c.loop-i.digits) (let e : 2 * (16 * i) ≡ 32 * i = omega arith in e) ∙ c.loop-i.invariant.put)
          ∙ (sym (encode_lower-append (take (16 * i) bytes) (take 16 (drop (16 * i) bytes)))
          ∙ ap encode_lower (sym (ap (λ (n : ℕ). take n bytes) (let e : 16 * (i + 1) ≡ 16 * i + 16 = omega arith in e) ∙ take-add (16 * i) 16 bytes)))));
    }

pub returns : goal.returns
returns c =
    let bytes : List ℕ = c.args.bytes.now in
    let n : ℕ = length bytes / 16 in
    let digits : List ℕ = c.loop-i.digits in
    let last : List ℕ = c.put_rest.new.digits in
    let at : ℕ = 32 * n in
    let rest : ℕ = length digits - at in
    let behind : List ℕ = take (length bytes - 16 * n) (drop (16 * n) bytes) in
    let all : List ℕ = put_mid at rest digits last in
    let long : length digits ≡ 2 * length bytes = c.loop-i.invariant.long in
    let i_is : c.loop-i.i ≡ n = omega (arith, c.loop-i-test.false, c.loop-i.auto.i-end) in
    let size_last : length last ≡ rest = omega (arith, c.put_rest.auto.digits) in
    let whole : at + rest ≡ length digits = omega (arith, long) in
    sym (take-append-drop (at + rest) all)
    ∙ (ap₂ (λ (p q : List ℕ). p ++ q) (take-put_mid at rest digits last (at + rest) (omega (arith, size_last)) (omega (arith, long)))
    (drop-put_mid at rest digits last (at + rest) (omega arith) (omega (arith, long)) size_last ∙ drop_all (at + rest) digits (omega (arith, whole)))
    ∙ (append-nil (take at digits ++ last)
    ∙ (ap₂ (λ (p q : List ℕ). p ++ q)
    (ap (λ (i : ℕ). take (32 * i) digits) (sym i_is) ∙ (c.loop-i.invariant.put ∙ ap (λ (i : ℕ). encode_lower (take (16 * i) bytes)) i_is))
    (c.put_rest.ensures ∙ ap encode_lower (take_all (length bytes - 16 * n) (drop (16 * n) bytes) (omega (arith, length-drop (16 * n) bytes))))
    ∙ (sym (encode_lower-append (take (16 * n) bytes) (drop (16 * n) bytes))
    ∙ ap encode_lower (take-append-drop (16 * n) bytes)))))
