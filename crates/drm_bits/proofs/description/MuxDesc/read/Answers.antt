use Rattle.std.proofs.Common.{rules, ◌≡◌, ℕ, suc, ◌+◌, ◌-◌, ◌<◌, ◌^◌, ◌∷◌, [], ◌++◌, List, Bool, length, take, drop, replicate, arith, refl, sym, subst, ◌∙◌, ap, append_assoc}
use Rattle.std.proofs.Math.Nat.{sub-zero}
use Rattle.std.proofs.Math.ListN.{set, length-set}
use Rattle.std.proofs.lemmas.List.{append-nil, take_more_set, drop-set-lt, drop-drop, take-append-drop}
use Rattle.std.proofs.lemmas.List.Elements.{All-set}
use Rattle.drm_bits.specs.Bits.{front}
use Rattle.drm_bits.specs.Fields.{AreFields}
use Rattle.drm_bits.specs.Description.{description_fields, parts_from, description_from}
use Rattle.drm_bits.specs.declared.description.Part.{Part}
use Rattle.drm_bits.specs.declared.description.MuxDesc.{MuxDesc}
use Rattle.drm_bits.proofs.PartLemmas.{description_made}
use Rattle.drm_bits.proofs.description.MuxDesc.read.Goals as goal

step : (parts : List Part) (bits next : List Bool) (p : Part) (k n : ℕ) → k < length parts → k < n → p ≡ record { a = front 12 bits; b = front 12 (drop 12 bits) } → next ≡ drop 12 (drop 12 bits)
    → take (k + 1) (set parts k p) ++ parts_from (n - (k + 1)) next ≡ take k parts ++ parts_from (n - k) bits
step parts bits next p k n within below is_p is_next =
    let more : n - k ≡ suc (n - (k + 1)) = omega arith in
    ap (λ l. l ++ parts_from (n - (k + 1)) next) (take_more_set parts k p within)
    ∙ (append_assoc (take k parts) (p ∷ []) (parts_from (n - (k + 1)) next)
    ∙ (ap (λ q. take k parts ++ (q ∷ parts_from (n - (k + 1)) next)) is_p
    ∙ (ap (λ l. take k parts ++ (record { a = front 12 bits; b = front 12 (drop 12 bits) } ∷ parts_from (n - (k + 1)) l)) is_next
    ∙ ap (λ m. take k parts ++ parts_from m bits) (sym more))))

left : (parts : List Part) (p : Part) (k n : ℕ) → k < n → drop k parts ≡ replicate (n - k) (record { a = 0; b = 0 }) → drop (k + 1) (set parts k p) ≡ replicate (n - (k + 1)) (record { a = 0; b = 0 })
left parts p k n within is =
    let fewer : n - k ≡ suc (n - (k + 1)) = omega arith in
    drop-set-lt (k + 1) parts k p (omega arith)
    ∙ (sym (drop-drop 1 k parts) ∙ (ap (drop 1) is ∙ ap (λ m. drop 1 (replicate m (record { a = 0; b = 0 }))) fewer))

pub loop-k-init : goal.loop-k-init
loop-k-init c =
    record {
      size = refl;
      parts = ap (λ m. parts_from m c.take_u8-prot_b.new.self) (sub-zero c.from-k-end.result);
      rest = refl;
      left = omega arith;
      fits = search rules;
    }

pub loop-k-preserved : goal.loop-k-preserved
loop-k-preserved c =
    let k : ℕ = c.loop-k.k in
    let within : k < length c.loop-k.parts = omega (arith, c.loop-k.invariant.size, c.loop-k-test.true, c.from-k-end.ensures, c.requires.within_limit) in
    let below : k < 4 = omega (arith, c.loop-k.invariant.size) in
    record {
      size = length-set c.loop-k.parts k c.read_part.result ∙ c.loop-k.invariant.size;
      parts = step c.loop-k.parts c.loop-k.bits c.read_part.new.bits c.read_part.result k c.from-k-end.result within c.loop-k-test.true c.read_part.ensures.part c.read_part.ensures.rest ∙ c.loop-k.invariant.parts;
      rest = left c.loop-k.parts c.read_part.result k 4 below c.loop-k.invariant.rest;
      left = omega (arith, c.loop-k.invariant.left, c.read_part.ensures.remaining);
      fits = All-set (λ (p : Part). (p.a < 2 ^ 12) × (p.b < 2 ^ 12)) c.loop-k.parts k c.read_part.result c.read_part.ensures.fits c.loop-k.invariant.fits;
    }

-- what was read stands there
parts_read : (c : goal.After-loop-k) → c.loop-k.parts ≡ parts_from c.args.count (drop 2 (drop 2 c.args.bits.now)) ++ replicate (4 - c.args.count) (record { a = 0; b = 0 })
parts_read c =
    let n : ℕ = c.from-k-end.result in
    let all : c.loop-k.k ≡ n = omega (arith, c.loop-k.auto.k-end, c.loop-k-test.false) in
    let is : n ≡ c.args.count = c.from-k-end.ensures in
    let empty : n - c.loop-k.k ≡ 0 = omega arith in
    let start : c.take_u8-prot_b.new.self ≡ drop 2 (drop 2 c.args.bits.now) = c.take_u8-prot_b.ensures.rest ∙ ap (drop 2) c.take_u8-prot_a.ensures.rest in
    let done : take c.loop-k.k c.loop-k.parts ≡ parts_from n c.take_u8-prot_b.new.self =
    sym (append-nil (take c.loop-k.k c.loop-k.parts)) ∙ (ap (λ m. take c.loop-k.k c.loop-k.parts ++ parts_from m c.loop-k.bits) (sym empty) ∙ c.loop-k.invariant.parts) in
    sym (take-append-drop c.loop-k.k c.loop-k.parts)
    ∙ (ap (λ l. l ++ drop c.loop-k.k c.loop-k.parts) done
    ∙ (ap (λ l. parts_from n c.take_u8-prot_b.new.self ++ l) c.loop-k.invariant.rest
    ∙ (ap (λ m. parts_from n c.take_u8-prot_b.new.self ++ replicate (4 - m) (record { a = 0; b = 0 })) all
    ∙ (ap (λ m. parts_from m c.take_u8-prot_b.new.self ++ replicate (4 - m) (record { a = 0; b = 0 })) is
    ∙ ap (λ l. parts_from c.args.count l ++ replicate (4 - c.args.count) (record { a = 0; b = 0 })) start))))

read : (c : goal.After-loop-k) → record { prot_a = c.take_u8-prot_a.result; prot_b = c.take_u8-prot_b.result; count = c.args.count; parts = c.loop-k.parts } ≡ description_from c.args.count c.args.bits.now
read c = cc (parts_read c, c.take_u8-prot_a.ensures.number, c.take_u8-prot_b.ensures.number ∙ ap (front 2) c.take_u8-prot_a.ensures.rest)

pub returns-clause-is : goal.returns-clause-is
returns-clause-is c = read c

pub returns-clause-fields : goal.returns-clause-fields
returns-clause-fields c = λ size.
    let P : MuxDesc → Type 0 = λ d. AreFields (description_fields d) c.args.bits.now in
    subst P (sym (read c)) (description_made c.args.count c.args.bits.now c.requires.within_limit size)
