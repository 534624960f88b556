use Rattle.std.proofs.Common.{◌≡◌, ℕ, List, [], ◌∷◌, take, sym, subst}
use Rattle.std.proofs.lemmas.List.{take_more, take_all}
use Rattle.drm_bits.specs.Bits.{digits, bits_of}
use Rattle.drm_bits.specs.Crc.{IsCheck, crc16_polynomial}
use Rattle.drm_sdc.proofs.unpack.check_value.Goals as goal

-- what the value is so far
abbrev So : ℕ → List ℕ → Type 0
So run bytes = IsCheck crc16_polynomial (bits_of bytes) (digits 16 run)

pub loop-byte-init : goal.loop-byte-init
loop-byte-init c = c.byte-run.ensures [] c.start.ensures

pub loop-byte-preserved : goal.loop-byte-preserved
loop-byte-preserved c =
    let field : List ℕ = c.args.field.now in
    let i : ℕ = c.loop-byte.byte-index in
    let after = c.byte-run-in-loop-byte.ensures (c.args.afs ∷ take i field) c.loop-byte.invariant in
    subst (λ (l : List ℕ). So c.byte-run-in-loop-byte.result (c.args.afs ∷ l)) (sym (take_more field i 0 c.loop-byte-test.true)) after

pub returns-clause-only : goal.returns-clause-only
returns-clause-only c = λ n below is.
    let field : List ℕ = c.args.field.now in
    let all : take c.loop-byte.byte-index field ≡ field = take_all c.loop-byte.byte-index field c.loop-byte-test.false in
    c.value.ensures.only (c.args.afs ∷ field) (subst (λ (l : List ℕ). So c.loop-byte.run (c.args.afs ∷ l)) all c.loop-byte.invariant) n below is
