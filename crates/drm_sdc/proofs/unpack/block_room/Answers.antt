use Rattle.std.proofs.Common.{◌≡◌, ◌⊎◌, inl, inr, ℕ, ◌+◌, ◌*◌, ◌%◌, sym, ◌∙◌, arith, List, Bool, length, take}
use Rattle.drm_bits.specs.Bits.{bits_of}
use Rattle.drm_sdc.proofs.Frames.{length-value}
use Rattle.drm_sdc.proofs.unpack.block_room.Goals as goal

pub returns-in_default-clause-fault : goal.returns-in_default-clause-fault
returns-in_default-clause-fault c = (sym (length-value c.args.value.now c.args.bits c.requires), c.in_default.ensures.none)

first_form_only : (all : List Bool) (n d : ℕ) → length all ≡ n → (n % 8 ≡ 0 → ⊥) → (n ≡ 8 * d + 20) ⊎ (n ≡ 8 * d + 24) → length all ≡ 8 * d + 20
first_form_only all n d is odd (inl e) = is ∙ e
first_form_only all n d is odd (inr e) = absurd (odd (omega (arith, e)))

pub returns-else-bits-eq0-clause-open : goal.returns-else-bits-eq0-clause-open
returns-else-bits-eq0-clause-open c =
    let all : List Bool = take c.args.bits (bits_of c.args.value.now) in
    record {
      few = c.in-Some.ensures.found.0;
      form = inl (first_form_only all c.args.bits c.in-Some.room (length-value c.args.value.now c.args.bits c.requires) c.if-bits-eq0.false c.in-Some.ensures.found.1);
    }
