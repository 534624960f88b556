use Rattle.std.proofs.Common.{arith, subst, sym, ℕ, List, ◌++◌, ◌-◌, length, replicate}
use Rattle.rs_erase.specs.Register.{IsRemainder}
use Rattle.rs_erase.proofs.Elements.{elements_of}
use Rattle.rs_erase.proofs.OneWord.{one_parity}
use Rattle.rs_erase.proofs.ShiftRegister.{remainder_is_parity}
use Rattle.rs_erase.proofs.parity.encode.Goals as goal

pub returns-clause-code_word : goal.returns-clause-code_word
returns-clause-code_word c =
    remainder_is_parity c.args.chunk.now c.to_bytes.result c.requires (elements_of c.args.chunk.now (λ i. (c.type_inv.chunk i).fits))
    (omega arith) c.to_bytes.ensures.elements
    (subst (λ (p : List ℕ). IsRemainder (c.args.chunk.now ++ replicate (207 - length c.args.chunk.now) 0) p) (sym c.to_bytes.ensures.value) c.remainder_of.ensures)

pub returns-clause-only : goal.returns-clause-only
returns-clause-only c = λ other h. one_parity c.args.chunk.now c.to_bytes.result other c.requires (returns-clause-code_word c) h
