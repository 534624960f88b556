use Rattle.std.proofs.Common.{◌≡◌, ◌-◌, ◌≤◌, ◌++◌, ℕ, List, length, take, replicate, refl, sym, ◌∙◌, ap, append_assoc, arith}
use Rattle.std.proofs.lemmas.List.{take-replicate}
use Rattle.dcp_pft.specs.Interleaving.{payload_with}
use Rattle.dcp_pft.specs.declared.interleave.TheConstants.{ZEROS}
use Rattle.dcp_pft.proofs.interleave.take_chunk.Goals as goal

zeros_are : (n : ℕ) → n ≤ 255 → take n ZEROS ≡ replicate n 0
zeros_are n few = ap (take n) (let all : ZEROS ≡ replicate 255 0 = refl in all) ∙ take-replicate n 255 0 few

pub returns-clause-written : goal.returns-clause-written
returns-clause-written c = λ rest.
    let chunk : List ℕ = c.args.chunk.now in
    let parity : List ℕ = c.args.parity.now in
    let zeros : List ℕ = replicate (c.args.k - length chunk) 0 in
    let is : take (c.args.k - length chunk) ZEROS ≡ zeros = zeros_are (c.args.k - length chunk) (omega (arith, c.requires.size.1)) in
    c.take_every.ensures.written rest
    ∙ (c.take_every-behind_zeros.ensures.written (parity ++ rest)
    ∙ (ap (λ (l : List ℕ). payload_with c.args.count c.take_every-behind_chunk.result c.take_every-behind_chunk.new.into (l ++ (parity ++ rest))) is
    ∙ (c.take_every-behind_chunk.ensures.written (zeros ++ (parity ++ rest))
    ∙ ap (payload_with c.args.count c.args.from c.args.into.now) (sym (append_assoc (chunk ++ zeros) parity rest ∙ append_assoc chunk zeros (parity ++ rest))))))
