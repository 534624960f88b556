use Rattle.std.proofs.Common.{List, ℕ, sym, subst}
use Rattle.rs_erase.specs.Code.{IsCodeWord, word_of}
use Rattle.drm_bits.proofs.PutLemmas.{put_there}
use Rattle.dcp_pft.proofs.coding.code_chunk.Goals as goal

pub returns-clause-code_word : goal.returns-clause-code_word
returns-clause-code_word c =
    let there = put_there c.args.parity.now c.encode.new.parity c.put_at.new.into c.args.at 48 c.requires.room c.encode.array_long c.put_at.ensures.put in
    subst (λ (l : List ℕ). IsCodeWord (word_of c.args.chunk.now l)) (sym there) c.encode.ensures.code_word
