use Rattle.std.proofs.Common.{◌∙◌, ◌≡◌, arith, length}
use Rattle.rs_erase.proofs.ShortChunks.{byte_is, is_parity, parity_of}
use Rattle.rs_erase.proofs.short_chunks.has_bytes.Goals as goal

pub returns : goal.returns
returns c = λ yes.
    let few = c.requires.places.few in
    let long : length c.args.chunk.now ≡ 16 = c.told-chunk in
    record {
      parity = parity_of c.args.chunk.now c.args.k;
      code_word = is_parity c.args.chunk.now c.args.k (omega (arith, few)) (omega (arith, few, long)) c.fits-chunk;
      each = λ n lt.
          byte_is c.args.chunk.now c.args.k _ few long (c.requires.places.within n lt) ∙ c.loop-i.invariant n (omega (arith, lt));
    }
