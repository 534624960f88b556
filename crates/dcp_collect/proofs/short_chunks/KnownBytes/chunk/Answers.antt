use Rattle.std.proofs.Common.{◌≡◌, ◌+◌, ◌<◌, arith, length, sym, subst, take}
use Rattle.std.proofs.lemmas.List.{get_or-take, length-take-le}
use Rattle.dcp_collect.proofs.short_chunks.KnownBytes.chunk.Goals as goal

pub find_chunk-requires-clause-places : goal.find_chunk-requires-clause-places
find_chunk-requires-clause-places c =
    let known = c.args.self.now in
    record {
      few = c.requires.short;
      within = λ i lt.
          let few = c.requires.places.few in
          let room = c.requires.places.room in
          let all : length (take known.len known.places) ≡ known.len = length-take-le known.len known.places (omega (arith, few, room)) in
          let inside : i < known.len = omega (arith, all, lt) in
          subst (λ b. b < c.args.k + 48) (sym (get_or-take known.len known.places i 0 inside)) (c.requires.places.within i inside);
    }
