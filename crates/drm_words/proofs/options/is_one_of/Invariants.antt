use Rattle.std.proofs.Common.{◌≡◌, map, drop}
use Rattle.drm_words.specs.Asking.{is_one_of}
use Rattle.drm_words.proofs.options.is_one_of.Given as goal

abbrev pub invariant-loop-known : goal.invariant-loop-known
invariant-loop-known l =
    is_one_of (map (λ known. known.now) l.names) l.name ≡ is_one_of (map (λ known. known.now) (drop l.known-index l.names)) l.name
