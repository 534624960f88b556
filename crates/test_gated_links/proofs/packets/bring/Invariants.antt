use Rattle.drm_links.specs.MemoryLink.{IsUntouchedLink}
use Rattle.test_gated_links.proofs.packets.bring.Given as goal

abbrev pub invariant-loop-packet : goal.invariant-loop-packet
invariant-loop-packet l = IsUntouchedLink l.link
