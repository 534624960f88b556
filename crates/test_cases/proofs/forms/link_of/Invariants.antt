use Rattle.drm_links.specs.MemoryLink.{IsUntouchedLink}
use Rattle.test_cases.proofs.forms.link_of.Given as goal

abbrev pub invariant-loop-datagram : goal.invariant-loop-datagram
invariant-loop-datagram l = IsUntouchedLink l.link
