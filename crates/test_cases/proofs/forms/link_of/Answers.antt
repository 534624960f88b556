use Rattle.std.proofs.Common.{◌∙◌, sym, subst, [], ◌∷◌, ◌++◌}
use Rattle.drm_links.specs.MemoryLink.{IsUntouchedLink}
use Rattle.test_cases.proofs.Untouched.{brought_untouched}
use Rattle.test_cases.proofs.forms.link_of.Goals as goal
use Rattle.test_cases.proofs.forms.link_of.Goals.{then-len-le-LONGEST_DATAGRAM+in_ok-bring, else-len-le-LONGEST_DATAGRAM}

pub loop-datagram-preserved : goal.loop-datagram-preserved
loop-datagram-preserved c = elim c.if-len-le-LONGEST_DATAGRAM.branch [
  | then-len-le-LONGEST_DATAGRAM+in_ok-bring w ↦ brought_untouched c.loop-datagram.link c.if-len-le-LONGEST_DATAGRAM.link (c.loop-datagram.link.coming ++ w.deref-then-len-le-LONGEST_DATAGRAM.result.now ∷ []) (w.link-is ∙ w.in_ok-bring.ensures.brought) c.loop-datagram.invariant
  | else-len-le-LONGEST_DATAGRAM w ↦ subst IsUntouchedLink (sym w.link-is) c.loop-datagram.invariant
]
