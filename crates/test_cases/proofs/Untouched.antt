-- Bringing a datagram is no call of a link.
use Rattle.std.proofs.Common.{◌≡◌, ℕ, List, sym, subst}
use Rattle.drm_links.specs.MemoryLink.{LinkState, IsUntouchedLink}

pub brought_untouched : (before after : LinkState) (coming : List (List ℕ)) → after ≡ record before { coming = coming } → IsUntouchedLink before → IsUntouchedLink after
brought_untouched before after coming is untouched = subst IsUntouchedLink (sym is) brought
  where
    brought : IsUntouchedLink (record before { coming = coming })
    brought = record {
      came = untouched.came;
      gone = untouched.gone;
      waits = untouched.waits;
      waiting = untouched.waiting;
      recvs = untouched.recvs;
      sends = untouched.sends;
      calls = untouched.calls;
      faults = untouched.faults;
      idles = untouched.idles;
    }
