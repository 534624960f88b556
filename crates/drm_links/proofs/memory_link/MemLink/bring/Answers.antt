use Rattle.std.proofs.Common.{◌≡◌, ℕ, List, [], ◌∷◌, ◌++◌, map, vec_len, ◌∙◌, ap}
use Rattle.drm_links.specs.declared.memory_link.LinkHeard.{LinkHeard}
use Rattle.drm_links.specs.MemoryLink.{LinkState}
use Rattle.drm_links.proofs.LinkLemmas.{bring_known}
use Rattle.drm_links.proofs.memory_link.MemLink.bring.Goals as goal

pub returns-clause-tells : goal.returns-clause-tells
returns-clause-tells c =
    let with_fields : List (ℕ × List ℕ) → List (List ℕ) → LinkState =
    λ came coming. record {
      came = came;
      coming = coming;
      failing = c.self.inside.failing.items;
      idling = c.self.inside.idling.items;
      gone = c.self.inside.gone.items;
      waits = c.self.inside.waits.items;
      waiting = c.self.inside.waiting;
      room = vec_len c.self.inside.spare;
      recvs = c.self.inside.recvs;
      sends = c.self.inside.sends;
      calls = c.self.inside.calls;
      faults = c.self.inside.faults;
      idles = c.self.inside.idles;
    } in
    let heard : LinkHeard → ℕ × List ℕ = λ h. (h.recv, h.bytes) in
    let after : LinkState = with_fields (map heard c.reserve.new.self.items) c.push_back.new.self.items in
    let coming_is : c.push_back.new.self.items ≡ c.self.inside.coming.items ++ c.args.datagram.now ∷ [] =
    ◌∙◌ {A = List (List ℕ)} c.in-Ok.ensures.items (ap (λ bytes. c.self.inside.coming.items ++ bytes ∷ []) c.in_ok-bytes.ensures) in
    rw (← c.self.view_is)
    (bring_known (with_fields (map heard c.self.inside.came.items) c.self.inside.coming.items) after c.args.datagram.now
    (λ i. with_fields (map heard (c.reserve.ensures.items i)) (coming_is i)))
