-- Links that bring the feeds of a script.
use Rattle.std.proofs.Common.{◌≡◌, ℕ, ◌+◌, ◌<◌, List, [], ◌∷◌, ◌++◌, length, take, get_or, refl, sym, ◌∙◌, ap, subst}
use Rattle.std.proofs.lemmas.List.{take_more}
use Rattle.drm_links.specs.MemoryLink.{LinkState}
use Rattle.drm_schedule.specs.declared.plan.Plan.{Plan}
use Rattle.plan_script.specs.declared.delivery.Delivery.{Delivery}
use Rattle.law_delivery.specs.Sent.{IsSent, AreSent}
use Rattle.cmd_air.specs.Air.{pairs_of}

-- a new link to which these were brought
abbrev pub link_of : List (List ℕ) → LinkState
link_of datagrams = record {
  came = [];
  coming = datagrams;
  failing = [];
  idling = [];
  gone = [];
  waits = [];
  waiting = 0;
  room = 0;
  recvs = 0;
  sends = 0;
  calls = 0;
  faults = 0;
  idles = 0;
}

one_more : (plan : Plan) (pairs : List (ℕ × ℕ)) (datagrams : List (List ℕ)) (pair : ℕ × ℕ) (datagram : List ℕ) → AreSent plan pairs datagrams → IsSent plan pair datagram
    → AreSent plan (pairs ++ pair ∷ []) (datagrams ++ datagram ∷ [])
one_more plan [] [] pair datagram sent is = (is, tt)
one_more plan [] (d ∷ datagrams) pair datagram sent is = absurd sent
one_more plan (p ∷ pairs) [] pair datagram sent is = absurd sent
one_more plan (p ∷ pairs) (d ∷ datagrams) pair datagram sent is = (sent.0, one_more plan pairs datagrams pair datagram sent.1 is)

pairs_behind : (before : List Delivery) (d : Delivery) → pairs_of (before ++ d ∷ []) ≡ pairs_of before ++ (d.packet, d.fragment) ∷ []
pairs_behind [] d = refl
pairs_behind (b ∷ before) d = ap (λ l. (b.packet, b.fragment) ∷ l) (pairs_behind before d)

pub sent_more : (plan : Plan) (deliveries : List Delivery) (i : ℕ) (none : Delivery) (datagrams : List (List ℕ)) (datagram : List ℕ) → i < length deliveries
    → AreSent plan (pairs_of (take i deliveries)) datagrams → IsSent plan ((get_or deliveries i none).packet, (get_or deliveries i none).fragment) datagram
    → AreSent plan (pairs_of (take (i + 1) deliveries)) (datagrams ++ datagram ∷ [])
sent_more plan deliveries i none datagrams datagram within sent is =
    let d : Delivery = get_or deliveries i none in
    subst (λ p. AreSent plan p (datagrams ++ datagram ∷ [])) (sym (ap pairs_of (take_more deliveries i none within) ∙ pairs_behind (take i deliveries) d))
    (one_more plan (pairs_of (take i deliveries)) datagrams (d.packet, d.fragment) datagram sent is)
