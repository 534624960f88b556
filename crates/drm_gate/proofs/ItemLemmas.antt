-- What becomes of an item.
use Rattle.std.proofs.Common.{◌≡◌, ℕ, ◌≤◌, Bool, false, List, [], length, sym, refl, subst, arith}
use Rattle.dcp_pft.specs.declared.carry.Carry.{Carry}
use Rattle.dcp_pft.specs.Limits.{most_fragments}
use Rattle.dcp_collect.specs.Runs.{CollectorItem, Packet}
use Rattle.drm_links.specs.History.{GroupEvent}
use Rattle.drm_links.specs.Calls.{sends, CallsCome, CallsMake}
use Rattle.drm_links.proofs.CallLemmas.{Come-each_none, Make-none}
use Rattle.dcp_sender.specs.CarriesText.{AreOf}
use Rattle.dcp_sender.specs.Packets.{IsAny, sequence_of}
use Rattle.dcp_sender.specs.OverLinks.{is_large, over_each, SendsPacket}
use Rattle.drm_gate.specs.declared.tally.Tally.{Tally}
use Rattle.drm_gate.specs.Passing.{Outcome, Sent, OutcomeOf, datagrams_of}
use Rattle.drm_gate.specs.Tallies.{plus, tally_one}
use Rattle.drm_gate.specs.Steps.{PassesOne}

-- nothing comes of nothing over each link
pub none_over : (links : ℕ) (u : List Bool) → CallsCome u (over_each links []) [] u
none_over links u = Come-each_none (λ k. sends k []) u (λ i. (refl, refl)) links

-- an item of which nothing is sent
pub unsent : (carry : Carry) (first : ℕ) (item : CollectorItem) (fate : Outcome) (t t' : Tally) (u : List Bool) (P : List GroupEvent → Type 0)
    → OutcomeOf carry first item fate → datagrams_of fate ≡ [] → t' ≡ plus t (tally_one fate) → P [] → PassesOne carry first item t t' u u P
unsent carry first item fate t t' u P becomes none tally nothing = record {
  fate = fate;
  becomes = becomes;
  tally = tally;
  few = subst (λ (l : List (List ℕ)). length l ≤ most_fragments) (sym none) (omega arith);
  made = subst (λ (l : List (List ℕ)). CallsMake (over_each (length u) l) u u P) (sym none) (Make-none (over_each (length u) []) u P (none_over (length u) u) nothing);
}

-- a packet that is sent
pub sent_packet : (carry : Carry) (first index seq n : ℕ) (bytes : List ℕ) (t t' : Tally) (u v : List Bool) (P : List GroupEvent → Type 0)
    → IsAny bytes → is_large carry (length bytes) ≡ false → seq ≡ sequence_of first index → SendsPacket carry seq bytes n u v P → n ≤ most_fragments
    → ((datagrams : List (List ℕ)) → length datagrams ≡ n → t' ≡ plus t (tally_one (Sent datagrams))) → PassesOne carry first (Packet index bytes) t t' u v P
sent_packet carry first index seq n bytes t t' u v P any small is (datagrams, are, many, made) few tally = record {
  fate = Sent datagrams;
  becomes = (any, small, subst (λ (k : ℕ). AreOf carry k bytes datagrams) is are);
  tally = tally datagrams many;
  few = omega (arith, few, many);
  made = made;
}
