-- What a gateway does with an item.
use Rattle.std.specs.Prelude.{ℕ, ◌≡◌, ◌≤◌, Bool, List, length}
use Rattle.dcp_pft.specs.declared.carry.Carry.{Carry}
use Rattle.dcp_pft.specs.Limits.{most_fragments}
use Rattle.dcp_collect.specs.CollectorState.{CollectorState}
use Rattle.dcp_collect.specs.Runs.{CollectorItem, IsItem}
use Rattle.drm_links.specs.History.{GroupEvent}
use Rattle.drm_links.specs.Calls.{CallsMake}
use Rattle.dcp_sender.specs.OverLinks.{over_each}
use Rattle.recv_reading.specs.First.{first_of}
use Rattle.drm_gate.specs.declared.tally.Tally.{Tally}
use Rattle.drm_gate.specs.Passing.{Outcome, OutcomeOf, datagrams_of}
use Rattle.drm_gate.specs.Tallies.{plus, tally_one}

-- It was sent over each link, if it can be, and counted.
pub record PassesOne (carry : Carry) (first : ℕ) (item : CollectorItem) (t t' : Tally) (up up' : List Bool) (Happened : List GroupEvent → Type 0) : Type 0 where
  pub fate : Outcome
  pub becomes : OutcomeOf carry first item fate
  pub tally : t' ≡ plus t (tally_one fate)
  pub few : length (datagrams_of fate) ≤ most_fragments
  pub made : CallsMake (over_each (length up) (datagrams_of fate)) up up' Happened

-- The next item of a collector was.
pub record PassesNext (carry : Carry) (c : CollectorState) (t t' : Tally) (up up' : List Bool) (Happened : List GroupEvent → Type 0) : Type 0 where
  pub item : CollectorItem
  pub is : IsItem c item
  pub one : PassesOne carry (first_of c) item t t' up up' Happened
