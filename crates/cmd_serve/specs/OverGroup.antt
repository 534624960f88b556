-- A run over a group of links that was opened.
use Rattle.std.specs.Prelude.{ℕ, ◌⊎◌, Bool, List, length, Result}
use Rattle.drm_links.specs.Known.{Known}
use Rattle.drm_links.specs.Shelf.{Files}
use Rattle.drm_links.specs.Source.{Input}
use Rattle.drm_links.specs.History.{GroupEvent, History, GroupTells}
use Rattle.drm_schedule.specs.declared.live.Live.{Live}
use Rattle.drm_server.specs.declared.stretch.Stretch.{Stretch}
use Rattle.cmd_faults.specs.Fault.{done_of}
use Rattle.cmd_faults.specs.declared.fault.Fault.{Fault}
use Rattle.cmd_serve.specs.Send.{RunOver}
use Rattle.cmd_serve.specs.Live.{FedRun, BrokenOver}

-- just that happened
abbrev pub GroupComes : List Bool → List Bool → Known History → Known History → (List Bool → List GroupEvent → List Bool → Type 0) → Type 0
GroupComes up up' before after Comes = (events : List GroupEvent) × Comes up events up' × GroupTells events before after

abbrev pub OverGroup : {S : Type 0} → List ℕ → ℕ → Stretch → Live → Result Bool Fault → (S → Known Files) → S → S → Known Input → Known Input → List Bool → List Bool → Known History → Known History → Type 0
OverGroup name pace stretch live ending shelf_known shelf shelf' input input' up up' before after =
    FedRun name live stretch ending shelf_known shelf shelf' input input'
    (λ reading. RunOver reading pace stretch (done_of ending) shelf_known shelf shelf' (length up) up' (GroupComes up up' before after))
    ⊎ BrokenOver name pace stretch live ending shelf_known shelf shelf' input input' (length up) up' (GroupComes up up' before after)
