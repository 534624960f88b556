-- A gateway over a group that a dock opened, and closed again.
use Rattle.std.proofs.Common.{◌≡◌, ◌<◌, ℕ, inr, Bool, true, List, length, replicate, Some, refl, sym, ◌∙◌, ap, subst}
use Rattle.dcp_pft.specs.declared.carry.Carry.{Carry}
use Rattle.drm_links.specs.Known.{Known, KnownThrough}
use Rattle.drm_links.specs.Dock.{DockContents}
use Rattle.drm_links.specs.History.{History, GroupTells}
use Rattle.drm_links.specs.Calls.{is_up}
use Rattle.drm_links.specs.Gathering.{GroupStarts, DockDisbands, after_gathering, after_disbanding}
use Rattle.drm_links.specs.declared.dock.Address.{Address}
use Rattle.drm_links.proofs.KnownLemmas.{Tells-then}
use Rattle.recv_reading.specs.declared.options.ReceiveOptions.{ReceiveOptions}
use Rattle.dcp_collect.specs.CollectorState.{CollectorState}
use Rattle.drm_gate.specs.declared.gate.GateEnded.{GateEnded}
use Rattle.drm_gate.specs.declared.gate.GateOptions.{GateOptions}
use Rattle.drm_gate.specs.Gateway.{rules_of, AllUp}
use Rattle.drm_gate.specs.Run.{GateRun}
use Rattle.cmd_gate.specs.Between.{options_of, passed_of, GateRunsAt, RelaysOverLinks}
use Rattle.cmd_gate.proofs.RunLemmas.{all_at_start}

-- by what it reads
pub rules_same : (c : CollectorState) (options : GateOptions) (rules : ReceiveOptions) → c.window ≡ rules.window → c.reach ≡ rules.reach → c.first ≡ rules.first → options ≡ options_of rules → rules_of c options ≡ rules
rules_same c options rules window reach first is =
    λ i. record (rules_of c (is i)) { window = window i; reach = reach i; first = first i }

-- no link of a new group has failed
pub all_new : (u : List Bool) (n : ℕ) → u ≡ replicate n true → length u ≡ n → AllUp u
all_new u n is many k within = subst (λ (l : List Bool). is_up l k ≡ true) (sym is) (all_at_start n k (subst (λ (m : ℕ). k < m) many within))

-- the group starts as the links stand, and tells what happened until it is closed
abbrev Starts : Address → List Address → Known History → DockContents → DockContents → Type 0
Starts from to known x y = (start : History) × (known.contents ≡ Some start) × GroupStarts (Some from) to x start × (y ≡ after_gathering (Some from) to x)

module _ (rules : ReceiveOptions) (carry : Carry) (from : Address) (to : List Address) (how : GateEnded) (u v : List Bool) (k k' : Known History) where
  runs_at : k.faults ≡ 0 → u ≡ replicate (length to) true → GateRun rules carry u v (λ events. GroupTells events k k') how → (x y z : DockContents) → Starts from to k x y → DockDisbands k' (Some from) to y z → GateRunsAt rules carry from to how x z
  runs_at none up run x y z (start, tells, starts, opened) (end, told, closed) =
      let first : k ≡ record { faults = 0; contents = Some start } = λ i. record { faults = none i; contents = tells i } in
      let last : k' ≡ record { faults = k'.faults; contents = Some end } = λ i. record { faults = k'.faults; contents = told i } in
      record {
        start = start;
        starts = starts;
        up = v;
        end = end;
        faults = k'.faults;
        run =
            subst (λ (s : Known History). GateRun rules carry (replicate (length to) true) v (λ events. GroupTells events (record { faults = 0; contents = Some start }) s) how) last
            (subst (λ (s : Known History). GateRun rules carry (replicate (length to) true) v (λ events. GroupTells events s k') how) first (subst (λ (l : List Bool). GateRun rules carry l v (λ events. GroupTells events k k') how) up run));
        contents = closed ∙ ap (λ (d : DockContents). after_disbanding (Some from) to end.events d) opened;
      }

  pub ran : (a b d : Known DockContents) → k.faults ≡ 0 → u ≡ replicate (length to) true → GateRun rules carry u v (λ events. GroupTells events k k') how → KnownThrough a b (Starts from to k) → KnownThrough b d (DockDisbands k' (Some from) to)
      → KnownThrough a d (RelaysOverLinks rules carry from to (passed_of how))
  ran a b d none up run opened closed =
      Tells-then (Starts from to k) (DockDisbands k' (Some from) to) (RelaysOverLinks rules carry from to (passed_of how)) a b d opened closed
      (λ x y z starts disbands. inr (how, refl, runs_at none up run x y z starts disbands))
