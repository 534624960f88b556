-- Openings for receivers: nothing is sent, and the fault by which they end.
use Rattle.std.proofs.Common.{◌≡◌, ℕ, inl, inr, Bool, List, take, Result, Err, sym, ◌∙◌, ap, arith}
use Rattle.drm_links.specs.Known.{RisesWhere, Known, IfBothKnown, KnownThrough}
use Rattle.drm_links.specs.Sink.{Output}
use Rattle.drm_links.specs.Dock.{DockContents, after_failure, after_openings}
use Rattle.drm_links.specs.declared.dock.Address.{Address}
use Rattle.drm_links.proofs.KnownLemmas.{counts_as, counts_then}
use Rattle.drm_links.specs.Gathering.{NothingSent, with_none}
use Rattle.drm_links.proofs.OpeningLemmas.{docks_while, openings_gone}
use Rattle.cmd_faults.specs.declared.fault.Fault.{Fault}
use Rattle.cmd_faults.proofs.CauseLemmas.{inner_fault}
use Rattle.recv_reading.specs.declared.options.ReceiveOptions.{ReceiveOptions}
use Rattle.cmd_receive.specs.Receive.{OpensEach, ReadsBy}
use Rattle.drm_links.proofs.BindLemmas.{none_gone_few, hears_nothing_gone}

-- ---- nothing is sent

opens_gone : {O : Type 0} (rules : ReceiveOptions) (addresses : List Address) (ending : Result Bool Fault) (known : O → Known Output) (out out' : O) (x y : DockContents)
    → OpensEach rules addresses ending known out out' x y → NothingSent x y
opens_gone rules addresses ending known out out' x y (inl hears) = (addresses, hears_nothing_gone (ReadsBy rules addresses ending known out out') addresses x y hears)
opens_gone rules addresses ending known out out' x y (inr (inl (link, few))) = (
  take few.k addresses,
  ap (λ (d : DockContents). d.gone) few.contents
      ∙ (none_gone_few few.k addresses (after_failure (after_openings (take few.k addresses) x)) (let within = few.within in omega (arith, within))
      ∙ ap (with_none (take few.k addresses)) (openings_gone (take few.k addresses) x)),
)
opens_gone rules addresses ending known out out' x y (inr (inr (memory, stops))) = (
  take stops.k addresses,
  ap (λ (d : DockContents). d.gone) stops.contents
      ∙ (none_gone_few stops.k addresses (after_openings (take stops.k addresses) x) stops.within ∙ ap (with_none (take stops.k addresses)) (openings_gone (take stops.k addresses) x)),
)

-- nothing is sent
pub opens_unsent : {O : Type 0} (rules : ReceiveOptions) (addresses : List Address) (ending : Result Bool Fault) (known : O → Known Output) (out out' : O) (a b : Known DockContents)
    → KnownThrough a b (OpensEach rules addresses ending known out out') → IfBothKnown a b NothingSent
opens_unsent rules addresses ending known out out' a b opens =
    docks_while (OpensEach rules addresses ending known out out') NothingSent a b opens (opens_gone rules addresses ending known out out')

-- a call that returned early with the fault of another
pub same_fault_counts : {T U : Type 0} {a b c : ℕ} (x fault : Fault) → b ≡ a → RisesWhere b c ((let e : Result T Fault = Err x in e) ≡ Err fault) → RisesWhere a c ((let e : Result U Fault = Err x in e) ≡ Err fault)
same_fault_counts x fault before counts = counts_then before (counts_as (λ is. ap Err (inner_fault x fault is)) (λ is. ap Err (inner_fault x fault is)) counts)

-- the fault with which a call returned early
pub same_fault : {T F : Type 0} (result : Result T F) (x y fault : F) → result ≡ Err x → x ≡ y → result ≡ Err fault → y ≡ fault
same_fault {T} {F} result x y fault is same returned =
    let both : (let e : Result T F = Err x in e) ≡ Err fault = sym is ∙ returned in
    sym same ∙ cc
