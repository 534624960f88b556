-- The ends of runs that tell of no frames.
use Rattle.std.proofs.Common.{◌≡◌, ℕ, ◌⊎◌, inl, inr, Bool, List, true, false, [], Option, None, Some, Result, Ok, Err, refl, sym, ◌∙◌, ap, subst}
use Rattle.drm_links.specs.Known.{Known, RisesWhere, IfBothKnown, IfBoth}
use Rattle.drm_links.proofs.KnownLemmas.{counts_as}
use Rattle.drm_links.specs.Dock.{DockContents}
use Rattle.drm_links.specs.Gathering.{NothingSent}
use Rattle.cmd_faults.specs.declared.fault.Fault.{Fault}
use Rattle.cmd_faults.specs.declared.fault.Fault.TheVariants as faults
use Rattle.cmd_faults.specs.Lines.{fault_line}
use Rattle.cmd_faults.specs.Fault.{whole_of, done_of, fault_status, ReportsIf, WritesLine}
use Rattle.cmd_faults.proofs.CauseLemmas.{inner_fault}
use Rattle.dcp_pft.specs.declared.carry.Carry.{Carry}
use Rattle.drm_links.specs.Source.{Input}
use Rattle.drm_links.specs.Sink.{Output}
use Rattle.cmd_convert.specs.Run as convert
use Rattle.recv_reading.specs.declared.options.PacketRange.{PacketRange}
use Rattle.drm_links.specs.declared.dock.Address.{Address}
use Rattle.drm_links.specs.declared.link.LinkFault.{LinkFault}
use Rattle.recv_reading.specs.declared.options.ReceiveOptions.{ReceiveOptions}
use Rattle.drm_gate.specs.declared.tally.Tally.{Tally}
use Rattle.cmd_gate.specs.Run.{NoRun, LinksRun, WritesTally}

whole_fault : (done : Result (Unit {0}) Fault) (fault : Fault) → whole_of done ≡ Err fault → done ≡ Err fault
whole_fault (Ok done) fault is = cc
whole_fault (Err other) fault is = let same : other ≡ fault = cc in ap Err same

pub fault_of_whole : (result : Result Bool Fault) (done : Result (Unit {0}) Fault) (fault : Fault) → result ≡ whole_of done → result ≡ Err fault → done ≡ Err fault
fault_of_whole result done fault whole is = whole_fault done fault (sym whole ∙ is)

lacks_none : (done : Result (Unit {0}) Fault) → whole_of done ≡ Ok false → ⊥
lacks_none (Ok done) is = cc
lacks_none (Err fault) is = cc

-- it lacks no frame
pub whole_lacks_none : (result : Result Bool Fault) (done : Result (Unit {0}) Fault) → result ≡ whole_of done → result ≡ Ok false → ⊥
whole_lacks_none result done whole is = lacks_none done (sym whole ∙ is)

-- a count of a run that tells of no frames
pub whole_cause : {a b : ℕ} (result : Result Bool Fault) (done : Result (Unit {0}) Fault) (fault : Fault) → result ≡ whole_of done → RisesWhere a b (done ≡ Err fault) → RisesWhere a b (result ≡ Err fault)
whole_cause result done fault whole cause = counts_as (fault_of_whole result done fault whole) (λ is. whole ∙ ap whole_of is) cause

-- ---- a fault that is known by its status

module _ (code : ℕ) (fault : Fault) (status : code ≡ fault_status fault) (known : Fault) (alone : (other : Fault) → fault_status other ≡ fault_status known → other ≡ known) where
  pub by_status : code ≡ fault_status known → (let ended : Result Bool Fault = Err fault in ended ≡ Err known)
  by_status is = ap Err (alone fault (sym status ∙ is))

  pub to_status : (let ended : Result Bool Fault = Err fault in ended ≡ Err known) → code ≡ fault_status known
  to_status is = status ∙ ap fault_status (inner_fault fault known is)

-- a dock that is left alone
pub dock_still : (a : Known DockContents) → IfBothKnown a a NothingSent
dock_still a = still a.contents
  where
    still : (contents : Option DockContents) → IfBoth contents contents NothingSent
    still None = tt
    still (Some x) = ([], refl)

-- neither want of memory nor a failed write
pub not_else : (fault : Fault) → (fault ≡ faults.NoMemory → ⊥) → (fault ≡ faults.Write → ⊥) → (fault ≡ faults.NoMemory) ⊎ (fault ≡ faults.Write) → ⊥
not_else fault memory write (inl is) = memory is
not_else fault memory write (inr is) = write is

-- a conversion ends neither by its words nor by a link
pub not_convert : (range : PacketRange) (carry : Carry) (ending : Result Bool Fault) (err_ok : Bool) (a b : Known Input) (x y z w : Known Output) → convert.ConvertEnds range carry ending err_ok a b x y z w → ending ≡ Err faults.Words → ⊥
not_convert range carry ending err_ok a b x y z w ends is = let P : Result Bool Fault → Type 0 = λ e. convert.ConvertEnds range carry e err_ok a b x y z w in subst P is ends

pub not_a_link : (range : PacketRange) (carry : Carry) (ending : Result Bool Fault) (err_ok : Bool) (a b : Known Input) (x y z w : Known Output) → convert.ConvertEnds range carry ending err_ok a b x y z w → ending ≡ Err faults.Link → ⊥
not_a_link range carry ending err_ok a b x y z w ends is = let P : Result Bool Fault → Type 0 = λ e. convert.ConvertEnds range carry e err_ok a b x y z w in subst P is ends

-- a gateway ends for want of memory, by a failed link or by a failed write
pub not_gate : (fault : Fault) → (fault ≡ faults.NoMemory → ⊥) → (fault ≡ faults.Link → ⊥) → (fault ≡ faults.Write → ⊥)
    → (fault ≡ faults.NoMemory) ⊎ (fault ≡ faults.Link) ⊎ (fault ≡ faults.Write) → ⊥
not_gate fault memory link write (inl is) = memory is
not_gate fault memory link write (inr (inl is)) = link is
not_gate fault memory link write (inr (inr is)) = write is

-- where memory is wanting it touches nothing
pub no_gate : {D O : Type 0} (rules : ReceiveOptions) (carry : Carry) (from : Address) (to : List Address) (ending : Result Bool Fault) (dock_known : D → Known DockContents) (dock dock' : D)
    (out_known : O → Known Output) (out out' : O) → ending ≡ Err faults.NoMemory
    → NoRun ending dock dock' out out' ⊎ LinksRun rules carry from to ending dock_known dock dock' out_known out out' → (dock' ≡ dock) × (out' ≡ out)
no_gate rules carry from to ending dock_known dock dock' out_known out out' is (inl none) = (none.1, none.2)
no_gate rules carry from to ending dock_known dock dock' out_known out out' is (inr run) = absurd (wrote run.passed run.writes)
  where
    wrote : (passed : Result Tally LinkFault) → WritesTally passed ending out_known out out' → ⊥
    wrote (Ok tally) (inl done) = let both = sym done.0 ∙ is in cc
    wrote (Ok tally) (inr cut) = let both = sym cut.0 ∙ is in cc
    wrote (Err fault) failed = let both = sym failed.0 ∙ is in cc

-- ---- what is written to err behind a command

pub done_reports : {E : Type 0} (err_ok clean : Bool) (known : E → Known Output) (err : E) → ReportsIf err_ok (done_of (Ok clean)) known err err
done_reports true clean known err = refl
done_reports false clean known err = refl

pub fault_reports : {E : Type 0} (err_ok : Bool) (fault : Fault) (known : E → Known Output) (mid new : E) → (err_ok ≡ true → WritesLine (fault_line fault) known mid new) → (err_ok ≡ false → new ≡ mid) → ReportsIf err_ok (done_of (Err fault)) known mid new
fault_reports true fault known mid new wrote still = wrote refl
fault_reports false fault known mid new wrote still = still refl
