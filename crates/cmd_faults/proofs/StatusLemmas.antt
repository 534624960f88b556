-- The status of a fault, and the fault of a status.
use Rattle.std.proofs.Common.{ℕ, ◌≡◌, ◌⊎◌, inl, inr, Option, Some, None, refl, sym, ◌∙◌, ap}
use Rattle.std.specs.Prelude.{◌==◌, if◌then◌else◌}
use Rattle.cmd_faults.specs.declared.fault.Fault.{Fault}
use Rattle.cmd_faults.specs.declared.fault.Fault.TheVariants.{NoMemory, Words, FacLength, FacOver, FacCrc, Schedule, Script, Capture, CaptureTooLong, PacketSize, Units, Read, Write, Link}
use Rattle.cmd_faults.specs.Fault.{fault_status}

-- the one fault that has this status, if there is just one
abbrev only_fault : ℕ → Option Fault
only_fault n =
    if n == 1 then Some NoMemory
    else if n == 2 then Some Words
    else if n == 4 then Some Read
    else if n == 5 then Some Write
    else if n == 6 then Some Link
    else None

abbrev IsOnly : Fault → Type 0
IsOnly fault = (only_fault (fault_status fault) ≡ Some fault) ⊎ (only_fault (fault_status fault) ≡ None)

is_only : (fault : Fault) → IsOnly fault
is_only NoMemory = inl refl
is_only Words = inl refl
is_only (FacLength n) = inr refl
is_only FacOver = inr refl
is_only (FacCrc s c) = inr refl
is_only (Schedule l r) = inr refl
is_only (Script l r) = inr refl
is_only (Capture f) = inr refl
is_only CaptureTooLong = inr refl
is_only (PacketSize p) = inr refl
is_only (Units f) = inr refl
is_only Read = inl refl
is_only Write = inl refl
is_only Link = inl refl

of_status : (fault other : Fault) (status : ℕ) → only_fault status ≡ Some other → fault_status fault ≡ status → fault ≡ other
of_status fault other status one is =
    let same : only_fault (fault_status fault) ≡ Some other = ap only_fault is ∙ one in
    elim (is_only fault) [
      | inl some ↦ (let both : Some fault ≡ Some other = sym some ∙ same in cc)
      | inr none ↦ absurd (let both : Some other ≡ None = sym same ∙ none in cc)
    ]

pub one_is_memory : (fault : Fault) → fault_status fault ≡ 1 → fault ≡ NoMemory
one_is_memory fault is = of_status fault NoMemory 1 refl is

pub two_is_words : (fault : Fault) → fault_status fault ≡ 2 → fault ≡ Words
two_is_words fault is = of_status fault Words 2 refl is

pub four_is_read : (fault : Fault) → fault_status fault ≡ 4 → fault ≡ Read
four_is_read fault is = of_status fault Read 4 refl is

pub five_is_write : (fault : Fault) → fault_status fault ≡ 5 → fault ≡ Write
five_is_write fault is = of_status fault Write 5 refl is

pub six_is_link : (fault : Fault) → fault_status fault ≡ 6 → fault ≡ Link
six_is_link fault is = of_status fault Link 6 refl is
