-- A run that reads a capture, by how it ends.
use Rattle.std.proofs.Common.{ℕ, ◌≡◌, ◌⊎◌, inl, inr, Bool, Result, Ok, Err, refl, ap}
use Rattle.capture_reader.specs.declared.fault.CaptureFault.{CaptureFault}
use Rattle.capture_reader.specs.Capture as capture
use Rattle.cmd_faults.specs.declared.fault.Fault.{Fault}
use Rattle.cmd_faults.specs.declared.fault.Fault.TheVariants as faults
use Rattle.cmd_faults.specs.Captures.{EndsEarlyOr, EndsByIt}

-- What holds of each fault that can end it early holds of any that does.
pub each_early : (S : Type 0) (P : Fault → Type 0) → P faults.NoMemory → ((fault : CaptureFault) → P (faults.Capture fault)) → P faults.CaptureTooLong → P faults.Read → P faults.Write
    → (S → (number : ℕ) → P (faults.PacketSize number)) → (fault : Fault) → EndsEarlyOr S fault → P fault
each_early S P memory wrong long read write size faults.NoMemory is = memory
each_early S P memory wrong long read write size (faults.Capture fault) is = wrong fault
each_early S P memory wrong long read write size faults.CaptureTooLong is = long
each_early S P memory wrong long read write size faults.Read is = read
each_early S P memory wrong long read write size faults.Write is = write
each_early S P memory wrong long read write size (faults.PacketSize number) is = size is number
each_early S P memory wrong long read write size (faults.Units fault) is = absurd is
each_early S P memory wrong long read write size faults.Words is = absurd is
each_early S P memory wrong long read write size (faults.FacLength n) is = absurd is
each_early S P memory wrong long read write size faults.FacOver is = absurd is
each_early S P memory wrong long read write size (faults.FacCrc stands computed) is = absurd is
each_early S P memory wrong long read write size (faults.Schedule line reason) is = absurd is
each_early S P memory wrong long read write size (faults.Script line reason) is = absurd is
each_early S P memory wrong long read write size faults.Link is = absurd is

-- ---- by what is wrong behind the packets

pub none_by : (clean : Bool) (why : capture.CaptureEnding) → EndsByIt (Ok clean) why → ⊥
none_by clean capture.End is = is
none_by clean (capture.Fault fault) is = cc
none_by clean capture.TooLong is = cc

pub fault_by : (fault : CaptureFault) (why : capture.CaptureEnding) → EndsByIt (Err (faults.Capture fault)) why → capture.Fault fault ≡ why
fault_by fault capture.End is = absurd is
fault_by fault (capture.Fault other) is = let same : fault ≡ other = cc in ap capture.Fault same
fault_by fault capture.TooLong is = absurd (cc)

pub length_by : (why : capture.CaptureEnding) → EndsByIt (Err faults.CaptureTooLong) why → capture.TooLong ≡ why
length_by capture.End is = absurd is
length_by (capture.Fault other) is = absurd (cc)
length_by capture.TooLong is = refl

-- Where no read and no write failed, nothing is wrong behind the packets and none is too long, it is done unless memory was wanting.
pub done_or : (S : Type 0) (ending : Result Bool Fault) → ((fault : Fault) → ending ≡ Err fault → EndsEarlyOr S fault) → (ending ≡ Err faults.Read → ⊥) → (ending ≡ Err faults.Write → ⊥)
    → ((why : capture.CaptureEnding) → EndsByIt ending why → ⊥) → (S → (number : ℕ) → ending ≡ Err (faults.PacketSize number) → ⊥)
    → (ending ≡ Err faults.NoMemory) ⊎ ((clean : Bool) × (ending ≡ Ok clean))
done_or S (Ok clean) kind no_read no_write none no_size = inr (clean, refl)
done_or S (Err fault) kind no_read no_write none no_size =
    inl (each_early S (λ f. fault ≡ f → (let r : Result Bool Fault = Err fault in r ≡ Err faults.NoMemory)) (λ is. ap Err is) (λ wrong is. absurd (none (capture.Fault wrong) (ap Err is)))
    (λ is. absurd (none capture.TooLong (ap Err is))) (λ is. absurd (no_read (ap Err is))) (λ is. absurd (no_write (ap Err is)))
    (λ s number is. absurd (no_size s number (ap Err is))) fault (kind fault refl) refl)
