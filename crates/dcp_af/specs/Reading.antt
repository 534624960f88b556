-- A packet as it is given, and its head as the code has it.
use Rattle.std.specs.Prelude.{◌≡◌, ◌≢◌, ◌+◌, ℕ, List, Result, Ok, Err}
use Rattle.std.specs.Int.{w16, from_be_bytes}
use Rattle.dcp_af.specs.declared.fault.AfFault.{AfFault}
use Rattle.dcp_af.specs.declared.fault.AfFault.TheVariants.{Crc}
use Rattle.dcp_af.specs.declared.read.Af.{Af}
use Rattle.dcp_af.specs.declared.head.AfHead.{AfHead}
use Rattle.drm_bits.specs.Crc.{IsCheckOf}
use Rattle.dcp_af.specs.Packet.{AfPacket}
use Rattle.dcp_af.specs.Faults.{described, sequence_number, is_checked, major, minor, kind}

-- the packet that is given
abbrev pub packet_of : Af → AfPacket
packet_of af = record { seq = af.seq; checked = af.checked; minor = af.minor; payload = af.payload.now }

-- the fields of the head of these bytes
pub record IsHeadOf (h : AfHead) (bytes : List ℕ) : Type 0 where
  pub length : h.len + 12 ≡ described bytes
  pub seq : h.seq ≡ sequence_number bytes
  pub checked : h.checked ≡ is_checked bytes
  pub major : h.major ≡ major bytes
  pub minor : h.minor ≡ minor bytes
  pub kind : h.kind ≡ kind bytes

-- The last two bytes have the check value of those in front, or that is the fault.
abbrev pub ComparesCheckValue : Result (Unit {0}) AfFault → List ℕ → List ℕ → Type 0
ComparesCheckValue (Ok _) front check = IsCheckOf front (from_be_bytes w16 check)
ComparesCheckValue (Err (Crc stands computed)) front check = (stands ≡ from_be_bytes w16 check) × IsCheckOf front computed × (stands ≢ computed)
ComparesCheckValue (Err other) front check = ⊥
