-- What is found at the front of bytes of which the first ones are looked at.
use Rattle.std.specs.Prelude.{ℕ, ◌≡◌, List, length, take, nat_lt, if◌then◌else◌}
use Rattle.dcp_pft.specs.declared.fault.PftFault.{PftFault}
use Rattle.dcp_pft.specs.declared.fault.PftFault.TheVariants as refused
use Rattle.capture_reader.specs.declared.fault.CaptureField.TheVariants.{HeadCrc, HeadCut, BodyCut}
use Rattle.capture_reader.specs.declared.look.BytesFront.{BytesFront}
use Rattle.capture_reader.specs.declared.look.BytesFront.TheVariants as found
use Rattle.capture_reader.specs.Front.{Front, Packet, Wrong, Cut}

-- the front that is found
abbrev pub front_of : BytesFront → Front
front_of (found.Packet n) = Packet n
front_of (found.Wrong field) = Wrong field
front_of (found.Cut field) = Cut field

-- the head has the first 20 of so many bytes, as many as there are
pub record IsFrontPart (head : List ℕ) (count : ℕ) (bytes : List ℕ) : Type 0 where
  pub front : head ≡ take 20 bytes
  pub size : count ≡ length bytes

-- the front where a packet of so many bytes is described and so many stand there
abbrev pub front_within : ℕ → ℕ → Front
front_within size count = if nat_lt count size then Cut BodyCut else Packet size

-- what is found where a header of a fragment is refused: its check value, or else that it is cut
abbrev pub found_by : PftFault → BytesFront
found_by refused.HeadCrc = found.Wrong HeadCrc
found_by other = found.Cut HeadCut
