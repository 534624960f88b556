-- Deliveries of a schedule: its datagrams, some of them never, some twice, in any order, and foreign datagrams among them.
use Rattle.std.specs.Prelude.{ℕ, ℤ, pos, negsuc, ◌+ℤ◌, ◌*ℤ◌, ◌+◌, ◌<◌, ◌≤◌, ◌≡◌, true, unwrap_or, nat_lt, if◌then◌else◌, List, [], ◌∷◌, Option, Some, None}
use Rattle.std.specs.List.{AllZip}
use Rattle.drm_schedule.specs.declared.plan.Plan.{Plan}
use Rattle.drm_timeline.specs.Numbers.{frame_count, packet_size}
use Rattle.dcp_pft.specs.declared.shape.Shape.{Shape}
use Rattle.dcp_pft.specs.Loss.{size}
use Rattle.dcp_pft.specs.Carrying.{shape_under, losses}
use Rattle.dcp_collect.specs.declared.taken.Field.{Field}
use Rattle.dcp_collect.specs.declared.taken.Field.TheVariants.{Far}
use Rattle.dcp_collect.specs.Reading.{Incoming, Unread, Brings, IsReadAs}
use Rattle.dcp_collect.specs.CollectorState.{is_above}
use Rattle.law_collect.specs.Delivery.{got, number, newer_number, IsWithinSpan, IsFirstPacket}
use Rattle.drm_server.specs.Datagrams.{IsDatagramAt}

-- The datagram is that of the pair (t, i): datagram i of frame t of the schedule.
pub record IsSent (plan : Plan) (pair : ℕ × ℕ) (datagram : List ℕ) : Type 0 where
  pub within : pair.0 < frame_count plan
  pub is : IsDatagramAt plan pair.0 pair.1 datagram

-- a delivery: any pairs, and the datagrams that they stand for
abbrev pub AreSent : Plan → List (ℕ × ℕ) → List (List ℕ) → Type 0
AreSent plan pairs datagrams = AllZip (IsSent plan) pairs datagrams

-- What arrives: the datagram of a pair, or a foreign datagram, which is refused for this cause.
pub data Arrival : Type 0 where
  OfSchedule : (pair : ℕ × ℕ) → Arrival
  Foreign : (cause : Field) → Arrival

-- the datagram can be such a foreign datagram: it can't be read, or it can and is to be far where it arrives
abbrev pub IsForeign : Field → List ℕ → Type 0
IsForeign Far datagram = (incoming : Incoming) × IsReadAs (Brings incoming) datagram
IsForeign cause datagram = IsReadAs (Unread cause) datagram

-- the datagram is what arrives
abbrev pub IsArrival : Plan → Arrival → List ℕ → Type 0
IsArrival plan (OfSchedule pair) datagram = IsSent plan pair datagram
IsArrival plan (Foreign cause) datagram = IsForeign cause datagram

-- the pairs among the arrivals
abbrev pub pairs_in : List Arrival → List (ℕ × ℕ)
pairs_in [] = []
pairs_in (OfSchedule pair ∷ arrivals) = pair ∷ pairs_in arrivals
pairs_in (Foreign cause ∷ arrivals) = pairs_in arrivals

-- The datagram is far where this is the newest number: its packet is at a number that is above it by more than the reach, and by
-- less than 32,768. Numbers count from the base, which has the sequence number `sequence0 + first_frame`.
pub record IsFar (reach sequence0 : ℕ) (first_frame : ℤ) (newest : Option ℕ) (datagram : List ℕ) : Type 0 where
  pub incoming : Incoming
  pub is_read : IsReadAs (Brings incoming) datagram
  pub at : ℕ
  pub turns : ℤ
  pub has_sequence : (pos sequence0 +ℤ first_frame +ℤ pos at) ≡ (pos incoming.sequence +ℤ (turns *ℤ pos 65536))
  pub above : is_above newest reach at ≡ true
  pub below : at < unwrap_or newest 0 + 32768

abbrev pub IsFarIfSo : Field → ℕ → ℕ → ℤ → Option ℕ → List ℕ → Type 0
IsFarIfSo Far reach sequence0 first_frame newest datagram = IsFar reach sequence0 first_frame newest datagram
IsFarIfSo cause reach sequence0 first_frame newest datagram = Unit {0}

-- each foreign datagram that is to be far is so where it arrives
abbrev pub AreFar : ℕ → ℕ → ℤ → Option ℕ → List Arrival → List (List ℕ) → Type 0
AreFar reach sequence0 first_frame newest (OfSchedule pair ∷ arrivals) (datagram ∷ datagrams) =
    AreFar reach sequence0 first_frame (newer_number newest (number first_frame pair)) arrivals datagrams
AreFar reach sequence0 first_frame newest (Foreign cause ∷ arrivals) (datagram ∷ datagrams) =
    IsFarIfSo cause reach sequence0 first_frame newest datagram × AreFar reach sequence0 first_frame newest arrivals datagrams
AreFar reach sequence0 first_frame newest arrivals datagrams = Unit {0}

-- A delivery that a receiver can follow, with any foreign datagrams in it: it counts frames from the base, which has the first sequence
-- number that it was told, or is the frame of the first pair; and no number is 32,768 or more from the newest one before it, or
-- above that one by more than the receiver's reach.
pub record IsDeliveryOf (plan : Plan) (reach : ℕ) (first : Option ℕ) (first_frame : ℤ) (arrivals : List Arrival) (datagrams : List (List ℕ)) : Type 0 where
  pub arrive : AllZip (IsArrival plan) arrivals datagrams
  pub is_first : IsFirstPacket plan.seq first (pairs_in arrivals) first_frame
  pub within_span : IsWithinSpan reach first_frame None (pairs_in arrivals)
  pub far : AreFar reach plan.seq first_frame None arrivals datagrams

-- how the packet of frame t is cut
abbrev pub shape_at : Plan → ℕ → Shape
shape_at plan t = shape_under plan.carry (packet_size plan t)

-- the frame that has number q, where the schedule has such a frame
abbrev pub frame_at : Plan → ℤ → Option ℕ
frame_at plan (pos t) = if nat_lt t (frame_count plan) then Some t else None
frame_at plan (negsuc n) = None

abbrev pub frame_of_number : Plan → ℤ → ℕ → Option ℕ
frame_of_number plan first_frame q = frame_at plan (first_frame +ℤ pos q)

-- Frame number q is in time: before it is closed no more of its datagrams are missing than its packet was cut for.
pub record IsInTime (plan : Plan) (window : ℕ) (first_frame : ℤ) (pairs : List (ℕ × ℕ)) (q : ℕ) : Type 0 where
  pub t : ℕ
  pub is : frame_of_number plan first_frame q ≡ Some t
  pub enough : (shape_at plan t).count ≤ size (shape_at plan t).count (got window first_frame pairs q) + losses plan.carry
