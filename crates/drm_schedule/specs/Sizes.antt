-- How many bytes the blocks and the packets of a configuration take.
use Rattle.std.specs.Prelude.{ℕ, ◌≡◌, All, false, ◌+◌, ◌-◌, ◌*◌, ◌%◌, ◌==◌, ◌&&◌, Bool, nat_lt, if◌then◌else◌, List, length, is_some, sum_by}
use Rattle.drm_sdc.specs.declared.entity.Entity.{Entity}
use Rattle.drm_sdc.specs.Writing.{total_size}
use Rattle.drm_schedule.specs.declared.stream.Stream.{Stream}
use Rattle.drm_schedule.specs.declared.timed.Timed.{Timed}
use Rattle.drm_schedule.specs.declared.config.Config.{Config}
use Rattle.drm_schedule.specs.InForce.{entities_in_force}

-- the entity that describes n streams, and that of the clock
abbrev pub description_size : ℕ → ℕ
description_size n = 2 + 3 * n

abbrev pub clock_size : ℕ
clock_size = 5

-- what is told of the streams and with these entities
abbrev pub size_with : Config → List Entity → ℕ
size_with c entities = description_size (length c.streams) + total_size entities

-- what is told in a super frame beside the clock: the streams, and the entities in force
abbrev pub size_in_force : Config → ℕ → ℕ
size_in_force c frame = size_with c (entities_in_force c frame)

-- the clock is told where there is one
abbrev pub size_if : Bool → ℕ
size_if has_clock = if has_clock then clock_size else 0

-- the first block of a configuration tells the clock, and then each fiftieth
abbrev pub tells_clock : Config → ℕ → Bool
tells_clock c frame = is_some c.clock && (frame - c.start) % 50 == 0

-- the bytes that the block of a super frame has left for an announcement
abbrev pub free_bytes : Config → ℕ → ℕ
free_bytes c frame = c.room - (size_in_force c frame + size_if (tells_clock c frame))

-- the streams, these entities and a clock, where there is one, don't fit
abbrev pub has_no_room : Config → Timed → Bool
has_no_room c block = nat_lt c.room (size_with c block.entities + size_if (is_some c.clock))

-- each block has room
abbrev pub HasRoom : Config → Type 0
HasRoom c = All (λ (block : Timed). has_no_room c block ≡ false) c.blocks

-- the bytes of a stream in each frame
abbrev pub stream_size : Stream → ℕ
stream_size s = s.a + s.b

-- an AF packet has a head and a check value of 12 bytes, the items with the front of the description in 62 + 1, three
-- bytes of each stream's description, the item of the block in the first frame of a super frame, and the item of each
-- stream
abbrev pub packet_len : Config → Bool → ℕ
packet_len c is_first =
    12 + 62 + 1 + 3 * length c.streams + (if is_first then c.room + 11 else 0) + sum_by (λ s. 8 + stream_size s) c.streams
