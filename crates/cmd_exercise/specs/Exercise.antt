-- The exercise of size n: a schedule, what is delivered of it, and the line on its report.
use Rattle.std.specs.Prelude.{ℕ, ◌+◌, ◌*◌, ◌/◌, ◌%◌, ◌==◌, ◌||◌, nat_le, Bool, true, false, if◌then◌else◌, List, [], ◌∷◌, count_by, reverse, codes, decimal, None}
use Rattle.std.specs.List.{concat, flat_map, range_with_len, slice_split, starts_with}
use Rattle.std.specs.Int.{w16, to_be_bytes}
use Rattle.hex.specs.Hex.{encode_lower}
use Rattle.drm_fac.specs.declared.mode.Mode.{Mode}
use Rattle.drm_fac.specs.declared.mode.Mode.TheVariants.{B, C}
use Rattle.drm_fac.specs.declared.service.Service.{Service}
use Rattle.drm_sdc.specs.declared.body.Body.TheVariants.{Audio}
use Rattle.drm_sdc.specs.declared.entity.Entity.{Entity}
use Rattle.dcp_pft.specs.declared.carry.Carry.TheVariants.{Pft}
use Rattle.drm_schedule.specs.declared.timed.Timed.{Timed}
use Rattle.drm_schedule.specs.declared.config.Config.{Config}
use Rattle.drm_schedule.specs.declared.plan.Plan.{Plan}
use Rattle.drm_schedule.specs.declared.stream.Content.TheVariants.{Fill}
use Rattle.drm_schedule.specs.declared.stream.Stream.{Stream}
use Rattle.plan_script.specs.declared.delivery.Delivery.{Delivery}
use Rattle.plan_script.specs.Script.{delivery, fragment_count}

-- one audio service, in one stream of which each byte is the same
abbrev pub services : List Service
services = record { id = 1193046; short = 0; ca = false; language = 5; is_data = false; descriptor = 3; data_ca = false; last = 0 } ∷ []

abbrev pub streams : ℕ → List Stream
streams byte = record { a = 0; b = 300; content = Fill byte } ∷ []

abbrev pub entities : List Entity
entities = record { version = false; body = Audio 0 0 0 true 0 3 false false 0 false [] } ∷ []

abbrev pub blocks : List Timed
blocks = record { from = 0; entities = entities } ∷ []

abbrev pub config : ℕ → ℕ → Mode → Bool → ℕ → Config
config start countdown mode short_depth byte = record {
  start = start;
  countdown = countdown;
  mode = mode;
  occupancy = 3;
  short_depth = short_depth;
  msc = 0;
  qam4 = false;
  prot_a = 0;
  prot_b = 1;
  room = 24;
  services = services;
  streams = streams byte;
  clock = None;
  blocks = blocks;
}

-- from four super frames on there is a reconfiguration in their middle
abbrev pub second_half : ℕ → List Config
second_half n = if nat_le 4 n then config (n / 2) 2 C true 18 ∷ [] else []

abbrev pub configs : ℕ → List Config
configs n = config 0 0 B false 17 ∷ second_half n

-- n super frames, whose sequence numbers and frame counts begin near their ends
abbrev pub plan : ℕ → Plan
plan n = record { carry = Pft 2 1400; seq = 65000; dlfc = 4294967000; length = n; configs = configs n }

-- two fragments of a packet, or one, aren't delivered
abbrev pub is_left_out : ℕ → ℕ → ℕ → ℕ → Bool
is_left_out n packet count i = i == (7 * packet + n) % count || i == (11 * packet + 3 * n) % count

-- the others are, each twice running
abbrev pub twice_unless : Bool → Delivery → List Delivery
twice_unless left_out d = if left_out then [] else d ∷ d ∷ []

-- a packet of so many fragments: they come from the last to the first
unfoldable pub of_packet : ℕ → ℕ → ℕ → List Delivery
of_packet n packet count =
    flat_map (λ i. twice_unless (is_left_out n packet count i) (delivery packet i)) (reverse (range_with_len 0 count))

-- all packets, in their order
unfoldable pub deliveries : ℕ → List Delivery
deliveries n = flat_map (λ packet. of_packet n packet (fragment_count (plan n) packet)) (range_with_len 0 (3 * n))

-- how many lines of a text begin so
abbrev pub begins : List ℕ → List ℕ → Bool
begins front line = starts_with (λ a b. a == b) line front

unfoldable pub lines_with : List ℕ → List ℕ → ℕ
lines_with front text = count_by (begins front) (slice_split (λ byte. byte == 10) text)

-- The line: how many datagrams were delivered, and of how many frames; how many lines of each kind the report has; and the
-- check value of its text.
abbrev pub line : ℕ → ℕ → List ℕ → ℕ → List ℕ
line n delivered report check =
    concat (
    codes "exercise " ∷ decimal n
    ∷ codes " datagrams " ∷ decimal delivered
    ∷ codes " frames " ∷ decimal (3 * n)
    ∷ codes " given " ∷ decimal (lines_with (codes "frame ") report)
    ∷ codes " missing " ∷ decimal (lines_with (codes "missing ") report)
    ∷ codes " bad " ∷ decimal (lines_with (codes "bad ") report)
    ∷ codes " switches " ∷ decimal (lines_with (codes "switch ") report)
    ∷ codes " resumed " ∷ decimal (lines_with (codes "resumed ") report)
    ∷ codes " text " ∷ encode_lower (to_be_bytes w16 check)
    ∷ codes "\n" ∷ []
    )
