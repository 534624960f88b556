-- What a configuration asks of its channel.
use Rattle.std.specs.Prelude.{◌<◌, ◌≤◌, length, All, sum_by}
use Rattle.drm_schedule.specs.declared.stream.Stream.{Stream}
use Rattle.drm_schedule.specs.declared.config.Config.{Config}
use Rattle.drm_schedule.specs.Ranges.{StreamInLines}
use Rattle.drm_channel.specs.declared.setup.Setup.{Setup}
use Rattle.drm_channel.specs.declared.usage.Usage.{Usage}
use Rattle.drm_channel.specs.Codes.{HasOccupancy, IsPlainCode, signal_of, constellation_of, protection_of, sdc_mode_of}
use Rattle.drm_channel.specs.Usage.{usage_of}

-- There is a channel of its mode and its occupancy, its MSC isn't hierarchical, and its numbers are those of lines. So it is with each
-- configuration of a schedule.
pub record HasChannel (c : Config) : Type 0 where
  pub occupancy : HasOccupancy c.mode c.occupancy
  pub plain : IsPlainCode c.msc
  pub prot_a_fits : c.prot_a < 4
  pub prot_b_fits : c.prot_b < 4
  pub few_streams : length c.streams ≤ 4
  pub each_stream : All StreamInLines c.streams

-- the parts have the bytes of all streams, and an SDC block has the room of the configuration
abbrev pub setup_of : Config → Setup
setup_of c = record {
  signal = signal_of c.mode c.occupancy;
  constellation = constellation_of c.msc;
  part_a = record { protection = protection_of c.prot_a; bytes = sum_by (λ (s : Stream). s.a) c.streams };
  part_b = record { protection = protection_of c.prot_b; bytes = sum_by (λ (s : Stream). s.b) c.streams };
  sdc_mode = sdc_mode_of c.qam4;
  sdc = c.room;
}

-- what it uses of it
abbrev pub used_by : Config → Usage
used_by c = usage_of (setup_of c)
