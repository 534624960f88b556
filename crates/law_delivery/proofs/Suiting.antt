-- The packet of a frame carries it.
use Rattle.std.proofs.Common.{ℕ, zero, suc, ◌≡◌, ◌⊎◌, inl, inr, ◌+◌, ◌-◌, ◌*◌, ◌/◌, ◌%◌, ◌^◌, ◌<◌, ◌≤◌, ◌==◌, ◌||◌, eqb, Bool, true, false, cond, List, [], ◌∷◌, map, length, get_or, slice_get, All, Option, Some, refl, sym, ap, subst, ◌∙◌, arith}
use Rattle.std.proofs.lemmas.Bool.{true≢false}
use Rattle.std.proofs.lemmas.List.Elements.{All-head, All-tail}
use Rattle.dcp_af.specs.Packet.{AfPacket}
use Rattle.dcp_collect.specs.Runs.{Packet}
use Rattle.drm_bits.specs.declared.description.MuxDesc.{MuxDesc}
use Rattle.drm_bits.specs.declared.description.Part.{Part}
use Rattle.drm_bits.specs.Description.{IsDescription}
use Rattle.drm_fac.specs.declared.channel.Channel.{Channel}
use Rattle.drm_fac.specs.declared.fac.Fac.{Fac}
use Rattle.drm_mux.specs.Frame.{stream_length as described_length, part_length}
use Rattle.drm_schedule.specs.declared.config.Config.{Config}
use Rattle.drm_schedule.specs.declared.plan.Plan.{Plan}
use Rattle.drm_schedule.specs.declared.stream.Stream.{Stream}
use Rattle.drm_schedule.specs.Ranges.{StreamInLines}
use Rattle.drm_schedule.specs.Sizes.{stream_size}
use Rattle.drm_schedule.specs.Valid.{IsSchedule, is_short, is_hierarchical}
use Rattle.drm_timeline.specs.Description.{description_of, part_of, parts_of}
use Rattle.drm_timeline.specs.FastAccess.{identity_of}
use Rattle.mdi_items.specs.RoundTrip.{Parts, BlockBytes, PartsSuit, SuitsBlock}
use Rattle.mdi_items.proofs.RoundTripLemmas.{written_is_read}
use Rattle.mod_feed.specs.Items.{FrameItem, Frame, CarriesFrame, IsItemOf}
use Rattle.mod_feed.proofs.ItemLemmas.{item_is_one}
use Rattle.drm_timeline.specs.Numbers.{frame_count, sequence_number}
use Rattle.drm_schedule.specs.Contents.{stream_bytes}
use Rattle.drm_server.specs.Frames.{HasBlockWhere, IsFrameAt, IsPacketAt}
use Rattle.drm_server.proofs.StreamLemmas.{is_description}
use Rattle.law_delivery.specs.Given.{IsServed}
use Rattle.law_delivery.proofs.Configurations.{config_is}
use Rattle.drm_server.proofs.PieceLemmas.{stream_length}
use Rattle.law_delivery.proofs.Lengths.{are_long}
use Rattle.law_delivery.proofs.Places.{there_at, length_mapped}
use Rattle.law_delivery.proofs.Seeing.{channel_is}

-- what holds of each element holds of the one at a place
all_at : {X : Type 0} (P : X → Type 0) (xs : List X) (k : ℕ) (x : X) → All P xs → slice_get xs k ≡ Some x → P x
all_at P [] k x all is = absurd cc
all_at P (y ∷ xs) zero x all is = let same : y ≡ x = cc in subst P same (All-head P y xs all)
all_at P (y ∷ xs) (suc k) x all is = all_at P xs k x (All-tail P y xs all) is

mapped_or : {X Y : Type 0} (f : X → Y) (xs : List X) (k : ℕ) (x : X) (other : Y) → slice_get xs k ≡ Some x → get_or (map f xs) k other ≡ f x
mapped_or f [] k x other is = absurd cc
mapped_or f (y ∷ xs) zero x other is = let same : y ≡ x = cc in ap f same
mapped_or f (y ∷ xs) (suc k) x other is = mapped_or f xs k x other is

part_at : (streams : List Stream) (k : ℕ) (s : Stream) (other : Part) → k < 4 → slice_get streams k ≡ Some s → get_or (parts_of streams) k other ≡ part_of (Some s)
part_at streams zero s other lt is = ap part_of is
part_at streams (suc zero) s other lt is = ap part_of is
part_at streams (suc (suc zero)) s other lt is = ap part_of is
part_at streams (suc (suc (suc zero))) s other lt is = ap part_of is
part_at streams (suc (suc (suc (suc k)))) s other lt is = absurd (omega (arith, lt))

-- the parts of a stream that is described are its bytes
described_at : (c : Config) (k : ℕ) (s : Stream) → length c.streams ≤ 4 → k < length c.streams → slice_get c.streams k ≡ Some s → described_length (description_of c) k ≡ stream_size s
described_at c k s few lt is = ap part_length (part_at c.streams k s (record { a = 0; b = 0 }) (omega (arith, few, lt)) is)

flat_channel : (c : Config) (channel : Channel) → is_hierarchical c ≡ false → channel.msc ≡ c.msc → (channel.msc ≡ 1) ⊎ (channel.msc ≡ 2) → ⊥
flat_channel c channel flat same (inl one) =
    let msc : c.msc ≡ 1 = sym same ∙ one in
    let is : is_hierarchical c ≡ true = ap (λ (n : ℕ). eqb n 1 || eqb n 2) msc in true≢false (sym is ∙ flat)
flat_channel c channel flat same (inr two) =
    let msc : c.msc ≡ 2 = sym same ∙ two in
    let is : is_hierarchical c ≡ true = ap (λ (n : ℕ). eqb n 1 || eqb n 2) msc in true≢false (sym is ∙ flat)

first_identity : (t : ℕ) → eqb (t % 3) 0 ≡ true → identity_of (t % 3) ≡ 3
first_identity t is = ap (λ (b : Bool). cond b 3 (t % 3)) is

other_identity : (t : ℕ) → eqb (t % 3) 0 ≡ false → (identity_of (t % 3) ≡ 0) ⊎ (identity_of (t % 3) ≡ 3) → ⊥
other_identity t is first = grind arith

-- the block suits the frame's place
block_suits : (plan : Plan) (t room : ℕ) (fac : Fac) (block : Option BlockBytes) → room < 2 ^ 10 → fac.channel.identity ≡ identity_of (t % 3)
    → HasBlockWhere (t % 3 == 0) plan (t / 3) room block → SuitsBlock fac block
block_suits plan t room fac block few place has = by (t % 3 == 0) refl has
  where
    by : (b : Bool) → (t % 3 == 0) ≡ b → HasBlockWhere b plan (t / 3) room block → SuitsBlock fac block
    by true first (b, is, at) =
        subst (λ (o : Option BlockBytes). SuitsBlock fac o) (sym is)
        (inr (place ∙ first_identity t first), omega (arith, at.bits, few), omega (arith, at.bits, at.size), (at.block, at.spelled))
    by false later is =
        subst (λ (o : Option BlockBytes). SuitsBlock fac o) (sym is)
        (λ first. other_identity t later (subst (λ (n : ℕ). (n ≡ 0) ⊎ (n ≡ 3)) place first))

-- the parts of each frame of a schedule are those of a frame that is read
pub suits : (plan : Plan) (t : ℕ) (parts : Parts) → IsSchedule plan → t < frame_count plan → IsFrameAt plan t parts → PartsSuit parts
suits plan t parts is within frame =
    let c : Config = frame.config in
    let config = config_is plan is (t / 3) c frame.holds in
    let channel = channel_is plan t c parts.fac frame.holds frame.fac in
    let number : ℕ = t - 3 * c.start in
    let long : All (λ (s : Stream). is_short (number + 1) s ≡ false) c.streams = are_long plan t c is within config frame.holds in
    let count : parts.mux.count ≡ length c.streams = ap (λ (d : MuxDesc). d.count) frame.mux in
    let stream : (k : ℕ) → k < parts.mux.count → (s : Stream) × (slice_get c.streams k ≡ Some s) × (length (get_or parts.streams k []) ≡ stream_size s) =
    λ k lt.
    let s = there_at c.streams k (omega (arith, lt, count)) in (
      s.0,
      s.1,
      ap (λ (l : List (List ℕ)). length (get_or l k [])) frame.streams
          ∙ (ap length (mapped_or (stream_bytes number) c.streams k s.0 [] s.1)
          ∙ stream_length number s.0 (all_at (λ (s : Stream). is_short (number + 1) s ≡ false) c.streams k s.0 long s.1)),
    ) in
    record {
      count = omega (arith, frame.count);
      not_hierarchical = flat_channel c parts.fac.channel config.not_hierarchical (ap (λ (k : Channel). k.msc) channel.1);
      description = subst (λ (d : MuxDesc). IsDescription d) (sym frame.mux) (is_description c config.fits);
      block = block_suits plan t c.room parts.fac parts.block config.fits.room_fits (ap (λ (k : Channel). k.identity) channel.1) frame.block;
      all_streams = ap length frame.streams ∙ (length_mapped (stream_bytes number) c.streams ∙ sym count);
      lengths = λ k lt.
          let s = stream k lt in
          s.2 ∙ sym (ap (λ (d : MuxDesc). described_length d k) frame.mux ∙ described_at c k s.0 config.fits.few_streams (omega (arith, lt, count)) s.1);
      few = λ k lt.
          let s = stream k lt in
          let fits : StreamInLines s.0 = all_at StreamInLines c.streams k s.0 config.fits.each_stream s.1 in
          omega (arith, s.2, fits.a_fits, fits.b_fits);
    }

-- an item of a frame's packet is the frame, as the server made it
pub served : (plan : Plan) (t q : ℕ) (packet : List ℕ) (item : FrameItem) → IsSchedule plan → t < frame_count plan → IsPacketAt plan t packet → IsItemOf (Packet q packet) item
    → IsServed plan t q item
served plan t q packet item is within packet_is item_is =
    let read = written_is_read packet_is.parts packet_is.payload (suits plan t packet_is.parts is within packet_is.frame) packet_is.written in
    let af : AfPacket = record { seq = sequence_number plan t; checked = true; minor = 0; payload = packet_is.payload } in
    let carries : CarriesFrame read.frame packet_is.payload packet = (af, packet_is.is, refl, read.is_mdi) in
    record {
      parts = packet_is.parts;
      is_frame = packet_is.frame;
      payload = packet_is.payload;
      written = packet_is.written;
      read = read;
      item_is = item_is_one (Packet q packet) (Frame q read.frame packet_is.payload) item (refl, carries) item_is;
    }
