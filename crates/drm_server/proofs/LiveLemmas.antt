-- A frame of a schedule whose live streams have bytes that came: it depends on what came for this frame alone.
use Rattle.std.proofs.Common.{◌≡◌, ◌<◌, ◌+◌, ◌-◌, ◌*◌, ◌/◌, ◌%◌, ◌^◌, ◌==◌, ℕ, Bool, true, false, List, [], ◌∷◌, length, if◌then◌else◌, IfSome, Option, None, Some, option_map, unwrap_or, inl, inr, refl, sym, ap, subst, ◌∙◌, arith, eq-eqb}
use Rattle.std.proofs.lemmas.Bool.Decides.{eqb_tells}
use Rattle.drm_schedule.specs.declared.live.Live.{Live}
use Rattle.drm_schedule.specs.declared.stream.Stream.{Stream}
use Rattle.drm_schedule.specs.declared.config.Config.{Config}
use Rattle.drm_schedule.specs.declared.plan.Plan.{Plan}
use Rattle.drm_schedule.specs.Live.{none}
use Rattle.drm_schedule.specs.Ranges.{ConfigInLines}
use Rattle.drm_schedule.specs.Valid.{IsSchedule}
use Rattle.drm_timeline.specs.Blocks.{block_of}
use Rattle.drm_timeline.specs.Description.{description_of}
use Rattle.drm_timeline.specs.Numbers.{frame_count, sequence_number}
use Rattle.drm_timeline.specs.Standing.{has_started, config_of}
use Rattle.drm_timeline.proofs.StandingLemmas.{last_passing_has}
use Rattle.dcp_af.specs.Packet.{IsAf}
use Rattle.mdi_items.specs.RoundTrip.{Parts, BlockBytes}
use Rattle.live_streams.specs.Live.{LivePieces, AreWhole, own_streams, streams_with, size_from, piece_size, piece_at, config_with, live_schedule}
use Rattle.live_streams.proofs.Placing.{IsLike, config_like}
use Rattle.live_streams.proofs.FrameLemmas.{config_holds, same_description, same_dlfc, same_fac, same_block, same_sequence_number, same_streams}
use Rattle.live_streams.proofs.PlainLemmas.{nothing_asked, none_is_live, plain_schedule}
use Rattle.drm_server.specs.Frames.{HasBlockWhere, IsFrameAt, IsPacketAt}
use Rattle.drm_server.specs.ServerState.{ServerState, only_at}

-- ---- one schedule and another

some_is : (a b : Config) → Some a ≡ Some b → a ≡ b
some_is a b same = cc

block_like : (first : Bool) (p q : Plan) (sf room : ℕ) (block : Option BlockBytes) → block_of q sf ≡ block_of p sf → HasBlockWhere first p sf room block → HasBlockWhere first q sf room block
block_like true p q sf room block same (b, is, at) =
    (b, is, record { block = at.block; is = same ∙ at.is; bits = at.bits; size = at.size; octets = at.octets; spelled = at.spelled; padding = at.padding })
block_like false p q sf room block same absent = absent

packet_like : (p q : Plan) (t : ℕ) (packet : List ℕ) (x : IsPacketAt p t packet) → sequence_number p t ≡ sequence_number q t → IsFrameAt q t x.parts → IsPacketAt q t packet
packet_like p q t packet x same frame =
    record {
      parts = x.parts;
      frame = frame;
      payload = x.payload;
      written = x.written;
      is = subst (λ (n : ℕ). IsAf (record { seq = n; checked = true; minor = 0; payload = x.payload }) packet) same x.is;
      octets = x.octets;
    }

-- ---- with and without bytes that came

module _ (live : Live) (given : LivePieces) (plan : Plan) (t : ℕ) (valid : IsSchedule plan) (whole : AreWhole live given plan) (within : t < frame_count plan) where
  abbrev with_ : Plan
  with_ = live_schedule live given plan

  abbrev first : Bool
  first = t % 3 == 0

  count : (with_.dlfc + t) % 2 ^ 32 ≡ (plan.dlfc + t) % 2 ^ 32
  count = ap (λ (n : ℕ). (n + t) % 2 ^ 32) (same_dlfc live given plan)

  -- the frame with these bytes
  pub frame_with : (parts : Parts) → IsFrameAt plan t parts → IsFrameAt with_ t (record parts { streams = streams_with live (given t) parts.streams })
  frame_with parts x =
      let holds = config_holds live given plan (t / 3) x.config valid (omega (arith, within)) x.holds in
      record {
        config = config_with live given holds.frames x.config;
        holds = holds.holds;
        count = x.count ∙ sym count;
        fac = same_fac live given plan t ∙ x.fac;
        mux = x.mux ∙ sym (same_description live given x.config holds.frames);
        mode = x.mode;
        block = block_like first plan with_ (t / 3) x.config.room parts.block (same_block live given plan (t / 3)) x.block;
        streams = ap (streams_with live (given t)) x.streams ∙ sym (same_streams live given plan t x.config holds whole);
      }

  -- a frame with these bytes is one of the schedule, but for them
  record IsWith (parts : Parts) : Type 0 where
    own : List (List ℕ)
    frame : IsFrameAt plan t (record parts { streams = own })
    input : parts.streams ≡ streams_with live (given t) own

  without : (parts : Parts) → IsFrameAt with_ t parts → IsWith parts
  without parts x = by (config_of plan (t / 3)) refl
    where
      by : (o : Option Config) → config_of plan (t / 3) ≡ o → IsWith parts
      by None same =
          let like : IsLike live given plan (t / 3) (config_of plan (t / 3)) (config_of with_ (t / 3)) = config_like live given plan (t / 3) in
          let nothing : config_of with_ (t / 3) ≡ None = like.1 ∙ ap (option_map (config_with live given like.0)) same in
          let something = x.holds in
          absurd cc
      by (Some c) same =
          let holds = config_holds live given plan (t / 3) c valid (omega (arith, within)) same in
          let config : x.config ≡ config_with live given holds.frames c = some_is x.config (config_with live given holds.frames c) (sym x.holds ∙ holds.holds) in
          record {
            own = own_streams c (t - 3 * c.start);
            frame = record {
              config = c;
              holds = same;
              count = x.count ∙ count;
              fac = sym (same_fac live given plan t) ∙ x.fac;
              mux = x.mux ∙ ap description_of config ∙ same_description live given c holds.frames;
              mode = x.mode ∙ ap (λ (c : Config). c.mode) config;
              block = block_like first with_ plan (t / 3) c.room parts.block (sym (same_block live given plan (t / 3)))
                  (subst (λ (c : Config). HasBlockWhere first with_ (t / 3) c.room parts.block) config x.block);
              streams = refl;
            };
            input = x.streams ∙ ap (λ (c : Config). own_streams c (t - 3 * c.start)) config ∙ same_streams live given plan t c holds whole;
          }

-- ---- a piece for one frame

pub only_here : (t : ℕ) (piece : List ℕ) → only_at t piece t ≡ Some piece
only_here t piece = ap (λ (b : Bool). if b then Some piece else None) (eq-eqb t t refl)

pub only_whole : (live : Live) (plan : Plan) (t : ℕ) (piece : List ℕ) → length piece ≡ piece_at live plan t → AreWhole live (only_at t piece) plan
only_whole live plan t piece long n p is =
    elim (eqb_tells n t) [
      | inl here ↦
          let same : Some piece ≡ Some p = ap (λ (b : Bool). if b then Some piece else None) (sym here.0) ∙ is in
          ap length (sym (some_piece same)) ∙ long ∙ ap (piece_at live plan) (sym here.1)
      | inr other ↦
          let nothing : None ≡ Some p = ap (λ (b : Bool). if b then Some piece else None) (sym other.0) ∙ is in
          absurd cc
    ]
  where
    some_piece : Some piece ≡ Some p → piece ≡ p
    some_piece same = cc

-- ---- what came for other frames doesn't matter

module _ (live : Live) (given other : LivePieces) (plan : Plan) (t : ℕ) (valid : IsSchedule plan) (whole : AreWhole live given plan) (others : AreWhole live other plan) (within : t < frame_count plan) where
  frame_by : given t ≡ other t → (parts : Parts) → IsFrameAt (live_schedule live given plan) t parts → IsFrameAt (live_schedule live other plan) t parts
  frame_by same parts x =
      let w = without live given plan t valid whole within parts x in
      subst (λ (streams : List (List ℕ)). IsFrameAt (live_schedule live other plan) t (record parts { streams = streams }))
      (ap (λ (input : Option (List ℕ)). streams_with live input w.own) (sym same) ∙ sym w.input)
      (frame_with live other plan t valid others within (record parts { streams = w.own }) w.frame)

  -- where the same bytes came for it, the frame has the same packet
  pub same_frame : given t ≡ other t → (packet : List ℕ) → IsPacketAt (live_schedule live given plan) t packet → IsPacketAt (live_schedule live other plan) t packet
  same_frame same packet x =
      packet_like (live_schedule live given plan) (live_schedule live other plan) t packet x
      (same_sequence_number live given plan t ∙ sym (same_sequence_number live other plan t)) (frame_by same x.parts x.frame)

module _ (live : Live) (given : LivePieces) (plan : Plan) (t : ℕ) (valid : IsSchedule plan) (whole : AreWhole live given plan) (within : t < frame_count plan) where
  -- where these are the streams of each frame, it has the packet of the schedule
  own_frame : ((parts : Parts) → IsFrameAt plan t parts → streams_with live (given t) parts.streams ≡ parts.streams) → (packet : List ℕ) → IsPacketAt plan t packet → IsPacketAt (live_schedule live given plan) t packet
  own_frame same packet x =
      packet_like plan (live_schedule live given plan) t packet x (sym (same_sequence_number live given plan t))
      (subst (λ (streams : List (List ℕ)). IsFrameAt (live_schedule live given plan) t (record x.parts { streams = streams })) (same x.parts x.frame)
      (frame_with live given plan t valid whole within x.parts x.frame))

  -- where no bytes came for it
  pub plain_frame : given t ≡ None → (packet : List ℕ) → IsPacketAt plan t packet → IsPacketAt (live_schedule live given plan) t packet
  plain_frame nothing = own_frame (λ parts x. ap (λ (input : Option (List ℕ)). streams_with live input parts.streams) nothing)

  -- and where it has no bytes to be given, whatever came
  pub empty_frame : piece_at live plan t ≡ 0 → (packet : List ℕ) → IsPacketAt plan t packet → IsPacketAt (live_schedule live given plan) t packet
  empty_frame empty = own_frame (λ parts x. ap (streams_with live (given t)) x.streams ∙ same parts x ∙ sym x.streams)
    where
      same : (parts : Parts) → (x : IsFrameAt plan t parts) → streams_with live (given t) (own_streams x.config (t - 3 * x.config.start)) ≡ own_streams x.config (t - 3 * x.config.start)
      same parts x =
          let has : IfSome (config_of plan (t / 3)) ConfigInLines = last_passing_has (has_started (t / 3)) ConfigInLines plan.configs valid.in_lines.each_config in
          let fits : ConfigInLines x.config = subst (λ (o : Option Config). IfSome o ConfigInLines) x.holds has in
          nothing_asked live plan t x.config (given t) (t - 3 * x.config.start) x.holds fits empty

-- ---- no live streams

no_size : (k : ℕ) (streams : List Stream) → size_from none k streams ≡ 0
no_size k [] = refl
no_size k (s ∷ streams) = rw (none_is_live k) (omega (arith, no_size (k + 1) streams))

-- nothing is asked for
pub no_piece : (live : Live) (plan : Plan) (t : ℕ) → live ≡ none → 0 ≡ piece_at live plan t
no_piece live plan t same = sym (ap (λ (l : Live). piece_at l plan t) same ∙ by (config_of plan (t / 3)))
  where
    by : (o : Option Config) → unwrap_or (option_map (piece_size none) o) 0 ≡ 0
    by None = refl
    by (Some c) = no_size 0 c.streams

-- and a server that has loaded a frame has the schedule's own one
pub plain_loaded : (server : ServerState) (live : Live) (given : LivePieces) (plan : Plan) (t : ℕ) → server ≡ record { base = plan; plan = live_schedule live given plan; frame = t } → live ≡ none
    → server ≡ record { base = plan; plan = plan; frame = t }
plain_loaded server live given plan t is same =
    is ∙ ap (λ (p : Plan). record { base = plan; plan = p; frame = t }) (ap (λ (l : Live). live_schedule l given plan) same ∙ plain_schedule none given none_is_live plan)
