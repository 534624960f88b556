-- The frames behind the seam.
use Rattle.std.proofs.Common.{◌≡◌, ◌+◌, ◌-◌, ◌*◌, ◌/◌, ◌%◌, ◌==◌, ◌≤◌, ◌<◌, ℕ, zero, suc, Bool, true, false, List, [], ◌∷◌, ◌++◌, filter, map, length, All, IfSome, nat_le, cond, option_map, Option, None, Some, sym, ap, subst, ◌∙◌, arith}
use Rattle.std.specs.List.{last_or, find}
use Rattle.std.proofs.lemmas.Bool.{or_parts, leb-false}
use Rattle.std.proofs.lemmas.List.Elements.{All-nil, All-cons, All-head, All-tail}
use Rattle.mdi_items.specs.RoundTrip.{Parts, BlockBytes}
use Rattle.dcp_af.specs.Packet.{IsAf}
use Rattle.dcp_pft.specs.declared.carry.Carry.{Carry}
use Rattle.dcp_pft.specs.Carrying.{CarriesPacket, datagram_count}
use Rattle.drm_schedule.specs.declared.config.Config.{Config}
use Rattle.drm_schedule.specs.declared.plan.Plan.{Plan}
use Rattle.drm_schedule.specs.Contents.{stream_bytes}
use Rattle.drm_schedule.specs.Valid.{IsSchedule, IsFaultless, AreFaultless}
use Rattle.drm_schedule.proofs.Faultless.{all_faultless}
use Rattle.plan_packing.specs.Packing.{chain}
use Rattle.drm_timeline.specs.Numbers.{frame_count, sequence_number}
use Rattle.drm_timeline.specs.Standing.{config_of, announced_in, index_of, frames_before, is_counting, has_started}
use Rattle.drm_timeline.specs.FastAccess.{fac_under}
use Rattle.drm_timeline.specs.Blocks.{block_of, block_with, own_entities}
use Rattle.drm_timeline.specs.Announcing.{announced_by}
use Rattle.drm_timeline.specs.Description.{description_of}
use Rattle.drm_timeline.proofs.ScheduleLemmas.{first_start, follows}
use Rattle.drm_timeline.proofs.StartsLemmas.{all_have_countdown}
use Rattle.drm_server.specs.Frames.{HasBlockWhere, IsFrameAt, IsPacketAt}
use Rattle.drm_server.specs.Datagrams.{HasDatagrams, IsDatagramAt, AreFirst, AreOfFrame}
use Rattle.law_seam.specs.Joined.{shifted, configs_behind, joined, GoesOn}
use Rattle.law_seam.specs.Laws.{FollowsBehind}
use Rattle.law_seam.proofs.Shifted.{raised, same_fac}
use Rattle.law_seam.proofs.Behind.{CountsWithin, HoldsBehind, holds_behind, announced_behind, same_index, same_block}

-- ---- what valid schedules keep to

-- each countdown lies behind the schedule's start
pub all_within : (plan : Plan) (before : Config) (configs : List Config) → AreFaultless plan (Some before) configs → All CountsWithin configs
all_within plan before [] are = All-nil CountsWithin
all_within plan before (c ∷ configs) are =
    let f = follows plan before c configs are.0 in
    let apart = f.apart in
    All-cons CountsWithin c configs (omega (arith, apart)) (all_within plan c configs are.1)

-- each configuration starts below the end
pub all_below : (plan : Plan) (before : Option Config) (configs : List Config) → 1 ≤ plan.length → AreFaultless plan before configs → All (λ (c : Config). c.start < plan.length) configs
all_below plan before [] some are = All-nil (λ (c : Config). c.start < plan.length)
all_below plan before (c ∷ configs) some are = All-cons (λ (c : Config). c.start < plan.length) c configs (by before are.0) (all_below plan (Some c) configs some are.1)
  where
    by : (o : Option Config) → IsFaultless plan o c configs → c.start < plan.length
    by None is = let start = first_start plan c configs is in omega (arith, start, some)
    by (Some b) is = leb-false plan.length c.start (or_parts (nat_le c.start b.start) (nat_le plan.length c.start) is.order).1

-- what holds of each holds of the first one that is found
found_has : {X : Type 0} (p : X → Bool) (P : X → Type 0) (xs : List X) → All P xs → IfSome (find p xs) P
found_has p P [] all = tt
found_has p P (x ∷ xs) all = by (found_has p P xs (All-tail P x xs all)) (p x)
  where
    by : IfSome (find p xs) P → (b : Bool) → IfSome (cond b (Some x) (find p xs)) P
    by rest true = All-head P x xs all
    by rest false = rest

-- ---- what stands in a super frame behind the seam

module _ (countdown : ℕ) (plan next : Plan) (goes_on : GoesOn plan next) (valid : IsSchedule plan) (valid_next : IsSchedule next) where
  abbrev pub n : ℕ
  n = plan.length

  abbrev pub both : Plan
  both = joined countdown plan next

  faultless : AreFaultless plan None plan.configs
  faultless = all_faultless plan 0 None plan.configs valid.valid

  faultless_next : AreFaultless next None next.configs
  faultless_next = all_faultless next 0 None next.configs valid_next.valid

  below : All (λ (c : Config). c.start < n) plan.configs
  below = all_below plan None plan.configs valid.in_lines.some_frames faultless

  -- the configuration, so much later
  config_behind : (sf : ℕ) → HoldsBehind n sf (config_of next sf) (config_of both (n + sf))
  config_behind sf = by next.configs faultless_next valid_next.in_lines.some_config
    where
      by : (configs : List Config) → AreFaultless next None configs → 1 ≤ length configs
          → HoldsBehind n sf (last_or None (filter (has_started sf) configs)) (last_or None (filter (has_started (n + sf)) (plan.configs ++ configs_behind n countdown configs)))
      by [] are some = absurd (omega (arith, some))
      by (c ∷ configs) are some = holds_behind n sf plan.configs c configs countdown (first_start next c configs are.0)

  -- what is announced
  next_behind : (sf : ℕ) → announced_in both (n + sf) ≡ option_map (shifted n) (announced_in next sf)
  next_behind sf = by next.configs faultless_next valid_next.in_lines.some_config
    where
      by : (configs : List Config) → AreFaultless next None configs → 1 ≤ length configs
          → find (is_counting (n + sf)) (plan.configs ++ configs_behind n countdown configs) ≡ option_map (shifted n) (find (is_counting sf) configs)
      by [] are some = absurd (omega (arith, some))
      by (c ∷ configs) are some = announced_behind n sf plan.configs c configs countdown (first_start next c configs are.0) (all_within next c configs are.1) below

  index_behind : (sf : ℕ) → index_of both (n + sf) ≡ index_of next sf
  index_behind sf = ap (frames_before (n + sf)) (next_behind sf) ∙ same_index n sf (announced_in next sf)

  counts_within : (sf : ℕ) → IfSome (announced_in next sf) CountsWithin
  counts_within sf = found_has (is_counting sf) CountsWithin next.configs (λ k d within. (all_have_countdown next next.configs faultless_next k d within).1)

  block_behind : (sf : ℕ) → block_of both (n + sf) ≡ block_of next sf
  block_behind sf =
      let h = config_behind sf in
      let c = h.config in
      let d : Config = raised n h.countdown c in
      ap (λ o. chain o (λ (k : Config). option_map (block_with k.room) (option_map (λ announced. own_entities k (n + sf) ++ announced) (announced_by k (n + sf) (announced_in both (n + sf)))))) h.behind_is
      ∙ (ap (λ o. option_map (block_with c.room) (option_map (λ announced. own_entities d (n + sf) ++ announced) (announced_by d (n + sf) o))) (next_behind sf)
      ∙ (same_block n sf h.countdown c (announced_in next sf) (counts_within sf)
      ∙ ap (λ o. chain o (λ (k : Config). option_map (block_with k.room) (option_map (λ announced. own_entities k sf ++ announced) (announced_by k sf (announced_in next sf))))) (sym h.found_is)))

  -- ---- a frame

  module _ (t : ℕ) where
    -- its super frame, and where it stands there
    super_frame : (3 * n + t) / 3 ≡ n + t / 3
    super_frame = omega arith

    position : (3 * n + t) % 3 ≡ t % 3
    position = omega arith

    same_config : (a b : Config) → Some a ≡ Some b → a ≡ b
    same_config a b is = cc

    block_is : (first : Bool) (sf sf' room : ℕ) (block : Option BlockBytes) → block_of both sf' ≡ block_of next sf → HasBlockWhere first next sf room block → HasBlockWhere first both sf' room block
    block_is true sf sf' room block same (b, is, at) = (b, is, record { block = at.block; is = same ∙ at.is; bits = at.bits; size = at.size; octets = at.octets; spelled = at.spelled; padding = at.padding })
    block_is false sf sf' room block same none = none

    pub frame_behind : (parts : Parts) → IsFrameAt next t parts → IsFrameAt both (3 * n + t) parts
    frame_behind parts f =
        let sf : ℕ = t / 3 in
        let h = config_behind sf in
        let c = h.config in
        let d : Config = raised n h.countdown c in
        let holds : config_of both ((3 * n + t) / 3) ≡ Some d = ap (config_of both) super_frame ∙ h.behind_is in
        let own : f.config ≡ c = same_config f.config c (sym f.holds ∙ h.found_is) in
        let index : index_of both ((3 * n + t) / 3) ≡ index_of next sf = ap (index_of both) super_frame ∙ index_behind sf in
        let phase : 3 * n + t - 3 * (c.start + n) ≡ t - 3 * c.start = omega arith in
        record {
          config = d;
          holds = holds;
          count = (let here = f.count in let counter = goes_on.counter in omega (arith, here, counter));
          fac =
              ap (λ o. chain o (λ (k : Config). fac_under k (index_of both ((3 * n + t) / 3)) (3 * n + t))) holds
              ∙ (ap (λ i. fac_under d i (3 * n + t)) index
              ∙ (same_fac n h.countdown c (index_of next sf) t
              ∙ (ap (λ o. chain o (λ (k : Config). fac_under k (index_of next sf) t)) (sym h.found_is) ∙ f.fac)));
          mux = f.mux ∙ ap (λ (k : Config). description_of k) own;
          mode = f.mode ∙ ap (λ (k : Config). k.mode) own;
          block =
              subst (λ p. HasBlockWhere (p == 0) both ((3 * n + t) / 3) d.room parts.block) (sym position)
              (block_is (t % 3 == 0) sf ((3 * n + t) / 3) c.room parts.block (ap (block_of both) super_frame ∙ block_behind sf)
              (subst (λ (k : Config). HasBlockWhere (t % 3 == 0) next sf k.room parts.block) own f.block));
          streams = f.streams ∙ (ap (λ (k : Config). map (stream_bytes (t - 3 * k.start)) k.streams) own ∙ ap (λ i. map (stream_bytes i) c.streams) (sym phase));
        }

    -- ---- its datagrams

    abbrev at : ℕ
    at = frame_count plan + t

    sequence_behind : sequence_number both at ≡ sequence_number next t
    sequence_behind = let first = goes_on.sequence in omega (arith, first)

    packet_behind : (packet : List ℕ) → IsPacketAt next t packet → IsPacketAt both at packet
    packet_behind packet p = record {
      parts = p.parts;
      frame = frame_behind p.parts p.frame;
      payload = p.payload;
      written = p.written;
      is = subst (λ (seq : ℕ). IsAf (record { seq = seq; checked = true; minor = 0; payload = p.payload }) packet) (sym sequence_behind) p.is;
      octets = p.octets;
    }

    count_behind : (count : ℕ) → HasDatagrams next t count → HasDatagrams both at count
    count_behind count has = record {
      packet = has.packet;
      is_packet = packet_behind has.packet has.is_packet;
      is = has.is ∙ ap (λ (carry : Carry). datagram_count carry (length has.packet)) goes_on.carry;
    }

    datagram_behind : (i : ℕ) (datagram : List ℕ) → IsDatagramAt next t i datagram → IsDatagramAt both at i datagram
    datagram_behind i datagram d = record {
      packet = d.packet;
      is_packet = packet_behind d.packet d.is_packet;
      within = subst (λ (carry : Carry). i < datagram_count carry (length d.packet)) goes_on.carry d.within;
      is =
          subst (λ (seq : ℕ). CarriesPacket plan.carry seq d.packet i datagram) (sym sequence_behind)
          (subst (λ (carry : Carry). CarriesPacket carry (sequence_number next t) d.packet i datagram) goes_on.carry d.is);
    }

    first_behind : (i : ℕ) (datagrams : List (List ℕ)) → AreFirst next t i datagrams → AreFirst both at i datagrams
    first_behind zero datagrams none = none
    first_behind (suc i) datagrams (before, datagram, are, is, same) = (before, datagram, first_behind i before are, datagram_behind i datagram is, same)

    pub datagrams_behind : (datagrams : List (List ℕ)) → AreOfFrame next t datagrams → AreOfFrame both at datagrams
    datagrams_behind datagrams (count, has, are) = (count, count_behind count has, first_behind count datagrams are)

pub follows_behind : FollowsBehind
follows_behind countdown plan next goes_on valid valid_next t datagrams are = datagrams_behind countdown plan next goes_on valid valid_next t datagrams are
