-- The items of a delivery bring the frames of its schedule.
use Rattle.std.proofs.Common.{◌≡◌, ◌∙◌, ℕ, zero, suc, ◌+◌, ◌-◌, ◌*◌, ◌≤◌, Bool, true, false, List, [], ◌∷◌, ◌++◌, length, map, Option, None, Some, refl, sym, ap, subst, arith}
use Rattle.std.specs.Prelude.{ℤ, pos, negsuc, ◌+ℤ◌, ◌-ℤ◌, slice_get}
use Rattle.std.specs.List.{AllByRecursion}
use Rattle.std.proofs.lemmas.Int.{ints}
use Rattle.std.proofs.lemmas.Option.{same_Some}
use Rattle.dcp_collect.specs.Numbers.{end_of}
use Rattle.drm_schedule.specs.declared.config.Config.{Config}
use Rattle.drm_schedule.specs.declared.plan.Plan.{Plan}
use Rattle.drm_timeline.specs.Numbers.{frame_count}
use Rattle.drm_schedule.specs.Contents.{stream_bytes}
use Rattle.law_collect.specs.Delivery.{newest_of}
use Rattle.law_delivery.specs.Given.{IsServed, IsServedWhere, IsItemBy}
use Rattle.law_delivery.specs.Laws.{Delivering}
use Rattle.dcp_pft.specs.Loss.{is_recoverable}
use Rattle.law_delivery.specs.Sent.{pairs_in, frame_of_number, shape_at}
use Rattle.law_delivery.proofs.Numbering.{frame_within}
use Rattle.drm_data.specs.PacketFields.{PacketFields}
use Rattle.drm_data.specs.Joining.{JoinerEvent, Gap, JoinerState, made, closed}
use Rattle.law_data.specs.Runs.{answers, cuts_in}
use Rattle.mod_feed.specs.Items.{FrameItem}
use Rattle.cmd_unpack.specs.Streams.{PayloadKind, UnitsOf, stream_of, pieces_of, entries_of, entries_at}
use Rattle.law_unpack.specs.Frames.{FramePackets, packets_or_gap, packets_of, ItemBringsFrame, BringAll}
use Rattle.law_unpack.specs.Delivered.{CarriesAt, CarryFrom, is_given, carried_from, carried_by, together, UnpacksDeliveries}
use Rattle.law_unpack.proofs.LostFrames.{Same, same_one, same_front, none_said}
use Rattle.law_unpack.proofs.Ends.{to_end, same_self, unpacked_by}
use Rattle.law_unpack.proofs.Places.{AreMissing, AreAt, first_at, next_at, kept_at, missing_by, place_next, none_before, all_behind, given_within, lost_past, lost_early, stream_served, placed}

-- ---- a frame that is given

-- it brings its packets
brings_served : (plan : Plan) (k id d t q : ℕ) (item : FrameItem) (ps : List PacketFields) → CarriesAt plan k id d t ps → IsServed plan t q item → ItemBringsFrame (UnitsOf k id d) d true item ps
brings_served plan k id d t q item ps carries served =
    let what : PayloadKind = UnitsOf k id d in
    let at = carries.stream in
    let config : served.is_frame.config ≡ at.config = same_Some served.is_frame.config at.config (sym served.is_frame.holds ∙ at.holds) in
    let stream : stream_of k served.read.frame served.payload ≡ Some carries.bytes =
    stream_served plan k t q item served ∙ (ap (λ (c : Config). slice_get (map (stream_bytes (t - 3 * c.start)) c.streams) k) config ∙ at.is) in
    let cut : pieces_of what (stream_of k served.read.frame served.payload) ≡ Some carries.pieces = ap (pieces_of what) stream ∙ carries.cut in
    (carries.pieces, ap (entries_at what) served.item_is ∙ ap entries_of cut, carries.are)

-- or is a gap in their place
brings_where : (b : Bool) (plan : Plan) (k id d t q : ℕ) (kept : ℕ → Bool) (item : FrameItem) (ps : List PacketFields)
    → CarriesAt plan k id d t ps → IsServedWhere b plan t q kept item → ItemBringsFrame (UnitsOf k id d) d b item ps
brings_where true plan k id d t q kept item ps carries is = brings_served plan k id d t q item ps carries is
brings_where false plan k id d t q kept item ps carries is = ap (entries_at (UnitsOf k id d)) is

-- ---- all of them

-- What comes up to the end of a reading is the same for a joiner, by whose lists of frames it is said.
abbrev ShowTheSame : (JoinerState → JoinerState) → List FramePackets → List FramePackets → Type 0
ShowTheSame of shown frames = (s : JoinerState) → Same (of s) (to_end shown) (to_end frames)

-- The items bring frames that show the same as these.
record Shows (k id d : ℕ) (of : JoinerState → JoinerState) (items : List FrameItem) (frames : List FramePackets) : Type 0 where
  shown : List FramePackets
  bring : BringAll (UnitsOf k id d) d items shown
  same : ShowTheSame of shown frames

same_back : (s : JoinerState) (xs ys : List JoinerEvent) → Same s xs ys → Same s ys xs
same_back s xs ys h = record { units = sym h.units; cuts = sym h.cuts; after = sym h.after }

same_through : (s : JoinerState) (xs ys zs : List JoinerEvent) → Same s xs ys → Same s ys zs → Same s xs zs
same_through s xs ys zs h g = record { units = h.units ∙ g.units; cuts = h.cuts ∙ g.cuts; after = h.after ∙ g.after }

-- where no unit is open, a gap says nothing
same_gap : (s : JoinerState) (xs ys : List JoinerEvent) → Same (closed s) xs ys → Same (closed s) xs (Gap ∷ ys)
same_gap s xs ys h = record { units = h.units; cuts = h.cuts ∙ none_said (cuts_in (answers (closed s) ys)); after = h.after }

same_behind : (b : Bool) (ps : List PacketFields) (s : JoinerState) (xs ys : List JoinerEvent) → ((t : JoinerState) → Same t xs ys) → Same s (packets_or_gap b ps ++ xs) (packets_or_gap b ps ++ ys)
same_behind true ps s xs ys h = same_front ps s xs ys h
same_behind false ps s xs ys h = same_one s Gap xs ys (h (closed s))

-- frames none of which is given are as none
abbrev AllLost : List FramePackets → Type 0
AllLost frames = AllByRecursion (λ (f : FramePackets). f.given ≡ false) frames

lost_front : (frames : List FramePackets) → AllLost frames → (s : JoinerState) → Same (closed s) (Gap ∷ []) (to_end frames)
lost_front [] lost s = same_self (closed s) (Gap ∷ [])
lost_front (frame ∷ frames) lost s =
    subst (λ b. Same (closed s) (Gap ∷ []) (packets_or_gap b frame.packets ++ to_end frames)) (sym lost.0) (same_gap s (Gap ∷ []) (to_end frames) (lost_front frames lost.1 s))

same_none : (s : JoinerState) → Same (closed s) [] (Gap ∷ [])
same_none s = same_gap s [] [] (same_self (closed s) [])

lost_behind : (frames : List FramePackets) → AllLost frames → (s : JoinerState) → Same s (Gap ∷ []) (to_end frames)
lost_behind [] lost s = same_self s (Gap ∷ [])
lost_behind (frame ∷ frames) lost s =
    subst (λ b. Same s (Gap ∷ []) (packets_or_gap b frame.packets ++ to_end frames)) (sym lost.0)
    (same_one s Gap [] (to_end frames) (same_through (closed s) [] (Gap ∷ []) (to_end frames) (same_none s) (lost_front frames lost.1 s)))

-- a frame that is lost
abbrev none_there : FramePackets
none_there = record { given = false; packets = [] }

lost_items : (k id d : ℕ) (items : List FrameItem) → AreMissing items → (shown : List FramePackets) × BringAll (UnitsOf k id d) d items shown × AllLost shown
lost_items k id d [] are = ([], refl, tt)
lost_items k id d (item ∷ items) are =
    let more = lost_items k id d items are.1 in
    (none_there ∷ more.0, (ap (entries_at (UnitsOf k id d)) are.0.1, more.1), (refl, more.2))

-- ---- place by place

as_closed : (k id d : ℕ) (items : List FrameItem) (frames : List FramePackets) → Shows k id d (λ s. s) items frames → Shows k id d closed items frames
as_closed k id d items frames h = record { shown = h.shown; bring = h.bring; same = λ s. h.same (closed s) }

module _ (plan : Plan) (window : ℕ) (first_frame : ℤ) (pairs : List (ℕ × ℕ)) (end k id d : ℕ) where
  abbrev carried : ℕ → List (List PacketFields) → List FramePackets
  carried t frames = carried_from plan window first_frame pairs end t frames

  abbrev are_at : ℕ → List FrameItem → Type 0
  are_at q items = AreAt plan window first_frame pairs q items

  all_past : (t q : ℕ) (frames : List (List PacketFields)) → (first_frame +ℤ pos q) ≡ pos t → end ≤ q → AllLost (carried t frames)
  all_past t q [] place past = tt
  all_past t q (ps ∷ frames) place past = (lost_past plan window first_frame pairs end t q place past, all_past (t + 1) (q + 1) frames (place_next first_frame t q place) (omega (arith, past)))

  -- where item q is of frame t
  aligned : (t q : ℕ) (items : List FrameItem) (frames : List (List PacketFields)) → (first_frame +ℤ pos q) ≡ pos t → q + length items ≡ end → t + length frames ≡ frame_count plan
      → CarryFrom plan k id d t frames → are_at q items → Shows k id d (λ s. s) items (carried t frames)
  aligned t q [] frames place many all carry are =
      record { shown = []; bring = refl; same = lost_behind (carried t frames) (all_past t q frames place (omega (arith, many))) }
  aligned t q (item ∷ items) [] place many all carry are =
      let lost = lost_items k id d (item ∷ items) (all_behind plan window first_frame pairs t q (item ∷ items) place (omega (arith, all)) are) in
      record { shown = lost.0; bring = lost.1; same = λ s. same_back s (Gap ∷ []) (to_end lost.0) (lost_behind lost.0 lost.2 s) }
  aligned t q (item ∷ items) (ps ∷ frames) place many all carry are =
      let more = aligned (t + 1) (q + 1) items frames (place_next first_frame t q place) (omega (arith, many)) (omega (arith, all)) carry.1 (next_at plan window first_frame pairs q item items are) in
      let b : Bool = is_recoverable (shape_at plan t) (kept_at plan window first_frame pairs q) in
      let there : frame_of_number plan first_frame q ≡ Some t = frame_within plan (first_frame +ℤ pos q) t place (omega (arith, all)) in
      let brings : ItemBringsFrame (UnitsOf k id d) d b item ps =
      brings_where b plan k id d t q (kept_at plan window first_frame pairs q) item ps carry.0 (subst (λ (o : Option ℕ). IsItemBy plan o q (kept_at plan window first_frame pairs q) item) there (first_at plan window first_frame pairs q item items are)) in
      record {
        shown = record { given = b; packets = ps } ∷ more.shown;
        bring = (brings, more.bring);
        same = λ s. subst (λ c. Same s (packets_or_gap b ps ++ to_end more.shown) (packets_or_gap c ps ++ to_end (carried (t + 1) frames)))
            (sym (given_within plan window first_frame pairs end t q place (omega (arith, many))))
            (same_behind b ps s (to_end more.shown) (to_end (carried (t + 1) frames)) more.same);
      }

  -- where the first item is of a frame behind t
  from_later : (n t : ℕ) (items : List FrameItem) (frames : List (List PacketFields)) → first_frame ≡ pos (t + n) → length items ≡ end → t + length frames ≡ frame_count plan
      → CarryFrom plan k id d t frames → are_at 0 items → Shows k id d closed items (carried t frames)
  from_later zero t items frames at many all carry are =
      as_closed k id d items (carried t frames) (aligned t 0 items frames (omega (arith, ints, at)) (omega (arith, many)) all carry are)
  from_later (suc n) t items [] at many all carry are =
      let lost = lost_items k id d items (all_behind plan window first_frame pairs (t + suc n) 0 items (omega (arith, ints, at)) (omega (arith, all)) are) in
      record { shown = lost.0; bring = lost.1; same = λ s. same_back (closed s) (Gap ∷ []) (to_end lost.0) (lost_front lost.0 lost.2 s) }
  from_later (suc n) t items (ps ∷ frames) at many all carry are =
      let more = from_later n (t + 1) items frames (omega (arith, ints, at)) many (omega (arith, all)) carry.1 are in
      let lost : is_given plan window first_frame pairs end t ≡ false = lost_early plan window first_frame pairs end t (pos t -ℤ first_frame) n (omega (arith, ints, at)) in
      record {
        shown = more.shown;
        bring = more.bring;
        same = λ s. subst (λ c. Same (closed s) (to_end more.shown) (packets_or_gap c ps ++ to_end (carried (t + 1) frames))) (sym lost)
            (same_gap s (to_end more.shown) (to_end (carried (t + 1) frames)) (more.same s));
      }

  -- where the first items are of no frame
  from_earlier : (m q : ℕ) (items : List FrameItem) (frames : List (List PacketFields)) → (first_frame +ℤ pos (q + m)) ≡ pos 0 → q + length items ≡ end → length frames ≡ frame_count plan
      → CarryFrom plan k id d 0 frames → are_at q items → Shows k id d closed items (carried 0 frames)
  from_earlier zero q items frames place many all carry are =
      as_closed k id d items (carried 0 frames) (aligned 0 q items frames (omega (arith, ints, place)) many (omega (arith, all)) carry are)
  from_earlier (suc m) q [] frames place many all carry are =
      record { shown = []; bring = refl; same = lost_front (carried 0 frames) (all_past 0 (q + suc m) frames place (omega (arith, many))) }
  from_earlier (suc m) q (item ∷ items) frames place many all carry are =
      let more = from_earlier m (q + 1) items frames (omega (arith, ints, place)) (omega (arith, many)) all carry (next_at plan window first_frame pairs q item items are) in
      let none : frame_of_number plan first_frame q ≡ None = none_before plan (first_frame +ℤ pos q) m (omega (arith, ints, place)) in
      record {
        shown = none_there ∷ more.shown;
        bring = (ap (entries_at (UnitsOf k id d)) (missing_by plan window first_frame pairs q item none (first_at plan window first_frame pairs q item items are)), more.bring);
        same = λ s. same_back (closed s) (to_end (carried 0 frames)) (Gap ∷ to_end more.shown)
            (same_gap s (to_end (carried 0 frames)) (to_end more.shown) (same_back (closed s) (to_end more.shown) (to_end (carried 0 frames)) (more.same s)));
      }

  shows_all : (z : ℤ) (items : List FrameItem) (frames : List (List PacketFields)) → first_frame ≡ z → length items ≡ end → length frames ≡ frame_count plan
      → CarryFrom plan k id d 0 frames → are_at 0 items → Shows k id d closed items (carried 0 frames)
  shows_all (pos n) items frames at many all carry are = from_later n 0 items frames (omega (arith, ints, at)) many (omega (arith, all)) carry are
  shows_all (negsuc n) items frames at many all carry are = from_earlier (n + 1) 0 items frames (omega (arith, ints, at)) (omega (arith, many)) all carry are

  packets_are : (t : ℕ) (frames : List (List PacketFields)) → packets_of (carried t frames) ≡ together frames
  packets_are t [] = refl
  packets_are t (ps ∷ frames) = ap (λ l. ps ++ l) (packets_are (t + 1) frames)

pub unpacks_deliveries : Delivering → UnpacksDeliveries
unpacks_deliveries delivering plan window reach first frame_limit first_frame arrivals datagrams answers collected k id d units frames items text clean is some followed carries run are whole =
    let pairs : List (ℕ × ℕ) = pairs_in arrivals in
    let end : ℕ = end_of frame_limit (newest_of first_frame None pairs) in
    let at = placed plan window reach first frame_limit first_frame arrivals datagrams answers collected items delivering is some followed run are in
    let shows = shows_all plan window first_frame pairs end k id d first_frame items frames refl at.many carries.all carries.carry at.at in
    unpacked_by k id d units (carried_by plan window first_frame frame_limit pairs frames) shows.shown items text clean carries.some_length carries.are_units
    (packets_are plan window first_frame pairs end k id d 0 frames ∙ carries.packets_are)
    shows.bring (shows.same (made id d)) whole
