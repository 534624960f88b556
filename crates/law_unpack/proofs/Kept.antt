-- A joiner makes of frames, some of which are lost, what it makes of the packets that are kept, with a gap in place of each other.
use Rattle.std.proofs.Common.{◌≡◌, ℕ, zero, suc, ◌+◌, ◌%◌, Bool, true, false, List, [], ◌∷◌, ◌++◌, length, map, replicate, refl, sym, ap, subst, ◌∙◌, arith, length-append}
use Rattle.std.specs.List.{AllByRecursion}
use Rattle.std.proofs.lemmas.List.{length-replicate}
use Rattle.drm_data.specs.PacketFields.{PacketFields}
use Rattle.drm_data.specs.Units.{next_continuity, unit_packets, packet_count, packets_from, packets_after, packets}
use Rattle.drm_data.specs.Joining.{JoinerEvent, Received, Gap}
use Rattle.law_data.specs.Losses as losses
use Rattle.law_unpack.specs.Frames.{FramePackets, packets_or_gap, events_of, packets_of, kept_in, unbroken_behind, kept_from}
use Rattle.law_unpack.proofs.Alike.{Always, IsMine, nothing, gap_behind, received_more, received_all, two_gaps, one_gap, gap_before_other, gap_before_first}

-- ---- the packets of a frame and those behind it

kept_front : (g : Bool) (ps qs : List PacketFields) (kept : List Bool) → losses.kept_of (replicate (length ps) g ++ kept) (ps ++ qs) ≡ map (losses.packet_or_gap g) ps ++ losses.kept_of kept qs
kept_front g [] qs kept = refl
kept_front g (p ∷ ps) qs kept = ap (λ l. losses.packet_or_gap g p ∷ l) (kept_front g ps qs kept)

lost_gaps : (ps : List PacketFields) → map (losses.packet_or_gap false) ps ≡ replicate (length ps) Gap
lost_gaps [] = refl
lost_gaps (p ∷ ps) = ap (λ l. Gap ∷ l) (lost_gaps ps)

given_all : (ps : List PacketFields) → map (losses.packet_or_gap true) ps ≡ map Received ps
given_all [] = refl
given_all (p ∷ ps) = ap (λ l. Received p ∷ l) (given_all ps)

lost_front : (ps qs : List PacketFields) (kept : List Bool) → losses.kept_of (replicate (length ps) false ++ kept) (ps ++ qs) ≡ replicate (length ps) Gap ++ losses.kept_of kept qs
lost_front ps qs kept = kept_front false ps qs kept ∙ ap (λ l. l ++ losses.kept_of kept qs) (lost_gaps ps)

given_front : (ps qs : List PacketFields) (kept : List Bool) → losses.kept_of (replicate (length ps) true ++ kept) (ps ++ qs) ≡ map Received ps ++ losses.kept_of kept qs
given_front ps qs kept = kept_front true ps qs kept ∙ ap (λ l. l ++ losses.kept_of kept qs) (given_all ps)

-- ---- all packets are of one id

module _ (id d : ℕ) where
  abbrev pub AreMine : List PacketFields → Type 0
  AreMine ps = AllByRecursion (IsMine id d) ps

  mine_join : (ps qs : List PacketFields) → AreMine ps → AreMine qs → AreMine (ps ++ qs)
  mine_join [] qs mine more = more
  mine_join (p ∷ ps) qs mine more = (mine.0, mine_join ps qs mine.1 more)

  mine_front : (ps qs : List PacketFields) → AreMine (ps ++ qs) → AreMine ps
  mine_front [] qs mine = tt
  mine_front (p ∷ ps) qs mine = (mine.0, mine_front ps qs mine.1)

  mine_behind : (ps qs : List PacketFields) → AreMine (ps ++ qs) → AreMine qs
  mine_behind [] qs mine = mine
  mine_behind (p ∷ ps) qs mine = mine_behind ps qs mine.1

  mine_of : (continuity : ℕ) (unit : List ℕ) (k n : ℕ) → AreMine (packets_from id d continuity unit k n)
  mine_of continuity unit k zero = tt
  mine_of continuity unit k (suc n) = (refl, mine_of (next_continuity continuity) unit (k + 1) n)

  mine_after : (continuity : ℕ) (units : List (List ℕ)) → AreMine (packets_after id d continuity units)
  mine_after continuity [] = tt
  mine_after continuity (unit ∷ units) =
      mine_join (unit_packets id d continuity unit) (packets_after id d ((continuity + packet_count d (length unit)) % 8) units)
      (mine_of continuity unit 0 (packet_count d (length unit))) (mine_after ((continuity + packet_count d (length unit)) % 8) units)

  pub all_mine : (units : List (List ℕ)) → AreMine (packets id d units)
  all_mine units = mine_after 0 units

  -- ---- frame by frame

  -- the events behind, and a gap before them where a frame was lost
  abbrev behind : Bool → List JoinerEvent → List JoinerEvent
  behind true events = events
  behind false events = Gap ∷ events

  by_first : (b : Bool) (p : PacketFields) (xs ys : List JoinerEvent) → IsMine id d p → p.first ≡ b → Always id d xs ys → Always id d (Gap ∷ Received p ∷ xs) (losses.packet_or_gap b p ∷ ys)
  by_first true p xs ys mine is h = gap_before_first id d p xs ys mine is h
  by_first false p xs ys mine is h = gap_before_other id d p xs ys mine is h

  module _ (frames : List FramePackets) (more : (unbroken : Bool) → Always id d (behind unbroken (events_of frames)) (losses.kept_of (kept_from unbroken frames) (packets_of frames))) where
    abbrev rest : Bool → List JoinerEvent
    rest unbroken = losses.kept_of (kept_from unbroken frames) (packets_of frames)

    lost_frame : (ps : List PacketFields) → Always id d (Gap ∷ events_of frames) (losses.kept_of (replicate (length ps) false ++ kept_from false frames) (ps ++ packets_of frames))
    lost_frame ps =
        subst (λ l. Always id d (Gap ∷ events_of frames) l) (sym (lost_front ps (packets_of frames) (kept_from false frames)))
        (one_gap id d (length ps) (events_of frames) (rest false) (more false))

    given_rest : (ps : List PacketFields) → AreMine ps
        → Always id d (map Received ps ++ events_of frames) (losses.kept_of (replicate (length ps) true ++ kept_from true frames) (ps ++ packets_of frames))
    given_rest ps mine =
        subst (λ l. Always id d (map Received ps ++ events_of frames) l) (sym (given_front ps (packets_of frames) (kept_from true frames)))
        (received_all id d ps (events_of frames) (rest true) mine (more true))

    one_frame : (unbroken given : Bool) (ps : List PacketFields) → AreMine ps
        → Always id d (behind unbroken (packets_or_gap given ps ++ events_of frames))
        (losses.kept_of (kept_in unbroken given ps ++ kept_from (unbroken_behind unbroken given ps) frames) (ps ++ packets_of frames))
    one_frame true false ps mine = lost_frame ps
    one_frame false false ps mine =
        two_gaps id d (events_of frames) (losses.kept_of (replicate (length ps) false ++ kept_from false frames) (ps ++ packets_of frames)) (lost_frame ps)
    one_frame true true [] mine = more true
    one_frame false true [] mine = more false
    one_frame true true (p ∷ ps) mine =
        received_more id d p (map Received ps ++ events_of frames) (losses.kept_of (replicate (length ps) true ++ kept_from true frames) (ps ++ packets_of frames)) mine.0
        (given_rest ps mine.1)
    one_frame false true (p ∷ ps) mine =
        by_first p.first p (map Received ps ++ events_of frames) (losses.kept_of (replicate (length ps) true ++ kept_from true frames) (ps ++ packets_of frames)) mine.0 refl
        (given_rest ps mine.1)

  pub alike : (frames : List FramePackets) (unbroken : Bool) → AreMine (packets_of frames)
      → Always id d (behind unbroken (events_of frames)) (losses.kept_of (kept_from unbroken frames) (packets_of frames))
  alike [] true mine = nothing id d
  alike [] false mine = gap_behind id d
  alike (frame ∷ frames) unbroken mine =
      one_frame frames (λ b. alike frames b (mine_behind frame.packets (packets_of frames) mine)) unbroken frame.given frame.packets
      (mine_front frame.packets (packets_of frames) mine)

-- ---- how many they are

size_in : (unbroken given : Bool) (ps : List PacketFields) → length (kept_in unbroken given ps) ≡ length ps
size_in unbroken false ps = length-replicate {A = Bool} (length ps) false
size_in unbroken true [] = refl
size_in unbroken true (p ∷ ps) = ap suc (length-replicate {A = Bool} (length ps) true)

pub kept_size : (unbroken : Bool) (frames : List FramePackets) → length (kept_from unbroken frames) ≡ length (packets_of frames)
kept_size unbroken [] = refl
kept_size unbroken (frame ∷ frames) =
    let next : Bool = unbroken_behind unbroken frame.given frame.packets in
    omega (
      arith,
      length-append (kept_in unbroken frame.given frame.packets) (kept_from next frames),
      length-append frame.packets (packets_of frames),
      size_in unbroken frame.given frame.packets,
      kept_size next frames,
    )
