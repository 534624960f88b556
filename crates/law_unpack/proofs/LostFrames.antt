-- What comes of frames, some of which are lost.
use Rattle.std.proofs.Common.{◌≡◌, ℕ, ◌+◌, Bool, true, false, List, [], ◌∷◌, ◌++◌, length, map, Option, None, Some, refl, sym, ap, ap₂, subst, ◌∙◌, arith}
use Rattle.std.specs.Int.{from_bool}
use Rattle.drm_data.specs.PacketFields.{PacketFields}
use Rattle.drm_data.specs.Units.{packets}
use Rattle.drm_data.specs.Joining.{JoinerEvent, Received, Gap, JoinerState, made, answer, after}
use Rattle.drm_data.proofs.Joinings.{one_event}
use Rattle.law_data.specs.Losses as losses
use Rattle.law_data.specs.Readings.{AreEvents}
use Rattle.law_data.specs.Runs.{answers, after_all, unit_in, tells_cut, with_unit, units_in, cuts_in}
use Rattle.law_data.proofs.LostPackets.{gives_what_is_whole}
use Rattle.mod_feed.specs.Items.{FrameItem}
use Rattle.cmd_unpack.specs.Streams.{PayloadKind, entries_at, reading}
use Rattle.cmd_unpack.proofs.Joining.{events_join}
use Rattle.law_unpack.specs.Frames.{FramePackets, packets_or_gap, events_of, packets_of, kept_of, ArePackets, ItemBringsFrame, BringAll}
use Rattle.law_unpack.specs.Laws.{GivesWhatFramesBring}
use Rattle.law_unpack.proofs.Alike.{Alike, same_cuts}
use Rattle.law_unpack.proofs.Kept.{AreMine, all_mine, alike, kept_size}

-- a joiner gives the same of both, and comes to the same
pub record Same (s : JoinerState) (xs ys : List JoinerEvent) : Type 0 where
  pub units : units_in (answers s xs) ≡ units_in (answers s ys)
  pub cuts : cuts_in (answers s xs) ≡ cuts_in (answers s ys)
  pub after : after_all s xs ≡ after_all s ys

pub same_one : (s : JoinerState) (e : JoinerEvent) (xs ys : List JoinerEvent) → Same (after s e) xs ys → Same s (e ∷ xs) (e ∷ ys)
same_one s e xs ys h = record { units = ap (with_unit (unit_in (answer s e))) h.units; cuts = ap (λ n. from_bool (tells_cut (answer s e)) + n) h.cuts; after = h.after }

pub same_front : (ps : List PacketFields) (s : JoinerState) (xs ys : List JoinerEvent) → ((t : JoinerState) → Same t xs ys) → Same s (map Received ps ++ xs) (map Received ps ++ ys)
same_front [] s xs ys h = h s
same_front (p ∷ ps) s xs ys h = same_one s (Received p) (map Received ps ++ xs) (map Received ps ++ ys) (same_front ps (after s (Received p)) xs ys h)

-- where no unit is open, gaps say nothing
pub none_said : (n : ℕ) → n ≡ 0 + n
none_said n = omega arith

pub gives_what_frames_bring : GivesWhatFramesBring
gives_what_frames_bring id d units frames some are_units are =
    let kept : losses.kept_of (kept_of frames) (packets_of frames) ≡ losses.kept_of (kept_of frames) (packets id d units) = ap (losses.kept_of (kept_of frames)) are in
    let mine = subst (AreMine id d) (sym are) (all_mine id d units) in
    let same = subst (λ l. Alike (made id d) (events_of frames) l) kept (alike id d frames true mine None) in
    let law = gives_what_is_whole id d units (kept_of frames) some are_units (kept_size true frames ∙ ap length are) in (
      same.units ∙ law.0,
      same_cuts (made id d) (events_of frames) (losses.kept_of (kept_of frames) (packets id d units)) same law.2 ∙ law.1,
      same.none law.2,
    )

-- ---- what the items bring

packets_events : (d : ℕ) (pieces : List (List ℕ)) (ps : List PacketFields) → ArePackets d pieces ps → AreEvents d (map Some pieces) (map Received ps)
packets_events d [] ps are = ap (map Received) are
packets_events d (bytes ∷ pieces) [] are = absurd are
packets_events d (bytes ∷ pieces) (p ∷ ps) are = (are.0, packets_events d pieces ps are.1)

frame_events : (what : PayloadKind) (d : ℕ) (g : Bool) (item : FrameItem) (ps : List PacketFields) → ItemBringsFrame what d g item ps → AreEvents d (entries_at what item) (packets_or_gap g ps)
frame_events what d true item ps (pieces, is, are) = subst (λ l. AreEvents d l (map Received ps)) (sym is) (packets_events d pieces ps are)
frame_events what d false item ps is = subst (λ l. AreEvents d l (Gap ∷ [])) (sym is) (refl, refl)

pub all_events : (what : PayloadKind) (d : ℕ) (items : List FrameItem) (frames : List FramePackets) → BringAll what d items frames → AreEvents d (reading what items) (events_of frames)
all_events what d [] frames is = ap events_of is
all_events what d (item ∷ items) [] bring = absurd bring
all_events what d (item ∷ items) (frame ∷ frames) bring =
    events_join d (entries_at what item) (reading what items) (packets_or_gap frame.given frame.packets) (events_of frames) (frame_events what d frame.given item frame.packets bring.0) (all_events what d items frames bring.1)

pub one_reading : (d : ℕ) (entries : List (Option (List ℕ))) (es fs : List JoinerEvent) → AreEvents d entries es → AreEvents d entries fs → es ≡ fs
one_reading d [] es fs a b = a ∙ sym b
one_reading d (None ∷ entries) [] fs a b = absurd a
one_reading d (Some x ∷ entries) [] fs a b = absurd a
one_reading d (None ∷ entries) (e ∷ es) [] a b = absurd b
one_reading d (Some x ∷ entries) (e ∷ es) [] a b = absurd b
one_reading d (None ∷ entries) (e ∷ es) (f ∷ fs) a b = ap₂ (λ y ys. y ∷ ys) (a.0 ∙ sym b.0) (one_reading d entries es fs a.1 b.1)
one_reading d (Some x ∷ entries) (e ∷ es) (f ∷ fs) a b = ap₂ (λ y ys. y ∷ ys) (one_event d x e f a.0 b.0) (one_reading d entries es fs a.1 b.1)
