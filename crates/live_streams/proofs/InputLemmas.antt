-- Which bytes of input are the piece of a frame.
use Rattle.std.proofs.Common.{◌≡◌, ◌≤◌, ◌<◌, ◌+◌, ◌-◌, ◌&&◌, ◌⊎◌, inl, inr, ℕ, zero, suc, nat_le, Bool, true, false, List, [], ◌++◌, length, map, take, drop, sum_by, unwrap_or, Option, Some, None, if◌then◌else◌, refl, sym, ap, ◌∙◌, arith}
use Rattle.std.specs.List.{range_with_len}
use Rattle.std.proofs.lemmas.Bool.{cases_lt, le-leb, lt-leb, leb-true, and_from, and_left, and_right, and_parts}
use Rattle.std.proofs.lemmas.List.{map-id, length-append, length-take, length-take-le, length-drop, take_at, drop_at, take-take, drop-take}
use Rattle.std.proofs.lemmas.List.FromFn.{sum_by-map-range_with_len_more}
use Rattle.drm_schedule.specs.declared.live.Live.{Live}
use Rattle.drm_schedule.specs.declared.plan.Plan.{Plan}
use Rattle.drm_timeline.specs.Numbers.{frame_count}
use Rattle.live_streams.specs.Live.{AreWhole, piece_at}
use Rattle.live_streams.specs.Input.{bytes_before, bytes_for, pieces_of}

cases_le : (m n : ℕ) → (m ≤ n) ⊎ (n < m)
cases_le m n = elim (cases_lt n m) [ inl less ↦ inr less | inr within ↦ inl within ]

module _ (live : Live) (plan : Plan) (first : ℕ) where
  -- ---- how many bytes stand before a frame's

  pub offset_none : bytes_before live plan first first ≡ 0
  offset_none =
      let none : first - first ≡ 0 = omega arith in
      ap (λ n. sum_by (piece_at live plan) (range_with_len first n)) none

  pub offset_next : (t : ℕ) → first ≤ t → bytes_before live plan first (t + 1) ≡ bytes_before live plan first t + piece_at live plan t
  offset_next t behind =
      let at : ℕ → ℕ = piece_at live plan in
      let plain : (n : ℕ) → sum_by at (map (λ (m : ℕ). m) (range_with_len first n)) ≡ sum_by at (range_with_len first n) = λ n. ap (sum_by at) (map-id (range_with_len first n)) in
      let one_more : t + 1 - first ≡ t - first + 1 = omega (arith, behind) in
      ap (λ n. sum_by at (range_with_len first n)) one_more
      ∙ sym (plain (t - first + 1))
      ∙ sum_by-map-range_with_len_more at (λ (m : ℕ). m) first (t - first) t (omega (arith, behind))
      ∙ ap (λ n. n + at t) (plain (t - first))

  pub offset_grows : (s n : ℕ) → first ≤ s → bytes_before live plan first s ≤ bytes_before live plan first (s + n)
  offset_grows s zero behind = omega (arith, ap (bytes_before live plan first) (same s))
    where
      same : (s : ℕ) → s + 0 ≡ s
      same s = omega arith
  offset_grows s (suc n) behind =
      let next : s + suc n ≡ s + n + 1 = omega arith in
      omega (arith, offset_grows s n behind, offset_next (s + n) (omega (arith, behind)), ap (bytes_before live plan first) next)

  -- up to the end of a frame, no more than those of all frames
  pub offset_within : (t : ℕ) → first ≤ t → t < frame_count plan → bytes_before live plan first t + piece_at live plan t ≤ bytes_for live plan first
  offset_within t behind within =
      let end : t + 1 + (frame_count plan - (t + 1)) ≡ frame_count plan = omega (arith, within) in
      omega
      (arith, offset_next t behind, offset_grows (t + 1) (frame_count plan - (t + 1)) (omega (arith, behind)), ap (bytes_before live plan first) end)

  -- ---- the piece of a frame

  -- whether it came, where so many bytes did
  abbrev has_piece : ℕ → ℕ → Bool
  has_piece t count = nat_le first t && nat_le (bytes_before live plan first t + piece_at live plan t) count

  abbrev piece_in : ℕ → List ℕ → List ℕ
  piece_in t bytes = take (piece_at live plan t) (drop (bytes_before live plan first t) bytes)

  pub pieces_are_whole : (bytes : List ℕ) → AreWhole live (pieces_of live plan first bytes) plan
  pieces_are_whole bytes t piece is = by (has_piece t (length bytes)) refl is
    where
      by : (b : Bool) → has_piece t (length bytes) ≡ b → (if b then Some (piece_in t bytes) else None) ≡ Some piece → length piece ≡ piece_at live plan t
      by true so is =
          let enough : bytes_before live plan first t + piece_at live plan t ≤ length bytes = leb-true _ _ (and_parts (nat_le first t) _ so).1 in
          ap (λ o. length (unwrap_or o [])) (sym is)
          ∙ length-take-le (piece_at live plan t) (drop (bytes_before live plan first t) bytes) (omega (arith, enough, length-drop (bytes_before live plan first t) bytes))
      by false so is = absurd cc

  pub piece_here : (t : ℕ) (bytes before piece more : List ℕ) → bytes ≡ before ++ (piece ++ more) → first ≤ t → length before ≡ bytes_before live plan first t
      → length piece ≡ piece_at live plan t → pieces_of live plan first bytes t ≡ Some piece
  piece_here t bytes before piece more are behind offset size =
      let long : length bytes ≡ length before + (length piece + length more) =
      ap length are ∙ length-append before (piece ++ more) ∙ ap (λ n. length before + n) (length-append piece more) in
      ap (λ b. if b then Some (piece_in t bytes) else None)
      (and_from _ _ (le-leb first t behind) (le-leb _ _ (omega (arith, long, offset, size))))
      ∙ ap (λ l. Some (piece_in t l)) are
      ∙ ap (λ l. Some (take (piece_at live plan t) l)) (drop_at before (piece ++ more) (bytes_before live plan first t) offset)
      ∙ ap (λ l. Some l) (take_at piece more (piece_at live plan t) size)

  -- none where it is cut
  pub none_here : (t : ℕ) (bytes : List ℕ) → first ≤ t → length bytes < bytes_before live plan first (t + 1) → pieces_of live plan first bytes t ≡ None
  none_here t bytes behind short =
      ap (λ b. if b then Some (piece_in t bytes) else None)
      (and_right (nat_le first t) _ (lt-leb _ (length bytes) (omega (arith, short, offset_next t behind))))

  -- and none from there on
  pub none_later : (t s : ℕ) (bytes : List ℕ) → first ≤ t → t ≤ s → length bytes < bytes_before live plan first (t + 1) → pieces_of live plan first bytes s ≡ None
  none_later t s bytes behind later short =
      let next : t + 1 + (s - t) ≡ s + 1 = omega (arith, later) in
      none_here s bytes (omega (arith, behind, later))
      (omega (arith, short, offset_grows (t + 1) (s - t) (omega (arith, behind)), ap (bytes_before live plan first) next))

  -- and none before the first frame that reads
  pub none_ahead : (t : ℕ) (bytes : List ℕ) → t < first → pieces_of live plan first bytes t ≡ None
  none_ahead t bytes ahead =
      ap (λ b. if b then Some (piece_in t bytes) else None) (and_left (nat_le first t) _ (lt-leb first t ahead))

  -- ---- what comes behind the pieces of all frames is nobody's

  pub taken_is_enough : (t : ℕ) (bytes : List ℕ) → t < frame_count plan → pieces_of live plan first (take (bytes_for live plan first) bytes) t ≡ pieces_of live plan first bytes t
  taken_is_enough t bytes within = by (nat_le first t) refl
    where
      all : ℕ
      all = bytes_for live plan first

      offset : ℕ
      offset = bytes_before live plan first t

      size : ℕ
      size = piece_at live plan t

      given : Bool → Bool → List ℕ → Option (List ℕ)
      given behind enough from = if behind && enough then Some (take size (drop offset from)) else None

      here : first ≤ t → (offset + size ≤ length bytes) ⊎ (length bytes < offset + size)
          → given true (nat_le (offset + size) (length (take all bytes))) (take all bytes) ≡ given true (nat_le (offset + size) (length bytes)) bytes
      here behind (inl enough) =
          let fits : offset + size ≤ all = offset_within t behind within in
          let split : offset + (all - offset) ≡ all = omega (arith, fits) in
          ap (λ b. given true b (take all bytes)) (le-leb (offset + size) (length (take all bytes)) (omega (arith, enough, fits, length-take all bytes)))
          ∙ ap (λ n. Some (take size (drop offset (take n bytes)))) (sym split)
          ∙ ap (λ l. Some (take size l)) (drop-take offset (all - offset) bytes)
          ∙ ap (λ l. Some l) (take-take size (all - offset) (drop offset bytes) (omega (arith, fits)))
          ∙ sym (ap (λ b. given true b bytes) (le-leb (offset + size) (length bytes) enough))
      here behind (inr short) =
          ap (λ b. given true b (take all bytes)) (lt-leb (offset + size) (length (take all bytes)) (omega (arith, short, length-take all bytes)))
          ∙ sym (ap (λ b. given true b bytes) (lt-leb (offset + size) (length bytes) short))

      by : (b : Bool) → nat_le first t ≡ b → given b (nat_le (offset + size) (length (take all bytes))) (take all bytes) ≡ given b (nat_le (offset + size) (length bytes)) bytes
      by true is = here (leb-true first t is) (cases_le (offset + size) (length bytes))
      by false is = refl
