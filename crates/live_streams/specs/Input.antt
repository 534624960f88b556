-- What of input is whose piece.
use Rattle.std.specs.Prelude.{ℕ, ◌+◌, ◌-◌, ◌&&◌, nat_le, if◌then◌else◌, List, length, take, drop, sum_by, None, Some}
use Rattle.std.specs.List.{range_with_len}
use Rattle.drm_schedule.specs.declared.live.Live.{Live}
use Rattle.drm_schedule.specs.declared.plan.Plan.{Plan}
use Rattle.drm_timeline.specs.Numbers.{frame_count}
use Rattle.live_streams.specs.Live.{LivePieces, piece_at}

-- how many bytes the pieces have together of the frames from `first` on that are before frame t
abbrev pub bytes_before : Live → Plan → ℕ → ℕ → ℕ
bytes_before live plan first t = sum_by (piece_at live plan) (range_with_len first (t - first))

-- and those of all frames from `first` on
abbrev pub bytes_for : Live → Plan → ℕ → ℕ
bytes_for live plan first = bytes_before live plan first (frame_count plan)

-- Where these bytes came, the frames from `first` on get theirs of them, one after another, as long as whole pieces are there.
abbrev pub pieces_of : Live → Plan → ℕ → List ℕ → LivePieces
pieces_of live plan first bytes t =
    if nat_le first t && nat_le (bytes_before live plan first t + piece_at live plan t) (length bytes)
    then Some (take (piece_at live plan t) (drop (bytes_before live plan first t) bytes))
    else None
