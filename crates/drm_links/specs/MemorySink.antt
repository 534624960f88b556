-- A sink in memory.
use Rattle.std.specs.Prelude.{ℕ, ◌≡◌, ◌-◌, ◌<◌, ◌≤◌, ◌⊎◌, List, ◌++◌, length, take, min, Contains}
use Rattle.drm_links.specs.Known.{Known, one_more, contents_for}
use Rattle.drm_links.specs.Sink.{Output}
use Rattle.drm_links.specs.declared.sink.WriteOut.{WriteOut}
use Rattle.drm_links.specs.declared.sink.WriteOut.TheVariants.{Wrote, Failed}

-- the bytes written, the most bytes that it holds, the numbers of the calls, from 0, that are to fail, the most bytes
-- that a call takes, the number of calls so far, and how many of them failed
pub record SinkState : Type 0 where
  pub written : List ℕ
  pub room : ℕ
  pub failing : List ℕ
  pub piece : ℕ
  pub calls : ℕ
  pub faults : ℕ

abbrev pub sink_known : SinkState → Known Output
sink_known sink =
    record { faults = sink.faults; contents = contents_for sink.calls (record { written = sink.written; calls = sink.calls }) }

-- A call fails exactly where its number is to fail or no room is left, and then writes nothing. Any other call takes
-- as many bytes from the front as the piece and the room left allow.
abbrev pub MemSinkWrites : WriteOut → List ℕ → SinkState → SinkState → Type 0
MemSinkWrites (Wrote n) bytes before after =
    (Contains before.failing before.calls → ⊥)
    × (length before.written < before.room)
    × (n ≡ min (min (length bytes) before.piece) (before.room - length before.written))
    × (after ≡ record before { written = before.written ++ take n bytes; calls = one_more before.calls })
MemSinkWrites Failed bytes before after =
    (Contains before.failing before.calls ⊎ (before.room ≤ length before.written))
    × (after ≡ record before { calls = one_more before.calls; faults = one_more before.faults })
