-- What becomes of datagrams that wait in a room for those behind them, so that a sink is called once for many.
use Rattle.std.specs.Prelude.{ℕ, suc, ◌≡◌, ◌≤◌, List, ◌++◌, length}
use Rattle.std.specs.List.{concat}
use Rattle.drm_schedule.specs.declared.plan.Plan.{Plan}
use Rattle.drm_links.specs.Known.{Known}
use Rattle.drm_links.specs.Sink.{Output, OutputsText, IsPrefix}
use Rattle.drm_server.specs.Datagrams.{AreOfFrame, AreFirst}

-- What waited, and these bytes behind it, was written, but for what waits now.
abbrev pub GathersDatagrams : List ℕ → List ℕ → List ℕ → Known Output → Known Output → Type 0
GathersDatagrams waited bytes waits before after = OutputsText before after (λ text. waited ++ bytes ≡ text ++ waits)

-- a front of some first datagrams of frame t
abbrev pub IsPrefixOfFrame : Plan → ℕ → List ℕ → Type 0
IsPrefixOfFrame plan t text = (i : ℕ) × (datagrams : List (List ℕ)) × AreFirst plan t (suc i) datagrams × IsPrefix (concat datagrams) text

-- The datagrams of frame t were written, and they are n.
abbrev pub WroteFrame : Plan → ℕ → ℕ → Known Output → Known Output → Type 0
WroteFrame plan t n before after =
    (datagrams : List (List ℕ)) × AreOfFrame plan t datagrams × (n ≡ length datagrams) × OutputsText before after (λ text. text ≡ concat datagrams)

-- so many bytes wait in a room that has place for so many more, once those that wait are written
pub record BytesWait (waiting more : ℕ) (bytes : List ℕ) : Type 0 where
  pub within : waiting ≤ length bytes
  pub room : more ≤ length bytes
