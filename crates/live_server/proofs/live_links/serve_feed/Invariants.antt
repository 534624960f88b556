use Rattle.std.proofs.Common.{◌≡◌, false, List, length}
use Rattle.drm_schedule.specs.Live.{is_any}
use Rattle.drm_server.specs.Serving.{ServesFrames}
use Rattle.drm_server.specs.Stretch.{first_in}
use Rattle.live_server.specs.Feeding.{HasMade}
use Rattle.live_server.specs.Turns.{FeedTurn, TurnsCome, with_turns}
use Rattle.live_server.proofs.live_links.serve_feed.Given as goal

-- n frames were sent, with the bytes that came for them
abbrev pub invariant-loop-n : goal.invariant-loop-n
invariant-loop-n g l =
    HasMade l.live l.fn.server.base (first_in l.stretch) l.n l.ended (g.F.Pieces.input l.fn.feed) (g.F.Pieces.input l.feed)
    (λ p. ServesFrames p (first_in l.stretch) l.pace l.n (g.F.LiveFeed.up l.fn.feed) (g.F.LiveFeed.up l.feed) (g.F.LiveFeed.history l.fn.feed) (g.F.LiveFeed.history l.feed))
    × ((g.F.Pieces.input l.feed).faults ≡ (g.F.Pieces.input l.fn.feed).faults)
    × (l.server.base ≡ l.fn.server.base)
    × (length (g.F.LiveFeed.up l.feed) ≡ length (g.F.LiveFeed.up l.fn.feed))
    × (length l.scratch ≡ length l.fn.scratch)
    × (is_any l.fn.live ≡ false → (g.F.LiveFeed.source l.feed ≡ g.F.LiveFeed.source l.fn.feed) × (l.ended ≡ false))
    × (l.live ≡ l.fn.live)
    × (l.stretch ≡ l.fn.stretch)
    × (l.pace ≡ l.fn.pace)
    × ((turns : List FeedTurn) × TurnsCome l.live l.fn.server.base (first_in l.stretch) l.n l.ended turns × (g.F.Pieces.turns l.feed ≡ with_turns turns (g.F.Pieces.turns l.fn.feed)))
    × (g.F.LiveFeed.source_name l.feed ≡ g.F.LiveFeed.source_name l.fn.feed)
    × (g.F.LiveFeed.links_name l.feed ≡ g.F.LiveFeed.links_name l.fn.feed)
