-- The command lines, each with its request.
use Rattle.std.specs.Prelude.{ℕ, ◌≤◌, ◌<◌, List, Option, None, Some, IsUtf8}
use Rattle.dcp_pft.specs.Carrying.{CarryFits}
use Rattle.drm_words.specs.Line.{IsLine}
use Rattle.drm_words.specs.declared.request.Request.{Request}
use Rattle.drm_words.specs.declared.request.Request.TheVariants.{Check, Capacity, Agree, Serve, Receive, Count, Air, Exercise, Convert, Gate, Pack, Unpack, Texts}
use Rattle.drm_links.specs.Dock.{AreDifferent}
use Rattle.drm_links.specs.Listed.{AreListed}
use Rattle.recv_reading.specs.Options.{AreInRange, IsWithinLimits}
use Rattle.recv_reading.specs.Values.{receive_options, packet_range}

-- the words are a command line with this request
abbrev pub AsksFor : Request → List (List ℕ) → Type 0
AsksFor request words = IsLine words request

-- the words are no command line
abbrev pub AsksForNothing : List (List ℕ) → Type 0
AsksForNothing words = (request : Request) → AsksFor request words → ⊥

-- its names are text, and its numbers are in their ranges
abbrev pub IsRequestInRange : Request → Type 0
IsRequestInRange (Check name) = IsUtf8 name
IsRequestInRange (Capacity name) = IsUtf8 name
IsRequestInRange (Agree name other) = IsUtf8 name × IsUtf8 other
IsRequestInRange (Serve name to pace from until live) = IsUtf8 name × AreDifferent to
IsRequestInRange (Receive (Some addresses) window reach first frames idle limit) = AreInRange (receive_options window reach first frames idle limit) × AreListed addresses
IsRequestInRange (Receive None window reach first frames idle limit) = AreInRange (receive_options window reach first frames idle limit)
IsRequestInRange (Count address window reach first frames idle limit) = AreInRange (receive_options window reach first frames idle limit)
IsRequestInRange (Air name script window) = IsUtf8 name × IsUtf8 script × (1 ≤ window) × (window ≤ 64)
IsRequestInRange (Exercise n) = (1 ≤ n) × (n ≤ 1000)
IsRequestInRange (Convert carry window reach first frames) = CarryFits carry × IsWithinLimits (packet_range window reach first frames)
IsRequestInRange (Gate from to carry window reach first frames idle limit) = CarryFits carry × AreInRange (receive_options window reach first frames idle limit) × AreListed to
IsRequestInRange (Pack pid length) = (pid < 4) × (1 ≤ length)
IsRequestInRange (Unpack stream pid length window reach first frames) = (stream < 4) × (pid < 4) × (1 ≤ length) × IsWithinLimits (packet_range window reach first frames)
IsRequestInRange (Texts stream window reach first frames) = (stream < 4) × IsWithinLimits (packet_range window reach first frames)
IsRequestInRange _ = Unit {0}
