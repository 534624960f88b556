-- What the stream of a frame, or what is said in the frame's place, is in a reading.
use Rattle.std.specs.Prelude.{ℕ, zero, suc, ◌+◌, ◌-◌, ◌/◌, ◌%◌, ◌==◌, nat_lt, nat_le, if◌then◌else◌, List, [], ◌∷◌, ◌++◌, length, take, drop, map, slice_index, Option, None, Some}
use Rattle.mdi_items.specs.Frame.{Frame as MdiFrame}
use Rattle.mod_feed.specs.Items.{FrameItem, Frame, Missing, Bad}

-- What is taken out of a stream: the units of a packet id, in packets of a data length; or text messages.
pub data PayloadKind : Type 0 where
  UnitsOf : (stream id length : ℕ) → PayloadKind
  TextsOf : (stream : ℕ) → PayloadKind

abbrev pub stream_in : PayloadKind → ℕ
stream_in (UnitsOf stream id length) = stream
stream_in (TextsOf stream) = stream

-- the bytes of a stream, where the frame has it
abbrev pub stream_of : ℕ → MdiFrame → List ℕ → Option (List ℕ)
stream_of k frame payload =
    if nat_lt k frame.mux.count then Some (take (slice_index frame.streams.len k) (drop (slice_index frame.streams.at k) payload)) else None

-- so many pieces of n bytes
abbrev pub cut_into : ℕ → ℕ → List ℕ → List (List ℕ)
cut_into n zero bytes = []
cut_into n (suc m) bytes = take n bytes ∷ cut_into n m (drop n bytes)

-- The pieces of a stream: those of a packet's size, where it is whole ones; of messages its last four bytes, where it has so many.
abbrev pub pieces_in : PayloadKind → List ℕ → Option (List (List ℕ))
pieces_in (UnitsOf stream id d) bytes = if length bytes % (d + 3) == 0 then Some (cut_into (d + 3) (length bytes / (d + 3)) bytes) else None
pieces_in (TextsOf stream) bytes = if nat_le 4 (length bytes) then Some (drop (length bytes - 4) bytes ∷ []) else None

abbrev pub pieces_of : PayloadKind → Option (List ℕ) → Option (List (List ℕ))
pieces_of what None = None
pieces_of what (Some bytes) = pieces_in what bytes

-- they, or a gap in their place
abbrev pub entries_of : Option (List (List ℕ)) → List (Option (List ℕ))
entries_of None = None ∷ []
entries_of (Some pieces) = map Some pieces

-- how many frames have none
abbrev pub lacking : Option (List (List ℕ)) → ℕ
lacking None = 1
lacking (Some pieces) = 0

-- the pieces of an item's stream
abbrev pub pieces_at : PayloadKind → MdiFrame → List ℕ → Option (List (List ℕ))
pieces_at what frame payload = pieces_of what (stream_of (stream_in what) frame payload)

-- What an item is in a reading: the pieces of its frame's stream, or a gap.
abbrev pub entries_at : PayloadKind → FrameItem → List (Option (List ℕ))
entries_at what (Frame index frame payload) = entries_of (pieces_at what frame payload)
entries_at what (Missing index had total) = None ∷ []
entries_at what (Bad index fault) = None ∷ []

-- how many bad items it is, and how many missing ones
abbrev pub bad_at : PayloadKind → FrameItem → ℕ
bad_at what (Frame index frame payload) = lacking (pieces_at what frame payload)
bad_at what (Missing index had total) = 0
bad_at what (Bad index fault) = 1

abbrev pub missing_at : FrameItem → ℕ
missing_at (Frame index frame payload) = 0
missing_at (Missing index had total) = 1
missing_at (Bad index fault) = 0

-- the reading that items make, and how many of them are bad and missing
abbrev pub reading : PayloadKind → List FrameItem → List (Option (List ℕ))
reading what [] = []
reading what (item ∷ items) = entries_at what item ++ reading what items

abbrev pub bad_in : PayloadKind → List FrameItem → ℕ
bad_in what [] = 0
bad_in what (item ∷ items) = bad_at what item + bad_in what items

abbrev pub missing_in : List FrameItem → ℕ
missing_in [] = 0
missing_in (item ∷ items) = missing_at item + missing_in items
