-- What a stream whose bytes are known gives and takes.
use Rattle.std.specs.Prelude.{ℕ, List, take, Option}
use Rattle.std.specs.Io.KnownBytes.{Consumes, IsAtEnd, Appends, Keeps}
use Rattle.drm_links.specs.declared.source.ReadOut.{ReadOut}
use Rattle.drm_links.specs.declared.source.ReadOut.TheVariants as reading
use Rattle.drm_links.specs.declared.sink.WriteOut.{WriteOut}
use Rattle.drm_links.specs.declared.sink.WriteOut.TheVariants as writing

-- The next bytes are those at the front of the buffer; the end comes where none is left; a failed read takes none.
abbrev pub StreamReads : ReadOut → List ℕ → Option (List ℕ) → Option (List ℕ) → Type 0
StreamReads (reading.Got n) buf old new = Consumes old new (take n buf)
StreamReads reading.End buf old new = IsAtEnd old
StreamReads reading.Failed buf old new = Keeps old new

-- The first bytes are appended; a failed write appends none.
abbrev pub StreamWrites : WriteOut → List ℕ → Option (List ℕ) → Option (List ℕ) → Type 0
StreamWrites (writing.Wrote n) bytes old new = Appends old new (take n bytes)
StreamWrites writing.Failed bytes old new = Keeps old new
