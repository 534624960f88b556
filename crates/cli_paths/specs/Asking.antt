-- The request of the texts of a command line, as a function.
use Rattle.std.specs.Prelude.{ℕ, nat_le, ◌&&◌, if◌then◌else◌, List, length, Option, Some, None, option_map, option_and_then}
use Rattle.drm_links.specs.declared.dock.Address.{Address}
use Rattle.cli_paths.specs.declared.request.PathsRequest.{PathsRequest}
use Rattle.cli_syntax.specs.Reading.{within}
use Rattle.cli_syntax.specs.Addressing.{◌>>=◌, addresses_of}
use Rattle.cli_paths.specs.CommandTexts.{CommandTexts, parse_of}

abbrev pub number_or : ℕ → ℕ → ℕ → Option (List ℕ) → Option ℕ
number_or default least greatest None = Some default
number_or default least greatest (Some text) = within least greatest text

abbrev pub number_or_none : ℕ → ℕ → Option (List ℕ) → Option (Option ℕ)
number_or_none least greatest None = Some None
number_or_none least greatest (Some text) = option_map Some (within least greatest text)

-- two to four of them
abbrev pub if_several : List Address → Option (List Address)
if_several list = if nat_le 2 (length list) && nat_le (length list) 4 then Some list else None

abbrev pub several_of : List ℕ → Option (List Address)
several_of text = option_and_then if_several (addresses_of text)

unfoldable pub request_of : CommandTexts → Option PathsRequest
request_of t = do
  addresses ← several_of t.addresses
  window ← number_or 8 1 64 t.window
  reach ← number_or 32767 1 32767 t.reach
  first ← number_or_none 0 65535 t.first
  frames ← number_or_none 1 3000000 t.frames
  idle ← number_or 50 1 1000000 t.idle
  limit ← number_or 1000000 1 1000000 t.limit
  Some (record {
    addresses = addresses;
    window = window;
    reach = reach;
    first = first;
    frames = frames;
    idle = idle;
    limit = limit;
  })

abbrev pub line_of : List (List ℕ) → Option PathsRequest
line_of words = option_and_then request_of (parse_of words)
