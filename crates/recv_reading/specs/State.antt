-- A reading as data.
use Rattle.std.specs.Prelude.{ℕ, ◌+◌, ◌-◌, ◌*◌, ◌^◌, Bool, true, false, nat_le, Option, None, Some}
use Rattle.dcp_collect.specs.CollectorState.{CollectorState}
use Rattle.recv_reading.specs.declared.options.Bounds.{Bounds}
use Rattle.recv_reading.specs.declared.reason.EndWord.{EndWord}
use Rattle.recv_reading.specs.declared.reason.EndWord.TheVariants.{Frames}

-- When it ends; how many datagrams were taken, how many idle answers came since, and how many items were given; and why it
-- has ended, where that isn't the number of frames.
pub record ReadingState : Type 0 where
  pub bounds : Bounds
  pub taken : ℕ
  pub idles : ℕ
  pub given : ℕ
  pub end : Option EndWord

abbrev pub new_reading : Bounds → ReadingState
new_reading bounds = record { bounds = bounds; taken = 0; idles = 0; given = 0; end = None }

-- as many items as are asked for
abbrev pub is_full : Option ℕ → ℕ → Bool
is_full None n = false
is_full (Some frames) n = nat_le frames n

abbrev pub has_enough : ReadingState → Bool
has_enough r = is_full r.bounds.frames r.given

abbrev pub ended_or : Option EndWord → Bool → Bool
ended_or None enough = enough
ended_or (Some word) enough = true

-- no more is read
abbrev pub has_ended : ReadingState → Bool
has_ended r = ended_or r.end (has_enough r)

-- why no more is read
abbrev pub word_of : Option EndWord → EndWord
word_of None = Frames
word_of (Some word) = word

abbrev pub one_given : ReadingState → ReadingState
one_given r = record r { given = r.given + 1 }

abbrev pub one_taken : ReadingState → ReadingState
one_taken r = record r { taken = r.taken + 1; idles = 0 }

abbrev pub one_idle : ReadingState → ReadingState
one_idle r = record r { idles = r.idles + 1 }

abbrev pub ended_by : EndWord → ReadingState → ReadingState
ended_by word r = record r { end = Some word }

abbrev pub still_open : Option EndWord → ℕ
still_open None = 1
still_open (Some word) = 0

-- how many calls lie ahead at the most: each gives an item, takes an answer or ends the reading
unfoldable pub ahead : ReadingState → CollectorState → ℕ
ahead r c = (2 ^ 62 - c.next) + ((r.bounds.limit - r.taken) * r.bounds.idle + ((r.bounds.idle - r.idles) + still_open r.end))
