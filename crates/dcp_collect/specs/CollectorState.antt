-- The collector as data, and each of its calls as a function of it.
use Rattle.std.specs.Prelude.{ℕ, ℤ, pos, negsuc, ◌+ℤ◌, ◌-ℤ◌, ◌+◌, ◌^◌, ◌==◌, nat_le, nat_lt, Bool, true, false, ◌&&◌, ◌||◌, not, if◌then◌else◌, List, [], ◌∷◌, length, Option, Some, None, unwrap_or}
use Rattle.std.specs.List.{filter, find}
use Rattle.std.specs.Int.{int_rem_euclid}
use Rattle.dcp_collect.specs.declared.head.Head.{Head}
use Rattle.dcp_collect.specs.declared.taken.Taken.{Taken}
use Rattle.dcp_collect.specs.declared.taken.Field.TheVariants.{Far}
use Rattle.dcp_collect.specs.declared.taken.Taken.TheVariants.{Kept, Repeated, Late, Refused, Inconsistent}
use Rattle.dcp_collect.specs.Fragments.{NumberedFragment, agree, has_index, suffice, of_packet}
use Rattle.dcp_collect.specs.Reading.{Incoming, DatagramContent, Unread, Brings}
use Rattle.dcp_collect.specs.Numbers.{newer, end_of}

-- The window, how far a datagram may be ahead, the sequence number of number 0 and the newest number, if there are such, the
-- number of the packet that is given next, the fragments that are kept, by number and then by index, and the end, where it is
-- finished.
pub record CollectorState : Type 0 where
  pub window : ℕ
  pub reach : ℕ
  pub first : Option ℕ
  pub newest : Option ℕ
  pub next : ℕ
  pub kept : List NumberedFragment
  pub end : Option ℕ

-- a new collector
abbrev pub made : ℕ → ℕ → Option ℕ → CollectorState
made window reach first =
    record { window = window; reach = reach; first = first; newest = None; next = 0; kept = []; end = None }

-- Of all numbers with this sequence number the one nearest to the reference: from 32,768 below it to 32,767 above.
-- `first` is the sequence number of number 0.
unfoldable pub nearest : ℕ → ℕ → ℕ → ℤ
nearest first reference sequence =
    pos reference -ℤ pos 32768 +ℤ int_rem_euclid (pos sequence -ℤ pos first -ℤ pos reference +ℤ pos 32768) (pos 65536)

-- the number of a fragment's packet
abbrev pub number_of : CollectorState → Incoming → ℤ
number_of c incoming = nearest (unwrap_or c.first incoming.sequence) (unwrap_or c.newest 0) incoming.sequence

-- the newest number is at least n
abbrev pub reached : Option ℕ → ℕ → Bool
reached None n = false
reached (Some newest) n = nat_le n newest

-- n is above the newest number by more than this; where there is no newest number none is
abbrev pub is_above : Option ℕ → ℕ → ℕ → Bool
is_above None reach n = false
is_above (Some newest) reach n = nat_lt (newest + reach) n

-- the number is further ahead than a datagram may be
abbrev pub is_far : CollectorState → ℤ → Bool
is_far c (negsuc n) = false
is_far c (pos n) = is_above c.newest c.reach n

-- the packet is closed or was given, or the number is beyond all
abbrev pub is_late : CollectorState → ℕ → Bool
is_late c n = reached c.newest (n + c.window) || (nat_lt n c.next || nat_le (2 ^ 62) n)

-- by the first kept fragment that disagrees with it, if there is one, and by whether its index is kept
abbrev pub answer_by : Option NumberedFragment → Bool → Head → Taken
answer_by (Some f) repeated head = Inconsistent f.head head
answer_by None true head = Repeated
answer_by None false head = Kept

-- what a fragment of the packet with this number is to those that are kept of it
abbrev pub answer_among : List NumberedFragment → Head → Taken
answer_among fragments head =
    if suffice fragments then Repeated
    else answer_by (find (λ f. not (agree f.head head)) fragments) (has_index fragments head.index) head

-- what a fragment of the packet with this number is, however far ahead it may be
abbrev pub answer_within : CollectorState → ℤ → Head → Taken
answer_within c (negsuc n) head = Late
answer_within c (pos n) head = if is_late c n then Late else answer_among (of_packet n c.kept) head

-- what `take` answers for a fragment of the packet with this number
abbrev pub answer_at : CollectorState → ℤ → Head → Taken
answer_at c n head = if is_far c n then Refused Far else answer_within c n head

-- what `take` answers
abbrev pub answer : CollectorState → DatagramContent → Taken
answer c (Unread field) = Refused field
answer c (Brings incoming) = answer_at c (number_of c incoming) incoming.head

-- f stands before g: by number, then by index
abbrev pub is_before : NumberedFragment → NumberedFragment → Bool
is_before f g = nat_lt f.number g.number || ((f.number == g.number) && nat_lt f.head.index g.head.index)

abbrev pub insert_kept : NumberedFragment → List NumberedFragment → List NumberedFragment
insert_kept f [] = f ∷ []
insert_kept f (g ∷ gs) = if is_before f g then f ∷ g ∷ gs else g ∷ insert_kept f gs

-- with the fragment kept under this number
abbrev pub kept_at : CollectorState → ℤ → Incoming → CollectorState
kept_at c (negsuc n) incoming = c
kept_at c (pos n) incoming =
    record c {
      first = Some (unwrap_or c.first incoming.sequence);
      newest = newer c.newest n;
      kept = insert_kept (record { number = n; head = incoming.head; payload = incoming.payload }) c.kept;
    }

-- only what is kept changes the collector
abbrev pub after_answer : CollectorState → ℤ → Incoming → Taken → CollectorState
after_answer c n incoming Kept = kept_at c n incoming
after_answer c n incoming other = c

-- the collector after `take`
abbrev pub after_take : CollectorState → DatagramContent → CollectorState
after_take c (Unread field) = c
after_take c (Brings incoming) = after_answer c (number_of c incoming) incoming (answer c (Brings incoming))

-- the next item is ready: its packet can be made or is closed; after `finish`, it stands before the end
abbrev pub ready_by : Option ℕ → CollectorState → Bool
ready_by None c = suffice (of_packet c.next c.kept) || reached c.newest (c.next + c.window)
ready_by (Some end) c = nat_lt c.next end

abbrev pub ready : CollectorState → Bool
ready c = ready_by c.end c

-- the collector after an item was given
abbrev pub after_item : CollectorState → CollectorState
after_item c = record c { next = c.next + 1; kept = filter (λ f. not (f.number == c.next)) c.kept }

-- the collector after `next`
abbrev pub after_next : CollectorState → CollectorState
after_next c = if ready c then after_item c else c

-- `finish` sets the end
abbrev pub after_finish : CollectorState → Option ℕ → CollectorState
after_finish c upto = record c { end = Some (end_of upto c.newest) }

-- the count that the fragments of a packet have in their heads, 0 where there is none
abbrev pub count_of : List NumberedFragment → ℕ
count_of [] = 0
count_of (f ∷ fs) = f.head.count

-- the bytes that are kept
abbrev pub held : List NumberedFragment → ℕ
held [] = 0
held (f ∷ fs) = length f.payload + held fs
