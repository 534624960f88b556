-- A reading of a capture that ends with its input, or by the number of items, by its packets.
use Rattle.std.proofs.Common.{◌≡◌, ℕ, ◌+◌, ◌<◌, ◌≤◌, ◌⊎◌, inl, inr, nat_le, true, false, List, [], ◌∷◌, ◌++◌, length, map, take, Option, None, Some, refl, sym, ◌∙◌, ap, subst, arith, length-append, All}
use Rattle.std.specs.List.{concat}
use Rattle.std.proofs.lemmas.Bool.Decides.{nat_tests}
use Rattle.std.proofs.lemmas.List.{append-nil, append_cancel_right, length-map, length-take, take-map, take-append-le}
use Rattle.std.proofs.lemmas.List.Elements.{All-head, All-tail, filter_map-append}
use Rattle.recv_reading.proofs.Common.{Known, Answer, Datagram, Failed, End, datagram_of, Input, InputsBytes, Taken, CollectorState, made}
use Rattle.recv_reading.proofs.Common.{ready, CollectorItem, IsItem, CollectorSteps, ReceiveOptions, EndWord, datagrams, CollectorGave, HasGiven, HaveEnded}
use Rattle.recv_reading.proofs.Common.{ReadingEndsBy, ReadingGoesOn, IsReadingBroken, ReadingState, is_full, has_enough, ReadingReached}
use Rattle.capture_reader.specs.declared.packets.CaptureStop.{CaptureStop}
use Rattle.capture_reader.specs.Front.{IsWhole, Af, Pft, Other}
use Rattle.capture_reader.specs.Capture as capture
use Rattle.capture_reader.specs.Capture.{most_bytes}
use Rattle.capture_reader.specs.Walking.{WalkerState}
use Rattle.capture_reader.specs.Reading.{HasRead}
use Rattle.recv_reading.specs.declared.reason.EndWord.TheVariants as word
use Rattle.recv_reading.specs.Ending.{idles, ComesTo}
use Rattle.recv_reading.specs.Source.{ReadSoFar, HeardUntil}
use Rattle.recv_reading.specs.Packets as taking
use Rattle.recv_reading.specs.Packets.{range_of, HasEnough, NoneShorter, AreEnough, ComesAt, AreReadBy}
use Rattle.recv_reading.specs.Given.{GivesAll, GivesUntil, GivesTo}
use Rattle.recv_reading.proofs.Going.{last_ends}
use Rattle.recv_reading.proofs.Reaching.{full_is}
use Rattle.recv_reading.proofs.Finishing.{Finishes, Stands, stands}
use Rattle.recv_reading.proofs.Ways.{lacks_before}

-- ---- the answers that packets are

pub datagrams_are : (packets : List (List ℕ)) → datagrams (map Datagram packets) ≡ packets
datagrams_are [] = refl
datagrams_are (p ∷ packets) = ap (λ l. p ∷ l) (datagrams_are packets)

datagrams_last : (packets : List (List ℕ)) (x : Answer) → datagram_of x ≡ None → datagrams (map Datagram packets ++ x ∷ []) ≡ packets
datagrams_last [] x none = by (datagram_of x) none
  where
    by : (o : Option (List ℕ)) → o ≡ None → datagrams (x ∷ []) ≡ []
    by o is = rw none refl
datagrams_last (p ∷ packets) x none = ap (λ l. p ∷ l) (datagrams_last packets x none)

no_idles : (packets : List (List ℕ)) → idles (map Datagram packets) ≡ 0
no_idles [] = refl
no_idles (p ∷ packets) = no_idles packets

not_ended : (packets : List (List ℕ)) → HaveEnded (map Datagram packets) → ⊥
not_ended [] ([], e) = cc
not_ended [] (b ∷ before, e) = cc
not_ended (p ∷ packets) ([], e) = cc
not_ended (p ∷ packets) (b ∷ before, e) = not_ended packets (before, cc)

-- ---- enough

module _ (options : ReceiveOptions) where
  enough_given : (packets : List (List ℕ)) (answers : List Answer) → datagrams answers ≡ packets → HasEnough (range_of options) packets → HasGiven options answers options.frames
  enough_given packets answers are (taken, items, end, steps, full) = by options.frames full
    where
      by : (frames : Option ℕ) → is_full frames (length items) ≡ true → HasGiven options answers frames
      by None full = absurd (let clash : false ≡ true = full in cc)
      by (Some n) full = (taken, items, end, subst (λ l. CollectorSteps (made options.window options.reach options.first) l taken items end) (sym are) steps, (let f : nat_le n (length items) ≡ true = full in grind (arith, nat_tests)))

  given_enough : (packets : List (List ℕ)) (answers : List Answer) → datagrams answers ≡ packets → HasGiven options answers options.frames → HasEnough (range_of options) packets
  given_enough packets answers are given = by options.frames refl given
    where
      by : (frames : Option ℕ) → options.frames ≡ frames → HasGiven options answers frames → HasEnough (range_of options) packets
      by None is given = absurd given
      by (Some n) is (taken, items, end, steps, many) = (
        taken,
        items,
        end,
        subst (λ l. CollectorSteps (made options.window options.reach options.first) l taken items end) are steps,
        ap (λ o. is_full o (length items)) is ∙ (let m : n ≤ length items = many in grind (arith, nat_tests)),
      )

  none_shorter : (packets : List (List ℕ)) (rest : List Answer) → ReadingGoesOn options (map Datagram packets ++ rest) → NoneShorter (range_of options) packets
  none_shorter packets rest goes k below enough =
      let size : length (map Datagram packets) ≡ length packets = length-map packets Datagram in
      let long : length (map Datagram packets ++ rest) ≡ length (map Datagram packets) + length rest = length-append (map Datagram packets) rest in
      let front : take k (map Datagram packets ++ rest) ≡ map Datagram (take k packets) =
      take-append-le k (map Datagram packets) rest (omega (arith, below, size)) ∙ take-map Datagram k packets in
      goes.shorter k (omega (arith, below, size, long)) word.Frames
      (enough_given (take k packets) (take k (map Datagram packets ++ rest)) (ap datagrams front ∙ datagrams_are (take k packets)) enough)

-- ---- what is given

whole_some : (packet : List ℕ) → IsWhole packet → 1 ≤ length packet
whole_some packet (Af is front) = omega (arith, front.0)
whole_some packet (Pft is front) = omega (arith, ap length is, length-take 2 packet)
whole_some packet (Other not_af not_pft front) = absurd front

fewer_packets : (packets : List (List ℕ)) → All IsWhole packets → length packets ≤ length (concat packets)
fewer_packets [] whole = omega arith
fewer_packets (p ∷ packets) whole =
    let rest = fewer_packets packets (All-tail IsWhole p packets whole) in
    omega (arith, rest, whole_some p (All-head IsWhole p packets whole), length-append p (concat packets))

-- what was read so far, by the datagrams among its answers
abbrev ReadAs : WalkerState → Known Input → Known Input → List Answer → Type 0
ReadAs reader before after answers =
    (HasRead (datagrams answers) reader before after × (answers ≡ map Datagram (datagrams answers)))
    ⊎ (InputsBytes before after (λ left rest. capture.IsCaptureOf left (datagrams answers) capture.End) × (answers ≡ map Datagram (datagrams answers) ++ End ∷ []))

read_as : (reader : WalkerState) (before after : Known Input) (answers : List Answer) → ReadSoFar reader before after answers → ReadAs reader before after answers
read_as reader before after answers (packets, inl (has, are)) =
    let same : packets ≡ datagrams answers = sym (ap datagrams are ∙ datagrams_are packets) in
    inl (subst (λ l. HasRead l reader before after) same has, subst (λ l. answers ≡ map Datagram l) same are)
read_as reader before after answers (packets, inr (ended, are)) =
    let same : packets ≡ datagrams answers = sym (ap datagrams are ∙ datagrams_last packets End refl) in
    inr (subst (λ l. InputsBytes before after (λ left rest. capture.IsCaptureOf left l capture.End)) same ended, subst (λ l. answers ≡ map Datagram l ++ End ∷ []) same are)

-- ---- where an item comes

pub comes_to : (options : ReceiveOptions) (answers later : List Answer) (mid state : CollectorState) → ComesTo options answers later mid state → taking.ComesTo (range_of options) (datagrams later) mid state
comes_to options answers later mid state (inl (bytes, answer, is, takes)) = inl (bytes, answer, ap datagrams is, takes)
comes_to options answers later mid state (inr (why, none, ends, is)) = inr (ap datagrams none, is)

abbrev pub stands_at : (options : ReceiveOptions) (answers : List Answer) (during more : List CollectorItem) (c : CollectorState) (item : CollectorItem) → Stands options answers during more c → ready c ≡ true → IsItem c item
    → ComesAt (range_of options) (datagrams answers) (during ++ more) item c
stands_at options answers during more c item s now is = record {
  before = datagrams s.before;
  later = datagrams s.later;
  are = ap datagrams s.are ∙ filter_map-append datagram_of s.before s.later;
  taken = s.taken;
  during = during;
  mid = s.mid;
  steps = s.gave;
  state = s.state;
  comes = comes_to options answers s.later s.mid s.state s.comes;
  more = more;
  gives = s.gives;
  items_are = refl;
  is_ready = now;
  is_next = is;
}

module _ (options : ReceiveOptions) (answers : List Answer) (taken : List Taken) (during more : List CollectorItem) (r : ReadingState) (c : CollectorState) (z : ReadingReached options answers taken during more r c)
    (far : most_bytes < options.limit) (reader : WalkerState) (before after : Known Input) where
  shorter : ReadAs reader before after answers → ReadingGoesOn options answers → NoneShorter (range_of options) (datagrams answers)
  shorter (inl (has, are)) goes = none_shorter options (datagrams answers) [] (subst (ReadingGoesOn options) (are ∙ sym (append-nil (map Datagram (datagrams answers)))) goes)
  shorter (inr (ended, are)) goes = none_shorter options (datagrams answers) (End ∷ []) (subst (ReadingGoesOn options) are goes)

  -- a capture ends neither by idle answers nor by the number of its packets
  input_ends : (why : EndWord) → ReadAs reader before after answers → ReadingEndsBy options answers why → (why ≡ word.Frames → ⊥)
      → InputsBytes before after (λ left rest. capture.IsCaptureOf left (datagrams answers) capture.End)
  input_ends why (inr (ended, are)) ends other = ended
  input_ends word.Frames (inl read) ends other = absurd (other refl)
  input_ends word.Limit (inl (has, are)) ends other =
      let few = fewer_packets (datagrams answers) has.whole in
      let all : length (datagrams answers) ≡ options.limit = ends.0 in
      absurd (omega (arith, few, all, has.at, has.few, far))
  input_ends word.Idle (inl (has, are)) ends other =
      let none : idles answers ≡ 0 = ap idles are ∙ no_idles (datagrams answers) in
      let least : options.idle ≤ idles answers = ends.0 in
      let some : 1 ≤ options.idle = z.usable.idle in
      absurd (omega (arith, none, least, some))
  input_ends word.Input (inl (has, are)) ends other = absurd (not_ended (datagrams answers) (subst HaveEnded are ends.0))
  input_ends word.Paths (inl read) ends other = absurd ends

  -- ---- an item comes

  are_read : (item : CollectorItem) (now : ready c ≡ true) (is : IsItem c item) (s : Stands options answers during more c) → is_full options.frames (length (during ++ more)) ≡ false
      → ReadAs reader before after answers → AreReadBy (datagrams s.later) (datagrams answers) before after
  are_read item now is s room read = by s.comes read
    where
      by : ComesTo options answers s.later s.mid s.state → ReadAs reader before after answers → AreReadBy (datagrams s.later) (datagrams answers) before after
      by (inl (bytes, answer, last, takes)) (inl (has, are)) = subst (λ l. AreReadBy (datagrams l) (datagrams answers) before after) (sym last) (reader, has)
      by (inl (bytes, answer, last, takes)) (inr (ended, are)) =
          let clash : Datagram bytes ≡ End = last_ends s.before (map Datagram (datagrams answers)) (Datagram bytes) (ap (λ l. s.before ++ l) (sym last) ∙ sym s.are ∙ are) in
          absurd (cc)
      by (inr (why, none, ends, finished)) read =
          let all : answers ≡ s.before = s.are ∙ ap (λ l. s.before ++ l) none ∙ append-nil s.before in
          let lacks : HasGiven options answers options.frames → ⊥ =
          λ given. lacks_before (range_of options) (datagrams answers) (during ++ more) item c (stands_at options answers during more c item s now is) room
          (given_enough options (datagrams s.before) answers (ap datagrams all) given) in
          subst (λ l. AreReadBy (datagrams l) (datagrams answers) before after) (sym none) (input_ends why read ends (λ frames. lacks (subst (ReadingEndsBy options answers) frames ends)))

  -- it comes where the collector is now
  abbrev GivesAt : CollectorItem → Type 0
  GivesAt item = (gives : GivesTo (range_of options) (during ++ more) item before after) × (gives.last ≡ c)

  pub gives_to : (item : CollectorItem) → has_enough r ≡ false → ready c ≡ true → IsItem c item → ReadSoFar reader before after answers → GivesAt item
  gives_to item enough now is so_far =
      let read = read_as reader before after answers so_far in
      let s = stands options answers taken during more r c z now in
      let room = full_is options answers taken during more r c z ∙ enough in (
        record {
          last = c;
          packets = datagrams answers;
          at = stands_at options answers during more c item s now is;
          read = are_read item now is s room read;
          shorter = shorter read z.goes_on;
          within = room;
        },
        refl,
      )

  -- ---- all is given

  -- and number 0 has the sequence number that the collector knows
  abbrev GivesWhole : Type 0
  GivesWhole = (gives : GivesAll (range_of options) (during ++ more) before after) × (gives.run.mid.first ≡ c.first)

  pub gives_all : (why : EndWord) → Finishes options answers taken (during ++ more) c why → ReadSoFar reader before after answers → GivesWhole
  gives_all why f so_far =
      let read = read_as reader before after answers so_far in
      (record { packets = datagrams answers; enough = by why f.reading.ends read; shorter = shorter read f.reading.goes_on; taken = taken; run = f.run }, f.first)
    where
      by : (w : EndWord) → ReadingEndsBy options answers w → ReadAs reader before after answers → AreEnough (range_of options) (datagrams answers) before after
      by w ends (inr (ended, are)) = inr ended
      by word.Frames ends (inl (has, are)) = inl ((reader, has), given_enough options (datagrams answers) answers refl ends)
      by word.Limit ends (inl read) = inr (input_ends word.Limit (inl read) ends (λ clash. cc))
      by word.Idle ends (inl read) = inr (input_ends word.Idle (inl read) ends (λ clash. cc))
      by word.Input ends (inl read) = inr (input_ends word.Input (inl read) ends (λ clash. cc))
      by word.Paths ends (inl read) = absurd ends

-- ---- no more can be read

pub gives_until : (options : ReceiveOptions) (answers : List Answer) (taken : List Taken) (items : List CollectorItem) (c : CollectorState) (stop : CaptureStop) (before after : Known Input)
    → HeardUntil stop before after (answers ++ Failed ∷ []) → IsReadingBroken options answers (answers ++ Failed ∷ []) → CollectorGave options answers taken items c → (gives : GivesUntil (range_of options) stop items before after) × (gives.mid ≡ c)
gives_until options answers taken items c stop before after (packets, whole, stops, are) broken gave =
    let same : answers ≡ map Datagram packets = append_cancel_right answers (map Datagram packets) (Failed ∷ []) are in
    let those : datagrams answers ≡ packets = ap datagrams same ∙ datagrams_are packets in (
      record {
        packets = packets;
        whole = whole;
        stops = stops;
        lacks = λ enough. broken.is_open word.Frames (enough_given options packets answers those enough);
        shorter = none_shorter options packets [] (subst (ReadingGoesOn options) (same ∙ sym (append-nil (map Datagram packets))) broken.goes_on);
        taken = taken;
        mid = c;
        steps = subst (λ l. CollectorSteps (made options.window options.reach options.first) l taken items c) those gave;
      },
      refl,
    )
