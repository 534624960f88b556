-- Where a reading has ended, and how far it came where it is broken off.
use Rattle.std.proofs.Common.{◌≡◌, ℕ, ◌+◌, ◌^◌, ◌<◌, ◌≤◌, ◌⊎◌, inl, inr, nat_le, Bool, true, false, List, [], ◌∷◌, ◌++◌, length, Option, None, Some, IfSome, refl, sym, ◌∙◌, ap, subst, arith, append_assoc, length-append}
use Rattle.std.proofs.lemmas.Bool.{true≢false}
use Rattle.std.proofs.lemmas.Bool.Decides.{nat_tests}
use Rattle.std.proofs.lemmas.List.{append-nil, take_all, take_at}
use Rattle.recv_reading.proofs.Common.{Answer, Datagram, Taken, CollectorState, made, ready, after_finish, CollectorItem, CollectorGives, CollectorRun, up_to, CollectorInvariant}
use Rattle.recv_reading.proofs.Common.{GivesSoFar, ReceiveOptions, EndWord, datagrams, CollectorGave, HasGiven, IsFinished, ReadingState}
use Rattle.recv_reading.proofs.Common.{is_full, has_enough, has_ended, word_of, ReadingReached, ReadingWaits}
use Rattle.dcp_collect.proofs.Decoded.{decoded_or_none}
use Rattle.law_collect.specs.Laws.{GivingEnds}
use Rattle.law_collect.proofs.Ending.{giving_ends}
use Rattle.law_collect.proofs.Runs.{gives_after, gives_given}
use Rattle.law_collect.proofs.Fit.{fit_given}
use Rattle.recv_reading.specs.declared.reason.EndWord.TheVariants as word
use Rattle.recv_reading.specs.Ending.{ComesTo, GivesSome}
use Rattle.recv_reading.specs.State.{ended_or, one_given}
use Rattle.recv_reading.specs.ReadingReached.{IsDrained, IsAmid, IsEnding, ComesIn, GivesNext}
use Rattle.recv_reading.proofs.First.{given_first}
use Rattle.recv_reading.proofs.Giving.{steps_many}
use Rattle.recv_reading.proofs.Reaching.{amid_gave, full_is}
use Rattle.recv_reading.proofs.Going.{datagrams_more}

pub giving : GivingEnds
giving = giving_ends decoded_or_none

-- ---- up to the number of frames

-- a list that isn't longer than is asked for
pub up_to_all : (frames : Option ℕ) (items : List CollectorItem) → IfSome frames (λ n. length items ≤ n) → up_to frames items ≡ items
up_to_all None items below = refl
up_to_all (Some n) items below = take_all n items below

-- one that is as long as is asked for, and more behind it
pub up_to_full : (frames : Option ℕ) (items more : List CollectorItem) → IfSome frames (λ n. length items ≤ n) → is_full frames (length items) ≡ true → up_to frames (items ++ more) ≡ items
up_to_full None items more below full = absurd (let clash : false ≡ true = full in cc)
up_to_full (Some n) items more below full =
    let many : length items ≡ n = grind (arith, nat_tests) in
    take_at items more n many

enough_given : (options : ReceiveOptions) (answers : List Answer) (taken : List Taken) (items : List CollectorItem) (c : CollectorState) (frames : Option ℕ) (m : ℕ)
    → CollectorGave options answers taken items c → is_full frames m ≡ true → m ≤ length items → HasGiven options answers frames
enough_given options answers taken items c None m gave full most = absurd (let clash : false ≡ true = full in cc)
enough_given options answers taken items c (Some n) m gave full most =
    let l : n ≤ m = (let f : nat_le n m ≡ true = full in grind (arith, nat_tests)) in
    (taken, items, c, gave, omega (arith, l, most))

-- ---- a reading that has ended

-- Nothing more is given: as many items were as are asked for, or none is ready.
abbrev pub IsOver : ReadingState → CollectorState → Type 0
IsOver r c = (has_enough r ≡ true) ⊎ (ready c ≡ false)

-- ---- what `gives` answers

pub gives_so : (b : Bool) (r : ReadingState) (c : CollectorState) (s : ReadingState) → GivesNext b r c s → b ≡ true
    → (has_enough r ≡ false) × (ready c ≡ true) × (c.next < 2 ^ 62) × (s ≡ one_given r)
gives_so true r c s gives is = gives
gives_so false r c s gives is = absurd (let clash : false ≡ true = is in cc)

pub gives_none : (b : Bool) (r : ReadingState) (c : CollectorState) (s : ReadingState) → GivesNext b r c s → b ≡ false → IsOver r c × (s ≡ r)
gives_none true r c s gives is = absurd (let clash : true ≡ false = is in cc)
gives_none false r c s gives is = gives

-- what gives nothing and hasn't ended waits
pub waits_now : (r : ReadingState) (c : CollectorState) → IsOver r c → has_ended r ≡ false → ReadingWaits r c
waits_now r c (inr none) open_ = record { is_open = open_; none_ready = none }
waits_now r c (inl enough) open_ = absurd (true≢false (sym (by r.end) ∙ open_))
  where
    by : (end : Option EndWord) → ended_or end (has_enough r) ≡ true
    by None = enough
    by (Some why) = refl

-- How far it came: these were given before the last answer, and these of what it made ready.
pub record Stands (options : ReceiveOptions) (answers : List Answer) (during more : List CollectorItem) (c : CollectorState) : Type 0 where
  pub before : List Answer
  pub later : List Answer
  pub are : answers ≡ before ++ later
  pub taken : List Taken
  pub mid : CollectorState
  pub gave : CollectorGave options before taken during mid
  pub state : CollectorState
  pub comes : ComesTo options answers later mid state
  pub gives : GivesSoFar state more c

-- What ends a reading, and what was given in all.
pub record Finishes (options : ReceiveOptions) (answers : List Answer) (taken : List Taken) (items : List CollectorItem) (c : CollectorState) (why : EndWord) : Type 0 where
  pub reading : IsFinished options answers why
  pub run : CollectorRun options.window options.reach options.first options.frames (datagrams answers) taken items
  pub first : run.mid.first ≡ c.first

module _ (options : ReceiveOptions) (answers : List Answer) (taken : List Taken) (during more : List CollectorItem) (r : ReadingState) (c : CollectorState) (z : ReadingReached options answers taken during more r c) where
  abbrev items : List CollectorItem
  items = during ++ more

  below : IfSome options.frames (λ n. length items ≤ n)
  below = subst (λ k. IfSome options.frames (λ n. k ≤ n)) (sym z.given_are) z.below

  full_of : has_enough r ≡ true → is_full options.frames (length items) ≡ true
  full_of h = full_is options answers taken during more r c z ∙ h

  -- what is left is given to its end, and it is no more than is asked for
  left : IsOver r c → (rest : List CollectorItem) × (last : CollectorState) × CollectorGives c rest last × (up_to options.frames (items ++ rest) ≡ items)
  left (inl enough) =
      let more = giving c z.fit.0 z.fit.1 in
      (more.0, more.1, more.2, up_to_full options.frames items more.0 below (full_of enough))
  left (inr none) = ([], c, (none, refl), ap (up_to options.frames) (append-nil items) ∙ up_to_all options.frames items below)

  over_ending : (why : EndWord) → IsOver r c → IsEnding options answers taken during more why c → Finishes options answers taken items c why
  over_ending why over e =
      let (rest, last, gives, same) = left over in
      record {
        reading = record { goes_on = z.goes_on; ends = e.ends };
        run = record {
          during = during;
          rest = more ++ rest;
          mid = e.mid;
          after = last;
          steps = e.drained.gave;
          gives = gives_after more rest (after_finish e.mid options.frames) c last e.gives gives;
          are = sym (ap (up_to options.frames) (sym (append_assoc during more rest)) ∙ same);
        };
        first = sym (given_first more (after_finish e.mid options.frames) c e.gives);
      }

  over_amid : has_enough r ≡ true → IsAmid options answers taken during more c → Finishes options answers taken items c word.Frames
  over_amid enough a =
      let others = giving c z.fit.0 z.fit.1 in
      let rest : List CollectorItem = others.0 in
      let end : CollectorState = others.1 in
      let fits : CollectorInvariant end = fit_given rest c end others.2 z.fit in
      let last = giving (after_finish end options.frames) fits.0 fits.1 in
      let gave : CollectorGave options answers taken (items ++ rest) end =
      subst (λ l. CollectorGave options answers taken l end) (sym (append_assoc during more rest))
      (amid_gave options answers taken during more (more ++ rest) c end a (gives_after more rest a.kept c end a.gives others.2)) in
      record {
        reading = record {
          goes_on = z.goes_on;
          ends = enough_given options answers taken (items ++ rest) end options.frames (length items) gave (full_of enough) (omega (arith, length-append items rest));
        };
        run = record {
          during = items ++ rest;
          rest = last.0;
          mid = end;
          after = last.1;
          steps = gave;
          gives = last.2;
          are = sym (ap (up_to options.frames) (append_assoc items rest last.0) ∙ up_to_full options.frames items (rest ++ last.0) below (full_of enough));
        };
        first = given_first rest c end (gives_given rest c end others.2).0;
      }

  -- a reading that has ended and gives nothing more
  pub finishes : has_ended r ≡ true → IsOver r c → Finishes options answers taken items c (word_of r.end)
  finishes ended over = by r.end ended z.comes
    where
      by : (end : Option EndWord) → ended_or end (has_enough r) ≡ true → ComesIn options answers taken during more end c → Finishes options answers taken items c (word_of end)
      by None enough (goes, inl (none, d)) = absurd (true≢false (sym (full_of enough) ∙ ap (λ (l : List CollectorItem). is_full options.frames (length l)) (ap (λ l. during ++ l) none ∙ append-nil during) ∙ d.room))
      by None enough (goes, inr a) = over_amid enough a
      by (Some why) ended e = over_ending why over e

  -- no more than is asked for
  pub all_given : up_to options.frames items ≡ items
  all_given = up_to_all options.frames items below

  during_below : (frames : Option ℕ) → IfSome frames (λ n. length items ≤ n) → IfSome frames (λ n. length during ≤ n)
  during_below None most = tt
  during_below (Some n) most = let l : length items ≤ n = most in omega (arith, l, length-append during more)

  -- each datagram has its answer
  pub answers_many : length taken ≡ length (datagrams answers)
  answers_many = by r.end z.comes
    where
      drained_many : (xs : List Answer) (ts : List Taken) (ys : List CollectorItem) (d : CollectorState) → IsDrained options xs ts ys d → length ts ≡ length (datagrams xs)
      drained_many xs ts ys d all = steps_many (made options.window options.reach options.first) d (datagrams xs) ts ys all.gave

      by : (end : Option EndWord) → ComesIn options answers taken during more end c → length taken ≡ length (datagrams answers)
      by None (goes, inl (none, d)) = drained_many answers taken during c d
      by None (goes, inr a) =
          let before = drained_many a.before a.earlier during a.mid a.drained in
          ap length a.taken_are ∙ length-append a.earlier (a.answer ∷ []) ∙ ap (λ k. k + 1) before ∙ sym (datagrams_more a.before a.bytes) ∙ sym (ap (λ l. length (datagrams l)) a.are)
      by (Some why) e = drained_many answers taken during e.mid e.drained

  -- ---- how far it came

  -- where nothing was given since the last answer and none is ready, or some of what it made ready was
  stands_or : ((more ≡ []) × (ready c ≡ false)) ⊎ Stands options answers during more c
  stands_or = by r.end z.comes
    where
      by : (end : Option EndWord) → ComesIn options answers taken during more end c → ((more ≡ []) × (ready c ≡ false)) ⊎ Stands options answers during more c
      by None (goes, inl (none, d)) = inl (none, d.none_ready)
      by None (goes, inr a) = inr (record {
        before = a.before;
        later = Datagram a.bytes ∷ [];
        are = a.are;
        taken = a.earlier;
        mid = a.mid;
        gave = a.drained.gave;
        state = a.kept;
        comes = inl (a.bytes, a.answer, refl, a.takes);
        gives = a.gives;
      })
      by (Some why) e = inr (record {
        before = answers;
        later = [];
        are = sym (append-nil answers);
        taken = taken;
        mid = e.mid;
        gave = e.drained.gave;
        state = after_finish e.mid options.frames;
        comes = inr (why, refl, e.ends, refl);
        gives = e.gives;
      })

  -- where an item is ready
  pub stands : ready c ≡ true → Stands options answers during more c
  stands now = elim stands_or [
    | inl nothing ↦ absurd (true≢false (sym now ∙ nothing.1))
    | inr s ↦ s
  ]

  same_during : up_to options.frames during ≡ during
  same_during = up_to_all options.frames during (during_below options.frames below)

  -- What was given so far: nothing since the last answer, or some of what it made ready.
  pub gives_some : (more ≡ []) ⊎ ((s : GivesSome options answers items) × (up_to options.frames s.during ≡ during))
  gives_some = elim stands_or [
    | inl nothing ↦ inl nothing.0
    | inr s ↦ inr (
      record {
        before = s.before;
        later = s.later;
        are = s.are;
        taken = s.taken;
        during = during;
        mid = s.mid;
        gave = s.gave;
        state = s.state;
        comes = s.comes;
        more = more;
        last = c;
        gives = s.gives;
        items_are = sym all_given;
      },
      same_during,
    )
  ]
