-- A reading goes on, call by call.
use Rattle.std.proofs.Common.{◌≡◌, ℕ, ◌+◌, ◌-◌, ◌*◌, ◌^◌, ◌<◌, ◌≤◌, inl, inr, nat_le, Bool, true, false, if◌then◌else◌, List, [], ◌∷◌, ◌++◌, length, Option, None, Some, IfSome, refl, sym, ◌∙◌, ap, subst, arith, append_assoc, length-append, add-one}
use Rattle.std.proofs.Math.Nat.{mul-le-mul_right, suc-mul}
use Rattle.std.proofs.lemmas.Bool.{true≢false}
use Rattle.std.proofs.lemmas.List.{append-nil, length_push}
use Rattle.recv_reading.proofs.Common.{Answer, Datagram, Idle, Failed, End, Taken, CollectorState, made, ready, after_item, after_finish}
use Rattle.recv_reading.proofs.Common.{CollectorItem, IsItem, CollectorTakes, CollectorGives, CollectorInvariant, ReceiveOptions, EndWord, AreUsable, bounds_of}
use Rattle.recv_reading.proofs.Common.{datagrams, CollectorGave, HasGiven, HaveEnded, ReadingEndsBy, ReadingGoesOn, IsReadingBroken, KnowsFirst, ReadingState}
use Rattle.recv_reading.proofs.Common.{new_reading, is_full, has_enough, ReadingReached, ReadingWaits}
use Rattle.dcp_collect.proofs.Decoded.{one_decoding}
use Rattle.law_collect.specs.Laws.{OneRun}
use Rattle.law_collect.proofs.OneReading.{one_reading as one_datagram}
use Rattle.law_collect.proofs.Stays.{take_next, take_end}
use Rattle.law_collect.proofs.Unique.{one_run}
use Rattle.law_collect.proofs.Runs.{given_all, given_more}
use Rattle.law_collect.proofs.Fit.{fit_next}
use Rattle.recv_reading.specs.declared.options.Bounds.{Bounds}
use Rattle.recv_reading.specs.declared.reason.EndWord.TheVariants as word
use Rattle.recv_reading.specs.Ending.{idles, IsReadingOpen, most_answers}
use Rattle.recv_reading.specs.State.{ahead, ended_or, still_open, one_given, one_taken, one_idle, ended_by}
use Rattle.recv_reading.specs.ReadingReached.{IsDrained, IsAmid, ComesIn, CountsAnswers, CanEnd, packets_in}
use Rattle.recv_reading.proofs.Going.{goes_none, goes_more, is_open, datagrams_more, datagrams_idle, datagrams_end, idles_more, not_ended, none_ended}
use Rattle.recv_reading.proofs.Kept.{kept_taken, few_given}
use Rattle.recv_reading.proofs.First.{knows_taken, knows_item}
use Rattle.recv_reading.proofs.Giving.{gave_none, gave_datagram, gave_idle, gave_end, none_given}

pub one_way : OneRun
one_way = one_run one_datagram one_decoding

pub takes_next : (c after : CollectorState) (bytes : List ℕ) (a : Taken) → CollectorTakes c bytes a after → after.next ≡ c.next
takes_next c after bytes a t = ap (λ (s : CollectorState). s.next) t.after_is ∙ take_next c t.read

pub takes_end : (c after : CollectorState) (bytes : List ℕ) (a : Taken) → CollectorTakes c bytes a after → after.end ≡ c.end
takes_end c after bytes a t = ap (λ (s : CollectorState). s.end) t.after_is ∙ take_end c t.read

-- ---- numbers

pub le_not : (n m : ℕ) → nat_le n m ≡ false → m < n
le_not n m e = grind arith

few_items : (frames : Option ℕ) (size : ℕ) → is_full frames size ≡ false → (n : ℕ) → frames ≡ Some n → size < n
few_items None size room n e = absurd cc
few_items (Some m) size room n e =
    let l : size < m = le_not m size room in
    let s : m ≡ n = cc in
    omega (arith, l, s)

full_of_none : (frames : Option ℕ) → IfSome frames (λ n. 1 ≤ n) → is_full frames 0 ≡ false
full_of_none None some = refl
full_of_none (Some n) some = let l : 1 ≤ n = some in grind arith

zero_below : (frames : Option ℕ) → IfSome frames (λ n. 0 ≤ n)
zero_below None = tt
zero_below (Some n) = omega arith

pub one_below : (frames : Option ℕ) (n : ℕ) → is_full frames n ≡ false → IfSome frames (λ m. n + 1 ≤ m)
one_below None n room = tt
one_below (Some m) n room = let l : n < m = le_not m n room in omega (arith, l)

turns : (taken limit idle : ℕ) → taken ≤ limit → taken * idle ≤ limit * idle
turns taken limit idle l = mul-le-mul_right idle l

turn_more : (taken idle : ℕ) → (taken + 1) * idle ≡ taken * idle + idle
turn_more taken idle = rw add-one (suc-mul taken idle)

-- ---- whether it has ended

open_end : (end : Option EndWord) (enough : Bool) → ended_or end enough ≡ false → end ≡ None
open_end None enough h = refl
open_end (Some w) enough h = absurd (let clash : true ≡ false = h in cc)

open_enough : (end : Option EndWord) (enough : Bool) → ended_or end enough ≡ false → enough ≡ false
open_enough None enough h = h
open_enough (Some w) enough h = absurd (let clash : true ≡ false = h in cc)

-- ---- at the start

pub reached_none : (options : ReceiveOptions) (c : CollectorState) → AreUsable options → c ≡ made options.window options.reach options.first → ReadingReached options [] [] [] [] (new_reading (bounds_of options)) c
reached_none options c usable is = record {
  bounds_are = refl;
  usable = usable;
  comes = (
    ap (λ (s : CollectorState). s.end) is,
    inl (
      refl,
      record {
        gave = subst (λ s. CollectorGave options [] [] [] s) (sym is) (gave_none options);
        none_ready = ap (λ (s : CollectorState). ready s) is;
        room = full_of_none options.frames usable.frames;
      },
    ),
  );
  goes_on = goes_none options;
  taken_are = refl;
  most = omega arith;
  counts = λ none. record { idles_are = refl; fewer = usable.idle; few = omega arith; not_ended = none_ended };
  few = omega arith;
  given_are = refl;
  next_is = ap (λ (s : CollectorState). s.next) is;
  below = zero_below options.frames;
  fit = subst CollectorInvariant (sym is) (usable.window, tt);
  knows = subst KnowsFirst (sym is) (λ none. refl);
  few_packets = (let none : c.kept ≡ [] = ap (λ (s : CollectorState). s.kept) is in omega (arith, ap length none));
}

-- ---- what comes next

-- what was given of all that the last datagram made ready
pub amid_gave : (options : ReceiveOptions) (answers : List Answer) (taken : List Taken) (during more now : List CollectorItem) (c d : CollectorState) → (a : IsAmid options answers taken during more c)
    → CollectorGives a.kept now d → CollectorGave options answers taken (during ++ now) d
amid_gave options answers taken during more now c d a gives =
    subst (λ l. CollectorGave options l taken (during ++ now) d) (sym a.are)
    (subst (λ l. CollectorGave options (a.before ++ Datagram a.bytes ∷ []) l (during ++ now) d) (sym a.taken_are)
    (gave_datagram options a.before a.earlier during now a.mid a.kept d a.bytes a.answer a.drained.gave a.takes gives))

module _ (options : ReceiveOptions) (answers : List Answer) (taken : List Taken) (during more : List CollectorItem) (r : ReadingState) (c : CollectorState) (z : ReadingReached options answers taken during more r c) where
  abbrev items : List CollectorItem
  items = during ++ more

  -- whether as many items were given as are asked for
  pub full_is : is_full options.frames (length items) ≡ has_enough r
  full_is = ap (is_full options.frames) z.given_are ∙ ap (λ (o : Bounds). is_full o.frames r.given) (sym z.bounds_are)

  -- an item was given
  pub reached_given : (item : CollectorItem) → has_enough r ≡ false → ready c ≡ true → IsItem c item → ReadingReached options answers taken during (more ++ item ∷ []) (one_given r) (after_item c)
  reached_given item room now is = record {
    bounds_are = z.bounds_are;
    usable = z.usable;
    comes = by r.end z.comes;
    goes_on = z.goes_on;
    taken_are = z.taken_are;
    most = z.most;
    counts = λ none. let n = z.counts none in record { idles_are = n.idles_are; fewer = n.fewer; few = n.few; not_ended = n.not_ended };
    few = z.few;
    given_are = ap length (sym (append_assoc during more (item ∷ []))) ∙ length-append items (item ∷ []) ∙ ap (λ n. n + 1) z.given_are;
    next_is = ap (λ n. n + 1) z.next_is;
    below = one_below options.frames r.given (ap (λ (o : Bounds). is_full o.frames r.given) (sym z.bounds_are) ∙ room);
    fit = fit_after;
    knows = knows_item c z.knows;
    few_packets = subst (λ l. packets_in l + length (after_item c).kept ≤ r.taken) (append_assoc during more (item ∷ [])) (few_given items item c r.taken z.few_packets is);
  }
    where
      fit_after : CollectorInvariant (after_item c)
      fit_after = by_ready (ready c) now (fit_next c z.fit)
        where
          by_ready : (b : Bool) → b ≡ true → CollectorInvariant (if b then after_item c else c) → CollectorInvariant (after_item c)
          by_ready true is fit = fit
          by_ready false is fit = absurd (let clash : false ≡ true = is in cc)

      by : (end : Option EndWord) → ComesIn options answers taken during more end c → ComesIn options answers taken during (more ++ item ∷ []) end (after_item c)
      by None (goes, inl (none, d)) = absurd (true≢false (sym now ∙ d.none_ready))
      by None (goes, inr a) = (
        goes,
        inr (record {
          before = a.before;
          bytes = a.bytes;
          are = a.are;
          earlier = a.earlier;
          answer = a.answer;
          taken_are = a.taken_are;
          mid = a.mid;
          drained = a.drained;
          kept = a.kept;
          takes = a.takes;
          gives = given_more more a.kept c item a.gives now is;
        }),
      )
      by (Some w) e = record {
        mid = e.mid;
        drained = e.drained;
        ends = e.ends;
        gives = given_more more (after_finish e.mid options.frames) c item e.gives now is;
      }

  pub less_given : c.next < 2 ^ 62 → ahead (one_given r) (after_item c) < ahead r c
  unfolding ahead
  less_given small = omega (arith, small)

  module _ (w : ReadingWaits r c) where
    no_end : r.end ≡ None
    no_end = open_end r.end (has_enough r) w.is_open

    enough : has_enough r ≡ false
    enough = open_enough r.end (has_enough r) w.is_open

    comes : ComesIn options answers taken during more None c
    comes = subst (λ e. ComesIn options answers taken during more e c) no_end z.comes

    n : CountsAnswers options answers r
    n = z.counts no_end

    -- all that came was given
    pub drained : IsDrained options answers taken items c
    drained = by comes
      where
        by : ComesIn options answers taken during more None c → IsDrained options answers taken items c
        by (goes, inl (none, d)) = subst (λ l. IsDrained options answers taken l c) (sym (ap (λ l. during ++ l) none ∙ append-nil during)) d
        by (goes, inr a) = record {
          gave = amid_gave options answers taken during more more c c a (given_all more a.kept c a.gives w.none_ready);
          none_ready = w.none_ready;
          room = full_is ∙ enough;
        }

    unfinished : c.end ≡ None
    unfinished = comes.0

    not_given : HasGiven options answers options.frames → ⊥
    not_given = none_given options answers options.frames taken items c one_way drained.gave (few_items options.frames (length items) drained.room)

    open_below : r.taken < options.limit → IsReadingOpen options answers
    open_below below =
        is_open options answers not_given (omega (arith, z.taken_are, below)) (omega (arith, n.idles_are, n.fewer)) n.not_ended

    limit_is : r.bounds.limit ≡ options.limit
    limit_is = ap (λ (o : Bounds). o.limit) z.bounds_are

    idle_is : r.bounds.idle ≡ options.idle
    idle_is = ap (λ (o : Bounds). o.idle) z.bounds_are

    pub goes_on_yet : HaveEnded answers → ⊥
    goes_on_yet = n.not_ended

    pub fewer_idles : r.idles < r.bounds.idle
    fewer_idles = omega (arith, n.fewer, idle_is)

    pub can_end : CanEnd r c
    can_end = (unfinished, subst (λ (b : Bounds). IfSome b.frames (λ n. n ≤ 2 ^ 62)) (sym z.bounds_are) (by options.frames z.usable.most_frames))
      where
        by : (frames : Option ℕ) → IfSome frames (λ n. n ≤ 3000000) → IfSome frames (λ n. n ≤ 2 ^ 62)
        by None most = tt
        by (Some m) most = let l : m ≤ 3000000 = most in omega (arith, l)

    -- no more can be had
    pub broken : r.taken < r.bounds.limit → IsReadingBroken options answers (answers ++ Failed ∷ [])
    broken below = record { last = refl; goes_on = z.goes_on; is_open = open_below (omega (arith, below, limit_is)) }

    same_packets : (kept taken : ℕ) → packets_in items + kept ≤ taken → packets_in (items ++ []) + kept ≤ taken
    same_packets kept taken few = subst (λ l. packets_in l + kept ≤ taken) (sym (append-nil items)) few

    -- one answer more isn't too many
    pub one_more_few : (x : Answer) → length (answers ++ x ∷ []) ≤ most_answers options
    one_more_few x =
        let long : length (answers ++ x ∷ []) ≡ length answers + 1 = length_push answers x in
        let most : r.taken * options.idle ≤ options.limit * options.idle = turns r.taken options.limit options.idle z.most in
        omega (arith, long, most, n.few, n.fewer)

    -- a datagram was taken
    pub reached_taken : (d : CollectorState) (bytes : List ℕ) (answer : Taken) → r.taken < r.bounds.limit → CollectorTakes c bytes answer d → CollectorInvariant d
        → ReadingReached options (answers ++ Datagram bytes ∷ []) (taken ++ answer ∷ []) items [] (one_taken r) d
    reached_taken d bytes answer lower takes fit =
        let below : r.taken < options.limit = omega (arith, lower, limit_is) in
        let long : length (answers ++ Datagram bytes ∷ []) ≡ length answers + 1 = length_push answers (Datagram bytes) in
        let turn : (r.taken + 1) * options.idle ≡ r.taken * options.idle + options.idle = turn_more r.taken options.idle in
        record {
          bounds_are = z.bounds_are;
          usable = z.usable;
          comes = subst (λ e. ComesIn options (answers ++ Datagram bytes ∷ []) (taken ++ answer ∷ []) items [] e d) (sym no_end) (
            takes_end c d bytes answer takes ∙ unfinished,
            inr (record {
              before = answers;
              bytes = bytes;
              are = refl;
              earlier = taken;
              answer = answer;
              taken_are = refl;
              mid = c;
              drained = drained;
              kept = d;
              takes = takes;
              gives = refl;
            }),
          );
          goes_on = goes_more options answers (Datagram bytes) z.goes_on (open_below below) tt;
          taken_are = datagrams_more answers bytes ∙ ap (λ k. k + 1) z.taken_are;
          most = omega (arith, below);
          counts = λ none. record {
            idles_are = idles_more 0 answers (Datagram bytes);
            fewer = z.usable.idle;
            few = omega (arith, long, turn, n.few, n.fewer);
            not_ended = not_ended answers (Datagram bytes) (λ e. cc);
          };
          few = one_more_few (Datagram bytes);
          given_are = ap length (append-nil items) ∙ z.given_are;
          next_is = takes_next c d bytes answer takes ∙ z.next_is;
          below = z.below;
          fit = fit;
          knows = knows_taken c d bytes answer takes z.knows;
          few_packets = same_packets (length d.kept) (r.taken + 1) (omega (arith, z.few_packets, kept_taken c d bytes answer takes));
        }

    pub less_taken : (d : CollectorState) → r.taken < r.bounds.limit → d.next ≡ c.next → ahead (one_taken r) d < ahead r c
    unfolding ahead
    less_taken d below same =
        let left : r.bounds.limit - r.taken ≡ (r.bounds.limit - (r.taken + 1)) + 1 = omega (arith, below) in
        let turn : (r.bounds.limit - r.taken) * r.bounds.idle ≡ (r.bounds.limit - (r.taken + 1)) * r.bounds.idle + r.bounds.idle =
        ap (λ k. k * r.bounds.idle) left ∙ turn_more (r.bounds.limit - (r.taken + 1)) r.bounds.idle in
        omega (arith, same, n.fewer, turn, idle_is)

    -- nothing came for a while
    drained_idle : IsDrained options (answers ++ Idle ∷ []) taken items c
    drained_idle = record { gave = gave_idle options answers taken items c drained.gave; none_ready = drained.none_ready; room = drained.room }

    pub reached_idle : r.taken < r.bounds.limit → r.idles + 1 < r.bounds.idle → ReadingReached options (answers ++ Idle ∷ []) taken items [] (one_idle r) c
    reached_idle lower more =
        let below : r.taken < options.limit = omega (arith, lower, limit_is) in
        let long : length (answers ++ Idle ∷ []) ≡ length answers + 1 = length_push answers Idle in
        record {
          bounds_are = z.bounds_are;
          usable = z.usable;
          comes = subst (λ e. ComesIn options (answers ++ Idle ∷ []) taken items [] e c) (sym no_end) (unfinished, inl (refl, drained_idle));
          goes_on = goes_more options answers Idle z.goes_on (open_below below) tt;
          taken_are = datagrams_idle answers ∙ z.taken_are;
          most = z.most;
          counts = λ none. record {
            idles_are = idles_more 0 answers Idle ∙ ap (λ k. k + 1) n.idles_are;
            fewer = omega (arith, more, idle_is);
            few = omega (arith, long, n.few);
            not_ended = not_ended answers Idle (λ e. cc);
          };
          few = one_more_few Idle;
          given_are = ap length (append-nil items) ∙ z.given_are;
          next_is = z.next_is;
          below = z.below;
          fit = z.fit;
          knows = z.knows;
          few_packets = same_packets (length c.kept) r.taken z.few_packets;
        }

    pub less_idle : r.idles + 1 < r.bounds.idle → ahead (one_idle r) c < ahead r c
    unfolding ahead
    less_idle more = omega (arith, more)

    -- the reading ends behind these answers
    ends_so : (last : List Answer) (d : CollectorState) (why : EndWord) (s : ReadingState) → s.bounds ≡ r.bounds → s.taken ≡ r.taken → s.given ≡ r.given → s.end ≡ Some why
        → IsDrained options last taken items c → ReadingEndsBy options last why → length (datagrams last) ≡ r.taken → length last ≤ most_answers options
        → d ≡ after_finish c options.frames → ReadingGoesOn options last → ReadingReached options last taken items [] s d
    ends_so last d why s same_bounds same_taken same_given is all ends many few finished goes = record {
      bounds_are = same_bounds ∙ z.bounds_are;
      usable = z.usable;
      comes = subst (λ e. ComesIn options last taken items [] e d) (sym is) (record { mid = c; drained = all; ends = ends; gives = finished });
      goes_on = goes;
      taken_are = many ∙ sym same_taken;
      most = omega (arith, z.most, same_taken);
      counts = λ none. absurd (let clash : Some why ≡ None = sym is ∙ none in cc);
      few = few;
      given_are = ap length (append-nil items) ∙ z.given_are ∙ sym same_given;
      next_is = ap (λ (s : CollectorState). s.next) finished ∙ z.next_is ∙ sym same_given;
      below = subst (λ k. IfSome options.frames (λ n. k ≤ n)) (sym same_given) z.below;
      fit = subst CollectorInvariant (sym finished) z.fit;
      knows = subst KnowsFirst (sym finished) z.knows;
      few_packets = same_packets (length d.kept) s.taken (let p = z.few_packets in let k : d.kept ≡ c.kept = ap (λ (s : CollectorState). s.kept) finished in omega (arith, p, ap length k, same_taken));
    }

    finish_is : (d : CollectorState) → d ≡ after_finish c r.bounds.frames → d ≡ after_finish c options.frames
    finish_is d is = is ∙ ap (λ (o : Bounds). after_finish c o.frames) z.bounds_are

    -- by idle answers
    pub reached_last_idle : (d : CollectorState) → r.taken < r.bounds.limit → r.idles + 1 ≡ r.bounds.idle → d ≡ after_finish c r.bounds.frames
        → ReadingReached options (answers ++ Idle ∷ []) taken items [] (ended_by word.Idle (one_idle r)) d
    reached_last_idle d lower all finished =
        let below : r.taken < options.limit = omega (arith, lower, limit_is) in
        let idles_now : idles (answers ++ Idle ∷ []) ≡ r.idles + 1 = idles_more 0 answers Idle ∙ ap (λ k. k + 1) n.idles_are in
        let many : length (datagrams (answers ++ Idle ∷ [])) ≡ r.taken = datagrams_idle answers ∙ z.taken_are in
        ends_so (answers ++ Idle ∷ []) d word.Idle (ended_by word.Idle (one_idle r)) refl refl refl refl drained_idle (
          omega (arith, idles_now, all, idle_is),
          none_given options (answers ++ Idle ∷ []) options.frames taken items c one_way drained_idle.gave (few_items options.frames (length items) drained.room),
          (λ h. let same : length (datagrams (answers ++ Idle ∷ [])) ≡ options.limit = h in omega (arith, same, many, below)),
        ) many (one_more_few Idle) (finish_is d finished) (goes_more options answers Idle z.goes_on (open_below below) tt)

    -- by the end of the input
    pub reached_end : (d : CollectorState) → r.taken < r.bounds.limit → d ≡ after_finish c r.bounds.frames
        → ReadingReached options (answers ++ End ∷ []) taken items [] (ended_by word.Input r) d
    reached_end d lower finished =
        let below : r.taken < options.limit = omega (arith, lower, limit_is) in
        let idles_now : idles (answers ++ End ∷ []) ≡ 0 = idles_more 0 answers End in
        let many : length (datagrams (answers ++ End ∷ [])) ≡ r.taken = ap length (datagrams_end answers) ∙ z.taken_are in
        let gave : CollectorGave options (answers ++ End ∷ []) taken items c = gave_end options answers taken items c drained.gave in
        ends_so (answers ++ End ∷ []) d word.Input (ended_by word.Input r) refl refl refl refl (record { gave = gave; none_ready = drained.none_ready; room = drained.room }) (
          (answers, refl),
          none_given options (answers ++ End ∷ []) options.frames taken items c one_way gave (few_items options.frames (length items) drained.room),
          (λ h. let same : length (datagrams (answers ++ End ∷ [])) ≡ options.limit = h in omega (arith, same, many, below)),
          (λ h. let least : options.idle ≤ idles (answers ++ End ∷ []) = h in omega (arith, least, idles_now, z.usable.idle)),
        ) many (one_more_few End) (finish_is d finished) (goes_more options answers End z.goes_on (open_below below) tt)

    -- by the number of datagrams
    pub reached_limit : (d : CollectorState) → r.taken ≡ r.bounds.limit → d ≡ after_finish c r.bounds.frames
        → ReadingReached options answers taken items [] (ended_by word.Limit r) d
    reached_limit d all finished =
        ends_so answers d word.Limit (ended_by word.Limit r) refl refl refl refl drained (z.taken_are ∙ (all ∙ limit_is), not_given) z.taken_are z.few (finish_is d finished) z.goes_on

    pub less_ended : (d : CollectorState) (why : EndWord) → d.next ≡ c.next → ahead (ended_by why r) d < ahead r c
    unfolding ahead
    less_ended d why same = let e : still_open r.end ≡ 1 = ap still_open no_end in omega (arith, same, e)

    pub less_last_idle : (d : CollectorState) → r.idles + 1 ≡ r.bounds.idle → d.next ≡ c.next → ahead (ended_by word.Idle (one_idle r)) d < ahead r c
    unfolding ahead
    less_last_idle d all same = let e : still_open r.end ≡ 1 = ap still_open no_end in omega (arith, all, same, e)
