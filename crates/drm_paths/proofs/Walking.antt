-- A path reads its link, answer by answer.
use Rattle.std.proofs.Common.{◌≡◌, ℕ, ◌+◌, ◌*◌, ◌<◌, ◌≤◌, ◌⊎◌, inl, inr, List, [], ◌∷◌, ◌++◌, length, take, refl, sym, ◌∙◌, ap, subst, arith, length-append}
use Rattle.std.specs.List.{AllByRecursion}
use Rattle.std.proofs.lemmas.List.{append-nil, take-append-le, take_all}
use Rattle.std.proofs.lemmas.List.Elements.{filter_map-append}
use Rattle.drm_links.specs.Link.{Answer, Datagram, Idle, Failed, datagram_of}
use Rattle.recv_reading.specs.Ending.{datagrams, idles, HasNotFailed}
use Rattle.std.proofs.Math.Nat.{mul-le-mul_right}
use Rattle.recv_reading.proofs.Going.{one_longer, one_turn}
use Rattle.recv_reading.proofs.Going.{idles_more}
use Rattle.drm_paths.specs.declared.run.PathOptions.{PathOptions}
use Rattle.drm_paths.specs.declared.run.PathEnded.{PathEnded}
use Rattle.drm_paths.specs.declared.run.PathEnded.TheVariants as why
use Rattle.drm_paths.specs.State.{bytes_in, most_bytes}
use Rattle.drm_paths.specs.Reading.{most_answers, AreReasonable, PathEndHolds, IsPathOpen, PathGoesOn, ReadsPath}

goes_none : (options : PathOptions) → PathGoesOn options []
goes_none options = record { sound = tt; shorter = λ k l. absurd (omega arith) }

answers_more : (xs : List Answer) (x : Answer) → AllByRecursion HasNotFailed xs → HasNotFailed x → AllByRecursion HasNotFailed (xs ++ x ∷ [])
answers_more [] x all one = (one, tt)
answers_more (y ∷ xs) x all one = (all.0, answers_more xs x all.1 one)

le_cases : (k n : ℕ) → k < n + 1 → (k < n) ⊎ (k ≡ n)
le_cases k n l = grind arith

shorter_more : (options : PathOptions) (xs : List Answer) (x : Answer) → ((k : ℕ) → k < length xs → IsPathOpen options (take k xs)) → IsPathOpen options xs → (k : ℕ) → (k < length xs) ⊎ (k ≡ length xs) → IsPathOpen options (take k (xs ++ x ∷ []))
shorter_more options xs x shorter now k (inl l) =
    let w : k ≤ length xs = omega arith in
    subst (λ ys. IsPathOpen options ys) (sym (take-append-le k xs (x ∷ []) w)) (shorter k l)
shorter_more options xs x shorter now k (inr e) =
    let w : k ≤ length xs = omega arith in
    subst (λ ys. IsPathOpen options ys) (sym (take-append-le k xs (x ∷ []) w ∙ take_all k xs (omega arith))) now

goes_more : (options : PathOptions) (xs : List Answer) (x : Answer) → PathGoesOn options xs → IsPathOpen options xs → HasNotFailed x → PathGoesOn options (xs ++ x ∷ [])
goes_more options xs x goes now one = record {
  sound = answers_more xs x goes.sound one;
  shorter = λ k l. shorter_more options xs x goes.shorter now k (le_cases k (length xs) (let n : length (xs ++ x ∷ []) ≡ length xs + 1 = simp length-append (omega arith) in omega (arith, n, l)));
}

pub datagrams-push : (xs : List Answer) (bytes : List ℕ) → datagrams (xs ++ Datagram bytes ∷ []) ≡ datagrams xs ++ bytes ∷ []
datagrams-push xs bytes = filter_map-append datagram_of xs (Datagram bytes ∷ [])

datagrams-push_idle : (xs : List Answer) → datagrams (xs ++ Idle ∷ []) ≡ datagrams xs
datagrams-push_idle xs = filter_map-append datagram_of xs (Idle ∷ []) ∙ append-nil (datagrams xs)

-- ---- what the loop keeps: a path doesn't end yet

pub record Reaches (options : PathOptions) (hears : List Answer → Type 0) (ds : List (List ℕ)) (taken idled : ℕ) : Type 0 where
  pub answers : List Answer
  pub heard : hears answers
  pub goes_on : PathGoesOn options answers
  pub are : ds ≡ datagrams answers
  pub many : length ds ≡ taken
  pub more : taken < options.limit
  pub room : bytes_in ds + 65536 ≤ most_bytes
  pub idles_is : idles answers ≡ idled
  pub fewer : idled < options.idle
  pub few : length answers ≤ taken * options.idle + idled

pub starts : (options : PathOptions) (hears : List Answer → Type 0) (ds : List (List ℕ)) → hears [] → AreReasonable options → ds ≡ [] → Reaches options hears ds 0 0
starts options hears ds heard reasonable none =
    let n : length ds ≡ 0 = ap length none in
    let b : bytes_in ds ≡ 0 = ap bytes_in none in
    let i : 1 ≤ options.idle = reasonable.idle in
    let l : 1 ≤ options.limit = reasonable.limit in
    record {
      answers = [];
      heard = heard;
      goes_on = goes_none options;
      are = none;
      many = n;
      more = omega (arith, l);
      room = omega (arith, b);
      idles_is = refl;
      fewer = omega (arith, i);
      few = omega arith;
    }

module _ (options : PathOptions) (hears hears' : List Answer → Type 0) (ds : List (List ℕ)) (taken idled : ℕ) (r : Reaches options hears ds taken idled) where
  by_ended : (w : PathEnded) → PathEndHolds options r.answers w → ⊥
  by_ended why.Idle h =
      let i : idles r.answers ≡ idled = r.idles_is in
      let l : idled < options.idle = r.fewer in
      omega (arith, i, l, h)
  by_ended why.Limit (inl e) =
      let n : length ds ≡ length (datagrams r.answers) = ap length r.are in
      let m : length ds ≡ taken = r.many in
      let l : taken < options.limit = r.more in
      omega (arith, n, m, l, e)
  by_ended why.Limit (inr l) =
      let b : bytes_in ds ≡ bytes_in (datagrams r.answers) = ap bytes_in r.are in
      let m : bytes_in ds + 65536 ≤ most_bytes = r.room in
      omega (arith, b, m, l)
  by_ended why.LinkFailed h = h
  by_ended why.NoMemory h = h

  one_more : (x : Answer) → length (r.answers ++ x ∷ []) ≤ taken * options.idle + idled + 1
  one_more x = one_longer r.answers x (taken * options.idle + idled) r.few

  -- no turn has more answers than idle ones and a datagram
  in_turns : (x : Answer) → length (r.answers ++ x ∷ []) ≤ (taken + 1) * options.idle
  in_turns x = one_turn (length (r.answers ++ x ∷ [])) taken idled options.idle (one_more x) r.fewer

  not_many : (x : Answer) → length (r.answers ++ x ∷ []) ≤ most_answers options
  not_many x =
      let more : taken < options.limit = r.more in
      let turns : (taken + 1) * options.idle ≤ options.limit * options.idle = mul-le-mul_right options.idle (omega (arith, more)) in
      omega (arith, turns, in_turns x)

  is_open : IsPathOpen options r.answers
  is_open = by_ended

  -- the link failed
  pub on_failed : ((xs : List Answer) → hears xs → hears' (xs ++ Failed ∷ [])) → ReadsPath options hears' ds why.LinkFailed
  on_failed more = record {
    answers = r.answers ++ Failed ∷ [];
    heard = more r.answers r.heard;
    few = not_many Failed;
    ends = (r.answers, refl, r.goes_on, is_open, r.are);
  }

  module _ (bytes : List ℕ) (more : (xs : List Answer) → hears xs → hears' (xs ++ Datagram bytes ∷ [])) where
    -- there was no room for a datagram
    pub on_no_memory : (es : List (List ℕ)) → es ≡ ds → ReadsPath options hears' es why.NoMemory
    on_no_memory es same = record {
      answers = r.answers ++ Datagram bytes ∷ [];
      heard = more r.answers r.heard;
      few = not_many (Datagram bytes);
      ends = (r.answers, bytes, refl, r.goes_on, is_open, same ∙ r.are);
    }

    next_on : PathGoesOn options (r.answers ++ Datagram bytes ∷ [])
    next_on = goes_more options r.answers (Datagram bytes) r.goes_on is_open tt

    next_are : (es : List (List ℕ)) → es ≡ ds ++ bytes ∷ [] → es ≡ datagrams (r.answers ++ Datagram bytes ∷ [])
    next_are es same = same ∙ ap (λ l. l ++ bytes ∷ []) r.are ∙ sym (datagrams-push r.answers bytes)

    next_many : (es : List (List ℕ)) → es ≡ ds ++ bytes ∷ [] → length es ≡ taken + 1
    next_many es same =
        let n : length es ≡ length (ds ++ bytes ∷ []) = ap length same in
        let m : length (ds ++ bytes ∷ []) ≡ length ds + 1 = length-append ds (bytes ∷ []) in
        let t : length ds ≡ taken = r.many in
        omega (arith, n, m, t)

    -- it was the last one
    pub on_limit : (es : List (List ℕ)) → es ≡ ds ++ bytes ∷ [] → (taken + 1 ≡ options.limit) ⊎ (most_bytes < bytes_in es + 65536) → ReadsPath options hears' es why.Limit
    on_limit es same full = record {
      answers = r.answers ++ Datagram bytes ∷ [];
      heard = more r.answers r.heard;
      few = not_many (Datagram bytes);
      ends = (next_on, by full, next_are es same);
    }
      where
        by : (taken + 1 ≡ options.limit) ⊎ (most_bytes < bytes_in es + 65536) → PathEndHolds options (r.answers ++ Datagram bytes ∷ []) why.Limit
        by (inl e) =
            let n : length es ≡ taken + 1 = next_many es same in
            let m : length es ≡ length (datagrams (r.answers ++ Datagram bytes ∷ [])) = ap length (next_are es same) in
            inl (omega (arith, n, m, e))
        by (inr l) =
            let b : bytes_in es ≡ bytes_in (datagrams (r.answers ++ Datagram bytes ∷ [])) = ap bytes_in (next_are es same) in
            inr (omega (arith, b, l))

    -- the path goes on
    pub on_datagram : (es : List (List ℕ)) → es ≡ ds ++ bytes ∷ [] → ((taken + 1 ≡ options.limit) ⊎ (most_bytes < bytes_in es + 65536) → ⊥) → AreReasonable options → Reaches options hears' es (taken + 1) 0
    on_datagram es same room reasonable =
        let l : taken < options.limit = r.more in
        let other : (taken + 1 ≡ options.limit) → ⊥ = λ e. room (inl e) in
        let some : 1 ≤ options.idle = reasonable.idle in
        record {
          answers = r.answers ++ Datagram bytes ∷ [];
          heard = more r.answers r.heard;
          goes_on = next_on;
          are = next_are es same;
          many = next_many es same;
          more = less (taken + 1) options.limit (omega (arith, l)) other;
          room = not_more (bytes_in es + 65536) most_bytes (λ h. room (inr h));
          idles_is = idles_more 0 r.answers (Datagram bytes);
          fewer = omega (arith, some);
          few = (let turns = in_turns (Datagram bytes) in omega (arith, turns));
        }
      where
        less : (n m : ℕ) → n ≤ m → (n ≡ m → ⊥) → n < m
        less n m l e = grind arith

        not_more : (n m : ℕ) → (m < n → ⊥) → n ≤ m
        not_more n m l = grind arith

  module _ (more : (xs : List Answer) → hears xs → hears' (xs ++ Idle ∷ [])) where
    idle_on : PathGoesOn options (r.answers ++ Idle ∷ [])
    idle_on = goes_more options r.answers Idle r.goes_on is_open tt

    idle_are : ds ≡ datagrams (r.answers ++ Idle ∷ [])
    idle_are = r.are ∙ sym (datagrams-push_idle r.answers)

    idle_many : idles (r.answers ++ Idle ∷ []) ≡ idled + 1
    idle_many =
        let e : idles (r.answers ++ Idle ∷ []) ≡ idles r.answers + 1 = idles_more 0 r.answers Idle in
        let i : idles r.answers ≡ idled = r.idles_is in
        omega (arith, e, i)

    not_full : PathEndHolds options (r.answers ++ Idle ∷ []) why.Limit → ⊥
    not_full (inl e) = by_ended why.Limit (inl (ap length (sym (datagrams-push_idle r.answers)) ∙ e))
    not_full (inr l) = by_ended why.Limit (inr (let b : bytes_in (datagrams (r.answers ++ Idle ∷ [])) ≡ bytes_in (datagrams r.answers) = ap bytes_in (datagrams-push_idle r.answers) in omega (arith, b, l)))

    -- it was the last one
    pub on_last_idle : idled + 1 ≡ options.idle → ReadsPath options hears' ds why.Idle
    on_last_idle e = record {
      answers = r.answers ++ Idle ∷ [];
      heard = more r.answers r.heard;
      few = not_many Idle;
      ends = (idle_on, (let i : idles (r.answers ++ Idle ∷ []) ≡ idled + 1 = idle_many in omega (arith, i, e)), not_full, idle_are);
    }

    -- the path goes on
    pub on_idle : (idled + 1 ≡ options.idle → ⊥) → Reaches options hears' ds taken (idled + 1)
    on_idle other =
        let l : idled < options.idle = r.fewer in
        record {
          answers = r.answers ++ Idle ∷ [];
          heard = more r.answers r.heard;
          goes_on = idle_on;
          are = idle_are;
          many = r.many;
          more = r.more;
          room = r.room;
          idles_is = idle_many;
          fewer = less (idled + 1) options.idle (omega (arith, l)) other;
          few = (let more' = one_more Idle in omega (arith, more'));
        }
      where
        less : (n m : ℕ) → n ≤ m → (n ≡ m → ⊥) → n < m
        less n m l e = grind arith
