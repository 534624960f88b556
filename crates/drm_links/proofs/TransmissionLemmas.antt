-- What was sent over a link, in one call and in several.
use Rattle.std.proofs.Common.{◌≡◌, ℕ, ◌+◌, ◌-◌, List, [], ◌++◌, length, Option, None, Some, refl, sym, ◌∙◌, ap, arith, append_assoc, length-append}
use Rattle.std.proofs.lemmas.List.{append-nil}
use Rattle.drm_links.specs.Known.{Known, KnownThrough}
use Rattle.drm_links.specs.Link.{Traffic, KeepsAnswers}
use Rattle.drm_links.specs.Transmission.{SendsAll, SendsNoMore, TakesSends, fewer}
use Rattle.drm_links.proofs.KnownLemmas.{Tells-nothing}

-- ---- how many sends are left

pub takes_none : (sends : Option ℕ) → TakesSends sends 0
takes_none None = tt
takes_none (Some k) = omega arith

pub fewer_none : (sends : Option ℕ) → sends ≡ fewer sends 0
fewer_none None = refl
fewer_none (Some k) = ap Some (omega arith)

pub takes_more : (sends : Option ℕ) (m n : ℕ) → TakesSends sends m → TakesSends (fewer sends m) n → TakesSends sends (m + n)
takes_more None m n first second = tt
takes_more (Some k) m n first second = omega arith

pub fewer_more : (sends : Option ℕ) (m n : ℕ) → fewer (fewer sends m) n ≡ fewer sends (m + n)
fewer_more None m n = refl
fewer_more (Some k) m n = ap Some (omega arith)

pub no_more_before : (sends : Option ℕ) (m n : ℕ) → TakesSends sends m → fewer sends m ≡ Some n → sends ≡ Some (m + n)
no_more_before None m n takes is = cc
no_more_before (Some k) m n takes is =
    let left : k - m ≡ n = cc in
    ap Some (omega arith)

-- ---- what was sent

then_kept : (x y z : Traffic) → KeepsAnswers x y → KeepsAnswers y z → KeepsAnswers x z
then_kept x y z first second =
    record { answers = second.answers ∙ first.answers; ahead = second.ahead ∙ first.ahead }

then_gone : (x y z : Traffic) (xs ys : List (List ℕ)) → y.gone ≡ x.gone ++ xs → z.gone ≡ y.gone ++ ys → z.gone ≡ x.gone ++ (xs ++ ys)
then_gone x y z xs ys first second = second ∙ (ap (λ l. l ++ ys) first ∙ append_assoc x.gone xs ys)

-- some datagrams, and then others
pub SendsAll-then : (xs ys : List (List ℕ)) (x y z : Traffic) → SendsAll xs x y → SendsAll ys y z → SendsAll (xs ++ ys) x z
SendsAll-then xs ys x y z first second =
    let takes : TakesSends (fewer x.sends (length xs)) (length ys) = rw (← first.sends) second.taken in
    record {
      taken = rw (length-append xs ys) (takes_more x.sends (length xs) (length ys) first.taken takes);
      gone = then_gone x y z xs ys first.gone second.gone;
      sends =
          rw (length-append xs ys)
          (second.sends ∙ (ap (λ sends. fewer sends (length ys)) first.sends ∙ fewer_more x.sends (length xs) (length ys)));
      kept = then_kept x y z first.kept second.kept;
    }

-- some datagrams, and then others after which no more were taken
pub SendsAll-no_more : (xs ys : List (List ℕ)) (x y z : Traffic) → SendsAll xs x y → SendsNoMore ys y z → SendsNoMore (xs ++ ys) x z
SendsAll-no_more xs ys x y z first second =
    record {
      no_more =
          rw (length-append xs ys)
          (no_more_before x.sends (length xs) (length ys) first.taken (sym first.sends ∙ second.no_more));
      gone = then_gone x y z xs ys first.gone second.gone;
      kept = then_kept x y z first.kept second.kept;
    }

-- no datagram
sends_nothing : (x y : Traffic) → y.gone ≡ x.gone → y.sends ≡ x.sends → KeepsAnswers x y → SendsAll [] x y
sends_nothing x y gone sends kept =
    record {
      taken = takes_none x.sends;
      gone = gone ∙ sym (append-nil x.gone);
      sends = sends ∙ fewer_none x.sends;
      kept = kept;
    }

pub Transmits-nothing : (a : Known Traffic) → KnownThrough a a (SendsAll [])
Transmits-nothing a =
    Tells-nothing (SendsAll []) a (λ x. sends_nothing x x refl refl (record { answers = refl; ahead = refl }))
