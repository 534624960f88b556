-- What is ahead of a link, and what can become of it.
use Rattle.std.proofs.Common.{◌≡◌, ℕ, ◌<◌, ◌≤◌, ◌⊎◌, inl, inr, List, ◌++◌, length, take, drop, Option, None, Some, sym, subst, ap, ◌∙◌, arith, length-append}
use Rattle.std.proofs.lemmas.List.{take-append-drop}
use Rattle.dcp_pft.specs.declared.carry.Carry.{Carry}
use Rattle.drm_links.specs.Link.{Answer}
use Rattle.drm_links.specs.Transmission.{TakesSends, TakesFewer}
use Rattle.recv_reading.specs.declared.options.ReceiveOptions.{ReceiveOptions}
use Rattle.recv_reading.specs.OneReading.{BreaksOff}
use Rattle.recv_reading.specs.Ending.{datagrams, ReadingGoesOn, IsFinished}
use Rattle.recv_reading.proofs.OneReading.{next_front, ends_hold, not_shorter, finished_whole, one_reading}
use Rattle.drm_gate.specs.Passing.{Outcome, sent_of}
use Rattle.drm_gate.specs.Relaying.{IsOnward, SomeBecome}
use Rattle.drm_gate.proofs.Prefixes.{StartsWith, one_onward, front_follows}
use Rattle.cmd_gate.specs.Between.{AreAhead, IsRelayed}

module _ (rules : ReceiveOptions) (carry : Carry) (ahead : List Answer) where
  -- what is finished doesn't break off
  pub whole : (fates : List Outcome) → IsRelayed rules carry ahead fates → BreaksOff rules ahead → ⊥
  whole fates passed breaks = finished_whole rules ahead passed.heard.0 breaks.rest passed.answers breaks.before breaks.answers passed.word passed.heard.1 breaks.next passed.reading breaks.reading

  -- what becomes of it is one
  pub one_passed : (fs gs : List Outcome) → IsRelayed rules carry ahead fs → IsRelayed rules carry ahead gs → sent_of fs ≡ sent_of gs
  one_passed fs gs p q =
      let same : q.answers ≡ p.answers = (one_reading rules ahead p.answers q.answers (Some p.word) (Some q.word)
      (record { rest = p.heard.0; next = p.heard.1; ends = p.reading }) (record { rest = q.heard.0; next = q.heard.1; ends = q.reading })).0 in
      one_onward rules carry (datagrams p.answers) fs gs p.onward (subst (λ (l : List Answer). IsOnward rules carry (datagrams l) gs) same q.onward)

  less_or_not : (m n : ℕ) → (m < n) ⊎ (n ≤ m)
  less_or_not m n = grind arith

  -- what goes on is no longer than all that is read
  longer : (fates : List Outcome) (answers : List Answer) → AreAhead ahead answers → ReadingGoesOn rules answers → (passed : IsRelayed rules carry ahead fates) → length answers ≤ length passed.answers
  longer fates answers heard goes_on passed =
      elim (less_or_not (length passed.answers) (length answers)) [
        | inl less ↦
            absurd (not_shorter rules ahead passed.heard.0 heard.0 passed.answers answers passed.word passed.heard.1 heard.1 (ends_hold rules passed.answers passed.word passed.reading.ends) goes_on less)
        | inr not ↦ not
      ]

  -- what was passed on when no link was left is a front of what becomes of all that is read
  pub front_of_all : (fates done : List Outcome) (answers : List Answer) → AreAhead ahead answers → ReadingGoesOn rules answers → SomeBecome rules carry answers done → IsRelayed rules carry ahead fates
      → StartsWith (sent_of fates) (sent_of done)
  front_of_all fates done xs heard goes_on some passed =
      let ys : List Answer = passed.answers in
      let more : List Answer = drop (length xs) ys in
      let first : xs ≡ take (length xs) ys = next_front ahead heard.0 passed.heard.0 xs ys heard.1 passed.heard.1 (longer fates xs heard goes_on passed) in
      let all : ys ≡ xs ++ more = sym (take-append-drop (length xs) ys) ∙ ap (λ (l : List Answer). l ++ more) (sym first) in
      front_follows rules carry xs done some goes_on more (Some passed.word) fates
      (subst (λ (l : List Answer). IsFinished rules l passed.word) all passed.reading) (subst (λ (l : List Answer). IsOnward rules carry (datagrams l) fates) all passed.onward)

-- ---- a link that takes no more

-- it took a front of these, which go further
pub takes_fewer : (sends : Option ℕ) (all most gone rest : List (List ℕ)) → sends ≡ Some (length gone) → 1 ≤ length rest → most ≡ gone ++ rest → StartsWith all most → TakesFewer sends (length all)
takes_fewer sends all most gone rest is some are (more, further) =
    let less : length gone < length all = omega (arith, some, ap length are, ap length further, length-append gone rest, length-append most more) in
    subst (λ (o : Option ℕ). TakesFewer o (length all)) (sym is) less

pub not_both : (sends : Option ℕ) (n : ℕ) → TakesFewer sends n → TakesSends sends n → ⊥
not_both None n few takes = few
not_both (Some k) n few takes = omega (arith, few, takes)
