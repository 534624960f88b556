-- A gateway's link fails where it says so.
use Rattle.std.proofs.Common.{◌≡◌, ℕ, ◌+◌, Bool, List, [], ◌∷◌, ◌++◌, length, map, refl, ◌∙◌, ap, ap₂, arith}
use Rattle.std.specs.List.{AllByRecursion}
use Rattle.std.proofs.lemmas.List.{map-append}
use Rattle.dcp_pft.specs.declared.carry.Carry.{Carry}
use Rattle.drm_links.specs.Known.{Known, HasCause}
use Rattle.drm_links.specs.Link.{Answer, Datagram, Idle, Failed, End, Traffic}
use Rattle.drm_links.specs.History.{GroupEvent, Received, failed_in, risen}
use Rattle.drm_links.specs.Alone.{answers_in}
use Rattle.drm_links.specs.Calls.{Call, Rest, Send, is_up, up_after, CallsCome}
use Rattle.drm_links.proofs.AloneLemmas.{answers_then}
use Rattle.drm_links.proofs.CallLemmas.{match_either, failed_then}
use Rattle.recv_reading.specs.declared.options.ReceiveOptions.{ReceiveOptions}
use Rattle.recv_reading.specs.Ending.{HasNotFailed}
use Rattle.drm_gate.specs.declared.gate.GateEnded.{GateEnded}
use Rattle.drm_gate.specs.declared.gate.GateEnded.TheVariants.{Done, SomeFailed, FromFailed, ToFailed}
use Rattle.drm_gate.specs.Passing.{Outcome, passing}
use Rattle.drm_gate.specs.Relaying.{RelaysPackets}
use Rattle.drm_gate.specs.Run.{GateEndsAs, GateRun}

-- ---- what is heard

-- nothing is heard by calls
none_heard : (calls : List Call) (events : List GroupEvent) (u v : List Bool) → CallsCome u calls events v → answers_in events ≡ []
none_heard [] events u v come = ap answers_in come.0
none_heard (Rest k millis ∷ calls) events u v come =
    match_either (is_up u k) (answers_in events ≡ []) (λ p. ap answers_in p.1 ∙ none_heard calls p.0 u v p.2) (λ q. none_heard calls events u v q) come
none_heard (Send k bytes ∷ calls) events u v come =
    match_either (is_up u k) (answers_in events ≡ []) (λ p. ap answers_in p.2 ∙ none_heard calls p.1 (up_after u k p.0) v p.3) (λ q. none_heard calls events u v q) come

pub relays_heard : (rules : ReceiveOptions) (carry : Carry) (links : ℕ) (answers heard : List Answer) (done fates : List Outcome) (u v : List Bool) (events : List GroupEvent) → RelaysPackets rules carry links heard done u answers fates events v
    → answers_in events ≡ answers
relays_heard rules carry links [] heard done fates u v events relays = ap answers_in relays.0
relays_heard rules carry links (answer ∷ answers) heard done fates u v events (goes, more, front, mid, back, are, come, become, behind) =
    ap answers_in are
    ∙ ap (λ l. answer ∷ l)
    (answers_then front back ∙ ap₂ (λ xs ys. xs ++ ys) (none_heard (passing links more) front u mid come) (relays_heard rules carry links answers (heard ++ answer ∷ []) (done ++ more) fates mid v back behind))

-- ---- how many calls failed

none_failed : (answers : List Answer) → AllByRecursion HasNotFailed answers → failed_in (map Received answers) ≡ 0
none_failed [] all = refl
none_failed (Datagram bytes ∷ answers) all = let more = none_failed answers all.1 in omega (arith, more)
none_failed (Idle ∷ answers) all = let more = none_failed answers all.1 in omega (arith, more)
none_failed (Failed ∷ answers) all = absurd all.0
none_failed (End ∷ answers) all = let more = none_failed answers all.1 in omega (arith, more)

one_failed : (before answers : List Answer) → answers ≡ before ++ Failed ∷ [] → AllByRecursion HasNotFailed before → failed_in (map Received answers) ≡ 1
one_failed before answers are all =
    ap (λ (l : List Answer). failed_in (map Received l)) are
    ∙ (ap failed_in (map-append Received before (Failed ∷ [])) ∙ (failed_then (map Received before) (Received Failed ∷ []) ∙ ap (λ (n : ℕ). n + 1) (none_failed before all)))

module _ (rules : ReceiveOptions) (carry : Carry) (v : List Bool) (answers : List Answer) (fates : List Outcome) (before after : Known Traffic) (faults : after.faults ≡ risen (failed_in (map Received answers)) before.faults) where
  same_faults : (ended : GateEnded) → (ended ≡ FromFailed → ⊥) → AllByRecursion HasNotFailed answers → HasCause before after (ended ≡ FromFailed)
  same_faults ended other all = record {
    once = λ is. absurd (other is);
    same = λ not. faults ∙ ap (λ (n : ℕ). risen n before.faults) (none_failed answers all);
  }

  by_ending : (ended : GateEnded) → GateEndsAs rules carry answers fates v ended → HasCause before after (ended ≡ FromFailed)
  by_ending (Done tally) ends = same_faults (Done tally) (λ is. cc is) ends.1.0.1.goes_on.sound
  by_ending SomeFailed ends = same_faults SomeFailed (λ is. cc is) ends.2.0.1.goes_on.sound
  by_ending FromFailed ends = record {
    once = λ is. faults ∙ ap (λ (n : ℕ). risen n before.faults) (one_failed ends.1.0 answers ends.1.1.last ends.1.1.goes_on.sound);
    same = λ not. absurd (not refl);
  }
  by_ending ToFailed ends = same_faults ToFailed (λ is. cc is) ends.1.sound

pub cause_of : (rules : ReceiveOptions) (carry : Carry) (u v : List Bool) (P : List GroupEvent → Type 0) (ended : GateEnded) (before after : Known Traffic) (run : GateRun rules carry u v P ended)
    → after.faults ≡ risen (failed_in (map Received (answers_in run.events))) before.faults → HasCause before after (ended ≡ FromFailed)
cause_of rules carry u v P ended before after run faults =
    by_ending rules carry v run.answers run.fates before after
    (faults ∙ ap (λ (l : List Answer). risen (failed_in (map Received l)) before.faults) (relays_heard rules carry (length u) run.answers [] [] run.fates u v run.events run.relays)) ended run.ends

-- what holds of the events where another does
pub run_weaker : (rules : ReceiveOptions) (carry : Carry) (u v : List Bool) (P Q : List GroupEvent → Type 0) (ended : GateEnded) → ((events : List GroupEvent) → P events → Q events) → GateRun rules carry u v P ended → GateRun rules carry u v Q ended
run_weaker rules carry u v P Q ended weaker run = record {
  answers = run.answers;
  few = run.few;
  fates = run.fates;
  events = run.events;
  relays = run.relays;
  happened = weaker run.events run.happened;
  ends = run.ends;
}
