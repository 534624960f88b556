-- The items of a run are numbered from 0 on, and a feed answers to them.
use Rattle.std.proofs.Common.{◌≡◌, ℕ, zero, suc, ◌+◌, List, [], ◌∷◌, ◌++◌, length, take, map, Option, None, Some, refl, sym, ap, subst, ◌∙◌, arith}
use Rattle.dcp_collect.specs.declared.taken.Taken.{Taken}
use Rattle.dcp_collect.specs.CollectorState.{CollectorState, after_item}
use Rattle.dcp_collect.specs.Runs.{CollectorItem as Collected, Packet, Lost, Damaged, IsItem, CollectorGives, CollectorSteps, CollectorRun, up_to}
use Rattle.law_collect.proofs.Stays.{take_next}
use Rattle.law_collect.proofs.Runs.{gives_count, steps_count}
use Rattle.drm_reconfiguration.specs.Tracker.{TrackerState}
use Rattle.mod_feed.specs.Items.{FrameItem, number_of, seen_in}
use Rattle.mod_feed.specs.Feeding.{FeedStep, FeedAnswers, after_step}
use Rattle.mod_feed.proofs.FeedingLemmas.{number_is, stepped_calls}
use Rattle.drm_reconfiguration.specs.Tracker.{answered, stepped}
use Rattle.drm_reconfiguration.specs.declared.seen.Seen.{Seen}
use Rattle.cmd_unpack.specs.Printed.{AreItems}

-- they have the numbers from n on
abbrev pub AreFrom : ℕ → List Collected → Type 0
AreFrom n [] = Unit {0}
AreFrom n (one ∷ more) = (number_of one ≡ n) × AreFrom (n + 1) more

from_join : (n : ℕ) (xs ys : List Collected) → AreFrom n xs → AreFrom (n + length xs) ys → AreFrom n (xs ++ ys)
from_join n [] ys are more = subst (λ m. AreFrom m ys) (omega arith) more
from_join n (x ∷ xs) ys are more = (are.0, from_join (n + 1) xs ys are.1 (subst (λ m. AreFrom m ys) (omega arith) more))

from_take : (m n : ℕ) (xs : List Collected) → AreFrom n xs → AreFrom n (take m xs)
from_take zero n xs are = tt
from_take (suc m) n [] are = tt
from_take (suc m) n (x ∷ xs) are = (are.0, from_take m (n + 1) xs are.1)

from_limit : (frame_limit : Option ℕ) (xs : List Collected) → AreFrom 0 xs → AreFrom 0 (up_to frame_limit xs)
from_limit None xs are = are
from_limit (Some m) xs are = from_take m 0 xs are

gives_from : (items : List Collected) (c d : CollectorState) → CollectorGives c items d → AreFrom c.next items
gives_from [] c d gives = tt
gives_from (one ∷ items) c d gives = (number_is c one gives.1, gives_from items (after_item c) d gives.2)

steps_from : (c after : CollectorState) (datagrams : List (List ℕ)) (answers : List Taken) (items : List Collected) → CollectorSteps c datagrams answers items after → AreFrom c.next items
steps_from c after [] [] items steps = subst (λ l. AreFrom c.next l) (sym steps.0) tt
steps_from c after [] (a ∷ answers) items steps = absurd steps
steps_from c after (datagram ∷ datagrams) [] items steps = absurd steps
steps_from c after (datagram ∷ datagrams) (a ∷ answers) items (now, more, kept, mid, takes, gives, steps, are) =
    let start : kept.next ≡ c.next = ap (λ (s : CollectorState). s.next) takes.after_is ∙ take_next c takes.read in
    let first : AreFrom c.next now = subst (λ m. AreFrom m now) start (gives_from now kept mid gives) in
    let then : mid.next ≡ c.next + length now = gives_count now kept mid gives ∙ ap (λ m. m + length now) start in
    let rest : AreFrom (c.next + length now) more = subst (λ m. AreFrom m more) then (steps_from mid after datagrams answers more steps) in
    subst (λ l. AreFrom c.next l) (sym are) (from_join c.next now more first rest)

pub run_from : (window reach : ℕ) (first frame_limit : Option ℕ) (datagrams : List (List ℕ)) (answers : List Taken) (items : List Collected)
    → CollectorRun window reach first frame_limit datagrams answers items → AreFrom 0 items
run_from window reach first frame_limit datagrams answers items run =
    let during : AreFrom 0 run.during = steps_from _ run.mid datagrams answers run.during run.steps in
    let after : run.mid.next ≡ 0 + length run.during = steps_count _ run.mid datagrams answers run.during run.steps in
    let rest : AreFrom (0 + length run.during) run.rest = subst (λ m. AreFrom m run.rest) after (gives_from run.rest _ run.after run.gives) in
    subst (λ l. AreFrom 0 l) (sym run.are) (from_limit frame_limit (run.during ++ run.rest) (from_join 0 run.during run.rest during rest))

-- the steps of a feed over them
pub record Fed (feed : TrackerState) (collected : List Collected) (items : List FrameItem) : Type 0 where
  pub steps : List FeedStep
  pub after : TrackerState
  pub feeds : FeedAnswers feed collected steps after
  pub items_are : map (λ (s : FeedStep). s.item) steps ≡ items

pub fed : (feed : TrackerState) (collected : List Collected) (items : List FrameItem) → AreFrom feed.calls collected → AreItems collected items → Fed feed collected items
fed feed [] items from are = record { steps = []; after = feed; feeds = refl; items_are = sym are }
fed feed (one ∷ collected) [] from are = absurd are
fed feed (one ∷ collected) (item ∷ items) from are =
    let step : FeedStep = record { before = answered feed (seen_in item); item = item } in
    let next : TrackerState = after_step feed step in
    let more = fed next collected items (subst (λ m. AreFrom m collected) (sym (stepped_calls feed (seen_in item))) from.1) are.1 in
    record {
      steps = step ∷ more.steps;
      after = more.after;
      feeds = (record { in_order = from.0; item = are.0; before = refl }, more.feeds);
      items_are = ap (λ l. item ∷ l) more.items_are;
    }
