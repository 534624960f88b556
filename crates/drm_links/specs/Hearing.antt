-- What comes over a link in several calls.
use Rattle.std.specs.Prelude.{◌≡◌, ◌+◌, ◌<◌, ◌^◌, length, List, [], ◌∷◌, ◌++◌, drop, Option, None, Some}
use Rattle.drm_links.specs.Known.{Known}
use Rattle.drm_links.specs.Link.{Answer, Traffic, next_answer}

-- these answers come one after another: each is the first one ahead, or `Idle` where none is left
abbrev pub AreNext : List Answer → List Answer → List Answer → Type 0
AreNext ahead [] rest = rest ≡ ahead
AreNext ahead (answer ∷ answers) rest = (answer ≡ next_answer ahead) × AreNext (drop 1 ahead) answers rest

-- Of what a link tells, these answers alone were taken: nothing went over it, and it never rested.
pub record TakesAnswers (answers : List Answer) (before after : Traffic) : Type 0 where
  pub given : after.answers ≡ before.answers ++ answers
  pub ahead : AreNext before.ahead answers after.ahead
  pub gone : after.gone ≡ before.gone
  pub waits : after.waits ≡ before.waits
  pub waiting : after.waiting ≡ before.waiting
  pub sends : after.sends ≡ before.sends
  pub calls : after.calls ≡ before.calls + length answers

-- Where the link tells at the end, it told before, and these are the answers that it gave in between. A link that told
-- before still tells, but after too many calls.
abbrev pub HeardThroughout : List Answer → Option Traffic → Option Traffic → Type 0
HeardThroughout answers None None = Unit {0}
HeardThroughout answers (Some before) None = 2 ^ 62 < before.calls + length answers
HeardThroughout answers None (Some after) = ⊥
HeardThroughout answers (Some before) (Some after) = TakesAnswers answers before after

abbrev pub LinkHeard : Known Traffic → Known Traffic → List Answer → Type 0
LinkHeard before after answers = HeardThroughout answers before.contents after.contents
