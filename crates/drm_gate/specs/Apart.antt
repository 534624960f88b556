-- What links tell that are lent apart: each for itself, of what happened at all of them.
use Rattle.std.specs.Prelude.{ℕ, ◌≡◌, ◌<◌, nat_eq, Bool, true, List, [], ◌∷◌, length, map, MatchBool, slice_index_or}
use Rattle.drm_links.specs.Known.{Known, HasCause, IfBothKnown, CountsCall}
use Rattle.drm_links.specs.Link.{Traffic, LinkSends, KeepsAnswers}
use Rattle.drm_links.specs.Hearing.{LinkHeard}
use Rattle.drm_links.specs.History.{GroupEvent, Received, SentTo, RestedAt, failed_in, risen}
use Rattle.drm_links.specs.Alone.{answers_in}
use Rattle.drm_links.specs.MemoryGroup.{up_by}
use Rattle.drm_links.specs.declared.link.Sent.{Sent}
use Rattle.drm_links.specs.declared.link.Sent.TheVariants as send
use Rattle.drm_links.specs.declared.member.Member.{Member}

-- The link that is received from gave the answers among these events. As many of its calls failed as failed among them; nothing went over it,
-- and it didn't rest.
pub record SourceTells (events : List GroupEvent) (before after : Known Traffic) : Type 0 where
  pub heard : LinkHeard before after (answers_in events)
  pub faults : after.faults ≡ risen (failed_in (map Received (answers_in events))) before.faults

-- What a link tells of one send over it.
pub record SendTells (bytes : List ℕ) (answer : Sent) (before after : Known Traffic) : Type 0 where
  pub sends : IfBothKnown before after (LinkSends answer bytes)
  pub kept : IfBothKnown before after KeepsAnswers
  pub counts : CountsCall (λ (traffic : Traffic). traffic.calls) before after
  pub cause : HasCause before after (answer ≡ send.Failed)

-- What the k-th link that is sent over tells of these events: the sends over it, one after another, and nothing else. It is asked for none
-- that has failed, and never rests.
abbrev pub LinkTells : ℕ → List GroupEvent → Bool → Bool → Known Traffic → Known Traffic → Type 0
LinkTells k [] up up' before after = (up' ≡ up) × (after ≡ before)
LinkTells k (Received answer ∷ events) up up' before after = LinkTells k events up up' before after
LinkTells k (SentTo j bytes answer ∷ events) up up' before after =
    MatchBool (nat_eq j k)
    ((up ≡ true) × (mid : Known Traffic) × SendTells bytes answer before mid × LinkTells k events (up_by up answer) up' mid after)
    (LinkTells k events up up' before after)
LinkTells k (RestedAt j millis ∷ events) up up' before after = ⊥

abbrev pub ups_of : {K : Type 0} → List (Member K) → List Bool
ups_of to = map (λ member. member.up) to

abbrev pub MemberTells : {K : Type 0} → (K → Known Traffic) → ℕ → List GroupEvent → Member K → Member K → Type 0
MemberTells known k events before after = LinkTells k events before.up after.up (known before.link) (known after.link)

-- What happened at links that are lent apart: each tells what is its own of these events.
pub record LinksTell {K : Type 0} (from from' : Known Traffic) (known : K → Known Traffic) (to to' : List (Member K)) (events : List GroupEvent) : Type 0 where
  pub source : SourceTells events from from'
  pub as_many : length to' ≡ length to
  pub each : (k : ℕ) (none : Member K) → k < length to → MemberTells known k events (slice_index_or to k none) (slice_index_or to' k none)
