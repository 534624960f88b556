-- The laws of each schedule.
use Rattle.std.proofs.Common.{◌≡◌, ◌<◌, ◌≤◌, ◌+◌, ◌-◌, ◌/◌, ℕ, List, drop, Contains, Option, Some, None, sym, ap, subst, ◌∙◌, arith}
use Rattle.std.specs.Option.{unwrap_or}
use Rattle.std.proofs.lemmas.List.Elements.{All-contains}
use Rattle.std.proofs.lemmas.Option.{slice_get_within}
use Rattle.drm_schedule.specs.declared.config.Config.{Config}
use Rattle.drm_schedule.specs.declared.plan.Plan.{Plan}
use Rattle.drm_schedule.specs.Valid.{IsSchedule, AreFaultless}
use Rattle.drm_reconfiguration.specs.declared.seen.Seen.{Seen}
use Rattle.drm_reconfiguration.specs.declared.seen.Signature.{Signature}
use Rattle.drm_timeline.specs.Standing.{index_of, frames_before}
use Rattle.drm_reconfiguration.specs.Announced.{IndexAnnounces, AreSent}
use Rattle.drm_timeline.specs.Starts.{later_starts, signature_at, AnnouncesStarts, AreSeenOf, SwitchesOnlyAtStarts, SwitchesAtAllStarts, ResumesNowhere}
use Rattle.drm_reconfiguration.proofs.AnnouncedLemmas.{only_at_starts, at_all_starts, none_resumed}
use Rattle.drm_timeline.proofs.SignatureAtLemmas.{IsThere, there, signed_in, changes_in}
use Rattle.drm_timeline.proofs.StartsLemmas.{from_map, not_the_first, is_later, all_within, HasCountdown, all_have_countdown, IsAnnouncedIn, all_announced, named_in, small_in}

-- in the super frames of its countdown, the index counts down to the start of a configuration
counts_in : (plan : Plan) → AreFaultless plan None plan.configs → (c : Config) → Contains plan.configs c → (ahead : ℕ) → 1 ≤ ahead → ahead ≤ c.countdown → index_of plan (c.start - ahead) ≡ ahead
counts_in plan are c is ahead some within =
    let has : HasCountdown c = All-contains HasCountdown plan.configs c (all_have_countdown plan plan.configs are) is in
    let announced : IsAnnouncedIn plan.configs c = All-contains (IsAnnouncedIn plan.configs) plan.configs c (all_announced plan None plan.configs are) is in
    let sf : ℕ = c.start - ahead in
    let reaches : c.countdown ≤ c.start = has.1 in
    ap (frames_before sf) (announced sf (omega (arith, within)) (omega (arith, some, within, reaches))) ∙ omega (arith, within, reaches)

before_in : (plan : Plan) → AreFaultless plan None plan.configs → (start : ℕ) → Contains (later_starts plan) start → index_of plan (start - 1) ≡ 1
before_in plan are start is =
    let from = from_map (λ (c : Config). c.start) (drop 1 plan.configs) is.0 start is.1 is.2 in
    let c : Config = from.0 in
    let there : Contains plan.configs c = not_the_first plan.configs c from.1 in
    let same : c.start ≡ start = from.2 in
    let above : 0 < start = (All-contains (λ start. (0 < start) × (start < plan.length)) (later_starts plan) start (all_within plan plan.configs are) is).0 in
    let has : HasCountdown c = All-contains HasCountdown plan.configs c (all_have_countdown plan plan.configs are) there in
    subst (λ n. index_of plan (n - 1) ≡ 1) same (counts_in plan are c there 1 (omega arith) (has.0 (omega (arith, same, above))))

pub announces_starts : (plan : Plan) → IsSchedule plan → AreFaultless plan None plan.configs → AnnouncesStarts plan
announces_starts plan is are =
    let lines = is.in_lines in
    let here : (sf : ℕ) → IsThere plan sf = λ sf. there plan sf lines.some_config are lines.each_config in
    record {
      within = all_within plan plan.configs are;
      named = λ sf above. is_later plan plan.configs (sf + index_of plan sf) are (omega (arith, above)) (named_in sf plan.configs above);
      before = before_in plan are;
      counts = counts_in plan are;
      small = λ sf. small_in sf plan.configs lines.each_config;
      signed = λ t. signed_in plan t (here (t / 3));
      changes = λ t differ. changes_in plan t are (here (t / 3)) differ;
    }

-- the signature of a frame, with another one in the place of none
abbrev signature_or : Plan → Signature → ℕ → Signature
signature_or plan other t = unwrap_or (signature_at plan t) other

announces_or : (plan : Plan) (other : Signature) → AnnouncesStarts plan → IndexAnnounces (index_of plan) (signature_or plan other) (later_starts plan)
announces_or plan other a =
    record { named = a.named; before = λ start is above. a.before start is; changes = λ t differ. a.changes t (λ same. differ (ap (λ o. unwrap_or o other) same)) }

sent : (plan : Plan) (other : Signature) (first_frame : ℕ) (items : List (Option Seen)) → AreSeenOf plan first_frame items → AreSent (index_of plan) (signature_or plan other) first_frame items
sent plan other first_frame items are q seen frame =
    let is = are q seen frame in
    (is.position, is.index, sym (ap (λ o. unwrap_or o other) is.signature))

pub only_at_its_starts : (plan : Plan) → AnnouncesStarts plan → SwitchesOnlyAtStarts plan
only_at_its_starts plan a first_frame items f are switches =
    let other : Signature = switches.names.0.signature in
    only_at_starts (index_of plan) (signature_or plan other) (later_starts plan) first_frame items f (announces_or plan other a) (sent plan other first_frame items are) switches

pub at_all_its_starts : (plan : Plan) → AnnouncesStarts plan → SwitchesAtAllStarts plan
at_all_its_starts plan a first_frame items start are none is low high =
    let other : Signature = (none 0 (omega (arith, low, high))).0.signature in
    at_all_starts (index_of plan) (signature_or plan other) (later_starts plan) first_frame items start (announces_or plan other a) (sent plan other first_frame items are) none is low high

pub resumes_nowhere : (plan : Plan) → AnnouncesStarts plan → ResumesNowhere plan
resumes_nowhere plan a first_frame items p are none resumes =
    let other : Signature = resumes.old.signature in
    none_resumed (index_of plan) (signature_or plan other) (later_starts plan) first_frame items p (announces_or plan other a) (sent plan other first_frame items are) none
    (slice_get_within items p (Some resumes.new) resumes.frame) resumes
