-- What has each frame in time doesn't break off.
use Rattle.std.proofs.Common.{◌≡◌, ◌⊎◌, inl, inr, List, [], ◌∷◌, ◌++◌, take, None, Some, sym, ◌∙◌, subst}
use Rattle.std.proofs.lemmas.List.{append_cancel_right}
use Rattle.drm_links.specs.Link.{Answer, Failed}
use Rattle.drm_timeline.specs.Numbers.{frame_count}
use Rattle.law_delivery.specs.Laws.{AllAtOnce}
use Rattle.recv_reading.specs.declared.reason.EndWord.TheVariants as word
use Rattle.recv_reading.specs.declared.options.ReceiveOptions.{ReceiveOptions}
use Rattle.recv_reading.specs.Ending.{datagrams, HasGiven, IsReadingOpen, IsReadingBroken}
use Rattle.recv_report.specs.Headline.{without_frames, WouldBeRead}
use Rattle.recv_reading.specs.OneReading.{BreaksOff}
use Rattle.recv_report.specs.Ahead.{IsInTimeAhead}
use Rattle.recv_report.specs.Following.{NoneBreaksOff}
use Rattle.recv_reading.proofs.OneReading.{finished_whole, broken_same}

open_without : (rules : ReceiveOptions) (xs : List Answer) → IsReadingOpen rules xs → IsReadingOpen (without_frames rules) xs
open_without rules xs is_open word.Frames h = h
open_without rules xs is_open word.Limit h = is_open word.Limit h
open_without rules xs is_open word.Idle h = is_open word.Idle h
open_without rules xs is_open word.Input h = is_open word.Input h
open_without rules xs is_open word.Paths h = h

broken_without : (rules : ReceiveOptions) (before xs : List Answer) → IsReadingBroken rules before xs → IsReadingBroken (without_frames rules) before xs
broken_without rules before xs b = record {
  last = b.last;
  goes_on = record { sound = b.goes_on.sound; shorter = λ k l. open_without rules (take k before) (b.goes_on.shorter k l) };
  is_open = open_without rules before b.is_open;
}

-- the told number was given before the failure
given_before : AllAtOnce → (rules : ReceiveOptions) (ahead : List Answer) → (t : IsInTimeAhead rules ahead) → (rules.frames ≡ None) ⊎ (rules.frames ≡ Some (frame_count t.plan))
    → (rules.frames ≡ None → ⊥) → HasGiven rules t.answers rules.frames
given_before law rules ahead t (inl none) frame_limit = absurd (frame_limit none)
given_before law rules ahead t (inr known) frame_limit =
    subst (HasGiven rules t.answers) (sym known) (law t.plan rules.window rules.reach rules.first t.arrivals (datagrams t.answers) t.valid t.followed t.in_time)

breaks_by : AllAtOnce → (rules : ReceiveOptions) (ahead : List Answer) → (t : IsInTimeAhead rules ahead) → WouldBeRead rules ahead t.answers → BreaksOff rules ahead → ⊥
breaks_by law rules ahead t (inl (w, of)) b =
    finished_whole (without_frames rules) ahead of.rest b.rest t.answers b.before b.answers w of.next b.next of.ends (broken_without rules b.before b.answers b.reading)
breaks_by law rules ahead t (inr (frame_limit, of)) b =
    let same : b.answers ≡ t.answers ++ Failed ∷ [] =
    broken_same (without_frames rules) ahead of.rest b.rest of.ends.0 (t.answers ++ Failed ∷ []) b.before b.answers of.next b.next of.ends.1 (broken_without rules b.before b.answers b.reading) in
    let before : t.answers ≡ b.before = append_cancel_right t.answers b.before (Failed ∷ []) (sym same ∙ b.reading.last) in
    b.reading.is_open word.Frames (subst (λ l. HasGiven rules l rules.frames) before (given_before law rules ahead t t.frames frame_limit))

pub none_breaks_off : AllAtOnce → NoneBreaksOff
none_breaks_off law rules ahead t b = breaks_by law rules ahead t t.read b
