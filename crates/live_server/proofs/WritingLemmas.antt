-- Frames that are written one after another.
use Rattle.std.proofs.Common.{◌≡◌, ◌<◌, ◌+◌, ℕ, List, [], ◌++◌, refl, sym, subst, ap₂, ◌∙◌}
use Rattle.std.specs.List.{concat}
use Rattle.std.proofs.lemmas.List.Folds.{concat-append}
use Rattle.drm_links.specs.Known.{Known}
use Rattle.drm_links.specs.Sink.{Output, OutputsText}
use Rattle.drm_links.proofs.KnownLemmas.{OutputsText-nothing, OutputsText-then}
use Rattle.drm_schedule.specs.declared.plan.Plan.{Plan}
use Rattle.drm_server.specs.declared.stretch.Stretch.{Stretch}
use Rattle.drm_server.specs.Stretch.{first_in, frames_in}
use Rattle.drm_server.specs.Capture.{IsCapture, IsPrefixOfCapture}
use Rattle.drm_server.specs.Gathering.{WroteFrame, IsPrefixOfFrame}
use Rattle.drm_server.proofs.DatagramLemmas.{next_frame}
use Rattle.drm_server.proofs.CaptureLemmas.{front_in_frame}
use Rattle.live_server.specs.Capture.{AreWritten, WroteEach}

pub wrote_none : (plan : Plan) (first : ℕ) (a : Known Output) → WroteEach first 0 a a plan
wrote_none plan first a = OutputsText-nothing a (AreWritten plan first 0) ([], refl, refl)

pub wrote_more : (plan : Plan) (first n m : ℕ) (a b c : Known Output) → WroteEach first n a b plan → WroteFrame plan (first + n) m b c → WroteEach first (n + 1) a c plan
wrote_more plan first n m a b c before frame =
    OutputsText-then (AreWritten plan first n) (λ t. t ≡ concat frame.0) (AreWritten plan first (n + 1)) a b c before frame.3
    (λ s t (datagrams, are, is) last. (datagrams ++ frame.0, next_frame plan first n datagrams frame.0 are frame.1, ap₂ (λ x y. x ++ y) is last ∙ sym (concat-append datagrams frame.0)))

module _ (plan : Plan) (stretch : Stretch) where
  -- a front of the next one
  pub front_written : (n : ℕ) (a b c : Known Output) → n < frames_in stretch plan → WroteEach (first_in stretch) n a b plan → OutputsText b c (IsPrefixOfFrame plan (first_in stretch + n)) → OutputsText a c (IsPrefixOfCapture plan stretch)
  front_written n a b c within before front =
      OutputsText-then (AreWritten plan (first_in stretch) n) (IsPrefixOfFrame plan (first_in stretch + n)) (IsPrefixOfCapture plan stretch) a b c before front
      (λ s u (datagrams, are, is) (i, of_frame, firsts, part).
      subst (λ (l : List ℕ). IsPrefixOfCapture plan stretch (l ++ u)) (sym is) (front_in_frame plan stretch n i within datagrams of_frame are firsts u part))

  -- all of them
  pub capture_written : (n : ℕ) (a b : Known Output) → n ≡ frames_in stretch plan → WroteEach (first_in stretch) n a b plan → OutputsText a b (IsCapture plan stretch)
  capture_written n a b all before = subst (λ k. OutputsText a b (AreWritten plan (first_in stretch) k)) all before
