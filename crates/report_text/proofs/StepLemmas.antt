-- The lines of steps, one after another.
use Rattle.std.proofs.Common.{◌≡◌, ℕ, ◌+◌, List, [], ◌∷◌, ◌++◌, sym, ◌∙◌, ap, arith, append_assoc}
use Rattle.std.proofs.lemmas.List.{append-nil}
use Rattle.std.proofs.lemmas.List.Concat.{flat_map-append}
use Rattle.drm_links.specs.Known.{Known}
use Rattle.drm_links.specs.Sink.{Output, OutputsText, IsPrefixBehind}
use Rattle.drm_links.proofs.KnownLemmas.{OutputsText-then}
use Rattle.mod_feed.specs.Items.{FrameItem as FeedItem, Frame, Missing, Bad}
use Rattle.mod_feed.specs.Feeding.{FeedStep}
use Rattle.report_text.specs.declared.report.Sums.{Sums}
use Rattle.report_text.specs.Report.{step_text}
use Rattle.report_text.specs.Reports.{steps_text}
use Rattle.report_text.specs.Tallies.{one_more_item, items_in}

pub one_more : (sums : Sums) (item : FeedItem) → items_in (one_more_item sums item) ≡ items_in sums + 1
one_more sums (Frame index frame payload) = omega arith
one_more sums (Missing index had total) = omega arith
one_more sums (Bad index fault) = omega arith

pub text_more : (ss ts : List FeedStep) → steps_text (ss ++ ts) ≡ steps_text ss ++ steps_text ts
text_more ss ts = flat_map-append step_text ss ts

pub one_text : (step : FeedStep) → step_text step ≡ steps_text (step ∷ [])
one_text step = sym (append-nil (step_text step))

-- a front behind what was written before
pub front_further : (ws xs ys : List ℕ) (a b c : Known Output) → OutputsText a b (λ t. t ≡ ws) → OutputsText b c (IsPrefixBehind xs ys) → OutputsText a c (IsPrefixBehind (ws ++ xs) ys)
front_further ws xs ys a b c p q = OutputsText-then (λ t. t ≡ ws) (IsPrefixBehind xs ys) (IsPrefixBehind (ws ++ xs) ys) a b c p q
    (λ s t e (front, f, is). (front, f, ap (λ l. l ++ t) e ∙ ap (λ l. ws ++ l) is ∙ sym (append_assoc ws xs front)))
