-- Where no stream is live, what came for a frame changes nothing.
use Rattle.std.proofs.Common.{◌≡◌, ◌≤◌, ◌+◌, ◌-◌, ◌*◌, ◌/◌, ℕ, zero, suc, Bool, true, false, List, [], ◌∷◌, codes, length, take, drop, All, Option, Some, None, if◌then◌else◌, refl, sym, ap, ◌∙◌, arith}
use Rattle.std.proofs.lemmas.List.{length-map}
use Rattle.std.proofs.lemmas.List.Elements.{All-head, All-tail}
use Rattle.drm_schedule.specs.declared.live.Live.{Live}
use Rattle.drm_schedule.specs.declared.stream.Content.TheVariants.{File}
use Rattle.drm_schedule.specs.declared.stream.Stream.{Stream}
use Rattle.drm_schedule.specs.declared.config.Config.{Config}
use Rattle.drm_schedule.specs.declared.plan.Plan.{Plan}
use Rattle.drm_schedule.specs.Contents.{stream_bytes}
use Rattle.drm_schedule.specs.Live.{is_live, none}
use Rattle.drm_schedule.specs.Ranges.{StreamInLines, ConfigInLines}
use Rattle.drm_schedule.specs.Sizes.{stream_size}
use Rattle.drm_schedule.specs.Valid.{end_before}
use Rattle.drm_timeline.specs.Standing.{config_of}
use Rattle.live_streams.specs.Live.{LivePieces, own_streams, given_from, streams_with, size_from, piece_at, bytes_with, streams_from, configs_with, live_schedule}
use Rattle.live_streams.proofs.SizeLemmas.{piece_is}

-- ---- a frame that asks for nothing

unasked_from : (live : Live) (k : ℕ) (piece : List ℕ) (streams : List Stream) (own : List (List ℕ)) → All StreamInLines streams → size_from live k streams ≡ 0
    → length own ≤ length streams → given_from live k piece own ≡ own
unasked_from live k piece streams [] fit unasked few = refl
unasked_from live k piece [] (o ∷ own) fit unasked few = absurd (omega (arith, few))
unasked_from live k piece (s ∷ streams) (o ∷ own) fit unasked few =
    by (λ unasked. unasked_from live (k + 1) piece streams own (All-tail StreamInLines s streams fit) unasked (omega (arith, few))) (is_live live k) unasked
  where
    by : (size_from live (k + 1) streams ≡ 0 → given_from live (k + 1) piece own ≡ own) → (b : Bool) → (if b then stream_size s else 0) + size_from live (k + 1) streams ≡ 0
        → (if b then take (length o) piece ∷ given_from live (k + 1) (drop (length o) piece) own else o ∷ given_from live (k + 1) piece own) ≡ o ∷ own
    by rest true unasked = absurd (omega (arith, unasked, (All-head StreamInLines s streams fit).not_empty))
    by rest false unasked = ap (λ more. o ∷ more) (rest (omega (arith, unasked)))

-- has the schedule's own streams, whatever came
pub nothing_asked : (live : Live) (plan : Plan) (t : ℕ) (c : Config) (input : Option (List ℕ)) (frame : ℕ) → config_of plan (t / 3) ≡ Some c → ConfigInLines c
    → piece_at live plan t ≡ 0 → streams_with live input (own_streams c frame) ≡ own_streams c frame
nothing_asked live plan t c None frame holds fits unasked = refl
nothing_asked live plan t c (Some piece) frame holds fits unasked =
    unasked_from live 0 piece c.streams (own_streams c frame) fits.each_stream
    (sym (piece_is live plan t c holds) ∙ unasked) (omega (arith, length-map c.streams (stream_bytes frame)))

-- ---- a schedule without live streams

pub none_is_live : (k : ℕ) → is_live none k ≡ false
none_is_live zero = refl
none_is_live (suc zero) = refl
none_is_live (suc (suc zero)) = refl
none_is_live (suc (suc (suc zero))) = refl
none_is_live (suc (suc (suc (suc k)))) = refl

module _ (live : Live) (given : LivePieces) (plain : (k : ℕ) → is_live live k ≡ false) where
  plain_streams : (c : Config) (frames k : ℕ) (streams : List Stream) → streams_from live given c frames k streams ≡ streams
  plain_streams c frames k [] = refl
  plain_streams c frames k (s ∷ streams) =
      ap (λ b. (if b then record s { content = File (codes "live") (bytes_with live given c frames k) } else s) ∷ streams_from live given c frames (k + 1) streams) (plain k)
      ∙ ap (λ more. s ∷ more) (plain_streams c frames (k + 1) streams)

  plain_configs : (len : ℕ) (cs : List Config) → configs_with live given len cs ≡ cs
  plain_configs len [] = refl
  plain_configs len (c ∷ more) =
      let frames : ℕ = 3 * (end_before len more - c.start) in
      let with_ : List Stream → Config = λ streams. record c { streams = streams } in
      ap (λ streams. with_ streams ∷ configs_with live given len more) (plain_streams c frames 0 c.streams) ∙ ap (λ rest. c ∷ rest) (plain_configs len more)

  -- is the schedule itself
  pub plain_schedule : (plan : Plan) → live_schedule live given plan ≡ plan
  unfolding live_schedule
  plain_schedule plan = let with_ : List Config → Plan = λ configs. record plan { configs = configs } in ap with_ (plain_configs plan.length plan.configs)
