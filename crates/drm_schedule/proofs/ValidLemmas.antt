-- The fault of a plan, configuration by configuration.
use Rattle.std.proofs.Common.{ℕ, ◌≡◌, ◌+◌, ◌*◌, ◌≤◌, Bool, true, false, suc, List, [], ◌∷◌, ◌++◌, length, All, IfSome, is_some, sum_by, Option, Some, None, if◌then◌else◌, sym, ap, ◌∙◌, arith}
use Rattle.std.proofs.lemmas.List.Sums.{sum_by-cons}
use Rattle.drm_schedule.specs.declared.stream.Stream.{Stream}
use Rattle.drm_schedule.specs.declared.config.Config.{Config}
use Rattle.drm_schedule.specs.declared.plan.Plan.{Plan}
use Rattle.drm_schedule.specs.Ranges.{StreamInLines, ConfigInLines}
use Rattle.drm_schedule.specs.Sizes.{has_no_room, stream_size}
use Rattle.drm_schedule.specs.declared.invalid.Invalid.{Invalid}
use Rattle.drm_schedule.specs.declared.invalid.Reason.TheVariants as reason
use Rattle.drm_schedule.specs.Services.{block_disagrees}
use Rattle.drm_schedule.specs.Valid.{rows, place_rows, channel_rows, carried_rows, beginning_rows, block_rows, next_start, first_fault, first_invalid, first_invalid_from}

-- The fault of the plan is that of the configurations that are left, from the k-th on and behind `before`.
pub record Left (plan : Plan) (k : ℕ) (before : Option Config) (left : List Config) : Type 0 where
  pub same : first_invalid_from plan k before left ≡ first_invalid plan
  pub count : k + length left ≡ length plan.configs
  pub behind : IfSome before ConfigInLines
  pub each : All ConfigInLines left

-- the first fault of two lists is in the first one
pub found_in : (rows more : List (Bool × Invalid)) (r : Option Invalid) (some : Bool) → r ≡ first_fault rows → some ≡ is_some r → some ≡ true → r ≡ first_fault (rows ++ more)
found_in rows more r some is tells so = by rows r is (sym so ∙ tells)
  where
    by : (rows : List (Bool × Invalid)) (r : Option Invalid) → r ≡ first_fault rows → true ≡ is_some r → r ≡ first_fault (rows ++ more)
    by [] r is so = absurd (let x : true ≡ false = so ∙ ap is_some is in cc)
    by (x ∷ xs) r is so = step x.0 (by xs) is
      where
        step : (holds : Bool) → ((r : Option Invalid) → r ≡ first_fault xs → true ≡ is_some r → r ≡ first_fault (xs ++ more))
            → r ≡ (if holds then Some x.1 else first_fault xs) → r ≡ (if holds then Some x.1 else first_fault (xs ++ more))
        step true rest is = is
        step false rest is = rest r is so

-- or in the second one
pub found_behind : (rows more : List (Bool × Invalid)) (r found : Option Invalid) (some : Bool) → r ≡ first_fault rows → some ≡ is_some r → some ≡ false
    → found ≡ first_fault more → found ≡ first_fault (rows ++ more)
found_behind rows more r found some is tells not_so then_ = by rows (ap is_some (sym is) ∙ (sym tells ∙ not_so))
  where
    by : (rows : List (Bool × Invalid)) → is_some (first_fault rows) ≡ false → found ≡ first_fault (rows ++ more)
    by [] none = then_
    by (x ∷ xs) none = step x.0 (by xs) none
      where
        step : (holds : Bool) → (is_some (first_fault xs) ≡ false → found ≡ first_fault (xs ++ more))
            → is_some (if holds then Some x.1 else first_fault xs) ≡ false → found ≡ (if holds then Some x.1 else first_fault (xs ++ more))
        step true rest none = absurd (let x : true ≡ false = none in cc)
        step false rest none = rest none

pub items_are_small : (streams : List Stream) → All StreamInLines streams → sum_by (λ (s : Stream). 8 + stream_size s) streams ≤ 8198 * length streams
items_are_small [] each = omega arith
items_are_small (s ∷ streams) each =
    let here : StreamInLines s = each 0 s (omega arith) in
    omega (arith, sum_by-cons (λ (s : Stream). 8 + stream_size s) s streams, here.a_fits, here.b_fits, items_are_small streams (λ k d within. each (suc k) d (omega arith)))

-- What was found in the parts of a configuration's rows: none in some first ones, and then one, or what is found in the last one.
module _ (plan : Plan) (k : ℕ) (before : Option Config) (c : Config) (more : List Config)
    (a : Option Invalid) (placed : a ≡ first_fault (place_rows plan k before c)) (sa : Bool) (ta : sa ≡ is_some a) (na : sa ≡ false)
    (b : Option Invalid) (begun : b ≡ first_fault (beginning_rows k 0 c (next_start plan.length more) None c.blocks)) (sb : Bool) (tb : sb ≡ is_some b) where
  abbrev fitting : List (Bool × Invalid)
  fitting = block_rows k 0 (has_no_room c) reason.Fit c.blocks ++ carried_rows plan k before c more

  abbrev telling : List (Bool × Invalid)
  telling = block_rows k 0 (block_disagrees c) reason.Services c.blocks ++ fitting

  abbrev own : List (Bool × Invalid)
  own = channel_rows k c ++ telling

  abbrev beginning : List (Bool × Invalid)
  beginning = beginning_rows k 0 c (next_start plan.length more) None c.blocks ++ own

  behind_placed : (found : Option Invalid) → found ≡ first_fault beginning → found ≡ first_fault (rows plan k before c more)
  behind_placed found = found_behind (place_rows plan k before c) beginning a found sa placed ta na

  pub in_second : sb ≡ true → b ≡ first_fault (rows plan k before c more)
  in_second so = behind_placed b (found_in (beginning_rows k 0 c (next_start plan.length more) None c.blocks) own b sb begun tb so)

  module _ (nb : sb ≡ false) (d : Option Invalid) (channel : d ≡ first_fault (channel_rows k c)) (sd : Bool) (td : sd ≡ is_some d) where
    behind_begun : (found : Option Invalid) → found ≡ first_fault own → found ≡ first_fault (rows plan k before c more)
    behind_begun found is = behind_placed found (found_behind (beginning_rows k 0 c (next_start plan.length more) None c.blocks) own b found sb begun tb nb is)

    pub in_third : sd ≡ true → d ≡ first_fault (rows plan k before c more)
    in_third so = behind_begun d (found_in (channel_rows k c) telling d sd channel td so)

    module _ (nd : sd ≡ false) (e : Option Invalid) (disagreeing : e ≡ first_fault (block_rows k 0 (block_disagrees c) reason.Services c.blocks)) (se : Bool) (te : se ≡ is_some e) where
      behind_channel : (found : Option Invalid) → found ≡ first_fault telling → found ≡ first_fault (rows plan k before c more)
      behind_channel found is = behind_begun found (found_behind (channel_rows k c) telling d found sd channel td nd is)

      pub in_fourth : se ≡ true → e ≡ first_fault (rows plan k before c more)
      in_fourth so = behind_channel e (found_in (block_rows k 0 (block_disagrees c) reason.Services c.blocks) fitting e se disagreeing te so)

      module _ (ne : se ≡ false) (f : Option Invalid) (room : f ≡ first_fault (block_rows k 0 (has_no_room c) reason.Fit c.blocks)) (sf : Bool) (tf : sf ≡ is_some f) where
        behind_blocks : (found : Option Invalid) → found ≡ first_fault fitting → found ≡ first_fault (rows plan k before c more)
        behind_blocks found is = behind_channel found (found_behind (block_rows k 0 (block_disagrees c) reason.Services c.blocks) fitting e found se disagreeing te ne is)

        pub in_fifth : sf ≡ true → f ≡ first_fault (rows plan k before c more)
        in_fifth so = behind_blocks f (found_in (block_rows k 0 (has_no_room c) reason.Fit c.blocks) (carried_rows plan k before c more) f sf room tf so)

        pub in_last : (found : Option Invalid) → sf ≡ false → found ≡ first_fault (carried_rows plan k before c more) → found ≡ first_fault (rows plan k before c more)
        in_last found nf is = behind_blocks found (found_behind (block_rows k 0 (has_no_room c) reason.Fit c.blocks) (carried_rows plan k before c more) f found sf room tf nf is)
