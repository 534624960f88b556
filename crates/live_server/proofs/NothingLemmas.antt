-- A schedule of which no stream is live.
use Rattle.std.proofs.Common.{◌≡◌, ◌+◌, ◌-◌, ◌*◌, ◌/◌, ◌≤◌, ◌++◌, ℕ, zero, suc, Bool, true, false, ◌||◌, List, [], ◌∷◌, length, get_or, Result, Ok, Err, Option, None, Some, option_map, unwrap_or, refl, sym, ap, subst, ◌∙◌, arith}
use Rattle.drm_schedule.specs.declared.live.Live.{Live}
use Rattle.drm_schedule.specs.declared.stream.Stream.{Stream}
use Rattle.drm_schedule.specs.declared.config.Config.{Config}
use Rattle.drm_schedule.specs.declared.plan.Plan.{Plan}
use Rattle.drm_schedule.specs.Live.{is_live, is_any}
use Rattle.drm_schedule.specs.Valid.{end_before}
use Rattle.drm_timeline.specs.Standing.{config_of}
use Rattle.cmd_faults.specs.declared.fault.Fault.{Fault}
use Rattle.drm_links.specs.Known.{Known}
use Rattle.drm_links.specs.Source.{Input}
use Rattle.live_streams.specs.Input.{bytes_before, pieces_of}
use Rattle.live_streams.proofs.InputLemmas.{offset_none, offset_next}
use Rattle.live_server.specs.Feeding.{HasMade}
use Rattle.live_server.proofs.GoingLemmas.{unread}
use Rattle.live_streams.specs.Live.{LivePieces, size_from, piece_size, piece_at, streams_from, configs_with, live_schedule}

-- what is done isn't a fault
pub not_both : {A B : Type 0} (r : Result A B) (x : A) (y : B) → r ≡ Ok x → r ≡ Err y → ⊥
not_both r x y fine failed = cc

pub one_whole : (a b : Bool) → (let done : Result Bool Fault = Ok a in done ≡ Ok b) → a ≡ b
one_whole a b is = cc

or_parts : (x y : Bool) → (x || y) ≡ false → (x ≡ false) × (y ≡ false)
or_parts true y is = absurd cc
or_parts false true is = absurd cc
or_parts false false is = (refl, refl)

past : (l : List Bool) (k : ℕ) → length l ≤ k → get_or l k false ≡ false
past [] k long = refl
past (b ∷ l) zero long = absurd (omega (arith, long))
past (b ∷ l) (suc k) long = past l k (omega (arith, long))

-- none is
pub none_live : (live : Live) → length live.streams ≡ 4 → is_any live ≡ false → (k : ℕ) → is_live live k ≡ false
none_live live four none zero = (or_parts (is_live live 0) (is_live live 1) (or_parts (is_live live 0 || is_live live 1) (is_live live 2) (or_parts (is_live live 0 || is_live live 1 || is_live live 2) (is_live live 3) none).0).0).0
none_live live four none (suc zero) = (or_parts (is_live live 0) (is_live live 1) (or_parts (is_live live 0 || is_live live 1) (is_live live 2) (or_parts (is_live live 0 || is_live live 1 || is_live live 2) (is_live live 3) none).0).0).1
none_live live four none (suc (suc zero)) = (or_parts (is_live live 0 || is_live live 1) (is_live live 2) (or_parts (is_live live 0 || is_live live 1 || is_live live 2) (is_live live 3) none).0).1
none_live live four none (suc (suc (suc zero))) = (or_parts (is_live live 0 || is_live live 1 || is_live live 2) (is_live live 3) none).1
none_live live four none (suc (suc (suc (suc k)))) = past live.streams (suc (suc (suc (suc k)))) (omega (arith, four))

module _ (live : Live) (none : (k : ℕ) → is_live live k ≡ false) where
  size_none : (k : ℕ) (streams : List Stream) → size_from live k streams ≡ 0
  size_none k [] = refl
  size_none k (s ∷ streams) = rw (none k, size_none (k + 1) streams) refl

  -- no frame asks for bytes
  pub piece_none : (plan : Plan) (t : ℕ) → piece_at live plan t ≡ 0
  piece_none plan t = by (config_of plan (t / 3))
    where
      by : (c : Option Config) → unwrap_or (option_map (piece_size live) c) 0 ≡ 0
      by None = refl
      by (Some c) = size_none 0 c.streams

  none_before : (plan : Plan) (first d : ℕ) → bytes_before live plan first (first + d) ≡ 0
  none_before plan first zero =
      let same : first + 0 ≡ first = omega arith in
      ap (bytes_before live plan first) same ∙ offset_none live plan first
  none_before plan first (suc d) =
      let same : first + suc d ≡ first + d + 1 = omega arith in
      let next = offset_next live plan first (first + d) (omega arith) in
      let before = none_before plan first d in
      let here = piece_none plan (first + d) in
      ap (bytes_before live plan first) same ∙ omega (arith, next, before, here)

  module _ (given : LivePieces) where
    streams_none : (c : Config) (frames k : ℕ) (streams : List Stream) → streams_from live given c frames k streams ≡ streams
    streams_none c frames k [] = refl
    streams_none c frames k (s ∷ streams) = rw (none k, streams_none c frames (k + 1) streams) refl

    configs_none : (len : ℕ) (configs : List Config) → configs_with live given len configs ≡ configs
    configs_none len [] = refl
    configs_none len (c ∷ more) =
        ap (λ (streams : List Stream). record c { streams = streams } ∷ configs_with live given len more) (streams_none c (3 * (end_before len more - c.start)) 0 c.streams)
        ∙ ap (λ (l : List Config). c ∷ l) (configs_none len more)

    -- and the schedule is its own
    pub own_schedule : (plan : Plan) → live_schedule live given plan ≡ plan
    unfolding live_schedule
    own_schedule plan = ap (λ (configs : List Config). record plan { configs = configs }) (configs_none plan.length plan.configs)

-- ---- what is made

module _ (live : Live) (none : (k : ℕ) → is_live live k ≡ false) (plan : Plan) (first : ℕ) where
  -- what is made of it is made with nothing of input
  pub made_own : (n : ℕ) (input : Known Input) (P : Plan → Type 0) → P plan → HasMade live plan first n false input input P
  made_own n input P own = record {
    bytes = [];
    read = unread input;
    taken = sym (none_before live none plan first n);
    made = λ more ends. subst P (sym (own_schedule live none (pieces_of live plan first ([] ++ more)) plan)) own;
  }
