-- A run with live streams, frame by frame.
use Rattle.std.proofs.Common.{◌≡◌, ◌+◌, ℕ, Bool, true, false, not, [], ◌++◌, refl, sym, subst, arith}
use Rattle.drm_links.specs.Known.{Known}
use Rattle.drm_links.specs.Source.{Input}
use Rattle.drm_links.proofs.KnownLemmas.{InputsBytes-nothing}
use Rattle.drm_schedule.specs.declared.live.Live.{Live}
use Rattle.drm_schedule.specs.declared.plan.Plan.{Plan}
use Rattle.drm_timeline.specs.Numbers.{frame_count}
use Rattle.live_streams.specs.Input.{bytes_before, pieces_of}
use Rattle.live_streams.proofs.FrameLemmas.{same_frame_count}
use Rattle.live_streams.proofs.InputLemmas.{offset_none}
use Rattle.drm_server.specs.ServerState.{ServerState, HasFrame}
use Rattle.live_server.specs.Feeding.{fed, HasRead, IsOneOf, HasMade, BreaksIn}

pub not_not : (b : Bool) → not (not b) ≡ b
not_not true = refl
not_not false = refl

-- nothing was read of input
pub unread : (input : Known Input) → HasRead false [] input input
unread input = record { read = InputsBytes-nothing (λ left rest. left ≡ [] ++ rest) input (λ left. refl); all = λ is. absurd cc }

module _ (live : Live) (plan : Plan) (first : ℕ) where
  -- nothing yet
  pub made_none : (a : Known Input) (P : Plan → Type 0) → ((other : Plan) → P other) → HasMade live plan first 0 false a a P
  made_none a P all = record {
    bytes = [];
    read = unread a;
    taken =
        let same : first + 0 ≡ first = omega arith in
        subst (λ t. 0 ≡ bytes_before live plan first t) (sym same) (sym (offset_none live plan first));
    made = λ more ends. all (fed live plan first ([] ++ more));
  }

  module _ (n : ℕ) (ended : Bool) (a b : Known Input) (P : Plan → Type 0) (m : HasMade live plan first n ended a b P) where
    -- what was made of each schedule was made of one of them
    of_one : (shown : Plan) → IsOneOf ended live plan first m.bytes shown → P shown
    of_one shown one = subst P (sym one.2) (m.made one.0 one.1)

    -- what follows from it for a schedule with as many frames
    pub made_so : (Q : Plan → Type 0) → ((shown : Plan) → frame_count shown ≡ frame_count plan → P shown → Q shown) → HasMade live plan first n ended a b Q
    made_so Q so = record {
      bytes = m.bytes;
      read = m.read;
      taken = m.taken;
      made = λ more ends. let all = m.bytes ++ more in so (fed live plan first all) (same_frame_count live (pieces_of live plan first all) plan) (m.made more ends);
    }

    -- a frame more
    pub made_more : (ended' : Bool) (server : ServerState) (c : Known Input) (Q : Plan → Type 0) → HasMade live plan first (n + 1) ended' a c (λ shown. IsOneOf ended live plan first m.bytes shown × HasFrame server shown)
        → ((shown : Plan) → frame_count shown ≡ frame_count plan → HasFrame server shown → P shown → Q shown) → HasMade live plan first (n + 1) ended' a c Q
    made_more ended' server c Q next so = record {
      bytes = next.bytes;
      read = next.read;
      taken = next.taken;
      made = λ more ends.
          let all = next.bytes ++ more in
          let here = next.made more ends in
          so (fed live plan first all) (same_frame_count live (pieces_of live plan first all) plan) here.1 (of_one (fed live plan first all) here.0);
    }

    -- a read failed within the next piece
    pub broken_off : (c : Known Input) → BreaksIn live plan first n a c (IsOneOf ended live plan first m.bytes) → BreaksIn live plan first n a c P
    broken_off c x = record { bytes = x.bytes; read = x.read; breaks = x.breaks; made = λ more ends. of_one (fed live plan first (x.bytes ++ more)) (x.made more ends) }
