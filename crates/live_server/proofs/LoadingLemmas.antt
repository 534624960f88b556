-- A frame that is loaded with what came for it is that of the schedule that the bytes make.
use Rattle.std.proofs.Common.{◌≡◌, ◌<◌, ◌≤◌, ◌+◌, ℕ, Bool, true, false, List, [], ◌++◌, length, take, None, refl, sym, ap, subst, ◌∙◌, arith, append_assoc, length-append}
use Rattle.std.proofs.lemmas.List.{append-nil, length-take-le}
use Rattle.drm_links.specs.Known.{Known}
use Rattle.drm_links.specs.Source.{Input, InputsBytes}
use Rattle.drm_links.proofs.KnownLemmas.{InputsBytes-then}
use Rattle.drm_schedule.specs.declared.live.Live.{Live}
use Rattle.drm_schedule.specs.declared.plan.Plan.{Plan}
use Rattle.drm_schedule.specs.Valid.{IsSchedule}
use Rattle.drm_timeline.specs.Numbers.{frame_count}
use Rattle.live_streams.specs.Live.{live_schedule, piece_at}
use Rattle.live_streams.specs.Input.{bytes_before, pieces_of}
use Rattle.live_streams.proofs.InputLemmas.{offset_next, pieces_are_whole, piece_here, none_here}
use Rattle.drm_server.specs.ServerState.{ServerState, HasFrame, only_at}
use Rattle.drm_server.proofs.SameFrame.{live_has, plain_has, empty_has}
use Rattle.live_server.specs.Feeding.{fed, AreTaken, HasRead, BreaksOff, IsOneOf, HasMade, BreaksIn}
use Rattle.live_server.specs.Turns.{wanted}

-- a frame asks for a piece, and the front of the room that it is read into has its length
pub asks_for : (ended : Bool) (piece len : ℕ) (room : List ℕ) → 32760 ≤ length room → len ≤ 32760 → len ≡ wanted ended piece → (len ≡ 0 → ⊥) → (ended ≡ false) × (len ≡ piece) × (length (take len room) ≡ piece)
asks_for true piece len room enough most is some = absurd (some is)
asks_for false piece len room enough most is some = (refl, is, length-take-le len room (omega (arith, enough, most)) ∙ is)

module _ (live : Live) (plan : Plan) (valid : IsSchedule plan) (t : ℕ) (within : t < frame_count plan) (first n : ℕ) (a : Known Input) (bytes : List ℕ) (at : t ≡ first + n) where
  behind : first ≤ t
  behind = omega (arith, at)

  -- the frame of the schedule itself
  abbrev own : ServerState
  own = record { base = plan; plan = plan; frame = t }

  -- and with this piece
  abbrev with_piece : List ℕ → ServerState
  with_piece piece = record { base = plan; plan = live_schedule live (only_at t piece) plan; frame = t }

  own_shows : (all : List ℕ) → pieces_of live plan first all t ≡ None → HasFrame own (fed live plan first all)
  own_shows all none = plain_has live (pieces_of live plan first all) plan t valid (pieces_are_whole live plan first all) within none

  -- too few bytes for frames up to it
  short_shows : (all more : List ℕ) → more ≡ [] → length all < bytes_before live plan first (t + 1) → HasFrame own (fed live plan first (all ++ more))
  short_shows all more none short =
      let same : all ++ more ≡ all = ap (λ l. all ++ l) none ∙ append-nil all in
      own_shows (all ++ more) (subst (λ l. pieces_of live plan first l t ≡ None) (sym same) (none_here live plan first t all behind short))

  -- the bytes of the frames before it, and of those up to it
  before : (ended : Bool) → AreTaken ended live plan first (first + n) bytes → AreTaken ended live plan first t bytes
  before ended taken = subst (λ k. AreTaken ended live plan first k bytes) (sym at) taken

  up_to_it : (ended : Bool) (all : List ℕ) → AreTaken ended live plan first (t + 1) all → AreTaken ended live plan first (first + (n + 1)) all
  up_to_it ended all taken =
      let later : t + 1 ≡ first + (n + 1) = omega (arith, at) in
      subst (λ k. AreTaken ended live plan first k all) later taken

  next : bytes_before live plan first (t + 1) ≡ bytes_before live plan first t + piece_at live plan t
  next = offset_next live plan first t behind

  abbrev Loads : Bool → Bool → Known Input → ServerState → Type 0
  Loads ended ended' b server = HasMade live plan first (n + 1) ended' a b (λ shown. IsOneOf ended live plan first bytes shown × HasFrame server shown)

  -- nothing is read for it: input has ended before, or it asks for nothing
  pub loads_own : (ended : Bool) (b : Known Input) → HasRead ended bytes a b → AreTaken ended live plan first (first + n) bytes → wanted ended (piece_at live plan t) ≡ 0 → Loads ended ended b own
  loads_own true b read taken none =
      let few : length bytes < bytes_before live plan first t = before true taken in
      let short : length bytes < bytes_before live plan first (t + 1) = omega (arith, few, next) in
      record { bytes = bytes; read = read; taken = up_to_it true bytes short; made = λ more ends. ((more, ends, refl), short_shows bytes more (ends refl) short) }
  loads_own false b read taken none =
      let all : length bytes ≡ bytes_before live plan first t = before false taken in
      record {
        bytes = bytes;
        read = read;
        taken = up_to_it false bytes (omega (arith, all, next, none));
        made = λ more ends. (
          (more, ends, refl),
          empty_has live (pieces_of live plan first (bytes ++ more)) plan t valid (pieces_are_whole live plan first (bytes ++ more)) within none,
        );
      }

  -- some bytes are
  module _ (b c : Known Input) (got : List ℕ) (ended : Bool) (going : ended ≡ false) (had : HasRead ended bytes a b) (taken : AreTaken ended live plan first (first + n) bytes) (read : InputsBytes b c (λ left rest. left ≡ got ++ rest)) where
    abbrev all : List ℕ
    all = bytes ++ got

    all_read : InputsBytes a c (λ left rest. left ≡ all ++ rest)
    all_read =
        InputsBytes-then (λ left rest. left ≡ bytes ++ rest) (λ left rest. left ≡ got ++ rest) (λ left rest. left ≡ all ++ rest) a b c had.read read
        (λ x y z p q. p ∙ (ap (λ l. bytes ++ l) q ∙ sym (append_assoc bytes got z)))

    one_of : (more : List ℕ) → IsOneOf ended live plan first bytes (fed live plan first (all ++ more))
    one_of more = (got ++ more, (λ end. absurd (let no = going in cc)), ap (fed live plan first) (append_assoc bytes got more))

    whole : length bytes ≡ bytes_before live plan first t
    whole = before false (subst (λ e. AreTaken e live plan first (first + n) bytes) going taken)

    long : length all ≡ bytes_before live plan first t + length got
    long = omega (arith, whole, length-append bytes got)

    -- too few, and input has ended
    pub loads_cut : length got < piece_at live plan t → InputsBytes b c (λ left rest. rest ≡ []) → Loads ended true c own
    loads_cut cut end =
        let short : length all < bytes_before live plan first (t + 1) = omega (arith, cut, long, next) in
        record {
          bytes = all;
          read = record {
            read = all_read;
            all = λ is. InputsBytes-then (λ left rest. left ≡ bytes ++ rest) (λ left rest. rest ≡ []) (λ left rest. rest ≡ []) a b c had.read end (λ x y z p q. q);
          };
          taken = up_to_it true all short;
          made = λ more ends. (one_of more, short_shows all more (ends refl) short);
        }

    -- its piece
    pub loads_whole : length got ≡ piece_at live plan t → Loads ended ended c (with_piece got)
    loads_whole size = record {
      bytes = all;
      read = record { read = all_read; all = λ end. absurd (let no = going in cc) };
      taken = subst (λ e. AreTaken e live plan first (first + (n + 1)) all) (sym going) (up_to_it false all (omega (arith, size, long, next)));
      made = λ more ends.
          let here = piece_here live plan first t (all ++ more) bytes got more (append_assoc bytes got more) behind whole size in
          (one_of more, live_has live (pieces_of live plan first (all ++ more)) plan t valid (pieces_are_whole live plan first (all ++ more)) within got here);
    }

    -- too few, since a read failed
    pub breaks_in : length got < piece_at live plan t → BreaksIn live plan first n a c (IsOneOf ended live plan first bytes)
    breaks_in cut = record {
      bytes = all;
      read = record { read = all_read; all = λ end. absurd cc };
      breaks = subst (λ k. BreaksOff live plan first k all) at (record { enough = omega (arith, long); short = omega (arith, cut, long, next) });
      made = λ more ends. one_of more;
    }
