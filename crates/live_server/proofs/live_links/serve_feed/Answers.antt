use Rattle.std.proofs.Common.{◌≡◌, ◌+◌, ◌∙◌, ℕ, suc, Bool, not, List, [], ◌∷◌, ◌++◌, length, Option, Ok, Err, refl, sym, ap, ap₂, subst, inl, inr, arith}
use Rattle.std.proofs.lemmas.Result.{err_from_is_err_and}
use Rattle.drm_links.specs.Known.{Known}
use Rattle.drm_links.specs.Source.{Input}
use Rattle.drm_links.specs.History.{History}
use Rattle.drm_links.proofs.KnownLemmas.{counts_one, counts_none, once_then}
use Rattle.drm_schedule.specs.declared.plan.Plan.{Plan}
use Rattle.drm_timeline.specs.Numbers.{frame_count}
use Rattle.drm_server.specs.Stretch.{first_in}
use Rattle.live_streams.specs.Live.{piece_at}
use Rattle.drm_server.specs.ServerState.{ServerState, HasFrame}
use Rattle.drm_server.specs.Serving.{ServesFrame, ServesFrames}
use Rattle.drm_server.proofs.SameFrame.{same_served}
use Rattle.drm_server.proofs.ServingLemmas.{Serves-none, Serves-more}
use Rattle.live_server.specs.Feeding.{AreTaken, IsOneOf, HasMade, BreaksIn}
use Rattle.live_server.specs.Turns.{FeedTurn, Asks, Sends, with_turns, wanted, asks, TurnsCome}
use Rattle.live_server.proofs.GoingLemmas.{not_not, made_none, made_more, broken_off}
use Rattle.live_server.proofs.NothingLemmas.{not_both}
use Rattle.live_server.proofs.TurnLemmas.{with_none, with_then, asks_some, wants_none}
use Rattle.live_server.proofs.live_links.serve_feed.Goals.{else-loop-n-test, then-loop-n-test+then-none_left}
use Rattle.live_server.proofs.live_links.serve_feed.Goals as goal

pub loop-n-init : goal.loop-n-init
loop-n-init g c =
    let u = g.F.LiveFeed.up c.args.feed.now in
    let a = g.F.LiveFeed.history c.args.feed.now in (
      made_none c.args.live.now c.args.server.now.base (first_in c.args.stretch) (g.F.Pieces.input c.args.feed.now) (λ p. ServesFrames p (first_in c.args.stretch) c.args.pace 0 u u a a)
          (λ plan. Serves-none plan (first_in c.args.stretch) c.args.pace u a),
      refl,
      refl,
      refl,
      refl,
      (λ none. (refl, refl)),
      refl,
      refl,
      refl,
      ([], (refl, refl), with_none (g.F.Pieces.turns c.args.feed.now)),
      refl,
      refl,
    )

pub load-requires-clause-frame : goal.load-requires-clause-frame
load-requires-clause-frame g c =
    let same = ap frame_count c.loop-n.invariant.2 in
    let less = c.frames_in-n-end.ensures.within c.loop-n.n c.loop-n-test.true in
    let at = c.frame.ensures in
    omega (arith, same, less, at)

pub returns-in_err-load-clause-served : goal.returns-in_err-load-clause-served
returns-in_err-load-clause-served g c =
    let i = c.loop-n.invariant in
    let live = c.args.live.now in
    let first : ℕ = first_in c.args.stretch in
    let n = c.loop-n.n in
    let a = g.F.Pieces.input c.args.feed.now in
    let P : List Bool → Known History → Plan → Type 0 = λ up history p. ServesFrames p first c.args.pace n (g.F.LiveFeed.up c.args.feed.now) up (g.F.LiveFeed.history c.args.feed.now) history in
    let p = err_from_is_err_and c.from_residual.result c.from_residual.ensures.1 in
    let less = c.loop-n-test.true in
    let many = c.frames_in-n-end.ensures.frames in
    let stay = g.met.F.LiveFeed.links_stay c.loop-n.feed c.load.new.feed c.load.ensures.leaves in
    let breaks = subst (λ plan. BreaksIn live plan first n a (g.F.Pieces.input c.load.new.feed) (IsOneOf c.loop-n.ended live plan first i.0.bytes)) i.2
    (c.in_err-load.ensures.failed first n a i.0.bytes c.frame.ensures i.0.read (subst (λ plan. AreTaken c.loop-n.ended live plan first (first + n) i.0.bytes) (sym i.2) i.0.taken)) in
    rw (p.1, stay.1, stay.0)
    (n, omega (arith, less, many), c.none_left.ensures.no c.if-none_left.false, broken_off live c.args.server.now.base first n c.loop-n.ended a (g.F.Pieces.input c.loop-n.feed) (P (g.F.LiveFeed.up c.loop-n.feed) (g.F.LiveFeed.history c.loop-n.feed)) i.0 (g.F.Pieces.input c.load.new.feed) breaks)

pub returns-in_err-load-clause-nothing : goal.returns-in_err-load-clause-nothing
returns-in_err-load-clause-nothing g c = λ none.
    let still = c.in_err-load.ensures.still (wants_none c.loop-n.ended _ (c.asks_for_nothing.ensures none c.loop-n.server.base c.frame.result)) in
    absurd (not_both (Err c.in_err-load.field-0.0) tt c.in_err-load.field-0.0 still.2 refl)

pub returns-in_err-load-clause-cause : goal.returns-in_err-load-clause-cause
returns-in_err-load-clause-cause g c =
    let p = err_from_is_err_and c.from_residual.result c.from_residual.ensures.1 in
    rw p.1 (counts_one refl (once_then c.loop-n.invariant.1 (c.in_err-load.ensures.cause.once refl)))

pub returns-in_err-load-clause-base : goal.returns-in_err-load-clause-base
returns-in_err-load-clause-base g c = c.in_err-load.ensures.base ∙ c.loop-n.invariant.2

pub returns-in_err-load-clause-same_count : goal.returns-in_err-load-clause-same_count
returns-in_err-load-clause-same_count g c = ap (λ (l : List Bool). length l) (g.met.F.LiveFeed.links_stay c.loop-n.feed c.load.new.feed c.load.ensures.leaves).1 ∙ c.loop-n.invariant.3

pub returns-in_err-load-clause-turns : goal.returns-in_err-load-clause-turns
returns-in_err-load-clause-turns g c =
    let i = c.loop-n.invariant in
    let live = c.args.live.now in
    let plan : Plan = c.args.server.now.base in
    let len : ℕ = piece_at live plan (first_in c.args.stretch + c.loop-n.n) in
    let start = g.F.Pieces.turns c.args.feed.now in
    let p = err_from_is_err_and c.from_residual.result c.from_residual.ensures.1 in
    let asked : piece_at live c.loop-n.server.base c.frame.result ≡ len = ap₂ (λ q k. piece_at live q k) i.2 c.frame.ensures in
    let going = c.in_err-load.ensures.going in
    let turns = i.9 in
    let reads : asks (wanted c.loop-n.ended (piece_at live c.loop-n.server.base c.frame.result)) ≡ Asks len ∷ [] = ap₂ (λ e k. asks (wanted e k)) going.0 asked ∙ asks_some len (λ none. going.1 (asked ∙ none)) in
    let told : g.F.Pieces.turns c.load.new.feed ≡ with_turns (turns.0 ++ Asks len ∷ []) start =
    c.load.ensures.turns ∙ (ap₂ (λ l (o : Option (List FeedTurn)). with_turns l o) reads turns.2 ∙ with_then turns.0 (Asks len ∷ []) start) in
    rw p.1 (c.loop-n.n, turns.0, subst (λ e. TurnsCome live plan (first_in c.args.stretch) c.loop-n.n e turns.0) going.0 turns.1, told)

pub loop-n-preserved : goal.loop-n-preserved
loop-n-preserved g c =
    let i = c.loop-n.invariant in
    let live = c.args.live.now in
    let plan : Plan = c.args.server.now.base in
    let first : ℕ = first_in c.args.stretch in
    let pace = c.args.pace in
    let n = c.loop-n.n in
    let u = g.F.LiveFeed.up c.args.feed.now in
    let v = g.F.LiveFeed.up c.loop-n.feed in
    let w = g.F.LiveFeed.up c.send_frame.new.self in
    let x = g.F.LiveFeed.history c.args.feed.now in
    let y = g.F.LiveFeed.history c.loop-n.feed in
    let z = g.F.LiveFeed.history c.send_frame.new.self in
    let a = g.F.Pieces.input c.args.feed.now in
    let e = c.in_ok-load.ensures in
    let at = c.frame.ensures in
    let loaded : ServerState = c.load.new.server in
    let read = g.F.Pieces.input c.load.new.feed in
    let start = g.F.Pieces.turns c.args.feed.now in
    let stay = g.met.F.LiveFeed.links_stay c.loop-n.feed c.load.new.feed e.leaves in
    let next = subst (λ p. HasMade live p first (n + 1) c.load.new.ended a read (λ shown. IsOneOf c.loop-n.ended live p first i.0.bytes shown × HasFrame loaded shown)) i.2
    (e.loaded first n a i.0.bytes at i.0.read (subst (λ p. AreTaken c.loop-n.ended live p first (first + n) i.0.bytes) (sym i.2) i.0.taken)) in
    let sent : ServesFrame loaded.plan loaded.frame pace n v w y z =
    subst (λ b. ServesFrame loaded.plan loaded.frame pace n b w y z) stay.1 (subst (λ k. ServesFrame loaded.plan loaded.frame pace n (g.F.LiveFeed.up c.load.new.feed) w k z) stay.0 c.send_frame.ensures.made) in
    let made : HasMade live plan first (n + 1) c.load.new.ended a read (λ p. ServesFrames p first pace (n + 1) u w x z) =
    made_more live plan first n c.loop-n.ended a (g.F.Pieces.input c.loop-n.feed) (λ p. ServesFrames p first pace n u v x y) i.0 c.load.new.ended loaded read (λ p. ServesFrames p first pace (n + 1) u w x z) next
    (λ other count has before.
    Serves-more other first pace n u v w x y z (c.none_left.ensures.no c.if-none_left.false) before
    (subst (λ (t : ℕ). ServesFrame other t pace n v w y z) (e.at ∙ at) (same_served loaded other has pace n v w y z sent))) in
    let turns = i.9 in
    let asked = asks (wanted c.loop-n.ended (piece_at live plan (first + n))) in
    let same : asks (wanted c.loop-n.ended (piece_at live c.loop-n.server.base c.frame.result)) ≡ asked = ap₂ (λ q k. asks (wanted c.loop-n.ended (piece_at live q k))) i.2 at in
    let read_told : g.F.Pieces.turns c.load.new.feed ≡ with_turns (turns.0 ++ asked) start =
    e.turns ∙ (ap₂ (λ l (o : Option (List FeedTurn)). with_turns l o) same turns.2 ∙ with_then turns.0 asked start) in
    let told : g.F.Pieces.turns c.send_frame.new.self ≡ with_turns ((turns.0 ++ asked) ++ Sends n ∷ []) start =
    c.send_frame.ensures.turns ∙ (ap (λ (o : Option (List FeedTurn)). with_turns (Sends n ∷ []) o) read_told ∙ with_then (turns.0 ++ asked) (Sends n ∷ []) start) in
    let later : suc n ≡ n + 1 = omega arith in
    let come : TurnsCome live plan first (suc n) c.load.new.ended ((turns.0 ++ asked) ++ Sends n ∷ []) = (c.loop-n.ended, turns.0, turns.1, e.stays, refl) in (
      subst (λ k. HasMade live plan first (n + 1) c.load.new.ended a k (λ p. ServesFrames p first pace (n + 1) u w x z)) (sym c.send_frame.ensures.input) made,
      ap (λ (k : Known Input). k.faults) c.send_frame.ensures.input ∙ (e.cause.same (λ failed. cc) ∙ i.1),
      e.base ∙ i.2,
      c.send_frame.ensures.same_count ∙ (ap (λ (l : List Bool). length l) stay.1 ∙ i.3),
      e.room ∙ i.4,
      (λ none.
          let still = e.still (wants_none c.loop-n.ended _ (c.asks_for_nothing.ensures none c.loop-n.server.base c.frame.result)) in
          let before = i.5 none in
          (c.send_frame.ensures.source ∙ (ap (λ f. g.F.LiveFeed.source f) still.0 ∙ before.0), still.1 ∙ before.1)),
      i.6,
      i.7,
      i.8,
      ((turns.0 ++ asked) ++ Sends n ∷ [], subst (λ (k : ℕ). TurnsCome live plan first k c.load.new.ended ((turns.0 ++ asked) ++ Sends n ∷ [])) later come, told),
      c.send_frame.ensures.same_source ∙ (stay.2 ∙ i.10),
      c.send_frame.ensures.same_links ∙ (stay.3 ∙ i.11),
    )

pub returns-clause-turns : goal.returns-clause-turns
returns-clause-turns g c =
    let turns = c.loop-n.invariant.9 in
    let ended = c.loop-n.ended in
    (c.loop-n.n, turns.0, subst (λ e. TurnsCome c.args.live.now c.args.server.now.base (first_in c.args.stretch) c.loop-n.n e turns.0) (sym (not_not ended)) turns.1, turns.2)

pub returns-clause-served : goal.returns-clause-served
returns-clause-served g c =
    let i = c.loop-n.invariant in
    let many = c.frames_in-n-end.ensures.frames in
    let few = c.loop-n.auto.n-end in (
      c.loop-n.n,
      omega (arith, many, few),
      elim c.loop-n-test.branch [
        | else-loop-n-test w ↦ inl (let all = w.loop-n-test.false in omega (arith, all, many, few))
        | then-loop-n-test+then-none_left w ↦ inr (w.none_left.ensures.yes w.if-none_left.true)
      ],
      rw (not_not c.loop-n.ended) i.0,
    )

pub returns-clause-nothing : goal.returns-clause-nothing
returns-clause-nothing g c = λ none.
    let before = c.loop-n.invariant.5 none in
    (before.0, ap (λ e. Ok (not e)) before.1)

pub returns-clause-cause : goal.returns-clause-cause
returns-clause-cause g c = counts_none (λ failed. cc) c.loop-n.invariant.1

pub returns-clause-base : goal.returns-clause-base
returns-clause-base g c = c.loop-n.invariant.2

pub returns-clause-same_count : goal.returns-clause-same_count
returns-clause-same_count g c = c.loop-n.invariant.3

pub returns-in_err-load-clause-same_source : goal.returns-in_err-load-clause-same_source
returns-in_err-load-clause-same_source g c = (g.met.F.LiveFeed.links_stay c.loop-n.feed c.load.new.feed c.load.ensures.leaves).2 ∙ c.loop-n.invariant.10

pub returns-in_err-load-clause-same_links : goal.returns-in_err-load-clause-same_links
returns-in_err-load-clause-same_links g c = (g.met.F.LiveFeed.links_stay c.loop-n.feed c.load.new.feed c.load.ensures.leaves).3 ∙ c.loop-n.invariant.11

pub returns-clause-same_source : goal.returns-clause-same_source
returns-clause-same_source g c = c.loop-n.invariant.10

pub returns-clause-same_links : goal.returns-clause-same_links
returns-clause-same_links g c = c.loop-n.invariant.11
