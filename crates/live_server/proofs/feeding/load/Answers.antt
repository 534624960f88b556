use Rattle.std.proofs.Common.{◌≡◌, ℕ, List, ◌++◌, length, take, sym, ap, subst, ◌∙◌, arith}
use Rattle.std.proofs.lemmas.List.{length-take-le, take_all}
use Rattle.std.proofs.lemmas.Result.{err_from_is_err_and}
use Rattle.drm_links.specs.Source.{InputsBytes}
use Rattle.drm_schedule.specs.declared.plan.Plan.{Plan}
use Rattle.drm_schedule.specs.Valid.{IsSchedule}
use Rattle.live_streams.specs.Live.{piece_at}
use Rattle.live_server.specs.Turns.{with_turns, asks}
use Rattle.live_server.proofs.LoadingLemmas.{asks_for, loads_own, loads_cut, loads_whole, breaks_in}
use Rattle.live_server.proofs.TurnLemmas.{with_none}
use Rattle.live_server.proofs.feeding.load.Goals as goal

-- ---- nothing is read

pub returns-then-len-eq0-clause-loaded : goal.returns-then-len-eq0-clause-loaded
returns-then-len-eq0-clause-loaded g c = λ first n start bytes at had taken.
    let valid : IsSchedule c.args.server.now.base = subst IsSchedule c.schedule.ensures c.always_valid.ensures.schedule in
    rw c.load.ensures (loads_own c.args.live.now c.args.server.now.base valid c.args.t c.requires.frame first n start bytes at c.args.ended.now (g.P.Pieces.input c.args.feed.now) had taken (sym c.wanted_len-len.ensures.len ∙ c.if-len-eq0.true))

pub returns-then-len-eq0-clause-turns : goal.returns-then-len-eq0-clause-turns
returns-then-len-eq0-clause-turns g c =
    let told = g.P.Pieces.turns c.args.feed.now in
    with_none told ∙ ap (λ (len : ℕ). with_turns (asks len) told) (sym c.if-len-eq0.true ∙ c.wanted_len-len.ensures.len)

-- ---- some bytes are

pub returns-in_err-len_read-clause-failed : goal.returns-in_err-len_read-clause-failed
returns-in_err-len_read-clause-failed g c =
    let plan : Plan = c.args.server.now.base in
    let valid : IsSchedule plan = subst IsSchedule c.schedule.ensures c.always_valid.ensures.schedule in
    let len = c.wanted_len-len in
    let (going, asked, size) = asks_for c.args.ended.now (piece_at c.args.live.now plan c.args.t) len.result c.args.scratch.now c.requires.room len.ensures.most len.ensures.len c.if-len-eq0.false in
    let p = err_from_is_err_and c.from_residual.result c.from_residual.ensures.1 in
    let (got, cut, read) = c.in_err-len_read.ensures.failed in
    rw p.1 (λ first n start bytes at had taken.
    breaks_in c.args.live.now plan valid c.args.t c.requires.frame first n start bytes at (g.P.Pieces.input c.args.feed.now) (g.P.Pieces.input c.read_piece.new.self) got c.args.ended.now going had taken read (omega (arith, cut, size)))

-- its piece is cut
pub returns-then-len_read-len-clause-loaded : goal.returns-then-len_read-len-clause-loaded
returns-then-len_read-len-clause-loaded g c = λ first n start bytes at had taken.
    let plan : Plan = c.args.server.now.base in
    let valid : IsSchedule plan = subst IsSchedule c.schedule.ensures c.always_valid.ensures.schedule in
    let len = c.wanted_len-len in
    let (going, asked, size) = asks_for c.args.ended.now (piece_at c.args.live.now plan c.args.t) len.result c.args.scratch.now c.requires.room len.ensures.most len.ensures.len c.if-len-eq0.false in
    let len_read = c.in_ok-len_read.len_read in
    let got : List ℕ = take len_read c.read_piece.new.piece in
    let within = c.in_ok-len_read.ensures.read.0 in
    let same = c.read_piece.auto.piece in
    let less = c.if-len_read-len.true in
    let long : length got ≡ len_read = length-take-le len_read c.read_piece.new.piece (omega (arith, within, same)) in
    let front = c.in_ok-len_read.ensures.read.1 in
    rw c.load-then-len_read-len.ensures
    (loads_cut c.args.live.now plan valid c.args.t c.requires.frame first n start bytes at (g.P.Pieces.input c.args.feed.now) (g.P.Pieces.input c.read_piece.new.self) got c.args.ended.now going had taken front.front
    (omega (arith, asked, long, less)) (front.all (omega (arith, asked, size, long, less))))

-- it came whole
pub returns-else-len_read-len-clause-loaded : goal.returns-else-len_read-len-clause-loaded
returns-else-len_read-len-clause-loaded g c = λ first n start bytes at had taken.
    let plan : Plan = c.args.server.now.base in
    let valid : IsSchedule plan = subst IsSchedule c.schedule.ensures c.always_valid.ensures.schedule in
    let len = c.wanted_len-len in
    let (going, asked, size) = asks_for c.args.ended.now (piece_at c.args.live.now plan c.args.t) len.result c.args.scratch.now c.requires.room len.ensures.most len.ensures.len c.if-len-eq0.false in
    let len_read = c.in_ok-len_read.len_read in
    let piece : List ℕ = c.read_piece.new.piece in
    let within = c.in_ok-len_read.ensures.read.0 in
    let same = c.read_piece.auto.piece in
    let all = c.if-len_read-len.false in
    let whole : take len_read piece ≡ piece = take_all len_read piece (omega (arith, within, same, size, asked, all)) in
    let read = subst (λ (l : List ℕ). InputsBytes (g.P.Pieces.input c.args.feed.now) (g.P.Pieces.input c.read_piece.new.self) (λ left rest. left ≡ l ++ rest)) whole c.in_ok-len_read.ensures.read.1.front in
    rw c.load_live.ensures
    (loads_whole c.args.live.now plan valid c.args.t c.requires.frame first n start bytes at (g.P.Pieces.input c.args.feed.now) (g.P.Pieces.input c.read_piece.new.self) piece c.args.ended.now going had taken read (omega (arith, same, size)))
