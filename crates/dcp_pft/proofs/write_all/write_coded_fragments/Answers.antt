use Rattle.std.proofs.Common.{ℕ, ◌≡◌, ◌+◌, ◌*◌, ◌∙◌, List, ◌++◌, length, take, drop, sym, subst, ap, arith}
use Rattle.std.proofs.lemmas.List.{length-take-le}
use Rattle.dcp_pft.specs.Head.{SpellsHead, PftFragment}
use Rattle.dcp_pft.proofs.AllWritten.{laid_is, room_for, coded_fits, front_within, front_is}
use Rattle.dcp_pft.proofs.Fragments.{parity_few}
use Rattle.dcp_pft.proofs.Payloads.{shape_is_taken}
use Rattle.dcp_pft.proofs.Shapes.{has_code}
use Rattle.dcp_pft.proofs.write_all.write_coded_fragments.Goals as goal

pub slice_bounds-lay_out-end : goal.slice_bounds-lay_out-end
slice_bounds-lay_out-end c = room_for c.args.shape.now (length c.args.packet.now) c.from-piece.result c.split_at_mut-coded.result.0.now c.requires.shape c.from-piece.ensures c.split_at_mut-coded.ensures.front_len

pub slice_bounds-lay_out-end-2 : goal.slice_bounds-lay_out-end-2
slice_bounds-lay_out-end-2 c = sym (length-take-le (c.args.shape.now.count * c.from-piece.result + 16) c.split_at_mut-coded.result.0.now (room_for c.args.shape.now (length c.args.packet.now) c.from-piece.result c.split_at_mut-coded.result.0.now c.requires.shape c.from-piece.ensures c.split_at_mut-coded.ensures.front_len))

pub lay_out-requires-clause-within_limit : goal.lay_out-requires-clause-within_limit
lay_out-requires-clause-within_limit c = parity_few c.args.shape.now c.args.rs c.args.packet.now c.args.parity.now c.requires.shape c.requires.code c.requires.parity

pub lay_out-requires-clause-room : goal.lay_out-requires-clause-room
lay_out-requires-clause-room c =
    let shape = c.args.shape.now in
    let fits = coded_fits shape c.args.rs c.args.packet.now c.args.parity.now c.requires.shape c.requires.code c.requires.parity in
    let same : shape.count * c.from-piece.result ≡ shape.count * shape.piece = ap (λ (n : ℕ). shape.count * n) c.from-piece.ensures in
    omega (arith, fits, same, slice_bounds-lay_out-end-2 c)

pub slice_bounds-write_laid_out-end : goal.slice_bounds-write_laid_out-end
slice_bounds-write_laid_out-end c =
    front_within (c.args.shape.now.count * c.from-piece.result + 16) c.split_at_mut-coded.result.0.now c.lay_out.new.into _ (room_for c.args.shape.now (length c.args.packet.now) c.from-piece.result c.split_at_mut-coded.result.0.now c.requires.shape c.from-piece.ensures c.split_at_mut-coded.ensures.front_len) c.lay_out.ensures.same_length

pub slice_bounds-write_laid_out-end-2 : goal.slice_bounds-write_laid_out-end-2
slice_bounds-write_laid_out-end-2 c = sym (length-take-le (c.args.shape.now.count * c.from-piece.result + 16) _ (slice_bounds-write_laid_out-end c))

pub write_laid_out-requires-clause-at_least_one : goal.write_laid_out-requires-clause-at_least_one
write_laid_out-requires-clause-at_least_one c = (has_code (length c.args.packet.now) c.args.shape.now c.args.rs c.requires.shape c.requires.code).byte

pub write_laid_out-requires-clause-piece : goal.write_laid_out-requires-clause-piece
write_laid_out-requires-clause-piece c = let most = (has_code (length c.args.packet.now) c.args.shape.now c.args.rs c.requires.shape c.requires.code).piece in omega (arith, most)

pub write_laid_out-requires-clause-carried : goal.write_laid_out-requires-clause-carried
write_laid_out-requires-clause-carried c = (shape_is_taken (length c.args.packet.now) c.args.shape.now c.requires.shape).bytes

pub write_laid_out-requires-clause-coded : goal.write_laid_out-requires-clause-coded
write_laid_out-requires-clause-coded c =
    length-take-le (c.args.shape.now.count * c.from-piece.result + 16) _
    (front_within (c.args.shape.now.count * c.from-piece.result + 16) c.split_at_mut-coded.result.0.now c.lay_out.new.into _ (room_for c.args.shape.now (length c.args.packet.now) c.from-piece.result c.split_at_mut-coded.result.0.now c.requires.shape c.from-piece.ensures c.split_at_mut-coded.ensures.front_len) c.lay_out.ensures.same_length)
    ∙ ap (λ (n : ℕ). c.args.shape.now.count * n + 16) c.from-piece.ensures

pub returns-clause-fragments : goal.returns-clause-fragments
returns-clause-fragments c = λ i below.
    let shape = c.args.shape.now in
    let laid : ℕ = shape.count * c.from-piece.result + 16 in
    let coded : List ℕ = c.split_at_mut-coded.result.0.now in
    let is = front_is laid coded c.lay_out.new.into (drop laid coded) (room_for c.args.shape.now (length c.args.packet.now) c.from-piece.result c.split_at_mut-coded.result.0.now c.requires.shape c.from-piece.ensures c.split_at_mut-coded.ensures.front_len) c.lay_out.ensures.same_length in
    subst (λ (f : PftFragment). SpellsHead f (take (16 + shape.piece) (drop (i * (16 + shape.piece)) c.write_laid_out.new.into)))
    (laid_is shape c.args.rs c.args.seq i c.args.packet.now c.args.parity.now (take laid (c.lay_out.new.into ++ drop laid coded)) (length (take laid coded)) c.requires.shape c.requires.code c.requires.parity
    (λ n z whole long. is ∙ c.lay_out.ensures.laid n z whole long))
    (c.write_laid_out.ensures.fragments i below)

pub returns-clause-end : goal.returns-clause-end
returns-clause-end c = ap (λ (n : ℕ). c.args.shape.now.count * (16 + n)) c.from-piece.ensures
