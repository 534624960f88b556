-- The fragments of a shape with a code, and of one without.
use Rattle.std.proofs.Common.{ℕ, zero, suc, ◌≡◌, ◌+◌, ◌-◌, ◌*◌, ◌/◌, ◌≤◌, Option, None, Some, List, [], ◌∷◌, ◌++◌, length, take, drop, replicate, refl, sym, subst, ap, ◌∙◌, append_assoc, arith, length-append, length-drop, length-take}
use Rattle.std.specs.Int.{w16, to_be_bytes}
use Rattle.std.proofs.lemmas.List.{length-replicate, drop-drop}
use Rattle.std.proofs.lemmas.List.FromFn.{length-map-range_with_len}
use Rattle.rs_erase.specs.Code.{IsCodeWord, word_of}
use Rattle.drm_bits.specs.Bits.{IsBytes}
use Rattle.dcp_pft.specs.declared.shape.Rs.{Rs}
use Rattle.dcp_pft.specs.declared.shape.Shape.{Shape}
use Rattle.dcp_pft.specs.Limits.{most_parity}
use Rattle.dcp_pft.specs.Cutting.{chunks_of, IsShapeOf}
use Rattle.dcp_pft.specs.Coding.{AreParities, IsParityOf, filled, coded, every, byte_or_zero}
use Rattle.dcp_pft.specs.Head.{PftFragment, head, sync, three_bytes, fragment_of}
use Rattle.dcp_pft.specs.Writing.{PutsHead, WritesFragment}
use Rattle.dcp_pft.proofs.Shapes.{HasCode, has_code, HasNone, has_none}
use Rattle.dcp_pft.proofs.Written.{fragment_put}

-- the shape, with a code that is told beside it
abbrev pub with_rs : Shape → Option Rs → Shape
with_rs shape o = record { count = shape.count; piece = shape.piece; rs = o }

-- the chunks by that code
abbrev pub chunks_by : Shape → Rs → ℕ
chunks_by shape rs = shape.count * shape.piece / (rs.k + 48)

pub chunks_with : (shape : Shape) (rs : Rs) → shape.rs ≡ Some rs → chunks_of shape ≡ chunks_by shape rs
chunks_with shape rs is = ap (λ (o : Option Rs). chunks_of (with_rs shape o)) is

pub parities_with : (shape : Shape) (rs : Rs) (packet parity : List ℕ) → shape.rs ≡ Some rs → IsParityOf shape packet parity
    → AreParities (chunks_by shape rs) rs.k (filled rs packet) parity
parities_with shape rs packet parity is h = subst (λ (o : Option Rs). IsParityOf (with_rs shape o) packet parity) is h

-- 48 bytes for each chunk
parity_long : (chunk parity : List ℕ) → length chunk ≤ 207 → IsCodeWord (word_of chunk parity) → length parity ≡ 48
parity_long chunk parity small word =
    omega (arith, word.long, length-append (chunk ++ replicate (207 - length chunk) 0) parity, length-append chunk (replicate (207 - length chunk) 0), length-replicate {A = ℕ} (207 - length chunk) 0)

pub parities_long : (c k : ℕ) (chunks parities : List ℕ) → k ≤ 207 → AreParities c k chunks parities → length parities ≡ 48 * c
parities_long zero k chunks parities small are = ap length are
parities_long (suc c) k chunks parities small are =
    let chunk : length (take k chunks) ≤ 207 = omega (arith, length-take k chunks) in
    let first : length (take 48 parities) ≡ 48 = parity_long (take k chunks) (take 48 parities) chunk are.0 in
    let rest : length (drop 48 parities) ≡ 48 * c = parities_long c k (drop k chunks) (drop 48 parities) small are.1 in
    omega (arith, first, rest, length-take 48 parities, length-drop 48 parities)

-- as much as there is room for
pub parity_few : (shape : Shape) (rs : Rs) (packet parity : List ℕ) → IsShapeOf (length packet) shape → shape.rs ≡ Some rs → IsParityOf shape packet parity
    → length parity ≤ most_parity
parity_few shape rs packet parity is has is_parity =
    let here : HasCode (length packet) shape rs = has_code (length packet) shape rs is has in
    omega (arith, here.chunks, chunks_with shape rs has, parities_long (chunks_by shape rs) rs.k (filled rs packet) parity here.size (parities_with shape rs packet parity has is_parity))

-- a fragment with a code
pub fragment_with : (shape : Shape) (rs : Rs) (seq i : ℕ) (packet parity payload : List ℕ) → shape.rs ≡ Some rs
    → payload ≡ every shape.count i shape.piece (coded (chunks_by shape rs) rs.k (filled rs packet) parity)
    → record { seq = seq; index = i; count = shape.count; rs = Some rs; addr = None; payload = payload } ≡ fragment_of shape seq packet parity i
fragment_with shape rs seq i packet parity payload is is_payload =
    ap (λ (p : List ℕ). record { seq = seq; index = i; count = shape.count; rs = Some rs; addr = None; payload = p }) is_payload
    ∙ ap (λ (o : Option Rs). fragment_of (with_rs shape o) seq packet parity i) (sym is)

-- its header
pub head_with : (seq index count size : ℕ) (rs : Rs) (payload : List ℕ) → length payload ≡ size
    → sync ++ to_be_bytes w16 seq ++ three_bytes index ++ three_bytes count ++ to_be_bytes w16 (32768 + size) ++ rs.k ∷ rs.z ∷ []
    ≡ head (record { seq = seq; index = index; count = count; rs = Some rs; addr = None; payload = payload })
head_with seq index count size rs payload is =
    ap (λ (n : ℕ). sync ++ to_be_bytes w16 seq ++ three_bytes index ++ three_bytes count ++ to_be_bytes w16 (32768 + n) ++ rs.k ∷ rs.z ∷ []) (sym is)

-- it is written
pub coded_writes : (shape : Shape) (rs : Rs) (seq i : ℕ) (packet parity front old mid window : List ℕ) → IsShapeOf (length packet) shape → shape.rs ≡ Some rs
    → IsParityOf shape packet parity
    → front ≡ sync ++ to_be_bytes w16 seq ++ three_bytes i ++ three_bytes shape.count ++ to_be_bytes w16 (32768 + shape.piece) ++ rs.k ∷ rs.z ∷ []
    → PutsHead front old mid → IsBytes window → (n room : ℕ) → n ≡ shape.piece → room ≡ shape.piece
    → ((c z : ℕ) → c * rs.k ≡ length packet + z → length parity ≡ 48 * c → window ≡ every shape.count i room (coded c rs.k (packet ++ replicate z 0) parity))
    → WritesFragment (fragment_of shape seq packet parity i) (16 + n) old (take 16 mid ++ (window ++ drop (16 + n - 16) (drop 16 mid)))
coded_writes shape rs seq i packet parity front old mid window is has is_parity is_front puts bytes n room is_n is_room all =
    let here : HasCode (length packet) shape rs = has_code (length packet) shape rs is has in
    let c : ℕ = chunks_by shape rs in
    let whole : chunks_by shape rs * rs.k ≡ length packet + rs.z = ap (λ (m : ℕ). m * rs.k) (sym (chunks_with shape rs has)) ∙ here.whole in
    let long : length parity ≡ 48 * chunks_by shape rs = parities_long (chunks_by shape rs) rs.k (filled rs packet) parity here.size (parities_with shape rs packet parity has is_parity) in
    let bytes_of : List ℕ = coded (chunks_by shape rs) rs.k (filled rs packet) parity in
    let is_window : window ≡ every shape.count i shape.piece bytes_of = all (chunks_by shape rs) rs.z whole long ∙ ap (λ (m : ℕ). every shape.count i m bytes_of) is_room in
    let size : length window ≡ shape.piece = ap length is_window ∙ length-map-range_with_len (λ (j : ℕ). byte_or_zero bytes_of (j * shape.count + i)) 0 shape.piece in
    let f : PftFragment = record { seq = seq; index = i; count = shape.count; rs = Some rs; addr = None; payload = window } in
    let behind : drop (16 + n - 16) (drop 16 mid) ≡ drop (16 + n) mid = drop-part 16 n mid in
    let P : PftFragment → Type 0 = λ g. WritesFragment g (16 + n) old (take 16 mid ++ (window ++ drop (16 + n - 16) (drop 16 mid))) in
    subst P (fragment_with shape rs seq i packet parity window has is_window)
    (fragment_put f front old mid (take 16 mid ++ (window ++ drop (16 + n - 16) (drop 16 mid))) window 16 (16 + n) puts
    (is_front ∙ head_with seq i shape.count shape.piece rs window size) refl
    (ap (λ (l : List ℕ). length l + 2) is_front) (omega (arith, size)) (omega (arith, here.piece)) bytes
    (sym (append_assoc (take 16 mid) window (drop (16 + n - 16) (drop 16 mid))) ∙ ap (λ (l : List ℕ). take 16 mid ++ window ++ l) behind))
  where
    drop-part : (a n : ℕ) (xs : List ℕ) → drop (a + n - a) (drop a xs) ≡ drop (a + n) xs
    drop-part a n xs = let e : a + n - a ≡ n = omega arith in ap (λ (m : ℕ). drop m (drop a xs)) e ∙ drop-drop n a xs

-- the room that is left for the payload
pub room_is : (mid old : List ℕ) (n piece : ℕ) → length mid ≡ length old → length old ≡ 1500 → n ≡ piece → piece + 16 ≤ 1500 → length (take (16 + n - 16) (drop 16 mid)) ≡ piece
room_is mid old n piece same long is small = omega (arith, length-take (16 + n - 16) (drop 16 mid), length-drop 16 mid)

-- a fragment without a code
pub fragment_none : (shape : Shape) (seq i : ℕ) (packet parity payload : List ℕ) → shape.rs ≡ None
    → payload ≡ take shape.piece (drop (i * shape.piece) packet)
    → record { seq = seq; index = i; count = shape.count; rs = None; addr = None; payload = payload } ≡ fragment_of shape seq packet parity i
fragment_none shape seq i packet parity payload is is_payload =
    ap (λ (p : List ℕ). record { seq = seq; index = i; count = shape.count; rs = None; addr = None; payload = p }) is_payload
    ∙ ap (λ (o : Option Rs). fragment_of (with_rs shape o) seq packet parity i) (sym is)

pub head_none : (seq index count : ℕ) (payload : List ℕ)
    → sync ++ to_be_bytes w16 seq ++ three_bytes index ++ three_bytes count ++ to_be_bytes w16 (length payload)
    ≡ head (record { seq = seq; index = index; count = count; rs = None; addr = None; payload = payload })
head_none seq index count payload = let e : length payload ≡ 0 + length payload = omega arith in
    ap (λ (n : ℕ). sync ++ to_be_bytes w16 seq ++ three_bytes index ++ three_bytes count ++ to_be_bytes w16 n) e

pub plain_writes : (shape : Shape) (seq i : ℕ) (packet parity front old mid new payload : List ℕ) → IsShapeOf (length packet) shape → shape.rs ≡ None
    → payload ≡ take shape.piece (drop (i * shape.piece) packet)
    → front ≡ sync ++ to_be_bytes w16 seq ++ three_bytes i ++ three_bytes shape.count ++ to_be_bytes w16 (length payload)
    → PutsHead front old mid → IsBytes payload
    → new ≡ take 14 mid ++ payload ++ drop (14 + length payload) mid
    → WritesFragment (fragment_of shape seq packet parity i) (14 + length payload) old new
plain_writes shape seq i packet parity front old mid new payload is none is_payload is_front puts bytes is_new =
    let here : HasNone (length packet) shape = has_none (length packet) shape is none in
    let size : length payload ≤ shape.piece = omega (arith, ap length is_payload, length-take shape.piece (drop (i * shape.piece) packet)) in
    let f : PftFragment = record { seq = seq; index = i; count = shape.count; rs = None; addr = None; payload = payload } in
    let P : PftFragment → Type 0 = λ g. WritesFragment g (14 + length payload) old new in
    subst P (fragment_none shape seq i packet parity payload none is_payload)
    (fragment_put f front old mid new payload 14 (14 + length payload) puts (is_front ∙ head_none seq i shape.count payload) refl
    (ap (λ (l : List ℕ). length l + 2) is_front) refl (omega (arith, here.piece)) bytes is_new)
