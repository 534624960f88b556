-- All fragments of a packet, written one after another.
use Rattle.std.proofs.Common.{ℕ, ◌≡◌, ◌+◌, ◌-◌, ◌*◌, ◌/◌, ◌%◌, ◌<◌, ◌≤◌, Some, List, [], ◌∷◌, ◌++◌, length, take, drop, replicate, refl, sym, subst, ap, ◌∙◌, arith, length-append, length-drop}
use Rattle.std.specs.Int.{w16, to_be_bytes}
use Rattle.std.proofs.Math.Nat.{mul-le-mul_right, div-mul-le_self}
use Rattle.std.proofs.lemmas.List.{ext_get_or, get_or-take, get_or-drop, length-take-le, take_at}
use Rattle.drm_bits.specs.Bits.{IsBytes}
use Rattle.dcp_pft.specs.declared.shape.Rs.{Rs}
use Rattle.dcp_pft.specs.declared.shape.Shape.{Shape}
use Rattle.dcp_pft.specs.Coding.{byte_or_zero, coded, every, filled, IsParityOf}
use Rattle.dcp_pft.specs.Cutting.{IsShapeOf}
use Rattle.dcp_pft.specs.Head.{fragment_of, sync, three_bytes}
use Rattle.dcp_pft.specs.Writing.{PutsHead, WritesFragment}
use Rattle.dcp_pft.specs.Turning.{HoldsColumns, with_payload, laid_fragment}
use Rattle.dcp_pft.proofs.Coming.{every_at, length-every}
use Rattle.dcp_pft.proofs.Fragments.{chunks_by, chunks_with, parities_with, parities_long, fragment_with, head_with}
use Rattle.dcp_pft.proofs.Interleaved.{filled_at}
use Rattle.dcp_pft.proofs.Payloads.{shape_is_taken}
use Rattle.dcp_pft.proofs.Shapes.{HasCode, has_code}
use Rattle.dcp_pft.proofs.Written.{fragment_put}

-- a payload with its header
pub payload_writes : (shape : Shape) (rs : Rs) (seq i : ℕ) (payload front old mid new : List ℕ) → length payload ≡ shape.piece → shape.piece + 16 ≤ 1500
    → front ≡ sync ++ to_be_bytes w16 seq ++ three_bytes i ++ three_bytes shape.count ++ to_be_bytes w16 (32768 + shape.piece) ++ rs.k ∷ rs.z ∷ []
    → PutsHead front old mid → IsBytes payload → new ≡ take 16 mid ++ payload ++ drop (16 + length payload) mid
    → WritesFragment (with_payload shape rs seq i payload) (16 + length payload) old new
payload_writes shape rs seq i payload front old mid new long small is_front puts bytes is_new =
    fragment_put (with_payload shape rs seq i payload) front old mid new payload 16 (16 + length payload) puts
    (is_front ∙ head_with seq i shape.count shape.piece rs payload long) refl
    (ap (λ (l : List ℕ). length l + 2) is_front) refl (omega (arith, long, small)) bytes is_new

-- what a fragment carries is the front of its column
pub column_is : (count i piece height : ℕ) (coded columns : List ℕ) → piece ≤ height → 16 * height ≤ length columns
    → HoldsColumns count (i - i % 16) piece height coded columns
    → take piece (drop (i % 16 * height) columns) ≡ every count i piece coded
column_is count i piece height coded columns within room holds =
    let f : ℕ = i % 16 in
    let few : f < 16 = omega arith in
    let most : (f + 1) * height ≤ 16 * height = mul-le-mul_right height (omega (arith, few)) in
    let long : length (take piece (drop (f * height) columns)) ≡ piece = length-take-le piece (drop (f * height) columns) (omega (arith, most, room, within, length-drop (f * height) columns)) in
    let place : i - f + f ≡ i = omega arith in
    ext_get_or 0 (take piece (drop (f * height) columns)) (every count i piece coded) (omega (arith, long, length-every count piece i coded))
    (λ j lt.
    let low : j < piece = omega (arith, lt, long) in
    get_or-take piece (drop (f * height) columns) j 0 low
    ∙ (get_or-drop (f * height) columns j 0
    ∙ (holds f j few low
    ∙ (ap (λ (n : ℕ). byte_or_zero coded (j * count + n)) place
    ∙ sym (every_at count piece i j coded low)))))

-- the columns that stand serve the next fragment too, unless it is the first of sixteen
pub still_stand : (count i piece height : ℕ) (coded columns : List ℕ) → HoldsColumns count (i - i % 16) piece height coded columns
    → 0 < (i + 1) % 16 → HoldsColumns count (i + 1 - (i + 1) % 16) piece height coded columns
still_stand count i piece height coded columns holds later =
    subst (λ (n : ℕ). HoldsColumns count n piece height coded columns) (let e : i - i % 16 ≡ i + 1 - (i + 1) % 16 = omega (arith, later) in e) holds

-- zeros behind the coded bytes change nothing
every_filled : (count first piece z : ℕ) (bytes : List ℕ) → every count first piece (bytes ++ replicate z 0) ≡ every count first piece bytes
every_filled count first piece z bytes =
    ext_get_or 0 (every count first piece (bytes ++ replicate z 0)) (every count first piece bytes)
    (omega (arith, length-every count piece first (bytes ++ replicate z 0), length-every count piece first bytes))
    (λ j lt.
    let low : j < piece = omega (arith, lt, length-every count piece first (bytes ++ replicate z 0)) in
    every_at count piece first j (bytes ++ replicate z 0) low ∙ (filled_at bytes z (j * count + first) ∙ sym (every_at count piece first j bytes low)))

-- the fragments of coded bytes that are laid out are those of the packet
pub laid_is : (shape : Shape) (rs : Rs) (seq i : ℕ) (packet parity laid : List ℕ) (size : ℕ) → IsShapeOf (length packet) shape → shape.rs ≡ Some rs → IsParityOf shape packet parity
    → ((c z : ℕ) → c * rs.k ≡ length packet + z → length parity ≡ 48 * c → laid ≡ coded c rs.k (packet ++ replicate z 0) parity ++ replicate (size - c * (rs.k + 48)) 0)
    → laid_fragment shape rs seq laid i ≡ fragment_of shape seq packet parity i
laid_is shape rs seq i packet parity laid size is has is_parity all =
    let here : HasCode (length packet) shape rs = has_code (length packet) shape rs is has in
    let c : ℕ = chunks_by shape rs in
    let whole : c * rs.k ≡ length packet + rs.z = ap (λ (m : ℕ). m * rs.k) (sym (chunks_with shape rs has)) ∙ here.whole in
    let long : length parity ≡ 48 * c = parities_long c rs.k (filled rs packet) parity here.size (parities_with shape rs packet parity has is_parity) in
    fragment_with shape rs seq i packet parity (every shape.count i shape.piece laid) has
    (ap (every shape.count i shape.piece) (all c rs.z whole long)
    ∙ every_filled shape.count i shape.piece (size - c * (rs.k + 48)) (coded c rs.k (filled rs packet) parity))

-- the coded chunks fit the fragments
pub coded_fits : (shape : Shape) (rs : Rs) (packet parity : List ℕ) → IsShapeOf (length packet) shape → shape.rs ≡ Some rs → IsParityOf shape packet parity
    → length parity / 48 * (rs.k + 48) ≤ shape.count * shape.piece
coded_fits shape rs packet parity is has is_parity =
    let here : HasCode (length packet) shape rs = has_code (length packet) shape rs is has in
    let c : ℕ = chunks_by shape rs in
    let long : length parity ≡ 48 * c = parities_long c rs.k (filled rs packet) parity here.size (parities_with shape rs packet parity has is_parity) in
    let chunks : length parity / 48 ≡ c = omega (arith, long) in
    let fits : c * (rs.k + 48) ≤ shape.count * shape.piece = div-mul-le_self (shape.count * shape.piece) (rs.k + 48) in
    subst (λ (n : ℕ). n * (rs.k + 48) ≤ shape.count * shape.piece) (sym chunks) fits

-- a front that was written again
pub front_long : (n : ℕ) (room new : List ℕ) → n ≤ length room → length new ≡ length (take n room) → length new ≡ n
front_long n room new within same = same ∙ length-take-le n room within

pub front_within : (n : ℕ) (room new rest : List ℕ) → n ≤ length room → length new ≡ length (take n room) → n ≤ length (new ++ rest)
front_within n room new rest within same = omega (arith, length-append new rest, front_long n room new within same)

pub front_is : (n : ℕ) (room new rest : List ℕ) → n ≤ length room → length new ≡ length (take n room) → take n (new ++ rest) ≡ new
front_is n room new rest within same = take_at new rest n (front_long n room new within same)

-- the room for the coded bytes, and a row more
pub room_for : (shape : Shape) (len n : ℕ) (room : List ℕ) → IsShapeOf len shape → n ≡ shape.piece → length room ≡ 49168 → shape.count * n + 16 ≤ length room
room_for shape len n room is same long =
    let bytes : shape.count * shape.piece ≤ 49152 = (shape_is_taken len shape is).bytes in
    let product : shape.count * n ≡ shape.count * shape.piece = ap (λ (m : ℕ). shape.count * m) same in
    omega (arith, bytes, product, long)
