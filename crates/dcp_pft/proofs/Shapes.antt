-- What is known of a packet's shape.
use Rattle.std.proofs.Common.{ℕ, zero, suc, ◌≡◌, ◌+◌, ◌-◌, ◌*◌, ◌<◌, ◌≤◌, None, Some, sym, subst, ap, ◌∙◌, arith}
use Rattle.dcp_pft.specs.declared.shape.Rs.{Rs}
use Rattle.dcp_pft.specs.declared.shape.Shape.{Shape}
use Rattle.dcp_pft.specs.Cutting.{chunk_count, chunk_size, coded_shape, plain_shape, shape_of, chunks_of, IsShapeOf}
use Rattle.dcp_pft.specs.Limits.{most_chunks}
use Rattle.dcp_pft.specs.Laws.{ChunksAgree, AllTaken, IsTaken}
use Rattle.dcp_pft.proofs.Sizes.{Fits, fits_is, chunks_are, coded_is, coded_bytes, plain_is, plain_bytes, with_code}

-- how a packet of so many bytes is coded
abbrev pub code_of : ℕ → Rs
code_of len = record { k = chunk_size len; z = chunk_count len * chunk_size len - len }

-- a shape with a code
pub record HasCode (len : ℕ) (shape : Shape) (rs : Rs) : Type 0 where
  pub few : shape.count ≤ 169
  pub piece : shape.piece + 16 ≤ 1500
  pub byte : 0 < shape.piece
  pub chunks : chunks_of shape ≤ most_chunks
  pub some : 0 < chunks_of shape
  pub size_some : 1 ≤ rs.k
  pub size : rs.k ≤ 207
  pub whole : chunks_of shape * rs.k ≡ len + rs.z
  pub fill : rs.z < rs.k

-- a shape without one
pub record HasNone (len : ℕ) (shape : Shape) : Type 0 where
  pub few : shape.count ≤ 169
  pub piece : shape.piece + 14 ≤ 1500
  pub byte : 0 < shape.piece
  pub last : (shape.count - 1) * shape.piece < len
  pub holds : len ≤ shape.count * shape.piece

none_coded : (len mtu : ℕ) (rs : Rs) → (plain_shape len mtu).rs ≡ Some rs → ⊥
none_coded len mtu rs is = cc

the_code : (len m mtu : ℕ) (rs : Rs) → (coded_shape len m mtu).rs ≡ Some rs → code_of len ≡ rs
the_code len m mtu rs is = cc

code_here : (len m mtu : ℕ) → Fits len mtu → 1 ≤ m → m ≤ 5 → mtu ≤ 1500 → HasCode len (coded_shape len m mtu) (code_of len)
code_here len m mtu fits kept few most =
    let are = chunks_are len fits.some fits.small in
    let is = coded_is len m mtu fits kept few in
    record {
      few = is.few;
      piece = omega (arith, is.piece);
      byte = is.byte;
      chunks = omega (arith, is.chunks, are.few);
      some = omega (arith, is.chunks, are.some);
      size_some = are.size_some;
      size = are.size_few;
      whole = ap (λ (c : ℕ). c * chunk_size len) is.chunks ∙ omega (arith, are.holds);
      fill = omega (arith, are.fill, are.holds);
    }

by_m : (len m mtu : ℕ) (rs : Rs) → Fits len mtu → m ≤ 5 → mtu ≤ 1500 → (shape_of len m mtu).rs ≡ Some rs → HasCode len (shape_of len m mtu) rs
unfolding shape_of
by_m len zero mtu rs fits few most is = absurd (none_coded len mtu rs is)
by_m len (suc m) mtu rs fits few most is =
    subst (HasCode len (coded_shape len (suc m) mtu)) (the_code len (suc m) mtu rs is) (code_here len (suc m) mtu fits (omega arith) few most)

-- a packet that has a shape
pub fits_of : (len : ℕ) (shape : Shape) (is : IsShapeOf len shape) → Fits len is.mtu
fits_of len shape is = fits_is len is.m is.mtu is.some is.small is.least

pub has_code : (len : ℕ) (shape : Shape) (rs : Rs) → IsShapeOf len shape → shape.rs ≡ Some rs → HasCode len shape rs
has_code len shape rs is coded =
    let here : (shape_of len is.m is.mtu).rs ≡ Some rs = ap (λ (s : Shape). s.rs) (sym is.is) ∙ coded in
    subst (λ (s : Shape). HasCode len s rs) (sym is.is) (by_m len is.m is.mtu rs (fits_of len shape is) is.few is.most here)

coded_none : (len m mtu : ℕ) → (coded_shape len m mtu).rs ≡ None → ⊥
coded_none len m mtu is = cc

none_by_m : (len m mtu : ℕ) → Fits len mtu → mtu ≤ 1500 → (shape_of len m mtu).rs ≡ None → HasNone len (shape_of len m mtu)
unfolding shape_of
none_by_m len zero mtu fits most none =
    let is = plain_is len mtu fits in
    record { few = is.few; piece = omega (arith, is.piece); byte = is.byte; last = is.last; holds = is.holds }
none_by_m len (suc m) mtu fits most none = absurd (coded_none len (suc m) mtu none)

pub has_none : (len : ℕ) (shape : Shape) → IsShapeOf len shape → shape.rs ≡ None → HasNone len shape
has_none len shape is none =
    let here : (shape_of len is.m is.mtu).rs ≡ None = ap (λ (s : Shape). s.rs) (sym is.is) ∙ none in
    subst (HasNone len) (sym is.is) (none_by_m len is.m is.mtu (fits_of len shape is) is.most here)

-- the laws
pub the_chunks_agree : ChunksAgree
the_chunks_agree len m mtu some small kept few least most =
    ap chunks_of (sym (with_code len m mtu kept)) ∙ (coded_is len m mtu (fits_is len m mtu some small least) kept few).chunks

taken_by_m : (len m mtu : ℕ) → Fits len mtu → m ≤ 5 → mtu ≤ 1500 → IsTaken (shape_of len m mtu)
unfolding shape_of
taken_by_m len zero mtu fits few most =
    let is = plain_is len mtu fits in
    record {
      some = is.some;
      few = omega (arith, is.few);
      bytes = plain_bytes len mtu fits.small is;
      chunks = omega arith;
      code = λ rs none. absurd (none_coded len mtu rs none);
    }
taken_by_m len (suc m) mtu fits few most =
    let is = coded_is len (suc m) mtu fits (omega arith) few in
    record {
      some = is.some;
      few = omega (arith, is.few);
      bytes = coded_bytes len (suc m) mtu fits.some fits.small is;
      chunks = omega (arith, is.chunks, (chunks_are len fits.some fits.small).few);
      code = λ rs coded.
          let here = by_m len (suc m) mtu rs fits few most coded in
          record { some = here.size_some; few = here.size; fill = here.fill; chunk = here.some };
    }

pub all_are_taken : AllTaken
all_are_taken len m mtu some small few least most = taken_by_m len m mtu (fits_is len m mtu some small least) few most
