-- What is written of a frame's parts is determined.
use Rattle.std.proofs.Common.{◌≡◌, ℕ, zero, suc, ◌+◌, ◌^◌, ◌<◌, List, [], ◌∷◌, ◌++◌, length, get_or, replicate, sym, subst, ap, ◌∙◌, arith}
use Rattle.std.proofs.lemmas.List.{append-nil}
use Rattle.std.specs.Prelude.{codes}
use Rattle.std.specs.Int.{w32, to_be_bytes}
use Rattle.drm_bits.specs.Bits.{bits_of, IsBytes}
use Rattle.drm_bits.specs.declared.description.MuxDesc.{MuxDesc}
use Rattle.drm_bits.proofs.ByteBits.{same_bytes}
use Rattle.drm_bits.proofs.FieldLemmas.{spelled_fields}
use Rattle.drm_fac.specs.declared.fac.Fac.{Fac}
use Rattle.drm_fac.proofs.WrittenFac.{fac_once}
use Rattle.drm_mux.specs.Sdci.{IsSdci, sdci_fields}
use Rattle.drm_fac.specs.declared.mode.Mode.{Mode}
use Rattle.dcp_tag.specs.Tag.{head}
use Rattle.mdi_items.specs.Names.{name_at, ptr, dlfc, fac_, sdci, robm, str}
use Rattle.drm_fac.specs.Mode.{mode_code}
use Rattle.mdi_items.specs.Written.{WrittenItem, whole, spelled, spelling, head_pieces, stream_pieces, AreHeadItems}
use Rattle.mdi_items.specs.RoundTrip.{Parts, IsWrittenOf, block_pieces}
use Rattle.mdi_items.proofs.RoundTripLemmas.{spelling-append}

-- one piece more, and one stream more
pub spelling-push : (pieces : List WrittenItem) (p : WrittenItem) → spelling (pieces ++ p ∷ []) ≡ spelling pieces ++ spelled p
spelling-push pieces p = spelling-append pieces (p ∷ []) ∙ ap (λ (l : List ℕ). spelling pieces ++ l) (append-nil (spelled p))

pub stream_pieces-push : (k : ℕ) (streams : List (List ℕ)) (stream : List ℕ) → stream_pieces k (streams ++ stream ∷ []) ≡ stream_pieces k streams ++ whole (str (k + length streams)) stream ∷ []
stream_pieces-push k [] stream = let same : k ≡ k + 0 = omega arith in ap (λ (n : ℕ). whole (str n) stream ∷ []) same
stream_pieces-push k (s ∷ streams) stream =
    let same : k + 1 + length streams ≡ k + length (s ∷ streams) = omega arith in
    ap (λ (l : List WrittenItem). whole (str k) s ∷ l) (stream_pieces-push (k + 1) streams stream ∙ ap (λ (n : ℕ). stream_pieces (k + 1) streams ++ whole (str n) stream ∷ []) same)

bytes_front : (front back : List ℕ) → IsBytes (front ++ back) → (k : ℕ) → get_or front k 0 < 2 ^ 8
bytes_front [] back small k = omega arith
bytes_front (x ∷ front) back small zero = small 0
bytes_front (x ∷ front) back small (suc k) = bytes_front front back (λ i. small (suc i)) k

bytes_behind : (front back : List ℕ) → IsBytes (front ++ back) → IsBytes back
bytes_behind [] back small = small
bytes_behind (x ∷ front) back small = bytes_behind front back (λ i. small (suc i))

-- a description has one value
one_value_of : (d : MuxDesc) (a b : List ℕ) → IsSdci d a → IsSdci d b → IsBytes a → IsBytes b → a ≡ b
one_value_of d a b is is_too small small_too =
    same_bytes a b small small_too (spelled_fields (sdci_fields d) (bits_of a) is.fields ∙ sym (spelled_fields (sdci_fields d) (bits_of b) is_too.fields))

description_small : (count : ℕ) (fac description : List ℕ) (mode : Mode) (bytes : List ℕ) → bytes ≡ spelling (head_pieces count fac description mode) → IsBytes bytes → IsBytes description
description_small count fac description mode bytes is small =
    let first : WrittenItem = whole ptr (codes "DMDI" ++ replicate 4 0) in
    let second : WrittenItem = whole dlfc (to_be_bytes w32 count) in
    let third : WrittenItem = whole fac_ fac in
    let fourth : WrittenItem = whole sdci description in
    let fifth : WrittenItem = whole robm (mode_code mode ∷ []) in
    let rest : List ℕ = spelled fourth ++ (spelled fifth ++ []) in
    let in_rest : IsBytes rest =
    bytes_behind (spelled third) rest
    (bytes_behind (spelled second) (spelled third ++ rest)
    (bytes_behind (spelled first) (spelled second ++ (spelled third ++ rest)) (subst (λ (l : List ℕ). IsBytes l) is small))) in
    bytes_behind (head (name_at sdci) fourth.bits) description (bytes_front (spelled fourth) (spelled fifth ++ []) in_rest)

one_head_of : (count : ℕ) (fac : Fac) (mux : MuxDesc) (mode : Mode) (a b : List ℕ) → AreHeadItems count fac mux mode a → AreHeadItems count fac mux mode b → IsBytes a → IsBytes b → a ≡ b
one_head_of count fac mux mode a b is is_too small small_too =
    let same_fac : is.fac_bytes ≡ is_too.fac_bytes = fac_once fac is.fac_bytes is_too.fac_bytes is.is_fac is_too.is_fac in
    let same_description : is.description ≡ is_too.description =
    one_value_of mux is.description is_too.description is.is_description is_too.is_description (description_small count is.fac_bytes is.description mode a is.are small)
    (description_small count is_too.fac_bytes is_too.description mode b is_too.are small_too) in
    is.are
    ∙ (ap (λ (l : List ℕ). spelling (head_pieces count l is.description mode)) same_fac
    ∙ (ap (λ (l : List ℕ). spelling (head_pieces count is_too.fac_bytes l mode)) same_description ∙ sym is_too.are))

pub one_spelling : (p : Parts) (a b : List ℕ) → IsWrittenOf p a → IsWrittenOf p b → IsBytes a → IsBytes b → a ≡ b
one_spelling p a b (front, is_head, is) (front', is_head', is') small small' =
    let rest : List ℕ = spelling (block_pieces p.block ++ stream_pieces 0 p.streams) in
    let heads : front ≡ front' =
    one_head_of p.count p.fac p.mux p.mode front front' is_head is_head' (bytes_front front rest (subst (λ (l : List ℕ). IsBytes l) is small))
    (bytes_front front' rest (subst (λ (l : List ℕ). IsBytes l) is' small')) in
    is ∙ (ap (λ (l : List ℕ). l ++ rest) heads ∙ sym is')
