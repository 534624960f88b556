-- The last piece of a segment, and what it leaves.
use Rattle.std.proofs.Common.{◌≡◌, ℕ, List, Option, Some, None, sym, ap, ap₂, subst, ◌∙◌, refl}
use Rattle.std.specs.Prelude.{◌↔◌, IsSome, IfSome}
use Rattle.std.specs.Borrow.{Bor}
use Rattle.std.specs.Str.{IsUtf8}
use Rattle.drm_text.specs.declared.gather.SegmentBuffer.{SegmentBuffer}
use Rattle.drm_text.specs.declared.message.MessageBuffer.{MessageBuffer}
use Rattle.drm_text.specs.Segment.{Segment}
use Rattle.drm_text.specs.Joining.{TextState, PieceRole, Fills, gather, segment_after, ReadsSegment, ReadsIn, begun_after, begun_by, after, GivesMessage}
use Rattle.drm_text.specs.Buffers.{segment_in, begun_in, front_of}
use Rattle.drm_text.specs.Taking.{TookSegment, text_of, GivesOfPiece}
use Rattle.drm_text.proofs.Spellings.{one_segment}

pub one_read : (bytes : List ℕ) (q r : Option Segment) → ReadsSegment bytes q → ReadsSegment bytes r → q ≡ r
one_read bytes None None h k = refl
one_read bytes None (Some s) h k = absurd (h s k)
one_read bytes (Some s) None h k = absurd (k s h)
one_read bytes (Some s) (Some t) h k = ap Some (one_segment s t bytes h k)

-- the fields as data
abbrev pub state_of : SegmentBuffer → MessageBuffer → TextState
state_of segment message = record { begun = begun_in message; segment = segment_in segment }

abbrev Leaves : TextState → List ℕ → TextState → Type 0
Leaves s piece left = (read : Option Segment) → ReadsIn (gather s.segment piece) read → left ≡ after s piece read

pub full_leaves : (s : TextState) (segment left : SegmentBuffer) (old new : MessageBuffer) (piece bytes : List ℕ) (len : Option ℕ) → state_of segment old ≡ s → gather (segment_in segment) piece ≡ Fills bytes
    → segment_in left ≡ segment_after (gather (segment_in segment) piece) → TookSegment bytes old len new → Leaves s piece (state_of left new)
full_leaves s segment left old new piece bytes len view is segment_is took =
    let g : PieceRole = gather (segment_in segment) piece in
    let here : Leaves (state_of segment old) piece (state_of left new) = λ read reads.
    let R : PieceRole → Type 0 = λ x. ReadsIn x read in
    let same : took.read ≡ read = one_read bytes took.read read took.reads (subst R is reads) in
    let begun : begun_in new ≡ begun_by (begun_in old) g read =
    took.begun ∙ (ap (begun_after (begun_in old)) same ∙ ap (λ x. begun_by (begun_in old) x read) (sym is)) in
    ap₂ (λ b t. record { begun = b; segment = t }) begun segment_is in
    subst (λ (t : TextState). Leaves t piece (state_of left new)) view here

pub full_tells : (s : TextState) (segment : SegmentBuffer) (old new : MessageBuffer) (piece bytes : List ℕ) (len : Option ℕ) (result : Option (Bor (List ℕ))) → state_of segment old ≡ s
    → gather (segment_in segment) piece ≡ Fills bytes → TookSegment bytes old len new → GivesMessage (front_of new.text len) (text_of result) → GivesOfPiece s piece result
full_tells s segment old new piece bytes len result view is took gives =
    let R : PieceRole → Type 0 = λ x. ReadsIn x took.read in
    let G : Option (List ℕ) → Type 0 = λ w. GivesMessage w (text_of result) in
    subst (λ (t : TextState). GivesOfPiece t piece result) view (took.read, subst R (sym is) took.reads, subst G took.whole gives)

-- the text that is lent of these bytes
pub gives_text : (bytes front : List ℕ) (r : Option (Bor (List ℕ))) → front ≡ bytes → IsSome r ↔ IsUtf8 front → IfSome r (λ t. t.now ≡ front) → GivesMessage (Some bytes) (text_of r)
gives_text bytes front None is utf8 text =
    let none : Option (List ℕ) = None in
    let P : List ℕ → Type 0 = λ l. IsSome none ↔ IsUtf8 l in
    (subst P is ((λ h. utf8.0 h), (λ u. utf8.1 u)), tt)
gives_text bytes front (Some t) is utf8 text =
    let P : List ℕ → Type 0 = λ l. IsSome (Some t.now) ↔ IsUtf8 l in
    (subst P is ((λ h. utf8.0 h), (λ u. utf8.1 u)), text ∙ is)
