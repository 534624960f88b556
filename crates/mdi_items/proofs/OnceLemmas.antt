-- A payload's items have one order, and one first fault at most.
use Rattle.std.proofs.Common.{◌≡◌, ◌<◌, ℕ, List, [], ◌∷◌, ◌++◌, length, sym, subst, ap, ◌∙◌, append_assoc, arith, length-append}
use Rattle.dcp_tag.specs.Tag.{TagItem, head, IsPayload, IsItemCut}
use Rattle.dcp_tag.proofs.TagLemmas.{one_front, spelling_size, cut_front, behind_size, cut_is_no_payload}
use Rattle.mdi_items.specs.declared.fault.MdiFault.{MdiFault}
use Rattle.mdi_items.specs.declared.fault.MdiFault.TheVariants.{Tag, Twice}
use Rattle.mdi_items.specs.Items.{IsRepeat, AreOnce, BeginsWithItem, IsNextFault, AreThenFault}

-- one item stands at the front, with one rest
one_begin : (i o : TagItem) (bytes rest more : List ℕ) → BeginsWithItem i bytes rest → BeginsWithItem o bytes more → (i ≡ o) × (rest ≡ more)
one_begin i o bytes rest more b c = one_front i o bytes b.spelling rest c.spelling more b.spelled c.spelled b.stands c.stands

-- a cut item is none that stands there
cut_no_item : (item : TagItem) (bytes rest : List ℕ) → IsItemCut bytes → BeginsWithItem item bytes rest → ⊥
cut_no_item item bytes rest cut b =
    let p = b.spelled.1 in
    let stands : bytes ≡ head item.name (length item.value) ++ (p.behind ++ rest) =
    b.stands ∙ (ap (λ (l : List ℕ). l ++ rest) p.spelled ∙ append_assoc (head item.name (length item.value)) p.behind rest) in
    let short = cut_front bytes item.name (length item.value) (p.behind ++ rest) cut (record { four = p.name; fits = p.bits; stands = stands }) in
    absurd (omega (arith, short, length-append p.behind rest, behind_size item b.spelled.0 b.spelling p))

-- no item stands in padding
padding_no_item : (item : TagItem) (bytes rest : List ℕ) → length bytes < 8 → BeginsWithItem item bytes rest → ⊥
padding_no_item item bytes rest short b = absurd (omega (arith, short, ap length b.stands, length-append b.spelling rest, spelling_size item b.spelling b.spelled))

-- an item that stands there for the first time is no fault
fresh_no_fault : (before : List TagItem) (item : TagItem) (bytes rest : List ℕ) (f : MdiFault) → BeginsWithItem item bytes rest → (IsRepeat before item → ⊥) → IsNextFault before bytes f → ⊥
fresh_no_fault before item bytes rest (Tag cut) b fresh h = cut_no_item item bytes rest h.0 b
fresh_no_fault before item bytes rest (Twice name) b fresh (other, more, begins, repeat, is) =
    let same = one_begin other item bytes more rest begins b in
    fresh (subst (λ (t : TagItem). IsRepeat before t) same.0 repeat)
fresh_no_fault before item bytes rest f b fresh h = absurd h

one_next : (before : List TagItem) (bytes : List ℕ) (f g : MdiFault) → IsNextFault before bytes f → IsNextFault before bytes g → f ≡ g
one_next before bytes (Tag cut) (Tag other) h k =
    let same : cut.at ≡ other.at = h.1 ∙ sym k.1 in
    ap (λ (n : ℕ). Tag (record { at = n })) same
one_next before bytes (Tag cut) (Twice name) h (item, rest, begins, repeat, is) = absurd (cut_no_item item bytes rest h.0 begins)
one_next before bytes (Tag cut) g h k = absurd k
one_next before bytes (Twice name) (Tag cut) (item, rest, begins, repeat, is) k = absurd (cut_no_item item bytes rest k.0 begins)
one_next before bytes (Twice name) (Twice other) (item, rest, begins, repeat, is) (item', rest', begins', repeat', is') =
    let same = one_begin item item' bytes rest rest' begins begins' in
    let names : name ≡ other = is ∙ (ap (λ (t : TagItem). t.name) same.0 ∙ sym is') in
    ap (λ (n : List ℕ). Twice n) names
one_next before bytes (Twice name) g h k = absurd k
one_next before bytes f g h k = absurd h

-- the fault of the items in their order
pub one_items_fault : (items others before : List TagItem) (bytes : List ℕ) (f g : MdiFault) → AreThenFault before items bytes f → AreThenFault before others bytes g → f ≡ g
one_items_fault [] [] before bytes f g h k = one_next before bytes f g h k
one_items_fault [] (o ∷ os) before bytes f g h (rest, begins, fresh, more) = absurd (fresh_no_fault before o bytes rest f begins fresh h)
one_items_fault (i ∷ is) [] before bytes f g (rest, begins, fresh, more) k = absurd (fresh_no_fault before i bytes rest g begins fresh k)
one_items_fault (i ∷ is) (o ∷ os) before bytes f g (rest, begins, fresh, more) (rest', begins', fresh', more') =
    let same = one_begin o i bytes rest' rest begins' begins in
    let moved : AreThenFault (before ++ i ∷ []) os rest g =
    subst (λ (t : TagItem). AreThenFault (before ++ t ∷ []) os rest g) same.0 (subst (λ (l : List ℕ). AreThenFault (before ++ o ∷ []) os l g) same.1 more') in
    one_items_fault is os (before ++ i ∷ []) rest f g more moved

-- a payload whose known items stand there once has no such fault
pub items_or_fault : (items others before : List TagItem) (bytes : List ℕ) (f : MdiFault) → IsPayload items bytes → AreOnce before items → AreThenFault before others bytes f → ⊥
items_or_fault [] [] before bytes (Tag cut) stand once h = cut_is_no_payload bytes [] h.0 stand
items_or_fault [] [] before bytes (Twice name) stand once (item, rest, begins, repeat, is) = padding_no_item item bytes rest stand begins
items_or_fault [] [] before bytes f stand once h = absurd h
items_or_fault [] (o ∷ os) before bytes f stand once (rest, begins, fresh, more) = padding_no_item o bytes rest stand begins
items_or_fault (i ∷ is) [] before bytes f (spelling, rest, stands, spelled, more) once h =
    fresh_no_fault before i bytes rest f (record { spelling = spelling; stands = stands; spelled = spelled }) once.0 h
items_or_fault (i ∷ is) (o ∷ os) before bytes f (spelling, rest, stands, spelled, more) once (rest', begins, fresh, more') =
    let same = one_begin o i bytes rest' rest begins (record { spelling = spelling; stands = stands; spelled = spelled }) in
    let moved : AreThenFault (before ++ i ∷ []) os rest f =
    subst (λ (t : TagItem). AreThenFault (before ++ t ∷ []) os rest f) same.0 (subst (λ (l : List ℕ). AreThenFault (before ++ o ∷ []) os l f) same.1 more') in
    items_or_fault is os (before ++ i ∷ []) rest f more once.1 moved
