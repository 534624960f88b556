-- The known items, and one item more.
use Rattle.std.proofs.Common.{◌≡◌, ◌≢◌, ℕ, zero, suc, ◌+◌, ◌<◌, Bool, true, false, cond, nat_eq, List, [], ◌∷◌, ◌++◌, length, get_or, map, Option, None, Some, refl, sym, ap, ◌∙◌, arith}
use Rattle.std.proofs.Math.ListN.{set}
use Rattle.std.proofs.lemmas.Cmp.{nat_list_eq_equiv}
use Rattle.std.specs.Cmp.Lexicographic.{pointwise}
use Rattle.dcp_tag.specs.Tag.{TagItem}
use Rattle.mdi_items.specs.declared.known.ItemSpan.{ItemSpan}
use Rattle.mdi_items.specs.Names.{names, name_at}
use Rattle.mdi_items.specs.Items.{size, total, find_from, known_of, IsKnown}
use Rattle.mdi_items.proofs.NameLemmas.{one_place, other_name}

pub total-push : (items : List TagItem) (t : TagItem) → total (items ++ t ∷ []) ≡ total items + size t
total-push [] t = omega arith
total-push (item ∷ items) t = omega (arith, total-push items t)

found_behind : (b : Bool) (x : ItemSpan) (y z r : Option ItemSpan) → cond b (Some x) y ≡ None → (y ≡ None → z ≡ r) → cond b (Some x) z ≡ r
found_behind true x y z r none more = cc
found_behind false x y z r none more = more none

-- the item of a name that isn't there yet
pub find-push : (from : ℕ) (name : List ℕ) (items : List TagItem) (t : TagItem) → find_from from name items ≡ None → t.name ≡ name
    → find_from from name (items ++ t ∷ []) ≡ Some (record { at = from + total items + 8; bits = length t.value })
find-push from name [] t none is =
    let same : pointwise nat_eq t.name name ≡ true = ap (λ n. pointwise nat_eq n name) is ∙ nat_list_eq_equiv.refl name in
    let place : from + 8 ≡ from + 0 + 8 = omega arith in
    rw same (ap (λ (n : ℕ). Some (record { at = n; bits = length t.value })) place)
find-push from name (item ∷ items) t none is =
    found_behind (pointwise nat_eq item.name name) _ (find_from (from + size item) name items) (find_from (from + size item) name (items ++ t ∷ [])) _ none (λ rest.
    find-push (from + size item) name items t rest is
    ∙ (let place : from + size item + total items + 8 ≡ from + (size item + total items) + 8 = omega arith in ap (λ (n : ℕ). Some (record { at = n; bits = length t.value })) place))

-- an item of another name
pub find-other : (from : ℕ) (name : List ℕ) (items : List TagItem) (t : TagItem) → pointwise nat_eq t.name name ≡ false → find_from from name (items ++ t ∷ []) ≡ find_from from name items
find-other from name [] t other = rw other refl
find-other from name (item ∷ items) t other = ap (λ (o : Option ItemSpan). cond (pointwise nat_eq item.name name) (Some (record { at = from + 8; bits = length item.value })) o) (find-other (from + size item) name items t other)

map-same : (f g : List ℕ → Option ItemSpan) (ns : List (List ℕ)) → ((i : ℕ) → i < length ns → g (get_or ns i []) ≡ f (get_or ns i [])) → map g ns ≡ map f ns
map-same f g [] same = refl
map-same f g (n ∷ ns) same =
    let first : g n ≡ f n = same 0 (omega arith) in
    let rest : map g ns ≡ map f ns = map-same f g ns (λ i lt. same (suc i) (omega arith)) in
    ap (λ (o : Option ItemSpan). o ∷ map g ns) first ∙ ap (λ (os : List (Option ItemSpan)). f n ∷ os) rest

map-set : (f g : List ℕ → Option ItemSpan) (ns : List (List ℕ)) (k : ℕ) (v : Option ItemSpan) → k < length ns → g (get_or ns k []) ≡ v
    → ((i : ℕ) → i < length ns → i ≢ k → g (get_or ns i []) ≡ f (get_or ns i [])) → map g ns ≡ set (map f ns) k v
map-set f g [] k v lt here same = absurd (omega arith)
map-set f g (n ∷ ns) zero v lt here same =
    let rest : map g ns ≡ map f ns = map-same f g ns (λ i below. same (suc i) (omega arith) (omega arith)) in
    ap (λ (o : Option ItemSpan). o ∷ map g ns) here ∙ ap (λ (os : List (Option ItemSpan)). v ∷ os) rest
map-set f g (n ∷ ns) (suc k) v lt here same =
    let first : g n ≡ f n = same 0 (omega arith) (omega arith) in
    let rest : map g ns ≡ set (map f ns) k v = map-set f g ns k v (omega arith) here (λ i below differ. same (suc i) (omega arith) (omega arith)) in
    ap (λ (o : Option ItemSpan). o ∷ map g ns) first ∙ ap (λ (os : List (Option ItemSpan)). f n ∷ os) rest

-- an item whose name isn't known
pub known-other : (items : List TagItem) (t : TagItem) → (IsKnown t.name → ⊥) → known_of (items ++ t ∷ []) ≡ known_of items
unfolding known_of
known-other items t unknown =
    map-same (λ name. find_from 0 name items) (λ name. find_from 0 name (items ++ t ∷ [])) names (λ i lt.
    find-other 0 (name_at i) items t (other_name t.name (name_at i) (λ same. unknown (i, lt, sym same))))

-- an item whose name stands at a place of the order
pub known-push : (items : List TagItem) (t : TagItem) (k : ℕ) → k < 10 → name_at k ≡ t.name → find_from 0 (name_at k) items ≡ None
    → known_of (items ++ t ∷ []) ≡ set (known_of items) k (Some (record { at = 0 + total items + 8; bits = length t.value }))
unfolding known_of
known-push items t k lt is none =
    map-set (λ name. find_from 0 name items) (λ name. find_from 0 name (items ++ t ∷ [])) names k _ lt (find-push 0 (name_at k) items t none (sym is)) (λ i below differ.
    find-other 0 (name_at i) items t (other_name t.name (name_at i) (λ same. differ (one_place i k below lt (sym (is ∙ same))))))

get_or-map : (f : List ℕ → Option ItemSpan) (ns : List (List ℕ)) (k : ℕ) → k < length ns → get_or (map f ns) k None ≡ f (get_or ns k [])
get_or-map f [] k lt = absurd (omega arith)
get_or-map f (n ∷ ns) zero lt = refl
get_or-map f (n ∷ ns) (suc k) lt = get_or-map f ns k (omega arith)

-- what is known at a place of the order
pub known_at : (items : List TagItem) (k : ℕ) → k < 10 → get_or (known_of items) k None ≡ find_from 0 (name_at k) items
unfolding known_of
known_at items k lt = get_or-map (λ name. find_from 0 name items) names k lt

length-map : (f : List ℕ → Option ItemSpan) (ns : List (List ℕ)) → length (map f ns) ≡ length ns
length-map f [] = refl
length-map f (n ∷ ns) = ap suc (length-map f ns)

pub length-known : (items : List TagItem) → length (known_of items) ≡ 10
unfolding known_of
length-known items = length-map (λ name. find_from 0 name items) names
