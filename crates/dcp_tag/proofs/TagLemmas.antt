-- An item that stands at the front of a byte list, and its one reading.
use Rattle.std.proofs.Common.{◌≡◌, ℕ, ◌+◌, ◌^◌, ◌<◌, ◌≤◌, get_or, inl, inr, Bool, List, [], ◌∷◌, ◌++◌, length, take, drop, refl, sym, ap, ◌∙◌, append_assoc, arith, length-append, length-drop}
use Rattle.std.specs.Int.{w32, to_be_bytes, from_be_bytes}
use Rattle.std.proofs.lemmas.List.{take_at, drop_at, take-append-drop, length-take-le, get_or-take, get_or-drop, get_or_past}
use Rattle.std.proofs.lemmas.Bool.{cases_lt}
use Rattle.std.proofs.lemmas.Nat.{be_bytes_4, from_be_bytes-to_be_bytes_4}
use Rattle.drm_bits.specs.Bits.{bits_of}
use Rattle.drm_bits.proofs.BitsLemmas.{length-bits_of}
use Rattle.dcp_tag.specs.Tag.{TagItem, bytes_for, head, HasHead, IsPadded, IsSpelling, IsPayload, IsItemCut}
use Rattle.dcp_tag.specs.Reading.{item_of}

pub length-head : (name : List ℕ) (bits : ℕ) → length name ≡ 4 → length (head name bits) ≡ 8
length-head name bits four = omega (arith, length-append name (to_be_bytes w32 bits), four)

-- equal fronts of one length, and what follows them
pub same_fronts : {X : Type 0} (a b x y : List X) (n : ℕ) → length a ≡ n → length b ≡ n → a ++ x ≡ b ++ y → (a ≡ b) × (x ≡ y)
same_fronts a b x y n is_a is_b same =
    (sym (take_at a x n is_a) ∙ (ap (take n) same ∙ take_at b y n is_b), sym (drop_at a x n is_a) ∙ (ap (drop n) same ∙ drop_at b y n is_b))

-- bytes begin with one head at most
pub one_head : (name other : List ℕ) (m n : ℕ) (x y : List ℕ) → length name ≡ 4 → length other ≡ 4 → m < 2 ^ 32 → n < 2 ^ 32 → head name m ++ x ≡ head other n ++ y
    → (name ≡ other) × (m ≡ n) × (x ≡ y)
one_head name other m n x y four_m four_n fits_m fits_n same =
    let regrouped : name ++ (to_be_bytes w32 m ++ x) ≡ other ++ (to_be_bytes w32 n ++ y) = sym (append_assoc name (to_be_bytes w32 m) x) ∙ (same ∙ append_assoc other (to_be_bytes w32 n) y) in
    let outer = same_fronts name other (to_be_bytes w32 m ++ x) (to_be_bytes w32 n ++ y) 4 four_m four_n regrouped in
    let inner = same_fronts (to_be_bytes w32 m) (to_be_bytes w32 n) x y 4 refl refl outer.1 in
    let number : m ≡ n = sym (from_be_bytes-to_be_bytes_4 m fits_m) ∙ (ap (from_be_bytes w32) inner.0 ∙ from_be_bytes-to_be_bytes_4 n fits_n) in
    (outer.0, number, inner.1)

-- how many bytes the value and its padding take
pub behind_size : (item : TagItem) (padding : List Bool) (bytes : List ℕ) (p : IsPadded item padding bytes) → length p.behind ≡ bytes_for (length item.value)
behind_size item padding bytes p =
    omega (arith, length-bits_of p.behind, ap length p.value, length-append item.value padding, p.few)

-- an item is what its bytes say
pub item_is : (item : TagItem) (padding : List Bool) (bytes : List ℕ) (p : IsPadded item padding bytes) → item_of item.name (length item.value) p.behind ≡ item
item_is item padding bytes p =
    let value : take (length item.value) (bits_of p.behind) ≡ item.value = ap (take (length item.value)) p.value ∙ take_at item.value padding (length item.value) refl in
    ap (λ (v : List Bool). record { name = item.name; value = v }) value

-- a head and the whole bytes of a value are a spelling
pub padded : (name : List ℕ) (bits : ℕ) (behind : List ℕ) → length name ≡ 4 → bits < 2 ^ 32 → length behind ≡ bytes_for bits
    → IsPadded (item_of name bits behind) (drop bits (bits_of behind)) (head name bits ++ behind)
padded name bits behind four fits size =
    let within : bits ≤ length (bits_of behind) = omega (arith, length-bits_of behind, size) in
    let count : length (take bits (bits_of behind)) ≡ bits = length-take-le bits (bits_of behind) within in
    record {
      name = four;
      bits = omega (arith, count, fits);
      few = omega (arith, length-drop bits (bits_of behind), length-bits_of behind, size);
      behind = behind;
      value = sym (take-append-drop bits (bits_of behind));
      spelled = ap (λ (n : ℕ). head name n ++ behind) (sym count);
    }

-- a spelled item and what follows it, where the bytes begin with this head
pub spelled_front : (item : TagItem) (padding : List Bool) (spelling rest bytes name : List ℕ) (bits : ℕ) (behind : List ℕ) (p : IsPadded item padding spelling)
    → bytes ≡ spelling ++ rest → length name ≡ 4 → bits < 2 ^ 32 → bytes ≡ head name bits ++ behind
    → (item.name ≡ name) × (length item.value ≡ bits) × (p.behind ++ rest ≡ behind)
spelled_front item padding spelling rest bytes name bits behind p is four fits stands =
    let whole : head item.name (length item.value) ++ (p.behind ++ rest) ≡ head name bits ++ behind =
    sym (append_assoc (head item.name (length item.value)) p.behind rest) ∙ (ap (λ (s : List ℕ). s ++ rest) (sym p.spelled) ∙ (sym is ∙ stands)) in
    one_head item.name name (length item.value) bits (p.behind ++ rest) behind p.name four p.bits fits whole

-- bytes begin with one item at most
pub one_front : (item other : TagItem) (bytes spelling rest another more : List ℕ) → IsSpelling item spelling → IsSpelling other another
    → bytes ≡ spelling ++ rest → bytes ≡ another ++ more → (item ≡ other) × (rest ≡ more)
one_front item other bytes spelling rest another more s t is is_too =
    let p = s.1 in
    let q = t.1 in
    let stands : bytes ≡ head other.name (length other.value) ++ (q.behind ++ more) =
    is_too ∙ (ap (λ (x : List ℕ). x ++ more) q.spelled ∙ append_assoc (head other.name (length other.value)) q.behind more) in
    let same = spelled_front item s.0 spelling rest bytes other.name (length other.value) (q.behind ++ more) p is q.name q.bits stands in
    let size : length p.behind ≡ length q.behind =
    behind_size item s.0 spelling p ∙ (ap bytes_for same.1 ∙ sym (behind_size other t.0 another q)) in
    let parts = same_fronts p.behind q.behind rest more (length q.behind) size refl same.2 in
    let as_read : item_of item.name (length item.value) p.behind ≡ item_of other.name (length other.value) q.behind =
    ap (λ (n : List ℕ). item_of n (length item.value) p.behind) same.0
    ∙ (ap (λ (n : ℕ). item_of other.name n p.behind) same.1 ∙ ap (item_of other.name (length other.value)) parts.0) in
    (sym (item_is item s.0 spelling p) ∙ (as_read ∙ item_is other t.0 another q), parts.1)

-- an item takes at least eight bytes
pub spelling_size : (item : TagItem) (spelling : List ℕ) → IsSpelling item spelling → 8 ≤ length spelling
spelling_size item spelling s =
    omega (arith, ap length s.1.spelled, length-append (head item.name (length item.value)) s.1.behind, length-head item.name (length item.value) s.1.name)

pub payload_once : (items others : List TagItem) (bytes : List ℕ) → IsPayload items bytes → IsPayload others bytes → items ≡ others
payload_once [] [] bytes h k = refl
payload_once [] (o ∷ os) bytes h k = absurd (omega (arith, h, ap length k.2, length-append k.0 k.1, spelling_size o k.0 k.3))
payload_once (i ∷ is) [] bytes h k = absurd (omega (arith, k, ap length h.2, length-append h.0 h.1, spelling_size i h.0 h.3))
payload_once (i ∷ is) (o ∷ os) bytes h k =
    let front = one_front i o bytes h.0 h.1 k.0 k.1 h.3 k.3 h.2 k.2 in
    let rest : IsPayload os h.1 = rw front.1 k.4 in
    let items : is ≡ os = payload_once is os h.1 h.4 rest in
    ap (λ (x : TagItem). x ∷ is) front.0 ∙ ap (λ (xs : List TagItem). o ∷ xs) items

-- the item that is cut, where the bytes begin with this head
pub cut_front : (bytes name : List ℕ) (bits : ℕ) (behind : List ℕ) → IsItemCut bytes → HasHead bytes name bits behind → length behind < bytes_for bits
cut_front bytes name bits behind cut begins =
    let same = one_head cut.name name cut.bits bits cut.behind behind cut.begins.four begins.four cut.begins.fits begins.fits (sym cut.begins.stands ∙ begins.stands) in
    omega (arith, cut.short, ap length same.2, ap bytes_for same.1)

pub head_size : (bytes name : List ℕ) (bits : ℕ) (behind : List ℕ) → HasHead bytes name bits behind → length bytes ≡ 8 + length behind
head_size bytes name bits behind begins =
    omega (arith, ap length begins.stands, length-append (head name bits) behind, length-head name bits begins.four)

pub cut_is_no_payload : (bytes : List ℕ) (items : List TagItem) → IsItemCut bytes → IsPayload items bytes → ⊥
cut_is_no_payload bytes [] cut h = absurd (omega (arith, h, head_size bytes cut.name cut.bits cut.behind cut.begins))
cut_is_no_payload bytes (i ∷ is) cut h =
    let p = h.3.1 in
    let stands : bytes ≡ head i.name (length i.value) ++ (p.behind ++ h.1) =
    h.2 ∙ (ap (λ (x : List ℕ). x ++ h.1) p.spelled ∙ append_assoc (head i.name (length i.value)) p.behind h.1) in
    let short = cut_front bytes i.name (length i.value) (p.behind ++ h.1) cut (record { four = p.name; fits = p.bits; stands = stands }) in
    absurd (omega (arith, short, length-append p.behind h.1, behind_size i h.3.0 h.0 p))

-- the item that a spelling at the front is of, where the bytes begin with this head
pub item_front : (item : TagItem) (bytes spelling rest name : List ℕ) (bits : ℕ) (behind : List ℕ) → IsSpelling item spelling → bytes ≡ spelling ++ rest → HasHead bytes name bits behind
    → (bytes_for bits ≤ length behind) × (item_of name bits (take (bytes_for bits) behind) ≡ item)
item_front item bytes spelling rest name bits behind s is begins =
    let p = s.1 in
    let same = spelled_front item s.0 spelling rest bytes name bits behind p is begins.four begins.fits begins.stands in
    let size : length p.behind ≡ bytes_for bits = behind_size item s.0 spelling p ∙ ap bytes_for same.1 in
    let value : take (bytes_for bits) behind ≡ p.behind = ap (take (bytes_for bits)) (sym same.2) ∙ take_at p.behind rest (bytes_for bits) size in
    let as_read : item_of name bits (take (bytes_for bits) behind) ≡ item_of item.name (length item.value) p.behind =
    ap (item_of name bits) value
    ∙ (ap (λ (n : List ℕ). item_of n bits p.behind) (sym same.0) ∙ ap (λ (n : ℕ). item_of item.name n p.behind) (sym same.1)) in
    (omega (arith, ap length same.2, length-append p.behind rest, size), as_read ∙ item_is item s.0 spelling p)

-- the head that was split off
pub split_front : (bytes name rest four behind : List ℕ) (bits : ℕ) → name ≡ take 4 bytes → rest ≡ drop 4 bytes → four ≡ take 4 rest → behind ≡ drop 4 rest → 8 ≤ length bytes
    → ((i : ℕ) → get_or bytes i 0 < 256) → bits < 2 ^ 32 → bits ≡ from_be_bytes w32 four → HasHead bytes name bits behind
split_front bytes name rest four behind bits is_name is_rest is_four is_behind long fits fits_bits is_bits =
    let size : length four ≡ 4 = ap length is_four ∙ length-take-le 4 rest (omega (arith, ap length is_rest, length-drop 4 bytes)) in
    let in_bytes : (i : ℕ) → i < 4 → get_or four i 0 ≡ get_or bytes (4 + i) 0 = λ i lt.
    ap (λ (l : List ℕ). get_or l i 0) is_four ∙ (get_or-take 4 rest i 0 lt ∙ (ap (λ (l : List ℕ). get_or l i 0) is_rest ∙ get_or-drop 4 bytes i 0)) in
    let small : (i : ℕ) → get_or four i 0 < 256 = λ i.
    elim (cases_lt i 4) [
      | inl lt ↦ omega (arith, in_bytes i lt, fits (4 + i))
      | inr ge ↦ omega (arith, get_or_past four i 0 (omega arith))
    ] in
    let number : to_be_bytes w32 bits ≡ four = be_bytes_4 four bits size small is_bits in
    let parts : four ++ behind ≡ drop 4 bytes = ap (λ (l : List ℕ). l ++ behind) is_four ∙ (ap (λ (l : List ℕ). take 4 rest ++ l) is_behind ∙ (take-append-drop 4 rest ∙ is_rest)) in
    let whole : head name bits ++ behind ≡ bytes =
    ap (λ (l : List ℕ). (name ++ l) ++ behind) number
    ∙ (append_assoc name four behind ∙ (ap (λ (l : List ℕ). name ++ l) parts ∙ (ap (λ (l : List ℕ). l ++ drop 4 bytes) is_name ∙ take-append-drop 4 bytes))) in
    record { four = ap length is_name ∙ length-take-le 4 bytes (omega arith); fits = fits_bits; stands = sym whole }
