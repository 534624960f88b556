-- Values that are written one after another.
use Rattle.std.proofs.Common.{◌≡◌, ℕ, zero, suc, ◌+◌, ◌<◌, ◌≤◌, List, [], ◌∷◌, ◌++◌, length, take, get_or, ap, sym, ◌∙◌, append_assoc, add-one, arith, refl}
use Rattle.std.specs.List.{join_with_byte}
use Rattle.std.proofs.lemmas.List.{append-nil, take_all}
use Rattle.plan_rows.specs.declared.field.LineField.{LineField}
use Rattle.plan_rows.specs.declared.value.LineValue.{LineValue}
use Rattle.drm_sdc.specs.declared.channels.Channel15.{Channel15}
use Rattle.plan_rows.specs.Frequencies.{channel_word, channels_word, separator}
use Rattle.plan_rows.specs.Fields.{word_of}
use Rattle.plan_rows.specs.Rows.{words_written}

-- the words of values with a space before each
abbrev pub spaced : List LineField → List LineValue → List ℕ
spaced (f ∷ fs) (v ∷ vs) = 32 ∷ (word_of f v ++ spaced fs vs)
spaced _ _ = []

spaced_more : (fs : List LineField) (vs : List LineValue) (i : ℕ) (f : LineField) (v : LineValue) → i < length fs → i < length vs
    → spaced (take (suc i) fs) (take (suc i) vs) ≡ spaced (take i fs) (take i vs) ++ (32 ∷ word_of (get_or fs i f) (get_or vs i v))
spaced_more [] vs i f v lt lt_v = absurd (omega arith)
spaced_more (g ∷ fs) [] i f v lt lt_v = absurd (omega arith)
spaced_more (g ∷ fs) (x ∷ vs) zero f v lt lt_v = ap (λ (y : List ℕ). 32 ∷ y) (append-nil (word_of g x))
spaced_more (g ∷ fs) (x ∷ vs) (suc i) f v lt lt_v =
    ap (λ (y : List ℕ). 32 ∷ y)
    (ap (λ (y : List ℕ). word_of g x ++ y) (spaced_more fs vs i f v (omega arith) (omega arith)) ∙ sym (append_assoc (word_of g x) (spaced (take i fs) (take i vs)) (32 ∷ word_of (get_or fs i f) (get_or vs i v))))

-- a keyword and words with a space before each are joined by spaces
joined : (keyword : List ℕ) (fs : List LineField) (vs : List LineValue) → keyword ++ spaced fs vs ≡ join_with_byte 32 (keyword ∷ words_written fs vs)
joined keyword [] vs = append-nil keyword
joined keyword (f ∷ fs) [] = append-nil keyword
joined keyword (f ∷ fs) (v ∷ vs) = ap (λ (y : List ℕ). keyword ++ 32 ∷ y) (joined (word_of f v) fs vs)

-- one more frequency behind those that are joined
frequency_more : (xs : List Channel15) (k : ℕ) (d : Channel15) → k < length xs → channels_word (take (suc k) xs) ≡ (channels_word (take k xs) ++ separator k) ++ channel_word (get_or xs k d)
frequency_more [] k d lt = absurd (omega arith)
frequency_more (x ∷ xs) zero d lt = refl
frequency_more (x ∷ []) (suc k) d lt = absurd (omega arith)
frequency_more (x ∷ y ∷ xs) (suc zero) d lt = sym (append_assoc (channel_word x) (44 ∷ []) (channel_word y))
frequency_more (x ∷ y ∷ xs) (suc (suc k)) d lt =
    ap (λ (r : List ℕ). channel_word x ++ 44 ∷ r) (frequency_more (y ∷ xs) (suc k) d (omega arith))
    ∙ sym (append_assoc (channel_word x) (44 ∷ (channels_word (y ∷ take k xs) ++ 44 ∷ [])) (channel_word (get_or xs k d)))
    ∙ ap (λ (r : List ℕ). r ++ channel_word (get_or xs k d)) (sym (append_assoc (channel_word x) (44 ∷ channels_word (y ∷ take k xs)) (44 ∷ [])))

pub frequency_on : (xs : List Channel15) (k : ℕ) (d : Channel15) (before between comma after word : List ℕ) → k < length xs → before ≡ channels_word (take k xs) → between ≡ before ++ comma → comma ≡ separator k
    → after ≡ between ++ word → word ≡ channel_word (get_or xs k d) → after ≡ channels_word (take (k + 1) xs)
frequency_on xs k d before between comma after word lt so_far first is then word_is =
    rw (then, first, so_far, is, word_is, add-one k) (sym (frequency_more xs k d lt))

-- one more word behind those that are written
pub word_on : (fs : List LineField) (vs : List LineValue) (i : ℕ) (f : LineField) (v : LineValue) (start before between after word : List ℕ) → i < length fs → i < length vs → before ≡ start ++ spaced (take i fs) (take i vs)
    → between ≡ before ++ 32 ∷ [] → after ≡ between ++ word → word ≡ word_of (get_or fs i f) (get_or vs i v) → after ≡ start ++ spaced (take (i + 1) fs) (take (i + 1) vs)
word_on fs vs i f v start before between after word lt lt_v so_far space then is =
    then
    ∙ ap (λ (x : List ℕ). x ++ word) space
    ∙ append_assoc before (32 ∷ []) word
    ∙ ap (λ (x : List ℕ). x ++ 32 ∷ word) so_far
    ∙ append_assoc start (spaced (take i fs) (take i vs)) (32 ∷ word)
    ∙ ap (λ (x : List ℕ). start ++ (spaced (take i fs) (take i vs) ++ 32 ∷ x)) is
    ∙ ap (λ (x : List ℕ). start ++ x) (sym (spaced_more fs vs i f v lt lt_v))
    ∙ ap (λ (n : ℕ). start ++ spaced (take n fs) (take n vs)) (sym (add-one i))

-- the line feed behind the last word
pub line_ends : (fs : List LineField) (vs : List LineValue) (i : ℕ) (old start last after keyword bytes : List ℕ) → length fs ≤ i → length fs ≡ length vs → bytes ≡ keyword → start ≡ old ++ bytes
    → last ≡ start ++ spaced (take i fs) (take i vs) → after ≡ last ++ 10 ∷ [] → after ≡ old ++ (join_with_byte 32 (keyword ∷ words_written fs vs) ++ 10 ∷ [])
line_ends fs vs i old start last after keyword bytes most same is first so_far then =
    let whole : last ≡ start ++ spaced fs vs = so_far ∙ ap (λ (x : List LineField). start ++ spaced x (take i vs)) (take_all i fs most) ∙ ap (λ (x : List LineValue). start ++ spaced fs x) (take_all i vs (omega (arith, most, same))) in
    then
    ∙ ap (λ (x : List ℕ). x ++ 10 ∷ []) (whole ∙ ap (λ (x : List ℕ). x ++ spaced fs vs) (first ∙ ap (λ (x : List ℕ). old ++ x) is) ∙ append_assoc old keyword (spaced fs vs) ∙ ap (λ (x : List ℕ). old ++ x) (joined keyword fs vs))
    ∙ append_assoc old (join_with_byte 32 (keyword ∷ words_written fs vs)) (10 ∷ [])
