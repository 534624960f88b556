-- Bits that are written one behind another.
use Rattle.std.proofs.Common.{◌≡◌, ℕ, zero, suc, ◌+◌, ◌<◌, List, [], ◌∷◌, ◌++◌, Bool, length, take, get_or, refl, sym, ◌∙◌, ap, subst, arith, append_assoc, length-append, drop}
use Rattle.std.proofs.lemmas.List.{append-nil, drop-drop}
use Rattle.drm_bits.specs.Bits.{digits}
use Rattle.std.specs.Int.{from_bool}
use Rattle.drm_bits.specs.Fields.{BitField, spelled}
use Rattle.drm_bits.proofs.BitsLemmas.{length-digits}
use Rattle.drm_bits.proofs.FieldLemmas.{spelled-append}
use Rattle.drm_bits.specs.Sink.{WroteBits, written, unwritten, lender}
use Rattle.drm_bits.specs.declared.bit_sink.BitSink.{BitSink}

-- one number is written
pub wrote_number : (s t : BitSink) (w n m : ℕ) → n ≡ m → written t ≡ written s ++ digits w n → unwritten t ≡ drop w (unwritten s) → lender t ≡ lender s
    → WroteBits (digits w m) s t
wrote_number s t w n m same more behind reference = record {
  more = more ∙ ap (λ k. written s ++ digits w k) same;
  behind = behind ∙ ap (λ k. drop k (unwritten s)) (sym (length-digits w m));
  same_reference = reference;
}

pub wrote_none : (s : BitSink) → WroteBits [] s s
wrote_none s = record { more = sym (append-nil (written s)); behind = refl; same_reference = refl }

pub then : {a b : List Bool} {s t u : BitSink} → WroteBits a s t → WroteBits b t u → WroteBits (a ++ b) s u
then {a} {b} {s} {t} {u} x y =
    let long : length a + length b ≡ length (a ++ b) = sym (length-append a b) in
    record {
      more = y.more ∙ (ap (λ l. l ++ b) x.more ∙ append_assoc (written s) a b);
      behind = y.behind ∙ (ap (drop (length b)) x.behind ∙ (drop-drop (length b) (length a) (unwritten s) ∙ ap (λ n. drop n (unwritten s)) long));
      same_reference = y.same_reference ∙ x.same_reference;
    }

-- the last field of a list
pub last : {a : List Bool} {s t : BitSink} → WroteBits a s t → WroteBits (a ++ []) s t
last {a} {s} {t} x = subst (λ (l : List Bool). WroteBits l s t) (sym (append-nil a)) x

-- what each element of a list gives, one behind another
abbrev pub each : {A : Type 0} → (A → List Bool) → List A → List Bool
each f [] = []
each f (x ∷ xs) = f x ++ each f xs

each_more : {A : Type 0} (f : A → List Bool) (xs : List A) (i : ℕ) (d : A) → i < length xs → each f (take i xs) ++ f (get_or xs i d) ≡ each f (take (suc i) xs)
each_more f [] i d within = absurd (omega (arith, within))
each_more f (x ∷ xs) zero d within = sym (append-nil (f x))
each_more f (x ∷ xs) (suc i) d within =
    append_assoc (f x) (each f (take i xs)) (f (get_or xs i d)) ∙ ap (λ l. f x ++ l) (each_more f xs i d (omega (arith, within)))

-- one element more
pub wrote_more : {A : Type 0} {s t u : BitSink} (f : A → List Bool) (xs : List A) (i : ℕ) (d : A) → i < length xs → WroteBits (each f (take i xs)) s t → WroteBits (f (get_or xs i d)) t u → WroteBits (each f (take (i + 1) xs)) s u
wrote_more {A} {s} {t} {u} f xs i d within x y =
    let next : suc i ≡ i + 1 = omega arith in
    subst (λ (l : List Bool). WroteBits l s u) (each_more f xs i d within ∙ ap (λ n. each f (take n xs)) next) (then x y)

-- fields behind others
pub join : {s t : BitSink} (fields others : List BitField) → WroteBits (spelled fields ++ spelled others) s t → WroteBits (spelled (fields ++ others)) s t
join {s} {t} fields others x = subst (λ (l : List Bool). WroteBits l s t) (sym (spelled-append fields others)) x

pub wrote_flag : {s t : BitSink} (a b : Bool) → a ≡ b → WroteBits (digits 1 (from_bool a)) s t → WroteBits (digits 1 (from_bool b)) s t
wrote_flag {s} {t} a b is x = subst (λ (f : Bool). WroteBits (digits 1 (from_bool f)) s t) is x
