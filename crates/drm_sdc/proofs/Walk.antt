-- A field is walked from the front, entity by entity.
use Rattle.std.proofs.Common.{◌≡◌, ◌⊎◌, inl, inr, ℕ, zero, suc, ◌+◌, List, [], ◌∷◌, ◌++◌, take, drop, get_or, refl, sym, ◌∙◌, ap, subst, arith, append_assoc, Result, Ok, Err, IfOk, IfErr, Option, Some, None, IfSome, IfNone, ◌-◌}
use Rattle.std.proofs.lemmas.List.{drop-drop, length-take-le, append-nil}
use Rattle.drm_sdc.specs.declared.entity.Entity.{Entity}
use Rattle.drm_sdc.specs.declared.fault.SdcFault.{SdcFault}
use Rattle.drm_sdc.specs.declared.fault.SdcFault.TheVariants.{NoMemory}
use Rattle.drm_sdc.specs.Entity.{entity_size, IsEntity}
use Rattle.drm_sdc.specs.Reading.{entity_from}
use Rattle.drm_sdc.specs.Field.{IsTail, IsField, IsEntityFault, IsFieldFault, IsFirstFault, IsNextEntity}
use Rattle.drm_sdc.proofs.FieldLaws.{AreBytes}
use Rattle.drm_sdc.proofs.EntityLaws.{entity_made, length-entity, small_front, small_rest}
use Rattle.drm_sdc.proofs.Determined.{one_field, field_or_fault, one_fault}

-- these entities are the field's first `at` bytes: what is read behind them is read of the whole
pub record IsBefore (entities : List Entity) (at : ℕ) (bytes : List ℕ) : Type 0 where
  pub field : (es : List Entity) (t : List ℕ) → IsField es t (drop at bytes) → IsField (entities ++ es) t bytes
  pub fault : (es : List Entity) (f : SdcFault) → IsFieldFault at es (drop at bytes) f → IsFieldFault 0 (entities ++ es) bytes f

pub at_first : (field : List ℕ) → IsBefore [] 0 field
at_first field = record { field = λ es t is. is; fault = λ es f is. is }

front_is : (n : ℕ) (bytes : List ℕ) → take n bytes ≡ 0 ∷ 0 ∷ [] → (get_or bytes 0 0 ≡ 0) × (get_or bytes 1 0 ≡ 0)
front_is n [] is = (refl, refl)
front_is zero (x ∷ bytes) is = cc
front_is (suc zero) (x ∷ bytes) is = cc
front_is (suc (suc n)) (x ∷ []) is = cc
front_is (suc (suc n)) (x ∷ y ∷ bytes) is = (cc, cc)

two_zeros : (n : ℕ) (bytes : List ℕ) → take n bytes ≡ 0 ∷ 0 ∷ [] → IsTail bytes
two_zeros n bytes is =
    inr (front_is n bytes is)

pub next_is : (n : ℕ) (bytes : List ℕ) → AreBytes bytes → IsNextEntity n bytes → IsEntity (entity_from (take n bytes)) (take n bytes)
next_is n bytes small next = entity_made (take n bytes) (small_front bytes n small) next.sound (λ zeros. next.no_tail (two_zeros n bytes zeros))

pub one_more : (entities : List Entity) (e : Entity) (at n : ℕ) (field : List ℕ) → IsBefore entities at field → IsNextEntity n (drop at field) → IsEntity e (take n (drop at field)) → IsBefore (entities ++ e ∷ []) (at + n) field
one_more entities e at n field before next is =
    let size : n ≡ entity_size e = sym (length-take-le n (drop at field) next.within) ∙ length-entity e (take n (drop at field)) is in
    let here : IsEntity e (take (entity_size e) (drop at field)) = subst (λ m. IsEntity e (take m (drop at field))) size is in
    let rest : drop (at + n) field ≡ drop (entity_size e) (drop at field) = sym (drop-drop n at field) ∙ ap (λ m. drop m (drop at field)) size in
    record {
      field = λ es t more.
          subst (λ (l : List Entity). IsField l t field) (sym (append_assoc entities (e ∷ []) es)) (before.field (e ∷ es) t (here, subst (IsField es t) rest more));
      fault = λ es f more.
          let moved : IsFieldFault (at + entity_size e) es (drop (entity_size e) (drop at field)) f =
          subst (λ m. IsFieldFault (at + m) es (drop (entity_size e) (drop at field)) f) size (subst (λ l. IsFieldFault (at + n) es l f) rest more) in
          subst (λ (l : List Entity). IsFieldFault 0 l field f) (sym (append_assoc entities (e ∷ []) es)) (before.fault (e ∷ es) f (here, moved));
    }

pub at_tail : (entities : List Entity) (at : ℕ) (field : List ℕ) → IsBefore entities at field → IsTail (drop at field) → IsField entities (drop at field) field
at_tail entities at field before tail = subst (λ (l : List Entity). IsField l (drop at field) field) (append-nil entities) (before.field [] (drop at field) (refl, tail))

pub at_fault : (entities : List Entity) (at : ℕ) (field : List ℕ) (f : SdcFault) → IsBefore entities at field → ¬ IsTail (drop at field) → IsEntityFault at (drop at field) f → IsFirstFault field f
at_fault entities at field f before no_tail fault = (entities ++ [], before.fault [] f (no_tail, fault))

-- An answer that is right is the only one.
pub only_field : (r : Result (List Entity × List ℕ) SdcFault) (field : List ℕ) → AreBytes field → IfOk r (λ x. IsField x.0 x.1 field) → IfErr r (λ f. (f ≡ NoMemory) ⊎ IsFirstFault field f)
    → (es : List Entity) (t : List ℕ) → IsField es t field → (r ≡ Ok (es, t)) ⊎ (r ≡ Err NoMemory)
only_field (Ok x) field small read fault es t is =
    let same = one_field x.0 es x.1 t field small read is in
    inl (ap (λ (l : List Entity). Ok (l, x.1)) same.0 ∙ ap (λ (l : List ℕ). Ok (es, l)) same.1)
only_field (Err f) field small read (inl none) es t is = inr (ap Err none)
only_field (Err f) field small read (inr first) es t is = absurd (field_or_fault es first.0 0 t field f small is first.1)

pub only_fault : (r : Result (List Entity × List ℕ) SdcFault) (field : List ℕ) → AreBytes field → IfOk r (λ x. IsField x.0 x.1 field) → IfErr r (λ f. (f ≡ NoMemory) ⊎ IsFirstFault field f)
    → (f : SdcFault) → IsFirstFault field f → (r ≡ Err f) ⊎ (r ≡ Err NoMemory)
only_fault (Ok x) field small read fault f is = absurd (field_or_fault x.0 is.0 0 x.1 field f small read is.1)
only_fault (Err g) field small read (inl none) f is = inr (ap Err none)
only_fault (Err g) field small read (inr first) f is = inl (ap Err (one_fault first.0 is.0 0 field g f small first.1 is.1))

pub some_here : (o : Option ℕ) (P : ℕ → Type 0) (n : ℕ) → o ≡ Some n → IfSome o P → P n
some_here o P n is holds = let Q : Option ℕ → Type 0 = λ x. IfSome x P in subst Q is holds

pub none_here : (o : Option ℕ) (P : Type 0) → ((n : ℕ) → o ≡ Some n → ⊥) → IfNone o P → P
none_here None P other holds = holds
none_here (Some n) P other holds = absurd (other n refl)

-- the entity that was read of the bytes there
pub entity_here : (e : Entity) (at n : ℕ) (field : List ℕ) → AreBytes field → IsNextEntity n (drop at field) → e ≡ entity_from (take (at + n - at) (drop at field)) → IsEntity e (take n (drop at field))
entity_here e at n field small next is =
    let len : at + n - at ≡ n = omega arith in
    subst (λ (x : Entity). IsEntity x (take n (drop at field))) (sym (is ∙ ap (λ m. entity_from (take m (drop at field))) len)) (next_is n (drop at field) (small_rest field at small) next)
