-- What is read of what is ahead of a link breaks off, or it doesn't.
use Rattle.std.proofs.Common.{◌≡◌, ℕ, ◌+◌, ◌<◌, inl, inr, List, [], ◌∷◌, ◌++◌, length, take, drop, append_assoc, sym, ◌∙◌, ap, subst, arith, length-append}
use Rattle.std.specs.List.{AllByRecursion}
use Rattle.std.proofs.lemmas.List.{take-append-drop}
use Rattle.drm_links.specs.Link.{Answer, Failed}
use Rattle.drm_links.specs.Hearing.{AreNext}
use Rattle.recv_reading.specs.Ending.{HasNotFailed}
use Rattle.recv_reading.proofs.OneReading.{next_front, next_split, three, same_answers}
use Rattle.drm_paths.specs.declared.run.PathOptions.{PathOptions}
use Rattle.drm_paths.specs.declared.run.PathEnded.{PathEnded}
use Rattle.drm_paths.specs.declared.run.PathEnded.TheVariants.{Idle, Limit}
use Rattle.drm_paths.specs.Reading.{PathEndHolds, PathGoesOn}
use Rattle.cmd_paths.specs.Ahead.{IsAllOf, BreaksOff}

fails_within : (before rest : List Answer) → AllByRecursion HasNotFailed (before ++ Failed ∷ rest) → ⊥
fails_within [] rest all = all.0
fails_within (x ∷ before) rest all = fails_within before rest all.1

-- answers that are sound don't break off within themselves
goes_past : (ahead r s xs before : List Answer) → AreNext ahead xs r → AreNext ahead (before ++ Failed ∷ []) s → AllByRecursion HasNotFailed xs → length before < length xs → ⊥
goes_past ahead r s xs before p q sound l =
    let n : ℕ = length (before ++ Failed ∷ []) in
    let size : length (before ++ Failed ∷ []) ≡ length before + 1 = length-append before (Failed ∷ []) in
    let front : before ++ Failed ∷ [] ≡ take n xs = next_front ahead s r (before ++ Failed ∷ []) xs q p (omega (arith, size, l)) in
    let whole : xs ≡ before ++ (Failed ∷ drop n xs) =
    sym (take-append-drop n xs) ∙ ap (λ ys. ys ++ drop n xs) (sym front) ∙ append_assoc before (Failed ∷ []) (drop n xs) in
    fails_within before (drop n xs) (subst (λ ys. AllByRecursion HasNotFailed ys) whole sound)

not_both : (options : PathOptions) (ahead r xs : List Answer) (why : PathEnded) → AreNext ahead xs r → PathGoesOn options xs → PathEndHolds options xs why → BreaksOff options ahead → ⊥
not_both options ahead r xs why p goes holds (taken, is) =
    let (before, last, goes', open', are) = is.ends in
    let q : AreNext ahead (before ++ Failed ∷ []) is.rest = subst (λ ys. AreNext ahead ys is.rest) last is.next in
    let half = next_split ahead is.rest before (Failed ∷ []) q in
    elim (three (length xs) (length before)) [
      | inl l ↦
          let front : xs ≡ take (length xs) before = next_front ahead r half.0 xs before p half.1 (omega (arith, l)) in
          goes'.shorter (length xs) l why (subst (λ ys. PathEndHolds options ys why) front holds)
      | inr h ↦ elim h [
        | inl l ↦ goes_past ahead r is.rest xs before p q goes.sound l
        | inr e ↦ open' why (subst (λ ys. PathEndHolds options ys why) (same_answers ahead r half.0 xs before p half.1 e) holds)
      ]
    ]

-- where all is read, nothing breaks off
pub whole_is_whole : (options : PathOptions) (ahead : List Answer) (taken : List (List ℕ)) → IsAllOf options ahead taken → BreaksOff options ahead → ⊥
whole_is_whole options ahead taken (inl is) breaks = not_both options ahead is.rest is.answers Idle is.next is.ends.0 is.ends.1 breaks
whole_is_whole options ahead taken (inr is) breaks = not_both options ahead is.rest is.answers Limit is.next is.ends.0 is.ends.1 breaks
