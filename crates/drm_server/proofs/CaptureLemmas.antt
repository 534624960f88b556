-- What is written of a schedule, datagram by datagram and frame by frame, where some of it waits.
use Rattle.std.proofs.Common.{◌≡◌, ◌<◌, ◌≤◌, ◌+◌, ℕ, zero, suc, List, [], ◌∷◌, ◌++◌, ◌⊎◌, inl, inr, ⊎_elim, refl, sym, ap, ap₂, subst, ◌∙◌, append_assoc, arith}
use Rattle.std.proofs.lemmas.List.{append-nil}
use Rattle.std.specs.List.{concat}
use Rattle.std.proofs.lemmas.List.Folds.{concat-append}
use Rattle.drm_schedule.specs.declared.plan.Plan.{Plan}
use Rattle.drm_links.specs.Known.{Known}
use Rattle.drm_links.specs.Sink.{Output, OutputsText, IsPrefix}
use Rattle.drm_links.proofs.KnownLemmas.{OutputsText-then, OutputsText-weaker}
use Rattle.drm_server.specs.declared.stretch.Stretch.{Stretch}
use Rattle.drm_server.specs.Stretch.{first_in, frames_in}
use Rattle.drm_server.specs.Datagrams.{IsDatagramAt, AreFirst, AreOfFrames, AreDatagrams}
use Rattle.drm_server.specs.Capture.{IsCapture, IsPrefixOfCapture}
use Rattle.drm_server.specs.Gathering.{GathersDatagrams, IsPrefixOfFrame}

concat_push : (xs : List (List ℕ)) (x : List ℕ) → concat (xs ++ x ∷ []) ≡ concat xs ++ x
concat_push xs x = concat-append xs (x ∷ []) ∙ ap (λ l. concat xs ++ l) (append-nil x)

-- The front of two lists, one after the other, ends in the first one or in the second.
front_of_two : (xs ys text : List ℕ) → IsPrefix (xs ++ ys) text → IsPrefix xs text ⊎ ((part : List ℕ) × IsPrefix ys part × (text ≡ xs ++ part))
front_of_two [] ys text front = inr (text, front, refl)
front_of_two (x ∷ xs) ys [] front = inl (x ∷ xs, refl)
front_of_two (x ∷ xs) ys (y ∷ text) (rest, is) =
    let first : x ≡ y = cc in
    let same : xs ++ ys ≡ text ++ rest = cc in
    elim (front_of_two xs ys text (rest, same)) [
      | inl front ↦ inl (front.0, ap₂ (λ (a : ℕ) (l : List ℕ). a ∷ l) first front.1)
      | inr found ↦ inr (found.0, found.1, ap₂ (λ (a : ℕ) (l : List ℕ). a ∷ l) (sym first) found.2)
    ]

nothing_before : (part rest : List ℕ) → [] ≡ part ++ rest → part ≡ []
nothing_before [] rest is = refl
nothing_before (x ∷ part) rest is = cc

module _ (plan : Plan) (stretch : Stretch) where
  -- datagrams of the frames before, some first ones of this frame, and a front of the next one
  ends_in : (n i : ℕ) → n < frames_in stretch plan → (before first : List (List ℕ)) → AreOfFrames plan (first_in stretch) n before → AreFirst plan (first_in stretch + n) i first
      → (next front : List ℕ) → IsDatagramAt plan (first_in stretch + n) i next → IsPrefix next front → IsPrefixOfCapture plan stretch (concat before ++ (concat first ++ front))
  ends_in n i within before first are are_first next front is is_front = (
    next,
    before ++ first,
    record { n = n; within = within; i = i; is_next = is; of_frames = before; are_of_frames = are; of_frame = first; are_first = are_first; are = refl },
    front,
    is_front,
    sym (append_assoc (concat before) (concat first) front) ∙ ap (λ l. l ++ front) (sym (concat-append before first)),
  )

  -- a front of some first datagrams and one more: it ends in that one, or where `early` says
  in_next : (n i : ℕ) → n < frames_in stretch plan → (before others : List (List ℕ)) (datagram : List ℕ) → AreOfFrames plan (first_in stretch) n before → AreFirst plan (first_in stretch + n) i others → IsDatagramAt plan (first_in stretch + n) i datagram
      → (part : List ℕ) → (IsPrefix (concat others) part → IsPrefixOfCapture plan stretch (concat before ++ part)) → IsPrefix (concat (others ++ datagram ∷ [])) part
      → IsPrefixOfCapture plan stretch (concat before ++ part)
  in_next n i within before others datagram are are_others is part early (rest, front) =
      elim (front_of_two (concat others) datagram part (rest, sym (concat_push others datagram) ∙ front)) [
        | inl first ↦ early first
        | inr found ↦
            subst (λ l. IsPrefixOfCapture plan stretch (concat before ++ l)) (sym found.2)
            (ends_in n i within before others are are_others datagram found.0 is found.1)
      ]

  -- a front of one or more first datagrams of a frame, behind all of the frames before it
  pub front_in_frame : (n i : ℕ) → n < frames_in stretch plan → (before first : List (List ℕ)) → AreOfFrames plan (first_in stretch) n before → AreFirst plan (first_in stretch + n) (suc i) first
      → (part : List ℕ) → IsPrefix (concat first) part → IsPrefixOfCapture plan stretch (concat before ++ part)
  front_in_frame n zero within before first are (others, datagram, none, is, same) part front =
      in_next n zero within before others datagram are none is part
      (λ (rest, is_front).
      subst (λ l. IsPrefixOfCapture plan stretch (concat before ++ l)) (sym (nothing_before part rest (sym (ap concat none) ∙ is_front)))
      (ends_in n zero within before [] are refl datagram [] is (datagram, refl)))
      (subst (λ l. IsPrefix (concat l) part) same front)
  front_in_frame n (suc i) within before first are (others, datagram, are_others, is, same) part front =
      in_next n (suc i) within before others datagram are are_others is part
      (front_in_frame n i within before others are are_others part)
      (subst (λ l. IsPrefix (concat l) part) same front)

  -- a front of the datagrams of some first frames: it ends in one of them, or there are none and nothing else
  front_in_frames : (n : ℕ) → n ≤ frames_in stretch plan → (before : List (List ℕ)) → AreOfFrames plan (first_in stretch) n before
      → (text : List ℕ) → IsPrefix (concat before) text → IsPrefixOfCapture plan stretch text ⊎ (text ≡ concat before)
  front_in_frames zero within before none text (rest, is) =
      inr (nothing_before text rest (sym (ap concat none) ∙ is) ∙ sym (ap concat none))
  front_in_frames (suc n) within before (others, of_frame, are, (count, has, first), same) text (rest, is) =
      let here : concat before ≡ concat others ++ concat of_frame = ap concat same ∙ concat-append others of_frame in
      elim (front_of_two (concat others) (concat of_frame) text (rest, sym here ∙ is)) [
        | inl early ↦
            elim (front_in_frames n (omega (arith, within)) others are text early) [
              | inl found ↦ inl found
              | inr whole ↦ last count first [] (concat of_frame, refl) (whole ∙ sym (append-nil (concat others)))
            ]
        | inr found ↦ last count first found.0 found.1 found.2
      ]
    where
      last : (count : ℕ) → AreFirst plan (first_in stretch + n) count of_frame → (part : List ℕ) → IsPrefix (concat of_frame) part → text ≡ concat others ++ part
          → IsPrefixOfCapture plan stretch text ⊎ (text ≡ concat before)
      last zero none part (rest, front) is =
          let empty : part ≡ [] = nothing_before part rest (sym (ap concat none) ∙ front) in
          inr (is ∙ (ap (λ l. concat others ++ l) (empty ∙ sym (ap concat none)) ∙ sym (ap concat same ∙ concat-append others of_frame)))
      last (suc i) first part front is =
          inl (subst (IsPrefixOfCapture plan stretch) (sym is) (front_in_frame n i (omega (arith, within)) others of_frame are first part front))

  -- All datagrams of one frame or more are a front too: the last of them is whole.
  pub one_or_more : (n count : ℕ) → n < frames_in stretch plan → 1 ≤ count → (before first : List (List ℕ)) → AreOfFrames plan (first_in stretch) n before → AreFirst plan (first_in stretch + n) count first
      → IsPrefixOfCapture plan stretch (concat (before ++ first))
  one_or_more n zero within some before first are are_first = absurd (omega (arith, some))
  one_or_more n (suc i) within some before first are are_first =
      subst (IsPrefixOfCapture plan stretch) (sym (concat-append before first))
      (front_in_frame n i within before first are are_first (concat first) ([], sym (append-nil (concat first))))

-- the datagrams of one frame more
pub gathers_frame : (before of_frame : List (List ℕ)) (then_waits waits : List ℕ) (a b c : Known Output) → GathersDatagrams [] (concat before) then_waits a b → GathersDatagrams then_waits (concat of_frame) waits b c → GathersDatagrams [] (concat (before ++ of_frame)) waits a c
gathers_frame before of_frame then_waits waits a b c first second =
    let more : List ℕ = concat of_frame in
    OutputsText-then (λ s. concat before ≡ s ++ then_waits) (λ t. then_waits ++ more ≡ t ++ waits) (λ text. concat (before ++ of_frame) ≡ text ++ waits) a b c first second
    (λ s t is_s is_t. concat-append before of_frame ∙ (ap (λ l. l ++ more) is_s ∙ (append_assoc s then_waits more ∙ (ap (λ l. s ++ l) is_t ∙ sym (append_assoc s t waits)))))

module _ (plan : Plan) (stretch : Stretch) where
  -- a front of what waits at the end
  pub end_written : (n : ℕ) (datagrams : List (List ℕ)) (waits : List ℕ) (a b c : Known Output) → n ≤ frames_in stretch plan → AreOfFrames plan (first_in stretch) n datagrams → IsPrefixOfCapture plan stretch (concat datagrams)
      → GathersDatagrams [] (concat datagrams) waits a b → OutputsText b c (IsPrefix waits) → OutputsText a c (IsPrefixOfCapture plan stretch)
  end_written n datagrams waits a b c within are all first second =
      OutputsText-then (λ s. concat datagrams ≡ s ++ waits) (IsPrefix waits) (IsPrefixOfCapture plan stretch) a b c first second
      (λ s u is (rest, front).
      ⊎_elim (λ found. found) (λ whole. subst (IsPrefixOfCapture plan stretch) (sym whole) all)
      (front_in_frames plan stretch n within datagrams are (s ++ u) (rest, is ∙ (ap (λ l. s ++ l) front ∙ sym (append_assoc s u rest)))))

  -- all of what waits at the end
  pub all_written : (datagrams : List (List ℕ)) (waits : List ℕ) (a b c : Known Output) → AreDatagrams plan stretch datagrams
      → GathersDatagrams [] (concat datagrams) waits a b → OutputsText b c (λ text. text ≡ waits) → OutputsText a c (IsCapture plan stretch)
  all_written datagrams waits a b c are first second =
      OutputsText-then (λ s. concat datagrams ≡ s ++ waits) (λ text. text ≡ waits) (IsCapture plan stretch) a b c first second
      (λ s u is last. (datagrams, are, ap (λ l. s ++ l) last ∙ sym is))

-- a front of one frame
pub frame_front : (plan : Plan) (t count : ℕ) (datagrams : List (List ℕ)) (a b : Known Output) → 1 ≤ count → AreFirst plan t count datagrams
    → OutputsText a b (IsPrefix (concat datagrams)) → OutputsText a b (IsPrefixOfFrame plan t)
frame_front plan t zero datagrams a b some are written = absurd (omega (arith, some))
frame_front plan t (suc i) datagrams a b some are written =
    OutputsText-weaker (IsPrefix (concat datagrams)) (IsPrefixOfFrame plan t) a b written (λ text front. (i, datagrams, are, front))
