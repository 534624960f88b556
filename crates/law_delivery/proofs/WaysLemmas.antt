-- Two ways, and a part of a schedule.
use Rattle.std.proofs.Common.{ℕ, zero, suc, ◌≡◌, ◌+◌, ◌-◌, ◌<◌, inl, inr, ⊎_elim, List, [], ◌∷◌, All, refl, subst, arith}
use Rattle.std.specs.List.{AllZip, Contains, slice_index_or}
use Rattle.std.proofs.lemmas.List.Elements.{Contains-append_cases}
use Rattle.drm_schedule.specs.declared.plan.Plan.{Plan}
use Rattle.drm_server.specs.declared.stretch.Stretch.{Stretch}
use Rattle.drm_server.specs.Stretch.{first_in, frames_in}
use Rattle.drm_server.proofs.StretchLemmas.{within_schedule}
use Rattle.drm_server.specs.Datagrams.{IsDatagramAt, AreFirst, AreOfFrames}
use Rattle.law_delivery.specs.Sent.{OfSchedule, IsArrival}
use Rattle.law_delivery.specs.Ways.{IsMixture, TwoWays, IsWithin, AnyStretch}

-- ---- two ways

-- what stands for a mixture is a mixture of what stands for its parts
module _ {A B : Type 0} (R : A → B → Type 0) where
  none : (ps : List A) → AllZip R ps [] → ps ≡ []
  none [] each = refl
  none (p ∷ ps) each = absurd each

  -- the first one of a list that stands for one that begins with z
  first_of : (ps : List A) (z : B) (rest : List B) → AllZip R ps (z ∷ rest) → (p : A) × (front : List A) × (ps ≡ p ∷ front) × R p z × AllZip R front rest
  first_of [] z rest each = absurd each
  first_of (p ∷ front) z rest (pair, each) = (p, front, refl, pair, each)

  mixed : (ps qs : List A) (xs ys zs : List B) → AllZip R ps xs → AllZip R qs ys → IsMixture xs ys zs → (rs : List A) × AllZip R rs zs × IsMixture ps qs rs
  mixed ps qs xs ys [] each others (no_x, no_y) =
      ([], tt, (none ps (subst (λ l. AllZip R ps l) no_x each), none qs (subst (λ l. AllZip R qs l) no_y others)))
  mixed ps qs xs ys (z ∷ zs) each others (inl (rest, is, mix)) =
      let (p, front, same, pair, pairs) = first_of ps z rest (subst (λ l. AllZip R ps l) is each) in
      let (rs, all, mixture) = mixed front qs rest ys zs pairs others mix in
      (p ∷ rs, (pair, all), inl (front, same, mixture))
  mixed ps qs xs ys (z ∷ zs) each others (inr (rest, is, mix)) =
      let (q, front, same, pair, pairs) = first_of qs z rest (subst (λ l. AllZip R qs l) is others) in
      let (rs, all, mixture) = mixed ps front xs rest zs each pairs mix in
      (q ∷ rs, (pair, all), inr (front, same, mixture))

pub two_ways : TwoWays
two_ways plan arrivals others one other both each all mixture = mixed (IsArrival plan) arrivals others one other both each all mixture

-- ---- a part of a schedule

only : {X : Type 0} (x y : X) (k : ℕ) → k < 1 → slice_index_or (x ∷ []) k y ≡ y → x ≡ y
only x y zero within is = is
only x y (suc k) within is = absurd (omega (arith, within))

none_in : {X A : Type 0} (y : X) → Contains [] y → A
none_in y (k, within, is) = absurd (omega (arith, within))

of_frame : (plan : Plan) (t i : ℕ) (datagrams : List (List ℕ)) (datagram : List ℕ) → AreFirst plan t i datagrams → Contains datagrams datagram
    → (k : ℕ) × IsDatagramAt plan t k datagram
of_frame plan t zero datagrams datagram none has = none_in datagram (subst (λ l. Contains l datagram) none has)
of_frame plan t (suc i) datagrams datagram (before, last, are, is, same) has =
    ⊎_elim
    (λ (early : Contains before datagram). of_frame plan t i before datagram are early)
    (λ (here : Contains (last ∷ []) datagram). (i, subst (λ d. IsDatagramAt plan t i d) (only last datagram here.0 here.1 here.2) is))
    (Contains-append_cases before (last ∷ []) datagram (subst (λ l. Contains l datagram) same has))

of_frames : (plan : Plan) (first n : ℕ) (datagrams : List (List ℕ)) (datagram : List ℕ) → AreOfFrames plan first n datagrams → Contains datagrams datagram
    → (m : ℕ) × (k : ℕ) × (m < n) × IsDatagramAt plan (first + m) k datagram
of_frames plan first zero datagrams datagram none has = none_in datagram (subst (λ l. Contains l datagram) none has)
of_frames plan first (suc n) datagrams datagram (before, last, are, (count, some, firsts), same) has =
    ⊎_elim
    (λ (early : Contains before datagram).
    let (m, k, within, is) = of_frames plan first n before datagram are early in
    (m, k, omega (arith, within), is))
    (λ (here : Contains last datagram).
    let (k, is) = of_frame plan (first + n) count last datagram firsts here in
    (n, k, omega arith, is))
    (Contains-append_cases before last datagram (subst (λ l. Contains l datagram) same has))

one_more : {X : Type 0} (P : X → Type 0) (x : X) (xs : List X) → P x → All P xs → All P (x ∷ xs)
one_more P x xs here others zero d within = here
one_more P x xs here others (suc k) d within = others k d (omega (arith, within))

pub any_stretch : AnyStretch
any_stretch plan stretch sent [] are all = ([], tt, λ k d within. absurd (omega (arith, within)))
any_stretch plan stretch sent (datagram ∷ received) are all =
    let first : ℕ = first_in stretch in
    let (m, k, within, is) = of_frames plan first (frames_in stretch plan) sent datagram are (all 0 datagram (omega arith)) in
    let (arrivals, arrive, from) = any_stretch plan stretch sent received are (λ j d less. all (suc j) d (omega (arith, less))) in (
      OfSchedule (first + m, k) ∷ arrivals,
      (record { within = within_schedule stretch plan m within; is = is }, arrive),
      one_more (IsWithin stretch plan) (OfSchedule (first + m, k)) arrivals (omega arith, omega (arith, within)) from,
    )
