-- Any bytes are read in some way.
use Rattle.std.proofs.Common.{◌≡◌, ◌≢◌, ℕ, zero, suc, ◌+◌, ◌-◌, ◌^◌, ◌<◌, ◌≤◌, ◌⊎◌, Bool, true, List, [], ◌∷◌, ◌++◌, length, take, drop, replicate, not, sym, subst, ap, ap₂, ◌∙◌, refl, inl, inr, arith, append_assoc, length-append}
use Rattle.std.specs.Prelude.{All}
use Rattle.std.specs.List.{concat}
use Rattle.std.proofs.lemmas.Bool.{cases_eq, cases_lt}
use Rattle.std.proofs.lemmas.List.{take-append-drop, length-take, length-take-le, length-drop, length-map, length-replicate}
use Rattle.std.proofs.lemmas.List.Elements.{All-nil, All-cons}
use Rattle.drm_bits.specs.Bits.{value, digits, bits_of}
use Rattle.drm_bits.specs.Crc.{IsCheck, IsCheckOf, complement, crc16_polynomial}
use Rattle.drm_bits.proofs.BitsLemmas.{value-below}
use Rattle.drm_bits.proofs.DigitsLemmas.{digits-value}
use Rattle.drm_bits.proofs.Registers.{run, length-run}
use Rattle.drm_bits.proofs.Checks.{check-start, check-more, one_check}
use Rattle.dcp_af.specs.Packet as af
use Rattle.dcp_af.specs.Faults as af_head
use Rattle.dcp_pft.specs.Head as pft
use Rattle.dcp_pft.specs.Faults as pft_head
use Rattle.capture_reader.specs.declared.fault.CaptureField.{CaptureField}
use Rattle.capture_reader.specs.declared.fault.CaptureField.TheVariants.{Sync, HeadCrc, TooLarge, HeadCut, BodyCut}
use Rattle.capture_reader.specs.Front.{Front, Packet, Wrong, Cut, AfFront, PftFront, OtherFront, IsHalfSync, BytesBegin, Af, Pft, Other, IsWhole, IsHeadChecked, fragment_size}
use Rattle.capture_reader.specs.Capture.{CaptureEnding, End, Fault, TooLong, EndsWith, IsCaptureOf, most_bytes}
use Rattle.capture_reader.specs.Laws.{ReadSomeWay}
use Rattle.capture_reader.proofs.FrontLaws.{packet_in_front, packet_alone, packet_size}
use Rattle.capture_reader.proofs.CaptureLaws.{Behind, looked_at}

-- ---- check values

-- the register has the check value of any bits
some_check_by : (low bits : List Bool) → length low ≡ 16 → (check : ℕ) × (check < 2 ^ 16) × IsCheck (true ∷ low) bits (digits 16 check)
some_check_by low bits wide =
    let ones : List Bool = replicate (length low) true in
    let last : List Bool = run low ones bits in
    let size : length (complement last) ≡ 16 = length-map last not ∙ (length-run low ones bits (length-replicate (length low) true) ∙ wide) in
    let is : IsCheck (true ∷ low) bits (complement last) = check-more low [] bits ones last (omega (arith, wide)) refl (check-start low ones refl) in
    let P : List Bool → Type 0 = λ l. IsCheck (true ∷ low) bits l in
    let Q : ℕ → Type 0 = λ n. value (complement last) < 2 ^ n in
    (value (complement last), subst Q size (value-below (complement last)), subst P (sym (digits-value 16 (complement last) size)) is)

some_check : (bytes : List ℕ) → (check : ℕ) × IsCheckOf bytes check
some_check bytes =
    let some = some_check_by (drop 1 crc16_polynomial) (bits_of bytes) refl in
    (some.0, record { narrow = some.1; is = some.2 })

right_or_wrong : (bytes : List ℕ) (check : ℕ) → IsCheckOf bytes check ⊎ (IsCheckOf bytes check → ⊥)
right_or_wrong bytes check =
    let some = some_check bytes in
    elim (cases_eq check some.0) [
      | inl same ↦ inl (let P : ℕ → Type 0 = λ n. IsCheckOf bytes n in subst P (sym same) some.1)
      | inr other ↦ inr (λ is. other (one_check bytes check some.0 is some.1))
    ]

-- ---- fronts

same_or_not : (xs ys : List ℕ) → (xs ≡ ys) ⊎ (xs ≢ ys)
same_or_not [] [] = inl refl
same_or_not [] (y ∷ ys) = inr (λ e. cc)
same_or_not (x ∷ xs) [] = inr (λ e. cc)
same_or_not (x ∷ xs) (y ∷ ys) = elim (cases_eq x y) [
  | inl same ↦ elim (same_or_not xs ys) [
    | inl rest ↦ inl (ap₂ (λ (n : ℕ) (l : List ℕ). n ∷ l) same rest)
    | inr other ↦ inr (λ e. other cc)
  ]
  | inr other ↦ inr (λ e. other cc)
]

af_some : (bytes : List ℕ) → (f : Front) × AfFront bytes f
af_some bytes = elim (cases_lt (length bytes) 10) [
  | inl short ↦ (Cut HeadCut, short)
  | inr long ↦ elim (cases_lt 65536 (af_head.described bytes)) [
    | inl large ↦ (Wrong TooLarge, (long, large))
    | inr small ↦ elim (cases_lt (length bytes) (af_head.described bytes)) [
      | inl cut ↦ (Cut BodyCut, (long, small, cut))
      | inr whole ↦ (Packet (af_head.described bytes), (long, refl, small, whole))
    ]
  ]
]

pft_some : (bytes : List ℕ) → (f : Front) × PftFront bytes f
pft_some bytes = elim (cases_lt (length bytes) (pft_head.head_size bytes)) [
  | inl short ↦ (Cut HeadCut, short)
  | inr long ↦ elim (right_or_wrong (pft_head.checked_bytes bytes) (pft_head.check_value bytes)) [
    | inl right ↦ elim (cases_lt (length bytes) (fragment_size bytes)) [
      | inl cut ↦ (Cut BodyCut, (long, right, cut))
      | inr whole ↦ (Packet (fragment_size bytes), (long, right, refl, whole))
    ]
    | inr wrong ↦ (Wrong HeadCrc, (long, wrong))
  ]
]

other_some : (bytes : List ℕ) → (f : Front) × OtherFront bytes f
other_some [] = (Cut HeadCut, inl refl)
other_some (a ∷ []) = elim (same_or_not (a ∷ []) (take 1 af.sync)) [
  | inl half ↦ (Cut HeadCut, inr (inl half))
  | inr no_af ↦ elim (same_or_not (a ∷ []) (take 1 pft.sync)) [
    | inl half ↦ (Cut HeadCut, inr (inr half))
    | inr no_pft ↦ (Cut Sync, (refl, λ half. elim half [ inl is ↦ no_af is | inr is ↦ no_pft is ]))
  ]
]
other_some (a ∷ b ∷ rest) = (Wrong Sync, omega arith)

-- any bytes begin in some way
pub some_front : (bytes : List ℕ) → (f : Front) × BytesBegin bytes f
some_front bytes = elim (same_or_not (take 2 bytes) af.sync) [
  | inl sync ↦ let some = af_some bytes in (some.0, Af sync some.1)
  | inr no_af ↦ elim (same_or_not (take 2 bytes) pft.sync) [
    | inl sync ↦ let some = pft_some bytes in (some.0, Pft sync some.1)
    | inr no_pft ↦ let some = other_some bytes in (some.0, Other no_af no_pft some.1)
  ]
]

-- ---- captures

-- no packet
last_one : (at : ℕ) (bytes : List ℕ) (e : CaptureEnding) → at ≤ most_bytes → EndsWith (at + length bytes) at bytes e → Behind at bytes [] e
last_one at bytes e few ends =
    let P : ℕ → Type 0 = λ n. EndsWith (at + length bytes) n bytes e in
    record { whole = All-nil IsWhole; few = omega (arith, few); rest = bytes; is = refl; ends = subst P (omega arith) ends }

-- a packet, and what follows it
one_more : (at n : ℕ) (bytes : List ℕ) (ps : List (List ℕ)) (e : CaptureEnding) → BytesBegin bytes (Packet n) → Behind (at + n) (drop n bytes) ps e → Behind at bytes (take n bytes ∷ ps) e
one_more at n bytes ps e packet b =
    let few = packet_size bytes n packet in
    let p : List ℕ = take n bytes in
    let size : length (take n bytes) ≡ n = length-take-le n bytes few.2 in
    let P : ℕ → Type 0 = λ k. BytesBegin (take n bytes) (Packet k) in
    let all : bytes ≡ take n bytes ++ drop n bytes = sym (take-append-drop n bytes) in
    let place : at + n + length (concat ps) ≡ at + length (take n bytes ++ concat ps) = omega (arith, size, length-append (take n bytes) (concat ps)) in
    let long : at + n + length (drop n bytes) ≡ at + length bytes = omega (arith, few.2, length-drop n bytes) in
    let Q : ℕ → Type 0 = λ k. EndsWith k (at + length (take n bytes ++ concat ps)) b.rest e in
    let R : ℕ → Type 0 = λ k. EndsWith (at + n + length (drop n bytes)) k b.rest e in
    record {
      whole = All-cons IsWhole (take n bytes) ps (subst P (sym size) (packet_alone bytes n n (omega arith) packet)) b.whole;
      few = omega (arith, b.few, place);
      rest = b.rest;
      is = all ∙ (ap (λ l. take n bytes ++ l) b.is ∙ sym (append_assoc (take n bytes) (concat ps) b.rest));
      ends = subst Q long (subst R place b.ends);
    }

-- bytes that are cut, where all of them are looked at or more come
cut_end : (at : ℕ) (bytes : List ℕ) (field : CaptureField) → at ≤ most_bytes → BytesBegin (take (most_bytes - at) bytes) (Cut field) → (e : CaptureEnding) × EndsWith (at + length bytes) at bytes e
cut_end at bytes field few cut = elim (cases_lt most_bytes (at + length bytes)) [
  | inl long ↦ (TooLong, (long, (field, cut)))
  | inr short ↦ elim (same_or_not bytes []) [
    | inl none ↦ (End, (none, short))
    | inr some ↦
        let P : List ℕ → Type 0 = λ l. BytesBegin l (Cut field) in
        (Fault (record { at = at; field = field }), (refl, inr (short, some, subst P (looked_at (at + length bytes) at bytes refl short) cut)))
  ]
]

-- behind a packet
abbrev BehindOf : ℕ → List ℕ → Type 0
BehindOf at bytes = (packets : List (List ℕ)) × (ending : CaptureEnding) × Behind at bytes packets ending

by_front : (at : ℕ) (bytes : List ℕ) (f : Front) → at ≤ most_bytes → BytesBegin (take (most_bytes - at) bytes) f
    → ((n : ℕ) → BytesBegin bytes (Packet n) → at + n ≤ most_bytes → BehindOf (at + n) (drop n bytes)) → BehindOf at bytes
by_front at bytes (Wrong field) most front rest =
    ([], Fault (record { at = at; field = field }), last_one at bytes (Fault (record { at = at; field = field })) most (refl, inl front))
by_front at bytes (Cut field) most front rest =
    let ending = cut_end at bytes field most front in
    ([], ending.0, last_one at bytes ending.0 most ending.1)
by_front at bytes (Packet n) most front rest =
    let packet = packet_in_front bytes (most_bytes - at) n front in
    let few = packet_size (take (most_bytes - at) bytes) n front in
    let more = rest n packet (omega (arith, most, few.2, length-take (most_bytes - at) bytes)) in
    (take n bytes ∷ more.0, more.1, one_more at n bytes more.0 more.1 packet more.2)

-- by induction on a bound of their number
some_behind : (fuel at : ℕ) (bytes : List ℕ) → length bytes ≤ fuel → at ≤ most_bytes → BehindOf at bytes
some_behind zero at bytes few most =
    let some = some_front (take (most_bytes - at) bytes) in
    by_front at bytes some.0 most some.1 (λ n packet within. let size = packet_size bytes n packet in absurd (omega (arith, size.0, size.2, few)))
some_behind (suc fuel) at bytes few most =
    let some = some_front (take (most_bytes - at) bytes) in
    by_front at bytes some.0 most some.1 (λ n packet within. let size = packet_size bytes n packet in some_behind fuel (at + n) (drop n bytes) (omega (arith, size.0, size.2, few, length-drop n bytes)) within)

pub read_some_way : ReadSomeWay
read_some_way bytes =
    let some = some_behind (length bytes) 0 bytes (omega arith) (omega arith) in
    let b = some.2 in
    let P : ℕ → Type 0 = λ n. EndsWith n (length (concat some.0)) b.rest some.1 in
    let Q : ℕ → Type 0 = λ n. EndsWith (0 + length bytes) n b.rest some.1 in
    (some.0, some.1, record { whole = b.whole; few = omega (arith, b.few); rest = b.rest; is = b.is; ends = subst P (omega arith) (subst Q (omega arith) b.ends) })
