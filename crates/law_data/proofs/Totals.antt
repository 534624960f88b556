-- Bytes have a check value, packets have a spelling, and bytes are a packet or refused.
use Rattle.std.proofs.Common.{◌≡◌, ℕ, ◌+◌, ◌-◌, ◌≤◌, ◌<◌, ◌^◌, inl, inr, Bool, true, false, List, [], ◌∷◌, ◌++◌, length, replicate, refl, sym, ap, subst, ◌∙◌, arith, length-append}
use Rattle.std.proofs.lemmas.Bool.{cases_eq, cases_Bool, cases_lt, lt-ltb, le-ltb}
use Rattle.std.proofs.lemmas.List.{length-map, length-replicate}
use Rattle.std.specs.Prelude.{not, if◌then◌else◌}
use Rattle.std.specs.Int.{w16, to_be_bytes}
use Rattle.drm_bits.specs.Bits.{digits, bits_of, value, IsBytes}
use Rattle.drm_bits.specs.Crc.{IsCheck, IsCheckOf, complement}
use Rattle.drm_bits.proofs.BitsLemmas.{length-digits, value-below}
use Rattle.drm_bits.proofs.DigitsLemmas.{digits-value}
use Rattle.drm_bits.proofs.Registers.{run, length-run}
use Rattle.drm_bits.proofs.Checks.{check-start, check-more, crc16_low}
use Rattle.drm_data.specs.declared.fault.DataFault.TheVariants.{Length, Crc, Useful}
use Rattle.drm_data.specs.PacketFields.{PacketFields, front, data_field}
use Rattle.drm_data.specs.Faults.{checked_bytes, check_value, says_padded, said_count, HasCheck}
use Rattle.drm_data.specs.Joining.{JoinerEvent, Received, Broken, ReadsDataPacket}
use Rattle.drm_data.specs.Writing.{IsWrittenPacket, FitsDataPacket}
use Rattle.drm_data.proofs.Joinings.{one_event}
use Rattle.drm_data.proofs.Spellings.{packet_at, found_at}
use Rattle.law_data.specs.Laws.{WrittenUnitsAreRead}

-- the register of sixteen bits behind these bytes
abbrev low : List Bool
low = digits 16 4129

abbrev register : List ℕ → List Bool
register bytes = run low (replicate (length low) true) (bits_of bytes)

-- bytes have a check value
pub some_check : (bytes : List ℕ) → (check : ℕ) × IsCheckOf bytes check
some_check bytes =
    let start : IsCheck (true ∷ low) [] (complement (replicate (length low) true)) = check-start low (replicate (length low) true) refl in
    let wide : length low ≡ 16 = length-digits 16 4129 in
    let all : IsCheck (true ∷ low) (bits_of bytes) (complement (register bytes)) =
    check-more low [] (bits_of bytes) (replicate (length low) true) (register bytes) (omega (arith, wide)) refl start in
    let size : length (complement (register bytes)) ≡ 16 =
    length-map (register bytes) not ∙ (length-run low (replicate (length low) true) (bits_of bytes) (length-replicate (length low) true) ∙ wide) in
    let check : ℕ = value (complement (register bytes)) in
    let narrow : check < 2 ^ 16 = subst (λ (n : ℕ). check < 2 ^ n) size (value-below (complement (register bytes))) in
    let is : digits 16 check ≡ complement (register bytes) = digits-value 16 (complement (register bytes)) size in (
      check,
      record {
        narrow = narrow;
        is = subst (λ (g : List Bool). IsCheck g (bits_of bytes) (digits 16 check)) (sym crc16_low) (subst (IsCheck (true ∷ low) (bits_of bytes)) (sym is) all);
      },
    )

-- a packet whose fields fit has a spelling with zeros in what isn't read
field_size : (d : ℕ) (useful : List ℕ) → length useful ≤ d → length (data_field d useful (replicate (d - 1 - length useful) 0)) ≡ d
field_size d useful few =
    elim (cases_lt (length useful) d) [
      | inl below ↦
          let is : data_field d useful (replicate (d - 1 - length useful) 0) ≡ length useful ∷ useful ++ replicate (d - 1 - length useful) 0 =
          ap (λ b. if b then length useful ∷ useful ++ replicate (d - 1 - length useful) 0 else useful) (lt-ltb (length useful) d below) in
          omega (arith, ap length is, length-append useful (replicate (d - 1 - length useful) 0), length-replicate {A = ℕ} (d - 1 - length useful) 0, below)
      | inr full ↦
          let is : data_field d useful (replicate (d - 1 - length useful) 0) ≡ useful =
          ap (λ b. if b then length useful ∷ useful ++ replicate (d - 1 - length useful) 0 else useful) (le-ltb (length useful) d full) in
          omega (arith, ap length is, full, few)
    ]

pub some_written : (d : ℕ) (p : PacketFields) → FitsDataPacket d p → (bytes : List ℕ) × IsWrittenPacket d p bytes
some_written d p fits =
    let rest : List ℕ = replicate (d - 1 - length p.useful) 0 in
    let (check, is) = some_check (front d p rest) in
    (front d p rest ++ to_be_bytes w16 check, (check, record { id = fits.id; continuity = fits.continuity; size = field_size d p.useful fits.useful; spelled = refl; checked = is }))

-- bytes are a packet, or are refused
checked_event : (d : ℕ) (bytes : List ℕ) → 1 ≤ d → IsBytes bytes → HasCheck d bytes → (event : JoinerEvent) × ReadsDataPacket d bytes event
checked_event d bytes some fits is =
    elim (cases_Bool (says_padded bytes)) [
      | inl padded ↦
          elim (cases_lt (said_count bytes) d) [
            | inl few ↦ (Received (packet_at bytes), found_at d bytes some fits is (λ h. few))
            | inr many ↦ (Broken (Useful (said_count bytes)), (is, padded, refl, many))
          ]
      | inr whole ↦ (Received (packet_at bytes), found_at d bytes some fits is (λ h. absurd (let clash : true ≡ false = sym h ∙ whole in cc)))
    ]

pub some_event : (d : ℕ) (bytes : List ℕ) → 1 ≤ d → IsBytes bytes → (event : JoinerEvent) × ReadsDataPacket d bytes event
some_event d bytes some fits =
    elim (cases_eq (length bytes) (d + 3)) [
      | inl long ↦
          let (computed, is) = some_check (checked_bytes bytes) in
          elim (cases_eq (check_value bytes) computed) [
            | inl right ↦ checked_event d bytes some fits (long, subst (IsCheckOf (checked_bytes bytes)) (sym right) is)
            | inr wrong ↦ (Broken (Crc (check_value bytes) computed), (long, refl, is, wrong))
          ]
      | inr other ↦ (Broken (Length (length bytes)), (refl, other))
    ]

pub written_is_read : WrittenUnitsAreRead
written_is_read d p bytes event (check, written) =
    let reads : ReadsDataPacket d bytes (Received p) = (replicate (d - 1 - length p.useful) 0, check, written) in
    (λ other. one_event d bytes event (Received p) other reads, λ is. subst (ReadsDataPacket d bytes) (sym is) reads)
