-- The packets of a unit.
use Rattle.std.proofs.Common.{◌≡◌, ℕ, ◌+◌, ◌-◌, ◌*◌, ◌==◌, nat_le, List, length, take, drop, ap, subst, ◌∙◌, arith, length-drop}
use Rattle.std.proofs.lemmas.Bool.Decides.{nat_tests}
use Rattle.std.proofs.lemmas.List.{take_rest}
use Rattle.drm_data.specs.PacketFields.{PacketFields}
use Rattle.drm_data.specs.Units.{unit_packet}
use Rattle.drm_data.specs.Writing.{IsWrittenPacket}

fits_test : (l n d : ℕ) → nat_le (l - n) d ≡ nat_le l (n + d)
fits_test l n d = grind (arith, nat_tests)

-- what is left of a unit at packet k
abbrev left : ℕ → List ℕ → ℕ → List ℕ
left d unit k = take (length unit - k * d) (drop (k * d) unit)

-- the last packet is the one behind which no byte is left
as_unit_packet : (id d continuity : ℕ) (unit : List ℕ) (k : ℕ)
    → record { first = k == 0; last = nat_le (length (left d unit k)) d; id = id; continuity = continuity; useful = take d (left d unit k) }
    ≡ unit_packet id d continuity unit k
as_unit_packet id d continuity unit k =
    let rest : left d unit k ≡ drop (k * d) unit = take_rest unit (k * d) in
    ap (λ l. record { first = k == 0; last = nat_le (length l) d; id = id; continuity = continuity; useful = take d l }) rest
    ∙ ap (λ b. record { first = k == 0; last = b; id = id; continuity = continuity; useful = take d (drop (k * d) unit) })
    (ap (λ n. nat_le n d) (length-drop (k * d) unit) ∙ fits_test (length unit) (k * d) d)

-- what was written is a packet of the unit
pub written_as : (id d continuity : ℕ) (unit : List ℕ) (k n : ℕ) (useful bytes : List ℕ) → n ≡ d → useful ≡ take n (left n unit k)
    → IsWrittenPacket n (record { first = k == 0; last = nat_le (length (left n unit k)) n; id = id; continuity = continuity; useful = useful }) bytes
    → IsWrittenPacket d (unit_packet id d continuity unit k) bytes
written_as id d continuity unit k n useful bytes same is written =
    let P : List ℕ → Type 0 = λ l.
    IsWrittenPacket n (record { first = k == 0; last = nat_le (length (left n unit k)) n; id = id; continuity = continuity; useful = l }) bytes in
    let Q : PacketFields → Type 0 = λ p. IsWrittenPacket n p bytes in
    let R : ℕ → Type 0 = λ m. IsWrittenPacket m (unit_packet id m continuity unit k) bytes in
    subst R same (subst Q (as_unit_packet id n continuity unit k) (subst P is written))
