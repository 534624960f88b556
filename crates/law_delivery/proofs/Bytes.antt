-- What the datagrams of packets carry is bytes.
use Rattle.std.proofs.Common.{ℕ, zero, suc, ◌≡◌, inl, inr, ◌+◌, ◌-◌, ◌*◌, List, [], ◌++◌, length, take, drop, replicate, Option, Some, None, refl, sym, subst, arith}
use Rattle.std.proofs.lemmas.Bool.{cases_lt}
use Rattle.std.proofs.lemmas.List.{get_or_past, take-append-drop}
use Rattle.std.proofs.lemmas.List.FromFn.{length-map-range_with_len, get_or-map-range_with_len}
use Rattle.drm_bits.specs.Bits.{IsBytes}
use Rattle.rs_erase.specs.Code.{AreElements, word_of}
use Rattle.rs_erase.proofs.CodeWords.{code_word_elements}
use Rattle.rs_erase.proofs.Elements.{zeros_elements}
use Rattle.dcp_pft.specs.declared.shape.Rs.{Rs}
use Rattle.dcp_pft.specs.declared.shape.Shape.{Shape}
use Rattle.dcp_pft.specs.Coding.{AreParities, IsParityOf, byte_or_zero, coded, every, filled, payload_of}
use Rattle.dcp_pft.proofs.Fragments.{with_rs, chunks_by, parities_with}
use Rattle.dcp_pft.proofs.Written.{IsBytes-append}
use Rattle.dcp_pft.specs.declared.carry.Carry.{Carry}
use Rattle.dcp_pft.specs.declared.carry.Carry.TheVariants.{Plain, Pft}
use Rattle.law_collect.proofs.Sent.{IsPayload}
use Rattle.drm_server.proofs.ByteLemmas.{bytes_take, bytes_drop, bytes_behind}

bytes_of : (xs : List ℕ) → AreElements xs → IsBytes xs
bytes_of xs elements k =
    elim (cases_lt k (length xs)) [
      | inl within ↦ elements k 0 within
      | inr past ↦ omega (arith, get_or_past xs k 0 past)
    ]

no_bytes : IsBytes []
no_bytes k = omega arith

-- the parity of chunks is bytes
parities_bytes : (c k : ℕ) (chunks parities : List ℕ) → AreParities c k chunks parities → IsBytes parities
parities_bytes zero k chunks parities are = subst IsBytes (sym are) no_bytes
parities_bytes (suc c) k chunks parities are =
    let chunk : List ℕ = take k chunks in
    let first : IsBytes (take 48 parities) =
    bytes_behind (chunk ++ replicate (207 - length chunk) 0) (take 48 parities) (bytes_of (word_of chunk (take 48 parities)) (code_word_elements (word_of chunk (take 48 parities)) are.0)) in
    subst IsBytes (take-append-drop 48 parities)
    (IsBytes-append (take 48 parities) (drop 48 parities) first (parities_bytes c k (drop k chunks) (drop 48 parities) are.1))

coded_bytes : (c k : ℕ) (chunks parities : List ℕ) → IsBytes chunks → IsBytes parities → IsBytes (coded c k chunks parities)
coded_bytes zero k chunks parities here there = no_bytes
coded_bytes (suc c) k chunks parities here there =
    IsBytes-append (take k chunks ++ take 48 parities) (coded c k (drop k chunks) (drop 48 parities))
    (IsBytes-append (take k chunks) (take 48 parities) (bytes_take k chunks here) (bytes_take 48 parities there))
    (coded_bytes c k (drop k chunks) (drop 48 parities) (bytes_drop k chunks here) (bytes_drop 48 parities there))

every_bytes : (count first piece : ℕ) (bytes : List ℕ) → IsBytes bytes → IsBytes (every count first piece bytes)
every_bytes count first piece bytes are k =
    let f : ℕ → ℕ = λ j. byte_or_zero bytes (j * count + first) in
    elim (cases_lt k piece) [
      | inl within ↦ omega (arith, get_or-map-range_with_len f 0 piece k k 0 within (omega arith), are (k * count + first))
      | inr past ↦ omega (arith, get_or_past (every count first piece bytes) k 0 (omega (arith, past, length-map-range_with_len f 0 piece)))
    ]

fragment_bytes : (shape : Shape) (packet parity : List ℕ) (i : ℕ) → IsBytes packet → IsParityOf shape packet parity → IsBytes (payload_of shape packet parity i)
fragment_bytes shape packet parity i are is_parity = by shape.rs refl
  where
    by : (o : Option Rs) → shape.rs ≡ o → IsBytes (payload_of (with_rs shape o) packet parity i)
    by None is = bytes_take shape.piece (drop (i * shape.piece) packet) (bytes_drop (i * shape.piece) packet are)
    by (Some rs) is =
        let parities = parities_with shape rs packet parity is is_parity in
        let chunks : IsBytes (filled rs packet) = IsBytes-append packet (replicate rs.z 0) are (bytes_of (replicate rs.z 0) (zeros_elements rs.z)) in
        every_bytes shape.count i shape.piece (coded (chunks_by shape rs) rs.k (filled rs packet) parity)
        (coded_bytes (chunks_by shape rs) rs.k (filled rs packet) parity chunks (parities_bytes (chunks_by shape rs) rs.k (filled rs packet) parity parities))

-- what a datagram of a packet carries is bytes
pub carried_bytes : (carry : Carry) (packet payload : List ℕ) (i : ℕ) → IsBytes packet → IsPayload carry packet i payload → IsBytes payload
carried_bytes Plain packet payload i are is = subst IsBytes (sym is) are
carried_bytes (Pft m mtu) packet payload i are (parity, is_parity, is) = subst IsBytes (sym is) (fragment_bytes _ packet parity i are is_parity)
