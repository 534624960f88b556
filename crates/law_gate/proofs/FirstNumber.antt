-- The sequence number that a collector counts from, after some of a delivery.
use Rattle.std.proofs.Common.{ℕ, ◌≡◌, ◌+◌, ◌/◌, ◌⊎◌, inl, inr, List, [], ◌∷◌, Option, None, Some, refl, sym, ap, subst, ◌∙◌, arith}
use Rattle.std.specs.Prelude.{ℤ, pos, negsuc, ◌+ℤ◌, ◌*ℤ◌, unwrap_or}
use Rattle.std.specs.List.{AllZip}
use Rattle.std.proofs.lemmas.Int.{ints}
use Rattle.dcp_pft.specs.declared.carry.Carry.{Carry}
use Rattle.dcp_collect.specs.declared.taken.Taken.{Taken}
use Rattle.dcp_collect.specs.CollectorState.{CollectorState, made}
use Rattle.dcp_collect.specs.Runs.{CollectorItem, CollectorSteps}
use Rattle.law_collect.specs.Delivery.{sequence_at, IsFirstPacket}
use Rattle.law_collect.specs.Laws.{OneReading}
use Rattle.law_collect.proofs.Sent.{BringsPair}
use Rattle.dcp_sender.specs.Packets.{sequence_of}
use Rattle.recv_reading.specs.First.{first_of}
use Rattle.recv_reading.proofs.Ways.{gives_first}
use Rattle.law_convert.proofs.Firsts.{first_steps, first_from_pair}

-- the base has this sequence number
abbrev pub IsSequenceOfFirst : ℕ → ℤ → ℕ → Type 0
IsSequenceOfFirst sequence0 first_frame first = (k : ℤ) × ((pos sequence0 +ℤ first_frame) ≡ (pos first +ℤ (k *ℤ pos 65536)))

at_first : (sequence0 p : ℕ) (first_frame : ℤ) → first_frame ≡ pos p → IsSequenceOfFirst sequence0 first_frame (sequence_at sequence0 p)
at_first sequence0 p first_frame is = (pos ((sequence0 + p) / 65536), omega (arith, ints, is))

known_as : (sequence0 : ℕ) (first_frame : ℤ) (mid : CollectorState) (f : ℕ) → mid.first ≡ Some f → IsSequenceOfFirst sequence0 first_frame f → IsSequenceOfFirst sequence0 first_frame (first_of mid)
known_as sequence0 first_frame mid f is at = subst (λ (n : ℕ). IsSequenceOfFirst sequence0 first_frame n) (sym (ap (λ (o : Option ℕ). unwrap_or o 0) is)) at

-- It has that of the base, where anything of the delivery came, or it was told one.
pub first_known : OneReading → (carry : Carry) (sequence0 window reach : ℕ) (packets : List (List ℕ)) (first : Option ℕ) (first_frame : ℤ) (pairs : List (ℕ × ℕ)) (datagrams : List (List ℕ)) (answers : List Taken) (given : List CollectorItem)
    (mid : CollectorState) → AllZip (BringsPair carry sequence0 packets) pairs datagrams → IsFirstPacket sequence0 first pairs first_frame → CollectorSteps (made window reach first) datagrams answers given mid
    → (pairs ≡ []) ⊎ IsSequenceOfFirst sequence0 first_frame (first_of mid)
first_known one_reading carry sequence0 window reach packets (Some f) first_frame pairs datagrams answers given mid brings is_first steps =
    inr (known_as sequence0 first_frame mid f (first_steps (made window reach (Some f)) mid datagrams answers given f steps refl) is_first)
first_known one_reading carry sequence0 window reach packets None first_frame [] datagrams answers given mid brings is_first steps = inl refl
first_known one_reading carry sequence0 window reach packets None first_frame (pair ∷ pairs) [] answers given mid brings is_first steps = absurd brings
first_known one_reading carry sequence0 window reach packets None first_frame (pair ∷ pairs) (datagram ∷ datagrams) [] given mid brings is_first steps = absurd steps
first_known one_reading carry sequence0 window reach packets None first_frame (pair ∷ pairs) (datagram ∷ datagrams) (a ∷ answers) given mid brings is_first (now, later, kept, after, takes, gives, steps, are) =
    let has_first : kept.first ≡ Some (sequence_at sequence0 pair.0) = first_from_pair one_reading carry sequence0 window reach packets pair datagram a kept brings.0 takes in
    let known = first_steps after mid datagrams answers later (sequence_at sequence0 pair.0) steps (gives_first now kept after gives ∙ has_first) in
    inr (known_as sequence0 first_frame mid (sequence_at sequence0 pair.0) known (at_first sequence0 pair.0 first_frame is_first))

-- so each number has that of its place
pub sequence_same : (sequence0 first q p : ℕ) (first_frame : ℤ) → IsSequenceOfFirst sequence0 first_frame first → (first_frame +ℤ pos q) ≡ pos p → sequence_of first q ≡ sequence_at sequence0 p
sequence_same sequence0 first q p first_frame (pos turns, same) at = omega (arith, ints, same, at)
sequence_same sequence0 first q p first_frame (negsuc turns, same) at = omega (arith, ints, same, at)
