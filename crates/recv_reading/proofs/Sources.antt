-- What comes of a capture, packet by packet.
use Rattle.std.proofs.Common.{◌≡◌, ℕ, inl, inr, Bool, List, [], ◌∷◌, ◌++◌, length, map, Result, Ok, Err, refl, sym, ◌∙◌, ap, arith}
use Rattle.std.proofs.lemmas.List.Elements.{All-nil}
use Rattle.recv_reading.proofs.Common.{Known, Answer, Datagram, Failed, End, Input, InputsBytes, HaveEnded}
use Rattle.drm_links.proofs.KnownLemmas.{InputsBytes-nothing}
use Rattle.capture_reader.specs.declared.packets.CaptureStop.{CaptureStop}
use Rattle.capture_reader.specs.declared.packets.CaptureStop.TheVariants as stops
use Rattle.capture_reader.specs.Front.{IsWhole}
use Rattle.capture_reader.specs.Capture as capture
use Rattle.capture_reader.specs.Walking.{WalkerState, new_walker}
use Rattle.capture_reader.specs.Reading.{HasRead, ReadingStops}
use Rattle.recv_reading.specs.Source.{ReadSoFar, HeardUntil}

-- nothing was read yet
pub read_none : (before : Known Input) (reader : WalkerState) → reader ≡ new_walker → ReadSoFar reader before before []
read_none before reader new =
    let held : reader.held ≡ [] = ap (λ (w : WalkerState). w.held) new in
    let at : reader.at ≡ 0 = ap (λ (w : WalkerState). w.at) new in (
      [],
      inl (
        record {
          whole = All-nil IsWhole;
          at = at;
          few = omega (arith, at, ap length held);
          room = omega (arith, ap length held);
          bytes = InputsBytes-nothing (λ left rest. left ≡ [] ++ (reader.held ++ rest)) before (λ left. ap (λ l. l ++ left) (sym held));
        },
        refl,
      ),
    )

pub not_stopped : (result : Result Bool CaptureStop) (found : Bool) → result ≡ Ok found → result ≡ Err stops.TooLong → ⊥
not_stopped result found is other = let clash : Ok found ≡ Err stops.TooLong = sym is ∙ other in cc

map_more : (packets : List (List ℕ)) (bytes : List ℕ) → map Datagram packets ++ Datagram bytes ∷ [] ≡ map Datagram (packets ++ bytes ∷ [])
map_more [] bytes = refl
map_more (p ∷ packets) bytes = ap (λ l. Datagram p ∷ l) (map_more packets bytes)

-- packets that were read, while the input hasn't ended
pub record PacketsRead (reader : WalkerState) (before after : Known Input) (answers : List Answer) : Type 0 where
  pub packets : List (List ℕ)
  pub read : HasRead packets reader before after
  pub are : answers ≡ map Datagram packets

pub packets_of : (reader : WalkerState) (before after : Known Input) (answers : List Answer) → ReadSoFar reader before after answers → (HaveEnded answers → ⊥) → PacketsRead reader before after answers
packets_of reader before after answers (packets, inl (read, are)) goes = record { packets = packets; read = read; are = are }
packets_of reader before after answers (packets, inr (ended, are)) goes = absurd (goes (map Datagram packets, are))

module _ (reader : WalkerState) (before mid : Known Input) (answers : List Answer) (p : PacketsRead reader before mid answers) where
  pub one_packet : (next : WalkerState) (after : Known Input) (bytes : List ℕ) → HasRead (p.packets ++ bytes ∷ []) next before after → ReadSoFar next before after (answers ++ Datagram bytes ∷ [])
  one_packet next after bytes read = (p.packets ++ bytes ∷ [], inl (read, ap (λ l. l ++ Datagram bytes ∷ []) p.are ∙ map_more p.packets bytes))

  pub all_packets : (next : WalkerState) (after : Known Input) → InputsBytes before after (λ left rest. capture.IsCaptureOf left p.packets capture.End) → ReadSoFar next before after (answers ++ End ∷ [])
  all_packets next after ended = (p.packets, inr (ended, ap (λ l. l ++ End ∷ []) p.are))

  pub until_here : (stop : CaptureStop) (after : Known Input) → ReadingStops p.packets stop before after → HeardUntil stop before after (answers ++ Failed ∷ [])
  until_here stop after stopped = (p.packets, p.read.whole, stopped, ap (λ l. l ++ Failed ∷ []) p.are)
