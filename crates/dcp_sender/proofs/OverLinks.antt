-- The datagrams of a packet, as its carry calls for them.
use Rattle.std.proofs.Common.{◌≡◌, ℕ, List, [], ◌∷◌, length, Option, None, Some, refl, sym, ap, subst, ◌∙◌}
use Rattle.std.specs.Prelude.{slice_index_or}
use Rattle.std.proofs.lemmas.List.{append-nil}
use Rattle.dcp_pft.specs.declared.carry.Carry.{Carry}
use Rattle.dcp_pft.specs.declared.carry.Carry.TheVariants.{Plain}
use Rattle.dcp_pft.specs.declared.shape.Shape.{Shape}
use Rattle.dcp_pft.specs.Carrying.{cut_of, datagram_count, CarriesPacket}
use Rattle.dcp_pft.proofs.Carried.{whole_count, cut_count, carries_whole, carries_cut}
use Rattle.dcp_sender.specs.CarriesText.{AreOf, CarriesText}
use Rattle.dcp_sender.specs.Sending.{IsDatagramOf, count_of, AreAll}
use Rattle.dcp_sender.proofs.Lists.{itself}

count_is : (carry : Carry) (len : ℕ) (cut : Option Shape) → cut_of carry len ≡ cut → count_of cut ≡ datagram_count carry len
count_is carry len None same = whole_count carry len same
count_is carry len (Some shape) same = cut_count carry len shape same

carried : (carry : Carry) (seq i : ℕ) (packet datagram : List ℕ) (cut : Option Shape) → cut_of carry (length packet) ≡ cut → IsDatagramOf cut seq packet i datagram → CarriesPacket carry seq packet i datagram
carried carry seq i packet datagram None same itself = subst (λ (d : List ℕ). CarriesPacket carry seq packet i d) (sym itself) (carries_whole carry seq i packet same)
carried carry seq i packet datagram (Some shape) same fragment = carries_cut carry seq i packet datagram shape same fragment

pub all_of : (carry : Carry) (seq : ℕ) (packet : List ℕ) (cut : Option Shape) (datagrams : List (List ℕ)) → cut_of carry (length packet) ≡ cut → AreAll cut seq packet datagrams → AreOf carry seq packet datagrams
all_of carry seq packet cut datagrams same are = record {
  many = are.1 ∙ count_is carry (length packet) cut same;
  each = λ i none below. carried carry seq i packet (slice_index_or datagrams i none) cut same (are.0 i none below);
}

-- a packet that is carried whole
pub whole_carried : (carry : Carry) (seq : ℕ) (packet : List ℕ) → carry ≡ Plain → CarriesText carry seq packet packet
whole_carried carry seq packet is = record {
  datagrams = packet ∷ [];
  are = all_of carry seq packet None (packet ∷ []) (ap (λ (c : Carry). cut_of c (length packet)) is) (itself seq packet, refl);
  is = sym (append-nil packet);
}
