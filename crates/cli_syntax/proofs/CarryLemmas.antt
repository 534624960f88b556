-- The way of carrying that is read is the one that the text spells.
use Rattle.std.proofs.Common.{◌≡◌, ℕ, Bool, true, false, cond, List, ◌∷◌, ◌++◌, Some, None, refl, ap, sym, ◌∙◌, subst, arith}
use Rattle.std.specs.Prelude.{codes, option_and_then}
use Rattle.std.specs.Str.{bytes_eq}
use Rattle.std.proofs.lemmas.Option.{same_Some}
use Rattle.std.proofs.lemmas.Slice.Eq.{bytes_eq-Decides}
use Rattle.dcp_pft.specs.declared.carry.Carry.{Carry}
use Rattle.dcp_pft.specs.declared.carry.Carry.TheVariants.{Plain, Pft}
use Rattle.cli_syntax.specs.Carries.{IsCarry}
use Rattle.cli_syntax.specs.Reading.{within}
use Rattle.cli_syntax.specs.Addressing.{cut, pft_of, pft_after, carry_of}
use Rattle.cli_syntax.proofs.OptionLemmas.{stepped}
use Rattle.cli_syntax.proofs.NumberLemmas.{within_fits, within_is}
use Rattle.cli_syntax.proofs.CutLemmas.{Lacks, cut-at, cut_is}
use Rattle.cli_syntax.proofs.AddressLemmas.{number_lacks}

pft_fits : (text rest : List ℕ) (carry : Carry) → text ≡ codes "pft" ++ 58 ∷ rest → pft_of rest ≡ Some carry → IsCarry text carry
unfolding pft_of
pft_fits text rest carry whole e =
    let parts = stepped (cut 58 rest) _ carry e in
    let m = stepped (within 0 5 parts.value.0) _ carry parts.rest in
    let mtu = stepped (within 128 1500 parts.value.1) _ carry m.rest in
    let c = cut_is 58 rest parts.value.0 parts.value.1 parts.is in
    subst (λ (x : Carry). IsCarry text x) (same_Some (Pft m.value mtu.value) carry mtu.rest) (record {
      first = parts.value.0;
      second = parts.value.1;
      spelled = whole ∙ ap (λ (r : List ℕ). codes "pft" ++ 58 ∷ r) c.whole;
      m_is = within_fits 0 5 _ _ m.is;
      mtu_is = within_fits 128 1500 _ _ mtu.is;
    })

after_fits : (text kind rest : List ℕ) (carry : Carry) (t : Bool) → t ≡ bytes_eq kind (codes "pft") → text ≡ kind ++ 58 ∷ rest → cond t (pft_of rest) None ≡ Some carry → IsCarry text carry
after_fits text kind rest carry false is whole e = absurd cc
after_fits text kind rest carry true is whole e =
    let same : kind ≡ codes "pft" = (bytes_eq-Decides kind (codes "pft")).0 (sym is) in
    pft_fits text rest carry (whole ∙ ap (λ (k : List ℕ). k ++ 58 ∷ rest) same) e

pub carry_fits : (text : List ℕ) (carry : Carry) → carry_of text ≡ Some carry → IsCarry text carry
unfolding carry_of
carry_fits text carry e = by_test (bytes_eq text (codes "plain")) refl e
  where
    by_test : (t : Bool) → t ≡ bytes_eq text (codes "plain") → cond t (Some Plain) (option_and_then pft_after (cut 58 text)) ≡ Some carry → IsCarry text carry
    by_test true is e = subst (λ (x : Carry). IsCarry text x) (same_Some Plain carry e) ((bytes_eq-Decides text (codes "plain")).0 (sym is))
    by_test false is e =
        let parts = stepped (cut 58 text) pft_after carry e in
        let c = cut_is 58 text parts.value.0 parts.value.1 parts.is in
        after_fits text parts.value.0 parts.value.1 carry (bytes_eq parts.value.0 (codes "pft")) refl c.whole parts.rest

lacks_colon : Lacks 58 (codes "pft")
lacks_colon = (λ e. absurd (omega arith), (λ e. absurd (omega arith), (λ e. absurd (omega arith), tt)))

pft_is : (m mtu : ℕ) (first second : List ℕ) → Lacks 58 first → within 0 5 first ≡ Some m → within 128 1500 second ≡ Some mtu → pft_of (first ++ 58 ∷ second) ≡ Some (Pft m mtu)
unfolding pft_of
pft_is m mtu first second lacks e f = rw (cut-at 58 first second lacks, e, f) refl

pub carry_is : (text : List ℕ) (carry : Carry) → IsCarry text carry → carry_of text ≡ Some carry
unfolding carry_of
carry_is text Plain h = rw h refl
carry_is text (Pft m mtu) h =
    let c = cut-at 58 (codes "pft") (h.first ++ 58 ∷ h.second) lacks_colon in
    let p = pft_is m mtu h.first h.second (number_lacks 58 0 5 refl h.first m h.m_is) (within_is 0 5 h.first m h.m_is) (within_is 128 1500 h.second mtu h.mtu_is) in
    rw (h.spelled, c) p
