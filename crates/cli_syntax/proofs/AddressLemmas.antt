-- The addresses that are read are those that the text spells.
use Rattle.std.proofs.Common.{◌≡◌, ◌≢◌, ◌≤◌, ℕ, suc, Bool, true, false, cond, eqb, leb, List, [], ◌∷◌, ◌++◌, length, Some, None, refl, ap, sym, ◌∙◌, subst, arith}
use Rattle.std.specs.Prelude.{option_and_then}
use Rattle.std.specs.List.{AllByRecursion, list_any, list_all}
use Rattle.std.specs.Char.{is_ascii_digit}
use Rattle.std.specs.Str.{bytes_eq}
use Rattle.std.proofs.lemmas.Bool.Decides.{nat_tests}
use Rattle.std.proofs.lemmas.Option.{same_Some, cond_some}
use Rattle.std.proofs.lemmas.Slice.Eq.{bytes_eq-Decides}
use Rattle.std.proofs.lemmas.List.Splits.{length-slice_split}
use Rattle.drm_links.specs.declared.dock.Address.{Address}
use Rattle.cli_syntax.specs.Numbers.{IsNumberWithin}
use Rattle.drm_links.specs.Dock.{AreDifferent}
use Rattle.cli_syntax.specs.Addresses.{AreWithin, IsAddress, EachIsAddress, AreAddresses}
use Rattle.cli_syntax.specs.Reading.{within}
use Rattle.cli_syntax.specs.Addressing.{cut, address_of, all_addresses, is_same, are_different, if_different, parts_of, addresses_of}
use Rattle.cli_syntax.proofs.OptionLemmas.{stepped, mapped}
use Rattle.cli_syntax.proofs.NumberLemmas.{within_fits, within_is}
use Rattle.cli_syntax.proofs.CutLemmas.{Lacks, cut-at, cut_is}

-- digits lack every other byte
digits_lack : (mark : ℕ) → is_ascii_digit mark ≡ false → (text : List ℕ) → list_all is_ascii_digit text ≡ true → Lacks mark text
digits_lack mark other [] e = tt
digits_lack mark other (b ∷ bs) e = (first, digits_lack mark other bs (grind arith))
  where
    first : b ≡ mark → ⊥
    first same =
        let is : is_ascii_digit b ≡ true = grind arith in
        let none : is_ascii_digit b ≡ false = ap is_ascii_digit same ∙ other in
        absurd cc

pub number_lacks : (mark least greatest : ℕ) → is_ascii_digit mark ≡ false → (text : List ℕ) (n : ℕ) → IsNumberWithin least greatest text n → Lacks mark text
number_lacks mark least greatest other text n h = digits_lack mark other text h.0.digits

pub address_fits : (text : List ℕ) (address : Address) → address_of text ≡ Some address → IsAddress text address
unfolding address_of
address_fits text address e =
    let first = stepped (cut 46 text) _ address e in
    let second = stepped (cut 46 first.value.1) _ address first.rest in
    let third = stepped (cut 46 second.value.1) _ address second.rest in
    let fourth = stepped (cut 58 third.value.1) _ address third.rest in
    let a = stepped (within 0 255 first.value.0) _ address fourth.rest in
    let b = stepped (within 0 255 second.value.0) _ address a.rest in
    let c = stepped (within 0 255 third.value.0) _ address b.rest in
    let d = stepped (within 0 255 fourth.value.0) _ address c.rest in
    let port = stepped (within 1 65535 fourth.value.1) _ address d.rest in
    let cut_1 = cut_is 46 text first.value.0 first.value.1 first.is in
    let cut_2 = cut_is 46 first.value.1 second.value.0 second.value.1 second.is in
    let cut_3 = cut_is 46 second.value.1 third.value.0 third.value.1 third.is in
    let cut_4 = cut_is 58 third.value.1 fourth.value.0 fourth.value.1 fourth.is in
    subst (λ (x : Address). IsAddress text x) (same_Some _ address port.rest) (record {
      a = first.value.0;
      b = second.value.0;
      c = third.value.0;
      d = fourth.value.0;
      port = fourth.value.1;
      spelled = cut_1.whole ∙ ap (λ (r : List ℕ). first.value.0 ++ 46 ∷ r) (cut_2.whole ∙ ap (λ (r : List ℕ). second.value.0 ++ 46 ∷ r) (cut_3.whole ∙ ap (λ (r : List ℕ). third.value.0 ++ 46 ∷ r) cut_4.whole));
      bytes = (within_fits 0 255 _ _ a.is, (within_fits 0 255 _ _ b.is, (within_fits 0 255 _ _ c.is, (within_fits 0 255 _ _ d.is, tt))));
      number = within_fits 1 65535 _ _ port.is;
    })

-- four numbers
record Four (a b c d ip : List ℕ) : Type 0 where
  i : ℕ
  j : ℕ
  k : ℕ
  l : ℕ
  ip_is : ip ≡ i ∷ j ∷ k ∷ l ∷ []
  first : IsNumberWithin 0 255 a i
  second : IsNumberWithin 0 255 b j
  third : IsNumberWithin 0 255 c k
  fourth : IsNumberWithin 0 255 d l

four : (a b c d ip : List ℕ) → AreWithin 0 255 (a ∷ b ∷ c ∷ d ∷ []) ip → Four a b c d ip
four a b c d [] h = absurd h
four a b c d (i ∷ []) h = absurd h.1
four a b c d (i ∷ j ∷ []) h = absurd h.1.1
four a b c d (i ∷ j ∷ k ∷ []) h = absurd h.1.1.1
four a b c d (i ∷ j ∷ k ∷ l ∷ []) h =
    record { i = i; j = j; k = k; l = l; ip_is = refl; first = h.0; second = h.1.0; third = h.1.1.0; fourth = h.1.1.1.0 }
four a b c d (i ∷ j ∷ k ∷ l ∷ m ∷ more) h = absurd h.1.1.1.1

pub address_is : (text : List ℕ) (address : Address) → IsAddress text address → address_of text ≡ Some address
unfolding address_of
address_is text address h =
    let n = four h.a h.b h.c h.d address.ip h.bytes in
    let cut_4 = cut-at 58 h.d h.port (number_lacks 58 0 255 refl h.d n.l n.fourth) in
    let cut_3 = cut-at 46 h.c (h.d ++ 58 ∷ h.port) (number_lacks 46 0 255 refl h.c n.k n.third) in
    let cut_2 = cut-at 46 h.b (h.c ++ 46 ∷ (h.d ++ 58 ∷ h.port)) (number_lacks 46 0 255 refl h.b n.j n.second) in
    let cut_1 = ap (cut 46) h.spelled ∙ cut-at 46 h.a (h.b ++ 46 ∷ (h.c ++ 46 ∷ (h.d ++ 58 ∷ h.port))) (number_lacks 46 0 255 refl h.a n.i n.first) in
    let in_a = within_is 0 255 h.a n.i n.first in
    let in_b = within_is 0 255 h.b n.j n.second in
    let in_c = within_is 0 255 h.c n.k n.third in
    let in_d = within_is 0 255 h.d n.l n.fourth in
    let in_port = within_is 1 65535 h.port address.port h.number in
    rw (cut_1, cut_2, cut_3) (rw (cut_4, in_a, in_b) (rw (in_c, in_d, in_port)
    (ap (λ (ip : List ℕ). Some (record { ip = ip; port = address.port })) (sym n.ip_is))))

pub all_fit : (texts : List (List ℕ)) (list : List Address) → all_addresses texts ≡ Some list → EachIsAddress texts list
all_fit [] [] e = tt
all_fit [] (x ∷ xs) e = absurd cc
all_fit (text ∷ texts) list e =
    let first = stepped (address_of text) _ list e in
    let others = mapped (all_addresses texts) (λ (others : List Address). first.value ∷ others) list first.rest in
    subst (λ (l : List Address). EachIsAddress (text ∷ texts) l) others.rest (address_fits text first.value first.is, all_fit texts others.value others.is)

pub all_are : (texts : List (List ℕ)) (list : List Address) → EachIsAddress texts list → all_addresses texts ≡ Some list
all_are [] [] h = refl
all_are [] (x ∷ xs) h = absurd h
all_are (text ∷ texts) [] h = absurd h
all_are (text ∷ texts) (address ∷ others) h = rw (address_is text address h.0, all_are texts others h.1) refl

as_many : (texts : List (List ℕ)) (list : List Address) → EachIsAddress texts list → length texts ≡ length list
as_many [] [] h = refl
as_many [] (x ∷ xs) h = absurd h
as_many (text ∷ texts) [] h = absurd h
as_many (text ∷ texts) (address ∷ others) h = ap suc (as_many texts others h.1)

same_is : (a b : Address) → is_same a b ≡ true → a ≡ b
same_is a b e =
    let ips : bytes_eq a.ip b.ip ≡ true = grind arith in
    let ports : a.port ≡ b.port = grind (arith, nat_tests) in
    let ip = (bytes_eq-Decides a.ip b.ip).0 ips in
    ap (λ (x : List ℕ). record { ip = x; port = a.port }) ip ∙ ap (λ (p : ℕ). record { ip = b.ip; port = p }) ports

same_itself : (a : Address) → is_same a a ≡ true
same_itself a =
    let ips : bytes_eq a.ip a.ip ≡ true = (bytes_eq-Decides a.ip a.ip).1 refl in
    let ports : eqb a.port a.port ≡ true = grind (arith, nat_tests) in
    rw (ips, ports) refl

unlike : (address : Address) (others : List Address) → list_any (λ other. is_same other address) others ≡ false → AllByRecursion (λ other. other ≢ address) others
unlike address [] e = tt
unlike address (x ∷ xs) e = (first, unlike address xs (grind arith))
  where
    first : x ≡ address → ⊥
    first same =
        let none : is_same x address ≡ false = grind arith in
        let yes : is_same x address ≡ true = ap (λ (y : Address). is_same y address) same ∙ same_itself address in
        absurd cc

unlike_is : (address : Address) (others : List Address) → AllByRecursion (λ other. other ≢ address) others → list_any (λ other. is_same other address) others ≡ false
unlike_is address [] h = refl
unlike_is address (x ∷ xs) h = rw (first (is_same x address) refl, unlike_is address xs h.1) refl
  where
    first : (b : Bool) → is_same x address ≡ b → is_same x address ≡ false
    first true e = absurd (h.0 (same_is x address e))
    first false e = e

different_fits : (list : List Address) → are_different list ≡ true → AreDifferent list
different_fits [] e = tt
different_fits (address ∷ others) e =
    let none : list_any (λ other. is_same other address) others ≡ false = grind arith in
    (unlike address others none, different_fits others (grind arith))

different_is : (list : List Address) → AreDifferent list → are_different list ≡ true
different_is [] h = refl
different_is (address ∷ others) h = rw (unlike_is address others h.0, different_is others h.1) refl

some_parts : (text : List ℕ) → 1 ≤ length (parts_of text)
some_parts text = omega (arith, length-slice_split (λ b. eqb b 44) text)

pub addresses_fit : (text : List ℕ) (list : List Address) → addresses_of text ≡ Some list → AreAddresses text list
unfolding addresses_of
addresses_fit text list e = by_test (leb (length (parts_of text)) 16) refl e
  where
    by_test : (t : Bool) → t ≡ leb (length (parts_of text)) 16 → cond t (option_and_then if_different (all_addresses (parts_of text))) None ≡ Some list → AreAddresses text list
    by_test false is e = absurd cc
    by_test true is e =
        let all = stepped (all_addresses (parts_of text)) if_different list e in
        let p = cond_some (are_different all.value) all.value list all.rest in
        let each = all_fit (parts_of text) all.value all.is in
        let many = as_many (parts_of text) all.value each in
        let few : length (parts_of text) ≤ 16 = grind (arith, nat_tests) in
        subst (λ (l : List Address). AreAddresses text l) p.1 (record { each = each; some = omega (arith, some_parts text); few = omega arith; different = different_fits all.value p.0 })

pub addresses_are : (text : List ℕ) (list : List Address) → AreAddresses text list → addresses_of text ≡ Some list
unfolding addresses_of
addresses_are text list h =
    let many = as_many (parts_of text) list h.each in
    let low : length (parts_of text) ≤ 16 = omega (arith, h.few) in
    let few : leb (length (parts_of text)) 16 ≡ true = grind (arith, nat_tests) in
    rw (few, all_are (parts_of text) list h.each, different_is list h.different) refl
