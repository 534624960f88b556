-- What items become, one after another.
use Rattle.std.proofs.Common.{◌≡◌, ℕ, Bool, true, false, List, [], ◌∷◌, ◌++◌, sym, subst, ap, ◌∙◌, refl, arith, length-append, ◌&&◌, unwrap_or}
use Rattle.std.proofs.Math.Bool.{and-true, and_assoc}
use Rattle.std.proofs.lemmas.List.{append-nil}
use Rattle.std.proofs.lemmas.List.Concat.{flat_map-append}
use Rattle.std.proofs.lemmas.List.Folds.{list_all-append}
use Rattle.recv_reading.proofs.Common.{Known, Output, OutputsText, IsPrefix, IsPrefixBehind, CollectorState, CollectorItem, Packet, Lost, Damaged, IsItem}
use Rattle.recv_reading.proofs.Common.{MayBeFirst, KnowsFirst, KeepsFirst}
use Rattle.drm_links.specs.Known.{HasFailed}
use Rattle.drm_links.proofs.KnownLemmas.{OutputsText-nothing, OutputsText-weaker, once_then}
use Rattle.drm_links.proofs.WritingLemmas.{text_then, front_more, front_then, front_of_both}
use Rattle.dcp_pft.specs.declared.carry.Carry.{Carry}
use Rattle.cmd_convert.specs.declared.naming.Progress.{Progress}
use Rattle.cmd_convert.specs.Converting.{ItemOutput, ConvertsItem, ConvertsAll, text_of, lines_of}
use Rattle.cmd_convert.specs.Naming.{NamesItems}
use Rattle.cmd_convert.specs.Steps.{ItemConverted, ItemWriteFails, has_none}
use Rattle.cmd_convert.specs.Converted.{ConvertedAll, are_clean}
use Rattle.recv_reading.proofs.First.{packet_first}
use Rattle.cmd_convert.proofs.ItemLemmas.{names_none}

-- ---- names

-- all parts, where a front of the last one was written
pub front_of_all : (parts : List ItemOutput) (part : ItemOutput) (t : List ℕ) → IsPrefixBehind (text_of parts) part.out t → IsPrefix (text_of (parts ++ part ∷ [])) t
front_of_all parts part t behind = subst (λ l. IsPrefix l t) (sym one_more) (front_of_both (text_of parts) part.out t behind)
  where
    one_more : text_of (parts ++ part ∷ []) ≡ text_of parts ++ part.out
    one_more = flat_map-append (λ (p : ItemOutput). p.out) parts (part ∷ []) ∙ ap (λ l. text_of parts ++ l) (append-nil part.out)

pub no_lines_before : (parts : List ItemOutput) (part : ItemOutput) → lines_of (parts ++ part ∷ []) ≡ [] → lines_of parts ≡ []
no_lines_before parts part none = empty_before (lines_of parts) (lines_of (part ∷ [])) (sym (flat_map-append (λ (p : ItemOutput). p.line) parts (part ∷ [])) ∙ none)
  where
    empty_before : (xs ys : List ℕ) → xs ++ ys ≡ [] → xs ≡ []
    empty_before [] ys e = refl
    empty_before (x ∷ xs) ys e = absurd (cc)

-- nothing more after a failed call
names_stop : (err_ok err_ok' : Bool) (a b c : Known Output) (x y : List ℕ) → err_ok' ≡ false → NamesItems err_ok err_ok' a b x → c ≡ b → NamesItems err_ok false a c (x ++ y)
names_stop err_ok err_ok' a b c x y lost first none_more =
    let P : Known Output → Type 0 = λ k. OutputsText a k (IsPrefix (x ++ y)) in
    let R : Known Output → Type 0 = λ k. HasFailed a k in
    record {
      held = λ v. absurd (let clash : false ≡ true = v in cc);
      whole = λ v. absurd (let clash : false ≡ true = v in cc);
      front = subst P (sym none_more) (OutputsText-weaker (IsPrefix x) (IsPrefix (x ++ y)) a b first.front (λ t. front_more x y t));
      still = λ none. none_more ∙ first.still none;
      same = λ v. absurd (let clash : false ≡ true = v in cc);
      once = λ v none. subst R (sym none_more) (first.once v lost);
    }

names_on : (err_ok err_ok' last : Bool) (a b c : Known Output) (x y : List ℕ) → err_ok' ≡ true → NamesItems err_ok err_ok' a b x → NamesItems err_ok' last b c y → NamesItems err_ok last a c (x ++ y)
names_on err_ok err_ok' last a b c x y held first second = record {
  held = λ is. first.held held;
  whole = λ is. text_then x y a b c (first.whole held) (second.whole is);
  front = front_then x y a b c (first.whole held) second.front;
  still = λ none. let clash : true ≡ false = sym (first.held held) ∙ none in absurd cc;
  same = λ is. second.same is ∙ first.same held;
  once = λ is none. once_then (first.same held) (second.once held none);
}

pub names_then : (err_ok err_ok' last : Bool) (a b c : Known Output) (x y : List ℕ) → NamesItems err_ok err_ok' a b x → NamesItems err_ok' last b c y → NamesItems err_ok last a c (x ++ y)
names_then err_ok true last a b c x y first second = names_on err_ok true last a b c x y refl first second
names_then err_ok false true a b c x y first second = absurd (let clash : false ≡ true = second.held refl in cc)
names_then err_ok false false a b c x y first second = names_stop err_ok false a b c x y refl first (second.still refl)

-- ---- parts

pub all_join : (carry : Carry) (first : ℕ) (items more : List CollectorItem) (parts others : List ItemOutput) → ConvertsAll carry first items parts → ConvertsAll carry first more others → ConvertsAll carry first (items ++ more) (parts ++ others)
all_join carry first [] more [] others a b = b
all_join carry first [] more (part ∷ parts) others a b = absurd a
all_join carry first (item ∷ items) more [] others a b = absurd a
all_join carry first (item ∷ items) more (part ∷ parts) others a b = (a.0, all_join carry first items more parts others a.1 b)

pub text_join : (xs ys : List ItemOutput) → text_of (xs ++ ys) ≡ text_of xs ++ text_of ys
text_join xs ys = flat_map-append (λ (part : ItemOutput). part.out) xs ys

pub lines_join : (xs ys : List ItemOutput) → lines_of (xs ++ ys) ≡ lines_of xs ++ lines_of ys
lines_join xs ys = flat_map-append (λ (part : ItemOutput). part.line) xs ys

pub clean_join : (xs ys : List ItemOutput) → are_clean (xs ++ ys) ≡ (are_clean xs && are_clean ys)
clean_join xs ys = list_all-append (λ (part : ItemOutput). has_none part.line) xs ys

-- nothing was converted yet
pub all_none : (carry : Carry) (c : CollectorState) (p : Progress) (out err : Known Output) → ConvertedAll carry c [] p p out out err err
all_none carry c p out err = record {
  parts = [];
  converts = λ first may. tt;
  given = omega arith;
  clean = sym (and-true p.clean);
  text = OutputsText-nothing out (λ t. t ≡ []) refl;
  names = names_none p.err_ok err;
}

-- two stretches; what may be the first number of the later state may be that of the earlier one
pub all_then : (carry : Carry) (c d : CollectorState) (items more : List CollectorItem) (p q r : Progress) (a b o x y z : Known Output) → ((first : ℕ) → MayBeFirst d first → MayBeFirst c first)
    → ConvertedAll carry c items p q a b x y → ConvertedAll carry d more q r b o y z → ConvertedAll carry d (items ++ more) p r a o x z
all_then carry c d items more p q r a b o x y z may first second =
    let P : List ℕ → Type 0 = λ l. OutputsText a o (λ t. t ≡ l) in
    let Q : List ℕ → Type 0 = λ l. NamesItems p.err_ok r.err_ok x z l in
    record {
      parts = first.parts ++ second.parts;
      converts = λ f is. all_join carry f items more first.parts second.parts (first.converts f (may f is)) (second.converts f is);
      given = omega (arith, first.given, second.given, length-append items more);
      clean = second.clean ∙ (ap (λ v. v && are_clean second.parts) first.clean ∙ (and_assoc p.clean (are_clean first.parts) (are_clean second.parts) ∙ ap (λ v. p.clean && v) (sym (clean_join first.parts second.parts))));
      text = subst P (sym (text_join first.parts second.parts)) (text_then (text_of first.parts) (text_of second.parts) a b o first.text second.text);
      names = subst Q (sym (lines_join first.parts second.parts)) (names_then p.err_ok q.err_ok r.err_ok x y z (lines_of first.parts) (lines_of second.parts) first.names second.names);
    }

-- ---- the first number

pub converts_at : (carry : Carry) (d : CollectorState) (item : CollectorItem) (part : ItemOutput) (first : ℕ) → KnowsFirst d → IsItem d item → MayBeFirst d first → ConvertsItem carry (unwrap_or d.first 0) item part → ConvertsItem carry first item part
converts_at carry d (Packet q bytes) part first knows is may converts =
    subst (λ (n : ℕ). ConvertsItem carry n (Packet q bytes) part) (packet_first d q bytes first knows is may) converts
converts_at carry d (Lost q had total) part first knows is may converts = converts
converts_at carry d (Damaged q) part first knows is may converts = converts

-- one item
pub all_one : (carry : Carry) (d : CollectorState) (item : CollectorItem) (p q : Progress) (a b x y : Known Output) → KnowsFirst d → IsItem d item → ItemConverted carry (unwrap_or d.first 0) item p q a b x y → ConvertedAll carry d (item ∷ []) p q a b x y
all_one carry d item p q a b x y knows is one =
    let P : List ℕ → Type 0 = λ l. OutputsText a b (λ t. t ≡ l) in
    let Q : List ℕ → Type 0 = λ l. NamesItems p.err_ok q.err_ok x y l in
    record {
      parts = one.part ∷ [];
      converts = λ first may. (converts_at carry d item one.part first knows is may one.converts, tt);
      given = one.given;
      clean = one.clean ∙ ap (λ v. p.clean && v) (sym (and-true (has_none one.part.line)));
      text = subst P (sym (append-nil one.part.out)) one.text;
      names = subst Q (sym (append-nil one.part.line)) one.names;
    }

pub failing_at : (carry : Carry) (d : CollectorState) (item : CollectorItem) (first : ℕ) (a b : Known Output) → KnowsFirst d → IsItem d item → MayBeFirst d first → ItemWriteFails carry (unwrap_or d.first 0) item a b → ItemWriteFails carry first item a b
failing_at carry d item first a b knows is may f =
    record { part = f.part; converts = converts_at carry d item f.part first knows is may f.converts; none = f.none; text = f.text }

-- ---- at another state

-- what may be the first number of the later state may be that of the earlier one
pub all_later : (carry : Carry) (c d : CollectorState) (items : List CollectorItem) (p q : Progress) (a b x y : Known Output) → KeepsFirst c d → ConvertedAll carry c items p q a b x y → ConvertedAll carry d items p q a b x y
all_later carry c d items p q a b x y keeps all =
    record {
      parts = all.parts;
      converts = λ first may. all.converts first (keeps first may);
      given = all.given;
      clean = all.clean;
      text = all.text;
      names = all.names;
    }
