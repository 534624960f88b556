-- The request that is read of words is the one that fits them.
use Rattle.std.proofs.Common.{◌≡◌, ◌⊎◌, inl, inr, ℕ, ◌≤◌, Bool, true, false, ◌&&◌, if◌then◌else◌, nat_le, List, [], ◌∷◌, ◌++◌, length, Option, Some, None, Result, Ok, Err, refl, ap, sym, ◌∙◌, subst, codes, arith}
use Rattle.std.specs.Prelude.{◌==◌, IfOk, option_map}
use Rattle.std.specs.List.{list_all, slice_split, onto_first}
use Rattle.std.specs.Char.{is_ascii_digit}
use Rattle.std.proofs.lemmas.Option.{same_Some}
use Rattle.cli_paths.specs.declared.request.PathsRequest.{PathsRequest}
use Rattle.drm_links.specs.declared.dock.Address.{Address}
use Rattle.cli_syntax.specs.declared.fault.WordsFault.{WordsFault}
use Rattle.cli_syntax.specs.declared.fault.WordsFault.TheVariants.{Words, NoMemory}
use Rattle.cli_syntax.specs.Numbers.{IsNumber}
use Rattle.cli_syntax.specs.Reading.{within}
use Rattle.cli_syntax.specs.Addresses.{AreWithin, IsAddress, EachIsAddress, AreAddresses}
use Rattle.cli_syntax.specs.Addressing.{addresses_of}
use Rattle.cli_syntax.specs.Spelling.{Argument, IsPlain, texts, options}
use Rattle.cli_paths.specs.Uses.{Use, Idle, is_known, plain, run}
use Rattle.cli_paths.specs.CommandTexts.{CommandTexts, value_of, texts_with, texts_of, parse_of}
use Rattle.cli_paths.specs.Table.{IsNumberOr, IsNumberOrNone}
use Rattle.cli_paths.specs.Line.{IsPathsLine}
use Rattle.cli_paths.specs.Asking.{if_several, several_of, number_or, number_or_none, request_of, line_of}
use Rattle.cli_syntax.specs.Gives.{ParserGives}
use Rattle.cli_syntax.proofs.OptionLemmas.{stepped, mapped}
use Rattle.cli_syntax.proofs.NumberLemmas.{within_fits, within_is}
use Rattle.cli_syntax.proofs.AddressLemmas.{addresses_fit, addresses_are}
use Rattle.cli_paths.proofs.Fresh.{Fresh, uses_of, IsName, all_plain, value_options, are_of, one_text, text_value, known_is}
use Rattle.cli_paths.proofs.Sound.{IsSpelled, sound}
use Rattle.cli_paths.proofs.Complete.{run_is, all_known, fresh_is, apart_none, plain_values, PlainValues, Once}

-- ---- numbers that are told or not

number_or_fits : (default least greatest : ℕ) (value : Option (List ℕ)) (n : ℕ) → number_or default least greatest value ≡ Some n → IsNumberOr default least greatest value n
number_or_fits default least greatest None n e = sym (same_Some default n e)
number_or_fits default least greatest (Some text) n e = within_fits least greatest text n e

number_or_is : (default least greatest : ℕ) (value : Option (List ℕ)) (n : ℕ) → IsNumberOr default least greatest value n → number_or default least greatest value ≡ Some n
number_or_is default least greatest None n h = ap Some (sym h)
number_or_is default least greatest (Some text) n h = within_is least greatest text n h

number_or_none_fits : (least greatest : ℕ) (value : Option (List ℕ)) (n : Option ℕ) → number_or_none least greatest value ≡ Some n → IsNumberOrNone least greatest value n
number_or_none_fits least greatest None n e = sym (same_Some None n e)
number_or_none_fits least greatest (Some text) n e =
    let p = mapped (within least greatest text) Some n e in
    (p.value, sym p.rest, within_fits least greatest text p.value p.is)

number_or_none_is : (least greatest : ℕ) (value : Option (List ℕ)) (n : Option ℕ) → IsNumberOrNone least greatest value n → number_or_none least greatest value ≡ Some n
number_or_none_is least greatest None n h = ap Some (sym h)
number_or_none_is least greatest (Some text) n h = ap (option_map Some) (within_is least greatest text h.0 h.2) ∙ ap Some (sym h.1)

-- ---- two to four addresses

several_by : (list other : List Address) (some few : Bool) → nat_le 2 (length list) ≡ some → nat_le (length list) 4 ≡ few → (if some && few then Some list else None) ≡ Some other
    → (list ≡ other) × (2 ≤ length list) × (length list ≤ 4)
several_by list other true true s f e = (same_Some list other e, within 2 (length list) s, within (length list) 4 f)
  where
    within : (n m : ℕ) → nat_le n m ≡ true → n ≤ m
    within n m e = grind arith
several_by list other true false s f e = absurd cc
several_by list other false few s f e = absurd cc

several_fits : (text : List ℕ) (list : List Address) → several_of text ≡ Some list → AreAddresses text list × (2 ≤ length list) × (length list ≤ 4)
several_fits text list e =
    let p = stepped (addresses_of text) if_several list e in
    let q = several_by p.value list (nat_le 2 (length p.value)) (nat_le (length p.value) 4) refl refl p.rest in
    subst (λ (l : List Address). AreAddresses text l × (2 ≤ length l) × (length l ≤ 4)) q.0 (addresses_fit text p.value p.is, q.1, q.2)

several_is : (text : List ℕ) (list : List Address) → AreAddresses text list → 2 ≤ length list → length list ≤ 4 → several_of text ≡ Some list
several_is text list are some few =
    let s : nat_le 2 (length list) ≡ true = holds 2 (length list) some in
    let f : nat_le (length list) 4 ≡ true = holds (length list) 4 few in
    rw (addresses_are text list are) (rw (s, f) refl)
  where
    holds : (n m : ℕ) → n ≤ m → nat_le n m ≡ true
    holds n m l = grind arith

-- ---- the texts ask for the request

pub record IsAsked (t : CommandTexts) (r : PathsRequest) : Type 0 where
  pub addresses : AreAddresses t.addresses r.addresses
  pub some_paths : 2 ≤ length r.addresses
  pub few_paths : length r.addresses ≤ 4
  pub window : IsNumberOr 8 1 64 t.window r.window
  pub reach : IsNumberOr 32767 1 32767 t.reach r.reach
  pub first : IsNumberOrNone 0 65535 t.first r.first
  pub frames : IsNumberOrNone 1 3000000 t.frames r.frames
  pub idle : IsNumberOr 50 1 1000000 t.idle r.idle
  pub limit : IsNumberOr 1000000 1 1000000 t.limit r.limit

asked_fits : (t : CommandTexts) (r : PathsRequest) → request_of t ≡ Some r → IsAsked t r
unfolding request_of
asked_fits t r e =
    let a = stepped (several_of t.addresses) _ r e in
    let s = several_fits t.addresses a.value a.is in
    let w = stepped (number_or 8 1 64 t.window) _ r a.rest in
    let n = stepped (number_or 32767 1 32767 t.reach) _ r w.rest in
    let f = stepped (number_or_none 0 65535 t.first) _ r n.rest in
    let g = stepped (number_or_none 1 3000000 t.frames) _ r f.rest in
    let i = stepped (number_or 50 1 1000000 t.idle) _ r g.rest in
    let l = stepped (number_or 1000000 1 1000000 t.limit) _ r i.rest in
    subst (λ (x : PathsRequest). IsAsked t x) (same_Some _ r l.rest) (record {
      addresses = s.0;
      some_paths = s.1;
      few_paths = s.2;
      window = number_or_fits 8 1 64 t.window w.value w.is;
      reach = number_or_fits 32767 1 32767 t.reach n.value n.is;
      first = number_or_none_fits 0 65535 t.first f.value f.is;
      frames = number_or_none_fits 1 3000000 t.frames g.value g.is;
      idle = number_or_fits 50 1 1000000 t.idle i.value i.is;
      limit = number_or_fits 1000000 1 1000000 t.limit l.value l.is;
    })

asked_is : (t : CommandTexts) (r : PathsRequest) → IsAsked t r → request_of t ≡ Some r
unfolding request_of
asked_is t r h =
    rw (several_is t.addresses r.addresses h.addresses h.some_paths h.few_paths, number_or_is 8 1 64 t.window r.window h.window, number_or_is 32767 1 32767 t.reach r.reach h.reach, number_or_none_is 0 65535 t.first r.first h.first)
    (rw (number_or_none_is 1 3000000 t.frames r.frames h.frames, number_or_is 50 1 1000000 t.idle r.idle h.idle, number_or_is 1000000 1 1000000 t.limit r.limit h.limit) refl)

-- ---- no text of a request looks like an option

digit_plain : (b : ℕ) (bs : List ℕ) → list_all is_ascii_digit (b ∷ bs) ≡ true → b ≡ 45 → ⊥
digit_plain b bs e same =
    let is : is_ascii_digit b ≡ true = grind arith in
    let none : is_ascii_digit b ≡ false = ap is_ascii_digit same in
    cc

abbrev Undashed : List ℕ → Type 0
Undashed [] = Unit {0}
Undashed (b ∷ bs) = b ≡ 45 → ⊥

undashed_plain : (text : List ℕ) → Undashed text → IsPlain text
undashed_plain [] h = tt
undashed_plain (b ∷ bs) h = λ e. absurd (h e)

number_undashed : (text : List ℕ) (n : ℕ) → IsNumber text n → Undashed text
number_undashed [] n h = tt
number_undashed (b ∷ bs) n h = digit_plain b bs h.digits

number_first : (a : List ℕ) (n : ℕ) (behind text : List ℕ) → IsNumber a n → text ≡ a ++ behind → Undashed text
number_first [] n behind text h e = absurd (let p = h.some in omega (arith, p))
number_first (b ∷ bs) n behind text h e = subst Undashed (sym e) (digit_plain b bs h.digits)

address_by : (text a b c d : List ℕ) (ip : List ℕ) (behind : List ℕ) → AreWithin 0 255 (a ∷ b ∷ c ∷ d ∷ []) ip → text ≡ a ++ behind → Undashed text
address_by text a b c d [] behind h e = absurd h
address_by text a b c d (i ∷ is) behind h e = number_first a i behind text h.0.0 e

address_undashed : (text : List ℕ) (address : Address) → IsAddress text address → Undashed text
address_undashed text address h = address_by text h.a h.b h.c h.d address.ip _ h.bytes h.spelled

parts_by : (bs : List ℕ) (parts : List (List ℕ)) (list : List Address) → EachIsAddress (onto_first 45 parts) list → 1 ≤ length list → ⊥
parts_by bs [] [] h some = omega (arith, some)
parts_by bs (q ∷ qs) [] h some = h
parts_by bs [] (x ∷ xs) h some = address_undashed (45 ∷ []) x h.0 refl
parts_by bs (q ∷ qs) (x ∷ xs) h some = address_undashed (45 ∷ q) x h.0 refl

addresses_undashed : (text : List ℕ) (list : List Address) → AreAddresses text list → Undashed text
addresses_undashed [] list h = tt
addresses_undashed (b ∷ bs) list h = λ same.
    let each = subst (λ (x : ℕ). EachIsAddress (slice_split (λ b. b == 44) (x ∷ bs)) list) same h.each in
    parts_by bs (slice_split (λ b. b == 44) bs) list each (let p = h.some in omega (arith, p))

number_or_plain : (default least greatest n : ℕ) (value : Option (List ℕ)) (text : List ℕ) → IsNumberOr default least greatest value n → value ≡ Some text → IsPlain text
number_or_plain default least greatest n None text h e = absurd cc
number_or_plain default least greatest n (Some x) text h e = subst IsPlain (same_Some x text e) (undashed_plain x (number_undashed x n h.0))

number_or_none_plain : (least greatest : ℕ) (n : Option ℕ) (value : Option (List ℕ)) (text : List ℕ) → IsNumberOrNone least greatest value n → value ≡ Some text → IsPlain text
number_or_none_plain least greatest n None text h e = absurd cc
number_or_none_plain least greatest n (Some x) text h e = subst IsPlain (same_Some x text e) (undashed_plain x (number_undashed x h.0 h.2.0))

-- whatever is told of a name is no option, where the options tell numbers
abbrev NumbersPlain : (List ℕ → Option (List ℕ)) → Type 0
NumbersPlain tell = (name text : List ℕ) → is_known name ≡ true → tell name ≡ Some text → IsPlain text

numbers_plain : (tell : List ℕ → Option (List ℕ)) (r : PathsRequest) → IsNumberOr 8 1 64 (tell (codes "window")) r.window → IsNumberOr 32767 1 32767 (tell (codes "reach")) r.reach → IsNumberOrNone 0 65535 (tell (codes "first")) r.first → IsNumberOrNone 1 3000000 (tell (codes "frames")) r.frames
    → IsNumberOr 50 1 1000000 (tell (codes "idle")) r.idle → IsNumberOr 1000000 1 1000000 (tell (codes "limit")) r.limit → NumbersPlain tell
numbers_plain tell r w n f g i l name text k e = elim (known_is name k) [
  | inl a ↦ number_or_plain 8 1 64 r.window (tell (codes "window")) text w (sym (ap tell a) ∙ e)
  | inr b ↦ elim b [
    | inl a ↦ number_or_plain 32767 1 32767 r.reach (tell (codes "reach")) text n (sym (ap tell a) ∙ e)
    | inr b ↦ elim b [
      | inl a ↦ number_or_none_plain 0 65535 r.first (tell (codes "first")) text f (sym (ap tell a) ∙ e)
      | inr b ↦ elim b [
        | inl a ↦ number_or_none_plain 1 3000000 r.frames (tell (codes "frames")) text g (sym (ap tell a) ∙ e)
        | inr b ↦ elim b [
          | inl a ↦ number_or_plain 50 1 1000000 r.idle (tell (codes "idle")) text i (sym (ap tell a) ∙ e)
          | inr b ↦ elim b [
            | inl a ↦ number_or_plain 1000000 1 1000000 r.limit (tell (codes "limit")) text l (sym (ap tell a) ∙ e)
            | inr b ↦ absurd b
          ]
        ]
      ]
    ]
  ]
]

-- ---- the line

same_value : (name : List ℕ) (k : is_known name ≡ true) (arguments : List Argument) (all : List Use) → uses_of arguments ≡ all → value_of name all ≡ value_of name (options arguments)
same_value name k arguments all e = sym (ap (value_of name) e) ∙ value_options arguments name k

-- what is spelled, with these texts, is the line of the request
fits_spelled : (words : List (List ℕ)) (all : List Use) (text : List ℕ) (r : PathsRequest) → value_of plain all ≡ Some text → IsAsked (texts_with all text) r → Fresh [] all → IsSpelled words all → IsPathsLine words r
fits_spelled words all text r e asked fresh s = record {
  arguments = s.arguments;
  spelled = s.spells;
  asks = record {
    text = text;
    one = one_text [] s.arguments text f s.known (ap (value_of plain) s.same ∙ e);
    addresses = asked.addresses;
    some_paths = asked.some_paths;
    few_paths = asked.few_paths;
    names = are_of [] s.arguments f s.known;
    window = subst (λ (o : Option (List ℕ)). IsNumberOr 8 1 64 o r.window) (same_value (codes "window") refl s.arguments all s.same) asked.window;
    reach = subst (λ (o : Option (List ℕ)). IsNumberOr 32767 1 32767 o r.reach) (same_value (codes "reach") refl s.arguments all s.same) asked.reach;
    first = subst (λ (o : Option (List ℕ)). IsNumberOrNone 0 65535 o r.first) (same_value (codes "first") refl s.arguments all s.same) asked.first;
    frames = subst (λ (o : Option (List ℕ)). IsNumberOrNone 1 3000000 o r.frames) (same_value (codes "frames") refl s.arguments all s.same) asked.frames;
    idle = subst (λ (o : Option (List ℕ)). IsNumberOr 50 1 1000000 o r.idle) (same_value (codes "idle") refl s.arguments all s.same) asked.idle;
    limit = subst (λ (o : Option (List ℕ)). IsNumberOr 1000000 1 1000000 o r.limit) (same_value (codes "limit") refl s.arguments all s.same) asked.limit;
  };
}
  where
    f : Fresh [] (uses_of s.arguments)
    f = subst (Fresh []) (sym s.same) fresh

texts_plain : (all : List Use) (text : List ℕ) (r : PathsRequest) → value_of plain all ≡ Some text → IsAsked (texts_with all text) r → (id t : List ℕ) → IsName id → value_of id all ≡ Some t → IsPlain t
texts_plain all text r e asked id t is value_is = elim is [
  | inl same ↦ subst IsPlain (same_Some text t (sym e ∙ sym (ap (λ (n : List ℕ). value_of n all) same) ∙ value_is)) (undashed_plain text (addresses_undashed text r.addresses asked.addresses))
  | inr known ↦ numbers_plain (λ n. value_of n all) r asked.window asked.reach asked.first asked.frames asked.idle asked.limit id t known value_is
]

fits_run : (words : List (List ℕ)) (all : List Use) (text : List ℕ) (r : PathsRequest) → run words Idle [] ≡ Some all → value_of plain all ≡ Some text → IsAsked (texts_with all text) r → IsPathsLine words r
fits_run words all text r ran e asked =
    let s = (sound words).idles [] all ran in
    let same : s.uses ≡ all = s.whole in
    let plain_all = all_plain [] s.uses s.fresh s.named (subst (λ (us : List Use). (id t : List ℕ) → IsName id → value_of id us ≡ Some t → IsPlain t) (sym same) (texts_plain all text r e asked)) in
    fits_spelled words all text r e asked (subst (Fresh []) same s.fresh) (subst (IsSpelled words) same (s.spelled plain_all))

pub line_fits : (words : List (List ℕ)) (r : PathsRequest) → line_of words ≡ Some r → IsPathsLine words r
unfolding parse_of
line_fits words r e =
    let p = stepped (parse_of words) request_of r e in
    let q = stepped (run words Idle []) texts_of p.value p.is in
    let t = mapped (value_of plain q.value) (texts_with q.value) p.value q.rest in
    fits_run words q.value t.value r q.is t.is (subst (λ (x : CommandTexts). IsAsked x r) (sym t.rest) (asked_fits p.value r p.rest))

pub line_is : (words : List (List ℕ)) (r : PathsRequest) → IsPathsLine words r → line_of words ≡ Some r
unfolding parse_of
line_is words r h =
    let a = h.asks in
    let known = all_known h.arguments a.names in
    let once : Once [] (texts h.arguments) = subst (Once []) (sym a.one) refl in
    let fresh = fresh_is h.arguments [] a.names (apart_none (options h.arguments)) once in
    let values : PlainValues (options h.arguments) = plain_values (options h.arguments) a.names (numbers_plain (λ n. value_of n (options h.arguments)) r a.window a.reach a.first a.frames a.idle a.limit) in
    let ran = run_is h.spelled [] fresh known values in
    let text = text_value h.arguments a.text known a.one in
    rw (ran, text) (asked_is (texts_with (uses_of h.arguments) a.text) r (record {
      addresses = a.addresses;
      some_paths = a.some_paths;
      few_paths = a.few_paths;
      window = subst (λ (o : Option (List ℕ)). IsNumberOr 8 1 64 o r.window) (sym (value_options h.arguments (codes "window") refl)) a.window;
      reach = subst (λ (o : Option (List ℕ)). IsNumberOr 32767 1 32767 o r.reach) (sym (value_options h.arguments (codes "reach") refl)) a.reach;
      first = subst (λ (o : Option (List ℕ)). IsNumberOrNone 0 65535 o r.first) (sym (value_options h.arguments (codes "first") refl)) a.first;
      frames = subst (λ (o : Option (List ℕ)). IsNumberOrNone 1 3000000 o r.frames) (sym (value_options h.arguments (codes "frames") refl)) a.frames;
      idle = subst (λ (o : Option (List ℕ)). IsNumberOr 50 1 1000000 o r.idle) (sym (value_options h.arguments (codes "idle") refl)) a.idle;
      limit = subst (λ (o : Option (List ℕ)). IsNumberOr 1000000 1 1000000 o r.limit) (sym (value_options h.arguments (codes "limit") refl)) a.limit;
    }))

pub line_once : (words : List (List ℕ)) (r other : PathsRequest) → IsPathsLine words r → IsPathsLine words other → r ≡ other
line_once words r other h k = same_Some r other (sym (line_is words r h) ∙ line_is words other k)

-- what an answer that gives what is read says of the requests that fit
module _ (words : List (List ℕ)) where
  pub found : (result : Result PathsRequest WordsFault) → ParserGives result (line_of words) → IfOk result (λ r. IsPathsLine words r)
  found (Ok r) h = line_fits words r h
  found (Err fault) h = tt

  pub only : (result : Result PathsRequest WordsFault) → ParserGives result (line_of words) → (r : PathsRequest) → IsPathsLine words r → (result ≡ Ok r) ⊎ (result ≡ Err NoMemory)
  only (Ok x) h r k = inl (ap Ok (same_Some x r (sym h ∙ line_is words r k)))
  only (Err Words) h r k = absurd (let e = line_is words r k in cc)
  only (Err NoMemory) h r k = inr refl

  pub refused : (result : Result PathsRequest WordsFault) → ParserGives result (line_of words) → result ≡ Err Words → (r : PathsRequest) → IsPathsLine words r → ⊥
  refused (Ok x) h e r k = cc
  refused (Err Words) h e r k = let f = line_is words r k in cc
  refused (Err NoMemory) h e r k = cc

  pub exact : (result : Result PathsRequest WordsFault) → ParserGives result (line_of words) → ((r : PathsRequest) → IsPathsLine words r → ⊥) → (result ≡ Err Words) ⊎ (result ≡ Err NoMemory)
  exact (Ok x) h none = absurd (none x (line_fits words x h))
  exact (Err Words) h none = inl refl
  exact (Err NoMemory) h none = inr refl
