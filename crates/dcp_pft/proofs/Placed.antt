-- The fields of a header's spelling stand at their places.
use Rattle.std.proofs.Common.{◌≡◌, ℕ, ◌+◌, ◌-◌, ◌*◌, ◌%◌, ◌^◌, ◌<◌, ◌≤◌, Bool, get_or, List, ◌∷◌, ◌++◌, length, take, drop, sym, ap, ap₂, ◌∙◌, arith, append_assoc, length-append, Option, None, Some, if◌then◌else◌}
use Rattle.std.specs.Prelude.{is_some, IfSome}
use Rattle.std.specs.Int.{w16, w32, to_be_bytes, from_be_bytes}
use Rattle.std.proofs.lemmas.Bool.{le-leb, lt-leb}
use Rattle.std.proofs.lemmas.List.{take_at, drop_at, drop-drop}
use Rattle.std.proofs.lemmas.Nat.{from_be_bytes-to_be_bytes_2, from_be_bytes-to_be_bytes_4}
use Rattle.dcp_pft.specs.declared.shape.Rs.{Rs}
use Rattle.dcp_pft.specs.declared.fragment.Addr.{Addr}
use Rattle.dcp_pft.specs.Head.{PftFragment, sync, three_bytes, flag, rs_bytes, addr_bytes, head}
use Rattle.dcp_pft.specs.Faults.{sequence_number, fragment_index, fragment_count, marks, has_code, has_addresses, described, code, addresses_place, addresses_at, addresses, checked_size, checked_bytes, check_value, head_size, payload}

-- the bytes are this header, this number, and the payload
pub record EndsWith (f : PftFragment) (check : ℕ) (bytes : List ℕ) : Type 0 where
  pub seq : f.seq < 2 ^ 16
  pub index : f.index < 2 ^ 24
  pub count : f.count < 2 ^ 24
  pub small : length f.payload < 2 ^ 14
  pub addr : IfSome f.addr (λ addr. (addr.source < 2 ^ 16) × (addr.dest < 2 ^ 16))
  pub narrow : check < 2 ^ 16
  pub spelled : bytes ≡ head f ++ to_be_bytes w16 check ++ f.payload

flag_small : {T : Type 0} (o : Option T) → flag o ≤ 1
flag_small None = omega arith
flag_small (Some x) = omega arith

marks_of : Option Rs → Option Addr → ℕ → ℕ
marks_of rs addr n = 32768 * flag rs + 16384 * flag addr + n

code_of : (rs : Option Rs) (addr : Option Addr) (n : ℕ) → n < 16384 → has_code (marks_of rs addr n) ≡ is_some rs
unfolding marks_of
code_of None addr n small = lt-leb 32768 (32768 * 0 + 16384 * flag addr + n) (omega (arith, flag_small addr))
code_of (Some rs) addr n small = le-leb 32768 (32768 * 1 + 16384 * flag addr + n) (omega arith)

addresses_of : (rs : Option Rs) (addr : Option Addr) (n : ℕ) → n < 16384 → has_addresses (marks_of rs addr n) ≡ is_some addr
unfolding marks_of
addresses_of None None n small = lt-leb 16384 (marks_of None None n % 32768) (omega arith)
addresses_of None (Some addr) n small = le-leb 16384 ((32768 * 0 + 16384 * 1 + n) % 32768) (omega arith)
addresses_of (Some rs) None n small = lt-leb 16384 ((32768 * 1 + 16384 * 0 + n) % 32768) (omega arith)
addresses_of (Some rs) (Some addr) n small = le-leb 16384 ((32768 * 1 + 16384 * 1 + n) % 32768) (omega arith)

three_of : (n : ℕ) → n < 2 ^ 24 → from_be_bytes w32 (0 ∷ three_bytes n) ≡ n
three_of n small = omega (arith, from_be_bytes-to_be_bytes_4 n (omega arith))

marks_is : (f : PftFragment) (check : ℕ) (bytes : List ℕ) → EndsWith f check bytes → marks bytes ≡ marks_of f.rs f.addr (length f.payload)
unfolding marks_of
marks_is f check bytes e =
    ap marks e.spelled
    ∙ from_be_bytes-to_be_bytes_2 (32768 * flag f.rs + 16384 * flag f.addr + length f.payload) (omega (arith, flag_small f.rs, flag_small f.addr, e.small))

-- whether there are a code and addresses
code_marked : (f : PftFragment) (check : ℕ) (bytes : List ℕ) → EndsWith f check bytes → has_code (marks bytes) ≡ is_some f.rs
code_marked f check bytes e = ap has_code (marks_is f check bytes e) ∙ code_of f.rs f.addr (length f.payload) e.small

addresses_marked : (f : PftFragment) (check : ℕ) (bytes : List ℕ) → EndsWith f check bytes → has_addresses (marks bytes) ≡ is_some f.addr
addresses_marked f check bytes e = ap has_addresses (marks_is f check bytes e) ∙ addresses_of f.rs f.addr (length f.payload) e.small

code_if : List ℕ → Bool → Option Rs
code_if bytes b = if b then Some (record { k = get_or bytes 12 0; z = get_or bytes 13 0 }) else None

addresses_if : List ℕ → ℕ → Bool → Option Addr
addresses_if bytes n b = if b then Some (addresses_at bytes n) else None

place_if : Bool → ℕ
place_if b = if b then 14 else 12

size_if : ℕ → Bool → ℕ
size_if n b = if b then n + 4 else n

-- fragments by what their headers have
abbrev made : ℕ → ℕ → ℕ → Option Rs → Option Addr → List ℕ → PftFragment
made seq index count rs addr payload = record { seq = seq; index = index; count = count; rs = rs; addr = addr; payload = payload }

code_is : (seq index count : ℕ) (rs : Option Rs) (addr : Option Addr) (payload : List ℕ) (check : ℕ) (bytes : List ℕ) → EndsWith (made seq index count rs addr payload) check bytes → code bytes ≡ rs
unfolding code_if
code_is seq index count None addr payload check bytes e = ap (code_if bytes) (code_marked (made seq index count None addr payload) check bytes e)
code_is seq index count (Some rs) addr payload check bytes e =
    ap (code_if bytes) (code_marked (made seq index count (Some rs) addr payload) check bytes e)
    ∙ ap (λ (l : List ℕ). Some (record { k = get_or l 12 0; z = get_or l 13 0 })) e.spelled

place_is : (rs : Option Rs) (bytes : List ℕ) → has_code (marks bytes) ≡ is_some rs → addresses_place bytes ≡ 12 + length (rs_bytes rs)
unfolding place_if
place_is None bytes marked = ap place_if marked
place_is (Some rs) bytes marked = ap place_if marked

numbers_of : (addr : Addr) → (addr.source < 2 ^ 16) × (addr.dest < 2 ^ 16)
    → record { source = from_be_bytes w16 (to_be_bytes w16 addr.source); dest = from_be_bytes w16 (to_be_bytes w16 addr.dest) } ≡ addr
numbers_of addr fits =
    ap₂ (λ (s d : ℕ). record { source = s; dest = d }) (from_be_bytes-to_be_bytes_2 addr.source fits.0) (from_be_bytes-to_be_bytes_2 addr.dest fits.1)

addresses_is : (seq index count : ℕ) (rs : Option Rs) (addr : Option Addr) (payload : List ℕ) (check : ℕ) (bytes : List ℕ) → EndsWith (made seq index count rs addr payload) check bytes → addresses bytes ≡ addr
unfolding addresses_if
addresses_is seq index count rs None payload check bytes e =
    ap (addresses_if bytes (addresses_place bytes)) (addresses_marked (made seq index count rs None payload) check bytes e)
addresses_is seq index count None (Some addr) payload check bytes e =
    let f : PftFragment = made seq index count None (Some addr) payload in
    ap (addresses_if bytes (addresses_place bytes)) (addresses_marked f check bytes e)
    ∙ (ap (λ (n : ℕ). Some (addresses_at bytes n)) (place_is None bytes (code_marked f check bytes e))
    ∙ (ap (λ (l : List ℕ). Some (addresses_at l 12)) e.spelled ∙ ap (λ (a : Addr). Some a) (numbers_of addr e.addr)))
addresses_is seq index count (Some rs) (Some addr) payload check bytes e =
    let f : PftFragment = made seq index count (Some rs) (Some addr) payload in
    ap (addresses_if bytes (addresses_place bytes)) (addresses_marked f check bytes e)
    ∙ (ap (λ (n : ℕ). Some (addresses_at bytes n)) (place_is (Some rs) bytes (code_marked f check bytes e))
    ∙ (ap (λ (l : List ℕ). Some (addresses_at l 14)) e.spelled ∙ ap (λ (a : Addr). Some a) (numbers_of addr e.addr)))

size_of : (rs : Option Rs) (addr : Option Addr) (bytes : List ℕ) → has_code (marks bytes) ≡ is_some rs → has_addresses (marks bytes) ≡ is_some addr → checked_size bytes ≡ 12 + length (rs_bytes rs) + length (addr_bytes addr)
unfolding size_if
size_of rs None bytes code_marked marked = omega (arith, ap (size_if (addresses_place bytes)) marked, place_is rs bytes code_marked)
size_of rs (Some addr) bytes code_marked marked = omega (arith, ap (size_if (addresses_place bytes)) marked, place_is rs bytes code_marked)

length-head : (f : PftFragment) → length (head f) ≡ 12 + length (rs_bytes f.rs) + length (addr_bytes f.addr)
length-head f = omega (arith, length-append (rs_bytes f.rs) (addr_bytes f.addr))

-- where the fields stand in a fragment's spelling
pub record IsPlaced (f : PftFragment) (check : ℕ) (bytes : List ℕ) : Type 0 where
  pub is_sync : take 2 bytes ≡ sync
  pub whole : head_size bytes ≤ length bytes
  pub is_seq : sequence_number bytes ≡ f.seq
  pub is_index : fragment_index bytes ≡ f.index
  pub is_count : fragment_count bytes ≡ f.count
  pub is_size : described bytes ≡ length f.payload
  pub is_code : code bytes ≡ f.rs
  pub is_addr : addresses bytes ≡ f.addr
  pub is_front : checked_bytes bytes ≡ head f
  pub is_check : check_value bytes ≡ check
  pub is_payload : payload bytes ≡ f.payload

pub placed : (f : PftFragment) (check : ℕ) (bytes : List ℕ) → EndsWith f check bytes → IsPlaced f check bytes
unfolding marks_of
placed f check bytes e =
    let n : ℕ = checked_size bytes in
    let size : n ≡ length (head f) = size_of f.rs f.addr bytes (code_marked f check bytes e) (addresses_marked f check bytes e) ∙ sym (length-head f) in
    let last : List ℕ = to_be_bytes w16 check in
    let whole : bytes ≡ head f ++ (last ++ f.payload) = e.spelled ∙ append_assoc (head f) last f.payload in
    let behind : drop n bytes ≡ last ++ f.payload = ap (drop n) whole ∙ drop_at (head f) (last ++ f.payload) n (sym size) in
    let long : length bytes ≡ n + (2 + length f.payload) = ap length whole ∙ omega (arith, size, length-append (head f) (last ++ f.payload)) in
    let two : n + 2 - n ≡ 2 = omega arith in
    record {
      is_sync = ap (take 2) e.spelled;
      whole = omega (arith, long);
      is_seq = ap sequence_number e.spelled ∙ from_be_bytes-to_be_bytes_2 f.seq e.seq;
      is_index = ap fragment_index e.spelled ∙ three_of f.index e.index;
      is_count = ap fragment_count e.spelled ∙ three_of f.count e.count;
      is_size = omega (arith, marks_is f check bytes e, e.small);
      is_code = code_is f.seq f.index f.count f.rs f.addr f.payload check bytes e;
      is_addr = addresses_is f.seq f.index f.count f.rs f.addr f.payload check bytes e;
      is_front = ap (take n) whole ∙ take_at (head f) (last ++ f.payload) n (sym size);
      is_check = ap (λ (l : List ℕ). from_be_bytes w16 (take (n + 2 - n) l)) behind
          ∙ (ap (λ (k : ℕ). from_be_bytes w16 (take k (last ++ f.payload))) two ∙ from_be_bytes-to_be_bytes_2 check e.narrow);
      is_payload = sym (drop-drop 2 n bytes) ∙ ap (drop 2) behind;
    }
