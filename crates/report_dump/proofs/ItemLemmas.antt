-- The items of a payload up to a cut: there is one list of them, and the reader gives it.
use Rattle.std.proofs.Common.{◌≡◌, true, All, inl, inr, ℕ, zero, suc, ◌^◌, ◌<◌, ◌≤◌, List, [], ◌∷◌, ◌++◌, length, take, drop, refl, sym, ap, subst, ◌∙◌, append_assoc, arith, length-append, length-drop, append-nil}
use Rattle.std.specs.Char.{is_ascii_graphic}
use Rattle.std.specs.List.{flat_map}
use Rattle.std.specs.Int.{w16, w32, to_be_bytes, from_be_bytes}
use Rattle.std.proofs.lemmas.List.{take-append-drop, take_at, drop_at, length-take-le}
use Rattle.std.proofs.lemmas.List.Elements.{All-head, All-tail}
use Rattle.std.proofs.lemmas.Bool.{cases_lt}
use Rattle.drm_bits.specs.Bits.{bits_of, IsBytes}
use Rattle.drm_bits.proofs.BitsLemmas.{length-bits_of}
use Rattle.drm_links.specs.Known.{Known}
use Rattle.drm_links.specs.Sink.{Output, OutputsText}
use Rattle.drm_links.proofs.KnownLemmas.{OutputsText-weaker}
use Rattle.drm_sdc.proofs.EntityLaws.{small_front, small_rest}
use Rattle.dcp_tag.specs.declared.items.Item.{Item}
use Rattle.dcp_tag.specs.Tag.{TagItem, bytes_for, head, HasHead, IsSpelling}
use Rattle.dcp_tag.specs.PayloadPlace.{PayloadPlace, left}
use Rattle.dcp_tag.specs.Reading.{item_of, tag_of, GivesItem}
use Rattle.dcp_tag.proofs.TagLemmas.{split_front, head_size, padded, one_front, cut_front, item_front, spelling_size}
use Rattle.dcp_af.specs.Packet.{AfPacket, IsAf}
use Rattle.dcp_af.specs.Packet as packet
use Rattle.report_dump.specs.PacketContent.{HasNoItem, AreItems}
use Rattle.report_dump.specs.Lines.{name_byte, tag_text, tag_line}
use Rattle.report_dump.specs.Text.{items_text}

number_4 : (four : List ℕ) → IsBytes four → from_be_bytes w32 four < 2 ^ 32
number_4 four small = omega (arith, small 0, small 1, small 2, small 3)

-- the head at the front of eight bytes
head_there : (bytes : List ℕ) → IsBytes bytes → 8 ≤ length bytes → HasHead bytes (take 4 bytes) (from_be_bytes w32 (take 4 (drop 4 bytes))) (drop 4 (drop 4 bytes))
head_there bytes small long =
    let four : List ℕ = take 4 (drop 4 bytes) in
    split_front bytes (take 4 bytes) (drop 4 bytes) four (drop 4 (drop 4 bytes)) (from_be_bytes w32 four) refl refl refl refl long small
    (number_4 four (small_front (drop 4 bytes) 4 (small_rest bytes 4 small))) refl

items_within : (n : ℕ) (bytes : List ℕ) → length bytes ≤ n → IsBytes bytes → (items : List TagItem) × AreItems items bytes
items_within zero bytes few small = ([], inl (omega (arith, few)))
items_within (suc n) bytes few small =
    elim (cases_lt (length bytes) 8) [
      | inl short ↦ ([], inl short)
      | inr long ↦ (
          let name : List ℕ = take 4 bytes in
          let bits : ℕ = from_be_bytes w32 (take 4 (drop 4 bytes)) in
          let behind : List ℕ = drop 4 (drop 4 bytes) in
          let begins : HasHead bytes name bits behind = head_there bytes small long in
          elim (cases_lt (length behind) (bytes_for bits)) [
            | inl short ↦ ([], inr (record { name = name; bits = bits; behind = behind; begins = begins; short = short }))
            | inr enough ↦ (
                let value : List ℕ = take (bytes_for bits) behind in
                let rest : List ℕ = drop (bytes_for bits) behind in
                let spelled : IsSpelling (item_of name bits value) (head name bits ++ value) =
                (_, padded name bits value begins.four begins.fits (length-take-le (bytes_for bits) behind enough)) in
                let stands : bytes ≡ (head name bits ++ value) ++ rest =
                begins.stands ∙ (ap (λ (l : List ℕ). head name bits ++ l) (sym (take-append-drop (bytes_for bits) behind)) ∙ sym (append_assoc (head name bits) value rest)) in
                let fewer : length rest ≤ n = omega (arith, few, head_size bytes name bits behind begins, length-drop (bytes_for bits) behind) in
                let more = items_within n rest fewer (small_rest behind (bytes_for bits) (small_rest (drop 4 bytes) 4 (small_rest bytes 4 small))) in
                (item_of name bits value ∷ more.0, (head name bits ++ value, rest, stands, spelled, more.1))
                )
          ]
          )
    ]

-- each payload has items
pub items_there : (bytes : List ℕ) → IsBytes bytes → (items : List TagItem) × AreItems items bytes
items_there bytes small = items_within (length bytes) bytes (omega arith) small

-- the item that is given is the first of these
pub item_given : (items : List TagItem) (old new : PayloadPlace) (item : Item) → AreItems items (left old) → GivesItem item old new → (rest : List TagItem) × (items ≡ tag_of item ∷ rest) × AreItems rest (left new)
item_given [] old new item (inl short) gives = absurd (omega (arith, short, gives.shorter))
item_given [] old new item (inr cut) gives =
    let short = cut_front (left old) item.name item.bits (item.value.now ++ left new) cut gives.begins in
    absurd (omega (arith, short, length-append item.value.now (left new), gives.size))
item_given (i ∷ items) old new item (spelling, rest, stands, spelled, more) gives =
    let whole : left old ≡ (head item.name item.bits ++ item.value.now) ++ left new =
    gives.begins.stands ∙ sym (append_assoc (head item.name item.bits) item.value.now (left new)) in
    let same = one_front i (tag_of item) (left old) spelling rest (head item.name item.bits ++ item.value.now) (left new) spelled gives.spelling stands whole in
    (items, ap (λ (t : TagItem). t ∷ items) same.0, subst (AreItems items) same.1 more)

-- no item is left where none is given
pub no_item : (items : List TagItem) (bytes : List ℕ) → AreItems items bytes → HasNoItem bytes → items ≡ []
no_item [] bytes are ends = refl
no_item (i ∷ items) bytes (spelling, rest, stands, spelled, more) (inl short) =
    absurd (omega (arith, short, ap length stands, length-append spelling rest, spelling_size i spelling spelled))
no_item (i ∷ items) bytes (spelling, rest, stands, spelled, more) (inr cut) =
    let enough = item_front i bytes spelling rest cut.name cut.bits cut.behind spelled stands cut.begins in
    absurd (omega (arith, cut.short, enough.0))

-- the number of an item's bits
pub item_text : (item : Item) (old new : PayloadPlace) → GivesItem item old new → tag_line (tag_of item) ≡ tag_text item.name item.bits
item_text item old new gives =
    ap (tag_text item.name) (length-take-le item.bits (bits_of item.value.now) (omega (arith, length-bits_of item.value.now, gives.size)))

-- its line, and those of the others
pub text_then : (items rest : List TagItem) (item : Item) (old new : PayloadPlace) → items ≡ tag_of item ∷ rest → GivesItem item old new → items_text items ≡ tag_text item.name item.bits ++ items_text rest
text_then items rest item old new is gives = ap items_text is ∙ ap (λ l. l ++ items_text rest) (item_text item old new gives)

-- one content of items
pub one_list : (items others : List TagItem) (bytes : List ℕ) → AreItems items bytes → AreItems others bytes → items ≡ others
one_list [] others bytes ends are = sym (no_item others bytes are ends)
one_list (i ∷ items) [] bytes are ends = no_item (i ∷ items) bytes are ends
one_list (i ∷ items) (o ∷ others) bytes h k =
    let front = one_front i o bytes h.0 h.1 k.0 k.1 h.3 k.3 h.2 k.2 in
    let rest : AreItems others h.1 = rw front.1 k.4 in
    ap (λ (x : TagItem). x ∷ items) front.0 ∙ ap (λ (xs : List TagItem). o ∷ xs) (one_list items others h.1 h.4 rest)

-- all lines were written where no item is left
pub all_items : (items rest : List TagItem) (bytes : List ℕ) (a b : Known Output) → AreItems rest bytes → HasNoItem bytes
    → OutputsText a b (λ text. text ++ items_text rest ≡ items_text items) → OutputsText a b (λ text. text ≡ items_text items)
all_items items rest bytes a b are ends done =
    OutputsText-weaker (λ text. text ++ items_text rest ≡ items_text items) (λ text. text ≡ items_text items) a b done
    (λ text is. sym (append-nil text) ∙ (ap (λ l. text ++ items_text l) (sym (no_item rest bytes are ends)) ∙ is))

-- the payload of a packet is bytes of it
pub payload_bytes : (p : AfPacket) (bytes : List ℕ) → IsBytes bytes → IsAf p bytes → IsBytes p.payload
payload_bytes p bytes small (check, ends, checks) =
    let last : List ℕ = to_be_bytes w16 check in
    let stands : bytes ≡ packet.head p ++ (p.payload ++ last) = ends.spelled ∙ append_assoc (packet.head p) p.payload last in
    let behind : drop (length (packet.head p)) bytes ≡ p.payload ++ last = ap (drop (length (packet.head p))) stands ∙ drop_at (packet.head p) (p.payload ++ last) (length (packet.head p)) refl in
    let is : take (length p.payload) (drop (length (packet.head p)) bytes) ≡ p.payload = ap (take (length p.payload)) behind ∙ take_at p.payload last (length p.payload) refl in
    subst IsBytes is (small_front (drop (length (packet.head p)) bytes) (length p.payload) (small_rest bytes (length (packet.head p)) small))

-- a name all of whose bytes are visible signs stands as it is
pub plain_name : (name : List ℕ) → All (λ byte. is_ascii_graphic byte ≡ true) name → flat_map name_byte name ≡ name
plain_name [] all = refl
plain_name (byte ∷ name) all =
    rw (All-head (λ (b : ℕ). is_ascii_graphic b ≡ true) byte name all)
    (ap (λ l. byte ∷ l) (plain_name name (All-tail (λ (b : ℕ). is_ascii_graphic b ≡ true) byte name all)))
