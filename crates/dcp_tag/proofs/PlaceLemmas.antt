-- What is given at a place in a payload.
use Rattle.std.proofs.Common.{◌≡◌, ℕ, ◌+◌, ◌-◌, ◌≤◌, List, ◌++◌, length, take, drop, refl, sym, subst, ap, ◌∙◌, append_assoc, arith, length-append, [], ◌∷◌, ◌↔◌}
use Rattle.std.proofs.lemmas.List.{take_rest, drop_at, drop-drop, take-append-drop, length-take-le}
use Rattle.dcp_tag.specs.declared.items.Item.{Item}
use Rattle.dcp_tag.specs.Tag.{TagItem, bytes_for, head, HasHead, IsSpelling, IsPayload}
use Rattle.dcp_tag.specs.PayloadPlace.{PayloadPlace, left}
use Rattle.dcp_tag.specs.Reading.{tag_of, GivesItem}
use Rattle.dcp_tag.specs.Laws.{GivesAll}
use Rattle.dcp_tag.proofs.TagLemmas.{length-head, head_size, padded, one_front}

-- the bytes of the code's slice are those that are left
pub left_is : (place : PayloadPlace) (payload : List ℕ) (at : ℕ) → record { payload = payload; at = at } ≡ place → take (length payload - at) (drop at payload) ≡ left place
left_is place payload at is = take_rest payload at ∙ ap left is

pub begins_left : (place : PayloadPlace) (payload : List ℕ) (at : ℕ) (name : List ℕ) (bits : ℕ) (behind : List ℕ) → record { payload = payload; at = at } ≡ place
    → HasHead (take (length payload - at) (drop at payload)) name bits behind → HasHead (left place) name bits behind
begins_left place payload at name bits behind is begins =
    record { four = begins.four; fits = begins.fits; stands = sym (left_is place payload at is) ∙ begins.stands }

-- what stands behind a head in the payload
pub behind_is : (payload : List ℕ) (at : ℕ) (name : List ℕ) (bits : ℕ) (behind : List ℕ) → HasHead (drop at payload) name bits behind → behind ≡ drop (at + 8) payload
behind_is payload at name bits behind begins =
    sym (drop_at (head name bits) behind 8 (length-head name bits begins.four)) ∙ (ap (drop 8) (sym begins.stands) ∙ drop-drop 8 at payload)

-- an item at the front, and the items after it
first_item : (tag : TagItem) (bytes spelling rest : List ℕ) → IsSpelling tag spelling → bytes ≡ spelling ++ rest → (others : List TagItem) → IsPayload (tag ∷ others) bytes ↔ IsPayload others rest
first_item tag bytes spelling rest spelled stands others = (
  λ h. subst (λ (l : List ℕ). IsPayload others l) (one_front tag tag bytes h.0 h.1 spelling rest h.3 spelled h.2 stands).1 h.4,
  λ h. (spelling, rest, stands, spelled, h),
)

pub gives : (item : Item) (payload : List ℕ) (at : ℕ) (behind : List ℕ) (len : ℕ) → HasHead (drop at payload) item.name item.bits behind → len ≡ bytes_for item.bits → len ≤ length behind
    → item.value.now ≡ take len behind → item.at ≡ at + 8
    → GivesItem item (record { payload = payload; at = at }) (record { payload = payload; at = at + 8 + len })
gives item payload at behind len begins is_len within is_value is_at =
    let place : behind ≡ drop (at + 8) payload = behind_is payload at item.name item.bits behind begins in
    let size : length item.value.now ≡ bytes_for item.bits = ap length is_value ∙ (length-take-le len behind within ∙ is_len) in
    let after : drop len behind ≡ drop (at + 8 + len) payload = ap (drop len) place ∙ drop-drop len (at + 8) payload in
    let parts : item.value.now ++ drop (at + 8 + len) payload ≡ behind =
    ap (λ (l : List ℕ). l ++ drop (at + 8 + len) payload) is_value ∙ (ap (λ (l : List ℕ). take len behind ++ l) (sym after) ∙ take-append-drop len behind) in
    let spelled : IsSpelling (tag_of item) (head item.name item.bits ++ item.value.now) = (_, padded item.name item.bits item.value.now begins.four begins.fits size) in
    let whole : drop at payload ≡ head item.name item.bits ++ item.value.now ++ drop (at + 8 + len) payload =
    begins.stands ∙ (ap (λ (l : List ℕ). head item.name item.bits ++ l) (sym parts) ∙ sym (append_assoc (head item.name item.bits) item.value.now (drop (at + 8 + len) payload))) in
    record {
      at = is_at;
      value = is_value ∙ (ap (take len) (place ∙ ap (λ (n : ℕ). drop n payload) (sym is_at)) ∙ ap (λ (n : ℕ). take n (drop item.at payload)) is_len);
      size = size;
      spelling = spelled;
      items = first_item (tag_of item) (drop at payload) (head item.name item.bits ++ item.value.now) (drop (at + 8 + len) payload) spelled whole;
      begins = record { four = begins.four; fits = begins.fits; stands = begins.stands ∙ ap (λ (l : List ℕ). head item.name item.bits ++ l) (sym parts) };
      shorter = omega (arith, head_size (drop at payload) item.name item.bits behind begins, ap length parts, length-append item.value.now (drop (at + 8 + len) payload), size);
      next = omega (arith, is_at, is_len);
      payload = refl;
    }

pub gives_at : (item : Item) (place : PayloadPlace) (payload : List ℕ) (at : ℕ) (behind : List ℕ) (len : ℕ) → record { payload = payload; at = at } ≡ place
    → HasHead (take (length payload - at) (drop at payload)) item.name item.bits behind → len ≡ bytes_for item.bits → len ≤ length behind
    → item.value.now ≡ take len behind → item.at ≡ at + 8
    → GivesItem item place (record { payload = payload; at = at + 8 + len })
gives_at item place payload at behind len is begins is_len within is_value is_at =
    let stands : HasHead (drop at payload) item.name item.bits behind = begins_left (record { payload = payload; at = at }) payload at item.name item.bits behind refl begins in
    subst (λ (p : PayloadPlace). GivesItem item p (record { payload = payload; at = at + 8 + len })) is (gives item payload at behind len stands is_len within is_value is_at)

pub given_payload : (old new : PayloadPlace) (given others : List TagItem) → GivesAll old given new → IsPayload (given ++ others) (left old) ↔ IsPayload others (left new)
given_payload old new [] others same =
    let P : List ℕ → Type 0 = IsPayload others in
    (λ h. subst P (sym (ap left same)) h, λ h. subst P (ap left same) h)
given_payload old new (tag ∷ tags) others (item, next, g, is, more) =
    let rest = given_payload next new tags others more in
    let step = g.items (tags ++ others) in
    let P : TagItem → Type 0 = λ t. IsPayload (t ∷ (tags ++ others)) (left old) in
    (λ h. rest.0 (step.0 (subst P (sym is) h)), λ h. subst P is (step.1 (rest.1 h)))
