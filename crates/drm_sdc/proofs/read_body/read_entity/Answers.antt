use Rattle.std.proofs.Common.{◌≡◌, ℕ, ◌+◌, ◌-◌, true, Bool, List, length, take, drop, refl, ◌∙◌, ap, arith, length-drop}
use Rattle.std.proofs.lemmas.List.{take_rest}
use Rattle.drm_bits.specs.Bits.{bits_of}
use Rattle.drm_sdc.specs.declared.body.Body.{Body}
use Rattle.drm_sdc.specs.declared.entity.Entity.{Entity}
use Rattle.drm_bits.specs.Bits.{front, bit}
use Rattle.drm_sdc.specs.Reading.{body_from, entity_from, has_body_length, described_length, described_kind, body_bits}
use Rattle.drm_sdc.proofs.read_body.read_entity.Goals as goal

sound : (kind : ℕ) (bits : List Bool) (bytes : List ℕ) → kind ≡ described_kind bytes → bits ≡ body_bits bytes → length bytes ≡ 2 + described_length bytes → has_body_length (described_kind bytes) (body_bits bytes) (described_length bytes) ≡ true
    → has_body_length kind bits (length (take (length bytes - 2) (drop 2 bytes))) ≡ true
sound kind bits bytes is_kind is_bits whole is =
    let behind : length (take (length bytes - 2) (drop 2 bytes)) ≡ length bytes - 2 = ap length (take_rest bytes 2) ∙ omega (arith, length-drop 2 bytes) in
    let size : length (take (length bytes - 2) (drop 2 bytes)) ≡ described_length bytes = omega (arith, behind, whole) in
    ap (λ k. has_body_length k bits (length (take (length bytes - 2) (drop 2 bytes)))) is_kind
    ∙ (ap (λ l. has_body_length (described_kind bytes) l (length (take (length bytes - 2) (drop 2 bytes)))) is_bits
    ∙ (ap (has_body_length (described_kind bytes) (body_bits bytes)) size ∙ is))

entity : (version : Bool) (kind : ℕ) (bits : List Bool) (body : Body) (bytes : List ℕ) → version ≡ bit (drop 7 (bits_of bytes)) → kind ≡ described_kind bytes → bits ≡ body_bits bytes → body ≡ body_from kind bits (take (length bytes - 2) (drop 2 bytes))
    → ◌≡◌ {A = Entity} (record { version = version; body = body }) (entity_from bytes)
entity version kind bits body bytes is_version is_kind is_bits is =
    let made : body ≡ body_from (described_kind bytes) (body_bits bytes) (drop 2 bytes) =
    is ∙ (ap (λ k. body_from k bits (take (length bytes - 2) (drop 2 bytes))) is_kind
    ∙ (ap (λ l. body_from (described_kind bytes) l (take (length bytes - 2) (drop 2 bytes))) is_bits
    ∙ ap (body_from (described_kind bytes) (body_bits bytes)) (take_rest bytes 2))) in
    ap (λ (v : Bool). record { version = v; body = body }) is_version
    ∙ ap (λ (b : Body). record { version = bit (drop 7 (bits_of bytes)); body = b }) made

pub read_body-requires-clause-sound : goal.read_body-requires-clause-sound
read_body-requires-clause-sound c =
    let all = c.new-bits.ensures.whole refl in
    let behind_length : c.take_u8-length.new.self ≡ drop 7 (bits_of c.args.bytes.now) = c.take_u8-length.ensures.rest ∙ ap (drop 7) all in
    let behind_version : c.take_flag-version.new.self ≡ drop 1 (drop 7 (bits_of c.args.bytes.now)) = c.take_flag-version.ensures.rest ∙ ap (drop 1) behind_length in
    sound c.take_u8-kind.result c.take_u8-kind.new.self c.args.bytes.now
    (c.take_u8-kind.ensures.number ∙ ap (front 4) behind_version)
    (c.take_u8-kind.ensures.rest ∙ ap (drop 4) behind_version)
    c.requires.sound.whole c.requires.sound.body

pub returns : goal.returns
returns c =
    let all = c.new-bits.ensures.whole refl in
    let behind_length : c.take_u8-length.new.self ≡ drop 7 (bits_of c.args.bytes.now) = c.take_u8-length.ensures.rest ∙ ap (drop 7) all in
    let behind_version : c.take_flag-version.new.self ≡ drop 1 (drop 7 (bits_of c.args.bytes.now)) = c.take_flag-version.ensures.rest ∙ ap (drop 1) behind_length in
    entity c.take_flag-version.result c.take_u8-kind.result c.take_u8-kind.new.self c.in_ok-body.body c.args.bytes.now
    (c.take_flag-version.ensures.bit ∙ ap bit behind_length)
    (c.take_u8-kind.ensures.number ∙ ap (front 4) behind_version)
    (c.take_u8-kind.ensures.rest ∙ ap (drop 4) behind_version)
    c.in_ok-body.ensures
