use Rattle.std.proofs.Common.{◌≡◌, ℕ, ◌+◌, ◌≤◌, true, Bool, List, length, take, drop, refl, sym, ◌∙◌, ap, subst, arith}
use Rattle.std.proofs.lemmas.List.{length-take-le}
use Rattle.std.specs.Str.{IsUtf8}
use Rattle.drm_bits.specs.Bits.{bits_of}
use Rattle.drm_bits.specs.Bits.{front}
use Rattle.drm_sdc.specs.Reading.{described_length, described_kind, body_bits, has_body_length, IsWellFormedEntity}
use Rattle.drm_sdc.specs.Field.{first_entity}
use Rattle.drm_sdc.proofs.EntityLaws.{described-take}
use Rattle.drm_sdc.proofs.next_entity.check_entity.Goals as goal

-- the header of the entity that the header of these bytes describes
first : (bytes : List ℕ) (len : ℕ) → len ≡ described_length bytes → take (2 + len) bytes ≡ first_entity bytes
first bytes len is = ap (λ n. take (2 + n) bytes) is

sound_when : (bytes : List ℕ) (len kind : ℕ) (bits : List Bool) → len ≡ described_length bytes → 2 + len ≤ length bytes → kind ≡ described_kind (first_entity bytes) → bits ≡ body_bits (first_entity bytes) → has_body_length kind bits len ≡ true
    → (kind ≡ 1 → IsUtf8 (drop 2 (first_entity bytes))) → IsWellFormedEntity (first_entity bytes)
sound_when bytes len kind bits is_len whole is_kind is_bits right text =
    let header : described_length (first_entity bytes) ≡ described_length bytes = described-take (2 + described_length bytes) bytes (omega arith) in
    record {
      whole = length-take-le (2 + described_length bytes) bytes (omega (arith, is_len, whole)) ∙ ap (λ n. 2 + n) (sym header);
      body =
          ap (λ k. has_body_length k (body_bits (first_entity bytes)) (described_length (first_entity bytes))) (sym is_kind)
          ∙ (ap (λ l. has_body_length kind l (described_length (first_entity bytes))) (sym is_bits)
          ∙ (ap (has_body_length kind bits) (header ∙ sym is_len) ∙ right));
      label = λ one. text (is_kind ∙ one);
    }

pub returns-clause-sound : goal.returns-clause-sound
returns-clause-sound c =
    let bytes : List ℕ = c.args.bytes.now in
    let same : take (2 + c.args.len) bytes ≡ first_entity bytes = first bytes c.args.len c.requires.length in
    let all : c.new-bits.result ≡ bits_of (first_entity bytes) = c.new-bits.ensures.whole refl ∙ ap bits_of same in
    let behind_length : c.take_u8-length.new.self ≡ drop 7 (bits_of (first_entity bytes)) = c.take_u8-length.ensures.rest ∙ ap (drop 7) all in
    let behind_version : c.take_flag-version.new.self ≡ drop 1 (drop 7 (bits_of (first_entity bytes))) = c.take_flag-version.ensures.rest ∙ ap (drop 1) behind_length in
    let text : c.take_u8-kind.result ≡ 1 → IsUtf8 (drop 2 (first_entity bytes)) = λ one. subst (λ l. IsUtf8 (drop 2 l)) same (c.is_right_text.ensures.right c.if-not-is_right_text.false one) in
    sound_when bytes c.args.len c.take_u8-kind.result c.take_u8-kind.new.self c.requires.length c.requires.whole
    (c.take_u8-kind.ensures.number ∙ ap (front 4) behind_version)
    (c.take_u8-kind.ensures.rest ∙ ap (drop 4) behind_version)
    (sym c.is_body_length.ensures ∙ c.if-not-is_body_length.false)
    text
