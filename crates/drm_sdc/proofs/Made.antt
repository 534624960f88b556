-- What is read of a body of the right length is a body with these bits.
use Rattle.std.proofs.Common.{◌≡◌, ℕ, zero, suc, ◌+◌, ◌-◌, ◌*◌, ◌/◌, ◌%◌, ◌<◌, ◌≤◌, nat_eq, Bool, true, false, List, [], ◌∷◌, ◌++◌, length, drop, is_some, refl, sym, ◌∙◌, ap, subst, arith, length-drop, inl, inr, ◌⊎◌, ◌||◌}
use Rattle.std.proofs.lemmas.List.{drop-drop}
use Rattle.std.proofs.lemmas.Bool.{and_parts, or_cases, eqb-true, leb-true, cond_both}
use Rattle.std.specs.Int.{from_bool}
use Rattle.std.specs.Str.{IsUtf8}
use Rattle.drm_bits.specs.Bits.{bits_of, front}
use Rattle.drm_bits.specs.Fields.{BitField, AreFields}
use Rattle.drm_sdc.specs.declared.body.Body.{Body}
use Rattle.drm_sdc.specs.declared.body.Body.TheVariants.{Time}
use Rattle.drm_sdc.specs.Bodies.{octets, optional, channel_fields, body_fields, kind_of, count, body_length, is_typed, IsBody}
use Rattle.drm_sdc.specs.Reading.{mux_from, label_from, optional_from, behind, channels_from, has_restriction, has_region, freq_from, when_from, in_packets, sync_from, packet_from, app_from, time_from, audio_middle, audio_from, next_from, language_from, raw_from, body_from, has_body_length}
use Rattle.drm_bits.proofs.PartLemmas.{description_made, is_description_from}
use Rattle.drm_sdc.proofs.FieldLaws.{AreBytes, front-bit, octets_are}
use Rattle.drm_sdc.proofs.Again.{AreBehind, byte_behind, small_behind}

-- The body has these bits, this type and this length.
pub record IsMade (kind : ℕ) (bits : List Bool) (len : ℕ) (b : Body) : Type 0 where
  pub fields : AreFields (body_fields b) bits
  pub body : IsBody b
  pub kind_is : kind_of b ≡ kind
  pub size : body_length b ≡ len

octets_made : (bytes : List ℕ) (rest : List Bool) → AreBytes bytes → rest ≡ bits_of bytes → AreFields (octets bytes) rest
octets_made bytes rest small is = subst (AreFields (octets bytes)) (sym is) (octets_are bytes small)

nothing_left : (rest : List Bool) → length rest ≡ 0 → rest ≡ []
nothing_left [] none = refl
nothing_left (b ∷ rest) none = absurd (omega (arith, none))

mux_made : (bits : List Bool) (bytes : List ℕ) → length bits ≡ 4 + 8 * length bytes → has_body_length 0 bits (length bytes) ≡ true → IsMade 0 bits (length bytes) (mux_from bits bytes)
mux_made bits bytes size right =
    let tests = and_parts _ _ right in
    let whole : length bytes % 3 ≡ 0 = eqb-true _ _ tests.0 in
    let few : length bytes ≤ 12 = leb-true _ _ tests.1 in
    let n : ℕ = length bytes / 3 in
    record {
      fields = description_made n bits (omega (arith, few)) (omega (arith, size, whole));
      body = is_description_from n bits (omega (arith, few));
      kind_is = refl;
      size = omega (arith, whole);
    }

label_made : (bits : List Bool) (bytes : List ℕ) → AreBytes bytes → AreBehind bytes bits → length bits ≡ 4 + 8 * length bytes → IsUtf8 bytes → IsMade 1 bits (length bytes) (label_from bits bytes)
label_made bits bytes small behind size text =
    record {
      fields = ((omega (arith, size)), refl, (((simp length-drop (omega (arith, size))), refl, (octets_made bytes (drop 2 (drop 2 bits)) small (drop-drop 2 2 bits ∙ behind)))));
      body = text;
      kind_is = refl;
      size = refl;
    }

length-channels : (n : ℕ) (bits : List Bool) → length (channels_from n bits) ≡ n
length-channels zero bits = refl
length-channels (suc n) bits = ap suc (length-channels n (drop 15 (drop 1 bits)))

channels_made : (n : ℕ) (bits : List Bool) → length bits ≡ 16 * n → AreFields (channel_fields (channels_from n bits)) bits
channels_made zero bits size = nothing_left bits size
channels_made (suc n) bits size =
    let rest : length (drop 15 (drop 1 bits)) ≡ 16 * n = simp length-drop (omega (arith, size)) in
    ((omega (arith, size)), front-bit bits (omega (arith, size)), (((simp length-drop (omega (arith, size))), refl, (channels_made n (drop 15 (drop 1 bits)) rest))))

is_some-optional : (b : Bool) (bits : List Bool) → is_some (optional_from b bits) ≡ b
is_some-optional true bits = refl
is_some-optional false bits = refl

count-optional : (b : Bool) (bits : List Bool) → count (optional_from b bits) ≡ from_bool b
count-optional true bits = refl
count-optional false bits = refl

length-behind : (b : Bool) (bits : List Bool) → length (behind b bits) ≡ length bits - 8 * from_bool b
length-behind true bits = length-drop 8 bits
length-behind false bits = omega arith

-- a byte that may be absent, and the fields behind it
optional_made : (b : Bool) (fields : List BitField) (bits : List Bool) → 8 * from_bool b ≤ length bits → AreFields fields (behind b bits) → AreFields (optional (optional_from b bits) ++ fields) bits
optional_made true fields bits within are = (within, refl, are)
optional_made false fields bits within are = are

freq_made : (bits : List Bool) (bytes : List ℕ) → length bits ≡ 4 + 8 * length bytes → has_body_length 3 bits (length bytes) ≡ true → IsMade 3 bits (length bytes) (freq_from bits bytes)
freq_made bits bytes size right =
    let tests = and_parts _ _ right in
    let r : Bool = has_restriction bits in
    let g : Bool = has_region bits in
    let enough : from_bool r + from_bool g ≤ length bytes = leb-true _ _ tests.0 in
    let even : (length bytes - (from_bool r + from_bool g)) % 2 ≡ 0 = eqb-true _ _ tests.1 in
    let n : ℕ = (length bytes - (from_bool r + from_bool g)) / 2 in
    let flags : List Bool = drop 1 (drop 1 (drop 1 (drop 1 bits))) in
    let long : length flags ≡ 8 * length bytes = simp length-drop (omega (arith, size)) in
    let last : List Bool = behind g (behind r flags) in
    let all : length last ≡ 16 * n = omega (arith, length-behind g (behind r flags), length-behind r flags, long, enough, even) in
    let room : 8 * from_bool g ≤ length (behind r flags) = omega (arith, length-behind r flags, long, enough) in
    record {
      fields = (
        (omega (arith, size)),
        front-bit bits (omega (arith, size)),
        ((
          (simp length-drop (omega (arith, size))),
          front-bit (drop 1 bits) (simp length-drop (omega (arith, size))),
          ((
            (simp length-drop (omega (arith, size))),
            front-bit (drop 1 (drop 1 bits)) (simp length-drop (omega (arith, size))) ∙ ap from_bool (sym (is_some-optional r flags)),
            ((
              (simp length-drop (omega (arith, size))),
              front-bit (drop 1 (drop 1 (drop 1 bits))) (simp length-drop (omega (arith, size))) ∙ ap from_bool (sym (is_some-optional g (behind r flags))),
              (
                  optional_made r (optional (optional_from g (behind r flags)) ++ channel_fields (channels_from n last)) flags (omega (arith, long, enough)) (optional_made g (channel_fields (channels_from n last)) (behind r flags) room (channels_made n last all))),
            )),
          )),
        )),
      );
      body = tt;
      kind_is = refl;
      size = omega (arith, count-optional r flags, count-optional g (behind r flags), length-channels n last, enough, even);
    }

when_made : (bits : List Bool) (bytes : List ℕ) → length bits ≡ 4 + 8 * length bytes → has_body_length 4 bits (length bytes) ≡ true → IsMade 4 bits (length bytes) (when_from bits)
when_made bits bytes size right =
    let len : length bytes ≡ 4 = eqb-true _ _ right in
    record {
      fields = (
        (omega (arith, size)),
        refl,
        ((
          (simp length-drop (omega (arith, size, len))),
          refl,
          ((
            (simp length-drop (omega (arith, size, len))),
            refl,
            (
                ((simp length-drop (omega (arith, size, len))), refl, (nothing_left (drop 14 (drop 11 (drop 7 (drop 4 bits)))) (simp length-drop (omega (arith, size, len)))))),
          )),
        )),
      );
      body = tt;
      kind_is = refl;
      size = sym len;
    }

sync_made : (bits : List Bool) (bytes : List ℕ) → AreBytes bytes → AreBehind bytes bits → length bits ≡ 4 + 8 * length bytes → 1 ≤ length bytes → in_packets bits ≡ false
    → IsMade 5 bits (length bytes) (sync_from (front 2 bits) (front 2 (drop 2 bits)) (drop 1 (drop 2 (drop 2 bits))) bytes)
sync_made bits bytes small behind size some mode =
    let b5 : List Bool = drop 1 (drop 2 (drop 2 bits)) in
    let rest : drop 3 (drop 1 (drop 3 b5)) ≡ bits_of (drop 1 bytes) = simp drop-drop (byte_behind bytes 1 bits behind) in
    record {
      fields = (
        (omega (arith, size)),
        refl,
        ((
          (simp length-drop (omega (arith, size))),
          refl,
          ((
            (simp length-drop (omega (arith, size, some))),
            front-bit (drop 2 (drop 2 bits)) (simp length-drop (omega (arith, size, some))) ∙ ap from_bool (sym (sym mode)),
            ((
              (simp length-drop (omega (arith, size, some))),
              refl,
              ((
                (simp length-drop (omega (arith, size, some))),
                front-bit (drop 3 b5) (simp length-drop (omega (arith, size, some))),
                (
                    ((simp length-drop (omega (arith, size, some))), refl, (octets_made (drop 1 bytes) (drop 3 (drop 1 (drop 3 b5))) (small_behind bytes 1 small) rest))),
              )),
            )),
          )),
        )),
      );
      body = tt;
      kind_is = refl;
      size = omega (arith, length-drop 1 bytes, some);
    }

packet_made : (bits : List Bool) (bytes : List ℕ) → AreBytes bytes → AreBehind bytes bits → length bits ≡ 4 + 8 * length bytes → 2 ≤ length bytes → in_packets bits ≡ true
    → IsMade 5 bits (length bytes) (packet_from (front 2 bits) (front 2 (drop 2 bits)) (drop 1 (drop 2 (drop 2 bits))) bytes)
packet_made bits bytes small behind size some mode =
    let b5 : List Bool = drop 1 (drop 2 (drop 2 bits)) in
    let b8 : List Bool = drop 2 (drop 1 b5) in
    let rest : drop 8 (drop 3 (drop 1 b8)) ≡ bits_of (drop 2 bytes) = simp drop-drop (byte_behind bytes 2 bits behind) in
    record {
      fields = (
        (omega (arith, size)),
        refl,
        ((
          (simp length-drop (omega (arith, size))),
          refl,
          ((
            (simp length-drop (omega (arith, size, some))),
            front-bit (drop 2 (drop 2 bits)) (simp length-drop (omega (arith, size, some))) ∙ ap from_bool (sym (sym mode)),
            ((
              (simp length-drop (omega (arith, size, some))),
              front-bit b5 (simp length-drop (omega (arith, size, some))),
              ((
                (simp length-drop (omega (arith, size, some))),
                refl,
                ((
                  (simp length-drop (omega (arith, size, some))),
                  front-bit b8 (simp length-drop (omega (arith, size, some))),
                  ((
                    (simp length-drop (omega (arith, size, some))),
                    refl,
                    (
                        ((simp length-drop (omega (arith, size, some))), refl, (octets_made (drop 2 bytes) (drop 8 (drop 3 (drop 1 b8))) (small_behind bytes 2 small) rest))),
                  )),
                )),
              )),
            )),
          )),
        )),
      );
      body = tt;
      kind_is = refl;
      size = omega (arith, length-drop 2 bytes, some);
    }

app_made : (bits : List Bool) (bytes : List ℕ) → AreBytes bytes → AreBehind bytes bits → length bits ≡ 4 + 8 * length bytes → has_body_length 5 bits (length bytes) ≡ true → IsMade 5 bits (length bytes) (app_from bits bytes)
app_made bits bytes small behind size right =
    let tests = and_parts _ _ right in
    let some : 1 ≤ length bytes = leb-true _ _ tests.0 in
    let mode : 1 + from_bool (in_packets bits) ≤ length bytes = leb-true _ _ tests.1 in
    cond_both (in_packets bits) (packet_from (front 2 bits) (front 2 (drop 2 bits)) (drop 1 (drop 2 (drop 2 bits))) bytes) (sync_from (front 2 bits) (front 2 (drop 2 bits)) (drop 1 (drop 2 (drop 2 bits))) bytes)
    (IsMade 5 bits (length bytes))
    (λ yes. packet_made bits bytes small behind size (omega (arith, mode, ap from_bool yes)) yes)
    (λ no. sync_made bits bytes small behind size some no)

time_with_made : (b : Bool) (bits : List Bool) (len : ℕ) → length bits ≡ 4 + 8 * len → len ≡ 3 + from_bool b → IsMade 8 bits len (Time (front 17 bits) (front 5 (drop 17 bits)) (front 6 (drop 5 (drop 17 bits))) (optional_from b (drop 6 (drop 5 (drop 17 bits)))))
time_with_made false bits len size is =
    record {
      fields = (
        (omega (arith, size, is)),
        refl,
        ((
          (simp length-drop (omega (arith, size, is))),
          refl,
          (
              ((simp length-drop (omega (arith, size, is))), refl, (nothing_left (drop 6 (drop 5 (drop 17 bits))) (simp length-drop (omega (arith, size, is)))))),
        )),
      );
      body = tt;
      kind_is = refl;
      size = sym is;
    }
time_with_made true bits len size is =
    record {
      fields = (
        (omega (arith, size, is)),
        refl,
        ((
          (simp length-drop (omega (arith, size, is))),
          refl,
          ((
            (simp length-drop (omega (arith, size, is))),
            refl,
            (
                ((simp length-drop (omega (arith, size, is))), refl, (nothing_left (drop 8 (drop 6 (drop 5 (drop 17 bits)))) (simp length-drop (omega (arith, size, is)))))),
          )),
        )),
      );
      body = tt;
      kind_is = refl;
      size = sym is;
    }

three_or_four : (len : ℕ) → (len ≡ 3) ⊎ (len ≡ 4) → len ≡ 3 + from_bool (nat_eq len 4)
three_or_four len (inl is) = is ∙ sym (ap (λ n. 3 + from_bool (nat_eq n 4)) is)
three_or_four len (inr is) = is ∙ sym (ap (λ n. 3 + from_bool (nat_eq n 4)) is)

time_lengths : (len : ℕ) → (nat_eq len 3 || nat_eq len 4) ≡ true → (len ≡ 3) ⊎ (len ≡ 4)
time_lengths len right = elim (or_cases _ _ right) [ inl e ↦ inl (eqb-true _ _ e) | inr e ↦ inr (eqb-true _ _ e) ]

time_made : (bits : List Bool) (bytes : List ℕ) → length bits ≡ 4 + 8 * length bytes → has_body_length 8 bits (length bytes) ≡ true → IsMade 8 bits (length bytes) (time_from bits bytes)
time_made bits bytes size right = time_with_made (nat_eq (length bytes) 4) bits (length bytes) size (three_or_four (length bytes) (time_lengths (length bytes) right))

audio_made : (bits : List Bool) (bytes : List ℕ) → AreBytes bytes → AreBehind bytes bits → length bits ≡ 4 + 8 * length bytes → has_body_length 9 bits (length bytes) ≡ true → IsMade 9 bits (length bytes) (audio_from bits bytes)
audio_made bits bytes small behind size right =
    let some : 2 ≤ length bytes = leb-true _ _ right in
    let b6 : List Bool = drop 2 (drop 2 (drop 2 bits)) in
    let m : List Bool = audio_middle bits in
    let text : List Bool = drop 3 m in
    let coder : List Bool = drop 1 (drop 1 text) in
    let rest : drop 1 (drop 5 coder) ≡ bits_of (drop 2 bytes) = simp drop-drop (byte_behind bytes 2 bits behind) in
    record {
      fields = (
        (omega (arith, size)),
        refl,
        ((
          (simp length-drop (omega (arith, size))),
          refl,
          ((
            (simp length-drop (omega (arith, size, some))),
            refl,
            ((
              (simp length-drop (omega (arith, size, some))),
              front-bit b6 (simp length-drop (omega (arith, size, some))),
              ((
                (simp length-drop (omega (arith, size, some))),
                refl,
                ((
                  (simp length-drop (omega (arith, size, some))),
                  refl,
                  ((
                    (simp length-drop (omega (arith, size, some))),
                    front-bit text (simp length-drop (omega (arith, size, some))),
                    ((
                      (simp length-drop (omega (arith, size, some))),
                      front-bit (drop 1 text) (simp length-drop (omega (arith, size, some))),
                      ((
                        (simp length-drop (omega (arith, size, some))),
                        refl,
                        (
                            ((simp length-drop (omega (arith, size, some))), front-bit (drop 5 coder) (simp length-drop (omega (arith, size, some))), (octets_made (drop 2 bytes) (drop 1 (drop 5 coder)) (small_behind bytes 2 small) rest))),
                      )),
                    )),
                  )),
                )),
              )),
            )),
          )),
        )),
      );
      body = tt;
      kind_is = refl;
      size = omega (arith, length-drop 2 bytes, some);
    }

next_made : (bits : List Bool) (bytes : List ℕ) → length bits ≡ 4 + 8 * length bytes → has_body_length 10 bits (length bytes) ≡ true → IsMade 10 bits (length bytes) (next_from bits)
next_made bits bytes size right =
    let len : length bytes ≡ 2 = eqb-true _ _ right in
    let depth : List Bool = drop 4 (drop 2 (drop 1 bits)) in
    let rest : List Bool = drop 1 depth in
    record {
      fields = (
        (omega (arith, size)),
        front-bit bits (omega (arith, size)),
        ((
          (simp length-drop (omega (arith, size, len))),
          refl,
          ((
            (simp length-drop (omega (arith, size, len))),
            refl,
            ((
              (simp length-drop (omega (arith, size, len))),
              front-bit depth (simp length-drop (omega (arith, size, len))),
              ((
                (simp length-drop (omega (arith, size, len))),
                refl,
                ((
                  (simp length-drop (omega (arith, size, len))),
                  front-bit (drop 2 rest) (simp length-drop (omega (arith, size, len))),
                  ((
                    (simp length-drop (omega (arith, size, len))),
                    refl,
                    (
                        ((simp length-drop (omega (arith, size, len))), refl, (nothing_left (drop 5 (drop 4 (drop 1 (drop 2 rest)))) (simp length-drop (omega (arith, size, len)))))),
                  )),
                )),
              )),
            )),
          )),
        )),
      );
      body = tt;
      kind_is = refl;
      size = sym len;
    }

language_made : (bits : List Bool) (bytes : List ℕ) → length bits ≡ 4 + 8 * length bytes → has_body_length 12 bits (length bytes) ≡ true → IsMade 12 bits (length bytes) (language_from bits)
language_made bits bytes size right =
    let len : length bytes ≡ 5 = eqb-true _ _ right in
    let rest : List Bool = drop 2 (drop 2 bits) in
    record {
      fields = (
        (omega (arith, size)),
        refl,
        ((
          (simp length-drop (omega (arith, size))),
          refl,
          ((
            (simp length-drop (omega (arith, size, len))),
            refl,
            (
                ((simp length-drop (omega (arith, size, len))), refl, (nothing_left (drop 16 (drop 24 rest)) (simp length-drop (omega (arith, size, len)))))),
          )),
        )),
      );
      body = tt;
      kind_is = refl;
      size = sym len;
    }

raw_made : (kind : ℕ) (bits : List Bool) (bytes : List ℕ) → AreBytes bytes → AreBehind bytes bits → length bits ≡ 4 + 8 * length bytes → is_typed kind ≡ false → IsMade kind bits (length bytes) (raw_from kind bits bytes)
raw_made kind bits bytes small behind size raw =
    record {
      fields = ((omega (arith, size)), refl, (octets_made bytes (drop 4 bits) small behind));
      body = raw;
      kind_is = refl;
      size = refl;
    }

abbrev Claim : ℕ → Type 0
Claim k = (bits : List Bool) (bytes : List ℕ) → AreBytes bytes → AreBehind bytes bits → length bits ≡ 4 + 8 * length bytes → has_body_length k bits (length bytes) ≡ true → (k ≡ 1 → IsUtf8 bytes) → IsMade k bits (length bytes) (body_from k bits bytes)

pub body_made : (k : ℕ) → k < 16 → Claim k
body_made zero below bits bytes small at size right text = mux_made bits bytes size right
body_made (suc zero) below bits bytes small at size right text = label_made bits bytes small at size (text refl)
body_made (suc (suc zero)) below bits bytes small at size right text = raw_made 2 bits bytes small at size refl
body_made (suc (suc (suc zero))) below bits bytes small at size right text = freq_made bits bytes size right
body_made (suc (suc (suc (suc zero)))) below bits bytes small at size right text = when_made bits bytes size right
body_made (suc (suc (suc (suc (suc zero))))) below bits bytes small at size right text = app_made bits bytes small at size right
body_made (suc (suc (suc (suc (suc (suc zero)))))) below bits bytes small at size right text = raw_made 6 bits bytes small at size refl
body_made (suc (suc (suc (suc (suc (suc (suc zero))))))) below bits bytes small at size right text = raw_made 7 bits bytes small at size refl
body_made (suc (suc (suc (suc (suc (suc (suc (suc zero)))))))) below bits bytes small at size right text = time_made bits bytes size right
body_made (suc (suc (suc (suc (suc (suc (suc (suc (suc zero))))))))) below bits bytes small at size right text = audio_made bits bytes small at size right
body_made (suc (suc (suc (suc (suc (suc (suc (suc (suc (suc zero)))))))))) below bits bytes small at size right text = next_made bits bytes size right
body_made (suc (suc (suc (suc (suc (suc (suc (suc (suc (suc (suc zero))))))))))) below bits bytes small at size right text = raw_made 11 bits bytes small at size refl
body_made (suc (suc (suc (suc (suc (suc (suc (suc (suc (suc (suc (suc zero)))))))))))) below bits bytes small at size right text = language_made bits bytes size right
body_made (suc (suc (suc (suc (suc (suc (suc (suc (suc (suc (suc (suc (suc zero))))))))))))) below bits bytes small at size right text = raw_made 13 bits bytes small at size refl
body_made (suc (suc (suc (suc (suc (suc (suc (suc (suc (suc (suc (suc (suc (suc zero)))))))))))))) below bits bytes small at size right text = raw_made 14 bits bytes small at size refl
body_made (suc (suc (suc (suc (suc (suc (suc (suc (suc (suc (suc (suc (suc (suc (suc zero))))))))))))))) below bits bytes small at size right text = raw_made 15 bits bytes small at size refl
body_made (suc (suc (suc (suc (suc (suc (suc (suc (suc (suc (suc (suc (suc (suc (suc (suc k)))))))))))))))) below bits bytes small at size right text = absurd (omega (arith, below))
