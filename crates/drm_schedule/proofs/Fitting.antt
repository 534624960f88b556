-- The entities that lines give can be written, and have few bytes.
use Rattle.std.proofs.Common.{◌≡◌, ℕ, suc, ◌*◌, ◌<◌, ◌≤◌, ◌^◌, Bool, true, false, List, [], ◌∷◌, length, get_or, Option, Some, None, is_some, All, IfSome, IsTrue, ◌==◌, refl, sym, ap, subst, inl, inr, lit<, arith}
use Rattle.std.proofs.lemmas.Bool.{or_cases, eqb-true}
use Rattle.std.specs.Int.{from_bool}
use Rattle.drm_bits.specs.Bits.{IsBytes}
use Rattle.drm_bits.specs.Fields.{AllFit}
use Rattle.drm_sdc.specs.declared.channels.Channel15.{Channel15}
use Rattle.drm_sdc.specs.declared.body.AppMode.{AppMode}
use Rattle.drm_sdc.specs.declared.body.AppMode.TheVariants.{Sync, Packet}
use Rattle.drm_sdc.specs.declared.body.Body.{Body}
use Rattle.drm_sdc.specs.declared.body.Body.TheVariants.{Mux, Label, Freq, When, App, Time, Audio, Next, Language, Raw}
use Rattle.drm_sdc.specs.declared.entity.Entity.{Entity}
use Rattle.drm_sdc.specs.Bodies.{octets, optional, channel_fields, is_typed, count}
use Rattle.drm_sdc.specs.Entity.{BodyFits, EntityFits, entity_size}
use Rattle.drm_sdc.specs.Writing.{total_size}
use Rattle.drm_schedule.specs.Ranges.{BodyInLines, AppInLines, EntityInLines, is_raw_kind}
use Rattle.drm_schedule.proofs.Utf8Bytes.{fit_append, utf8_fits}

flag_fits : (b : Bool) → from_bool b < 2 ^ 1
flag_fits true = omega arith
flag_fits false = omega arith

octets_fit : (bytes : List ℕ) → IsBytes bytes → AllFit (octets bytes)
octets_fit [] small = tt
octets_fit (b ∷ bytes) small = (small 0, octets_fit bytes (λ i. small (suc i)))

optional_fits : (byte : Option ℕ) → IfSome byte (λ b. b < 2 ^ 8) → AllFit (optional byte)
optional_fits None small = tt
optional_fits (Some b) small = (small, tt)

one_at_most : (byte : Option ℕ) → count byte ≤ 1
one_at_most None = omega arith
one_at_most (Some b) = omega arith

channels_fit : (cs : List Channel15) → All (λ (c : Channel15). c.number < 2 ^ 15) cs → AllFit (channel_fields cs)
channels_fit [] each = tt
channels_fit (c ∷ cs) each = (flag_fits c.first, (each 0 c (omega arith), channels_fit cs (λ k d within. each (suc k) d (omega arith))))

app_fits : (short stream domain : ℕ) (packet : AppMode) (enhancement : Bool) (bytes : List ℕ) → short < 2 ^ 2 → stream < 2 ^ 2 → domain < 2 ^ 3 → AppInLines packet bytes → BodyFits (App short stream packet enhancement domain bytes)
app_fits short stream domain (Sync spare) enhancement bytes s t d h = record {
  fields = (omega (arith, h.1.0), (omega arith, (s, (t, (flag_fits false, (omega (arith, h.0), (flag_fits enhancement, (d, octets_fit bytes h.1.1))))))));
  body = tt;
}
app_fits short stream domain (Packet unit pid length) enhancement bytes s t d h = record {
  fields = (omega (arith, h.2.0), (omega arith, (s, (t, (flag_fits true, (flag_fits unit, (h.0, (flag_fits enhancement, (d, (h.1, octets_fit bytes h.2.1))))))))));
  body = tt;
}

-- what holds of a number holds of one that equals it
of_value : (n kind : ℕ) → n < 16 → is_typed n ≡ false → (kind == n) ≡ true → (kind < 16) × (is_typed kind ≡ false)
of_value n kind small untyped is =
    let same : n ≡ kind = sym (eqb-true kind n is) in
    let P : ℕ → Type 0 = λ k. (k < 16) × (is_typed k ≡ false) in
    subst P same (small, untyped)

raw_kind_fits : (kind : ℕ) → IsTrue (is_raw_kind kind) → (kind < 16) × (is_typed kind ≡ false)
raw_kind_fits kind h = elim (or_cases _ _ h) [
  | inr is ↦ of_value 15 kind (lit< tt) refl is
  | inl h ↦ elim (or_cases _ _ h) [
    | inr is ↦ of_value 14 kind (lit< tt) refl is
    | inl h ↦ elim (or_cases _ _ h) [
      | inr is ↦ of_value 13 kind (lit< tt) refl is
      | inl h ↦ elim (or_cases _ _ h) [
        | inr is ↦ of_value 11 kind (lit< tt) refl is
        | inl h ↦ elim (or_cases _ _ h) [
          | inr is ↦ of_value 7 kind (lit< tt) refl is
          | inl h ↦ elim (or_cases _ _ h) [ inr is ↦ of_value 6 kind (lit< tt) refl is | inl is ↦ of_value 2 kind (lit< tt) refl is ]
        ]
      ]
    ]
  ]
]

pub body_fits : (b : Body) → BodyInLines b → BodyFits b
body_fits (Mux desc) h = absurd h
body_fits (Label short spare text) h = record { fields = (omega (arith, h.2.short), (omega arith, (h.0, (omega (arith, h.1), utf8_fits text h.2.utf8)))); body = h.2.utf8 }
body_fits (Freq sync layer restriction region list) h = record {
  fields = (
    omega (arith, one_at_most restriction, one_at_most region, h.3),
    (
      omega arith,
      (
        flag_fits sync,
        (
          flag_fits layer,
          (
            flag_fits (is_some restriction),
            (
              flag_fits (is_some region),
              fit_append (optional restriction) _ (optional_fits restriction h.0) (fit_append (optional region) (channel_fields list) (optional_fits region h.1) (channels_fit list h.4)),
            ),
          ),
        ),
      ),
    ),
  );
  body = tt;
}
body_fits (When id day start duration) h = record { fields = (omega arith, (omega arith, (h.0, (h.1, (h.2, (h.3, tt)))))); body = tt }
body_fits (App short stream packet enhancement domain bytes) h = app_fits short stream domain packet enhancement bytes h.0 h.1 h.2 h.3
body_fits (Time mjd hours minutes extra) h = absurd h
body_fits (Audio short stream coding sbr mode rate text enhancement coder spare config) h = record {
  fields = (
    omega (arith, h.7.0),
    (
      omega arith,
      (h.0, (h.1, (h.2, (flag_fits sbr, (h.3, (h.4, (flag_fits text, (flag_fits enhancement, (h.5, (flag_fits spare, octets_fit config h.7.1)))))))))),
    ),
  );
  body = tt;
}
body_fits (Next enhancement mode occupancy short_depth msc qam4 services last) h = absurd h
body_fits (Language short spare language country) h = record { fields = (omega arith, (omega arith, (h.0, (omega (arith, h.1), (h.2, (h.3, tt)))))); body = tt }
body_fits (Raw kind nibble bytes) h = let k = raw_kind_fits kind h.0 in record { fields = (omega (arith, h.2.0), (k.0, (h.1, octets_fit bytes h.2.1))); body = k.1 }

pub entity_fits : (e : Entity) → EntityInLines e → EntityFits e
entity_fits e h =
    let b : BodyFits e.body = body_fits e.body h.body_fits in
    record { fields = (b.fields.0, (flag_fits e.version, b.fields.1)); body = b.body; not_empty = λ is. subst BodyInLines (ap (λ (e : Entity). e.body) is) h.body_fits }

pub few_bytes : (e : Entity) → EntityInLines e → entity_size e < 130
few_bytes e h = omega (arith, (body_fits e.body h.body_fits).fields.0)

pub all_fit : (entities : List Entity) → All EntityInLines entities → All EntityFits entities
all_fit entities each k d within = entity_fits (get_or entities k d) (each k d within)

pub total_is_small : (entities : List Entity) → All EntityInLines entities → total_size entities ≤ 129 * length entities
total_is_small [] each = omega arith
total_is_small (e ∷ entities) each =
    omega (arith, few_bytes e (each 0 e (omega arith)), total_is_small entities (λ k d within. each (suc k) d (omega arith)))
