-- Bits have one body of each type: the one that is read from them.
use Rattle.std.proofs.Common.{◌≡◌, ℕ, ◌+◌, ◌-◌, ◌*◌, ◌/◌, nat_eq, Bool, true, false, List, [], ◌∷◌, length, drop, Option, None, Some, is_some, refl, sym, ◌∙◌, ap, subst, arith, cond}
use Rattle.std.proofs.lemmas.List.{drop-drop, get_or-drop}
use Rattle.std.specs.Int.{from_bool}
use Rattle.drm_bits.specs.Bits.{bits_of, front, bit}
use Rattle.drm_bits.specs.Fields.{AreFields}
use Rattle.drm_bits.specs.Description.{IsDescription, description_fields, description_from}
use Rattle.drm_bits.specs.declared.description.MuxDesc.{MuxDesc}
use Rattle.drm_sdc.specs.declared.channels.Channel15.{Channel15}
use Rattle.drm_sdc.specs.declared.body.AppMode.{AppMode}
use Rattle.drm_sdc.specs.declared.body.AppMode.TheVariants.{Sync, Packet}
use Rattle.drm_sdc.specs.declared.body.Body.{Body}
use Rattle.drm_sdc.specs.declared.body.Body.TheVariants.{Mux, Label, Freq, When, App, Time, Audio, Next, Language, Raw}
use Rattle.drm_sdc.specs.Bodies.{octets, channel_fields, body_fields, kind_of, count, body_length, is_typed, IsBody}
use Rattle.drm_sdc.specs.Reading.{mux_from, label_from, optional_from, behind, channels_from, has_restriction, has_region, freq_from, when_from, in_packets, sync_from, packet_from, app_from, time_from, audio_middle, audio_from, next_from, language_from, raw_from, typed_from, body_from}
use Rattle.drm_bits.proofs.ByteBits.{bits_of-drop}
use Rattle.drm_bits.proofs.PartLemmas.{description_again}
use Rattle.drm_sdc.proofs.FieldLaws.{AreBytes, flag_again, octets_again}

-- Bytes behind the first four bits. They are cut off in pieces, as they are read.
abbrev pub AreBehind : List ℕ → List Bool → Type 0
AreBehind bytes bits = drop 4 bits ≡ bits_of bytes

octets_behind : (xs bytes : List ℕ) (rest : List Bool) → AreBytes bytes → rest ≡ bits_of bytes → AreFields (octets xs) rest → xs ≡ bytes
octets_behind xs bytes rest small is are = octets_again xs bytes small (subst (AreFields (octets xs)) is are)

third : (n len : ℕ) → 3 * n ≡ len → n ≡ len / 3
third n len is = omega arith

mux_again : (d : MuxDesc) (bits : List Bool) (bytes : List ℕ) → IsDescription d → 3 * d.count ≡ length bytes → AreFields (description_fields d) bits → Mux d ≡ mux_from bits bytes
mux_again d bits bytes is size are =
    ap Mux (description_again d bits is are) ∙ ap (λ n. Mux (description_from n bits)) (third d.count (length bytes) size)

label_again : (short spare : ℕ) (text : List ℕ) (bits : List Bool) (bytes : List ℕ) → AreBytes bytes → AreBehind bytes bits → AreFields (body_fields (Label short spare text)) bits → Label short spare text ≡ label_from bits bytes
label_again short spare text bits bytes small behind are =
    let e = octets_behind text bytes (drop 2 (drop 2 bits)) small (drop-drop 2 2 bits ∙ behind) are.2.2 in
    cc (are.1, are.2.1, e)

channels_again : (list : List Channel15) (bits : List Bool) → AreFields (channel_fields list) bits → list ≡ channels_from (length list) bits
channels_again [] bits are = refl
channels_again (c ∷ list) bits are =
    let a : c.first ≡ bit bits = flag_again c.first bits are.1 in
    let b : c.number ≡ front 15 (drop 1 bits) = sym are.2.1 in
    let rest = channels_again list (drop 15 (drop 1 bits)) are.2.2 in
    ap (λ (l : List Channel15). c ∷ l) rest
    ∙ (ap (λ (n : Bool). record { first = n; number = c.number } ∷ channels_from (length list) (drop 15 (drop 1 bits))) a
    ∙ ap (λ n. record { first = bit bits; number = n } ∷ channels_from (length list) (drop 15 (drop 1 bits))) b)

half : (n parts len : ℕ) → parts + 2 * n ≡ len → n ≡ (len - parts) / 2
half n parts len is = omega arith

abbrev freq_with : Bool → Bool → List Bool → List ℕ → Body
freq_with r g bits bytes =
    let flags : List Bool = drop 1 (drop 1 (drop 1 (drop 1 bits))) in
    Freq (bit bits) (bit (drop 1 bits)) (optional_from r flags) (optional_from g (behind r flags)) (channels_from ((length bytes - (from_bool r + from_bool g)) / 2) (behind g (behind r flags)))

freq_fields : (sync layer : Bool) (r g : Option ℕ) (list : List Channel15) (bits : List Bool) (bytes : List ℕ) → count r + count g + 2 * length list ≡ length bytes → AreFields (body_fields (Freq sync layer r g list)) bits
    → Freq sync layer r g list ≡ freq_with (is_some r) (is_some g) bits bytes
freq_fields sync layer None None list bits bytes size are =
    let a = flag_again sync bits are.1 in
    let b = flag_again layer (drop 1 bits) are.2.1 in
    let n = half (length list) 0 (length bytes) (omega (arith, size)) in
    let l = channels_again list (drop 1 (drop 1 (drop 1 (drop 1 bits)))) are.2.2.2.2 ∙ ap (λ m. channels_from m (drop 1 (drop 1 (drop 1 (drop 1 bits))))) n in
    cc (a, b, l)
freq_fields sync layer None (Some y) list bits bytes size are =
    let a = flag_again sync bits are.1 in
    let b = flag_again layer (drop 1 bits) are.2.1 in
    let n = half (length list) 1 (length bytes) (omega (arith, size)) in
    let l = channels_again list (drop 8 (drop 1 (drop 1 (drop 1 (drop 1 bits))))) are.2.2.2.2.2 ∙ ap (λ m. channels_from m (drop 8 (drop 1 (drop 1 (drop 1 (drop 1 bits)))))) n in
    cc (a, b, l, are.2.2.2.2.1)
freq_fields sync layer (Some x) None list bits bytes size are =
    let a = flag_again sync bits are.1 in
    let b = flag_again layer (drop 1 bits) are.2.1 in
    let n = half (length list) 1 (length bytes) (omega (arith, size)) in
    let l = channels_again list (drop 8 (drop 1 (drop 1 (drop 1 (drop 1 bits))))) are.2.2.2.2.2 ∙ ap (λ m. channels_from m (drop 8 (drop 1 (drop 1 (drop 1 (drop 1 bits)))))) n in
    cc (a, b, l, are.2.2.2.2.1)
freq_fields sync layer (Some x) (Some y) list bits bytes size are =
    let a = flag_again sync bits are.1 in
    let b = flag_again layer (drop 1 bits) are.2.1 in
    let n = half (length list) 2 (length bytes) (omega (arith, size)) in
    let l = channels_again list (drop 8 (drop 8 (drop 1 (drop 1 (drop 1 (drop 1 bits)))))) are.2.2.2.2.2.2 ∙ ap (λ m. channels_from m (drop 8 (drop 8 (drop 1 (drop 1 (drop 1 (drop 1 bits))))))) n in
    cc (a, b, l, are.2.2.2.2.1, are.2.2.2.2.2.1)

freq_again : (sync layer : Bool) (r g : Option ℕ) (list : List Channel15) (bits : List Bool) (bytes : List ℕ) → count r + count g + 2 * length list ≡ length bytes → AreFields (body_fields (Freq sync layer r g list)) bits
    → Freq sync layer r g list ≡ freq_from bits bytes
freq_again sync layer r g list bits bytes size are =
    let is_r : is_some r ≡ has_restriction bits = flag_again (is_some r) (drop 1 (drop 1 bits)) are.2.2.1 in
    let is_g : is_some g ≡ has_region bits = flag_again (is_some g) (drop 1 (drop 1 (drop 1 bits))) are.2.2.2.1 in
    freq_fields sync layer r g list bits bytes size are
    ∙ (ap (λ (b : Bool). freq_with b (is_some g) bits bytes) is_r ∙ ap (λ (b : Bool). freq_with (has_restriction bits) b bits bytes) is_g)

when_again : (id day start duration : ℕ) (bits : List Bool) → AreFields (body_fields (When id day start duration)) bits → When id day start duration ≡ when_from bits
when_again id day start duration bits are = cc (are.1, are.2.1, are.2.2.1, are.2.2.2.1)

pub byte_behind : (bytes : List ℕ) (k : ℕ) (bits : List Bool) → AreBehind bytes bits → drop (4 + 8 * k) bits ≡ bits_of (drop k bytes)
byte_behind bytes k bits is = sym (drop-drop (8 * k) 4 bits) ∙ (ap (drop (8 * k)) is ∙ sym (bits_of-drop k bytes))

pub small_behind : (bytes : List ℕ) (k : ℕ) → AreBytes bytes → AreBytes (drop k bytes)
small_behind bytes k small i = rw (get_or-drop k bytes i 0) (small (k + i))

app_fields : (short stream : ℕ) (mode : AppMode) (enhancement : Bool) (domain : ℕ) (xs : List ℕ) (bits : List Bool) (bytes : List ℕ) → AreBytes bytes → AreBehind bytes bits → AreFields (body_fields (App short stream mode enhancement domain xs)) bits
    → App short stream mode enhancement domain xs ≡ app_from bits bytes
app_fields short stream (Sync spare) enhancement domain xs bits bytes small behind are =
    let mode : in_packets bits ≡ false = sym (flag_again false (drop 2 (drop 2 bits)) are.2.2.1) in
    let b5 : List Bool = drop 1 (drop 2 (drop 2 bits)) in
    let e = flag_again enhancement (drop 3 b5) are.2.2.2.2.1 in
    let rest : drop 3 (drop 1 (drop 3 b5)) ≡ bits_of (drop 1 bytes) = simp drop-drop (byte_behind bytes 1 bits behind) in
    let o = octets_behind xs (drop 1 bytes) (drop 3 (drop 1 (drop 3 b5))) (small_behind bytes 1 small) rest are.2.2.2.2.2.2 in
    let s : App short stream (Sync spare) enhancement domain xs ≡ sync_from (front 2 bits) (front 2 (drop 2 bits)) b5 bytes = cc (are.1, are.2.1, are.2.2.2.1, e, are.2.2.2.2.2.1, o) in
    s ∙ ap (λ (b : Bool). cond b (packet_from (front 2 bits) (front 2 (drop 2 bits)) b5 bytes) (sync_from (front 2 bits) (front 2 (drop 2 bits)) b5 bytes)) (sym mode)
app_fields short stream (Packet unit pid len) enhancement domain xs bits bytes small behind are =
    let mode : in_packets bits ≡ true = sym (flag_again true (drop 2 (drop 2 bits)) are.2.2.1) in
    let b5 : List Bool = drop 1 (drop 2 (drop 2 bits)) in
    let u = flag_again unit b5 are.2.2.2.1 in
    let e = flag_again enhancement (drop 2 (drop 1 b5)) are.2.2.2.2.2.1 in
    let rest : drop 8 (drop 3 (drop 1 (drop 2 (drop 1 b5)))) ≡ bits_of (drop 2 bytes) = simp drop-drop (byte_behind bytes 2 bits behind) in
    let o = octets_behind xs (drop 2 bytes) (drop 8 (drop 3 (drop 1 (drop 2 (drop 1 b5))))) (small_behind bytes 2 small) rest are.2.2.2.2.2.2.2.2 in
    let s : App short stream (Packet unit pid len) enhancement domain xs ≡ packet_from (front 2 bits) (front 2 (drop 2 bits)) b5 bytes = cc (are.1, are.2.1, u, are.2.2.2.2.1, e, are.2.2.2.2.2.2.1, are.2.2.2.2.2.2.2.1, o) in
    s ∙ ap (λ (b : Bool). cond b (packet_from (front 2 bits) (front 2 (drop 2 bits)) b5 bytes) (sync_from (front 2 bits) (front 2 (drop 2 bits)) b5 bytes)) (sym mode)

abbrev time_with : Bool → List Bool → Body
time_with b bits = Time (front 17 bits) (front 5 (drop 17 bits)) (front 6 (drop 5 (drop 17 bits))) (optional_from b (drop 6 (drop 5 (drop 17 bits))))

time_again : (mjd hours minutes : ℕ) (extra : Option ℕ) (bits : List Bool) (bytes : List ℕ) → 3 + count extra ≡ length bytes → AreFields (body_fields (Time mjd hours minutes extra)) bits → Time mjd hours minutes extra ≡ time_from bits bytes
time_again mjd hours minutes None bits bytes size are =
    let s : Time mjd hours minutes None ≡ time_with false bits = cc (are.1, are.2.1, are.2.2.1) in
    s ∙ ap (λ n. time_with (nat_eq n 4) bits) size
time_again mjd hours minutes (Some x) bits bytes size are =
    let s : Time mjd hours minutes (Some x) ≡ time_with true bits = cc (are.1, are.2.1, are.2.2.1, are.2.2.2.1) in
    s ∙ ap (λ n. time_with (nat_eq n 4) bits) size

audio_again : (short stream coding : ℕ) (sbr : Bool) (mode rate : ℕ) (text enhancement : Bool) (coder : ℕ) (spare : Bool) (config : List ℕ) (bits : List Bool) (bytes : List ℕ) → AreBytes bytes → AreBehind bytes bits
    → AreFields (body_fields (Audio short stream coding sbr mode rate text enhancement coder spare config)) bits → Audio short stream coding sbr mode rate text enhancement coder spare config ≡ audio_from bits bytes
audio_again short stream coding sbr mode rate text enhancement coder spare config bits bytes small behind are =
    let a = flag_again sbr (drop 2 (drop 2 (drop 2 bits))) are.2.2.2.1 in
    let m : List Bool = audio_middle bits in
    let b = flag_again text (drop 3 m) are.2.2.2.2.2.2.1 in
    let e = flag_again enhancement (drop 1 (drop 3 m)) are.2.2.2.2.2.2.2.1 in
    let s = flag_again spare (drop 5 (drop 1 (drop 1 (drop 3 m)))) are.2.2.2.2.2.2.2.2.2.1 in
    let rest : drop 1 (drop 5 (drop 1 (drop 1 (drop 3 m)))) ≡ bits_of (drop 2 bytes) = simp drop-drop (byte_behind bytes 2 bits behind) in
    let o = octets_behind config (drop 2 bytes) (drop 1 (drop 5 (drop 1 (drop 1 (drop 3 m))))) (small_behind bytes 2 small) rest are.2.2.2.2.2.2.2.2.2.2 in
    cc (are.1, are.2.1, are.2.2.1, a, are.2.2.2.2.1, are.2.2.2.2.2.1, b, e, are.2.2.2.2.2.2.2.2.1, s, o)

next_again : (enhancement : Bool) (mode occupancy : ℕ) (short_depth : Bool) (msc : ℕ) (qam4 : Bool) (services last : ℕ) (bits : List Bool) → AreFields (body_fields (Next enhancement mode occupancy short_depth msc qam4 services last)) bits
    → Next enhancement mode occupancy short_depth msc qam4 services last ≡ next_from bits
next_again enhancement mode occupancy short_depth msc qam4 services last bits are =
    let e = flag_again enhancement bits are.1 in
    let d = flag_again short_depth (drop 4 (drop 2 (drop 1 bits))) are.2.2.2.1 in
    let q = flag_again qam4 (drop 2 (drop 1 (drop 4 (drop 2 (drop 1 bits))))) are.2.2.2.2.2.1 in
    cc (e, are.2.1, are.2.2.1, d, are.2.2.2.2.1, q, are.2.2.2.2.2.2.1, are.2.2.2.2.2.2.2.1)

language_again : (short spare language country : ℕ) (bits : List Bool) → AreFields (body_fields (Language short spare language country)) bits → Language short spare language country ≡ language_from bits
language_again short spare language country bits are = cc (are.1, are.2.1, are.2.2.1, are.2.2.2.1)

raw_again : (kind nibble : ℕ) (xs : List ℕ) (bits : List Bool) (bytes : List ℕ) → AreBytes bytes → AreBehind bytes bits → is_typed kind ≡ false → AreFields (body_fields (Raw kind nibble xs)) bits → Raw kind nibble xs ≡ body_from kind bits bytes
raw_again kind nibble xs bits bytes small behind raw are =
    let o = octets_behind xs bytes (drop 4 bits) small behind are.2 in
    let s : Raw kind nibble xs ≡ raw_from kind bits bytes = cc (are.1, o) in
    s ∙ ap (λ (b : Bool). cond b (typed_from kind bits bytes) (raw_from kind bits bytes)) (sym raw)

-- The body is the one that is read for its type.
pub body_again : (b : Body) (bits : List Bool) (bytes : List ℕ) → AreBytes bytes → AreBehind bytes bits → IsBody b → body_length b ≡ length bytes → AreFields (body_fields b) bits → b ≡ body_from (kind_of b) bits bytes
body_again (Mux desc) bits bytes small behind is size are = mux_again desc bits bytes is size are
body_again (Label short spare text) bits bytes small behind is size are = label_again short spare text bits bytes small behind are
body_again (Freq sync layer restriction region list) bits bytes small behind is size are = freq_again sync layer restriction region list bits bytes size are
body_again (When id day start duration) bits bytes small behind is size are = when_again id day start duration bits are
body_again (App short stream packet enhancement domain xs) bits bytes small behind is size are = app_fields short stream packet enhancement domain xs bits bytes small behind are
body_again (Time mjd hours minutes extra) bits bytes small behind is size are = time_again mjd hours minutes extra bits bytes size are
body_again (Audio short stream coding sbr mode rate text enhancement coder spare config) bits bytes small behind is size are =
    audio_again short stream coding sbr mode rate text enhancement coder spare config bits bytes small behind are
body_again (Next enhancement mode occupancy short_depth msc qam4 services last) bits bytes small behind is size are =
    next_again enhancement mode occupancy short_depth msc qam4 services last bits are
body_again (Language short spare language country) bits bytes small behind is size are = language_again short spare language country bits are
body_again (Raw kind nibble xs) bits bytes small behind is size are = raw_again kind nibble xs bits bytes small behind is are
