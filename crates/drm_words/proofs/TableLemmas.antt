-- The request that is read is the one of the table.
use Rattle.std.proofs.Common.{◌≡◌, ℕ, Bool, true, false, cond, List, [], ◌∷◌, length, arith, Option, Some, refl, sym, ◌∙◌, subst}
use Rattle.std.specs.Prelude.{codes, option_and_then}
use Rattle.std.specs.Str.{bytes_eq}
use Rattle.std.proofs.lemmas.Option.{same_Some, cond_some}
use Rattle.std.proofs.lemmas.List.{nil_from_length}
use Rattle.std.proofs.lemmas.Bool.Decides.{nat_tests}
use Rattle.std.proofs.lemmas.Slice.Eq.{bytes_eq-Decides}
use Rattle.drm_links.specs.declared.dock.Address.{Address}
use Rattle.drm_schedule.specs.declared.live.Live.{Live}
use Rattle.dcp_pft.specs.declared.carry.Carry.{Carry}
use Rattle.drm_words.specs.declared.request.Request.{Request}
use Rattle.drm_words.specs.declared.request.Request.TheVariants.{Fac, Check, Capacity, Agree, Serve, Receive, Count, Air, Show, Convert, Exercise, Gate, Pack, Unpack, Texts}
use Rattle.cli_syntax.specs.Reading.{within}
use Rattle.cli_syntax.specs.Addressing.{address_of, addresses_of, carry_of}
use Rattle.drm_words.specs.declared.options.PacketOptions.{PacketOptions}
use Rattle.drm_words.specs.declared.options.ReadingOptions.{ReadingOptions}
use Rattle.drm_words.specs.Table.{CommandOptions, AreOf, IsRequest, serve_names, packet_names, reading_names}
use Rattle.drm_words.specs.Asking.{addresses_or_none, address_or_none, window_of, packets_of, reading_of, pace_of, from_of, until_of, to_of, live_option, is_bare, bare_of, check_of, capacity_of, agree_of, serve_asked, serve_of, receive_with, receive_of, count_with, count_of, air_with, air_of, convert_with, convert_of, exercise_with, exercise_of, gate_with, gate_of, pack_with, pack_of, unpack_with, unpack_of, texts_with, texts_of, request_of, asked_packets, asked_reading}
use Rattle.cli_syntax.proofs.OptionLemmas.{stepped}
use Rattle.cli_syntax.proofs.NumberLemmas.{within_fits, within_is}
use Rattle.cli_syntax.proofs.CarryLemmas.{carry_fits, carry_is}
use Rattle.cli_syntax.proofs.AddressLemmas.{address_fits, address_is, addresses_fit, addresses_are}
use Rattle.drm_words.proofs.OptionsLemmas.{addresses_or_none_fit, addresses_or_none_are, address_or_none_fits, address_or_none_is, with_fits, with_is, none_of, window_fits, window_is, stretch_fits, stretch_is, reading_fits, reading_is, pace_fits, pace_is, from_fits, from_is, until_fits, until_is, to_fits, to_is, live_option_fits, live_option_is}

bare_fits : (asked : Request) (texts : List (List ℕ)) (options : CommandOptions) (r : Request) → bare_of asked texts options ≡ Some r → (texts ≡ []) × (options ≡ []) × (asked ≡ r)
bare_fits asked texts options r e =
    let p = cond_some (is_bare texts options) asked r e in
    let t = p.0 in
    let no_texts : length texts ≡ 0 = grind (arith, nat_tests) in
    let no_options : length options ≡ 0 = grind (arith, nat_tests) in
    (nil_from_length texts no_texts, nil_from_length options no_options, p.1)

fac_fits : (texts : List (List ℕ)) (options : CommandOptions) (r : Request) → bare_of Fac texts options ≡ Some r → IsRequest r (codes "fac") texts options
fac_fits texts options r e =
    let p = bare_fits Fac texts options r e in
    subst (λ (x : Request). IsRequest x (codes "fac") texts options) p.2 (refl, p.0, subst (λ (o : CommandOptions). AreOf [] o) (sym p.1) tt)

show_fits : (texts : List (List ℕ)) (options : CommandOptions) (r : Request) → bare_of Show texts options ≡ Some r → IsRequest r (codes "show") texts options
show_fits texts options r e =
    let p = bare_fits Show texts options r e in
    subst (λ (x : Request). IsRequest x (codes "show") texts options) p.2 (refl, p.0, subst (λ (o : CommandOptions). AreOf [] o) (sym p.1) tt)

check_fits : (texts : List (List ℕ)) (options : CommandOptions) (r : Request) → check_of texts options ≡ Some r → IsRequest r (codes "check") texts options
unfolding check_of
check_fits [] options r e = absurd cc
check_fits (name ∷ []) options r e =
    let w = with_fits [] options (Some (Check name)) r e in
    subst (λ (x : Request). IsRequest x (codes "check") (name ∷ []) options) (same_Some (Check name) r w.1) (refl, refl, w.0)
check_fits (name ∷ other ∷ more) options r e = absurd cc

capacity_fits : (texts : List (List ℕ)) (options : CommandOptions) (r : Request) → capacity_of texts options ≡ Some r → IsRequest r (codes "capacity") texts options
unfolding capacity_of
capacity_fits [] options r e = absurd cc
capacity_fits (name ∷ []) options r e =
    let w = with_fits [] options (Some (Capacity name)) r e in
    subst (λ (x : Request). IsRequest x (codes "capacity") (name ∷ []) options) (same_Some (Capacity name) r w.1) (refl, refl, w.0)
capacity_fits (name ∷ other ∷ more) options r e = absurd cc

agree_fits : (texts : List (List ℕ)) (options : CommandOptions) (r : Request) → agree_of texts options ≡ Some r → IsRequest r (codes "agree") texts options
unfolding agree_of
agree_fits [] options r e = absurd cc
agree_fits (name ∷ []) options r e = absurd cc
agree_fits (name ∷ other ∷ []) options r e =
    let w = with_fits [] options (Some (Agree name other)) r e in
    subst (λ (x : Request). IsRequest x (codes "agree") (name ∷ other ∷ []) options) (same_Some (Agree name other) r w.1) (refl, refl, w.0)
agree_fits (name ∷ other ∷ third ∷ more) options r e = absurd cc

serve_fits : (texts : List (List ℕ)) (options : CommandOptions) (r : Request) → serve_of texts options ≡ Some r → IsRequest r (codes "serve") texts options
unfolding serve_of
serve_fits [] options r e = absurd cc
serve_fits (name ∷ []) options r e =
    let w = with_fits serve_names options (serve_asked name options) r e in
    let to = stepped (to_of options) _ r w.1 in
    let live = stepped (live_option options) _ r to.rest in
    let pace = stepped (pace_of options) _ r live.rest in
    let from = stepped (from_of options) _ r pace.rest in
    let until = stepped (until_of options) _ r from.rest in
    subst (λ (x : Request). IsRequest x (codes "serve") (name ∷ []) options) (same_Some (Serve name to.value pace.value from.value until.value live.value) r until.rest) (
      refl,
      refl,
      w.0,
      to_fits options to.value to.is,
      pace_fits options pace.value pace.is,
      from_fits options from.value from.is,
      until_fits options until.value until.is,
      live_option_fits options live.value live.is,
    )
serve_fits (name ∷ other ∷ more) options r e = absurd cc

receive_fits : (texts : List (List ℕ)) (options : CommandOptions) (r : Request) → receive_of texts options ≡ Some r → IsRequest r (codes "receive") texts options
unfolding receive_of
receive_fits texts options r e =
    let w = with_fits reading_names options _ r e in
    let addresses = stepped (addresses_or_none texts) (receive_with options) r w.1 in
    let reading = stepped (reading_of options) _ r addresses.rest in
    let taken : ReadingOptions = reading.value in
    subst (λ (x : Request). IsRequest x (codes "receive") texts options)
    (same_Some (Receive addresses.value taken.packets.window taken.packets.reach taken.packets.first taken.packets.frames taken.idle taken.limit) r reading.rest)
    (refl, addresses_or_none_fit texts addresses.value addresses.is, w.0, reading_fits options taken reading.is)

count_fits : (texts : List (List ℕ)) (options : CommandOptions) (r : Request) → count_of texts options ≡ Some r → IsRequest r (codes "count") texts options
unfolding count_of
count_fits texts options r e =
    let w = with_fits reading_names options _ r e in
    let address = stepped (address_or_none texts) (count_with options) r w.1 in
    let reading = stepped (reading_of options) _ r address.rest in
    let taken : ReadingOptions = reading.value in
    subst (λ (x : Request). IsRequest x (codes "count") texts options)
    (same_Some (Count address.value taken.packets.window taken.packets.reach taken.packets.first taken.packets.frames taken.idle taken.limit) r reading.rest)
    (refl, address_or_none_fits texts address.value address.is, w.0, reading_fits options taken reading.is)

air_fits : (texts : List (List ℕ)) (options : CommandOptions) (r : Request) → air_of texts options ≡ Some r → IsRequest r (codes "air") texts options
unfolding air_of
air_fits [] options r e = absurd cc
air_fits (name ∷ []) options r e = absurd cc
air_fits (name ∷ script ∷ []) options r e =
    let w = with_fits (codes "window" ∷ []) options (air_with name script options) r e in
    let window = stepped (window_of options) _ r w.1 in
    subst (λ (x : Request). IsRequest x (codes "air") (name ∷ script ∷ []) options) (same_Some (Air name script window.value) r window.rest)
    (refl, refl, w.0, window_fits options window.value window.is)
air_fits (name ∷ script ∷ other ∷ more) options r e = absurd cc

convert_fits : (texts : List (List ℕ)) (options : CommandOptions) (r : Request) → convert_of texts options ≡ Some r → IsRequest r (codes "convert") texts options
unfolding convert_of
convert_fits [] options r e = absurd cc
convert_fits (text ∷ []) options r e =
    let w = with_fits packet_names options (convert_with text options) r e in
    let carry = stepped (carry_of text) _ r w.1 in
    let packets = stepped (packets_of options) _ r carry.rest in
    let taken : PacketOptions = packets.value in
    subst (λ (x : Request). IsRequest x (codes "convert") (text ∷ []) options) (same_Some (Convert carry.value taken.window taken.reach taken.first taken.frames) r packets.rest)
    (refl, text, refl, carry_fits text carry.value carry.is, w.0, stretch_fits options taken packets.is)
convert_fits (text ∷ other ∷ more) options r e = absurd cc

exercise_fits : (texts : List (List ℕ)) (options : CommandOptions) (r : Request) → exercise_of texts options ≡ Some r → IsRequest r (codes "exercise") texts options
unfolding exercise_of
exercise_fits [] options r e = absurd cc
exercise_fits (text ∷ []) options r e =
    let w = with_fits [] options (exercise_with text) r e in
    let n = stepped (within 1 1000 text) _ r w.1 in
    subst (λ (x : Request). IsRequest x (codes "exercise") (text ∷ []) options) (same_Some (Exercise n.value) r n.rest)
    (refl, text, refl, within_fits 1 1000 text n.value n.is, w.0)
exercise_fits (text ∷ other ∷ more) options r e = absurd cc

gate_fits : (texts : List (List ℕ)) (options : CommandOptions) (r : Request) → gate_of texts options ≡ Some r → IsRequest r (codes "gate") texts options
unfolding gate_of
gate_fits [] options r e = absurd cc
gate_fits (source ∷ []) options r e = absurd cc
gate_fits (source ∷ target ∷ []) options r e = absurd cc
gate_fits (source ∷ target ∷ text ∷ []) options r e =
    let w = with_fits reading_names options (option_and_then (λ to. gate_with source to text options) (addresses_of target)) r e in
    let to = stepped (addresses_of target) _ r w.1 in
    let from = stepped (address_of source) _ r to.rest in
    let carry = stepped (carry_of text) _ r from.rest in
    let reading = stepped (reading_of options) _ r carry.rest in
    let taken : ReadingOptions = reading.value in
    subst (λ (x : Request). IsRequest x (codes "gate") (source ∷ target ∷ text ∷ []) options)
    (same_Some (Gate from.value to.value carry.value taken.packets.window taken.packets.reach taken.packets.first taken.packets.frames taken.idle taken.limit) r reading.rest) (
      refl,
      source,
      target,
      text,
      refl,
      address_fits source from.value from.is,
      addresses_fit target to.value to.is,
      carry_fits text carry.value carry.is,
      w.0,
      reading_fits options taken reading.is,
    )
gate_fits (source ∷ target ∷ text ∷ other ∷ more) options r e = absurd cc

pack_fits : (texts : List (List ℕ)) (options : CommandOptions) (r : Request) → pack_of texts options ≡ Some r → IsRequest r (codes "pack") texts options
unfolding pack_of
pack_fits [] options r e = absurd cc
pack_fits (first ∷ []) options r e = absurd cc
pack_fits (first ∷ second ∷ []) options r e =
    let w = with_fits [] options (pack_with first second) r e in
    let pid = stepped (within 0 3 first) _ r w.1 in
    let length = stepped (within 1 255 second) _ r pid.rest in
    subst (λ (x : Request). IsRequest x (codes "pack") (first ∷ second ∷ []) options) (same_Some (Pack pid.value length.value) r length.rest)
    (refl, first, second, refl, within_fits 0 3 first pid.value pid.is, within_fits 1 255 second length.value length.is, w.0)
pack_fits (first ∷ second ∷ other ∷ more) options r e = absurd cc

unpack_fits : (texts : List (List ℕ)) (options : CommandOptions) (r : Request) → unpack_of texts options ≡ Some r → IsRequest r (codes "unpack") texts options
unfolding unpack_of
unpack_fits [] options r e = absurd cc
unpack_fits (a ∷ []) options r e = absurd cc
unpack_fits (a ∷ b ∷ []) options r e = absurd cc
unpack_fits (a ∷ b ∷ c ∷ []) options r e =
    let w = with_fits packet_names options (unpack_with a b c options) r e in
    let stream = stepped (within 0 3 a) _ r w.1 in
    let pid = stepped (within 0 3 b) _ r stream.rest in
    let length = stepped (within 1 255 c) _ r pid.rest in
    let packets = stepped (packets_of options) _ r length.rest in
    let taken : PacketOptions = packets.value in
    subst (λ (x : Request). IsRequest x (codes "unpack") (a ∷ b ∷ c ∷ []) options)
    (same_Some (Unpack stream.value pid.value length.value taken.window taken.reach taken.first taken.frames) r packets.rest) (
      refl,
      a,
      b,
      c,
      refl,
      within_fits 0 3 a stream.value stream.is,
      within_fits 0 3 b pid.value pid.is,
      within_fits 1 255 c length.value length.is,
      w.0,
      stretch_fits options taken packets.is,
    )
unpack_fits (a ∷ b ∷ c ∷ other ∷ more) options r e = absurd cc

texts_fits : (texts : List (List ℕ)) (options : CommandOptions) (r : Request) → texts_of texts options ≡ Some r → IsRequest r (codes "texts") texts options
unfolding texts_of
texts_fits [] options r e = absurd cc
texts_fits (text ∷ []) options r e =
    let w = with_fits packet_names options (texts_with text options) r e in
    let stream = stepped (within 0 3 text) _ r w.1 in
    let packets = stepped (packets_of options) _ r stream.rest in
    let taken : PacketOptions = packets.value in
    subst (λ (x : Request). IsRequest x (codes "texts") (text ∷ []) options)
    (same_Some (Texts stream.value taken.window taken.reach taken.first taken.frames) r packets.rest)
    (refl, text, refl, within_fits 0 3 text stream.value stream.is, w.0, stretch_fits options taken packets.is)
texts_fits (text ∷ other ∷ more) options r e = absurd cc

-- a command, or another one
chosen : (command name : List ℕ) (t : Bool) (taken other : Option Request) (r : Request) (P : Type 0) → t ≡ bytes_eq command name → (name ≡ command → taken ≡ Some r → P) → (other ≡ Some r → P) → cond t taken other ≡ Some r → P
chosen command name true taken other r P is f g e = f (sym ((bytes_eq-Decides command name).0 (sym is))) e
chosen command name false taken other r P is f g e = g e

pub request_fits : (command : List ℕ) (texts : List (List ℕ)) (options : CommandOptions) (r : Request) → request_of command texts options ≡ Some r → IsRequest r command texts options
unfolding request_of
request_fits command texts options r e =
    let P : Type 0 = IsRequest r command texts options in
    let at : (name : List ℕ) → name ≡ command → IsRequest r name texts options → P = λ name same row. subst (λ (x : List ℕ). IsRequest r x texts options) same row in
    chosen command (codes "fac") _ _ _ r P refl (λ same f. at (codes "fac") same (fac_fits texts options r f)) (λ e.
    chosen command (codes "check") _ _ _ r P refl (λ same f. at (codes "check") same (check_fits texts options r f)) (λ e.
    chosen command (codes "capacity") _ _ _ r P refl (λ same f. at (codes "capacity") same (capacity_fits texts options r f)) (λ e.
    chosen command (codes "agree") _ _ _ r P refl (λ same f. at (codes "agree") same (agree_fits texts options r f)) (λ e.
    chosen command (codes "serve") _ _ _ r P refl (λ same f. at (codes "serve") same (serve_fits texts options r f)) (λ e.
    chosen command (codes "receive") _ _ _ r P refl (λ same f. at (codes "receive") same (receive_fits texts options r f)) (λ e.
    chosen command (codes "count") _ _ _ r P refl (λ same f. at (codes "count") same (count_fits texts options r f)) (λ e.
    chosen command (codes "air") _ _ _ r P refl (λ same f. at (codes "air") same (air_fits texts options r f)) (λ e.
    chosen command (codes "show") _ _ _ r P refl (λ same f. at (codes "show") same (show_fits texts options r f)) (λ e.
    chosen command (codes "convert") _ _ _ r P refl (λ same f. at (codes "convert") same (convert_fits texts options r f)) (λ e.
    chosen command (codes "exercise") _ _ _ r P refl (λ same f. at (codes "exercise") same (exercise_fits texts options r f)) (λ e.
    chosen command (codes "gate") _ _ _ r P refl (λ same f. at (codes "gate") same (gate_fits texts options r f)) (λ e.
    chosen command (codes "pack") _ _ _ r P refl (λ same f. at (codes "pack") same (pack_fits texts options r f)) (λ e.
    chosen command (codes "unpack") _ _ _ r P refl (λ same f. at (codes "unpack") same (unpack_fits texts options r f)) (λ e.
    chosen command (codes "texts") _ _ _ r P refl (λ same f. at (codes "texts") same (texts_fits texts options r f)) (λ e. absurd cc)
    e) e) e) e) e) e) e) e) e) e) e) e) e) e) e

bare_is : (r : Request) (texts : List (List ℕ)) (options : CommandOptions) → texts ≡ [] → options ≡ [] → bare_of r texts options ≡ Some r
bare_is r texts options e f = rw (e, f) refl

check_is : (name : List ℕ) (texts : List (List ℕ)) (options : CommandOptions) → IsRequest (Check name) (codes "check") texts options → check_of texts options ≡ Some (Check name)
unfolding check_of
check_is name texts options h = rw h.1 (with_is [] options (Some (Check name)) h.2)

capacity_is : (name : List ℕ) (texts : List (List ℕ)) (options : CommandOptions) → IsRequest (Capacity name) (codes "capacity") texts options → capacity_of texts options ≡ Some (Capacity name)
unfolding capacity_of
capacity_is name texts options h = rw h.1 (with_is [] options (Some (Capacity name)) h.2)

agree_is : (name other : List ℕ) (texts : List (List ℕ)) (options : CommandOptions) → IsRequest (Agree name other) (codes "agree") texts options → agree_of texts options ≡ Some (Agree name other)
unfolding agree_of
agree_is name other texts options h = rw h.1 (with_is [] options (Some (Agree name other)) h.2)

serve_is : (name : List ℕ) (to : List Address) (pace from : ℕ) (until : Option ℕ) (live : Live) (texts : List (List ℕ)) (options : CommandOptions)
    → IsRequest (Serve name to pace from until live) (codes "serve") texts options → serve_of texts options ≡ Some (Serve name to pace from until live)
unfolding serve_of
serve_is name to pace from until live texts options h =
    rw h.1 (with_is serve_names options (serve_asked name options) h.2
    ∙ rw (to_is options to h.3, live_option_is options live h.7, pace_is options pace h.4, from_is options from h.5, until_is options until h.6) refl)

receive_is : (addresses : Option (List Address)) (window reach : ℕ) (first frames : Option ℕ) (idle limit : ℕ) (texts : List (List ℕ)) (options : CommandOptions)
    → IsRequest (Receive addresses window reach first frames idle limit) (codes "receive") texts options → receive_of texts options ≡ Some (Receive addresses window reach first frames idle limit)
unfolding receive_of
receive_is addresses window reach first frames idle limit texts options h =
    with_is reading_names options _ h.2 ∙ rw (addresses_or_none_are texts addresses h.1, reading_is options (asked_reading window reach first frames idle limit) h.3) refl

count_is : (address : Option Address) (window reach : ℕ) (first frames : Option ℕ) (idle limit : ℕ) (texts : List (List ℕ)) (options : CommandOptions)
    → IsRequest (Count address window reach first frames idle limit) (codes "count") texts options → count_of texts options ≡ Some (Count address window reach first frames idle limit)
unfolding count_of
count_is address window reach first frames idle limit texts options h =
    with_is reading_names options _ h.2 ∙ rw (address_or_none_is texts address h.1, reading_is options (asked_reading window reach first frames idle limit) h.3) refl

air_is : (name script : List ℕ) (window : ℕ) (texts : List (List ℕ)) (options : CommandOptions) → IsRequest (Air name script window) (codes "air") texts options → air_of texts options ≡ Some (Air name script window)
unfolding air_of
air_is name script window texts options h =
    rw h.1 (with_is (codes "window" ∷ []) options (air_with name script options) h.2 ∙ rw (window_is options window h.3) refl)

convert_is : (carry : Carry) (window reach : ℕ) (first frames : Option ℕ) (texts : List (List ℕ)) (options : CommandOptions)
    → IsRequest (Convert carry window reach first frames) (codes "convert") texts options → convert_of texts options ≡ Some (Convert carry window reach first frames)
unfolding convert_of
convert_is carry window reach first frames texts options h =
    rw h.2 (with_is packet_names options (convert_with h.1 options) h.4 ∙ rw (carry_is h.1 carry h.3, stretch_is options (asked_packets window reach first frames) h.5) refl)

exercise_is : (n : ℕ) (texts : List (List ℕ)) (options : CommandOptions) → IsRequest (Exercise n) (codes "exercise") texts options → exercise_of texts options ≡ Some (Exercise n)
unfolding exercise_of
exercise_is n texts options h = rw h.2 (with_is [] options (exercise_with h.1) h.4 ∙ rw (within_is 1 1000 h.1 n h.3) refl)

gate_is : (from : Address) (to : List Address) (carry : Carry) (window reach : ℕ) (first frames : Option ℕ) (idle limit : ℕ) (texts : List (List ℕ)) (options : CommandOptions)
    → IsRequest (Gate from to carry window reach first frames idle limit) (codes "gate") texts options → gate_of texts options ≡ Some (Gate from to carry window reach first frames idle limit)
unfolding gate_of
gate_is from to carry window reach first frames idle limit texts options h =
    rw h.4 (with_is reading_names options (option_and_then (λ to. gate_with h.1 to h.3 options) (addresses_of h.2)) h.8
    ∙ rw (addresses_are h.2 to h.6, address_is h.1 from h.5, carry_is h.3 carry h.7, reading_is options (asked_reading window reach first frames idle limit) h.9) refl)

pack_is : (pid length : ℕ) (texts : List (List ℕ)) (options : CommandOptions) → IsRequest (Pack pid length) (codes "pack") texts options → pack_of texts options ≡ Some (Pack pid length)
unfolding pack_of
pack_is pid length texts options h =
    rw h.3 (with_is [] options (pack_with h.1 h.2) h.6 ∙ rw (within_is 0 3 h.1 pid h.4, within_is 1 255 h.2 length h.5) refl)

unpack_is : (stream pid length window reach : ℕ) (first frames : Option ℕ) (texts : List (List ℕ)) (options : CommandOptions)
    → IsRequest (Unpack stream pid length window reach first frames) (codes "unpack") texts options → unpack_of texts options ≡ Some (Unpack stream pid length window reach first frames)
unfolding unpack_of
unpack_is stream pid length window reach first frames texts options h =
    rw h.4 (with_is packet_names options (unpack_with h.1 h.2 h.3 options) h.8
    ∙ rw (within_is 0 3 h.1 stream h.5, within_is 0 3 h.2 pid h.6, within_is 1 255 h.3 length h.7, stretch_is options (asked_packets window reach first frames) h.9) refl)

texts_is : (stream window reach : ℕ) (first frames : Option ℕ) (texts : List (List ℕ)) (options : CommandOptions)
    → IsRequest (Texts stream window reach first frames) (codes "texts") texts options → texts_of texts options ≡ Some (Texts stream window reach first frames)
unfolding texts_of
texts_is stream window reach first frames texts options h =
    rw h.2 (with_is packet_names options (texts_with h.1 options) h.4 ∙ rw (within_is 0 3 h.1 stream h.3, stretch_is options (asked_packets window reach first frames) h.5) refl)

pub request_is : (r : Request) (command : List ℕ) (texts : List (List ℕ)) (options : CommandOptions) → IsRequest r command texts options → request_of command texts options ≡ Some r
unfolding request_of
request_is Fac command texts options h = rw h.0 (bare_is Fac texts options h.1 (none_of options h.2))
request_is (Check name) command texts options h = rw h.0 (check_is name texts options (refl, h.1, h.2))
request_is (Capacity name) command texts options h = rw h.0 (capacity_is name texts options (refl, h.1, h.2))
request_is (Agree name other) command texts options h = rw h.0 (agree_is name other texts options (refl, h.1, h.2))
request_is (Serve name to pace from until live) command texts options h =
    rw h.0 (serve_is name to pace from until live texts options (refl, h.1, h.2, h.3, h.4, h.5, h.6, h.7))
request_is (Receive addresses window reach first frames idle limit) command texts options h =
    rw h.0 (receive_is addresses window reach first frames idle limit texts options (refl, h.1, h.2, h.3))
request_is (Count address window reach first frames idle limit) command texts options h =
    rw h.0 (count_is address window reach first frames idle limit texts options (refl, h.1, h.2, h.3))
request_is (Air name script window) command texts options h = rw h.0 (air_is name script window texts options (refl, h.1, h.2, h.3))
request_is Show command texts options h = rw h.0 (bare_is Show texts options h.1 (none_of options h.2))
request_is (Convert carry window reach first frames) command texts options h =
    rw h.0 (convert_is carry window reach first frames texts options (refl, h.1, h.2, h.3, h.4, h.5))
request_is (Exercise n) command texts options h = rw h.0 (exercise_is n texts options (refl, h.1, h.2, h.3, h.4))
request_is (Gate from to carry window reach first frames idle limit) command texts options h =
    rw h.0 (gate_is from to carry window reach first frames idle limit texts options (refl, h.1, h.2, h.3, h.4, h.5, h.6, h.7, h.8, h.9))
request_is (Pack pid length) command texts options h = rw h.0 (pack_is pid length texts options (refl, h.1, h.2, h.3, h.4, h.5, h.6))
request_is (Unpack stream pid length window reach first frames) command texts options h =
    rw h.0 (unpack_is stream pid length window reach first frames texts options (refl, h.1, h.2, h.3, h.4, h.5, h.6, h.7, h.8, h.9))
request_is (Texts stream window reach first frames) command texts options h =
    rw h.0 (texts_is stream window reach first frames texts options (refl, h.1, h.2, h.3, h.4, h.5))
