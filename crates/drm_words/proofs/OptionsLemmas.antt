-- What the options tell, as it is read and as the table has it.
use Rattle.std.proofs.Common.{◌≡◌, ◌⊎◌, inl, inr, ℕ, Bool, true, false, cond, ◌||◌, ◌&&◌, List, [], ◌∷◌, Option, Some, None, refl, ap, subst, sym, ◌∙◌}
use Rattle.std.specs.Prelude.{codes, option_map, is_none}
use Rattle.std.specs.Str.{bytes_eq}
use Rattle.std.proofs.lemmas.Option.{same_Some}
use Rattle.std.proofs.lemmas.Slice.Eq.{bytes_eq-Decides}
use Rattle.drm_links.specs.declared.dock.Address.{Address}
use Rattle.drm_words.specs.declared.request.Request.{Request}
use Rattle.drm_words.specs.declared.options.PacketOptions.{PacketOptions}
use Rattle.drm_words.specs.declared.options.ReadingOptions.{ReadingOptions}
use Rattle.cli_syntax.specs.Reading.{within}
use Rattle.cli_syntax.specs.Addressing.{address_of, addresses_of}
use Rattle.drm_words.specs.Table.{CommandOptions, value_of, IsOneOf, AreOf, IsNumberOr, IsNumberOrNone, AreAddressesOrEmpty, AreStreamsOrEmpty, AreAddressesOrNone, IsAddressOrNone, IsStretch, IsReading}
use Rattle.drm_words.specs.Asking.{is_one_of, are_of, number_or, number_or_none, addresses_or_empty, live_or_empty, addresses_or_none, address_or_none, with_options, window_of, reach_of, first_of, frames_of, packets_of, reading_of, idle_of, limit_of, pace_of, from_of, until_of, to_of, live_option}
use Rattle.cli_syntax.proofs.OptionLemmas.{mapped, stepped}
use Rattle.cli_syntax.proofs.NumberLemmas.{within_fits, within_is}
use Rattle.cli_syntax.proofs.AddressLemmas.{address_fits, address_is, addresses_fit, addresses_are}
use Rattle.cli_syntax.proofs.StreamLemmas.{live_fits, live_is}
use Rattle.drm_schedule.specs.declared.live.Live.{Live}
use Rattle.drm_schedule.specs.Live as live

pub number_or_fits : (default least greatest : ℕ) (value : Option (List ℕ)) (n : ℕ) → number_or default least greatest value ≡ Some n → IsNumberOr default least greatest value n
number_or_fits default least greatest None n e = sym (same_Some default n e)
number_or_fits default least greatest (Some text) n e = within_fits least greatest text n e

pub number_or_is : (default least greatest : ℕ) (value : Option (List ℕ)) (n : ℕ) → IsNumberOr default least greatest value n → number_or default least greatest value ≡ Some n
number_or_is default least greatest None n h = ap Some (sym h)
number_or_is default least greatest (Some text) n h = within_is least greatest text n h

pub number_or_none_fits : (least greatest : ℕ) (value : Option (List ℕ)) (n : Option ℕ) → number_or_none least greatest value ≡ Some n → IsNumberOrNone least greatest value n
number_or_none_fits least greatest None n e = sym (same_Some None n e)
number_or_none_fits least greatest (Some text) n e =
    let p = mapped (within least greatest text) Some n e in
    (p.value, sym p.rest, within_fits least greatest text p.value p.is)

pub number_or_none_is : (least greatest : ℕ) (value : Option (List ℕ)) (n : Option ℕ) → IsNumberOrNone least greatest value n → number_or_none least greatest value ≡ Some n
number_or_none_is least greatest None n h = ap Some (sym h)
number_or_none_is least greatest (Some text) n h = ap (option_map Some) (within_is least greatest text h.0 h.2) ∙ ap Some (sym h.1)

pub addresses_or_empty_fit : (value : Option (List ℕ)) (addresses : List Address) → addresses_or_empty value ≡ Some addresses → AreAddressesOrEmpty value addresses
addresses_or_empty_fit None addresses e = sym (same_Some [] addresses e)
addresses_or_empty_fit (Some text) addresses e = addresses_fit text addresses e

pub addresses_or_empty_are : (value : Option (List ℕ)) (addresses : List Address) → AreAddressesOrEmpty value addresses → addresses_or_empty value ≡ Some addresses
addresses_or_empty_are None addresses h = ap Some (sym h)
addresses_or_empty_are (Some text) addresses h = addresses_are text addresses h

pub live_or_empty_fits : (value : Option (List ℕ)) (streams : Live) → live_or_empty value ≡ Some streams → AreStreamsOrEmpty value streams
live_or_empty_fits None streams e = sym (same_Some live.none streams e)
live_or_empty_fits (Some text) streams e = live_fits text streams e

pub live_or_empty_is : (value : Option (List ℕ)) (streams : Live) → AreStreamsOrEmpty value streams → live_or_empty value ≡ Some streams
live_or_empty_is None streams h = ap Some (sym h)
live_or_empty_is (Some text) streams h = live_is text streams h

pub addresses_or_none_fit : (texts : List (List ℕ)) (addresses : Option (List Address)) → addresses_or_none texts ≡ Some addresses → AreAddressesOrNone texts addresses
addresses_or_none_fit [] addresses e = sym (same_Some None addresses e)
addresses_or_none_fit (text ∷ []) addresses e =
    let p = mapped (addresses_of text) Some addresses e in
    (p.value, sym p.rest, addresses_fit text p.value p.is)
addresses_or_none_fit (text ∷ other ∷ more) addresses e = absurd cc

pub addresses_or_none_are : (texts : List (List ℕ)) (addresses : Option (List Address)) → AreAddressesOrNone texts addresses → addresses_or_none texts ≡ Some addresses
addresses_or_none_are [] addresses h = ap Some (sym h)
addresses_or_none_are (text ∷ []) addresses h = ap (option_map Some) (addresses_are text h.0 h.2) ∙ ap Some (sym h.1)
addresses_or_none_are (text ∷ other ∷ more) addresses h = absurd h

pub address_or_none_fits : (texts : List (List ℕ)) (address : Option Address) → address_or_none texts ≡ Some address → IsAddressOrNone texts address
address_or_none_fits [] address e = sym (same_Some None address e)
address_or_none_fits (text ∷ []) address e =
    let p = mapped (address_of text) Some address e in
    (p.value, sym p.rest, address_fits text p.value p.is)
address_or_none_fits (text ∷ other ∷ more) address e = absurd cc

pub address_or_none_is : (texts : List (List ℕ)) (address : Option Address) → IsAddressOrNone texts address → address_or_none texts ≡ Some address
address_or_none_is [] address h = ap Some (sym h)
address_or_none_is (text ∷ []) address h = ap (option_map Some) (address_is text h.0 h.2) ∙ ap Some (sym h.1)
address_or_none_is (text ∷ other ∷ more) address h = absurd h

one_by : (name known : List ℕ) (others : List (List ℕ)) (t : Bool) → t ≡ bytes_eq name known → (is_one_of others name ≡ true → IsOneOf others name) → (t || is_one_of others name) ≡ true → (name ≡ known) ⊎ IsOneOf others name
one_by name known others true is later e = inl ((bytes_eq-Decides name known).0 (sym is))
one_by name known others false is later e = inr (later e)

one_fits : (names : List (List ℕ)) (name : List ℕ) → is_one_of names name ≡ true → IsOneOf names name
one_fits [] name e = absurd cc
one_fits (known ∷ others) name e = one_by name known others (bytes_eq name known) refl (λ f. one_fits others name f) e

or_true : (t : Bool) → (t || true) ≡ true
or_true true = refl
or_true false = refl

one_is : (names : List (List ℕ)) (name : List ℕ) → IsOneOf names name → is_one_of names name ≡ true
one_is [] name h = absurd h
one_is (known ∷ others) name h =
    elim h [ inl e ↦ rw ((bytes_eq-Decides name known).1 e) refl | inr k ↦ rw (one_is others name k) (or_true (bytes_eq name known)) ]

none_by : (o : Option (List ℕ)) → is_none o ≡ true → o ≡ None
none_by None e = refl
none_by (Some x) e = absurd cc

both : (a b c : Bool) → (a && b && c) ≡ true → (a ≡ true) × (b ≡ true) × (c ≡ true)
both true true true e = (refl, refl, refl)
both true true false e = absurd cc
both true false c e = absurd cc
both false b c e = absurd cc

pub are_of_fits : (names : List (List ℕ)) (options : CommandOptions) → are_of names options ≡ true → AreOf names options
unfolding are_of
are_of_fits names [] e = tt
are_of_fits names (option ∷ others) e =
    let p = both (is_one_of names option.0) (is_none (value_of option.0 others)) (are_of names others) e in
    (one_fits names option.0 p.0, none_by (value_of option.0 others) p.1, are_of_fits names others p.2)

pub are_of_is : (names : List (List ℕ)) (options : CommandOptions) → AreOf names options → are_of names options ≡ true
unfolding are_of
are_of_is names [] h = refl
are_of_is names (option ∷ others) h = rw (one_is names option.0 h.0, h.1, are_of_is names others h.2) refl

-- options that are given out with a request
with_by : (names : List (List ℕ)) (options : CommandOptions) (t : Bool) (request : Option Request) (r : Request) → t ≡ are_of names options → cond t request None ≡ Some r → AreOf names options × (request ≡ Some r)
with_by names options true request r is e = (are_of_fits names options (sym is), e)
with_by names options false request r is e = absurd cc

pub with_fits : (names : List (List ℕ)) (options : CommandOptions) (request : Option Request) (r : Request) → with_options names options request ≡ Some r → AreOf names options × (request ≡ Some r)
with_fits names options request r e = with_by names options (are_of names options) request r refl e

pub with_is : (names : List (List ℕ)) (options : CommandOptions) (request : Option Request) → AreOf names options → with_options names options request ≡ request
with_is names options request h = rw (are_of_is names options h) refl

pub none_of : (options : CommandOptions) → AreOf [] options → options ≡ []
none_of [] h = refl
none_of (option ∷ others) h = absurd h.0

-- each option by itself
module _ (options : CommandOptions) where
  pub window_fits : (n : ℕ) → window_of options ≡ Some n → IsNumberOr 8 1 64 (value_of (codes "window") options) n
  unfolding window_of
  window_fits n e = number_or_fits 8 1 64 (value_of (codes "window") options) n e

  pub window_is : (n : ℕ) → IsNumberOr 8 1 64 (value_of (codes "window") options) n → window_of options ≡ Some n
  unfolding window_of
  window_is n h = number_or_is 8 1 64 (value_of (codes "window") options) n h

  pub reach_fits : (n : ℕ) → reach_of options ≡ Some n → IsNumberOr 32767 1 32767 (value_of (codes "reach") options) n
  unfolding reach_of
  reach_fits n e = number_or_fits 32767 1 32767 (value_of (codes "reach") options) n e

  pub reach_is : (n : ℕ) → IsNumberOr 32767 1 32767 (value_of (codes "reach") options) n → reach_of options ≡ Some n
  unfolding reach_of
  reach_is n h = number_or_is 32767 1 32767 (value_of (codes "reach") options) n h

  pub first_fits : (n : Option ℕ) → first_of options ≡ Some n → IsNumberOrNone 0 65535 (value_of (codes "first") options) n
  unfolding first_of
  first_fits n e = number_or_none_fits 0 65535 (value_of (codes "first") options) n e

  pub first_is : (n : Option ℕ) → IsNumberOrNone 0 65535 (value_of (codes "first") options) n → first_of options ≡ Some n
  unfolding first_of
  first_is n h = number_or_none_is 0 65535 (value_of (codes "first") options) n h

  pub frames_fit : (n : Option ℕ) → frames_of options ≡ Some n → IsNumberOrNone 1 3000000 (value_of (codes "frames") options) n
  unfolding frames_of
  frames_fit n e = number_or_none_fits 1 3000000 (value_of (codes "frames") options) n e

  pub frames_are : (n : Option ℕ) → IsNumberOrNone 1 3000000 (value_of (codes "frames") options) n → frames_of options ≡ Some n
  unfolding frames_of
  frames_are n h = number_or_none_is 1 3000000 (value_of (codes "frames") options) n h

  pub idle_fits : (n : ℕ) → idle_of options ≡ Some n → IsNumberOr 50 1 1000000 (value_of (codes "idle") options) n
  unfolding idle_of
  idle_fits n e = number_or_fits 50 1 1000000 (value_of (codes "idle") options) n e

  pub idle_is : (n : ℕ) → IsNumberOr 50 1 1000000 (value_of (codes "idle") options) n → idle_of options ≡ Some n
  unfolding idle_of
  idle_is n h = number_or_is 50 1 1000000 (value_of (codes "idle") options) n h

  pub limit_fits : (n : ℕ) → limit_of options ≡ Some n → IsNumberOr 4294967295 1 4294967295 (value_of (codes "limit") options) n
  unfolding limit_of
  limit_fits n e = number_or_fits 4294967295 1 4294967295 (value_of (codes "limit") options) n e

  pub limit_is : (n : ℕ) → IsNumberOr 4294967295 1 4294967295 (value_of (codes "limit") options) n → limit_of options ≡ Some n
  unfolding limit_of
  limit_is n h = number_or_is 4294967295 1 4294967295 (value_of (codes "limit") options) n h

  pub stretch_fits : (s : PacketOptions) → packets_of options ≡ Some s → IsStretch options s.window s.reach s.first s.frames
  unfolding packets_of
  stretch_fits s e =
      let window = stepped (window_of options) _ s e in
      let reach = stepped (reach_of options) _ s window.rest in
      let first = stepped (first_of options) _ s reach.rest in
      let frames = stepped (frames_of options) _ s first.rest in
      subst (λ (x : PacketOptions). IsStretch options x.window x.reach x.first x.frames) (same_Some _ s frames.rest)
      (record { has_window = window_fits window.value window.is; has_reach = reach_fits reach.value reach.is; has_first = first_fits first.value first.is; has_frames = frames_fit frames.value frames.is })

  pub stretch_is : (s : PacketOptions) → IsStretch options s.window s.reach s.first s.frames → packets_of options ≡ Some s
  unfolding packets_of
  stretch_is s h = rw (window_is s.window h.has_window, reach_is s.reach h.has_reach, first_is s.first h.has_first, frames_are s.frames h.has_frames) refl

  pub reading_fits : (r : ReadingOptions) → reading_of options ≡ Some r → IsReading options r.packets.window r.packets.reach r.packets.first r.packets.frames r.idle r.limit
  unfolding reading_of
  reading_fits r e =
      let packets = stepped (packets_of options) _ r e in
      let idle = stepped (idle_of options) _ r packets.rest in
      let limit = stepped (limit_of options) _ r idle.rest in
      subst (λ (x : ReadingOptions). IsReading options x.packets.window x.packets.reach x.packets.first x.packets.frames x.idle x.limit)
      (same_Some (record { packets = packets.value; idle = idle.value; limit = limit.value }) r limit.rest)
      (record { packets = stretch_fits packets.value packets.is; has_idle = idle_fits idle.value idle.is; has_limit = limit_fits limit.value limit.is })

  pub reading_is : (r : ReadingOptions) → IsReading options r.packets.window r.packets.reach r.packets.first r.packets.frames r.idle r.limit → reading_of options ≡ Some r
  unfolding reading_of
  reading_is r h = rw (stretch_is r.packets h.packets, idle_is r.idle h.has_idle, limit_is r.limit h.has_limit) refl

  pub pace_fits : (n : ℕ) → pace_of options ≡ Some n → IsNumberOr 0 0 10000 (value_of (codes "pace") options) n
  unfolding pace_of
  pace_fits n e = number_or_fits 0 0 10000 (value_of (codes "pace") options) n e

  pub pace_is : (n : ℕ) → IsNumberOr 0 0 10000 (value_of (codes "pace") options) n → pace_of options ≡ Some n
  unfolding pace_of
  pace_is n h = number_or_is 0 0 10000 (value_of (codes "pace") options) n h

  pub from_fits : (n : ℕ) → from_of options ≡ Some n → IsNumberOr 0 0 1000000 (value_of (codes "from") options) n
  unfolding from_of
  from_fits n e = number_or_fits 0 0 1000000 (value_of (codes "from") options) n e

  pub from_is : (n : ℕ) → IsNumberOr 0 0 1000000 (value_of (codes "from") options) n → from_of options ≡ Some n
  unfolding from_of
  from_is n h = number_or_is 0 0 1000000 (value_of (codes "from") options) n h

  pub until_fits : (n : Option ℕ) → until_of options ≡ Some n → IsNumberOrNone 0 1000000 (value_of (codes "until") options) n
  unfolding until_of
  until_fits n e = number_or_none_fits 0 1000000 (value_of (codes "until") options) n e

  pub until_is : (n : Option ℕ) → IsNumberOrNone 0 1000000 (value_of (codes "until") options) n → until_of options ≡ Some n
  unfolding until_of
  until_is n h = number_or_none_is 0 1000000 (value_of (codes "until") options) n h

  pub to_fits : (at : List Address) → to_of options ≡ Some at → AreAddressesOrEmpty (value_of (codes "to") options) at
  unfolding to_of
  to_fits at e = addresses_or_empty_fit (value_of (codes "to") options) at e

  pub to_is : (at : List Address) → AreAddressesOrEmpty (value_of (codes "to") options) at → to_of options ≡ Some at
  unfolding to_of
  to_is at h = addresses_or_empty_are (value_of (codes "to") options) at h

  pub live_option_fits : (streams : Live) → live_option options ≡ Some streams → AreStreamsOrEmpty (value_of (codes "live") options) streams
  unfolding live_option
  live_option_fits streams e = live_or_empty_fits (value_of (codes "live") options) streams e

  pub live_option_is : (streams : Live) → AreStreamsOrEmpty (value_of (codes "live") options) streams → live_option options ≡ Some streams
  unfolding live_option
  live_option_is streams h = live_or_empty_is (value_of (codes "live") options) streams h
