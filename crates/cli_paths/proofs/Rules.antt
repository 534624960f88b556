-- What clap looks up in the command.
use Rattle.std.proofs.Common.{◌≡◌, ℕ, List, Bool, true, false, ◌||◌, Some, None, refl, subst, codes}
use Rattle.std.specs.Str.{bytes_eq}
use Rattle.std.proofs.lemmas.Slice.Eq.{bytes_eq-Decides}
use Rattle.clap.specs.Simple.{built, filled, with_index}
use Rattle.clap.specs.Walk.{Rule, Text, arg_by_long, arg_by_id, arg_by_short, arg_by_index}
use Rattle.cli_paths.specs.Command.{paths, option_rule, addresses_rule}
use Rattle.cli_paths.specs.Uses.{is_known, plain}

unfoldable pub rules : List Rule
rules = (built paths).top.rules

abbrev pub option_full : Text → Rule
option_full name = filled (option_rule name)

abbrev pub addresses_full : Rule
addresses_full = with_index 1 (filled addresses_rule)

pub short_none : (x : ℕ) → arg_by_short rules x ≡ None
unfolding rules
short_none x = refl

pub first_plain : arg_by_index rules 1 ≡ Some addresses_full
unfolding rules
first_plain = refl

pub second_plain : arg_by_index rules 2 ≡ None
unfolding rules
second_plain = refl

pub plain_id : arg_by_id rules plain ≡ Some addresses_full
unfolding rules
plain_id = refl

-- an option is found by its name, and by its id
abbrev Found : Text → Type 0
Found name = (arg_by_long rules name ≡ Some (option_full name)) × (arg_by_id rules name ≡ Some (option_full name))

found_window : Found (codes "window")
unfolding rules
found_window = (refl, refl)

found_reach : Found (codes "reach")
unfolding rules
found_reach = (refl, refl)

found_first : Found (codes "first")
unfolding rules
found_first = (refl, refl)

found_frames : Found (codes "frames")
unfolding rules
found_frames = (refl, refl)

found_idle : Found (codes "idle")
unfolding rules
found_idle = (refl, refl)

found_limit : Found (codes "limit")
unfolding rules
found_limit = (refl, refl)

named : (known name : Text) → bytes_eq known name ≡ true → Found known → Found name
named known name e h = subst Found ((bytes_eq-Decides known name).0 e) h

pub known_found : (name : Text) → is_known name ≡ true → Found name
known_found name h = by_window (bytes_eq (codes "window") name) refl h
  where
    by_limit : (b : Bool) → bytes_eq (codes "limit") name ≡ b → (b || false) ≡ true → Found name
    by_limit true e h = named (codes "limit") name e found_limit
    by_limit false e h = absurd cc

    by_idle : (b : Bool) → bytes_eq (codes "idle") name ≡ b → (b || (bytes_eq (codes "limit") name || false)) ≡ true → Found name
    by_idle true e h = named (codes "idle") name e found_idle
    by_idle false e h = by_limit (bytes_eq (codes "limit") name) refl h

    by_frames : (b : Bool) → bytes_eq (codes "frames") name ≡ b → (b || (bytes_eq (codes "idle") name || (bytes_eq (codes "limit") name || false))) ≡ true → Found name
    by_frames true e h = named (codes "frames") name e found_frames
    by_frames false e h = by_idle (bytes_eq (codes "idle") name) refl h

    by_first : (b : Bool) → bytes_eq (codes "first") name ≡ b → (b || (bytes_eq (codes "frames") name || (bytes_eq (codes "idle") name || (bytes_eq (codes "limit") name || false)))) ≡ true → Found name
    by_first true e h = named (codes "first") name e found_first
    by_first false e h = by_frames (bytes_eq (codes "frames") name) refl h

    by_reach : (b : Bool) → bytes_eq (codes "reach") name ≡ b
        → (b || (bytes_eq (codes "first") name || (bytes_eq (codes "frames") name || (bytes_eq (codes "idle") name || (bytes_eq (codes "limit") name || false))))) ≡ true → Found name
    by_reach true e h = named (codes "reach") name e found_reach
    by_reach false e h = by_first (bytes_eq (codes "first") name) refl h

    by_window : (b : Bool) → bytes_eq (codes "window") name ≡ b
        → (b || (bytes_eq (codes "reach") name || (bytes_eq (codes "first") name || (bytes_eq (codes "frames") name || (bytes_eq (codes "idle") name || (bytes_eq (codes "limit") name || false)))))) ≡ true → Found name
    by_window true e h = named (codes "window") name e found_window
    by_window false e h = by_reach (bytes_eq (codes "reach") name) refl h

or_parts : (a b : Bool) → (a || b) ≡ false → (a ≡ false) × (b ≡ false)
or_parts false false e = (refl, refl)
or_parts true b e = absurd cc
or_parts false true e = absurd cc

pub unknown : (name : Text) → is_known name ≡ false → arg_by_long rules name ≡ None
unfolding rules
unknown name h =
    let a = or_parts (bytes_eq (codes "window") name) _ h in
    let g = or_parts (bytes_eq (codes "reach") name) _ a.1 in
    let b = or_parts (bytes_eq (codes "first") name) _ g.1 in
    let c = or_parts (bytes_eq (codes "frames") name) _ b.1 in
    let d = or_parts (bytes_eq (codes "idle") name) _ c.1 in
    let f = or_parts (bytes_eq (codes "limit") name) _ d.1 in
    rw (a.0, g.0, b.0) (rw (c.0, d.0, f.0) refl)
