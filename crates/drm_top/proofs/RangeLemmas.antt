-- The numbers of a request that was read are in their ranges.
use Rattle.std.proofs.Common.{◌≡◌, ◌≤◌, ℕ, List, [], ◌∷◌, Option, None, Some, IfSome, sym, subst, arith}
use Rattle.drm_links.specs.declared.dock.Address.{Address}
use Rattle.drm_words.specs.declared.request.Request.{Request}
use Rattle.drm_words.specs.declared.request.Request.TheVariants.{Check, Capacity, Agree, Serve, Receive, Count, Air, Exercise, Convert, Gate, Pack, Unpack, Texts}
use Rattle.drm_words.specs.Table.{CommandOptions, IsNumberOr, IsNumberOrNone, IsStretch, IsReading, AreAddressesOrNone, AreAddressesOrEmpty, HasTextNames}
use Rattle.drm_words.specs.Line.{IsLine}
use Rattle.recv_reading.specs.declared.options.ReceiveOptions.{ReceiveOptions}
use Rattle.dcp_pft.specs.declared.carry.Carry.{Carry}
use Rattle.dcp_pft.specs.declared.carry.Carry.TheVariants.{Plain, Pft}
use Rattle.dcp_pft.specs.Carrying.{CarryFits}
use Rattle.cli_syntax.specs.Carries.{IsCarry}
use Rattle.drm_links.specs.Dock.{AreDifferent}
use Rattle.drm_links.specs.Listed.{AreListed}
use Rattle.recv_reading.specs.Options.{AreInRange, IsWithinLimits}
use Rattle.recv_reading.specs.Values.{receive_options, packet_range}
use Rattle.drm_top.specs.Words.{IsRequestInRange}

within : (default least greatest n : ℕ) (value : Option (List ℕ)) → least ≤ default → default ≤ greatest → IsNumberOr default least greatest value n → (least ≤ n) × (n ≤ greatest)
within default least greatest n None low high is = (omega (arith, is, low), omega (arith, is, high))
within default least greatest n (Some text) low high is = (is.1, is.2)

within_or_none : (least greatest : ℕ) (value : Option (List ℕ)) (n : Option ℕ) → IsNumberOrNone least greatest value n → IfSome n (λ k. least ≤ k) × IfSome n (λ k. k ≤ greatest)
within_or_none least greatest None n is = subst (λ o. IfSome o (λ k. least ≤ k) × IfSome o (λ k. k ≤ greatest)) (sym is) (tt, tt)
within_or_none least greatest (Some text) n (number, is, within) =
    subst (λ o. IfSome o (λ k. least ≤ k) × IfSome o (λ k. k ≤ greatest)) (sym is) (within.1, within.2)

listed : (texts : List (List ℕ)) (addresses : List Address) → AreAddressesOrNone texts (Some addresses) → AreListed addresses
listed [] addresses is = cc
listed (text ∷ []) addresses (list, is, are) =
    let same : addresses ≡ list = cc in
    subst AreListed (sym same) (record { some = are.some; few = are.few; different = are.different })
listed (text ∷ other ∷ texts) addresses is = absurd is

in_reading : (options : CommandOptions) (rules : ReceiveOptions) → IsReading options rules.window rules.reach rules.first rules.frames rules.idle rules.limit → AreInRange rules
in_reading options rules reading =
    let window = within 8 1 64 rules.window _ (omega arith) (omega arith) reading.packets.has_window in
    let reach = within 32767 1 32767 rules.reach _ (omega arith) (omega arith) reading.packets.has_reach in
    let frames = within_or_none 1 3000000 _ rules.frames reading.packets.has_frames in
    let idle = within 50 1 1000000 rules.idle _ (omega arith) (omega arith) reading.has_idle in
    let limit = within 4294967295 1 4294967295 rules.limit _ (omega arith) (omega arith) reading.has_limit in
    let less : rules.limit ≤ 4294967295 = limit.1 in
    record {
      some_window = window.0;
      few_packets = window.1;
      some_reach = reach.0;
      near_reach = reach.1;
      some_frames = frames.0;
      few_frames = frames.1;
      some_idles = idle.0;
      few_idles = idle.1;
      some_datagrams = limit.0;
      few_datagrams = omega (arith, less);
    }

reads : (words : List (List ℕ)) (addresses : Option (List Address)) (window reach : ℕ) (first frames : Option ℕ) (idle limit : ℕ) → IsLine words (Receive addresses window reach first frames idle limit)
    → AreInRange (receive_options window reach first frames idle limit)
reads words addresses window reach first frames idle limit line = let asks = line.asks in in_reading _ (receive_options window reach first frames idle limit) asks.3

different : (value : Option (List ℕ)) (to : List Address) → AreAddressesOrEmpty value to → AreDifferent to
different None to none = subst AreDifferent (sym none) tt
different (Some text) to are = are.different

carry_fits : (text : List ℕ) (carry : Carry) → IsCarry text carry → CarryFits carry
carry_fits text Plain is = tt
carry_fits text (Pft m mtu) is = (is.m_is.2, is.mtu_is.1, is.mtu_is.2)

both : (frames : Option ℕ) → IfSome frames (λ n. 1 ≤ n) → IfSome frames (λ n. n ≤ 3000000) → IfSome frames (λ n. (1 ≤ n) × (n ≤ 3000000))
both None some few = tt
both (Some n) some few = (some, few)

in_stretch : (options : CommandOptions) (window reach : ℕ) (first frames : Option ℕ) → IsStretch options window reach first frames → IsWithinLimits (packet_range window reach first frames)
in_stretch options window reach first frames packets =
    let size = within 8 1 64 window _ (omega arith) (omega arith) packets.has_window in
    let some = within_or_none 1 3000000 _ frames packets.has_frames in
    (size.0, size.1, both frames some.0 some.1)

pub in_range : (request : Request) (words : List (List ℕ)) → IsLine words request → HasTextNames request → IsRequestInRange request
in_range (Check name) words line text = text
in_range (Capacity name) words line text = text
in_range (Agree name other) words line text = text
in_range (Serve name to pace from until live) words line text =
    (text, different _ to line.asks.3)
in_range (Receive (Some addresses) window reach first frames idle limit) words line text =
    (reads words (Some addresses) window reach first frames idle limit line, let asks = line.asks in listed _ addresses asks.1)
in_range (Receive None window reach first frames idle limit) words line text = reads words None window reach first frames idle limit line
in_range (Count address window reach first frames idle limit) words line text = let asks = line.asks in in_reading _ (receive_options window reach first frames idle limit) asks.3
in_range (Air name script window) words line text =
    let range = within 8 1 64 window _ (omega arith) (omega arith) line.asks.3 in
    (text.0, text.1, range.0, range.1)
in_range (Exercise n) words line text = (line.asks.3.1, line.asks.3.2)
in_range (Convert carry window reach first frames) words line text = (carry_fits line.asks.1 carry line.asks.3, in_stretch _ window reach first frames line.asks.5)
in_range (Gate from to carry window reach first frames idle limit) words line text =
    let are = line.asks.6 in (
      carry_fits line.asks.3 carry line.asks.7,
      in_reading _ (receive_options window reach first frames idle limit) line.asks.9,
      record { some = are.some; few = are.few; different = are.different },
    )
in_range (Pack pid length) words line text = (let few = line.asks.4.2 in omega (arith, few), line.asks.5.1)
in_range (Unpack stream pid length window reach first frames) words line text = (
  let few = line.asks.5.2 in omega (arith, few),
  let few = line.asks.6.2 in omega (arith, few),
  line.asks.7.1,
  in_stretch _ window reach first frames line.asks.9,
)
in_range (Texts stream window reach first frames) words line text = (let few = line.asks.3.2 in omega (arith, few), in_stretch _ window reach first frames line.asks.5)
in_range _ words line text = tt
